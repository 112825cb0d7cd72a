-- Actions, as the steps of a node name them.
use Rattle.std.specs.Prelude.{ℕ, None}
use Rattle.dts_capture.specs.declared.action.Action.{Action}
use Rattle.dts_capture.specs.declared.action.Action.TheVariants as action
use Rattle.dts_capture.specs.declared.action.NoteKind.{NoteKind}

-- a note on an event without a peer
abbrev pub noted_at : ℕ → NoteKind → Action
noted_at osc kind = action.Log (record { osc = osc; peer = None; kind = kind })
