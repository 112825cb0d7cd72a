-- The summary of a log: how many lines of each kind it has, in one line.
use Rattle.std.specs.Prelude.{ℕ, Bool, true, false, is_none, List, ◌++◌, count_by, codes, decimal}
use Rattle.dts_capture.specs.declared.action.Action.{Action}
use Rattle.dts_capture.specs.declared.action.Action.TheVariants as action
use Rattle.dts_capture.specs.declared.action.NoteKind.{NoteKind}
use Rattle.dts_capture.specs.declared.action.NoteKind.TheVariants as note
use Rattle.sync_rules.specs.History.{History, Begun, Then, given_at}
use Rattle.event_drill.specs.declared.counts.Counts.{Counts}
use Rattle.event_drill.specs.Made.{made_history}

-- the actions of all positions of a history, in order; each gives one line of the log
abbrev pub actions_in : History → List Action
actions_in (Begun settings start) = given_at (Begun settings start)
actions_in (Then before event actions) = actions_in before ++ actions

abbrev pub is_record : Action → Bool
is_record (action.Publish rec) = true
is_record _ = false

-- the action notes something of this kind
abbrev pub notes : (NoteKind → Bool) → Action → Bool
notes is_kind (action.Log n) = is_kind n.kind
notes is_kind _ = false

abbrev pub is_step : NoteKind → Bool
is_step (note.Step step old new) = true
is_step _ = false

abbrev pub is_reading : NoteKind → Bool
is_reading (note.Reading value inaccuracy step number) = true
is_reading _ = false

abbrev pub is_unspecified : NoteKind → Bool
is_unspecified (note.Reading value inaccuracy step number) = is_none inaccuracy
is_unspecified _ = false

abbrev pub is_adopted : NoteKind → Bool
is_adopted (note.Adopted n lo hi) = true
is_adopted _ = false

abbrev pub is_split : NoteKind → Bool
is_split (note.Split n) = true
is_split _ = false

abbrev pub is_short : NoteKind → Bool
is_short (note.Short answered required) = true
is_short _ = false

abbrev pub is_false : NoteKind → Bool
is_false (note.False source) = true
is_false _ = false

-- how many of the actions are of each kind
abbrev pub counts_of : List Action → Counts
counts_of actions = record {
  records = count_by is_record actions;
  steps = count_by (notes is_step) actions;
  readings = count_by (notes is_reading) actions;
  unspecified = count_by (notes is_unspecified) actions;
  adopted = count_by (notes is_adopted) actions;
  split = count_by (notes is_split) actions;
  short = count_by (notes is_short) actions;
  false_sources = count_by (notes is_false) actions;
}

-- a name and a number in decimal, each behind a space
abbrev pub named : List ℕ → ℕ → List ℕ
named name number = codes " " ++ name ++ codes " " ++ decimal number

-- the line of the counts, with its line feed
abbrev pub summary_text : ℕ → ℕ → Counts → List ℕ
summary_text seed events counts =
    codes "drill" ++ named (codes "seed") seed ++ named (codes "events") events
    ++ named (codes "records") counts.records ++ named (codes "steps") counts.steps
    ++ named (codes "readings") counts.readings ++ named (codes "unspecified") counts.unspecified
    ++ named (codes "adopted") counts.adopted ++ named (codes "split") counts.split
    ++ named (codes "short") counts.short ++ named (codes "false") counts.false_sources ++ codes "\n"

-- what a drill writes
abbrev pub drill_text : ℕ → ℕ → List ℕ
drill_text seed events = summary_text seed events (counts_of (actions_in (made_history seed events)))
