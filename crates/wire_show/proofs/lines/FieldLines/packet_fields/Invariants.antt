use Rattle.std.proofs.Common.{◌≡◌, drop}
use Rattle.wire_show.specs.Output.{sized_fields}
use Rattle.wire_show.specs.Walking.{behind_sized}
use Rattle.wire_show.proofs.lines.FieldLines.packet_fields.Given as goal

abbrev pub invariant-loop-field : goal.invariant-loop-field
invariant-loop-field l = behind_sized (sized_fields (drop l.field-index l.fields)) l.self ≡ behind_sized (sized_fields l.fields) l.fn.self
