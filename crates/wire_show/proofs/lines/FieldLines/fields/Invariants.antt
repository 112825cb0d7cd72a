use Rattle.std.proofs.Common.{◌≡◌, drop}
use Rattle.wire_show.specs.Walking.{behind_fields}
use Rattle.wire_show.proofs.lines.FieldLines.fields.Given as goal

abbrev pub invariant-loop-name : goal.invariant-loop-name
invariant-loop-name l = behind_fields (drop l.name-index l.fields) l.self ≡ behind_fields l.fields l.fn.self
