use Rattle.std.proofs.Common.{◌≡◌, ◌-◌}
use Rattle.wire_show.specs.Walking.{behind_times}
use Rattle.wire_show.proofs.lines.FieldLines.repeat.Given as goal

abbrev pub invariant-loop-done : goal.invariant-loop-done
invariant-loop-done l = behind_times (l.fn.count - l._done) l.fields l.self ≡ behind_times l.fn.count l.fields l.fn.self
