use Rattle.std.proofs.Common.{◌≡◌, vec_len}
use Rattle.dts_program.proofs.sides.Given as goal

abbrev pub invariant-loop : goal.invariant-loop
invariant-loop l = vec_len l.sides ≡ l.counter
