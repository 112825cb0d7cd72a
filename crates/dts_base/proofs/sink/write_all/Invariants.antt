use Rattle.std.proofs.Common.{◌≡◌, ℕ, ◌++◌, List, length}
use Rattle.dts_base.specs.Told.{Told}
use Rattle.dts_base.proofs.sink.write_all.Given as goal

-- a part of the piece was appended, and the rest is left
abbrev pub Appended : List ℕ → List ℕ → List ℕ → List ℕ → Type 0
Appended piece rest old new = (part : List ℕ) × (piece ≡ part ++ rest) × (new ≡ old ++ part)

abbrev pub invariant-loop-rest : goal.invariant-loop-rest
invariant-loop-rest g l = record {
  told : Told (g.S.Sink.written l.fn.sink) (g.S.Sink.written l.sink) (Appended l.fn.piece l.rest);
  kept : g.S.Sink.faults l.sink ≡ g.S.Sink.faults l.fn.sink;
}

abbrev pub decreases-loop-rest : goal.decreases-loop-rest
decreases-loop-rest g l = length l.rest
