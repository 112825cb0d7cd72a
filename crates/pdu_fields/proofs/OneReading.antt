-- Octets have one reading.
use Rattle.std.proofs.Common.{◌≡◌, ◌⊎◌, inl, inr, ℕ, List, length, Result, Ok, Err, refl, sym, ◌∙◌}
use Rattle.dts_base.specs.declared.wire.Refused.{Refused}
use Rattle.pdu_fields.specs.declared.pdu.Pdu.{Pdu}
use Rattle.pdu_fields.specs.Tables.{reading}
use Rattle.pdu_fields.specs.Grammar.{table_of, Spells, FirstWrong}

either : (r out : Result Pdu Refused) → r ≡ out → ((v : Pdu) × (r ≡ Ok v)) ⊎ ((refused : Refused) × (r ≡ Err refused))
either r (Ok v) is = inl (v, is)
either r (Err refused) is = inr (refused, is)

pub some_reading : (b : List ℕ) → ((v : Pdu) × Spells v b) ⊎ ((refused : Refused) × FirstWrong b refused)
some_reading b = either (reading (table_of (length b)) 0 b) (reading (table_of (length b)) 0 b) refl

pub one_value : (b : List ℕ) (v w : Pdu) → Spells v b → Spells w b → v ≡ w
one_value b v w left right = let both = sym left ∙ right in cc

pub one_refusal : (b : List ℕ) (refused other : Refused) → FirstWrong b refused → FirstWrong b other → refused ≡ other
one_refusal b refused other left right = let both = sym left ∙ right in cc

pub not_both : (b : List ℕ) (v : Pdu) (refused : Refused) → Spells v b → FirstWrong b refused → ⊥
not_both b v refused left right = let both = sym left ∙ right in cc
