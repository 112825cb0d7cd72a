-- A long beginning of an input decides.
use Rattle.std.proofs.Common.{◌≡◌, ℕ, zero, suc, ◌+◌, ◌*◌, ◌≤◌, false, List, [], ◌∷◌, ◌++◌, length, Option, Some, None, Result, Ok, Err, refl, sym, ap, ◌∙◌, arith}
use Rattle.std.specs.Prelude.{nat_lt}
use Rattle.std.proofs.lemmas.Bool.Decides.{nat_tests}
use Rattle.dts_base.specs.declared.wire.Refused.{Refused}
use Rattle.pdu_fields.specs.declared.header.TheConstants.{MAX_FRAGMENT}
use Rattle.wire_show.specs.Input.{pair_at, with_octet, refused_at, octets_from}

-- behind as many pairs as there may be no pair is right
pub none_more : (at high low : ℕ) → MAX_FRAGMENT ≤ at → pair_at at high low ≡ None
none_more at high low h = let test : nat_lt at MAX_FRAGMENT ≡ false = grind (arith, nat_tests) in rw test refl

same_with : (o : Option ℕ) (r s : Result (List ℕ) Refused) (wrong : Refused) → ((octet : ℕ) → o ≡ Some octet → r ≡ s) → with_octet o r wrong ≡ with_octet o s wrong
same_with None r s wrong h = refl
same_with (Some octet) r s wrong h = ap (λ x. with_octet (Some octet) x wrong) (h octet refl)

-- what follows makes no difference
pub decided : (room at : ℕ) (read more : List ℕ) → MAX_FRAGMENT ≤ at + room → 2 * room + 2 ≤ length read → octets_from at (read ++ more) ≡ octets_from at read
unfolding octets_from
decided room at [] more end h = absurd (omega (arith, h))
decided room at (last ∷ []) more end h = absurd (omega (arith, h))
decided zero at (high ∷ low ∷ rest) more end h = rw (none_more at high low (omega (arith, end))) refl
decided (suc room) at (high ∷ low ∷ rest) more end h =
    same_with (pair_at at high low) (octets_from (at + 1) (rest ++ more)) (octets_from (at + 1) rest) (refused_at at high)
    (λ octet e. decided room (at + 1) rest more (omega (arith, end)) (omega (arith, h)))

not_ok : (o : Option ℕ) (r : Result (List ℕ) Refused) (wrong : Refused) → ((octets : List ℕ) → r ≡ Ok octets → ⊥) → (octets : List ℕ) → with_octet o r wrong ≡ Ok octets → ⊥
not_ok None r wrong h octets e = absurd (cc)
not_ok (Some octet) (Ok others) wrong h octets e = h others refl
not_ok (Some octet) (Err refused) wrong h octets e = absurd (cc)

-- and it is refused
pub too_long : (room at : ℕ) (read octets : List ℕ) → MAX_FRAGMENT ≤ at + room → 2 * room + 2 ≤ length read → octets_from at read ≡ Ok octets → ⊥
unfolding octets_from
too_long room at [] octets end h e = omega (arith, h)
too_long room at (last ∷ []) octets end h e = omega (arith, h)
too_long zero at (high ∷ low ∷ rest) octets end h e =
    let none : octets_from at (high ∷ low ∷ rest) ≡ Err (refused_at at high) = ap (λ o. with_octet o (octets_from (at + 1) rest) (refused_at at high)) (none_more at high low (omega (arith, end))) in
    absurd (let both = sym none ∙ e in cc)
too_long (suc room) at (high ∷ low ∷ rest) octets end h e =
    not_ok (pair_at at high low) (octets_from (at + 1) rest) (refused_at at high)
    (λ others is. too_long room (at + 1) rest others (omega (arith, end)) (omega (arith, h)) is) octets e
