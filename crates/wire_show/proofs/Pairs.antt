-- The octets of pairs of digits, one behind the other.
use Rattle.std.proofs.Common.{◌≡◌, inl, inr, false, ℕ, ◌+◌, ◌<◌, ◌≤◌, List, [], ◌∷◌, ◌++◌, length, drop, Some, None, Result, Ok, Err, refl, sym, ap, ◌∙◌, append_assoc, arith, length-append}
use Rattle.std.specs.Prelude.{slice_index, ◌==◌}
use Rattle.dts_base.specs.declared.wire.Refused.{Refused}
use Rattle.ndr.specs.Reading.{after}
use Rattle.std.proofs.lemmas.Bool.{cases_lt}
use Rattle.std.proofs.lemmas.List.{append-nil}
use Rattle.pdu_fields.specs.declared.header.TheConstants.{MAX_FRAGMENT}
use Rattle.wire_show.specs.Input.{pair_at, with_octet, refused_at, octets_from}
use Rattle.wire_show.specs.Showing.{behind_front}
use Rattle.wire_show.proofs.Prefix.{none_more}

pub no_front : (r : Result (List ℕ) Refused) → r ≡ behind_front [] r
no_front (Ok others) = refl
no_front (Err refused) = refl

front_more : (front : List ℕ) (octet : ℕ) (r : Result (List ℕ) Refused) → behind_front front (after r (λ octets. Ok (octet ∷ octets))) ≡ behind_front (front ++ octet ∷ []) r
front_more front octet (Ok others) = ap Ok (sym (append_assoc front (octet ∷ []) others))
front_more front octet (Err refused) = refl

-- two octets stand at the front
pub two : (left : List ℕ) → 2 ≤ length left → left ≡ slice_index left 0 ∷ slice_index left 1 ∷ drop 2 left
two [] h = absurd (omega (arith, h))
two (a ∷ []) h = absurd (omega (arith, h))
two (a ∷ b ∷ rest) h = refl

-- a right pair
pub right_pair : (at high low octet : ℕ) (rest : List ℕ) → pair_at at high low ≡ Some octet → octets_from at (high ∷ low ∷ rest) ≡ after (octets_from (at + 1) rest) (λ octets. Ok (octet ∷ octets))
unfolding octets_from
right_pair at high low octet rest e = ap (λ o. with_octet o (octets_from (at + 1) rest) (refused_at at high)) e

pub one_more : (front left : List ℕ) (octet : ℕ) → 2 ≤ length left → pair_at (length front) (slice_index left 0) (slice_index left 1) ≡ Some octet
    → behind_front front (octets_from (length front) left) ≡ behind_front (front ++ octet ∷ []) (octets_from (length front + 1) (drop 2 left))
one_more front left octet h e =
    ap (λ l. behind_front front (octets_from (length front) l)) (two left h)
    ∙ ap (behind_front front) (right_pair (length front) (slice_index left 0) (slice_index left 1) octet (drop 2 left) e)
    ∙ front_more front octet (octets_from (length front + 1) (drop 2 left))

-- a wrong pair
wrong_pair : (at high low : ℕ) (rest : List ℕ) → pair_at at high low ≡ None → octets_from at (high ∷ low ∷ rest) ≡ Err (refused_at at high)
unfolding octets_from
wrong_pair at high low rest e = ap (λ o. with_octet o (octets_from (at + 1) rest) (refused_at at high)) e

pub pair_refused : (front left : List ℕ) → 2 ≤ length left → pair_at (length front) (slice_index left 0) (slice_index left 1) ≡ None
    → behind_front front (octets_from (length front) left) ≡ Err (refused_at (length front) (slice_index left 0))
pair_refused front left h e =
    ap (λ l. behind_front front (octets_from (length front) l)) (two left h)
    ∙ ap (behind_front front) (wrong_pair (length front) (slice_index left 0) (slice_index left 1) (drop 2 left) e)

-- nothing, or a line feed, or another octet
pub ends_with_nothing : (at : ℕ) (left : List ℕ) → length left ≡ 0 → octets_from at left ≡ Ok []
unfolding octets_from
ends_with_nothing at [] h = refl
ends_with_nothing at (a ∷ rest) h = absurd (omega (arith, h))

pub ends_with_octet : (at : ℕ) (left : List ℕ) → length left < 2 → (0 < length left) → left ≡ slice_index left 0 ∷ []
ends_with_octet at [] h some = absurd (omega (arith, some))
ends_with_octet at (a ∷ []) h some = refl
ends_with_octet at (a ∷ b ∷ rest) h some = absurd (omega (arith, h))

-- a right pair stands behind fewer than there may be
pub some_below : (at high low octet : ℕ) → pair_at at high low ≡ Some octet → at < MAX_FRAGMENT
some_below at high low octet e = elim (cases_lt at MAX_FRAGMENT) [
  | inl h ↦ h
  | inr h ↦ absurd (let both = sym (none_more at high low h) ∙ e in cc)
]

pub one_octet : (at : ℕ) (left : List ℕ) (r : Result (List ℕ) Refused) → 0 < length left → length left < 2 → octets_from at (slice_index left 0 ∷ []) ≡ r → octets_from at left ≡ r
one_octet at left r some h e = ap (octets_from at) (ends_with_octet at left h some) ∙ e

pub ends_with_feed : (at : ℕ) (left : List ℕ) → 0 < length left → length left < 2 → slice_index left 0 ≡ 10 → octets_from at left ≡ Ok []
unfolding octets_from
ends_with_feed at left some h e = one_octet at left (Ok []) some h (ap (λ c. octets_from at (c ∷ [])) e)

other_last : (at c : ℕ) → (c == 10) ≡ false → octets_from at (c ∷ []) ≡ Err (refused_at at c)
unfolding octets_from
other_last at c e = rw e refl

pub ends_with_other : (at : ℕ) (left : List ℕ) → 0 < length left → length left < 2 → (slice_index left 0 == 10) ≡ false → octets_from at left ≡ Err (refused_at at (slice_index left 0))
ends_with_other at left some h e = one_octet at left _ some h (other_last at (slice_index left 0) e)

-- all was read
pub all_pairs : (text front left : List ℕ) → octets_from 0 text ≡ behind_front front (octets_from (length front) left) → octets_from (length front) left ≡ Ok [] → octets_from 0 text ≡ Ok front
all_pairs text front left e last = e ∙ ap (behind_front front) last ∙ ap Ok (append-nil front)

-- one more octet was read
pub more_spelled : (text front left next rest : List ℕ) (octet : ℕ) → octets_from 0 text ≡ behind_front front (octets_from (length front) left) → 2 ≤ length left → pair_at (length front) (slice_index left 0) (slice_index left 1) ≡ Some octet
    → next ≡ front ++ octet ∷ [] → rest ≡ drop 2 left → octets_from 0 text ≡ behind_front next (octets_from (length next) rest)
more_spelled text front left next rest octet so h e en er =
    let more : length (front ++ octet ∷ []) ≡ length front + 1 = length-append front (octet ∷ []) in
    so ∙ one_more front left octet h e ∙ rw (en, er, more) refl
