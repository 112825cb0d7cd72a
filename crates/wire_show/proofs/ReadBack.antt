-- Octets in hex spell these octets.
use Rattle.std.proofs.Common.{◌≡◌, ℕ, suc, ◌+◌, ◌*◌, ◌/◌, ◌%◌, ◌<◌, ◌≤◌, true, List, [], ◌∷◌, length, Some, Ok, refl, ap, ◌∙◌, arith}
use Rattle.std.specs.Prelude.{nat_lt, slice_index}
use Rattle.std.proofs.lemmas.Bool.Decides.{nat_tests}
use Rattle.hex.specs.Hex.{IsBytes, lower_digits, encode_with, encode_lower}
use Rattle.hex.proofs.HexLemmas.{IsDigits-lower_digits}
use Rattle.ndr.specs.Reading.{after}
use Rattle.pdu_fields.specs.declared.header.TheConstants.{MAX_FRAGMENT}
use Rattle.wire_show.specs.declared.end.Shown.{Shown}
use Rattle.wire_show.specs.Fields.{Part}
use Rattle.wire_show.specs.Input.{octet_of, pair_at, octets_in, octets_from}
use Rattle.wire_show.specs.Output.{parts_as}
use Rattle.wire_show.specs.Laws.{joined}
use Rattle.wire_show.proofs.Joined.{parts_joined}
use Rattle.wire_show.proofs.Pairs.{right_pair}

hex_reads_back : (at : ℕ) (octets : List ℕ) → IsBytes octets → at + length octets ≤ MAX_FRAGMENT → octets_from at (encode_lower octets) ≡ Ok octets
unfolding octets_from encode_with
hex_reads_back at [] h room = refl
hex_reads_back at (b ∷ rest) h room =
    let fits : b < 256 = h 0 in
    let high : b / 16 < 16 = omega arith in
    let low : b % 16 < 16 = omega arith in
    let whole : b / 16 * 16 + b % 16 ≡ b = omega arith in
    let octet : octet_of (slice_index lower_digits (b / 16)) (slice_index lower_digits (b % 16)) ≡ Some (b / 16 * 16 + b % 16) = rw (IsDigits-lower_digits (b / 16) high, IsDigits-lower_digits (b % 16) low) refl in
    let few : nat_lt at MAX_FRAGMENT ≡ true = grind (arith, nat_tests) in
    let pair : pair_at at (slice_index lower_digits (b / 16)) (slice_index lower_digits (b % 16)) ≡ Some b = rw few (octet ∙ ap Some whole) in
    right_pair at (slice_index lower_digits (b / 16)) (slice_index lower_digits (b % 16)) b (encode_lower rest) pair
    ∙ ap (λ r. after r (λ octets. Ok (b ∷ octets))) (hex_reads_back (at + 1) rest (λ k. h (suc k)) (omega (arith, room)))

pub parts_read_back : (kind : Shown) (octets : List ℕ) (parts : List Part) → IsBytes octets → length octets ≤ MAX_FRAGMENT → parts_as kind octets ≡ Ok parts → octets_in (encode_lower (joined parts)) ≡ Ok octets
parts_read_back kind octets parts bytes few e =
    ap (λ os. octets_in (encode_lower os)) (parts_joined kind octets parts e) ∙ hex_reads_back 0 octets bytes (omega (arith, few))
