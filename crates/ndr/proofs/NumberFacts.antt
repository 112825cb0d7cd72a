-- Octets of numbers, and gaps.
use Rattle.std.proofs.Common.{◌≡◌, ℕ, ◌+◌, ◌<◌, ◌≤◌, ◌^◌, List, ◌++◌, length, take, replicate, sym, ap, ◌∙◌, arith}
use Rattle.std.proofs.lemmas.List.{length-append, length-replicate, take-append-le, take-replicate}
use Rattle.std.proofs.Math.Seq.{take-length}
use Rattle.byteorder.specs.Numbers.{length-bytes_high_first, length-bytes_low_first, big_number-reads_back, little_number-reads_back}
use Rattle.ndr.specs.declared.endian.Endian.{Endian}
use Rattle.ndr.specs.declared.endian.Endian.TheVariants.{Big, Little}
use Rattle.ndr.specs.Numbers.{number_octets, number_in, IsSize}

pub length-number_octets : (e : Endian) (size n : ℕ) → length (number_octets e size n) ≡ size
length-number_octets Big size n = length-bytes_high_first size n
length-number_octets Little size n = length-bytes_low_first 0 size n

-- what was written reads back
pub number_in-number_octets : (e : Endian) (size n : ℕ) (rest : List ℕ) → n < 256 ^ size → number_in e size (number_octets e size n ++ rest) ≡ n
number_in-number_octets Big size n rest h = big_number-reads_back size n rest h
number_in-number_octets Little size n rest h = little_number-reads_back size n rest h

-- the front of a list, up to where its first part ends
pub take-front : (front rest : List ℕ) (n : ℕ) → length front ≡ n → take n (front ++ rest) ≡ front
take-front front rest n e = ap (λ k. take k (front ++ rest)) (sym e) ∙ take-append-le (length front) front rest (omega arith) ∙ take-length front

-- zeros in front of the octets of a number
pub take-padded : (e : Endian) (room g size n : ℕ) (rest : List ℕ) → g ≤ room → take (g + size) (take g (replicate room 0) ++ number_octets e size n ++ rest) ≡ replicate g 0 ++ number_octets e size n
take-padded e room g size n rest h =
    let zero : ℕ = 0 in
    rw (take-replicate {X = ℕ} g room zero h)
    (take-front (replicate g 0 ++ number_octets e size n) rest (g + size) (length-append (replicate g 0) (number_octets e size n) ∙ ap (λ k. k + length (number_octets e size n)) (length-replicate g 0) ∙ ap (λ k. g + k) (length-number_octets e size n)))

-- no number has more than eight octets
pub size_bound : (size : ℕ) → IsSize size → size ≤ 8
size_bound size h = grind arith

-- three numbers of four octets, put one behind the other
pub take-three : (e : Endian) (room g a b c : ℕ) (one two three r1 r2 r3 : List ℕ) → g ≤ room → one ≡ take g (replicate room 0) ++ number_octets e 4 a ++ r1 → two ≡ take (g + 4) one ++ number_octets e 4 b ++ r2 → three ≡ take (g + 8) two ++ number_octets e 4 c ++ r3 → take (g + 12) three ≡ replicate g 0 ++ number_octets e 4 a ++ number_octets e 4 b ++ number_octets e 4 c
take-three e room g a b c one two three r1 r2 r3 h is1 is2 is3 =
    let first : take (g + 4) one ≡ replicate g 0 ++ number_octets e 4 a = ap (take (g + 4)) is1 ∙ take-padded e room g 4 a r1 h in
    let length1 : length (replicate g 0 ++ number_octets e 4 a) ≡ g + 4 = length-append (replicate g 0) (number_octets e 4 a) ∙ ap (λ k. k + length (number_octets e 4 a)) (length-replicate g 0) ∙ ap (λ k. g + k) (length-number_octets e 4 a) in
    let front2 = replicate g 0 ++ number_octets e 4 a ++ number_octets e 4 b in
    let length2 : length front2 ≡ g + 8 = omega (arith, length-append (replicate g 0 ++ number_octets e 4 a) (number_octets e 4 b), length1, length-number_octets e 4 b) in
    let second : take (g + 8) two ≡ front2 = ap (take (g + 8)) (is2 ∙ ap (λ f. f ++ number_octets e 4 b ++ r2) first) ∙ take-front front2 r2 (g + 8) length2 in
    let front3 = front2 ++ number_octets e 4 c in
    let length3 : length front3 ≡ g + 12 = omega (arith, length-append front2 (number_octets e 4 c), length2, length-number_octets e 4 c) in
    ap (take (g + 12)) (is3 ∙ ap (λ f. f ++ number_octets e 4 c ++ r3) second) ∙ take-front front3 r3 (g + 12) length3
