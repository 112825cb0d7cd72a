-- The line and the octets ahead, by their places in the buffer.
use Rattle.std.proofs.Common.{◌≡◌, ℕ, ◌+◌, ◌-◌, ◌≤◌, List, ◌++◌, Bool, take, drop, sym, ap, ◌∙◌, arith, add_assoc}
use Rattle.std.specs.Prelude.{slice_range}
use Rattle.std.proofs.lemmas.List.{take-take, drop-take, drop-drop}
use Rattle.std.proofs.Math.Seq.{take-add}
use Rattle.line_reader.specs.Reader.{Reader}

-- the first of the octets between two places
range_front : (xs : List ℕ) (from to n : ℕ) → n ≤ to - from → slice_range xs from (from + n) ≡ take n (slice_range xs from to)
range_front xs from to n le =
    let e : (from + n) - from ≡ n = omega arith in
    ap (λ k. take k (drop from xs)) e ∙ sym (take-take n (to - from) (drop from xs) le)

-- the octets behind them
range_back : (xs : List ℕ) (from to n : ℕ) → n ≤ to - from → slice_range xs (from + n) to ≡ drop n (slice_range xs from to)
range_back xs from to n le =
    let e : to - from ≡ n + (to - (from + n)) = omega arith in
    ap (take (to - (from + n))) (sym (drop-drop n from xs)) ∙ sym (drop-take n (to - (from + n)) (drop from xs)) ∙ ap (λ k. drop n (take k (drop from xs))) (sym e)

-- some octets are taken as the line, and those behind it and its line feed are ahead
pub takes_octets : (xs : List ℕ) (from to n feeds : ℕ) (ended : Bool) → n + feeds ≤ to - from
    → (let new : Reader = record { line = slice_range xs from (from + n); ahead = slice_range xs (from + n + feeds) to; ended = ended } in
    let is : Reader = record { line = take n (slice_range xs from to); ahead = drop (n + feeds) (slice_range xs from to); ended = ended } in new ≡ is)
takes_octets xs from to n feeds ended le =
    let front = range_front xs from to n (omega arith) in
    let back = ap (λ k. slice_range xs k to) (add_assoc from n feeds) ∙ range_back xs from to (n + feeds) le in
    cc

-- octets that were read behind those that are ahead
pub reads_behind : (ahead buffer : List ℕ) (to n : ℕ) → take to buffer ≡ ahead → take (to + n) buffer ≡ ahead ++ take n (drop to buffer)
reads_behind ahead buffer to n is = take-add to n buffer ∙ ap (λ x. x ++ take n (drop to buffer)) is
