use Rattle.std.proofs.Common.{◌+◌, ◌++◌, ◌∷◌, [], length, take, replicate, ap, ◌∙◌, arith}
use Rattle.ndr.specs.Numbers.{number_octets}
use Rattle.ndr.proofs.NumberFacts.{take-three}
use Rattle.ndr.proofs.writer.string_piece.Goals as goal

pub returns : goal.returns
returns c =
    let g = c.gap-gap.result in
    let e = c.args.endian in
    let n = length c.args.text.now + 1 in
    let counts = take-three e 16 g n 0 n c.put.new.out c.put-2.new.out c.put-3.new.out _ _ _ (omega arith) c.put.ensures.written c.put-2.ensures.written c.put-3.ensures.written in
    let placed = ap (λ k. replicate k 0 ++ number_octets e 4 n ++ number_octets e 4 0 ++ number_octets e 4 n ++ c.args.text.now ++ 0 ∷ []) c.gap-gap.ensures.gap in
    let front = c.in_ok-extend_from_slice.ensures.items ∙ ap (λ xs. xs ++ take (g + 12) c.put-3.new.out) c.new-piece.ensures.items ∙ counts in
    let middle = c.in_ok-extend_from_slice-2.ensures.items ∙ ap (λ xs. xs ++ c.args.text.now) front in
    record { octets = c.in_ok-push.ensures.items ∙ ap (λ xs. xs ++ 0 ∷ []) middle ∙ placed }
