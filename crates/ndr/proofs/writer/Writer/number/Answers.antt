use Rattle.std.proofs.Common.{◌≡◌, ℕ, ◌+◌, ◌++◌, List, length, take, replicate, ap, ◌∙◌, subst, arith}
use Rattle.ndr.specs.Numbers.{aligned_octets, number_octets, gap}
use Rattle.ndr.specs.Writing.{Appends, Draft}
use Rattle.ndr.proofs.NumberFacts.{take-padded, size_bound}
use Rattle.ndr.proofs.writer.Writer.number.Goals as goal

pub returns : goal.returns
returns c =
    let g = c.gap-gap.result in
    let size = c.args.size in
    let n = c.args.number in
    let small = size_bound size c.requires.size in
    let front = ap (take (g + size)) c.put.ensures.written ∙ take-padded c.self.inside.endian 16 g size n _ (omega arith) in
    let all : c.len.result ≡ length c.self.inside.octets.items = omega (arith, c.self.inside.octets.ok.0, c.len.ensures) in
    let place = c.gap-gap.ensures.gap ∙ ap (gap size) all in
    let piece = front ∙ ap (λ k. replicate k 0 ++ number_octets c.self.inside.endian size n) place ∙ ap (λ (d : Draft). aligned_octets d.endian size (length d.octets) n) c.self.view_is in
    record { number = subst (λ (p : List ℕ). Appends p c.args.self.now c.append.new.self c.append.result) piece c.append.ensures.appended }
