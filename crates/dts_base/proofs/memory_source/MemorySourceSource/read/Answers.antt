use Rattle.std.proofs.Common.{◌≡◌, ℕ, ◌+◌, List, ◌++◌, length, take, drop, refl, sym, ap, ◌∙◌, arith}
use Rattle.std.proofs.lemmas.List.{take-append-drop, drop-drop, nil_from_length}
use Rattle.dts_base.proofs.SliceFacts.{rest_from}
use Rattle.dts_base.proofs.memory_source.MemorySourceSource.read.Goals as goal

-- the octets that were copied stand in front of those that are left
copied_first : (script buf : List ℕ) (at n : ℕ) → take n buf ≡ take n (drop at script) → drop at script ≡ take n buf ++ drop (at + n) script
copied_first script buf at n e = sym (take-append-drop n (drop at script)) ∙ ap (λ x. x ++ drop n (drop at script)) (sym e) ∙ ap (λ x. take n buf ++ x) (drop-drop n at script)

pub returns-clause-told : goal.returns-clause-told
returns-clause-told c =
    let at = c.args.self.now.at in
    let script = c.args.self.now.script.items in
    let left = rest_from at c.deref.result.now ∙ ap (drop at) c.deref.ensures.value in
    let n = c.copy_front-count.result in (
      _,
      refl,
      (
        copied_first script c.copy_front-count.new.buf at n (c.copy_front-count.ensures.copied ∙ ap (take n) left),
        λ z room. nil_from_length (drop at script) (omega (arith, c.copy_front-count.ensures.count, c.copy_front-count.auto.buf, ap length left)),
      ),
    )
