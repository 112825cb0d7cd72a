use Rattle.std.proofs.Common.{◌≡◌, ℕ, ◌++◌, List, [], take, drop, refl, sym, ap, ◌∙◌, append_assoc}
use Rattle.std.proofs.lemmas.List.{take-append-drop, append-nil, nil_from_length}
use Rattle.std.proofs.lemmas.Bool.{eqb-true}
use Rattle.std.proofs.lemmas.Result.{err_from_is_err_and}
use Rattle.dts_base.proofs.SliceFacts.{rest_from}
use Rattle.dts_base.proofs.ToldFacts.{Told-same, Told-then, Told-weaker}
use Rattle.dts_base.proofs.sink.write_all.Invariants.{Appended}
use Rattle.dts_base.proofs.sink.write_all.Goals as goal

-- what is left after one more write
appended_more : (piece rest rest' old mid new : List ℕ) (n : ℕ) → rest' ≡ drop n rest → Appended piece rest old mid → new ≡ mid ++ take n rest → Appended piece rest' old new
appended_more piece rest rest' old mid new n r (part, whole, e) w = (
  part ++ take n rest,
  whole ∙ ap (λ x. part ++ x) (sym (take-append-drop n rest) ∙ ap (λ x. take n rest ++ x) (sym r)) ∙ sym (append_assoc part (take n rest) rest'),
  w ∙ ap (λ x. x ++ take n rest) e ∙ append_assoc old part (take n rest),
)

pub returns-in_err-taken-clause-part : goal.returns-in_err-taken-clause-part
returns-in_err-taken-clause-part g c =
    let p = err_from_is_err_and c.from_residual.result c.from_residual.ensures.1 in
    rw p.1 (Told-then _ _ _ _ _ _ c.loop-rest.invariant.told c.in_err-taken.ensures.told
    (λ old mid new h w. (h.0, (c.loop-rest.rest.now, h.1), w ∙ h.2)))

pub returns-clause-whole : goal.returns-clause-whole
returns-clause-whole g c =
    let none = nil_from_length c.loop-rest.rest.now (eqb-true _ _ (sym c.loop-rest-test.ensures)) in
    Told-weaker _ _ _ _ c.loop-rest.invariant.told
    (λ old new h. h.2 ∙ ap (λ x. old ++ x) (sym (h.1 ∙ ap (λ x. h.0 ++ x) none ∙ append-nil h.0)))

pub loop-rest-init : goal.loop-rest-init
loop-rest-init g c = record {
  told = Told-same _ _ (λ x. ([], refl, sym (append-nil x)));
  kept = refl;
}

pub loop-rest-preserved : goal.loop-rest-preserved
loop-rest-preserved g c = record {
  told = Told-then _ _ _ _ _ _ c.loop-rest.invariant.told c.in_ok-taken.ensures.told
      (λ old mid new h w. appended_more _ c.loop-rest.rest.now _ old mid new c.in_ok-taken.taken (rest_from c.in_ok-taken.taken c.loop-rest.rest.now) h w);
  kept = c.in_ok-taken.ensures.cause.kept ∙ c.loop-rest.invariant.kept;
}
