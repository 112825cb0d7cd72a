-- How counts grow with a log.
use Rattle.std.proofs.Common.{◌≡◌, ℕ, ◌+◌, ◌-◌, ◌^◌, ◌<◌, Bool, cond, List, [], ◌∷◌, ◌++◌, length, sym, ap, ◌∙◌, subst, arith}
use Rattle.std.specs.Prelude.{count_by}
use Rattle.std.proofs.lemmas.List.{length-append}
use Rattle.std.proofs.lemmas.List.Sums.{sum_by-append, count_by-le-length}
use Rattle.dts_capture.specs.declared.action.Action.{Action}
use Rattle.event_drill.specs.declared.counts.Counts.{Counts}
use Rattle.event_drill.specs.Counting.{plus, HasRoom, HasCounted}
use Rattle.event_drill.specs.Summary.{counts_of, is_record, notes, is_step, is_reading, is_unspecified, is_adopted, is_split, is_short, is_false}

both_counted : (p : Action → Bool) (xs ys : List Action) → count_by p xs + count_by p ys ≡ count_by p (xs ++ ys)
both_counted p xs ys = sym (sum_by-append (λ x. cond (p x) 1 0) xs ys)

abbrev of_eight : (r s t u v w x y : ℕ) → Counts
of_eight r s t u v w x y =
    record { records = r; steps = s; readings = t; unspecified = u; adopted = v; split = w; short = x; false_sources = y }

same_counts : {r s t u v w x y r' s' t' u' v' w' x' y' : ℕ} → r ≡ r' → s ≡ s' → t ≡ t' → u ≡ u' → v ≡ v' → w ≡ w' → x ≡ x' → y ≡ y'
    → of_eight r s t u v w x y ≡ of_eight r' s' t' u' v' w' x' y'
same_counts a b c d e f g h = cc

-- the counts of two lists, one after the other
pub counts-append : (xs ys : List Action) → plus (counts_of xs) (counts_of ys) ≡ counts_of (xs ++ ys)
counts-append xs ys = same_counts
    (both_counted is_record xs ys)
    (both_counted (notes is_step) xs ys)
    (both_counted (notes is_reading) xs ys)
    (both_counted (notes is_unspecified) xs ys)
    (both_counted (notes is_adopted) xs ys)
    (both_counted (notes is_split) xs ys)
    (both_counted (notes is_short) xs ys)
    (both_counted (notes is_false) xs ys)

-- the counts of few actions have room for one more
few_have_room : (xs : List Action) → length xs < 2 ^ 64 - 1 → HasRoom (counts_of xs)
few_have_room xs few = record {
  records = omega (arith, few, count_by-le-length is_record xs);
  steps = omega (arith, few, count_by-le-length (notes is_step) xs);
  readings = omega (arith, few, count_by-le-length (notes is_reading) xs);
  unspecified = omega (arith, few, count_by-le-length (notes is_unspecified) xs);
  adopted = omega (arith, few, count_by-le-length (notes is_adopted) xs);
  split = omega (arith, few, count_by-le-length (notes is_split) xs);
  short = omega (arith, few, count_by-le-length (notes is_short) xs);
  false_sources = omega (arith, few, count_by-le-length (notes is_false) xs);
}

-- one action more is counted
pub one_counted : (old new : Counts) (before : List Action) (a : Action) → (HasRoom old → new ≡ plus old (counts_of (a ∷ [])))
    → HasCounted old before → HasCounted new (before ++ a ∷ [])
one_counted old new before a counts are = λ few.
    let fewer : length before < 2 ^ 64 - 1 = omega (arith, few, length-append before (a ∷ [])) in
    let is = are (omega (arith, fewer)) in
    counts (subst HasRoom (sym is) (few_have_room before fewer)) ∙ ap (λ k. plus k (counts_of (a ∷ []))) is ∙ counts-append before (a ∷ [])
