-- Lines that are taken one after the other.
use Rattle.std.proofs.Common.{ℕ, ◌<◌, ◌≤◌, List, [], ◌∷◌, ◌++◌, length, refl, sym, ap, ◌∙◌, subst, append_assoc, length-append, arith}
use Rattle.std.proofs.lemmas.List.{append-nil}
use Rattle.line_reader.specs.declared.limits.TheConstants.{MAX_LINE, MAX_LINES}
use Rattle.line_filter.specs.Filters.{Rules, TakesEach, TakesLines}

module _ {State Cause : Type 0} (rules : Rules State Cause) where
  -- one more line
  pub each_more : (from mid next : State) (lines : List (List ℕ)) (line text piece : List ℕ) → TakesEach rules from lines mid text → length line ≤ MAX_LINE → rules.Takes mid line next piece
      → TakesEach rules from (lines ++ line ∷ []) next (text ++ piece)
  each_more from mid next [] line text piece (here, none) short takes =
      (next, piece, [], short, subst (λ (s : State). rules.Takes s line next piece) here takes, (refl, refl), ap (λ x. x ++ piece) none ∙ sym (append-nil piece))
  each_more from mid next (first ∷ lines) line text piece (one, front, rest, few, took, each, all) short takes =
      (one, front, rest ++ piece, few, took, each_more one mid next lines line rest piece each short takes, ap (λ x. x ++ piece) all ∙ append_assoc front rest piece)

  pub no_lines : (from : State) → TakesLines rules from [] from []
  no_lines from = record { few = omega arith; each = (refl, refl) }

  pub lines_more : (from mid next : State) (lines : List (List ℕ)) (line text piece : List ℕ) → TakesLines rules from lines mid text → length lines < MAX_LINES → length line ≤ MAX_LINE → rules.Takes mid line next piece
      → TakesLines rules from (lines ++ line ∷ []) next (text ++ piece)
  lines_more from mid next lines line text piece taken few short takes = record {
    few = omega (arith, length-append lines (line ∷ []));
    each = each_more from mid next lines line text piece taken.each short takes;
  }
