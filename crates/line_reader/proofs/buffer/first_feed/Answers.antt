use Rattle.std.proofs.Common.{◌≡◌, ℕ, zero, suc, ◌+◌, ◌<◌, List, [], ◌∷◌, ◌++◌, length, take, drop, get_or, sym, ap, ◌∙◌, subst, arith, eq-eqb, add-one, drop-cons, length-drop}
use Rattle.std.proofs.lemmas.Bool.{eqb-true}
use Rattle.std.proofs.lemmas.List.{take-append-drop, get_or-drop}
use Rattle.std.proofs.Math.Seq.{take-add}
use Rattle.dts_base.proofs.SliceFacts.{rest_from}
use Rattle.line_reader.specs.Lines.{IsLine}
use Rattle.line_reader.specs.Steps.{HasFeedAt}
use Rattle.line_reader.proofs.LineFacts.{IsLine-append}
use Rattle.line_reader.proofs.buffer.first_feed.Goals as goal

-- octets before the first line feed
is_line-take : (xs : List ℕ) (n : ℕ) → ((k : ℕ) → k < n → get_or xs k 0 ≡ 10 → ⊥) → IsLine (take n xs)
is_line-take xs zero none = tt
is_line-take [] (suc n) none = tt
is_line-take (x ∷ xs) (suc n) none = (none 0 (omega arith), is_line-take xs n (λ k lt e. none (suc k) (omega arith) e))

is_line : (xs : List ℕ) → ((k : ℕ) → k < length xs → get_or xs k 0 ≡ 10 → ⊥) → IsLine xs
is_line [] none = tt
is_line (x ∷ xs) none = (none 0 (omega arith), is_line xs (λ k lt e. none (suc k) (omega arith) e))

-- octets whose first ones were searched before
in_two : (xs : List ℕ) (n : ℕ) → IsLine (take n xs) → IsLine (drop n xs) → IsLine xs
in_two xs n is is' = subst IsLine (take-append-drop n xs) (IsLine-append (take n xs) (drop n xs) is is')

-- octets up to a line feed behind those that were searched
up_to : (xs : List ℕ) (n at : ℕ) → IsLine (take n xs) → IsLine (take at (drop n xs)) → IsLine (take (n + at) xs)
up_to xs n at is is' = subst IsLine (sym (take-add n at xs)) (IsLine-append (take n xs) (take at (drop n xs)) is is')

-- a line feed at a place
feed_at : (xs : List ℕ) (n at : ℕ) → IsLine (take n xs) → at < length (drop n xs) → IsLine (take at (drop n xs)) → get_or (drop n xs) at 0 ≡ 10 → HasFeedAt xs (n + at)
feed_at xs n at is lt is' feed =
    let within : n + at < length xs = omega (arith, length-drop n xs) in
    record {
      within = within;
      is_line = up_to xs n at is is';
      all = sym (take-append-drop (n + at) xs) ∙ ap (λ r. take (n + at) xs ++ r) (drop-cons xs (n + at) 0 within ∙ ap (λ y. y ∷ drop (suc (n + at)) xs) (sym (get_or-drop n xs at 0) ∙ feed)
          ∙ ap (λ k. 10 ∷ drop k xs) (sym (add-one (n + at))));
    }

pub returns-in_err-behind : goal.returns-in_err-behind
returns-in_err-behind c =
    let octets = c.args.octets.now in
    let n = c.args.searched in
    let none : IsLine (drop n octets) = subst IsLine (rest_from n octets) (is_line _ (λ k lt e. c.in_err-behind.ensures k (omega arith) lt (eq-eqb _ _ e))) in
    rw c.from_residual.ensures (in_two octets n c.requires.none none)

pub returns : goal.returns
returns c =
    let octets = c.args.octets.now in
    let n = c.args.searched in
    let at = c.in_ok-behind.behind in
    let found = c.in_ok-behind.ensures in
    let rest = rest_from n octets in
    feed_at octets n at c.requires.none (subst (λ x. at < length x) rest found.0.high)
    (subst (λ x. IsLine (take at x)) rest (is_line-take _ at (λ k lt e. found.0.before k (omega arith) lt (eq-eqb _ _ e))))
    (subst (λ x. get_or x at 0 ≡ 10) rest (eqb-true _ _ found.1))
