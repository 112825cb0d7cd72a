-- How the fragments of a message are made one by one.
use Rattle.std.proofs.Common.{◌≡◌, ℕ, Bool, true, false, suc, ◌+◌, ◌-◌, ◌/◌, ◌<◌, ◌≤◌, List, [], ◌∷◌, ◌++◌, append_assoc, length, take, drop, sym, ap, ◌∙◌, arith, length-drop, add-one}
use Rattle.std.proofs.Math.Nat.{div-eq_of_lt, add-div_right}
use Rattle.pdu_fields.specs.declared.pdu.Pdu.{Pdu}
use Rattle.rpc_session.specs.declared.fragments.Message.{Message}
use Rattle.rpc_session.specs.Fragments.{flags_of, fragment, fragments, full_fragments}

full_step : (size : ℕ) (xs : List ℕ) → 0 < size → size < length xs → full_fragments size xs ≡ suc (full_fragments size (drop size xs))
full_step size xs some more =
    let left = length xs - size - 1 in
    let at : length xs - 1 ≡ left + size = omega (arith, more) in
    let rest : left ≡ length (drop size xs) - 1 = ap (λ n. n - 1) (sym (length-drop size xs)) in
    ap (λ n. n / size) at ∙ add-div_right left some ∙ add-one (left / size) ∙ ap (λ n. suc (n / size)) rest

full_none : (size : ℕ) (xs : List ℕ) → 0 < size → length xs ≤ size → full_fragments size xs ≡ 0
full_none size xs some few = div-eq_of_lt (omega (arith, some, few))

-- more than one fragment has: it comes, and then those of what is left
pub fragments_step : (m : Message) (size : ℕ) (first : Bool) (xs : List ℕ) → 0 < size → size < length xs
    → fragments m size first (full_fragments size xs) xs
    ≡ fragment m (flags_of first false) (length xs) (take size xs) ∷ fragments m size false (full_fragments size (drop size xs))
    (drop size xs)
fragments_step m size first xs some more = ap (λ k. fragments m size first k xs) (full_step size xs some more)

-- what one fragment has is the last one
pub fragments_last : (m : Message) (size : ℕ) (first : Bool) (xs : List ℕ) → 0 < size → length xs ≤ size
    → fragments m size first (full_fragments size xs) xs ≡ fragment m (flags_of first true) (length xs) xs ∷ []
fragments_last m size first xs some few = ap (λ k. fragments m size first k xs) (full_none size xs some few)

-- a fragment was made, and those of what is left are to be made
pub one_made : (m : Message) (size : ℕ) (first : Bool) (xs : List ℕ) (sent next : List Pdu) (part : Pdu) (all : List Pdu) → 0 < size
    → size < length xs
    → sent ++ fragments m size first (full_fragments size xs) xs ≡ all → next ≡ sent ++ part ∷ []
    → part ≡ fragment m (flags_of first false) (length xs) (take size xs)
    → next ++ fragments m size false (full_fragments size (drop size xs)) (drop size xs) ≡ all
one_made m size first xs sent next part all some more made pushed is =
    let others = fragments m size false (full_fragments size (drop size xs)) (drop size xs) in
    ap (λ ys. ys ++ others) pushed ∙ append_assoc sent (part ∷ []) others ∙ ap (λ p. sent ++ (p ∷ others)) is
    ∙ ap (λ ys. sent ++ ys) (sym (fragments_step m size first xs some more)) ∙ made

-- the last fragment was made
pub last_made : (m : Message) (size : ℕ) (first : Bool) (xs : List ℕ) (sent next : List Pdu) (part : Pdu) (all : List Pdu) → 0 < size
    → length xs ≤ size
    → sent ++ fragments m size first (full_fragments size xs) xs ≡ all → next ≡ sent ++ part ∷ []
    → part ≡ fragment m (flags_of first true) (length xs) xs → next ≡ all
last_made m size first xs sent next part all some few made pushed is =
    pushed ∙ ap (λ p. sent ++ (p ∷ [])) is ∙ ap (λ ys. sent ++ ys) (sym (fragments_last m size first xs some few)) ∙ made
