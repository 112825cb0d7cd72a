-- A line asks for one operation at most.
use Rattle.std.proofs.Common.{◌≡◌, ◌⊎◌, inl, inr, ℕ, nat_eq, if◌then◌else◌, List, [], ◌∷◌, map, codes, Result, Ok, refl, sym, ap, subst, ◌∙◌, ℤ, pos}
use Rattle.std.specs.List.{starts_with}
use Rattle.hex.specs.declared.error.FromHexError.{FromHexError}
use Rattle.utc_value.specs.Stamp.{Stamp, IsInRange}
use Rattle.utc_value.specs.Octets.{octets_of}
use Rattle.utc_value.proofs.OctetLaws.{same_octets}
use Rattle.line_reader.proofs.Decimals.{one_number}
use Rattle.utc_text.proofs.TextLaws.{absolute_one_value, relative_one_value, no_text_is_both}
use Rattle.utc_text.specs.Texts.{SpellsAbsolute, SpellsRelative}
use Rattle.utc_calculator.specs.declared.operation.Operation.{Operation}
use Rattle.utc_calculator.specs.declared.operation.Operation.TheVariants as op
use Rattle.utc_calculator.specs.Operations.{Operand, Time, Number, Minutes, Octets, kind_of, word_of, operands_of, Reads, ReadEach, IsOfTimestamp, Spells}
use Rattle.utc_calculator.proofs.Operands.{any}

-- some operation with that word
abbrev form_of : List ℕ → Operation
form_of word =
    if starts_with nat_eq word (codes "add") then op.Add any any
    else if starts_with nat_eq word (codes "sub") then op.Sub any any
    else if starts_with nat_eq word (codes "abs") then op.Abs any
    else if starts_with nat_eq word (codes "mul") then op.Mul any (pos 0)
    else if starts_with nat_eq word (codes "span") then op.Span any any
    else if starts_with nat_eq word (codes "bound") then op.Bound any any
    else if starts_with nat_eq word (codes "tdf") then op.Tdf any (pos 0)
    else if starts_with nat_eq word (codes "interval") then op.Interval any any
    else if starts_with nat_eq word (codes "mid") then op.Mid any any
    else if starts_with nat_eq word (codes "point") then op.Point any
    else if starts_with nat_eq word (codes "bytes") then op.Bytes any
    else op.Text any

-- the first of some operands
abbrev time_in : List Operand → Stamp
time_in (Time a ∷ xs) = a
time_in _ = any

abbrev number_in : List Operand → ℤ
number_in (Number k ∷ xs) = k
number_in _ = pos 0

abbrev minutes_in : List Operand → ℤ
minutes_in (Minutes t ∷ xs) = t
minutes_in _ = pos 0

-- and the others
abbrev behind_first : List Operand → List Operand
behind_first [] = []
behind_first (x ∷ xs) = xs

-- the operation of the same form with those operands, and with that timestamp for octets
abbrev with_operands : Stamp → Operation → List Operand → Operation
with_operands s (op.Add _ _) xs = op.Add (time_in xs) (time_in (behind_first xs))
with_operands s (op.Sub _ _) xs = op.Sub (time_in xs) (time_in (behind_first xs))
with_operands s (op.Abs _) xs = op.Abs (time_in xs)
with_operands s (op.Mul _ _) xs = op.Mul (time_in xs) (number_in (behind_first xs))
with_operands s (op.Span _ _) xs = op.Span (time_in xs) (time_in (behind_first xs))
with_operands s (op.Bound _ _) xs = op.Bound (time_in xs) (time_in (behind_first xs))
with_operands s (op.Tdf _ _) xs = op.Tdf (time_in xs) (minutes_in (behind_first xs))
with_operands s (op.Interval _ _) xs = op.Interval (time_in xs) (time_in (behind_first xs))
with_operands s (op.Mid _ _) xs = op.Mid (time_in xs) (time_in (behind_first xs))
with_operands s (op.Point _) xs = op.Point (time_in xs)
with_operands s (op.Bytes _) xs = op.Bytes (time_in xs)
with_operands s (op.Text _) xs = op.Text s

-- the timestamp whose octets an operation has
abbrev octets_from : Operation → Stamp
octets_from (op.Text a) = a
octets_from _ = any

-- an operation is that of its word and its operands
made_again : (o : Operation) → with_operands (octets_from o) (form_of (word_of o)) (operands_of o) ≡ o
made_again (op.Add a b) = refl
made_again (op.Sub a b) = refl
made_again (op.Abs a) = refl
made_again (op.Mul a k) = refl
made_again (op.Span a b) = refl
made_again (op.Bound a b) = refl
made_again (op.Tdf a t) = refl
made_again (op.Interval a b) = refl
made_again (op.Mid a b) = refl
made_again (op.Point a) = refl
made_again (op.Bytes a) = refl
made_again (op.Text a) = refl

-- and its word tells the kinds of its operands
kinds_again : (o : Operation) → map kind_of (operands_of (form_of (word_of o))) ≡ map kind_of (operands_of o)
kinds_again (op.Add a b) = refl
kinds_again (op.Sub a b) = refl
kinds_again (op.Abs a) = refl
kinds_again (op.Mul a k) = refl
kinds_again (op.Span a b) = refl
kinds_again (op.Bound a b) = refl
kinds_again (op.Tdf a t) = refl
kinds_again (op.Interval a b) = refl
kinds_again (op.Mid a b) = refl
kinds_again (op.Point a) = refl
kinds_again (op.Bytes a) = refl
kinds_again (op.Text a) = refl

pub same_kinds : (o p : Operation) → word_of o ≡ word_of p → map kind_of (operands_of o) ≡ map kind_of (operands_of p)
same_kinds o p e = sym (kinds_again o) ∙ ap (λ (word : List ℕ). map kind_of (operands_of (form_of word))) e ∙ kinds_again p

-- an operation with a word and operands of another
made_of : (o : Operation) (word : List ℕ) (xs : List Operand) → word_of o ≡ word → operands_of o ≡ xs → with_operands (octets_from o) (form_of word) xs ≡ o
made_of o word xs w e = rw (← w, ← e) (made_again o)

-- so the word and the operands are those of one operation
same_operation : (o p : Operation) → word_of o ≡ word_of p → operands_of o ≡ operands_of p → IsOfTimestamp o → IsOfTimestamp p → o ≡ p
same_operation (op.Text a) p w e h k =
    let made : op.Text (octets_from p) ≡ p = made_of p (codes "text") (operands_of (op.Text a)) (sym w) (sym e) in
    let ranges : IsInRange (octets_from p) = subst IsOfTimestamp (sym made) k in
    let given : operands_of (op.Text (octets_from p)) ≡ operands_of (op.Text a) = ap operands_of made ∙ sym e in
    let octets : octets_of (octets_from p) ≡ octets_of a = cc in
    ap (λ (x : Stamp). op.Text x) (sym (same_octets (octets_from p) a ranges h octets)) ∙ made
same_operation (op.Add a b) p w e h k = made_of p (word_of (op.Add a b)) (operands_of (op.Add a b)) (sym w) (sym e)
same_operation (op.Sub a b) p w e h k = made_of p (word_of (op.Sub a b)) (operands_of (op.Sub a b)) (sym w) (sym e)
same_operation (op.Abs a) p w e h k = made_of p (word_of (op.Abs a)) (operands_of (op.Abs a)) (sym w) (sym e)
same_operation (op.Mul a n) p w e h k = made_of p (word_of (op.Mul a n)) (operands_of (op.Mul a n)) (sym w) (sym e)
same_operation (op.Span a b) p w e h k = made_of p (word_of (op.Span a b)) (operands_of (op.Span a b)) (sym w) (sym e)
same_operation (op.Bound a b) p w e h k = made_of p (word_of (op.Bound a b)) (operands_of (op.Bound a b)) (sym w) (sym e)
same_operation (op.Tdf a t) p w e h k = made_of p (word_of (op.Tdf a t)) (operands_of (op.Tdf a t)) (sym w) (sym e)
same_operation (op.Interval a b) p w e h k = made_of p (word_of (op.Interval a b)) (operands_of (op.Interval a b)) (sym w) (sym e)
same_operation (op.Mid a b) p w e h k = made_of p (word_of (op.Mid a b)) (operands_of (op.Mid a b)) (sym w) (sym e)
same_operation (op.Point a) p w e h k = made_of p (word_of (op.Point a)) (operands_of (op.Point a)) (sym w) (sym e)
same_operation (op.Bytes a) p w e h k = made_of p (word_of (op.Bytes a)) (operands_of (op.Bytes a)) (sym w) (sym e)

abbrev decoded : List ℕ → Result (List ℕ) FromHexError
decoded octets = Ok octets

octets_are : (xs ys : List ℕ) → decoded xs ≡ decoded ys → xs ≡ ys
octets_are xs ys e = cc

-- a field is right as one operand of a kind
same_time : (field : List ℕ) (a b : Stamp) → SpellsAbsolute field a ⊎ SpellsRelative field a → SpellsAbsolute field b ⊎ SpellsRelative field b → a ≡ b
same_time field a b (inl h) (inl k) = absolute_one_value field a b h k
same_time field a b (inl h) (inr k) = absurd (no_text_is_both field a b h k)
same_time field a b (inr h) (inl k) = absurd (no_text_is_both field b a k h)
same_time field a b (inr h) (inr k) = relative_one_value field a b h k

same_operand : (field : List ℕ) (x y : Operand) → kind_of x ≡ kind_of y → Reads field x → Reads field y → x ≡ y
same_operand field (Time a) (Time b) e h k = ap Time (same_time field a b h k)
same_operand field (Number a) (Number b) e h k = ap Number (one_number field a b h.0 k.0)
same_operand field (Minutes a) (Minutes b) e h k = ap Minutes (one_number field a b h.0 k.0)
same_operand field (Octets a) (Octets b) e h k = ap Octets (octets_are a b (sym h ∙ k))
same_operand field x y e h k = absurd (cc)

pub same_operands : (fields : List (List ℕ)) (xs ys : List Operand) → map kind_of xs ≡ map kind_of ys → ReadEach fields xs → ReadEach fields ys → xs ≡ ys
same_operands [] [] [] e h k = refl
same_operands [] (x ∷ xs) ys e h k = absurd h
same_operands [] [] (y ∷ ys) e h k = absurd k
same_operands (field ∷ fields) [] ys e h k = absurd h
same_operands (field ∷ fields) (x ∷ xs) [] e h k = absurd k
same_operands (field ∷ fields) (x ∷ xs) (y ∷ ys) e h k =
    let first : kind_of x ≡ kind_of y = cc in
    let others : map kind_of xs ≡ map kind_of ys = cc in
    let one : x ≡ y = same_operand field x y first h.0 k.0 in
    let all : xs ≡ ys = same_operands fields xs ys others h.1 k.1 in
    cc

-- a line asks for one operation at most
pub Spells-unique : (line : List ℕ) (o p : Operation) → Spells line o → Spells line p → o ≡ p
Spells-unique line o p (fields, cut, read, ranges) (fields', cut', read', ranges') =
    let both : word_of o ∷ fields ≡ word_of p ∷ fields' = sym cut ∙ cut' in
    let words : word_of o ≡ word_of p = cc in
    let same : fields' ≡ fields = cc in
    let operands = same_operands fields (operands_of o) (operands_of p) (same_kinds o p words) read (rw same at read') in
    same_operation o p words operands ranges ranges'
