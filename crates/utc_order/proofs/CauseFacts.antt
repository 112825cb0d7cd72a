-- A line is refused for one cause, and each line is taken or refused.
use Rattle.std.proofs.Common.{◌≡◌, ◌⊎◌, inl, inr, ℕ, ◌+◌, ◌≤◌, ◌<◌, List, [], ◌∷◌, ◌++◌, length, Option, Some, None, refl, sym, ap, ◌∙◌, subst, arith, ℤ, pos, negsuc, append_assoc, suc}
use Rattle.std.proofs.lemmas.List.{append-nil}
use Rattle.std.proofs.lemmas.Bool.{cases_lt}
use Rattle.std.proofs.lemmas.Int.{ints}
use Rattle.line_reader.specs.Lines.{lines_of}
use Rattle.line_reader.specs.Numbers.{IsWhole, IsWithin}
use Rattle.line_reader.proofs.Decimals.{no_number}
use Rattle.line_reader.proofs.Deciding.{number_or_fault}
use Rattle.line_reader.specs.Fields.{fields_of}
use Rattle.utc_text.proofs.TextLaws.{absolute_either, absolute_not_both, absolute_one_fault}
use Rattle.utc_order.specs.declared.limits.TheConstants.{MAX_HOST, MAX_LINES, MAX_OCTETS}
use Rattle.utc_order.specs.declared.cause.OrderCause.{OrderCause}
use Rattle.utc_order.specs.declared.cause.OrderCause.TheVariants as cause
use Rattle.utc_order.specs.declared.cause.OrderStatus.{OrderStatus}
use Rattle.utc_order.specs.declared.cause.OrderStatus.TheVariants as status
use Rattle.utc_order.specs.Keeping.{Stops}
use Rattle.utc_order.specs.Lines.{LogLine, field, HasHost, Spells, Misspells}
use Rattle.utc_order.specs.Taking.{Fits, first_contrary, Takes, IsBackward, Refuses, TakesEach, RefusesAt}
use Rattle.utc_order.proofs.UniqueFacts.{one_line, not_refused, taken_behind}

-- octets that are no line are so for one cause
one_misspelling : (octets : List ℕ) (c d : OrderCause) → Misspells octets c → Misspells octets d → c ≡ d
one_misspelling octets cause.Host cause.Host m n = refl
one_misspelling octets cause.Host (cause.Time g) m n = absurd (m n.0)
one_misspelling octets cause.Host cause.Text m n = absurd (m n.0.0)
one_misspelling octets cause.Host cause.Lines m n = absurd n
one_misspelling octets cause.Host cause.Long m n = absurd n
one_misspelling octets cause.Host (cause.Backward k) m n = absurd n
one_misspelling octets (cause.Time f) cause.Host m n = absurd (n m.0)
one_misspelling octets (cause.Time f) (cause.Time g) m n = ap cause.Time (absolute_one_fault (field octets 1) f g m.1 n.1)
one_misspelling octets (cause.Time f) cause.Text m n = absurd (absolute_not_both (field octets 1) n.0.1.0 f n.0.1.1 m.1)
one_misspelling octets (cause.Time f) cause.Lines m n = absurd n
one_misspelling octets (cause.Time f) cause.Long m n = absurd n
one_misspelling octets (cause.Time f) (cause.Backward k) m n = absurd n
one_misspelling octets cause.Text cause.Host m n = absurd (n m.0.0)
one_misspelling octets cause.Text (cause.Time g) m n = absurd (absolute_not_both (field octets 1) m.0.1.0 g m.0.1.1 n.1)
one_misspelling octets cause.Text cause.Text m n = refl
one_misspelling octets cause.Text cause.Lines m n = absurd n
one_misspelling octets cause.Text cause.Long m n = absurd n
one_misspelling octets cause.Text (cause.Backward k) m n = absurd n
one_misspelling octets cause.Lines d m n = absurd m
one_misspelling octets cause.Long d m n = absurd m
one_misspelling octets (cause.Backward k) d m n = absurd m

-- octets that are a line don't misspell one
not_misspelt : (octets : List ℕ) (line : LogLine) (c : OrderCause) → Spells octets line → Misspells octets c → ⊥
not_misspelt octets line cause.Host is m = m (line.host, is.host)
not_misspelt octets line (cause.Time f) is m = absolute_not_both (field octets 1) line.time f is.time m.1
not_misspelt octets line cause.Text is m = omega (arith, is.text, m.1)
not_misspelt octets line cause.Lines is m = m
not_misspelt octets line cause.Long is m = m
not_misspelt octets line (cause.Backward k) is m = m

-- the four kinds of refusals
data Kind (before : List LogLine) (octets : List ℕ) (c : OrderCause) : Type 0 where
  Many : c ≡ cause.Lines → MAX_LINES ≤ length before → Kind before octets c
  Wide : c ≡ cause.Long → length before < MAX_LINES → MAX_OCTETS < length octets → Kind before octets c
  Wrong : Fits before octets → Misspells octets c → Kind before octets c
  Back : (k : ℕ) → c ≡ cause.Backward k → Fits before octets → IsBackward before octets k → Kind before octets c

kind_of : (before : List LogLine) (octets : List ℕ) (c : OrderCause) → Refuses before octets c → Kind before octets c
kind_of before octets cause.Lines r = Many refl r
kind_of before octets cause.Long r = Wide refl r.0 r.1
kind_of before octets cause.Host r = Wrong r.0 r.1
kind_of before octets (cause.Time f) r = Wrong r.0 r.1
kind_of before octets cause.Text r = Wrong r.0 r.1
kind_of before octets (cause.Backward k) r = Back k refl r.0 r.1

one_back : (before : List LogLine) (octets : List ℕ) (k m : ℕ) → IsBackward before octets k → IsBackward before octets m → k ≡ m
one_back before octets k m x y =
    let lines = one_line octets x.line y.line x.spells y.spells in
    let first = sym x.first ∙ ap (first_contrary before) lines ∙ y.first in
    let index : x.index ≡ y.index = cc in
    x.number ∙ ap (λ i. i + 1) index ∙ sym y.number

one_kind : (before : List LogLine) (octets : List ℕ) (c d : OrderCause) → Kind before octets c → Kind before octets d → c ≡ d
one_kind before octets c d (Many e many) (Many f many') = e ∙ sym f
one_kind before octets c d (Many e many) (Wide f few long) = absurd (omega arith)
one_kind before octets c d (Many e many) (Wrong fits m) = absurd (omega (arith, fits.0))
one_kind before octets c d (Many e many) (Back k f fits b) = absurd (omega (arith, fits.0))
one_kind before octets c d (Wide e few long) (Many f many) = absurd (omega arith)
one_kind before octets c d (Wide e few long) (Wide f few' long') = e ∙ sym f
one_kind before octets c d (Wide e few long) (Wrong fits m) = absurd (omega (arith, fits.1))
one_kind before octets c d (Wide e few long) (Back k f fits b) = absurd (omega (arith, fits.1))
one_kind before octets c d (Wrong fits m) (Many f many) = absurd (omega (arith, fits.0))
one_kind before octets c d (Wrong fits m) (Wide f few long) = absurd (omega (arith, fits.1))
one_kind before octets c d (Wrong fits m) (Wrong fits' n) = one_misspelling octets c d m n
one_kind before octets c d (Wrong fits m) (Back k f fits' b) = absurd (not_misspelt octets b.line c b.spells m)
one_kind before octets c d (Back k e fits b) (Many f many) = absurd (omega (arith, fits.0))
one_kind before octets c d (Back k e fits b) (Wide f few long) = absurd (omega (arith, fits.1))
one_kind before octets c d (Back k e fits b) (Wrong fits' m) = absurd (not_misspelt octets b.line d b.spells m)
one_kind before octets c d (Back k e fits b) (Back m f fits' b') = e ∙ ap cause.Backward (one_back before octets k m b b') ∙ sym f

pub one_cause : (before : List LogLine) (octets : List ℕ) (c d : OrderCause) → Refuses before octets c → Refuses before octets d → c ≡ d
one_cause before octets c d r s = one_kind before octets c d (kind_of before octets c r) (kind_of before octets d s)

host_or_none : (octets : List ℕ) → HasHost octets ⊎ (HasHost octets → ⊥)
host_or_none octets = elim (number_or_fault (field octets 0) (pos 0) (pos MAX_HOST)) [
  | inl number ↦ inl (host_of number.0 number.1 number.2)
  | inr fault ↦ inr (λ h. no_number (field octets 0) (pos 0) (pos MAX_HOST) (pos h.0) fault.0 fault.1 h.1.0 (omega (arith, ints), omega (arith, ints, h.1.1)))
]
  where
    host_of : (z : ℤ) → IsWhole (field octets 0) z → IsWithin (pos 0) (pos MAX_HOST) z → HasHost octets
    host_of (pos n) whole within = (n, (whole, omega (arith, ints, within.1)))
    host_of (negsuc n) whole within = absurd (omega (arith, ints, within.0))

-- each line is taken or refused
pub taken_or_refused : (before : List LogLine) (octets : List ℕ) → ((line : LogLine) × Takes before octets line) ⊎ ((c : OrderCause) × Refuses before octets c)
taken_or_refused before octets = elim (cases_lt (length before) MAX_LINES) [
  | inr many ↦ inr (cause.Lines, many)
  | inl few ↦ elim (cases_lt MAX_OCTETS (length octets)) [
    | inl long ↦ inr (cause.Long, (few, long))
    | inr short ↦ elim (host_or_none octets) [
      | inr none ↦ inr (cause.Host, ((few, short), none))
      | inl host ↦ elim (absolute_either (field octets 1)) [
        | inr fault ↦ inr (cause.Time fault.0, ((few, short), (host, fault.1)))
        | inl time ↦ elim (cases_lt 2 (length (fields_of octets))) [
          | inr text ↦ inr (cause.Text, ((few, short), ((host, time), text)))
          | inl text ↦
              let line : LogLine = record { host = host.0; time = time.0; octets = octets } in
              let spells : Spells octets line = record { host = host.1; time = time.1; text = text; all = refl } in
              by_first line spells (few, short) (first_contrary before line) refl
        ]
      ]
    ]
  ]
]
  where
    by_first : (line : LogLine) → Spells octets line → Fits before octets → (o : Option ℕ) → first_contrary before line ≡ o → ((l : LogLine) × Takes before octets l) ⊎ ((c : OrderCause) × Refuses before octets c)
    by_first line spells fits None e = inl (line, record { fits = fits; spells = spells; forward = e })
    by_first line spells fits (Some index) e = inr (cause.Backward (index + 1), (fits, record { line = line; spells = spells; index = index; first = e; number = refl }))

-- the first refused line is one, with one cause
pub one_refusal : (all : List (List ℕ)) (m n : ℕ) (c d : OrderCause) → RefusesAt all m c → RefusesAt all n d → (m ≡ n) × (c ≡ d)
one_refusal all m n c d r s =
    let same = one_place [] r.front s.front r.octets s.octets r.rest s.rest r.lines s.lines c d r.taken s.taken r.refused s.refused (sym r.all_is ∙ s.all_is) in
    (r.number ∙ ap (λ k. k + 1) same.0 ∙ sym s.number, same.1)
  where
    one_place : (before : List LogLine) (front front' : List (List ℕ)) (octets octets' : List ℕ) (rest rest' : List (List ℕ)) (lines lines' : List LogLine) (c d : OrderCause)
        → TakesEach before front lines → TakesEach before front' lines' → Refuses (before ++ lines) octets c → Refuses (before ++ lines') octets' d → front ++ octets ∷ rest ≡ front' ++ octets' ∷ rest'
        → (length front ≡ length front') × (c ≡ d)
    one_place before [] [] octets octets' rest rest' lines lines' c d t t' r s e =
        let same : octets ≡ octets' = cc in
        let none : lines ≡ lines' = t ∙ sym t' in
        (refl, one_cause (before ++ lines') octets' c d (subst (λ ls. Refuses (before ++ ls) octets' c) none (subst (λ o. Refuses (before ++ lines) o c) same r)) s)
    one_place before [] (first ∷ front') octets octets' rest rest' lines [] c d t t' r s e = absurd t'
    one_place before [] (first ∷ front') octets octets' rest rest' lines (l ∷ lines') c d t t' r s e =
        let same : octets ≡ first = cc in
        absurd (not_refused before first l c t'.0 (subst (λ b. Refuses b first c) (ap (λ ls. before ++ ls) t ∙ append-nil before) (subst (λ o. Refuses (before ++ lines) o c) same r)))
    one_place before (first ∷ front) [] octets octets' rest rest' [] lines' c d t t' r s e = absurd t
    one_place before (first ∷ front) [] octets octets' rest rest' (l ∷ lines) lines' c d t t' r s e =
        let same : octets' ≡ first = cc in
        absurd (not_refused before first l d t.0 (subst (λ b. Refuses b first d) (ap (λ ls. before ++ ls) t' ∙ append-nil before) (subst (λ o. Refuses (before ++ lines') o d) same s)))
    one_place before (first ∷ front) (first' ∷ front') octets octets' rest rest' [] lines' c d t t' r s e = absurd t
    one_place before (first ∷ front) (first' ∷ front') octets octets' rest rest' (l ∷ lines) [] c d t t' r s e = absurd t'
    one_place before (first ∷ front) (first' ∷ front') octets octets' rest rest' (l ∷ lines) (m ∷ lines') c d t t' r s e =
        let same : first ≡ first' = cc in
        let behind : front ++ octets ∷ rest ≡ front' ++ octets' ∷ rest' = cc in
        let line : m ≡ l = one_line first m l (subst (λ o. Spells o m) (sym same) t'.0.spells) t.0.spells in
        let next = one_place (before ++ l ∷ []) front front' octets octets' rest rest' lines lines' c d t.1 (subst (λ x. TakesEach (before ++ x ∷ []) front' lines') line t'.1)
        (subst (λ b. Refuses b octets c) (sym (append_assoc before (l ∷ []) lines)) r)
        (subst (λ b. Refuses b octets' d) (sym (append_assoc before (l ∷ []) lines')) (subst (λ x. Refuses (before ++ x ∷ lines') octets' d) line s)) behind in
        (ap suc next.0, next.1)

-- lines that are all taken have no refused one
pub taken_not_refused : (all : List (List ℕ)) (lines : List LogLine) (n : ℕ) (c : OrderCause) → TakesEach [] all lines → RefusesAt all n c → ⊥
taken_not_refused all lines n c taken r =
    let takes = taken_behind [] r.front r.octets r.rest r.lines lines r.taken (subst (λ ls. TakesEach [] ls lines) r.all_is taken) in
    not_refused r.lines r.octets takes.0 c takes.1 r.refused

-- reading stops at the first refused line, where no read fails
pub stops_there : (octets left : List ℕ) (s : OrderStatus) (n : ℕ) (c : OrderCause) → Stops octets left s → RefusesAt (lines_of octets) n c → (s ≡ status.ReadFault → ⊥) → (s ≡ status.Refused n c) ⊎ (s ≡ status.NoMemory)
stops_there octets left (status.Refused m d) n c stops r quiet =
    let same = one_refusal (lines_of octets) m n d c stops r in
    inl (ap (λ k. status.Refused k d) same.0 ∙ ap (status.Refused n) same.1)
stops_there octets left status.ReadFault n c stops r quiet = absurd (quiet refl)
stops_there octets left status.NoMemory n c stops r quiet = inr refl
stops_there octets left status.Done n c stops r quiet = absurd stops
stops_there octets left status.WriteFault n c stops r quiet = absurd stops
