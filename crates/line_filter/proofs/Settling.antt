-- In how many ways a filter can end.
use Rattle.std.proofs.Common.{◌≡◌, ◌⊎◌, inl, inr, ℕ, ◌+◌, ◌<◌, ◌≤◌, List, [], ◌∷◌, ◌++◌, length, Option, Result, Ok, Err, refl, sym, ap, ◌∙◌, subst, append_assoc, arith}
use Rattle.std.proofs.lemmas.List.{append-nil}
use Rattle.std.proofs.lemmas.Bool.{cases_lt}
use Rattle.line_reader.specs.declared.limits.TheConstants.{MAX_LINE, MAX_LINES}
use Rattle.line_reader.specs.Lines.{lines_of}
use Rattle.line_filter.specs.declared.stop.Stop.{Stop}
use Rattle.line_filter.specs.declared.stop.Stop.TheVariants as stop
use Rattle.line_filter.specs.Filters.{Rules, TakesEach, TakesLines, RefusesLine, Filters, HasFiltered, IsValid}
use Rattle.line_filter.specs.Laws.{IsExclusive, IsTotal, IsSettled}
use Rattle.line_filter.proofs.TakeFacts.{no_lines, lines_more}

module _ {State Cause : Type 0} (rules : Rules State Cause) where
  -- the end is refused, or not
  abbrev AtEnd : ℕ → State → Result (Unit {0}) (Stop Cause) → List ℕ → Type 0
  AtEnd before state result text = ((((cause : Cause) → rules.RefusesEnd state cause → ⊥) × (result ≡ Ok tt)) ⊎ ((cause : Cause) × rules.RefusesEnd state cause × (result ≡ Err (stop.Refused (before + 1) cause)))) × (text ≡ [])

  -- the line behind so many others is refused
  record Stops (before : ℕ) (state : State) (line : List ℕ) (result : Result (Unit {0}) (Stop Cause)) (text : List ℕ) : Type 0 where
    cause : Cause
    refused : RefusesLine rules before state line cause
    is : result ≡ Err (stop.Refused (before + 1) cause)
    none : text ≡ []

  -- the line behind so many others is taken, and what follows is P
  record Goes (before : ℕ) (state : State) (line : List ℕ) (P : State → List ℕ → Type 0) (text : List ℕ) : Type 0 where
    few : before < MAX_LINES
    short : length line ≤ MAX_LINE
    next : State
    first : List ℕ
    takes : rules.Takes state line next first
    rest : List ℕ
    goes : P next rest
    all : text ≡ first ++ rest

  -- how a filter that has taken so many lines ends over the lines that are left
  abbrev Walks : ℕ → State → List (List ℕ) → Result (Unit {0}) (Stop Cause) → List ℕ → Type 0
  Walks before state [] result text = AtEnd before state result text
  Walks before state (line ∷ lines) result text = Stops before state line result text ⊎ Goes before state line (λ next rest. Walks (before + 1) next lines result rest) text

  -- the lines in front are taken
  walks_behind : (before : ℕ) (from to : State) (lines more : List (List ℕ)) (result : Result (Unit {0}) (Stop Cause)) (text rest : List ℕ) → before + length lines ≤ MAX_LINES → TakesEach rules from lines to text
      → Walks (before + length lines) to more result rest → Walks before from (lines ++ more) result (text ++ rest)
  walks_behind before from to [] more result text rest few (here, none) walks =
      let zero : before + 0 ≡ before = omega arith in
      subst (λ t. Walks before from more result (t ++ rest)) (sym none) (subst (λ (s : State). Walks before s more result rest) here (subst (λ k. Walks k to more result rest) zero walks))
  walks_behind before from to (line ∷ lines) more result text rest few (next, first, others, short, takes, each, all) walks =
      let shift : before + length (line ∷ lines) ≡ (before + 1) + length lines = omega arith in
      inr (record {
        few = omega arith;
        short = short;
        next = next;
        first = first;
        takes = takes;
        rest = others ++ rest;
        goes = walks_behind (before + 1) next to lines more result others rest (omega arith) each (subst (λ k. Walks k to more result rest) shift walks);
        all = ap (λ t. t ++ rest) all ∙ append_assoc first others rest;
      })

  from_start : (from to : State) (lines more : List (List ℕ)) (result : Result (Unit {0}) (Stop Cause)) (text rest : List ℕ) → TakesLines rules from lines to text
      → Walks (length lines) to more result rest → Walks 0 from (lines ++ more) result (text ++ rest)
  from_start from to lines more result text rest taken walks =
      let zero : length lines ≡ 0 + length lines = omega arith in
      walks_behind 0 from to lines more result text rest (omega (arith, taken.few)) taken.each (subst (λ k. Walks k to more result rest) zero walks)

  -- and nothing behind them gives text
  walks_all : (from to : State) (lines more whole : List (List ℕ)) (result : Result (Unit {0}) (Stop Cause)) (text : List ℕ) → whole ≡ lines ++ more → TakesLines rules from lines to text
      → Walks (length lines) to more result [] → Walks 0 from whole result text
  walks_all from to lines more whole result text all taken walks =
      subst (λ ls. Walks 0 from ls result text) (sym all) (subst (λ t. Walks 0 from (lines ++ more) result t) (append-nil text) (from_start from to lines more result text [] taken walks))

  filters_walks : (from : State) (octets left text : List ℕ) (result : Result (Unit {0}) (Stop Cause)) → IsSettled result → Filters rules from octets left result text → Walks 0 from (lines_of octets) result text
  filters_walks from octets left text (Ok done) is (all, none) =
      walks_all from all.state (lines_of octets) [] (lines_of octets) (Ok done) text (sym (append-nil (lines_of octets))) all.taken (inl (all.accepted, refl), refl)
  filters_walks from octets left text (Err (stop.Refused n cause)) is (inl at) =
      walks_all from at.state at.front (at.line ∷ at.rest) (lines_of octets) (Err (stop.Refused n cause)) text at.all at.taken
      (inl (record { cause = cause; refused = at.refused; is = ap (λ k. let r : Result (Unit {0}) (Stop Cause) = Err (stop.Refused k cause) in r) at.number; none = refl }))
  filters_walks from octets left text (Err (stop.Refused n cause)) is (inr (at, none)) =
      walks_all from at.state (lines_of octets) [] (lines_of octets) (Err (stop.Refused n cause)) text (sym (append-nil (lines_of octets))) at.taken
      (inr (cause, at.refused, ap (λ k. let r : Result (Unit {0}) (Stop Cause) = Err (stop.Refused k cause) in r) at.number), refl)
  filters_walks from octets left text (Err stop.Read) is filters = absurd is
  filters_walks from octets left text (Err stop.Write) is filters = absurd is
  filters_walks from octets left text (Err stop.NoMemory) is filters = absurd is

  module _ (exclusive : IsExclusive rules) where
    one_refusal : (before : ℕ) (state : State) (line : List ℕ) (cause other : Cause) → RefusesLine rules before state line cause → RefusesLine rules before state line other → cause ≡ other
    one_refusal before state line cause other (inl many) (inl most) = many.1 ∙ sym most.1
    one_refusal before state line cause other (inl many) (inr (inl long)) = absurd (omega (arith, many.0, long.0))
    one_refusal before state line cause other (inl many) (inr (inr wrong)) = absurd (omega (arith, many.0, wrong.0))
    one_refusal before state line cause other (inr (inl long)) (inl most) = absurd (omega (arith, long.0, most.0))
    one_refusal before state line cause other (inr (inl long)) (inr (inl longer)) = long.2 ∙ sym longer.2
    one_refusal before state line cause other (inr (inl long)) (inr (inr wrong)) = absurd (omega (arith, long.1, wrong.1))
    one_refusal before state line cause other (inr (inr wrong)) (inl most) = absurd (omega (arith, wrong.0, most.0))
    one_refusal before state line cause other (inr (inr wrong)) (inr (inl long)) = absurd (omega (arith, wrong.1, long.1))
    one_refusal before state line cause other (inr (inr wrong)) (inr (inr bad)) = exclusive.one_cause state line cause other wrong.2 bad.2

    -- no line is both taken and refused
    not_refused : (before : ℕ) (state next : State) (line text : List ℕ) (cause : Cause) → before < MAX_LINES → length line ≤ MAX_LINE → rules.Takes state line next text → RefusesLine rules before state line cause → ⊥
    not_refused before state next line text cause few short takes (inl many) = omega (arith, many.0)
    not_refused before state next line text cause few short takes (inr (inl long)) = omega (arith, long.1)
    not_refused before state next line text cause few short takes (inr (inr wrong)) = exclusive.not_both state next line text cause takes wrong.2

    abbrev IsSame : Result (Unit {0}) (Stop Cause) → Result (Unit {0}) (Stop Cause) → List ℕ → List ℕ → Type 0
    IsSame result answer text other = (result ≡ answer) × (text ≡ other)

    one_end : (before : ℕ) (state : State) (result answer : Result (Unit {0}) (Stop Cause)) (text other : List ℕ) → AtEnd before state result text → AtEnd before state answer other → IsSame result answer text other
    one_end before state result answer text other (inl (accepted, is), none) (inl (likewise, same), nothing) = (is ∙ sym same, none ∙ sym nothing)
    one_end before state result answer text other (inl (accepted, is), none) (inr (cause, refused, same), nothing) = absurd (accepted cause refused)
    one_end before state result answer text other (inr (cause, refused, is), none) (inl (accepted, same), nothing) = absurd (accepted cause refused)
    one_end before state result answer text other (inr (cause, refused, is), none) (inr (reason, likewise, same), nothing) =
        (is ∙ ap (λ (c : Cause). let r : Result (Unit {0}) (Stop Cause) = Err (stop.Refused (before + 1) c) in r) (exclusive.one_end state cause reason refused likewise) ∙ sym same, none ∙ sym nothing)

    one_walk : (before : ℕ) (state : State) (lines : List (List ℕ)) (result answer : Result (Unit {0}) (Stop Cause)) (text other : List ℕ) → Walks before state lines result text → Walks before state lines answer other → IsSame result answer text other
    one_walk before state [] result answer text other walks likewise = one_end before state result answer text other walks likewise
    one_walk before state (line ∷ lines) result answer text other (inl stops) (inl halts) =
        (stops.is ∙ ap (λ (c : Cause). let r : Result (Unit {0}) (Stop Cause) = Err (stop.Refused (before + 1) c) in r) (one_refusal before state line stops.cause halts.cause stops.refused halts.refused) ∙ sym halts.is, stops.none ∙ sym halts.none)
    one_walk before state (line ∷ lines) result answer text other (inl stops) (inr goes) = absurd (not_refused before state goes.next line goes.first stops.cause goes.few goes.short goes.takes stops.refused)
    one_walk before state (line ∷ lines) result answer text other (inr goes) (inl stops) = absurd (not_refused before state goes.next line goes.first stops.cause goes.few goes.short goes.takes stops.refused)
    one_walk before state (line ∷ lines) result answer text other (inr goes) (inr walks) =
        let same = exclusive.one_next state goes.next walks.next line goes.first walks.first goes.takes walks.takes in
        let then = one_walk (before + 1) goes.next lines result answer goes.rest walks.rest goes.goes (subst (λ (s : State). Walks (before + 1) s lines answer walks.rest) (sym same.0) walks.goes) in
        (then.0, goes.all ∙ ap (λ t. t ++ goes.rest) same.1 ∙ ap (λ t. walks.first ++ t) then.1 ∙ sym walks.all)

    pub one_way : (from : State) (octets left more text other : List ℕ) (result answer : Result (Unit {0}) (Stop Cause)) → IsSettled result → IsSettled answer
        → Filters rules from octets left result text → Filters rules from octets more answer other → (result ≡ answer) × (text ≡ other)
    one_way from octets left more text other result answer is is' filters likewise =
        one_walk 0 from (lines_of octets) result answer text other (filters_walks from octets left text result is filters) (filters_walks from octets more other answer is' likewise)

    pub not_refused_valid : (from : State) (octets left text other : List ℕ) (n : ℕ) (cause : Cause) → IsValid rules from octets text → (let r : Result (Unit {0}) (Stop Cause) = Err (stop.Refused n cause) in Filters rules from octets left r other) → ⊥
    not_refused_valid from octets left text other n cause valid filters =
        let e = (one_way from octets [] left text other (Ok tt) (Err (stop.Refused n cause)) tt tt (valid, refl) filters).0 in
        cc

    -- valid input is taken as a whole, where nothing failed
    pub complete : (from : State) (octets text : List ℕ) (left before now : Option (List ℕ)) (result : Result (Unit {0}) (Stop Cause)) → HasFiltered rules from octets left result before now → IsValid rules from octets text
        → (result ≡ Err stop.Read → ⊥) → (result ≡ Err stop.Write → ⊥) → (result ≡ Ok tt) ⊎ (result ≡ Err stop.NoMemory)
    complete from octets text left before now (Ok done) has valid read write = inl refl
    complete from octets text left before now (Err (stop.Refused n cause)) has valid read write = absurd (not_refused_valid from octets has.more text has.text n cause valid has.filters)
    complete from octets text left before now (Err stop.Read) has valid read write = absurd (read refl)
    complete from octets text left before now (Err stop.Write) has valid read write = absurd (write refl)
    complete from octets text left before now (Err stop.NoMemory) has valid read write = inr refl

  -- what a filter comes to over these octets, where these lines of them were taken
  pub record Settles (from : State) (octets : List ℕ) : Type 0 where
    pub result : Result (Unit {0}) (Stop Cause)
    pub text : List ℕ
    pub is : IsSettled result
    pub filters : Filters rules from octets [] result text

  module _ (total : IsTotal rules) (from : State) (octets : List ℕ) where
    settles_end : (state : State) (text : List ℕ) → TakesLines rules from (lines_of octets) state text → Settles from octets
    settles_end state text taken = elim (total.end state) [
      | inl refused ↦ record {
        result = Err (stop.Refused (length (lines_of octets) + 1) refused.0);
        text = text;
        is = tt;
        filters = inr (record { number = refl; state = state; taken = taken; refused = refused.1 }, refl);
      }
      | inr accepted ↦ record { result = Ok tt; text = text; is = tt; filters = (record { state = state; taken = taken; accepted = accepted }, refl) }
    ]

    settles_refused : (front rest : List (List ℕ)) (line : List ℕ) (state : State) (text : List ℕ) (cause : Cause) → lines_of octets ≡ front ++ line ∷ rest → TakesLines rules from front state text
        → RefusesLine rules (length front) state line cause → Settles from octets
    settles_refused front rest line state text cause all taken refused = record {
      result = Err (stop.Refused (length front + 1) cause);
      text = text;
      is = tt;
      filters = inl (record { front = front; line = line; rest = rest; all = all; number = refl; state = state; taken = taken; refused = refused });
    }

    settles_behind : (rest front : List (List ℕ)) (state : State) (text : List ℕ) → lines_of octets ≡ front ++ rest → TakesLines rules from front state text → Settles from octets
    settles_behind [] front state text all taken = settles_end state text (subst (λ ls. TakesLines rules from ls state text) (sym (all ∙ append-nil front)) taken)
    settles_behind (line ∷ rest) front state text all taken = elim (cases_lt (length front) MAX_LINES) [
      | inl few ↦ elim (cases_lt MAX_LINE (length line)) [
        | inl long ↦ settles_refused front rest line state text rules.too_long all taken (inr (inl (few, long, refl)))
        | inr short ↦ elim (total.line state line) [
          | inl takes ↦ settles_behind rest (front ++ line ∷ []) takes.0 (text ++ takes.1) (all ∙ sym (append_assoc front (line ∷ []) rest))
              (lines_more rules from state takes.0 front line text takes.1 taken few short takes.2)
          | inr refused ↦ settles_refused front rest line state text refused.0 all taken (inr (inr (few, short, refused.1)))
        ]
      ]
      | inr many ↦ settles_refused front rest line state text rules.too_many all taken (inl (many, refl))
    ]

    pub settles : Settles from octets
    settles = settles_behind (lines_of octets) [] from [] refl (no_lines rules from)
