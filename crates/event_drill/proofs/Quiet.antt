-- The log of a drill has no line but those that its summary counts: no event is regressed, and each tag is open where it is to be.
use Rattle.std.proofs.Common.{◌≡◌, ℕ, suc, zero, ◌+◌, ◌<◌, ◌≤◌, Bool, true, false, cond, List, [], ◌∷◌, ◌++◌, length, Option, Some, None, refl, sym, ap, ◌∙◌, subst, arith}
use Rattle.std.specs.Prelude.{All, ℤ, find, filter, is_some, ◌==◌, ◌||◌, ◌&&◌, nat_lt, nat_le, option_map}
use Rattle.std.specs.Option.{option_or}
use Rattle.std.proofs.lemmas.Bool.{le-leb, lt-leb, ltb-true, ne_eqb, eq-eqb, eqb-true, eqb-false}
use Rattle.std.proofs.lemmas.List.{length-append}
use Rattle.std.proofs.lemmas.List.Elements.{All-nil, All-cons, All-append, All-map, All-weaker}
use Rattle.std.proofs.lemmas.List.Folds.{list_any_none, find-append}
use Rattle.slew_clock.specs.UsualRates.{usual_rates}
use Rattle.slew_clock.specs.declared.rates.Rates.{Rates}
use Rattle.slew_clock.specs.declared.record.ClockRecord.{ClockRecord}
use Rattle.slew_clock.specs.Line.{line}
use Rattle.slew_clock.specs.Change.{renewed_record, changed_record, middle_of}
use Rattle.dts_base.specs.declared.interval.Interval.{Interval}
use Rattle.dts_capture.specs.declared.event.Event.{Event}
use Rattle.dts_capture.specs.declared.event.Event.TheVariants as event
use Rattle.dts_capture.specs.declared.action.Action.{Action}
use Rattle.dts_capture.specs.declared.action.Action.TheVariants as action
use Rattle.dts_capture.specs.declared.action.NoteKind.TheVariants as note
use Rattle.dts_capture.specs.declared.action.FalseSource.TheVariants as source
use Rattle.sync_rules.specs.History.{History, Begun, Sync, Lane, event_part, event_osc, first_record, current_record}
use Rattle.sync_rules.specs.Live.{floor_at, is_live, live_osc, same_part}
use Rattle.sync_rules.specs.Ranges.{IsEventInRange, IsInRange}
use Rattle.sync_rules.specs.Rounds.{Query, Answer, moment_of, answer_of, is_asked, is_answered, is_full, asked_after, answered_after, with_answer, queries_of, answers_of, open_query, outcome, are_apart, carried_to}
use Rattle.clerk.specs.Outcome.{Outcome, Waiting, Short, Split, Adopted}
use Rattle.sync_rules.specs.Rules.{actions_of, live_actions, regressed_actions, followed_by, extended, outcome_actions, publication, named_false, changes, steps_to, rates_of, noted, reading_of, IsRuled}
use Rattle.sync_rules.proofs.Choices.{both}
use Rattle.sync_rules.proofs.Standing.{stands}
use Rattle.event_drill.specs.declared.kind.Kind.{Kind}
use Rattle.event_drill.specs.declared.kind.Kind.TheVariants as kind
use Rattle.event_drill.specs.declared.limits.TheConstants.{MAX_EVENTS, MOST_ASKED, LEAST_ANSWERED, LEAST_ERROR, ERRORS, FALSE_ONE_OF}
use Rattle.event_drill.specs.declared.maker.Maker.{Maker}
use Rattle.event_drill.specs.Around.{interval_around}
use Rattle.event_drill.specs.Draws.{drawn, last_below}
use Rattle.event_drill.specs.Made.{Made, seeded, first, time_told, oldest_open, reads, queries, sources, adopts, made_as, advanced, kind_taken, made, made_events}
use Rattle.event_drill.specs.Progress.{HasMade}
use Rattle.event_drill.specs.Summary.{actions_in}
use Rattle.event_drill.specs.Laws.{IsCounted, HasNoOtherLine}
use Rattle.event_drill.proofs.Making.{fit_made, seeded_made, start_in_range}
use Rattle.event_drill.proofs.MadeLists.{at_made}

-- ---- what is live
-- the history is ruled and in range, and its live events are not above this oscillator reading
record Behind (osc : ℕ) (h : History) : Type 0 where
  pub sync : live_osc Sync h ≤ osc
  pub lane : live_osc (Lane 0) h ≤ osc
  pub ruled : IsRuled h
  pub range : IsInRange h

later : (osc next : ℕ) (h : History) → osc ≤ next → Behind osc h → Behind next h
later osc next h is b = record { sync = omega (arith, is, b.sync); lane = omega (arith, is, b.lane); ruled = b.ruled; range = b.range }

follows : (osc : ℕ) (h : History) (e : Event) → Behind osc h → IsEventInRange e → event_osc e ≡ osc → Behind osc (followed_by h e)
unfolding live_osc
follows osc h e b range at = record {
  sync = both (same_part Sync (event_part e) && nat_le (floor_at Sync (live_osc Sync h) (current_record h)) (event_osc e)) _ _
      (λ (x : ℕ). x ≤ osc) (λ _. omega (arith, at)) (λ _. b.sync);
  lane = both (same_part (Lane 0) (event_part e) && nat_le (floor_at (Lane 0) (live_osc (Lane 0) h) (current_record h)) (event_osc e)) _ _
      (λ (x : ℕ). x ≤ osc) (λ _. omega (arith, at)) (λ _. b.lane);
  ruled = (refl, b.ruled);
  range = (b.range, range);
}

read_live : (osc : ℕ) (h : History) → Behind osc h → is_live h (event.Read osc) ≡ true
read_live osc h b = le-leb _ _ (omega (arith, b.lane, b.sync, (stands h b.ruled b.range).born))

-- what is selected behind a live event
queries_live : (h : History) (e : Event) → is_live h e ≡ true → queries_of (followed_by h e) ≡ asked_after (queries_of h) (moment_of h e) e
unfolding queries_of
queries_live h e live = ap (λ b. cond b (asked_after (queries_of h) (moment_of h e) e) (queries_of h)) live

answers_live : (h : History) (e : Event) → is_live h e ≡ true
    → answers_of (followed_by h e) ≡ answered_after (queries_of h) (answers_of h) (moment_of h e) e
unfolding answers_of
answers_live h e live = ap (λ b. cond b (answered_after (queries_of h) (answers_of h) (moment_of h e) e) (answers_of h)) live

abbrev AllCounted : List Action → Type 0
AllCounted actions = All IsCounted actions

live_counted : (h : History) (e : Event) → is_live h e ≡ true → AllCounted (live_actions h e) → AllCounted (actions_of h e)
unfolding actions_of
live_counted h e live all = subst AllCounted (sym (ap (λ b. cond b (live_actions h e) (regressed_actions h e)) live)) all

-- ---- which tags are open
record Tags (m : Maker) (h : History) : Type 0 where
  pub many : length (queries_of h) ≡ m.asked
  pub asked : All (λ q. q.tag < m.next_tag) (queries_of h)
  pub waiting : (t : ℕ) → oldest_open m ≤ t → t < m.next_tag → is_some (find (λ q. q.tag == t) (queries_of h)) ≡ true
  pub answered : All (λ a. a.tag < oldest_open m) (answers_of h)

record IsQuiet (h : History) (d : Made) : Type 0 where
  pub tags : Tags d.next (followed_by h d.event)
  pub counted : AllCounted (actions_of h d.event)

record Bounds (m : Maker) : Type 0 where
  pub asked : m.asked ≤ m.next_tag
  pub answered : m.answered ≤ m.asked

kept : (m : Maker) (h next : History) → queries_of next ≡ queries_of h → answers_of next ≡ answers_of h → Tags m h → Tags m next
kept m h next q a t = record {
  many = ap (λ (xs : List Query). length xs) q ∙ t.many;
  asked = subst (All (λ (x : Query). x.tag < m.next_tag)) (sym q) t.asked;
  waiting = λ s low high. ap (λ xs. is_some (find (λ x. x.tag == s) xs)) q ∙ t.waiting s low high;
  answered = subst (All (λ (x : Answer). x.tag < oldest_open m)) (sym a) t.answered;
}

one : (a : Action) → IsCounted a → AllCounted (a ∷ [])
one a is = All-cons IsCounted a [] is (All-nil IsCounted)

published : (o : Option ClockRecord) → AllCounted (publication o)
published None = All-nil IsCounted
published (Some rec) = one (action.Publish rec) tt

quiet_tick : (m : Maker) (h : History) → Behind m.osc h → Tags m h → IsQuiet h (record { event = event.Tick m.osc m.word; next = m })
quiet_tick m h b t =
    let e = event.Tick m.osc m.word in
    let live : is_live h e ≡ true = le-leb _ _ b.sync in record {
      tags = kept m h (followed_by h e) (queries_live h e live) (answers_live h e live) t;
      counted = live_counted h e live (published (renewed_record (rates_of h) (current_record h) m.osc));
    }

quiet_reads : (m : Maker) (h : History) → Behind m.osc h → Tags m h → IsQuiet h (reads m)
quiet_reads m h b t =
    let e = event.Read m.osc in
    let live = read_live m.osc h b in record {
      tags = kept m h (followed_by h e) (queries_live h e live) (answers_live h e live) t;
      counted = live_counted h e live (one (noted e (reading_of h m.osc)) tt);
    }

-- ---- a query
or_none : (a b : Bool) → a ≡ false → b ≡ false → (a || b) ≡ false
or_none a b is other = ap (λ c. c || b) is ∙ other

or_some : (a b : Option Query) → is_some a ≡ true → is_some (option_or a b) ≡ true
or_some (Some x) b is = refl
or_some None b is = cc

or_other : (a b : Option Query) → is_some b ≡ true → is_some (option_or a b) ≡ true
or_other (Some x) b is = refl
or_other None b is = is

unasked : (queries : List Query) (tag : ℕ) → All (λ q. q.tag < tag) queries → is_asked queries tag ≡ false
unasked queries tag are = list_any_none (λ q. q.tag == tag) queries
    (All-weaker (λ (q : Query). q.tag < tag) (λ q. (q.tag == tag) ≡ false)
    (λ q below. ne_eqb q.tag tag (λ same. omega (arith, below, same))) queries are)

found_last : (queries : List Query) (q : Query) (t : ℕ) → q.tag ≡ t → is_some (find (λ x. x.tag == t) (queries ++ q ∷ [])) ≡ true
found_last queries q t is =
    ap is_some (find-append (λ x. x.tag == t) queries (q ∷ []))
    ∙ or_other (find (λ x. x.tag == t) queries) (find (λ x. x.tag == t) (q ∷ []))
    (ap (λ b. is_some (cond b (Some q) None)) (eq-eqb q.tag t is))

found_before : (queries : List Query) (q : Query) (t : ℕ) → is_some (find (λ x. x.tag == t) queries) ≡ true
    → is_some (find (λ x. x.tag == t) (queries ++ q ∷ [])) ≡ true
found_before queries q t is =
    ap is_some (find-append (λ x. x.tag == t) queries (q ∷ []))
    ∙ or_some (find (λ x. x.tag == t) queries) (find (λ x. x.tag == t) (q ∷ [])) is

nothing : (a b : Bool) (xs ys : List Action) → a ≡ false → b ≡ false → AllCounted (cond a xs (cond b ys []))
nothing a b xs ys is other =
    subst AllCounted (sym (ap (λ c. cond c xs (cond b ys [])) is ∙ ap (λ c. cond c ys []) other)) (All-nil IsCounted)

still_waiting : (m : Maker) (h : History) (q : Query) (s : ℕ) → Tags m h → q.tag ≡ m.next_tag → oldest_open m ≤ s → s < m.next_tag + 1
    → is_some (find (λ x. x.tag == s) (queries_of h ++ q ∷ [])) ≡ true
still_waiting m h q s t is low high = elim (q.tag == s) as
    (λ b. (q.tag == s) ≡ b → is_some (find (λ x. x.tag == s) (queries_of h ++ q ∷ [])) ≡ true) [
      | true ↦ λ same. found_last (queries_of h) q s (eqb-true q.tag s same)
      | false ↦ λ other.
          let differs = eqb-false q.tag s other in
          found_before (queries_of h) q s (t.waiting s low (omega (arith, is, high, differs)))
    ] refl

quiet_queries : (m : Maker) (h : History) → Bounds m → Behind m.osc h → Tags m h → IsQuiet h (queries m)
quiet_queries m h within b t = both (nat_lt m.asked MOST_ASKED) _ _ (IsQuiet h)
    (λ room.
    let e = event.Query m.osc m.next_tag in
    let live : is_live h e ≡ true = le-leb _ _ b.sync in
    let q : Query = record { tag = m.next_tag; asked = moment_of h e } in
    let next : Maker = record m { next_tag = m.next_tag + 1; asked = m.asked + 1 } in
    let new = unasked (queries_of h) m.next_tag t.asked in
    let space : is_full (queries_of h) ≡ false = lt-leb _ _ (omega (arith, t.many, ltb-true _ _ room)) in
    let now : queries_of (followed_by h e) ≡ queries_of h ++ q ∷ [] =
    queries_live h e live ∙ ap (λ b. cond b (queries_of h) (queries_of h ++ q ∷ [])) (or_none _ _ new space) in
    let oldest : oldest_open next ≡ oldest_open m = omega (arith, within.asked, within.answered) in record {
      tags = record {
        many = ap (λ (xs : List Query). length xs) now ∙ omega (arith, t.many, length-append (queries_of h) (q ∷ []));
        asked = subst (All (λ (x : Query). x.tag < next.next_tag)) (sym now)
            (All-append (λ (x : Query). x.tag < next.next_tag) (queries_of h) (q ∷ [])
            (All-weaker (λ (x : Query). x.tag < m.next_tag) (λ x. x.tag < next.next_tag)
            (λ x is. omega (arith, is)) (queries_of h) t.asked)
            (All-cons (λ (x : Query). x.tag < next.next_tag) q [] (omega arith) (All-nil (λ (x : Query). x.tag < next.next_tag))));
        waiting = λ s low high.
            ap (λ xs. is_some (find (λ x. x.tag == s) xs)) now ∙ still_waiting m h q s t refl (omega (arith, low, oldest)) high;
        answered = subst (All (λ (x : Answer). x.tag < oldest_open next)) (sym (answers_live h e live))
            (All-weaker (λ (x : Answer). x.tag < oldest_open m) (λ x. x.tag < oldest_open next)
            (λ x is. omega (arith, is, oldest)) (answers_of h) t.answered);
      };
      counted = live_counted h e live (nothing (is_asked (queries_of h) m.next_tag) (is_full (queries_of h)) _ _ new space);
    })
    (λ _. quiet_reads m h b t)

-- ---- a source
unanswered : (answers : List Answer) (tag : ℕ) → All (λ a. a.tag < tag) answers → is_answered answers tag ≡ false
unanswered answers tag are = list_any_none (λ a. a.tag == tag) answers
    (All-weaker (λ (a : Answer). a.tag < tag) (λ a. (a.tag == tag) ≡ false)
    (λ a below. ne_eqb a.tag tag (λ same. omega (arith, below, same))) answers are)

-- an open tag is answered, and is the last of the answers then
record Answers (answers : List Answer) (tag : ℕ) (next : List Answer) : Type 0 where
  pub answer : Answer
  pub of_tag : answer.tag ≡ tag
  pub added : next ≡ answers ++ answer ∷ []

answers_open : (queries : List Query) (answers : List Answer) (h : History) (e : Event) (tag : ℕ) (i : Interval) (found : Option Query)
    → open_query queries answers tag ≡ found → is_some found ≡ true
    → Answers answers tag (with_answer answers (option_map (λ q. answer_of q (moment_of h e) tag i) (open_query queries answers tag)))
answers_open queries answers h e tag i None is some = cc
answers_open queries answers h e tag i (Some q) is some = record {
  answer = answer_of q (moment_of h e) tag i;
  of_tag = refl;
  added = ap (λ f. with_answer answers (option_map (λ q. answer_of q (moment_of h e) tag i) f)) is;
}

opened : (queries : List Query) (answers : List Answer) (tag : ℕ) → is_answered answers tag ≡ false
    → is_some (find (λ q. q.tag == tag) queries) ≡ true → is_some (open_query queries answers tag) ≡ true
opened queries answers tag fresh some = ap (λ b. is_some (cond b None (find (λ q. q.tag == tag) queries))) fresh ∙ some

quiet_sources : (m : Maker) (h : History) → Bounds m → Behind m.osc h → Tags m h → IsQuiet h (sources m)
quiet_sources m h within b t = both (nat_lt m.answered m.asked) _ _ (IsQuiet h)
    (λ left.
    let reaching = drawn m in
    let telling = drawn reaching in
    let i = interval_around (time_told m.osc (last_below telling FALSE_ONE_OF == 0)) (LEAST_ERROR + last_below reaching ERRORS) in
    let tag = oldest_open m in
    let e = event.Source m.osc tag i in
    let live : is_live h e ≡ true = le-leb _ _ b.sync in
    let next : Maker = record telling { answered = m.answered + 1 } in
    let one_more : oldest_open next ≡ oldest_open m + 1 = omega (arith, within.asked, ltb-true _ _ left) in
    let is = opened (queries_of h) (answers_of h) tag (unanswered (answers_of h) tag t.answered)
    (t.waiting tag (omega arith) (omega (arith, within.asked, ltb-true _ _ left))) in
    let gives = answers_open (queries_of h) (answers_of h) h e tag i (open_query (queries_of h) (answers_of h) tag) refl is in
    let now : answers_of (followed_by h e) ≡ answers_of h ++ gives.answer ∷ [] = answers_live h e live ∙ gives.added in record {
      tags = record {
        many = ap (λ (xs : List Query). length xs) (queries_live h e live) ∙ t.many;
        asked = subst (All (λ (x : Query). x.tag < m.next_tag)) (sym (queries_live h e live)) t.asked;
        waiting = λ s low high.
            ap (λ xs. is_some (find (λ x. x.tag == s) xs)) (queries_live h e live) ∙ t.waiting s (omega (arith, low, one_more)) high;
        answered = subst (All (λ (x : Answer). x.tag < oldest_open next)) (sym now)
            (All-append (λ (x : Answer). x.tag < oldest_open next) (answers_of h) (gives.answer ∷ [])
            (All-weaker (λ (x : Answer). x.tag < oldest_open m) (λ x. x.tag < oldest_open next)
            (λ x below. omega (arith, below, one_more)) (answers_of h) t.answered)
            (All-cons (λ (x : Answer). x.tag < oldest_open next) gives.answer [] (omega (arith, gives.of_tag, one_more))
            (All-nil (λ (x : Answer). x.tag < oldest_open next))));
      };
      counted = live_counted h e live
          (subst AllCounted (sym (ap (λ b. cond b [] (noted e (note.UnknownTag tag) ∷ [])) is)) (All-nil IsCounted));
    })
    (λ _. quiet_reads m h b t)

-- ---- the end of a round
changes_counted : (e : Event) (rates : Rates) (rec : ClockRecord) (i : ℤ × ℤ) → AllCounted (changes e rates rec i)
changes_counted e rates rec i = let next = action.Publish (changed_record rates rec (event_osc e) i) in
    both (steps_to rates rec (event_osc e) i) _ _
    (λ (xs : List Action). AllCounted (xs ++ action.Publish (changed_record rates rec (event_osc e) i) ∷ []))
    (λ _. All-cons IsCounted (noted e (note.Step (rec.step + 1) (line rates rec (event_osc e)) (middle_of i))) (next ∷ []) tt (one next tt))
    (λ _. one next tt)

always : (xs : List Answer) → All (λ _. Unit {0}) xs
always [] = All-nil (λ (_ : Answer). Unit {0})
always (x ∷ xs) = All-cons (λ (_ : Answer). Unit {0}) x xs tt (always xs)

outcome_counted : (e : Event) (rates : Rates) (rec : ClockRecord) (answers : List Answer) (o : Outcome)
    → AllCounted (outcome_actions e rates rec answers o)
outcome_counted e rates rec answers (Waiting unanswered deadline) = All-nil IsCounted
outcome_counted e rates rec answers (Short answered required) = one (noted e (note.Short answered required)) tt
outcome_counted e rates rec answers (Split n) = one (noted e (note.Split n)) tt
outcome_counted e rates rec answers (Adopted n i) =
    let p = λ (a : Answer). are_apart (carried_to rates (event_osc e) a) i in
    let named : AllCounted (named_false e rates answers i) =
    All-map IsCounted (λ (a : Answer). noted e (note.False (source.Tag a.tag))) (filter p answers) (always (filter p answers)) in
    All-cons IsCounted (noted e (note.Adopted n i.0 i.1)) (named_false e rates answers i ++ changes e rates rec i) tt
    (All-append IsCounted (named_false e rates answers i) (changes e rates rec i) named (changes_counted e rates rec i))

quiet_adopts : (m : Maker) (h : History) → Bounds m → Behind m.osc h → Tags m h → IsQuiet h (adopts m)
quiet_adopts m h within b t = both (nat_le LEAST_ANSWERED m.answered) _ _ (IsQuiet h)
    (λ _.
    let e = event.Adopt m.osc LEAST_ANSWERED in
    let live : is_live h e ≡ true = le-leb _ _ b.sync in
    let next : Maker = record m { asked = 0; answered = 0 } in
    let tags : Tags next (followed_by h e) = record {
      many = ap (λ (xs : List Query). length xs) (queries_live h e live);
      asked = subst (All (λ (x : Query). x.tag < m.next_tag)) (sym (queries_live h e live))
          (All-nil (λ (x : Query). x.tag < m.next_tag));
      waiting = λ s low high. absurd (omega (arith, low, high));
      answered = subst (All (λ (x : Answer). x.tag < oldest_open next)) (sym (answers_live h e live))
          (All-nil (λ (x : Answer). x.tag < oldest_open next));
    } in record {
      tags = tags;
      counted = live_counted h e live
          (outcome_counted e (rates_of h) (current_record h) (answers_of h) (outcome (rates_of h) (answers_of h) LEAST_ANSWERED m.osc));
    })
    (λ _. quiet_sources m h within b t)

-- ---- the whole drill
quiet_as : (k : Kind) (m : Maker) (h : History) → Bounds m → Behind m.osc h → Tags m h → IsQuiet h (made_as k m)
quiet_as kind.Tick m h within b t = quiet_tick m h b t
quiet_as kind.Read m h within b t = quiet_reads m h b t
quiet_as kind.Query m h within b t = quiet_queries m h within b t
quiet_as kind.Source m h within b t = quiet_sources m h within b t
quiet_as kind.Adopt m h within b t = quiet_adopts m h within b t

quiet_made : (n : ℕ) (m : Maker) (h : History) → HasMade n m → Behind m.osc h → Tags m h → IsQuiet h (made m)
unfolding made
quiet_made n m h has b t =
    let now = drawn (advanced m) in
    quiet_as (kind_taken now) now h (record { asked = has.asked; answered = has.answered }) (later m.osc now.osc h (omega arith) b)
    (record { many = t.many; asked = t.asked; waiting = t.waiting; answered = t.answered })

quiet_all : (n before : ℕ) (m : Maker) (h : History) → before + n ≤ MAX_EVENTS → HasMade before m → Behind m.osc h → Tags m h
    → AllCounted (actions_in h) → AllCounted (actions_in (extended h (made_events n m)))
quiet_all zero before m h few has b t all = all
quiet_all (suc n) before m h few has b t all =
    let e = (made m).event in
    let fit = fit_made before m (omega (arith, few)) has in
    let quiet = quiet_made before m h has b t in
    let at = at_made m in
    let now : Behind (made m).next.osc (followed_by h e) =
    follows (made m).next.osc h e (later m.osc (made m).next.osc h (omega (arith, at.next)) b) fit.range (at.event ∙ sym at.next) in
    quiet_all n (before + 1) (made m).next (followed_by h e) (omega (arith, few)) fit.next now quiet.tags
    (All-append IsCounted (actions_in h) (actions_of h e) all quiet.counted)

pub no_other_line : HasNoOtherLine
unfolding live_osc queries_of answers_of
no_other_line seed n few =
    quiet_all n 0 (seeded seed) (Begun (record { rates = usual_rates }) first) (omega (arith, few)) (seeded_made seed)
    (record { sync = omega arith; lane = omega arith; ruled = tt; range = start_in_range })
    (record {
      many = refl;
      asked = All-nil (λ (x : Query). x.tag < 0);
      waiting = λ s low high. absurd (omega (arith, high));
      answered = All-nil (λ (x : Answer). x.tag < oldest_open (seeded seed));
    })
    (one (action.Publish (first_record first)) tt)
