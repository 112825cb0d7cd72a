-- What holds of all actions that a position gives.
use Rattle.std.proofs.Common.{◌≡◌, ℕ, zero, ℤ, ◌+◌, Bool, true, false, cond, List, [], ◌∷◌, ◌++◌, Option, Some, None, refl, sym, ap, ◌∙◌, subst, arith}
use Rattle.std.specs.Prelude.{All, Contains, map, filter}
use Rattle.std.specs.List.{list_all}
use Rattle.std.proofs.lemmas.List.Elements.{All-nil, All-cons, All-append, All-head, All-tail, Contains-append_left, Contains-append_right}
use Rattle.slew_clock.specs.declared.record.ClockRecord.{ClockRecord}
use Rattle.slew_clock.specs.Line.{line}
use Rattle.slew_clock.specs.Change.{middle_of, changed_record, renewed_record}
use Rattle.clerk.specs.Outcome.{Outcome, Waiting, Short, Split, Adopted}
use Rattle.dts_capture.specs.declared.event.Event.{Event}
use Rattle.dts_capture.specs.declared.action.Action.{Action}
use Rattle.dts_capture.specs.declared.action.Action.TheVariants as action
use Rattle.dts_capture.specs.declared.action.NoteKind.TheVariants as note
use Rattle.dts_capture.specs.declared.action.FalseSource.TheVariants as source
use Rattle.sync_rules.specs.History.{event_osc, current_record}
use Rattle.sync_rules.specs.Rounds.{Answer, carried_to, are_apart}
use Rattle.sync_rules.specs.Rules.{rates_of, noted, changes, steps_to, reading_of, live_actions}
use Rattle.sync_rules.proofs.Choices.{both}
use Rattle.node_rules.specs.History.{Finding, RoundEnded, PeerEnded, NodeHistory, Next, roster_of, bare, found_in}
use Rattle.node_rules.specs.Rounds.{Round, answers_in, own_at, outcome_of}
use Rattle.node_rules.specs.Ending.{false_servers, false_own, gives_outcome, closed_in}
use Rattle.node_safety.proofs.Courses.{both_true, is_plain_action, IsDirect, IsLiveSync, IsLiveLane, Move, Steps}
use Rattle.node_safety.proofs.Courses.Move.{plain, asked, answered, renewed, ended, direct, read}
use Rattle.node_safety.proofs.Courses.Steps.{begun, moved}

-- what a round found at its end
abbrev pub end_of : NodeHistory → ℕ → ℕ → ℤ × ℤ → Finding
end_of h osc n i = RoundEnded (Adopted n i) (answers_in (roster_of h) (found_in h)) (own_at h osc)

-- it holds of the actions of an adoption
pub record HoldsOfAdoption (P : Action → Type 0) (e : Event) (h : NodeHistory) (n : ℕ) (i : ℤ × ℤ) : Type 0 where
  pub adopted : P (noted e (note.Adopted n i.0 i.1))
  pub servers : All (λ a. are_apart (carried_to (rates_of (bare h)) (event_osc e) a) i ≡ true
      → P (noted e (note.False (source.Peer a.tag))))
      (answers_in (roster_of h) (found_in h))
  pub own : (own : ℤ × ℤ) → own_at h (event_osc e) ≡ Some own → are_apart own i ≡ true → P (noted e (note.False source.Own))
  pub stepped : P (noted e
      (note.Step ((current_record (bare h)).step + 1) (line (rates_of (bare h)) (current_record (bare h)) (event_osc e)) (middle_of i)))
  pub published : P (action.Publish (changed_record (rates_of (bare h)) (current_record (bare h)) (event_osc e) i))

-- it holds of what a position may give, whose findings are these in the end
pub record Holds (before : NodeHistory) (e : Event) (final : List Finding) (P : Action → Type 0) : Type 0 where
  pub plain : (a : Action) → is_plain_action a ≡ true → P a
  pub renewed : (findings : List Finding) (given : List Action) (rec : ClockRecord) → Steps before e findings given → IsLiveSync before e
      → renewed_record (rates_of (bare before)) (current_record (bare (Next before e findings given))) (event_osc e) ≡ Some rec
      → P (action.Publish rec)
  pub adoption : (findings : List Finding) (given : List Action) (round : Round) (n : ℕ) (i : ℤ × ℤ) → Steps before e findings given
      → IsLiveSync before e
      → outcome_of (Next before e findings given) round (event_osc e) ≡ Adopted n i
      → ((f : Finding) → Contains findings f → Contains final f)
      → Contains final (end_of (Next before e findings given) (event_osc e) n i)
      → HoldsOfAdoption P e (Next before e findings given) n i
  pub direct : IsLiveSync before e → IsDirect e → All P (live_actions (bare before) e)
  pub read : IsLiveLane before e → P (noted e (reading_of (bare before) (event_osc e)))

plain_all : (P : Action → Type 0) → ((a : Action) → is_plain_action a ≡ true → P a) → (given : List Action)
    → list_all is_plain_action given ≡ true → All P given
plain_all P h [] all = All-nil P
plain_all P h (a ∷ given) all =
    let parts = both_true (is_plain_action a) (list_all is_plain_action given) all in
    All-cons P a given (h a parts.0) (plain_all P h given parts.1)

closes_all : (P : Action → Type 0) → ((a : Action) → is_plain_action a ≡ true → P a) → (osc : ℕ) (closed : List ℕ)
    → All P (map (action.Close osc) closed)
closes_all P h osc [] = All-nil P
closes_all P h osc (peer ∷ closed) = All-cons P (action.Close osc peer) _ (h (action.Close osc peer) refl) (closes_all P h osc closed)

pub only : (P : Action → Type 0) (a : Action) → P a → All P (a ∷ [])
only P a h = All-cons P a [] h (All-nil P)

filter_one : (P : Action → Type 0) (g : Answer → Action) (a : Answer) (rest : List Answer) (b : Bool) → (b ≡ true → P (g a))
    → All P (map g rest) → All P (map g (cond b (a ∷ rest) rest))
filter_one P g a rest true h all = All-cons P (g a) (map g rest) (h refl) all
filter_one P g a rest false h all = all

pub filtered : (P : Action → Type 0) (g : Answer → Action) (p : Answer → Bool) (answers : List Answer)
    → All (λ a. p a ≡ true → P (g a)) answers → All P (map g (filter p answers))
filtered P g p [] all = All-nil P
filtered P g p (a ∷ answers) all =
    filter_one P g a (filter p answers) (p a) (All-head (λ x. p x ≡ true → P (g x)) a answers all)
    (filtered P g p answers (All-tail (λ x. p x ≡ true → P (g x)) a answers all))

own_all : (P : Action → Type 0) (e : Event) (i : ℤ × ℤ) (found own : Option (ℤ × ℤ)) → found ≡ own
    → ((j : ℤ × ℤ) → found ≡ Some j → are_apart j i ≡ true → P (noted e (note.False source.Own))) → All P (false_own e own i)
own_all P e i found None is h = All-nil P
own_all P e i found (Some j) is h = both (are_apart j i) _ _ (All P) (λ apart. only P _ (h j is apart)) (λ _. All-nil P)

adoption_all : (P : Action → Type 0) (e : Event) (h : NodeHistory) (n : ℕ) (i : ℤ × ℤ) → HoldsOfAdoption P e h n i
    → All P (gives_outcome e h (Adopted n i))
adoption_all P e h n i holds =
    let rates = rates_of (bare h) in
    let rec = current_record (bare h) in
    let falses = false_servers e rates (answers_in (roster_of h) (found_in h)) i in
    let owns = false_own e (own_at h (event_osc e)) i in
    All-cons P _ (falses ++ owns ++ changes e rates rec i) holds.adopted
    (All-append P (falses ++ owns) (changes e rates rec i)
    (All-append P falses owns
    (filtered P (λ a. noted e (note.False (source.Peer a.tag))) (λ a. are_apart (carried_to rates (event_osc e) a) i)
    (answers_in (roster_of h) (found_in h)) holds.servers)
    (own_all P e i (own_at h (event_osc e)) (own_at h (event_osc e)) refl holds.own))
    (All-append P _ _ (both (steps_to rates rec (event_osc e) i) _ _ (All P) (λ _. only P _ holds.stepped) (λ _. All-nil P))
    (only P _ holds.published)))

-- the end of a round that adopts is among the findings of the position
pub end_is_in : (final findings more : List Finding) (h : NodeHistory) (osc n : ℕ) (i : ℤ × ℤ) (o : Outcome) (rest : List Finding) → o
    ≡ Adopted n i
    → more ≡ RoundEnded o (answers_in (roster_of h) (found_in h)) (own_at h osc) ∷ rest
    → ((f : Finding) → Contains (findings ++ more) f → Contains final f)
    → Contains final (end_of h osc n i)
end_is_in final findings more h osc n i o rest same f inside =
    let ends : more ≡ end_of h osc n i ∷ rest =
    f ∙ ap (λ x. RoundEnded x (answers_in (roster_of h) (found_in h)) (own_at h osc) ∷ rest) same in
    inside (end_of h osc n i)
    (Contains-append_right findings more (end_of h osc n i)
    (subst (λ fs. Contains fs (end_of h osc n i)) (sym ends) (zero, omega arith, refl)))

move_all : (P : Action → Type 0) (before : NodeHistory) (e : Event) (final findings : List Finding) (given : List Action)
    (more : List Finding) (further : List Action)
    → Holds before e final P → Steps before e findings given → ((f : Finding) → Contains (findings ++ more) f → Contains final f)
    → Move before e (Next before e findings given) more further → All P further
move_all P before e final findings given more further holds steps inside (plain f g) = plain_all P holds.plain further g
move_all P before e final findings given more further holds steps inside (asked at f g) = plain_all P holds.plain further g
move_all P before e final findings given more further holds steps inside (answered peer lo hi at low high f g) =
    subst (All P) (sym g) (All-nil P)
move_all P before e final findings given more further holds steps inside (renewed rec at is f g) =
    subst (All P) (sym g) (only P _ (holds.renewed findings given rec steps at is))
move_all P before e final findings given more further holds steps inside (direct at is first f g) =
    subst (All P) (sym g) (holds.direct at is)
move_all P before e final findings given more further holds steps inside (read at f g) = subst (All P) (sym g) (only P _ (holds.read at))
move_all P before e final findings given more further holds steps inside (ended round o at is f g) =
    subst (All P) (sym g) (All-append P _ _ (outcome_all o is f) (closes_all P holds.plain (event_osc e) _))
  where
    outcome_all : (outcome : Outcome) → outcome_of (Next before e findings given) round (event_osc e) ≡ outcome
        → more ≡ RoundEnded outcome (answers_in (roster_of before) (found_in (Next before e findings given)))
        (own_at (Next before e findings given) (event_osc e))
        ∷ map PeerEnded (closed_in (roster_of before) (found_in (Next before e findings given)) round)
        → All P (gives_outcome e (Next before e findings given) outcome)
    outcome_all (Waiting u d) comes same = All-nil P
    outcome_all (Short a r) comes same = only P _ (holds.plain _ refl)
    outcome_all (Split n) comes same = only P _ (holds.plain _ refl)
    outcome_all (Adopted n i) comes same =
        adoption_all P e (Next before e findings given) n i
        (holds.adoption findings given round n i steps at comes (λ x c. inside x (Contains-append_left findings more x c))
        (end_is_in final findings more (Next before e findings given) (event_osc e) n i (Adopted n i) _ refl same inside))

-- so it holds of all of them
pub given_all : (P : Action → Type 0) (before : NodeHistory) (e : Event) (final findings : List Finding) (given : List Action)
    → Holds before e final P
    → ((f : Finding) → Contains findings f → Contains final f) → Steps before e findings given → All P given
given_all P before e final [] [] holds inside begun = All-nil P
given_all P before e final _ _ holds inside (moved findings given more further steps move) =
    All-append P given further
    (given_all P before e final findings given holds (λ f c. inside f (Contains-append_left findings more f c)) steps)
    (move_all P before e final findings given more further holds steps inside move)
