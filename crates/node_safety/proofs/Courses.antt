-- How a position comes about: what its event may find and give at once, one thing behind the other.
use Rattle.std.proofs.Common.{◌≡◌, ℕ, ℤ, Bool, true, false, List, [], ◌∷◌, ◌++◌, Some, refl, sym, ap, ◌∙◌, subst}
use Rattle.std.specs.Prelude.{◌&&◌, map}
use Rattle.std.specs.List.{list_all}
use Rattle.slew_clock.specs.declared.record.ClockRecord.{ClockRecord}
use Rattle.slew_clock.specs.Change.{renewed_record}
use Rattle.clerk.specs.Outcome.{Outcome}
use Rattle.time_provider.specs.Past.{is_time}
use Rattle.dts_capture.specs.declared.event.Event.{Event}
use Rattle.dts_capture.specs.declared.event.Event.TheVariants as event
use Rattle.dts_capture.specs.declared.action.Action.{Action}
use Rattle.dts_capture.specs.declared.action.Action.TheVariants as action
use Rattle.dts_capture.specs.declared.action.NoteKind.{NoteKind}
use Rattle.dts_capture.specs.declared.action.NoteKind.TheVariants as note
use Rattle.sync_rules.specs.History.{Sync, Lane, event_part, event_osc, current_record}
use Rattle.sync_rules.specs.Live.{is_live}
use Rattle.sync_rules.specs.Rules.{rates_of, noted, reading_of, live_actions}
use Rattle.node_rules.specs.History.{Finding, RoundEnded, PeerEnded, QueryAsked, QueryAnswered, NodeHistory, Next, roster_of, bare, gives, findings_at, found_in}
use Rattle.node_rules.specs.Rounds.{Round, answers_in, own_at, outcome_of}
use Rattle.node_rules.specs.Ending.{gives_outcome, closed_in}
use Rattle.node_rules.specs.Rules.{actions_at}

-- what two tests say together, each says
pub both_true : (a b : Bool) → (a && b) ≡ true → (a ≡ true) × (b ≡ true)
both_true true true h = (refl, refl)
both_true true false h = cc
both_true false b h = cc

-- a finding that answers no query and ends no round
abbrev pub is_quiet : Finding → Bool
is_quiet (QueryAnswered peer lo hi) = false
is_quiet (RoundEnded outcome answers own) = false
is_quiet _ = true

-- and that asks none
abbrev pub is_plain : Finding → Bool
is_plain (QueryAnswered peer lo hi) = false
is_plain (RoundEnded outcome answers own) = false
is_plain (QueryAsked peer) = false
is_plain _ = true

-- a note of no reading, adoption, step or false source
abbrev pub is_plain_kind : NoteKind → Bool
is_plain_kind (note.Reading value inaccuracy step number) = false
is_plain_kind (note.Adopted n lo hi) = false
is_plain_kind (note.Step to old new) = false
is_plain_kind (note.False s) = false
is_plain_kind _ = true

-- an action that is no such note and publishes nothing
abbrev pub is_plain_action : Action → Bool
is_plain_action (action.Publish rec) = false
is_plain_action (action.Log n) = is_plain_kind n.kind
is_plain_action _ = true

-- an event of a direct round
abbrev pub IsDirect : Event → Type 0
IsDirect (event.Query osc tag) = Unit {0}
IsDirect (event.Source osc tag i) = Unit {0}
IsDirect (event.Adopt osc required) = Unit {0}
IsDirect _ = ⊥

-- a live event of the sync part
pub record IsLiveSync (before : NodeHistory) (e : Event) : Type 0 where
  pub live : is_live (bare before) e ≡ true
  pub sync : event_part e ≡ Sync

-- a live event of a lane
pub record IsLiveLane (before : NodeHistory) (e : Event) : Type 0 where
  pub live : is_live (bare before) e ≡ true
  pub lane : ℕ
  pub is : event_part e ≡ Lane lane

-- what an event may find and give at once, behind what it found and gave before
pub data Move (before : NodeHistory) (e : Event) (h : NodeHistory) (findings : List Finding) (given : List Action) : Type 0 where
  -- nothing that counts here
  plain : list_all is_plain findings ≡ true → list_all is_plain_action given ≡ true → Move before e h findings given
  -- a query is asked
  asked : IsLiveSync before e → list_all is_quiet findings ≡ true → list_all is_plain_action given ≡ true → Move before e h findings given
  -- a query is answered
  answered : (peer : ℕ) (lo hi : ℤ) → IsLiveSync before e → is_time lo ≡ true → is_time hi ≡ true
      → findings ≡ QueryAnswered peer lo hi ∷ [] → given ≡ [] → Move before e h findings given
  -- the clock is renewed
  renewed : (rec : ClockRecord) → IsLiveSync before e → renewed_record (rates_of (bare h)) (current_record (bare h)) (event_osc e)
      ≡ Some rec
      → findings ≡ [] → given ≡ action.Publish rec ∷ [] → Move before e h findings given
  -- a round ends
  ended : (round : Round) (o : Outcome) → IsLiveSync before e → outcome_of h round (event_osc e) ≡ o
      → findings ≡ RoundEnded o (answers_in (roster_of h) (found_in h)) (own_at h (event_osc e))
      ∷ map PeerEnded (closed_in (roster_of h) (found_in h) round)
      → given ≡ gives_outcome e h o ++ map (action.Close (event_osc e)) (closed_in (roster_of h) (found_in h) round)
      → Move before e h findings given
  -- an event of a direct round
  direct : IsLiveSync before e → IsDirect e → h ≡ Next before e [] [] → findings ≡ [] → given ≡ live_actions (bare before) e
      → Move before e h findings given
  -- a lane reads the clock
  read : IsLiveLane before e → findings ≡ [] → given ≡ noted e (reading_of (bare before) (event_osc e)) ∷ []
      → Move before e h findings given

-- what an event may have found and given so far
pub data Steps (before : NodeHistory) (e : Event) : List Finding → List Action → Type 0 where
  begun : Steps before e [] []
  moved : (findings : List Finding) (given : List Action) (more : List Finding) (further : List Action) → Steps before e findings given
      → Move before e (Next before e findings given) more further → Steps before e (findings ++ more) (given ++ further)

-- the history ends with such a position
pub record Course (before : NodeHistory) (e : Event) (h : NodeHistory) : Type 0 where
  pub findings : List Finding
  pub given : List Action
  pub is : h ≡ Next before e findings given
  pub steps : Steps before e findings given

pub starts : {before : NodeHistory} {e : Event} → Course before e (Next before e [] [])
starts = record { findings = []; given = []; is = refl; steps = begun }

pub moves : {before : NodeHistory} {e : Event} (h : NodeHistory) (more : List Finding) (further : List Action) → Course before e h
    → Move before e h more further → Course before e (gives h more further)
moves {before} {e} h more further course move = record {
  findings = course.findings ++ more;
  given = course.given ++ further;
  is = ap (λ x. gives x more further) course.is;
  steps = moved course.findings course.given more further course.steps (subst (λ x. Move before e x more further) course.is move);
}

-- a position of the rules is one
pub steps_of : (before : NodeHistory) (e : Event) (findings : List Finding) (given : List Action) (after : NodeHistory)
    → Next before e findings given ≡ after → Course before e after → Steps before e findings given
steps_of before e findings given after same course =
    let equal : Next before e course.findings course.given ≡ Next before e findings given = sym (same ∙ course.is) in
    let step : Steps before e (findings_at (Next before e course.findings course.given))
    (actions_at (Next before e course.findings course.given)) =
    course.steps in
    subst (λ h. Steps before e (findings_at h) (actions_at h)) equal step
