-- Each list of events has a history of the rules, and an honest world where its rounds are honest.
use Rattle.std.proofs.Common.{◌≡◌, ℕ, ℤ, Bool, List, [], ◌∷◌, true, false, refl, sym, ap, ◌∙◌, subst}
use Rattle.std.specs.Prelude.{if◌then◌else◌}
use Rattle.roster.specs.RosterData.{RosterData}
use Rattle.dts_capture.specs.declared.event.Event.{Event}
use Rattle.dts_capture.specs.declared.event.Event.TheVariants as event
use Rattle.dts_capture.specs.declared.action.Action.{Action}
use Rattle.sync_rules.specs.Live.{is_live}
use Rattle.sync_rules.specs.Rules.{live_actions, regressed_actions, actions_of}
use Rattle.sync_rules.specs.History.{History, Then, Start, start_of, current_record}
use Rattle.sync_rules.specs.Ranges.{IsInRange}
use Rattle.sync_rules.specs.World.{IsRightFirst, adopts_from, exact_world, IsHonest as IsHonestAlone}
use Rattle.sync_rules.specs.Laws.{AdoptsNothing}
use Rattle.sync_rules.proofs.Honest.{can_be_honest}
use Rattle.node_rules.specs.History.{Finding, NodeHistory, Began, Next, bare}
use Rattle.node_rules.specs.Rules.{IsRuled, live_event, regressed_event, followed_by, extended}
use Rattle.node_safety.specs.Laws.{AreInRange, EventsHaveHistories, ReadsAreAsAlone, ExactWorldsAreHonest}
use Rattle.node_safety.proofs.Walks.{course}

-- ---- histories
ruled_as : (before : NodeHistory) (e : Event) (findings : List Finding) (given : List Action) → followed_by before e
    ≡ Next before e findings given → IsRuled before
    → IsRuled (followed_by before e)
ruled_as before e findings given is ruled = subst IsRuled (sym is) (sym is, ruled)

followed_is_ruled : (before : NodeHistory) (e : Event) → IsRuled before → IsRuled (followed_by before e)
followed_is_ruled before e ruled = let c = course before e in ruled_as before e c.findings c.given c.is ruled

pub extended_is_ruled : (h : NodeHistory) (events : List Event) → IsRuled h → IsRuled (extended h events)
extended_is_ruled h [] ruled = ruled
extended_is_ruled h (e ∷ events) ruled = extended_is_ruled (followed_by h e) events (followed_is_ruled h e ruled)

pub extended_in_range : (h : NodeHistory) (events : List Event) → IsInRange (bare h) → AreInRange events
    → IsInRange (bare (extended h events))
extended_in_range h [] range all = range
extended_in_range h (e ∷ events) range all =
    let c = course h e in
    extended_in_range (followed_by h e) events (subst (λ x. IsInRange (bare x)) (sym c.is) (range, all.0)) all.1

pub events_have_histories : EventsHaveHistories
events_have_histories = record {
  ruled = λ roster start events. extended_is_ruled (Began roster start) events tt;
  in_range = λ roster start events range all. extended_in_range (Began roster start) events range all;
}

-- ---- reads
reads_either : (before : NodeHistory) (osc : ℕ) (live : Bool)
    → bare (if live then live_event before (event.Read osc) else regressed_event before (event.Read osc))
    ≡ Then (bare before) (event.Read osc) (if live then live_actions (bare before) (event.Read osc) else regressed_actions (bare before) (event.Read osc))
unfolding current_record
reads_either before osc true = refl
reads_either before osc false = refl

pub reads_are_as_alone : ReadsAreAsAlone
unfolding followed_by actions_of
reads_are_as_alone before osc = reads_either before osc (is_live (bare before) (event.Read osc))

-- ---- honest worlds
pub exact_worlds_are_honest : ExactWorldsAreHonest
exact_worlds_are_honest history begins right direct rounds =
    record { alone = (can_be_honest.exact (bare history) begins right direct).0; rounds = rounds }

-- a history without an adoption of a direct round has one
abbrev pub AdoptNothing : List Event → Type 0
AdoptNothing [] = Unit {0}
AdoptNothing (e ∷ events) = ((h : History) → adopts_from h e ≡ []) × AdoptNothing events

extended_adopts_nothing : (h : NodeHistory) (events : List Event) → AdoptsNothing (bare h) → AdoptNothing events
    → AdoptsNothing (bare (extended h events))
extended_adopts_nothing h [] none all = none
extended_adopts_nothing h (e ∷ events) none all =
    let c = course h e in
    extended_adopts_nothing (followed_by h e) events (subst (λ x. AdoptsNothing (bare x)) (sym c.is) (all.0 (bare h), none)) all.1

extended_start : (h : NodeHistory) (events : List Event) → start_of (bare (extended h events)) ≡ start_of (bare h)
extended_start h [] = refl
extended_start h (e ∷ events) = extended_start (followed_by h e) events ∙ ap (λ x. start_of (bare x)) (course h e).is

pub first_is_right : (roster : RosterData) (start : Start) (events : List Event) (time : ℤ) → IsRightFirst start time
    → IsRightFirst (start_of (bare (extended (Began roster start) events))) time
first_is_right roster start events time right = subst (λ s. IsRightFirst s time) (sym (extended_start (Began roster start) events)) right

pub alone_is_honest : (roster : RosterData) (start : Start) (events : List Event) (begins : ℤ) → IsRightFirst start begins
    → AdoptNothing events
    → IsHonestAlone (bare (extended (Began roster start) events)) (exact_world (bare (extended (Began roster start) events)) begins)
alone_is_honest roster start events begins right none =
    (can_be_honest.without_adoption (bare (extended (Began roster start) events)) begins (first_is_right roster start events begins right)
    (extended_adopts_nothing (Began roster start) events tt none)).0
