-- A node without servers follows the rules of a node alone.
use Rattle.std.proofs.Common.{◌≡◌, ℕ, List, [], ◌∷◌, Some, None, true, false, Bool, refl, sym, ◌∙◌, ap, subst}
use Rattle.std.specs.Prelude.{Option, is_some, is_none, if◌then◌else◌, ◌&&◌, nat_lt, length}
use Rattle.slew_clock.specs.declared.record.ClockRecord.{ClockRecord}
use Rattle.slew_clock.specs.Change.{renewed_record}
use Rattle.roster.specs.declared.settings.Settings.{Settings as NodeSettings}
use Rattle.roster.specs.RosterData.{RosterData}
use Rattle.server_roles.specs.Sources.{sources}
use Rattle.dts_capture.specs.declared.event.Event.{Event}
use Rattle.dts_capture.specs.declared.event.Event.TheVariants as event
use Rattle.dts_capture.specs.declared.action.Action.{Action}
use Rattle.sync_rules.specs.History.{Then, event_osc, current_record}
use Rattle.sync_rules.specs.Live.{is_live}
use Rattle.sync_rules.specs.Rules.{rates_of, actions_of, publication, live_actions, regressed_actions, extended as extended_alone}
use Rattle.node_rules.specs.History.{NodeHistory, Began, Next, roster_of, bare, gives, found_in}
use Rattle.node_rules.specs.Rounds.{is_due, is_long_enough, open_round, next_sources}
use Rattle.node_rules.specs.Asking.{opens_round}
use Rattle.node_rules.specs.Ending.{evaluates, evaluates_open}
use Rattle.node_rules.specs.Rules.{followed_by, extended, live_event, regressed_event, may_open, opens_if_due}
use Rattle.node_rules.specs.Laws.{HasNoPeer, HaveNoPeer, FollowsRulesAlone}

-- without servers there is no source
neither : {A : Type 0} (a b : Bool) (x : A) → (if a then x else if b then x else x) ≡ x
neither true b x = refl
neither false true x = refl
neither false false x = refl

no_sources : (s : NodeSettings) (round last : ℕ) → sources (record { settings = s; entries = [] }) round last ≡ []
no_sources s round last = neither _ _ []

no_sources_of : (roster : RosterData) → roster.entries ≡ [] → (round last : ℕ) → sources roster round last ≡ []
no_sources_of roster none round last =
    ap (λ entries. sources (record { settings = roster.settings; entries = entries }) round last) none ∙ no_sources roster.settings round last

-- so no round is due
not_due : (history : NodeHistory) → (roster_of history).entries ≡ [] → (osc : ℕ) → is_due history osc ≡ false
not_due history none osc = ap (λ s. nat_lt 0 (length s) && is_long_enough history osc) (no_sources_of (roster_of history) none _ _)

and_false : (a : Bool) → (a && false) ≡ false
and_false true = refl
and_false false = refl

-- and none opens, nor is one open
none_opens : (e : Event) (word : ℕ) (history : NodeHistory) → (roster_of history).entries ≡ [] → opens_if_due e word history ≡ history
none_opens e word history none =
    let not_now : may_open e history ≡ false =
    ap (λ due. is_none (open_round (found_in history)) && due) (not_due history none (event_osc e)) ∙ and_false _ in
    ap (λ b. if b then evaluates e (opens_round e word (next_sources (roster_of history) (found_in history)) history) else history) not_now

none_is_evaluated : (e : Event) (history : NodeHistory) → found_in history ≡ [] → evaluates e history ≡ history
none_is_evaluated e history quiet = ap (λ found. evaluates_open e history (open_round found)) quiet

-- what follows an event of a node alone: the same actions, and nothing is found
record IsSame (before : NodeHistory) (e : Event) (given : List Action) (after : NodeHistory) : Type 0 where
  same : bare after ≡ Then (bare before) e given
  quiet : found_in after ≡ []
  roster : roster_of after ≡ roster_of before

-- a tick
tick_is_same : (before : NodeHistory) (osc word : ℕ) → found_in before ≡ [] → (roster_of before).entries ≡ [] → (r : Option ClockRecord)
    → IsSame before (event.Tick osc word) (publication r)
    (let now = Next before (event.Tick osc word) [] [] in
    if is_some r then gives now [] (publication r) else opens_if_due (event.Tick osc word) word (evaluates (event.Tick osc word) now))
tick_is_same before osc word quiet none (Some rec) = record { same = refl; quiet = quiet; roster = refl }
tick_is_same before osc word quiet none None =
    let now : NodeHistory = Next before (event.Tick osc word) [] [] in
    let stays : opens_if_due (event.Tick osc word) word (evaluates (event.Tick osc word) now) ≡ now =
    ap (opens_if_due (event.Tick osc word) word) (none_is_evaluated (event.Tick osc word) now quiet)
    ∙ none_opens (event.Tick osc word) word now none in
    subst (λ after. IsSame before (event.Tick osc word) [] after) (sym stays) (record { same = refl; quiet = quiet; roster = refl })

live_is_same : (before : NodeHistory) → found_in before ≡ [] → (roster_of before).entries ≡ [] → (e : Event) → HasNoPeer e
    → IsSame before e (live_actions (bare before) e) (live_event before e)
unfolding current_record
live_is_same before quiet none (event.Tick osc word) alone =
    tick_is_same before osc word quiet none (renewed_record (rates_of (bare before)) (current_record (bare before)) osc)
live_is_same before quiet none (event.Read osc) alone = record { same = refl; quiet = quiet; roster = refl }
live_is_same before quiet none (event.Query osc tag) alone = record { same = refl; quiet = quiet; roster = refl }
live_is_same before quiet none (event.Source osc tag i) alone = record { same = refl; quiet = quiet; roster = refl }
live_is_same before quiet none (event.Adopt osc required) alone = record { same = refl; quiet = quiet; roster = refl }
live_is_same before quiet none (event.Stream _ _ _) alone = elim alone [ ]
live_is_same before quiet none (event.Gram _ _ _) alone = elim alone [ ]
live_is_same before quiet none (event.Lost _ _) alone = elim alone [ ]
live_is_same before quiet none (event.Unsent _ _) alone = elim alone [ ]
live_is_same before quiet none (event.Ask _ _ _) alone = elim alone [ ]

regressed_is_same : (before : NodeHistory) → found_in before ≡ [] → (e : Event) → HasNoPeer e
    → IsSame before e (regressed_actions (bare before) e) (regressed_event before e)
regressed_is_same before quiet (event.Tick osc word) alone = record { same = refl; quiet = quiet; roster = refl }
regressed_is_same before quiet (event.Read osc) alone = record { same = refl; quiet = quiet; roster = refl }
regressed_is_same before quiet (event.Query osc tag) alone = record { same = refl; quiet = quiet; roster = refl }
regressed_is_same before quiet (event.Source osc tag i) alone = record { same = refl; quiet = quiet; roster = refl }
regressed_is_same before quiet (event.Adopt osc required) alone = record { same = refl; quiet = quiet; roster = refl }
regressed_is_same before quiet (event.Stream _ _ _) alone = elim alone [ ]
regressed_is_same before quiet (event.Gram _ _ _) alone = elim alone [ ]
regressed_is_same before quiet (event.Lost _ _) alone = elim alone [ ]
regressed_is_same before quiet (event.Unsent _ _) alone = elim alone [ ]
regressed_is_same before quiet (event.Ask _ _ _) alone = elim alone [ ]

either_is_same : (before : NodeHistory) → found_in before ≡ [] → (roster_of before).entries ≡ [] → (e : Event) → HasNoPeer e → (live : Bool)
    → IsSame before e (if live then live_actions (bare before) e else regressed_actions (bare before) e)
    (if live then live_event before e else regressed_event before e)
either_is_same before quiet none e alone true = live_is_same before quiet none e alone
either_is_same before quiet none e alone false = regressed_is_same before quiet e alone

event_is_same : (before : NodeHistory) → found_in before ≡ [] → (roster_of before).entries ≡ [] → (e : Event) → HasNoPeer e
    → IsSame before e (actions_of (bare before) e) (followed_by before e)
unfolding followed_by actions_of
event_is_same before quiet none e alone = either_is_same before quiet none e alone (is_live (bare before) e)

events_are_same : (before : NodeHistory) → found_in before ≡ [] → (roster_of before).entries ≡ [] → (events : List Event) → HaveNoPeer events
    → bare (extended before events) ≡ extended_alone (bare before) events
events_are_same before quiet none [] alone = refl
events_are_same before quiet none (e ∷ events) alone = let one = event_is_same before quiet none e alone.0 in
    events_are_same (followed_by before e) one.quiet (ap (λ r. r.entries) one.roster ∙ none) events alone.1
    ∙ ap (λ history. extended_alone history events) one.same

pub follows_rules_alone : FollowsRulesAlone
follows_rules_alone roster start events none alone = events_are_same (Began roster start) refl none events alone
