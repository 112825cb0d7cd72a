-- A history with an honest round that adopts an interval, and one in which one false interval of two leads a reading astray.
use Rattle.std.proofs.Common.{◌≡◌, ℕ, zero, ℤ, pos, true, lit≤, List, [], ◌∷◌, Some, None, refl, sym, subst, arith}
use Rattle.std.specs.Prelude.{Contains}
use Rattle.std.specs.List.{list_all}
use Rattle.std.proofs.lemmas.Int.{ints}
use Rattle.std.proofs.lemmas.List.Sums.{AllPass-from_list_all}
use Rattle.slew_clock.specs.Line.{line}
use Rattle.slew_clock.specs.Reading.{interval_of, inaccuracy_of}
use Rattle.clerk.specs.Outcome.{Adopted, concluded}
use Rattle.pdu_fields.specs.Tables.{reading}
use Rattle.utc_value.specs.Octets.{octets_of}
use Rattle.dts_capture.specs.declared.event.Event.{Event}
use Rattle.dts_capture.specs.declared.event.Event.TheVariants as event
use Rattle.dts_capture.specs.declared.action.NoteKind.TheVariants as note
use Rattle.sync_rules.specs.History.{given_at, current_record}
use Rattle.sync_rules.specs.Live.{live_osc}
use Rattle.sync_rules.specs.Rounds.{Answer}
use Rattle.sync_rules.specs.Rules.{noted}
use Rattle.sync_rules.specs.World.{time_at, exact_world}
use Rattle.sync_rules.specs.Safety.{Shown, Gives, ContainsTime}
use Rattle.node_rules.specs.History.{RoundEnded, NodeHistory, Began, bare, Found, found_in}
use Rattle.node_rules.specs.Sessions.{session_of, octets_from, taken_from}
use Rattle.node_rules.specs.Rules.{followed_by, extended}
use Rattle.node_rules.proofs.Nodes.{clerk, two_servers, unknown, tick, acknowledges, tells}
use Rattle.node_safety.specs.World.{is_honest}
use Rattle.node_safety.specs.Laws.{is_half_honest_end, AdoptsHonestly, HalfIsTooMany}
use Rattle.node_safety.proofs.Worlds.{extended_is_ruled, extended_in_range, first_is_right, alone_is_honest}

-- true time when the last answer comes, at 3000
abbrev true_time : ℕ
true_time = 5000000000

abbrev begins : ℤ
begins = pos 4999997000

-- ---- one server, which tells true time
abbrev honest_events : List Event
honest_events = tick 0 ∷ tick 0 ∷ acknowledges 0 ∷ tells 3000 0 2 true_time ∷ []

abbrev honest_history : NodeHistory
honest_history = extended (Began clerk unknown) honest_events

abbrev its_answer : Answer
its_answer = record {
  tag = 0;
  asked = record { position = 3; osc = 1000 };
  got = record { position = 4; osc = 3000 };
  lo = pos 4999999000;
  hi = pos 5000001000;
}

abbrev its_end : Found
its_end = record {
  at = record { position = 4; osc = 3000 };
  finding = RoundEnded (Adopted 1 (pos 4999999000, pos 5000003002)) (its_answer ∷ []) None;
}

first_is_found : Contains (found_in honest_history) its_end
unfolding followed_by current_record live_osc line interval_of inaccuracy_of session_of octets_from taken_from concluded reading octets_of
first_is_found = (zero, lit≤ tt, refl)

rounds_are_honest : list_all (is_honest (exact_world (bare honest_history) begins)) (found_in honest_history) ≡ true
unfolding followed_by current_record live_osc line interval_of inaccuracy_of session_of octets_from taken_from concluded reading octets_of
rounds_are_honest = refl

pub adopts_honestly : AdoptsHonestly
adopts_honestly = record {
  history = honest_history;
  world = exact_world (bare honest_history) begins;
  ruled = extended_is_ruled (Began clerk unknown) honest_events tt;
  in_range =
      extended_in_range (Began clerk unknown) honest_events
      (record { osc = lit≤ tt; value = (omega (arith, ints), omega (arith, ints)); first = tt })
      (lit≤ tt, (lit≤ tt, (lit≤ tt, (lit≤ tt, tt))));
  honest = record {
    alone = alone_is_honest clerk unknown honest_events begins tt ((λ h. refl), ((λ h. refl), ((λ h. refl), ((λ h. refl), tt))));
    rounds = AllPass-from_list_all (is_honest (exact_world (bare honest_history) begins)) (found_in honest_history) rounds_are_honest;
  };
  found = its_end;
  is = first_is_found;
  adopts = tt;
}

-- ---- two servers, of which the second one's interval begins after true time
abbrev false_time : ℕ
false_time = 5000001500

abbrev events_of_two : List Event
events_of_two =
    tick 0 ∷ tick 0 ∷ acknowledges 0 ∷ acknowledges 1 ∷ tells 3000 0 2 true_time ∷ tells 3000 1 2 false_time ∷ event.Read 3000 ∷ []

abbrev history_of_two : NodeHistory
history_of_two = extended (Began two_servers unknown) events_of_two

half_are_false : list_all
    (λ f. is_half_honest_end (exact_world (bare history_of_two) begins)
    ((exact_world (bare history_of_two) begins).time f.at.position) f.finding)
    (found_in history_of_two) ≡ true
unfolding followed_by current_record live_osc line interval_of inaccuracy_of session_of octets_from taken_from concluded reading octets_of
half_are_false = refl

astray : Shown
astray = record { value = pos 5000001751; inaccuracy = Some 1252; step = 1 }

reads_astray : given_at (bare history_of_two) ≡ noted (event.Read 3000) (note.Reading (pos 5000001751) (Some 1252) 1 2) ∷ []
unfolding followed_by current_record live_osc line interval_of inaccuracy_of session_of octets_from taken_from concluded reading octets_of
reads_astray = refl

time_of_two : time_at (exact_world (bare history_of_two) begins) (bare history_of_two) ≡ pos true_time
unfolding followed_by current_record live_osc line interval_of inaccuracy_of session_of octets_from taken_from concluded reading octets_of
time_of_two = refl

gives_astray : Gives (bare history_of_two) astray
unfolding astray
gives_astray = (
  noted (event.Read 3000) (note.Reading (pos 5000001751) (Some 1252) 1 2),
  subst (λ acts. Contains acts (noted (event.Read 3000) (note.Reading (pos 5000001751) (Some 1252) 1 2))) (sym reads_astray)
      (zero, lit≤ tt, refl),
  refl,
)

lacks_time : (time : ℤ) → time ≡ pos true_time → ContainsTime astray time → ⊥
unfolding astray
lacks_time time is within = omega (arith, ints, is, within.0)

pub half_is_too_many : HalfIsTooMany
half_is_too_many = record {
  history = history_of_two;
  world = exact_world (bare history_of_two) begins;
  shown = astray;
  ruled = extended_is_ruled (Began two_servers unknown) events_of_two tt;
  in_range =
      extended_in_range (Began two_servers unknown) events_of_two
      (record { osc = lit≤ tt; value = (omega (arith, ints), omega (arith, ints)); first = tt })
      (lit≤ tt, (lit≤ tt, (lit≤ tt, (lit≤ tt, (lit≤ tt, (lit≤ tt, (lit≤ tt, tt)))))));
  drift = (alone_is_honest two_servers unknown events_of_two begins tt
      ((λ h. refl), ((λ h. refl), ((λ h. refl), ((λ h. refl), ((λ h. refl), ((λ h. refl), ((λ h. refl), tt)))))))).drift;
  first = first_is_right two_servers unknown events_of_two _ tt;
  half = AllPass-from_list_all _ (found_in history_of_two) half_are_false;
  reads = gives_astray;
  lacks = lacks_time _ time_of_two;
}
