-- What readings are, from the other side.
use Rattle.std.proofs.Common.{◌≡◌, ℕ, zero, cond, true, refl, sym, ap, subst, arith}
use Rattle.std.specs.Prelude.{Contains}
use Rattle.std.proofs.lemmas.Int.{ints}
use Rattle.std.proofs.lemmas.List.Elements.{All-contains}
use Rattle.dts_capture.specs.declared.event.Event.TheVariants as event
use Rattle.sync_rules.specs.History.{History, settings_of, current_record}
use Rattle.sync_rules.specs.Live.{is_live}
use Rattle.sync_rules.specs.Rules.{followed_by, live_actions, regressed_actions, actions_of, noted, reading_of}
use Rattle.sync_rules.specs.Safety.{Shown, Gives}
use Rattle.sync_rules.specs.Laws.{ReadsGive, ReadsAreOfOneLane, ContainsUpToInaccuracy, DoesNotFollowOn}
use Rattle.sync_rules.proofs.Readings.{IsTheReading, readings_are, shown_by}

read_given : (h : History) (osc : ℕ) → is_live h (event.Read osc) ≡ true → actions_of h (event.Read osc) ≡ live_actions h (event.Read osc)
unfolding actions_of
read_given h osc live = ap (λ b. cond b (live_actions h (event.Read osc)) (regressed_actions h (event.Read osc))) live

gives_shown : (h : History) (osc : ℕ) (shown : Shown) → is_live h (event.Read osc) ≡ true → shown ≡ shown_by (settings_of h).rates (current_record h) osc → Gives (followed_by h (event.Read osc)) shown
gives_shown h osc shown live says =
    (noted (event.Read osc) (reading_of h osc), subst (λ xs. Contains xs (noted (event.Read osc) (reading_of h osc))) (sym (read_given h osc live)) (zero, omega arith, refl), says)

pub reads_give : ReadsGive
reads_give = record {
  live = λ h osc shown is. (λ gives. (All-contains (IsTheReading h (event.Read osc)) (actions_of h (event.Read osc)) gives.0 (readings_are h (event.Read osc)) gives.1 shown gives.2).2, gives_shown h osc shown is);
  regressed = λ h osc shown is gives.
      let live = (All-contains (IsTheReading h (event.Read osc)) (actions_of h (event.Read osc)) gives.0 (readings_are h (event.Read osc)) gives.1 shown gives.2).0 in cc;
}

pub reads_are_of_one_lane : ReadsAreOfOneLane
reads_are_of_one_lane before after osc next given more = record { lane = 0; first = refl; second = refl }

pub contains_up_to_inaccuracy : ContainsUpToInaccuracy
contains_up_to_inaccuracy = record {
  greatest = λ value i step. (omega (arith, ints), omega (arith, ints));
  least = λ value i step. (omega (arith, ints), omega (arith, ints));
  none_above = λ value i step within. omega (arith, ints, within.1);
  none_below = λ value i step within. omega (arith, ints, within.0);
}

pub does_not_follow_on : DoesNotFollowOn
does_not_follow_on = record {
  lower_value = λ later_position earlier later same below follows. let order = follows.no_lower_value same in omega (arith, ints, order, below);
  lower_step = λ later_position earlier later below follows. omega (arith, follows.no_lower_step);
  unnamed = λ later_position earlier later above unnamed follows. unnamed (follows.named above);
}
