use Rattle.std.proofs.Common.{map, refl, ap, ◌∙◌, w64}
use Rattle.std.proofs.lemmas.Int.{to_z-of_z}
use Rattle.slew_clock.specs.Started.{started}
use Rattle.sync_rules.specs.History.{current_record}
use Rattle.sync_rules.specs.Live.{live_osc}
use Rattle.sync_rules.specs.Rounds.{queries_of, answers_of}
use Rattle.capture_replay.specs.Rounds.{answer_kept}
use Rattle.capture_replay.proofs.node.Node.start.Goals as goal

pub returns-clause-stands : goal.returns-clause-stands
unfolding current_record live_osc queries_of answers_of
returns-clause-stands c = record {
  sync = record {
    rates = refl;
    current = c.start-current.ensures.made ∙ ap (λ v. started c.args.osc v c.args.first) (to_z-of_z w64 c.args.value c.ranges.value);
    last = refl;
    round = record { asked = c.new.ensures.asked; answers = ap (λ xs. map answer_kept xs) c.new.ensures.answers };
  };
  lane = refl;
  ruled = tt;
  range = c.requires;
}
