use Rattle.std.proofs.Common.{ap, sym, ◌∙◌, Some}
use Rattle.clock_tests.proofs.rounds.is_false.Goals as goal

pub false_at-requires-clause-answered : goal.false_at-requires-clause-answered
false_at-requires-clause-answered c = (
  c.in-Answered.asked,
  c.in-Answered.got,
  c.in-Answered.interval,
  sym c.state.ensures.state ∙ c.in_ok-state.was ∙ ap Some c.in-Answered.is,
)
