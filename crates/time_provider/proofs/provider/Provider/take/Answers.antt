use Rattle.std.proofs.Common.{sym}
use Rattle.time_provider.proofs.Standing.{settled_stands}
use Rattle.time_provider.proofs.provider.Provider.take.Goals as goal

pub returns-clause-stands : goal.returns-clause-stands
returns-clause-stands c past stands =
    settled_stands past c.args.self.now c.settle.new.self c.args.peer c.in-Some.place c.answer-answer.result stands (sym c.in-Some.ensures.place) c.settle.ensures
