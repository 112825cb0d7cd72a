use Rattle.std.proofs.Common.{sym}
use Rattle.time_provider.proofs.Standing.{gone_stands}
use Rattle.time_provider.proofs.provider.Provider.gone.Goals as goal

pub returns-in-Some : goal.returns-in-Some
returns-in-Some c past stands =
    gone_stands past c.args.self.now c.close.new.self c.args.peer c.in-Some.place stands (sym c.in-Some.ensures.place) c.close.ensures.closed
