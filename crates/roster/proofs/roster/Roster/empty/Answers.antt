use Rattle.std.proofs.Common.{rules}
use Rattle.roster.specs.Rosters.{GivesSettings, alone}
use Rattle.roster.proofs.Alone.{rates_are_usual}
use Rattle.roster.proofs.roster.Roster.empty.Goals as goal

pub returns-clause-rates : goal.returns-clause-rates
returns-clause-rates c =
    let gives : GivesSettings alone c.settings.result = search rules in
    rates_are_usual c.settings.result gives
