use Rattle.std.proofs.Common.{sym, codes}
use Rattle.toml.specs.View.{view}
use Rattle.roster.specs.Wrong.{has_text}
use Rattle.roster.proofs.Walks.{any_map}
use Rattle.roster.proofs.first_wrong.is_duplicate.Goals as goal

pub returns-in-Some : goal.returns-in-Some
returns-in-Some c =
    rw (← c.in-Some.ensures, c.one_has_name.ensures) (sym (any_map (has_text (codes "name") c.in-Some.name.now) view c.args.earlier.now))
