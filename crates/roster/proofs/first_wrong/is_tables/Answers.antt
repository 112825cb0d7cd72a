use Rattle.std.proofs.Common.{sym}
use Rattle.std.specs.Prelude.{is_some}
use Rattle.toml.specs.Data.{as_table}
use Rattle.toml.specs.View.{view}
use Rattle.roster.proofs.Walks.{all_map, items_view_is}
use Rattle.roster.proofs.first_wrong.is_tables.Goals as goal

pub returns-in-Some : goal.returns-in-Some
returns-in-Some c =
    rw (← c.in-Some.ensures, c.are_tables.ensures, c.deref.ensures.value, items_view_is c.in-Some.items.now.items) (sym (all_map (λ e. is_some (as_table e)) view c.in-Some.items.now.items))
