use Rattle.server_roles.proofs.Servers.{asks_locals, asks_globals, all_or_none_asked, in_turn_asked}
use Rattle.server_roles.proofs.laws.globals_are_asked_where_needed.Goals as goal

pub returns : goal.returns
returns c = record { locals = asks_locals; globals = asks_globals; all_or_none = all_or_none_asked; in_turn = in_turn_asked }
