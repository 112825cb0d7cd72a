use Rattle.sync_rules.proofs.Safe.{safe}
use Rattle.sync_rules.proofs.Naming.{names_only_false}
use Rattle.sync_rules.proofs.every_history_is_safe.Goals as goal

pub returns : goal.returns
returns c = record { safe = safe; false_sources = names_only_false }
