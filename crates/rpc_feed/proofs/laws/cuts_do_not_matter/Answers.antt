use Rattle.rpc_feed.proofs.Cuts.{cut_anyhow}
use Rattle.rpc_feed.proofs.laws.cuts_do_not_matter.Goals as goal

pub returns : goal.returns
returns c = cut_anyhow
