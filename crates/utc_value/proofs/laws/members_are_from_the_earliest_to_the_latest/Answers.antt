use Rattle.utc_value.proofs.OctetLaws.{members_in}
use Rattle.utc_value.proofs.laws.members_are_from_the_earliest_to_the_latest.Goals as goal

pub returns : goal.returns
returns c = members_in
