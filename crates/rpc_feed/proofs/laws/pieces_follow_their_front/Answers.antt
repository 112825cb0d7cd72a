use Rattle.rpc_feed.proofs.Fronts.{first_spells, partial_short}
use Rattle.rpc_feed.proofs.Cuts.{pieces_begin}
use Rattle.rpc_feed.proofs.Given.{spelled_is_given}
use Rattle.rpc_feed.proofs.laws.pieces_follow_their_front.Goals as goal

pub returns : goal.returns
returns c = record { begin = pieces_begin; given = spelled_is_given; spelled = first_spells; rest = partial_short }
