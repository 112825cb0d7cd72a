use Rattle.time_wire.proofs.Timestamps.{stamp_is_right, refused_is_wrong}
use Rattle.time_wire.proofs.laws.timestamps_are_those_of_utc_value.Goals as goal

pub returns : goal.returns
returns c = record { timestamp = stamp_is_right; refused = refused_is_wrong }
