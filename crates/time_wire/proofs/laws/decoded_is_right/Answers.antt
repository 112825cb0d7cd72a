use Rattle.time_wire.proofs.ReadBack.{time_reply_right, info_reply_right, command_right, command_reply_right}
use Rattle.time_wire.proofs.laws.decoded_is_right.Goals as goal

pub returns : goal.returns
returns c = record {
  time_reply = time_reply_right;
  info_reply = info_reply_right;
  command = command_right;
  command_reply = command_reply_right;
}
