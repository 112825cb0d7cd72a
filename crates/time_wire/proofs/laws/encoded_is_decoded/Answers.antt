use Rattle.time_wire.proofs.ReadBack.{get_time_reads, time_reply_reads, info_reply_reads, command_reads, command_reply_reads}
use Rattle.time_wire.proofs.laws.encoded_is_decoded.Goals as goal

pub returns : goal.returns
returns c = record {
  get_time = get_time_reads;
  time_reply = time_reply_reads;
  info_reply = info_reply_reads;
  command = command_reads;
  command_reply = command_reply_reads;
}
