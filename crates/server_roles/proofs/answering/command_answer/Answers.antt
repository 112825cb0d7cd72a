use Rattle.ndr.specs.Strings.{is_text}
use Rattle.time_wire.specs.Layouts.{command_reply}
use Rattle.time_wire.specs.Spelling.{spelling}
use Rattle.server_roles.proofs.Printed.{is_written}
use Rattle.server_roles.proofs.answering.command_answer.Goals as goal

pub written-requires : goal.written-requires
written-requires c =
    is_written (is_text c.in_ok-reply.reply.text) (spelling command_reply c.args.e c.in_ok-reply.reply) c.encode_command_reply.result c.in_ok-reply.ensures.printed c.encode_command_reply.ensures
