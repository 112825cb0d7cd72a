use Rattle.std.proofs.Common.{◌≡◌, ◌∙◌, true, ap}
use Rattle.ndr.specs.Strings.{is_text}
use Rattle.time_wire.specs.Layouts.{info_reply}
use Rattle.time_wire.specs.Spelling.{spelling}
use Rattle.server_roles.proofs.Printed.{is_written, name_is_text}
use Rattle.server_roles.proofs.answering.info_answer.Goals as goal

pub written-requires : goal.written-requires
written-requires c =
    let named : is_text c.in_ok-reply.reply.name ≡ true = ap (λ m. is_text m.name) c.in_ok-reply.ensures ∙ name_is_text c.args.r.now.settings.name c.requires in
    is_written (is_text c.in_ok-reply.reply.name) (spelling info_reply c.args.e c.in_ok-reply.reply) c.encode_info_reply.result named c.encode_info_reply.ensures
