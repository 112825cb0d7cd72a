use Rattle.std.proofs.lemmas.Result.{err_from_is_err_and}
use Rattle.std.proofs.Common.{refl, ap, ◌∙◌}
use Rattle.pdu_fields.specs.Headers.{any}
use Rattle.pdu_fields.specs.Tables.{identifier, in_order}
use Rattle.pdu_fields.proofs.Parsed.{kept, not_whole}
use Rattle.pdu_fields.proofs.cursor.Cursor.uuid.Goals as goal

pub returns-in_err-lent : goal.returns-in_err-lent
returns-in_err-lent c = let p = err_from_is_err_and c.from_residual.result c.from_residual.ensures.1 in rw (p.1, p.2) (rw c.in_err-lent.ensures.1 (λ more. not_whole c.args.name (identifier c.args.endian) any more c.args.self.now c.in_err-lent.ensures.0))

pub returns : goal.returns
returns c =
    let f = c.in_ok-lent.ensures in
    λ more r parses. kept c.args.name (identifier c.args.endian) any more c.args.self.now c.take.new.self c.uuid_in.result r f.0 (c.uuid_in.ensures ∙ ap (in_order c.args.endian) (c.copy_from_slice.ensures.after ∙ f.1)) f.2 refl parses
