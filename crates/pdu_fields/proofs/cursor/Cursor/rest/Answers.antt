use Rattle.std.proofs.lemmas.Result.{err_from_is_err_and}
use Rattle.std.proofs.Common.{length, ap, ◌∙◌}
use Rattle.pdu_fields.specs.Tables.{Rest}
use Rattle.pdu_fields.specs.Parsing.{Place}
use Rattle.pdu_fields.proofs.Parsed.{all_left, no_memory}
use Rattle.pdu_fields.proofs.cursor.Cursor.rest.Goals as goal

pub returns-in_err-from_slice : goal.returns-in_err-from_slice
returns-in_err-from_slice c = let p = err_from_is_err_and c.from_residual-in_err-from_slice.result c.from_residual-in_err-from_slice.ensures.1 in rw (p.1, p.2) (λ more. no_memory (Rest c.args.name more) c.args.self.now)

pub returns : goal.returns
returns c =
    let f = c.in_ok-lent.ensures in
    λ more r parses. all_left c.args.name _ more c.args.self.now c.take-2.new.self c.in_ok-from_slice.field-0 r (ap (λ (p : Place). length p.left) c.take.view_is) (c.in_ok-from_slice.ensures.octets ∙ f.1) f.2 parses
