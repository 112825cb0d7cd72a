use Rattle.std.proofs.lemmas.Result.{err_from_is_err_and}
use Rattle.std.proofs.Common.{refl, ◌∙◌}
use Rattle.pdu_fields.specs.Headers.{any}
use Rattle.pdu_fields.specs.Tables.{Kept, octets}
use Rattle.pdu_fields.proofs.Parsed.{kept, not_whole, no_memory}
use Rattle.pdu_fields.proofs.cursor.Cursor.octets.Goals as goal

pub returns-in_err-lent : goal.returns-in_err-lent
returns-in_err-lent c = let p = err_from_is_err_and c.from_residual.result c.from_residual.ensures.1 in rw (p.1, p.2) (rw c.in_err-lent.ensures.1 (λ more. not_whole c.args.name (octets c.args.count) any more c.args.self.now c.in_err-lent.ensures.0))

pub returns-in_err-from_slice : goal.returns-in_err-from_slice
returns-in_err-from_slice c = let p = err_from_is_err_and c.from_residual-in_err-from_slice.result c.from_residual-in_err-from_slice.ensures.1 in rw (p.1, p.2) (λ more. no_memory (Kept c.args.name (octets c.args.count) any more) c.args.self.now)

pub returns : goal.returns
returns c =
    let f = c.in_ok-lent.ensures in
    λ more r parses. kept c.args.name (octets c.args.count) any more c.args.self.now c.take.new.self c.in_ok-from_slice.field-0 r f.0 (c.in_ok-from_slice.ensures.octets ∙ f.1) f.2 refl parses
