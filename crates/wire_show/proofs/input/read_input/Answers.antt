use Rattle.std.proofs.Common.{sym, ap, ◌∙◌, ◌++◌, take, append_assoc, arith, length-append}
use Rattle.std.proofs.lemmas.Result.{err_from_is_err_and}
use Rattle.std.proofs.lemmas.List.{length-take}
use Rattle.std.proofs.lemmas.Grind.{common_steps}
use Rattle.wire_show.proofs.input.read_input.Goals as goal

pub returns-in_err-hold-clause-read : goal.returns-in_err-hold-clause-read
returns-in_err-hold-clause-read g c = λ octets at.
    let i = c.loop-piece.invariant.reads octets at in
    let told = rw i.1 at c.in_ok-count.ensures.told in
    let p = err_from_is_err_and c.from_residual-in_err-hold.result c.from_residual-in_err-hold.ensures.1 in
    rw p.1 (
      c.loop-piece.held.items ++ take c.in_ok-count.count c.read_piece.new.piece,
      (
        told.0,
        told.1,
        record {
          all = i.2.all ∙ ap (λ os. c.loop-piece.held.items ++ os) told.2.0 ∙ sym (append_assoc c.loop-piece.held.items (take c.in_ok-count.count c.read_piece.new.piece) told.0);
          few = grind (arith, common_steps, length-append, length-take);
        },
      ),
    )
