use Rattle.std.proofs.Common.{◌≡◌, cond, ◌∙◌, ap}
use Rattle.utc_value.specs.Members.{earliest_of}
use Rattle.utc_order.specs.declared.limits.TheConstants.{CERTAIN, UNCERTAIN}
use Rattle.utc_order.specs.Marks.{are_all_earlier}
use Rattle.utc_order.specs.Keeping.{is_beyond}
use Rattle.utc_order.proofs.PrintFacts.{all_earlier, line_put}
use Rattle.utc_order.proofs.printing.push_line.Goals as goal

pub returns : goal.returns
returns c = λ printed is.
    let mark : c.mark.result ≡ cond (are_all_earlier printed c.args.line.now.time) CERTAIN UNCERTAIN =
    c.mark.ensures ∙ ap (λ r. cond (is_beyond r (earliest_of c.args.line.now.time)) CERTAIN UNCERTAIN) is ∙ ap (λ b. cond b CERTAIN UNCERTAIN) (all_earlier printed c.args.line.now.time) in
    rw (c.in_ok-push-3.ensures.items, c.in_ok-extend_from_slice.ensures.items, c.in_ok-push-2.ensures.items, c.in_ok-push.ensures.items, mark)
    (line_put c.args.text.now.items _ c.args.line.now.octets.now)
