use Rattle.std.proofs.Common.{◌≡◌, sym, ◌∙◌, ap, length, arith, None, Some, length-append}
use Rattle.std.specs.Prelude.{slice_index}
use Rattle.std.proofs.lemmas.Grind.{common_steps}
use Rattle.wire_show.specs.Input.{pair_at}
use Rattle.wire_show.proofs.Pairs.{more_spelled, pair_refused, some_below}
use Rattle.wire_show.proofs.digits.octets_of.Goals as goal

pub returns-in_default : goal.returns-in_default
returns-in_default c =
    let left = c.loop-left.left.now in
    let count : c.len.result ≡ length c.loop-left.octets.items = grind (arith, common_steps, c.len.ensures) in
    let again : c.len-in_default.result ≡ length c.loop-left.octets.items = grind (arith, common_steps, c.len-in_default.ensures) in
    let none : pair_at (length c.loop-left.octets.items) (slice_index left 0) (slice_index left 1) ≡ None = ap (λ n. pair_at n (slice_index left 0) (slice_index left 1)) (sym count) ∙ sym c.pair_at.ensures ∙ c.in_default.is in
    rw (c.refused_at.ensures, again) (c.loop-left.invariant.spelled ∙ pair_refused c.loop-left.octets.items left c.loop-left-test.true none)

pub loop-left-preserved : goal.loop-left-preserved
loop-left-preserved c =
    let left = c.loop-left.left.now in
    let count : c.len.result ≡ length c.loop-left.octets.items = grind (arith, common_steps, c.len.ensures) in
    let some : pair_at (length c.loop-left.octets.items) (slice_index left 0) (slice_index left 1) ≡ Some c.in-Some.octet = ap (λ n. pair_at n (slice_index left 0) (slice_index left 1)) (sym count) ∙ sym c.pair_at.ensures ∙ c.in-Some.is in
    let below = some_below (length c.loop-left.octets.items) (slice_index left 0) (slice_index left 1) c.in-Some.octet some in
    record {
      spelled = more_spelled c.args.text.now c.loop-left.octets.items left c.push.new.octets.items _ c.in-Some.octet c.loop-left.invariant.spelled c.loop-left-test.true some c.in_ok-push.ensures c.split_at.ensures.back;
      few = rw (c.in_ok-push.ensures, length-append c.loop-left.octets.items) (omega (arith, below));
    }
