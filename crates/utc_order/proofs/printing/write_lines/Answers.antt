use Rattle.std.proofs.Common.{[], ◌++◌, ◌∙◌, subst, refl, sym, ap, drop, ◌+◌}
use Rattle.std.proofs.lemmas.List.{append-nil}
use Rattle.std.proofs.lemmas.Result.{err_from_is_err_and}
use Rattle.dts_base.specs.Told.{Told}
use Rattle.dts_base.specs.Streams.{AppendsPart}
use Rattle.dts_base.proofs.ToldFacts.{Told-same, Wrote-then}
use Rattle.utc_order.specs.Places.{lines_at}
use Rattle.utc_order.specs.Marks.{text_behind}
use Rattle.utc_order.proofs.PrintFacts.{part_written, if_err, goes_on, place_next}
use Rattle.utc_order.proofs.printing.write_lines.Goals as goal

pub loop-place-init : goal.loop-place-init
loop-place-init g c = record {
  printed = [];
  reach = refl;
  done = [];
  wrote = Told-same _ _ (λ x. sym (append-nil x));
  all = rw c.new-text.ensures.items refl;
  kept = refl;
}

pub returns-in_err-write_full-clause-part : goal.returns-in_err-write_full-clause-part
returns-in_err-write_full-clause-part g c =
    let p = err_from_is_err_and c.from_residual-in_err-write_full.result c.from_residual-in_err-write_full.ensures.1 in
    let i = c.loop-place.invariant in
    let on = c.in_ok-print_place.ensures.printed i.printed i.reach in
    let w = c.in_err-write_full.ensures.part in
    let behind = drop (c.loop-place.place-index + 1) c.args.order.now in
    rw (p.1, p.2, w.0) (
      tt,
      part_written _ _ _ i.done c.print_place.new.text.items (text_behind on.after (lines_at c.args.lines.now behind)) _ i.wrote
          (ap (λ t. i.done ++ t) (on.on behind ∙ ap (λ ps. c.loop-place.text.items ++ text_behind i.printed (lines_at c.args.lines.now ps)) (sym (place_next c.args.order.now c.loop-place.place-index _ c.loop-place-test.true))) ∙ i.all) w.1,
    )

pub loop-place-preserved : goal.loop-place-preserved
loop-place-preserved g c =
    let i = c.loop-place.invariant in
    let on = c.in_ok-print_place.ensures.printed i.printed i.reach in
    let w = c.in_ok-write_full.ensures.whole in
    let behind = drop (c.loop-place.place-index + 1) c.args.order.now in
    record {
      printed = on.after;
      reach = on.reach_is;
      done = i.done ++ w.front;
      wrote = Wrote-then _ _ _ i.done w.front i.wrote w.wrote;
      all = goes_on i.done c.loop-place.text.items c.print_place.new.text.items w.front c.write_full.new.text.items _ (text_behind on.after (lines_at c.args.lines.now behind)) _ i.all
          (on.on behind ∙ ap (λ ps. c.loop-place.text.items ++ text_behind i.printed (lines_at c.args.lines.now ps)) (sym (place_next c.args.order.now c.loop-place.place-index _ c.loop-place-test.true))) w.all;
      kept = c.in_ok-write_full.ensures.cause.kept (λ e. cc) ∙ i.kept;
    }

pub returns-clause-part : goal.returns-clause-part
returns-clause-part g c =
    let i = c.loop-place.invariant in
    if_err _ _ c.write_text.result c.write_text.ensures.part (λ s is.
    (rw is.0 tt, part_written _ _ _ i.done c.loop-place.text.items _ _ i.wrote i.all (subst (λ t. Told (g.O.Sink.written c.loop-place.output) (g.O.Sink.written c.write_text.new.output) (AppendsPart t)) c.as_slice.ensures.value is.1)))
