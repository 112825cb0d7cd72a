use Rattle.std.proofs.Common.{◌≡◌, ◌+◌, ◌-◌, ◌<◌, List, ℕ, length, take, drop, ap, sym, ◌∙◌, arith, rules, length-drop}
use Rattle.std.specs.Prelude.{slice_range}
use Rattle.std.specs.Vec.{with_items}
use Rattle.std.proofs.lemmas.List.{with_items_is, places, length-take}
use Rattle.dts_base.proofs.ToldFacts.{Told-weaker}
use Rattle.line_reader.proofs.Places.{reads_behind}
use Rattle.line_reader.proofs.reader.LineReader.read_more.Goals as goal

pub returns-clause-told : goal.returns-clause-told
returns-clause-told g c =
    let inside = c.self.inside in
    let to = inside.ahead_to - inside.ahead_from in
    let n = c.in_ok-count.count in
    let ahead = c.args.self.now.ahead in
    let buffer = c.read_behind.new.buffer in
    let moved : (with_items inside.buffer c.move_to_front.new.buffer).items ≡ c.move_to_front.new.buffer = with_items_is inside.buffer c.move_to_front.new.buffer (search (rules, places)) in
    let read : (with_items (with_items inside.buffer c.move_to_front.new.buffer) buffer).items ≡ buffer = with_items_is (with_items inside.buffer c.move_to_front.new.buffer) buffer (search (rules, places)) in
    let octets = λ (xs : List ℕ). take to (drop inside.ahead_from xs) in
    let first : take to c.as_mut_slice-2.result.now ≡ take to c.move_to_front.new.buffer = ap (take to) (c.as_mut_slice-2.ensures.value ∙ moved) in
    let then : take to c.move_to_front.new.buffer ≡ octets inside.buffer.items = c.move_to_front.ensures.moved ∙ ap octets c.as_mut_slice.ensures.value in
    let kept : take to buffer ≡ ahead = c.in_ok-count.ensures.kept ∙ first ∙ then ∙ ap (λ r. r.ahead) c.self.view_is in
    let few = ap (λ r. length r.ahead) c.self.view_is in
    let room : 0 < length (drop to buffer) = omega (arith, length-drop to buffer, few, length-take to (drop inside.ahead_from inside.buffer.items), length-drop inside.ahead_from inside.buffer.items, ap length c.as_mut_slice.ensures.value) in
    let whole : take (to + n) buffer ≡ slice_range buffer 0 (to + n) = let e : to + n ≡ (to + n) - 0 = omega arith in ap (λ k. take k buffer) e in
    Told-weaker _ _ _ _ c.in_ok-count.ensures.told
    (λ left more h. record {
      read = take n (drop to buffer);
      all = h.0;
      ahead = ap (λ xs. slice_range xs 0 (to + n)) read ∙ sym whole ∙ reads_behind ahead buffer to n kept;
      end = λ none. h.1 none room;
    })
