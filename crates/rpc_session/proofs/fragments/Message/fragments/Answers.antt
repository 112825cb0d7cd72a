use Rattle.std.proofs.Common.{◌≡◌, ◌≤◌, ℕ, false, List, ◌++◌, length, take, ◌-◌, length-drop, sym, ap, subst, ◌∙◌, arith}
use Rattle.std.proofs.lemmas.List.{take_rest}
use Rattle.rpc_session.specs.declared.fragments.TheConstants.{MAX_STUB, STUB_OFFSET}
use Rattle.rpc_session.specs.Fragments.{fragment, fragments, full_fragments, message}
use Rattle.rpc_session.proofs.Cuts.{one_made, last_made}
use Rattle.rpc_session.proofs.fragments.Message.fragments.Goals as goal

pub loop-rest-preserved : goal.loop-rest-preserved
loop-rest-preserved c =
    let m = c.args.self.now in
    let size = c.from-size.result - STUB_OFFSET in
    let rest = c.loop-rest.rest.now in
    let cut = sym (take_rest rest size) in
    record {
      made = subst (λ (ys : List ℕ). c.push.new.self.items ++ fragments m size false (full_fragments size ys) ys
          ≡ message m c.args.limit.now c.args.stub.now) cut
          (one_made m size c.loop-rest.first rest c.loop-rest.sent.items c.push.new.self.items c.in_ok-part.part
          (message m c.args.limit.now c.args.stub.now)
          (omega (arith, c.from-size.ensures, c.octets.ensures.least)) c.loop-rest-test.true c.loop-rest.invariant.made
          c.in_ok-push.ensures.items
          (c.in_ok-part.ensures ∙ ap (λ f. fragment m f (length rest) (take size rest)) c.flags_of.ensures));
      limit = subst (λ (ys : List ℕ). length ys ≤ MAX_STUB) cut (omega (arith, length-drop size rest, c.loop-rest.invariant.limit));
    }

pub returns : goal.returns
returns c =
    let m = c.args.self.now in
    let size = c.from-size.result - STUB_OFFSET in
    let rest = c.loop-rest.rest.now in
    last_made m size c.loop-rest.first rest c.loop-rest.sent.items c.push-2.new.self.items c.in_ok-part-2.part
    (message m c.args.limit.now c.args.stub.now)
    (omega (arith, c.from-size.ensures, c.octets.ensures.least)) c.loop-rest-test.false c.loop-rest.invariant.made
    c.in_ok-push-2.ensures.items
    (c.in_ok-part-2.ensures ∙ ap (λ f. fragment m f (length rest) rest) c.flags_of-2.ensures)
