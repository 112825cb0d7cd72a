use Rattle.std.proofs.Common.{◌≡◌, sym, subst, arith, w64, to_z, of_z}
use Rattle.std.proofs.lemmas.Int.{ints, to_z-of_z}
use Rattle.std.proofs.lemmas.Result.{err_from_is_err_and}
use Rattle.dts_capture.specs.declared.line.Line.TheVariants as line
use Rattle.dts_capture.specs.Spelling.{Spells}
use Rattle.sync_rules.specs.Ranges.{StartsInRange}
use Rattle.capture_replay.specs.Steps.{number_at}
use Rattle.capture_replay.proofs.Taking.{unread_unfit, said_start, said_event, blank_takes, start_takes, event_takes, unbuilt_unfit, on_ok, both_ok, if_err}
use Rattle.capture_replay.proofs.filter.ReplayLineFilter.take.Goals as goal

pub returns-in_err-read_line-clause-unfit : goal.returns-in_err-read_line-clause-unfit
returns-in_err-read_line-clause-unfit c =
    let p = err_from_is_err_and c.from_residual.result c.from_residual.ensures.1 in
    rw (p.1, p.2) (λ state stands. unread_unfit c.args.self.now c.args._before state c.args.line.now c.in_err-read_line.field-0.0 stands (c.if-is_misplaced.ensures state.history stands.node) c.in_err-read_line.ensures)

pub start-requires-clause-range : goal.start-requires-clause-range
start-requires-clause-range c =
    let state = c.requires.stands.0 in
    let stands = c.requires.stands.1 in
    let fits = said_start c.args.self.now c.args._before state c.args.line.now c.in_ok-read_line.field-0 c.in-Start.osc c.in-Start.value c.in-Start.first stands
    (c.if-is_misplaced.ensures state.history stands.node) c.in_ok-read_line.ensures c.in-Start.is in
    subst (λ v. StartsInRange (record { osc = c.in-Start.osc; value = v; first = c.in-Start.first }))
    (sym (to_z-of_z w64 c.in-Start.value (record { sfits = omega (arith, ints, fits.value) }))) fits

pub step-requires-clause-range : goal.step-requires-clause-range
step-requires-clause-range c =
    let state = c.requires.stands.0 in
    let stands = c.requires.stands.1 in
    (said_event c.args.self.now c.args._before state c.args.line.now c.in_ok-read_line.field-0 c.in-Event.at c.in-Event.event stands
    (c.if-is_misplaced.ensures state.history stands.node) c.in_ok-read_line.ensures c.in-Event.is).0

pub returns-in-Blank-clause-taken : goal.returns-in-Blank-clause-taken
returns-in-Blank-clause-taken c = λ state stands.
    rw c.requires.empty (blank_takes c.args.self.now c.args._before state c.args.line.now stands (c.if-is_misplaced.ensures state.history stands.node)
    (subst (Spells (number_at c.args.self.now.node) c.args.line.now) c.in-Blank.is c.in_ok-read_line.ensures))

pub returns-in-Start-clause-taken : goal.returns-in-Start-clause-taken
returns-in-Start-clause-taken c =
    on_ok c.start.result _ _ (both_ok c.start.result _ _ c.start.ensures.started (both_ok c.start.result _ _ c.start.ensures.number c.start.ensures.log)) (λ made. λ state stands.
    let placed = c.if-is_misplaced.ensures state.history stands.node in
    let said = subst (Spells (number_at c.args.self.now.node) c.args.line.now) c.in-Start.is c.in_ok-read_line.ensures in
    let fits = said_start c.args.self.now c.args._before state c.args.line.now c.in_ok-read_line.field-0 c.in-Start.osc c.in-Start.value c.in-Start.first stands
    placed c.in_ok-read_line.ensures c.in-Start.is in
    let value = to_z w64 (of_z w64 c.in-Start.value) in
    let same : value ≡ c.in-Start.value = to_z-of_z w64 c.in-Start.value (record { sfits = omega (arith, ints, fits.value) }) in
    start_takes c.args.self.now c.start.new.self c.args._before state c.args.line.now c.start.new.log.items c.in-Start.osc value c.in-Start.first stands placed
    (subst (λ v. Spells (number_at c.args.self.now.node) c.args.line.now (line.Start c.in-Start.osc v c.in-Start.first)) (sym same) said)
    c.start.ensures.rates made.1.0 made.0 made.1.1)

pub returns-in-Event-clause-taken : goal.returns-in-Event-clause-taken
returns-in-Event-clause-taken c =
    on_ok c.step.result _ _ (both_ok c.step.result _ _ c.step.ensures.built (both_ok c.step.result _ _ c.step.ensures.stands c.step.ensures.log)) (λ made. λ state stands.
    event_takes c.args.self.now c.step.new.self c.args._before state c.args.line.now c.step.new.log.items c.in-Event.at c.in-Event.event stands
    (c.if-is_misplaced.ensures state.history stands.node)
    (subst (Spells (number_at c.args.self.now.node) c.args.line.now) c.in-Event.is c.in_ok-read_line.ensures)
    c.step.ensures.rates c.step.ensures.number made.0 made.1.0 made.1.1)

pub returns-in-Event-clause-unfit : goal.returns-in-Event-clause-unfit
returns-in-Event-clause-unfit c =
    if_err c.step.result _ _ c.step.ensures.unbuilt (λ f why. λ state stands.
    unbuilt_unfit c.args.self.now c.args._before state c.args.line.now c.in-Event.at c.in-Event.event f stands (c.if-is_misplaced.ensures state.history stands.node)
    (subst (Spells (number_at c.args.self.now.node) c.args.line.now) c.in-Event.is c.in_ok-read_line.ensures) why)

pub step-requires-clause-number : goal.step-requires-clause-number
step-requires-clause-number c = omega (arith, c.requires.stands.1.number, c.requires.few)
