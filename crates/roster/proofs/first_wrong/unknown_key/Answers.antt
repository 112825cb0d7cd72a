use Rattle.std.proofs.Common.{◌≡◌, ◌∷◌, map, true, false, rules, sym, ap, ◌∙◌, string_bytes, option_map}
use Rattle.std.specs.Prelude.{bytes_eq, find, not}
use Rattle.std.specs.List.{list_any}
use Rattle.roster.specs.declared.cause.RosterCause.TheVariants.{Unknown}
use Rattle.roster.specs.Wrong.{is_known, wrong}
use Rattle.roster.specs.Seen.{asked}
use Rattle.roster.proofs.Walks.{names_view, known_step, unknown_step}
use Rattle.roster.proofs.first_wrong.unknown_key.Goals as goal

pub loop-key-init : goal.loop-key-init
loop-key-init c =
    ap (find (λ key. not (is_known (map asked c.args.keys.now) key)))
    (names_view c.args.table.now.entries ∙ ap (map string_bytes) (sym (c.into_iter-key-iterator.ensures.into_iter_gives ∙ c.keys-key-items.ensures.rest)))

pub returns-then-not-is_known : goal.returns-then-not-is_known
returns-then-not-is_known c =
    let other : list_any (λ key. bytes_eq key.name.now c.as_str-key.result.now) c.args.keys.now ≡ false = search rules in
    let here = unknown_step c.args.keys.now c.as_str-key.result.now (map string_bytes c.next.new.self) other in
    let all = c.loop-key.invariant ∙ ap (λ ks. find (λ key. not (is_known (map asked c.args.keys.now) key)) (map string_bytes ks)) c.in-Some.ensures.steps in
    sym (ap (option_map (λ key. wrong c.args.within key Unknown)) (all ∙ ap (λ k. find (λ key. not (is_known (map asked c.args.keys.now) key)) (k ∷ map string_bytes c.next.new.self)) (sym c.as_str-key.ensures.value) ∙ here))

pub loop-key-preserved : goal.loop-key-preserved
loop-key-preserved c =
    let same : list_any (λ key. bytes_eq key.name.now c.as_str-key.result.now) c.args.keys.now ≡ true = search rules in
    let step = known_step c.args.keys.now c.as_str-key.result.now (map string_bytes c.next.new.self) same in
    let all = c.loop-key.invariant ∙ ap (λ ks. find (λ key. not (is_known (map asked c.args.keys.now) key)) (map string_bytes ks)) c.in-Some.ensures.steps in
    all ∙ ap (λ k. find (λ key. not (is_known (map asked c.args.keys.now) key)) (k ∷ map string_bytes c.next.new.self)) (sym c.as_str-key.ensures.value) ∙ step
