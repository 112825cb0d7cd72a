use Rattle.std.proofs.Common.{◌≡◌, ◌∷◌, [], ◌++◌, map, drop}
use Rattle.toml.specs.View.{table_view}
use Rattle.roster.specs.Wrong.{first, keys_wrong, key_wrong, unknown_key}
use Rattle.roster.specs.Seen.{asked}
use Rattle.roster.proofs.first_wrong.keys_wrong.Given as goal

abbrev pub invariant-loop-key : goal.invariant-loop-key
invariant-loop-key l =
    let table = table_view l.fn.table in
    first (keys_wrong l.fn.within (map asked l.fn.keys) table)
    ≡ first (map (key_wrong l.fn.within table) (map asked (drop l.key-index l.fn.keys)) ++ unknown_key l.fn.within (map asked l.fn.keys) table ∷ [])
