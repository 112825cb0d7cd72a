use Rattle.std.proofs.Common.{◌≡◌, map, string_bytes}
use Rattle.std.specs.Prelude.{find, not}
use Rattle.toml.specs.View.{table_view}
use Rattle.roster.specs.Wrong.{names, is_known}
use Rattle.roster.specs.Seen.{asked}
use Rattle.roster.proofs.first_wrong.unknown_key.Given as goal

abbrev pub invariant-loop-key : goal.invariant-loop-key
invariant-loop-key l =
    find (λ key. not (is_known (map asked l.fn.keys) key)) (names (table_view l.fn.table)) ≡ find (λ key. not (is_known (map asked l.fn.keys) key)) (map string_bytes l.key-iterator)
