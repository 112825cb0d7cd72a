use Rattle.std.proofs.Common.{◌≡◌, map}
use Rattle.std.specs.Prelude.{if◌then◌else◌}
use Rattle.toml.specs.View.{table_view, members_view}
use Rattle.roster.specs.Wrong.{first, place_wrong, places, places_with_node, top_wrong}
use Rattle.roster.proofs.first_wrong.top_wrong.Given as goal

abbrev pub invariant-loop-key : goal.invariant-loop-key
invariant-loop-key l =
    top_wrong (table_view l.fn.document)
    ≡ first (map place_wrong (if l.node_is_passed then places (members_view l.key-iterator) else places_with_node (members_view l.key-iterator)))
