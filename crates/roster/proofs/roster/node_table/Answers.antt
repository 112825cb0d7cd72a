use Rattle.std.proofs.Common.{◌∙◌, sym, ap, subst}
use Rattle.toml.specs.Data.{as_table}
use Rattle.toml.specs.View.{view, table_view}
use Rattle.roster.specs.Keys.{asked_of, node_keys}
use Rattle.roster.specs.Seen.{AreRight}
use Rattle.roster.proofs.Accepted.{node_right, some_of_map, map_at}
use Rattle.roster.proofs.roster.node_table.Goals as goal

pub unwrap-requires : goal.unwrap-requires
unwrap-requires c =
    let n = node_right (table_view c.args.document.now) c.requires in
    some_of_map (λ v. view v.now) c.member.result n.value (c.member.ensures ∙ n.found)

pub unwrap-requires-2 : goal.unwrap-requires-2
unwrap-requires-2 c =
    let n = node_right (table_view c.args.document.now) c.requires in
    let value = map_at (λ v. view v.now) c.member.result c.unwrap.result n.value (c.member.ensures ∙ n.found) c.unwrap.ensures in
    some_of_map (λ m. table_view m.now) c.as_table.result n.table (c.as_table.ensures ∙ ap as_table value ∙ n.is_table)

pub returns-clause-right : goal.returns-clause-right
returns-clause-right c =
    let n = node_right (table_view c.args.document.now) c.requires in
    let value = map_at (λ v. view v.now) c.member.result c.unwrap.result n.value (c.member.ensures ∙ n.found) c.unwrap.ensures in
    let same = map_at (λ m. table_view m.now) c.as_table.result c.unwrap-2.result n.table (c.as_table.ensures ∙ ap as_table value ∙ n.is_table) c.unwrap-2.ensures in
    subst (AreRight (asked_of node_keys)) (sym same) n.right
