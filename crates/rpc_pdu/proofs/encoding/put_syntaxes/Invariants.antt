use Rattle.std.proofs.Common.{◌≡◌, ◌++◌, drop}
use Rattle.std.specs.List.{flat_map}
use Rattle.rpc_pdu.specs.Spelling.{syntax_octets}
use Rattle.rpc_pdu.proofs.encoding.put_syntaxes.Given as goal

abbrev pub invariant-loop-item : goal.invariant-loop-item
invariant-loop-item l = l.out.items ++ flat_map (syntax_octets l.endian) (drop l.item-index l.syntaxes) ≡ l.fn.out.items ++ flat_map (syntax_octets l.endian) l.syntaxes
