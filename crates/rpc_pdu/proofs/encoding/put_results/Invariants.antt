use Rattle.std.proofs.Common.{◌≡◌, ◌++◌, drop}
use Rattle.std.specs.List.{flat_map}
use Rattle.rpc_pdu.specs.Spelling.{result_octets}
use Rattle.rpc_pdu.proofs.encoding.put_results.Given as goal

abbrev pub invariant-loop-item : goal.invariant-loop-item
invariant-loop-item l = l.out.items ++ flat_map (result_octets l.endian) (drop l.item-index l.results) ≡ l.fn.out.items ++ flat_map (result_octets l.endian) l.results
