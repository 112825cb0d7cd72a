use Rattle.std.proofs.Common.{◌≡◌, ◌++◌, drop}
use Rattle.std.specs.List.{flat_map}
use Rattle.rpc_pdu.specs.Spelling.{protocol_octets}
use Rattle.rpc_pdu.proofs.encoding.put_protocols.Given as goal

abbrev pub invariant-loop-item : goal.invariant-loop-item
invariant-loop-item l = l.out.items ++ flat_map protocol_octets (drop l.item-index l.protocols) ≡ l.fn.out.items ++ flat_map protocol_octets l.protocols
