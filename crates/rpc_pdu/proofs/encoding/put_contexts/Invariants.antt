use Rattle.std.proofs.Common.{◌≡◌, ◌++◌, drop}
use Rattle.std.specs.Prelude.{None}
use Rattle.std.specs.List.{flat_map}
use Rattle.rpc_pdu.specs.Spelling.{context_octets}
use Rattle.rpc_pdu.specs.Soundness.{unsound_contexts}
use Rattle.rpc_pdu.proofs.encoding.put_contexts.Given as goal

abbrev pub invariant-loop-item : goal.invariant-loop-item
invariant-loop-item l = record { written : l.out.items ++ flat_map (context_octets l.endian) (drop l.item-index l.contexts) ≡ l.fn.out.items ++ flat_map (context_octets l.endian) l.contexts; sound : unsound_contexts (drop l.item-index l.contexts) ≡ None }
