use Rattle.std.proofs.Common.{◌+◌, [], refl, arith}
use Rattle.ndr.specs.declared.endian.Endian.TheVariants.{Little}
use Rattle.rpc_session.specs.declared.client.TheConstants.{THE_CONTEXT}
use Rattle.rpc_session.specs.Fragments.{full_fragments, stub_room}
use Rattle.rpc_session.specs.Client.{client_limit, last_call}
use Rattle.rpc_session.specs.Server.{accepted}
use Rattle.rpc_session.proofs.Whole.{all_called, known_operation}
use Rattle.rpc_session.proofs.laws.what_is_asked_is_one_call.Goals as goal

pub returns : goal.returns
returns g = λ c s opnum stub serves empty holds_it known few.
    let size = stub_room (client_limit c) in
    all_called (full_fragments size stub) size (last_call c + 1) THE_CONTEXT opnum Little stub [] (accepted s) s serves refl empty
    (record { context_held = holds_it; opnum_known = known_operation opnum known }) (omega (arith, few))
