use Rattle.std.proofs.Common.{◌+◌, [], refl, arith}
use Rattle.rpc_session.specs.Fragments.{full_fragments, stub_room}
use Rattle.rpc_session.specs.Client.{Requested, last_call}
use Rattle.rpc_session.specs.Server.{server_limit}
use Rattle.rpc_session.proofs.Whole.{all_replied}
use Rattle.rpc_session.proofs.laws.what_is_answered_is_one_reply.Goals as goal

pub returns : goal.returns
returns g = λ c s opnum context asked stub endian few.
    let size = stub_room (server_limit s) in
    all_replied (full_fragments size stub) size (last_call c + 1) context endian stub [] (Requested c opnum asked) refl refl refl
    (omega (arith, few))
