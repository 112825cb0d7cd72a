use Rattle.std.proofs.Common.{arith}
use Rattle.rpc_pdu.proofs.Decoded.{value, refused_at, sound_value, only_value, only_refusal}
use Rattle.rpc_pdu.proofs.decoding.decode.Goals as goal

pub returns : goal.returns
returns c = record {
  found = value c.args.b.now c.read_fragment.result c.read_fragment.ensures;
  first_wrong = refused_at c.args.b.now c.read_fragment.result c.read_fragment.ensures;
  sound = sound_value c.args.b.now c.read_fragment.result (λ i. omega (arith, c.type_inv.b i)) c.read_fragment.ensures;
  only = λ v. only_value c.args.b.now c.read_fragment.result v c.read_fragment.ensures;
  only_wrong = λ refused. only_refusal c.args.b.now c.read_fragment.result refused c.read_fragment.ensures;
}
