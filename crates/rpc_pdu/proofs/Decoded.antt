-- What a whole reading says of the octets.
use Rattle.std.proofs.Common.{◌≡◌, ◌⊎◌, inl, inr, List, ℕ, length, Result, Ok, Err, refl, sym, ap, ◌∙◌}
use Rattle.std.specs.Prelude.{IfOk, IfErr, None}
use Rattle.dts_base.specs.declared.wire.Refused.{Refused}
use Rattle.ndr.specs.declared.fault.DecodeFault.{DecodeFault}
use Rattle.ndr.specs.declared.fault.DecodeFault.TheVariants as fault
use Rattle.pdu_fields.specs.declared.pdu.Pdu.{Pdu}
use Rattle.pdu_fields.specs.Grammar.{table_of, Spells, FirstWrong, IsFaultOf}
use Rattle.rpc_pdu.specs.Soundness.{unsound}
use Rattle.rpc_pdu.specs.Values.{IsOctets}
use Rattle.pdu_fields.specs.Parsing.{Parses}
use Rattle.rpc_pdu.proofs.Sound.{spelled_is_sound}

-- all octets, read by their table, give this
abbrev IsReadAs : List ℕ → Result Pdu DecodeFault → Type 0
IsReadAs b r = Parses (table_of (length b)) (record { at = 0; left = b }) r

pub value : (b : List ℕ) (r : Result Pdu DecodeFault) → Parses (table_of (length b)) (record { at = 0; left = b }) r → IfOk r (λ v. Spells v b)
unfolding Parses
value b (Ok v) read = read
value b (Err f) read = tt

pub sound_value : (b : List ℕ) (r : Result Pdu DecodeFault) → IsOctets b → Parses (table_of (length b)) (record { at = 0; left = b }) r → IfOk r (λ v. unsound v ≡ None)
unfolding Parses
sound_value b (Ok v) octets_are read = spelled_is_sound b v octets_are read
sound_value b (Err f) octets_are read = tt

told : (b : List ℕ) (f : DecodeFault) → IsReadAs b (Err f) → IsFaultOf b f
unfolding Parses
told b (fault.Wrong refused) read = read
told b fault.NoMemory read = tt

pub refused_at : (b : List ℕ) (r : Result Pdu DecodeFault) → Parses (table_of (length b)) (record { at = 0; left = b }) r → IfErr r (IsFaultOf b)
refused_at b (Ok v) read = tt
refused_at b (Err f) read = told b f read

pub only_value : (b : List ℕ) (r : Result Pdu DecodeFault) (v : Pdu) → Parses (table_of (length b)) (record { at = 0; left = b }) r → Spells v b → (r ≡ Ok v) ⊎ (r ≡ Err fault.NoMemory)
unfolding Parses
only_value b (Ok w) v read spelled = inl (let same : w ≡ v = (let both = sym read ∙ spelled in cc) in ap Ok same)
only_value b (Err (fault.Wrong refused)) v read spelled = absurd (let both = sym read ∙ spelled in cc)
only_value b (Err fault.NoMemory) v read spelled = inr refl

pub only_refusal : (b : List ℕ) (r : Result Pdu DecodeFault) (refused : Refused) → Parses (table_of (length b)) (record { at = 0; left = b }) r → FirstWrong b refused → (r ≡ Err (fault.Wrong refused)) ⊎ (r ≡ Err fault.NoMemory)
unfolding Parses
only_refusal b (Ok w) refused read wrong = absurd (let both = sym read ∙ wrong in cc)
only_refusal b (Err (fault.Wrong other)) refused read wrong = inl (let same : other ≡ refused = (let both = sym read ∙ wrong in cc) in ap (λ (x : Refused). Err (fault.Wrong x)) same)
only_refusal b (Err fault.NoMemory) refused read wrong = inr refl
