-- Which field is the first that is not right.
use Rattle.std.proofs.Common.{◌≡◌, ◌⊎◌, inl, inr, ℕ, pos, List, [], ◌∷◌, map, codes, None, Result, Ok, Err, MatchResult, IfErr, IsOkAnd, refl, sym, ap, subst, ◌∙◌, length, arith}
use Rattle.std.specs.Prelude.{◌==◌}
use Rattle.std.proofs.lemmas.List.Splits.{length-slice_split}
use Rattle.line_reader.specs.Fields.{fields_of, column_of}
use Rattle.utc_value.specs.declared.BytesFault.{BytesFault}
use Rattle.utc_value.specs.Stamp.{Stamp, absolute_stamp}
use Rattle.utc_value.specs.Octets.{RefusesOctets}
use Rattle.utc_calculator.specs.declared.cause.UtcRefusal.{UtcRefusal}
use Rattle.utc_calculator.specs.declared.cause.UtcCause.TheVariants as cause
use Rattle.utc_calculator.specs.Places.{refused_at}
use Rattle.utc_calculator.specs.declared.operation.Operation.{Operation}
use Rattle.utc_calculator.specs.declared.operation.Operation.TheVariants as op
use Rattle.utc_calculator.specs.Operations.{Operand, Octets, OperandKind, OctetsKind, kind_of, word_of, operands_of, ReadEach, HasOperand, IsFirstWrong, RefusesFields, HasWrongOctets}

-- a later field is not right, where the one before it is
pub behind : (x : Operand) (kinds : List OperandKind) (line other : List ℕ) (fields rest : List (List ℕ)) (c : UtcRefusal) → other ≡ line → HasOperand fields x rest → IsFirstWrong kinds other rest c
    → IsFirstWrong (kind_of x ∷ kinds) line fields c
behind x kinds line other fields rest c same has wrong = inr (x, rest, refl, has, subst (λ (l : List ℕ). IsFirstWrong kinds l rest c) same wrong)

-- any timestamp
pub any : Stamp
any = absolute_stamp (pos 0) None (pos 0)

-- the operands of the operation are not right
pub refused : (o : Operation) (word line : List ℕ) (fields : List (List ℕ)) → word ≡ word_of o → (c : UtcRefusal) → IsFirstWrong (map kind_of (operands_of o)) line fields c → RefusesFields word line fields c
refused o word line fields is c wrong = inr (inl (o, sym is, wrong))

pub refused_octets : (word line : List ℕ) (fields : List (List ℕ)) → word ≡ codes "text" → (c : UtcRefusal)
    → IsFirstWrong (OctetsKind ∷ []) line fields c ⊎ HasWrongOctets (codes "text") line fields c → RefusesFields word line fields c
refused_octets word line fields is c (inl wrong) = refused (op.Text any) word line fields is c wrong
refused_octets word line fields is c (inr (octets, fault, _, read, refuses, at)) = inr (inr (octets, fault, is, read, refuses, at))

-- what is mapped fails as it did
pub mapped : {T U E : Type 0} (r : Result T E) (m : Result U E) (F : T → U → Type 0) (Q R : E → Type 0) → ((e : E) → Q e → R e) → MatchResult r (λ x. IsOkAnd m (F x)) (λ e. m ≡ Err e) → IfErr r Q → IfErr m R
mapped (Ok x) (Ok y) F Q R w h q = tt
mapped (Ok x) (Err e) F Q R w h q = absurd h
mapped (Err e) m F Q R w h q = rw h (w e q)

-- octets that are no timestamp are refused as such, at their column
pub octets_refused : (octets line : List ℕ) (fields : List (List ℕ)) (column : ℕ) (fault : BytesFault) (r : UtcRefusal) → ReadEach fields (Octets octets ∷ []) → RefusesOctets octets fault
    → column ≡ column_of line fields → r ≡ refused_at column (cause.Bytes fault) → HasWrongOctets (codes "text") line fields r
octets_refused octets line fields column fault r read refuses is at = (octets, fault, refl, read, refuses, at ∙ ap (λ n. refused_at n (cause.Bytes fault)) is)

-- a line has a first field
pub has_word : (line : List ℕ) → fields_of line ≡ [] → ⊥
unfolding fields_of
has_word line e = omega (arith, ap length e, length-slice_split (λ octet. octet == 32) line)
