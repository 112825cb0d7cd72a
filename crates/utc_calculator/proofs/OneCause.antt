-- A refused line has one cause.
use Rattle.std.proofs.Common.{◌≡◌, ◌⊎◌, inl, inr, ℕ, Bool, cond, List, [], ◌∷◌, map, refl, sym, ap, subst, ◌∙◌}
use Rattle.utc_value.specs.declared.BytesFault.{BytesFault}
use Rattle.utc_value.specs.Octets.{RefusesOctets}
use Rattle.utc_value.proofs.OctetLaws.{one_fault as bytes_fault}
use Rattle.utc_text.proofs.TextLaws.{absolute_one_fault, relative_one_fault}
use Rattle.utc_routines.proofs.Refusals.{sum_fault, difference_fault, absolute_fault, product_fault, tdf_fault, unlike_fault, bound_fault, points_fault}
use Rattle.utc_text.specs.declared.fault.TextFault.{TextFault}
use Rattle.utc_routines.specs.declared.UtcFault.{UtcFault}
use Rattle.utc_calculator.specs.declared.cause.UtcRefusal.{UtcRefusal}
use Rattle.utc_calculator.specs.declared.cause.UtcCause.{UtcCause}
use Rattle.utc_calculator.specs.declared.cause.UtcCause.TheVariants as cause
use Rattle.utc_calculator.specs.Places.{refused_here, refused_whole}
use Rattle.utc_calculator.specs.declared.operation.Operation.{Operation}
use Rattle.utc_calculator.specs.declared.operation.Operation.TheVariants as op
use Rattle.utc_calculator.specs.Operations.{Operand, Octets, OperandKind, TimeKind, NumberKind, MinutesKind, OctetsKind, kind_of, operands_of, HasOperand, IsWrong, IsNextWrong, IsLeftOver, IsFirstWrong, IsUnknown, IsNoTime, is_relative_form, HasWrongOperand, HasWrongOctets, RefusesFields, RefusesReading}
use Rattle.utc_calculator.specs.Results.{RefusesRoutine}
use Rattle.utc_calculator.specs.Answers.{RefusesComputing, RefusesPrinting, Refuses}
use Rattle.utc_calculator.proofs.Operands.{any}
use Rattle.utc_calculator.proofs.Unique.{same_kinds, same_operands, Spells-unique}
use Rattle.utc_calculator.proofs.ReadRight.{next_right, all_right, reading_right}
use Rattle.utc_calculator.proofs.Computed.{computed}

-- a text that is no time has one fault
chosen : (second : Bool) (a a' b b' : TextFault) → a ≡ a' → b ≡ b' → cond second b a ≡ cond second b' a'
chosen second a a' b b' e f = rw (e, f) refl

one_text : (text : List ℕ) (x y : TextFault) → IsNoTime text x → IsNoTime text y → x ≡ y
one_text text x y h k =
    h.told
    ∙ chosen (is_relative_form text) h.absolute k.absolute h.relative k.relative
    (absolute_one_fault text h.absolute k.absolute h.as_absolute k.as_absolute)
    (relative_one_fault text h.relative k.relative h.as_relative k.as_relative)
    ∙ sym k.told

-- a field that is wrong as an operand of a kind has one cause
one_wrong : (kind : OperandKind) (field : List ℕ) (told : UtcCause → UtcRefusal) (c d : UtcRefusal) → IsWrong kind field told c → IsWrong kind field told d → c ≡ d
one_wrong TimeKind field told c d (fault, e, is) (other, f, at) = is ∙ ap (λ (x : TextFault). told (cause.Text x)) (one_text field fault other e f) ∙ sym at
one_wrong NumberKind field told c d h k = h.1 ∙ sym k.1
one_wrong MinutesKind field told c d h k = h.1 ∙ sym k.1
one_wrong OctetsKind field told c d h k = h.1 ∙ sym k.1

one_next : (kind : OperandKind) (line : List ℕ) (fields : List (List ℕ)) (c d : UtcRefusal) → IsNextWrong kind line fields c → IsNextWrong kind line fields d → c ≡ d
one_next kind line [] c d h k = h ∙ sym k
one_next kind line ([] ∷ fields) c d h k = h ∙ sym k
one_next kind line ((octet ∷ octets) ∷ fields) c d h k = one_wrong kind (octet ∷ octets) (refused_here line ((octet ∷ octets) ∷ fields)) c d h k

-- and so have fields that are left over
one_left : (line : List ℕ) (fields : List (List ℕ)) (c d : UtcRefusal) → IsLeftOver line fields c → IsLeftOver line fields d → c ≡ d
one_left line [] c d h k = absurd h
one_left line ([] ∷ fields) c d h k = h ∙ sym k
one_left line ((octet ∷ octets) ∷ fields) c d h k = h ∙ sym k

-- a field that is right as an operand is not wrong as one of its kind
right_first : (x : Operand) (kind : OperandKind) (line : List ℕ) (fields rest : List (List ℕ)) (c : UtcRefusal) → kind_of x ≡ kind → HasOperand fields x rest → IsNextWrong kind line fields c → ⊥
right_first x kind line fields rest c e (field, cut, read) wrong =
    let same : IsNextWrong (kind_of x) line fields c = subst (λ (k : OperandKind). IsNextWrong k line fields c) (sym e) wrong in
    next_right x field line rest c read (subst (λ (fs : List (List ℕ)). IsNextWrong (kind_of x) line fs c) cut same)

same_rest : (fields : List (List ℕ)) (x y : Operand) (rest others : List (List ℕ)) → HasOperand fields x rest → HasOperand fields y others → others ≡ rest
same_rest fields x y rest others (field, cut, _) (field', cut', _) = let both = sym cut ∙ cut' in cc

-- the first field that is wrong is one
one_first : (kinds : List OperandKind) (line : List ℕ) (fields : List (List ℕ)) (c d : UtcRefusal) → IsFirstWrong kinds line fields c → IsFirstWrong kinds line fields d → c ≡ d
one_first [] line fields c d h k = one_left line fields c d h k
one_first (kind ∷ kinds) line fields c d (inl h) (inl k) = one_next kind line fields c d h k
one_first (kind ∷ kinds) line fields c d (inl h) (inr (y, rest, e, has, _)) = absurd (right_first y kind line fields rest c e has h)
one_first (kind ∷ kinds) line fields c d (inr (x, rest, e, has, _)) (inl k) = absurd (right_first x kind line fields rest d e has k)
one_first (kind ∷ kinds) line fields c d (inr (x, rest, _, has, h)) (inr (y, others, _, has', k)) =
    one_first kinds line rest c d h (subst (λ (fs : List (List ℕ)). IsFirstWrong kinds line fs d) (same_rest fields x y rest others has has') k)

one_operand : (word line : List ℕ) (fields : List (List ℕ)) (c d : UtcRefusal) → HasWrongOperand word line fields c → HasWrongOperand word line fields d → c ≡ d
one_operand word line fields c d (o, e, h) (p, f, k) =
    one_first (map kind_of (operands_of o)) line fields c d h (subst (λ (kinds : List OperandKind). IsFirstWrong kinds line fields d) (same_kinds p o (f ∙ sym e)) k)

-- octets that are no timestamp have one fault
one_octets : (word line : List ℕ) (fields : List (List ℕ)) (c d : UtcRefusal) → HasWrongOctets word line fields c → HasWrongOctets word line fields d → c ≡ d
one_octets word line fields c d (octets, f, _, read, h, is) (others, g, _, read', k, at) =
    let same = same_operands fields (Octets octets ∷ []) (Octets others ∷ []) refl read read' in
    let given : others ≡ octets = cc in
    is ∙ ap (λ (x : BytesFault). refused_here line fields (cause.Bytes x)) (bytes_fault octets f g h (subst (λ (xs : List ℕ). RefusesOctets xs g) given k)) ∙ sym at

-- they are right as an operand
operand_or_octets : (word line : List ℕ) (fields : List (List ℕ)) (c d : UtcRefusal) → HasWrongOperand word line fields c → HasWrongOctets word line fields d → ⊥
operand_or_octets word line fields c d (o, e, wrong) (octets, _, text, read, _, _) =
    all_right (Octets octets ∷ []) line fields c read (subst (λ (kinds : List OperandKind). IsFirstWrong kinds line fields c) (same_kinds o (op.Text any) (e ∙ text)) wrong)

-- and their word is known
abbrev IsWrongBehind : List ℕ → List ℕ → List (List ℕ) → UtcRefusal → Type 0
IsWrongBehind word line fields c = HasWrongOperand word line fields c ⊎ HasWrongOctets word line fields c

known : (word line : List ℕ) (fields : List (List ℕ)) (c : UtcRefusal) → IsUnknown word → IsWrongBehind word line fields c → ⊥
known word line fields c unknown (inl (o, e, _)) = unknown o e
known word line fields c unknown (inr (_, _, text, _, _, _)) = unknown (op.Text any) (sym text)

one_known : (word line : List ℕ) (fields : List (List ℕ)) (c d : UtcRefusal) → IsWrongBehind word line fields c → IsWrongBehind word line fields d → c ≡ d
one_known word line fields c d (inl h) (inl k) = one_operand word line fields c d h k
one_known word line fields c d (inl h) (inr k) = absurd (operand_or_octets word line fields c d h k)
one_known word line fields c d (inr h) (inl k) = absurd (operand_or_octets word line fields d c k h)
one_known word line fields c d (inr h) (inr k) = one_octets word line fields c d h k

one_fields : (word line : List ℕ) (fields : List (List ℕ)) (c d : UtcRefusal) → RefusesFields word line fields c → RefusesFields word line fields d → c ≡ d
one_fields word line fields c d (inl h) (inl k) = h.1 ∙ sym k.1
one_fields word line fields c d (inl h) (inr k) = absurd (known word line fields d h.0 k)
one_fields word line fields c d (inr h) (inl k) = absurd (known word line fields c k.0 h)
one_fields word line fields c d (inr h) (inr k) = one_known word line fields c d h k

one_reading : (line : List ℕ) (c d : UtcRefusal) → RefusesReading line c → RefusesReading line d → c ≡ d
one_reading line c d (word, fields, cut, h) (word', fields', cut', k) =
    let both : word ∷ fields ≡ word' ∷ fields' = sym cut ∙ cut' in
    let words : word' ≡ word = cc in
    let same : fields' ≡ fields = cc in
    one_fields word line fields c d h (rw (words, same) at k)

-- each routine refuses operands with one fault
one_fault : (o : Operation) (f g : UtcFault) → RefusesRoutine o f → RefusesRoutine o g → f ≡ g
one_fault (op.Add a b) f g h k = sum_fault a b f g h k
one_fault (op.Sub a b) f g h k = difference_fault a b f g h k
one_fault (op.Abs a) f g h k = absolute_fault a f g h k
one_fault (op.Mul a n) f g h k = product_fault a n f g h k
one_fault (op.Span a b) f g h k = unlike_fault a b f g h k
one_fault (op.Bound a b) f g h k = bound_fault a b f g h k
one_fault (op.Tdf a t) f g h k = tdf_fault a t f g h k
one_fault (op.Interval a b) f g h k = unlike_fault a b f g h k
one_fault (op.Mid a b) f g h k = unlike_fault a b f g h k
one_fault (op.Point a) f g h k = points_fault a f g h k
one_fault (op.Bytes a) f g h k = absurd h
one_fault (op.Text a) f g h k = absurd h

one_computing : (line : List ℕ) (c d : UtcRefusal) → RefusesComputing line c → RefusesComputing line d → c ≡ d
one_computing line c d h k =
    let same = Spells-unique line k.operation h.operation k.spelled h.spelled in
    h.is ∙ ap (λ (x : UtcFault). refused_whole (cause.Routine x)) (one_fault h.operation h.fault k.fault h.refused (rw same at k.refused)) ∙ sym k.is

-- what a routine refuses has no outcome
computing_or_printing : (line : List ℕ) (c d : UtcRefusal) → RefusesComputing line c → RefusesPrinting line d → ⊥
computing_or_printing line c d h k =
    let same = Spells-unique line h.operation k.has.operation h.spelled k.has.spelled in
    computed k.has.operation k.outcome h.fault k.has.yields (rw same at h.refused)

-- a line that is refused later is read
read_before : (line : List ℕ) (c d : UtcRefusal) → RefusesReading line c → RefusesComputing line d ⊎ RefusesPrinting line d → ⊥
read_before line c d h (inl k) = reading_right line k.operation c k.spelled h
read_before line c d h (inr k) = reading_right line k.has.operation c k.has.spelled h

one_later : (line : List ℕ) (c d : UtcRefusal) → RefusesComputing line c ⊎ RefusesPrinting line c → RefusesComputing line d ⊎ RefusesPrinting line d → c ≡ d
one_later line c d (inl h) (inl k) = one_computing line c d h k
one_later line c d (inl h) (inr k) = absurd (computing_or_printing line c d h k)
one_later line c d (inr h) (inl k) = absurd (computing_or_printing line d c k h)
one_later line c d (inr h) (inr k) = h.is ∙ sym k.is

-- a refused line has one cause
pub one_cause : (line : List ℕ) (c d : UtcRefusal) → Refuses line c → Refuses line d → c ≡ d
one_cause line c d (inl h) (inl k) = one_reading line c d h k
one_cause line c d (inl h) (inr k) = absurd (read_before line c d h k)
one_cause line c d (inr h) (inl k) = absurd (read_before line d c k h)
one_cause line c d (inr h) (inr k) = one_later line c d h k
