-- The parts of a stub, written one behind the other.
use Rattle.std.proofs.Common.{◌≡◌, ℕ, ◌+◌, ◌-◌, ◌*◌, ◌<◌, ◌≤◌, Bool, true, List, [], ◌∷◌, ◌++◌, length, drop, get_or, Ok, Err}
use Rattle.std.proofs.Common.{refl, sym, ap, ◌∙◌, append_assoc, arith, drop-cons, suc}
use Rattle.std.specs.Prelude.{◌&&◌}
use Rattle.std.specs.List.{list_all}
use Rattle.std.proofs.lemmas.Bool.{leb-true}
use Rattle.std.proofs.lemmas.List.{length-append, append-nil, drop_all}
use Rattle.ndr.specs.declared.endian.Endian.{Endian}
use Rattle.ndr.specs.declared.endian.TheConstants.{MAX_STUB}
use Rattle.ndr.specs.declared.fault.WriteFault.{WriteFault}
use Rattle.ndr.specs.declared.fault.WriteFault.TheVariants as fault
use Rattle.ndr.specs.declared.endian.Endian.TheVariants.{Little}
use Rattle.ndr.specs.Numbers.{number_octets}
use Rattle.ndr.specs.Strings.{is_printed, is_text, string_octets}
use Rattle.ndr.specs.Stubs.{value_octets}
use Rattle.ndr.specs.Writing.{Draft, Appends}
use Rattle.ndr.proofs.NumberFacts.{length-number_octets}
use Rattle.ndr.proofs.ReadBack.{length-aligned_octets, length-string_octets}
use Rattle.utc_value.specs.Stamp.{Stamp}
use Rattle.utc_value.specs.Octets.{octets_of}
use Rattle.time_wire.proofs.Booleans.{both}
use Rattle.time_wire.specs.Spelling.{Writes}
use Rattle.time_wire.specs.Parts.{shape_of, value_of, is_written, parts_octets, Puts}
use Rattle.time_wire.specs.declared.encoding.Part.{Part}
use Rattle.time_wire.specs.declared.encoding.Part.TheVariants as part

-- no part has more octets than a string with its gap
abbrev pub MAX_PIECE : ℕ
MAX_PIECE = 1040

abbrev pub piece : Endian → ℕ → Part → List ℕ
piece e at p = value_octets e at (shape_of p) (value_of p)

little : (size n : ℕ) → length (number_octets Little size n) ≡ size
little size n = length-number_octets Little size n

pub length-octets_of : (s : Stamp) → length (octets_of s) ≡ 16
unfolding octets_of
length-octets_of s = grind (arith, length-append, little)

short_text : (e : Endian) (at : ℕ) (text : List ℕ) → is_text text ≡ true → length (string_octets e at text) ≤ MAX_PIECE
short_text e at text h =
    let small : length text + 1 ≤ 1024 = leb-true (length text + 1) 1024 (both _ (list_all is_printed text) h).0 in
    omega (arith, length-string_octets e at text, small)

pub short_piece : (e : Endian) (at : ℕ) (p : Part) → is_written p ≡ true → length (piece e at p) ≤ MAX_PIECE
short_piece e at (part.Octet v) h = omega (arith, length-aligned_octets e 1 at v)
short_piece e at (part.Long v) h = omega (arith, length-aligned_octets e 4 at v)
short_piece e at (part.Hyper v) h = omega (arith, length-aligned_octets e 8 at v)
short_piece e at (part.Timestamp v) h = omega (arith, length-octets_of v)
short_piece e at (part.String v) h = short_text e at v.now h

-- a part that was put
pub put_is : (p : Part) (old new : Draft) → Puts p old new (Ok tt)
    → (new ≡ record old { octets = old.octets ++ piece old.endian (length old.octets) p }) × (is_written p ≡ true)
put_is (part.Octet v) old new h = (h.0, refl)
put_is (part.Long v) old new h = (h.0, refl)
put_is (part.Hyper v) old new h = (h.0, refl)
put_is (part.Timestamp v) old new h = (h.0, refl)
put_is (part.String v) old new h = (h.1.0, h.0)

-- octets behind which a part was put, with the rest
pub one_more : (e : Endian) (front whole : List ℕ) (p : Part) (parts : List Part)
    → front ++ parts_octets e (length front) (p ∷ parts) ≡ whole
    → (front ++ piece e (length front) p) ++ parts_octets e (length (front ++ piece e (length front) p)) parts ≡ whole
one_more e front whole p parts is =
    let next = piece e (length front) p in
    let place : length (front ++ next) ≡ length front + length next = length-append front next in
    let rest = parts_octets e (length front + length next) parts in
    ap (λ at. (front ++ next) ++ parts_octets e at parts) place ∙ append_assoc front next rest ∙ is

-- why a part is not put, where it can be a string
not_appended : (p : Part) (old new : Draft) (f : WriteFault) (is_string : Bool) (spelled : List ℕ)
    → Appends (piece old.endian (length old.octets) p) old new (Err f) → length old.octets ≤ MAX_STUB - MAX_PIECE → is_written p ≡ true
    → Writes is_string spelled (Err f)
not_appended p old new (fault.TooLong have) is_string spelled h room right =
    let short = short_piece old.endian (length old.octets) p right in
    absurd (omega (arith, h.1, length-append old.octets (piece old.endian (length old.octets) p), short, room))
not_appended p old new fault.StringValue is_string spelled h room right = absurd h
not_appended p old new fault.NoMemory is_string spelled h room right = tt

-- why a part is not put, of which the others are behind it
pub not_put : (p : Part) (old new : Draft) (f : WriteFault) (others : List Part) (is_string : Bool) (spelled : List ℕ)
    → Puts p old new (Err f) → length old.octets ≤ MAX_STUB - MAX_PIECE → list_all is_written (p ∷ others) ≡ is_string
    → Writes is_string spelled (Err f)
not_put (part.Octet v) old new f others b spelled h room is = not_appended (part.Octet v) old new f b spelled h room refl
not_put (part.Long v) old new f others b spelled h room is = not_appended (part.Long v) old new f b spelled h room refl
not_put (part.Hyper v) old new f others b spelled h room is = not_appended (part.Hyper v) old new f b spelled h room refl
not_put (part.Timestamp v) old new f others b spelled h room is = not_appended (part.Timestamp v) old new f b spelled h room refl
not_put (part.String v) old new (fault.TooLong have) others b spelled h room is =
    not_appended (part.String v) old new (fault.TooLong have) b spelled h.1 room h.0
not_put (part.String v) old new fault.StringValue others b spelled h room is = sym is ∙ ap (λ x. x && list_all is_written others) h.1
not_put (part.String v) old new fault.NoMemory others b spelled h room is = tt

-- so many of the parts were written
pub record Written (e : Endian) (parts : List Part) (done : ℕ) (d : Draft) : Type 0 where
  pub order : d.endian ≡ e
  pub whole : d.octets ++ parts_octets e (length d.octets) (drop done parts) ≡ parts_octets e 0 parts
  pub strings : list_all is_written (drop done parts) ≡ list_all is_written parts
  pub short : length d.octets ≤ MAX_PIECE * done

pub none_written : (e : Endian) (parts : List Part) (d : Draft) → d ≡ record { endian = e; octets = [] } → Written e parts 0 d
none_written e parts d is = rw is (record { order = refl; whole = refl; strings = refl; short = omega arith })

-- the part that is next, and those behind it
next_part : (parts : List Part) (done : ℕ) (p : Part) → done < length parts → p ≡ get_or parts done p
    → drop done parts ≡ p ∷ drop (done + 1) parts
next_part parts done p h is =
    let next : suc done ≡ done + 1 = omega arith in
    drop-cons parts done p h ∙ ap (λ k. get_or parts done p ∷ drop k parts) next ∙ ap (λ x. x ∷ drop (done + 1) parts) (sym is)

pub one_written : (e : Endian) (parts : List Part) (done : ℕ) (p : Part) (d d' : Draft) → Written e parts done d → done < length parts
    → p ≡ get_or parts done p → Puts p d d' (Ok tt) → Written e parts (done + 1) d'
one_written e parts done p d d' w h is put =
    let cut = next_part parts done p h is in
    let was = put_is p d d' put in
    let next = piece e (length d.octets) p in
    let behind = drop (done + 1) parts in
    let octets : d'.octets ≡ d.octets ++ next =
    ap (λ (x : Draft). x.octets) was.0 ∙ ap (λ o. d.octets ++ piece o (length d.octets) p) w.order in
    let order : d'.endian ≡ e = ap (λ (x : Draft). x.endian) was.0 ∙ w.order in
    let before = ap (λ ps. d.octets ++ parts_octets e (length d.octets) ps) (sym cut) ∙ w.whole in
    let whole = one_more e d.octets (parts_octets e 0 parts) p behind before in
    let strings : list_all is_written behind ≡ list_all is_written parts =
    ap (λ b. b && list_all is_written behind) (sym was.1) ∙ ap (list_all is_written) (sym cut) ∙ w.strings in
    record {
      order = order;
      whole = rw octets whole;
      strings = strings;
      short = rw octets (omega (arith, length-append d.octets next, short_piece e (length d.octets) p was.1, w.short));
    }

pub one_not_written : (e : Endian) (parts : List Part) (done : ℕ) (p : Part) (d d' : Draft) (f : WriteFault) → Written e parts done d
    → done < length parts → length parts ≤ 8 → p ≡ get_or parts done p → Puts p d d' (Err f)
    → Writes (list_all is_written parts) (parts_octets e 0 parts) (Err f)
one_not_written e parts done p d d' f w h few is put =
    let room : length d.octets ≤ MAX_STUB - MAX_PIECE = omega (arith, w.short, h, few) in
    let strings = ap (list_all is_written) (sym (next_part parts done p h is)) ∙ w.strings in
    not_put p d d' f (drop (done + 1) parts) (list_all is_written parts) (parts_octets e 0 parts) put room strings

pub all_written : (e : Endian) (parts : List Part) (done : ℕ) (d : Draft) (written : List ℕ) → Written e parts done d
    → length parts ≤ done → written ≡ d.octets → Writes (list_all is_written parts) (parts_octets e 0 parts) (Ok written)
all_written e parts done d written w h is =
    let none : drop done parts ≡ [] = drop_all done parts h in
    let ended = ap (λ ps. d.octets ++ parts_octets e (length d.octets) ps) (sym none) ∙ w.whole in
    (sym w.strings ∙ ap (list_all is_written) none, is ∙ sym (append-nil d.octets) ∙ ended)
