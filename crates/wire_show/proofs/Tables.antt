-- Walking by the tables of PDUs.
use Rattle.std.proofs.Common.{◌≡◌, Ok, ◌++◌, append_assoc, subst, ℕ, ◌+◌, Bool, true, false, List, [], ◌∷◌, length, take, drop, refl, sym, ap, ◌∙◌}
use Rattle.std.specs.Prelude.{slice_index, codes}
use Rattle.std.specs.Option.{unwrap_or}
use Rattle.dts_base.specs.declared.wire.Field.TheVariants as field
use Rattle.dts_base.specs.Names.{field_name}
use Rattle.ndr.specs.declared.endian.Endian.{Endian}
use Rattle.ndr.specs.declared.endian.Endian.TheVariants.{Big}
use Rattle.ndr.specs.Numbers.{gap, number_in}
use Rattle.pdu_fields.specs.declared.header.Header.{Header}
use Rattle.pdu_fields.specs.declared.header.TheConstants.{RPC_VERS, MAX_MINOR, MAX_CONTEXTS, MAX_TRANSFERS, MAX_RESULT, MAX_REASON}
use Rattle.pdu_fields.specs.declared.kind.Ptype.{Ptype}
use Rattle.pdu_fields.specs.declared.kind.Ptype.TheVariants as ptype
use Rattle.pdu_fields.specs.Grammar.{Spells, table_of}
use Rattle.pdu_fields.specs.declared.pdu.Pdu.{Pdu}
use Rattle.pdu_fields.specs.declared.pdu.Body.TheVariants as body
use Rattle.pdu_fields.specs.Headers.{any, between, exactly, is_length, header, ptype_at, order_at}
use Rattle.pdu_fields.specs.Bodies.{body_of, syntax_part, context_part, bind_part, result_part, ack_part, protocol_part, nak_table, has_object, request_table, response_table, fault_table}
use Rattle.pdu_fields.specs.Bodies.{ends as table_ends}
use Rattle.pdu_fields.specs.Tables.{octet, number, identifier, octets, repeated}
use Rattle.wire_show.specs.declared.pdu.Head.{Head}
use Rattle.wire_show.specs.declared.pdu.TheConstants.{VERSIONS, LENGTHS, ASSOCIATION, INTERFACE, TRANSFER, RESULT, PROTOCOL, REQUEST, RESPONSE, FAULT}
use Rattle.wire_show.specs.declared.end.Shown.TheVariants as shown
use Rattle.wire_show.specs.Fields.{line_of, text_of, Sized, parts_of}
use Rattle.wire_show.specs.Output.{lines_as, ntp_parts, ntp_fields, utc_parts, utc_fields}
use Rattle.wire_show.specs.Walking.{Walk, behind, behind_fields, behind_sized, behind_times, ended, whole, Walks, WalksOut, WalksHeader, IsHeadOf}
use Rattle.wire_show.proofs.Steps.{kept, passed, padded, rest, ends, repeats}

transfer : (e : Endian) (w : Walk) → Walks (syntax_part e field.TransferUuid) w (behind_fields TRANSFER w)
transfer e w = (_, λ more. kept field.TransferUuid (identifier e) any _ w ∙ kept field.Version (number e 4) any _ _)

result : (e : Endian) (w : Walk) → Walks (result_part e) w (behind_fields RESULT w)
result e w = (_, λ more. kept field.Result (number e 2) (between 0 MAX_RESULT) _ w ∙ kept field.Reason (number e 2) (between 0 MAX_REASON) _ _ ∙ kept field.TransferUuid (identifier e) any _ _ ∙ kept field.Version (number e 4) any _ _)

protocol : (w : Walk) → Walks protocol_part w (behind_fields PROTOCOL w)
protocol w = (_, λ more. kept field.Major octet any _ w ∙ kept field.Minor octet any _ _)

-- a context, of so many transfer syntaxes
pub context : (e : Endian) (w : Walk) →
    let counted = behind (field_name field.ContextId) 2 w in
    Walks (context_part e) w (behind_times (slice_index counted.left 0) TRANSFER (behind_fields INTERFACE (behind (field_name field.NTransferSyn) 1 counted)))
context e w =
    let counted = behind (field_name field.ContextId) 2 w in
    let count = slice_index counted.left 0 in
    let transfers = repeats (syntax_part e field.TransferUuid) TRANSFER (transfer e) count (behind_fields INTERFACE (behind (field_name field.NTransferSyn) 1 counted)) in
    (_, λ more. kept field.ContextId (number e 2) any _ w ∙ kept field.NTransferSyn octet (between 1 MAX_TRANSFERS) _ counted ∙ passed field.Reserved 1 _ _ ∙ kept field.AbstractUuid (identifier e) any _ _ ∙ kept field.Version (number e 4) any _ _ ∙ transfers.1 _)

-- a bind, from its contexts
pub bind : (e : Endian) (w last : Walk) →
    let counted = behind_fields ASSOCIATION w in
    Walks (repeated (context_part e) (slice_index counted.left 0)) (behind (field_name field.Reserved) 3 (behind (field_name field.NContext) 1 counted)) last → Walks (bind_part e) w last
bind e w last contexts =
    (_, λ more. kept field.MaxXmit (number e 2) any _ w ∙ kept field.MaxRecv (number e 2) any _ _ ∙ kept field.AssocGroup (number e 4) any _ _ ∙ kept field.NContext octet (between 1 MAX_CONTEXTS) _ _ ∙ passed field.Reserved 3 _ _ ∙ contexts.1 _)

-- an answer to a bind, up to its results
abbrev pub behind_address : Endian → Walk → Walk
behind_address e w = let counted = behind_fields ASSOCIATION w in behind (field_name field.SecAddress) (number_in e 2 counted.left) (behind (field_name field.SecLength) 2 counted)

abbrev pub behind_padding : Endian → Walk → Walk
behind_padding e w = let address = behind_address e w in behind (field_name field.Padding) (gap 4 address.at) address

pub ack : (e : Endian) (w : Walk) →
    let padding = behind_padding e w in
    Walks (ack_part e) w (behind_times (slice_index padding.left 0) RESULT (behind (field_name field.Reserved) 3 (behind (field_name field.NResults) 1 padding)))
ack e w =
    let padding = behind_padding e w in
    let results = repeats (result_part e) RESULT (result e) (slice_index padding.left 0) (behind (field_name field.Reserved) 3 (behind (field_name field.NResults) 1 padding)) in
    (_, λ more. kept field.MaxXmit (number e 2) any _ w ∙ kept field.MaxRecv (number e 2) any _ _ ∙ kept field.AssocGroup (number e 4) any _ _ ∙ kept field.SecLength (number e 2) any _ _ ∙ kept field.SecAddress (octets _) any _ _ ∙ padded field.Padding 4 _ (behind_address e w) ∙ kept field.NResults octet (between 1 MAX_CONTEXTS) _ padding ∙ passed field.Reserved 3 _ _ ∙ results.1 _)

pub nak : (h : Header) (w : Walk) →
    let counted = behind (field_name field.Reason) 2 w in
    WalksOut (nak_table h) w (behind_times (slice_index counted.left 0) PROTOCOL (behind (field_name field.NProtocols) 1 counted))
nak h w =
    let counted = behind (field_name field.Reason) 2 w in
    let protocols = repeats protocol_part PROTOCOL protocol (slice_index counted.left 0) (behind (field_name field.NProtocols) 1 counted) in
    kept field.Reason (number h.endian 2) any _ w ∙ kept field.NProtocols octet any _ counted ∙ protocols.1 _ ∙ ends _ _

-- a stub takes what is left
abbrev pub behind_stub : Walk → Walk
behind_stub w = behind (field_name field.Stub) (length w.left) w

pub response : (h : Header) (w : Walk) → WalksOut (response_table h) w (behind_stub (behind_fields RESPONSE w))
response h w =
    kept field.AllocHint (number h.endian 4) any _ w ∙ kept field.ContextId (number h.endian 2) any _ _ ∙ kept field.CancelCount octet any _ _ ∙ passed field.Reserved 1 _ _ ∙ rest field.Stub _ (behind_fields RESPONSE w) ∙ ends _ _

pub fault : (h : Header) (w : Walk) → WalksOut (fault_table h) w (behind_fields FAULT (behind_fields RESPONSE w))
fault h w =
    kept field.AllocHint (number h.endian 4) any _ w ∙ kept field.ContextId (number h.endian 2) any _ _ ∙ kept field.CancelCount octet any _ _ ∙ passed field.Reserved 1 _ _ ∙ kept field.Status (number h.endian 4) any _ _ ∙ passed field.Reserved 4 _ _ ∙ ends _ _

pub request_of_object : (h : Header) (w : Walk) → has_object h.flags ≡ true → WalksOut (request_table h) w (behind_stub (behind (field_name field.ObjectUuid) 16 (behind_fields REQUEST w)))
request_of_object h w e =
    rw e
    (kept field.AllocHint (number h.endian 4) any _ w ∙ kept field.ContextId (number h.endian 2) any _ _ ∙ kept field.Opnum (number h.endian 2) any _ _ ∙ kept field.ObjectUuid (identifier h.endian) any _ _ ∙ rest field.Stub _ (behind (field_name field.ObjectUuid) 16 (behind_fields REQUEST w)) ∙ ends _ _)

pub request_of_none : (h : Header) (w : Walk) → has_object h.flags ≡ false → WalksOut (request_table h) w (behind_stub (behind_fields REQUEST w))
request_of_none h w e =
    rw e
    (kept field.AllocHint (number h.endian 4) any _ w ∙ kept field.ContextId (number h.endian 2) any _ _ ∙ kept field.Opnum (number h.endian 2) any _ _ ∙ rest field.Stub _ (behind_fields REQUEST w) ∙ ends _ _)

-- the header
abbrev pub behind_ptype : Walk → Walk
behind_ptype w = behind (field_name field.Ptype) 1 (behind_fields VERSIONS w)

abbrev pub behind_flags : Walk → Walk
behind_flags w = behind (field_name field.PfcFlags) 1 (behind_ptype w)

abbrev pub behind_header : Walk → Walk
behind_header w = behind_fields LENGTHS (behind (field_name field.DrepOrder) 1 (behind_flags w))

abbrev pub head_of : Walk → Head
head_of w =
    let versions = behind_fields VERSIONS w in
    let kind = behind_ptype w in
    let flags = behind_flags w in
    record { ptype = unwrap_or (ptype_at (slice_index versions.left 0)) ptype.Orphaned; flags = slice_index kind.left 0; endian = unwrap_or (order_at (slice_index flags.left 0)) Big }

pub walked_header : (right : ℕ → Bool) (w : Walk) → WalksHeader (header right) w (behind_header w) (head_of w)
walked_header right w = (
  _,
  record { ptype = refl; flags = refl; endian = refl },
  λ more.
      kept field.RpcVers octet (exactly RPC_VERS) _ w ∙ kept field.RpcVersMinor octet (between 0 MAX_MINOR) _ _ ∙ kept field.Ptype octet _ _ (behind_fields VERSIONS w) ∙ kept field.PfcFlags octet any _ (behind_ptype w) ∙ kept field.DrepOrder octet _ _ (behind_flags w) ∙ passed field.DrepRest 3 _ _ ∙ kept field.FragLength (number _ 2) (is_length right) _ _ ∙ kept field.AuthLength (number _ 2) (exactly 0) _ _ ∙ kept field.CallId (number _ 4) any _ _,
)

-- the same from states that were come to
pub bind_from : (e : Endian) (old a b c last : Walk) (count : ℕ) → a ≡ behind_fields ASSOCIATION old → count ≡ slice_index a.left 0 → b ≡ behind (field_name field.NContext) 1 a → c ≡ behind (field_name field.Reserved) 3 b
    → Walks (repeated (context_part e) count) c last → Walks (bind_part e) old last
bind_from e old a b c last count ea en eb ec walks =
    bind e old last (rw (en, ec, eb, ea) at walks)

pub ack_from : (e : Endian) (old a b c d f g last : Walk) (length count gap_is : ℕ)
    → a ≡ behind_fields ASSOCIATION old → length ≡ number_in e 2 a.left → b ≡ behind (field_name field.SecLength) 2 a → c ≡ behind (field_name field.SecAddress) length b → gap_is ≡ gap 4 c.at → d ≡ behind (field_name field.Padding) gap_is c
    → count ≡ slice_index d.left 0 → f ≡ behind (field_name field.NResults) 1 d → g ≡ behind (field_name field.Reserved) 3 f → last ≡ behind_times count RESULT g → Walks (ack_part e) old last
ack_from e old a b c d f g last length count gap_is ea el eb ec eg ed en ef eh elast =
    rw (elast, eh, ef, en, ed, eg, ec, eb, el, ea) (ack e old)

pub context_from : (e : Endian) (old a b c last : Walk) (count : ℕ) → a ≡ behind (field_name field.ContextId) 2 old → count ≡ slice_index a.left 0 → b ≡ behind (field_name field.NTransferSyn) 1 a → c ≡ behind_fields INTERFACE b → last ≡ behind_times count TRANSFER c → Walks (context_part e) old last
context_from e old a b c last count ea en eb ec elast = rw (elast, ec, eb, en, ea) (context e old)

pub nak_from : (h : Header) (old a b last : Walk) (count : ℕ) → a ≡ behind (field_name field.Reason) 2 old → count ≡ slice_index a.left 0 → b ≡ behind (field_name field.NProtocols) 1 a → last ≡ behind_times count PROTOCOL b → WalksOut (nak_table h) old last
nak_from h old a b last count ea en eb elast = rw (elast, eb, en, ea) (nak h old)

pub response_from : (h : Header) (old a last : Walk) → a ≡ behind_fields RESPONSE old → last ≡ behind_stub a → WalksOut (response_table h) old last
response_from h old a last ea elast = rw (elast, ea) (response h old)

pub fault_from : (h : Header) (old a last : Walk) → a ≡ behind_fields RESPONSE old → last ≡ behind_fields FAULT a → WalksOut (fault_table h) old last
fault_from h old a last ea elast = rw (elast, ea) (fault h old)

pub object_from : (h : Header) (old a b last : Walk) → has_object h.flags ≡ true → a ≡ behind_fields REQUEST old → b ≡ behind (field_name field.ObjectUuid) 16 a → last ≡ behind_stub b → WalksOut (request_table h) old last
object_from h old a b last set ea eb elast = rw (elast, eb, ea) (request_of_object h old set)

pub none_from : (h : Header) (old a last : Walk) → has_object h.flags ≡ false → a ≡ behind_fields REQUEST old → last ≡ behind_stub a → WalksOut (request_table h) old last
none_from h old a last unset ea elast = rw (elast, ea) (request_of_none h old unset)

pub header_from : (right : ℕ → Bool) (old a b c d last : Walk) (kind : Ptype) (flags : ℕ) (endian : Endian)
    → a ≡ behind_fields VERSIONS old → b ≡ behind (field_name field.Ptype) 1 a → c ≡ behind (field_name field.PfcFlags) 1 b → d ≡ behind (field_name field.DrepOrder) 1 c → last ≡ behind_fields LENGTHS d
    → kind ≡ unwrap_or (ptype_at (slice_index a.left 0)) ptype.Orphaned → flags ≡ slice_index b.left 0 → endian ≡ unwrap_or (order_at (slice_index c.left 0)) Big → WalksHeader (header right) old last (record { ptype = kind; flags = flags; endian = endian })
header_from right old a b c d last kind flags endian ea eb ec ed elast ek ef ee = rw (ek, ef, ee, elast, ed, ec, eb, ea) (walked_header right old)

-- what stands behind the header
pub body_bind : (h : Header) (head : Head) (old new : Walk) → IsHeadOf h head → head.ptype ≡ ptype.Bind → ((e : Endian) → Walks (bind_part e) old new) → WalksOut (body_of h.ptype h) old new
body_bind h head old new is e walks = rw (is.ptype, e) ((walks h.endian).1 (λ b. table_ends h (body.Bind b)) ∙ ends _ _)

pub body_alter : (h : Header) (head : Head) (old new : Walk) → IsHeadOf h head → head.ptype ≡ ptype.AlterContext → ((e : Endian) → Walks (bind_part e) old new) → WalksOut (body_of h.ptype h) old new
body_alter h head old new is e walks = rw (is.ptype, e) ((walks h.endian).1 (λ b. table_ends h (body.AlterContext b)) ∙ ends _ _)

in_its_order : (h : Header) (head : Head) (old new : Walk) → IsHeadOf h head → Walks (ack_part head.endian) old new → Walks (ack_part h.endian) old new
in_its_order h head old new is walks = subst (λ e. Walks (ack_part e) old new) (sym is.endian) walks

pub body_ack : (h : Header) (head : Head) (old new : Walk) → IsHeadOf h head → head.ptype ≡ ptype.BindAck → Walks (ack_part head.endian) old new → WalksOut (body_of h.ptype h) old new
body_ack h head old new is e walks = rw (is.ptype, e) ((in_its_order h head old new is walks).1 (λ b. table_ends h (body.BindAck b)) ∙ ends _ _)

pub body_alter_ack : (h : Header) (head : Head) (old new : Walk) → IsHeadOf h head → head.ptype ≡ ptype.AlterContextResp → Walks (ack_part head.endian) old new → WalksOut (body_of h.ptype h) old new
body_alter_ack h head old new is e walks = rw (is.ptype, e) ((in_its_order h head old new is walks).1 (λ b. table_ends h (body.AlterContextResp b)) ∙ ends _ _)

pub body_shutdown : (h : Header) (head : Head) (old : Walk) → IsHeadOf h head → head.ptype ≡ ptype.Shutdown → WalksOut (body_of h.ptype h) old old
body_shutdown h head old is e = rw (is.ptype, e) (ends _ _)

pub body_cancel : (h : Header) (head : Head) (old : Walk) → IsHeadOf h head → head.ptype ≡ ptype.CoCancel → WalksOut (body_of h.ptype h) old old
body_cancel h head old is e = rw (is.ptype, e) (ends _ _)

pub body_orphaned : (h : Header) (head : Head) (old : Walk) → IsHeadOf h head → head.ptype ≡ ptype.Orphaned → WalksOut (body_of h.ptype h) old old
body_orphaned h head old is e = rw (is.ptype, e) (ends _ _)

-- the lines of a whole PDU
pub pdu_shown : (os text : List ℕ) (v : Pdu) (old a b : Walk) (head : Head) → Spells v os → old ≡ record { text = []; at = 0; left = os }
    → ((right : ℕ → Bool) → WalksHeader (header right) old a head) → ((h : Header) → IsHeadOf h head → WalksOut (body_of h.ptype h) a b) → text ≡ ended b → lines_as shown.Pdu os ≡ Ok text
pdu_shown os text v old a b head spelled start walked out is =
    let w = walked (exactly (length os)) in
    let all : whole (table_of (length os)) old ≡ text = w.2 (λ h. body_of h.ptype h) ∙ out w.0 w.1 ∙ sym is in
    rw spelled (ap Ok (ap (whole (table_of (length os))) (sym start) ∙ all))

-- the text where the octets that are left have fields of fixed sizes
abbrev whole_of : List Sized → Walk → List ℕ
whole_of fields w = w.text ++ text_of (parts_of fields w.at w.left)

sized : (first : Sized) (others : List Sized) (old : Walk) → whole_of (first ∷ others) old ≡ whole_of others (behind first.name first.size old)
sized first others old =
    let os = take first.size old.left in
    sym (append_assoc old.text (line_of (record { name = first.name; at = old.at; octets = os })) (text_of (parts_of others (old.at + length os) (drop first.size old.left))))

-- the lines of a timestamp
pub utc_shown : (os text : List ℕ) (a b c d : Walk) → utc_parts os ≡ Ok (parts_of utc_fields 0 os) → a ≡ record { text = []; at = 0; left = os }
    → b ≡ behind (codes "time") 8 a → c ≡ behind (codes "inaccuracy") 6 b → d ≡ behind (codes "tdf_version") 2 c → text ≡ ended d → lines_as shown.Utc os ≡ Ok text
utc_shown os text a b c d right ea eb ec ed is =
    let last = is ∙ ap ended (ed ∙ ap (behind (codes "tdf_version") 2) (ec ∙ ap (behind (codes "inaccuracy") 6) (eb ∙ ap (behind (codes "time") 8) ea))) in
    let start : Walk = record { text = []; at = 0; left = os } in
    let time : Sized = record { name = codes "time"; size = 8 } in
    let inaccuracy : Sized = record { name = codes "inaccuracy"; size = 6 } in
    let tdf_version : Sized = record { name = codes "tdf_version"; size = 2 } in
    let joined : whole_of utc_fields start ≡ ended (behind (codes "tdf_version") 2 (behind (codes "inaccuracy") 6 (behind (codes "time") 8 start))) =
    sized time (inaccuracy ∷ tdf_version ∷ []) start ∙ sized inaccuracy (tdf_version ∷ []) (behind (codes "time") 8 start) ∙ sized tdf_version [] (behind (codes "inaccuracy") 6 (behind (codes "time") 8 start)) in
    rw right (ap Ok (joined ∙ sym last))

-- fields of fixed sizes, one behind the other
all_sized : (fields : List Sized) (w : Walk) → whole_of fields w ≡ ended (behind_sized fields w)
all_sized [] w = refl
all_sized (first ∷ others) w = sized first others w ∙ all_sized others (behind first.name first.size w)

-- the lines of a packet
pub ntp_shown : (os text : List ℕ) (a b : Walk) → ntp_parts os ≡ Ok (parts_of ntp_fields 0 os) → a ≡ record { text = []; at = 0; left = os }
    → b ≡ behind_sized ntp_fields a → text ≡ ended b → lines_as shown.Ntp os ≡ Ok text
ntp_shown os text a b right ea eb is =
    let start : Walk = record { text = []; at = 0; left = os } in
    rw right (ap Ok (all_sized ntp_fields start ∙ sym (is ∙ ap ended (eb ∙ ap (behind_sized ntp_fields) ea))))
