-- The printed fields of a line are those of its way through the grammar.
use Rattle.std.proofs.Common.{◌≡◌, inl, inr, ℕ, Bool, true, false, List, [], ◌∷◌, Option, Some, None, refl, sym, ap, ◌∙◌, arith}
use Rattle.std.specs.Prelude.{codes, decimal}
use Rattle.std.specs.Fmt.{signed_decimal}
use Rattle.dts_capture.specs.declared.event.Event.{Event}
use Rattle.dts_capture.specs.declared.event.Event.TheVariants as event
use Rattle.dts_capture.specs.declared.line.Line.{Line}
use Rattle.dts_capture.specs.Grammar.{first_connection, start_form, octets_form, peer_form, served_form, read_form, serve_forms, direct_forms, peer_forms, line_forms}
use Rattle.dts_capture.specs.Printing.{line_fields}
use Rattle.dts_capture.specs.Ranges.{IsLineOf}
use Rattle.dts_capture.proofs.FormTexts.{IsPlain, fields_on}

-- ---- the forms are plain

start_plain : IsPlain start_form
start_plain = (omega arith, λ osc. (tt, λ value. (refl, tt, (tt, λ lo. (tt, λ i. tt)))))

octets_plain : (first : ℕ) (may_be_empty : Bool) (e : ℕ → ℕ → List ℕ → Event) (k : Option ℕ) → IsPlain (octets_form first may_be_empty e k)
octets_plain first may_be_empty e k = (omega arith, λ osc. (omega arith, λ peer. (tt, λ b. tt)))

peer_plain : (e : ℕ → ℕ → Event) → IsPlain (peer_form e)
peer_plain e = (omega arith, λ osc. (omega arith, λ peer. tt))

served_plain : (e : ℕ → ℕ → Event) (k : Option ℕ) → IsPlain (served_form e k)
served_plain e k = (omega arith, λ osc. (omega arith, λ peer. tt))

read_plain : (k : Option ℕ) → IsPlain (read_form k)
read_plain k = (omega arith, λ osc. tt)

serve_plain : (k : Option ℕ) → IsPlain (serve_forms k)
serve_plain k = (
  refl,
  read_plain k,
  (
    refl,
    octets_plain first_connection false event.Ask k,
    (refl, served_plain event.Lost k, (refl, served_plain event.Unsent k, tt)),
  ),
)

direct_plain : (current : Option ℕ) → IsPlain (direct_forms current)
direct_plain current = (
  refl,
  (omega arith, λ osc. (omega arith, λ tag. tt)),
  (
    refl,
    (omega arith, λ osc. (omega arith, λ tag. (tt, λ lo. (tt, λ i. tt)))),
    (refl, (omega arith, λ osc. (omega arith, λ required. tt)), (refl, (tt, λ k. serve_plain (Some k)), tt)),
  ),
)

peer_forms_plain : (current : Option ℕ) → IsPlain (peer_forms current)
peer_forms_plain current = (
  refl,
  octets_plain 0 false event.Stream None,
  (refl, octets_plain 0 true event.Gram None, (refl, peer_plain event.Lost, (refl, peer_plain event.Unsent, direct_plain current))),
)

pub lines_plain : (current : Option ℕ) → IsPlain (line_forms current)
lines_plain current = (
  refl,
  start_plain,
  (
    refl,
    (omega arith, λ osc. (tt, λ w. tt)),
    (refl, read_plain None, (refl, octets_plain first_connection false event.Ask None, peer_forms_plain current)),
  ),
)

-- ---- the fields on each way

serve_fields : (k : ℕ) (l : Line) (d : IsLineOf (serve_forms (Some k)) l)
    → codes "at" ∷ decimal k ∷ fields_on (serve_forms (Some k)) l d ≡ line_fields l
serve_fields k l (inl (osc, ho, is)) = sym (ap line_fields is)
serve_fields k l (inr (inl (osc, ho, (conn, hc, (b, hb, is))))) = sym (ap line_fields is)
serve_fields k l (inr (inr (inl (osc, ho, (peer, hp, (client, is)))))) = sym (ap line_fields is)
serve_fields k l (inr (inr (inr (inl (osc, ho, (peer, hp, (client, is))))))) = sym (ap line_fields is)
serve_fields k l (inr (inr (inr (inr d)))) = absurd d

direct_fields : (current : Option ℕ) (l : Line) (d : IsLineOf (direct_forms current) l)
    → fields_on (direct_forms current) l d ≡ line_fields l
direct_fields current l (inl (osc, ho, (tag, ht, is))) = sym (ap line_fields is)
direct_fields current l (inr (inl (osc, ho, (tag, ht, (lo, hl, (i, hi, is)))))) =
    ap (λ low. codes "source" ∷ decimal osc ∷ decimal tag ∷ signed_decimal low ∷ signed_decimal i.hi ∷ []) (sym hi.0)
    ∙ sym (ap line_fields is)
direct_fields current l (inr (inr (inl (osc, ho, (required, hr, is))))) = sym (ap line_fields is)
direct_fields current l (inr (inr (inr (inl (k, hk, d))))) = serve_fields k l d
direct_fields current l (inr (inr (inr (inr d)))) = absurd d

peer_fields : (current : Option ℕ) (l : Line) (d : IsLineOf (peer_forms current) l) → fields_on (peer_forms current) l d ≡ line_fields l
peer_fields current l (inl (osc, ho, (peer, hp, (b, hb, is)))) = sym (ap line_fields is)
peer_fields current l (inr (inl (osc, ho, (peer, hp, (b, hb, is))))) = sym (ap line_fields is)
peer_fields current l (inr (inr (inl (osc, ho, (peer, hp, is))))) = sym (ap line_fields is)
peer_fields current l (inr (inr (inr (inl (osc, ho, (peer, hp, is)))))) = sym (ap line_fields is)
peer_fields current l (inr (inr (inr (inr d)))) = direct_fields current l d

pub printed_fields : (current : Option ℕ) (l : Line) (d : IsLineOf (line_forms current) l)
    → fields_on (line_forms current) l d ≡ line_fields l
printed_fields current l (inl (osc, ho, (value, hv, inl is))) = sym (ap line_fields is)
printed_fields current l (inl (osc, ho, (value, hv, inr (lo, hl, (i, hi, is))))) =
    ap (λ low. codes "start" ∷ decimal osc ∷ signed_decimal value ∷ signed_decimal low ∷ signed_decimal i.hi ∷ []) (sym hi.0)
    ∙ sym (ap line_fields is)
printed_fields current l (inr (inl (osc, ho, (w, hw, is)))) = sym (ap line_fields is)
printed_fields current l (inr (inr (inl (osc, ho, is)))) = sym (ap line_fields is)
printed_fields current l (inr (inr (inr (inl (osc, ho, (conn, hc, (b, hb, is))))))) = sym (ap line_fields is)
printed_fields current l (inr (inr (inr (inr d)))) = peer_fields current l d
