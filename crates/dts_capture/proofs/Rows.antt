-- What the definitions of ranges give at some lines.
use Rattle.std.proofs.Common.{◌≡◌, inl, inr, ℕ, List, Option, None, refl, arith}
use Rattle.dts_capture.specs.declared.event.Event.TheVariants as event
use Rattle.dts_capture.specs.declared.line.Line.TheVariants as line
use Rattle.dts_capture.specs.Grammar.{ask_form, served_form, serve_forms}
use Rattle.dts_capture.specs.Ranges.{IsLineOf, IsLineInRange, IsSpellable, most_octets}
use Rattle.dts_capture.proofs.Lengths.{fits}

each_line_has_room_for_8162_octets : most_octets ≡ 8162
each_line_has_room_for_8162_octets = refl

read_in_range : IsLineInRange None (line.Event None (event.Read 7))
read_in_range = inr (inr (inr (inl (7, (omega arith, omega arith), refl))))

a_read_can_be_spelled : IsSpellable None (line.Event None (event.Read 7))
a_read_can_be_spelled = record { range = read_in_range; short = fits None (line.Event None (event.Read 7)) read_in_range (omega arith) }

a_server_asks_nothing : (bytes : List ℕ) → IsLineOf (ask_form None) (line.Event None (event.Ask 1 999 bytes)) → ⊥
a_server_asks_nothing bytes (osc, in_range, (conn, client, (b, some, is))) = let e : 999 ≡ conn = cc in omega (arith, e, client.0)

a_server_is_not_served : (k : Option ℕ) → IsLineOf (served_form event.Lost k) (line.Event k (event.Lost 1 999)) → ⊥
a_server_is_not_served k (osc, in_range, (peer, number, (client, is))) = let e : 999 ≡ peer = cc in omega (arith, e, client)

a_tick_is_not_served : (k : Option ℕ) (osc word : ℕ) → IsLineOf (serve_forms k) (line.Event k (event.Tick osc word)) → ⊥
a_tick_is_not_served k osc word (inl (o, in_range, is)) = cc
a_tick_is_not_served k osc word (inr (inl (o, in_range, (conn, client, (b, some, is))))) = cc
a_tick_is_not_served k osc word (inr (inr (inl (o, in_range, (peer, number, (client, is)))))) = cc
a_tick_is_not_served k osc word (inr (inr (inr (inl (o, in_range, (peer, number, (client, is))))))) = cc
a_tick_is_not_served k osc word (inr (inr (inr (inr none)))) = none
