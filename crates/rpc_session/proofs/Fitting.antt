-- The fragments of a message have its stub, and none is longer than the limit.
use Rattle.std.proofs.Common.{◌≡◌, ◌≤◌, ◌<◌, ◌+◌, ◌-◌, ◌*◌, ℕ, zero, suc, Bool, true, false, List, ◌++◌, length, take, drop, refl, sym, ap, ◌∙◌, arith, length-drop, length-take, add-one}
use Rattle.std.specs.List.{AllByRecursion, flat_map}
use Rattle.std.proofs.lemmas.List.{append-nil, take-append-drop}
use Rattle.std.proofs.Math.Nat.{lt-mul-div-succ, mul-suc}
use Rattle.pdu_fields.specs.declared.pdu.Pdu.{Pdu}
use Rattle.rpc_session.specs.declared.fragments.TheConstants.{STUB_OFFSET}
use Rattle.rpc_session.specs.declared.fragments.Direction.{Direction}
use Rattle.rpc_session.specs.declared.fragments.Direction.TheVariants as direction
use Rattle.rpc_session.specs.declared.fragments.Message.{Message}
use Rattle.rpc_session.specs.Client.{stub_of}
use Rattle.rpc_session.specs.Fragments.{body_of, fragments, full_fragments, message, stub_room}

carries : (m : Message) (d : Direction) (hint : ℕ) (piece : List ℕ) → stub_of (body_of m d hint piece) ≡ piece
carries m (direction.Request opnum) hint piece = refl
carries m direction.Response hint piece = refl

joined : (m : Message) (size : ℕ) (first : Bool) (full : ℕ) (xs : List ℕ)
    → flat_map (λ (p : Pdu). stub_of p.body) (fragments m size first full xs) ≡ xs
joined m size first zero xs = append-nil (stub_of (body_of m m.direction (length xs) xs)) ∙ carries m m.direction (length xs) xs
joined m size first (suc full) xs =
    ap (λ ys. ys ++ flat_map (λ (p : Pdu). stub_of p.body) (fragments m size false full (drop size xs)))
    (carries m m.direction (length xs) (take size xs))
    ∙ ap (λ ys. take size xs ++ ys) (joined m size false full (drop size xs))
    ∙ take-append-drop size xs

pub whole : (m : Message) (limit : ℕ) (stub : List ℕ) → flat_map (λ (p : Pdu). stub_of p.body) (message m limit stub) ≡ stub
whole m limit stub = joined m (stub_room limit) true (full_fragments (stub_room limit) stub) stub

-- what so many fragments and a last one have room for
room : ℕ → ℕ → ℕ
room zero size = size
room (suc full) size = room full size + size

room_is : (full size : ℕ) → room full size ≡ size * (full + 1)
unfolding room
room_is zero size = omega arith
room_is (suc full) size = ap (λ n. n + size) (room_is full size) ∙ ap (λ n. size * n + size) (add-one full)
    ∙ sym (mul-suc size (suc full)) ∙ ap (λ n. size * n) (sym (add-one (suc full)))

part_fits : (m : Message) (size hint limit : ℕ) (piece : List ℕ) → STUB_OFFSET + size ≤ limit → length piece ≤ size
    → STUB_OFFSET + length (stub_of (body_of m m.direction hint piece)) ≤ limit
part_fits m size hint limit piece fits few = let is = ap length (carries m m.direction hint piece) in omega (arith, fits, few, is)

all_fit : (m : Message) (size limit : ℕ) (first : Bool) (full : ℕ) (xs : List ℕ) → STUB_OFFSET + size ≤ limit → length xs ≤ room full size
    → AllByRecursion (λ (p : Pdu). STUB_OFFSET + length (stub_of p.body) ≤ limit) (fragments m size first full xs)
unfolding room
all_fit m size limit first zero xs fits few = (part_fits m size (length xs) limit xs fits few, tt)
all_fit m size limit first (suc full) xs fits few = (
  part_fits m size (length xs) limit (take size xs) fits (omega (arith, length-take size xs)),
  all_fit m size limit false full (drop size xs) fits (omega (arith, few, length-drop size xs)),
)

pub fitting : (m : Message) (limit : ℕ) (stub : List ℕ) → STUB_OFFSET < limit
    → AllByRecursion (λ (p : Pdu). STUB_OFFSET + length (stub_of p.body) ≤ limit) (message m limit stub)
fitting m limit stub some =
    let size = stub_room limit in
    let below : length stub - 1 < size * (full_fragments size stub + 1) = lt-mul-div-succ (length stub - 1) (omega (arith, some)) in
    let enough = room_is (full_fragments size stub) size in
    all_fit m size limit true (full_fragments size stub) stub (omega (arith, some)) (omega (arith, below, enough))
