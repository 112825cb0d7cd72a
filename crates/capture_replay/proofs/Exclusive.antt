-- The rules of a capture leave one way to end.
use Rattle.std.proofs.Common.{◌≡◌, inl, inr, ℕ, List, Option, Some, sym, ap, ◌∙◌, subst}
use Rattle.line_filter.specs.Laws.{IsExclusive}
use Rattle.dts_capture.specs.declared.line.Line.{Line}
use Rattle.dts_capture.specs.declared.line.Line.TheVariants as line
use Rattle.dts_capture.specs.Grammar.{Fault}
use Rattle.dts_capture.proofs.TextLaws.{one_line, spelled_or_wrong, one_wrong_place}
use Rattle.std.proofs.lemmas.List.{append_cancel_left}
use Rattle.sync_rules.specs.History.{History, Settings}
use Rattle.sync_rules.specs.Rules.{followed_by}
use Rattle.capture_replay.specs.declared.fault.CaptureFault.{CaptureFault}
use Rattle.capture_replay.specs.Capture.{Replayed, capture, Takes, Refuses, IsUnbuilt, Continues, current_number, log_so_far}

continues_one : (settings : Settings) (history : Option History) (l : Line) (next other : Option History) → Continues settings history l next → Continues settings history l other → next ≡ other
continues_one settings history line.Blank next other h k = h ∙ sym k
continues_one settings history (line.Start osc value first) next other h k = h.1 ∙ sym k.1
continues_one settings history (line.Event at e) next other (before, is, built, gives) (again, also, too, more) =
    let same : before ≡ again = some_one (sym is ∙ also) in
    gives ∙ ap (λ h. Some (followed_by h e)) same ∙ sym more
  where
    some_one : {x y : History} → Some x ≡ Some y → x ≡ y
    some_one is = cc

taken_is_built : (settings : Settings) (history next : Option History) (l : Line) → Continues settings history l next → IsUnbuilt l → ⊥
taken_is_built settings history next line.Blank h unbuilt = unbuilt
taken_is_built settings history next (line.Start osc value first) h unbuilt = unbuilt
taken_is_built settings history next (line.Event at e) (before, is, built, gives) unbuilt = cc

same_replayed : (a b : Replayed) → a.settings ≡ b.settings → a.history ≡ b.history → a ≡ b
same_replayed a b e f = ap (λ s. record { settings = s; history = a.history }) e ∙ ap (λ h. record { settings = b.settings; history = h }) f

one_taken : (state next other : Replayed) (text out more : List ℕ) → Takes state text next out → Takes state text other more → (next ≡ other) × (out ≡ more)
one_taken state next other text out more t u =
    let same = one_line (current_number state.history) text t.says u.says t.spells u.spells in
    let continues = subst (λ l. Continues state.settings state.history l other.history) (sym same) u.continues in
    let histories = continues_one state.settings state.history t.says next.history other.history t.continues continues in (
      same_replayed next other (t.settings ∙ sym u.settings) histories,
      append_cancel_left (log_so_far state.history) out more (sym t.log ∙ ap log_so_far histories ∙ u.log),
    )

taken_or_refused : (state next : Replayed) (text out : List ℕ) (f : CaptureFault) → Takes state text next out → Refuses state text f → ⊥
taken_or_refused state next text out f t (inl w) = t.placed w.0
taken_or_refused state next text out f t (inr (placed, inl (place, wrong, is))) = spelled_or_wrong (current_number state.history) text t.says place t.spells wrong
taken_or_refused state next text out f t (inr (placed, inr (says, spells, unbuilt, is))) =
    let same = one_line (current_number state.history) text t.says says t.spells spells in
    taken_is_built state.settings state.history next.history says (subst (λ l. Continues state.settings state.history l next.history) same t.continues) unbuilt

one_fault : (state : Replayed) (text : List ℕ) (f g : CaptureFault) → Refuses state text f → Refuses state text g → f ≡ g
one_fault state text f g (inl h) (inl k) = h.1 ∙ sym k.1
one_fault state text f g (inl h) (inr k) = absurd (k.0 h.0)
one_fault state text f g (inr h) (inl k) = absurd (h.0 k.0)
one_fault state text f g (inr (placed, inl (place, wrong, is))) (inr (also, inl (there, too, this))) =
    is ∙ ap (λ (p : Fault). record { column = p.column; cause = p.why }) (one_wrong_place (current_number state.history) text place there wrong too) ∙ sym this
one_fault state text f g (inr (placed, inl (place, wrong, is))) (inr (also, inr (says, spells, unbuilt, this))) =
    absurd (spelled_or_wrong (current_number state.history) text says place spells wrong)
one_fault state text f g (inr (placed, inr (says, spells, unbuilt, is))) (inr (also, inl (place, wrong, this))) =
    absurd (spelled_or_wrong (current_number state.history) text says place spells wrong)
one_fault state text f g (inr (placed, inr (says, spells, unbuilt, is))) (inr (also, inr (says', spells', unbuilt', this))) = is ∙ sym this

pub exclusive : IsExclusive capture
exclusive = record {
  one_next = one_taken;
  not_both = taken_or_refused;
  one_cause = one_fault;
  one_end = λ state f g h k. h.1 ∙ sym k.1;
}
