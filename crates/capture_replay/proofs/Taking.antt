-- What a replay makes of a line: from what it stands for to the next.
use Rattle.std.proofs.Common.{◌≡◌, ◌⊎◌, inl, inr, ℕ, ◌+◌, ◌≤◌, ℤ, true, false, List, [], ◌∷◌, ◌++◌, Option, Some, None, refl, sym, ap, ◌∙◌, subst, arith}
use Rattle.std.specs.Prelude.{Result, Ok, Err, OnOk, IfErr, codes, flat_map}
use Rattle.dts_base.specs.declared.interval.Interval.{Interval}
use Rattle.line_reader.specs.Fields.{fields_of}
use Rattle.line_filter.specs.declared.filter.Unfit.{Unfit}
use Rattle.line_filter.specs.declared.filter.Unfit.TheVariants as unfit
use Rattle.line_filter.specs.Progress.{IsUnfit}
use Rattle.dts_capture.specs.declared.event.Event.{Event}
use Rattle.dts_capture.specs.declared.line.Line.{Line}
use Rattle.dts_capture.specs.declared.line.Line.TheVariants as line
use Rattle.dts_capture.specs.declared.line.LineCause.TheVariants as cause
use Rattle.dts_capture.specs.Grammar.{Makes, line_forms}
use Rattle.dts_capture.specs.Spelling.{Spells, IsWrongAt}
use Rattle.dts_capture.specs.Log.{log_text}
use Rattle.sync_rules.specs.History.{History, Begun, Start, Settings, given_at, log_of}
use Rattle.sync_rules.specs.Rules.{actions_of, followed_by}
use Rattle.sync_rules.specs.Ranges.{StartsInRange, IsEventInRange}
use Rattle.capture_replay.specs.declared.fault.CaptureFault.{CaptureFault}
use Rattle.capture_replay.specs.declared.node.Node.{Node}
use Rattle.capture_replay.specs.declared.filter.Replay.{Replay}
use Rattle.capture_replay.specs.Capture.{Replayed, capture, Takes, IsMisplaced, current_number, log_so_far, is_built, at_first}
use Rattle.capture_replay.specs.Steps.{StandsAt, NodeStands, number_at, latest}
use Rattle.capture_replay.specs.Unread.{IsUnread}
use Rattle.capture_replay.proofs.LineFacts.{IsStart, IsEvent, start_says, event_says}

number_same : (node : Option Node) (history : Option History) → NodeStands node history → number_at node ≡ current_number history
number_same None None stands = refl
number_same (Some node) (Some history) stands = ap (λ r. Some r.number) stands.sync.current
number_same None (Some history) stands = absurd stands
number_same (Some node) None stands = absurd stands

-- the line is read as the rules ask
abbrev pub IsPlaced : Replayed → List ℕ → Type 0
IsPlaced state text = IsMisplaced state.history text → ⊥

pub unread_unfit : (replay : Replay) (lines : ℕ) (state : Replayed) (text : List ℕ) (f : Unfit CaptureFault) → StandsAt replay lines state → IsPlaced state text
    → IsUnread (number_at replay.node) text f → IsUnfit capture state text f
unread_unfit replay lines state text (unfit.Refused f) stands placed is =
    inr (placed, inl (record { column = f.column; why = f.cause }, subst (λ k. IsWrongAt k text (record { column = f.column; why = f.cause })) (number_same replay.node state.history stands.node) is, refl))
unread_unfit replay lines state text unfit.NoMemory stands placed is = tt

-- a line says a start exactly where its first word does
pub says_kind : (current : Option ℕ) (fields : List (List ℕ)) (l : Line) → Makes (line_forms current) fields l
    → (IsStart l × ((rest : List (List ℕ)) × (fields ≡ codes "start" ∷ rest))) ⊎ (IsEvent l × ((rest : List (List ℕ)) → fields ≡ codes "start" ∷ rest → ⊥))
says_kind current [] l m = absurd m
says_kind current (field ∷ fields) l (inl m) = inl (start_says current fields l (inl (refl, m.1)), (fields, ap (λ f. f ∷ fields) m.0))
says_kind current (field ∷ fields) l (inr m) =
    let other : (rest : List (List ℕ)) → field ∷ fields ≡ codes "start" ∷ rest → ⊥ = λ rest is. m.0 (head is) in
    inr (event_says current (field ∷ fields) l other (inr m), other)
  where
    head : {x y : List ℕ} {xs ys : List (List ℕ)} → x ∷ xs ≡ y ∷ ys → x ≡ y
    head is = cc

-- a spelled start is in its place where nothing began yet, and its numbers are in their ranges
pub start_fits : (history : Option History) (text : List ℕ) (osc : ℕ) (value : ℤ) (first : Option Interval) → (IsMisplaced history text → ⊥)
    → Spells (current_number history) text (line.Start osc value first) → StartsInRange (record { osc = osc; value = value; first = first }) × (history ≡ None)
start_fits None text osc value first placed spells = elim spells.says [
  | inl blank ↦ let no = blank.1 in cc
  | inr says ↦ elim (says_kind (current_number None) (fields_of text) (line.Start osc value first) says.1) [ inl s ↦ (s.0, refl) | inr e ↦ absurd e.0 ]
]
start_fits (Some history) text osc value first placed spells = elim spells.says [
  | inl blank ↦ let no = blank.1 in cc
  | inr says ↦ elim (says_kind (current_number (Some history)) (fields_of text) (line.Start osc value first) says.1) [ inl s ↦ absurd (placed s.1) | inr e ↦ absurd e.0 ]
]

-- a spelled event is in its place behind the start, and its numbers are in their ranges
pub event_fits : (history : Option History) (text : List ℕ) (at : Option ℕ) (e : Event) → (IsMisplaced history text → ⊥)
    → Spells (current_number history) text (line.Event at e) → IsEventInRange e × ((before : History) × (history ≡ Some before))
event_fits None text at e placed spells = elim spells.says [
  | inl blank ↦ let no = blank.1 in cc
  | inr says ↦ elim (says_kind (current_number None) (fields_of text) (line.Event at e) says.1) [ inl s ↦ absurd s.0 | inr k ↦ absurd (placed (says.0, λ s. k.1 s.0 s.1)) ]
]
event_fits (Some history) text at e placed spells = elim spells.says [
  | inl blank ↦ let no = blank.1 in cc
  | inr says ↦ elim (says_kind (current_number (Some history)) (fields_of text) (line.Event at e) says.1) [ inl s ↦ absurd s.0 | inr k ↦ (k.0, (history, refl)) ]
]

-- what a line that is taken makes
abbrev pub Makes_next : Replay → ℕ → Replayed → List ℕ → List ℕ → Type 0
Makes_next replay lines state text out = (next : Replayed) × Takes state text next out × StandsAt replay (lines + 1) next

pub spelled : (replay : Replay) (lines : ℕ) (state : Replayed) (text : List ℕ) (l : Line) → StandsAt replay lines state → Spells (number_at replay.node) text l → Spells (current_number state.history) text l
spelled replay lines state text l stands spells = subst (λ k. Spells k text l) (number_same replay.node state.history stands.node) spells

no_more : (xs : List ℕ) → xs ≡ xs ++ []
no_more [] = refl
no_more (x ∷ xs) = ap (λ ys. x ∷ ys) (no_more xs)

pub blank_takes : (replay : Replay) (lines : ℕ) (state : Replayed) (text : List ℕ) → StandsAt replay lines state → IsPlaced state text → Spells (number_at replay.node) text line.Blank → Makes_next replay lines state text []
blank_takes replay lines state text stands placed spells = (
  state,
  record {
    placed = placed;
    says = line.Blank;
    spells = spelled replay lines state text line.Blank stands spells;
    settings = refl;
    continues = refl;
    log = no_more (log_so_far state.history);
  },
  record { rates = stands.rates; node = stands.node; number = omega (arith, stands.number) },
)

pub begun_log : (settings : Settings) (start : Start) → log_of (Begun settings start) ≡ flat_map log_text (given_at (Begun settings start))
unfolding log_of
begun_log settings start = refl

pub followed_log : (history : History) (e : Event) → log_of (followed_by history e) ≡ log_of history ++ flat_map log_text (actions_of history e)
unfolding log_of
followed_log history e = refl

pub start_takes : (old new : Replay) (lines : ℕ) (state : Replayed) (text out : List ℕ) (osc : ℕ) (value : ℤ) (first : Option Interval) → StandsAt old lines state → IsPlaced state text
    → Spells (number_at old.node) text (line.Start osc value first) → new.rates ≡ old.rates → latest new.node ≡ 0
    → NodeStands new.node (Some (Begun (record { rates = old.rates }) (record { osc = osc; value = value; first = first })))
    → out ≡ flat_map log_text (given_at (Begun (record { rates = old.rates }) (record { osc = osc; value = value; first = first })))
    → Makes_next new lines state text out
start_takes old new lines state text out osc value first stands placed spells rates number node log =
    let start : Start = record { osc = osc; value = value; first = first } in
    let said = spelled old lines state text (line.Start osc value first) stands spells in
    let none = (start_fits state.history text osc value first placed said).1 in
    let same : record { rates = old.rates } ≡ state.settings = ap (λ r. record { rates = r }) stands.rates in (
      record { settings = state.settings; history = Some (Begun state.settings start) },
      record {
        placed = placed;
        says = line.Start osc value first;
        spells = said;
        settings = refl;
        continues = (none, refl);
        log = begun_log state.settings start ∙ ap (λ s. flat_map log_text (given_at (Begun s start))) (sym same) ∙ sym log ∙ ap (λ h. log_so_far h ++ out) (sym none);
      },
      record { rates = rates ∙ stands.rates; node = subst (λ s. NodeStands new.node (Some (Begun s start))) same node; number = omega (arith, number) },
    )

pub event_takes : (old new : Replay) (lines : ℕ) (state : Replayed) (text out : List ℕ) (at : Option ℕ) (e : Event) → StandsAt old lines state → IsPlaced state text
    → Spells (number_at old.node) text (line.Event at e) → new.rates ≡ old.rates → latest new.node ≤ latest old.node + 1 → is_built e ≡ true
    → ((history : History) → NodeStands old.node (Some history) → NodeStands new.node (Some (followed_by history e)))
    → ((history : History) → NodeStands old.node (Some history) → out ≡ flat_map log_text (actions_of history e))
    → Makes_next new lines state text out
event_takes old new lines state text out at e stands placed spells rates number built node log =
    let said = spelled old lines state text (line.Event at e) stands spells in
    let found = (event_fits state.history text at e placed said).1 in
    let before = found.0 in
    let here : NodeStands old.node (Some before) = subst (λ h. NodeStands old.node h) found.1 stands.node in (
      record { settings = state.settings; history = Some (followed_by before e) },
      record {
        placed = placed;
        says = line.Event at e;
        spells = said;
        settings = refl;
        continues = (before, found.1, built, refl);
        log = followed_log before e ∙ ap (λ xs. log_of before ++ xs) (sym (log before here)) ∙ ap (λ h. log_so_far h ++ out) (sym found.1);
      },
      record { rates = rates ∙ stands.rates; node = node before here; number = omega (arith, number, stands.number) },
    )

pub unbuilt_unfit : (old : Replay) (lines : ℕ) (state : Replayed) (text : List ℕ) (at : Option ℕ) (e : Event) (f : Unfit CaptureFault) → StandsAt old lines state → IsPlaced state text
    → Spells (number_at old.node) text (line.Event at e) → (f ≡ unfit.NoMemory) ⊎ ((f ≡ unfit.Refused (at_first cause.Word)) × (is_built e ≡ false)) → IsUnfit capture state text f
unbuilt_unfit old lines state text at e f stands placed spells (inl is) = subst (IsUnfit capture state text) (sym is) tt
unbuilt_unfit old lines state text at e f stands placed spells (inr is) = subst (IsUnfit capture state text) (sym is.0)
    (inr (placed, inr (line.Event at e, spelled old lines state text (line.Event at e) stands spells, is.1, refl)))

-- what is read of the line by its record number is what the rules ask
pub said_start : (replay : Replay) (lines : ℕ) (state : Replayed) (text : List ℕ) (l : Line) (osc : ℕ) (value : ℤ) (first : Option Interval) → StandsAt replay lines state → IsPlaced state text
    → Spells (number_at replay.node) text l → l ≡ line.Start osc value first → StartsInRange (record { osc = osc; value = value; first = first })
said_start replay lines state text l osc value first stands placed spells is =
    (start_fits state.history text osc value first placed (spelled replay lines state text (line.Start osc value first) stands (subst (Spells (number_at replay.node) text) is spells))).0

pub said_event : (replay : Replay) (lines : ℕ) (state : Replayed) (text : List ℕ) (l : Line) (at : Option ℕ) (e : Event) → StandsAt replay lines state → IsPlaced state text
    → Spells (number_at replay.node) text l → l ≡ line.Event at e → IsEventInRange e × ((before : History) × (state.history ≡ Some before))
said_event replay lines state text l at e stands placed spells is =
    event_fits state.history text at e placed (spelled replay lines state text (line.Event at e) stands (subst (Spells (number_at replay.node) text) is spells))

pub on_ok : {T E : Type 0} (r : Result T E) (A B : Type 0) → OnOk r A → (A → B) → OnOk r B
on_ok (Ok v) A B a f = f a
on_ok (Err e) A B a f = tt

pub both_ok : {T E : Type 0} (r : Result T E) (A B : Type 0) → OnOk r A → OnOk r B → OnOk r (A × B)
both_ok (Ok v) A B a b = (a, b)
both_ok (Err e) A B a b = tt

pub if_err : {T E : Type 0} (r : Result T E) (P Q : E → Type 0) → IfErr r P → ((e : E) → P e → Q e) → IfErr r Q
if_err (Ok v) P Q p f = tt
if_err (Err e) P Q p f = f e p

pub always : {T E : Type 0} (r : Result T E) (A : Type 0) → A → OnOk r A
always (Ok v) A a = a
always (Err e) A a = tt

pub never : {T E : Type 0} (r : Result T E) (A : Type 0) (e : E) → r ≡ Err e → OnOk r A
never (Ok v) A e is = cc
never (Err e') A e is = tt
