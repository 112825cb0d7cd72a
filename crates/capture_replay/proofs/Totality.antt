-- Each line of a capture is taken or refused.
use Rattle.std.proofs.Common.{◌≡◌, ◌⊎◌, inl, inr, ℕ, Bool, true, false, List, [], ◌∷◌, ◌++◌, Option, Some, None, refl, sym, ap, ◌∙◌}
use Rattle.std.specs.Prelude.{◌==◌, codes, flat_map}
use Rattle.std.proofs.lemmas.Bool.{eqb-true, eqb-false}
use Rattle.std.proofs.lemmas.List.{append-nil}
use Rattle.line_reader.specs.Fields.{fields_of}
use Rattle.line_filter.specs.Laws.{IsTotal}
use Rattle.dts_capture.specs.declared.event.Event.{Event}
use Rattle.dts_capture.specs.declared.line.Line.{Line}
use Rattle.dts_capture.specs.declared.line.Line.TheVariants as line
use Rattle.dts_capture.specs.declared.line.LineCause.TheVariants as cause
use Rattle.dts_capture.specs.Log.{log_text}
use Rattle.dts_capture.specs.Spelling.{is_blank, Spells}
use Rattle.dts_capture.proofs.EachLine.{each_line}
use Rattle.sync_rules.specs.History.{History, Begun, given_at}
use Rattle.sync_rules.specs.Rules.{actions_of, followed_by}
use Rattle.capture_replay.specs.declared.fault.CaptureFault.{CaptureFault}
use Rattle.capture_replay.specs.Capture.{Replayed, capture, Takes, Refuses, IsMisplaced, current_number, log_so_far, is_built, at_first}
use Rattle.capture_replay.proofs.Taking.{begun_log, followed_log, start_fits, event_fits}

same_word : (xs ys : List ℕ) → (xs ≡ ys) ⊎ (xs ≡ ys → ⊥)
same_word [] [] = inl refl
same_word [] (y ∷ ys) = inr (λ is. cc)
same_word (x ∷ xs) [] = inr (λ is. cc)
same_word (x ∷ xs) (y ∷ ys) = elim (x == y) as (λ b. (x == y) ≡ b → (x ∷ xs ≡ y ∷ ys) ⊎ (x ∷ xs ≡ y ∷ ys → ⊥)) [
  | true ↦ λ same.
      let head = eqb-true x y same in
      elim (same_word xs ys) [
        | inl tail ↦ inl (ap (λ z. z ∷ xs) head ∙ ap (λ zs. y ∷ zs) tail)
        | inr apart ↦ inr (λ is. apart (tail_of is))
      ]
  | false ↦ λ other. inr (λ is. eqb-false x y other (head_of is))
] refl
  where
    head_of : {x y : ℕ} {xs ys : List ℕ} → x ∷ xs ≡ y ∷ ys → x ≡ y
    head_of is = cc

    tail_of : {x y : ℕ} {xs ys : List ℕ} → x ∷ xs ≡ y ∷ ys → xs ≡ ys
    tail_of is = cc

starts_or_not : (fields : List (List ℕ)) → ((rest : List (List ℕ)) × (fields ≡ codes "start" ∷ rest)) ⊎ (((rest : List (List ℕ)) × (fields ≡ codes "start" ∷ rest)) → ⊥)
starts_or_not [] = inr (λ s. none s.1)
  where
    none : {x : List ℕ} {xs : List (List ℕ)} → [] ≡ x ∷ xs → ⊥
    none is = cc
starts_or_not (field ∷ fields) = elim (same_word field (codes "start")) [
  | inl is ↦ inl (fields, ap (λ f. f ∷ fields) is)
  | inr other ↦ inr (λ s. other (head_of s.1))
]
  where
    head_of : {x y : List ℕ} {xs ys : List (List ℕ)} → x ∷ xs ≡ y ∷ ys → x ≡ y
    head_of is = cc

placed_or_not : (history : Option History) (text : List ℕ) → IsMisplaced history text ⊎ (IsMisplaced history text → ⊥)
placed_or_not None text = elim (is_blank text) as (λ b. is_blank text ≡ b → IsMisplaced None text ⊎ (IsMisplaced None text → ⊥)) [
  | true ↦ λ blank. inr (λ m. absurd (both blank m.0))
  | false ↦ λ said. elim (starts_or_not (fields_of text)) [ inl s ↦ inr (λ m. m.1 s) | inr other ↦ inl (said, other) ]
] refl
  where
    both : {b : Bool} → b ≡ true → b ≡ false → ⊥
    both is not = cc
placed_or_not (Some history) text = starts_or_not (fields_of text)

abbrev IsSettled : Replayed → List ℕ → Type 0
IsSettled state text = ((next : Replayed) × (out : List ℕ) × Takes state text next out) ⊎ ((fault : CaptureFault) × Refuses state text fault)

event_settled : (state : Replayed) (text : List ℕ) (at : Option ℕ) (e : Event) (before : History) (built : Bool) → (IsMisplaced state.history text → ⊥)
    → Spells (current_number state.history) text (line.Event at e) → state.history ≡ Some before → is_built e ≡ built → IsSettled state text
event_settled state text at e before true placed spells is built = inl (
  record { settings = state.settings; history = Some (followed_by before e) },
  flat_map log_text (actions_of before e),
  record {
    placed = placed;
    says = line.Event at e;
    spells = spells;
    settings = refl;
    continues = (before, is, built, refl);
    log = followed_log before e ∙ ap (λ h. log_so_far h ++ flat_map log_text (actions_of before e)) (sym is);
  },
)
event_settled state text at e before false placed spells is unbuilt = inr (at_first cause.Word, inr (placed, inr (line.Event at e, spells, unbuilt, refl)))

said_settled : (state : Replayed) (text : List ℕ) (l : Line) → (IsMisplaced state.history text → ⊥) → Spells (current_number state.history) text l → IsSettled state text
said_settled state text line.Blank placed spells = inl (
  state,
  [],
  record {
    placed = placed;
    says = line.Blank;
    spells = spells;
    settings = refl;
    continues = refl;
    log = sym (append-nil (log_so_far state.history));
  },
)
said_settled state text (line.Start osc value first) placed spells =
    let none = (start_fits state.history text osc value first placed spells).1 in
    let begun = Begun state.settings (record { osc = osc; value = value; first = first }) in inl (
      record { settings = state.settings; history = Some begun },
      flat_map log_text (given_at begun),
      record {
        placed = placed;
        says = line.Start osc value first;
        spells = spells;
        settings = refl;
        continues = (none, refl);
        log = begun_log state.settings (record { osc = osc; value = value; first = first }) ∙ ap (λ h. log_so_far h ++ flat_map log_text (given_at begun)) (sym none);
      },
    )
said_settled state text (line.Event at e) placed spells =
    let found = (event_fits state.history text at e placed spells).1 in
    event_settled state text at e found.0 (is_built e) placed spells found.1 refl

line_settled : (state : Replayed) (text : List ℕ) → IsSettled state text
line_settled state text = elim (placed_or_not state.history text) [
  | inl misplaced ↦ inr (at_first cause.Start, inl (misplaced, refl))
  | inr placed ↦ elim (each_line (current_number state.history) text) [
    | inl said ↦ said_settled state text said.0 placed said.1
    | inr wrong ↦ inr (record { column = wrong.0.column; cause = wrong.0.why }, inr (placed, inl (wrong.0, wrong.1, refl)))
  ]
]

end_settled : (state : Replayed) (history : Option History) → state.history ≡ history
    → ((fault : CaptureFault) × capture.RefusesEnd state fault) ⊎ ((fault : CaptureFault) → capture.RefusesEnd state fault → ⊥)
end_settled state None is = inl (at_first cause.Start, (is, refl))
end_settled state (Some history) is = inr (λ fault r. absurd (both is r.0))
  where
    both : {h : Option History} → h ≡ Some history → h ≡ None → ⊥
    both some none = cc

pub total : IsTotal capture
total = record { line = line_settled; end = λ state. end_settled state state.history refl }
