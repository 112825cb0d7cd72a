-- Rosters and events are as the law asks.
use Rattle.std.proofs.Common.{inl, inr, ℕ, Option, sym, subst, arith}
use Rattle.dts_capture.specs.declared.event.Event.{Event}
use Rattle.dts_capture.specs.declared.line.Line.{Line}
use Rattle.dts_capture.specs.declared.line.Line.TheVariants as line
use Rattle.dts_capture.specs.Kinds.{value_of}
use Rattle.dts_capture.specs.Grammar.{Form, Ends, Field, Choice, NoWord, FromHere, Served, line_forms}
use Rattle.dts_capture.specs.Ranges.{IsOfKind, IsLineOf, IsLineInRange}
use Rattle.sync_apart.specs.Apart.{IsOverConnection, AsksWhatIsSo}

-- what a line says is over a connection
abbrev IsLineOver : Line → Type 0
IsLineOver (line.Event at e) = IsOverConnection e
IsLineOver _ = Unit {0}

-- each line that a form ends with is so
abbrev EndsOver : Form → Type 0
EndsOver (Ends said) = IsLineOver said
EndsOver (Field kind more) = (v : value_of kind) → IsOfKind kind v → EndsOver (more v)
EndsOver (Choice word chosen other) = EndsOver chosen × EndsOver other
EndsOver (NoWord empty unknown) = Unit {0}
EndsOver (FromHere form) = EndsOver form
EndsOver (Served peer form) = EndsOver form

over_by_form : (form : Form) → EndsOver form → (l : Line) → IsLineOf form l → IsLineOver l
over_by_form (Ends said) over l is = subst IsLineOver (sym is) over
over_by_form (Field kind more) over l is = over_by_form (more is.0) (over is.0 is.1) l is.2
over_by_form (Choice word chosen other) over l is =
    elim is [
      | inl first ↦ over_by_form chosen over.0 l first
      | inr second ↦ over_by_form other over.1 l second
    ]
over_by_form (NoWord empty unknown) over l is = elim is [ ]
over_by_form (FromHere form) over l is = over_by_form form over l is
over_by_form (Served peer form) over l is = over_by_form form over l is.1

forms_are_over : (current : Option ℕ) → EndsOver (line_forms current)
forms_are_over current = assumption

events_are_over : (current at : Option ℕ) (e : Event) → IsLineInRange current (line.Event at e) → IsOverConnection e
events_are_over current at e is =
    elim is [
      | inl blank ↦ absurd (cc)
      | inr said ↦ over_by_form (line_forms current) (forms_are_over current) (line.Event at e) said
    ]

pub asks_what_is_so : AsksWhatIsSo
asks_what_is_so = record { rosters = λ roster few. omega (arith, few); events = events_are_over }
