-- What was read of an input, and what comes of it.
use Rattle.std.proofs.Common.{◌≡◌, inl, inr, ℕ, ◌+◌, ◌≤◌, List, [], ◌++◌, length, Option, Some, None, Result, Ok, Err, refl, sym, ap, ◌∙◌, subst, arith}
use Rattle.std.proofs.lemmas.List.{append-nil}
use Rattle.dts_base.specs.Told.{Told}
use Rattle.dts_base.specs.Streams.{BeginsWith, Wrote, AppendsPart}
use Rattle.dts_base.specs.declared.wire.Refused.{Refused}
use Rattle.ndr.specs.Reading.{after}
use Rattle.ndr.specs.declared.fault.DecodeFault.{DecodeFault}
use Rattle.ndr.specs.declared.fault.DecodeFault.TheVariants as fault
use Rattle.pdu_fields.specs.declared.header.TheConstants.{MAX_FRAGMENT}
use Rattle.wire_show.specs.declared.end.Shown.{Shown}
use Rattle.wire_show.specs.declared.end.ShowEnd.{ShowEnd}
use Rattle.wire_show.specs.declared.end.ShowEnd.TheVariants as end
use Rattle.wire_show.specs.declared.input.TheConstants.{MAX_INPUT, PIECE}
use Rattle.wire_show.specs.Input.{octets_in}
use Rattle.wire_show.specs.Output.{lines_as, output_of}
use Rattle.wire_show.specs.Ends.{HasShown}
use Rattle.wire_show.specs.Showing.{end_of, IsFaultOf, HasHeld, HasMade, HasNotMade, HasWritten}
use Rattle.wire_show.proofs.Prefix.{decided, too_long}

-- octets stand behind a result that is right
after_is : {A : Type 0} (r : Result (List ℕ) Refused) (next : List ℕ → Result A Refused) (x : A) → after r next ≡ Ok x → (octets : List ℕ) × (r ≡ Ok octets)
after_is (Ok octets) next x e = (octets, refl)
after_is (Err refused) next x e = absurd (cc)

pub made : (kind : Shown) (input held text : List ℕ) (left : Option (List ℕ)) → HasHeld input left held → output_of kind held ≡ Ok text → HasMade kind input left text
made kind input held text left (more, left_is, (holds, inl none)) e =
    let same : input ≡ held = holds.all ∙ ap (λ os. held ++ os) none ∙ append-nil held in
    (left_is ∙ ap Some none, subst (λ (os : List ℕ). length os ≤ MAX_INPUT + PIECE) (sym same) holds.few, ap (output_of kind) same ∙ e)
made kind input held text left (more, left_is, (holds, inr long)) e =
    let spelled = after_is (octets_in held) (lines_as kind) text e in
    absurd (too_long MAX_FRAGMENT 0 held spelled.0 (omega arith) (omega (arith, long)) spelled.1)

same_output : (kind : Shown) (input held : List ℕ) (left : Option (List ℕ)) → HasHeld input left held → output_of kind input ≡ output_of kind held
same_output kind input held left (more, left_is, (holds, inl none)) =
    ap (output_of kind) (holds.all ∙ ap (λ os. held ++ os) none ∙ append-nil held)
same_output kind input held left (more, left_is, (holds, inr long)) =
    ap (λ r. after r (lines_as kind)) (ap octets_in holds.all ∙ decided MAX_FRAGMENT 0 held more (omega arith) (omega (arith, long)))

pub unmade : (kind : Shown) (input held : List ℕ) (left : Option (List ℕ)) (stop : ShowEnd) (f : DecodeFault) → HasHeld input left held → IsFaultOf (output_of kind held) f → stop ≡ end_of f → HasNotMade kind input left stop
unmade kind input held left stop (fault.Wrong refused) has due e = rw e ((held, (has.0, has.1, has.2.0)), same_output kind input held left has ∙ due)
unmade kind input held left stop fault.NoMemory has due e = rw e ((held, (has.0, has.1, has.2.0)), tt)

-- a part that was written
part_of : (old new : Option (List ℕ)) (text : List ℕ) → Told old new (AppendsPart text) → (part : List ℕ) × BeginsWith part text × Wrote old new part
part_of None new text told = ([], (text, refl), told)
part_of (Some x) new text (y, is, (part, begins, all)) = (part, begins, (y, is, all))

pub shown : (kind : Shown) (input text : List ℕ) (left : Option (List ℕ)) (answer : ShowEnd) (old new : Option (List ℕ)) → HasMade kind input left text → HasWritten text answer old new → HasShown kind input left answer old new
shown kind input text left end.Done old new has wrote = record {
  read = input;
  more = [];
  left_is = has.0;
  all = sym (append-nil input);
  few = has.1;
  text = text;
  shows = (has.2, refl);
  wrote = wrote;
}
shown kind input text left end.WriteFault old new has told =
    let w = part_of old new text told in
    record { read = input; more = []; left_is = has.0; all = sym (append-nil input); few = has.1; text = w.0; shows = ((text, has.2, w.1), refl); wrote = w.2 }
shown kind input text left (end.Refused refused) old new has wrote = absurd wrote
shown kind input text left end.ReadFault old new has wrote = absurd wrote
shown kind input text left end.NoMemory old new has wrote = absurd wrote
