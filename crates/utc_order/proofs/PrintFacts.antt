-- Lines that are printed one after the other.
use Rattle.std.proofs.Common.{◌≡◌, Bool, true, false, ◌&&◌, cond, ℕ, List, [], ◌∷◌, ◌++◌, Option, Some, None, Result, Ok, Err, refl, sym, ap, ◌∙◌, append_assoc, ℤ, int_lt, arith, ◌+◌, ◌<◌, length, drop, get_or, add-one, drop-cons}
use Rattle.utc_order.specs.declared.place.Place.{Place}
use Rattle.std.specs.Prelude.{IfErr}
use Rattle.std.proofs.lemmas.Int.{ints}
use Rattle.dts_base.specs.Told.{Told}
use Rattle.dts_base.specs.Streams.{BeginsWith, AppendsPart, Wrote}
use Rattle.dts_base.proofs.ToldFacts.{Wrote-then}
use Rattle.utc_value.specs.Members.{latest_of, earliest_of}
use Rattle.utc_value.specs.Stamp.{Stamp}
use Rattle.utc_order.specs.declared.reach.Reach.{Reach}
use Rattle.utc_order.specs.declared.reach.Reach.TheVariants.{Nowhere, To, Anywhere}
use Rattle.utc_order.specs.Lines.{LogLine}
use Rattle.utc_order.specs.Marks.{is_below, are_all_earlier}
use Rattle.utc_order.specs.Keeping.{is_beyond, reach_with, reach_of, WroteBeginning}

and_true : (b : Bool) → b ≡ (b && true)
and_true true = refl
and_true false = refl

and_false : (b : Bool) → false ≡ (b && false)
and_false true = refl
and_false false = refl

farther : (reached latest : ℤ) (b : Bool) (e : ℤ) → is_beyond (cond b (To reached) (To latest)) (Some e) ≡ int_lt (cond b reached latest) e
farther reached latest true e = refl
farther reached latest false e = refl

nothing_beyond : (reached latest : ℤ) (b : Bool) → is_beyond (cond b (To reached) (To latest)) None ≡ false
nothing_beyond reached latest true = refl
nothing_beyond reached latest false = refl

below_both : (reached latest e : ℤ) → int_lt (cond (int_lt latest reached) reached latest) e ≡ (int_lt latest e && int_lt reached e)
below_both reached latest e = grind (arith, ints)

-- what lies beyond some lines and one more lies beyond both
beyond_with : (reach : Reach) (latest e : Option ℤ) → is_beyond (reach_with reach latest) e ≡ (is_below latest e && is_beyond reach e)
beyond_with reach None e = refl
beyond_with Nowhere (Some latest) None = refl
beyond_with Nowhere (Some latest) (Some e) = and_true (int_lt latest e)
beyond_with (To reached) (Some latest) None = nothing_beyond reached latest (int_lt latest reached)
beyond_with (To reached) (Some latest) (Some e) = farther reached latest (int_lt latest reached) e ∙ below_both reached latest e
beyond_with Anywhere (Some latest) e = and_false (is_below (Some latest) e)

-- how far lines reach says whether they are all certainly earlier
pub all_earlier : (printed : List LogLine) (time : Stamp) → is_beyond (reach_of printed) (earliest_of time) ≡ are_all_earlier printed time
all_earlier [] time = refl
all_earlier (line ∷ printed) time =
    beyond_with (reach_of printed) (latest_of line.time) (earliest_of time) ∙ ap (λ b. is_below (latest_of line.time) (earliest_of time) && b) (all_earlier printed time)

-- a part of the text was written behind what was
pub part_written : (before now more : Option (List ℕ)) (done text rest whole : List ℕ) → Wrote before now done → done ++ (text ++ rest) ≡ whole → Told now more (AppendsPart text) → WroteBeginning before more whole
part_written before now more done text rest whole wrote all told =
    let w = part_of now more text told in
    record {
      part = done ++ w.0;
      begins = (w.1.0 ++ rest, sym all ∙ ap (λ t. done ++ (t ++ rest)) w.1.1 ∙ ap (λ t. done ++ t) (append_assoc w.0 w.1.0 rest) ∙ sym (append_assoc done w.0 (w.1.0 ++ rest)));
      wrote = Wrote-then before now more done w.0 wrote w.2;
    }
  where
    part_of : (now more : Option (List ℕ)) (piece : List ℕ) → Told now more (AppendsPart piece) → (part : List ℕ) × BeginsWith part piece × Wrote now more part
    part_of None more piece told = ([], (piece, refl), told)
    part_of (Some x) more piece (y, is, (part, begins, all)) = (part, begins, (y, is, all))

-- what holds of an error
pub if_err : {T E : Type 0} (P Q : E → Type 0) (r : Result T E) → IfErr r P → ((e : E) → P e → Q e) → IfErr r Q
if_err P Q (Ok x) h step = tt
if_err P Q (Err e) h step = step e h

-- a line is put at the end of a text, piece by piece
pub line_put : (text : List ℕ) (mark : ℕ) (octets : List ℕ) → (((text ++ mark ∷ []) ++ 32 ∷ []) ++ octets) ++ 10 ∷ [] ≡ text ++ (mark ∷ 32 ∷ octets ++ 10 ∷ [])
line_put text mark octets = simp append_assoc

-- a printed line stands before those that follow
pub line_before : (more text line rest : List ℕ) → more ≡ text ++ line → more ++ rest ≡ text ++ (line ++ rest)
line_before more text line rest e = ap (λ t. t ++ rest) e ∙ append_assoc text line rest

-- the text goes on as it stood, where a line was put and a front of it written
pub goes_on : (done text more front left rest after whole : List ℕ) → done ++ (text ++ rest) ≡ whole → more ++ after ≡ text ++ rest → more ≡ front ++ left → (done ++ front) ++ (left ++ after) ≡ whole
goes_on done text more front left rest after whole all on split =
    append_assoc done front (left ++ after) ∙ ap (λ t. done ++ t) (sym (append_assoc front left after) ∙ ap (λ t. t ++ after) (sym split) ∙ on) ∙ all

-- the next of the places
pub place_next : (order : List Place) (i : ℕ) (d : Place) → i < length order → drop i order ≡ get_or order i d ∷ drop (i + 1) order
place_next order i d lt = rw (add-one, drop-cons order i d) refl
