-- What the readers answer is what the grammar spells.
use Rattle.std.proofs.Common.{◌≡◌, ℕ, List, Result, Ok, Err, refl, sym, ap, ◌∙◌}
use Rattle.utc_value.specs.Stamp.{Stamp}
use Rattle.utc_text.specs.declared.fault.TextFault.{TextFault}
use Rattle.utc_text.specs.Texts.{SpellsAbsolute, SpellsRelative}
use Rattle.utc_text.specs.Reading.{absolute_of, relative_of, moment_stamp, length_stamp, Moment, Length, moment_of, length_of}
use Rattle.utc_text.specs.Reading as reading
use Rattle.utc_text.proofs.TextsTaken.{absolute_takes, relative_takes}
use Rattle.utc_text.proofs.Again.{absolute_again, relative_again}
use Rattle.utc_text.proofs.Stood.{absolute_stands, relative_stands}
use Rattle.utc_text.proofs.Spelled.{absolute_spelled, relative_spelled}

abbrev stamped : Stamp → Result Stamp TextFault
stamped s = Ok s

stamp_is : (a b : Stamp) → stamped a ≡ stamped b → a ≡ b
stamp_is a b e = cc

pub absolute_only : (text : List ℕ) (u : Stamp) → SpellsAbsolute text u → absolute_of text ≡ Ok u
unfolding absolute_of
absolute_only text u s =
    let p = absolute_spelled text s.fields s.spelled in
    rw (p.1, absolute_again s.fields p.0) (ap (λ (x : Stamp). stamped x) (sym s.said))

pub relative_only : (text : List ℕ) (u : Stamp) → SpellsRelative text u → relative_of text ≡ Ok u
unfolding relative_of
relative_only text u s =
    let p = relative_spelled text s.fields s.spelled s.fits in
    rw (p.1, relative_again s.fields p.0) (ap (λ (x : Stamp). stamped x) (sym s.said))

moment_found : (text : List ℕ) (r : Result Moment TextFault) (u : Stamp) → moment_of text ≡ r
    → reading.◌>>=◌ r (λ m. Ok (moment_stamp m)) ≡ Ok u → SpellsAbsolute text u
moment_found text (Ok m) u h e =
    let t = absolute_takes text m h in
    record { fields = t.0; spelled = absolute_stands text t.0 t.1 t.2; said = sym (stamp_is (moment_stamp m) u e) ∙ ap moment_stamp t.3 }
moment_found text (Err d) u h e = absurd cc

pub absolute_found : (text : List ℕ) (u : Stamp) → absolute_of text ≡ Ok u → SpellsAbsolute text u
unfolding absolute_of
absolute_found text u e = moment_found text (moment_of text) u refl e

length_found : (text : List ℕ) (r : Result Length TextFault) (u : Stamp) → length_of text ≡ r
    → reading.◌>>=◌ r (λ l. Ok (length_stamp l)) ≡ Ok u → SpellsRelative text u
length_found text (Ok l) u h e =
    let t = relative_takes text l h in
    record {
      fields = t.0;
      spelled = relative_stands text t.0 t.1 t.2;
      fits = t.1.time;
      said = sym (stamp_is (length_stamp l) u e) ∙ ap length_stamp t.3;
    }
length_found text (Err d) u h e = absurd cc

pub relative_found : (text : List ℕ) (u : Stamp) → relative_of text ≡ Ok u → SpellsRelative text u
unfolding relative_of
relative_found text u e = length_found text (length_of text) u refl e
