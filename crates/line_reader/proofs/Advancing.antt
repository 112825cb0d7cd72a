-- How a reader goes on.
use Rattle.std.proofs.Common.{◌≡◌, inl, inr, ℕ, ◌+◌, ◌<◌, ◌≤◌, Bool, true, false, List, [], ◌∷◌, ◌++◌, length, take, Option, Result, Ok, Err, refl, sym, ap, ◌∙◌, subst, arith, length-append, append_assoc}
use Rattle.std.specs.Prelude.{◌↔◌, IsTrue}
use Rattle.std.proofs.lemmas.Bool.{false≢true}
use Rattle.std.proofs.lemmas.List.{append-nil, nil_from_length, take_all}
use Rattle.dts_base.specs.Told.{Told}
use Rattle.dts_base.proofs.ToldFacts.{Told-same, Told-then, Told-weaker}
use Rattle.line_reader.specs.declared.limits.TheConstants.{MAX_LINE}
use Rattle.line_reader.specs.Lines.{IsLine}
use Rattle.line_reader.specs.Reader.{Reader, TakesWhole, Cuts, Takes, Advances}
use Rattle.line_reader.specs.Steps.{TakesAhead, ReadsMore}

reader_is : (r : Reader) (line ahead : List ℕ) (ended : Bool) → r.line ≡ line → r.ahead ≡ ahead → r.ended ≡ ended → r ≡ record { line = line; ahead = ahead; ended = ended }
reader_is r line ahead ended a b c = rw (← a, ← b, ← c) refl

-- octets were read behind those that were ahead
pub record Reads (old new : Reader) (left more : List ℕ) : Type 0 where
  pub read : List ℕ
  pub all : left ≡ read ++ more
  pub ahead : new.ahead ≡ old.ahead ++ read

-- nothing is read yet
pub reads_none : (r : Reader) (left : Option (List ℕ)) → Told left left (Reads r r)
reads_none r left = Told-same (Reads r r) left (λ x. record { read = []; all = refl; ahead = sym (append-nil r.ahead) })

-- and then more
pub reads_more : {E : Type 0} (old mid new : Reader) (result : Result ℕ E) (a b c : Option (List ℕ)) → Told a b (Reads old mid) → Told b c (ReadsMore mid new result) → Told a c (Reads old new)
reads_more old mid new result a b c first second = Told-then (Reads old mid) (ReadsMore mid new result) (Reads old new) a b c first second (λ x y z e h. record {
  read = e.read ++ h.read;
  all = e.all ∙ ap (λ o. e.read ++ o) h.all ∙ sym (append_assoc e.read h.read z);
  ahead = h.ahead ∙ ap (λ o. o ++ h.read) e.ahead ∙ append_assoc old.ahead e.read h.read;
})

module _ (E : Type 0) (old : Reader) (going : old.ended ≡ false) where
  not_ended : (result : Result Bool E) (read : List ℕ) → old.ended ≡ true → (result ≡ Ok false) × (read ≡ [])
  not_ended result read e = absurd (false≢true (sym going ∙ e))

  -- the next line is taken
  pub advance_next : (mid new : Reader) (there : Bool) (a b : Option (List ℕ)) → there ≡ true → Told a b (Reads old mid) → TakesAhead mid new → (let done : Result Bool E = Ok there in Told a b (Advances old new done))
  advance_next mid new there a b is told takes = let done : Result Bool E = Ok there in Told-weaker (Reads old mid) (Advances old new done) a b told (λ left more h. record {
    read = h.read;
    all = h.all;
    takes = rw is (elim takes [
      | inl whole ↦ inl (subst (λ o. TakesWhole o new) h.ahead whole)
      | inr cut ↦ inr (inr (subst (λ o. Cuts o new) h.ahead cut))
    ]);
    ended = not_ended done h.read;
  })

  -- a read failed
  pub advance_failed : (mid new : Reader) (e : E) (a b c : Option (List ℕ)) → Told a b (Reads old mid) → (let failed : Result ℕ E = Err e in Told b c (ReadsMore mid new failed))
      → IsLine mid.ahead → length mid.ahead ≤ MAX_LINE → new.line ≡ [] → new.ahead ≡ mid.ahead → new.ended ≡ false → (let failed : Result Bool E = Err e in Told a c (Advances old new failed))
  advance_failed mid new e a b c first second is short line same ended =
      let failed : Result Bool E = Err e in
      let count : Result ℕ E = Err e in
      Told-weaker (Reads old new) (Advances old new failed) a c (reads_more old mid new count a b c first second) (λ left more h.
      let ahead : mid.ahead ≡ old.ahead ++ h.read = sym same ∙ h.ahead in
      record {
        read = h.read;
        all = h.all;
        takes = record { is_line = subst IsLine ahead is; short = omega (arith, short, ap length ahead); new_is = reader_is new [] (old.ahead ++ h.read) false line h.ahead ended };
        ended = not_ended failed h.read;
      })

  -- the last line, where it lacks its line feed, or the end
  at_end : (octets left : List ℕ) (read new : Reader) (there : Bool) → read.ahead ≡ octets → IsLine octets → length octets ≤ MAX_LINE → left ≡ [] → new ≡ record { line = read.ahead; ahead = []; ended = true }
      → (IsTrue there ↔ (0 < length read.ahead)) → (let done : Result Bool E = Ok there in Takes old octets new left done)
  at_end octets left read new true all is short none taken some = rw taken (inr (inl (record {
    is_line = subst IsLine (sym all) is;
    some = some.0 refl;
    short = omega (arith, short, ap length all);
    all = sym all;
    none_ahead = refl;
    none_left = none;
    ended = refl;
  })))
  at_end octets left read new false all is short none taken some =
      let empty : read.ahead ≡ [] = nothing read.ahead (λ lt. false≢true (some.1 lt)) in
      record { none = sym all ∙ empty; none_left = λ e. none; new_is = taken ∙ ap (λ (o : List ℕ). let r : Reader = record { line = o; ahead = []; ended = true } in r) empty }
    where
      nothing : (xs : List ℕ) → (0 < length xs → ⊥) → xs ≡ []
      nothing [] h = refl
      nothing (x ∷ xs) h = absurd (h (omega arith))

  nothing_read : (ahead read : List ℕ) (n : ℕ) → length read ≡ length ahead + n → take (length ahead) read ≡ ahead → n ≡ 0 → read ≡ ahead
  nothing_read ahead read n count kept none = sym (take_all (length ahead) read (omega arith)) ∙ kept

  -- what is left of nothing
  nothing_left : (xs ys zs : List ℕ) → xs ≡ ys ++ zs → xs ≡ [] → zs ≡ []
  nothing_left xs ys zs e none = nil_from_length zs (omega (arith, length-append ys zs, ap length e, ap length none))

  pub advance_ended : (mid read new : Reader) (n : ℕ) (there : Bool) (a b c : Option (List ℕ)) → Told a b (Reads old mid) → (let count : Result ℕ E = Ok n in Told b c (ReadsMore mid read count))
      → IsLine mid.ahead → length mid.ahead ≤ MAX_LINE → length read.ahead ≡ length mid.ahead + n → take (length mid.ahead) read.ahead ≡ mid.ahead → n ≡ 0
      → new ≡ record { line = read.ahead; ahead = []; ended = true } → (IsTrue there ↔ (0 < length read.ahead))
      → (let done : Result Bool E = Ok there in Told a c (Advances old new done))
  advance_ended mid read new n there a b c first second is short count kept none taken some =
      let same : read.ahead ≡ mid.ahead = nothing_read mid.ahead read.ahead n count kept none in
      let counted : Result ℕ E = Ok n in
      let done : Result Bool E = Ok there in
      Told-then (Reads old mid) (ReadsMore mid read counted) (Advances old new done) a b c first second (λ x y z e h.
      let gone : y ≡ [] = h.end none in
      let nothing : h.read ≡ [] = nil_from_length h.read (omega (arith, length-append h.read z, ap length h.all, ap length gone)) in
      record {
        read = e.read;
        all = e.all ∙ ap (λ o. e.read ++ o) (h.all ∙ ap (λ o. o ++ z) nothing);
        takes = at_end (old.ahead ++ e.read) z read new there (same ∙ e.ahead) (subst IsLine e.ahead is) (omega (arith, short, ap length e.ahead)) (nothing_left y h.read z h.all gone) taken some;
        ended = not_ended done e.read;
      })

-- past the end
pub advance_past : (E : Type 0) (old new : Reader) (left : Option (List ℕ)) → old.ended ≡ true → old.ahead ≡ [] → new ≡ record { line = []; ahead = []; ended = true }
    → (let end : Result Bool E = Ok false in Told left left (Advances old new end))
advance_past E old new left ended none new_is = let end : Result Bool E = Ok false in Told-same (Advances old new end) left (λ x. record {
  read = [];
  all = refl;
  takes = record { none = append-nil old.ahead ∙ none; none_left = λ e. absurd (false≢true (sym e ∙ ended)); new_is = new_is };
  ended = λ _. (refl, refl);
})
