-- The lines that were taken of the octets of a source, as a reader goes on.
use Rattle.std.proofs.Common.{◌≡◌, ◌⊎◌, inl, inr, ℕ, ◌<◌, Bool, true, false, List, [], ◌∷◌, ◌++◌, length, Option, Some, Result, Ok, Err, refl, sym, ap, ◌∙◌, subst, append_assoc, arith}
use Rattle.std.proofs.lemmas.Bool.{false≢true}
use Rattle.std.proofs.lemmas.List.{append-nil}
use Rattle.dts_base.specs.Told.{Told}
use Rattle.line_reader.specs.Lines.{lines_of, whole_lines, IsLine, AreLines, joined}
use Rattle.line_reader.specs.Reader.{Reader, TakesWhole, TakesLast, Cuts, Advances}
use Rattle.line_reader.specs.Taken.{HasTaken, HasWhole, IsLong}
use Rattle.line_reader.proofs.LineFacts.{BeginsFirst, lines_of-nothing, lines_of-joined, lines_of-last, whole_lines-joined, begins_first}

-- a source that told its octets tells those that are left
pub told_on : {A : Type 0} (R : A → A → Type 0) (before after : Option A) (old : A) → Told before after R → before ≡ Some old → (new : A) × (after ≡ Some new) × R old new
told_on R before after old told is = subst (λ b. Told b after R) is told

AreLines-more : (lines : List (List ℕ)) (line : List ℕ) → AreLines lines → IsLine line → AreLines (lines ++ line ∷ [])
AreLines-more [] line are is = (is, tt)
AreLines-more (first ∷ lines) line (one, are) is = (one, AreLines-more lines line are is)

-- one more line with its line feed
joined-more : (lines : List (List ℕ)) (line rest : List ℕ) → joined lines ++ (line ++ 10 ∷ rest) ≡ joined (lines ++ line ∷ []) ++ rest
joined-more [] line rest = sym (append_assoc line (10 ∷ []) rest)
joined-more (first ∷ lines) line rest =
    append_assoc first (10 ∷ joined lines) (line ++ 10 ∷ rest) ∙ ap (λ x. first ++ 10 ∷ x) (joined-more lines line rest) ∙ sym (append_assoc first (10 ∷ joined (lines ++ line ∷ [])) rest)

-- no line is taken yet
pub taken_none : (octets : List ℕ) (reader : Reader) (left : Option (List ℕ)) → left ≡ Some octets → reader ≡ record { line = []; ahead = []; ended = false } → HasTaken octets [] reader left
taken_none octets reader left is none = record {
  read = [];
  more = octets;
  left_is = is;
  all = refl;
  are_lines = tt;
  going = λ e. ap (λ r. r.ahead) (sym none);
  ended = λ e. absurd (false≢true (ap (λ r. r.ended) (sym none) ∙ e));
}

module _ (E : Type 0) (octets : List ℕ) (taken : List (List ℕ)) (old new : Reader) (left : Option (List ℕ)) (has : HasTaken octets taken old left) where
  -- where another answer comes than at the end, it had not come before
  still_going : (result : Result Bool E) (more : List ℕ) → Advances old new result has.more more → (result ≡ Ok false → ⊥) → old.ended ≡ false
  still_going result more on not = elim old.ended as (λ b. old.ended ≡ b → b ≡ false) [ true ↦ λ e. absurd (not (on.ended e).0) | false ↦ λ e. refl ] refl

  module _ (left' : Option (List ℕ)) (more read : List ℕ) (is : left' ≡ Some more) (all : has.more ≡ read ++ more) where
    all_on : octets ≡ (has.read ++ read) ++ more
    all_on = has.all ∙ ap (λ o. has.read ++ o) all ∙ sym (append_assoc has.read read more)

    read_on : old.ended ≡ false → has.read ++ read ≡ joined taken ++ (old.ahead ++ read)
    read_on going = ap (λ o. o ++ read) (has.going going) ∙ append_assoc (joined taken) old.ahead read

    whole_taken : old.ended ≡ false → TakesWhole (old.ahead ++ read) new → HasTaken octets (taken ++ new.line ∷ []) new left'
    whole_taken going whole = record {
      read = has.read ++ read;
      more = more;
      left_is = is;
      all = all_on;
      are_lines = AreLines-more taken new.line has.are_lines whole.is_line;
      going = λ e. read_on going ∙ ap (λ o. joined taken ++ o) whole.all ∙ joined-more taken new.line new.ahead;
      ended = λ e. absurd (false≢true (sym whole.going ∙ e));
    }

    -- the lines of all octets, where none is left
    all_lines : old.ended ≡ false → more ≡ [] → lines_of octets ≡ taken ++ lines_of (old.ahead ++ read)
    all_lines going none = ap lines_of (all_on ∙ ap (λ o. (has.read ++ read) ++ o) none ∙ append-nil (has.read ++ read) ∙ read_on going) ∙ lines_of-joined taken (old.ahead ++ read) has.are_lines

    last_taken : old.ended ≡ false → TakesLast (old.ahead ++ read) new more → HasTaken octets (taken ++ new.line ∷ []) new left'
    last_taken going last = record {
      read = has.read ++ read;
      more = more;
      left_is = is;
      all = all_on;
      are_lines = AreLines-more taken new.line has.are_lines last.is_line;
      going = λ e. absurd (false≢true (sym e ∙ last.ended));
      ended = λ e. (all_lines going last.none_left ∙ ap (λ o. taken ++ lines_of o) last.all ∙ ap (λ ls. taken ++ ls) (one new.line last.is_line last.some), last.none_left);
    }
      where
        one : (line : List ℕ) → IsLine line → 0 < length line → lines_of line ≡ line ∷ []
        one [] is some = absurd (omega arith)
        one (octet ∷ line) is some = lines_of-last octet line is

    line_cut : old.ended ≡ false → Cuts (old.ahead ++ read) new → IsLong octets taken new.line
    line_cut going cut =
        let coming : octets ≡ joined taken ++ (new.line ++ (new.ahead ++ more)) =
        all_on ∙ ap (λ o. o ++ more) (read_on going ∙ ap (λ o. joined taken ++ o) cut.all) ∙ append_assoc (joined taken) (new.line ++ new.ahead) more
        ∙ ap (λ o. joined taken ++ o) (append_assoc new.line new.ahead more) in
        let begins = begins_line new.line (new.ahead ++ more) cut.is_line (omega (arith, cut.long)) in
        record {
          first = new.line ++ begins.more;
          others = begins.others;
          lines = ap lines_of coming ∙ lines_of-joined taken (new.line ++ (new.ahead ++ more)) has.are_lines ∙ ap (λ ls. taken ++ ls) begins.are;
          begins = (begins.more, refl);
          long = cut.long;
        }
      where
        begins_line : (line rest : List ℕ) → IsLine line → 0 < length line → BeginsFirst line (lines_of (line ++ rest))
        begins_line [] rest is some = absurd (omega arith)
        begins_line (octet ∷ line) rest is some = begins_first octet line rest is

  -- a further line is taken, or it is too long
  pub taken_more : (left' : Option (List ℕ)) → (let next : Result Bool E = Ok true in Told left left' (Advances old new next)) → HasTaken octets (taken ++ new.line ∷ []) new left' ⊎ IsLong octets taken new.line
  taken_more left' told =
      let next : Result Bool E = Ok true in
      let on = told_on (Advances old new next) left left' has.more told has.left_is in
      let going = still_going next on.0 on.2 (λ e. cc) in
      elim on.2.takes [
        | inl whole ↦ inl (whole_taken left' on.0 on.2.read on.1 on.2.all going whole)
        | inr other ↦ elim other [
          | inl last ↦ inl (last_taken left' on.0 on.2.read on.1 on.2.all going last)
          | inr cut ↦ inr (line_cut left' on.0 on.2.read on.1 on.2.all going cut)
        ]
      ]

  nothing_behind : (xs ys : List ℕ) → xs ≡ ys ++ [] → xs ≡ [] → ys ≡ []
  nothing_behind xs ys e none = sym (append-nil ys) ∙ sym e ∙ none

  -- all lines are taken
  pub taken_all : (left' : Option (List ℕ)) → (let end : Result Bool E = Ok false in Told left left' (Advances old new end)) → (lines_of octets ≡ taken) × (left' ≡ Some [])
  taken_all left' told =
      let end : Result Bool E = Ok false in
      let on = told_on (Advances old new end) left left' has.more told has.left_is in
      let ends = on.2.takes in
      elim old.ended as (λ b. old.ended ≡ b → (lines_of octets ≡ taken) × (left' ≡ Some [])) [
        | true ↦ λ e.
            let before = has.ended e in
            (before.0, on.1 ∙ ap Some (ap (λ o. o ++ on.0) (sym (on.2.ended e).1) ∙ sym on.2.all ∙ before.1))
        | false ↦ λ e.
            let none = ends.none_left e in
            (all_lines left' on.0 on.2.read on.1 on.2.all e none ∙ ap (λ o. taken ++ lines_of o) ends.none ∙ ap (λ ls. taken ++ ls) lines_of-nothing ∙ append-nil taken, on.1 ∙ ap Some none)
      ] refl

  -- a failed read takes no line, and the lines that were taken are those that are whole
  pub taken_still : (e : E) (left' : Option (List ℕ)) → (let failed : Result Bool E = Err e in Told left left' (Advances old new failed)) → HasTaken octets taken new left' × HasWhole octets taken left'
  taken_still e left' told =
      let failed : Result Bool E = Err e in
      let on = told_on (Advances old new failed) left left' has.more told has.left_is in
      let going = still_going failed on.0 on.2 (λ e. cc) in
      let keeps = on.2.takes in
      let all = all_on left' on.0 on.2.read on.1 on.2.all in
      let read = read_on left' on.0 on.2.read on.1 on.2.all going in (
        record {
          read = has.read ++ on.2.read;
          more = on.0;
          left_is = on.1;
          all = all;
          are_lines = has.are_lines;
          going = λ e. read ∙ ap (λ r. joined taken ++ r.ahead) (sym keeps.new_is);
          ended = λ e. absurd (false≢true (ap (λ r. r.ended) (sym keeps.new_is) ∙ e));
        },
        record {
          read = has.read ++ on.2.read;
          more = on.0;
          left_is = on.1;
          all = all;
          whole = ap whole_lines read ∙ whole_lines-joined taken (old.ahead ++ on.2.read) has.are_lines keeps.is_line;
        },
      )

-- the lines that were taken are the first ones
pub lines_taken : (octets : List ℕ) (taken : List (List ℕ)) (reader : Reader) (left : Option (List ℕ)) → HasTaken octets taken reader left → (rest : List (List ℕ)) × (lines_of octets ≡ taken ++ rest)
lines_taken octets taken reader left has = elim reader.ended as (λ b. reader.ended ≡ b → (rest : List (List ℕ)) × (lines_of octets ≡ taken ++ rest)) [
  | true ↦ λ e. ([], (has.ended e).0 ∙ sym (append-nil taken))
  | false ↦ λ e. (
    lines_of (reader.ahead ++ has.more),
    ap lines_of (has.all ∙ ap (λ o. o ++ has.more) (has.going e) ∙ append_assoc (joined taken) reader.ahead has.more) ∙ lines_of-joined taken (reader.ahead ++ has.more) has.are_lines,
  )
] refl
