-- Laws of the lines of octets.
use Rattle.std.proofs.Common.{◌≡◌, ◌≢◌, ℕ, zero, suc, true, false, cond, eqb, List, [], ◌∷◌, ◌++◌, take, refl, sym, ap, ◌∙◌, subst, append_assoc}
use Rattle.std.proofs.lemmas.Bool.{eqb-true, eqb-false}
use Rattle.line_reader.specs.Lines.{lines_of, with_first, whole_lines, to_first, IsLine, AreLines, joined, last_line}

-- an octet that is no line feed fails the test for one
no_feed : (octet : ℕ) → octet ≢ 10 → eqb octet 10 ≡ false
no_feed octet ne = elim (eqb octet 10) as (λ b. eqb octet 10 ≡ b → b ≡ false) [ true ↦ λ e. absurd (ne (eqb-true octet 10 e)) | false ↦ λ e. refl ] refl

pub lines_of-nothing : lines_of [] ≡ []
unfolding lines_of
lines_of-nothing = refl

-- a line, its line feed, and what follows
pub lines_of-line : (line rest : List ℕ) → IsLine line → lines_of (line ++ 10 ∷ rest) ≡ line ∷ lines_of rest
unfolding lines_of
lines_of-line [] rest is = refl
lines_of-line (octet ∷ line) rest (ne, is) =
    ap (λ b. cond b ([] ∷ lines_of (line ++ 10 ∷ rest)) (with_first octet (lines_of (line ++ 10 ∷ rest)))) (no_feed octet ne)
    ∙ ap (with_first octet) (lines_of-line line rest is)

-- a last line without a line feed
pub lines_of-last : (octet : ℕ) (line : List ℕ) → IsLine (octet ∷ line) → lines_of (octet ∷ line) ≡ (octet ∷ line) ∷ []
unfolding lines_of
lines_of-last octet [] (ne, is) = ap (λ b. cond b ([] ∷ []) (with_first octet [])) (no_feed octet ne)
lines_of-last octet (next ∷ line) (ne, is) =
    ap (λ b. cond b ([] ∷ lines_of (next ∷ line)) (with_first octet (lines_of (next ∷ line)))) (no_feed octet ne)
    ∙ ap (with_first octet) (lines_of-last next line is)

-- octets without a line feed are the beginning of the first line
pub record BeginsFirst (octets : List ℕ) (lines : List (List ℕ)) : Type 0 where
  pub more : List ℕ
  pub others : List (List ℕ)
  pub are : lines ≡ (octets ++ more) ∷ others

first_of : (octet : ℕ) (lines : List (List ℕ)) → BeginsFirst (octet ∷ []) (with_first octet lines)
first_of octet [] = record { more = []; others = []; are = refl }
first_of octet (line ∷ lines) = record { more = line; others = lines; are = refl }

pub begins_first : (octet : ℕ) (octets rest : List ℕ) → IsLine (octet ∷ octets) → BeginsFirst (octet ∷ octets) (lines_of ((octet ∷ octets) ++ rest))
unfolding lines_of
begins_first octet [] rest (ne, is) =
    subst (BeginsFirst (octet ∷ [])) (sym (ap (λ b. cond b ([] ∷ lines_of rest) (with_first octet (lines_of rest))) (no_feed octet ne)))
    (first_of octet (lines_of rest))
begins_first octet (next ∷ octets) rest (ne, is) =
    let b = begins_first next octets rest is in
    record {
      more = b.more;
      others = b.others;
      are = ap (λ v. cond v ([] ∷ lines_of ((next ∷ octets) ++ rest)) (with_first octet (lines_of ((next ∷ octets) ++ rest)))) (no_feed octet ne)
          ∙ ap (with_first octet) b.are;
    }

-- octets without a line feed, in two parts
pub IsLine-append : (xs ys : List ℕ) → IsLine xs → IsLine ys → IsLine (xs ++ ys)
IsLine-append [] ys is is' = is'
IsLine-append (x ∷ xs) ys (ne, is) is' = (ne, IsLine-append xs ys is is')

pub IsLine-take : (n : ℕ) (xs : List ℕ) → IsLine xs → IsLine (take n xs)
IsLine-take zero xs is = tt
IsLine-take (suc n) [] is = tt
IsLine-take (suc n) (x ∷ xs) (ne, is) = (ne, IsLine-take n xs is)

-- octets without a line feed are the last line
pub lines_of-rest : (rest : List ℕ) → IsLine rest → lines_of rest ≡ last_line rest
lines_of-rest [] is = lines_of-nothing
lines_of-rest (octet ∷ rest) is = lines_of-last octet rest is

-- lines with their line feeds, and what follows
pub lines_of-joined : (lines : List (List ℕ)) (rest : List ℕ) → AreLines lines → lines_of (joined lines ++ rest) ≡ lines ++ lines_of rest
lines_of-joined [] rest are = refl
lines_of-joined (line ∷ lines) rest (is, are) =
    ap lines_of (append_assoc line (10 ∷ joined lines) rest) ∙ lines_of-line line (joined lines ++ rest) is ∙ ap (λ ls. line ∷ ls) (lines_of-joined lines rest are)

-- octets without a line feed have no whole line
pub whole_lines-rest : (rest : List ℕ) → IsLine rest → whole_lines rest ≡ []
unfolding whole_lines
whole_lines-rest [] is = refl
whole_lines-rest (octet ∷ rest) (ne, is) =
    ap (λ b. cond b ([] ∷ whole_lines rest) (to_first octet (whole_lines rest))) (no_feed octet ne) ∙ ap (to_first octet) (whole_lines-rest rest is)

pub whole_lines-line : (line rest : List ℕ) → IsLine line → whole_lines (line ++ 10 ∷ rest) ≡ line ∷ whole_lines rest
unfolding whole_lines
whole_lines-line [] rest is = refl
whole_lines-line (octet ∷ line) rest (ne, is) =
    ap (λ b. cond b ([] ∷ whole_lines (line ++ 10 ∷ rest)) (to_first octet (whole_lines (line ++ 10 ∷ rest)))) (no_feed octet ne)
    ∙ ap (to_first octet) (whole_lines-line line rest is)

pub whole_lines-joined : (lines : List (List ℕ)) (rest : List ℕ) → AreLines lines → IsLine rest → whole_lines (joined lines ++ rest) ≡ lines
whole_lines-joined [] rest are is = whole_lines-rest rest is
whole_lines-joined (line ∷ lines) rest (first, are) is =
    ap whole_lines (append_assoc line (10 ∷ joined lines) rest) ∙ whole_lines-line line (joined lines ++ rest) first ∙ ap (λ ls. line ∷ ls) (whole_lines-joined lines rest are is)

-- lines without line feeds, and an octet that is none
first_line : (octet : ℕ) (lines : List (List ℕ)) → octet ≢ 10 → AreLines lines → AreLines (with_first octet lines)
first_line octet [] ne are = ((ne, tt), tt)
first_line octet (line ∷ lines) ne (is, are) = ((ne, is), are)

pub lines_of-are_lines : (octets : List ℕ) → AreLines (lines_of octets)
unfolding lines_of
lines_of-are_lines [] = tt
lines_of-are_lines (octet ∷ octets) =
    elim (eqb octet 10) as (λ b. eqb octet 10 ≡ b → AreLines (cond b ([] ∷ lines_of octets) (with_first octet (lines_of octets)))) [
      | true ↦ λ e. (tt, lines_of-are_lines octets)
      | false ↦ λ e. first_line octet (lines_of octets) (eqb-false octet 10 e) (lines_of-are_lines octets)
    ] refl
