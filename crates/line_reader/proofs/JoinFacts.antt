-- Octets are joined of their lines.
use Rattle.std.proofs.Common.{◌≡◌, ◌≢◌, ℕ, true, false, cond, eqb, List, [], ◌∷◌, ◌++◌, refl, sym, ap, ◌∙◌, subst}
use Rattle.std.proofs.lemmas.Bool.{eqb-true, eqb-false}
use Rattle.line_reader.specs.Lines.{lines_of, with_first, whole_lines, to_first, IsLine, joined, last_line}
use Rattle.line_reader.specs.Laws.{IsJoined}

-- the parts of an `IsJoined`, over any lists of lines
record Joins (octets : List ℕ) (whole lines : List (List ℕ)) : Type 0 where
  rest : List ℕ
  all : octets ≡ joined whole ++ rest
  is_line : IsLine rest
  lines_are : lines ≡ whole ++ last_line rest

-- a line feed in front
feed_first : (octets : List ℕ) (whole lines : List (List ℕ)) → Joins octets whole lines → Joins (10 ∷ octets) ([] ∷ whole) ([] ∷ lines)
feed_first octets whole lines j = record { rest = j.rest; all = ap (λ o. 10 ∷ o) j.all; is_line = j.is_line; lines_are = ap (λ ls. [] ∷ ls) j.lines_are }

-- another octet in front
octet_first : (octet : ℕ) (octets : List ℕ) (whole lines : List (List ℕ)) → octet ≢ 10 → Joins octets whole lines → Joins (octet ∷ octets) (to_first octet whole) (with_first octet lines)
octet_first octet octets [] lines ne j = record {
  rest = octet ∷ j.rest;
  all = ap (λ o. octet ∷ o) j.all;
  is_line = (ne, j.is_line);
  lines_are = ap (with_first octet) j.lines_are ∙ first_of j.rest;
}
  where
    first_of : (rest : List ℕ) → with_first octet (last_line rest) ≡ (octet ∷ rest) ∷ []
    first_of [] = refl
    first_of (x ∷ rest) = refl
octet_first octet octets (line ∷ whole) lines ne j = record {
  rest = j.rest;
  all = ap (λ o. octet ∷ o) j.all;
  is_line = j.is_line;
  lines_are = ap (with_first octet) j.lines_are;
}

joins : (octets : List ℕ) → Joins octets (whole_lines octets) (lines_of octets)
unfolding lines_of whole_lines
joins [] = record { rest = []; all = refl; is_line = tt; lines_are = refl }
joins (octet ∷ octets) =
    elim (eqb octet 10) as (λ b. eqb octet 10 ≡ b → Joins (octet ∷ octets) (cond b ([] ∷ whole_lines octets) (to_first octet (whole_lines octets))) (cond b ([] ∷ lines_of octets) (with_first octet (lines_of octets)))) [
      | true ↦ λ e. subst (λ o. Joins (o ∷ octets) ([] ∷ whole_lines octets) ([] ∷ lines_of octets)) (sym (eqb-true octet 10 e)) (feed_first octets (whole_lines octets) (lines_of octets) (joins octets))
      | false ↦ λ e. octet_first octet octets (whole_lines octets) (lines_of octets) (eqb-false octet 10 e) (joins octets)
    ] refl

pub is_joined : (octets : List ℕ) → IsJoined octets
is_joined octets = let j = joins octets in record { rest = j.rest; all = j.all; is_line = j.is_line; lines = j.lines_are }
