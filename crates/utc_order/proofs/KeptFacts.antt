-- Lines as they are kept.
use Rattle.std.proofs.Common.{◌≡◌, ℕ, ◌+◌, ◌-◌, ◌≤◌, Bool, List, [], ◌∷◌, ◌++◌, map, length, take, drop, refl, sym, ap, ◌∙◌, arith, length-append}
use Rattle.std.specs.Prelude.{slice_range, OnErr, Result, Ok, Err}
use Rattle.std.specs.List.{AllByRecursion, position, position_or_len}
use Rattle.std.proofs.lemmas.List.{append-nil, drop-append-le, take-append-le, map-append, length-drop, length-map}
use Rattle.std.proofs.Math.Seq.{drop-append_seam, take-append_seam}
use Rattle.utc_order.specs.declared.lines.Entry.{Entry}
use Rattle.utc_order.specs.Lines.{LogLine}
use Rattle.utc_order.specs.Kept.{line_kept, IsWithin}

-- octets that stand among some stand among more
range_more : (octets more : List ℕ) (from to : ℕ) → from ≤ to → to ≤ length octets → slice_range (octets ++ more) from to ≡ slice_range octets from to
range_more octets more from to ordered inside =
    let le : from ≤ length octets = omega arith in
    let some : to - from ≤ length (drop from octets) = omega (arith, length-drop from octets) in
    rw (drop-append-le from octets more le) (take-append-le (to - from) (drop from octets) more some)

range_new : (octets more : List ℕ) → slice_range (octets ++ more) (length octets) (length octets + length more) ≡ more
range_new octets more =
    let e : (length octets + length more) - length octets ≡ length more = omega arith in
    ap (λ n. take n (drop (length octets) (octets ++ more))) e ∙ ap (take (length more)) (drop-append_seam octets more) ∙ whole more
  where
    whole : (xs : List ℕ) → take (length xs) xs ≡ xs
    whole xs = ap (take (length xs)) (sym (append-nil xs)) ∙ take-append_seam xs []

-- lines stay as they are kept where octets are put behind theirs
pub kept_still : (octets more : List ℕ) (entries : List Entry) → AllByRecursion (IsWithin octets) entries → map (line_kept (octets ++ more)) entries ≡ map (line_kept octets) entries
kept_still octets more [] within = refl
kept_still octets more (entry ∷ entries) within =
    let octets_are = range_more octets more entry.from entry.to within.0.ordered within.0.inside in
    let here : line_kept (octets ++ more) entry ≡ line_kept octets entry = ap (λ o. let l : LogLine = record { host = entry.host; time = entry.time; octets = o } in l) octets_are in
    ap (λ l. l ∷ map (line_kept (octets ++ more)) entries) here ∙ ap (λ ls. line_kept octets entry ∷ ls) (kept_still octets more entries within.1)

-- a further line
pub kept_more : (octets more : List ℕ) (entries : List Entry) (entry : Entry) → AllByRecursion (IsWithin octets) entries → entry.from ≡ length octets → entry.to ≡ length octets + length more
    → map (line_kept (octets ++ more)) (entries ++ entry ∷ []) ≡ map (line_kept octets) entries ++ record { host = entry.host; time = entry.time; octets = more } ∷ []
kept_more octets more entries entry within from to =
    let here : slice_range (octets ++ more) entry.from entry.to ≡ more = rw (from, to) (range_new octets more) in
    map-append (line_kept (octets ++ more)) entries (entry ∷ []) ∙ ap (λ ls. ls ++ line_kept (octets ++ more) entry ∷ []) (kept_still octets more entries within)
    ∙ ap (λ o. map (line_kept octets) entries ++ record { host = entry.host; time = entry.time; octets = o } ∷ []) here

front_kept : (octets : List ℕ) (test : LogLine → Bool) (entries : List Entry) → position_or_len test (map (line_kept octets) entries) ≡ position_or_len (λ entry. test (line_kept octets entry)) entries
front_kept octets test [] = refl
front_kept octets test (entry ∷ entries) = rw (front_kept octets test entries) refl

-- the first line that passes a test is the first entry whose line does
pub first_kept : (octets : List ℕ) (test : LogLine → Bool) (entries : List Entry) → position test (map (line_kept octets) entries) ≡ position (λ entry. test (line_kept octets entry)) entries
first_kept octets test entries = rw (front_kept octets test entries, length-map) refl

-- entries stay within where octets are put behind theirs
pub within_more : (octets more : List ℕ) (entries : List Entry) → AllByRecursion (IsWithin octets) entries → AllByRecursion (IsWithin (octets ++ more)) entries
within_more octets more [] within = tt
within_more octets more (entry ∷ entries) within =
    (record { ordered = within.0.ordered; inside = omega (arith, within.0.inside, length-append octets more) }, within_more octets more entries within.1)

-- a further entry
pub within_push : (octets more : List ℕ) (entries : List Entry) (entry : Entry) → AllByRecursion (IsWithin octets) entries → entry.from ≡ length octets → entry.to ≡ length octets + length more
    → AllByRecursion (IsWithin (octets ++ more)) (entries ++ entry ∷ [])
within_push octets more [] entry within from to = (record { ordered = omega arith; inside = omega (arith, length-append octets more) }, tt)
within_push octets more (first ∷ entries) entry within from to =
    ((within_more octets more (first ∷ entries) within).0, within_push octets more entries entry within.1 from to)

-- what holds holds where a call failed
pub on_err : {T E : Type 0} (P : Type 0) (r : Result T E) → P → OnErr r P
on_err P (Ok x) p = tt
on_err P (Err e) p = p
