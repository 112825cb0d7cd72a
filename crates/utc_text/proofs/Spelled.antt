-- A text in which all fields stand is that of right fields.
use Rattle.std.proofs.Common.{◌≡◌, ℕ, List, [], ◌++◌, Option, Some, None, refl, sym, ◌∙◌, append_assoc}
use Rattle.std.proofs.lemmas.List.{append-nil}
use Rattle.std.proofs.Common.{FitsSigned, w64}
use Rattle.utc_text.specs.Grammar.{AbsoluteFields, AbsoluteStands, absolute_order, ClockField, FractionStands, inaccuracy_text, IsDaysField, IsInaccuracyField, PartStands, RelativeFields, RelativeStands, relative_order, relative_time, Stand, TdfField, TdfHourStands, TdfMinuteStands}
use Rattle.utc_text.specs.Written.{absolute_text, clock_text, date_text, IsAbsolute, IsClockField, IsRelative, IsTdfField, relative_text, sign_text, tdf_text}
use Rattle.utc_text.proofs.Regrouped.{date_spelled, clock_spelled, tdf_spelled, sign_spelled}

-- a time of day of right parts
clock_right : (c : ClockField) (here minute second fraction rest : List ℕ) → PartStands 45 0 23 c.hour here minute
    → PartStands 58 0 59 c.minute minute second → PartStands 58 0 59 c.second second fraction
    → FractionStands c.fraction fraction rest → IsClockField c × (here ≡ clock_text c ++ rest)
clock_right c here minute second fraction rest h m s f = (
  record {
    hour = h.0.1;
    minute = m.0.1;
    second = s.0.1;
    fraction = f.0;
  },
  clock_spelled here minute second fraction rest c h.1 m.1 s.1 f.2,
)

-- a factor of right parts
tdf_right : (t : Option TdfField) (here middle rest : List ℕ) → TdfHourStands t here middle → TdfMinuteStands t middle rest
    → IsTdfField t × (here ≡ tdf_text t ++ rest)
tdf_right None here middle rest h m = (tt, h.1 ∙ m)
tdf_right (Some t) here middle rest h m = ((h.0.1, m.0.1), tdf_spelled here middle rest rest t h.1 m.1 refl)

-- four parts of a text, of which the last ends it
joined_four : (text a b c d here middle end rest : List ℕ) → text ≡ a ++ here → here ≡ b ++ middle → middle ≡ c ++ end
    → end ≡ d ++ rest → rest ≡ [] → text ≡ ((a ++ b) ++ c) ++ d
joined_four text a b c d here middle end rest e f g h n =
    rw (e, f, g, h, n, append-nil d) (sym (append_assoc (a ++ b) c d ∙ append_assoc a b (c ++ d)))

pub absolute_spelled : (text : List ℕ) (f : AbsoluteFields) → Stand AbsoluteStands absolute_order f text []
    → IsAbsolute f × (text ≡ absolute_text f)
absolute_spelled text f s =
    let month = s.2 in
    let day = month.2 in
    let clock_there = day.2 in
    let c = clock_there.2 in
    let clock = clock_right f.clock day.0 clock_there.0 c.0 c.2.0 c.2.2.0 clock_there.1 c.1 c.2.1 c.2.2.1 in
    let factor = c.2.2.2 in
    let tdf = tdf_right f.tdf c.2.2.0 factor.0 factor.2.0 factor.1 factor.2.1 in
    let end = factor.2.2 in
    let date = date_spelled text s.0 month.0 day.0 f.date s.1.1 month.1.1 day.1.1 in (
      record { date = record { year = s.1.0; month = month.1.0; day = day.1.0 }; clock = clock.0; tdf = tdf.0; inaccuracy = end.1.0 },
      joined_four text (date_text f.date) (clock_text f.clock) (tdf_text f.tdf) (inaccuracy_text f.inaccuracy) day.0 c.2.2.0 factor.2.0 end.0 date clock.1 tdf.1 end.1.2 end.2.1.0,
    )

pub relative_parts : (text : List ℕ) (f : RelativeFields) → Stand RelativeStands relative_order f text []
    → IsDaysField f.days × IsClockField f.clock × IsInaccuracyField f.inaccuracy × (text ≡ relative_text f)
relative_parts text f s =
    let b = s.2 in
    let c = b.2 in
    let clock = clock_right f.clock b.0 c.0 c.2.0 c.2.2.0 c.2.2.2.0 c.1 c.2.1 c.2.2.1 c.2.2.2.1 in
    let end = c.2.2.2.2 in (
      b.1.0,
      clock.0,
      end.1.0,
      joined_four text (sign_text f.negative) f.days (clock_text f.clock) (inaccuracy_text f.inaccuracy) s.0 b.0 c.2.2.2.0 end.0 (sign_spelled f.negative text s.0 s.1) b.1.2 clock.1 end.1.2 end.2.1.0,
    )

pub relative_spelled : (text : List ℕ) (f : RelativeFields) → Stand RelativeStands relative_order f text []
    → FitsSigned w64 (relative_time f) → IsRelative f × (text ≡ relative_text f)
relative_spelled text f s fits =
    let p = relative_parts text f s in
    (record { days = p.0; clock = p.1; time = fits; inaccuracy = p.2 }, p.3)
