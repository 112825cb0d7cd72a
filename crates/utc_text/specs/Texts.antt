-- What a text says as a timestamp, and which timestamps have a text.
use Rattle.std.specs.Prelude.{◌≡◌, ℕ, List, [], ℤ, pos, ◌-ℤ◌, ◌*ℤ◌, FitsSigned}
use Rattle.std.specs.Int.{w64}
use Rattle.utc_value.specs.declared.Kind.TheVariants.{Absolute}
use Rattle.utc_value.specs.Stamp.{Stamp, IsTdf, absolute_stamp, relative_stamp}
use Rattle.utc_text.specs.declared.units.TheConstants.{MINUTE}
use Rattle.utc_text.specs.declared.calendar.Civil.{Civil}
use Rattle.utc_text.specs.Civil.{civil_count, local_count, IsInYears}
use Rattle.utc_text.specs.Grammar.{Stand, AbsoluteFields, AbsoluteStands, absolute_order, fraction_units, tdf_said, inaccuracy_said, RelativeFields, RelativeStands, relative_order, relative_time}

-- the count in UTC of a civil time that is that many minutes ahead of UTC
abbrev pub utc_count : Civil → ℤ → ℤ
utc_count c tdf = civil_count c -ℤ (tdf *ℤ pos MINUTE)

-- the civil time of the fields of an absolute text, which is local
abbrev pub civil_said : AbsoluteFields → Civil
civil_said f = record {
  year = pos f.date.year;
  month = f.date.month;
  day = f.date.day;
  hour = f.clock.hour;
  minute = f.clock.minute;
  second = f.clock.second;
  units = fraction_units f.clock.fraction;
}

-- the text is an absolute one, and says this timestamp
pub record SpellsAbsolute (text : List ℕ) (u : Stamp) : Type 0 where
  pub fields : AbsoluteFields
  pub spelled : Stand AbsoluteStands absolute_order fields text []
  pub said : u ≡ absolute_stamp (utc_count (civil_said fields) (tdf_said fields.tdf)) (inaccuracy_said fields.inaccuracy) (tdf_said fields.tdf)

-- the text is a relative one, and says this timestamp; its time fits 64 bits
pub record SpellsRelative (text : List ℕ) (u : Stamp) : Type 0 where
  pub fields : RelativeFields
  pub spelled : Stand RelativeStands relative_order fields text []
  pub fits : FitsSigned w64 (relative_time fields)
  pub said : u ≡ relative_stamp (relative_time fields) (inaccuracy_said fields.inaccuracy)

-- a moment whose civil time at that time differential factor is of the years that are written
pub record IsPrintable (u : Stamp) (tdf : ℤ) : Type 0 where
  pub kind : u.kind ≡ Absolute
  pub tdf_in : IsTdf tdf
  pub year : IsInYears (local_count u.time tdf)
