-- The use of a time reply: why it is not used, or the interval that it answers with.
use Rattle.std.specs.Prelude.{ℕ, ℤ, pos, ◌-ℤ◌, ◌+ℤ◌, ◌==◌, nat_le, Bool, true, false, not, ◌&&◌, if◌then◌else◌, List, [], ◌∷◌, drop, Option, Some, None}
use Rattle.std.specs.Int.{w64, cast_signed}
use Rattle.byteorder.specs.Endian.{little_number}
use Rattle.ndr.specs.Stubs.{Value, a_number, some_octets}
use Rattle.utc_value.specs.declared.TheConstants.{MAX_INACCURACY}
use Rattle.utc_value.specs.declared.Kind.{Kind}
use Rattle.utc_value.specs.declared.Kind.TheVariants.{Absolute, Relative}
use Rattle.utc_value.specs.Stamp.{Stamp}
use Rattle.utc_value.specs.Octets.{version_in, tdf_in}
use Rattle.time_provider.specs.Past.{is_time}
use Rattle.dts_capture.specs.declared.action.NoteKind.{NoteKind}
use Rattle.dts_capture.specs.declared.action.NoteKind.TheVariants as note

-- the timestamp that sixteen octets of a right version spell
abbrev pub kind_in : List ℕ → Kind
kind_in octets = if version_in octets == 2 then Relative else Absolute

abbrev pub inaccuracy_in : List ℕ → Option ℕ
inaccuracy_in octets = let n = little_number 6 (drop 8 octets) in if nat_le n MAX_INACCURACY then Some n else None

abbrev pub stamp_in : List ℕ → Stamp
stamp_in octets = record {
  time = cast_signed w64 (little_number 8 octets);
  inaccuracy = inaccuracy_in octets;
  tdf = tdf_in octets;
  kind = kind_in octets;
}

-- a reply is not used, for a reason that is noted; or it answers with an interval
pub data Use : Type 0 where
  Unused : NoteKind → Use
  Used : ℤ → ℤ → Use

abbrev pub is_relative : Kind → Bool
is_relative Absolute = false
is_relative Relative = true

-- an interval answers where both ends are times of the clock
abbrev pub use_between : ℤ → ℤ → Use
use_between lo hi = if is_time lo && is_time hi then Used lo hi else Unused note.UnusedRange

-- a moment answers from its earliest to its latest time
abbrev pub use_of_moment : ℤ → Option ℕ → Use
use_of_moment time None = Unused note.UnusedUnspecified
use_of_moment time (Some inaccuracy) = use_between (time -ℤ pos inaccuracy) (time +ℤ pos inaccuracy)

-- a reply is used in the node's own epoch alone, with status 0, and of a moment
abbrev pub use_of : (own theirs status : ℕ) → Stamp → Use
use_of own theirs status s =
    if not (own == theirs) then Unused (note.Epoch own theirs)
    else if not (status == 0) then Unused (note.UnusedStatus status)
    else if is_relative s.kind then Unused note.UnusedKind
    else use_of_moment s.time s.inaccuracy

-- the use of the fields of a reply: its version, epoch, timestamp and status
abbrev pub use_of_fields : ℕ → List Value → Use
use_of_fields own (a_number version ∷ a_number theirs ∷ some_octets utc ∷ a_number status ∷ []) =
    use_of own theirs status (stamp_in utc)
use_of_fields own _ = Unused note.UnusedKind
