-- Which positions are live: the oscillator did not go back.
use Rattle.std.specs.Prelude.{ℕ, max, Bool, true, false, ◌==◌, nat_le, ◌&&◌, if◌then◌else◌}
use Rattle.slew_clock.specs.declared.record.ClockRecord.{ClockRecord}
use Rattle.dts_capture.specs.declared.event.Event.{Event}
use Rattle.sync_rules.specs.History.{History, Begun, Then, Part, Sync, Lane, Start, event_part, event_osc, current_record}

abbrev pub same_part : Part → Part → Bool
same_part Sync Sync = true
same_part (Lane k) (Lane l) = k == l
same_part _ _ = false

-- the oscillator reading that a part begins with: the sync part with the start, a lane with 0
abbrev pub first_osc : Part → Start → ℕ
first_osc Sync start = start.osc
first_osc (Lane k) start = 0

-- the oscillator reading below which a position of this part is regressed, where the part's last live one had this reading:
-- a lane serves no reading from before the current record
abbrev pub floor_at : Part → ℕ → ClockRecord → ℕ
floor_at Sync last rec = last
floor_at (Lane k) last rec = max last rec.born

-- the oscillator reading of the last live position of a part. A position is live where it is not below its floor
unfoldable pub live_osc : Part → History → ℕ
live_osc part (Begun settings start) = first_osc part start
live_osc part (Then before event actions) =
    if same_part part (event_part event) && nat_le (floor_at part (live_osc part before) (current_record before)) (event_osc event)
    then event_osc event else live_osc part before

abbrev pub floor_of : History → Event → ℕ
floor_of history event = floor_at (event_part event) (live_osc (event_part event) history) (current_record history)

abbrev pub is_live : History → Event → Bool
is_live history event = nat_le (floor_of history event) (event_osc event)
