-- What follows of how a filter ended for the status of its command.
use Rattle.std.proofs.Common.{◌≡◌, ◌⊎◌, inl, inr, ℕ, List, [], Option, Some, None, Result, Ok, Err, ◌∙◌, refl, sym, ap, arith, append-nil}
use Rattle.dts_base.specs.Streams.{AppendsPart, Wrote}
use Rattle.dts_base.specs.Told.{Told}
use Rattle.line_reader.specs.Lines.{lines_of}
use Rattle.slew_clock.specs.declared.rates.Rates.{Rates}
use Rattle.utc_order.specs.declared.cause.OrderStatus.{OrderStatus}
use Rattle.utc_order.specs.declared.cause.OrderStatus.TheVariants as order
use Rattle.utc_order.specs.Orders.{HasOrdered}
use Rattle.dts_base.specs.Causes.{Rose}
use Rattle.wire_show.specs.declared.end.Shown.{Shown}
use Rattle.wire_show.specs.declared.end.ShowEnd.{ShowEnd}
use Rattle.wire_show.specs.declared.end.ShowEnd.TheVariants as show
use Rattle.wire_show.specs.Ends.{HasShown, HasFaults}
use Rattle.dts_program.specs.declared.status.SourceName.{SourceName}
use Rattle.dts_program.specs.declared.status.SourceName.TheVariants as source
use Rattle.dts_program.specs.declared.status.SinkName.{SinkName}
use Rattle.dts_program.specs.declared.status.SinkName.TheVariants as sink
use Rattle.dts_program.specs.Commands.{HasAnswered, HasPutInOrder, HasReplayedSafely, HasShownFields}
use Rattle.line_filter.specs.declared.stop.Stop.{Stop}
use Rattle.line_filter.specs.declared.stop.Stop.TheVariants as stop
use Rattle.line_filter.specs.Filters.{Rules, HasFiltered}
use Rattle.dts_program.specs.declared.status.Status.{Status}
use Rattle.dts_program.specs.declared.status.Status.TheVariants as status
use Rattle.dts_program.specs.Statuses.{IsShowStatus, order_status, show_status, status_of}

-- what is done was read to its end
pub read_to_end : {State Cause : Type 0} (rules : Rules State Cause) (from : State) (refused : ℕ → Cause → Status) → ((n : ℕ) (cause : Cause) → refused n cause ≡ status.Done → ⊥)
    → (octets : List ℕ) (left before now : Option (List ℕ)) (end : Result (Unit {0}) (Stop Cause)) → HasFiltered rules from octets left end before now
    → status_of refused end ≡ status.Done → left ≡ Some []
read_to_end rules from refused not_done octets left before now (Ok done) has e = has.left_is ∙ ap Some has.filters.1
read_to_end rules from refused not_done octets left before now (Err (stop.Refused n why)) has e = absurd (not_done n why e)
read_to_end rules from refused not_done octets left before now (Err stop.Read) has e = absurd cc
read_to_end rules from refused not_done octets left before now (Err stop.Write) has e = absurd cc
read_to_end rules from refused not_done octets left before now (Err stop.NoMemory) has e = absurd cc

-- an end, or want of memory
pub done_or_no_memory : {Cause : Type 0} (refused : ℕ → Cause → Status) (end : Result (Unit {0}) (Stop Cause)) → (end ≡ Ok tt) ⊎ (end ≡ Err stop.NoMemory)
    → (status_of refused end ≡ status.Done) ⊎ (status_of refused end ≡ status.NoMemory)
done_or_no_memory refused end (inl e) = inl (ap (status_of refused) e)
done_or_no_memory refused end (inr e) = inr (ap (status_of refused) e)

-- nothing is written
pub nothing_wrote : (before : Option (List ℕ)) → Wrote before before []
nothing_wrote None = refl
nothing_wrote (Some old) = (old, refl, sym (append-nil old))

-- a part of a piece is written
pub part_wrote : (piece : List ℕ) (before now : Option (List ℕ)) → Told before now (AppendsPart piece) → (text : List ℕ) × Wrote before now text
part_wrote piece None now told = ([], told)
part_wrote piece (Some old) now (new, is, (part, begins, appends)) = (part, (new, is, appends))

-- want of memory before the first line is read
pub nothing_answered : {State Cause : Type 0} (rules : Rules State Cause) (from : State) (refused : ℕ → Cause → Status) (octets : List ℕ) (left before : Option (List ℕ))
    → left ≡ Some octets → HasAnswered rules from (status_of refused) octets left status.NoMemory before before
nothing_answered rules from refused octets left before there = record {
  end = Err stop.NoMemory;
  is = refl;
  filtered = record {
    more = octets;
    left_is = there;
    text = [];
    filters = record { front = []; rest = lines_of octets; all = refl; state = from; taken = record { few = omega arith; each = (refl, refl) } };
    wrote = nothing_wrote before;
  };
}

pub nothing_replayed : (rates : Rates) (before : Option (List ℕ)) → HasReplayedSafely rates status.NoMemory before before
nothing_replayed rates before = record {
  end = Err stop.NoMemory;
  is = refl;
  safe = record { text = []; wrote = nothing_wrote before; safe = record { history = None; safe = tt; log = refl } };
}

-- lines that were put in order were read to their end
pub ordered_to_end : (octets : List ℕ) (left before now : Option (List ℕ)) (end : OrderStatus) → HasOrdered octets left end before now → order_status end ≡ status.Done → left ≡ Some []
ordered_to_end octets left before now order.Done has e = has.left_is ∙ ap Some has.orders.1
ordered_to_end octets left before now (order.Refused n why) has e = absurd cc
ordered_to_end octets left before now order.ReadFault has e = absurd cc
ordered_to_end octets left before now order.WriteFault has e = absurd cc
ordered_to_end octets left before now order.NoMemory has e = absurd cc

pub ordered_or_no_memory : (end : OrderStatus) → (end ≡ order.Done) ⊎ (end ≡ order.NoMemory) → (order_status end ≡ status.Done) ⊎ (order_status end ≡ status.NoMemory)
ordered_or_no_memory end (inl e) = inl (ap order_status e)
ordered_or_no_memory end (inr e) = inr (ap order_status e)

pub nothing_ordered : (octets : List ℕ) (left before : Option (List ℕ)) → left ≡ Some octets → HasPutInOrder octets left status.NoMemory before before
nothing_ordered octets left before there = record {
  end = order.NoMemory;
  is = refl;
  ordered = record { more = octets; left_is = there; text = []; orders = inl refl; wrote = nothing_wrote before };
}

-- fields that were shown were read to their end
pub shown_to_end : (kind : Shown) (octets : List ℕ) (left before now : Option (List ℕ)) (end : ShowEnd) → HasShown kind octets left end before now → show_status end ≡ status.Done → left ≡ Some []
shown_to_end kind octets left before now show.Done has e = has.left_is ∙ ap Some has.shows.1
shown_to_end kind octets left before now (show.Refused refused) has e = absurd cc
shown_to_end kind octets left before now show.ReadFault has e = absurd cc
shown_to_end kind octets left before now show.WriteFault has e = absurd cc
shown_to_end kind octets left before now show.NoMemory has e = absurd cc

-- what follows of an end follows of its status
pub show_or : (end one other : ShowEnd) → (end ≡ one) ⊎ (end ≡ other) → (show_status end ≡ show_status one) ⊎ (show_status end ≡ show_status other)
show_or end one other (inl e) = inl (ap show_status e)
show_or end one other (inr e) = inr (ap show_status e)

pub nothing_shown : (kind : Shown) (octets : List ℕ) (left before : Option (List ℕ)) → left ≡ Some octets → HasShownFields kind octets left status.NoMemory before before
nothing_shown kind octets left before there = record {
  end = show.NoMemory;
  is = refl;
  shown = record { read = []; more = octets; left_is = there; all = refl; few = omega arith; text = []; shows = refl; wrote = nothing_wrote before };
}

-- the faults of an ended showing
pub show_read : (end : ShowEnd) (before now : ℕ) → HasFaults show.ReadFault before now end → (which : SourceName) → show_status end ≡ status.ReadFault which
    → (which ≡ source.Input) × Rose before now
show_read show.ReadFault before now has which is = (cc, has.failed refl)
show_read show.Done before now has which is = absurd cc
show_read (show.Refused refused) before now has which is = absurd cc
show_read show.WriteFault before now has which is = absurd cc
show_read show.NoMemory before now has which is = absurd cc

pub show_wrote : (end : ShowEnd) (before now : ℕ) → HasFaults show.WriteFault before now end → (which : SinkName) → show_status end ≡ status.WriteFault which
    → (which ≡ sink.Output) × Rose before now
show_wrote show.WriteFault before now has which is = (cc, has.failed refl)
show_wrote show.Done before now has which is = absurd cc
show_wrote (show.Refused refused) before now has which is = absurd cc
show_wrote show.ReadFault before now has which is = absurd cc
show_wrote show.NoMemory before now has which is = absurd cc

pub show_read_kept : (end : ShowEnd) (before now : ℕ) → HasFaults show.ReadFault before now end → ((which : SourceName) → show_status end ≡ status.ReadFault which → ⊥) → now ≡ before
show_read_kept end before now has none = has.kept (λ is. none source.Input (ap show_status is))

pub show_write_kept : (end : ShowEnd) (before now : ℕ) → HasFaults show.WriteFault before now end → ((which : SinkName) → show_status end ≡ status.WriteFault which → ⊥) → now ≡ before
show_write_kept end before now has none = has.kept (λ is. none sink.Output (ap show_status is))

pub show_statuses : (end : ShowEnd) → IsShowStatus (show_status end)
show_statuses show.Done = tt
show_statuses (show.Refused refused) = tt
show_statuses show.ReadFault = tt
show_statuses show.WriteFault = tt
show_statuses show.NoMemory = tt
