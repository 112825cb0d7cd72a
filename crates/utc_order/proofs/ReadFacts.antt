-- Lines that are read one after the other.
use Rattle.std.proofs.Common.{◌≡◌, inl, inr, ℕ, ◌+◌, Bool, true, false, List, [], ◌∷◌, ◌++◌, length, Option, Some, Result, Ok, Err, refl, sym, ap, ◌∙◌, subst, append_assoc, length-append, arith}
use Rattle.std.proofs.lemmas.List.{append-nil}
use Rattle.dts_base.specs.Told.{Told}
use Rattle.dts_base.specs.Streams.{BeginsWith}
use Rattle.line_reader.specs.declared.limits.TheConstants.{MAX_LINE}
use Rattle.line_reader.specs.Lines.{lines_of}
use Rattle.line_reader.specs.Reader.{Reader, Advances}
use Rattle.line_reader.proofs.Reading.{told_on, taken_none, taken_more, taken_all, taken_still, lines_taken}
use Rattle.utc_order.specs.declared.cause.OrderCause.{OrderCause}
use Rattle.utc_order.specs.declared.cause.OrderCause.TheVariants as cause
use Rattle.utc_order.specs.declared.cause.OrderStatus.{OrderStatus}
use Rattle.utc_order.specs.declared.cause.OrderStatus.TheVariants as status
use Rattle.utc_order.specs.Lines.{LogLine}
use Rattle.utc_order.specs.Taking.{Fits, Takes, Refuses, TakesEach, RefusesAt}
use Rattle.utc_order.specs.Keeping.{StopsAt, Reads, HasStopped, HasRead}

-- one more line
pub each_more : (before taken : List LogLine) (lines : List (List ℕ)) (octets : List ℕ) (line : LogLine) → TakesEach before lines taken → Takes (before ++ taken) octets line → TakesEach before (lines ++ octets ∷ []) (taken ++ line ∷ [])
each_more before [] [] octets line each takes = (subst (λ b. Takes b octets line) (append-nil before) takes, refl)
each_more before (one ∷ taken) [] octets line each takes = absurd (cc)
each_more before [] (first ∷ lines) octets line each takes = absurd each
each_more before (one ∷ taken) (first ∷ lines) octets line each takes =
    (each.0, each_more (before ++ one ∷ []) taken lines octets line each.1 (subst (λ b. Takes b octets line) (sym (append_assoc before (one ∷ []) taken)) takes))

-- as many lines as there are octets of them
pub each_length : (before taken : List LogLine) (lines : List (List ℕ)) → TakesEach before lines taken → length taken ≡ length lines
each_length before [] [] each = refl
each_length before (one ∷ taken) [] each = ap length each
each_length before [] (first ∷ lines) each = absurd each
each_length before (one ∷ taken) (first ∷ lines) each = let e = each_length (before ++ one ∷ []) taken lines each.1 in omega arith

too_long : (octets first : List ℕ) → length octets ≡ MAX_LINE + 1 → (before : List LogLine) → Fits before octets → ⊥
too_long octets first long before fits = omega (arith, fits.1)

-- a longer line is refused for the same cause, where a part of it is too long
refuses_longer : (before : List LogLine) (octets first : List ℕ) (c : OrderCause) → BeginsWith octets first → length octets ≡ MAX_LINE + 1 → Refuses before octets c → Refuses before first c
refuses_longer before octets first cause.Lines begins long refused = refused
refuses_longer before octets first cause.Long (rest, is) long refused = (refused.0, omega (arith, long, ap length is, length-append octets rest))
refuses_longer before octets first cause.Host begins long refused = absurd (too_long octets first long before refused.0)
refuses_longer before octets first (cause.Time fault) begins long refused = absurd (too_long octets first long before refused.0)
refuses_longer before octets first cause.Text begins long refused = absurd (too_long octets first long before refused.0)
refuses_longer before octets first (cause.Backward earlier) begins long refused = absurd (too_long octets first long before refused.0)

-- nothing was read yet
pub begins : (octets : List ℕ) (reader : Reader) (left : Option (List ℕ)) → left ≡ Some octets → reader ≡ record { line = []; ahead = []; ended = false } → Reads octets reader left []
begins octets reader left at new = record { taken = []; has = taken_none octets reader left at new; each = refl }

module _ (octets : List ℕ) (old new : Reader) (left left' : Option (List ℕ)) (lines : List LogLine) (reads : Reads octets old left lines) where
  -- what the reader answers
  abbrev Goes : Result Bool OrderStatus → Type 0
  Goes result = Told left left' (Advances old new result)

  -- a read fails
  pub read_stops : (e : OrderStatus) → Goes (Err e) → HasStopped octets left' status.ReadFault
  read_stops e told =
      let whole = (taken_still OrderStatus octets reads.taken old new left reads.has e left' told).1 in
      (whole.more, whole.left_is, record { read = whole.read; all = whole.all; lines = lines; taken = subst (λ ls. TakesEach [] ls lines) (sym whole.whole) reads.each })

  -- no line is left
  pub all_read : Goes (Ok false) → HasRead octets left' (Ok lines)
  all_read told =
      let all = taken_all OrderStatus octets reads.taken old new left reads.has left' told in
      (subst (λ ls. TakesEach [] ls lines) (sym all.0) reads.each, all.1)

  module _ (told : Goes (Ok true)) where
    left_more : (more : List ℕ) × (left' ≡ Some more)
    left_more =
        let next : Result Bool OrderStatus = Ok true in
        let on = told_on (Advances old new next) left left' reads.has.more told reads.has.left_is in
        (on.0, on.1)

    -- the line is taken
    pub goes_on : (line : LogLine) → Takes lines new.line line → Reads octets new left' (lines ++ line ∷ [])
    goes_on line takes = record {
      taken = reads.taken ++ new.line ∷ [];
      has = elim (taken_more OrderStatus octets reads.taken old new left reads.has left' told) [
        | inl has ↦ has
        | inr long ↦ absurd (too_long new.line new.line long.long lines takes.fits)
      ];
      each = each_more [] lines reads.taken new.line line reads.each takes;
    }

    -- the line is refused
    refused_at : (c : OrderCause) → Refuses lines new.line c → RefusesAt (lines_of octets) (length lines + 1) c
    refused_at c refused = elim (taken_more OrderStatus octets reads.taken old new left reads.has left' told) [
      | inl has ↦
          let all = lines_taken octets (reads.taken ++ new.line ∷ []) new left' has in
          record {
            front = reads.taken;
            octets = new.line;
            rest = all.0;
            all_is = all.1 ∙ append_assoc reads.taken (new.line ∷ []) all.0;
            number = ap (λ n. n + 1) (each_length [] lines reads.taken reads.each);
            lines = lines;
            taken = reads.each;
            refused = refused;
          }
      | inr long ↦ record {
        front = reads.taken;
        octets = long.first;
        rest = long.others;
        all_is = long.lines;
        number = ap (λ n. n + 1) (each_length [] lines reads.taken reads.each);
        lines = lines;
        taken = reads.each;
        refused = refuses_longer lines new.line long.first c long.begins long.long refused;
      }
    ]

    -- reading stops at the line
    pub line_stops : (s : OrderStatus) → StopsAt lines new.line s → HasStopped octets left' s
    line_stops (status.Refused n c) stops = (left_more.0, left_more.1, subst (λ k. RefusesAt (lines_of octets) k c) (sym stops.0) (refused_at c stops.1))
    line_stops status.NoMemory stops = (left_more.0, left_more.1, tt)
    line_stops status.Done stops = absurd stops
    line_stops status.ReadFault stops = absurd stops
    line_stops status.WriteFault stops = absurd stops
