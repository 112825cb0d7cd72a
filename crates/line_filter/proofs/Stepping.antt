-- A filter goes from one line to the next.
use Rattle.std.proofs.Common.{◌≡◌, inl, inr, ℕ, ◌+◌, Bool, true, false, List, [], ◌∷◌, ◌++◌, length, Option, Some, None, Result, Ok, Err, MatchResult, refl, sym, ap, ◌∙◌, subst, append_assoc, length-append, arith}
use Rattle.std.proofs.lemmas.List.{append-nil}
use Rattle.dts_base.specs.Told.{Told}
use Rattle.dts_base.proofs.ToldFacts.{Told-same, Wrote-then}
use Rattle.dts_base.specs.Streams.{BeginsWith, AppendsPart, Wrote}
use Rattle.line_reader.specs.declared.limits.TheConstants.{MAX_LINE}
use Rattle.line_reader.specs.Lines.{lines_of}
use Rattle.line_reader.specs.Reader.{Reader, Advances}
use Rattle.line_reader.specs.Taken.{HasTaken}
use Rattle.line_reader.proofs.Reading.{told_on, taken_none, taken_more, taken_all, taken_still, lines_taken}
use Rattle.line_filter.specs.declared.stop.Stop.{Stop}
use Rattle.line_filter.specs.declared.stop.Stop.TheVariants as stop
use Rattle.line_filter.specs.Filters.{Rules, TakesLines, RefusesLine, TakesFront, HasFiltered}
use Rattle.line_filter.specs.Steps.{Stands, TakesNumbered, StopsAt}
use Rattle.line_filter.proofs.TakeFacts.{no_lines, lines_more}

-- a part of a piece was written
Wrote-part : (now more : Option (List ℕ)) (piece : List ℕ) → Told now more (AppendsPart piece) → (part : List ℕ) × BeginsWith part piece × Wrote now more part
Wrote-part None more piece told = ([], (piece, refl), told)
Wrote-part (Some x) more piece (y, is, (part, begins, all)) = (part, begins, (y, is, all))

module _ {State Cause : Type 0} (rules : Rules State Cause) where
  -- nothing was read yet
  pub begins : (At : State → Type 0) (from : State) (octets : List ℕ) (reader : Reader) (left told : Option (List ℕ)) → At from → left ≡ Some octets → reader ≡ record { line = []; ahead = []; ended = false }
      → Stands rules At from octets 0 reader left told told
  begins At from octets reader left told at is new = record {
    taken = [];
    has = taken_none octets reader left is new;
    count = refl;
    state = from;
    at = at;
    text = [];
    takes = no_lines rules from;
    wrote = Told-same _ told (λ x. sym (append-nil x));
  }

  -- no memory for a reader
  pub nothing_read : (from : State) (octets : List ℕ) (left told : Option (List ℕ)) → left ≡ Some octets → HasFiltered rules from octets left (Err stop.NoMemory) told told
  nothing_read from octets left told is = record {
    more = octets;
    left_is = is;
    text = [];
    filters = record { front = []; rest = lines_of octets; all = refl; state = from; taken = no_lines rules from };
    wrote = Told-same _ told (λ x. sym (append-nil x));
  }

  -- a longer line is refused for the same cause, where a part of it is too long
  refuses_longer : (n : ℕ) (state : State) (line first : List ℕ) (cause : Cause) → BeginsWith line first → length line ≡ MAX_LINE + 1 → RefusesLine rules n state line cause → RefusesLine rules n state first cause
  refuses_longer n state line first cause begins long (inl many) = inl many
  refuses_longer n state line first cause (rest, is) long (inr (inl (few, _, at))) = inr (inl (few, omega (arith, long, ap length is, length-append line rest), at))
  refuses_longer n state line first cause begins long (inr (inr (few, short, _))) = absurd (omega (arith, long, short))

  module _ (At : State → Type 0) (from : State) (octets : List ℕ) (number : ℕ) (old new : Reader) (left left' before now : Option (List ℕ)) (stands : Stands rules At from octets number old left before now) where
    -- what the reader answers
    abbrev Goes : Result Bool (Stop Cause) → Type 0
    Goes result = Told left left' (Advances old new result)

    -- the text of the lines that were taken is that of some first lines
    front_here : TakesFront rules from (lines_of octets) stands.text
    front_here =
        let all = lines_taken octets stands.taken old left stands.has in
        record { front = stands.taken; rest = all.0; all = all.1; state = stands.state; taken = stands.takes }

    -- a read fails
    pub read_stops : (e : Stop Cause) → Goes (Err e) → HasFiltered rules from octets left' (Err stop.Read) before now
    read_stops e told =
        let whole = (taken_still (Stop Cause) octets stands.taken old new left stands.has e left' told).1 in
        record {
          more = whole.more;
          left_is = whole.left_is;
          text = stands.text;
          filters = record {
            read = whole.read;
            all = whole.all;
            state = stands.state;
            taken = subst (λ ls. TakesLines rules from ls stands.state stands.text) (sym whole.whole) stands.takes;
          };
          wrote = stands.wrote;
        }

    module _ (told : Goes (Ok true)) where
      left_more : (more : List ℕ) × (left' ≡ Some more)
      left_more =
          let next : Result Bool (Stop Cause) = Ok true in
          let on = told_on (Advances old new next) left left' stands.has.more told stands.has.left_is in
          (on.0, on.1)

      -- the line is refused
      line_refused : (n : ℕ) (cause : Cause) → n ≡ number + 1 → RefusesLine rules number stands.state new.line cause → HasFiltered rules from octets left' (Err (stop.Refused n cause)) before now
      line_refused n cause is refuses =
          let here : RefusesLine rules (length stands.taken) stands.state new.line cause = subst (λ k. RefusesLine rules k stands.state new.line cause) stands.count refuses in
          let behind : n ≡ length stands.taken + 1 = is ∙ ap (λ k. k + 1) stands.count in
          record {
            more = left_more.0;
            left_is = left_more.1;
            text = stands.text;
            filters = inl (elim (taken_more (Stop Cause) octets stands.taken old new left stands.has left' told) [
              | inl has ↦
                  let all = lines_taken octets (stands.taken ++ new.line ∷ []) new left' has in
                  record {
                    front = stands.taken;
                    line = new.line;
                    rest = all.0;
                    all = all.1 ∙ append_assoc stands.taken (new.line ∷ []) all.0;
                    number = behind;
                    state = stands.state;
                    taken = stands.takes;
                    refused = here;
                  }
              | inr long ↦ record {
                front = stands.taken;
                line = long.first;
                rest = long.others;
                all = long.lines;
                number = behind;
                state = stands.state;
                taken = stands.takes;
                refused = refuses_longer (length stands.taken) stands.state new.line long.first cause long.begins long.long here;
              }
            ]);
            wrote = stands.wrote;
          }

      -- the filter stops at the line
      pub line_stops : (s : Stop Cause) → ((state : State) → At state → StopsAt rules number state new.line s) → HasFiltered rules from octets left' (Err s) before now
      line_stops (stop.Refused n cause) stops = let here = stops stands.state stands.at in line_refused n cause here.0 here.1
      line_stops stop.Read stops = absurd (stops stands.state stands.at)
      line_stops stop.Write stops = absurd (stops stands.state stands.at)
      line_stops stop.NoMemory stops = record { more = left_more.0; left_is = left_more.1; text = stands.text; filters = front_here; wrote = stands.wrote }

      -- the line is taken
      module _ (Next : State → Type 0) (piece : List ℕ) (taken : (state : State) → At state → TakesNumbered rules number state new.line Next piece) where
        pub next_has : HasTaken octets (stands.taken ++ new.line ∷ []) new left'
        next_has = elim (taken_more (Stop Cause) octets stands.taken old new left stands.has left' told) [
          | inl has ↦ has
          | inr long ↦ absurd (let here = taken stands.state stands.at in omega (arith, long.long, here.1))
        ]

        pub next_takes : (next : State) × Next next × TakesLines rules from (stands.taken ++ new.line ∷ []) next (stands.text ++ piece)
        next_takes =
            let here = taken stands.state stands.at in
            (here.2.0, here.2.2, lines_more rules from stands.state here.2.0 stands.taken new.line stands.text piece stands.takes (omega (arith, here.0, stands.count)) here.1 here.2.1)

        -- and its text is written
        pub goes_on : (more : Option (List ℕ)) → Wrote now more piece → Stands rules Next from octets (number + 1) new left' before more
        goes_on more wrote = record {
          taken = stands.taken ++ new.line ∷ [];
          has = next_has;
          count = omega (arith, stands.count, length-append stands.taken (new.line ∷ []));
          state = next_takes.0;
          at = next_takes.1;
          text = stands.text ++ piece;
          takes = next_takes.2;
          wrote = Wrote-then before now more stands.text piece stands.wrote wrote;
        }

        -- and a part of its text is written
        pub write_stops : (more : Option (List ℕ)) → Told now more (AppendsPart piece) → HasFiltered rules from octets left' (Err stop.Write) before more
        write_stops more wrote =
            let w = Wrote-part now more piece wrote in
            let all = lines_taken octets (stands.taken ++ new.line ∷ []) new left' next_has in
            record {
              more = next_has.more;
              left_is = next_has.left_is;
              text = stands.text ++ w.0;
              filters = (
                stands.text ++ piece,
                record { front = stands.taken ++ new.line ∷ []; rest = all.0; all = all.1; state = next_takes.0; taken = next_takes.2 },
                (w.1.0, ap (λ x. stands.text ++ x) w.1.1 ∙ sym (append_assoc stands.text w.0 w.1.0)),
              );
              wrote = Wrote-then before now more stands.text w.0 stands.wrote w.2;
            }

    -- no line is left
    pub ended : (answer : Result (Unit {0}) Cause) (result : Result (Unit {0}) (Stop Cause)) → Goes (Ok false)
        → ((state : State) → At state → MatchResult answer (λ _. (cause : Cause) → rules.RefusesEnd state cause → ⊥) (rules.RefusesEnd state))
        → MatchResult answer (λ _. result ≡ Ok tt) (λ cause. result ≡ Err (stop.Refused (number + 1) cause)) → HasFiltered rules from octets left' result before now
    ended (Ok done) result told end is =
        let all = taken_all (Stop Cause) octets stands.taken old new left stands.has left' told in
        rw is (record {
          more = [];
          left_is = all.1;
          text = stands.text;
          filters = (record { state = stands.state; taken = subst (λ ls. TakesLines rules from ls stands.state stands.text) (sym all.0) stands.takes; accepted = end stands.state stands.at }, refl);
          wrote = stands.wrote;
        })
    ended (Err cause) result told end is =
        let all = taken_all (Stop Cause) octets stands.taken old new left stands.has left' told in
        rw is (record {
          more = [];
          left_is = all.1;
          text = stands.text;
          filters = inr (
            record {
              number = ap (λ k. k + 1) (stands.count ∙ ap length (sym all.0));
              state = stands.state;
              taken = subst (λ ls. TakesLines rules from ls stands.state stands.text) (sym all.0) stands.takes;
              refused = end stands.state stands.at;
            },
            refl,
          );
          wrote = stands.wrote;
        })
