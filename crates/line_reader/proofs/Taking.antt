-- Which line is taken from the octets that were read.
use Rattle.std.proofs.Common.{◌≡◌, inl, inr, ℕ, ◌+◌, ◌≤◌, false, true, List, length, take, drop, Option, Some, None, is_some, sym, subst, arith}
use Rattle.std.specs.Prelude.{MatchOption}
use Rattle.std.specs.Option.{unwrap_or}
use Rattle.std.proofs.lemmas.List.{take-append-drop, take-take, length-take}
use Rattle.line_reader.specs.declared.limits.TheConstants.{MAX_LINE}
use Rattle.line_reader.specs.Lines.{IsLine}
use Rattle.line_reader.specs.Steps.{HasFeedAt, TakesAhead}
use Rattle.line_reader.specs.Reader.{Reader}
use Rattle.line_reader.proofs.LineFacts.{IsLine-take}

-- where the first line feed stands, or that there is none
abbrev pub IsFeed : List ℕ → Option ℕ → Type 0
IsFeed octets feed = MatchOption feed (IsLine octets) (HasFeedAt octets)

none_before : (octets : List ℕ) (feed : Option ℕ) (n : ℕ) → IsFeed octets feed → n ≤ unwrap_or feed (length octets) → IsLine (take n octets)
none_before octets None n is le = IsLine-take n octets is
none_before octets (Some at) n is le = subst IsLine (take-take n at octets le) (IsLine-take n (take at octets) is.is_line)

within : (octets : List ℕ) (feed : Option ℕ) → IsFeed octets feed → unwrap_or feed (length octets) ≤ length octets
within octets None is = omega arith
within octets (Some at) is = omega (arith, is.within)

-- the first octets are cut off
pub takes_cut : (old new : Reader) (feed : Option ℕ) (n : ℕ) → IsFeed old.ahead feed → n ≡ MAX_LINE + 1 → n ≤ unwrap_or feed (length old.ahead) → new ≡ record { line = take n old.ahead; ahead = drop n old.ahead; ended = old.ended }
    → old.ended ≡ false → TakesAhead old new
takes_cut old new feed n found long few is going =
    rw is (inr (record {
      is_line = none_before old.ahead feed n found few;
      long = omega (arith, length-take n old.ahead, within old.ahead feed found);
      all = sym (take-append-drop n old.ahead);
      going = going;
    }))

-- the line up to the first line feed is taken
pub takes_whole : (old new : Reader) (feed : Option ℕ) (n : ℕ) → IsFeed old.ahead feed → n ≡ unwrap_or feed (length old.ahead) → is_some feed ≡ true → n ≤ MAX_LINE
    → new ≡ record { line = take n old.ahead; ahead = drop (n + 1) old.ahead; ended = old.ended } → old.ended ≡ false → TakesAhead old new
takes_whole old new None n found e some short is going = absurd (cc)
takes_whole old new (Some at) n found e some short is going =
    rw (is, e) (inl (record {
      is_line = found.is_line;
      short = omega (arith, length-take at old.ahead);
      all = found.all;
      going = going;
    }))
