-- What a server answers, case by case.
use Rattle.std.proofs.Common.{◌≡◌, ◌≢◌, ◌↔◌, ℕ, ◌<◌, ◌≤◌, ◌^◌, pos, Bool, true, false, List, refl, sym, arith, Option, Some, None, Ok, Err}
use Rattle.std.specs.Prelude.{◌==◌, codes, bytes_eq, if◌then◌else◌, Result}
use Rattle.std.specs.Option.{ForSome}
use Rattle.std.proofs.lemmas.Bool.Decides.{Decides-eqb}
use Rattle.std.proofs.lemmas.Slice.Eq.{bytes_eq-Decides}
use Rattle.std.proofs.lemmas.Int.{ints}
use Rattle.time_wire.proofs.Booleans.{fails}
use Rattle.dts_base.specs.declared.wire.Refused.{Refused}
use Rattle.slew_clock.specs.declared.limits.TheConstants.{GREATEST_INACCURACY}
use Rattle.roster.specs.RosterData.{RosterData}
use Rattle.ndr.specs.declared.endian.Endian.{Endian}
use Rattle.ndr.specs.Stubs.{Value, read_stub}
use Rattle.utc_value.specs.Stamp.{IsInRange, IsInaccuracy, absolute_stamp}
use Rattle.time_wire.specs.Layouts.{get_time, time_reply, get_info, command}
use Rattle.time_wire.specs.Spelling.{spelling}
use Rattle.time_wire.proofs.ReadBack.{time_reply_reads}
use Rattle.server_roles.specs.declared.counts.Counts.{Counts}
use Rattle.server_roles.specs.declared.answers.Answer.TheVariants as answer
use Rattle.server_roles.specs.declared.answers.TheConstants.{GET_TIME, GET_INFO, RIGHT_STATUS, OTHER_EPOCH_STATUS}
use Rattle.server_roles.specs.Answering.{Shown, shown, replied, time_of, time_answer, info_answer, command_answer, reply_to}
use Rattle.server_roles.specs.Laws.{RefusedAsItsStub, TimeIsTold, TextIsTold}

-- ---- refusals

refused_so : (read : Result (List Value) Refused) (reply : List Value → List ℕ) (refused : Refused) → (replied read reply ≡ answer.Wrong refused) ↔ (read ≡ Err refused)
refused_so (Ok values) reply refused = ((λ e. absurd (cc)), (λ e. absurd (cc)))
refused_so (Err r) reply refused = ((λ e. cc), (λ e. cc))

by_operation : (r : RosterData) (c : Counts) (rd : Shown) (stub : List ℕ) (e : Endian) (refused : Refused) (time info : Bool)
    → ((if time then time_answer r rd stub e else if info then info_answer r rd stub e else command_answer r c rd stub e) ≡ answer.Wrong refused)
    ↔ (read_stub (if time then get_time.fields else if info then get_info.fields else command.fields) e stub ≡ Err refused)
by_operation r c rd stub e refused true info = refused_so (read_stub get_time.fields e stub) _ refused
by_operation r c rd stub e refused false true = refused_so (read_stub get_info.fields e stub) _ refused
by_operation r c rd stub e refused false false = refused_so (read_stub command.fields e stub) _ refused

pub refused_as_its_stub : RefusedAsItsStub
refused_as_its_stub r c rd opnum stub e refused = by_operation r c rd stub e refused (opnum == GET_TIME) (opnum == GET_INFO)

-- ---- the time

status_by_test : (own asked : ℕ) (b : Bool) → (own == asked) ≡ b → ((if b then RIGHT_STATUS else OTHER_EPOCH_STATUS) ≡ RIGHT_STATUS) ↔ (asked ≡ own)
status_by_test own asked true e = ((λ _. sym ((Decides-eqb own asked).0 e)), (λ _. refl))
status_by_test own asked false e = (
  (λ s. absurd (omega (arith, s))),
  (λ s. let same : (own == asked) ≡ true = (Decides-eqb own asked).1 (sym s) in absurd (cc)),
)

small_status : (own asked : ℕ) (b : Bool) → (if b then RIGHT_STATUS else OTHER_EPOCH_STATUS) < 2 ^ 32
small_status own asked true = omega arith
small_status own asked false = omega arith

inaccuracy_fits : (o : Option ℕ) → ForSome o (λ i. i ≤ GREATEST_INACCURACY) → IsInaccuracy o
inaccuracy_fits None h = tt
inaccuracy_fits (Some i) h = h i refl

pub time_is_told : TimeIsTold
time_is_told r c rd stub e asked spelled small fits =
    let reply = time_of r (shown rd) asked.epoch in
    let in_range : IsInRange (absolute_stamp rd.value rd.inaccuracy (pos 0)) = record {
      time_fits = fits;
      inaccuracy_fits = inaccuracy_fits rd.inaccuracy rd.in_range;
      tdf_fits = (omega (arith, ints), omega (arith, ints));
    } in (
      spelling time_reply e reply,
      reply,
      rw spelled refl,
      time_reply_reads e reply refl small in_range (small_status r.settings.epoch asked.epoch (r.settings.epoch == asked.epoch)),
      record { version = refl; epoch = refl; utc = refl; status = status_by_test r.settings.epoch asked.epoch (r.settings.epoch == asked.epoch) refl },
    )

-- ---- the texts

itself : (text : List ℕ) → bytes_eq text text ≡ true
itself text = (bytes_eq-Decides text text).1 refl

unlike : (a b : List ℕ) → a ≢ b → bytes_eq a b ≡ false
unlike a b h = fails (bytes_eq a b) (λ e. h ((bytes_eq-Decides a b).0 e))

pub text_is_told : TextIsTold
text_is_told r c rd stub e asked spelled = (
  reply_to r c rd asked,
  rw spelled refl,
  record {
    time = λ t. rw t refl;
    settings = λ t. rw t refl;
    counts = λ t. rw t refl;
    other = λ s t u. rw (unlike asked (codes "show time") s, unlike asked (codes "show settings") t, unlike asked (codes "show counts") u) refl;
  },
)
