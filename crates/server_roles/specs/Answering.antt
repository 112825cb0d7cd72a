-- What a server answers to a call. Our own choice.
use Rattle.std.specs.Prelude.{ℕ, ◌==◌, Bool, true, false, List, [], ◌∷◌, ◌++◌, ℤ, pos, Option, Result, Ok, Err, if◌then◌else◌, codes, decimal, bytes_eq}
use Rattle.std.specs.Fmt.{signed_decimal}
use Rattle.dts_base.specs.declared.wire.Refused.{Refused}
use Rattle.slew_clock.specs.declared.reading.Reading.{Reading}
use Rattle.roster.specs.declared.settings.Settings.{Settings}
use Rattle.roster.specs.declared.settings.Role.{Role}
use Rattle.roster.specs.declared.settings.Role.TheVariants as role
use Rattle.roster.specs.RosterData.{RosterData}
use Rattle.ndr.specs.declared.endian.Endian.{Endian}
use Rattle.ndr.specs.Stubs.{Value, a_number, some_octets, read_stub}
use Rattle.utc_value.specs.Stamp.{absolute_stamp}
use Rattle.time_wire.specs.declared.TheConstants.{WIRE_VERSION}
use Rattle.time_wire.specs.declared.message.TimeReply.{TimeReply}
use Rattle.time_wire.specs.declared.message.InfoReply.{InfoReply}
use Rattle.time_wire.specs.declared.message.CommandReply.{CommandReply}
use Rattle.time_wire.specs.Layouts as layout
use Rattle.time_wire.specs.Spelling.{spelling}
use Rattle.dts_capture.specs.Log.{number_or_dash}
use Rattle.dts_capture.specs.Writing.{spaced}
use Rattle.server_roles.specs.declared.counts.Counts.{Counts}
use Rattle.server_roles.specs.declared.answers.Answer.{Answer}
use Rattle.server_roles.specs.declared.answers.Answer.TheVariants as answer
use Rattle.server_roles.specs.declared.answers.TheConstants.{GET_TIME, GET_INFO, RIGHT_STATUS, OTHER_EPOCH_STATUS, UNKNOWN_STATUS}

-- what a reading shows: a time, its inaccuracy where that is specified, and the numbers of the step and the record
pub record Shown : Type 0 where
  pub value : ℤ
  pub inaccuracy : Option ℕ
  pub step : ℕ
  pub number : ℕ

abbrev pub shown : Reading → Shown
shown rd = record { value = rd.value; inaccuracy = rd.inaccuracy; step = rd.step; number = rd.number }

-- a stub that is right is answered with the reply to its values, and any other with its first wrong field
abbrev pub replied : Result (List Value) Refused → (List Value → List ℕ) → Answer
replied (Ok values) reply = answer.Stub (reply values)
replied (Err refused) reply = answer.Wrong refused

-- the number, or the octets, with which the values of a stub begin
abbrev pub first_number : List Value → ℕ
first_number (a_number n ∷ values) = n
first_number _ = 0

abbrev pub first_octets : List Value → List ℕ
first_octets (some_octets octets ∷ values) = octets
first_octets _ = []

-- a reading may be used where both nodes are of one epoch
abbrev pub epoch_status : (own asked : ℕ) → ℕ
epoch_status own asked = if own == asked then RIGHT_STATUS else OTHER_EPOCH_STATUS

-- the reading as a timestamp without a time differential factor, to a node of that epoch
abbrev pub time_of : RosterData → Shown → ℕ → TimeReply
time_of r rd asked = record {
  version = WIRE_VERSION;
  epoch = r.settings.epoch;
  utc = absolute_stamp rd.value rd.inaccuracy (pos 0);
  status = epoch_status r.settings.epoch asked;
}

abbrev pub time_answer : RosterData → Shown → List ℕ → Endian → Answer
time_answer r rd stub e = replied (read_stub layout.get_time.fields e stub) (λ values. spelling layout.time_reply e (time_of r rd (first_number values)))

abbrev pub role_number : Role → ℕ
role_number role.Clerk = 0
role_number role.Server = 1

abbrev pub flag_number : Bool → ℕ
flag_number false = 0
flag_number true = 1

-- what the node is, and the record and the step of the reading
abbrev pub info_of : RosterData → Shown → InfoReply
info_of r rd = record {
  role = role_number r.settings.role;
  courier = flag_number r.settings.courier;
  epoch = r.settings.epoch;
  number = rd.number;
  step = rd.step;
  name = r.settings.name;
}

abbrev pub info_answer : RosterData → Shown → List ℕ → Endian → Answer
info_answer r rd stub e = replied (read_stub layout.get_info.fields e stub) (λ _. spelling layout.info_reply e (info_of r rd))

-- a reading's value, inaccuracy, step number and record number, written as in a log
abbrev pub time_words : (value : ℤ) (inaccuracy : Option ℕ) (step number : ℕ) → List (List ℕ)
time_words value inaccuracy step number = signed_decimal value ∷ number_or_dash inaccuracy ∷ decimal step ∷ decimal number ∷ []

abbrev pub time_text : Shown → List ℕ
time_text rd = codes "time" ++ spaced (time_words rd.value rd.inaccuracy rd.step rd.number)

-- the words for the roles
abbrev pub role_name : Role → List ℕ
role_name role.Clerk = codes "clerk"
role_name role.Server = codes "server"

-- the rates of a node's clock
abbrev pub rates_words : Settings → List (List ℕ)
rates_words s = codes "drift" ∷ decimal s.drift_ppm ∷ codes "resolution" ∷ decimal s.resolution ∷ codes "lease" ∷ decimal s.lease
    ∷ codes "slew" ∷ decimal s.slew_ppm ∷ codes "tolerance" ∷ decimal s.tolerance ∷ []

-- a node's name, its role, its epoch, the answers that its rounds need, and the rates
abbrev pub settings_words : Settings → List (List ℕ)
settings_words s = s.name ∷ role_name s.role ∷ codes "epoch" ∷ decimal s.epoch ∷ codes "required" ∷ decimal s.required ∷ rates_words s

abbrev pub settings_text : Settings → List ℕ
settings_text s = codes "settings" ++ spaced (settings_words s)

-- the number of a lane and its counts
abbrev pub counts_words : (lane asks refused connections : ℕ) → List (List ℕ)
counts_words lane asks refused connections =
    decimal lane ∷ codes "asks" ∷ decimal asks ∷ codes "refused" ∷ decimal refused ∷ codes "connections" ∷ decimal connections ∷ []

abbrev pub counts_text : Counts → List ℕ
counts_text c = codes "counts" ++ spaced (counts_words c.lane c.asks c.refused c.connections)

-- the answer to a command that is known
abbrev pub known : List ℕ → CommandReply
known text = record { text = text; status = RIGHT_STATUS }

-- and one that is not known
abbrev pub unknown_command : CommandReply
unknown_command = record { text = codes "unknown command"; status = UNKNOWN_STATUS }

-- what a command is answered with
abbrev pub reply_to : RosterData → Counts → Shown → List ℕ → CommandReply
reply_to r c rd text =
    if bytes_eq text (codes "show time") then known (time_text rd)
    else if bytes_eq text (codes "show settings") then known (settings_text r.settings)
    else if bytes_eq text (codes "show counts") then known (counts_text c)
    else unknown_command

abbrev pub command_answer : RosterData → Counts → Shown → List ℕ → Endian → Answer
command_answer r c rd stub e = replied (read_stub layout.command.fields e stub) (λ values. spelling layout.command_reply e (reply_to r c rd (first_octets values)))

-- the answer to a call of one of the three operations, over the reading: the last one is command
abbrev pub answered : RosterData → Counts → Shown → (opnum : ℕ) → (stub : List ℕ) → Endian → Answer
answered r c rd opnum stub e =
    if opnum == GET_TIME then time_answer r rd stub e
    else if opnum == GET_INFO then info_answer r rd stub e
    else command_answer r c rd stub e
