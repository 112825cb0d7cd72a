-- Laws of the definitions: what they say of each server, of a node's own interval, and of an answer.
use Rattle.std.specs.Prelude.{◌≡◌, ◌≢◌, ◌⊎◌, ◌↔◌, ◌==◌, ℕ, ◌+◌, ◌^◌, ◌<◌, ◌≤◌, ℤ, pos, ◌≤ℤ◌, ◌<ℤ◌, FitsSigned, true, IsTrue, List, length, eqb, codes, Some, None, Err, if◌then◌else◌}
use Rattle.std.specs.Int.{w64}
use Rattle.std.specs.List.{Contains, IsDistinct, slice_get}
use Rattle.dts_base.specs.declared.wire.Refused.{Refused}
use Rattle.slew_clock.specs.declared.limits.TheConstants.{GREATEST_ANCHOR}
use Rattle.slew_clock.specs.declared.record.ClockRecord.{ClockRecord}
use Rattle.slew_clock.specs.declared.reading.Reading.{Reading}
use Rattle.slew_clock.specs.Reading.{interval_of}
use Rattle.roster.specs.declared.entry.Entry.{Entry}
use Rattle.roster.specs.declared.entry.ServerKind.{ServerKind}
use Rattle.roster.specs.declared.entry.ServerKind.TheVariants as kind
use Rattle.roster.specs.declared.settings.Role.TheVariants as role
use Rattle.roster.specs.RosterData.{RosterData}
use Rattle.roster.specs.Rates.{rates_of}
use Rattle.roster.specs.declared.settings.Settings.{Settings}
use Rattle.roster.specs.Rosters.{others, IsRoster, GivesSettings, alone}
use Rattle.roster.specs.Values.{is_name}
use Rattle.ndr.specs.declared.endian.Endian.{Endian}
use Rattle.ndr.specs.Stubs.{Entry as StubEntry, read_stub}
use Rattle.utc_value.specs.Stamp.{absolute_stamp}
use Rattle.time_wire.specs.declared.TheConstants.{WIRE_VERSION}
use Rattle.time_wire.specs.declared.message.GetTime.{GetTime}
use Rattle.time_wire.specs.declared.message.TimeReply.{TimeReply}
use Rattle.time_wire.specs.declared.message.CommandReply.{CommandReply}
use Rattle.time_wire.specs.Layouts.{get_time, time_reply, get_info, command, command_reply}
use Rattle.time_wire.specs.Spelling.{Spells, spelling}
use Rattle.server_roles.specs.declared.counts.Counts.{Counts}
use Rattle.server_roles.specs.declared.answers.Answer.TheVariants as answer
use Rattle.server_roles.specs.declared.answers.TheConstants.{GET_TIME, GET_INFO, COMMAND, RIGHT_STATUS, UNKNOWN_STATUS}
use Rattle.server_roles.specs.Sources.{sources}
use Rattle.server_roles.specs.Own.{own_interval}
use Rattle.server_roles.specs.Answering.{Shown, shown, answered, time_text, settings_text, counts_text}

-- ---- whom a round asks

-- a server of this kind has that number
pub record IsServer (r : RosterData) (k : ServerKind) (peer : ℕ) : Type 0 where
  pub entry : Entry
  pub at : slice_get r.entries peer ≡ Some entry
  pub kind : entry.kind ≡ k

-- and it has another name than the node
pub record IsOther (r : RosterData) (k : ServerKind) (peer : ℕ) : Type 0 where
  pub entry : Entry
  pub at : slice_get r.entries peer ≡ Some entry
  pub kind : entry.kind ≡ k
  pub name : entry.name ≢ r.settings.name

-- the roster has no NTP server
abbrev pub HasNoNtp : RosterData → Type 0
HasNoNtp r = (peer : ℕ) → IsServer r kind.Ntp peer → ⊥

-- a source is a server of the roster: an NTP server, or one of another name than the node
abbrev pub AreServers : Type 0
AreServers = (r : RosterData) (round last peer : ℕ) → Contains (sources r round last) peer
    → IsServer r kind.Ntp peer ⊎ (k : ServerKind) × IsOther r k peer

-- no server is asked twice, so no more than there are
abbrev pub AreDistinct : Type 0
AreDistinct = (r : RosterData) (round last : ℕ) → IsDistinct eqb (sources r round last) × (length (sources r round last) ≤ length r.entries)

-- where there is an NTP server, the sources are the NTP servers
abbrev pub NtpAlone : Type 0
NtpAlone = (r : RosterData) (round last some peer : ℕ) → IsServer r kind.Ntp some → Contains (sources r round last) peer ↔ IsServer r kind.Ntp peer

-- without one each local server of another name is asked
abbrev pub AsksLocals : Type 0
AsksLocals = (r : RosterData) (round last peer : ℕ) → HasNoNtp r → IsOther r kind.Local peer → Contains (sources r round last) peer

-- and each global one too, where the locals are fewer than the round needs or the round before used fewer answers than it needed
abbrev pub AsksGlobals : Type 0
AsksGlobals = (r : RosterData) (round last peer : ℕ) → HasNoNtp r → IsOther r kind.Global peer
    → (length (others kind.Local r) < r.settings.required) ⊎ ((1 < round) × (last < r.settings.required))
    → Contains (sources r round last) peer

-- a clerk, and a server that is no courier, ask all the global servers or none of them
abbrev pub AllOrNone : Type 0
AllOrNone = (r : RosterData) (round last one other : ℕ) → (r.settings.role ≡ role.Clerk) ⊎ (r.settings.courier ≢ true)
    → IsOther r kind.Global one → IsOther r kind.Global other → Contains (sources r round last) one → Contains (sources r round last) other

-- a courier's round takes the global server whose turn it is, from the first one on
abbrev pub InTurn : Type 0
InTurn = (r : RosterData) (last place peer : ℕ) → HasNoNtp r → r.settings.role ≡ role.Server → r.settings.courier ≡ true
    → slice_get (others kind.Global r) place ≡ Some peer → Contains (sources r (place + 1) last) peer

-- ---- the interval of a node's own clock

-- a clerk brings none
abbrev pub ClerkBringsNone : Type 0
ClerkBringsNone = (r : RosterData) (rec : ClockRecord) (osc : ℕ) → r.settings.role ≡ role.Clerk → own_interval r rec osc ≡ None

-- a server brings that of its record, where the high end is not above the greatest
abbrev pub ServerBringsItsRecord : Type 0
ServerBringsItsRecord = (r : RosterData) (rec : ClockRecord) (osc : ℕ) (lo hi : ℤ) → r.settings.role ≡ role.Server
    → interval_of (rates_of r.settings) rec osc ≡ Some (lo, hi)
    → (hi ≤ℤ GREATEST_ANCHOR → own_interval r rec osc ≡ Some (lo, hi)) × (GREATEST_ANCHOR <ℤ hi → own_interval r rec osc ≡ None)

abbrev pub NoneWithoutOne : Type 0
NoneWithoutOne = (r : RosterData) (rec : ClockRecord) (osc : ℕ) → interval_of (rates_of r.settings) rec osc ≡ None → own_interval r rec osc ≡ None

-- ---- what a server answers

-- the stub that an operation is asked with
abbrev pub asked_fields : ℕ → List StubEntry
asked_fields opnum = if opnum == GET_TIME then get_time.fields else if opnum == GET_INFO then get_info.fields else command.fields

-- a call is refused exactly where its stub is, and so
abbrev pub RefusedAsItsStub : Type 0
RefusedAsItsStub = (r : RosterData) (c : Counts) (rd : Shown) (opnum : ℕ) (stub : List ℕ) (e : Endian) (refused : Refused)
    → (answered r c rd opnum stub e ≡ answer.Wrong refused) ↔ (read_stub (asked_fields opnum) e stub ≡ Err refused)

-- a node is told the reading as it is, and may use it exactly where it is of the epoch of the one that tells
pub record TellsTheReading (r : RosterData) (rd : Shown) (asked : ℕ) (reply : TimeReply) : Type 0 where
  pub version : reply.version ≡ WIRE_VERSION
  pub epoch : reply.epoch ≡ r.settings.epoch
  pub utc : reply.utc ≡ absolute_stamp rd.value rd.inaccuracy (pos 0)
  pub status : (reply.status ≡ RIGHT_STATUS) ↔ (asked ≡ r.settings.epoch)

-- what get_time is answered with spells that
abbrev pub TimeIsTold : Type 0
TimeIsTold = (r : RosterData) (c : Counts) (rd : Reading) (stub : List ℕ) (e : Endian) (asked : GetTime) → Spells get_time e stub asked
    → r.settings.epoch < 2 ^ 8 → FitsSigned w64 rd.value
    → (octets : List ℕ) × (reply : TimeReply) × (answered r c (shown rd) GET_TIME stub e ≡ answer.Stub octets) × Spells time_reply e octets reply × TellsTheReading r (shown rd) asked.epoch reply

-- a command is answered with a text, and it is known exactly where it is one of the three
pub record TellsTheText (r : RosterData) (c : Counts) (rd : Shown) (asked : List ℕ) (reply : CommandReply) : Type 0 where
  pub time : asked ≡ codes "show time" → reply ≡ record { text = time_text rd; status = RIGHT_STATUS }
  pub settings : asked ≡ codes "show settings" → reply ≡ record { text = settings_text r.settings; status = RIGHT_STATUS }
  pub counts : asked ≡ codes "show counts" → reply ≡ record { text = counts_text c; status = RIGHT_STATUS }
  pub other : asked ≢ codes "show time" → asked ≢ codes "show settings" → asked ≢ codes "show counts" → reply ≡ record { text = codes "unknown command"; status = UNKNOWN_STATUS }

abbrev pub TextIsTold : Type 0
TextIsTold = (r : RosterData) (c : Counts) (rd : Shown) (stub : List ℕ) (e : Endian) (asked : List ℕ) → Spells command e stub asked
    → (reply : CommandReply) × (answered r c rd COMMAND stub e ≡ answer.Stub (spelling command_reply e reply)) × TellsTheText r c rd asked reply

-- ---- the names of nodes

-- a roster that was read, and that of a node alone, give the node a right name
abbrev pub ReadIsNamed : Type 0
ReadIsNamed = (octets : List ℕ) (r : RosterData) → IsRoster octets r → IsTrue (is_name r.settings.name)

abbrev pub AloneIsNamed : Type 0
AloneIsNamed = (s : Settings) → GivesSettings alone s → IsTrue (is_name s.name)
