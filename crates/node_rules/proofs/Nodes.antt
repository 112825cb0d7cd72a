-- Nodes and octets that worked histories speak of.
use Rattle.std.proofs.Common.{lit≤, ℕ, pos, false, List, [], ◌∷◌, Some, None, Ok}
use Rattle.std.specs.Prelude.{codes, length}
use Rattle.slew_clock.specs.declared.record.ClockRecord.{ClockRecord}
use Rattle.ndr.specs.declared.endian.Endian.TheVariants.{Little}
use Rattle.pdu_fields.specs.declared.pdu.Pdu.{Pdu}
use Rattle.pdu_fields.specs.declared.pdu.Body.{Body}
use Rattle.pdu_fields.specs.declared.pdu.Body.TheVariants as body
use Rattle.pdu_fields.specs.declared.pdu.ContextResult.{ContextResult}
use Rattle.rpc_pdu.specs.Spelling.{spelling}
use Rattle.utc_value.specs.Stamp.{absolute_stamp}
use Rattle.time_wire.specs.declared.message.TimeReply.{TimeReply}
use Rattle.time_wire.specs.Layouts.{time_reply}
use Rattle.time_wire.specs.Spelling.{spelling as stub_of}
use Rattle.pdu_fields.proofs.Rows.{bind_octets}
use Rattle.rpc_session.specs.declared.client.ClientOut.TheVariants as out
use Rattle.rpc_session.specs.Contexts.{ndr_syntax}
use Rattle.dts_base.specs.declared.address.Address.{Address}
use Rattle.roster.specs.declared.settings.Settings.{Settings}
use Rattle.roster.specs.declared.settings.Role.{Role}
use Rattle.roster.specs.declared.settings.Role.TheVariants as role
use Rattle.roster.specs.declared.entry.Entry.{Entry}
use Rattle.roster.specs.declared.entry.ServerKind.{ServerKind}
use Rattle.roster.specs.declared.entry.ServerKind.TheVariants as kind
use Rattle.roster.specs.RosterData.{RosterData}
use Rattle.server_roles.proofs.Rows.{settings as role_settings}
use Rattle.dts_capture.specs.declared.event.Event.{Event}
use Rattle.dts_capture.specs.declared.event.Event.TheVariants as event
use Rattle.dts_capture.specs.declared.action.Action.TheVariants as action
use Rattle.dts_capture.specs.declared.action.NoteKind.TheVariants as note
use Rattle.sync_rules.specs.History.{Start, first_record}
use Rattle.sync_rules.specs.Rules.{noted}
use Rattle.node_rules.specs.History.{NodeHistory, Began, Next, RoundOpened, SessionBegan, RequestSent, PduTaken, QueryAsked, OctetsCame}

-- ---- rosters
abbrev pub somewhere : Address
somewhere = record { ip = 127 ∷ 0 ∷ 0 ∷ 1 ∷ []; port = 7000 }

-- a node with this role, which needs one answer, and every other default
abbrev pub settings : Role → Settings
settings r = record (role_settings r false) { name = codes "a"; required = 1; required_from = lit≤ tt; required_to = lit≤ tt }

abbrev pub server : List ℕ → ServerKind → Entry
server name k = record { name = name; kind = k; address = somewhere }

-- a clerk of one local server, a server of one, and a clerk of one server of NTP
abbrev pub clerk : RosterData
clerk = record { settings = settings role.Clerk; entries = server (codes "s") kind.Local ∷ [] }

abbrev pub a_server : RosterData
a_server = record { settings = settings role.Server; entries = server (codes "s") kind.Local ∷ [] }

abbrev pub ntp_clerk : RosterData
ntp_clerk = record { settings = settings role.Clerk; entries = server (codes "s") kind.Ntp ∷ [] }

-- a clerk of two servers of NTP, and one of two local servers
abbrev pub ntp_clerk_of_two : RosterData
ntp_clerk_of_two = record {
  settings = settings role.Clerk;
  entries = server (codes "s") kind.Ntp ∷ server (codes "t") kind.Ntp ∷ [];
}

abbrev pub two_servers : RosterData
two_servers = record { settings = settings role.Clerk; entries = server (codes "s") kind.Local ∷ server (codes "t") kind.Local ∷ [] }

-- ---- events
abbrev pub tick : ℕ → Event
tick osc = event.Tick osc 1

-- ---- octets
abbrev pub ack : List ℕ
ack =
    5 ∷ 0 ∷ 12 ∷ 3 ∷ 16 ∷ 0 ∷ 0 ∷ 0 ∷ 56 ∷ 0 ∷ 0 ∷ 0 ∷ 1 ∷ 0 ∷ 0 ∷ 0 ∷
    208 ∷ 22 ∷ 208 ∷ 22 ∷ 1 ∷ 0 ∷ 0 ∷ 0 ∷ 0 ∷ 0 ∷ 0 ∷ 0 ∷ 1 ∷ 0 ∷ 0 ∷ 0 ∷
    0 ∷ 0 ∷ 0 ∷ 0 ∷ 4 ∷ 93 ∷ 136 ∷ 138 ∷ 235 ∷ 28 ∷ 201 ∷ 17 ∷ 159 ∷ 232 ∷ 8 ∷ 0 ∷
    43 ∷ 16 ∷ 72 ∷ 96 ∷ 2 ∷ 0 ∷ 0 ∷ 0 ∷ []

abbrev pub request : List ℕ
request = 5 ∷ 0 ∷ 0 ∷ 3 ∷ 16 ∷ 0 ∷ 0 ∷ 0 ∷ 25 ∷ 0 ∷ 0 ∷ 0 ∷ 2 ∷ 0 ∷ 0 ∷ 0 ∷ 1 ∷ 0 ∷ 0 ∷ 0 ∷ 0 ∷ 0 ∷ 0 ∷ 0 ∷ 0 ∷ []

-- ---- a node that has asked its one server for the time, at 1000: its clock was renewed at the first tick, and its round opened at the second
abbrev pub ack_pdu : Pdu
ack_pdu = record {
  call_id = 1;
  flags = 3;
  minor = 0;
  endian = Little;
  body = body.BindAck (record {
    max_xmit = 5840;
    max_recv = 5840;
    group = 1;
    address = [];
    results = record { «result» = 0; reason = 0; transfer = ndr_syntax } ∷ [];
  });
}

-- the record of the first renewal
abbrev pub renewed_from : Start → ClockRecord
renewed_from start = record {
  number = 1;
  step = 0;
  born = 0;
  anchor = (first_record start).anchor;
  a = record { from = 0; value = start.value; x = pos 0 };
  b = record { from = 40000000; x = pos 0 };
}

abbrev pub renewed_of : RosterData → Start → NodeHistory
renewed_of roster start = Next (Began roster start) (tick 0) [] (action.Publish (renewed_from start) ∷ [])

abbrev pub opened_of : RosterData → Start → NodeHistory
opened_of roster start = Next (renewed_of roster start) (tick 0)
    (RoundOpened 1 50000000 (0 ∷ []) 1 ∷ SessionBegan 0 1 ∷ [])
    (noted (tick 0) (note.Round 1 1) ∷ action.Send 0 0 bind_octets ∷ [])

abbrev pub asked_of : RosterData → Start → NodeHistory
asked_of roster start = Next (opened_of roster start) (event.Stream 1000 0 ack)
    (OctetsCame 0 ack ∷ PduTaken 0 ack_pdu (Ok out.Bound) ∷ RequestSent 0 0 (0 ∷ []) ∷ QueryAsked 0 ∷ [])
    (action.Send 1000 0 request ∷ [])

-- ---- what a server sends, each as octets
abbrev pub sent : ℕ → ℕ → Body → List ℕ
sent call_id flags b = spelling (record { call_id = call_id; flags = flags; minor = 0; endian = Little; body = b })

-- the acknowledgement of a bind, with this result of its context
abbrev pub acknowledging : ℕ → ContextResult → List ℕ
acknowledging call_id r = sent call_id 3 (body.BindAck (record { max_xmit = 5840; max_recv = 5840; group = 1; address = []; results = r ∷ [] }))

abbrev pub acknowledged : ℕ → List ℕ
acknowledged call_id = acknowledging call_id (record { «result» = 0; reason = 0; transfer = ndr_syntax })

-- a response with this stub
abbrev pub responding : ℕ → List ℕ → List ℕ
responding call_id stub = sent call_id 3 (body.Response (length stub) 0 0 stub)

-- a time reply
abbrev pub replying : ℕ → TimeReply → List ℕ
replying call_id m = responding call_id (stub_of time_reply Little m)

-- the reply of a moment, and its inaccuracy
abbrev pub telling : ℕ → ℕ → ℕ → List ℕ
telling call_id time inaccuracy =
    replying call_id (record { version = 1; epoch = 0; utc = absolute_stamp (pos time) (Some inaccuracy) (pos 0); status = 0 })

-- ---- a clerk of servers without an interval at its start, which asked all of them at 1000
abbrev pub unknown : Start
unknown = record { osc = 0; value = pos 1000000; first = None }

abbrev pub acknowledges : ℕ → Event
acknowledges peer = event.Stream 1000 peer ack

abbrev pub tells : ℕ → ℕ → ℕ → ℕ → Event
tells osc peer call_id time = event.Stream osc peer (telling call_id time 1000)
