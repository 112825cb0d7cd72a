-- Rows of the definitions, by computation.
use Rattle.std.proofs.Common.{◌≡◌, ◌≤◌, ◌<◌, ◌+◌, ◌/◌, ◌%◌, ◌^◌, ◌∙◌, ap, lit≤, lit<, ℕ, pos, true, false, Bool, List, [], ◌∷◌, ◌++◌, replicate, Some, refl}
use Rattle.std.specs.Prelude.{codes, decimal}
use Rattle.std.proofs.lemmas.Fmt.{decimal_digit, decimal_step}
use Rattle.dts_base.specs.declared.wire.Field.{Field}
use Rattle.dts_base.specs.declared.wire.Field.TheVariants as field
use Rattle.dts_base.specs.declared.wire.WireCause.{WireCause}
use Rattle.dts_base.specs.declared.wire.WireCause.TheVariants as cause
use Rattle.roster.specs.declared.settings.Settings.{Settings}
use Rattle.roster.specs.declared.settings.Role.{Role}
use Rattle.roster.specs.declared.settings.Role.TheVariants as role
use Rattle.roster.specs.declared.entry.Entry.{Entry}
use Rattle.roster.specs.declared.entry.ServerKind.{ServerKind}
use Rattle.roster.specs.declared.entry.ServerKind.TheVariants as kind
use Rattle.roster.specs.RosterData.{RosterData}
use Rattle.roster.specs.Rosters.{others}
use Rattle.ndr.specs.declared.endian.Endian.TheVariants.{Big, Little}
use Rattle.utc_value.specs.Octets.{octets_of}
use Rattle.time_wire.specs.Layouts.{command, command_reply}
use Rattle.time_wire.specs.Spelling.{spelling}
use Rattle.server_roles.specs.declared.counts.Counts.{Counts}
use Rattle.server_roles.specs.declared.answers.Answer.{Answer}
use Rattle.server_roles.specs.declared.answers.Answer.TheVariants as answer
use Rattle.server_roles.specs.declared.answers.TheConstants.{GET_TIME, GET_INFO, COMMAND}
use Rattle.server_roles.specs.Sources.{sources}
use Rattle.server_roles.specs.Answering.{Shown, answered, known, time_text, settings_text, counts_text}

-- a node of this role, which needs answers of two, and has the name `s`
abbrev pub settings : Role → Bool → Settings
settings r courier = record {
  name = codes "s";
  role = r;
  courier = courier;
  listen = record { ip = 127 ∷ 0 ∷ 0 ∷ 1 ∷ []; port = 7000 };
  epoch = 0;
  required = 2;
  period = 6000000000;
  hold = 600000000;
  timeout = 50000000;
  max_inaccuracy = 10000000;
  drift_ppm = 100;
  resolution = 1;
  lease = 40000000;
  slew_ppm = 10000;
  tolerance = 6000000000;
  listen_to = lit≤ tt;
  required_from = lit≤ tt;
  required_to = lit≤ tt;
  period_from = lit≤ tt;
  period_to = lit≤ tt;
  hold_from = lit≤ tt;
  hold_to = lit≤ tt;
  timeout_from = lit≤ tt;
  timeout_to = lit≤ tt;
  max_inaccuracy_from = lit≤ tt;
  max_inaccuracy_to = lit≤ tt;
  drift_in_range = lit≤ tt;
  resolution_in_range = lit≤ tt;
  lease_from = lit≤ tt;
  lease_to = lit≤ tt;
  slew_from = lit≤ tt;
  slew_to = lit≤ tt;
  tolerance_from = lit≤ tt;
  tolerance_to = lit≤ tt;
}

abbrev server : RosterData
server = record { settings = settings role.Server false; entries = [] }

-- the moment 5000000000, within 1001
abbrev reading : Shown
reading = record { value = pos 5000000000; inaccuracy = Some 1001; step = 0; number = 0 }

abbrev counts : Counts
counts = record { lane = 0; asks = 4; refused = 0; connections = 1 }

-- a call is refused so
abbrev wrong : Field → ℕ → WireCause → Answer
wrong f at why = answer.Wrong (record { field = f; offset = at; cause = why })

-- the reply with the time, up to its status
abbrev time_stub : List ℕ
time_stub = 1 ∷ 0 ∷ 0 ∷ 0xf2 ∷ 0x05 ∷ 0x2a ∷ 0x01 ∷ 0 ∷ 0 ∷ 0 ∷ 0xe9 ∷ 0x03 ∷ 0 ∷ 0 ∷ 0 ∷ 0 ∷ 0 ∷ 0x10 ∷ 0 ∷ 0 ∷ []

a_node_of_the_same_epoch_may_use_the_time : answered server counts reading GET_TIME (0 ∷ []) Little ≡ answer.Stub (time_stub ++ (0 ∷ 0 ∷ 0 ∷ 0 ∷ []))
unfolding octets_of
a_node_of_the_same_epoch_may_use_the_time = refl

and_one_of_another_may_not : answered server counts reading GET_TIME (1 ∷ []) Little ≡ answer.Stub (time_stub ++ (1 ∷ 0 ∷ 0 ∷ 0 ∷ []))
unfolding octets_of
and_one_of_another_may_not = refl

with_the_high_octet_first : answered server counts reading GET_TIME (255 ∷ []) Big ≡ answer.Stub (time_stub ++ (0 ∷ 0 ∷ 0 ∷ 1 ∷ []))
unfolding octets_of
with_the_high_octet_first = refl

an_epoch_is_missing : answered server counts reading GET_TIME [] Little ≡ wrong field.Epoch 0 cause.Short
an_epoch_is_missing = refl

one_octet_behind_the_epoch : answered server counts reading GET_TIME (0 ∷ 0 ∷ []) Little ≡ wrong field.Tail 1 cause.Extra
one_octet_behind_the_epoch = refl

a_server_tells_of_itself : answered server counts reading GET_INFO [] Little
    ≡ answer.Stub ((1 ∷ 1 ∷ []) ++ replicate 22 0 ++ (2 ∷ 0 ∷ 0 ∷ 0 ∷ 0 ∷ 0 ∷ 0 ∷ 0 ∷ 2 ∷ 0 ∷ 0 ∷ 0 ∷ 0x73 ∷ 0 ∷ []))
a_server_tells_of_itself = refl

a_courier_tells_that_it_is_one : answered (record { settings = settings role.Clerk true; entries = [] }) counts reading GET_INFO [] Big
    ≡ answer.Stub ((1 ∷ 0 ∷ 1 ∷ []) ++ replicate 21 0 ++ (0 ∷ 0 ∷ 0 ∷ 2 ∷ 0 ∷ 0 ∷ 0 ∷ 0 ∷ 0 ∷ 0 ∷ 0 ∷ 2 ∷ 0x73 ∷ 0 ∷ []))
a_courier_tells_that_it_is_one = refl

nothing_is_asked : answered server counts reading GET_INFO (0 ∷ []) Little ≡ wrong field.Tail 0 cause.Extra
nothing_is_asked = refl

no_text_is_asked : answered server counts reading COMMAND [] Big ≡ wrong field.MaxCount 0 cause.Short
no_text_is_asked = refl

other_words_are_not_known : answered server counts reading COMMAND (spelling command Little (codes "set time")) Little
    ≡ answer.Stub ((16 ∷ 0 ∷ 0 ∷ 0 ∷ 0 ∷ 0 ∷ 0 ∷ 0 ∷ 16 ∷ 0 ∷ 0 ∷ 0 ∷ []) ++ codes "unknown command" ++ (0 ∷ 1 ∷ 0 ∷ 0 ∷ 0 ∷ []))
other_words_are_not_known = refl

the_time_is_shown : answered server counts reading COMMAND (spelling command Little (codes "show time")) Little
    ≡ answer.Stub (spelling command_reply Little (known (time_text reading)))
the_time_is_shown = refl

the_settings_are_shown : answered server counts reading COMMAND (spelling command Big (codes "show settings")) Big
    ≡ answer.Stub (spelling command_reply Big (known (settings_text server.settings)))
the_settings_are_shown = refl

the_counts_are_shown : answered server counts reading COMMAND (spelling command Little (codes "show counts")) Little
    ≡ answer.Stub (spelling command_reply Little (known (counts_text counts)))
the_counts_are_shown = refl

-- digits, one by one
digit : (n : ℕ) → n < 10 → decimal n ≡ (48 + n) ∷ []
digit n h = decimal_digit n h

tens : (n : ℕ) (ds : List ℕ) → 10 ≤ n → n < 2 ^ 64 → decimal (n / 10) ≡ ds → decimal n ≡ ds ++ ((48 + n % 10) ∷ [])
tens n ds h k e = decimal_step n h k ∙ ap (λ t. t ++ ((48 + n % 10) ∷ [])) e

within_digits : decimal 1001 ≡ codes "1001"
within_digits = tens 1001 (codes "100") (lit≤ tt) (lit< tt) (tens 100 (codes "10") (lit≤ tt) (lit< tt) (tens 10 (codes "1") (lit≤ tt) (lit< tt) (digit 1 (lit< tt))))

moment_digits : decimal 5000000000 ≡ codes "5000000000"
moment_digits = tens 5000000000 (codes "500000000") (lit≤ tt) (lit< tt) (tens 500000000 (codes "50000000") (lit≤ tt) (lit< tt) (tens 50000000 (codes "5000000") (lit≤ tt) (lit< tt) (tens 5000000 (codes "500000") (lit≤ tt) (lit< tt) (tens 500000 (codes "50000") (lit≤ tt) (lit< tt) (tens 50000 (codes "5000") (lit≤ tt) (lit< tt) (tens 5000 (codes "500") (lit≤ tt) (lit< tt) (tens 500 (codes "50") (lit≤ tt) (lit< tt) (tens 50 (codes "5") (lit≤ tt) (lit< tt) (digit 5 (lit< tt))))))))))

drift_digits : decimal 100 ≡ codes "100"
drift_digits = tens 100 (codes "10") (lit≤ tt) (lit< tt) (tens 10 (codes "1") (lit≤ tt) (lit< tt) (digit 1 (lit< tt)))

lease_digits : decimal 40000000 ≡ codes "40000000"
lease_digits = tens 40000000 (codes "4000000") (lit≤ tt) (lit< tt) (tens 4000000 (codes "400000") (lit≤ tt) (lit< tt) (tens 400000 (codes "40000") (lit≤ tt) (lit< tt) (tens 40000 (codes "4000") (lit≤ tt) (lit< tt) (tens 4000 (codes "400") (lit≤ tt) (lit< tt) (tens 400 (codes "40") (lit≤ tt) (lit< tt) (tens 40 (codes "4") (lit≤ tt) (lit< tt) (digit 4 (lit< tt))))))))

slew_digits : decimal 10000 ≡ codes "10000"
slew_digits = tens 10000 (codes "1000") (lit≤ tt) (lit< tt) (tens 1000 (codes "100") (lit≤ tt) (lit< tt) (tens 100 (codes "10") (lit≤ tt) (lit< tt) (tens 10 (codes "1") (lit≤ tt) (lit< tt) (digit 1 (lit< tt)))))

tolerance_digits : decimal 6000000000 ≡ codes "6000000000"
tolerance_digits = tens 6000000000 (codes "600000000") (lit≤ tt) (lit< tt) (tens 600000000 (codes "60000000") (lit≤ tt) (lit< tt) (tens 60000000 (codes "6000000") (lit≤ tt) (lit< tt) (tens 6000000 (codes "600000") (lit≤ tt) (lit< tt) (tens 600000 (codes "60000") (lit≤ tt) (lit< tt) (tens 60000 (codes "6000") (lit≤ tt) (lit< tt) (tens 6000 (codes "600") (lit≤ tt) (lit< tt) (tens 600 (codes "60") (lit≤ tt) (lit< tt) (tens 60 (codes "6") (lit≤ tt) (lit< tt) (digit 6 (lit< tt))))))))))

the_time : time_text reading ≡ codes "time 5000000000 1001 0 0"
the_time = rw (moment_digits, within_digits, digit 0 (lit< tt)) refl

the_settings : settings_text server.settings
    ≡ codes "settings s server epoch 0 required 2 drift 100 resolution 1 lease 40000000 slew 10000 tolerance 6000000000"
the_settings = rw (digit 0 (lit< tt), digit 2 (lit< tt), drift_digits, digit 1 (lit< tt), lease_digits, slew_digits, tolerance_digits) refl

after_three_asks : counts_text counts ≡ codes "counts 0 asks 4 refused 0 connections 1"
after_three_asks = rw (digit 0 (lit< tt), digit 4 (lit< tt), digit 1 (lit< tt)) refl

-- two local servers and two global ones
abbrev entry : List ℕ → ServerKind → Entry
entry name k = record { name = name; kind = k; address = record { ip = 10 ∷ 0 ∷ 0 ∷ 1 ∷ []; port = 7000 } }

abbrev courier : RosterData
courier = record {
  settings = settings role.Server true;
  entries = entry (codes "l1") kind.Local ∷ entry (codes "l2") kind.Local ∷ entry (codes "g1") kind.Global ∷ entry (codes "g2") kind.Global ∷ [];
}

the_locals : others kind.Local courier ≡ 0 ∷ 1 ∷ []
the_locals = refl

the_globals : others kind.Global courier ≡ 2 ∷ 3 ∷ []
the_globals = refl

the_first_global_is_first : sources courier 1 0 ≡ 0 ∷ 1 ∷ 2 ∷ []
the_first_global_is_first = refl

then_the_second : sources courier 2 2 ≡ 0 ∷ 1 ∷ 3 ∷ []
then_the_second = refl

all_after_a_round_with_too_few : sources courier 2 1 ≡ 0 ∷ 1 ∷ 2 ∷ 3 ∷ []
all_after_a_round_with_too_few = refl

-- the node's own name is not asked, but as an NTP server
the_own_name : sources (record { settings = settings role.Server true; entries = entry (codes "l1") kind.Local ∷ entry (codes "s") kind.Local ∷ [] }) 1 0 ≡ 0 ∷ []
the_own_name = refl

ntp_servers_alone : sources (record { settings = settings role.Server true; entries = entry (codes "l1") kind.Local ∷ entry (codes "s") kind.Ntp ∷ [] }) 1 0 ≡ 1 ∷ []
ntp_servers_alone = refl
