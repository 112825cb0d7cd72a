-- Rows of the definitions, by computation.
use Rattle.std.proofs.Common.{◌≡◌, List, [], ◌∷◌, ◌++◌, replicate, ℕ, pos, refl, Some}
use Rattle.std.specs.Prelude.{codes}
use Rattle.dts_base.specs.declared.wire.Field.{Field}
use Rattle.dts_base.specs.declared.wire.Field.TheVariants as field
use Rattle.dts_base.specs.declared.wire.Refused.{Refused}
use Rattle.dts_base.specs.declared.wire.WireCause.TheVariants as cause
use Rattle.ndr.specs.declared.endian.Endian.TheVariants.{Big, Little}
use Rattle.utc_value.specs.Stamp.{absolute_stamp}
use Rattle.utc_value.specs.Octets.{octets_of}
use Rattle.time_wire.specs.declared.message.TimeReply.{TimeReply}
use Rattle.time_wire.specs.declared.message.InfoReply.{InfoReply}
use Rattle.time_wire.specs.declared.message.CommandReply.{CommandReply}
use Rattle.time_wire.specs.Layouts.{get_time, time_reply, get_info, info_reply, command, command_reply}
use Rattle.time_wire.specs.Spelling.{Spells, FirstWrong, spelling}

-- a wrong value
abbrev value : Field → ℕ → Refused
value f at = record { field = f; offset = at; cause = cause.Value }

-- octets that are short, and one that is left
abbrev short : Field → ℕ → Refused
short f at = record { field = f; offset = at; cause = cause.Short }

abbrev extra : ℕ → Refused
extra at = record { field = field.Tail; offset = at; cause = cause.Extra }

-- `show time`, asked with command
abbrev show_time : List ℕ
show_time = 10 ∷ 0 ∷ 0 ∷ 0 ∷ 0 ∷ 0 ∷ 0 ∷ 0 ∷ 10 ∷ 0 ∷ 0 ∷ 0 ∷ 0x73 ∷ 0x68 ∷ 0x6f ∷ 0x77 ∷ 0x20 ∷ 0x74 ∷ 0x69 ∷ 0x6d ∷ 0x65 ∷ 0 ∷ []

a_command_is_written : spelling command Little (codes "show time") ≡ show_time
a_command_is_written = refl

and_is_spelled : Spells command Little show_time (codes "show time")
and_is_spelled = refl

one_octet_more : FirstWrong command Little (show_time ++ (0 ∷ [])) (extra 22)
one_octet_more = refl

the_text_is_short : FirstWrong command Little (10 ∷ 0 ∷ 0 ∷ 0 ∷ 0 ∷ 0 ∷ 0 ∷ 0 ∷ 10 ∷ 0 ∷ 0 ∷ 0 ∷ 0x73 ∷ []) (short field.StringOctets 12)
the_text_is_short = refl

-- a server with the name `s`
abbrev server : InfoReply
server = record { role = 1; courier = 0; epoch = 0; number = 0; step = 0; name = codes "s" }

-- its stub, with another role, courier and end
abbrev server_stub : ℕ → ℕ → List ℕ → List ℕ
server_stub role courier end =
    (1 ∷ role ∷ courier ∷ [])
    ++ replicate 21 0
    ++ (2 ∷ 0 ∷ 0 ∷ 0 ∷ 0 ∷ 0 ∷ 0 ∷ 0 ∷ 2 ∷ 0 ∷ 0 ∷ 0 ∷ 0x73 ∷ end)

a_server_is_written : spelling info_reply Little server ≡ server_stub 1 0 (0 ∷ [])
a_server_is_written = refl

a_server_is_spelled : Spells info_reply Little (server_stub 1 0 (0 ∷ [])) server
a_server_is_spelled = refl

no_role_above_one : FirstWrong info_reply Little (server_stub 2 2 []) (value field.Role 1)
no_role_above_one = refl

no_courier_above_one : FirstWrong info_reply Little (server_stub 1 2 []) (value field.Courier 2)
no_courier_above_one = refl

the_name_is_short : FirstWrong info_reply Little (server_stub 1 0 []) (short field.StringOctets 36)
the_name_is_short = refl

the_name_has_no_end : FirstWrong info_reply Little (server_stub 1 0 (0x73 ∷ [])) (value field.StringOctets 36)
the_name_has_no_end = refl

-- the moment 5000000000 with an inaccuracy of 1000, in epoch 0
abbrev reply : TimeReply
reply = record { version = 1; epoch = 0; utc = absolute_stamp (pos 5000000000) (Some 1000) (pos 0); status = 3 }

-- its stub, with another version, last octet of the timestamp, gap and status
abbrev reply_stub : ℕ → ℕ → ℕ → List ℕ → List ℕ
reply_stub version last gap status =
    version ∷ 0 ∷ 0 ∷ 0xf2 ∷ 0x05 ∷ 0x2a ∷ 0x01 ∷ 0 ∷ 0 ∷ 0 ∷ 0xe8 ∷ 0x03 ∷ 0 ∷ 0 ∷ 0 ∷ 0 ∷ 0 ∷ last ∷ gap ∷ gap ∷ status

a_reply_is_written : spelling time_reply Little reply ≡ reply_stub 1 0x10 0 (3 ∷ 0 ∷ 0 ∷ 0 ∷ [])
unfolding octets_of
a_reply_is_written = refl

-- the octets of the timestamp have one order
with_the_high_octet_first : spelling time_reply Big reply ≡ reply_stub 1 0x10 0 (0 ∷ 0 ∷ 0 ∷ 3 ∷ [])
unfolding octets_of
with_the_high_octet_first = refl

a_reply_is_spelled : Spells time_reply Little (reply_stub 1 0x10 0xff (3 ∷ 0 ∷ 0 ∷ 0 ∷ [])) reply
unfolding octets_of
a_reply_is_spelled = refl

spelled_with_the_high_octet_first : Spells time_reply Big (reply_stub 1 0x10 0 (0 ∷ 0 ∷ 0 ∷ 3 ∷ [])) reply
unfolding octets_of
spelled_with_the_high_octet_first = refl

no_version_but_one : FirstWrong time_reply Little (reply_stub 2 0x30 0 []) (value field.WireVersion 0)
no_version_but_one = refl

no_timestamp : FirstWrong time_reply Little (reply_stub 1 0x30 0 []) (value field.UtcOctets 2)
no_timestamp = refl

the_status_is_short : FirstWrong time_reply Little (reply_stub 1 0x10 0 (3 ∷ 0 ∷ 0 ∷ [])) (short field.Status 20)
the_status_is_short = refl

-- the answer `ab` with status 1, whose gap may be any
abbrev answer : CommandReply
answer = record { text = codes "ab"; status = 1 }

an_answer_is_written : spelling command_reply Big answer
    ≡ 0 ∷ 0 ∷ 0 ∷ 3 ∷ 0 ∷ 0 ∷ 0 ∷ 0 ∷ 0 ∷ 0 ∷ 0 ∷ 3 ∷ 0x61 ∷ 0x62 ∷ 0 ∷ 0 ∷ 0 ∷ 0 ∷ 0 ∷ 1 ∷ []
an_answer_is_written = refl

an_answer_is_spelled : Spells command_reply Big
    (0 ∷ 0 ∷ 0 ∷ 9 ∷ 0 ∷ 0 ∷ 0 ∷ 0 ∷ 0 ∷ 0 ∷ 0 ∷ 3 ∷ 0x61 ∷ 0x62 ∷ 0 ∷ 7 ∷ 0 ∷ 0 ∷ 0 ∷ 1 ∷ []) answer
an_answer_is_spelled = refl

-- an epoch, and nothing
an_epoch_is_spelled : Spells get_time Big (7 ∷ []) (record { epoch = 7 })
an_epoch_is_spelled = refl

no_epoch : FirstWrong get_time Big [] (short field.Epoch 0)
no_epoch = refl

nothing_is_asked : FirstWrong get_info Little (0 ∷ []) (extra 0)
nothing_is_asked = refl
