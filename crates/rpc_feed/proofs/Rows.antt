-- Rows of the definitions, by computation.
use Rattle.std.proofs.Common.{◌≡◌, [], ◌∷◌, ◌++◌, true, false, Ok, Err, refl}
use Rattle.std.specs.Prelude.{None, take, drop, slice_set}
use Rattle.dts_base.specs.declared.wire.Field.TheVariants as field
use Rattle.dts_base.specs.declared.wire.WireCause.TheVariants as cause
use Rattle.ndr.specs.declared.endian.Endian.TheVariants.{Big, Little}
use Rattle.pdu_fields.specs.Tables.{reading}
use Rattle.pdu_fields.proofs.Rows.{bind_octets, big_bind_octets, bind_value, wrong}
use Rattle.rpc_feed.specs.Pieces.{front, partial, pieces}
use Rattle.rpc_feed.specs.Feeding.{next_of}
use Rattle.rpc_feed.specs.Calls.{feeds, asks, answers}

a_whole_bind : pieces bind_octets ≡ record { pdus = bind_value Little ∷ []; left = Ok [] }
unfolding reading
a_whole_bind = refl

a_bind_in_two_parts : answers (Ok []) (feeds (take 20 bind_octets) true ∷ asks true ∷ feeds (drop 20 bind_octets) true ∷ asks true ∷ []) ≡ Ok (bind_value Little) ∷ []
unfolding reading
a_bind_in_two_parts = refl

no_octet_is_missing : next_of (Ok (take 71 bind_octets)) ≡ None
unfolding reading
no_octet_is_missing = refl

two_binds_and_a_rest : pieces (bind_octets ++ big_bind_octets ++ take 15 bind_octets) ≡ record { pdus = bind_value Little ∷ bind_value Big ∷ []; left = Ok (take 15 bind_octets) }
unfolding reading
two_binds_and_a_rest = refl

a_broken_header_behind_a_bind : pieces (bind_octets ++ slice_set (take 16 bind_octets) 10 8) ≡ record { pdus = bind_value Little ∷ []; left = Err (wrong field.AuthLength 10 cause.Value) }
unfolding reading
a_broken_header_behind_a_bind = refl

a_part_of_a_broken_header : pieces (slice_set (take 15 bind_octets) 0 4) ≡ record { pdus = []; left = Ok (slice_set (take 15 bind_octets) 0 4) }
unfolding reading
a_part_of_a_broken_header = refl

a_wrong_body_that_is_not_whole : front (slice_set (take 71 bind_octets) 30 0) ≡ partial
unfolding reading
a_wrong_body_that_is_not_whole = refl

a_wrong_body : pieces (slice_set bind_octets 30 0 ++ bind_octets) ≡ record { pdus = []; left = Err (wrong field.NTransferSyn 30 cause.Value) }
unfolding reading
a_wrong_body = refl

a_dead_feed_takes_no_octets : answers (Ok []) (feeds (slice_set bind_octets 30 0) true ∷ asks true ∷ feeds bind_octets true ∷ asks true ∷ asks true ∷ []) ≡ Err (wrong field.NTransferSyn 30 cause.Value) ∷ []
unfolding reading
a_dead_feed_takes_no_octets = refl

without_memory_all_stays : answers (Ok []) (feeds bind_octets true ∷ asks false ∷ feeds bind_octets false ∷ asks true ∷ asks true ∷ []) ≡ Ok (bind_value Little) ∷ []
unfolding reading
without_memory_all_stays = refl

no_octets : pieces [] ≡ record { pdus = []; left = Ok [] }
no_octets = refl
