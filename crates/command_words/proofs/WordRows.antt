-- What some words mean, by computation.
use Rattle.std.proofs.Common.{◌≡◌, [], ◌∷◌, None, true, false, codes, refl}
use Rattle.clap.proofs.OnLiterals.{clap_on_literals}
use Rattle.command_words.specs.declared.command_line.CommandLine.TheVariants as line
use Rattle.command_words.specs.declared.command_line.ShowKind.TheVariants as kind
use Rattle.command_words.specs.Words.{asks, half_of, meaning_of, means, nothing}

pub replay_words : meaning_of (codes "replay" ∷ []) ≡ means (line.Replay false)
unfolding meaning_of clap_on_literals
replay_words = refl

pub roster_words : meaning_of (codes "replay" ∷ codes "--roster" ∷ []) ≡ means (line.Replay true)
unfolding meaning_of clap_on_literals
roster_words = refl

pub utc_words : meaning_of (codes "utc" ∷ []) ≡ means line.Utc
unfolding meaning_of clap_on_literals
utc_words = refl

pub order_words : meaning_of (codes "order" ∷ []) ≡ means line.Order
unfolding meaning_of clap_on_literals
order_words = refl

pub pdu_words : meaning_of (codes "show" ∷ codes "pdu" ∷ []) ≡ means (line.Show kind.Pdu)
unfolding meaning_of clap_on_literals
pdu_words = refl

pub timestamp_words : meaning_of (codes "show" ∷ codes "utc" ∷ []) ≡ means (line.Show kind.Utc)
unfolding meaning_of clap_on_literals
timestamp_words = refl

pub clerk_words : meaning_of (codes "clerk" ∷ []) ≡ means (line.Clerk (half_of 281474976710656 137971296000000000 None))
unfolding meaning_of clap_on_literals
clerk_words = refl

pub server_words : meaning_of (codes "server" ∷ codes "--workers" ∷ codes "4" ∷ []) ≡ means (line.Server (half_of 281474976710656 137971296000000000 None) 4)
unfolding meaning_of clap_on_literals
server_words = refl

pub show_words : meaning_of (codes "show" ∷ codes "ntp" ∷ []) ≡ means (line.Show kind.Ntp)
unfolding meaning_of clap_on_literals
show_words = refl

pub drill_words : meaning_of (codes "drill" ∷ codes "4294967295" ∷ codes "0" ∷ []) ≡ means (line.Drill 4294967295 0)
unfolding meaning_of clap_on_literals
drill_words = refl

pub control_words : meaning_of (codes "control" ∷ codes "127.0.0.1:7001" ∷ codes "show" ∷ codes "time" ∷ []) ≡ means (line.Control (codes "127.0.0.1:7001") (codes "show time"))
unfolding meaning_of clap_on_literals
control_words = refl

pub help_words : meaning_of (codes "--help" ∷ []) ≡ asks
unfolding meaning_of clap_on_literals
help_words = refl

pub version_words : meaning_of (codes "--version" ∷ []) ≡ asks
unfolding meaning_of clap_on_literals
version_words = refl

pub none_words : meaning_of ([]) ≡ nothing
unfolding meaning_of clap_on_literals
none_words = refl

pub extra_words : meaning_of (codes "replay" ∷ codes "x" ∷ []) ≡ nothing
unfolding meaning_of clap_on_literals
extra_words = refl

pub unknown_words : meaning_of (codes "help" ∷ []) ≡ nothing
unfolding meaning_of clap_on_literals
unknown_words = refl

pub twice_words : meaning_of (codes "replay" ∷ codes "--roster" ∷ codes "--roster" ∷ []) ≡ nothing
unfolding meaning_of clap_on_literals
twice_words = refl

pub below_words : meaning_of (codes "server" ∷ codes "--workers" ∷ codes "0" ∷ []) ≡ nothing
unfolding meaning_of clap_on_literals
below_words = refl

pub above_words : meaning_of (codes "server" ∷ codes "--workers" ∷ codes "5" ∷ []) ≡ nothing
unfolding meaning_of clap_on_literals
above_words = refl

pub zero_words : meaning_of (codes "drill" ∷ codes "01" ∷ codes "0" ∷ []) ≡ nothing
unfolding meaning_of clap_on_literals
zero_words = refl

pub sign_words : meaning_of (codes "drill" ∷ codes "+1" ∷ codes "0" ∷ []) ≡ nothing
unfolding meaning_of clap_on_literals
sign_words = refl
