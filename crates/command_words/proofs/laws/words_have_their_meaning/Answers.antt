use Rattle.command_words.proofs.WordRows.{replay_words, roster_words, utc_words, order_words, pdu_words, show_words, timestamp_words, help_words, version_words, none_words, extra_words, unknown_words, twice_words, below_words, above_words, zero_words, sign_words}
use Rattle.command_words.proofs.PlainWords.{plain_clerk_words, plain_server_words}
use Rattle.command_words.proofs.PlainPositionals.{plain_control_words, plain_drill_words}
use Rattle.command_words.proofs.laws.words_have_their_meaning.Goals as goal

pub returns-clause-replay : goal.returns-clause-replay
returns-clause-replay c = replay_words

pub returns-clause-roster : goal.returns-clause-roster
returns-clause-roster c = roster_words

pub returns-clause-clerk : goal.returns-clause-clerk
returns-clause-clerk c = plain_clerk_words

pub returns-clause-server : goal.returns-clause-server
returns-clause-server c = plain_server_words

pub returns-clause-utc : goal.returns-clause-utc
returns-clause-utc c = utc_words

pub returns-clause-order : goal.returns-clause-order
returns-clause-order c = order_words

pub returns-clause-pdu : goal.returns-clause-pdu
returns-clause-pdu c = pdu_words

pub returns-clause-ntp : goal.returns-clause-ntp
returns-clause-ntp c = show_words

pub returns-clause-timestamp : goal.returns-clause-timestamp
returns-clause-timestamp c = timestamp_words

pub returns-clause-drill : goal.returns-clause-drill
returns-clause-drill c = plain_drill_words

pub returns-clause-control : goal.returns-clause-control
returns-clause-control c = plain_control_words

pub returns-clause-help : goal.returns-clause-help
returns-clause-help c = help_words

pub returns-clause-version : goal.returns-clause-version
returns-clause-version c = version_words

pub returns-clause-none : goal.returns-clause-none
returns-clause-none c = none_words

pub returns-clause-extra : goal.returns-clause-extra
returns-clause-extra c = extra_words

pub returns-clause-unknown : goal.returns-clause-unknown
returns-clause-unknown c = unknown_words

pub returns-clause-twice : goal.returns-clause-twice
returns-clause-twice c = twice_words

pub returns-clause-below : goal.returns-clause-below
returns-clause-below c = below_words

pub returns-clause-above : goal.returns-clause-above
returns-clause-above c = above_words

pub returns-clause-zero : goal.returns-clause-zero
returns-clause-zero c = zero_words

pub returns-clause-sign : goal.returns-clause-sign
returns-clause-sign c = sign_words
