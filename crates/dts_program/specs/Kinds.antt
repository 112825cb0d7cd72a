-- What the kinds of `show` are shown as.
use Rattle.command_words.specs.declared.command_line.ShowKind.{ShowKind}
use Rattle.command_words.specs.declared.command_line.ShowKind.TheVariants as kind
use Rattle.wire_show.specs.declared.end.Shown.{Shown}
use Rattle.wire_show.specs.declared.end.Shown.TheVariants as shown

abbrev pub shown_as : ShowKind → Shown
shown_as kind.Pdu = shown.Pdu
shown_as kind.Ntp = shown.Ntp
shown_as kind.Utc = shown.Utc
