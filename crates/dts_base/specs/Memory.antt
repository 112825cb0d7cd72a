-- The forms in memory, as what they tell and count.
use Rattle.std.specs.Prelude.{◌≡◌, ℕ, List, drop, Option, Some, None, if◌then◌else◌}
use Rattle.dts_base.specs.Calls.{Calls}
use Rattle.dts_base.specs.Numbers.{Script}
use Rattle.dts_base.specs.Links.{Lists}
use Rattle.dts_base.specs.Scripts.{without_given}
use Rattle.dts_base.specs.declared.link.Scripted.{Scripted}
use Rattle.dts_base.specs.declared.memory_source.MemorySource.{MemorySource}
use Rattle.dts_base.specs.declared.memory_sink.MemorySink.{MemorySink}
use Rattle.dts_base.specs.declared.memory_numbers.MemoryOscillator.{MemoryOscillator}
use Rattle.dts_base.specs.declared.memory_numbers.MemoryWords.{MemoryWords}
use Rattle.dts_base.specs.declared.memory_link.MemoryLink.{MemoryLink}

-- the octets of a source that were not read yet, its calls, and how often one failed
abbrev pub source_left : MemorySource → List ℕ
source_left s = drop s.at s.script.items

abbrev pub source_calls : MemorySource → Calls
source_calls s = s.calls

abbrev pub source_faults : MemorySource → ℕ
source_faults s = s.faults

-- what a sink holds, its calls, how often one failed, and how often for want of memory
abbrev pub sink_written : MemorySink → List ℕ
sink_written s = s.written.items

abbrev pub sink_calls : MemorySink → Calls
sink_calls s = s.calls

abbrev pub sink_faults : MemorySink → ℕ
sink_faults s = s.faults

abbrev pub sink_starved : MemorySink → ℕ
sink_starved s = s.starved

-- the readings that are left, and the last one
abbrev pub oscillator_script : MemoryOscillator → Script
oscillator_script o = o.script

-- the words that are left, and the last one
abbrev pub words_script : MemoryWords → Script
words_script w = w.script

-- the arrivals of a link that are left
abbrev pub link_script : MemoryLink → List Scripted
link_script l = without_given l.given (drop l.at l.script.items)

-- the lists of a link, as long as it tells them
abbrev pub link_lists : MemoryLink → Option Lists
link_lists l = if l.tells_lists then Some (record { places = l.places.items; served = l.served.items; sent = l.sent.items; closed = l.closed.items }) else None

-- how often a call of a link failed
abbrev pub link_faults : MemoryLink → ℕ
link_faults l = l.faults

-- the calls of a link that serve an address, those that send, and how often one failed for want of memory
abbrev pub link_listens : MemoryLink → Calls
link_listens l = l.listens

abbrev pub link_sends : MemoryLink → Calls
link_sends l = l.sends

abbrev pub link_starved : MemoryLink → ℕ
link_starved l = l.starved

-- no such call was counted, and none found no memory
abbrev pub CountsNone : MemoryLink → MemoryLink → Type 0
CountsNone old new = (link_listens new ≡ link_listens old) × (link_sends new ≡ link_sends old) × (link_starved new ≡ link_starved old)
