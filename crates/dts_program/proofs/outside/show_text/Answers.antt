use Rattle.std.proofs.Common.{refl}
use Rattle.dts_program.specs.declared.status.SinkName.TheVariants as sink
use Rattle.dts_program.proofs.outside.show_text.Goals as goal

pub returns-clause-write_kept : goal.returns-clause-write_kept
returns-clause-write_kept g c = λ kept. absurd (kept sink.Output refl)
