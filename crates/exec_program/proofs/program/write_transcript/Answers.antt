use Rattle.exec_program.proofs.Runs.{after_failed_flush}
use Rattle.exec_program.proofs.program.write_transcript.Goals as goal

pub returns-in_err-flush : goal.returns-in_err-flush
returns-in_err-flush g c =
    after_failed_flush _ _ _ _ _ _ c.from_residual-in_err-flush.result c.in_ok-run_into.ensures.text c.in_err-flush.ensures.kept c.in_err-flush.ensures.failed c.from_residual-in_err-flush.ensures.1
