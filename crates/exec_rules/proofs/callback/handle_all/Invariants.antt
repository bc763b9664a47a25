use Rattle.std.proofs.Common.{◌≡◌, [], take}
use Rattle.std.specs.List.{fold}
use Rattle.exec_script.specs.Script.{listed}
use Rattle.exec_rules.specs.Callback.{handle_cancel}
use Rattle.exec_rules.proofs.callback.handle_all.Given as goal

-- the handler ran for the candidates so far
abbrev pub invariant-loop-candidate : goal.invariant-loop-candidate
invariant-loop-candidate l = record {
  variables = l.bank;
  given = l.effects;
  decisions = l.decisions;
} ≡ fold (handle_cancel listed l.runnable) (record { variables = l.initial.bank; given = l.initial.effects; decisions = [] }) (take l.candidate-index l.candidate-items)
