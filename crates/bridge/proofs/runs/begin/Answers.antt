use Rattle.std.proofs.Common.{length, ap, ◌∙◌}
use Rattle.std.proofs.lemmas.Result.{err_from_is_err_and}
use Rattle.bridge.specs.Traces.{unstarted}
use Rattle.rules.specs.States.{start_refused}
use Rattle.sheet.specs.Views.{opened_of}
use Rattle.bridge.proofs.runs.begin.Goals as goal

pub returns-in_err-start-clause-refused : goal.returns-in_err-start-clause-refused
unfolding opened_of
returns-in_err-start-clause-refused c =
    let p = err_from_is_err_and c.from_residual-in_err-start.result c.from_residual-in_err-start.ensures.1 in
    rw (p.1, p.2) (c.in_err-start.ensures.refused ∙ ap (λ T. start_refused T (length c.args.memory.now)) c.of-table.ensures ∙ ap (λ o. unstarted o (length c.args.memory.now)) c.in_ok-sheet.ensures.value)

pub returns-clause-refused : goal.returns-clause-refused
unfolding opened_of
returns-clause-refused c = c.in_ok-start.ensures.refused ∙ ap (λ T. start_refused T (length c.args.memory.now)) c.of-table.ensures ∙ ap (λ o. unstarted o (length c.args.memory.now)) c.in_ok-sheet.ensures.value
