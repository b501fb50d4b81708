use Rattle.std.proofs.Common.{subst}
use Rattle.bridge.proofs.Tracing.{traced-open}
use Rattle.bridge.specs.Answers.{RunsTo}
use Rattle.loading.specs.Loading as loading
use Rattle.rules.specs.States.{World, started}
use Rattle.table.specs.Lists.{Lists}
use Rattle.bridge.proofs.runs.trace.Goals as goal

pub returns-in-Ok : goal.returns-in-Ok
returns-in-Ok c =
    let ss = c.args.steps.now in
    let old = c.args.out.now in
    let h = c.in-Ok.ensures in
    let runs = subst (λ (W : World). RunsTo (loading.lists_of c.in-Ok.table) W ss c.run.result old c.run.new.out) h.world c.run.ensures in
    traced-open _ h.opens.0 ss c.run.result old c.run.new.out h.opens.1.0 h.refused
    (subst (λ (T : Lists). RunsTo T (started T 128) ss c.run.result old c.run.new.out) h.opens.1.1 runs)
