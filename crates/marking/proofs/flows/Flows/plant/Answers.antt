use Rattle.std.proofs.Common.{◌+◌, sym, ap, ◌∙◌, subst}
use Rattle.marking.specs.Leads.{is_inbound}
use Rattle.marking.specs.Searching.{state}
use Rattle.marking.proofs.Giving.{Planted, plant-step, pass-step}
use Rattle.marking.proofs.flows.Flows.plant.Goals as goal
use Rattle.marking.proofs.flows.Flows.plant.Goals.{in-Inbound, in_default}

pub loop-signal-preserved : goal.loop-signal-preserved
loop-signal-preserved g c =
    let T = g.T.Table.lists c.args.table.now in
    let n = c.loop-signal.signal in
    let s = state c.args.search.now in
    elim c.match-class_of.branch [
      | in-Inbound w ↦
          subst (λ q. Planted T (c.loop-signal.signal + 1) s (state q)) (sym w.search-is)
          (plant-step T n s (state c.loop-signal.search) (state w.give.new.search) c.loop-signal-test.true (ap is_inbound (sym c.class_of.ensures ∙ w.in-Inbound.is)) c.loop-signal.invariant
          (w.give.ensures.given c.loop-signal-test.true) w.give.ensures.grew)
      | in_default w ↦
          subst (λ q. Planted T (c.loop-signal.signal + 1) s (state q)) (sym w.search-is)
          (pass-step T n s (state c.loop-signal.search) (λ q. w.in_default.not-Inbound (c.class_of.ensures ∙ q)) c.loop-signal.invariant)
    ]
