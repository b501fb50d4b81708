use Rattle.std.proofs.Common.{◌+◌, length, sym, ap, ◌∙◌, subst, arith}
use Rattle.std.proofs.lemmas.List.{length-set}
use Rattle.marks.proofs.Good.{good}
use Rattle.marking.proofs.Bounding.{bounded}
use Rattle.marking.proofs.Flowing.{one-standing, none-standing}
use Rattle.marking.specs.Flows.{Standing}
use Rattle.marking.proofs.flows.work_out.Goals as goal
use Rattle.marking.proofs.flows.work_out.Goals.{in-Some, in_default}

pub loop-k-preserved : goal.loop-k-preserved
loop-k-preserved g c =
    let T = g.T.Table.lists c.args.table.now in
    elim c.match-edge.branch [
      | in-Some w ↦ (
        ap length w.flows-is ∙ length-set c.loop-k.flows c.loop-k.k _ ∙ c.loop-k.invariant.0,
        subst (λ fs. Standing T fs (c.loop-k.k + 1)) (sym w.flows-is)
            (one-standing T c.loop-k.flows c.loop-k.k c.loop-k.invariant.1 w.in-Some.edge w.of.result
            (omega (arith, c.loop-k-test.true, c.edge_count-k-end.ensures, c.loop-k.invariant.0, c.requires.room)) (sym c.edge.ensures ∙ w.in-Some.is) w.of.ensures),
      )
      | in_default w ↦ (
        ap length w.flows-is ∙ c.loop-k.invariant.0,
        subst (λ fs. Standing T fs (c.loop-k.k + 1)) (sym w.flows-is)
            (none-standing T c.loop-k.flows c.loop-k.k c.loop-k.invariant.1 (sym c.edge.ensures ∙ w.in_default.is)),
      )
    ]

pub returns : goal.returns
returns g c =
    let T = g.T.Table.lists c.args.table.now in
    record {
      places = c.loop-k.invariant.0;
      stand = λ k e f l h. c.loop-k.invariant.1 k e f (omega (arith, l, c.loop-k-test.false, c.edge_count-k-end.ensures)) h;
    }

pub of-requires : goal.of-requires
of-requires g c =
    let T = g.T.Table.lists c.args.table.now in
    bounded T (good T c.requires.good) c.loop-k.k c.in-Some.edge (sym c.edge.ensures ∙ c.in-Some.is)
