use Rattle.std.proofs.Common.{not, ◌&&◌, Err, cond, is_ok, [], ◌∷◌, sym, ap, ◌∙◌}
use Rattle.rules.specs.States.{World, goal}
use Rattle.rules.specs.Steps.{state_at, enabled, sends, full, call_refused, answer, leaving, told}
use Rattle.rules.specs.declared.step.Step.TheVariants.{Move}
use Rattle.stepping.specs.Worlds.{world_of}
use Rattle.stepping.proofs.Moves.{no-edge-refused, move-refused, move-effect, move-told}
use Rattle.stepping.proofs.Tests.{first-hit, first-miss}
use Rattle.stepping.proofs.state.State.move_along.Goals as goal

pub returns-in_default-clause-answer : goal.returns-in_default-clause-answer
returns-in_default-clause-answer g c =
    let T = g.T.Table.lists c.args.table.now in
    let W = world_of c.args.self.now c.args.memory.now in
    let none = rw c.from-number.ensures at c.in_default.ensures in
    ap (λ k. Err (state_at 19 k)) c.from-number.ensures ∙ ap (λ o. answer o (told T W (Move c.args.k))) (no-edge-refused T W c.args.k (sym none))

pub returns-then-not-is_enabled-clause-answer : goal.returns-then-not-is_enabled-clause-answer
returns-then-not-is_enabled-clause-answer g c =
    let T = g.T.Table.lists c.args.table.now in
    let W = world_of c.args.self.now c.args.memory.now in
    let e = c.in-Some.edge in
    let some = rw c.from-number.ensures at c.in-Some.ensures in
    let p = goal T e.first in
    let tests = first-hit (not (enabled T W e)) (state_at 20 e.process) ((sends T e && full W p, state_at 21 p) ∷ []) (ap not (sym c.if-not-is_enabled.ensures)) ∙ move-refused T W c.args.k e (sym some) in
    ap (λ n. Err (state_at 20 n)) c.into.ensures ∙ ap (λ o. answer o (told T W (Move c.args.k))) tests

pub returns-clause-answer : goal.returns-clause-answer
returns-clause-answer g c =
    let T = g.T.Table.lists c.args.table.now in
    let W = world_of c.args.self.now c.args.memory.now in
    let e = c.in-Some.edge in
    let some = rw c.from-number.ensures at c.in-Some.ensures in
    let p = goal T e.first in
    let tests = first-miss (not (enabled T W e)) (state_at 20 e.process) ((sends T e && full W p, state_at 21 p) ∷ []) (ap not (sym c.if-not-is_enabled.ensures)) ∙ move-refused T W c.args.k e (sym some) in
    c.go.ensures.answer
    ∙ ap (λ o. answer o (leaving T W e)) tests
    ∙ ap (answer (call_refused T W (Move c.args.k))) (move-told T W c.args.k e (sym some))

pub returns-clause-world : goal.returns-clause-world
returns-clause-world g c =
    let T = g.T.Table.lists c.args.table.now in
    let W = world_of c.args.self.now c.args.memory.now in
    let some = rw c.from-number.ensures at c.in-Some.ensures in
    c.go.ensures.world ∙ ap (λ (V : World). cond (is_ok c.go.result) V W) (move-effect T W c.args.k c.in-Some.edge (sym some))
