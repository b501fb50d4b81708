use Rattle.std.proofs.Common.{◌≡◌, ◌*◌, ◌++◌, length, refl, sym, ap, ◌∙◌, arith}
use Rattle.bridge.proofs.Overlays.{length-spelled}
use Rattle.bridge.proofs.Tracing.{answers-laid, answers-none, ends-more, ends-none, length-answers}
use Rattle.bridge.specs.Codes.{answer_code}
use Rattle.bridge.specs.Laid.{laid, spelled}
use Rattle.bridge.specs.Traces.{answers, ends, step_at}
use Rattle.rules.specs.States.{World}
use Rattle.rules.specs.Steps.{next, stepped}
use Rattle.rules.specs.declared.step.Step.{Step}
use Rattle.stepping.specs.Worlds.{world_of}
use Rattle.bridge.proofs.runs.make.Goals as goal

pub loop-i-init : goal.loop-i-init
loop-i-init g c =
    let T = g.T.Table.lists c.args.table.now in
    let W = world_of c.args.state.now c.args.memory.now in
    record { world = ends-none T W c.args.steps.now; out = answers-none T W c.args.steps.now c.args.out.now; length = refl }

pub loop-i-preserved : goal.loop-i-preserved
loop-i-preserved g c =
    let T = g.T.Table.lists c.args.table.now in
    let W = world_of c.args.state.now c.args.memory.now in
    let ss = c.args.steps.now in
    let i = c.loop-i.i in
    let done = answers T W ss i in
    let V = world_of c.loop-i.state c.loop-i.memory in
    let at : length (spelled done) ≡ 8 * i = length-spelled done ∙ ap (λ k. 8 * k) (length-answers T W ss i) in
    let told : c.told.result ≡ answer_code (stepped T (ends T W ss i) (step_at ss i)) =
    c.told.ensures ∙ ap answer_code (c.step_on-answer.ensures.answer ∙ ap (λ (U : World). stepped T U c.step_at.result) c.loop-i.invariant.world ∙ ap (λ (s : Step). stepped T (ends T W ss i) s) c.step_at.ensures) in
    record {
      world = c.step_on-answer.ensures.world ∙ ap (λ (U : World). next T U c.step_at.result) c.loop-i.invariant.world ∙ ap (λ (s : Step). next T (ends T W ss i) s) c.step_at.ensures ∙ sym (ends-more T W ss i);
      out = c.put.ensures.laid (spelled done) c.args.out.now at c.loop-i.invariant.out
          ∙ ap (λ bs. laid (spelled done ++ bs) c.args.out.now) c.to_be_bytes.ensures
          ∙ answers-laid T W ss i c.told.result c.args.out.now told;
      length = c.put.ensures.length ∙ c.loop-i.invariant.length;
    }

pub returns-clause-world : goal.returns-clause-world
returns-clause-world g c =
    let T = g.T.Table.lists c.args.table.now in
    let W = world_of c.args.state.now c.args.memory.now in
    let i : c.loop-i.i ≡ c.args.count = omega (arith, c.loop-i-test.false, c.loop-i.auto.i-end) in
    c.loop-i.invariant.world ∙ ap (ends T W c.args.steps.now) i

pub returns-clause-out : goal.returns-clause-out
returns-clause-out g c =
    let T = g.T.Table.lists c.args.table.now in
    let W = world_of c.args.state.now c.args.memory.now in
    let i : c.loop-i.i ≡ c.args.count = omega (arith, c.loop-i-test.false, c.loop-i.auto.i-end) in
    c.loop-i.invariant.out ∙ ap (λ k. laid (spelled (answers T W c.args.steps.now k)) c.args.out.now) i
