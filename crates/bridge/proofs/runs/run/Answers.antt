use Rattle.std.proofs.Common.{◌≡◌, ◌*◌, ◌/◌, ◌++◌, length, sym, ap, ◌∙◌, arith}
use Rattle.bridge.proofs.Overlays.{fitted-none, fitted-room, length-spelled}
use Rattle.bridge.proofs.Tracing.{length-answers, length-traced, traced-spelled}
use Rattle.bridge.specs.Laid.{laid, spelled}
use Rattle.bridge.specs.Traces.{answers, state_words, traced}
use Rattle.rules.specs.States.{World}
use Rattle.stepping.specs.Worlds.{world_of}
use Rattle.bridge.proofs.runs.run.Goals as goal

pub returns-then-size-out : goal.returns-then-size-out
returns-then-size-out g c =
    let T = g.T.Table.lists c.args.table.now in
    let W = world_of c.args.state.now c.args.memory.now in
    let ss = c.args.steps.now in
    let n = length ss / 5 in
    let old = c.args.out.now in
    let text = spelled (traced T W ss) in
    let size = length-traced T W ss in
    let done = answers T W ss n in
    let at : length (spelled done) ≡ 8 * n = length-spelled done ∙ ap (λ k. 8 * k) (length-answers T W ss n) in (
      sym size,
      c.put_state.ensures (spelled done) old at c.make.ensures.out
          ∙ ap (λ (V : World). laid (spelled done ++ spelled (state_words V 264)) old) c.make.ensures.world
          ∙ ap (λ t. laid t old) (sym (traced-spelled T W ss))
          ∙ sym (fitted-room text old (omega (arith, size, c.if-size-out.true))),
    )

pub returns-else-size-out : goal.returns-else-size-out
returns-else-size-out g c =
    let T = g.T.Table.lists c.args.table.now in
    let W = world_of c.args.state.now c.args.memory.now in
    let ss = c.args.steps.now in
    let size = length-traced T W ss in
    (sym size, sym (fitted-none (spelled (traced T W ss)) c.args.out.now (omega (arith, size, c.if-size-out.false))))
