use Rattle.std.proofs.Common.{◌<◌, ◌≤◌, length, refl, sym, ap, ◌∙◌, arith}
use Rattle.rules.specs.States.{World, at}
use Rattle.rules.specs.Steps.{put, ticked}
use Rattle.stepping.specs.Worlds.{cooled, world_of}
use Rattle.stepping.proofs.Cooling.{ticked_none, ticked_more, ticked_all}
use Rattle.stepping.proofs.Limits.{timers_within}
use Rattle.stepping.proofs.Worlds.{length-world_of}
use Rattle.table.specs.Lists.{Proc}
use Rattle.stepping.proofs.state.State.cool.Goals as goal

pub loop-p-init : goal.loop-p-init
loop-p-init g c = record { world = λ m. sym (ticked_none (g.T.Table.lists c.args.table.now) (world_of c.args.self.now m)); count = refl; beyond = refl }

pub cool_one-requires-clause-few : goal.cool_one-requires-clause-few
cool_one-requires-clause-few g c = timers_within (g.T.Table.lists c.args.table.now) c.loop-p.p c.process_or_blank.result c.requires c.process_or_blank.ensures

pub loop-p-preserved : goal.loop-p-preserved
loop-p-preserved g c =
    let T = g.T.Table.lists c.args.table.now in
    let p = c.loop-p.p in
    let i = c.loop-p.invariant in
    record {
      world = λ m.
          let W = world_of c.args.self.now m in
          let here : p < length W.processes = omega (arith, length-world_of c.args.self.now m, i.count) in
          c.cool_one.ensures.world m
          ∙ ap (λ n. put (world_of c.loop-p.self m) p (cooled n (at (world_of c.loop-p.self m) p))) (ap (λ (r : Proc). r.timers) c.process_or_blank.ensures)
          ∙ ap (λ (V : World). put V p (ticked T p (at V p))) (i.world m)
          ∙ ticked_more T p W here;
      count = c.cool_one.ensures.count ∙ i.count;
      beyond = c.cool_one.ensures.beyond ∙ i.beyond;
    }

pub returns-clause-world : goal.returns-clause-world
returns-clause-world g c m =
    let W = world_of c.args.self.now m in
    let past : length W.processes ≤ c.loop-p.p = omega (arith, length-world_of c.args.self.now m, c.loop-p.invariant.count) in
    c.loop-p.invariant.world m ∙ ticked_all (g.T.Table.lists c.args.table.now) c.loop-p.p W past
