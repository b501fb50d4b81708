use Rattle.std.proofs.Common.{◌≡◌, ℕ, ◌+◌, ◌*◌, ◌<◌, ◌≤◌, Bool, true, false, not, ◌&&◌, List, take, length, get_or, ap, sym, ◌∙◌}
use Rattle.std.specs.List.{list_any}
use Rattle.std.proofs.lemmas.Bool.{and_right}
use Rattle.std.proofs.Math.Bool.{and-true}
use Rattle.ring.proofs.Slots.{length-slot}
use Rattle.ring.specs.Slots.{slot}
use Rattle.marks.specs.Instances.{process_at}
use Rattle.rules.specs.States.{Running, at, due, waiting}
use Rattle.rules.specs.Steps.{no_message, rests}
use Rattle.rules.specs.declared.step.Message.{Message}
use Rattle.stepping.specs.Worlds.{running, world_of}
use Rattle.stepping.specs.declared.state.Local.{Local}
use Rattle.stepping.specs.declared.state.State.{State}
use Rattle.stepping.proofs.Limits.{timers_within}
use Rattle.stepping.proofs.Worlds.{at-world_of}
use Rattle.table.specs.Lists.{Proc}
use Rattle.stepping.proofs.state.State.is_resting.Goals as goal

pub is_idle-requires : goal.is_idle-requires
is_idle-requires g c = timers_within (g.T.Table.lists c.args.table.now) c.args.p c.process_or_blank-timers.result c.requires.limits c.process_or_blank-timers.ensures

-- no message and no timer of its own at on(0)
abbrev idle_of : ℕ → Running → Bool
idle_of n r = no_message r.queue && not (list_any due (take n r.timers))

idle-at : (s : State) (m : List Message) (p n k : ℕ) (d : Local) (b : Bool) → p < s.count → 16 * p + 16 ≤ length m → n ≡ k → ((ps : List Message) → length ps ≡ 16 → b ≡ idle_of n (running ps (get_or s.processes p d))) → b ≡ idle_of k (at (world_of s m) p)
idle-at s m p n k d b here room e is = is (slot 16 p m) (length-slot 16 p m room) ∙ ap (idle_of n) (sym (at-world_of s m p d here)) ∙ ap (λ i. idle_of i (at (world_of s m) p)) e

pub returns-then-is_idle : goal.returns-then-is_idle
unfolding rests
returns-then-is_idle g c m room =
    let T = g.T.Table.lists c.args.table.now in
    let p = c.args.p in
    let W = world_of c.args.self.now m in
    let q = idle-at c.args.self.now m p c.process_or_blank-timers.result.timers (process_at T p).timers c.index-self-p.result true c.requires.there room (ap (λ (r : Proc). r.timers) c.process_or_blank-timers.ensures) c.if-is_idle.ensures in
    rw (c.site.ensures.process, c.site.ensures.location m) at c.waits.ensures ∙ sym (ap (λ b. waiting T p (at W p).location && b) (sym q) ∙ and-true (waiting T p (at W p).location))

pub returns-else-is_idle : goal.returns-else-is_idle
unfolding rests
returns-else-is_idle g c m room =
    let T = g.T.Table.lists c.args.table.now in
    let p = c.args.p in
    let W = world_of c.args.self.now m in
    let q = idle-at c.args.self.now m p c.process_or_blank-timers.result.timers (process_at T p).timers c.index-self-p.result false c.requires.there room (ap (λ (r : Proc). r.timers) c.process_or_blank-timers.ensures) c.if-is_idle.ensures in
    c.if-is_idle.false ∙ sym (and_right (waiting T p (at W p).location) (idle_of (process_at T p).timers (at W p)) (sym q))
