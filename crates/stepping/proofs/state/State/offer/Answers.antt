use Rattle.std.proofs.Common.{◌≡◌, Some, true, false, not, [], ◌∷◌, sym, ap, ◌∙◌, SFits, w16, arith, rules}
use Rattle.std.proofs.lemmas.Int.{to_z-of_z}
use Rattle.marks.specs.Rules.{class_at}
use Rattle.rules.specs.States.{is_inbound, goal}
use Rattle.rules.specs.Steps.{state_at, call_refused, effect, full, message, deliver}
use Rattle.stepping.specs.Worlds.{world_of}
use Rattle.stepping.proofs.Limits.{inbound-receives}
use Rattle.stepping.proofs.Tests.{first-hit, first-miss}
use Rattle.stepping.proofs.state.State.offer.Goals as goal
use Rattle.table.proofs.Passing.{cond-none}

pub returns-in_default-clause-refused : goal.returns-in_default-clause-refused
unfolding call_refused
returns-in_default-clause-refused g c =
    let T = g.T.Table.lists c.args.table.now in
    let W = world_of c.args.self.now c.args.memory.now in
    let n = c.args.signal in
    let none = rw c.from-number.ensures at c.in_default.ensures in
    let out : is_inbound (class_at T n) ≡ false = cond-none (is_inbound (class_at T n)) (goal T n) (sym none) in
    ap (λ k. Some (state_at 19 k)) c.from-number.ensures ∙ first-hit (not (is_inbound (class_at T n))) (state_at 19 n) ((full W (goal T n), state_at 21 (goal T n)) ∷ []) (ap not out)

pub is_full-requires : goal.is_full-requires
is_full-requires g c =
    let r = inbound-receives (g.T.Table.lists c.args.table.now) c.args.self.now c.args.memory.now c.from-number.result c.in-Some.p c.requires c.in-Some.ensures in
    r.there

pub overflow_cast-signal : goal.overflow_cast-signal
overflow_cast-signal g c =
    let r = inbound-receives (g.T.Table.lists c.args.table.now) c.args.self.now c.args.memory.now c.from-number.result c.in-Some.p c.requires c.in-Some.ensures in
    omega (arith, r.signal, c.from-number.ensures)

pub deliver-requires-clause-there : goal.deliver-requires-clause-there
deliver-requires-clause-there g c =
    let r = inbound-receives (g.T.Table.lists c.args.table.now) c.args.self.now c.args.memory.now c.from-number.result c.in-Some.p c.requires c.in-Some.ensures in
    r.there

pub deliver-requires-clause-places : goal.deliver-requires-clause-places
deliver-requires-clause-places g c =
    let r = inbound-receives (g.T.Table.lists c.args.table.now) c.args.self.now c.args.memory.now c.from-number.result c.in-Some.p c.requires c.in-Some.ensures in
    r.places

pub deliver-requires-clause-room : goal.deliver-requires-clause-room
deliver-requires-clause-room g c =
    let r = inbound-receives (g.T.Table.lists c.args.table.now) c.args.self.now c.args.memory.now c.from-number.result c.in-Some.p c.requires c.in-Some.ensures in
    sym (c.if-is_full.ensures c.args.memory.now r.places)

pub returns-then-is_full-clause-refused : goal.returns-then-is_full-clause-refused
unfolding call_refused
returns-then-is_full-clause-refused g c =
    let T = g.T.Table.lists c.args.table.now in
    let W = world_of c.args.self.now c.args.memory.now in
    let n = c.args.signal in
    let some = rw c.from-number.ensures at c.in-Some.ensures in
    let r = inbound-receives T c.args.self.now c.args.memory.now n c.in-Some.p c.requires some in
    let f : full W (goal T n) ≡ true = ap (full W) (sym r.goal) ∙ sym (c.if-is_full.ensures c.args.memory.now r.places) in
    ap (λ k. Some (state_at 21 k)) r.goal
    ∙ first-hit (full W (goal T n)) (state_at 21 (goal T n)) [] f
    ∙ first-miss (not (is_inbound (class_at T n))) (state_at 19 n) ((full W (goal T n), state_at 21 (goal T n)) ∷ []) (ap not r.joins)

pub returns-clause-refused : goal.returns-clause-refused
unfolding call_refused
returns-clause-refused g c =
    let T = g.T.Table.lists c.args.table.now in
    let W = world_of c.args.self.now c.args.memory.now in
    let n = c.args.signal in
    let some = rw c.from-number.ensures at c.in-Some.ensures in
    let r = inbound-receives T c.args.self.now c.args.memory.now n c.in-Some.p c.requires some in
    let f : full W (goal T n) ≡ false = ap (full W) (sym r.goal) ∙ sym (c.if-is_full.ensures c.args.memory.now r.places) in
    first-miss (full W (goal T n)) (state_at 21 (goal T n)) [] f
    ∙ first-miss (not (is_inbound (class_at T n))) (state_at 19 n) ((full W (goal T n), state_at 21 (goal T n)) ∷ []) (ap not r.joins)

pub returns-clause-world : goal.returns-clause-world
unfolding effect
returns-clause-world g c =
    let T = g.T.Table.lists c.args.table.now in
    let some = rw c.from-number.ensures at c.in-Some.ensures in
    let r = inbound-receives T c.args.self.now c.args.memory.now c.args.signal c.in-Some.p c.requires some in
    let f : SFits w16 c.args.value = search rules in
    let w = rw (to_z-of_z w16 c.args.value f) at c.deliver.ensures.world in
    w ∙ ap (λ q. deliver (world_of c.args.self.now c.args.memory.now) q (message c.args.signal c.args.value)) r.goal
