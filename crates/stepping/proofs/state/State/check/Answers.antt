use Rattle.std.proofs.Common.{Some, None, cond, length, sym, ap, ◌∙◌, rules}
use Rattle.std.specs.List.{slice_get}
use Rattle.std.specs.Option.{option_or}
use Rattle.rules.specs.Steps.{state_at, misplaced, state_refused}
use Rattle.stepping.specs.Faults.{state_refusal}
use Rattle.stepping.specs.Worlds.{world_of}
use Rattle.stepping.proofs.Worlds.{room-world_of, answer_each, told-each}
use Rattle.table.specs.Examination.{answer_at, first_at}
use Rattle.stepping.proofs.state.State.check.Goals as goal

pub returns-then-is_unlike : goal.returns-then-is_unlike
unfolding state_refused
returns-then-is_unlike g c =
    let W = world_of c.args.self.now c.args.memory.now in
    ap (λ b. option_or (cond b (Some (state_at 18 0)) None) (first_at (misplaced (g.T.Table.lists c.args.table.now) W.room) 0 W.processes)) (c.if-is_unlike.ensures c.args.memory.now)

pub returns : goal.returns
unfolding state_refused
returns g c =
    let T = g.T.Table.lists c.args.table.now in
    let s = c.args.self.now in
    let m = c.args.memory.now in
    let W = world_of s m in
    let f = misplaced T (length m) in
    c.first_fault.ensures state_refusal (λ i. answer_at f i (slice_get W.processes i)) (λ i r l k. search (rules, answer_each s m f i l))
    ∙ told-each s m f
    ∙ ap (λ n. first_at (misplaced T n) 0 W.processes) (sym (room-world_of s m))
    ∙ ap (λ b. option_or (cond b (Some (state_at 18 0)) None) (first_at (misplaced T W.room) 0 W.processes)) (c.if-is_unlike.ensures m)
