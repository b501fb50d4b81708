use Rattle.std.proofs.Common.{◌∙◌, rules}
use Rattle.std.specs.List.{slice_get}
use Rattle.rules.specs.Steps.{restless, call_refused}
use Rattle.stepping.specs.Faults.{state_refusal}
use Rattle.stepping.specs.Worlds.{world_of}
use Rattle.stepping.proofs.Worlds.{answer_each, told-each}
use Rattle.table.specs.Examination.{answer_at}
use Rattle.stepping.proofs.state.State.check_rests.Goals as goal

pub returns : goal.returns
unfolding call_refused
returns g c =
    let T = g.T.Table.lists c.args.table.now in
    let s = c.args.self.now in
    let m = c.args.memory.now in
    let f = restless T in
    c.first_fault.ensures state_refusal (λ i. answer_at f i (slice_get (world_of s m).processes i)) (λ i r l k. let q = c.requires.places i l in search (rules, answer_each s m f i l)) ∙ told-each s m f
