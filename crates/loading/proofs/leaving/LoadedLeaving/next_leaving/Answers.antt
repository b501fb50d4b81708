use Rattle.std.proofs.Common.{◌≡◌, ◌-◌, take, Some, ◌∙◌, rules}
use Rattle.std.specs.List.{slice_get}
use Rattle.loading.proofs.Built.{known-above, known-before, known-there}
use Rattle.loading.proofs.Following.{next-above}
use Rattle.loading.specs.Indexing.{known}
use Rattle.loading.proofs.leaving.LoadedLeaving.next_leaving.Goals as goal
use Rattle.loading.proofs.leaving.LoadedLeaving.next_leaving.Goals.{After-next_leaving}

pub returns-then-k-eq0-clause-before : goal.returns-then-k-eq0-clause-before
returns-then-k-eq0-clause-before c =
    let l = c.args.self.now in
    let es = take l.edge_count l.edges in
    let s = c.args.site in
    rw (c.if-k-eq0.true, c.first_leaving.ensures es l.indexed) (known-before es s.process s.location 0)

told : (c : After-next_leaving) → c.next_leaving.result ≡ known (take c.args.self.now.edge_count c.args.self.now.edges) c.args.site.process c.args.site.location c.args.k
told c =
    let l = c.args.self.now in
    let es = take l.edge_count l.edges in
    let e = c.in-Some.edge in
    let s = c.args.site in
    let from = c.start.result in
    let there : slice_get es (c.args.k - 1) ≡ Some e = search rules in
    c.next_leaving.ensures es e l.indexed there ∙ known-there es e from.process from.location s.process s.location c.args.k c.start.ensures.process c.start.ensures.location c.if-eq.ensures c.if-k-eq0.false

pub returns-in-Some-clause-above : goal.returns-in-Some-clause-above
returns-in-Some-clause-above c =
    let l = c.args.self.now in
    let s = c.args.site in
    rw (told c) (known-above (take l.edge_count l.edges) s.process s.location c.args.k)

pub returns-in-Some-clause-before : goal.returns-in-Some-clause-before
returns-in-Some-clause-before c =
    let l = c.args.self.now in
    let s = c.args.site in
    rw (told c) (known-before (take l.edge_count l.edges) s.process s.location c.args.k)

pub returns-in_default-clause-before : goal.returns-in_default-clause-before
returns-in_default-clause-before c =
    let l = c.args.self.now in
    let s = c.args.site in
    next-above (take l.edge_count l.edges) s.process s.location c.args.k

pub returns-in_default-2-clause-before : goal.returns-in_default-2-clause-before
returns-in_default-2-clause-before c =
    let l = c.args.self.now in
    let s = c.args.site in
    next-above (take l.edge_count l.edges) s.process s.location c.args.k
