use Rattle.std.proofs.Common.{◌≡◌, true, get_or}
use Rattle.marking.specs.Instances.{holds}
use Rattle.marking.specs.Leads.{at_start}
use Rattle.marking.specs.Searching.{state}
use Rattle.marks.proofs.Good.{good}
use Rattle.marking.proofs.Carrying.{tested, nothing, carry-passed, carry-fed, read-followed, unread-followed}
use Rattle.marking.proofs.Growing.{grew-then}
use Rattle.marking.proofs.flows.Flows.carry.Goals as goal

pub returns-then-bit-clause-followed : goal.returns-then-bit-clause-followed
returns-then-bit-clause-followed g c e h =
    let T = g.T.Table.lists c.args.table.now in
    let stands = c.requires.flowing.stand c.args.k e nothing c.requires.there h in
    read-followed T (good T c.requires.flowing.good) c.args.k e h c.args.index c.requires.index (get_or c.args.self.now.flows.now c.args.k nothing) stands
    (state c.pass.new.self) (state c.feed.new.search) (c.pass.ensures.passed T e stands) c.feed.ensures.grew c.feed.ensures.reached

pub returns-then-bit-clause-grew : goal.returns-then-bit-clause-grew
returns-then-bit-clause-grew g c e h =
    let T = g.T.Table.lists c.args.table.now in
    let G = good (g.T.Table.lists c.args.table.now) c.requires.flowing.good in
    let f = get_or c.args.self.now.flows.now c.args.k nothing in
    let stands = c.requires.flowing.stand c.args.k e nothing c.requires.there h in
    grew-then T (λ N. holds N (at_start e c.args.index) ≡ true) (state c.args.search.now) (state c.pass.new.self) (state c.feed.new.search)
    (carry-passed T G c.args.k e h c.args.index c.requires.index f stands (state c.args.search.now) (state c.pass.new.self) (c.pass.ensures.grew T e stands))
    (carry-fed T G c.args.k e h c.args.index c.requires.index f stands (state c.pass.new.self) (state c.feed.new.search)
    (tested f.read c.into.result c.args.index c.bit.result _ c.bit.ensures.value c.into.ensures c.if-bit.true) c.feed.ensures.grew)

pub returns-else-bit-clause-grew : goal.returns-else-bit-clause-grew
returns-else-bit-clause-grew g c e h =
    let T = g.T.Table.lists c.args.table.now in
    let stands = c.requires.flowing.stand c.args.k e nothing c.requires.there h in
    carry-passed T (good T c.requires.flowing.good) c.args.k e h c.args.index c.requires.index (get_or c.args.self.now.flows.now c.args.k nothing) stands
    (state c.args.search.now) (state c.pass.new.self) (c.pass.ensures.grew T e stands)

pub returns-else-bit-clause-followed : goal.returns-else-bit-clause-followed
returns-else-bit-clause-followed g c e h =
    let T = g.T.Table.lists c.args.table.now in
    let f = get_or c.args.self.now.flows.now c.args.k nothing in
    let stands = c.requires.flowing.stand c.args.k e nothing c.requires.there h in
    unread-followed T (good T c.requires.flowing.good) c.args.k e h c.args.index c.requires.index f stands (state c.pass.new.self) (c.pass.ensures.passed T e stands)
    (tested f.read c.into.result c.args.index c.bit.result _ c.bit.ensures.value c.into.ensures c.if-bit.false)
