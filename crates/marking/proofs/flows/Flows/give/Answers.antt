use Rattle.std.proofs.Common.{arith}
use Rattle.marking.specs.Searching.{state}
use Rattle.marking.proofs.Giving.{gave}
use Rattle.marking.proofs.flows.Flows.give.Goals as goal

pub returns-then-not-search-signal-clause-grew : goal.returns-then-not-search-signal-clause-grew
returns-then-not-search-signal-clause-grew g c =
    let s = c.args.search.now in
    gave (g.T.Table.lists c.args.table.now) c.args.signal (state s) (state c.store.new.search) (omega (arith, s.known, c.if-signal-lt-SIGNALS.true))
    c.store.ensures.same c.store.ensures.taken c.store.ensures.grew
