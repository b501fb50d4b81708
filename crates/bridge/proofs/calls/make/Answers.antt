use Rattle.bridge.proofs.Booking.{unaltered, whole-after}
use Rattle.bridge.proofs.calls.make.Goals as goal

pub returns-in-0-clause-lent : goal.returns-in-0-clause-lent
returns-in-0-clause-lent c = whole-after c.declare_process.result c.args.book.now c.declare_process.new.self c.args.edges.now c.args.edges.now c.args.terms.now c.args.terms.now c.declare_process.ensures.whole c.declare_process.ensures.refused (unaltered c.declare_process.result c.args.edges.now) (unaltered c.declare_process.result c.args.terms.now)

pub returns-in-1-clause-lent : goal.returns-in-1-clause-lent
returns-in-1-clause-lent c = whole-after c.declare_signal.result c.args.book.now c.declare_signal.new.self c.args.edges.now c.args.edges.now c.args.terms.now c.args.terms.now c.declare_signal.ensures.whole c.declare_signal.ensures.refused (unaltered c.declare_signal.result c.args.edges.now) (unaltered c.declare_signal.result c.args.terms.now)

pub returns-in-2-clause-lent : goal.returns-in-2-clause-lent
returns-in-2-clause-lent c = whole-after c.enter_expression.result c.args.book.now c.enter_expression.new.self c.args.edges.now c.args.edges.now c.args.terms.now c.enter_expression.new.terms c.enter_expression.ensures.whole c.enter_expression.ensures.refused (unaltered c.enter_expression.result c.args.edges.now) c.enter_expression.ensures.untouched

pub returns-in-3-clause-lent : goal.returns-in-3-clause-lent
returns-in-3-clause-lent c = whole-after c.enter_edge.result c.args.book.now c.enter_edge.new.self c.args.edges.now c.enter_edge.new.edges c.args.terms.now c.args.terms.now c.enter_edge.ensures.whole c.enter_edge.ensures.refused c.enter_edge.ensures.untouched (unaltered c.enter_edge.result c.args.terms.now)

pub returns-in-4-clause-lent : goal.returns-in-4-clause-lent
returns-in-4-clause-lent c = whole-after c.change_edge.result c.args.book.now c.change_edge.new.self c.args.edges.now c.change_edge.new.edges c.args.terms.now c.args.terms.now c.change_edge.ensures.whole c.change_edge.ensures.refused c.change_edge.ensures.untouched (unaltered c.change_edge.result c.args.terms.now)

pub returns-in-5-clause-lent : goal.returns-in-5-clause-lent
returns-in-5-clause-lent c = whole-after c.strike_edge.result c.args.book.now c.strike_edge.new.self c.args.edges.now c.strike_edge.new.edges c.args.terms.now c.args.terms.now c.strike_edge.ensures.whole c.strike_edge.ensures.refused c.strike_edge.ensures.untouched (unaltered c.strike_edge.result c.args.terms.now)

pub returns-in-6-clause-lent : goal.returns-in-6-clause-lent
returns-in-6-clause-lent c = whole-after c.mark.result c.args.book.now c.mark.new.self c.args.edges.now c.args.edges.now c.args.terms.now c.args.terms.now c.mark.ensures.whole c.mark.ensures.refused (unaltered c.mark.result c.args.edges.now) (unaltered c.mark.result c.args.terms.now)
