use Rattle.std.proofs.Common.{FitsSigned, rules}
use Rattle.std.specs.Int.{w16}
use Rattle.std.proofs.lemmas.Int.{to_z-of_z}
use Rattle.reading.specs.Layout.{term_format}
use Rattle.writing.proofs.Joins.{writes_join}
use Rattle.writing.proofs.writer.Writer.term.Goals as goal

pub returns-clause-writes : goal.returns-clause-writes
unfolding term_format
returns-clause-writes c =
    let fits : FitsSigned w16 c.args.term.argument = search rules in
    writes_join c.put.ensures.writes (rw (to_z-of_z w16 c.args.term.argument fits) at c.integer.ensures.writes)
