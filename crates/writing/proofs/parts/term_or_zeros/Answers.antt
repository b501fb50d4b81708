use Rattle.std.proofs.Common.{rules}
use Rattle.reading.specs.Rows.{no_term}
use Rattle.writing.proofs.Rows.{read-or}
use Rattle.writing.proofs.parts.term_or_zeros.Goals as goal

pub returns-clause-value : goal.returns-clause-value
returns-clause-value g c =
    read-or (g.T.Table.lists c.args.table.now).terms c.args.i no_term c.term.result _ c.unwrap_or_default.result c.term.ensures.value c.unwrap_or_default.ensures (λ e. search rules)
