use Rattle.std.proofs.Common.{◌≡◌, ◌+◌, ◌*◌, ◌/◌, length, arith}
use Rattle.reading.proofs.Sizes.{before_fill, ends-before_fill}
use Rattle.reading.specs.Opening.{names_byte}
use Rattle.writing.specs.Written.{needed}
use Rattle.writing.proofs.Joins.{writes_join}
use Rattle.writing.proofs.Sheets.{sheet-fields}
use Rattle.writing.proofs.Tables.{narrow-header}
use Rattle.writing.proofs.write.put_sheet.Goals as goal

pub header-requires-clause-narrow : goal.header-requires-clause-narrow
header-requires-clause-narrow g c = rw c.counts.ensures (narrow-header (g.T.Table.lists c.args.table.now) c.requires.limits)

pub copy-requires : goal.copy-requires
unfolding before_fill
copy-requires g c =
    let T = g.T.Table.lists c.args.table.now in
    let header = rw c.counts.ensures at c.header.ensures.writes in
    let before = writes_join header (writes_join c.processes.ensures.writes (writes_join (c.signals.ensures.writes (length T.processes)) (writes_join c.edges.ensures.writes c.terms.ensures.writes))) in
    let at : c.fill.new.self.place ≡ 8 * names_byte T = omega (arith, before.place, ends-before_fill T c.processes.ensures.fits) in
    omega (arith, before.size, c.fill.ensures.writes.size, c.requires.room)

pub returns-clause-writes : goal.returns-clause-writes
unfolding before_fill
returns-clause-writes g c = λ texts e.
    let T = g.T.Table.lists c.args.table.now in
    let header = rw c.counts.ensures at c.header.ensures.writes in
    let before = writes_join header (writes_join c.processes.ensures.writes (writes_join (c.signals.ensures.writes (length T.processes)) (writes_join c.edges.ensures.writes c.terms.ensures.writes))) in
    let at : c.fill.new.self.place ≡ 8 * names_byte T = omega (arith, before.place, ends-before_fill T c.processes.ensures.fits) in
    let byte : 8 * (c.fill.new.self.place / 8) ≡ c.fill.new.self.place = omega arith in
    let end : c.fill.new.self.place + 8 * length c.args.names.now ≡ 8 * needed T c.args.names.now = omega arith in
    let names = rw (byte, end) at c.copy.ensures in
    rw (sheet-fields T texts, ← e) (writes_join before (writes_join c.fill.ensures.writes names))
