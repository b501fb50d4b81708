use Rattle.std.proofs.Common.{length, take, arith}
use Rattle.reading.proofs.Inverse.{inverse}
use Rattle.writing.proofs.Sole.{bytes-taken, sole}
use Rattle.writing.proofs.Wholes.{drop-written, is-written, written-passed}
use Rattle.writing.proofs.write.write_sheet.Goals as goal

pub put_sheet-requires : goal.put_sheet-requires
put_sheet-requires g c =
    let passed = written-passed (g.T.Table.lists c.args.table.now) c.args.names.now (length c.args.output.now) c.in_ok-size.size c.in_ok-size.ensures in
    record { limits = passed.limits; edges = passed.edges; room = passed.fits }

pub returns-clause-sheet : goal.returns-clause-sheet
returns-clause-sheet g c =
    let T = g.T.Table.lists c.args.table.now in
    let area = c.args.names.now in
    let old = c.args.output.now in
    let passed = written-passed T area (length old) c.in_ok-size.size c.in_ok-size.ensures in
    is-written T area old c.put_sheet.new.bytes c.in_ok-size.size passed (λ i. omega (arith, c.type_inv.names i)) c.put_sheet.ensures.writes c.put_sheet.ensures.records

pub returns-clause-beyond : goal.returns-clause-beyond
returns-clause-beyond g c =
    let T = g.T.Table.lists c.args.table.now in
    let area = c.args.names.now in
    let old = c.args.output.now in
    let passed = written-passed T area (length old) c.in_ok-size.size c.in_ok-size.ensures in
    drop-written T area old c.put_sheet.new.bytes c.in_ok-size.size passed (λ i. omega (arith, c.type_inv.names i)) c.put_sheet.ensures.writes

pub returns-clause-inverse : goal.returns-clause-inverse
returns-clause-inverse g c = inverse (take c.in_ok-size.size c.put_sheet.new.bytes)

pub returns-clause-sole : goal.returns-clause-sole
returns-clause-sole g c =
    λ bs b h. sole (g.T.Table.lists c.args.table.now) c.args.names.now (take c.in_ok-size.size c.put_sheet.new.bytes) bs (bytes-taken c.in_ok-size.size c.put_sheet.new.bytes (λ i. omega (arith, c.type_inv.output i))) b (returns-clause-sheet g c) h
