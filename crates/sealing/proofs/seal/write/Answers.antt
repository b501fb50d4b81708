use Rattle.std.proofs.Common.{Ok, Err}
use Rattle.reading.specs.Layout.{Contents}
use Rattle.sealing.proofs.Fitting.{answered, with-less, with-room}
use Rattle.sealing.proofs.seal.write.Goals as goal
use Rattle.writing.specs.declared.fault.WriteFault.TheVariants.{Processes, Table, Names, Short}

pub unreachable-requires : goal.unreachable-requires
unreachable-requires g c =
    let k : Contents = record { lists = g.T.Table.lists c.args.table.now; names = c.requires.0 } in
    answered k c.requires.2 c.args.names.now c.requires.1 c.args.output.now (Err Processes) (rw c.in-Err-Processes.field-0-is at c.in-Err-Processes.ensures.answer)

pub unreachable-requires-in-Err-Table : goal.unreachable-requires-in-Err-Table
unreachable-requires-in-Err-Table g c =
    let k : Contents = record { lists = g.T.Table.lists c.args.table.now; names = c.requires.0 } in
    answered k c.requires.2 c.args.names.now c.requires.1 c.args.output.now (Err (Table c.in-Err-Table.field-0-0)) (rw c.in-Err-Table.field-0-is at c.in-Err-Table.ensures.answer)

pub unreachable-requires-in-Err-Names : goal.unreachable-requires-in-Err-Names
unreachable-requires-in-Err-Names g c =
    let k : Contents = record { lists = g.T.Table.lists c.args.table.now; names = c.requires.0 } in
    answered k c.requires.2 c.args.names.now c.requires.1 c.args.output.now (Err (Names c.in-Err-Names.field-0-0)) (rw c.in-Err-Names.field-0-is at c.in-Err-Names.ensures.answer)

pub returns-in-Ok-clause-sheet : goal.returns-in-Ok-clause-sheet
returns-in-Ok-clause-sheet g c =
    let k : Contents = record { lists = g.T.Table.lists c.args.table.now; names = c.requires.0 } in
    let old = c.args.output.now in
    let h = c.in-Ok.ensures in
    let f = answered k c.requires.2 c.args.names.now c.requires.1 old (Ok c.in-Ok.size) h.answer in
    with-room k c.requires.2 c.args.names.now c.requires.1 old c.in-Ok.size c.write_sheet.new.output f h.sheet h.size h.beyond

pub returns-in-Err-Short-clause-size : goal.returns-in-Err-Short-clause-size
returns-in-Err-Short-clause-size g c =
    let k : Contents = record { lists = g.T.Table.lists c.args.table.now; names = c.requires.0 } in
    let f = answered k c.requires.2 c.args.names.now c.requires.1 c.args.output.now (Err (Short c.in-Err-Short.size)) (rw c.in-Err-Short.field-0-is at c.in-Err-Short.ensures.answer) in
    f.0

pub returns-in-Err-Short-clause-sheet : goal.returns-in-Err-Short-clause-sheet
returns-in-Err-Short-clause-sheet g c =
    let k : Contents = record { lists = g.T.Table.lists c.args.table.now; names = c.requires.0 } in
    let old = c.args.output.now in
    let h = c.in-Err-Short.ensures in
    let f = answered k c.requires.2 c.args.names.now c.requires.1 old (Err (Short c.in-Err-Short.size)) (rw c.in-Err-Short.field-0-is at h.answer) in
    with-less k c.requires.2 c.args.names.now c.requires.1 old c.in-Err-Short.size c.write_sheet.new.output f h.refused
