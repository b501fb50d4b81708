use Rattle.std.proofs.Common.{ap, arith}
use Rattle.reading.proofs.Loads.{unpacked, edge-loaded}
use Rattle.reading.proofs.reader.Reader.edge_here.Goals as goal

pub returns : goal.returns
returns c =
    let bs = c.args.self.now.bytes.now in
    let p = c.args.self.now.place in
    let e = edge-loaded bs p (omega (arith, c.in-Some.ensures.room)) in
    let w = ap unpacked c.in-Some.ensures.value in
    cc
