use Rattle.std.proofs.Common.{◌+◌, ◌*◌, ◌≤◌, length, arith}
use Rattle.std.proofs.lemmas.Bool.Decides.{nat_tests}
use Rattle.reading.proofs.AtOnce.{head_whole}
use Rattle.reading.proofs.reader.Reader.whole_head.Goals as goal

pub returns-clause-reads : goal.returns-clause-reads
returns-clause-reads c =
    let s = c.args.self.now in
    let room : s.place + 16 ≤ 8 * length s.bytes.now = grind (arith, nat_tests) in
    head_whole s.bytes.now s.place c.peek-word.result room c.peek-word.ensures.value (omega arith) (omega arith) (omega arith)
