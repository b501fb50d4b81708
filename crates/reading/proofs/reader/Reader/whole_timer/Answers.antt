use Rattle.std.proofs.Common.{◌+◌, ◌*◌, ◌≤◌, length, arith}
use Rattle.std.proofs.lemmas.Bool.Decides.{nat_tests}
use Rattle.reading.proofs.AtOnce.{timer_off, timer_on}
use Rattle.reading.proofs.reader.Reader.whole_timer.Goals as goal

pub returns-then-word-eq0 : goal.returns-then-word-eq0
returns-then-word-eq0 c =
    let s = c.args.self.now in
    let room : s.place + 16 ≤ 8 * length s.bytes.now = grind (arith, nat_tests) in
    timer_off s.bytes.now s.place c.peek-word.result room c.peek-word.ensures.value (omega arith)

pub returns : goal.returns
returns c =
    let s = c.args.self.now in
    let room : s.place + 16 ≤ 8 * length s.bytes.now = grind (arith, nat_tests) in
    timer_on s.bytes.now s.place c.peek-word.result room c.peek-word.ensures.value (omega arith)
