use Rattle.std.proofs.Common.{◌≡◌, ◌+◌, ◌*◌, ◌/◌, ◌-◌, ◌<◌, ◌≤◌, length, arith}
use Rattle.std.proofs.lemmas.Bool.Decides.{nat_tests}
use Rattle.reading.proofs.AtOnce.{signal_whole}
use Rattle.reading.proofs.reader.Reader.whole_signal.Goals as goal
use Rattle.reading.proofs.reader.Reader.whole_signal.Goals.{then-class, else-class}

pub returns : goal.returns
returns c =
    let s = c.args.self.now in
    let w = c.peek-word.result in
    let room : s.place + 6 ≤ 8 * length s.bytes.now = grind (arith, nat_tests) in
    let near : w / 8 ≤ 1 → c.if-class.most ≡ c.args.processes - 1 = λ h. elim c.if-class.branch [ then-class u ↦ omega arith | else-class u ↦ omega arith ] in
    let far : 1 < w / 8 → c.if-class.most ≡ 0 = λ h. elim c.if-class.branch [ then-class u ↦ omega arith | else-class u ↦ omega arith ] in
    signal_whole c.args.processes s.bytes.now s.place w c.if-class.most room c.peek-word.ensures.value c.if-class-2.false near far c.if-destination-most.false
