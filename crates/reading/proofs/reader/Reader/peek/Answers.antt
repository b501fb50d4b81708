use Rattle.std.proofs.Common.{◌≡◌, ◌-◌, ◌*◌, ◌/◌, ◌%◌, ◌^◌, refl, sym, ◌∙◌, arith, add-zero}
use lib.Bits.{bit_and}
use Rattle.reading.specs.Formats.{number}
use Rattle.reading.proofs.Numbers.{number-window, number-below, masked}
use Rattle.reading.proofs.reader.Reader.peek.Goals as goal

pub returns : goal.returns
returns c =
    let bs = c.args.self.now.bytes.now in
    let p = c.args.self.now.place in
    let w = c.args.width in
    let r = 24 - p % 8 - w in
    let m = masked (c.window.result / 2 ^ r) w (omega arith) in
    let small = c.window.ensures.bytes in
    let e = number-window bs p w r _ _ _ (omega arith) refl refl refl (rw add-zero at (small 0 (omega arith))) (small 1 (omega arith)) (small 2 (omega arith)) in
    let v : bit_and (c.window.result / 2 ^ r) (1 * 2 ^ w % 4294967296 - 1) ≡ number bs p w = m ∙ rw c.window.ensures.value (sym e) in
    record { value = v; bound = rw v (number-below bs p w) }
