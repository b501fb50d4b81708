use Rattle.std.proofs.Common.{◌≡◌, ◌-◌, ◌*◌, ◌/◌, ◌%◌, ◌^◌, arith}
use lib.Bits.{bit_and}
use Rattle.std.proofs.lemmas.Nat.{one_shl, and_mask, mod_below, pow_pos}
use Rattle.reading.proofs.load.part.Goals as goal

pub returns : goal.returns
returns c =
    let w = c.args.width in
    let n = c.args.word / 2 ^ (60 - c.args.at - w) in
    let v : bit_and n (1 * 2 ^ w % 18446744073709551616 - 1) ≡ n % 2 ^ w = rw (one_shl w 64 (omega arith)) (and_mask n w) in
    record { value = v; bound = rw v (mod_below n (2 ^ w) (pow_pos w)) }
