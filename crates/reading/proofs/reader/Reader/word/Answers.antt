use Rattle.std.proofs.Common.{◌≡◌, ℕ, ◌+◌, ◌-◌, ◌*◌, ◌/◌, ◌%◌, ◌^◌, ◌<◌, get_or, sym, ap, ◌∙◌, arith, rules}
use Rattle.std.proofs.lemmas.Nat.{and_mask}
use Rattle.reading.proofs.Loads.{chunk, loaded, number-loaded}
use Rattle.reading.proofs.reader.Reader.word.Goals as goal

pub returns : goal.returns
returns c =
    let bs = c.args.self.now.bytes.now in
    let p = c.args.self.now.place in
    let xs = c.in_ok-a.field-0.now in
    let f = c.in_ok-a.ensures in
    let g = c.in_ok-get.ensures in
    let same : (k : ℕ) → k < 9 → get_or xs k 0 ≡ get_or bs (p / 8 + k) 0 = λ k h. chunk 9 bs c.in_ok-get.field-0.now xs (p / 8) k g.lookup.0.2 f.cases.same h in
    let small : (k : ℕ) → k < 9 → get_or xs k 0 < 256 = λ k h. search rules in
    let w : c.from.result * 256 + c.from-2.result ≡ loaded xs = omega arith in
    record {
      value =
          and_mask ((c.from.result * 256 + c.from-2.result) / 2 ^ (12 - p % 8)) 60 ∙
          ap (λ k. k / 2 ^ (12 - p % 8) % 2 ^ 60) w ∙ sym (number-loaded bs xs p same small);
      room = omega (arith, g.lookup.0.1);
    }
