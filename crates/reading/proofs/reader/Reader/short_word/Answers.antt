use Rattle.std.proofs.Common.{◌≡◌, ℕ, ◌+◌, ◌-◌, ◌/◌, ◌%◌, ◌^◌, ◌<◌, get_or, sym, ap, ◌∙◌, arith, rules}
use Rattle.std.proofs.lemmas.Nat.{and_mask, mod_below}
use Rattle.reading.proofs.Loads.{chunk, loaded_short, number-loaded_short}
use Rattle.reading.proofs.reader.Reader.short_word.Goals as goal

pub returns : goal.returns
returns c =
    let bs = c.args.self.now.bytes.now in
    let p = c.args.self.now.place in
    let xs = c.in_ok-a.field-0.now in
    let f = c.in_ok-a.ensures in
    let g = c.in_ok-get.ensures in
    let same : (k : ℕ) → k < 4 → get_or xs k 0 ≡ get_or bs (p / 8 + k) 0 = λ k h. chunk 4 bs c.in_ok-get.field-0.now xs (p / 8) k g.lookup.0.2 f.cases.same h in
    let small : (k : ℕ) → k < 4 → get_or xs k 0 < 256 = λ k h. search rules in
    let w : c.from_be_bytes-window.result ≡ loaded_short xs = omega arith in
    let m = and_mask (c.from_be_bytes-window.result / 2 ^ (12 - p % 8)) 20 in
    record {
      value = m ∙ ap (λ k. k / 2 ^ (12 - p % 8) % 2 ^ 20) w ∙ sym (number-loaded_short bs xs p same small);
      room = omega (arith, g.lookup.0.1);
      bound = rw m (mod_below (c.from_be_bytes-window.result / 2 ^ (12 - p % 8)) (2 ^ 20) (omega arith));
    }
