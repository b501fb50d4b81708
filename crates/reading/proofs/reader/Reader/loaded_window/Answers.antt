use Rattle.std.proofs.Common.{◌≡◌, ℕ, ◌+◌, ◌/◌, ◌<◌, get_or, arith, rules, subst}
use Rattle.reading.proofs.Loads.{chunk}
use Rattle.reading.proofs.reader.Reader.loaded_window.Goals as goal

pub returns : goal.returns
returns c =
    let bs = c.args.self.now.bytes.now in
    let p = c.args.self.now.place in
    let xs = c.in_ok-a.field-0.now in
    let f = c.in_ok-a.ensures in
    let g = c.in_ok-get.ensures in
    let same : (k : ℕ) → k < 4 → get_or xs k 0 ≡ get_or bs (p / 8 + k) 0 = λ k h. chunk 4 bs c.in_ok-get.field-0.now xs (p / 8) k g.lookup.0.2 f.cases.same h in
    let small : (k : ℕ) → k < 4 → get_or xs k 0 < 256 = λ k h. search rules in
    let z : p / 8 + 0 ≡ p / 8 = omega arith in
    let s0 = rw z at (same 0 (omega arith)) in
    let s1 = same 1 (omega arith) in
    let s2 = same 2 (omega arith) in
    let t3 = small 3 (omega arith) in
    let t2 = small 2 (omega arith) in
    let t1 = small 1 (omega arith) in
    record {
      value = omega arith;
      bytes = λ k h. subst (λ (n : ℕ). n < 256) (same k (omega arith)) (small k (omega arith));
    }
