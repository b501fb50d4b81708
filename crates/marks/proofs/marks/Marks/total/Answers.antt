use Rattle.std.proofs.Common.{◌≡◌, ◌^◌, ◌<◌, get_or, sym, ap, ◌∙◌, arith, rules}
use Rattle.std.proofs.lemmas.Nat.{ones-le}
use Rattle.marks.specs.Words.{sum_below}
use Rattle.marks.proofs.Counting.{set-bits, sum-none, sum_more, ones-word, total-words}
use Rattle.marks.proofs.marks.Marks.total.Goals as goal

pub loop-word-init : goal.loop-word-init
loop-word-init c = (omega arith, sym (sum-none (λ i. set-bits (get_or c.args.self.now.words i 0))))

pub loop-word-preserved : goal.loop-word-preserved
loop-word-preserved c =
    let ws = c.args.self.now.words in
    let h : get_or c.args.self.now.words c.loop-word.word-index 0 < 2 ^ 16 = search rules in
    let m = sum_more c.loop-word.word-index (λ i. set-bits (get_or ws i 0)) in
    let o = ones-word (get_or ws c.loop-word.word-index 0) h in
    let l = ones-le 16 (get_or ws c.loop-word.word-index 0) h in
    (omega arith, omega arith)

pub returns : goal.returns
returns c =
    let ws = c.args.self.now.words in
    let t = total-words ws in
    let e : c.loop-word.word-index ≡ 128 = omega arith in
    record { value = c.loop-word.invariant.1 ∙ ap (λ n. sum_below n (λ i. set-bits (get_or ws i 0))) e ∙ t }
