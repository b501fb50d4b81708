-- What a signal's six bits, and the sixteen of a timer or of the head of a process, give at once, where nothing is wrong with them.
use Rattle.std.proofs.Common.{◌≡◌, ℕ, ◌+◌, ◌-◌, ◌*◌, ◌/◌, ◌%◌, ◌<◌, ◌≤◌, Bool, true, false, cond, leb, List, length, refl, ap, ◌∙◌, arith}
use Rattle.std.proofs.lemmas.Bool.{leb-true, leb-false}
use Rattle.reading.specs.Formats.{got, field, number}
use Rattle.reading.specs.Layout.{head_format, signal_format, timer_format}
use Rattle.reading.proofs.Chains.{after-got}
use Rattle.reading.proofs.Numbers.{number-split, number-below}
use Rattle.reading.proofs.Taken.{plain-room, taken_from}
use Rattle.reading.specs.declared.records.Head.{Head}
use Rattle.table.specs.declared.record.Signal.{Signal}
use Rattle.table.specs.declared.record.Timer.TheVariants.{Off, On}

destination-whole : (b : Bool) (n : ℕ) (bs : List ℕ) (q : ℕ) → q + 3 ≤ 8 * length bs → number bs q 3 ≤ cond b (n - 1) 0 →
    (cond b (field 3 0 (n - 1) 3) (field 3 0 0 4)).reads bs q ≡ got (number bs q 3) (q + 3)
destination-whole true n bs q room h = taken_from 3 0 (n - 1) _ bs q room (omega arith) h
destination-whole false n bs q room h = taken_from 3 0 0 _ bs q room (omega arith) h

-- m is the most that a destination of class c may be
most-is : (b : Bool) (n m c d : ℕ) → leb c 1 ≡ b → (c ≤ 1 → m ≡ n - 1) → (1 < c → m ≡ 0) → d ≤ m → d ≤ cond b (n - 1) 0
most-is true n m c d e near far h = let z = near (leb-true c 1 e) in omega arith
most-is false n m c d e near far h = let z = far (leb-false c 1 e) in omega arith

pub signal_whole : (n : ℕ) (bs : List ℕ) (p w m : ℕ) → p + 6 ≤ 8 * length bs → w ≡ number bs p 6 → w / 8 ≤ 3 → (w / 8 ≤ 1 → m ≡ n - 1) → (1 < w / 8 → m ≡ 0) → w % 8 ≤ m →
    (signal_format n).reads bs p ≡ got (record { class = w / 8; destination = w % 8 }) (p + 6)
unfolding signal_format
signal_whole n bs p w m room is class near far low-enough =
    let destination : w % 8 ≤ cond (leb (w / 8) 1) (n - 1) 0 = most-is (leb (w / 8) 1) n m (w / 8) (w % 8) refl near far low-enough in
    let split = number-split bs p 3 3 in
    let low = number-below bs (p + 3) 3 in
    let c : number bs p 3 ≡ w / 8 = omega arith in
    let d : number bs (p + 3) 3 ≡ w % 8 = omega arith in
    let e : p + 3 + 3 ≡ p + 6 = omega arith in
    let made : ℕ → ℕ → Signal = λ c d. record { class = c; destination = d } in
    rw (
      taken_from 3 0 3 _ bs p (omega arith) (omega arith) (omega arith),
      after-got,
      destination-whole (leb (number bs p 3) 1) n bs (p + 3) (omega arith) (rw (c, d) destination),
      after-got,
    )
    (ap (λ k. got (made k (number bs (p + 3) 3)) (p + 3 + 3)) c ∙ ap (λ k. got (made (w / 8) k) (p + 3 + 3)) d ∙ ap (λ k. got (made (w / 8) (w % 8)) k) e)

module _ (bs : List ℕ) (p w : ℕ) (room : p + 16 ≤ 8 * length bs) (is : w ≡ number bs p 16) where
  pub timer_off : w ≡ 0 → timer_format.reads bs p ≡ got Off (p + 16)
  unfolding timer_format
  timer_off h =
      let split = number-split bs p 1 15 in
      let on : number bs p 1 ≡ 0 = omega arith in
      let n : number bs (p + 1) 15 ≡ 0 = omega arith in
      let e : p + 1 + 15 ≡ p + 16 = omega arith in
      rw (plain-room bs p 1 _ (omega arith) (omega arith), after-got, on, taken_from 15 0 0 _ bs (p + 1) (omega arith) (omega arith) (omega arith), after-got) (ap (λ k. got Off k) e)

  pub timer_on : 32768 ≤ w → timer_format.reads bs p ≡ got (On (w - 32768)) (p + 16)
  unfolding timer_format
  timer_on h =
      let split = number-split bs p 1 15 in
      let low = number-below bs (p + 1) 15 in
      let high = number-below bs p 1 in
      let on : number bs p 1 ≡ 1 = omega arith in
      let n : number bs (p + 1) 15 ≡ w - 32768 = omega arith in
      let e : p + 1 + 15 ≡ p + 16 = omega arith in
      rw (plain-room bs p 1 _ (omega arith) (omega arith), after-got, on, plain-room bs (p + 1) 15 _ (omega arith) (omega arith), after-got)
      (ap (λ k. got (On k) (p + 1 + 15)) n ∙ ap (λ k. got (On (w - 32768)) k) e)

pub head_whole : (bs : List ℕ) (p w : ℕ) → p + 16 ≤ 8 * length bs → w ≡ number bs p 16 → w / 256 % 16 ≤ 8 → w / 16 % 16 ≤ 8 → w % 16 ≤ w / 4096 →
    head_format.reads bs p ≡ got (record { last = w / 4096; variables = w / 256 % 16; timers = w / 16 % 16; first = w % 16 }) (p + 16)
unfolding head_format
head_whole bs p w room is v t f =
    let q1 = p + 4 in
    let q2 = q1 + 4 in
    let q3 = q2 + 4 in
    let s1 = number-split bs p 4 12 in
    let s2 = number-split bs q1 4 8 in
    let s3 = number-split bs q2 4 4 in
    let b1 = number-below bs q1 12 in
    let b2 = number-below bs q2 8 in
    let b3 = number-below bs q3 4 in
    let b4 = number-below bs q2 4 in
    let b5 = number-below bs q1 4 in
    let n1 : number bs p 4 ≡ w / 4096 = omega arith in
    let r1 : number bs q1 12 ≡ w % 4096 = omega arith in
    let n2 : number bs q1 4 ≡ w / 256 % 16 = omega arith in
    let r2 : number bs q2 8 ≡ w % 256 = omega arith in
    let n3 : number bs q2 4 ≡ w / 16 % 16 = omega arith in
    let n4 : number bs q3 4 ≡ w % 16 = omega arith in
    let e : q3 + 4 ≡ p + 16 = omega arith in
    let made : ℕ → ℕ → ℕ → ℕ → Head = λ a b c d. record { last = a; variables = b; timers = c; first = d } in
    rw (
      plain-room bs p 4 _ (omega arith) (omega arith),
      after-got,
      taken_from 4 0 8 _ bs q1 (omega arith) (omega arith) (omega arith),
      after-got,
      taken_from 4 0 8 _ bs q2 (omega arith) (omega arith) (omega arith),
      after-got,
      taken_from 4 0 (number bs p 4) _ bs q3 (omega arith) (omega arith) (omega arith),
      after-got,
    )
    (ap (λ k. got (made k (number bs q1 4) (number bs q2 4) (number bs q3 4)) (q3 + 4)) n1 ∙ ap (λ k. got (made (w / 4096) k (number bs q2 4) (number bs q3 4)) (q3 + 4)) n2
    ∙ ap (λ k. got (made (w / 4096) (w / 256 % 16) k (number bs q3 4)) (q3 + 4)) n3 ∙ ap (λ k. got (made (w / 4096) (w / 256 % 16) (w / 16 % 16) k) (q3 + 4)) n4
    ∙ ap (λ k. got (made (w / 4096) (w / 256 % 16) (w / 16 % 16) (w % 16)) k) e)
