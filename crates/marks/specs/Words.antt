-- Marks as words of 16 bits, one for each location: variables have the low eight bits, timers the high eight.
--   bit w n           bit n of the word w is set
--   word_at ws p l    the word of location l of process p: the words ws have 16 for each of 8 processes
--   marks_in ws       the marks in the words
--   marking m         the marks in the words of m
--   first_bit s       the bit of the first instance of the sort s
--   is_marked s M p l n   M marks the instance n of the sort s at location l of process p
--   letter s          how the sort s is written
--   sum_below n f     f 0 + .. + f (n - 1)
--   one b             1 where b holds, else 0
--   total M           how many variables and timers are marked at the locations of 8 processes
use Rattle.std.specs.Prelude.{ℕ, zero, suc, ◌+◌, ◌*◌, ◌/◌, ◌%◌, ◌^◌, Bool, cond, ◌&&◌, List, codes, ◌==◌, nat_lt, slice_index}
use Rattle.marks.specs.Rules.{Marking}
use Rattle.marks.specs.declared.marks.Marks.{Marks}
use Rattle.marks.specs.declared.marks.Sort.{Sort}
use Rattle.marks.specs.declared.marks.Sort.TheVariants.{Variable, Timer}

unfoldable pub bit : ℕ → ℕ → Bool
bit w n = w / 2 ^ n % 2 == 1

abbrev pub word_at : List ℕ → ℕ → ℕ → ℕ
word_at ws p l = cond (nat_lt p 8 && nat_lt l 16) (slice_index ws (16 * p + l)) 0

abbrev pub marks_in : List ℕ → Marking
marks_in ws = record {
  variable = λ p l n. nat_lt n 8 && bit (word_at ws p l) n;
  timer = λ p l n. nat_lt n 8 && bit (word_at ws p l) (8 + n);
}

abbrev pub marking : Marks → Marking
marking m = marks_in m.words

abbrev pub first_bit : Sort → ℕ
first_bit Variable = 0
first_bit Timer = 8

abbrev pub is_marked : Sort → Marking → ℕ → ℕ → ℕ → Bool
is_marked Variable M = M.variable
is_marked Timer M = M.timer

abbrev pub letter : Sort → List ℕ
letter Variable = codes "x"
letter Timer = codes "t"

unfoldable pub sum_below : ℕ → (ℕ → ℕ) → ℕ
sum_below zero f = 0
sum_below (suc n) f = sum_below n f + f n

abbrev pub one : Bool → ℕ
one b = cond b 1 0

unfoldable pub total : Marking → ℕ
total M = sum_below 8 (λ p. sum_below 16 (λ l. sum_below 8 (λ n. one (M.variable p l n) + one (M.timer p l n))))
