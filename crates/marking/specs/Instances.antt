-- Instances as bits of words, one word for each location: location l of process p is 16 * p + l, variables have the low eight bits, timers the high eight.
--   Fits i         there is a bit for the instance i
--   has ws i       the words ws have the instance i
--   given ss n     the signal n is one of those in ss
--   holds N i      the marking N has the instance i
--   unset n ws     how many of the first n bits of the words are not set
use Rattle.std.specs.Prelude.{ℕ, ◌-◌, ◌/◌, ◌%◌, ◌<◌, Bool, false, cond, not, List, nat_lt, slice_index, slice_index_or}
use Rattle.marking.specs.declared.instance.Instance.{Instance}
use Rattle.marks.specs.Rules.{Marking}
use Rattle.marks.specs.Words.{bit, one, sum_below}

pub record Fits (i : Instance) : Type 0 where
  pub site : i.site < 128
  pub index : i.index < 16

abbrev pub has : List ℕ → Instance → Bool
has ws i = bit (slice_index ws i.site) i.index

abbrev pub given : List Bool → ℕ → Bool
given ss n = slice_index_or ss n false

unfoldable pub holds : Marking → Instance → Bool
holds N i = cond (nat_lt i.index 8) (N.variable (i.site / 16) (i.site % 16) i.index) (N.timer (i.site / 16) (i.site % 16) (i.index - 8))

unfoldable pub unset : ℕ → List ℕ → ℕ
unset n ws = sum_below n (λ k. one (not (bit (slice_index ws (k / 16)) (k % 16))))
