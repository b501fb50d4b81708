-- A process that is not bad fits its fields.
use Rattle.std.proofs.Common.{◌≡◌, ℕ, ◌<◌, ◌≤◌, Bool, true, false, List, length, get_or, sym, refl, ◌∙◌, arith}
use Rattle.std.specs.List.{list_any}
use Rattle.std.proofs.lemmas.Bool.Decides.{nat_tests}
use Rattle.std.proofs.lemmas.Bool.{false≢true}
use Rattle.std.proofs.lemmas.List.Folds.{list_any_at}
use Rattle.reading.specs.Layout.{timer_format}
use Rattle.table.specs.Examination.{bad_process, too_long}
use Rattle.table.specs.Lists.{Proc}
use Rattle.table.specs.declared.record.Timer.{Timer}
use Rattle.table.specs.declared.record.Timer.TheVariants.{Off, On}
use Rattle.writing.specs.Writes.{AreNarrow}

pub record Good (p : Proc) : Type 0 where
  pub some : 1 ≤ p.locations
  pub locations : p.locations ≤ 16
  pub variables : p.variables ≤ 8
  pub timers : p.timers ≤ 8
  pub first : p.first < p.locations
  pub short : list_any too_long p.settings ≡ false

pub good_process : (p : Proc) → bad_process p ≡ false → Good p
good_process p e = record {
  some = grind (arith, nat_tests);
  locations = grind (arith, nat_tests);
  variables = grind (arith, nat_tests);
  timers = grind (arith, nat_tests);
  first = grind (arith, nat_tests);
  short = grind (arith, nat_tests);
}

narrow-ticks : (t : Timer) → too_long t ≡ false → AreNarrow (timer_format.writes t)
unfolding timer_format
narrow-ticks Off e = (omega arith, (omega arith, tt))
narrow-ticks (On n) e = (omega arith, (grind (arith, nat_tests), tt))

pub narrow-timer : (xs : List Timer) (k : ℕ) (d : Timer) → list_any too_long xs ≡ false → k < length xs → AreNarrow (timer_format.writes (get_or xs k d))
narrow-timer xs k d none lt = narrow-ticks (get_or xs k d) (go (too_long (get_or xs k d)) refl)
  where
    go : (b : Bool) → too_long (get_or xs k d) ≡ b → b ≡ false
    go false e = refl
    go true e = absurd (false≢true (sym none ∙ list_any_at too_long xs k d lt e))
