-- In a table within its limits, how long its lists are.
use Rattle.std.proofs.Common.{◌≡◌, ◌≤◌, false, length, None, arith}
use Rattle.std.proofs.lemmas.Bool.Decides.{nat_tests}
use Rattle.table.specs.Examination.{limits_refused, lists_refused, processes_refused, signals_refused, too_many}
use Rattle.table.specs.Lists.{Lists}
use Rattle.examination.proofs.Nearest.{passes-parts}
use Rattle.examination.proofs.Placed.{not-refused}

module _ (T : Lists) (good : limits_refused T ≡ None) where
  counted : too_many T ≡ false
  unfolding limits_refused
  counted = not-refused (too_many T) _ (passes-parts (lists_refused T) (processes_refused T) (signals_refused T) good).0

  pub few_processes : length T.processes ≤ 8
  few_processes = let n = counted in grind (arith, nat_tests)

  pub few_signals : length T.signals ≤ 64
  few_signals = let n = counted in grind (arith, nat_tests)

  pub few_edges : length T.edges ≤ 2048
  few_edges = let n = counted in grind (arith, nat_tests)

  pub few_terms : length T.terms ≤ 4096
  few_terms = let n = counted in grind (arith, nat_tests)
