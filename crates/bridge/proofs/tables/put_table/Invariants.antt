use Rattle.std.proofs.Common.{◌≡◌, ℕ, List, ◌++◌, length}
use Rattle.bridge.specs.Laid.{laid, spelled}
use Rattle.bridge.specs.Tables.{table_words}
use Rattle.bridge.proofs.tables.put_table.Given as goal

abbrev pub invariant-loop-n : goal.invariant-loop-n
invariant-loop-n g l = record {
  laid : (xs old : List ℕ) → length xs ≡ l.at → l.fn.out ≡ laid xs old → l.out ≡ laid (xs ++ spelled (table_words (g.T.Table.lists l.table) l.n)) old;
  length : length l.out ≡ length l.fn.out;
}
