use Rattle.std.proofs.Common.{ℕ, ◌+◌, ◌*◌, ◌<◌, ◌≤◌, List}
use Rattle.reading.specs.Formats.{Field}
use Rattle.writing.specs.Writes.{Writes, fields_below}
use Rattle.writing.proofs.writer.Writer.row.Given as goal

abbrev pub invariant-loop-k : goal.invariant-loop-k
invariant-loop-k g l = record {
  within : l.self.place ≤ l.initial.self.place + 272 * l.k;
  bound : (w : ℕ) → ((r s x t y : _) → goal.F-post g l.write s x r tt t y → t.now.place ≤ s.now.place + w) → l.self.place ≤ l.initial.self.place + w * l.k;
  calls : (k : ℕ) → k < l.k → (r s x t y : _) × goal.G-post g l.read k r × goal.F-post g l.write s x r tt t y;
  writes : (fs : ℕ → List Field)
      → ((k : ℕ) (r s x t y : _) → k < l.count → goal.G-post g l.read k r → goal.F-post g l.write s x r tt t y → Writes (fs k) s.now.place t.now.place x.now y.now)
      → Writes (fields_below fs l.k) l.initial.self.place l.self.place l.initial.bytes l.bytes;
}
