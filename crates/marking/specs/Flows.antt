-- What an edge does to marks, worked out.
--   Stands T e f   f is the flow of edge e
--   Standing T fs n   fs has the flows of the first n edges of the table
--   Flowing T fs   the table passes its examination, and fs has the flows of all its edges and their indexes
use Rattle.std.specs.Prelude.{◌≡◌, ℕ, ◌+◌, ◌*◌, ◌<◌, ◌≤◌, List, not, ◌&&◌, None, Some, length, nat_lt, slice_index_or}
use Rattle.std.specs.List.{slice_get}
use Rattle.loading.specs.Indexing.{Chains, Indexes}
use Rattle.table.specs.Examination.{examined}
use Rattle.table.specs.Expressions.{part, mentions}
use Rattle.table.specs.Lists.{Lists}
use Rattle.table.specs.declared.record.Edge.{Edge}
use Rattle.marking.specs.Leads.{received, touches, fed}
use Rattle.marking.specs.declared.flow.Flow.{Flow}
use Rattle.marking.specs.declared.flows.Flows.{Flows}
use Rattle.marks.specs.Words.{bit}

pub record Stands (T : Lists) (e : Edge) (f : Flow) : Type 0 where
  pub to : f.to ≡ 16 * e.process + e.to
  pub kept : (b : ℕ) → b < 16 → bit f.kept b ≡ not (touches e b)
  pub read : (b : ℕ) → b < 16 → bit f.read b ≡ (nat_lt b 8 && mentions (part T.terms e.value) b)
  pub fed : f.fed ≡ fed T e
  pub stored : f.stored ≡ received e

abbrev pub Standing : Lists → List Flow → ℕ → Type 0
Standing T fs n = (k : ℕ) (e : Edge) (f : Flow) → k < n → slice_get T.edges k ≡ Some e → Stands T e (slice_index_or fs k f)

pub record Flowing (T : Lists) (fs : Flows) : Type 0 where
  pub good : examined T ≡ None
  pub places : length T.edges ≤ length fs.flows.now
  pub stand : Standing T fs.flows.now (length T.edges)
  pub indexed : Indexes fs.index.now T.edges
  pub chained : Chains fs.inputs.now T.edges
