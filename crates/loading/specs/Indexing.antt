-- What an index of edges says: two lists of numbers.
--   within p l           there can be a location l of a process p: the index has a place for it
--   known es p l i       what an index of the edges es knows: next_at, where there can be such a location; elsewhere i
--   first_of fs p l      what the first numbers fs say of a location: the number at its place, or 0 where it has none
--   headed fs p l k      fs after edge k, which leaves that location, came before those above it
--   linked fs ns p l k   the next numbers ns after that
--   Built fs ns es k     fs and ns are those of the edges of es from number k on
--   Indexes index es     the index is that of the edges es
--   Chained fs ns es k   of the inputs among the edges of es from number k on: fs are the first of each signal, and ns the next of each
--   Chains inputs es     the index of inputs is that of the edges es
use Rattle.std.specs.Prelude.{◌≡◌, ℕ, true, ◌+◌, ◌*◌, ◌<◌, ◌≤◌, Bool, cond, ◌&&◌, List, Some, nat_lt, slice_index, slice_set}
use Rattle.std.specs.List.{slice_get}
use Rattle.table.specs.declared.record.Edge.{Edge}
use Rattle.loading.specs.Following.{next_at, next_of, taking}
use Rattle.loading.specs.declared.index.Index.{Index}
use Rattle.loading.specs.declared.index.Inputs.{Inputs}

abbrev pub within : ℕ → ℕ → Bool
within p l = nat_lt p 8 && nat_lt l 16

unfoldable pub known : List Edge → ℕ → ℕ → ℕ → ℕ
known es p l i = cond (within p l) (next_at es p l i) i

unfoldable pub first_of : List ℕ → ℕ → ℕ → ℕ
first_of fs p l = cond (within p l) (slice_index fs (16 * p + l)) 0

unfoldable pub headed : List ℕ → ℕ → ℕ → ℕ → List ℕ
headed fs p l k = cond (within p l) (slice_set fs (16 * p + l) k) fs

unfoldable pub linked : List ℕ → List ℕ → ℕ → ℕ → ℕ → List ℕ
linked fs ns p l k = slice_set ns k (cond (within p l) (slice_index fs (16 * p + l)) (k + 1))

pub record Built (fs ns : List ℕ) (es : List Edge) (k : ℕ) : Type 0 where
  pub firsts : (p l : ℕ) → p < 8 → l < 16 → slice_index fs (16 * p + l) ≡ next_at es p l k
  pub nexts : (j : ℕ) (e : Edge) → k ≤ j → slice_get es j ≡ Some e → slice_index ns j ≡ known es e.process e.from (j + 1)

abbrev pub Indexes : Index → List Edge → Type 0
Indexes index es = Built index.first index.next es 0

pub record Chained (fs ns : List ℕ) (es : List Edge) (k : ℕ) : Type 0 where
  pub firsts : (s : ℕ) → s < 64 → slice_index fs s ≡ next_of (taking s) es k
  pub nexts : (s j : ℕ) (e : Edge) → s < 64 → k ≤ j → slice_get es j ≡ Some e → taking s e ≡ true → slice_index ns j ≡ next_of (taking s) es (j + 1)

abbrev pub Chains : Inputs → List Edge → Type 0
Chains inputs es = Chained inputs.first inputs.next es 0
