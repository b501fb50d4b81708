-- The flows of a table's edges, one for each.
use Rattle.std.proofs.Common.{◌≡◌, ℕ, ◌+◌, ◌<◌, ◌≤◌, List, length, get_or, set, Some, None, Option, sym, refl, ap, ◌∙◌, subst, ⊎_elim, arith}
use Rattle.std.proofs.lemmas.Bool.{cases_eq}
use Rattle.std.proofs.lemmas.Bool.Decides.{nat_tests}
use Rattle.std.proofs.lemmas.List.{get_or-set_same, get_or-set_other}
use Rattle.std.specs.List.{slice_get}
use Rattle.std.specs.Option.{option_or}
use Rattle.table.proofs.Passing.{none-parts, cond-none}
use Rattle.table.specs.Examination.{examined, limits_refused, lists_refused, processes_refused, signals_refused, edges_refused, locations_refused, too_many}
use Rattle.table.specs.Lists.{Lists}
use Rattle.table.specs.declared.record.Edge.{Edge}
use Rattle.refusal.specs.Refusals.{refusal}
use Rattle.refusal.specs.declared.fault.Layer.{Layer}
use Rattle.refusal.specs.declared.fault.Place.{Place}
use Rattle.loading.proofs.Following.{past-none}
use Rattle.marking.specs.Flows.{Stands, Standing}
use Rattle.marking.specs.declared.flow.Flow.{Flow}

pub few_edges : (T : Lists) → examined T ≡ None → length T.edges ≤ 2048
unfolding examined limits_refused
few_edges T e =
    let a = none-parts (limits_refused T) (option_or (edges_refused T) (locations_refused T)) e in
    let b = none-parts (lists_refused T) (option_or (processes_refused T) (signals_refused T)) a.0 in
    let h = cond-none (too_many T) (refusal 3 Layer.Table (Place.At 0)) b.0 in
    grind (arith, nat_tests)

module _ (T : Lists) (fs : List Flow) (k : ℕ) (so : Standing T fs k) where
  pub one-standing : (e : Edge) (f : Flow) → k < length fs → slice_get T.edges k ≡ Some e → Stands T e f → Standing T (set fs k f) (k + 1)
  one-standing e f h at s i x d l there = ⊎_elim here before (cases_eq i k)
    where
      here : i ≡ k → Stands T x (get_or (set fs k f) i d)
      here q =
          let same : e ≡ x = cc in
          subst (Stands T x) (sym (ap (λ j. get_or (set fs k f) j d) q ∙ get_or-set_same fs k f d h)) (subst (λ y. Stands T y f) same s)

      before : (i ≡ k → ⊥) → Stands T x (get_or (set fs k f) i d)
      before n = subst (Stands T x) (sym (get_or-set_other fs k i f d n)) (so i x d (omega arith) there)

  pub none-standing : slice_get T.edges k ≡ None → Standing T fs (k + 1)
  none-standing at i x d l there = ⊎_elim here before (cases_eq i k)
    where
      here : i ≡ k → Stands T x (get_or fs i d)
      here q = let z : ◌≡◌ {A = ℕ} 0 1 = cc in absurd (omega arith)

      before : (i ≡ k → ⊥) → Stands T x (get_or fs i d)
      before n = so i x d (omega arith) there

pub edge-there : (T : Lists) (k : ℕ) → k < length T.edges → (e : Edge) × (slice_get T.edges k ≡ Some e)
edge-there T k h = by (slice_get T.edges k) refl
  where
    by : (o : Option Edge) → slice_get T.edges k ≡ o → (e : Edge) × (slice_get T.edges k ≡ Some e)
    by (Some e) q = (e, q)
    by None q = let p = past-none T.edges k q in absurd (omega arith)
