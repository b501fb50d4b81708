-- Following one instance along the edges that leave its location.
use Rattle.std.proofs.Common.{◌≡◌, ℕ, ◌+◌, ◌*◌, ◌/◌, ◌%◌, ◌<◌, ◌≤◌, true, eqb, Some, sym, ap, ◌∙◌, subst, ⊎_elim, arith}
use Rattle.std.specs.List.{slice_get}
use Rattle.std.proofs.lemmas.Bool.{both_ways, cases_eq, cases_lt, and_from, and_parts, eqb-true, eq-eqb}
use Rattle.loading.specs.Following.{leaving, next_at}
use Rattle.loading.specs.Indexing.{Indexes, known}
use Rattle.loading.proofs.Built.{known-within}
use Rattle.loading.proofs.Following.{next-leaves, none-before-next}
use Rattle.loading.specs.declared.index.Index.{Index}
use Rattle.table.specs.Lists.{Lists}
use Rattle.table.specs.declared.record.Edge.{Edge}
use Rattle.marking.specs.Instances.{Fits, holds}
use Rattle.marking.specs.Leads.{at_start}
use Rattle.marking.specs.Searching.{State, Followed, Grew}
use Rattle.marking.specs.declared.instance.Instance.{Instance}
use Rattle.marks.specs.Rules.{Marking}
use Rattle.marking.proofs.Bounding.{Bounds}
use Rattle.marking.proofs.Growing.{grew-same, grew-then, stays-followed}

-- on the way from s to t, the edges before number k that leave the location of i were followed, and k is one, or none is left
pub record Follows (T : Lists) (i : Instance) (s t : State) (k : ℕ) : Type 0 where
  pub at : (e : Edge) → slice_get T.edges k ≡ Some e → leaving (i.site / 16) (i.site % 16) e ≡ true
  pub before : (j : ℕ) (e : Edge) → j < k → slice_get T.edges j ≡ Some e → leaving (i.site / 16) (i.site % 16) e ≡ true → Followed T t e i.index
  pub grew : Grew T (λ N. holds N i ≡ true) s t

module _ (T : Lists) (i : Instance) (fits : Fits i) where
  abbrev P : Marking → Type 0
  P N = holds N i ≡ true

  abbrev next : ℕ → ℕ
  next k = next_at T.edges (i.site / 16) (i.site % 16) k

  known-next : (k : ℕ) → known T.edges (i.site / 16) (i.site % 16) k ≡ next k
  known-next k = let h = fits.site in known-within T.edges (i.site / 16) (i.site % 16) k (omega arith) (omega arith)

  -- where the index says the first edge is
  pub first-next : (index : Index) (k p l : ℕ) → Indexes index T.edges → p ≡ i.site / 16 → l ≡ i.site % 16
      → ((es : _) → Indexes index es → k ≡ known es p l 0) → k ≡ next_at T.edges (i.site / 16) (i.site % 16) 0
  first-next index k p l ok a b at =
      at T.edges ok ∙ ap (λ x. known T.edges x l 0) a ∙ ap (λ y. known T.edges (i.site / 16) y 0) b ∙ known-next 0

  leaves-at : (e : Edge) → leaving (i.site / 16) (i.site % 16) e ≡ true → (e.process ≡ i.site / 16) × (e.from ≡ i.site % 16)
  leaves-at e h =
      let x = and_parts (eqb e.process (i.site / 16)) (eqb e.from (i.site % 16)) h in
      (eqb-true e.process (i.site / 16) x.0, eqb-true e.from (i.site % 16) x.1)

  pub starts-at : (e : Edge) → leaving (i.site / 16) (i.site % 16) e ≡ true → at_start e i.index ≡ i
  starts-at e h =
      let x = leaves-at e h in
      let p = x.0 in
      let l = x.1 in
      let q : 16 * e.process + e.from ≡ i.site = omega arith in
      ap (λ a. record { site = a; index = i.index }) q

  pub leaves-there : (e : Edge) → Bounds T e → at_start e i.index ≡ i → leaving (i.site / 16) (i.site % 16) e ≡ true
  leaves-there e b q =
      let l = b.from in
      let z : 16 * e.process + e.from ≡ i.site = ap (λ (x : Instance). x.site) q in
      let x : e.process ≡ i.site / 16 = omega arith in
      let y : e.from ≡ i.site % 16 = omega arith in
      and_from (eqb e.process (i.site / 16)) (eqb e.from (i.site % 16)) (eq-eqb e.process (i.site / 16) x) (eq-eqb e.from (i.site % 16) y)

  -- and the next one after an edge of the location
  pub after-next : (index : Index) (k m : ℕ) (e : Edge) → Indexes index T.edges → leaving (i.site / 16) (i.site % 16) e ≡ true → slice_get T.edges k ≡ Some e
      → ((es : _) (d : Edge) → Indexes index es → slice_get es k ≡ Some d → m ≡ known es d.process d.from (k + 1)) → m ≡ next_at T.edges (i.site / 16) (i.site % 16) (k + 1)
  after-next index k m e ok h there at =
      let x = leaves-at e h in
      at T.edges e ok there ∙ ap (λ y. known T.edges y e.from (k + 1)) x.0 ∙ ap (λ y. known T.edges (i.site / 16) y (k + 1)) x.1 ∙ known-next (k + 1)

  module _ (s : State) where
    pub follows-start : (k : ℕ) → k ≡ next_at T.edges (i.site / 16) (i.site % 16) 0 → Follows T i s s k
    follows-start k q = record {
      at = λ e h. next-leaves T.edges (i.site / 16) (i.site % 16) 0 e (ap (slice_get T.edges) (sym q) ∙ h);
      before = λ j e l h leaves. absurd (both_ways (leaving (i.site / 16) (i.site % 16) e) (none-before-next T.edges (i.site / 16) (i.site % 16) 0 j e (omega arith) (omega arith) h) leaves);
      grew = grew-same T P s;
    }

    pub follows-step : (t u : State) (k m : ℕ) (e : Edge) → Follows T i s t k → slice_get T.edges k ≡ Some e → m ≡ next_at T.edges (i.site / 16) (i.site % 16) (k + 1)
        → Followed T u e i.index → Grew T (λ N. holds N (at_start e i.index) ≡ true) t u → Follows T i s u m
    follows-step t u k m e f there q followed more =
        let G : Instance → Type 0 = λ j. Grew T (λ N. holds N j ≡ true) t u in
        let grown : Grew T (λ N. holds N i ≡ true) t u = subst G (starts-at e (f.at e there)) more in
        record {
          at = λ d h. next-leaves T.edges (i.site / 16) (i.site % 16) (k + 1) d (ap (slice_get T.edges) (sym q) ∙ h);
          before = λ j d l h leaves. ⊎_elim
              (λ (x : j ≡ k). let z : e ≡ d = cc in let F : Edge → Type 0 = λ y. Followed T u y i.index in subst F z followed)
              (λ (x : j ≡ k → ⊥). ⊎_elim
              (λ (y : j < k). stays-followed t u grown.marks grown.signals T d i.index (f.before j d y h leaves))
              (λ (y : k ≤ j).
              absurd (both_ways (leaving (i.site / 16) (i.site % 16) d) (none-before-next T.edges (i.site / 16) (i.site % 16) (k + 1) j d (omega arith) (omega arith) h) leaves))
              (cases_lt j k))
              (cases_eq j k);
          grew = grew-then T P s t u f.grew grown;
        }
