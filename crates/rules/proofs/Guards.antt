-- Guards and values of an edge and of what it becomes: what is not marked comes to the same, and what is allowed stays so.
use Rattle.std.proofs.Common.{◌≡◌, ℕ, ◌<◌, ◌≤◌, Bool, true, false, cond, not, ◌&&◌, ◌||◌, eqb, length, get_or, take, pos, None, sym, refl, ap, ◌∙◌, subst, ⊎_elim, arith}
use Rattle.std.proofs.lemmas.List.{length-take-le, get_or-take}
use Rattle.std.proofs.lemmas.Bool.{both_ways, and_parts, and_from, and_cases, or_parts, not-false, eq-eqb}
use Rattle.std.proofs.lemmas.Bool.Decides.{nat_tests}
use Rattle.evaluation.specs.Values.{value_of, holds}
use Rattle.marks.specs.Instances.{process_at}
use Rattle.marks.specs.Rules.{Marking, indices, marked}
use Rattle.rules.proofs.Agreeing.{Same, value-agrees, holds-agrees}
use Rattle.rules.proofs.Closed.{closed-variables, some-closed, none-added}
use Rattle.rules.proofs.Examined.{good, terms-same, leaves-closed}
use Rattle.rules.proofs.Fates.{Sound}
use Rattle.rules.proofs.Lists.{In, counting-in, none_in, any-in}
use Rattle.rules.proofs.Twins.{Twin}
use Rattle.rules.specs.Closing.{closed, closed_edge, freed, freed_as, marked_guard, test_refused, no_span}
use Rattle.rules.specs.States.{Running, waiting}
use Rattle.rules.specs.Steps.{scope, is_expression, unguarded, passing, otherwise, allowed_as, allowed, value_in}
use Rattle.table.specs.Edges.{numbers_bad, guard_bad, value_bad, guardable, empty}
use Rattle.table.specs.Examination.{leaves, acting, acts, some}
use Rattle.table.specs.Expressions.{part, mentions}
use Rattle.table.specs.Lists.{Lists}
use Rattle.table.specs.Records.{kind_of, mode_of}
use Rattle.table.specs.declared.record.Edge.{Edge}
use Rattle.table.specs.declared.record.Kind.{Kind}
use Rattle.table.specs.declared.record.Kind.TheVariants.{Input, Output, Assignment, Set, Reset, Timeout, Rearm, Skip, Unknown}
use Rattle.table.specs.declared.record.Mode.{Mode}
use Rattle.table.specs.declared.record.Span.{Span}

-- an edge with an else makes its location acting
else-acts : (T : Lists) (e : Edge) → Sound T e → mode_of e.mode ≡ Mode.Else → acts e ≡ true
else-acts T e s q =
    let a = or_parts (numbers_bad (kind_of e.kind) e.first e.second) (guard_bad (mode_of e.mode) (kind_of e.kind) e.guard || value_bad (kind_of e.kind) e.value) s.form in
    let b = or_parts (guard_bad (mode_of e.mode) (kind_of e.kind) e.guard) (value_bad (kind_of e.kind) e.value) a.1 in
    let c : guard_bad Mode.Else (kind_of e.kind) e.guard ≡ false = subst (λ d. guard_bad d (kind_of e.kind) e.guard ≡ false) q b.0 in
    by (kind_of e.kind) a.0 (and_parts (guardable (kind_of e.kind)) (empty e.guard) (not-false (guardable (kind_of e.kind) && empty e.guard) c)).0
  where
    by : (k : Kind) → numbers_bad k e.first e.second ≡ false → guardable k ≡ true → acting k ≡ true
    by Input n g = g
    by Output n g = refl
    by Assignment n g = refl
    by Set n g = refl
    by Reset n g = refl
    by Timeout n g = g
    by Rearm n g = g
    by Skip n g = refl
    by Unknown n g = absurd (both_ways true n refl)

module _ (T : Lists) (M : Marking) (tested : test_refused T M ≡ None) where
  indexed : (v : ℕ) → v < 8 → In v indices
  unfolding indices
  indexed v h = counting-in v 0 8 (omega arith) (omega arith)

  -- an unmarked expression mentions no marked variable
  unmarked : (e : Edge) (x : Span) → marked T M e x ≡ false → (v : ℕ) → v < 8 → mentions (part T.terms x) v ≡ true → M.variable e.process e.from v ≡ false
  unfolding marked
  unmarked e x h v l m =
      ⊎_elim (λ a. a) (λ a. absurd (both_ways (mentions (part T.terms x) v) a m))
      (and_cases (M.variable e.process e.from v) (mentions (part T.terms x) v) (none_in (λ w. M.variable e.process e.from w && mentions (part T.terms x) w) v indices h (indexed v l)))

  pub few-variables : (p : ℕ) → p < length T.processes → (process_at T p).variables ≤ 8
  few-variables p h = let b = (good T M tested).process p h in grind (arith, nat_tests)

  pub few-timers : (p : ℕ) → p < length T.processes → (process_at T p).timers ≤ 8
  few-timers p h = let b = (good T M tested).process p h in grind (arith, nat_tests)

  module _ (p : ℕ) (r s : Running) (t : Twin T M 0 p r s) (here : p < length T.processes) where
    scope-length : length (scope T p r) ≡ (process_at T p).variables
    scope-length = length-take-le (process_at T p).variables r.variables (omega (arith, few-variables p here, t.opened.variables))

    scope-closed : scope (closed T M) p s ≡ take (process_at T p).variables s.variables
    scope-closed = ap (λ n. take n s.variables) (closed-variables T M p here)

    even : length (scope T p r) ≡ length (scope (closed T M) p s)
    even =
        scope-length ∙ sym (ap length scope-closed ∙ length-take-le (process_at T p).variables s.variables (omega (arith, few-variables p here, t.closed.variables)))

    agrees : (e : Edge) → e.process ≡ p → e.from ≡ r.location → (x : Span) → marked T M e x ≡ false → (v : ℕ) → mentions (part T.terms x) v ≡ true → Same (scope T p r) (scope (closed T M) p s) even v
    agrees e a b x m v n l =
        let h : v < (process_at T p).variables = omega (arith, scope-length) in
        let u : M.variable p r.location v ≡ false = subst (λ q. M.variable q r.location v ≡ false) a (subst (λ q. M.variable e.process q v ≡ false) b (unmarked e x m v (omega (arith, few-variables p here)) n)) in
        get_or-take (process_at T p).variables r.variables v (pos 0) h
        ∙ sym (t.variables v h u)
        ∙ sym (ap (λ l. get_or l v (pos 0)) scope-closed ∙ get_or-take (process_at T p).variables s.variables v (pos 0) h)

    pub value_same : (e : Edge) → e.process ≡ p → e.from ≡ r.location → (x : Span) → marked T M e x ≡ false → value_of (scope (closed T M) p s) (closed T M).terms x ≡ value_of (scope T p r) T.terms x
    value_same e a b x m =
        ap (λ ts. value_of (scope (closed T M) p s) ts x) (sym (terms-same T M tested))
        ∙ sym (value-agrees (scope T p r) (scope (closed T M) p s) even T.terms x (agrees e a b x m))

    pub holds_same : (e : Edge) → e.process ≡ p → e.from ≡ r.location → (x : Span) → marked T M e x ≡ false → holds (scope (closed T M) p s) (closed T M).terms x ≡ holds (scope T p r) T.terms x
    holds_same e a b x m =
        ap (λ ts. holds (scope (closed T M) p s) ts x) (sym (terms-same T M tested))
        ∙ sym (holds-agrees (scope T p r) (scope (closed T M) p s) even T.terms x (agrees e a b x m))

    -- at a location without a marked guard no guard goes
    none-freed : some T (marked_guard T M) p r.location ≡ false → (e : Edge) → In e T.edges → e.process ≡ p → e.from ≡ r.location → freed T M e ≡ false
    unfolding freed
    none-freed h e i a b = by (mode_of e.mode) refl
      where
        at_here : leaves p r.location (marked_guard T M) e ≡ false
        at_here = none_in (leaves p r.location (marked_guard T M)) e T.edges h i

        placed : (eqb e.process p && eqb e.from r.location) ≡ true
        placed = and_from (eqb e.process p) (eqb e.from r.location) (eq-eqb e.process p a) (eq-eqb e.from r.location b)

        by : (d : Mode) → mode_of e.mode ≡ d → freed_as d T M e ≡ false
        by Mode.Unguarded q = refl
        by Mode.Expression q =
            ⊎_elim (λ z. absurd (both_ways (eqb e.process p && eqb e.from r.location) z placed))
            (λ z. subst (λ d. (is_expression d && marked T M e e.guard) ≡ false) q z)
            (and_cases (eqb e.process p && eqb e.from r.location) (marked_guard T M e) at_here)
        by Mode.Else q = subst (λ m. some T (marked_guard T M) m e.from ≡ false) (sym a) (subst (λ m. some T (marked_guard T M) p m ≡ false) (sym b) h)
        by Mode.Unknown q = refl

    unguarded-same : some T (marked_guard T M) p r.location ≡ false → waiting T p r.location ≡ false → some (closed T M) unguarded p r.location ≡ some T unguarded p r.location
    unfolding closed_edge
    unguarded-same h w =
        some-closed T M unguarded unguarded p r.location
        (λ e i. leaves-closed T M tested unguarded unguarded p r.location e (λ a b. ap (λ x. Rattle.rules.specs.Steps.is_unguarded (mode_of (cond x 0 e.mode))) (none-freed h e i a b)))
        (none-added T M unguarded p r.location w)

    passing-same : some T (marked_guard T M) p r.location ≡ false → waiting T p r.location ≡ false → some (closed T M) (passing (scope (closed T M) p s) (closed T M).terms) p r.location ≡ some T (passing (scope T p r) T.terms) p r.location
    unfolding closed_edge
    passing-same h w =
        some-closed T M (passing (scope (closed T M) p s) (closed T M).terms) (passing (scope T p r) T.terms) p r.location
        (λ e i. leaves-closed T M tested (passing (scope (closed T M) p s) (closed T M).terms) (passing (scope T p r) T.terms) p r.location e
        (λ a b.
        ap (λ x. is_expression (mode_of (cond x 0 e.mode)) && holds (scope (closed T M) p s) (closed T M).terms (cond x no_span e.guard)) (none-freed h e i a b)
        ∙ by e i a b (mode_of e.mode) refl))
        (none-added T M (passing (scope (closed T M) p s) (closed T M).terms) p r.location w)
      where
        by : (e : Edge) → In e T.edges → (a : e.process ≡ p) → (b : e.from ≡ r.location) → (d : Mode) → mode_of e.mode ≡ d → (is_expression d && holds (scope (closed T M) p s) (closed T M).terms e.guard) ≡ (is_expression d && holds (scope T p r) T.terms e.guard)
        by e i a b Mode.Unguarded q = refl
        by e i a b Mode.Expression q = holds_same e a b e.guard (unmarked-guard e i a b q)
          where
            unmarked-guard : (e : Edge) → In e T.edges → e.process ≡ p → e.from ≡ r.location → mode_of e.mode ≡ Mode.Expression → marked T M e e.guard ≡ false
            unmarked-guard e i a b q = subst (λ d. freed_as d T M e ≡ false) q (unfold freed in none-freed h e i a b)
        by e i a b Mode.Else q = refl
        by e i a b Mode.Unknown q = refl

    pub otherwise_same : some T (marked_guard T M) p r.location ≡ false → waiting T p r.location ≡ false → otherwise (closed T M) (scope (closed T M) p s) p r.location ≡ otherwise T (scope T p r) p r.location
    unfolding otherwise
    otherwise_same h w = rw (unguarded-same h w, passing-same h w)

    pub allowed-closed : (e : Edge) → In e T.edges → e.process ≡ p → e.from ≡ r.location → allowed T (scope T p r) e ≡ true → allowed (closed T M) (scope (closed T M) p s) (closed_edge T M e) ≡ true
    unfolding allowed closed_edge freed
    allowed-closed e i a b h = by (freed_as (mode_of e.mode) T M e) refl
      where
        kept : (d : Mode) → mode_of e.mode ≡ d → freed_as d T M e ≡ false → allowed_as d T (scope T p r) e ≡ true → (x : Edge) → x.guard ≡ e.guard → x.process ≡ e.process → x.from ≡ e.from → allowed_as d (closed T M) (scope (closed T M) p s) x ≡ true
        kept Mode.Unguarded q f g x u v w = refl
        kept Mode.Expression q f g x u v w = ap (holds (scope (closed T M) p s) (closed T M).terms) u ∙ holds_same e a b e.guard f ∙ g
        kept Mode.Else q f g x u v w =
            let m : some T (marked_guard T M) p r.location ≡ false = subst (λ y. some T (marked_guard T M) y r.location ≡ false) a (subst (λ y. some T (marked_guard T M) e.process y ≡ false) b f) in
            let n : some T acts p r.location ≡ true = any-in (leaves p r.location acts) e T.edges i (and_from (eqb e.process p && eqb e.from r.location) (acts e) (and_from (eqb e.process p) (eqb e.from r.location) (eq-eqb e.process p a) (eq-eqb e.from r.location b)) (else-acts T e ((good T M tested).edge e i) q)) in
            ap (λ y. otherwise (closed T M) (scope (closed T M) p s) y x.from) (v ∙ a)
            ∙ ap (λ y. otherwise (closed T M) (scope (closed T M) p s) p y) (w ∙ b)
            ∙ otherwise_same m (ap not n)
            ∙ ap (λ y. otherwise T (scope T p r) y r.location) (sym a)
            ∙ ap (λ y. otherwise T (scope T p r) e.process y) (sym b)
            ∙ g
        kept Mode.Unknown q f g x u v w = g

        by : (f : Bool) → freed_as (mode_of e.mode) T M e ≡ f → allowed_as (mode_of (cond f 0 e.mode)) (closed T M) (scope (closed T M) p s) (closed_edge T M e) ≡ true
        by true f = refl
        by false f = kept (mode_of e.mode) refl f h (closed_edge T M e) (ap (λ x. cond x no_span e.guard) f) refl refl
