-- An index of inputs as it is built, from the last edge down to the first.
use Rattle.std.proofs.Common.{◌≡◌, ℕ, ◌+◌, ◌<◌, ◌≤◌, true, false, List, length, get_or, set, None, Some, refl, ◌&&◌, sym, ap, ◌∙◌, ◌==◌, ⊎_elim, arith, get_or-set_same, get_or-set_other}
use Rattle.std.specs.List.{slice_get}
use Rattle.std.proofs.lemmas.Bool.{cases_eq, both_ways, eqb-true, eq-eqb, and_parts}
use Rattle.std.proofs.lemmas.Bool.Decides.{nat_tests}
use Rattle.std.proofs.lemmas.Option.{slice_get_within}
use Rattle.table.specs.Records.{kind_of}
use Rattle.table.specs.declared.record.Edge.{Edge}
use Rattle.table.specs.declared.record.Kind.{Kind}
use Rattle.table.specs.declared.record.Kind.TheVariants.{Input, Output, Assignment, Set, Reset, Timeout, Rearm, Skip, Unknown}
use Rattle.loading.specs.Following.{is_input, next_of, taking}
use Rattle.loading.specs.Indexing.{Chained}
use Rattle.loading.proofs.Following.{of-past, of-here, of-later, past-none}

pub none_chained : (n : ℕ) (fs ns : List ℕ) (es : List Edge) → n ≡ length es → ((s : ℕ) → s < 64 → get_or fs s 0 ≡ n) → Chained fs ns es n
none_chained n fs ns es q all = record {
  firsts = λ s h. all s h ∙ sym (of-past (taking s) es n (omega arith));
  nexts = λ s j e h le there. let w = slice_get_within es j e there in absurd (omega arith);
}

-- there is no edge k, though it is below the length
pub no_edge : (fs ns : List ℕ) (es : List Edge) (k : ℕ) → slice_get es k ≡ None → k < length es → Chained fs ns es k
no_edge fs ns es k e lt = let past = past-none es k e in absurd (omega arith)

-- edge k comes before those above it
module _ (fs ns : List ℕ) (es : List Edge) (k : ℕ) (e : Edge) (there : slice_get es k ≡ Some e) (so : Chained fs ns es (k + 1)) where
  above : (s j : ℕ) (d : Edge) → s < 64 → k ≤ j → (k ≡ j → ⊥) → slice_get es j ≡ Some d → taking s d ≡ true → get_or ns j 0 ≡ next_of (taking s) es (j + 1)
  above s j d h le other at takes = so.nexts s j d h (omega arith) at takes

  -- it takes no signal that the index knows
  other_chained : ((s : ℕ) → s < 64 → taking s e ≡ false) → Chained fs ns es k
  other_chained none = record {
    firsts = λ s h. so.firsts s h ∙ sym (of-later (taking s) es k e there (none s h));
    nexts = λ s j d h le at takes.
        ⊎_elim (λ q. let z : e ≡ d = cc in absurd (both_ways (taking s e) (none s h) (ap (taking s) z ∙ takes)))
        (λ other. above s j d h le other at takes) (cases_eq k j);
  }

  -- it takes the signal a
  module _ (a : ℕ) (takes : taking a e ≡ true) where
    own : e.first ≡ a
    own = eqb-true e.first a (and_parts (is_input (kind_of e.kind)) (e.first == a) takes).1

    untaken : (s : ℕ) → (s ≡ a → ⊥) → taking s e ≡ false
    untaken s n = let q = own in grind (arith, nat_tests)

    pub unknown_chained : 64 ≤ a → Chained fs ns es k
    unknown_chained far = other_chained (λ s h. untaken s (λ q. omega arith))

    pub input_chained : a < 64 → length fs ≡ 64 → k < length ns → Chained (set fs a k) (set ns k (get_or fs a 0)) es k
    input_chained near places room = record {
      firsts = λ s h. ⊎_elim
          (λ (q : s ≡ a).
          ap (λ i. get_or (set fs a k) i 0) q ∙ get_or-set_same fs a k 0 (omega arith) ∙ sym (of-here (taking s) es k e there (ap (λ i. taking i e) q ∙ takes)))
          (λ (n : s ≡ a → ⊥). get_or-set_other fs a s k 0 n ∙ so.firsts s h ∙ sym (of-later (taking s) es k e there (untaken s n)))
          (cases_eq s a);
      nexts = λ s j d h le at is. ⊎_elim
          (λ (q : j ≡ k).
          let z : d ≡ e = cc in
          let y : e.first ≡ s = eqb-true e.first s (and_parts (is_input (kind_of e.kind)) (e.first == s) (ap (taking s) (sym z) ∙ is)).1 in
          let x : a ≡ s = sym own ∙ y in
          ap (λ i. get_or (set ns k (get_or fs a 0)) i 0) q ∙ get_or-set_same ns k (get_or fs a 0) 0 room
          ∙ so.firsts a near ∙ ap (λ i. next_of (taking i) es (k + 1)) x ∙ ap (λ i. next_of (taking s) es (i + 1)) (sym q))
          (λ (n : j ≡ k → ⊥). get_or-set_other ns k j (get_or fs a 0) 0 n ∙ above s j d h le (λ x. n (sym x)) at is)
          (cases_eq j k);
    }

pub passed_chained : (fs ns : List ℕ) (es : List Edge) (k : ℕ) (e : Edge) → (kind_of e.kind ≡ Input → ⊥) → slice_get es k ≡ Some e → Chained fs ns es (k + 1) → Chained fs ns es k
passed_chained fs ns es k e n there so = other_chained fs ns es k e there so (λ s h. ap (λ b. b && (e.first == s)) (not-input (kind_of e.kind) n))
  where
    not-input : (q : Kind) → (q ≡ Input → ⊥) → is_input q ≡ false
    not-input Input n = absurd (n refl)
    not-input Output n = refl
    not-input Assignment n = refl
    not-input Set n = refl
    not-input Reset n = refl
    not-input Timeout n = refl
    not-input Rearm n = refl
    not-input Skip n = refl
    not-input Unknown n = refl

pub taken_own : (e : Edge) (s : ℕ) → s ≡ e.first → kind_of e.kind ≡ Input → taking s e ≡ true
taken_own e s q h = ap (λ k. is_input k && (e.first == s)) h ∙ eq-eqb e.first s (sym q)
