-- Signals that bring marked values: going through the inputs of one, and giving all that are inbound.
use Rattle.std.proofs.Common.{◌≡◌, ℕ, ◌+◌, ◌<◌, ◌≤◌, true, false, length, set, None, Some, sym, refl, ap, ◌∙◌, subst, ⊎_elim, arith}
use Rattle.std.proofs.lemmas.List.{get_or-set_same, get_or-set_other}
use Rattle.std.proofs.lemmas.Bool.{both_ways, cases_eq, cases_lt}
use Rattle.std.specs.List.{slice_get}
use Rattle.loading.specs.Following.{next_of, taking}
use Rattle.loading.proofs.Following.{of-fails, of-passes}
use Rattle.table.specs.Lists.{Lists}
use Rattle.table.specs.declared.record.Class.{Class}
use Rattle.table.specs.declared.record.Class.TheVariants.{Internal, Inbound, Outbound, Absent}
use Rattle.table.specs.declared.record.Edge.{Edge}
use Rattle.marking.specs.Instances.{given, holds}
use Rattle.marking.specs.Leads.{received, is_inbound}
use Rattle.marking.specs.Searching.{State, Grew, Marked, Taken}
use Rattle.marking.specs.declared.instance.Instance.{Instance}
use Rattle.marks.specs.Rules.{Marking, arrives, class_at, signal_marked}
use Rattle.marks.proofs.Good.{Good}
use Rattle.marking.proofs.Allowing.{allows-stored, inbound-arrives, not_some}
use Rattle.marking.proofs.Growing.{grew-same, grew-then, grew-by}

-- on the way from s to t, the inputs of signal n before number k have marked what they store, and k is one, or none is left
pub record Gives (T : Lists) (n : ℕ) (s t : State) (k : ℕ) : Type 0 where
  pub same : t.signals ≡ s.signals
  pub at : (e : Edge) → slice_get T.edges k ≡ Some e → taking n e ≡ true
  pub before : (j : ℕ) (e : Edge) (i : Instance) → j < k → slice_get T.edges j ≡ Some e → taking n e ≡ true → received e ≡ Some i → Marked t i
  pub grew : Grew T (λ N. arrives T N n ≡ true) s t

module _ (T : Lists) (n : ℕ) (s : State) where
  abbrev P : Marking → Type 0
  P N = arrives T N n ≡ true

  pub gives-start : (k : ℕ) → k ≡ next_of (taking n) T.edges 0 → Gives T n s s k
  gives-start k q = record {
    same = refl;
    at = λ e h. of-passes (taking n) T.edges 0 e (ap (slice_get T.edges) (sym q) ∙ h);
    before = λ j e i l h takes r. absurd (both_ways (taking n e) (of-fails (taking n) T.edges 0 j e (omega arith) (omega arith) h) takes);
    grew = grew-same T P s;
  }

  gives-step : (t u : State) (k m : ℕ) (e : Edge) → Gives T n s t k → slice_get T.edges k ≡ Some e → m ≡ next_of (taking n) T.edges (k + 1)
      → u.signals ≡ t.signals → ((i : Instance) → received e ≡ Some i → Marked u i) → Grew T (λ N. arrives T N n ≡ true) t u → Gives T n s u m
  gives-step t u k m e g there q same stored more = record {
    same = same ∙ g.same;
    at = λ d h. of-passes (taking n) T.edges (k + 1) d (ap (slice_get T.edges) (sym q) ∙ h);
    before = λ j d i l h takes r fits. ⊎_elim
        (λ (x : j ≡ k). let z : d ≡ e = cc in stored i (ap received (sym z) ∙ r) fits)
        (λ (x : j ≡ k → ⊥). ⊎_elim
        (λ (y : j < k). more.marks i (g.before j d i y h takes r fits))
        (λ (y : k ≤ j). absurd (both_ways (taking n d) (of-fails (taking n) T.edges (k + 1) j d (omega arith) (omega arith) h) takes))
        (cases_lt j k))
        (cases_eq j k);
    grew = grew-then T P s t u g.grew more;
  }

  -- an input that stores nothing
  pub none-step : (t : State) (k m : ℕ) (e : Edge) → Gives T n s t k → slice_get T.edges k ≡ Some e → m ≡ next_of (taking n) T.edges (k + 1) → received e ≡ None → Gives T n s t m
  none-step t k m e g there q r = gives-step t t k m e g there q refl (λ i h. absurd (not_some i (sym r ∙ h))) (grew-same T P t)

-- an input that stores into the instance i
pub mark-step : (T : Lists) → Good T → (n : ℕ) (s t u : State) (k m : ℕ) (e : Edge) (i : Instance) → Gives T n s t k → slice_get T.edges k ≡ Some e
    → m ≡ next_of (taking n) T.edges (k + 1) → received e ≡ Some i → u.signals ≡ t.signals → Marked u i → Grew T (λ N. holds N i ≡ true) t u → Gives T n s u m
mark-step T good n s t u k m e i g there q r same marked more =
    let P : Marking → Type 0 = λ N. arrives T N n ≡ true in
    gives-step T n s t u k m e g there q same
    (λ j h. let z : i ≡ j = cc in let R : Instance → Type 0 = Marked u in subst R z marked)
    (grew-by T (λ N. holds N i ≡ true) P t u (λ N o a. allows-stored T good N o k e there n i (g.at e there) r a) more)

-- one signal more, all of whose inputs have marked what they store
module _ (T : Lists) (n : ℕ) (s t : State) (known : n < length s.signals) where
  abbrev with_signal : State
  with_signal = record { words = s.words; signals = set s.signals n true; queue = s.queue }

  here : (j : ℕ) → j ≡ n → given (set s.signals n true) j ≡ true
  here j q = ap (given (set s.signals n true)) q ∙ get_or-set_same s.signals n true false known

  elsewhere : (j : ℕ) → (j ≡ n → ⊥) → given (set s.signals n true) j ≡ given s.signals j
  elsewhere j ne = get_or-set_other s.signals n j true false ne

  pub gave : t.signals ≡ set s.signals n true → Taken T t n → Grew T (λ N. arrives T N n ≡ true) with_signal t → Grew T (λ N. arrives T N n ≡ true) s t
  gave same all a = record {
    marks = a.marks;
    signals = λ j h. a.signals j (⊎_elim (here j) (λ ne. elsewhere j ne ∙ h) (cases_eq j n));
    waits = a.waits;
    fresh = a.fresh;
    queued = a.queued;
    inside = λ N o p h. a.inside N o p (record {
      marks = h.marks;
      signals = λ j g. ⊎_elim (λ q. ap (arrives T N) q ∙ p) (λ ne. h.signals j (sym (elsewhere j ne) ∙ g)) (cases_eq j n);
    });
    taken = λ old j g. ⊎_elim
        (λ (q : j ≡ n). subst (Taken T t) (sym q) all)
        (λ (ne : j ≡ n → ⊥). λ k e i there takes r fits. a.marks i (old j (sym (elsewhere j ne) ∙ ap (λ b. given b j) (sym same) ∙ g) k e i there takes r fits))
        (cases_eq j n);
    same = a.same;
  }

-- on the way from s to t, the inbound signals below n were given
pub record Planted (T : Lists) (n : ℕ) (s t : State) : Type 0 where
  pub inbound : (j : ℕ) → j < n → is_inbound (class_at T j) ≡ true → given t.signals j ≡ true
  pub grew : Grew T (λ N. Unit {0}) s t

is-inbound : (c : Class) → is_inbound c ≡ true → c ≡ Inbound
is-inbound Internal h = absurd (both_ways false refl h)
is-inbound Inbound h = refl
is-inbound Outbound h = absurd (both_ways false refl h)
is-inbound Absent h = absurd (both_ways false refl h)
is-inbound Class.Unknown h = absurd (both_ways false refl h)

pub plant-step : (T : Lists) (n : ℕ) (s t u : State) → n < 64 → is_inbound (class_at T n) ≡ true → Planted T n s t → given u.signals n ≡ true
    → Grew T (λ N. arrives T N n ≡ true) t u → Planted T (n + 1) s u
plant-step T n s t u low is p now more =
    let P : Marking → Type 0 = λ N. Unit {0} in
    record {
      inbound = λ j l h. ⊎_elim
          (λ (q : j ≡ n). ap (given u.signals) q ∙ now)
          (λ (q : j ≡ n → ⊥). more.signals j (p.inbound j (omega arith) h))
          (cases_eq j n);
      grew = grew-then T P s t u p.grew (grew-by T (λ N. arrives T N n ≡ true) P t u (λ N o a. inbound-arrives (class_at T n) (signal_marked T N n) is) more);
    }

pub pass-step : (T : Lists) (n : ℕ) (s t : State) → (class_at T n ≡ Inbound → ⊥) → Planted T n s t → Planted T (n + 1) s t
pass-step T n s t other p = record {
  inbound = λ j l h. ⊎_elim
      (λ (q : j ≡ n). absurd (other (ap (class_at T) (sym q) ∙ is-inbound (class_at T j) h)))
      (λ (q : j ≡ n → ⊥). p.inbound j (omega arith) h)
      (cases_eq j n);
  grew = p.grew;
}
