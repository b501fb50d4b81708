-- A search from its beginning on: the first of those that wait is taken and followed, until none does.
use Rattle.std.proofs.Common.{◌≡◌, ℕ, zero, suc, ◌<◌, true, false, ◌⊎◌, List, [], ◌∷◌, Some, sym, refl, ap, ◌∙◌, subst, inl, inr, ⊎_elim, arith}
use Rattle.std.specs.List.{Contains, slice_get}
use Rattle.std.proofs.lemmas.Bool.{both_ways}
use Rattle.std.proofs.lemmas.List.Elements.{Contains-append_cases, Contains-append_right}
use Rattle.table.specs.Lists.{Lists}
use Rattle.table.specs.declared.record.Edge.{Edge}
use Rattle.marking.specs.Instances.{Fits, has, holds, given}
use Rattle.marking.specs.Leads.{at_start, is_inbound}
use Rattle.marking.specs.Searching.{State, Followed, Grew, LeastFrom, ObeysButWaiting}
use Rattle.marking.specs.declared.instance.Instance.{Instance}
use Rattle.marks.specs.Rules.{Least, Obeys, class_at}
use Rattle.marks.specs.Words.{marks_in}
use Rattle.marking.proofs.Allowing.{inside-within}
use Rattle.marking.proofs.Growing.{stays-followed}

in-one : (i j : Instance) → Contains (i ∷ []) j → j ≡ i
in-one i j (zero, lt, e) = sym e
in-one i j (suc k, lt, e) = absurd (omega arith)

module _ (T : Lists) (s : State) (i : Instance) (rest : List Instance) (first : s.queue ≡ i ∷ rest) (kept : ObeysButWaiting T s) where
  waits-there : (j : Instance) → Contains (i ∷ rest) j → Contains s.queue j
  waits-there j w = let P : List Instance → Type 0 = λ q. Contains q j in subst P (sym first) w

  pub first-marked : Fits i × (has s.words i ≡ true)
  first-marked = kept.waits i (waits-there i (0, omega arith, refl))

  later : (j : Instance) → Contains rest j → Contains s.queue j
  later j w = waits-there j (Contains-append_right (i ∷ []) rest j w)

  first-or-later : (j : Instance) → Contains s.queue j → (j ≡ i) ⊎ Contains rest j
  first-or-later j w =
      let P : List Instance → Type 0 = λ q. Contains q j in
      ⊎_elim (λ h. inl (in-one i j h)) (λ h. inr h) (Contains-append_cases (i ∷ []) rest j (subst P first w))

  -- s without it
  abbrev taken : State
  taken = record { words = s.words; signals = s.signals; queue = rest }

  module _ (u : State) (done : (k : ℕ) (e : Edge) → slice_get T.edges k ≡ Some e → at_start e i.index ≡ i → Followed T u e i.index)
      (a : Grew T (λ N. holds N i ≡ true) taken u) where
    old-followed : (k : ℕ) (e : Edge) (b : ℕ) → slice_get T.edges k ≡ Some e → b < 16 → has s.words (at_start e b) ≡ true → Contains u.queue (at_start e b) ⊎ Followed T u e b
    old-followed k e b h l m =
        ⊎_elim
        (λ w. ⊎_elim
        (λ (q : at_start e b ≡ i).
        let c : b ≡ i.index = ap (λ (x : Instance). x.index) q in
        let F : ℕ → Type 0 = Followed T u e in
        inr (subst F (sym c) (done k e h (ap (at_start e) (sym c) ∙ q))))
        (λ w. inl (a.waits (at_start e b) w))
        (first-or-later (at_start e b) w))
        (λ f. inr (stays-followed s u a.marks a.signals T e b f))
        (kept.followed k e b h l m)

    pub step-kept : ObeysButWaiting T u
    step-kept = record {
      waits = λ j w. ⊎_elim (λ o. let x = kept.waits j (later j o) in (x.0, a.marks j x.1)) (λ x. x) (a.queued j w);
      followed = λ k e b h l m. ⊎_elim (old-followed k e b h l) (λ w. inl w) (a.fresh (at_start e b) m);
      taken = a.taken kept.taken;
      inbound = λ n l h. a.signals n (kept.inbound n l h);
    }

    pub step-grown : (o : State) → LeastFrom T o s → LeastFrom T o u
    step-grown o g = record {
      marks = λ j h. a.marks j (g.marks j h);
      inside = λ N obeys x.
          let y = g.inside N obeys x in
          a.inside N obeys (y.marks i first-marked.0 first-marked.1) (record { marks = y.marks; signals = y.signals });
    }

-- where nothing was marked, and inbound signals were given
module _ (T : Lists) (s t : State) (none : (i : Instance) → has s.words i ≡ false) (deaf : (n : ℕ) → given s.signals n ≡ false) (still : s.queue ≡ []) (a : Grew T (λ N. Unit {0}) s t) where
  none-waits : (j : Instance) → Contains s.queue j → ⊥
  none-waits j w = let P : List Instance → Type 0 = λ q. Contains q j in let x = (subst P still w).1 in omega arith

  pub start-kept : ((n : ℕ) → n < 64 → is_inbound (class_at T n) ≡ true → given t.signals n ≡ true) → ObeysButWaiting T t
  start-kept inbound = record {
    waits = λ j w. ⊎_elim (λ o. absurd (none-waits j o)) (λ x. x) (a.queued j w);
    followed = λ k e b h l m. ⊎_elim (λ o. absurd (both_ways (has s.words (at_start e b)) (none (at_start e b)) o)) (λ w. inl w) (a.fresh (at_start e b) m);
    taken = a.taken (λ n g. absurd (both_ways (given s.signals n) (deaf n) g));
    inbound = inbound;
  }

  -- and what was marked since is the least that obeys the rules
  pub end-least : (u : State) → LeastFrom T t u → Obeys T (marks_in u.words) → Least T (marks_in u.words)
  end-least u g o = record {
    obeys = o;
    least = λ N n. inside-within T N u
        (g.inside N n (a.inside N n tt (record {
          marks = λ i f m. absurd (both_ways (has s.words i) (none i) m);
          signals = λ j m. absurd (both_ways (given s.signals j) (deaf j) m);
        })));
  }
