-- How a search grows: not at all, by one instance, and twice in turn.
use Rattle.std.proofs.Common.{◌≡◌, ℕ, ◌<◌, true, false, ◌⊎◌, [], ◌∷◌, ◌++◌, length, sym, refl, ap, ◌∙◌, subst, inl, inr, ⊎_elim, arith}
use Rattle.std.specs.List.{Contains}
use Rattle.std.proofs.lemmas.Bool.{cases_eq}
use Rattle.std.proofs.lemmas.List.{length_push}
use Rattle.std.proofs.lemmas.List.Elements.{Contains-append_left, Contains-push, Contains-push_cases}
use Rattle.table.specs.Lists.{Lists}
use Rattle.table.specs.declared.record.Edge.{Edge}
use Rattle.marking.specs.Instances.{Fits, given, has, holds}
use Rattle.marking.specs.Leads.{at_end, fed}
use Rattle.marking.specs.Searching.{State, Grew, Followed, Reached}
use Rattle.marking.specs.declared.flow.Fed.{Fed}
use Rattle.marking.specs.declared.instance.Instance.{Instance}
use Rattle.marks.specs.Rules.{Marking, Obeys}
use Rattle.marking.proofs.Setting.{with, bit-same, bit-other, unset-with}

pub grew-same : (T : Lists) (P : Marking → Type 0) (s : State) → Grew T P s s
grew-same T P s = record {
  marks = λ i h. h;
  signals = λ n h. h;
  waits = λ i h. h;
  fresh = λ i h. inl h;
  queued = λ i h. inl h;
  inside = λ N o p h. h;
  taken = λ h. h;
  same = refl;
}

pub grew-then : (T : Lists) (P : Marking → Type 0) (s t u : State) → Grew T P s t → Grew T P t u → Grew T P s u
grew-then T P s t u a b = record {
  marks = λ i h. b.marks i (a.marks i h);
  signals = λ n h. b.signals n (a.signals n h);
  waits = λ i h. b.waits i (a.waits i h);
  fresh = λ i h. ⊎_elim (λ m. ⊎_elim (λ x. inl x) (λ w. inr (b.waits i w)) (a.fresh i m)) (λ w. inr w) (b.fresh i h);
  queued = λ i h. ⊎_elim (λ w. ⊎_elim (λ x. inl x) (λ x. inr (x.0, b.marks i x.1)) (a.queued i w)) (λ x. inr x) (b.queued i h);
  inside = λ N o p h. b.inside N o p (a.inside N o p h);
  taken = λ h. b.taken (a.taken h);
  same = b.same ∙ a.same;
}

-- where another fact says that a marking has what is new
pub grew-by : (T : Lists) (P Q : Marking → Type 0) (s t : State) → ((N : Marking) → Obeys T N → Q N → P N) → Grew T P s t → Grew T Q s t
grew-by T P Q s t from a = record {
  marks = a.marks;
  signals = a.signals;
  waits = a.waits;
  fresh = a.fresh;
  queued = a.queued;
  inside = λ N o q h. a.inside N o (from N o q) h;
  taken = a.taken;
  same = a.same;
}

-- what is marked stays so
module _ (s t : State) (marks : (i : Instance) → has s.words i ≡ true → has t.words i ≡ true) (signals : (n : ℕ) → given s.signals n ≡ true → given t.signals n ≡ true) where
  stays-reached : (f : Fed) → Reached s f → Reached t f
  stays-reached Fed.Nothing h = h
  stays-reached (Fed.Instance i) h = λ fits. marks i (h fits)
  stays-reached (Fed.Signal n) h = λ small. signals n (h small)

  pub stays-followed : (T : Lists) (e : Edge) (b : ℕ) → Followed T s e b → Followed T t e b
  stays-followed T e b f = record {
    passed = λ h fits. marks (at_end e b) (f.passed h fits);
    fed = λ l h. stays-reached (fed T e) (f.fed l h);
  }

-- one instance more, which waits
module _ (T : Lists) (s : State) (i : Instance) (fits : Fits i) (size : length s.words ≡ 128) (new : has s.words i ≡ false) where
  abbrev pub added : State
  added = record { words = with s.words i.site i.index; signals = s.signals; queue = s.queue ++ i ∷ [] }

  there : i.site < length s.words
  there = let f = fits.site in omega arith

  pub now-marked : has added.words i ≡ true
  now-marked = bit-same s.words i.site i.index there

  this-or-other : (j : Instance) → (i ≡ j) ⊎ (has added.words j ≡ has s.words j)
  this-or-other j =
      ⊎_elim
      (λ (p : i.site ≡ j.site). ⊎_elim
      (λ (q : i.index ≡ j.index). inl (ap (λ a. record { site = a; index = i.index }) p ∙ ap (λ b. record { site = j.site; index = b }) q))
      (λ (n : i.index ≡ j.index → ⊥). inr (bit-other s.words i.site i.index there j.site j.index (λ x y. n (sym y))))
      (cases_eq i.index j.index))
      (λ (n : i.site ≡ j.site → ⊥). inr (bit-other s.words i.site i.index there j.site j.index (λ x y. n (sym x))))
      (cases_eq i.site j.site)

  keeps : (j : Instance) → has s.words j ≡ true → has added.words j ≡ true
  keeps j h = ⊎_elim (λ q. ap (has added.words) (sym q) ∙ now-marked) (λ e. e ∙ h) (this-or-other j)

  waiting : (j : Instance) → i ≡ j → Contains (s.queue ++ i ∷ []) j
  waiting j q = let P : Instance → Type 0 = Contains (s.queue ++ i ∷ []) in subst P q (Contains-push s.queue i)

  pub grew-one : Grew T (λ N. holds N i ≡ true) s added
  grew-one = record {
    marks = keeps;
    signals = λ n h. h;
    waits = λ j w. Contains-append_left s.queue (i ∷ []) j w;
    fresh = λ j h. ⊎_elim (λ q. inr (waiting j q)) (λ e. inl (sym e ∙ h)) (this-or-other j);
    queued = λ j w. ⊎_elim (λ x. inl x)
        (λ q. let P : Instance → Type 0 = λ k. Fits k × (has added.words k ≡ true) in inr (subst P q (fits, now-marked)))
        (Contains-push_cases s.queue i j w);
    inside = λ N o p h. record {
      marks = λ j f m. ⊎_elim (λ q. ap (holds N) (sym q) ∙ p) (λ e. h.marks j f (sym e ∙ m)) (this-or-other j);
      signals = h.signals;
    };
    taken = λ h n g k e j at takes r f. keeps j (h n g k e j at takes r f);
    same = omega (arith, length_push s.queue i, unset-with s.words i.site i.index fits.site fits.index there new);
  }
