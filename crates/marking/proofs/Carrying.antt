-- Following one instance along one edge.
use Rattle.std.proofs.Common.{◌≡◌, ℕ, ◌<◌, Bool, true, false, not, ltb, None, Some, sym, refl, ap, ◌∙◌, subst}
use Rattle.std.specs.List.{slice_get}
use Rattle.std.proofs.lemmas.Bool.{both_ways, and_from, and_parts, lt-ltb, ltb-true}
use Rattle.table.specs.Expressions.{part, mentions}
use Rattle.table.specs.Lists.{Lists}
use Rattle.table.specs.declared.record.Edge.{Edge}
use Rattle.marking.specs.Flows.{Stands}
use Rattle.marking.specs.Instances.{holds}
use Rattle.marking.specs.Leads.{at_start, at_end, touches}
use Rattle.marking.specs.Searching.{State, Allowed, Followed, Grew, Marked, Reached}
use Rattle.marking.specs.declared.flow.Fed.{Fed}
use Rattle.marking.specs.declared.flow.Flow.{Flow}
use Rattle.marking.specs.declared.instance.Instance.{Instance}
use Rattle.marks.specs.Rules.{Marking}
use Rattle.marks.specs.Words.{bit}
use Rattle.marks.proofs.Good.{Good}
use Rattle.marking.proofs.Allowing.{allows-passed, allows-fed}
use Rattle.marking.proofs.Growing.{grew-by}

not-true : (b : Bool) → not b ≡ true → b ≡ false
not-true true h = absurd (both_ways false refl h)
not-true false h = refl

-- a test of a bit, by its number
pub tested : (w n m : ℕ) (b v : Bool) → b ≡ bit w n → n ≡ m → b ≡ v → bit w m ≡ v
tested w n m b v e q t = ap (bit w) (sym q) ∙ sym e ∙ t

module _ (T : Lists) (e : Edge) (b : ℕ) (l : b < 16) (f : Flow) (stands : Stands T e f) where
  there : ◌≡◌ {A = Instance} (record { site = f.to; index = b }) (at_end e b)
  there = ap (λ a. record { site = a; index = b }) stands.to

  untouched : bit f.kept b ≡ true → touches e b ≡ false
  untouched kept = not-true (touches e b) (sym (stands.kept b l) ∙ kept)

  pub pass-grew : (s t : State) → bit f.kept b ≡ true → Grew T (λ N. holds N (record { site = f.to; index = b }) ≡ true) s t
      → Grew T (λ N. touches e b ≡ false → holds N (at_end e b) ≡ true) s t
  pass-grew s t kept more =
      grew-by T (λ N. holds N (record { site = f.to; index = b }) ≡ true) (λ N. touches e b ≡ false → holds N (at_end e b) ≡ true) s t
      (λ N o a. ap (holds N) there ∙ a (untouched kept)) more

-- a flow where there is none
abbrev pub nothing : Flow
nothing = record { to = 0; kept = 0; read = 0; fed = Fed.Nothing; stored = None }

module _ (T : Lists) (g : Good T) (k : ℕ) (e : Edge) (at : slice_get T.edges k ≡ Some e) (b : ℕ) (l : b < 16) (f : Flow) (stands : Stands T e f) where
  abbrev P : Marking → Type 0
  P N = holds N (at_start e b) ≡ true

  pub carry-passed : (s t : State) → Grew T (λ N. touches e b ≡ false → holds N (at_end e b) ≡ true) s t → Grew T (λ N. holds N (at_start e b) ≡ true) s t
  carry-passed s t more =
      grew-by T (λ N. touches e b ≡ false → holds N (at_end e b) ≡ true) P s t (λ N o a n. allows-passed T g N o k e at b l n a) more

  pub carry-fed : (s t : State) → bit f.read b ≡ true → Grew T (λ N. Allowed T N f.fed) s t → Grew T (λ N. holds N (at_start e b) ≡ true) s t
  carry-fed s t read more =
      let x = and_parts (ltb b 8) (mentions (part T.terms e.value) b) (sym (stands.read b l) ∙ read) in
      grew-by T (λ N. Allowed T N f.fed) P s t
      (λ N o a. let A : Fed → Type 0 = Allowed T N in subst A (sym stands.fed) (allows-fed T g N o k e at b (ltb-true b 8 x.0) x.1 a)) more

  pub read-followed : (t u : State) → (touches e b ≡ false → Marked t (at_end e b)) → Grew T (λ N. Allowed T N f.fed) t u → Reached u f.fed → Followed T u e b
  read-followed t u passed more reached = record {
    passed = λ h fits. more.marks (at_end e b) (passed h fits);
    fed = λ small h. let R : Fed → Type 0 = Reached u in subst R stands.fed reached;
  }

  -- the value does not mention the variable
  pub unread-followed : (t : State) → (touches e b ≡ false → Marked t (at_end e b)) → bit f.read b ≡ false → Followed T t e b
  unread-followed t passed read = record {
    passed = passed;
    fed = λ small h. absurd (both_ways (bit f.read b) read (stands.read b l ∙ and_from (ltb b 8) (mentions (part T.terms e.value) b) (lt-ltb b 8 small) h));
  }
