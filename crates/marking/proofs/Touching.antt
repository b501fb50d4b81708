-- What an edge touches, and what the rules say of it.
use Rattle.std.proofs.Common.{◌≡◌, ℕ, ◌+◌, ◌<◌, ◌≤◌, Bool, true, false, cond, not, ◌&&◌, eqb, Some, None, sym, refl, ap, ◌∙◌, arith}
use Rattle.std.proofs.lemmas.Bool.{ne_eqb, eqb-false}
use Rattle.std.proofs.lemmas.Bool.Decides.{nat_tests}
use Rattle.table.specs.Lists.{Proc}
use Rattle.table.specs.Records.{kind_of}
use Rattle.table.specs.declared.record.Edge.{Edge}
use Rattle.table.specs.declared.record.Kind.{Kind}
use Rattle.table.specs.declared.record.Kind.TheVariants.{Input, Output, Assignment, Set, Reset, Timeout, Rearm, Skip, Unknown}
use Rattle.marking.specs.Leads.{touches, touches_as}
use Rattle.marks.specs.Rules.{stores, stores_as, turns, turns_as}
use Rattle.marks.specs.Words.{bit}
use Rattle.marks.proofs.Bitwise.{bit-zero}
use Rattle.marks.proofs.Good.{Named}

module _ (n : ℕ) (p : Proc) (e : Edge) (variables : p.variables ≤ 8) (timers : p.timers ≤ 8) where
  spares-variable : (k : Kind) (v : ℕ) → v < 8 → stores_as k e v ≡ false → touches_as k e v ≡ false
  spares-variable Input v h s = s
  spares-variable Output v h s = refl
  spares-variable Assignment v h s = s
  spares-variable Set v h s = ne_eqb (8 + e.first) v (λ q. omega arith)
  spares-variable Reset v h s = ne_eqb (8 + e.first) v (λ q. omega arith)
  spares-variable Timeout v h s = ne_eqb (8 + e.first) v (λ q. omega arith)
  spares-variable Rearm v h s = ne_eqb (8 + e.first) v (λ q. omega arith)
  spares-variable Skip v h s = refl
  spares-variable Unknown v h s = refl

  spares-timer : (k : Kind) (i : ℕ) → Named n p k e → i < 8 → turns_as k e i ≡ false → touches_as k e (8 + i) ≡ false
  spares-timer Input i d h s = by (eqb e.second 15) refl
    where
      by : (b : Bool) → eqb e.second 15 ≡ b → (not b && eqb e.second (8 + i)) ≡ false
      by true u = refl
      by false u = ne_eqb e.second (8 + i) (λ q. let l = d (eqb-false e.second 15 u) in omega arith)
  spares-timer Output i d h s = refl
  spares-timer Assignment i d h s = ne_eqb e.first (8 + i) (λ q. omega arith)
  spares-timer Set i d h s = grind (arith, nat_tests)
  spares-timer Reset i d h s = grind (arith, nat_tests)
  spares-timer Timeout i d h s = grind (arith, nat_tests)
  spares-timer Rearm i d h s = grind (arith, nat_tests)
  spares-timer Skip i d h s = refl
  spares-timer Unknown i d h s = refl

  pub variable-untouched : (v : ℕ) → v < 8 → stores e v ≡ false → touches e v ≡ false
  unfolding touches
  variable-untouched v h s = spares-variable (kind_of e.kind) v h s

  pub timer-untouched : (i : ℕ) → Named n p (kind_of e.kind) e → i < 8 → turns e i ≡ false → touches e (8 + i) ≡ false
  unfolding touches
  timer-untouched i d h s = spares-timer (kind_of e.kind) i d h s

not-stored : (k : Kind) (e : Edge) (b : ℕ) → touches_as k e b ≡ false → stores_as k e b ≡ false
not-stored Input e b n = n
not-stored Output e b n = refl
not-stored Assignment e b n = n
not-stored Set e b n = refl
not-stored Reset e b n = refl
not-stored Timeout e b n = refl
not-stored Rearm e b n = refl
not-stored Skip e b n = refl
not-stored Unknown e b n = refl

not-turned : (k : Kind) (e : Edge) (i : ℕ) → touches_as k e (8 + i) ≡ false → turns_as k e i ≡ false
not-turned Input e i n = refl
not-turned Output e i n = refl
not-turned Assignment e i n = refl
not-turned Set e i n = grind (arith, nat_tests)
not-turned Reset e i n = grind (arith, nat_tests)
not-turned Timeout e i n = grind (arith, nat_tests)
not-turned Rearm e i n = grind (arith, nat_tests)
not-turned Skip e i n = refl
not-turned Unknown e i n = refl

pub untouched-variable : (e : Edge) (b : ℕ) → touches e b ≡ false → stores e b ≡ false
unfolding touches
untouched-variable e b n = not-stored (kind_of e.kind) e b n

pub untouched-timer : (e : Edge) (i : ℕ) → touches e (8 + i) ≡ false → turns e i ≡ false
unfolding touches
untouched-timer e i n = not-turned (kind_of e.kind) e i n

-- bits that an edge leaves alone

untouched-drop : (k : Kind) (e : Edge) (b : ℕ) → k ≡ Input → cond (eqb e.second 15) None (Some e.second) ≡ None → touches_as k e b ≡ false
untouched-drop k e b q h = ap (λ x. touches_as x e b) q ∙ by (eqb e.second 15) h
  where
    by : (t : Bool) → cond t None (Some e.second) ≡ None → (not t && eqb e.second b) ≡ false
    by true h = refl
    by false h = let z : ◌≡◌ {A = ℕ} 0 1 = cc in absurd (omega arith)

pub dropped-untouched : (e : Edge) → kind_of e.kind ≡ Input → cond (eqb e.second 15) None (Some e.second) ≡ None → (b : ℕ) → b < 16 → bit 0 b ≡ touches e b
unfolding touches
dropped-untouched e q h b l = bit-zero b ∙ sym (untouched-drop (kind_of e.kind) e b q h)

untouched-other : (k : Kind) (e : Edge) (b : ℕ) → (k ≡ Input → ⊥) → (k ≡ Assignment → ⊥) → (k ≡ Set → ⊥) → (k ≡ Reset → ⊥) → (k ≡ Timeout → ⊥) → (k ≡ Rearm → ⊥) → touches_as k e b ≡ false
untouched-other Input e b i a s r t m = absurd (i refl)
untouched-other Output e b i a s r t m = refl
untouched-other Assignment e b i a s r t m = absurd (a refl)
untouched-other Set e b i a s r t m = absurd (s refl)
untouched-other Reset e b i a s r t m = absurd (r refl)
untouched-other Timeout e b i a s r t m = absurd (t refl)
untouched-other Rearm e b i a s r t m = absurd (m refl)
untouched-other Skip e b i a s r t m = refl
untouched-other Unknown e b i a s r t m = refl

pub others-untouched : (e : Edge) → (kind_of e.kind ≡ Input → ⊥) → (kind_of e.kind ≡ Assignment → ⊥) → (kind_of e.kind ≡ Set → ⊥) → (kind_of e.kind ≡ Reset → ⊥) → (kind_of e.kind ≡ Timeout → ⊥) → (kind_of e.kind ≡ Rearm → ⊥) → (b : ℕ) → b < 16 → bit 0 b ≡ touches e b
unfolding touches
others-untouched e i a s r t m b l = bit-zero b ∙ sym (untouched-other (kind_of e.kind) e b i a s r t m)
