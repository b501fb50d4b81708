-- A marking that obeys the rules has whatever an edge leads to from what it has.
use Rattle.std.proofs.Common.{◌≡◌, ℕ, ◌+◌, ◌-◌, ◌*◌, ◌/◌, ◌%◌, ◌<◌, ◌≤◌, Bool, true, false, cond, ltb, eqb, Some, None, sym, refl, ap, ◌∙◌, subst, ⊎_elim, arith}
use Rattle.std.proofs.lemmas.Bool.{cases_lt, both_ways, cond-true, cond-false, lt-ltb, le-ltb, eqb-true, eqb-false, and_parts}
use Rattle.std.specs.List.{slice_get}
use Rattle.loading.specs.Following.{is_input, taking}
use Rattle.table.specs.Expressions.{part, mentions}
use Rattle.table.specs.Lists.{Lists}
use Rattle.table.specs.Records.{kind_of}
use Rattle.table.specs.declared.record.Class.{Class}
use Rattle.table.specs.declared.record.Class.TheVariants.{Internal, Inbound, Outbound, Absent}
use Rattle.table.specs.declared.record.Edge.{Edge}
use Rattle.table.specs.declared.record.Kind.{Kind}
use Rattle.table.specs.declared.record.Kind.TheVariants.{Input, Output, Assignment, Set, Reset, Timeout, Rearm, Skip, Unknown}
use Rattle.marking.specs.Instances.{Fits, holds}
use Rattle.marking.specs.Leads.{at_start, at_end, received, received_as, touches, is_internal, is_inbound, fed, fed_as}
use Rattle.marking.specs.Searching.{State, Allowed, Inside}
use Rattle.marking.specs.declared.flow.Fed.{Fed}
use Rattle.marking.specs.declared.instance.Instance.{Instance}
use Rattle.marks.specs.Rules.{Marking, Obeys, Within, marked, signal_marked, class_at, arrives, arrives_as}
use Rattle.marks.specs.Words.{marks_in}
use Rattle.marks.proofs.Good.{Good, Named}
use Rattle.marking.proofs.Bounding.{Bounds, bounds, largest}
use Rattle.marking.proofs.Reading.{variable-here, timer-here, mentions-marked, sent-signal}
use Rattle.marking.proofs.Touching.{untouched-variable, untouched-timer}

pub inbound-arrives : (a : Class) (m : Bool) → is_inbound a ≡ true → arrives_as a m ≡ true
inbound-arrives Internal m h = absurd (both_ways false refl h)
inbound-arrives Inbound m h = refl
inbound-arrives Outbound m h = absurd (both_ways false refl h)
inbound-arrives Absent m h = absurd (both_ways false refl h)
inbound-arrives Class.Unknown m h = absurd (both_ways false refl h)

internal-arrives : (a : Class) (m : Bool) → is_internal a ≡ true → m ≡ true → arrives_as a m ≡ true
internal-arrives Internal m h k = k
internal-arrives Inbound m h k = refl
internal-arrives Outbound m h k = absurd (both_ways false refl h)
internal-arrives Absent m h k = absurd (both_ways false refl h)
internal-arrives Class.Unknown m h k = absurd (both_ways false refl h)

pub not_some : {A : Type 0} (x : A) → None ≡ Some x → ⊥
not_some x e = let z : ◌≡◌ {A = ℕ} 0 1 = cc in omega arith

-- an input that stores

pub input-kind : (k : Kind) → is_input k ≡ true → k ≡ Input
input-kind Input h = refl
input-kind Output h = absurd (both_ways false refl h)
input-kind Assignment h = absurd (both_ways false refl h)
input-kind Set h = absurd (both_ways false refl h)
input-kind Reset h = absurd (both_ways false refl h)
input-kind Timeout h = absurd (both_ways false refl h)
input-kind Rearm h = absurd (both_ways false refl h)
input-kind Skip h = absurd (both_ways false refl h)
input-kind Unknown h = absurd (both_ways false refl h)

-- the input e stores into the instance i
pub record Stores (e : Edge) (i : Instance) : Type 0 where
  pub kept : e.second ≡ 15 → ⊥
  pub at : i ≡ at_end e e.second

pub received-stores : (e : Edge) (i : Instance) → kind_of e.kind ≡ Input → received e ≡ Some i → Stores e i
unfolding received
received-stores e i q h = by (eqb e.second 15) refl (sym (ap (λ k. received_as k e) q) ∙ h)
  where
    by : (b : Bool) → eqb e.second 15 ≡ b → cond b None (Some (at_end e e.second)) ≡ Some i → Stores e i
    by true t r = absurd (not_some i r)
    by false t r = record { kept = eqb-false e.second 15 t; at = cc }

-- instances by process and location
module _ (N : Marking) (p l : ℕ) (small : l < 16) where
  process-of : (16 * p + l) / 16 ≡ p
  process-of = omega arith

  location-of : (16 * p + l) % 16 ≡ l
  location-of = omega arith

  pub holds-variable : (v : ℕ) → v < 8 → holds N (record { site = 16 * p + l; index = v }) ≡ N.variable p l v
  unfolding holds
  holds-variable v h =
      cond-true (ltb v 8) (N.variable ((16 * p + l) / 16) ((16 * p + l) % 16) v) (N.timer ((16 * p + l) / 16) ((16 * p + l) % 16) (v - 8)) (lt-ltb v 8 h)
      ∙ ap (λ q. N.variable q ((16 * p + l) % 16) v) process-of ∙ ap (λ q. N.variable p q v) location-of

  pub holds-timer : (n : ℕ) → holds N (record { site = 16 * p + l; index = 8 + n }) ≡ N.timer p l n
  unfolding holds
  holds-timer n =
      let x : 8 + n - 8 ≡ n = omega arith in
      cond-false (ltb (8 + n) 8) (N.variable ((16 * p + l) / 16) ((16 * p + l) % 16) (8 + n)) (N.timer ((16 * p + l) / 16) ((16 * p + l) % 16) (8 + n - 8)) (le-ltb (8 + n) 8 (omega arith))
      ∙ ap (λ q. N.timer q ((16 * p + l) % 16) (8 + n - 8)) process-of ∙ ap (λ q. N.timer p q (8 + n - 8)) location-of ∙ ap (N.timer p l) x

module _ (T : Lists) (g : Good T) (N : Marking) (o : Obeys T N) (k : ℕ) (e : Edge) (h : slice_get T.edges k ≡ Some e) where
  d : Bounds T e
  d = bounds T g k e h

  pub allows-stored : (n : ℕ) (i : Instance) → taking n e ≡ true → received e ≡ Some i → arrives T N n ≡ true → holds N i ≡ true
  allows-stored n i takes r a =
      let x = and_parts (is_input (kind_of e.kind)) (eqb e.first n) takes in
      let q = input-kind (kind_of e.kind) x.0 in
      let s = received-stores e i q r in
      let v : e.second < 8 = subst (λ k. Named 64 largest k e) q d.named s.kept in
      ap (holds N) s.at ∙ holds-variable N e.process e.to d.to e.second v ∙ (o k e h).received q (ap (arrives T N) (eqb-true e.first n x.1) ∙ a) s.kept

  pub allows-passed : (b : ℕ) → b < 16 → touches e b ≡ false → holds N (at_start e b) ≡ true → holds N (at_end e b) ≡ true
  allows-passed b l n m = ⊎_elim low high (cases_lt b 8)
    where
      low : b < 8 → holds N (at_end e b) ≡ true
      low i =
          holds-variable N e.process e.to d.to b i
          ∙ (o k e h).variables b (untouched-variable e b n) (sym (holds-variable N e.process e.from d.from b i) ∙ m)

      high : 8 ≤ b → holds N (at_end e b) ≡ true
      high i =
          let q : b ≡ 8 + (b - 8) = omega arith in
          ap (λ c. holds N (at_end e c)) q ∙ holds-timer N e.process e.to d.to (b - 8)
          ∙ (o k e h).timers (b - 8) (untouched-timer e (b - 8) (ap (touches e) (sym q) ∙ n)) (sym (holds-timer N e.process e.from d.from (b - 8)) ∙ ap (λ c. holds N (at_start e c)) (sym q) ∙ m)

  fed-allowed : (q : Kind) → kind_of e.kind ≡ q → marked T N e e.value ≡ true → Allowed T N (fed_as (class_at T e.first) q e)
  fed-allowed Input q m = tt
  fed-allowed Output q m = by (is_internal (class_at T e.first)) refl
    where
      by : (b : Bool) → is_internal (class_at T e.first) ≡ b → Allowed T N (cond b (Fed.Signal e.first) Fed.Nothing)
      by true i = internal-arrives (class_at T e.first) (signal_marked T N e.first) i (sent-signal T N k e h q m)
      by false i = tt
  fed-allowed Assignment q m =
      let v : e.first < 8 = subst (λ k. Named 64 largest k e) q d.named in
      holds-variable N e.process e.to d.to e.first v ∙ (o k e h).assigned q m
  fed-allowed Set q m = holds-timer N e.process e.to d.to e.first ∙ (o k e h).timed q m
  fed-allowed Reset q m = tt
  fed-allowed Timeout q m = tt
  fed-allowed Rearm q m = tt
  fed-allowed Skip q m = tt
  fed-allowed Unknown q m = tt

  pub allows-fed : (b : ℕ) → b < 8 → mentions (part T.terms e.value) b ≡ true → holds N (at_start e b) ≡ true → Allowed T N (fed T e)
  unfolding fed
  allows-fed b l t m =
      fed-allowed (kind_of e.kind) refl (mentions-marked T N e e.value b l (sym (holds-variable N e.process e.from d.from b l) ∙ m) t)

-- marks in words that a marking has are within it
pub inside-within : (T : Lists) (N : Marking) (s : State) → Inside T N s → Within (marks_in s.words) N
inside-within T N s h = record {
  variables = λ p l v m.
      let x = variable-here s.words p l v m in
      let i = x.0 in
      let a = x.1.process in
      let b = x.1.location in
      let fits : Fits (record { site = 16 * p + l; index = v }) = record { site = omega arith; index = omega arith } in
      sym (holds-variable N p l x.1.location v x.0) ∙ h.marks (record { site = 16 * p + l; index = v }) fits x.1.is_set;
  timers = λ p l n m.
      let x = timer-here s.words p l n m in
      let i = x.0 in
      let a = x.1.process in
      let b = x.1.location in
      let fits : Fits (record { site = 16 * p + l; index = 8 + n }) = record { site = omega arith; index = omega arith } in
      sym (holds-timer N p l x.1.location n) ∙ h.marks (record { site = 16 * p + l; index = 8 + n }) fits x.1.is_set;
}
