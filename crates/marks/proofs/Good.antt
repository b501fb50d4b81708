-- What a table that passes its examination is known to keep to.
use Rattle.std.proofs.Common.{◌≡◌, ℕ, zero, suc, ◌+◌, ◌<◌, ◌≤◌, Bool, true, false, List, [], ◌∷◌, length, get_or, drop, Some, None, Option, sym, refl, ap, ◌∙◌, subst, ⊎_elim, arith}
use Rattle.std.proofs.lemmas.Bool.{cases_lt}
use Rattle.std.proofs.lemmas.List.{get_or_past}
use Rattle.std.proofs.lemmas.Bool.Decides.{nat_tests}
use Rattle.std.specs.List.{slice_get}
use Rattle.std.specs.Option.{option_or}
use Rattle.table.proofs.Passing.{none-parts, cond-none, mapped-none, limit-all}
use Rattle.table.specs.Edges.{blank, proc_at, missing, missing_in, edge_tests, edge_fault}
use Rattle.table.specs.Examination.{first_at, bad_process, too_many, limited, edge_refused, lists_refused, processes_refused, signals_refused, edges_refused, limits_refused, locations_refused, examined}
use Rattle.table.specs.Lists.{Lists, Proc}
use Rattle.table.specs.Records.{kind_of}
use Rattle.refusal.specs.Refusals.{first, refusal}
use Rattle.table.specs.declared.record.Edge.{Edge}
use Rattle.table.specs.declared.record.Kind.{Kind}
use Rattle.table.specs.declared.record.Kind.TheVariants.{Input, Output, Assignment, Set, Reset, Timeout, Rearm, Skip, Unknown}
use Rattle.refusal.specs.declared.fault.Layer.{Layer}
use Rattle.refusal.specs.declared.fault.Place.{Place}

pub record GoodProcess (p : Proc) : Type 0 where
  pub locations : p.locations ≤ 16
  pub variables : p.variables ≤ 8
  pub timers : p.timers ≤ 8

-- what the two numbers of an edge name is there, by its kind
abbrev pub Named : ℕ → Proc → Kind → Edge → Type 0
Named signals p Input e = (e.second ≡ 15 → ⊥) → e.second < p.variables
Named signals p Output e = e.first < signals
Named signals p Assignment e = e.first < p.variables
Named signals p Set e = e.first < p.timers
Named signals p Reset e = e.first < p.timers
Named signals p Timeout e = e.first < p.timers
Named signals p Rearm e = e.first < p.timers
Named signals p Skip e = Unit {0}
Named signals p Unknown e = Unit {0}

pub record Good (T : Lists) : Type 0 where
  pub processes : length T.processes ≤ 8
  pub signals : length T.signals ≤ 64
  pub process : (p : ℕ) → GoodProcess (get_or T.processes p blank)
  pub from : (k : ℕ) (e : Edge) → slice_get T.edges k ≡ Some e → e.from < (proc_at T e).locations
  pub to : (k : ℕ) (e : Edge) → slice_get T.edges k ≡ Some e → e.to < (proc_at T e).locations
  pub named : (k : ℕ) (e : Edge) → slice_get T.edges k ≡ Some e → Named (length T.signals) (proc_at T e) (kind_of e.kind) e

first_at-none : {A R : Type 0} (f : ℕ → A → Option R) (i : ℕ) (xs : List A) → first_at f i xs ≡ None → (k : ℕ) (x : A) → slice_get xs k ≡ Some x → (j : ℕ) × (f j x ≡ None)
unfolding first_at
first_at-none f i [] e k x h = cc
first_at-none f i (y ∷ ys) e zero x h =
    let q : y ≡ x = cc in
    (i, ap (f i) (sym q) ∙ (none-parts (f i y) (first_at f (i + 1) ys) e).0)
first_at-none f i (y ∷ ys) e (suc k) x h = first_at-none f (i + 1) ys (none-parts (f i y) (first_at f (i + 1) ys) e).1 k x h

first-none : {R : Type 0} (b : Bool) (x : R) (ts : List (Bool × R)) → first ((b, x) ∷ ts) ≡ None → b ≡ false
first-none true x ts e = let z : ◌≡◌ {A = ℕ} 0 1 = cc in absurd (omega arith)
first-none false x ts e = refl

good-process : (p : Proc) → bad_process p ≡ false → GoodProcess p
good-process p e = record { locations = grind (arith, nat_tests); variables = grind (arith, nat_tests); timers = grind (arith, nat_tests) }

-- by its kind, since a case on a computed kind is one on a variable
named : (n : ℕ) (p : Proc) (e : Edge) (k : Kind) → kind_of e.kind ≡ k → missing_in n p e ≡ false → Named n p k e
named n p e Input q h = λ ne. let j = rw q at h in grind (arith, nat_tests)
named n p e Output q h = let j = rw q at h in grind (arith, nat_tests)
named n p e Assignment q h = let j = rw q at h in grind (arith, nat_tests)
named n p e Set q h = let j = rw q at h in grind (arith, nat_tests)
named n p e Reset q h = let j = rw q at h in grind (arith, nat_tests)
named n p e Timeout q h = let j = rw q at h in grind (arith, nat_tests)
named n p e Rearm q h = let j = rw q at h in grind (arith, nat_tests)
named n p e Skip q h = tt
named n p e Unknown q h = tt

blank-good : GoodProcess blank
blank-good = record { locations = omega arith; variables = omega arith; timers = omega arith }

module _ (T : Lists) (passed : examined T ≡ None) where
  limits : (too_many T ≡ false) × ((first_at (limited bad_process) 0 T.processes ≡ None) × (first_at (edge_refused T) 0 T.edges ≡ None))
  unfolding examined limits_refused
  limits =
      let a = none-parts (limits_refused T) (option_or (edges_refused T) (locations_refused T)) passed in
      let b = none-parts (lists_refused T) (option_or (processes_refused T) (signals_refused T)) a.0 in
      let c = none-parts (processes_refused T) (signals_refused T) b.1 in
      let d = none-parts (edges_refused T) (locations_refused T) a.1 in
      (cond-none (too_many T) (refusal 3 Layer.Table (Place.At 0)) b.0, (c.0, d.0))

  good-at : (p : ℕ) → GoodProcess (get_or T.processes p blank)
  good-at p = ⊎_elim inside beyond (cases_lt p (length T.processes))
    where
      inside : p < length T.processes → GoodProcess (get_or T.processes p blank)
      inside h =
          good-process (get_or T.processes p blank) (limit-all bad_process T.processes limits.1.0 p blank h)

      beyond : length T.processes ≤ p → GoodProcess (get_or T.processes p blank)
      beyond h = subst GoodProcess (sym (get_or_past T.processes p blank h)) blank-good

  present : (k : ℕ) (e : Edge) → slice_get T.edges k ≡ Some e → missing T e ≡ false
  unfolding edge_fault
  present k e h =
      let x = first_at-none (edge_refused T) 0 T.edges limits.1.1 k e h in
      first-none (missing T e) 7 (drop 1 (edge_tests T e)) (mapped-none (λ n. refusal n Layer.Edge (Place.At x.0)) (edge_fault T e) x.1)

  pub good : Good T
  good = record {
    processes = let h = limits.0 in grind (arith, nat_tests);
    signals = let h = limits.0 in grind (arith, nat_tests);
    process = good-at;
    from = λ k e h. let m = present k e h in grind (arith, nat_tests);
    to = λ k e h. let m = present k e h in grind (arith, nat_tests);
    named = λ k e h. named (length T.signals) (proc_at T e) e (kind_of e.kind) refl (present k e h);
  }
