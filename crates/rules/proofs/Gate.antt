-- The marks of the worked example are the least.
use Rattle.std.proofs.Common.{◌≡◌, ℕ, true, ◌&&◌, eqb, List, refl, ap, ◌∙◌, sym, subst, arith}
use Rattle.std.proofs.lemmas.Bool.{and_parts, eqb-true}
use Rattle.std.proofs.lemmas.List.Elements.{All-from_recursion}
use Rattle.std.proofs.lemmas.List.Folds.{Any-from_list_any}
use Rattle.std.proofs.lemmas.Option.{slice_get_within, get_or_from_slice_get}
use Rattle.std.specs.List.{AllByRecursion}
use Rattle.marks.specs.Rules.{Marking, EdgeObeys, Obeys, Within, Least, marked, signal_marked, indices}
use Rattle.rules.specs.Gate.{Instance, is_at, among, gate_variables, gate_timers, gate_marks}
use Rattle.rules.specs.Steps.{edge_at}
use Rattle.table.specs.Gate.{gate_table}
use Rattle.table.specs.Lists.{Lists}
use Rattle.table.specs.Records.{kind_of}
use Rattle.table.specs.declared.record.Edge.{Edge}
use Rattle.table.specs.declared.record.Kind.{Kind}
use Rattle.table.specs.declared.record.Kind.TheVariants.{Input, Output, Assignment, Set, Reset, Timeout, Rearm, Skip, Unknown}

-- of a table T that is like the worked example: what an edge asks of the marks at its end, beside those at its beginning
abbrev pub Asked : Lists → Marking → Edge → Kind → Type 0
Asked T M e Input = M.variable e.process e.to e.second ≡ true
Asked T M e Output = Unit {0}
Asked T M e Assignment = M.variable e.process e.to e.first ≡ true
Asked T M e Set = marked T M e e.value ≡ true → M.timer e.process e.to e.first ≡ true
Asked T M e Reset = Unit {0}
Asked T M e Timeout = Unit {0}
Asked T M e Rearm = Unit {0}
Asked T M e Skip = Unit {0}
Asked T M e Unknown = Unit {0}

-- the marks at both ends are the same, and have what the edge asks
abbrev pub Even : Lists → Marking → Edge → Type 0
Even T M e =
    (M.variable e.process e.from ≡ M.variable e.process e.to) × (M.timer e.process e.from ≡ M.timer e.process e.to) × Asked T M e (kind_of e.kind)

even-obeys : (T : Lists) (M : Marking) (e : Edge) → Even T M e → EdgeObeys T M e
even-obeys T M e h = record {
  received = λ q a n. subst (Asked T M e) q h.2;
  assigned = λ q m. subst (Asked T M e) q h.2;
  timed = λ q. subst (Asked T M e) q h.2;
  variables = λ v s m. sym (ap (λ f. f v) h.0) ∙ m;
  timers = λ n s m. sym (ap (λ f. f n) h.1) ∙ m;
}

pub all-obey : (T : Lists) (M : Marking) → AllByRecursion (Even T M) T.edges → Obeys T M
all-obey T M a k e h =
    subst (EdgeObeys T M) (get_or_from_slice_get T.edges k e e h)
    (even-obeys T M _ (All-from_recursion (Even T M) T.edges a k e (slice_get_within T.edges k e h)))

gate-obeys : Obeys gate_table gate_marks
unfolding gate_table gate_marks marked indices
gate-obeys =
    all-obey gate_table gate_marks
    ((refl, refl, refl), ((refl, refl, tt), ((refl, refl, λ m. cc), ((refl, refl, tt), ((refl, refl, refl), ((refl, refl, λ m. refl), ((refl, refl, tt), tt)))))))

found-at : (p l n : ℕ) (i : Instance) → is_at p l n i ≡ true → i ≡ (p, l, n)
found-at p l n (q, m, k) e =
    let x = and_parts (eqb q p) (eqb m l && eqb k n) e in
    let y = and_parts (eqb m l) (eqb k n) x.1 in
    let a = eqb-true q p x.0 in
    let b = eqb-true m l y.0 in
    let c = eqb-true k n y.1 in
    cc

-- what holds of some instances holds of each that is among them
pub among-all : (P : ℕ → ℕ → ℕ → Type 0) (is : List Instance) → AllByRecursion (λ i. P i.0 i.1 i.2) is → (p l n : ℕ) → among is p l n ≡ true → P p l n
among-all P is h p l n e =
    let x = Any-from_list_any (is_at p l n) is e in
    subst (λ i. P i.0 i.1 i.2) (x.3 ∙ found-at p l n x.1 x.4) (All-from_recursion (λ i. P i.0 i.1 i.2) is h x.0 x.1 x.2)

module _ (N : Marking) (o : Obeys gate_table N) where
  -- all that the rules lead to, from the input of edge 0 on
  gate-within : Within gate_marks N
  unfolding gate_table gate_marks marked signal_marked indices
  gate-within =
      let rx1 : N.variable 0 1 0 ≡ true = (o 0 (edge_at gate_table 0) refl).received refl refl (λ e. omega arith) in
      let rx2 : N.variable 0 2 0 ≡ true = (o 1 (edge_at gate_table 1) refl).variables 0 refl rx1 in
      let rx0 : N.variable 0 0 0 ≡ true = (o 2 (edge_at gate_table 2) refl).variables 0 refl rx2 in
      let go : signal_marked gate_table N 1 ≡ true = rw rx1 refl in
      let tx1 : N.variable 1 1 0 ≡ true = (o 4 (edge_at gate_table 4) refl).received refl go (λ e. omega arith) in
      let tx0 : N.variable 1 0 0 ≡ true = (o 5 (edge_at gate_table 5) refl).variables 0 refl tx1 in
      let t0 : N.timer 1 0 0 ≡ true = (o 5 (edge_at gate_table 5) refl).timed refl (rw tx1 refl) in
      let t1 : N.timer 1 1 0 ≡ true = (o 4 (edge_at gate_table 4) refl).timers 0 refl t0 in
      record {
        variables = among-all (λ p l v. N.variable p l v ≡ true) gate_variables (rx0, (rx1, (rx2, (tx0, (tx1, tt)))));
        timers = among-all (λ p l n. N.timer p l n ≡ true) gate_timers (t0, (t1, tt));
      }

pub gate-least : Least gate_table gate_marks
gate-least = record { obeys = gate-obeys; least = gate-within }
