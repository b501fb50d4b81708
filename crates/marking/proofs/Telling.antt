-- The least marks of the small table.
use Rattle.std.proofs.Common.{◌≡◌, ℕ, zero, suc, Bool, true, false, not, ◌&&◌, eqb, Some, None, sym, refl, ap, subst, ⊎_elim, arith}
use Rattle.std.proofs.lemmas.Bool.{both_ways, cases_Bool, eqb-false, ne_eqb}
use Rattle.table.specs.Edges.{edge_fault}
use Rattle.table.specs.Examination.{examined, limits_refused, locations_refused, first_at, first_from}
use Rattle.table.specs.Expressions.{sound, formed}
use Rattle.table.specs.declared.record.Edge.{Edge}
use Rattle.marking.specs.Example.{small, edge, span, Told, Shown}
use Rattle.marks.specs.Rules.{Marking, Least, EdgeObeys, Obeys, marked, indices}
use Rattle.marking.proofs.Reading.{mentions-marked, sent-signal}

-- everything but variable 0 at location 0
abbrev most : Marking
most = record { variable = λ p l v. not (eqb p 0 && (eqb l 0 && eqb v 0)); timer = λ p l n. true }

unmarked : marked small most (edge 3 0 2 0 0 (span 2 1)) (span 2 1) ≡ false
unfolding marked indices
unmarked = refl

lacks-none : (a b c : Bool) → b ≡ false → not (a && (b && c)) ≡ true
lacks-none true true c e = absurd (both_ways true e refl)
lacks-none true false c e = refl
lacks-none false b c e = refl

-- an edge that ends at another location
elsewhere : (e : Edge) → eqb e.to 0 ≡ false → EdgeObeys small most e
elsewhere e n = record {
  received = λ q a m. lacks-none (eqb e.process 0) (eqb e.to 0) (eqb e.second 0) n;
  assigned = λ q m. lacks-none (eqb e.process 0) (eqb e.to 0) (eqb e.first 0) n;
  timed = λ q m. refl;
  variables = λ v s m. lacks-none (eqb e.process 0) (eqb e.to 0) (eqb v 0) n;
  timers = λ i s m. refl;
}

overwrite-obeys : EdgeObeys small most (edge 3 0 2 0 0 (span 2 1))
overwrite-obeys = record {
  received = λ q a n. let z : ◌≡◌ {A = ℕ} 0 1 = cc in absurd (omega arith);
  assigned = λ q m. absurd (both_ways (marked small most (edge 3 0 2 0 0 (span 2 1)) (span 2 1)) unmarked m);
  timed = λ q m. refl;
  variables = λ v s m. ap not (ne_eqb v 0 (λ e. eqb-false 0 v s (sym e)));
  timers = λ n s m. refl;
}

same-edge : (a e : Edge) → EdgeObeys small most a → Some a ≡ Some e → EdgeObeys small most e
same-edge a e o h = let q : a ≡ e = cc in subst (EdgeObeys small most) q o

most-obeys : Obeys small most
most-obeys zero e h = same-edge (edge 0 1 0 0 0 (span 0 0)) e (elsewhere (edge 0 1 0 0 0 (span 0 0)) refl) h
most-obeys (suc zero) e h = same-edge (edge 1 2 2 1 0 (span 0 1)) e (elsewhere (edge 1 2 2 1 0 (span 0 1)) refl) h
most-obeys (suc (suc zero)) e h = same-edge (edge 1 2 3 0 0 (span 0 1)) e (elsewhere (edge 1 2 3 0 0 (span 0 1)) refl) h
most-obeys (suc (suc (suc zero))) e h = same-edge (edge 2 3 1 1 0 (span 1 1)) e (elsewhere (edge 2 3 1 1 0 (span 1 1)) refl) h
most-obeys (suc (suc (suc (suc zero)))) e h = same-edge (edge 3 0 2 0 0 (span 2 1)) e overwrite-obeys h
most-obeys (suc (suc (suc (suc (suc zero))))) e h = same-edge (edge 0 1 0 1 2 (span 0 0)) e (elsewhere (edge 0 1 0 1 2 (span 0 0)) refl) h
most-obeys (suc (suc (suc (suc (suc (suc k)))))) e h = let z : ◌≡◌ {A = ℕ} 0 1 = cc in absurd (omega arith)

passes : examined small ≡ None
unfolding examined limits_refused locations_refused first_at first_from edge_fault sound formed
passes = refl

told : (M : Marking) → Least small M → Told M
told M h =
    let o = h.obeys in
    let a : M.variable 0 1 0 ≡ true = (o 0 (edge 0 1 0 0 0 (span 0 0)) refl).received refl refl (λ e. omega arith) in
    let b : M.variable 0 2 1 ≡ true = (o 1 (edge 1 2 2 1 0 (span 0 1)) refl).assigned refl (mentions-marked small M (edge 1 2 2 1 0 (span 0 1)) (span 0 1) 0 (omega arith) a refl) in
    let t : M.timer 0 2 0 ≡ true = (o 2 (edge 1 2 3 0 0 (span 0 1)) refl).timed refl (mentions-marked small M (edge 1 2 3 0 0 (span 0 1)) (span 0 1) 0 (omega arith) a refl) in
    let s = sent-signal small M 3 (edge 2 3 1 1 0 (span 1 1)) refl refl (mentions-marked small M (edge 2 3 1 1 0 (span 1 1)) (span 1 1) 1 (omega arith) b refl) in
    let c : M.variable 0 1 2 ≡ true = (o 5 (edge 0 1 0 1 2 (span 0 0)) refl).received refl s (λ e. omega arith) in
    record {
      received = a;
      assigned = b;
      timed = t;
      sent = c;
      overwritten = ⊎_elim (λ m. absurd (both_ways false refl ((h.least most most-obeys).variables 0 0 0 m))) (λ m. m) (cases_Bool (M.variable 0 0 0));
    }

pub shown : Shown
shown = record { passes = passes; told = told }
