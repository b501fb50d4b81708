-- Bounds of what an edge names, in a table that passes its examination.
use Rattle.std.proofs.Common.{◌≡◌, ℕ, ◌<◌, ◌≤◌, [], length, get_or, Some, ap, subst, ⊎_elim, arith}
use Rattle.std.proofs.lemmas.Bool.{cases_lt}
use Rattle.std.proofs.lemmas.List.{get_or_past}
use Rattle.std.specs.List.{slice_get}
use Rattle.table.specs.Edges.{blank, proc_at}
use Rattle.table.specs.Lists.{Lists, Proc}
use Rattle.table.specs.Records.{kind_of}
use Rattle.table.specs.declared.record.Edge.{Edge}
use Rattle.table.specs.declared.record.Kind.{Kind}
use Rattle.table.specs.declared.record.Kind.TheVariants.{Input, Output, Assignment, Set, Reset, Timeout, Rearm, Skip, Unknown}
use Rattle.marking.specs.Leads.{Bounded}
use Rattle.marks.proofs.Good.{Good, GoodProcess, Named}

process-below : (T : Lists) → Good T → (p l : ℕ) → l < (get_or T.processes p blank).locations → p < 8
process-below T g p l h =
    ⊎_elim (λ (i : p < length T.processes). omega (arith, g.processes))
    (λ (i : length T.processes ≤ p). let e = ap (λ (r : Proc). r.locations) (get_or_past T.processes p blank i) in absurd (omega arith))
    (cases_lt p (length T.processes))

abbrev pub largest : Proc
largest = record { locations = 16; first = 0; variables = 8; timers = 8; values = []; settings = [] }

-- bounds of an edge of the table
pub record Bounds (T : Lists) (e : Edge) : Type 0 where
  pub process : e.process < 8
  pub from : e.from < 16
  pub to : e.to < 16
  pub named : Named 64 largest (kind_of e.kind) e

widen : (n : ℕ) (p : Proc) (k : Kind) (e : Edge) → n ≤ 64 → GoodProcess p → Named n p k e → Named 64 largest k e
widen n p Input e h g d = λ ne. omega (arith, d ne, g.variables)
widen n p Output e h g d = omega arith
widen n p Assignment e h g d = omega (arith, g.variables)
widen n p Set e h g d = omega (arith, g.timers)
widen n p Reset e h g d = omega (arith, g.timers)
widen n p Timeout e h g d = omega (arith, g.timers)
widen n p Rearm e h g d = omega (arith, g.timers)
widen n p Skip e h g d = tt
widen n p Unknown e h g d = tt

pub bounds : (T : Lists) → Good T → (k : ℕ) (e : Edge) → slice_get T.edges k ≡ Some e → Bounds T e
bounds T g k e h =
    let p = g.process e.process in
    record {
      process = process-below T g e.process e.from (g.from k e h);
      from = omega (arith, g.from k e h, p.locations);
      to = omega (arith, g.to k e h, p.locations);
      named = widen (length T.signals) (proc_at T e) (kind_of e.kind) e g.signals p (g.named k e h);
    }

pub bounded : (T : Lists) → Good T → (k : ℕ) (e : Edge) → slice_get T.edges k ≡ Some e → Bounded e
bounded T g k e h =
    let b = bounds T g k e h in
    record { process = b.process; to = b.to; timer = λ q. subst (λ k. Named 64 largest k e) q b.named }
