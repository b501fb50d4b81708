-- The instances of a table: their marks obey the rules, and how many there are.
use Rattle.std.proofs.Common.{◌≡◌, ℕ, ◌<◌, true, ◌&&◌, ltb, length, subst}
use Rattle.std.proofs.lemmas.Bool.{and_from, and_parts, lt-ltb}
use Rattle.table.specs.Edges.{proc_at}
use Rattle.table.specs.Lists.{Lists}
use Rattle.marks.specs.Instances.{own}
use Rattle.marks.specs.Rules.{Obeys}
use Rattle.marks.proofs.Good.{Good, Named}

both : (a b c d : ℕ) → a < b → c < d → (ltb a b && ltb c d) ≡ true
both a b c d h i = and_from (ltb a b) (ltb c d) (lt-ltb a b h) (lt-ltb c d i)

pub own-obeys : (T : Lists) → Good T → Obeys T (own T)
own-obeys T g k e h =
    let p = proc_at T e in
    let to = g.to k e h in
    let name = g.named k e h in
    record {
      received = λ q a n. both e.to (proc_at T e).locations e.second (proc_at T e).variables to (subst (λ c. Named (length T.signals) (proc_at T e) c e) q name n);
      assigned = λ q m. both e.to (proc_at T e).locations e.first (proc_at T e).variables to (subst (λ c. Named (length T.signals) (proc_at T e) c e) q name);
      timed = λ q m. both e.to (proc_at T e).locations e.first (proc_at T e).timers to (subst (λ c. Named (length T.signals) (proc_at T e) c e) q name);
      variables = λ v s m.
          and_from (ltb e.to (proc_at T e).locations) (ltb v (proc_at T e).variables) (lt-ltb e.to (proc_at T e).locations to)
          (and_parts (ltb e.from (proc_at T e).locations) (ltb v (proc_at T e).variables) m).1;
      timers = λ n s m.
          and_from (ltb e.to (proc_at T e).locations) (ltb n (proc_at T e).timers) (lt-ltb e.to (proc_at T e).locations to)
          (and_parts (ltb e.from (proc_at T e).locations) (ltb n (proc_at T e).timers) m).1;
    }
