-- What holds of a table and a world where 18 does not.
use Rattle.std.proofs.Common.{◌≡◌, ℕ, ◌+◌, ◌*◌, ◌<◌, ◌≤◌, Bool, true, false, cond, not, ◌||◌, eqb, leb, List, length, get_or, is_some, Some, None, sym, refl, ap, ◌∙◌, ⊎_elim, arith}
use Rattle.std.proofs.lemmas.List.{get_or_past}
use Rattle.std.proofs.lemmas.Bool.{cases_lt, both_ways, or_parts, or_right, leb-false, eqb-true, not-false}
use Rattle.std.proofs.lemmas.Bool.Decides.{nat_tests}
use Rattle.std.proofs.lemmas.Option.{cond_some}
use Rattle.marks.specs.Instances.{process_at}
use Rattle.marks.specs.Rules.{class_at}
use Rattle.refusal.specs.Refusals.{refusal}
use Rattle.refusal.specs.declared.fault.Layer.{Layer}
use Rattle.refusal.specs.declared.fault.Place.{Place}
use Rattle.rules.proofs.Lists.{is_some-none}
use Rattle.rules.specs.States.{World, idle, at, lacking, is_inbound, is_internal, goal}
use Rattle.rules.specs.Steps.{state_at, misplaced, unlike, state_refused}
use Rattle.rules.specs.declared.step.Message.{Message}
use Rattle.stepping.specs.Worlds.{world_of}
use Rattle.stepping.specs.declared.state.State.{State}
use Rattle.stepping.proofs.Worlds.{length-world_of, room-world_of}
use Rattle.rules.proofs.Examined.{process-there}
use Rattle.rules.proofs.Fates.{sound-edge}
use Rattle.table.specs.declared.record.Edge.{Edge}
use Rattle.table.specs.Edges.{blank, absent, edge_fault}
use Rattle.table.specs.Examination.{first_at, bad_process, bad_signal, too_many, limited, lists_refused, processes_refused, signals_refused, limits_refused}
use Rattle.table.specs.Lists.{Lists, Proc, meant}
use Rattle.table.specs.declared.record.Process.{Process}
use Rattle.table.specs.Records.{class_of}
use Rattle.table.specs.declared.record.Class.{Class}
use Rattle.table.specs.declared.record.Class.TheVariants.{Internal, Inbound, Outbound, Absent}
use Rattle.table.specs.declared.record.Signal.{Signal}
use Rattle.std.specs.Option.{option_or}
use Rattle.table.proofs.Passing.{none-parts, cond-none, first_at-all}

-- within its limits
pub record Limited (T : Lists) : Type 0 where
  pub processes : length T.processes ≤ 8
  pub signals : length T.signals ≤ 64
  pub variables : (p : ℕ) → (process_at T p).variables ≤ 8
  pub timers : (p : ℕ) → (process_at T p).timers ≤ 8
  pub goals : (s : ℕ) → s < length T.signals → bad_signal (length T.processes) (get_or T.signals s absent) ≡ false

limit-all : {A : Type 0} (bad : A → Bool) (xs : List A) → first_at (limited bad) 0 xs ≡ None → (k : ℕ) (d : A) → k < length xs → bad (get_or xs k d) ≡ false
limit-all bad xs h k d l = cond-none (bad (get_or xs k d)) (refusal 3 Layer.Table (Place.At (0 + k))) (first_at-all (limited bad) 0 xs h k d l)

module _ (T : Lists) (h : processes_refused T ≡ None) where
  few_variables : (p : ℕ) → (process_at T p).variables ≤ 8
  few_variables p =
      ⊎_elim (λ l. let b = limit-all bad_process T.processes h p blank l in grind (arith, nat_tests))
      (λ past. let e = ap (λ r. r.variables) (get_or_past T.processes p blank past) in omega arith)
      (cases_lt p (length T.processes))

  few_timers : (p : ℕ) → (process_at T p).timers ≤ 8
  few_timers p =
      ⊎_elim (λ l. let b = limit-all bad_process T.processes h p blank l in grind (arith, nat_tests))
      (λ past. let e = ap (λ r. r.timers) (get_or_past T.processes p blank past) in omega arith)
      (cases_lt p (length T.processes))

pub is_limited : (T : Lists) → limits_refused T ≡ None → Limited T
unfolding limits_refused
is_limited T h =
    let b = none-parts (lists_refused T) (option_or (processes_refused T) (signals_refused T)) h in
    let c = none-parts (processes_refused T) (signals_refused T) b.1 in
    let l = cond-none (too_many T) (refusal 3 Layer.Table (Place.At 0)) b.0 in
    record {
      processes = grind (arith, nat_tests);
      signals = grind (arith, nat_tests);
      variables = few_variables T c.0;
      timers = few_timers T c.0;
      goals = λ s l. limit-all (bad_signal (length T.processes)) T.signals c.1 s absent l;
    }

pub timers_within : (T : Lists) (p : ℕ) (r : Process) → limits_refused T ≡ None → meant r ≡ process_at T p → r.timers ≤ 8
timers_within T p r h e = omega (arith, (is_limited T h).timers p, ap (λ (q : Proc). q.timers) e)

pub variables_within : (T : Lists) (p : ℕ) (r : Process) → limits_refused T ≡ None → meant r ≡ process_at T p → r.variables ≤ 8
variables_within T p r h e = omega (arith, (is_limited T h).variables p, ap (λ (q : Proc). q.variables) e)

-- a destination that is used is there
destined : (n : ℕ) (g : Signal) (c : Class) → class_of g.class ≡ c → bad_signal n g ≡ false → (is_internal c || is_inbound c) ≡ true → g.destination < n
destined n g Internal q h w = let j = rw q at h in leb-false n g.destination j
destined n g Inbound q h w = let j = rw q at h in leb-false n g.destination j
destined n g Outbound q h w = absurd (both_ways false refl w)
destined n g Absent q h w = absurd (both_ways false refl w)
destined n g Class.Unknown q h w = absurd (both_ways false refl w)

pub record Arrives (T : Lists) (s : ℕ) : Type 0 where
  pub signal : s < 64
  pub goal : goal T s < length T.processes

pub arrives : (T : Lists) → limits_refused T ≡ None → (s : ℕ) → (is_internal (class_at T s) || is_inbound (class_at T s)) ≡ true → Arrives T s
arrives T h s w =
    let l = is_limited T h in
    ⊎_elim
    (λ (k : s < length T.signals). record { signal = omega (arith, l.signals); goal = destined (length T.processes) (get_or T.signals s absent) (class_at T s) refl (l.goals s k) w })
    (λ past.
    let q = ap (λ g. is_internal (class_of g.class) || is_inbound (class_of g.class)) (get_or_past T.signals s absent past) in
    absurd (both_ways (is_internal (class_at T s) || is_inbound (class_at T s)) q w))
    (cases_lt s (length T.signals))

-- where 18 does not apply
pub record Standing (T : Lists) (W : World) : Type 0 where
  pub count : length W.processes ≡ length T.processes
  pub limits : limits_refused T ≡ None
  pub room : (p : ℕ) → p < length W.processes → 16 * p + 16 ≤ W.room

pub standing : (T : Lists) (W : World) → state_refused T W ≡ None → Standing T W
unfolding state_refused
standing T W h =
    let a = none-parts (cond (unlike T W) (Some (state_at 18 0)) None) (first_at (misplaced T W.room) 0 W.processes) h in
    let b = or_parts (not (eqb (length W.processes) (length T.processes))) (is_some (limits_refused T)) (cond-none (unlike T W) (state_at 18 0) a.0) in
    record {
      count = eqb-true (length W.processes) (length T.processes) (not-false (eqb (length W.processes) (length T.processes)) b.0);
      limits = is_some-none (limits_refused T) b.1;
      room = λ p l.
          let x = first_at-all (misplaced T W.room) 0 W.processes a.1 p idle l in
          let y = cond-none (leb (process_at T (0 + p)).locations (at W p).location || lacking W.room (0 + p)) (state_at 18 (0 + p)) x in
          let z = or_parts (leb (process_at T (0 + p)).locations (at W p).location) (lacking W.room (0 + p)) y in
          let e = z.1 in
          grind (arith, nat_tests);
    }

module _ (T : Lists) (s : State) (m : List Message) (h : state_refused T (world_of s m) ≡ None) where
  pub has-places : (p : ℕ) → p < s.count → 16 * p + 16 ≤ length m
  has-places p l = omega (arith, (standing T (world_of s m) h).room p (omega (arith, length-world_of s m)), room-world_of s m)

  pub same-count : length T.processes ≡ s.count
  same-count = sym (standing T (world_of s m) h).count ∙ length-world_of s m

  -- the process of an edge that breaks no rule
  pub edge-there : (e : Edge) → edge_fault T e ≡ None → e.process < s.count
  edge-there e f = omega (arith, process-there T e (sound-edge T e f), same-count)

-- a signal n that joins the queue of process p of the state s, where b says that it may
pub record Receives (T : Lists) (s : State) (m : List Message) (n p : ℕ) (b : Bool) : Type 0 where
  pub joins : b ≡ true
  pub goal : p ≡ goal T n
  pub signal : n < 64
  pub there : p < s.count
  pub places : 16 * p + 16 ≤ length m

pub receives : (T : Lists) (s : State) (m : List Message) (n p : ℕ) (b : Bool) → state_refused T (world_of s m) ≡ None → (b ≡ true → (is_internal (class_at T n) || is_inbound (class_at T n)) ≡ true) → Some p ≡ cond b (Some (goal T n)) None → Receives T s m n p b
receives T s m n p b h w e =
    let c = cond_some b (goal T n) p (sym e) in
    let a = arrives T (standing T (world_of s m) h).limits n (w c.0) in
    let there : p < s.count = omega (arith, a.goal, c.1, same-count T s m h) in
    record { joins = c.0; goal = sym c.1; signal = a.signal; there = there; places = has-places T s m h p there }

pub inbound-receives : (T : Lists) (s : State) (m : List Message) (n p : ℕ) → state_refused T (world_of s m) ≡ None → Some p ≡ cond (is_inbound (class_at T n)) (Some (goal T n)) None → Receives T s m n p (is_inbound (class_at T n))
inbound-receives T s m n p h e = receives T s m n p (is_inbound (class_at T n)) h (or_right (is_internal (class_at T n)) (is_inbound (class_at T n))) e
