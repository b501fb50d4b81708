-- The first process whose queue places are missing, and the state of a table at its start.
use Rattle.std.proofs.Common.{◌≡◌, ℕ, zero, suc, ◌+◌, ◌*◌, ◌/◌, ◌<◌, ◌≤◌, Bool, true, false, cond, ltb, List, map, length, get_or, replicate, pos, Some, None, sym, refl, ◌∙◌, arith}
use Rattle.std.proofs.lemmas.List.{same_lists, length-map, get_or-map, get_or_default}
use Rattle.std.proofs.lemmas.Bool.{ltb-true, ltb-false, lt-ltb, le-ltb}
use Rattle.marks.specs.Instances.{process_at}
use Rattle.ring.specs.Queue.{fresh}
use Rattle.ring.specs.Slots.{slot}
use Rattle.rules.proofs.Examined.{passed, limits-pass}
use Rattle.rules.specs.States.{idle, begun, started, lacking, places_refused, start_refused}
use Rattle.rules.specs.declared.step.Message.{Message}
use Rattle.stepping.specs.Worlds.{running, world, world_of}
use Rattle.stepping.specs.declared.state.Local.{Local}
use Rattle.stepping.specs.declared.state.State.{State}
use Rattle.stepping.proofs.Worlds.{length-world_of, room-world_of, at-world_of}
use Rattle.table.specs.Edges.{blank}
use Rattle.table.specs.declared.record.Timer.TheVariants.{Off}
use Rattle.table.specs.Examination.{first_from, examined, limits_refused}
use Rattle.table.specs.Lists.{Lists}
use Rattle.table.proofs.Passing.{none-parts}

first-lacking : (room i n : ℕ) → i ≤ room / 16 → first_from (lacking room) i n ≡ cond (ltb (room / 16) (i + n)) (Some (room / 16)) None
unfolding first_from
first-lacking room i zero h = let e : ltb (room / 16) (i + 0) ≡ false = le-ltb (room / 16) (i + 0) (omega arith) in rw e
first-lacking room i (suc n) h = by (lacking room i) refl (first-lacking room (i + 1) n)
  where
    by : (b : Bool) → lacking room i ≡ b → (i + 1 ≤ room / 16 → first_from (lacking room) (i + 1) n ≡ cond (ltb (room / 16) (i + 1 + n)) (Some (room / 16)) None) → cond b (Some i) (first_from (lacking room) (i + 1) n) ≡ cond (ltb (room / 16) (i + suc n)) (Some (room / 16)) None
    by true e rest =
        let l : room < 16 * (i + 1) = ltb-true room (16 * (i + 1)) e in
        let q : i ≡ room / 16 = omega arith in
        let t : ltb (room / 16) (i + suc n) ≡ true = lt-ltb (room / 16) (i + suc n) (omega arith) in
        rw (t, q)
    by false e rest =
        let l : 16 * (i + 1) ≤ room = ltb-false room (16 * (i + 1)) e in
        let z : i + suc n ≡ i + 1 + n = omega arith in
        rw z (rest (omega arith))

pub first_lacking : (room n : ℕ) → first_from (lacking room) 0 n ≡ cond (ltb (room / 16) n) (Some (room / 16)) None
first_lacking room n = let z : 0 + n ≡ n = omega arith in rw z at (first-lacking room 0 n (omega arith))

pub starts-limited : (T : Lists) (room : ℕ) → start_refused T room ≡ None → limits_refused T ≡ None
unfolding start_refused
starts-limited T room h = limits-pass T (passed T (none-parts (examined T) (places_refused T room) h).0)

-- some process, to read a list of processes by
nowhere : Local
nowhere = record {
  location = 0;
  variables = replicate 8 (pos 0);
  timers = replicate 8 Off;
  queue = fresh;
  variable_places = refl;
  timer_places = refl;
  queue_places = refl;
}

pub world-started : (T : Lists) (n : ℕ) (ls : List Local) (m : List Message) → n ≤ 8 → length ls ≡ 8 → n ≡ length T.processes → ((p : ℕ) (d : Local) (ps : List Message) → p < 8 → running ps (get_or ls p d) ≡ begun (process_at T p)) → world n ls m ≡ started T (length m)
world-started T n ls m few whole count each =
    let s : State = record { count = n; processes = ls; few = few; places = whole } in
    let long = length-world_of s m in
    let e : (world_of s m).processes ≡ map begun T.processes =
    same_lists (world_of s m).processes (map begun T.processes) (long ∙ count ∙ sym (length-map T.processes begun))
    (λ k d h.
    let here : k < s.count = omega arith in
    let there : k < length T.processes = omega arith in
    get_or_default (world_of s m).processes k d idle h
    ∙ at-world_of s m k nowhere here
    ∙ each k nowhere (slot 16 k m) (omega (arith, s.few))
    ∙ sym (get_or-map begun T.processes k blank d there)) in
    λ i. record { processes = e i; room = room-world_of s m i }
