-- What a state means, process by process, and once one of its processes changed, and its queue with it.
use Rattle.std.proofs.Common.{◌≡◌, ℕ, ◌+◌, ◌-◌, ◌*◌, ◌<◌, ◌≤◌, ◌≢◌, eqb, List, [], ◌∷◌, length, get_or, take, drop, set, Option, sym, refl, ap, ◌∙◌, ⊎_elim, zero-add, arith}
use borrow.Rule.Slice.PartMut.{put_mid}
use Rattle.std.proofs.lemmas.List.{same_lists, length-set, length-append, length-take, length-drop, length-take-le, get_or-take, get_or-set_same, get_or-set_other}
use Rattle.std.specs.List.{slice_get}
use Rattle.std.proofs.lemmas.Option.{slice_get-get_or}
use Rattle.table.specs.Examination.{answer_at, first_at}
use Rattle.examination.specs.Firsts.{first_told}
use Rattle.examination.proofs.Firsts.{told-at}
use Rattle.std.proofs.lemmas.Slice.{drop-put_mid}
use Rattle.std.proofs.lemmas.Bool.{cases_eq, cond-true}
use Rattle.ring.proofs.Held.{length-held}
use Rattle.ring.specs.Queue.{fits, held}
use Rattle.ring.proofs.Slots.{length-slot, slot_lent, slot_same, slot-other}
use Rattle.ring.specs.Slots.{slot}
use Rattle.rules.proofs.Lists.{length-numbered, get_or-numbered}
use Rattle.rules.specs.States.{Running, idle, at, numbered}
use Rattle.std.proofs.lemmas.Bool.Decides.{nat_tests}
use Rattle.rules.specs.Steps.{put, no_message}
use Rattle.rules.specs.declared.step.Message.{Message}
use Rattle.stepping.specs.Worlds.{running, in_memory, world, world_of}
use Rattle.stepping.specs.declared.state.Local.{Local}
use Rattle.stepping.specs.declared.state.State.{State}

-- the processes of a world
abbrev shown : ℕ → List Local → List Message → List Running
shown n ls m = numbered (in_memory m) 0 (take n ls)

length-shown : (n : ℕ) (ls : List Local) (m : List Message) → n ≤ length ls → length (shown n ls m) ≡ n
length-shown n ls m few = length-numbered (in_memory m) 0 (take n ls) ∙ length-take-le n ls few

get_or-shown : (n : ℕ) (ls : List Local) (m : List Message) → n ≤ length ls → (k : ℕ) (d : Running) (e : Local) → k < n → get_or (shown n ls m) k d ≡ running (slot 16 k m) (get_or ls k e)
get_or-shown n ls m few k d e h =
    get_or-numbered (in_memory m) 0 (take n ls) k d e (omega (arith, length-take-le n ls few))
    ∙ ap (λ q. in_memory m q (get_or (take n ls) k e)) (zero-add k)
    ∙ ap (running (slot 16 k m)) (get_or-take n ls k e h)

module _ (n : ℕ) (ls : List Local) (m : List Message) (few : n ≤ length ls) where
  pub length-world : length (world n ls m).processes ≡ n
  unfolding world
  length-world = length-shown n ls m few

  pub room-world : (world n ls m).room ≡ length m
  unfolding world
  room-world = refl

  pub at-world : (p : ℕ) (d : Local) → p < n → at (world n ls m) p ≡ running (slot 16 p m) (get_or ls p d)
  unfolding world
  at-world p d h = get_or-shown n ls m few p idle d h

  -- process p became b, and the memory m'
  module _ (m' : List Message) (p : ℕ) (b : Local) (r : Running) (here : p < n) (long : length m' ≡ length m) (others : (k : ℕ) → k ≢ p → slot 16 k m' ≡ slot 16 k m) (is : running (slot 16 p m') b ≡ r) where
    many : n ≤ length (set ls p b)
    many = omega (arith, length-set ls p b)

    same : (k : ℕ) (d : Running) → k < n → get_or (shown n (set ls p b) m') k d ≡ get_or (set (shown n ls m) p r) k d
    same k d h =
        get_or-shown n (set ls p b) m' many k d b h
        ∙ ⊎_elim
        (λ e.
        ap (λ q. running (slot 16 q m') (get_or (set ls p b) q b)) e
        ∙ ap (running (slot 16 p m')) (get_or-set_same ls p b b (omega arith))
        ∙ is
        ∙ sym (get_or-set_same (shown n ls m) p r d (omega (arith, length-shown n ls m few)))
        ∙ ap (λ q. get_or (set (shown n ls m) p r) q d) (sym e))
        (λ ne.
        ap (running (slot 16 k m')) (get_or-set_other ls p k b b ne)
        ∙ ap (λ ps. running ps (get_or ls k b)) (others k ne)
        ∙ sym (get_or-shown n ls m few k d b h)
        ∙ sym (get_or-set_other (shown n ls m) p k r d ne))
        (cases_eq k p)

    pub world-put : world n (set ls p b) m' ≡ put (world n ls m) p r
    unfolding world
    world-put =
        let e : shown n (set ls p b) m' ≡ set (shown n ls m) p r =
        same_lists (shown n (set ls p b) m') (set (shown n ls m) p r)
        (length-shown n (set ls p b) m' many ∙ sym (length-set (shown n ls m) p r ∙ length-shown n ls m few))
        (λ k d h. same k d (omega (arith, length-shown n (set ls p b) m' many))) in
        λ i. record { processes = e i; room = long i }

-- how many messages a queue holds, of sixteen places
pub length-queue : (l : Local) (ps : List Message) → length ps ≡ 16 → length (held l.queue ps) ≡ l.queue.len
length-queue l ps e = length-held l.queue ps ∙ cond-true (fits l.queue (length ps)) l.queue.len 0 (ap (fits l.queue) e ∙ l.queue_places)

no_message-length : (q : List Message) → no_message q ≡ eqb (length q) 0
no_message-length [] = refl
no_message-length (m ∷ ms) = grind (arith, nat_tests)

pub no_message_len : (l : Local) (ps : List Message) → length ps ≡ 16 → no_message (held l.queue ps) ≡ eqb l.queue.len 0
no_message_len l ps e = no_message-length (held l.queue ps) ∙ ap (λ n. eqb n 0) (length-queue l ps e)

length-written : {X : Type 0} (w p : ℕ) (m ys : List X) → w * p + w ≤ length m → length ys ≡ w → length (put_mid (w * p) (w * p + w - w * p) m ys) ≡ length m
length-written w p m ys h e = simp (length-append, length-take, length-drop) (omega arith)

module _ (s : State) (m : List Message) where
  enough : s.count ≤ length s.processes
  enough = omega (arith, s.few, s.places)

  pub length-world_of : length (world_of s m).processes ≡ s.count
  length-world_of = length-world s.count s.processes m enough

  pub room-world_of : (world_of s m).room ≡ length m
  room-world_of = room-world s.count s.processes m enough

-- a process as it stands in the state
pub at-world_of : (s : State) (m : List Message) (p : ℕ) (d : Local) → p < s.count → at (world_of s m) p ≡ running (slot 16 p m) (get_or s.processes p d)
at-world_of s m p d here = at-world s.count s.processes m (enough s m) p d here

pub length-queue_at : (s : State) (m : List Message) (p : ℕ) (d : Local) → p < s.count → 16 * p + 16 ≤ length m → length (at (world_of s m) p).queue ≡ (get_or s.processes p d).queue.len
length-queue_at s m p d here room =
    ap (λ (r : Running). length r.queue) (at-world_of s m p d here) ∙ length-queue (get_or s.processes p d) (slot 16 p m) (length-slot 16 p m room)

pub location_at : (s : State) (m : List Message) (p : ℕ) (d : Local) → p < s.count → (at (world_of s m) p).location ≡ (get_or s.processes p d).location
location_at s m p d here = ap (λ (r : Running). r.location) (at-world_of s m p d here)

module _ (s : State) (m : List Message) (p : ℕ) (d : Local) (here : p < s.count) where
  at_place : running (slot 16 p m) (get_or s.processes p d) ≡ at (world_of s m) p
  at_place = sym (at-world_of s m p d here)

  -- process p, by the places of its queue as they are lent
  pub at_lent : running (take (16 * p + 16 - 16 * p) (drop (16 * p) m)) (get_or s.processes p d) ≡ at (world_of s m) p
  at_lent = ap (λ xs. running xs (get_or s.processes p d)) (slot_lent 16 p m) ∙ at_place

  -- a change f of process p, which became b
  module _ (b : Local) (f : Running → Running) where
    pub world-changed : ((ps : List Message) → running ps b ≡ f (running ps (get_or s.processes p d))) → world s.count (set s.processes p b) m ≡ put (world_of s m) p (f (at (world_of s m) p))
    world-changed is = world-put s.count s.processes m (enough s m) m p b (f (at (world_of s m) p)) here refl (λ k ne. refl) (is (slot 16 p m) ∙ ap f at_place)

    -- the places of its queue are ys after it
    pub world-written : (ys : List Message) → 16 * p + 16 ≤ length m → length ys ≡ 16 → running ys b ≡ f (running (take (16 * p + 16 - 16 * p) (drop (16 * p) m)) (get_or s.processes p d)) → world s.count (set s.processes p b) (put_mid (16 * p) (16 * p + 16 - 16 * p) m ys) ≡ put (world_of s m) p (f (at (world_of s m) p))
    world-written ys room long is =
        world-put s.count s.processes m (enough s m) (put_mid (16 * p) (16 * p + 16 - 16 * p) m ys) p b (f (at (world_of s m) p)) here
        (length-written 16 p m ys room long)
        (λ k ne. slot-other 16 p k m ys room long ne)
        (ap (λ xs. running xs b) (slot_same 16 p m ys room long) ∙ is ∙ ap (λ xs. f (running xs (get_or s.processes p d))) (slot_lent 16 p m) ∙ ap f at_place)

-- what lies behind the queues stays as it is
pub drop-written : {X : Type 0} (p n : ℕ) (m ys : List X) → p < n → 16 * p + 16 ≤ length m → length ys ≡ 16 → drop (16 * n) (put_mid (16 * p) (16 * p + 16 - 16 * p) m ys) ≡ drop (16 * n) m
drop-written p n m ys h room e = drop-put_mid (16 * p) (16 * p + 16 - 16 * p) m ys (16 * n) (omega arith) (omega arith) (omega arith)

-- questions about each process
module _ (s : State) (m : List Message) where
  pub answer_each : {R : Type 0} (f : ℕ → Running → Option R) (i : ℕ) → i < s.count → answer_at f i (slice_get (world_of s m).processes i) ≡ f i (at (world_of s m) i)
  answer_each f i l = ap (answer_at f i) (slice_get-get_or (world_of s m).processes i idle (omega (arith, length-world_of s m)))

  pub told-each : {R : Type 0} (f : ℕ → Running → Option R) → first_told (λ i. answer_at f i (slice_get (world_of s m).processes i)) 0 s.count ≡ first_at f 0 (world_of s m).processes
  told-each f = told-at f (world_of s m).processes s.count (sym (length-world_of s m))

pub ruleset length_world = (length-world_of)

pub ruleset reading = (location_at, length-queue_at)
