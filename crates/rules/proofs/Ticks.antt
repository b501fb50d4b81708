-- A tick of the open table: the closed one rearms its timers at on(0), those that stand in for others, and then ticks too.
use Rattle.std.proofs.Common.{◌≡◌, ℕ, zero, suc, ◌+◌, ◌-◌, ◌*◌, ◌<◌, ◌≤◌, min, Bool, true, false, cond, not, ◌&&◌, List, [], ◌∷◌, ◌++◌, map, length, get_or, take, drop, set, is_some, Some, None, sym, refl, ap, ◌∙◌, subst, inl, inr, ⊎_elim, suc-le-suc, add-zero, add-suc, zero-add, arith}
use Rattle.std.proofs.lemmas.List.{get_or-set_same, get_or-set_other, length-set, length-append, length-map, length-take, length-take-le, length-drop, get_or-take, get_or-map, get_or_append_left, get_or_default}
use Rattle.std.proofs.lemmas.Bool.{cases_Bool, cases_eq, cases_lt, both_ways, and_parts, and_from, not-true, cond-true, or_from}
use Rattle.std.specs.List.{range_with_len, flat_map, filter, list_any}
use Rattle.marks.specs.Instances.{process_at}
use Rattle.marks.specs.Rules.{Marking}
use Rattle.rules.proofs.Calls.{state-passes}
use Rattle.rules.proofs.Closed.{closed-timers-chaos, closed-timers-calm, closed-timers-least, chaos-added, rearm-added}
use Rattle.rules.proofs.Examined.{room-for-chaos, waiting-closed}
use Rattle.rules.proofs.Guards.{few-timers}
use Rattle.rules.proofs.Lists.{In, in-get_or, in_all, none_in, in-none, any_append, length-numbered, get_or-numbered}
use Rattle.rules.proofs.Others.{retimed, rearm-taken}
use Rattle.rules.proofs.Twins.{Standin, TimerTwin, Messages, Twin, Alike, at-put, at_other, alike-closed}
use Rattle.rules.specs.Closing.{chaotic, closed, added, rearm, test_refused}
use Rattle.rules.specs.Matching.{inside, after, is_offer, AllTaken, number_of, rearm_of, rearms_of, rearms}
use Rattle.rules.specs.States.{Running, World, idle, at, lacking, due, waiting}
use Rattle.rules.specs.Steps.{no_message, rests, restless, lower, lowered, ticked, put, effect, state_at, state_refused, call_refused, step_refused, accepts, next}
use Rattle.rules.specs.declared.step.Message.{Message}
use Rattle.rules.specs.declared.step.Step.{Step}
use Rattle.rules.specs.declared.step.Step.TheVariants.{Move, Tick}
use Rattle.table.proofs.Passing.{parts_none, all-first_at}
use Rattle.table.specs.Lists.{Lists}
use Rattle.table.specs.declared.record.Timer.{Timer}
use Rattle.table.specs.declared.record.Timer.TheVariants.{Off, On}

-- runs

pub after-append : (C : Lists) (V : World) (xs ys : List Step) → after C V (xs ++ ys) ≡ after C (after C V xs) ys
after-append C V [] ys = refl
after-append C V (x ∷ xs) ys = after-append C (next C V x) xs ys

pub taken-append : (C : Lists) (V : World) (xs ys : List Step) → AllTaken C V xs → AllTaken C (after C V xs) ys → AllTaken C V (xs ++ ys)
unfolding AllTaken
taken-append C V [] ys a b = b
taken-append C V (x ∷ xs) ys a b = (a.0, taken-append C (next C V x) xs ys a.1 b)

pub next-taken : (C : Lists) (V : World) (c : Step) → state_refused C V ≡ None → call_refused C V c ≡ None → (accepts C V c ≡ true) × (next C V c ≡ effect C V c)
unfolding next step_refused
next-taken C V c a b =
    let q : accepts C V c ≡ true = ap (λ o. not (is_some o)) (parts_none (state_refused C V) (call_refused C V c) a b) in
    (q, cond-true (accepts C V c) (effect C V c) V q)

-- timers that are lowered

pub length-lowered : (n : ℕ) (ts : List Timer) → length (lowered n ts) ≡ length ts
unfolding lowered
length-lowered n ts =
    length-append (map lower (take n ts)) (drop n ts) ∙ ap (λ k. k + length (drop n ts)) (length-map (take n ts) lower ∙ length-take n ts) ∙ ap (λ k. min n (length ts) + k) (length-drop n ts) ∙ omega arith

pub get_or-lowered : (n k : ℕ) (ts : List Timer) → k < n → n ≤ length ts → get_or (lowered n ts) k Off ≡ lower (get_or ts k Off)
unfolding lowered
get_or-lowered n k ts h l =
    let a : k < length (take n ts) = omega (arith, length-take-le n ts l) in
    get_or_append_left (map lower (take n ts)) (drop n ts) Off k (subst (λ m. k < m) (sym (length-map (take n ts) lower)) a)
    ∙ get_or-map lower (take n ts) k Off Off a
    ∙ ap lower (get_or-take n ts k Off h)

lower-standin : (t : Timer) → Standin 1 t → Standin 0 (lower t)
lower-standin t s = (s.0 - 1, (omega (arith, s.1.0), ap lower s.1.1))

lower-twin : (m : Bool) (a b : Timer) → TimerTwin 1 m a b → TimerTwin 0 m (lower a) (lower b)
lower-twin m a b (inl e) = inl (ap lower e)
lower-twin m a b (inr x) = inr (x.0, lower-standin b x.1)

module _ (T : Lists) (M : Marking) (tested : test_refused T M ≡ None) where
  -- how many timers a closed process has
  few-closed : (p : ℕ) → p < length T.processes → (process_at (closed T M) p).timers ≤ 8
  few-closed p l =
      ⊎_elim (λ c. omega (arith, closed-timers-chaos T M p l c, room-for-chaos T M tested p l c)) (λ c. omega (arith, closed-timers-calm T M p l c, few-timers T M tested p l)) (cases_Bool (chaotic T p))

  standin-more : (t : Timer) → Standin 0 t → Standin 1 t
  standin-more t s = (s.0, (omega (arith, s.1.0), s.1.1))

  twin-more : (p : ℕ) (r s : Running) → Twin T M 0 p r s → Twin T M 1 p r s
  twin-more p r s t = record {
    location = t.location;
    within = t.within;
    queue = t.queue;
    variables = t.variables;
    timers = λ n l. ⊎_elim inl (λ x. inr (x.0, standin-more (get_or s.timers n Off) x.1)) (t.timers n l);
    chaos = λ c. standin-more (get_or s.timers (process_at T p).timers Off) (t.chaos c);
    opened = t.opened;
    closed = t.closed;
  }

  pub alike-more : (W V : World) → Alike T M 0 W V → Alike T M 1 W V
  alike-more W V a = record {
    opened = a.opened;
    closed = a.closed;
    room = a.room;
    enough = a.enough;
    twin = λ p l. twin-more p (at W p) (at V p) (a.twin p l);
  }

  module _ (W : World) (resting : (p : ℕ) → p < length T.processes → rests T p (at W p) ≡ true) where
    rest-parts : (p : ℕ) → p < length T.processes → (waiting T p (at W p).location ≡ true) × ((no_message (at W p).queue ≡ true) × (list_any due (take (process_at T p).timers (at W p).timers) ≡ false))
    unfolding rests
    rest-parts p l =
        let x = and_parts (waiting T p (at W p).location) (no_message (at W p).queue && not (list_any due (take (process_at T p).timers (at W p).timers))) (resting p l) in
        let y = and_parts (no_message (at W p).queue) (not (list_any due (take (process_at T p).timers (at W p).timers))) x.1 in
        (x.0, (y.0, not-true (list_any due (take (process_at T p).timers (at W p).timers)) y.1))

    open-calm : (p n : ℕ) → p < length T.processes → n < (process_at T p).timers → length (at W p).timers ≡ 8 → due (get_or (at W p).timers n Off) ≡ false
    open-calm p n l h e =
        let a = length-take-le (process_at T p).timers (at W p).timers (omega (arith, few-timers T M tested p l)) in
        ap due (sym (get_or-take (process_at T p).timers (at W p).timers n Off h))
        ∙ none_in due (get_or (take (process_at T p).timers (at W p).timers) n Off) (take (process_at T p).timers (at W p).timers) (rest-parts p l).1.1 (in-get_or (take (process_at T p).timers (at W p).timers) n Off (omega arith))

    -- a closed timer at on(0) stands in for another, so that a rearm of it was added
    stands-in : (p n : ℕ) (s : Running) → p < length T.processes → Twin T M 1 p (at W p) s → n < (process_at (closed T M) p).timers → due (get_or s.timers n Off) ≡ true → In (rearm p s.location n) (added T M) × (n < (process_at T p).timers → M.timer p (at W p).location n ≡ true)
    stands-in p n s l t h d = ⊎_elim own chaos (cases_lt n (process_at T p).timers)
      where
        own : n < (process_at T p).timers → In (rearm p s.location n) (added T M) × (n < (process_at T p).timers → M.timer p (at W p).location n ≡ true)
        own k =
            let m : M.timer p (at W p).location n ≡ true = ⊎_elim (λ e. absurd (both_ways (due (get_or (at W p).timers n Off)) (open-calm p n l k t.opened.timers) (ap due (sym e) ∙ d))) (λ x. x.0) (t.timers n k) in
            (subst (λ z. In (rearm p z n) (added T M)) (sym t.location) (rearm-added T M p (at W p).location l t.within (rest-parts p l).0 n k m), λ _. m)

        chaos : (process_at T p).timers ≤ n → In (rearm p s.location n) (added T M) × (n < (process_at T p).timers → M.timer p (at W p).location n ≡ true)
        chaos k =
            let c : chaotic T p ≡ true = ⊎_elim (λ c. c) (λ c. absurd (omega (arith, closed-timers-calm T M p l c))) (cases_Bool (chaotic T p)) in
            let e : n ≡ (process_at T p).timers = omega (arith, closed-timers-chaos T M p l c) in
            (subst (λ z. In (rearm p z n) (added T M)) (sym t.location) (subst (λ z. In (rearm p (at W p).location z) (added T M)) (sym e) (chaos-added T M p (at W p).location l t.within (rest-parts p l).0 c)), λ j. absurd (omega arith))

    rearmed-twin : (p n : ℕ) (s : Running) → p < length T.processes → Twin T M 1 p (at W p) s → n < (process_at (closed T M) p).timers → (n < (process_at T p).timers → M.timer p (at W p).location n ≡ true) → Twin T M 1 p (at W p) (retimed n (On 1) s)
    rearmed-twin p n s l t h m = record {
      location = t.location;
      within = t.within;
      queue = t.queue;
      variables = t.variables;
      timers = λ k j.
          ⊎_elim
          (λ q.
          inr (m' k j q, (1, (omega arith, ap (λ z. get_or (set s.timers n (On 1)) z Off) q ∙ get_or-set_same s.timers n (On 1) Off (omega (arith, few-closed p l, t.closed.timers))))))
          (λ q. subst (λ z. TimerTwin 1 (M.timer p (at W p).location k) (get_or (at W p).timers k Off) z) (sym (get_or-set_other s.timers n k (On 1) Off q)) (t.timers k j))
          (cases_eq k n);
      chaos = λ c.
          ⊎_elim
          (λ q.
          (1, (omega arith, ap (λ z. get_or (set s.timers n (On 1)) z Off) q ∙ get_or-set_same s.timers n (On 1) Off (omega (arith, few-closed p l, t.closed.timers)))))
          (λ q. subst (Standin 1) (sym (get_or-set_other s.timers n (process_at T p).timers (On 1) Off q)) (t.chaos c))
          (cases_eq (process_at T p).timers n);
      opened = t.opened;
      closed = record { variables = t.closed.variables; timers = length-set s.timers n (On 1) ∙ t.closed.timers };
    }
      where
        m' : (k : ℕ) → k < (process_at T p).timers → k ≡ n → M.timer p (at W p).location k ≡ true
        m' k j q = subst (λ z. M.timer p (at W p).location z ≡ true) (sym q) (m (subst (λ z. z < (process_at T p).timers) q j))

    -- what a part of the rearms, those of process p, does to the closed world V
    pub record Rearmed (p : ℕ) (V : World) (steps : List Step) (most : ℕ) : Type 0 where
      pub taken : AllTaken (closed T M) V steps
      pub alike : Alike T M 1 W (after (closed T M) V steps)
      pub calm : (n : ℕ) → n < (process_at (closed T M) p).timers → due (get_or (at (after (closed T M) V steps) p).timers n Off) ≡ false
      pub others : (q : ℕ) → (q ≡ p → ⊥) → at (after (closed T M) V steps) q ≡ at V q
      pub few : length steps ≤ most
      pub unoffered : list_any is_offer steps ≡ false

    module _ (p : ℕ) (l : p < length T.processes) (V₀ : World) where
      -- one rearm more, in front
      rearm-first : (i m : ℕ) (V : World) (rest : List Step) → i < (process_at (closed T M) p).timers → Alike T M 1 W V → (at V p).location ≡ (at V₀ p).location → due (get_or (at V p).timers i Off) ≡ true → (Alike T M 1 W (put V p (retimed i (On 1) (at V p))) → Rearmed p (put V p (retimed i (On 1) (at V p))) rest m) → Rearmed p V (Move (number_of T M (rearm p (at V₀ p).location i)) ∷ rest) (suc m)
      unfolding AllTaken
      rearm-first i m V rest h a e d more =
          let t = a.twin p l in
          let x = stands-in p i (at V p) l t h d in
          let y = rearm-taken T M tested V p i x.0 d in
          let z = next-taken (closed T M) V (Move (number_of T M (rearm p (at V p).location i))) (state-passes T M tested 1 W V a) y.0 in
          let b : Alike T M 1 W (put V p (retimed i (On 1) (at V p))) = alike-closed T M 1 W V p (retimed i (On 1) (at V p)) l a (rearmed-twin p i (at V p) l t h x.1) in
          let r = more b in
          let n : next (closed T M) V (Move (number_of T M (rearm p (at V p).location i))) ≡ put V p (retimed i (On 1) (at V p)) = z.1 ∙ y.1 in
          subst (λ w. Rearmed p V (Move (number_of T M (rearm p w i)) ∷ rest) (suc m)) e
          (record {
            taken = (z.0, subst (λ w. AllTaken (closed T M) w rest) (sym n) r.taken);
            alike = subst (λ w. Alike T M 1 W (after (closed T M) w rest)) (sym n) r.alike;
            calm = λ k j. subst (λ w. due (get_or (at (after (closed T M) w rest) p).timers k Off) ≡ false) (sym n) (r.calm k j);
            others = λ q ne. ap (λ w. at (after (closed T M) w rest) q) n ∙ r.others q ne ∙ at_other V p q (retimed i (On 1) (at V p)) ne;
            few = suc-le-suc r.few;
            unoffered = r.unoffered;
          })

      inner : (i m : ℕ) → i + m ≡ (process_at (closed T M) p).timers → (V : World) → Alike T M 1 W V → (at V p).location ≡ (at V₀ p).location → ((n : ℕ) → i ≤ n → get_or (at V p).timers n Off ≡ get_or (at V₀ p).timers n Off) → ((n : ℕ) → n < i → due (get_or (at V p).timers n Off) ≡ false) → Rearmed p V (flat_map (rearm_of T M V₀ p) (range_with_len i m)) m
      unfolding AllTaken
      inner i zero s V a e later done = record {
        taken = tt;
        alike = a;
        calm = λ n h. done n (omega (arith, add-zero i));
        others = λ q ne. refl;
        few = omega arith;
        unoffered = refl;
      }
      inner i (suc m) s V a e later done =
          by (due (get_or (at V₀ p).timers i Off)) refl
          (λ V' b e' f g. inner (i + 1) m (omega (arith, add-suc i m)) V' b e' f g)
        where
          h : i < (process_at (closed T M) p).timers
          h = omega (arith, add-suc i m)

          by : (d : Bool) → due (get_or (at V₀ p).timers i Off) ≡ d → ((V' : World) → Alike T M 1 W V' → (at V' p).location ≡ (at V₀ p).location → ((n : ℕ) → i + 1 ≤ n → get_or (at V' p).timers n Off ≡ get_or (at V₀ p).timers n Off) → ((n : ℕ) → n < i + 1 → due (get_or (at V' p).timers n Off) ≡ false) → Rearmed p V' (flat_map (rearm_of T M V₀ p) (range_with_len (i + 1) m)) m) → Rearmed p V (cond d (Move (number_of T M (rearm p (at V₀ p).location i)) ∷ []) [] ++ flat_map (rearm_of T M V₀ p) (range_with_len (i + 1) m)) (suc m)
          by true d more =
              rearm-first i m V (flat_map (rearm_of T M V₀ p) (range_with_len (i + 1) m)) h a e (ap due (later i (omega arith)) ∙ d)
              (λ b.
              let w : p < length V.processes = subst (λ n. p < n) (sym a.closed) l in
              let q = at-put V p (retimed i (On 1) (at V p)) w in
              let len = (a.twin p l).closed.timers in
              more (put V p (retimed i (On 1) (at V p))) b (ap (λ r. r.location) q ∙ e)
              (λ n j. ap (λ r. get_or r.timers n Off) q ∙ get_or-set_other (at V p).timers i n (On 1) Off (λ z. omega arith) ∙ later n (omega arith))
              (λ n j.
              ⊎_elim
              (λ z. ap (λ r. due (get_or r.timers n Off)) q ∙ ap (λ y. due (get_or (set (at V p).timers i (On 1)) y Off)) z ∙ ap due (get_or-set_same (at V p).timers i (On 1) Off (omega (arith, few-closed p l))))
              (λ z. ap (λ r. due (get_or r.timers n Off)) q ∙ ap due (get_or-set_other (at V p).timers i n (On 1) Off z) ∙ done n (omega arith))
              (cases_eq n i)))
          by false d more =
              let r = more V a e (λ n j. later n (omega arith)) (λ n j. ⊎_elim (λ z. ap (λ y. due (get_or (at V p).timers y Off)) z ∙ ap due (later i (omega arith)) ∙ d) (λ z. done n (omega arith)) (cases_eq n i)) in
              record { taken = r.taken; alike = r.alike; calm = r.calm; others = r.others; few = omega (arith, r.few); unoffered = r.unoffered }

      pub of-process : (V : World) → Alike T M 1 W V → at V p ≡ at V₀ p → Rearmed p V (rearms_of T M V₀ p) (process_at (closed T M) p).timers
      of-process V a e =
          inner 0 (process_at (closed T M) p).timers (zero-add (process_at (closed T M) p).timers) V a (ap (λ r. r.location) e) (λ n j. ap (λ r. get_or r.timers n Off) e) (λ n j. absurd (omega arith))

    -- what the rearms of all processes do
    pub record Quieted (V : World) (steps : List Step) (most : ℕ) : Type 0 where
      pub taken : AllTaken (closed T M) V steps
      pub alike : Alike T M 1 W (after (closed T M) V steps)
      pub calm : (p n : ℕ) → p < length T.processes → n < (process_at (closed T M) p).timers → due (get_or (at (after (closed T M) V steps) p).timers n Off) ≡ false
      pub few : length steps ≤ most
      pub unoffered : list_any is_offer steps ≡ false

    outer : (V₀ : World) (i m : ℕ) → i + m ≡ length T.processes → (V : World) → Alike T M 1 W V → ((q : ℕ) → i ≤ q → at V q ≡ at V₀ q) → ((p n : ℕ) → p < i → n < (process_at (closed T M) p).timers → due (get_or (at V p).timers n Off) ≡ false) → Quieted V (flat_map (rearms_of T M V₀) (range_with_len i m)) (8 * m)
    unfolding AllTaken
    outer V₀ i zero s V a later done = record {
      taken = tt;
      alike = a;
      calm = λ p n l j. done p n (omega (arith, add-zero i)) j;
      few = omega arith;
      unoffered = refl;
    }
    outer V₀ i (suc m) s V a later done =
        let l : i < length T.processes = omega (arith, add-suc i m) in
        let x = of-process i l V₀ V a (later i (omega arith)) in
        let V₁ = after (closed T M) V (rearms_of T M V₀ i) in
        let y = outer V₀ (i + 1) m (omega (arith, add-suc i m)) (after (closed T M) V (rearms_of T M V₀ i)) x.alike (λ q j. x.others q (λ z. omega arith) ∙ later q (omega arith)) (λ p n j k. ⊎_elim (λ z. subst (λ w. n < (process_at (closed T M) w).timers → due (get_or (at (after (closed T M) V (rearms_of T M V₀ i)) w).timers n Off) ≡ false) (sym z) (x.calm n) k) (λ z. ap (λ r. due (get_or r.timers n Off)) (x.others p z) ∙ done p n (omega arith) k) (cases_eq p i)) in
        let e = after-append (closed T M) V (rearms_of T M V₀ i) (flat_map (rearms_of T M V₀) (range_with_len (i + 1) m)) in
        record {
          taken = taken-append (closed T M) V (rearms_of T M V₀ i) (flat_map (rearms_of T M V₀) (range_with_len (i + 1) m)) x.taken y.taken;
          alike = subst (Alike T M 1 W) (sym e) y.alike;
          calm = λ p n j k. ap (λ w. due (get_or (at w p).timers n Off)) e ∙ y.calm p n j k;
          few = omega (arith, length-append (rearms_of T M V₀ i) (flat_map (rearms_of T M V₀) (range_with_len (i + 1) m)), x.few, y.few, few-closed i l);
          unoffered = any_append is_offer (rearms_of T M V₀ i) (flat_map (rearms_of T M V₀) (range_with_len (i + 1) m)) ∙ or_from (list_any is_offer (rearms_of T M V₀ i)) (list_any is_offer (flat_map (rearms_of T M V₀) (range_with_len (i + 1) m))) x.unoffered y.unoffered;
        }

    pub quieted : (V : World) → Alike T M 0 W V → Quieted V (rearms T M V) (8 * length T.processes)
    unfolding rearms
    quieted V a = outer V 0 (length T.processes) (zero-add (length T.processes)) V (alike-more W V a) (λ q j. refl) (λ p n j. absurd (omega arith))

    -- the tick itself

    emptied : (q s : List Message) → no_message q ≡ true → Messages T M (filter (inside T) q) s → no_message s ≡ true
    emptied [] [] h m = refl
    emptied [] (y ∷ s) h m = absurd m
    emptied (x ∷ q) s h m = absurd (both_ways false refl h)

    closed-rests : (V : World) → Alike T M 1 W V → ((p n : ℕ) → p < length T.processes → n < (process_at (closed T M) p).timers → due (get_or (at V p).timers n Off) ≡ false) → (p : ℕ) → p < length T.processes → rests (closed T M) p (at V p) ≡ true
    unfolding rests
    closed-rests V a calm p l =
        let t = a.twin p l in
        let x = rest-parts p l in
        let k = (process_at (closed T M) p).timers in
        let len = length-take-le (process_at (closed T M) p).timers (at V p).timers (omega (arith, few-closed p l, t.closed.timers)) in
        and_from (waiting (closed T M) p (at V p).location) (no_message (at V p).queue && not (list_any due (take (process_at (closed T M) p).timers (at V p).timers)))
        (waiting-closed T M tested p (at V p).location ∙ ap (waiting T p) t.location ∙ x.0)
        (and_from (no_message (at V p).queue) (not (list_any due (take (process_at (closed T M) p).timers (at V p).timers))) (emptied (at W p).queue (at V p).queue x.1.0 t.queue)
        (ap not
        (in-none due (take (process_at (closed T M) p).timers (at V p).timers)
        (in_all (λ z. due z ≡ false) (take (process_at (closed T M) p).timers (at V p).timers)
        (λ n d j.
        let h : n < (process_at (closed T M) p).timers = omega arith in
        ap due (get_or_default (take (process_at (closed T M) p).timers (at V p).timers) n d Off j ∙ get_or-take (process_at (closed T M) p).timers (at V p).timers n Off h) ∙ calm p n l h)))))

    tick-passes : (V : World) → Alike T M 1 W V → ((p n : ℕ) → p < length T.processes → n < (process_at (closed T M) p).timers → due (get_or (at V p).timers n Off) ≡ false) → call_refused (closed T M) V Tick ≡ None
    unfolding call_refused
    tick-passes V a calm =
        all-first_at (restless (closed T M)) 0 V.processes
        (λ p d j.
        let l : p < length T.processes = omega (arith, a.closed) in
        subst (λ i. restless (closed T M) i (get_or V.processes p d) ≡ None) (sym (zero-add p))
        (subst (λ r. restless (closed T M) p r ≡ None) (sym (get_or_default V.processes p d idle j)) (cond-true (rests (closed T M) p (at V p)) None (Some (state_at 20 p)) (closed-rests V a calm p l))))

    at_tick : (S : Lists) (U : World) (p : ℕ) → p < length U.processes → at (effect S U Tick) p ≡ ticked S p (at U p)
    unfolding effect
    at_tick S U p h = get_or-numbered (ticked S) 0 U.processes p idle idle h ∙ ap (λ i. ticked S i (at U p)) (zero-add p)

    length-tick : (S : Lists) (U : World) → length (effect S U Tick).processes ≡ length U.processes
    unfolding effect
    length-tick S U = length-numbered (ticked S) 0 U.processes

    ticked-twin : (p : ℕ) (r s : Running) → p < length T.processes → Twin T M 1 p r s → Twin T M 0 p (ticked T p r) (ticked (closed T M) p s)
    ticked-twin p r s l t = record {
      location = t.location;
      within = t.within;
      queue = t.queue;
      variables = t.variables;
      timers = λ n h.
          subst (λ z. TimerTwin 0 (M.timer p r.location n) z (get_or (lowered (process_at (closed T M) p).timers s.timers) n Off)) (sym (get_or-lowered (process_at T p).timers n r.timers h (omega (arith, few-timers T M tested p l, t.opened.timers))))
          (subst (λ z. TimerTwin 0 (M.timer p r.location n) (lower (get_or r.timers n Off)) z) (sym (get_or-lowered (process_at (closed T M) p).timers n s.timers (omega (arith, closed-timers-least T M p l)) (omega (arith, few-closed p l, t.closed.timers))))
          (lower-twin (M.timer p r.location n) (get_or r.timers n Off) (get_or s.timers n Off) (t.timers n h)));
      chaos = λ c.
          subst (Standin 0) (sym (get_or-lowered (process_at (closed T M) p).timers (process_at T p).timers s.timers (omega (arith, closed-timers-chaos T M p l c)) (omega (arith, few-closed p l, t.closed.timers))))
          (lower-standin (get_or s.timers (process_at T p).timers Off) (t.chaos c));
      opened = record { variables = t.opened.variables; timers = length-lowered (process_at T p).timers r.timers ∙ t.opened.timers };
      closed = record { variables = t.closed.variables; timers = length-lowered (process_at (closed T M) p).timers s.timers ∙ t.closed.timers };
    }

    room-tick : (S : Lists) (U : World) → (effect S U Tick).room ≡ U.room
    unfolding effect
    room-tick S U = refl

    tick-alike : (V : World) → Alike T M 1 W V → Alike T M 0 (effect T W Tick) (effect (closed T M) V Tick)
    tick-alike V a = record {
      opened = length-tick T W ∙ a.opened;
      closed = length-tick (closed T M) V ∙ a.closed;
      room = room-tick (closed T M) V ∙ a.room ∙ sym (room-tick T W);
      enough = λ p l. ap (λ n. lacking n p) (room-tick T W) ∙ a.enough p l;
      twin = λ p l.
          let x : p < length W.processes = subst (λ n. p < n) (sym a.opened) l in
          let y : p < length V.processes = subst (λ n. p < n) (sym a.closed) l in
          subst (λ z. Twin T M 0 p z (at (effect (closed T M) V Tick) p)) (sym (at_tick T W p x)) (subst (λ z. Twin T M 0 p (ticked T p (at W p)) z) (sym (at_tick (closed T M) V p y)) (ticked-twin p (at W p) (at V p) l (a.twin p l)));
    }

    -- the rearms and the tick
    pub record Ticked (V : World) : Type 0 where
      pub taken : AllTaken (closed T M) V (rearms T M V ++ Tick ∷ [])
      pub alike : Alike T M 0 (effect T W Tick) (after (closed T M) V (rearms T M V ++ Tick ∷ []))
      pub few : length (rearms T M V ++ Tick ∷ []) ≤ 1 + 8 * length T.processes
      pub unoffered : list_any is_offer (rearms T M V ++ Tick ∷ []) ≡ false

    pub tick-taken : (V : World) → Alike T M 0 W V → Ticked V
    unfolding AllTaken
    tick-taken V a =
        let x = quieted V a in
        let V₁ = after (closed T M) V (rearms T M V) in
        let y = next-taken (closed T M) (after (closed T M) V (rearms T M V)) Tick (state-passes T M tested 1 W (after (closed T M) V (rearms T M V)) x.alike) (tick-passes (after (closed T M) V (rearms T M V)) x.alike x.calm) in
        let e = after-append (closed T M) V (rearms T M V) (Tick ∷ []) in
        record {
          taken = taken-append (closed T M) V (rearms T M V) (Tick ∷ []) x.taken (y.0, tt);
          alike = subst (Alike T M 0 (effect T W Tick)) (sym (e ∙ y.1)) (tick-alike (after (closed T M) V (rearms T M V)) x.alike);
          few = omega (arith, length-append (rearms T M V) (Tick ∷ []), x.few);
          unoffered = any_append is_offer (rearms T M V) (Tick ∷ []) ∙ or_from (list_any is_offer (rearms T M V)) (list_any is_offer (Tick ∷ [])) x.unoffered refl;
        }
