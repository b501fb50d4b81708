-- Whole runs: from starts that are alike, call by call, to the promise that the closed table stands in for the open one.
use Rattle.std.proofs.Common.{◌≡◌, ℕ, zero, suc, ◌+◌, ◌-◌, ◌*◌, ◌<◌, ◌≤◌, Bool, true, false, cond, not, ◌&&◌, leb, List, [], ◌∷◌, ◌++◌, length, get_or, take, pos, is_some, Some, None, sym, refl, ap, ◌∙◌, subst, inl, suc-le-suc, zero-add, arith}
use Rattle.std.proofs.lemmas.List.{length-append, length-map, get_or-map, get_or_append_left, get_or_at, take_at}
use Rattle.std.proofs.lemmas.Option.{slice_get-get_or}
use Rattle.std.proofs.lemmas.Bool.{both_ways, not-true, not-false, or_from, cond-true, cond-false, leb-false, lt-leb}
use Rattle.std.proofs.lemmas.Bool.Decides.{nat_tests}
use Rattle.std.specs.Option.{option_map}
use Rattle.marks.specs.Instances.{process_at}
use Rattle.marks.specs.Rules.{Marking, Obeys, class_at}
use Rattle.refusal.specs.Refusals.{first}
use Rattle.rules.proofs.Calls.{state-passes, moves-alike, moves-pass}
use Rattle.rules.proofs.Closed.{closed-length, process-closed, closed-edges-length, edge-closed}
use Rattle.rules.proofs.Examined.{good, room-for-chaos, closed-passes}
use Rattle.rules.proofs.Lists.{in-get_or, any_append, is_some-none, first-none, none_first, first_from-all, length-padded, get_or-padded, take_past}
use Rattle.rules.proofs.Others.{offer-alike, discard-outer, discard-inner, expire-marked, expire-plain}
use Rattle.rules.proofs.Ticks.{after-append, taken-append, next-taken, tick-taken}
use Rattle.rules.proofs.Twins.{Twin, Alike, visible-same}
use Rattle.rules.specs.Closing.{chaotic, with_chaos, closed, closed_edge, test_refused, timeout}
use Rattle.rules.specs.Matching as Matching
use Rattle.rules.specs.Matching.{visible, after, one, is_tick, is_offer, ticks, AllTaken, ClosedRun, Matches, number_of, rearms, head_inside, shadow_taken, shadow, shadow_run, shadow_points, run_of, points_of, StandsIn, Verdict}
use Rattle.rules.specs.States.{World, idle, at, padded, begun, started, lacking, places_refused, start_refused, is_inbound, goal}
use Rattle.rules.specs.Steps.{no_edge, edge_at, enabled, sends, full, discards, expires, rests, restless, state_at, state_refused, move_tests, call_refused, step_refused, accepts, move_effect, effect, next}
use Rattle.rules.specs.declared.step.Step.{Step}
use Rattle.rules.specs.declared.step.Step.TheVariants.{Offer, Move, Discard, Expire, Tick}
use Rattle.table.proofs.Passing.{none-some, none-parts, parts_none, mapped-none, first_at-all}
use Rattle.table.specs.Edges.{blank}
use Rattle.table.specs.Examination.{first_at, first_from, examined}
use Rattle.std.specs.List.{list_any}
use Rattle.table.specs.Lists.{Lists}
use Rattle.table.specs.declared.record.Timer.TheVariants.{Off, On}

module _ (T : Lists) (M : Marking) (tested : test_refused T M ≡ None) (obeys : Obeys T M) where
  -- starts

  begun-twin : (p : ℕ) → p < length T.processes → (b : Bool) → chaotic T p ≡ b → Twin T M 0 p (begun (process_at T p)) (begun (cond b (with_chaos (process_at T p)) (process_at T p)))
  begun-twin p l true c =
      let few = room-for-chaos T M tested p l c in
      let r = process_at T p in
      let own = padded (process_at T p).timers Off (process_at T p).settings in
      let len = length-padded (process_at T p).timers Off (process_at T p).settings in
      record {
        location = refl;
        within = let b = (good T M tested).process p l in grind (arith, nat_tests);
        queue = tt;
        variables = λ v h m. refl;
        timers = λ n h.
            inl
            (get_or-padded 8 Off (padded (process_at T p).timers Off (process_at T p).settings ++ On 0 ∷ []) n (omega arith)
            ∙ get_or_append_left (padded (process_at T p).timers Off (process_at T p).settings) (On 0 ∷ []) Off n (omega arith)
            ∙ get_or-padded (process_at T p).timers Off (process_at T p).settings n h
            ∙ sym (get_or-padded 8 Off (process_at T p).settings n (omega arith)));
        chaos = λ _.
            (0, (omega arith, get_or-padded 8 Off (padded (process_at T p).timers Off (process_at T p).settings ++ On 0 ∷ []) (process_at T p).timers few ∙ get_or_at (padded (process_at T p).timers Off (process_at T p).settings) (On 0) [] Off (process_at T p).timers len));
        opened = record { variables = length-padded 8 (pos 0) (process_at T p).values; timers = length-padded 8 Off (process_at T p).settings };
        closed = record { variables = length-padded 8 (pos 0) (process_at T p).values; timers = length-padded 8 Off (padded (process_at T p).timers Off (process_at T p).settings ++ On 0 ∷ []) };
      }
  begun-twin p l false c = record {
    location = refl;
    within = let b = (good T M tested).process p l in grind (arith, nat_tests);
    queue = tt;
    variables = λ v h m. refl;
    timers = λ n h. inl refl;
    chaos = λ d. absurd (both_ways (chaotic T p) c d);
    opened = record { variables = length-padded 8 (pos 0) (process_at T p).values; timers = length-padded 8 Off (process_at T p).settings };
    closed = record { variables = length-padded 8 (pos 0) (process_at T p).values; timers = length-padded 8 Off (process_at T p).settings };
  }

  module _ (room : ℕ) (starts : start_refused T room ≡ None) where
    enough : (p : ℕ) → p < length T.processes → lacking room p ≡ false
    unfolding start_refused
    enough p l =
        let a = none-parts (examined T) (places_refused T room) starts in
        let b = mapped-none (state_at 18) (first_from (lacking room) 0 (length T.processes)) a.1 in
        subst (λ i. lacking room i ≡ false) (zero-add p) (first_from-all (lacking room) 0 (length T.processes) b p l)

    at-start : (S : Lists) (p : ℕ) → p < length S.processes → at (started S room) p ≡ begun (process_at S p)
    at-start S p l = get_or-map begun S.processes p blank idle l

    pub starts-alike : Alike T M 0 (started T room) (started (closed T M) room)
    starts-alike = record {
      opened = length-map T.processes begun;
      closed = length-map (closed T M).processes begun ∙ closed-length T M;
      room = refl;
      enough = enough;
      twin = λ p l.
          let k : p < length (closed T M).processes = subst (λ n. p < n) (sym (closed-length T M)) l in
          subst (λ r. Twin T M 0 p r (at (started (closed T M) room) p)) (sym (at-start T p l))
          (subst (λ s. Twin T M 0 p (begun (process_at T p)) s) (sym (at-start (closed T M) p k ∙ ap begun (process-closed T M p l))) (begun-twin p l (chaotic T p) refl));
    }

    pub closed-starts : start_refused (closed T M) room ≡ None
    unfolding start_refused
    closed-starts =
        let a = none-parts (examined T) (places_refused T room) starts in
        parts_none (examined (closed T M)) (places_refused (closed T M) room) (closed-passes T M tested)
        (ap (λ n. option_map (state_at 18) (first_from (lacking room) 0 n)) (closed-length T M) ∙ a.1)

  -- one call

  pub record Shadowed (W V : World) (c : Step) (steps : List Step) (most : ℕ) : Type 0 where
    pub taken : AllTaken (closed T M) V steps
    pub alike : Alike T M 0 (effect T W c) (after (closed T M) V steps)
    pub few : length steps ≤ most
    pub unoffered : list_any is_offer steps ≡ false

  nothing : (W V : World) (c : Step) → Alike T M 0 (effect T W c) V → Shadowed W V c [] 1
  unfolding AllTaken
  nothing W V c a = record { taken = tt; alike = a; few = omega arith; unoffered = refl }

  single : (W V : World) (c d : Step) → is_offer d ≡ false → Alike T M 0 W V → call_refused (closed T M) V d ≡ None → Alike T M 0 (effect T W c) (effect (closed T M) V d) → Shadowed W V c (d ∷ []) 1
  unfolding AllTaken
  single W V c d o a h b =
      let x = next-taken (closed T M) V d (state-passes T M tested 0 W V a) h in
      record {
        taken = (x.0, tt);
        alike = subst (Alike T M 0 (effect T W c)) (sym x.1) b;
        few = omega arith;
        unoffered = or_from (is_offer d) false o refl;
      }

  move-passes : (V : World) (k : ℕ) → k < length T.edges → edge_at (closed T M) k ≡ closed_edge T M (edge_at T k) → first (move_tests (closed T M) V (closed_edge T M (edge_at T k))) ≡ None → call_refused (closed T M) V (Move k) ≡ None
  unfolding call_refused
  move-passes V k l q r =
      none_first (leb (length (closed T M).edges) k) (state_at 19 k) (move_tests (closed T M) V (edge_at (closed T M) k)) (lt-leb (length (closed T M).edges) k (omega (arith, closed-edges-length T M)))
      (subst (λ e. first (move_tests (closed T M) V e) ≡ None) (sym q) r)

  move-alike : (W V : World) (k : ℕ) → edge_at (closed T M) k ≡ closed_edge T M (edge_at T k) → Alike T M 0 (move_effect T W (edge_at T k)) (move_effect (closed T M) V (closed_edge T M (edge_at T k))) → Alike T M 0 (effect T W (Move k)) (effect (closed T M) V (Move k))
  unfolding effect
  move-alike W V k q r = subst (λ e. Alike T M 0 (move_effect T W (edge_at T k)) (move_effect (closed T M) V e)) (sym q) r

  more : (W V : World) (c : Step) (steps : List Step) (n m : ℕ) → n ≤ m → Shadowed W V c steps n → Shadowed W V c steps m
  more W V c steps n m h s = record { taken = s.taken; alike = s.alike; few = omega (arith, s.few); unoffered = s.unoffered }

  discarded : (W V : World) (p : ℕ) → p < length T.processes → Alike T M 0 W V → discards T W p ≡ true → (b : Bool) → head_inside T (at W p).queue ≡ b → Shadowed W V (Discard p) (cond b (Discard p ∷ []) []) 1
  discarded W V p l a d true h = let x = discard-inner T M tested W V p l a d h in single W V (Discard p) (Discard p) refl a x.0 x.1
  discarded W V p l a d false h = nothing W V (Discard p) (discard-outer T M tested W V p l a d h)

  expiry : (W V : World) (p n : ℕ) → p < length T.processes → n < (process_at T p).timers → Alike T M 0 W V → expires T W p n ≡ true → (b : Bool) → M.timer p (at W p).location n ≡ b → Shadowed W V (Expire p n) (cond b (Move (number_of T M (timeout p (at V p).location n)) ∷ []) (Expire p n ∷ [])) 1
  expiry W V p n l j a x true m =
      let y = expire-marked T M tested W V p n a l j x m in
      single W V (Expire p n) (Move (number_of T M (timeout p (at V p).location n))) refl a y.0 y.1
  expiry W V p n l j a x false m =
      let y = expire-plain T M tested W V p n a l j x m in
      single W V (Expire p n) (Expire p n) refl a y.0 y.1

  few-processes : length T.processes ≤ 8
  few-processes = let b = (good T M tested).lists in grind (arith, nat_tests)

  call-taken : (W V : World) (c : Step) → Alike T M 0 W V → call_refused T W c ≡ None → Shadowed W V c (shadow_taken T M W V c) (1 + 64 * one (is_tick c))
  unfolding call_refused shadow_taken
  call-taken W V (Offer s v) a h =
      let x = first-none (not (is_inbound (class_at T s))) (state_at 19 s) ((full W (goal T s), state_at 21 (goal T s)) ∷ []) h in
      nothing W V (Offer s v) (offer-alike T M tested W V s v a (not-false (is_inbound (class_at T s)) x.0))
  call-taken W V (Move k) a h =
      let x = first-none (leb (length T.edges) k) (state_at 19 k) (move_tests T W (edge_at T k)) h in
      let l = leb-false (length T.edges) k x.0 in
      let y = first-none (not (enabled T W (edge_at T k))) (state_at 20 (edge_at T k).process) ((sends T (edge_at T k) && full W (goal T (edge_at T k).first), state_at 21 (goal T (edge_at T k).first)) ∷ []) x.1 in
      let z = first-none (sends T (edge_at T k) && full W (goal T (edge_at T k).first)) (state_at 21 (goal T (edge_at T k).first)) [] y.1 in
      let i = in-get_or T.edges k no_edge l in
      let o = obeys k (edge_at T k) (slice_get-get_or T.edges k no_edge l) in
      let e = not-false (enabled T W (edge_at T k)) y.0 in
      let q = edge-closed T M k l in
      single W V (Move k) (Move k) refl a (move-passes V k l q (moves-pass T M tested W V a (edge_at T k) i o e z.0)) (move-alike W V k q (moves-alike T M tested W V a (edge_at T k) i o e))
  call-taken W V (Discard p) a h =
      let x = first-none (leb (length T.processes) p) (state_at 19 p) ((not (discards T W p), state_at 20 p) ∷ []) h in
      let y = first-none (not (discards T W p)) (state_at 20 p) [] x.1 in
      discarded W V p (leb-false (length T.processes) p x.0) a (not-false (discards T W p) y.0) (head_inside T (at W p).queue) refl
  call-taken W V (Expire p n) a h =
      let x = first-none (leb (length T.processes) p) (state_at 19 p) ((leb (process_at T p).timers n, state_at 19 n) ∷ (not (expires T W p n), state_at 20 p) ∷ []) h in
      let y = first-none (leb (process_at T p).timers n) (state_at 19 n) ((not (expires T W p n), state_at 20 p) ∷ []) x.1 in
      let z = first-none (not (expires T W p n)) (state_at 20 p) [] y.1 in
      expiry W V p n (leb-false (length T.processes) p x.0) (leb-false (process_at T p).timers n y.0) a (not-false (expires T W p n) z.0) (M.timer p (at W p).location n) refl
  call-taken W V Tick a h =
      let x = tick-taken T M tested W (λ p l. resting W a h p l) V a in
      record { taken = x.taken; alike = x.alike; few = omega (arith, x.few, few-processes); unoffered = x.unoffered }
    where
      resting : (W : World) → Alike T M 0 W V → first_at (restless T) 0 W.processes ≡ None → (p : ℕ) → p < length T.processes → rests T p (at W p) ≡ true
      resting W a h p l =
          let y = first_at-all (restless T) 0 W.processes h p idle (subst (λ n. p < n) (sym a.opened) l) in
          let z : restless T p (at W p) ≡ None = subst (λ i. restless T i (at W p) ≡ None) (zero-add p) y in
          by (rests T p (at W p)) z
        where
          by : (b : Bool) → cond b None (Some (state_at 20 p)) ≡ None → b ≡ true
          by true q = refl
          by false q = none-some (state_at 20 p) (sym q)

  -- one call, taken or refused
  pub record Followed (W V : World) (c : Step) : Type 0 where
    pub taken : AllTaken (closed T M) V (shadow T M W V c)
    pub alike : Alike T M 0 (next T W c) (after (closed T M) V (shadow T M W V c))
    pub few : length (shadow T M W V c) ≤ one (accepts T W c) + 64 * one (accepts T W c && is_tick c)
    pub unoffered : list_any is_offer (shadow T M W V c) ≡ false

  followed : (W V : World) (c : Step) → Alike T M 0 W V → Followed W V c
  unfolding shadow next step_refused AllTaken
  followed W V c a = by (accepts T W c) refl
    where
      of-taken : accepts T W c ≡ true → Shadowed W V c (shadow_taken T M W V c) (1 + 64 * one (is_tick c))
      of-taken q = call-taken W V c a (none-parts (state_refused T W) (call_refused T W c) (is_some-none (step_refused T W c) (not-true (is_some (step_refused T W c)) q))).1

      by : (b : Bool) → accepts T W c ≡ b → Followed W V c
      by true q =
          let s = of-taken q in
          let e : shadow T M W V c ≡ shadow_taken T M W V c = cond-true (accepts T W c) (shadow_taken T M W V c) [] q in
          let n : next T W c ≡ effect T W c = cond-true (accepts T W c) (effect T W c) W q in
          record {
            taken = subst (λ l. AllTaken (closed T M) V l) (sym e) s.taken;
            alike = subst (λ w. Alike T M 0 w (after (closed T M) V (shadow T M W V c))) (sym n) (subst (λ l. Alike T M 0 (effect T W c) (after (closed T M) V l)) (sym e) s.alike);
            few = subst (λ b. length (shadow T M W V c) ≤ one b + 64 * one (b && is_tick c)) (sym q) (subst (λ l. length l ≤ 1 + 64 * one (is_tick c)) (sym e) s.few);
            unoffered = ap (list_any is_offer) e ∙ s.unoffered;
          }
      by false q =
          let e : shadow T M W V c ≡ [] = cond-false (accepts T W c) (shadow_taken T M W V c) [] q in
          let n : next T W c ≡ W = cond-false (accepts T W c) (effect T W c) W q in
          record {
            taken = subst (λ l. AllTaken (closed T M) V l) (sym e) tt;
            alike = subst (λ w. Alike T M 0 w (after (closed T M) V (shadow T M W V c))) (sym n) (subst (λ l. Alike T M 0 W (after (closed T M) V l)) (sym e) a);
            few = subst (λ l. length l ≤ one (accepts T W c) + 64 * one (accepts T W c && is_tick c)) (sym e) (omega arith);
            unoffered = ap (list_any is_offer) e;
          }

  -- many calls, from worlds alike; n closed steps came before
  pub record Run (W V : World) (n : ℕ) (cs : List Step) (run : List Step) (points : List ℕ) : Type 0 where
    pub taken : AllTaken (closed T M) V run
    pub unoffered : list_any is_offer run ≡ false
    pub whole : Alike T M 0 (after T W cs) (after (closed T M) V run)
    pub each : length points ≡ length cs
    pub later : (i : ℕ) → i < length cs → n ≤ get_or points i 0
    pub order : (i : ℕ) → suc i < length points → get_or points i 0 ≤ get_or points (suc i) 0
    pub within : (i : ℕ) → i < length points → get_or points i 0 ≤ n + length run
    pub agree : (i : ℕ) → i < length cs → Alike T M 0 (after T W (take (suc i) cs)) (after (closed T M) V (take (get_or points i 0 - n) run))
    pub bound : (i : ℕ) → i < length cs → get_or points i 0 ≤ n + (Matching.taken T W (take (suc i) cs) + 64 * ticks T W (take (suc i) cs))

  joined-run : (W V : World) (n : ℕ) (c : Step) (cs : List Step) → Followed W V c → Run (next T W c) (after (closed T M) V (shadow T M W V c)) (n + length (shadow T M W V c)) cs (shadow_run T M (next T W c) (after (closed T M) V (shadow T M W V c)) cs) (shadow_points T M (next T W c) (after (closed T M) V (shadow T M W V c)) (n + length (shadow T M W V c)) cs) → Run W V n (c ∷ cs) (shadow T M W V c ++ shadow_run T M (next T W c) (after (closed T M) V (shadow T M W V c)) cs) ((n + length (shadow T M W V c)) ∷ shadow_points T M (next T W c) (after (closed T M) V (shadow T M W V c)) (n + length (shadow T M W V c)) cs)
  unfolding AllTaken ticks Matching.taken
  joined-run W V n c cs f r = record {
    taken = taken-append (closed T M) V (shadow T M W V c) rest f.taken r.taken;
    unoffered = any_append is_offer (shadow T M W V c) rest ∙ or_from (list_any is_offer (shadow T M W V c)) (list_any is_offer rest) f.unoffered r.unoffered;
    whole = subst (Alike T M 0 (after T (next T W c) cs)) (sym (after-append (closed T M) V (shadow T M W V c) rest)) r.whole;
    each = ap suc r.each;
    later = at_least;
    order = in_order;
    within = inside;
    agree = agreeing;
    bound = bounded;
  }
    where
      rest : List Step
      rest = shadow_run T M (next T W c) (after (closed T M) V (shadow T M W V c)) cs

      points : List ℕ
      points = shadow_points T M (next T W c) (after (closed T M) V (shadow T M W V c)) (n + length (shadow T M W V c)) cs

      at_least : (i : ℕ) → i < suc (length cs) → n ≤ get_or ((n + length (shadow T M W V c)) ∷ points) i 0
      at_least zero h = omega arith
      at_least (suc i) (suc-le-suc h) = omega (arith, r.later i h)

      in_order : (i : ℕ) → suc i < suc (length points) → get_or ((n + length (shadow T M W V c)) ∷ points) i 0 ≤ get_or points i 0
      in_order zero (suc-le-suc h) = r.later 0 (subst (λ k. 0 < k) r.each h)
      in_order (suc i) (suc-le-suc h) = r.order i h

      inside : (i : ℕ) → i < suc (length points) → get_or ((n + length (shadow T M W V c)) ∷ points) i 0 ≤ n + length (shadow T M W V c ++ rest)
      inside zero h = omega (arith, length-append (shadow T M W V c) rest)
      inside (suc i) (suc-le-suc h) = omega (arith, length-append (shadow T M W V c) rest, r.within i h)

      agreeing : (i : ℕ) → i < suc (length cs) → Alike T M 0 (after T W (take (suc i) (c ∷ cs))) (after (closed T M) V (take (get_or ((n + length (shadow T M W V c)) ∷ points) i 0 - n) (shadow T M W V c ++ rest)))
      agreeing zero h =
          let e : n + length (shadow T M W V c) - n ≡ length (shadow T M W V c) = omega arith in
          subst (λ k. Alike T M 0 (next T W c) (after (closed T M) V (take k (shadow T M W V c ++ rest)))) (sym e)
          (subst (λ l. Alike T M 0 (next T W c) (after (closed T M) V l)) (sym (take_at (shadow T M W V c) rest (length (shadow T M W V c)) refl)) f.alike)
      agreeing (suc i) (suc-le-suc h) =
          let b = r.later i h in
          let k = get_or points i 0 - (n + length (shadow T M W V c)) in
          let e : get_or points i 0 - n ≡ length (shadow T M W V c) + (get_or points i 0 - (n + length (shadow T M W V c))) = omega arith in
          subst (λ j. Alike T M 0 (after T (next T W c) (take (suc i) cs)) (after (closed T M) V (take j (shadow T M W V c ++ rest)))) (sym e)
          (subst (λ l. Alike T M 0 (after T (next T W c) (take (suc i) cs)) (after (closed T M) V l)) (sym (take_past (shadow T M W V c) rest (get_or points i 0 - (n + length (shadow T M W V c)))))
          (subst (Alike T M 0 (after T (next T W c) (take (suc i) cs))) (sym (after-append (closed T M) V (shadow T M W V c) (take (get_or points i 0 - (n + length (shadow T M W V c))) rest))) (r.agree i h)))

      bounded : (i : ℕ) → i < suc (length cs) → get_or ((n + length (shadow T M W V c)) ∷ points) i 0 ≤ n + (Matching.taken T W (take (suc i) (c ∷ cs)) + 64 * ticks T W (take (suc i) (c ∷ cs)))
      bounded zero h = omega (arith, f.few)
      bounded (suc i) (suc-le-suc h) = omega (arith, f.few, r.bound i h)

  runs : (W V : World) (n : ℕ) (cs : List Step) → Alike T M 0 W V → Run W V n cs (shadow_run T M W V cs) (shadow_points T M W V n cs)
  unfolding shadow_run shadow_points AllTaken
  runs W V n [] a = record {
    taken = tt;
    unoffered = refl;
    whole = a;
    each = refl;
    later = λ i h. absurd (omega arith);
    order = λ i h. absurd (omega arith);
    within = λ i h. absurd (omega arith);
    agree = λ i h. absurd (omega arith);
    bound = λ i h. absurd (omega arith);
  }
  runs W V n (c ∷ cs) a =
      let f = followed W V c a in
      joined-run W V n c cs f (runs (next T W c) (after (closed T M) V (shadow T M W V c)) (n + length (shadow T M W V c)) cs f.alike)

  -- from the starts

  matching : (room : ℕ) → start_refused T room ≡ None → (cs : List Step) → Matches T M (closed T M) room cs (run_of T M room cs) (points_of T M room cs)
  matching room h cs =
      let a = starts-alike room h in
      let r = runs (started T room) (started (closed T M) room) 0 cs a in
      record {
        closed_run = record { accepted = r.taken; unoffered = r.unoffered };
        each = r.each;
        order = r.order;
        within = λ i l. omega (arith, r.within i l);
        starts = visible-same T M (started T room) (started (closed T M) room) a;
        agree = λ i l. visible-same T M (after T (started T room) (take (suc i) cs)) (after (closed T M) (started (closed T M) room) (take (get_or (points_of T M room cs) i 0) (run_of T M room cs))) (subst (λ k. Alike T M 0 (after T (started T room) (take (suc i) cs)) (after (closed T M) (started (closed T M) room) (take k (run_of T M room cs)))) (less_zero (get_or (points_of T M room cs) i 0)) (r.agree i l));
        bound = λ i l. omega (arith, r.bound i l);
      }
    where
      less_zero : (n : ℕ) → n - 0 ≡ n
      less_zero n = omega arith

  pub stands-in : StandsIn T M
  stands-in = record { begins = closed-starts; matches = matching }

  pub verdict : Verdict T M
  verdict P room h holds cs =
      let a = starts-alike room h in
      let r = runs (started T room) (started (closed T M) room) 0 cs a in
      ap P (sym (visible-same T M (after T (started T room) cs) (after (closed T M) (started (closed T M) room) (run_of T M room cs)) r.whole))
      ∙ holds (run_of T M room cs) (record { accepted = r.taken; unoffered = r.unoffered })
