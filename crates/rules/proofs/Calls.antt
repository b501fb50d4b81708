-- Calls that are accepted of the open table, but for the tick: the steps that match them are accepted of the closed one, and both
-- lead to worlds alike.
use Rattle.std.proofs.Common.{◌≡◌, ℕ, ◌<◌, Bool, true, false, cond, not, ◌&&◌, ◌||◌, eqb, leb, ◌⊎◌, [], ◌∷◌, length, get_or, is_some, Some, None, sym, refl, ap, ◌∙◌, subst, inl, inr, ⊎_elim, zero-add, arith}
use Rattle.std.proofs.lemmas.List.{get_or_past, get_or_default}
use Rattle.std.proofs.lemmas.Bool.{cases_lt, both_ways, and_parts, and_from, and_cases, and_left, and_right, or_from, eqb-true, eq-eqb, cond-true, cond-false, lt-leb, leb-false}
use Rattle.marks.specs.Instances.{process_at}
use Rattle.marks.specs.Rules.{Marking, EdgeObeys, marked, is_output, class_at}
use Rattle.refusal.specs.Refusals.{first}
use Rattle.rules.proofs.Closed.{closed-length, closed-locations, inside-closed, goal-closed}
use Rattle.rules.proofs.Examined.{good, process-there, closed-good, limits-pass, edge-stays-sound}
use Rattle.rules.proofs.Fates.{kind_then, kind-under, edge-sound}
use Rattle.rules.proofs.Lists.{In, none_first}
use Rattle.rules.proofs.Moves.{ready-closed, moved-closed, sent-same, value_stays}
use Rattle.rules.proofs.Twins.{MessageTwin, Twin, Alike, alike-put, alike-open, push-inner, push-outer, queue-length}
use Rattle.rules.specs.Closing.{fate_as, fate, first_under, closed_edge, closed, test_refused}
use Rattle.rules.specs.Matching.{inside}
use Rattle.rules.specs.States.{Running, World, idle, at, lacking, is_inbound, is_internal, is_outbound, goal}
use Rattle.rules.specs.Steps.{scope, kind_ready, allowed, ready, enabled, sends, full, moved, message, received, deliver, edge_value, moved_along, move_effect, state_at, misplaced, unlike, state_refused, move_tests}
use Rattle.rules.specs.declared.step.Message.{Message}
use Rattle.table.proofs.Passing.{parts_none, all-first_at}
use Rattle.table.specs.Edges.{absent, edge_fault}
use Rattle.table.specs.Examination.{first_at, bad_signal, limits_refused}
use Rattle.table.specs.Lists.{Lists}
use Rattle.table.specs.Records.{kind_of, class_of}
use Rattle.table.specs.declared.record.Class.{Class}
use Rattle.table.specs.declared.record.Class.TheVariants.{Internal, Inbound, Outbound, Absent}
use Rattle.table.specs.declared.record.Edge.{Edge}
use Rattle.table.specs.declared.record.Kind.{Kind}
use Rattle.table.specs.declared.record.Kind.TheVariants.{Input, Output, Assignment, Set, Reset, Timeout, Rearm, Skip, Unknown}
use Rattle.table.specs.declared.record.Signal.{Signal}

-- a destination that is used is there
destined : (n : ℕ) (g : Signal) → bad_signal n g ≡ false → (is_internal (class_of g.class) ≡ true) ⊎ (is_inbound (class_of g.class) ≡ true) → g.destination < n
destined n g h w = by (class_of g.class) refl w
  where
    by : (c : Class) → class_of g.class ≡ c → (is_internal c ≡ true) ⊎ (is_inbound c ≡ true) → g.destination < n
    by Internal q w = let j = rw q at h in leb-false n g.destination j
    by Inbound q w = let j = rw q at h in leb-false n g.destination j
    by Outbound q (inl w) = absurd (both_ways false refl w)
    by Outbound q (inr w) = absurd (both_ways false refl w)
    by Absent q (inl w) = absurd (both_ways false refl w)
    by Absent q (inr w) = absurd (both_ways false refl w)
    by Class.Unknown q (inl w) = absurd (both_ways false refl w)
    by Class.Unknown q (inr w) = absurd (both_ways false refl w)

module _ (T : Lists) (M : Marking) (u : ℕ) where
  receives-twin : (p : ℕ) (r s : Running) (x y : Message) → Twin T M u p r s → MessageTwin T M x y → Twin T M u p (received x r) (received y s)
  receives-twin p r s x y t m = record {
    location = t.location;
    within = t.within;
    queue = push-inner T M r.queue s.queue x y t.queue m;
    variables = t.variables;
    timers = t.timers;
    chaos = t.chaos;
    opened = record { variables = t.opened.variables; timers = t.opened.timers };
    closed = record { variables = t.closed.variables; timers = t.closed.timers };
  }

  pub deliver-alike : (W V : World) (q : ℕ) (x y : Message) → q < length T.processes → Alike T M u W V → MessageTwin T M x y → Alike T M u (deliver W q x) (deliver V q y)
  unfolding deliver
  deliver-alike W V q x y l a m = alike-put T M u W V q (received x (at W q)) (received y (at V q)) a (receives-twin q (at W q) (at V q) x y (a.twin q l) m)

  pub deliver-outer : (W V : World) (q : ℕ) (x : Message) → q < length T.processes → Alike T M u W V → inside T x ≡ false → Alike T M u (deliver W q x) V
  unfolding deliver
  deliver-outer W V q x l a o =
      let t = a.twin q l in
      alike-open T M u W V q (received x (at W q)) l a
      (record {
        location = t.location;
        within = t.within;
        queue = push-outer T M (at W q).queue (at V q).queue x t.queue o;
        variables = t.variables;
        timers = t.timers;
        chaos = t.chaos;
        opened = record { variables = t.opened.variables; timers = t.opened.timers };
        closed = t.closed;
      })

module _ (T : Lists) (M : Marking) (tested : test_refused T M ≡ None) where
  pub goal-there : (s : ℕ) → (is_internal (class_at T s) ≡ true) ⊎ (is_inbound (class_at T s) ≡ true) → goal T s < length T.processes
  goal-there s w =
      ⊎_elim (λ l. destined (length T.processes) (get_or T.signals s absent) ((good T M tested).signal s l) w)
      (λ past.
      let q = ap (λ g. class_of g.class) (get_or_past T.signals s absent past) in
      ⊎_elim (λ z. absurd (both_ways (is_internal (class_at T s)) (ap is_internal q) z)) (λ z. absurd (both_ways (is_inbound (class_at T s)) (ap is_inbound q) z)) w)
      (cases_lt s (length T.signals))

  -- a world alike is never refused by 18
  pub state-passes : (u : ℕ) (W V : World) → Alike T M u W V → state_refused (closed T M) V ≡ None
  unfolding state_refused
  state-passes u W V a =
      parts_none (cond (unlike (closed T M) V) (Some (state_at 18 0)) None) (first_at (misplaced (closed T M) V.room) 0 V.processes)
      (cond-false (unlike (closed T M) V) (Some (state_at 18 0)) None
      (or_from (not (eqb (length V.processes) (length (closed T M).processes))) (is_some (limits_refused (closed T M)))
      (ap not (eq-eqb (length V.processes) (length (closed T M).processes) (a.closed ∙ sym (closed-length T M))))
      (ap is_some (limits-pass (closed T M) (closed-good T M tested)))))
      (all-first_at (misplaced (closed T M) V.room) 0 V.processes
      (λ p d l.
      let h : p < length T.processes = omega (arith, a.closed) in
      let t = a.twin p h in
      let r : get_or V.processes p d ≡ at V p = get_or_default V.processes p d idle l in
      let x : leb (process_at (closed T M) p).locations (at V p).location ≡ false = lt-leb (process_at (closed T M) p).locations (at V p).location (omega (arith, t.within, t.location, closed-locations T M p h)) in
      let y : lacking V.room p ≡ false = ap (λ n. lacking n p) a.room ∙ a.enough p h in
      let z : misplaced (closed T M) V.room p (at V p) ≡ None = cond-false (leb (process_at (closed T M) p).locations (at V p).location || lacking V.room p) (Some (state_at 18 p)) None (or_from (leb (process_at (closed T M) p).locations (at V p).location) (lacking V.room p) x y) in
      subst (λ i. misplaced (closed T M) V.room i (get_or V.processes p d) ≡ None) (sym (zero-add p)) (subst (λ i. misplaced (closed T M) V.room p i ≡ None) (sym r) z)))

  -- outputs
  sends-then : (k : Kind) (i u m : Bool) (c n : ℕ) → is_outbound (class_at T n) ≡ u → (is_output (kind_then k i u m) && is_internal (class_at (closed T M) (first_under (fate_as k i u m) c n))) ≡ (is_output k && is_internal (class_at T n))
  sends-then Input true u m c n w = refl
  sends-then Input false u m c n w = refl
  sends-then Output i true m c n w = sym (outbound-outside (class_at T n) w)
    where
      outbound-outside : (c : Class) → is_outbound c ≡ true → is_internal c ≡ false
      outbound-outside Internal h = absurd (both_ways false refl h)
      outbound-outside Inbound h = refl
      outbound-outside Outbound h = refl
      outbound-outside Absent h = refl
      outbound-outside Class.Unknown h = refl
  sends-then Output i false true c n w = inside-closed T M n
  sends-then Output i false false c n w = inside-closed T M n
  sends-then Assignment i u true c n w = refl
  sends-then Assignment i u false c n w = refl
  sends-then Set i u true c n w = refl
  sends-then Set i u false c n w = refl
  sends-then Reset i u m c n w = refl
  sends-then Timeout i u m c n w = refl
  sends-then Rearm i u m c n w = refl
  sends-then Skip i u m c n w = refl
  sends-then Unknown i u m c n w = refl

  sends-closed : (e : Edge) → sends (closed T M) (closed_edge T M e) ≡ sends T e
  unfolding closed_edge
  sends-closed e =
      ap (λ k. is_output k && is_internal (class_at (closed T M) (first_under (fate T M e) (process_at T e.process).timers e.first))) (kind-under (fate T M e) e.kind)
      ∙ sends-then (kind_of e.kind) (is_inbound (class_at T e.first)) (is_outbound (class_at T e.first)) (marked T M e e.value) (process_at T e.process).timers e.first refl

  -- an output that is left keeps its signal
  output-first : (k : Kind) (i u m : Bool) (c n : ℕ) → is_outbound (class_at T n) ≡ u → is_output k ≡ true → is_internal (class_at T n) ≡ true → first_under (fate_as k i u m) c n ≡ n
  output-first Input i u m c n w a b = absurd (both_ways false refl a)
  output-first Output i true m c n w a b = absurd (both_ways (is_internal (class_at T n)) (sym (sends-then Output i true m c n w)) b)
  output-first Output i false true c n w a b = refl
  output-first Output i false false c n w a b = refl
  output-first Assignment i u m c n w a b = absurd (both_ways false refl a)
  output-first Set i u m c n w a b = absurd (both_ways false refl a)
  output-first Reset i u m c n w a b = refl
  output-first Timeout i u m c n w a b = refl
  output-first Rearm i u m c n w a b = refl
  output-first Skip i u m c n w a b = refl
  output-first Unknown i u m c n w a b = refl

  first-closed : (e : Edge) → sends T e ≡ true → (closed_edge T M e).first ≡ e.first
  unfolding closed_edge
  first-closed e h =
      let a = and_parts (is_output (kind_of e.kind)) (is_internal (class_at T e.first)) h in
      output-first (kind_of e.kind) (is_inbound (class_at T e.first)) (is_outbound (class_at T e.first)) (marked T M e e.value) (process_at T e.process).timers e.first refl a.0 a.1

  module _ (W V : World) (a : Alike T M 0 W V) (e : Edge) (listed : In e T.edges) (o : EdgeObeys T M e) (can : enabled T W e ≡ true) where
    here : e.process < length T.processes
    here = process-there T e ((good T M tested).edge e listed)

    t : Twin T M 0 e.process (at W e.process) (at V e.process)
    t = a.twin e.process here

    is-ready : ready T (at W e.process) e ≡ true
    unfolding enabled
    is-ready = (and_parts (not (is_some (edge_fault T e))) (ready T (at W e.process) e) can).1

    starts : e.from ≡ (at W e.process).location
    starts =
        sym (eqb-true (at W e.process).location e.from (and_parts (eqb (at W e.process).location e.from) (allowed T (scope T e.process (at W e.process)) e && kind_ready (kind_of e.kind) (at W e.process) e) is-ready).0)

    kind-is-ready : kind_ready (kind_of e.kind) (at W e.process) e ≡ true
    kind-is-ready =
        (and_parts (allowed T (scope T e.process (at W e.process)) e) (kind_ready (kind_of e.kind) (at W e.process) e) (and_parts (eqb (at W e.process).location e.from) (allowed T (scope T e.process (at W e.process)) e && kind_ready (kind_of e.kind) (at W e.process) e) is-ready).1).1

    closed-enabled : enabled (closed T M) V (closed_edge T M e) ≡ true
    unfolding enabled closed_edge
    closed-enabled =
        and_from (not (is_some (edge_fault (closed T M) (closed_edge T M e)))) (ready (closed T M) (at V e.process) (closed_edge T M e))
        (ap (λ f. not (is_some f)) (edge-sound (closed T M) (closed_edge T M e) (edge-stays-sound T M tested e listed)))
        (ready-closed T M tested e.process (at W e.process) (at V e.process) t here e listed refl starts is-ready)

    along : Alike T M 0 (moved_along T W e) (moved_along (closed T M) V (closed_edge T M e))
    unfolding moved_along closed_edge
    along =
        alike-put T M 0 W V e.process (moved (kind_of e.kind) (edge_value T W e) e (at W e.process)) (moved (kind_of (closed_edge T M e).kind) (edge_value (closed T M) V (closed_edge T M e)) (closed_edge T M e) (at V e.process)) a
        (moved-closed T M tested e.process (at W e.process) (at V e.process) t here e listed refl starts o kind-is-ready)

    sent : sends T e ≡ true → MessageTwin T M (message e.first (edge_value T W e)) (message (closed_edge T M e).first (edge_value (closed T M) V (closed_edge T M e)))
    unfolding closed_edge
    sent h =
        let x = and_parts (is_output (kind_of e.kind)) (is_internal (class_at T e.first)) h in
        record {
          inner = x.1;
          signal = first-closed e h;
          value = λ n.
              let f = sent-same T M tested e.process (at W e.process) (at V e.process) t here e listed refl starts o (kind_of e.kind) refl (is_inbound (class_at T e.first)) (is_outbound (class_at T e.first)) (marked T M e e.value) refl refl x.0 x.1 n in
              value_stays T M tested e.process (at W e.process) (at V e.process) t here e listed refl starts o (fate T M e) f.0 f.1 (closed_edge T M e) refl;
        }

    pub moves-alike : Alike T M 0 (move_effect T W e) (move_effect (closed T M) V (closed_edge T M e))
    unfolding move_effect
    moves-alike = by (sends T e) refl
      where
        by : (b : Bool) → sends T e ≡ b → Alike T M 0 (cond (sends T e) (deliver (moved_along T W e) (goal T e.first) (message e.first (edge_value T W e))) (moved_along T W e)) (cond (sends (closed T M) (closed_edge T M e)) (deliver (moved_along (closed T M) V (closed_edge T M e)) (goal (closed T M) (closed_edge T M e).first) (message (closed_edge T M e).first (edge_value (closed T M) V (closed_edge T M e)))) (moved_along (closed T M) V (closed_edge T M e)))
        by true h =
            let x = and_parts (is_output (kind_of e.kind)) (is_internal (class_at T e.first)) h in
            let g : goal (closed T M) (closed_edge T M e).first ≡ goal T e.first = ap (goal (closed T M)) (first-closed e h) ∙ goal-closed T M e.first x.1 in
            subst (λ z. Alike T M 0 z (cond (sends (closed T M) (closed_edge T M e)) (deliver (moved_along (closed T M) V (closed_edge T M e)) (goal (closed T M) (closed_edge T M e).first) (message (closed_edge T M e).first (edge_value (closed T M) V (closed_edge T M e)))) (moved_along (closed T M) V (closed_edge T M e)))) (sym (cond-true (sends T e) (deliver (moved_along T W e) (goal T e.first) (message e.first (edge_value T W e))) (moved_along T W e) h))
            (subst (λ z. Alike T M 0 (deliver (moved_along T W e) (goal T e.first) (message e.first (edge_value T W e))) z) (sym (cond-true (sends (closed T M) (closed_edge T M e)) (deliver (moved_along (closed T M) V (closed_edge T M e)) (goal (closed T M) (closed_edge T M e).first) (message (closed_edge T M e).first (edge_value (closed T M) V (closed_edge T M e)))) (moved_along (closed T M) V (closed_edge T M e)) (sends-closed e ∙ h)))
            (subst (λ z. Alike T M 0 (deliver (moved_along T W e) (goal T e.first) (message e.first (edge_value T W e))) (deliver (moved_along (closed T M) V (closed_edge T M e)) z (message (closed_edge T M e).first (edge_value (closed T M) V (closed_edge T M e))))) (sym g)
            (deliver-alike T M 0 (moved_along T W e) (moved_along (closed T M) V (closed_edge T M e)) (goal T e.first) (message e.first (edge_value T W e)) (message (closed_edge T M e).first (edge_value (closed T M) V (closed_edge T M e))) (goal-there e.first (inl x.1)) along (sent h))))
        by false h =
            subst (λ z. Alike T M 0 z (cond (sends (closed T M) (closed_edge T M e)) (deliver (moved_along (closed T M) V (closed_edge T M e)) (goal (closed T M) (closed_edge T M e).first) (message (closed_edge T M e).first (edge_value (closed T M) V (closed_edge T M e)))) (moved_along (closed T M) V (closed_edge T M e)))) (sym (cond-false (sends T e) (deliver (moved_along T W e) (goal T e.first) (message e.first (edge_value T W e))) (moved_along T W e) h))
            (subst (λ z. Alike T M 0 (moved_along T W e) z) (sym (cond-false (sends (closed T M) (closed_edge T M e)) (deliver (moved_along (closed T M) V (closed_edge T M e)) (goal (closed T M) (closed_edge T M e).first) (message (closed_edge T M e).first (edge_value (closed T M) V (closed_edge T M e)))) (moved_along (closed T M) V (closed_edge T M e)) (sends-closed e ∙ h))) along)

    pub moves-pass : (sends T e && full W (goal T e.first)) ≡ false → first (move_tests (closed T M) V (closed_edge T M e)) ≡ None
    moves-pass f =
        none_first (not (enabled (closed T M) V (closed_edge T M e))) (state_at 20 (closed_edge T M e).process) ((sends (closed T M) (closed_edge T M e) && full V (goal (closed T M) (closed_edge T M e).first), state_at 21 (goal (closed T M) (closed_edge T M e).first)) ∷ []) (ap not closed-enabled)
        (none_first (sends (closed T M) (closed_edge T M e) && full V (goal (closed T M) (closed_edge T M e).first)) (state_at 21 (goal (closed T M) (closed_edge T M e).first)) [] (by (sends T e) refl) refl)
      where
        by : (b : Bool) → sends T e ≡ b → (sends (closed T M) (closed_edge T M e) && full V (goal (closed T M) (closed_edge T M e).first)) ≡ false
        by true h =
            let x = and_parts (is_output (kind_of e.kind)) (is_internal (class_at T e.first)) h in
            let g : goal (closed T M) (closed_edge T M e).first ≡ goal T e.first = ap (goal (closed T M)) (first-closed e h) ∙ goal-closed T M e.first x.1 in
            let q = goal-there e.first (inl x.1) in
            let n : full W (goal T e.first) ≡ false = ⊎_elim (λ z. absurd (both_ways (sends T e) z h)) (λ z. z) (and_cases (sends T e) (full W (goal T e.first)) f) in
            let l = leb-false 16 (length (at W (goal T e.first)).queue) n in
            let k = queue-length T M (at W (goal T e.first)).queue (at V (goal T e.first)).queue (a.twin (goal T e.first) q).queue in
            and_right (sends (closed T M) (closed_edge T M e)) (full V (goal (closed T M) (closed_edge T M e).first))
            (ap (full V) g ∙ lt-leb 16 (length (at V (goal T e.first)).queue) (omega arith))
        by false h = and_left (sends (closed T M) (closed_edge T M e)) (full V (goal (closed T M) (closed_edge T M e).first)) (sends-closed e ∙ h)
