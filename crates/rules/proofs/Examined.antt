-- A closed table passes the examination.
use Rattle.std.proofs.Common.{◌≡◌, ℕ, ◌+◌, ◌<◌, ◌≤◌, Bool, true, false, cond, not, ◌&&◌, ◌||◌, eqb, ltb, leb, ◌⊎◌, List, [], ◌∷◌, ◌++◌, length, get_or, None, sym, refl, ap, ◌∙◌, subst, inl, inr, ⊎_elim, zero-add, arith}
use Rattle.std.proofs.lemmas.List.{length-map, get_or_past, get_or_default}
use Rattle.std.proofs.lemmas.Bool.{cases_lt, both_ways, and_parts, and_from, and_cases, and_left, and_right, or_parts, or_from, not-false, le-ltb, ltb-false, eqb-true, eq-eqb}
use Rattle.std.proofs.lemmas.Bool.Decides.{nat_tests}
use Rattle.std.specs.Option.{option_or, option_map}
use Rattle.marks.specs.Instances.{process_at}
use Rattle.marks.specs.Rules.{Marking, marked, class_at}
use Rattle.refusal.specs.Refusals.{refusal}
use Rattle.refusal.specs.declared.fault.Layer.{Layer}
use Rattle.refusal.specs.declared.fault.Place.{Place}
use Rattle.rules.proofs.Closed.{Loop, of_chaos, of_timeout, of_rearm, closed-length, process-closed, closed-locations, closed-variables, closed-timers-chaos, closed-timers-least, signal-closed, signal-kept, closed-edges-length, in-closed, closed_in, some-closed, in-added, added-waits, none-added}
use Rattle.rules.proofs.Fates.{kind_then, kind-under, acting-then, Names, there-is, is-there, names-then, unfit-then, form-then, untrue-then, Sound, sound-edge, edge-sound}
use Rattle.rules.proofs.Lists.{In, in-get_or, in_all, any-in, in-any, any_append, any-padded, first_from-all, all-first_from}
use Rattle.rules.specs.Closing.{fate, freed, chaotic, with_chaos, closed_signal, closed_edge, first_under, rearm, timeout, added, closed, invites, closed_count, ninth, test_at, timers_refused, count_refused, test_refused}
use Rattle.rules.specs.States.{padded, is_inbound, is_outbound, is_input, waiting}
use Rattle.table.proofs.Passing.{none-parts, parts_none, cond-none, mapped-none, first_at-all, all-first_at, limit-all, all-limit}
use Rattle.table.specs.Edges.{blank, absent, proc_at, untrue_in, edge_fault}
use Rattle.table.specs.Examination.{too_long, bad_process, bad_signal, too_many, limited, edge_refused, leaves, acting, acts, frees, freely, some, mixed, stuck, location_in, first_location, location_refused, lists_refused, processes_refused, signals_refused, edges_refused, limits_refused, locations_refused, examined, first_at, first_from}
use Rattle.table.specs.Examination as examination
use Rattle.std.specs.List.{list_any}
use Rattle.table.specs.Lists.{Lists, Proc}
use Rattle.table.specs.Records.{kind_of, class_of, mode_of}
use Rattle.table.specs.declared.record.Edge.{Edge}
use Rattle.table.specs.declared.record.Kind.TheVariants.{Input, Timeout, Rearm}
use Rattle.table.specs.declared.record.Signal.{Signal}
use Rattle.table.specs.declared.record.Timer.{Timer}
use Rattle.table.specs.declared.record.Timer.TheVariants.{Off, On}

-- what a table that passes keeps to
pub record Passed (T : Lists) : Type 0 where
  pub lists : too_many T ≡ false
  pub process : (p : ℕ) → p < length T.processes → bad_process (process_at T p) ≡ false
  pub signal : (s : ℕ) → s < length T.signals → bad_signal (length T.processes) (get_or T.signals s absent) ≡ false
  pub edge : (e : Edge) → In e T.edges → Sound T e
  pub apart : (p l : ℕ) → p < length T.processes → l < (process_at T p).locations → mixed T p l ≡ false
  pub free : (p l : ℕ) → p < length T.processes → l < (process_at T p).locations → stuck T p l ≡ false

location-all : (n : ℕ) (h : ℕ → ℕ → Bool) (T : Lists) → location_refused n h T.processes ≡ None → (p l : ℕ) → p < length T.processes → l < (process_at T p).locations → h p l ≡ false
location-all n h T e p l a b =
    let x = mapped-none (λ at. refusal n Layer.Table (Place.Pair at.0 at.1)) (first_location h T.processes) e in
    let y = first_at-all (location_in h) 0 T.processes x p blank a in
    let z = mapped-none (λ l. (0 + p, l)) (first_from (h (0 + p)) 0 (process_at T p).locations) y in
    let w = first_from-all (h (0 + p)) 0 (process_at T p).locations z l b in
    subst (λ i. h i l ≡ false) (zero-add p) (subst (λ i. h (0 + p) i ≡ false) (zero-add l) w)

all-location : (n : ℕ) (h : ℕ → ℕ → Bool) (T : Lists) → ((p l : ℕ) → p < length T.processes → l < (process_at T p).locations → h p l ≡ false) → location_refused n h T.processes ≡ None
all-location n h T e = ap (option_map (λ at. refusal n Layer.Table (Place.Pair at.0 at.1))) (all-first_at (location_in h) 0 T.processes each)
  where
    each : (p : ℕ) (d : Proc) → p < length T.processes → location_in h (0 + p) (get_or T.processes p d) ≡ None
    each p d a =
        let q = get_or_default T.processes p d blank a in
        subst (λ r. location_in h (0 + p) r ≡ None) (sym q)
        (ap (option_map (λ l. (0 + p, l)))
        (all-first_from (h (0 + p)) 0 (process_at T p).locations
        (λ l b. subst (λ i. h i (0 + l) ≡ false) (sym (zero-add p)) (subst (λ i. h p i ≡ false) (sym (zero-add l)) (e p l a b)))))

pub passed : (T : Lists) → examined T ≡ None → Passed T
unfolding examined limits_refused locations_refused
passed T h =
    let a = none-parts (limits_refused T) (option_or (edges_refused T) (locations_refused T)) h in
    let b = none-parts (lists_refused T) (option_or (processes_refused T) (signals_refused T)) a.0 in
    let c = none-parts (processes_refused T) (signals_refused T) b.1 in
    let d = none-parts (edges_refused T) (locations_refused T) a.1 in
    let f = none-parts (location_refused 11 (mixed T) T.processes) (location_refused 12 (stuck T) T.processes) d.1 in
    record {
      lists = cond-none (too_many T) (refusal 3 Layer.Table (Place.At 0)) b.0;
      process = λ p l. limit-all bad_process T.processes c.0 p blank l;
      signal = λ s l. limit-all (bad_signal (length T.processes)) T.signals c.1 s absent l;
      edge = in_all (Sound T) T.edges
          (λ k e l. sound-edge T (get_or T.edges k e) (mapped-none (λ n. refusal n Layer.Edge (Place.At (0 + k))) (edge_fault T (get_or T.edges k e)) (first_at-all (edge_refused T) 0 T.edges d.0 k e l)));
      apart = location-all 11 (mixed T) T f.0;
      free = location-all 12 (stuck T) T f.1;
    }

pub limits-pass : (T : Lists) → Passed T → limits_refused T ≡ None
unfolding limits_refused
limits-pass T h =
    parts_none (lists_refused T) (option_or (processes_refused T) (signals_refused T)) (rw h.lists)
    (parts_none (processes_refused T) (signals_refused T)
    (all-limit bad_process T.processes
    (λ k d l. subst (λ r. bad_process r ≡ false) (get_or_default T.processes k blank d l) (h.process k l)))
    (all-limit (bad_signal (length T.processes)) T.signals
    (λ k d l. subst (λ r. bad_signal (length T.processes) r ≡ false) (get_or_default T.signals k absent d l) (h.signal k l))))

pub passes : (T : Lists) → Passed T → examined T ≡ None
unfolding examined locations_refused
passes T h =
    parts_none (limits_refused T) (option_or (edges_refused T) (locations_refused T)) (limits-pass T h)
    (parts_none (edges_refused T) (locations_refused T)
    (all-first_at (edge_refused T) 0 T.edges
    (λ k d l. rw (edge-sound T (get_or T.edges k d) (h.edge (get_or T.edges k d) (in-get_or T.edges k d l)))))
    (parts_none (location_refused 11 (mixed T) T.processes) (location_refused 12 (stuck T) T.processes) (all-location 11 (mixed T) T h.apart) (all-location 12 (stuck T) T h.free)))

-- an edge's process is there
pub process-there : (T : Lists) (e : Edge) → Sound T e → e.process < length T.processes
process-there T e s =
    ⊎_elim (λ l. l)
    (λ past.
    let t = there-is (length T.signals) (proc_at T e) e (kind_of e.kind) refl s.there in
    let q = ap (λ r. r.locations) (get_or_past T.processes e.process blank past) in
    absurd (omega (arith, t.from)))
    (cases_lt e.process (length T.processes))

module _ (T : Lists) (M : Marking) (tested : test_refused T M ≡ None) where
  pub table-passes : examined T ≡ None
  unfolding test_refused
  table-passes = (none-parts (examined T) (option_or (timers_refused T) (count_refused T M)) tested).0

  pub good : Passed T
  good = passed T table-passes

  rest : (timers_refused T ≡ None) × (count_refused T M ≡ None)
  unfolding test_refused
  rest = none-parts (timers_refused T) (count_refused T M) (none-parts (examined T) (option_or (timers_refused T) (count_refused T M)) tested).1

  pub room-for-chaos : (p : ℕ) → p < length T.processes → chaotic T p ≡ true → (process_at T p).timers < 8
  room-for-chaos p h c =
      let a = first_from-all (ninth T) 0 (length T.processes) (mapped-none (test_at 13) (first_from (ninth T) 0 (length T.processes)) rest.0) p h in
      let b : ninth T p ≡ false = subst (λ i. ninth T i ≡ false) (zero-add p) a in
      ⊎_elim (λ z. absurd (both_ways (chaotic T p) z c)) (λ z. grind (arith, nat_tests)) (and_cases (chaotic T p) (leb 8 (process_at T p).timers) b)

  few-edges : length (closed T M).edges ≤ 2048
  few-edges =
      let a = cond-none (ltb 2048 (closed_count T M)) (test_at 14 (closed_count T M)) rest.1 in
      let b = ltb-false 2048 (closed_count T M) a in
      omega (arith, closed-edges-length T M)

  -- limits

  pub signals-length : length (closed T M).signals ≡ length T.signals
  unfolding closed
  signals-length = length-map T.signals closed_signal

  pub terms-same : T.terms ≡ (closed T M).terms
  unfolding closed
  terms-same = refl

  closed-lists : too_many (closed T M) ≡ false
  unfolding closed
  closed-lists =
      let a = few-edges in
      let b = good.lists in
      let c = closed-length T M in
      let d = length-map T.signals closed_signal in
      grind (arith, nat_tests)

  any_push : (n : ℕ) (ts : List Timer) → list_any too_long ts ≡ false → list_any too_long (padded n Off ts ++ On 0 ∷ []) ≡ false
  any_push n ts h =
      any_append too_long (padded n Off ts) (On 0 ∷ []) ∙ or_from (list_any too_long (padded n Off ts)) false (any-padded too_long n Off ts refl h) refl

  closed-process : (p : ℕ) → p < length T.processes → bad_process (process_at (closed T M) p) ≡ false
  closed-process p h = subst (λ r. bad_process r ≡ false) (sym (process-closed T M p h)) (by (chaotic T p) refl)
    where
      by : (b : Bool) → chaotic T p ≡ b → bad_process (cond b (with_chaos (process_at T p)) (process_at T p)) ≡ false
      by true c =
          let a = good.process p h in
          let t = room-for-chaos p h c in
          let x = or_parts (not (leb 1 (process_at T p).locations && leb (process_at T p).locations 16)) (ltb 8 (process_at T p).variables || (ltb 8 (process_at T p).timers || (leb (process_at T p).locations (process_at T p).first || list_any too_long (process_at T p).settings))) a in
          let y = or_parts (ltb 8 (process_at T p).variables) (ltb 8 (process_at T p).timers || (leb (process_at T p).locations (process_at T p).first || list_any too_long (process_at T p).settings)) x.1 in
          let z = or_parts (ltb 8 (process_at T p).timers) (leb (process_at T p).locations (process_at T p).first || list_any too_long (process_at T p).settings) y.1 in
          let w = or_parts (leb (process_at T p).locations (process_at T p).first) (list_any too_long (process_at T p).settings) z.1 in
          let q : ltb 8 ((process_at T p).timers + 1) ≡ false = le-ltb 8 ((process_at T p).timers + 1) (omega arith) in
          or_from (not (leb 1 (process_at T p).locations && leb (process_at T p).locations 16)) (ltb 8 (process_at T p).variables || (ltb 8 ((process_at T p).timers + 1) || (leb (process_at T p).locations (process_at T p).first || list_any too_long (padded (process_at T p).timers Off (process_at T p).settings ++ On 0 ∷ [])))) x.0
          (or_from (ltb 8 (process_at T p).variables) (ltb 8 ((process_at T p).timers + 1) || (leb (process_at T p).locations (process_at T p).first || list_any too_long (padded (process_at T p).timers Off (process_at T p).settings ++ On 0 ∷ []))) y.0
          (or_from (ltb 8 ((process_at T p).timers + 1)) (leb (process_at T p).locations (process_at T p).first || list_any too_long (padded (process_at T p).timers Off (process_at T p).settings ++ On 0 ∷ [])) q
          (or_from (leb (process_at T p).locations (process_at T p).first) (list_any too_long (padded (process_at T p).timers Off (process_at T p).settings ++ On 0 ∷ [])) w.0 (any_push (process_at T p).timers (process_at T p).settings w.1))))
      by false c = good.process p h

  closed-signal : (n : ℕ) (s : Signal) → bad_signal n s ≡ false → bad_signal n (closed_signal s) ≡ false
  closed-signal n s h = by (is_inbound (class_of s.class)) (is_outbound (class_of s.class))
    where
      by : (i o : Bool) → bad_signal n (cond i absent (cond o absent s)) ≡ false
      by true o = refl
      by false true = refl
      by false false = h

  signal-good : (s : ℕ) → s < length (closed T M).signals → bad_signal (length (closed T M).processes) (get_or (closed T M).signals s absent) ≡ false
  signal-good s h =
      subst (λ n. bad_signal n (get_or (closed T M).signals s absent) ≡ false) (sym (closed-length T M))
      (subst (λ x. bad_signal (length T.processes) x ≡ false) (sym (signal-closed T M s)) (closed-signal (length T.processes) (get_or T.signals s absent) (good.signal s (subst (λ n. s < n) signals-length h))))

  -- edges

  invited : (e : Edge) → In e T.edges → kind_of e.kind ≡ Input → is_inbound (class_at T e.first) ≡ true → chaotic T e.process ≡ true
  unfolding chaotic
  invited e h k i =
      any-in (λ g. eqb g.process e.process && invites T g) e T.edges h
      (and_from (eqb e.process e.process) (invites T e) (eq-eqb e.process e.process refl)
      (and_from (is_input (kind_of e.kind)) (is_inbound (class_at T e.first)) (ap is_input k) i))

  pub edge-stays-sound : (e : Edge) → In e T.edges → Sound (closed T M) (closed_edge T M e)
  unfolding closed_edge
  edge-stays-sound e h =
      let s = good.edge e h in
      let here = process-there T e s in
      let q : kind_of (closed_edge T M e).kind ≡ kind_then (kind_of e.kind) (is_inbound (class_at T e.first)) (is_outbound (class_at T e.first)) (marked T M e e.value) = kind-under (fate T M e) e.kind in
      let t = there-is (length T.signals) (proc_at T e) e (kind_of e.kind) refl s.there in
      record {
        there = is-there (length (closed T M).signals) (proc_at (closed T M) (closed_edge T M e)) (closed_edge T M e) (kind_then (kind_of e.kind) (is_inbound (class_at T e.first)) (is_outbound (class_at T e.first)) (marked T M e e.value)) q
            (record {
              from = subst (λ n. e.from < n) (sym (closed-locations T M e.process here)) t.from;
              to = subst (λ n. e.to < n) (sym (closed-locations T M e.process here)) t.to;
              names = names-then (kind_of e.kind) (is_inbound (class_at T e.first)) (is_outbound (class_at T e.first)) (marked T M e e.value) (length (closed T M).signals) (process_at T e.process) (process_at (closed T M) e.process) e.first e.second (closed-variables T M e.process here) (closed-timers-least T M e.process here)
                  (λ a b. let c = closed-timers-chaos T M e.process here (invited e h a b) in omega arith)
                  (subst (λ n. Names n (proc_at T e) (kind_of e.kind) e.first e.second) (sym signals-length) t.names);
            });
        fit = rw q
            (unfit-then (kind_of e.kind) (is_inbound (class_at T e.first)) (is_outbound (class_at T e.first)) (marked T M e e.value) (get_or T.signals e.first absent) (get_or (closed T M).signals (first_under (fate T M e) (process_at T e.process).timers e.first) absent) e.process refl refl
            (λ a b. ap (λ x. get_or (closed T M).signals (first_under x (process_at T e.process).timers e.first) absent) a ∙ signal-kept T M e.first b)
            (λ a b. ap (λ x. get_or (closed T M).signals (first_under x (process_at T e.process).timers e.first) absent) a ∙ signal-kept T M e.first b)
            s.fit);
        form = rw q
            (form-then (kind_of e.kind) (is_inbound (class_at T e.first)) (is_outbound (class_at T e.first)) (marked T M e e.value) (freed T M e) (process_at T e.process).timers e.first e.second e.mode e.guard e.value s.form);
        expressions =
            subst (λ n. untrue_in n (closed T M).terms (closed_edge T M e) ≡ false) (sym (closed-variables T M e.process here))
            (subst (λ ts. untrue_in (process_at T e.process).variables ts (closed_edge T M e) ≡ false) terms-same
            (untrue-then (fate T M e) (freed T M e) (process_at T e.process).variables e.mode T.terms e.guard e.value s.expressions));
      }

  loop-timer : (p l : ℕ) (e : Edge) → p < length T.processes → Loop T M p l e → (n : ℕ) × ((n < (process_at (closed T M) p).timers) × ((e ≡ timeout p l n) ⊎ (e ≡ rearm p l n)))
  loop-timer p l e here (of_chaos c i) = ((process_at T p).timers, (omega (arith, closed-timers-chaos T M p here c), inr i))
  loop-timer p l e here (of_timeout n h m s i) = (n, (omega (arith, closed-timers-least T M p here), inl i))
  loop-timer p l e here (of_rearm n h m i) = (n, (omega (arith, closed-timers-least T M p here), inr i))

  loop-sound : (p l n : ℕ) → l < (process_at (closed T M) p).locations → n < (process_at (closed T M) p).timers → Sound (closed T M) (timeout p l n) × Sound (closed T M) (rearm p l n)
  loop-sound p l n a b = (
    record {
      there = is-there (length (closed T M).signals) (process_at (closed T M) p) (timeout p l n) Timeout refl (record { from = a; to = a; names = b });
      fit = refl;
      form = refl;
      expressions = refl;
    },
    record {
      there = is-there (length (closed T M).signals) (process_at (closed T M) p) (rearm p l n) Rearm refl (record { from = a; to = a; names = b });
      fit = refl;
      form = refl;
      expressions = refl;
    },
  )

  added-sound : (e : Edge) → In e (added T M) → Sound (closed T M) e
  added-sound e i =
      let a = in-added T M e i in
      let t = loop-timer a.process a.location e a.there a.loop in
      let s = loop-sound a.process a.location t.0 (subst (λ n. a.location < n) (sym (closed-locations T M a.process a.there)) a.within) t.1.0 in
      ⊎_elim (λ q. subst (Sound (closed T M)) (sym q) s.0) (λ q. subst (Sound (closed T M)) (sym q) s.1) t.1.1

  pub closed-sound : (e : Edge) → In e (closed T M).edges → Sound (closed T M) e
  closed-sound e i =
      ⊎_elim (λ o. subst (Sound (closed T M)) (sym o.1.1) (edge-stays-sound o.0 o.1.0)) (added-sound e) (in-closed T M e i)

  -- locations

  pub acts-closed : (e : Edge) → acts (closed_edge T M e) ≡ acts e
  unfolding closed_edge
  acts-closed e =
      ap acting (kind-under (fate T M e) e.kind)
      ∙ acting-then (kind_of e.kind) (is_inbound (class_at T e.first)) (is_outbound (class_at T e.first)) (marked T M e e.value)

  pub leaves-closed : (f g : Edge → Bool) (p l : ℕ) (e : Edge) → (e.process ≡ p → e.from ≡ l → f (closed_edge T M e) ≡ g e) → leaves p l f (closed_edge T M e) ≡ leaves p l g e
  unfolding closed_edge
  leaves-closed f g p l e h = by (eqb e.process p) refl (eqb e.from l) refl
    where
      by : (b : Bool) → eqb e.process p ≡ b → (d : Bool) → eqb e.from l ≡ d → ((b && d) && f (closed_edge T M e)) ≡ ((b && d) && g e)
      by true q true w = h (eqb-true e.process p q) (eqb-true e.from l w)
      by true q false w = refl
      by false q d w = refl

  pub acting-closed : (p l : ℕ) → some (closed T M) acts p l ≡ some T acts p l
  acting-closed p l =
      some-closed T M acts acts p l (λ e i. leaves-closed acts acts p l e (λ _ _. acts-closed e))
      (λ e i. and_right (eqb e.process p && eqb e.from l) (acts e) (added-waits T M e i))

  pub waiting-closed : (p l : ℕ) → waiting (closed T M) p l ≡ waiting T p l
  waiting-closed p l = ap not (acting-closed p l)

  waits-closed : (p l : ℕ) → waiting T p l ≡ false → some (closed T M) examination.waits p l ≡ some T examination.waits p l
  waits-closed p l w =
      some-closed T M examination.waits examination.waits p l (λ e i. leaves-closed examination.waits examination.waits p l e (λ _ _. ap not (acts-closed e))) (none-added T M examination.waits p l w)

  closed-apart : (p l : ℕ) → p < length T.processes → l < (process_at T p).locations → mixed (closed T M) p l ≡ false
  closed-apart p l a b = by (some T acts p l) refl
    where
      by : (x : Bool) → some T acts p l ≡ x → mixed (closed T M) p l ≡ false
      by true q =
          let h = and_cases (some T acts p l) (some T examination.waits p l) (good.apart p l a b) in
          and_right (some (closed T M) acts p l) (some (closed T M) examination.waits p l)
          (waits-closed p l (ap not q) ∙ ⊎_elim (λ z. absurd (both_ways (some T acts p l) z q)) (λ z. z) h)
      by false q = and_left (some (closed T M) acts p l) (some (closed T M) examination.waits p l) (acting-closed p l ∙ q)

  frees-closed : (e : Edge) → frees e ≡ true → frees (closed_edge T M e) ≡ true
  unfolding closed_edge
  frees-closed e h = by (freed T M e)
    where
      by : (b : Bool) → freely (mode_of (cond b 0 e.mode)) ≡ true
      by true = refl
      by false = h

  free-closed : (p l : ℕ) → some T frees p l ≡ true → some (closed T M) frees p l ≡ true
  unfolding closed_edge
  free-closed p l h =
      let a = in-any (leaves p l frees) T.edges h in
      let b = and_parts (eqb a.0.process p && eqb a.0.from l) (frees a.0) a.1.1 in
      any-in (leaves p l frees) (closed_edge T M a.0) (closed T M).edges (closed_in T M a.0 a.1.0)
      (and_from (eqb a.0.process p && eqb a.0.from l) (frees (closed_edge T M a.0)) b.0 (frees-closed a.0 b.1))

  closed-free : (p l : ℕ) → p < length T.processes → l < (process_at T p).locations → stuck (closed T M) p l ≡ false
  closed-free p l a b =
      ⊎_elim (λ z. and_left (some (closed T M) acts p l) (not (some (closed T M) frees p l)) (acting-closed p l ∙ z))
      (λ z. and_right (some (closed T M) acts p l) (not (some (closed T M) frees p l)) (ap not (free-closed p l (not-false (some T frees p l) z))))
      (and_cases (some T acts p l) (not (some T frees p l)) (good.free p l a b))

  pub closed-good : Passed (closed T M)
  closed-good = record {
    lists = closed-lists;
    process = λ p h. closed-process p (subst (λ n. p < n) (closed-length T M) h);
    signal = signal-good;
    edge = closed-sound;
    apart = λ p l a b. let q : p < length T.processes = subst (λ n. p < n) (closed-length T M) a in closed-apart p l q (subst (λ n. l < n) (closed-locations T M p q) b);
    free = λ p l a b. let q : p < length T.processes = subst (λ n. p < n) (closed-length T M) a in closed-free p l q (subst (λ n. l < n) (closed-locations T M p q) b);
  }

  pub closed-passes : examined (closed T M) ≡ None
  closed-passes = passes (closed T M) closed-good
