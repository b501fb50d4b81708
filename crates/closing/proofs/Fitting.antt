-- By its plan, a table that passes the examination is closed just as the rules say.
use Rattle.std.proofs.Common.{◌≡◌, ℕ, zero, suc, ◌+◌, ◌<◌, ◌≤◌, min, Bool, true, false, cond, not, ◌&&◌, ltb, leb, List, [], ◌∷◌, ◌++◌, map, length, get_or, is_some, is_ok, Some, None, Ok, Err, Option, Result, sym, refl, ap, ◌∙◌, subst, inl, inr, ⊎_elim, zero-add, arith}
use Rattle.std.proofs.lemmas.List.{get_or_default}
use Rattle.std.proofs.lemmas.Bool.{both_ways, and_cases, cond-true, cond-false, lt-ltb, le-leb, leb-false, ltb-false}
use Rattle.std.proofs.lemmas.Bool.Decides.{nat_tests}
use Rattle.std.specs.List.{range_with_len, flat_map, find}
use Rattle.std.specs.Option.{option_or, option_map}
use Rattle.std.specs.Bool.{then_some}
use Rattle.std.specs.Result.{result_map_both}
use Rattle.closing.specs.Faults.{measuring, test_refusal, testing}
use Rattle.closing.specs.Layers.{timers_in, freed_as_in, freed_in, edge_in, process_in, loops_in, closed_in, by_plan, layered}
use Rattle.closing.specs.Plans.{Planned, ninth_in, count_in, count_refused_in, room_refused, test_refused_in}
use Rattle.closing.specs.declared.fault.TestFault.{TestFault}
use Rattle.closing.specs.declared.plan.Plan.{Plan}
use Rattle.loops.specs.Rows.{timer_edges, chaos_edges, spot_timers, at_spot, shape, of_process, added_by}
use Rattle.marks.specs.Instances.{process_at}
use Rattle.marks.specs.Rules.{Marking, Least, marked}
use Rattle.marks.specs.Words.{bit}
use Rattle.marks.specs.declared.marks.Marks.{Marks}
use Rattle.refusal.specs.Refusals.{outcome, table_refusal}
use Rattle.refusal.specs.declared.fault.Refusal.{Refusal}
use Rattle.refusal.specs.declared.fault.TableFault.{TableFault}
use Rattle.rules.proofs.Examined.{Passed, passed, process-there}
use Rattle.rules.proofs.Fates.{there-is}
use Rattle.rules.proofs.Lists.{In, in-counting, first_from-all}
use Rattle.rules.proofs.Promised.{tests, closes, closed-measured}
use Rattle.rules.specs.Closing.{chaotic, with_chaos, closed_process, closed_signal, fate, freed, freed_as, changed, closed_edge, timer_loops, chaos_loops, added_at, added_to, added, closed, closed_by, closed_count, ninth, test_at, timers_refused, count_refused, test_refused}
use Rattle.rules.specs.Promise.{Marked, Measured, Tests, Closes, ClosedBy}
use Rattle.rules.specs.States.{numbered}
use Rattle.rules.specs.Steps.{answer}
use Rattle.survey.specs.Surveys.{spot_at, chaotic_at}
use Rattle.table.proofs.Passing.{none-some, none-parts, mapped-none, cond-none}
use Rattle.table.specs.Edges.{blank, proc_at}
use Rattle.table.specs.Examination.{first_from, acts, some, examined}
use Rattle.table.specs.Lists.{Lists}
use Rattle.table.specs.Records.{kind_of, mode_of}
use Rattle.table.specs.declared.record.Edge.{Edge}
use Rattle.table.specs.declared.record.Mode.{Mode}

-- lists that agree element by element

joined_same : {A B : Type 0} (f g : A → List B) (xs : List A) → ((x : A) → In x xs → f x ≡ g x) → flat_map f xs ≡ flat_map g xs
joined_same f g [] h = refl
joined_same f g (x ∷ xs) h =
    ap (λ ys. ys ++ flat_map f xs) (h x (inl refl)) ∙ ap (λ ys. g x ++ ys) (joined_same f g xs (λ y i. h y (inr i)))

map_same : {A B : Type 0} (f g : A → B) (xs : List A) → ((x : A) → In x xs → f x ≡ g x) → map f xs ≡ map g xs
map_same f g [] h = refl
map_same f g (x ∷ xs) h = ap (λ y. y ∷ map f xs) (h x (inl refl)) ∙ ap (λ ys. g x ∷ ys) (map_same f g xs (λ y i. h y (inr i)))

numbered-same : {A B : Type 0} (f g : ℕ → A → B) (i : ℕ) (xs : List A) → ((k : ℕ) (d : A) → k < length xs → f (i + k) (get_or xs k d) ≡ g (i + k) (get_or xs k d)) → numbered f i xs ≡ numbered g i xs
unfolding numbered
numbered-same f g i [] h = refl
numbered-same f g i (x ∷ xs) h =
    let a : f i x ≡ g i x = subst (λ n. f n x ≡ g n x) (plus-zero i) (h 0 x (omega arith)) in
    ap (λ y. y ∷ numbered f (i + 1) xs) a
    ∙ ap (λ ys. g i x ∷ ys) (numbered-same f g (i + 1) xs (λ k d l. subst (λ n. f n (get_or xs k d) ≡ g n (get_or xs k d)) (one_more i k) (h (suc k) d (omega arith))))
  where
    plus-zero : (n : ℕ) → n + 0 ≡ n
    plus-zero n = omega arith

    one_more : (n k : ℕ) → n + suc k ≡ n + 1 + k
    one_more n k = omega arith

first_from-same : (f g : ℕ → Bool) (i n : ℕ) → ((k : ℕ) → k < i + n → f k ≡ g k) → first_from f i n ≡ first_from g i n
unfolding first_from
first_from-same f g i zero h = refl
first_from-same f g i (suc n) h =
    ap (λ b. cond b (Some i) (first_from f (i + 1) n)) (h i (omega arith)) ∙ ap (λ o. cond (g i) (Some i) o) (first_from-same f g (i + 1) n (λ k l. h k (omega arith)))

module _ (T : Lists) (M : Marking) (q : Plan) (passes : examined T ≡ None) (plan : Planned T M q) where
  good : Passed T
  good = passed T passes

  few : length T.processes ≤ 8
  few = let b = good.lists in grind (arith, nat_tests)

  few-locations : (p : ℕ) → p < length T.processes → (process_at T p).locations ≤ 16
  few-locations p h = let b = good.process p h in grind (arith, nat_tests)

  few-timers : (p : ℕ) → p < length T.processes → (process_at T p).timers ≤ 8
  few-timers p h = let b = good.process p h in grind (arith, nat_tests)

  chaos-same : (p : ℕ) → p < length T.processes → chaotic_at q.survey.chaotic p ≡ chaotic T p
  unfolding chaotic
  chaos-same p h = plan.survey.chaos p (omega (arith, few))

  -- what is added

  timers-same : (p l : ℕ) → p < length T.processes → l < (process_at T p).locations → spot_timers M (spot_at q.survey.spots p l) p l (process_at T p).timers ≡ flat_map (timer_loops T M p l) (range_with_len 0 (process_at T p).timers)
  unfolding spot_timers timer_loops
  timers-same p l hp hl =
      joined_same (λ k. timer_edges (M.timer p l k) (bit (spot_at q.survey.spots p l).handled k) p l k) (timer_loops T M p l) (range_with_len 0 (process_at T p).timers)
      (λ k i.
      let j = in-counting k 0 (process_at T p).timers i in
      ap (λ b. timer_edges (M.timer p l k) b p l k) (plan.survey.handled p l k (omega (arith, few)) (omega (arith, few-locations p hp)) (omega (arith, few-timers p hp, j.1))))

  spot-same : (p l : ℕ) → p < length T.processes → l < (process_at T p).locations → at_spot M (spot_at q.survey.spots p l) (chaotic_at q.survey.chaotic p) p l (process_at T p).timers ≡ added_at T M p l
  unfolding at_spot added_at
  spot-same p l hp hl =
      ap (λ b. cond b [] (chaos_edges (chaotic_at q.survey.chaotic p) p l (process_at T p).timers ++ spot_timers M (spot_at q.survey.spots p l) p l (process_at T p).timers)) (plan.survey.acting p l (omega (arith, few)) (omega (arith, few-locations p hp)))
      ∙ ap (λ b. cond (some T acts p l) [] (chaos_edges b p l (process_at T p).timers ++ spot_timers M (spot_at q.survey.spots p l) p l (process_at T p).timers)) (chaos-same p hp)
      ∙ ap (λ xs. cond (some T acts p l) [] (chaos_loops T p l ++ xs)) (timers-same p l hp hl)
      ∙ turned (some T acts p l) (chaos_loops T p l ++ flat_map (timer_loops T M p l) (range_with_len 0 (process_at T p).timers))
    where
      turned : (b : Bool) (xs : List Edge) → cond b [] xs ≡ cond (not b) xs []
      turned true xs = refl
      turned false xs = refl

  process-same : (p : ℕ) → p < length T.processes → of_process M q.survey.spots q.survey.chaotic (shape (process_at T p)) p (shape (process_at T p)).locations ≡ added_to T M p
  unfolding of_process
  process-same p hp =
      ap (λ n. flat_map (λ l. at_spot M (spot_at q.survey.spots p l) (chaotic_at q.survey.chaotic p) p l (min (process_at T p).timers 8)) (range_with_len 0 n)) locations
      ∙ ap (λ n. flat_map (λ l. at_spot M (spot_at q.survey.spots p l) (chaotic_at q.survey.chaotic p) p l n) (range_with_len 0 (process_at T p).locations)) timers
      ∙ joined_same (λ l. at_spot M (spot_at q.survey.spots p l) (chaotic_at q.survey.chaotic p) p l (process_at T p).timers) (added_at T M p) (range_with_len 0 (process_at T p).locations)
      (λ l i. spot-same p l hp (omega (arith, in-counting l 0 (process_at T p).locations i)))
    where
      locations : min (process_at T p).locations 16 ≡ (process_at T p).locations
      locations = omega (arith, few-locations p hp)

      timers : min (process_at T p).timers 8 ≡ (process_at T p).timers
      timers = omega (arith, few-timers p hp)

  pub added-same : added_by M q.survey.spots q.survey.chaotic T.processes (min (length T.processes) 8) ≡ added T M
  unfolding added_by added
  added-same =
      ap (λ n. flat_map (λ p. of_process M q.survey.spots q.survey.chaotic (shape (process_at T p)) p (shape (process_at T p)).locations) (range_with_len 0 n)) all
      ∙ joined_same (λ p. of_process M q.survey.spots q.survey.chaotic (shape (process_at T p)) p (shape (process_at T p)).locations) (added_to T M) (range_with_len 0 (length T.processes))
      (λ p i. process-same p (omega (arith, in-counting p 0 (length T.processes) i)))
    where
      all : min (length T.processes) 8 ≡ length T.processes
      all = omega (arith, few)

  loops_same : loops_in q ≡ added T M
  loops_same = plan.loops ∙ added-same

  pub count_same : count_in q T ≡ closed_count T M
  count_same = ap (λ es. length T.edges + length es) loops_same

  -- the refusals by the plan

  ninth-same : (p : ℕ) → p < length T.processes → ninth_in q p ≡ ninth T p
  ninth-same p h = ap (λ b. b && leb 8 (timers_in q p)) (chaos-same p h) ∙ ap (λ n. chaotic T p && leb 8 n) (plan.timers p (omega (arith, few)))

  pub room-same : room_refused q T ≡ option_or (timers_refused T) (count_refused T M)
  unfolding room_refused
  room-same =
      ap (λ o. option_or (option_map (test_at 13) o) (count_refused_in q T)) (first_from-same (ninth_in q) (ninth T) 0 (length T.processes) (λ p l. ninth-same p (omega arith)))
      ∙ ap (λ n. option_or (timers_refused T) (cond (ltb 2048 n) (Some (test_at 14 n)) None)) count_same

  pub test-same : test_refused T M ≡ room_refused q T
  unfolding test_refused
  test-same = ap (λ o. option_or o (option_or (timers_refused T) (count_refused T M))) passes ∙ sym room-same

  -- the closed lists by the plan

  freed-same : (e : Edge) → In e T.edges → freed_in q T e ≡ freed T M e
  unfolding freed
  freed-same e i = by (mode_of e.mode)
    where
      by : (d : Mode) → freed_as_in d q T e ≡ freed_as d T M e
      by Mode.Unguarded = refl
      by Mode.Expression = ap (λ N. marked T N e e.guard) plan.marks
      by Mode.Else =
          let s = good.edge e i in
          let h = process-there T e s in
          let t = there-is (length T.signals) (proc_at T e) e (kind_of e.kind) refl s.there in
          plan.survey.guards e.process e.from (omega (arith, few)) (omega (arith, few-locations e.process h, t.from))
      by Mode.Unknown = refl

  edge_same : (e : Edge) → In e T.edges → edge_in q T e ≡ closed_edge T M e
  unfolding edge_in closed_edge
  edge_same e i =
      let h = process-there T e (good.edge e i) in
      ap (λ N. changed (fate T N e) (freed_in q T e) (timers_in q e.process) e) plan.marks
      ∙ ap (λ b. changed (fate T M e) b (timers_in q e.process) e) (freed-same e i)
      ∙ ap (λ n. changed (fate T M e) (freed T M e) n e) (plan.timers e.process (omega (arith, few)))

  process-closed-same : timers_refused T ≡ None → (p : ℕ) → p < length T.processes → process_in q p (process_at T p) ≡ closed_process T p (process_at T p)
  process-closed-same none p h =
      ap (λ b. cond (b && ltb (process_at T p).timers 8) (with_chaos (process_at T p)) (process_at T p)) (chaos-same p h)
      ∙ by (chaotic T p) refl
    where
      by : (b : Bool) → chaotic T p ≡ b → cond (b && ltb (process_at T p).timers 8) (with_chaos (process_at T p)) (process_at T p) ≡ cond b (with_chaos (process_at T p)) (process_at T p)
      by true c =
          let a = first_from-all (ninth T) 0 (length T.processes) (mapped-none (test_at 13) (first_from (ninth T) 0 (length T.processes)) none) p h in
          let n : ninth T p ≡ false = subst (λ i. ninth T i ≡ false) (zero-add p) a in
          let l = ⊎_elim (λ z. absurd (both_ways (chaotic T p) z c)) (λ z. leb-false 8 (process_at T p).timers z) (and_cases (chaotic T p) (leb 8 (process_at T p).timers) n) in
          ap (λ x. cond x (with_chaos (process_at T p)) (process_at T p)) (lt-ltb (process_at T p).timers 8 l)
      by false c = refl

  pub closed_same : timers_refused T ≡ None → closed_in q T ≡ closed T M
  unfolding closed_in closed
  closed_same none =
      let ps : numbered (process_in q) 0 T.processes ≡ numbered (closed_process T) 0 T.processes = numbered-same (process_in q) (closed_process T) 0 T.processes (λ p d l. subst (λ r. process_in q (0 + p) r ≡ closed_process T (0 + p) r) (get_or_default T.processes p blank d l) (subst (λ i. process_in q i (process_at T p) ≡ closed_process T i (process_at T p)) (sym (zero-add p)) (process-closed-same none p l))) in
      let es : map (edge_in q T) T.edges ++ loops_in q ≡ map (closed_edge T M) T.edges ++ added T M = ap (λ xs. xs ++ loops_in q) (map_same (edge_in q T) (closed_edge T M) T.edges edge_same) ∙ ap (λ xs. map (closed_edge T M) T.edges ++ xs) loops_same in
      λ i. record { processes = ps i; signals = map closed_signal T.signals; edges = es i; terms = T.terms }

-- what a layer means, by whether it got the plan

meant_closed : (T : Lists) (M : Marking) (q : Plan) → examined T ≡ None → Planned T M q → room_refused q T ≡ None → layered (Some q) T ≡ closed_by T M
unfolding by_plan room_refused
meant_closed T M q passes plan room =
    let t : test_refused T M ≡ None = test-same T M q passes plan ∙ room-is in
    let parts = none-parts (timers_refused T) (count_refused T M) (sym (room-same T M q passes plan) ∙ room-is) in
    let c = ltb-false 2048 (closed_count T M) (cond-none (ltb 2048 (closed_count T M)) (test_at 14 (closed_count T M)) parts.1) in
    let e : leb (length T.edges) 2048 ≡ true = le-leb (length T.edges) 2048 (omega arith) in
    ap (λ b. by_plan (cond b (Some q) None) T) e ∙ closed_same T M q passes plan parts.0 ∙ sym (cond-false (is_some (test_refused T M)) T (closed T M) (ap is_some t))
  where
    room-is : room_refused q T ≡ None
    room-is = room

meant_open : (T : Lists) (M : Marking) → is_some (test_refused T M) ≡ true → layered None T ≡ closed_by T M
unfolding by_plan
meant_open T M t = sym (cond-true (is_some (test_refused T M)) T (closed T M) t)

pub meant_by : (T : Lists) (M : Marking) (q : Plan) (b : Bool) → Planned T M q → b ≡ not (is_some (test_refused_in q T)) → layered (then_some b q) T ≡ closed_by T M
unfolding test_refused_in test_refused
meant_by T M q b plan is = by (examined T) refl (room_refused q T) refl
  where
    given : (x : Bool) → b ≡ x → layered (then_some x q) T ≡ closed_by T M → layered (then_some b q) T ≡ closed_by T M
    given x e h = subst (λ y. layered (then_some y q) T ≡ closed_by T M) (sym e) h

    by : (o : Option Refusal) → examined T ≡ o → (w : Option Refusal) → room_refused q T ≡ w → layered (then_some b q) T ≡ closed_by T M
    by (Some x) e w d =
        given false (is ∙ ap (λ z. not (is_some (option_or z (room_refused q T)))) e) (meant_open T M (ap (λ z. is_some (option_or z (option_or (timers_refused T) (count_refused T M)))) e))
    by None e None d =
        given true (is ∙ ap (λ z. not (is_some (option_or z (room_refused q T)))) e ∙ ap (λ z. not (is_some z)) d) (meant_closed T M q e plan d)
    by None e (Some x) d =
        given false (is ∙ ap (λ z. not (is_some (option_or z (room_refused q T)))) e ∙ ap (λ z. not (is_some z)) d) (meant_open T M (ap is_some (test-same T M q e plan ∙ d)))

-- a table of at most 2,048 edges
pub few-edges : (T : Lists) → examined T ≡ None → length T.edges ≤ 2048
few-edges T e = let b = (passed T e).lists in grind (arith, nat_tests)

-- marks of nothing, for a table that is refused before it has any
none : Marking
none = record { variable = λ p l v. false; timer = λ p l n. false }

refused-least : (T : Lists) (x : Refusal) → examined T ≡ Some x → Marked T none
refused-least T x e h = none-some x (sym h ∙ e)

pub measured-refused : (T : Lists) (x : Refusal) (o : Result (Marking × ℕ) Refusal) → examined T ≡ Some x → o ≡ Err x → Measured T o
unfolding test_refused
measured-refused T x o e h = record {
  marks = none;
  least = refused-least T x e;
  says = h ∙ sym (ap (λ r. answer (option_or r (option_or (timers_refused T) (count_refused T none))) (none, closed_count T none)) e);
}

pub closes-refused : (T C : Lists) (x : Refusal) → examined T ≡ Some x → C ≡ T → Closes T C
unfolding test_refused
closes-refused T C x e h =
    closes T none (refused-least T x e) C (h ∙ sym (ap (λ r. cond (is_some (option_or r (option_or (timers_refused T) (count_refused T none)))) T (closed T none)) e))

pub measured-planned : (T : Lists) (M : Marking) (q : Plan) (o : Result (Marking × ℕ) Refusal) → examined T ≡ None → Least T M → Planned T M q → o ≡ answer (room_refused q T) (M, count_in q T) → Measured T o
measured-planned T M q o e least plan h = record {
  marks = M;
  least = λ _. least;
  says = h ∙ ap (λ r. answer r (M, count_in q T)) (sym (test-same T M q e plan)) ∙ ap (λ n. answer (test_refused T M) (M, n)) (count_same T M q e plan);
}

-- where there is room by the plan, the table with the plan is the closed one
pub closed-planned : (T : Lists) (M : Marking) (q : Plan) (r : ℕ) → examined T ≡ None → Least T M → Planned T M q → Ok r ≡ answer (room_refused q T) (count_in q T) → ClosedBy T (layered (Some q) T)
closed-planned T M q r e least plan h =
    let n = count_in q T in
    let room = passed (room_refused q T) n h in
    closed-measured T (layered (Some q) T) M n (measured-planned T M q (Ok (M, n)) e least plan (sym (ap (λ f. answer f (M, n)) room))) (meant_closed T M q e plan room)
  where
    passed : (f : Option Refusal) (n : ℕ) → Ok r ≡ answer f n → f ≡ None
    passed None n h = refl
    passed (Some x) n h = cc

-- the test is the second half of measuring
pub tests_measured : (T : Lists) (r : Result (Marks × ℕ) TestFault) (o : Result ℕ TestFault) → Measured T (measuring r) → testing o ≡ result_map_both (λ x. x.1) test_refusal r → Tests T (testing o)
tests_measured T r o m h =
    tests T m.marks m.least (testing o) (h ∙ counted r ∙ ap (result_map_both (λ x. x.1) (λ f. f)) m.says ∙ answered (test_refused T m.marks))
  where
    counted : (r : Result (Marks × ℕ) TestFault) → result_map_both (λ x. x.1) test_refusal r ≡ result_map_both (λ x. x.1) (λ f. f) (measuring r)
    counted (Ok x) = refl
    counted (Err f) = refl

    answered : (f : Option Refusal) → result_map_both (λ (x : Marking × ℕ). x.1) (λ (r : Refusal). r) (answer f (m.marks, closed_count T m.marks)) ≡ answer f (closed_count T m.marks)
    answered None = refl
    answered (Some x) = refl

-- whether the test passes, by its answer
pub passed-room : (q : Plan) (T : Lists) (r : Result ℕ TestFault) (b : Bool) → examined T ≡ None → testing r ≡ answer (room_refused q T) (count_in q T) → b ≡ is_ok r → b ≡ not (is_some (test_refused_in q T))
unfolding test_refused_in
passed-room q T r b e h k = k ∙ by r (room_refused q T) h ∙ sym (ap (λ o. not (is_some (option_or o (room_refused q T)))) e)
  where
    by : (r : Result ℕ TestFault) (o : Option Refusal) → testing r ≡ answer o (count_in q T) → is_ok r ≡ not (is_some o)
    by (Ok n) None h = refl
    by (Ok n) (Some x) h = let z : ◌≡◌ {A = ℕ} 0 1 = cc in absurd (omega arith)
    by (Err f) None h = let z : ◌≡◌ {A = ℕ} 0 1 = cc in absurd (omega arith)
    by (Err f) (Some x) h = refl

-- what is_ok says of the examination
pub examined_ok : (T : Lists) (r : Result (Unit {0}) TableFault) → outcome table_refusal r ≡ examined T → is_ok r ≡ true → examined T ≡ None
examined_ok T (Ok x) h k = sym h
examined_ok T (Err f) h k = absurd (both_ways false refl k)

pub examined_err : (q : Plan) (T : Lists) (r : Result (Unit {0}) TableFault) → outcome table_refusal r ≡ examined T → is_ok r ≡ false → false ≡ not (is_some (test_refused_in q T))
unfolding test_refused_in
examined_err q T (Ok x) h k = absurd (both_ways true k refl)
examined_err q T (Err f) h k = ap (λ o. not (is_some (option_or o (room_refused q T)))) h

-- a search over a range
pub first_found : (f : ℕ → Bool) (i n : ℕ) → find f (range_with_len i n) ≡ first_from f i n
unfolding first_from
first_found f i zero = refl
first_found f i (suc n) = ap (λ o. cond (f i) (Some i) o) (first_found f (i + 1) n)

-- what the test and closing need
pub ruleset deciding = (few-edges, examined_ok, meant_by, closes, measured-planned)
