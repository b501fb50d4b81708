-- The lists that a layer means, place by place.
use Rattle.std.proofs.Common.{◌≡◌, ℕ, zero, suc, ◌+◌, ◌-◌, ◌<◌, ◌≤◌, Bool, true, false, cond, ◌&&◌, ltb, leb, List, [], ◌∷◌, ◌++◌, map, length, get_or, take, set, replicate, Some, None, Option, sym, refl, ap, ◌∙◌, subst, suc-le-suc, zero-add, arith}
use Rattle.std.proofs.lemmas.List.{length-map, length-append, length-take-le, get_or_past, take_at, take_more_set}
use Rattle.std.proofs.lemmas.Bool.{cond-true, and_from, lt-ltb, leb-true}
use Rattle.std.proofs.lemmas.Option.{slice_get-map}
use Rattle.std.specs.List.{slice_get}
use Rattle.std.specs.Option.{option_map}
use Rattle.closing.specs.Layers.{edge_in, process_in, loops_in, closed_in, at_work, by_plan}
use Rattle.closing.specs.declared.plan.Plan.{Plan}
use Rattle.rules.proofs.Lists.{length-numbered, get_or-numbered}
use Rattle.rules.specs.Closing.{closed_signal, with_chaos}
use Rattle.rules.specs.States.{padded}
use Rattle.survey.specs.Surveys.{chaotic_at}
use Rattle.table.specs.Lists.{Lists, Proc, meant}
use Rattle.table.specs.declared.record.Edge.{Edge}
use Rattle.table.specs.declared.record.Process.{Process}
use Rattle.table.specs.declared.record.Timer.TheVariants.{Off, On}

pub nth_left : {A : Type 0} (xs ys : List A) (k : ℕ) (x : A) → slice_get xs k ≡ Some x → slice_get (xs ++ ys) k ≡ Some x
nth_left [] ys k x h = let z : ◌≡◌ {A = ℕ} 0 1 = cc in absurd (omega arith)
nth_left (a ∷ xs) ys zero x h = h
nth_left (a ∷ xs) ys (suc k) x h = nth_left xs ys k x h

pub nth_right : {A : Type 0} (xs ys : List A) (k : ℕ) → slice_get xs k ≡ None → slice_get (xs ++ ys) k ≡ slice_get ys (k - length xs)
nth_right [] ys k h = ap (slice_get ys) (omega arith)
nth_right (a ∷ xs) ys zero h = let z : ◌≡◌ {A = ℕ} 0 1 = cc in absurd (omega arith)
nth_right (a ∷ xs) ys (suc k) h = nth_right xs ys k h ∙ ap (slice_get ys) (omega arith)

pub none-past : {A : Type 0} (xs : List A) (k : ℕ) → slice_get xs k ≡ None → length xs ≤ k
none-past [] k h = omega arith
none-past (a ∷ xs) zero h = let z : ◌≡◌ {A = ℕ} 0 1 = cc in absurd (omega arith)
none-past (a ∷ xs) (suc k) h = suc-le-suc (none-past xs k h)

-- what is the same with and without a plan
module _ (o : Option Plan) (T : Lists) where
  both : {A : Type 0} (f : Lists → A) → ((q : Plan) → f (closed_in q T) ≡ f T) → f (by_plan o T) ≡ f T
  unfolding by_plan
  both f h = by o
    where
      by : (o : Option Plan) → f (by_plan o T) ≡ f T
      by None = refl
      by (Some q) = h q

  pub processes_length : length (by_plan o T).processes ≡ length T.processes
  unfolding closed_in
  processes_length = both (λ S. length S.processes) (λ q. length-numbered (process_in q) 0 T.processes)

  pub signals_length : length (by_plan o T).signals ≡ length T.signals
  unfolding closed_in
  signals_length = both (λ S. length S.signals) (λ q. length-map T.signals closed_signal)

  pub terms_same : (by_plan o T).terms ≡ T.terms
  unfolding closed_in
  terms_same = both (λ S. S.terms) (λ q. refl)

  pub process_past : (p : ℕ) (d : Proc) → length T.processes ≤ p → get_or (by_plan o T).processes p d ≡ get_or T.processes p d
  process_past p d h =
      get_or_past (by_plan o T).processes p d (subst (λ n. n ≤ p) (sym processes_length) h) ∙ sym (get_or_past T.processes p d h)

pub no_plan : (T : Lists) → by_plan None T ≡ T
unfolding by_plan
no_plan T = refl

pub few_at_work : (o : Option Plan) (T : Lists) (q : Plan) → at_work o T ≡ Some q → length T.edges ≤ 2048
few_at_work None T q h = let z : ◌≡◌ {A = ℕ} 0 1 = cc in absurd (omega arith)
few_at_work (Some r) T q h = leb-true (length T.edges) 2048 (by (leb (length T.edges) 2048) h)
  where
    by : (b : Bool) → cond b (Some r) None ≡ Some q → b ≡ true
    by true h = refl
    by false h = let z : ◌≡◌ {A = ℕ} 0 1 = cc in absurd (omega arith)

module _ (q : Plan) (T : Lists) where
  pub edges_length : length (by_plan (Some q) T).edges ≡ length T.edges + length (loops_in q)
  unfolding by_plan closed_in
  edges_length = length-append (map (edge_in q T) T.edges) (loops_in q) ∙ ap (λ n. n + length (loops_in q)) (length-map T.edges (edge_in q T))

  pub process_at : (p : ℕ) (d : Proc) → p < length T.processes → get_or (by_plan (Some q) T).processes p d ≡ process_in q p (get_or T.processes p d)
  unfolding by_plan closed_in
  process_at p d h = get_or-numbered (process_in q) 0 T.processes p d d h ∙ ap (λ i. process_in q i (get_or T.processes p d)) (zero-add p)

  pub signal_at : (s : ℕ) → slice_get (by_plan (Some q) T).signals s ≡ option_map closed_signal (slice_get T.signals s)
  unfolding by_plan closed_in
  signal_at s = slice_get-map closed_signal T.signals s

  pub edge_at : (k : ℕ) (e : Edge) → slice_get T.edges k ≡ Some e → slice_get (by_plan (Some q) T).edges k ≡ Some (edge_in q T e)
  unfolding by_plan closed_in
  edge_at k e h = nth_left (map (edge_in q T) T.edges) (loops_in q) k (edge_in q T e) (slice_get-map (edge_in q T) T.edges k ∙ ap (option_map (edge_in q T)) h)

  pub edge_past : (k : ℕ) → slice_get T.edges k ≡ None → slice_get (by_plan (Some q) T).edges k ≡ slice_get (loops_in q) (k - length T.edges)
  unfolding by_plan closed_in
  edge_past k h =
      nth_right (map (edge_in q T) T.edges) (loops_in q) k (slice_get-map (edge_in q T) T.edges k ∙ ap (option_map (edge_in q T)) h)
      ∙ ap (λ n. slice_get (loops_in q) (k - n)) (length-map T.edges (edge_in q T))

-- a process whose chaos timer was put behind its own
pub chaos_added : (q : Plan) (p n : ℕ) (r : Process) → n ≡ r.timers → r.timers < 8 → r.timers < length r.settings → chaotic_at q.survey.chaotic p ≡ true → meant (record { locations = r.locations; first = r.first; variables = r.variables; timers = r.timers + 1; values = r.values; settings = set r.settings n (On 0) }) ≡ process_in q p (meant r)
unfolding padded
chaos_added q p n r e few l c =
    let ts = r.settings in
    let s : take (r.timers + 1) (set r.settings n (On 0)) ≡ take r.timers (take r.timers r.settings ++ replicate r.timers Off) ++ On 0 ∷ [] = ap (λ i. take (r.timers + 1) (set r.settings i (On 0))) e ∙ take_more_set r.settings r.timers (On 0) l ∙ ap (λ xs. xs ++ On 0 ∷ []) (sym (take_at (take r.timers r.settings) (replicate r.timers Off) r.timers (length-take-le r.timers r.settings (omega arith)))) in
    let a : meant (record { locations = r.locations; first = r.first; variables = r.variables; timers = r.timers + 1; values = r.values; settings = set r.settings n (On 0) }) ≡ with_chaos (meant r) = λ i. record { locations = r.locations; first = r.first; variables = r.variables; timers = r.timers + 1; values = take r.variables r.values; settings = s i } in
    a ∙ sym (cond-true (chaotic_at q.survey.chaotic p && ltb r.timers 8) (with_chaos (meant r)) (meant r) (and_from (chaotic_at q.survey.chaotic p) (ltb r.timers 8) c (lt-ltb r.timers 8 few)))

-- how a layer answers
pub ruleset answering = (no_plan, processes_length, signals_length, terms_same, edges_length, process_at, process_past, signal_at, edge_at, edge_past, few_at_work, none-past, slice_get-map)
