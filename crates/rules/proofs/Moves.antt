-- A move along an edge and along what the edge becomes: where the one is enabled so is the other, and both lead to worlds alike.
use Rattle.std.proofs.Common.{◌≡◌, ℕ, ◌<◌, Bool, true, false, cond, not, ◌&&◌, eqb, ◌⊎◌, List, [], ◌∷◌, length, get_or, drop, set, ℤ, pos, None, unwrap_or, sym, refl, ap, ◌∙◌, subst, inl, inr, ⊎_elim, arith}
use Rattle.std.proofs.lemmas.List.{get_or-set_same, get_or-set_other, length-set}
use Rattle.std.proofs.lemmas.Bool.{cases_Bool, cases_eq, both_ways, and_parts, and_from, and_left, and_right, eqb-true, eqb-false, eq-eqb, ne_eqb}
use Rattle.std.specs.List.{filter}
use Rattle.evaluation.specs.Values.{value_of}
use Rattle.marks.specs.Instances.{process_at}
use Rattle.marks.specs.Rules.{Marking, EdgeObeys, marked, signal_marked, is_output, class_at, arrives, arrives_as, stores, stores_as, turns, turns_as}
use Rattle.rules.proofs.Examined.{good, room-for-chaos}
use Rattle.rules.proofs.Fates.{Sound, Names, There, there-is, kind_then, kind-under, input-inside}
use Rattle.rules.proofs.Guards.{few-variables, few-timers, value_same, allowed-closed}
use Rattle.rules.proofs.Lists.{In, any-in}
use Rattle.rules.proofs.Twins.{Standin, TimerTwin, Messages, Twin, kept_in, kept_out}
use Rattle.rules.specs.Closing.{Fate, stays, emptied, fate_as, fate, chaotic, freed, changed, value_under, closed_edge, closed, test_refused, invites}
use Rattle.rules.specs.Matching.{inside}
use Rattle.rules.specs.States.{Running, is_inbound, is_internal, is_outbound, is_input, due}
use Rattle.rules.specs.Steps.{scope, value_in, head_is, head_value, kind_ready, ready, allowed, moved, stored, ticks_of}
use Rattle.rules.specs.declared.step.Message.{Message}
use Rattle.table.specs.Edges.{proc_at, unfit_for, absent}
use Rattle.table.specs.Lists.{Lists}
use Rattle.table.specs.Records.{kind_of}
use Rattle.table.specs.declared.record.Class.{Class}
use Rattle.table.specs.declared.record.Class.TheVariants.{Internal, Inbound, Outbound, Absent}
use Rattle.table.specs.declared.record.Edge.{Edge}
use Rattle.table.specs.declared.record.Kind.{Kind}
use Rattle.table.specs.declared.record.Kind.TheVariants.{Input, Output, Assignment, Set, Reset, Timeout, Rearm, Skip, Unknown}
use Rattle.table.specs.declared.record.Timer.{Timer}
use Rattle.table.specs.declared.record.Timer.TheVariants.{Off, On}

-- classes
outbound-not-inside : (c : Class) → is_outbound c ≡ true → is_internal c ≡ false
outbound-not-inside Internal h = absurd (both_ways false refl h)
outbound-not-inside Inbound h = refl
outbound-not-inside Outbound h = refl
outbound-not-inside Absent h = refl
outbound-not-inside Class.Unknown h = refl

pub inbound-not-inside : (c : Class) → is_inbound c ≡ true → is_internal c ≡ false
inbound-not-inside Internal h = absurd (both_ways false refl h)
inbound-not-inside Inbound h = refl
inbound-not-inside Outbound h = refl
inbound-not-inside Absent h = refl
inbound-not-inside Class.Unknown h = refl

inbound-arrives : (c : Class) (m : Bool) → is_inbound c ≡ true → arrives_as c m ≡ true
inbound-arrives Internal m h = absurd (both_ways false refl h)
inbound-arrives Inbound m h = refl
inbound-arrives Outbound m h = absurd (both_ways false refl h)
inbound-arrives Absent m h = absurd (both_ways false refl h)
inbound-arrives Class.Unknown m h = absurd (both_ways false refl h)

inside-arrives : (c : Class) (m : Bool) → is_internal c ≡ true → arrives_as c m ≡ m
inside-arrives Internal m h = refl
inside-arrives Inbound m h = absurd (both_ways false refl h)
inside-arrives Outbound m h = absurd (both_ways false refl h)
inside-arrives Absent m h = absurd (both_ways false refl h)
inside-arrives Class.Unknown m h = absurd (both_ways false refl h)

-- timers
pub standin-due : (t : Timer) → Standin 0 t → due t ≡ true
standin-due t s = ap due s.1.1 ∙ eq-eqb s.0 0 (omega (arith, s.1.0))

pub twin-due : (m : Bool) (a b : Timer) → TimerTwin 0 m a b → due a ≡ true → due b ≡ true
twin-due m a b (inl e) h = ap due e ∙ h
twin-due m a b (inr x) h = standin-due b x.1

module _ (T : Lists) (M : Marking) where
  -- the head of a queue
  pub take_inner : (q s : List Message) (n : ℕ) → head_is n q ≡ true → is_internal (class_at T n) ≡ true → Messages T M (filter (inside T) q) s → (head_is n s ≡ true) × (Messages T M (filter (inside T) (drop 1 q)) (drop 1 s) × (signal_marked T M n ≡ false → head_value s ≡ head_value q))
  take_inner [] s n h c m = absurd (both_ways false refl h)
  take_inner (x ∷ q) s n h c m =
      let e = eqb-true x.signal n h in
      let k : inside T x ≡ true = ap (λ y. is_internal (class_at T y)) e ∙ c in
      by s e (subst (λ l. Messages T M l s) (kept_in T M x q k) m)
    where
      by : (s : List Message) → x.signal ≡ n → Messages T M (x ∷ filter (inside T) q) s → (head_is n s ≡ true) × (Messages T M (filter (inside T) q) (drop 1 s) × (signal_marked T M n ≡ false → head_value s ≡ x.value))
      by [] e m = absurd m
      by (y ∷ s) e m =
          (eq-eqb y.signal n (m.0.signal ∙ e), (m.1, λ u. m.0.value (ap (signal_marked T M) e ∙ u)))

  pub take-outer : (q s : List Message) (n : ℕ) → head_is n q ≡ true → is_internal (class_at T n) ≡ false → Messages T M (filter (inside T) q) s → Messages T M (filter (inside T) (drop 1 q)) s
  take-outer [] s n h c m = absurd (both_ways false refl h)
  take-outer (x ∷ q) s n h c m =
      let e = eqb-true x.signal n h in
      subst (λ l. Messages T M l s) (kept_out T M x q (ap (λ y. is_internal (class_at T y)) e ∙ c)) m

module _ (T : Lists) (M : Marking) (tested : test_refused T M ≡ None) where
  module _ (p : ℕ) (r s : Running) (t : Twin T M 0 p r s) (here : p < length T.processes) (e : Edge) (listed : In e T.edges) (mine : e.process ≡ p) (starts : e.from ≡ r.location) where
    sound : Sound T e
    sound = (good T M tested).edge e listed

    pub there : There (length T.signals) (process_at T p) (kind_of e.kind) e
    there =
        subst (λ q. There (length T.signals) (process_at T q) (kind_of e.kind) e) mine (there-is (length T.signals) (proc_at T e) e (kind_of e.kind) refl sound.there)

    named : (k : Kind) → kind_of e.kind ≡ k → Names (length T.signals) (process_at T p) k e.first e.second
    named k q = subst (λ x. Names (length T.signals) (process_at T p) x e.first e.second) q there.names

    chaos-there : kind_of e.kind ≡ Input → is_inbound (class_at T e.first) ≡ true → chaotic T p ≡ true
    unfolding chaotic
    chaos-there k i =
        any-in (λ g. eqb g.process p && invites T g) e T.edges listed
        (and_from (eqb e.process p) (invites T e) (eq-eqb e.process p mine) (and_from (is_input (kind_of e.kind)) (is_inbound (class_at T e.first)) (ap is_input k) i))

    -- what an edge needs of its process, the closed one too
    ready-then : (k : Kind) → kind_of e.kind ≡ k → (i o m b : Bool) → is_inbound (class_at T e.first) ≡ i → kind_ready k r e ≡ true → kind_ready (kind_then k i o m) s (changed (fate_as k i o m) b (process_at T p).timers e) ≡ true
    ready-then Input q true o m b w h = standin-due (get_or s.timers (process_at T p).timers Off) (t.chaos (chaos-there q w))
    ready-then Input q false o m b w h =
        (take_inner T M r.queue s.queue e.first h (input-inside (get_or T.signals e.first absent) e.process (subst (λ k. unfit_for (get_or T.signals e.first absent) e.process k ≡ false) q sound.fit) w) t.queue).0
    ready-then Output q i true m b w h = refl
    ready-then Output q i false true b w h = refl
    ready-then Output q i false false b w h = refl
    ready-then Assignment q i o true b w h = refl
    ready-then Assignment q i o false b w h = refl
    ready-then Set q i o true b w h = refl
    ready-then Set q i o false b w h = refl
    ready-then Reset q i o m b w h = refl
    ready-then Timeout q i o m b w h =
        twin-due (M.timer p r.location e.first) (get_or r.timers e.first Off) (get_or s.timers e.first Off) (t.timers e.first (named Timeout q)) h
    ready-then Rearm q i o m b w h =
        twin-due (M.timer p r.location e.first) (get_or r.timers e.first Off) (get_or s.timers e.first Off) (t.timers e.first (named Rearm q)) h
    ready-then Skip q i o m b w h = refl
    ready-then Unknown q i o m b w h = absurd (both_ways false refl h)

    pub ready-closed : ready T r e ≡ true → ready (closed T M) s (closed_edge T M e) ≡ true
    unfolding closed_edge
    ready-closed h =
        let a = and_parts (eqb r.location e.from) (allowed T (scope T e.process r) e && kind_ready (kind_of e.kind) r e) h in
        let b = and_parts (allowed T (scope T e.process r) e) (kind_ready (kind_of e.kind) r e) a.1 in
        let x = allowed-closed T M tested p r s t here e listed mine starts (subst (λ q. allowed T (scope T q r) e ≡ true) mine b.0) in
        let y = ready-then (kind_of e.kind) refl (is_inbound (class_at T e.first)) (is_outbound (class_at T e.first)) (marked T M e e.value) (freed T M e) refl b.1 in
        let z = subst (λ q. kind_ready (kind_then (kind_of e.kind) (is_inbound (class_at T e.first)) (is_outbound (class_at T e.first)) (marked T M e e.value)) s (changed (fate T M e) (freed T M e) (process_at T q).timers e) ≡ true) (sym mine) y in
        and_from (eqb s.location e.from) (allowed (closed T M) (scope (closed T M) e.process s) (closed_edge T M e) && kind_ready (kind_of (closed_edge T M e).kind) s (closed_edge T M e)) (eq-eqb s.location e.from (t.location ∙ sym starts))
        (and_from (allowed (closed T M) (scope (closed T M) e.process s) (closed_edge T M e)) (kind_ready (kind_of (closed_edge T M e).kind) s (closed_edge T M e))
        (subst (λ q. allowed (closed T M) (scope (closed T M) q s) (closed_edge T M e) ≡ true) (sym mine) x)
        (subst (λ k. kind_ready k s (closed_edge T M e) ≡ true) (sym (kind-under (fate T M e) e.kind)) z))

    module _ (o : EdgeObeys T M e) where
      variable-passes : (n : ℕ) → n < (process_at T p).variables → stores e n ≡ false → M.variable p e.to n ≡ false → get_or s.variables n (pos 0) ≡ get_or r.variables n (pos 0)
      variable-passes n l h u =
          t.variables n l
          (⊎_elim
          (λ m.
          let a = o.variables n h (subst (λ q. M.variable q e.from n ≡ true) (sym mine) (subst (λ q. M.variable p q n ≡ true) (sym starts) m)) in
          absurd (both_ways (M.variable p e.to n) u (subst (λ q. M.variable q e.to n ≡ true) mine a)))
          (λ m. m) (cases_Bool (M.variable p r.location n)))

      timer-passes : (n : ℕ) → n < (process_at T p).timers → turns e n ≡ false → TimerTwin 0 (M.timer p e.to n) (get_or r.timers n Off) (get_or s.timers n Off)
      timer-passes n l h =
          ⊎_elim inl
          (λ x.
          let a = o.timers n h (subst (λ q. M.timer q e.from n ≡ true) (sym mine) (subst (λ q. M.timer p q n ≡ true) (sym starts) x.0)) in
          inr (subst (λ q. M.timer q e.to n ≡ true) mine a, x.1))
          (t.timers n l)

      -- how the variables and timers of both sides may stand after the move
      Variables : List ℤ → List ℤ → Type 0
      Variables a b = (n : ℕ) → n < (process_at T p).variables → M.variable p e.to n ≡ false → get_or b n (pos 0) ≡ get_or a n (pos 0)

      Timers : List Timer → List Timer → Type 0
      Timers a b = ((n : ℕ) → n < (process_at T p).timers → TimerTwin 0 (M.timer p e.to n) (get_or a n Off) (get_or b n Off)) × (chaotic T p ≡ true → Standin 0 (get_or b (process_at T p).timers Off))

      build : (rv sv : List ℤ) (rt st : List Timer) (rq sq : List Message) → length rv ≡ 8 → length sv ≡ 8 → length rt ≡ 8 → length st ≡ 8 → Messages T M (filter (inside T) rq) sq → Variables rv sv → Timers rt st → Twin T M 0 p (record { location = e.to; variables = rv; timers = rt; queue = rq }) (record { location = e.to; variables = sv; timers = st; queue = sq })
      unfolding Variables Timers
      build rv sv rt st rq sq a b c d m x y = record {
        location = refl;
        within = there.to;
        queue = m;
        variables = x;
        timers = y.0;
        chaos = y.1;
        opened = record { variables = a; timers = c };
        closed = record { variables = b; timers = d };
      }

      variables-still : ((n : ℕ) → stores e n ≡ false) → Variables r.variables s.variables
      unfolding Variables
      variables-still h n l u = variable-passes n l (h n) u

      -- both sides store at n, or the open side alone where that is marked
      variables-set : (n : ℕ) (x y : ℤ) → n < (process_at T p).variables → ((k : ℕ) → (k ≡ n → ⊥) → stores e k ≡ false) → (M.variable p e.to n ≡ false → y ≡ x) → Variables (set r.variables n x) (set s.variables n y)
      unfolding Variables
      variables-set n x y l h same k j u =
          ⊎_elim
          (λ q.
          let i = same (subst (λ z. M.variable p e.to z ≡ false) q u) in
          subst (λ z. get_or (set s.variables n y) z (pos 0) ≡ get_or (set r.variables n x) z (pos 0)) (sym q)
          (get_or-set_same s.variables n y (pos 0) (omega (arith, few-variables T M tested p here, t.closed.variables)) ∙ i ∙ sym (get_or-set_same r.variables n x (pos 0) (omega (arith, few-variables T M tested p here, t.opened.variables)))))
          (λ q. get_or-set_other s.variables n k y (pos 0) q ∙ variable-passes k j (h k q) u ∙ sym (get_or-set_other r.variables n k x (pos 0) q))
          (cases_eq k n)

      variables-lost : (n : ℕ) (x : ℤ) → ((k : ℕ) → (k ≡ n → ⊥) → stores e k ≡ false) → M.variable p e.to n ≡ true → Variables (set r.variables n x) s.variables
      unfolding Variables
      variables-lost n x h m k j u =
          ⊎_elim (λ q. absurd (both_ways (M.variable p e.to n) (subst (λ z. M.variable p e.to z ≡ false) q u) m))
          (λ q. variable-passes k j (h k q) u ∙ sym (get_or-set_other r.variables n k x (pos 0) q)) (cases_eq k n)

      timers-still : ((n : ℕ) → turns e n ≡ false) → Timers r.timers s.timers
      unfolding Timers
      timers-still h = (λ n l. timer-passes n l (h n), t.chaos)

      timers-set : (n : ℕ) (x y : Timer) → n < (process_at T p).timers → ((k : ℕ) → (k ≡ n → ⊥) → turns e k ≡ false) → TimerTwin 0 (M.timer p e.to n) x y → Timers (set r.timers n x) (set s.timers n y)
      unfolding Timers
      timers-set n x y l h w = (
        λ k j.
            ⊎_elim
            (λ q.
            subst (λ z. TimerTwin 0 (M.timer p e.to z) (get_or (set r.timers n x) z Off) (get_or (set s.timers n y) z Off)) (sym q)
            (subst (λ z. TimerTwin 0 (M.timer p e.to n) z (get_or (set s.timers n y) n Off)) (sym (get_or-set_same r.timers n x Off (omega (arith, few-timers T M tested p here, t.opened.timers))))
            (subst (λ z. TimerTwin 0 (M.timer p e.to n) x z) (sym (get_or-set_same s.timers n y Off (omega (arith, few-timers T M tested p here, t.closed.timers)))) w)))
            (λ q.
            subst (λ z. TimerTwin 0 (M.timer p e.to k) z (get_or (set s.timers n y) k Off)) (sym (get_or-set_other r.timers n k x Off q))
            (subst (λ z. TimerTwin 0 (M.timer p e.to k) (get_or r.timers k Off) z) (sym (get_or-set_other s.timers n k y Off q)) (timer-passes k j (h k q))))
            (cases_eq k n),
        λ c. subst (Standin 0) (sym (get_or-set_other s.timers n (process_at T p).timers y Off (λ q. omega arith))) (t.chaos c),
      )

      -- the closed side rearms its chaos timer
      timers-chaos : chaotic T p ≡ true → ((n : ℕ) → turns e n ≡ false) → Timers r.timers (set s.timers (process_at T p).timers (On 0))
      unfolding Timers
      timers-chaos c h = (
        λ n l.
            subst (λ z. TimerTwin 0 (M.timer p e.to n) (get_or r.timers n Off) z) (sym (get_or-set_other s.timers (process_at T p).timers n (On 0) Off (λ q. omega arith))) (timer-passes n l (h n)),
        λ _.
            (0, (omega arith, get_or-set_same s.timers (process_at T p).timers (On 0) Off (omega (arith, room-for-chaos T M tested p here c, t.closed.timers)))),
      )

      -- an input
      stored-length : (c : Bool) (n : ℕ) (x : ℤ) (vs : List ℤ) → length vs ≡ 8 → length (cond c vs (set vs n x)) ≡ 8
      stored-length true n x vs h = h
      stored-length false n x vs h = length-set vs n x ∙ h

      input-stores : (k : Kind) → kind_of e.kind ≡ k → k ≡ Input → (n : ℕ) → (eqb e.second 15 ≡ true) ⊎ (n ≡ e.second → ⊥) → stores e n ≡ false
      input-stores k q h n (inl d) = ap (λ x. stores_as x e n) (q ∙ h) ∙ and_left (not (eqb e.second 15)) (eqb e.second n) (ap not d)
      input-stores k q h n (inr d) = ap (λ x. stores_as x e n) (q ∙ h) ∙ and_right (not (eqb e.second 15)) (eqb e.second n) (ne_eqb e.second n (λ z. d (sym z)))

      arrived : kind_of e.kind ≡ Input → arrives T M e.first ≡ true → eqb e.second 15 ≡ false → M.variable p e.to e.second ≡ true
      arrived q a d = subst (λ z. M.variable z e.to e.second ≡ true) mine (o.received q a (eqb-false e.second 15 d))

      outer-variables : kind_of e.kind ≡ Input → is_inbound (class_at T e.first) ≡ true → (c : Bool) → eqb e.second 15 ≡ c → (x : ℤ) → Variables (cond c r.variables (set r.variables e.second x)) s.variables
      outer-variables q w true d x = variables-still (λ n. input-stores Input q refl n (inl d))
      outer-variables q w false d x =
          variables-lost e.second x (λ n ne. input-stores Input q refl n (inr ne)) (arrived q (inbound-arrives (class_at T e.first) (signal_marked T M e.first) w) d)

      inner-variables : kind_of e.kind ≡ Input → is_internal (class_at T e.first) ≡ true → (c : Bool) → eqb e.second 15 ≡ c → (x y : ℤ) → (signal_marked T M e.first ≡ false → y ≡ x) → Variables (cond c r.variables (set r.variables e.second x)) (cond c s.variables (set s.variables e.second y))
      inner-variables q w true d x y same = variables-still (λ n. input-stores Input q refl n (inl d))
      inner-variables q w false d x y same =
          variables-set e.second x y ((named Input q).1 (eqb-false e.second 15 d)) (λ n ne. input-stores Input q refl n (inr ne))
          (λ u.
          same
          (⊎_elim
          (λ m. absurd (both_ways (M.variable p e.to e.second) u (arrived q (inside-arrives (class_at T e.first) (signal_marked T M e.first) w ∙ m) d)))
          (λ m. m) (cases_Bool (signal_marked T M e.first))))

      -- of the other kinds
      quiet : (k : Kind) → kind_of e.kind ≡ k → ((n : ℕ) → stores_as k e n ≡ false) → (n : ℕ) → stores e n ≡ false
      quiet k q h n = ap (λ x. stores_as x e n) q ∙ h n

      calm : (k : Kind) → kind_of e.kind ≡ k → ((n : ℕ) → turns_as k e n ≡ false) → (n : ℕ) → turns e n ≡ false
      calm k q h n = ap (λ x. turns_as x e n) q ∙ h n

      assigns-apart : kind_of e.kind ≡ Assignment → (n : ℕ) → (n ≡ e.first → ⊥) → stores e n ≡ false
      assigns-apart q n ne = ap (λ x. stores_as x e n) q ∙ ne_eqb e.first n (λ z. ne (sym z))

      turns-apart : (k : Kind) → kind_of e.kind ≡ k → ((n : ℕ) → turns_as k e n ≡ eqb e.first n) → (n : ℕ) → (n ≡ e.first → ⊥) → turns e n ≡ false
      turns-apart k q h n ne = ap (λ x. turns_as x e n) q ∙ h n ∙ ne_eqb e.first n (λ z. ne (sym z))

      still : (k : Kind) → kind_of e.kind ≡ k → ((n : ℕ) → stores_as k e n ≡ false) → ((n : ℕ) → turns_as k e n ≡ false) → Twin T M 0 p (record { location = e.to; variables = r.variables; timers = r.timers; queue = r.queue }) (record { location = e.to; variables = s.variables; timers = s.timers; queue = s.queue })
      still k q a b =
          build r.variables s.variables r.timers s.timers r.queue s.queue t.opened.variables t.closed.variables t.opened.timers t.closed.timers t.queue (variables-still (quiet k q a)) (timers-still (calm k q b))

      set-timer : (k : Kind) → kind_of e.kind ≡ k → ((n : ℕ) → stores_as k e n ≡ false) → ((n : ℕ) → turns_as k e n ≡ eqb e.first n) → e.first < (process_at T p).timers → (x y : Timer) → TimerTwin 0 (M.timer p e.to e.first) x y → Twin T M 0 p (record { location = e.to; variables = r.variables; timers = set r.timers e.first x; queue = r.queue }) (record { location = e.to; variables = s.variables; timers = set s.timers e.first y; queue = s.queue })
      set-timer k q a b l x y w =
          build r.variables s.variables (set r.timers e.first x) (set s.timers e.first y) r.queue s.queue t.opened.variables t.closed.variables (length-set r.timers e.first x ∙ t.opened.timers) (length-set s.timers e.first y ∙ t.closed.timers) t.queue (variables-still (quiet k q a)) (timers-set e.first x y l (turns-apart k q b) w)

      moved_then : (k : Kind) → kind_of e.kind ≡ k → (i u m b : Bool) → is_inbound (class_at T e.first) ≡ i → marked T M e e.value ≡ m → (x y : ℤ) → kind_ready k r e ≡ true → (fate_as k i u m ≡ stays → m ≡ false → y ≡ x) → (fate_as k i u m ≡ emptied → y ≡ pos 0) → Twin T M 0 p (moved k x e r) (moved (kind_then k i u m) y (changed (fate_as k i u m) b (process_at T p).timers e) s)
      moved_then Input q true u m b w z x y h hs he =
          build (stored e r) s.variables r.timers (set s.timers (process_at T p).timers (On 0)) (drop 1 r.queue) s.queue (stored-length (eqb e.second 15) e.second (head_value r.queue) r.variables t.opened.variables) t.closed.variables t.opened.timers (length-set s.timers (process_at T p).timers (On 0) ∙ t.closed.timers)
          (take-outer T M r.queue s.queue e.first h (inbound-not-inside (class_at T e.first) w) t.queue)
          (outer-variables q w (eqb e.second 15) refl (head_value r.queue))
          (timers-chaos (chaos-there q w) (calm Input q (λ n. refl)))
      moved_then Input q false u m b w z x y h hs he =
          let c = input-inside (get_or T.signals e.first absent) e.process (subst (λ k. unfit_for (get_or T.signals e.first absent) e.process k ≡ false) q sound.fit) w in
          let a = take_inner T M r.queue s.queue e.first h c t.queue in
          build (stored e r) (stored e s) r.timers s.timers (drop 1 r.queue) (drop 1 s.queue) (stored-length (eqb e.second 15) e.second (head_value r.queue) r.variables t.opened.variables) (stored-length (eqb e.second 15) e.second (head_value s.queue) s.variables t.closed.variables) t.opened.timers t.closed.timers a.1.0
          (inner-variables q c (eqb e.second 15) refl (head_value r.queue) (head_value s.queue) a.1.1)
          (timers-still (calm Input q (λ n. refl)))
      moved_then Output q i true m b w z x y h hs he = still Output q (λ n. refl) (λ n. refl)
      moved_then Output q i false true b w z x y h hs he = still Output q (λ n. refl) (λ n. refl)
      moved_then Output q i false false b w z x y h hs he = still Output q (λ n. refl) (λ n. refl)
      moved_then Assignment q i u true b w z x y h hs he =
          build (set r.variables e.first x) s.variables r.timers s.timers r.queue s.queue (length-set r.variables e.first x ∙ t.opened.variables) t.closed.variables t.opened.timers t.closed.timers t.queue
          (variables-lost e.first x (assigns-apart q) (subst (λ a. M.variable a e.to e.first ≡ true) mine (o.assigned q z)))
          (timers-still (calm Assignment q (λ n. refl)))
      moved_then Assignment q i u false b w z x y h hs he =
          build (set r.variables e.first x) (set s.variables e.first y) r.timers s.timers r.queue s.queue (length-set r.variables e.first x ∙ t.opened.variables) (length-set s.variables e.first y ∙ t.closed.variables) t.opened.timers t.closed.timers t.queue
          (variables-set e.first x y (named Assignment q) (assigns-apart q) (λ _. hs refl refl))
          (timers-still (calm Assignment q (λ n. refl)))
      moved_then Set q i u true b w z x y h hs he =
          set-timer Set q (λ n. refl) (λ n. refl) (named Set q) (On (ticks_of x)) (On (ticks_of y))
          (inr (subst (λ a. M.timer a e.to e.first ≡ true) mine (o.timed q z), (0, (omega arith, ap (λ a. On (ticks_of a)) (he refl)))))
      moved_then Set q i u false b w z x y h hs he =
          set-timer Set q (λ n. refl) (λ n. refl) (named Set q) (On (ticks_of x)) (On (ticks_of y)) (inl (ap (λ a. On (ticks_of a)) (hs refl refl)))
      moved_then Reset q i u m b w z x y h hs he = set-timer Reset q (λ n. refl) (λ n. refl) (named Reset q) Off Off (inl refl)
      moved_then Timeout q i u m b w z x y h hs he = set-timer Timeout q (λ n. refl) (λ n. refl) (named Timeout q) Off Off (inl refl)
      moved_then Rearm q i u m b w z x y h hs he =
          set-timer Rearm q (λ n. refl) (λ n. refl) (named Rearm q) (On e.second) (On e.second) (inl refl)
      moved_then Skip q i u m b w z x y h hs he = still Skip q (λ n. refl) (λ n. refl)
      moved_then Unknown q i u m b w z x y h hs he = absurd (both_ways false refl h)

      pub value_stays : (f : Fate) → f ≡ stays → marked T M e e.value ≡ false → (x : Edge) → x.value ≡ value_under f e.value → value_in (closed T M) (scope (closed T M) p s) x ≡ value_in T (scope T p r) e
      unfolding value_in
      value_stays f q m x w =
          let a : x.value ≡ e.value = w ∙ ap (λ g. value_under g e.value) q in
          ap (λ y. cond (eqb y.count 0) (pos 0) (unwrap_or (value_of (scope (closed T M) p s) (closed T M).terms y) (pos 0))) a
          ∙ ap (λ y. cond (eqb e.value.count 0) (pos 0) (unwrap_or y (pos 0))) (value_same T M tested p r s t here e mine starts e.value m)

      value-emptied : (f : Fate) → f ≡ emptied → (x : Edge) → x.value ≡ value_under f e.value → value_in (closed T M) (scope (closed T M) p s) x ≡ pos 0
      unfolding value_in
      value-emptied f q x w =
          ap (λ y. cond (eqb y.count 0) (pos 0) (unwrap_or (value_of (scope (closed T M) p s) (closed T M).terms y) (pos 0))) (w ∙ ap (λ g. value_under g e.value) q)

      pub moved-closed : kind_ready (kind_of e.kind) r e ≡ true → Twin T M 0 p (moved (kind_of e.kind) (value_in T (scope T p r) e) e r) (moved (kind_of (closed_edge T M e).kind) (value_in (closed T M) (scope (closed T M) p s) (closed_edge T M e)) (closed_edge T M e) s)
      unfolding closed_edge
      moved-closed h =
          let y = value_in (closed T M) (scope (closed T M) p s) (closed_edge T M e) in
          let a = moved_then (kind_of e.kind) refl (is_inbound (class_at T e.first)) (is_outbound (class_at T e.first)) (marked T M e e.value) (freed T M e) refl refl (value_in T (scope T p r) e) y h (λ f m. value_stays (fate T M e) f m (closed_edge T M e) refl) (λ f. value-emptied (fate T M e) f (closed_edge T M e) refl) in
          let c = subst (λ q. Twin T M 0 p (moved (kind_of e.kind) (value_in T (scope T p r) e) e r) (moved (kind_then (kind_of e.kind) (is_inbound (class_at T e.first)) (is_outbound (class_at T e.first)) (marked T M e e.value)) y (changed (fate T M e) (freed T M e) (process_at T q).timers e) s)) (sym mine) a in
          subst (λ k. Twin T M 0 p (moved (kind_of e.kind) (value_in T (scope T p r) e) e r) (moved k y (closed_edge T M e) s)) (sym (kind-under (fate T M e) e.kind)) c

      marked-signal : kind_of e.kind ≡ Output → marked T M e e.value ≡ true → signal_marked T M e.first ≡ true
      unfolding signal_marked
      marked-signal q z =
          any-in (λ g. is_output (kind_of g.kind) && (eqb g.first e.first && marked T M g g.value)) e T.edges listed
          (and_from (is_output (kind_of e.kind)) (eqb e.first e.first && marked T M e e.value) (ap is_output q) (and_from (eqb e.first e.first) (marked T M e e.value) (eq-eqb e.first e.first refl) z))

      -- an internal output sends the same, unless the value is marked
      pub sent-same : (k : Kind) → kind_of e.kind ≡ k → (i u m : Bool) → is_outbound (class_at T e.first) ≡ u → marked T M e e.value ≡ m → is_output k ≡ true → is_internal (class_at T e.first) ≡ true → signal_marked T M e.first ≡ false → (fate_as k i u m ≡ stays) × (m ≡ false)
      sent-same Input q i u m w z a c n = absurd (both_ways false refl a)
      sent-same Output q i true m w z a c n = absurd (both_ways (is_internal (class_at T e.first)) (outbound-not-inside (class_at T e.first) w) c)
      sent-same Output q i false true w z a c n = absurd (both_ways (signal_marked T M e.first) n (marked-signal q z))
      sent-same Output q i false false w z a c n = (refl, refl)
      sent-same Assignment q i u m w z a c n = absurd (both_ways false refl a)
      sent-same Set q i u m w z a c n = absurd (both_ways false refl a)
      sent-same Reset q i u m w z a c n = absurd (both_ways false refl a)
      sent-same Timeout q i u m w z a c n = absurd (both_ways false refl a)
      sent-same Rearm q i u m w z a c n = absurd (both_ways false refl a)
      sent-same Skip q i u m w z a c n = absurd (both_ways false refl a)
      sent-same Unknown q i u m w z a c n = absurd (both_ways false refl a)
