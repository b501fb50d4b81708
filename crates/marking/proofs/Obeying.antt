-- Marks that obey the rules but for what still waits obey them, once nothing waits.
use Rattle.std.proofs.Common.{◌≡◌, ℕ, ◌+◌, ◌<◌, ◌≤◌, length, true, false, eqb, [], None, Some, sym, refl, ap, ◌∙◌, subst, ⊎_elim, arith}
use Rattle.std.specs.List.{Contains, slice_get}
use Rattle.std.proofs.lemmas.Bool.{both_ways, cases_lt, cond-true, cond-false, ne_eqb, eq-eqb, and_from}
use Rattle.std.proofs.lemmas.List.{get_or_past}
use Rattle.loading.specs.Following.{is_input, taking}
use Rattle.table.specs.Lists.{Lists}
use Rattle.table.specs.Edges.{absent}
use Rattle.table.specs.Records.{class_of, kind_of}
use Rattle.table.specs.declared.record.Signal.{Signal}
use Rattle.table.specs.declared.record.Class.{Class}
use Rattle.table.specs.declared.record.Class.TheVariants.{Internal, Inbound, Outbound, Absent}
use Rattle.table.specs.declared.record.Edge.{Edge}
use Rattle.table.specs.declared.record.Kind.TheVariants.{Input, Assignment, Set}
use Rattle.marking.specs.Instances.{Fits, has, given}
use Rattle.marking.specs.Leads.{at_start, at_end, received, received_as, touches, is_internal, is_inbound, fed, fed_as}
use Rattle.marking.specs.Searching.{State, Followed, ObeysButWaiting, Reached}
use Rattle.marking.specs.declared.flow.Fed.{Fed}
use Rattle.marks.specs.Rules.{Marking, Obeys, EdgeObeys, marked, signal_marked, class_at, arrives, arrives_as}
use Rattle.marks.specs.Words.{marks_in}
use Rattle.marks.proofs.Good.{Good, Named}
use Rattle.marking.proofs.Bounding.{Bounds, bounds, largest}
use Rattle.marking.proofs.Reading.{Here, variable-here, timer-here, here-variable, here-timer, marked-mentions, signal-sent}
use Rattle.marking.proofs.Touching.{variable-untouched, timer-untouched}

module _ (T : Lists) (g : Good T) (s : State) (kept : ObeysButWaiting T s) (still : s.queue ≡ []) where
  abbrev M : Marking
  M = marks_in s.words

  all-followed : (k : ℕ) (e : Edge) (b : ℕ) → slice_get T.edges k ≡ Some e → b < 16 → has s.words (at_start e b) ≡ true → Followed T s e b
  all-followed k e b h l m =
      ⊎_elim
      (λ w. let P : _ → Type 0 = λ q. Contains q (at_start e b) in let none = subst P still w in absurd (let z = none.1 in omega arith))
      (λ f. f)
      (kept.followed k e b h l m)

  -- a marked value marks what it feeds
  all-fed : (k : ℕ) (e : Edge) → slice_get T.edges k ≡ Some e → marked T M e e.value ≡ true → Reached s (fed T e)
  all-fed k e h m =
      let x = marked-mentions T M e e.value m in
      let y = variable-here s.words e.process e.from x.index x.is_marked in
      let l = y.0 in
      (all-followed k e x.index h (omega arith) y.1.is_set).fed y.0 x.is_mentioned

  -- an internal signal with a marked value is one that brings them
  signal-given : (n : ℕ) → is_internal (class_at T n) ≡ true → signal_marked T M n ≡ true → given s.signals n ≡ true
  unfolding fed
  signal-given n i m =
      let x = signal-sent T M n m in
      let d = bounds T g x.place x.edge x.stands in
      let small : x.edge.first < 64 = subst (λ k. Named 64 largest k x.edge) x.kind d.named in
      let f = all-fed x.place x.edge x.stands x.value in
      let a = subst (λ k. Reached s (fed_as (class_at T x.edge.first) k x.edge)) x.kind f in
      let c = cond-true (is_internal (class_at T x.edge.first)) (Fed.Signal x.edge.first) Fed.Nothing (ap (λ q. is_internal (class_at T q)) x.signal ∙ i) in
      ap (given s.signals) (sym x.signal) ∙ subst (Reached s) c a small

  arrived : (n : ℕ) (a : Class) → n < 64 → class_at T n ≡ a → arrives_as a (signal_marked T M n) ≡ true → given s.signals n ≡ true
  arrived n Internal l q h = signal-given n (ap is_internal q) h
  arrived n Inbound l q h = kept.inbound n l (ap is_inbound q)
  arrived n Outbound l q h = absurd (both_ways false refl h)
  arrived n Absent l q h = absurd (both_ways false refl h)
  arrived n Class.Unknown l q h = absurd (both_ways false refl h)

  arrives-known : (n : ℕ) → arrives T M n ≡ true → n < 64
  arrives-known n h =
      ⊎_elim (λ (i : n < length T.signals). omega (arith, g.signals))
      (λ (far : length T.signals ≤ n).
      let e : class_at T n ≡ Absent = ap (λ (r : Signal). class_of r.class) (get_or_past T.signals n absent far) in
      absurd (both_ways (arrives T M n) (ap (λ c. arrives_as c (signal_marked T M n)) e) h))
      (cases_lt n (length T.signals))

  module _ (k : ℕ) (e : Edge) (h : slice_get T.edges k ≡ Some e) where
    d : Bounds T e
    d = bounds T g k e h

    fits : (b : ℕ) → b < 16 → Fits (at_end e b)
    fits b l = let p = d.process in let t = d.to in record { site = omega arith; index = l }

    here : (b : ℕ) → has s.words (at_end e b) ≡ true → Here s.words e.process e.to b
    here b m = record { process = d.process; location = d.to; is_set = m }

    input-obeys : e.first < 64 → kind_of e.kind ≡ Input → arrives T M e.first ≡ true → (e.second ≡ 15 → ⊥) → M.variable e.process e.to e.second ≡ true
    unfolding received
    input-obeys small q a n =
        let v : e.second < 8 = subst (λ k. Named 64 largest k e) q d.named n in
        let r : received e ≡ Some (at_end e e.second) = ap (λ k. received_as k e) q ∙ cond-false (eqb e.second 15) None (Some (at_end e e.second)) (ne_eqb e.second 15 n) in
        let takes : taking e.first e ≡ true = and_from (is_input (kind_of e.kind)) (eqb e.first e.first) (ap is_input q) (eq-eqb e.first e.first refl) in
        here-variable s.words e.process e.to e.second v
        (here e.second (kept.taken e.first (arrived e.first (class_at T e.first) small refl a) k e (at_end e e.second) h takes r (fits e.second (omega arith))))

    assignment-obeys : kind_of e.kind ≡ Assignment → marked T M e e.value ≡ true → M.variable e.process e.to e.first ≡ true
    unfolding fed
    assignment-obeys q m =
        let v : e.first < 8 = subst (λ k. Named 64 largest k e) q d.named in
        let f = subst (λ k. Reached s (fed_as (class_at T e.first) k e)) q (all-fed k e h m) in
        here-variable s.words e.process e.to e.first v (here e.first (f (fits e.first (omega arith))))

    set-obeys : kind_of e.kind ≡ Set → marked T M e e.value ≡ true → M.timer e.process e.to e.first ≡ true
    unfolding fed
    set-obeys q m =
        let v : e.first < 8 = subst (λ k. Named 64 largest k e) q d.named in
        let f = subst (λ k. Reached s (fed_as (class_at T e.first) k e)) q (all-fed k e h m) in
        here-timer s.words e.process e.to e.first v (here (8 + e.first) (f (fits (8 + e.first) (omega arith))))

    passes : (b : ℕ) → b < 16 → touches e b ≡ false → Here s.words e.process e.from b → Here s.words e.process e.to b
    passes b l n m = here b ((all-followed k e b h l m.is_set).passed n (fits b l))

    edge-obeys : EdgeObeys T M e
    edge-obeys = record {
      received = λ q a. input-obeys (arrives-known e.first a) q a;
      assigned = assignment-obeys;
      timed = set-obeys;
      variables = λ v n m.
          let x = variable-here s.words e.process e.from v m in
          let l = x.0 in
          here-variable s.words e.process e.to v x.0 (passes v (omega arith) (variable-untouched 64 largest e (omega arith) (omega arith) v x.0 n) x.1);
      timers = λ n t m.
          let x = timer-here s.words e.process e.from n m in
          let l = x.0 in
          here-timer s.words e.process e.to n x.0 (passes (8 + n) (omega arith) (timer-untouched 64 largest e (omega arith) (omega arith) n d.named x.0 t) x.1);
    }

  pub still-obeys : Obeys T (marks_in s.words)
  still-obeys k e h = edge-obeys k e h
