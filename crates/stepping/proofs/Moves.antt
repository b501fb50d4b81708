-- What a move along an edge is refused with, does and answers, by the edge that stands at its number.
use Rattle.std.proofs.Common.{◌≡◌, ℕ, ◌<◌, ◌≤◌, true, false, cond, not, leb, ◌⊎◌, List, length, get_or, ℤ, is_some, Some, None, sym, refl, ap, ◌∙◌, inl, inr, ⊎_elim}
use Rattle.std.proofs.lemmas.List.{get_or-set_same, get_or-set_other}
use Rattle.std.proofs.lemmas.Bool.{cases_eq, both_ways, and_parts, or_left, not-true, le-leb, lt-leb, cond-true, cond-false}
use Rattle.std.proofs.lemmas.Option.{slice_get_within, get_or_from_slice_get, slice_get_cases}
use Rattle.std.specs.List.{slice_get}
use Rattle.marks.specs.Rules.{class_at, is_output}
use Rattle.refusal.specs.Refusals.{first}
use Rattle.rules.proofs.Lists.{is_some-none}
use Rattle.rules.specs.States.{Running, World, idle, at, is_internal, is_inbound, goal}
use Rattle.rules.specs.Steps.{no_edge, edge_at, ready, enabled, sends, full, state_at, move_tests, call_refused, moved, put, message, deliver, edge_value, moved_along, move_effect, effect, leaving, told}
use Rattle.rules.specs.declared.step.Message.{Message}
use Rattle.rules.specs.declared.step.Step.TheVariants.{Move}
use Rattle.stepping.proofs.Limits.{edge-there, Receives, receives}
use Rattle.stepping.proofs.Tests.{first-hit, first-miss}
use Rattle.stepping.specs.Worlds.{world_of}
use Rattle.stepping.specs.declared.state.State.{State}
use Rattle.table.specs.Edges.{edge_fault}
use Rattle.table.specs.Lists.{Lists}
use Rattle.table.specs.Records.{kind_of}
use Rattle.table.specs.declared.record.Edge.{Edge}
use Rattle.table.specs.declared.record.Kind.{Kind}
use Rattle.table.specs.declared.record.Kind.TheVariants.{Input, Output, Assignment, Set, Reset, Timeout, Rearm, Skip, Unknown}
use Rattle.rules.specs.Steps.{state_refused}
use Rattle.table.proofs.Passing.{none-some}

-- a process whose queue stays leaves every queue as full as it was
pub full-put : (W : World) (q p : ℕ) (r : Running) → q < length W.processes → r.queue ≡ (at W q).queue → full (put W q r) p ≡ full W p
full-put W q p r h e =
    ⊎_elim
    (λ i.
    ap (λ k. full (put W q r) k) i
    ∙ ap (λ (x : Running). leb 16 (length x.queue)) (get_or-set_same W.processes q r idle h)
    ∙ ap (λ ms. leb 16 (length ms)) e
    ∙ ap (full W) (sym i))
    (λ ne. ap (λ (x : Running). leb 16 (length x.queue)) (get_or-set_other W.processes q p r idle ne))
    (cases_eq p q)

pub output-queue : (k : Kind) (v : ℤ) (e : Edge) (r : Running) → k ≡ Output → (moved k v e r).queue ≡ r.queue
output-queue k v e r h = ap (λ (i : Kind). (moved i v e r).queue) h

is_output-kind : (k : Kind) → is_output k ≡ true → k ≡ Output
is_output-kind Input h = absurd (both_ways false refl h)
is_output-kind Output h = refl
is_output-kind Assignment h = absurd (both_ways false refl h)
is_output-kind Set h = absurd (both_ways false refl h)
is_output-kind Reset h = absurd (both_ways false refl h)
is_output-kind Timeout h = absurd (both_ways false refl h)
is_output-kind Rearm h = absurd (both_ways false refl h)
is_output-kind Skip h = absurd (both_ways false refl h)
is_output-kind Unknown h = absurd (both_ways false refl h)

-- an edge that is enabled
module _ (T : Lists) (s : State) (m : List Message) (h : state_refused T (world_of s m) ≡ None) (e : Edge) where
  pub enabled-there : enabled T (world_of s m) e ≡ true → e.process < s.count
  unfolding enabled
  enabled-there t =
      let a = and_parts (not (is_some (edge_fault T e))) (ready T (at (world_of s m) e.process) e) t in
      edge-there T s m h e (is_some-none (edge_fault T e) (not-true (is_some (edge_fault T e)) a.0))

  pub sends-receives : (p : ℕ) → Some p ≡ cond (sends T e) (Some (goal T e.first)) None → Receives T s m e.first p (sends T e)
  sends-receives p q =
      receives T s m e.first p (sends T e) h
      (λ t. or_left (is_internal (class_at T e.first)) (is_inbound (class_at T e.first)) (and_parts (is_output (kind_of e.kind)) (is_internal (class_at T e.first)) t).1) q

module _ (T : Lists) (W : World) (e : Edge) (v : ℤ) (is : v ≡ edge_value T W e) where
  pub sent_effect : (p : ℕ) → sends T e ≡ true → p ≡ goal T e.first → deliver (put W e.process (moved Output v e (at W e.process))) p (message e.first v) ≡ move_effect T W e
  unfolding move_effect moved_along
  sent_effect p t q =
      let k = is_output-kind (kind_of e.kind) (and_parts (is_output (kind_of e.kind)) (is_internal (class_at T e.first)) t).0 in
      let x = edge_value T W e in
      ap (λ (y : ℤ). deliver (put W e.process (moved Output y e (at W e.process))) p (message e.first y)) is
      ∙ ap (λ (j : Kind). deliver (put W e.process (moved j x e (at W e.process))) p (message e.first x)) (sym k)
      ∙ ap (λ n. deliver (moved_along T W e) n (message e.first x)) q
      ∙ sym (cond-true (sends T e) (deliver (moved_along T W e) (goal T e.first) (message e.first x)) (moved_along T W e) t)

  pub kept-effect : sends T e ≡ false → put W e.process (moved (kind_of e.kind) v e (at W e.process)) ≡ move_effect T W e
  unfolding move_effect moved_along
  kept-effect t =
      ap (λ (y : ℤ). put W e.process (moved (kind_of e.kind) y e (at W e.process))) is
      ∙ sym (cond-false (sends T e) (deliver (moved_along T W e) (goal T e.first) (message e.first (edge_value T W e))) (moved_along T W e) t)

-- the edge of that number
module _ (T : Lists) (W : World) (k : ℕ) where
  pub no-edge-refused : slice_get T.edges k ≡ None → Some (state_at 19 k) ≡ call_refused T W (Move k)
  unfolding call_refused
  no-edge-refused h = first-hit (leb (length T.edges) k) (state_at 19 k) (move_tests T W (edge_at T k)) (le-leb (length T.edges) k (past (slice_get_cases T.edges k).1))
    where
      past : ((x : Edge) × (k < length T.edges) × (slice_get T.edges k ≡ Some x) × (get_or T.edges k x ≡ x)) ⊎ ((length T.edges ≤ k) × (slice_get T.edges k ≡ None)) → length T.edges ≤ k
      past (inl x) = none-some x.0 (sym h ∙ x.2)
      past (inr l) = l.0

  module _ (e : Edge) (h : slice_get T.edges k ≡ Some e) where
    here : edge_at T k ≡ e
    here = get_or_from_slice_get T.edges k e no_edge h

    pub move-refused : first (move_tests T W e) ≡ call_refused T W (Move k)
    unfolding call_refused
    move-refused =
        ap (λ x. first (move_tests T W x)) (sym here)
        ∙ first-miss (leb (length T.edges) k) (state_at 19 k) (move_tests T W (edge_at T k)) (lt-leb (length T.edges) k (slice_get_within T.edges k e h))

    pub move-effect : move_effect T W e ≡ effect T W (Move k)
    unfolding effect
    move-effect = ap (move_effect T W) (sym here)

    pub move-told : leaving T W e ≡ told T W (Move k)
    unfolding told
    move-told = ap (leaving T W) (sym here)
