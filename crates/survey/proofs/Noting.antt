-- How a survey follows a loop over the edges.
use Rattle.std.proofs.Common.{◌≡◌, ℕ, zero, suc, ◌+◌, ◌*◌, ◌^◌, ◌<◌, ◌≤◌, Bool, true, false, cond, ◌&&◌, ◌||◌, eqb, ltb, ◌⊎◌, List, [], length, get_or, take, set, replicate, Some, None, sym, refl, ap, ◌∙◌, subst, inl, inr, arith}
use Rattle.std.proofs.lemmas.List.{get_or-set_same, get_or-set_other, take_all}
use Rattle.std.proofs.Math.Bool.{or-false, or-true}
use Rattle.std.proofs.lemmas.Bool.{lt-ltb, le-ltb, ltb-true, cases_eq, cases_lt, eq-eqb, ne_eqb, and_from, and_left, and_right, cond-true, cond-false}
use Rattle.std.proofs.lemmas.Bool.Decides.{nat_tests}
use Rattle.std.specs.List.{slice_get, list_any}
use Rattle.examination.proofs.Raised.{any_push, take-some, take_none}
use Rattle.marks.proofs.Bitwise.{bit-or, bit-pow, bit-zero}
use Rattle.marks.specs.Rules.{Marking}
use Rattle.marks.specs.Words.{bit}
use Rattle.rules.specs.Closing.{invites, marked_guard}
use Rattle.rules.specs.States.{handles, watches}
use Rattle.survey.specs.Surveys.{nowhere, spot_at, chaotic_at, turned, noted_spot, noted_spots, noted_chaos, Surveyed}
use Rattle.survey.specs.declared.spots.Spot.{Spot}
use Rattle.table.specs.Examination.{acts, leaves}
use Rattle.table.specs.Lists.{Lists}
use Rattle.table.specs.Records.{kind_of}
use Rattle.table.specs.declared.record.Edge.{Edge}

get_or-replicated : {A : Type 0} (d : A) (n i : ℕ) → get_or (replicate n d) i d ≡ d
get_or-replicated d zero i = refl
get_or-replicated d (suc n) zero = refl
get_or-replicated d (suc n) (suc i) = get_or-replicated d n i

pub blank-spots : (n p l : ℕ) (s : Spot) → s ≡ nowhere → spot_at (replicate n s) p l ≡ nowhere
unfolding spot_at
blank-spots n p l s h =
    rw h (rw (get_or-replicated nowhere n (16 * p + l)) (either (ltb p 8 && ltb l 16)))
  where
    either : (b : Bool) → cond b nowhere nowhere ≡ nowhere
    either true = refl
    either false = refl

pub blank-chaos : (n p : ℕ) → chaotic_at (replicate n false) p ≡ false
unfolding chaotic_at
blank-chaos n p = rw (get_or-replicated false n p) (and_right (ltb p 8) false refl)

-- what a spot is after an edge is noted
placed : ℕ → ℕ → Edge → Bool
placed p l e = eqb e.process p && eqb e.from l

spot_in : (ss : List Spot) (p l : ℕ) → p < 8 → l < 16 → spot_at ss p l ≡ get_or ss (16 * p + l) nowhere
unfolding spot_at
spot_in ss p l hp hl = rw (lt-ltb p 8 hp, lt-ltb l 16 hl)

noted_here : (b : Bool) (e : Edge) (ss : List Spot) (p l : ℕ) → length ss ≡ 128 → p < 8 → l < 16 → e.process ≡ p → e.from ≡ l → spot_at (noted_spots b e ss) p l ≡ noted_spot b e (spot_at ss p l)
unfolding noted_spots
noted_here b e ss p l n hp hl q w =
    spot_in (noted_spots b e ss) p l hp hl
    ∙ ap (λ xs. get_or xs (16 * p + l) nowhere) (cond-true (ltb e.process 8 && ltb e.from 16) (set ss (16 * e.process + e.from) (noted_spot b e (get_or ss (16 * e.process + e.from) nowhere))) ss (and_from (ltb e.process 8) (ltb e.from 16) (lt-ltb e.process 8 (omega arith)) (lt-ltb e.from 16 (omega arith))))
    ∙ ap (λ i. get_or (set ss i (noted_spot b e (get_or ss i nowhere))) (16 * p + l) nowhere) at
    ∙ get_or-set_same ss (16 * p + l) (noted_spot b e (get_or ss (16 * p + l) nowhere)) nowhere (omega arith)
    ∙ ap (noted_spot b e) (sym (spot_in ss p l hp hl))
  where
    at : 16 * e.process + e.from ≡ 16 * p + l
    at = omega arith

noted-there : (b : Bool) (e : Edge) (ss : List Spot) (p l : ℕ) → p < 8 → l < 16 → (e.process ≡ p → e.from ≡ l → ⊥) → spot_at (noted_spots b e ss) p l ≡ spot_at ss p l
unfolding noted_spots
noted-there b e ss p l hp hl apart = spot_in (noted_spots b e ss) p l hp hl ∙ by (ltb e.process 8) refl (ltb e.from 16) refl ∙ sym (spot_in ss p l hp hl)
  where
    by : (x : Bool) → ltb e.process 8 ≡ x → (y : Bool) → ltb e.from 16 ≡ y → get_or (cond (x && y) (set ss (16 * e.process + e.from) (noted_spot b e (get_or ss (16 * e.process + e.from) nowhere))) ss) (16 * p + l) nowhere ≡ get_or ss (16 * p + l) nowhere
    by true a true c =
        let u = ltb-true e.process 8 a in
        let v = ltb-true e.from 16 c in
        get_or-set_other ss (16 * e.process + e.from) (16 * p + l) (noted_spot b e (get_or ss (16 * e.process + e.from) nowhere)) nowhere (λ z. apart (omega arith) (omega arith))
    by true a false c = refl
    by false a y c = refl

pub spots-kept : (b : Bool) (e : Edge) (ss : List Spot) (p l : ℕ) → p ≡ e.process → l ≡ e.from → ((p < 8) × (16 ≤ l)) ⊎ (8 ≤ p) → ss ≡ noted_spots b e ss
unfolding noted_spots
spots-kept b e ss p l q w (inl h) =
    sym (cond-false (ltb e.process 8 && ltb e.from 16) (set ss (16 * e.process + e.from) (noted_spot b e (get_or ss (16 * e.process + e.from) nowhere))) ss (and_right (ltb e.process 8) (ltb e.from 16) (le-ltb e.from 16 (omega (arith, h.1)))))
spots-kept b e ss p l q w (inr h) =
    sym (cond-false (ltb e.process 8 && ltb e.from 16) (set ss (16 * e.process + e.from) (noted_spot b e (get_or ss (16 * e.process + e.from) nowhere))) ss (and_left (ltb e.process 8) (ltb e.from 16) (le-ltb e.process 8 (omega arith))))

-- one fact g of a spot, and the test f of an edge that it follows
module _ (f : Edge → Bool) (g : Spot → Bool) (b : Bool) (e : Edge) (grows : (s : Spot) → g (noted_spot b e s) ≡ (g s || f e)) where
  fact-noted : (ss : List Spot) (p l : ℕ) → length ss ≡ 128 → p < 8 → l < 16 → g (spot_at (noted_spots b e ss) p l) ≡ (g (spot_at ss p l) || leaves p l f e)
  fact-noted ss p l n hp hl = by (cases_eq e.process p) (cases_eq e.from l)
    where
      by : (e.process ≡ p) ⊎ (e.process ≡ p → ⊥) → (e.from ≡ l) ⊎ (e.from ≡ l → ⊥) → g (spot_at (noted_spots b e ss) p l) ≡ (g (spot_at ss p l) || leaves p l f e)
      by (inl q) (inl w) =
          ap g (noted_here b e ss p l n hp hl q w) ∙ grows (spot_at ss p l) ∙ ap (λ x. g (spot_at ss p l) || (x && f e)) (sym (and_from (eqb e.process p) (eqb e.from l) (eq-eqb e.process p q) (eq-eqb e.from l w)))
      by (inl q) (inr w) =
          ap g (noted-there b e ss p l hp hl (λ _ z. w z)) ∙ sym (or-false (g (spot_at ss p l))) ∙ ap (λ x. g (spot_at ss p l) || (x && f e)) (sym (and_right (eqb e.process p) (eqb e.from l) (ne_eqb e.from l w)))
      by (inr q) w =
          ap g (noted-there b e ss p l hp hl (λ z _. q z)) ∙ sym (or-false (g (spot_at ss p l))) ∙ ap (λ x. g (spot_at ss p l) || (x && f e)) (sym (and_left (eqb e.process p) (eqb e.from l) (ne_eqb e.process p q)))

  fact-more : (ss : List Spot) (es : List Edge) (k p l : ℕ) → length ss ≡ 128 → p < 8 → l < 16 → slice_get es k ≡ Some e → g (spot_at ss p l) ≡ list_any (leaves p l f) (take k es) → g (spot_at (noted_spots b e ss) p l) ≡ list_any (leaves p l f) (take (k + 1) es)
  fact-more ss es k p l n hp hl h so =
      fact-noted ss p l n hp hl ∙ ap (λ x. x || leaves p l f e) so ∙ sym (any_push (leaves p l f) (take k es) e) ∙ sym (ap (list_any (leaves p l f)) (take-some es k e h))

handled-grows : (n : ℕ) → n < 8 → (b : Bool) (e : Edge) (s : Spot) → bit (noted_spot b e s).handled n ≡ (bit s.handled n || handles n e)
handled-grows n l b e s = bit-or s.handled (turned e) n ∙ ap (λ x. bit s.handled n || x) (by (watches (kind_of e.kind)) (cases_lt e.first 8))
  where
    by : (w : Bool) → (e.first < 8) ⊎ (8 ≤ e.first) → bit (cond (w && ltb e.first 8) (2 ^ e.first) 0) n ≡ (w && eqb e.first n)
    by true (inl h) = ap (λ x. bit (cond x (2 ^ e.first) 0) n) (lt-ltb e.first 8 h) ∙ bit-pow e.first n ∙ turn
      where
        turn : eqb n e.first ≡ eqb e.first n
        turn = grind (arith, nat_tests)
    by true (inr h) = ap (λ x. bit (cond x (2 ^ e.first) 0) n) (le-ltb e.first 8 h) ∙ bit-zero n ∙ sym (ne_eqb e.first n (λ z. omega arith))
    by false h = bit-zero n

chaos-more : (T : Lists) (e : Edge) (cs : List Bool) (es : List Edge) (k p : ℕ) → length cs ≡ 8 → p < 8 → slice_get es k ≡ Some e → chaotic_at cs p ≡ list_any (λ x. eqb x.process p && invites T x) (take k es) → chaotic_at (noted_chaos (invites T e) e cs) p ≡ list_any (λ x. eqb x.process p && invites T x) (take (k + 1) es)
unfolding chaotic_at noted_chaos
chaos-more T e cs es k p n hp h so =
    by (invites T e) (cases_eq e.process p)
    ∙ ap (λ x. x || (eqb e.process p && invites T e)) so
    ∙ sym (any_push (λ x. eqb x.process p && invites T x) (take k es) e)
    ∙ sym (ap (list_any (λ x. eqb x.process p && invites T x)) (take-some es k e h))
  where
    by : (i : Bool) → (e.process ≡ p) ⊎ (e.process ≡ p → ⊥) → (ltb p 8 && get_or (cond (i && ltb e.process 8) (set cs e.process true) cs) p false) ≡ ((ltb p 8 && get_or cs p false) || (eqb e.process p && i))
    by true (inl q) =
        rw (lt-ltb p 8 hp)
        (ap (λ x. get_or (cond x (set cs e.process true) cs) p false) (lt-ltb e.process 8 (omega arith))
        ∙ ap (λ x. get_or (set cs x true) p false) q
        ∙ get_or-set_same cs p true false (omega arith)
        ∙ sym (or-true (get_or cs p false))
        ∙ ap (λ x. get_or cs p false || (x && true)) (sym (eq-eqb e.process p q)))
    by true (inr q) =
        rw (lt-ltb p 8 hp)
        (other (ltb e.process 8) ∙ sym (or-false (get_or cs p false)) ∙ ap (λ x. get_or cs p false || (x && true)) (sym (ne_eqb e.process p q)))
      where
        other : (x : Bool) → get_or (cond x (set cs e.process true) cs) p false ≡ get_or cs p false
        other true = get_or-set_other cs e.process p true false (λ z. q (sym z))
        other false = refl
    by false q = sym (or-false (ltb p 8 && get_or cs p false)) ∙ ap (λ x. (ltb p 8 && get_or cs p false) || x) (sym (and_right (eqb e.process p) false refl))

pub surveyed-more : (T : Lists) (M : Marking) (es : List Edge) (k : ℕ) (e : Edge) (ss : List Spot) (cs : List Bool) → length ss ≡ 128 → length cs ≡ 8 → slice_get es k ≡ Some e → Surveyed T M (take k es) ss cs → Surveyed T M (take (k + 1) es) (noted_spots (marked_guard T M e) e ss) (noted_chaos (invites T e) e cs)
surveyed-more T M es k e ss cs n m h s = record {
  acting = λ p l hp hl. fact-more acts (λ x. x.acting) (marked_guard T M e) e (λ x. refl) ss es k p l n hp hl h (s.acting p l hp hl);
  guards = λ p l hp hl. fact-more (marked_guard T M) (λ x. x.guard_marked) (marked_guard T M e) e (λ x. refl) ss es k p l n hp hl h (s.guards p l hp hl);
  handled = λ p l i hp hl hi. fact-more (handles i) (λ x. bit x.handled i) (marked_guard T M e) e (handled-grows i hi (marked_guard T M e) e) ss es k p l n hp hl h (s.handled p l i hp hl hi);
  chaos = λ p hp. chaos-more T e cs es k p m hp h (s.chaos p hp);
}

pub surveyed-none : (T : Lists) (M : Marking) (es : List Edge) (k : ℕ) (ss : List Spot) (cs : List Bool) → slice_get es k ≡ None → Surveyed T M (take k es) ss cs → Surveyed T M (take (k + 1) es) ss cs
surveyed-none T M es k ss cs h s = subst (λ xs. Surveyed T M xs ss cs) (sym (take_none es k h)) s

pub surveyed-blank : (T : Lists) (M : Marking) (ss : List Spot) (cs : List Bool) → ((p l : ℕ) → spot_at ss p l ≡ nowhere) → ((p : ℕ) → chaotic_at cs p ≡ false) → Surveyed T M [] ss cs
surveyed-blank T M ss cs a b = record {
  acting = λ p l hp hl. ap (λ s. s.acting) (a p l);
  guards = λ p l hp hl. ap (λ s. s.guard_marked) (a p l);
  handled = λ p l n hp hl hn. ap (λ s. bit s.handled n) (a p l) ∙ bit-zero n;
  chaos = λ p hp. b p;
}

-- how a survey grows by an edge
pub ruleset seeing = (surveyed-more, surveyed-none, surveyed-blank, take_all)
