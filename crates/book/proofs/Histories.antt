-- What holds of a book after whatever calls on a new one.
use Rattle.std.proofs.Common.{◌≡◌, ℕ, Bool, true, false, cond, not, List, [], ◌∷◌, ◌++◌, is_some, is_ok, IfSome, IfOk, IfErr, IsOk, ◌↔◌, Some, None, Ok, Err, Option, Result, sym, refl, ap, ◌∙◌, subst, inl, inr, ◌⊎◌, ⊎_elim}
use Rattle.std.proofs.lemmas.Bool.{both_ways, or_from, or_parts}
use Rattle.std.specs.List.{list_any}
use Rattle.book.specs.Books.{shut, Dealt}
use Rattle.book.specs.Calls.{book_at, when, Pages, Room, Call, Gives, Does, edit, mark, ready, close, empty, edit_refused, number, ready_refused}
use Rattle.book.specs.Histories.{Entry, Follows, MarkedSince, Told, Kept, Histories, is_edit, is_mark, built, change, ClosesAs}
use Rattle.book.specs.declared.fault.BookFault.{BookFault}
use Rattle.marks.specs.Rules.{Marking, Least}
use Rattle.marks.specs.Words.{total}
use Rattle.refusal.specs.declared.fault.Refusal.{Refusal}
use Rattle.rules.proofs.Examined.{table-passes}
use Rattle.table.proofs.Passing.{none-some}
use Rattle.rules.proofs.Runs.{stands-in, verdict}
use Rattle.rules.specs.Closing.{closed, closed_count, test_refused}
use Rattle.rules.specs.Promise.{Marked, Measured}
use Rattle.rules.specs.Steps.{answer}
use Rattle.table.specs.Lists.{Lists}

-- what one call makes of whether marks are kept
abbrev pub after : Bool → Entry → Bool
after b e = cond (is_edit e) false (cond (is_mark e) true b)

unfoldable pub standing : Bool → List Entry → Bool
standing b [] = b
standing b (e ∷ es) = standing (after b e) es

-- one call
record Kept_so (R : Room) (c : Call) (s : Pages) (r : Result ℕ Refusal) (t : Pages) : Type 0 where
  kept : Kept s.lists s.kept → Kept t.lists t.kept
  stands : is_some t.kept ≡ after (is_some s.kept) (record { room = R; call = c; answer = r })
  lists : t.lists ≡ cond (is_ok r) (change c s.lists) s.lists

unaccepted : (b : Bool) (R : Room) (c : Call) (f : Refusal) → after b (record { room = R; call = c; answer = Err f }) ≡ b
unaccepted b R (edit x) f = refl
unaccepted b R mark f = refl
unaccepted b R ready f = refl
unaccepted b R close f = refl

refused : {R : Room} {c : Call} {s t : Pages} {r : Result ℕ Refusal} (f : Refusal) → r ≡ Err f → t ≡ s → Kept_so R c s r t
refused {R} {c} {s} {t} {r} f e d =
    subst (λ (u : Pages). Kept_so R c s r u) (sym d) (subst (λ (q : Result ℕ Refusal). Kept_so R c s q s) (sym e) (record { kept = λ k. k; stands = sym (unaccepted (is_some s.kept) R c f); lists = refl }))

accepted : {R : Room} (c : Call) {s new : Pages} (n : ℕ) → (Kept s.lists s.kept → Kept new.lists new.kept) → is_some new.kept ≡ after (is_some s.kept) (record { room = R; call = c; answer = Ok n }) → new.lists ≡ change c s.lists →
    (f : Option Refusal) {r : Result ℕ Refusal} {t : Pages} → Gives f n new s r t → Kept_so R c s r t
accepted c n k a l (Some f) g = refused f g.says g.leaves
accepted {R} c {s} {new} n k a l None {r} {t} g =
    subst (λ (u : Pages). Kept_so R c s r u) (sym g.leaves) (subst (λ (q : Result ℕ Refusal). Kept_so R c s q new) (sym g.says) (record { kept = k; stands = a; lists = l }))

marked-so : {R : Room} {s : Pages} (M : Marking) → Marked s.lists M → (f : Option Refusal) → test_refused s.lists M ≡ f → {r : Result ℕ Refusal} {t : Pages} → Gives f (total M) (record { lists = s.lists; kept = Some M }) s r t → Kept_so R mark s r t
marked-so M m (Some f) e g = refused f g.says g.leaves
marked-so {R} {s} M m None e g =
    accepted mark (total M) (λ _. kept-marks) refl refl None g
  where
    kept-marks : Kept s.lists (Some M)
    kept-marks N h = subst (λ (o : Option Marking). IfSome o (λ K. Least s.lists K × (test_refused s.lists K ≡ None))) h (m (table-passes s.lists M e), e)

one-call : (R : Room) (c : Call) (s : Pages) (r : Result ℕ Refusal) (t : Pages) → Does R c s r t → Kept_so R c s r t
unfolding Does
one-call R (edit x) s r t d =
    accepted (edit x) (number s.lists x) (λ _ M h. none-some M h) refl refl (edit_refused R s.lists x) d
one-call R mark s r t d = marked-so d.0 d.1 (test_refused s.lists d.0) refl d.2
one-call R ready s r t d = accepted ready 0 (λ k. k) refl refl (ready_refused s) d
one-call R close s r t d = accepted close 0 (λ k. k) refl refl None d

-- many calls

pub many : (s : Pages) (es : List Entry) (t : Pages) → Follows s es t → Kept s.lists s.kept → Kept t.lists t.kept × (is_some t.kept ≡ standing (is_some s.kept) es) × (t.lists ≡ built s.lists es)
unfolding Follows standing built
many s [] t h k = (subst (λ (u : Pages). Kept u.lists u.kept) (sym h) k, ap (λ (u : Pages). is_some u.kept) h, ap (λ (u : Pages). u.lists) h)
many s (e ∷ es) t h k =
    let one = one-call e.room e.call s e.answer h.0 h.1 in
    let rest = many h.0 es t h.2 (one.kept k) in
    (rest.0, rest.1 ∙ ap (λ b. standing b es) one.stands, rest.2 ∙ ap (λ T. built T es) one.lists)

-- more calls after those
pub follows-append : (s : Pages) (xs : List Entry) (u : Pages) (ys : List Entry) (t : Pages) → Follows s xs u → Follows u ys t → Follows s (xs ++ ys) t
unfolding Follows
follows-append s [] u ys t h k = subst (λ v. Follows v ys t) h k
follows-append s (x ∷ xs) u ys t h k = (h.0, h.1, follows-append h.0 xs u ys t h.2 k)

-- an accepted marking is no edit

marks-only : (R : Room) (c : Call) (r : Result ℕ Refusal) → is_mark (record { room = R; call = c; answer = r }) ≡ true → is_edit (record { room = R; call = c; answer = r }) ≡ false
marks-only R (edit x) r h = absurd (both_ways false refl h)
marks-only R mark r h = refl
marks-only R ready r h = refl
marks-only R close r h = refl

later : {e : Entry} {es : List Entry} → MarkedSince es → MarkedSince (e ∷ es)
later {e} m = record { before = e ∷ m.before; marking = m.marking; since = m.since; split = ap (λ xs. e ∷ xs) m.split; marked = m.marked; unedited = m.unedited }

-- it stands because it was marked since, or because it stood and nothing was edited
pub stood : (b : Bool) (es : List Entry) → standing b es ≡ true → MarkedSince es ⊎ ((b ≡ true) × (list_any is_edit es ≡ false))
unfolding standing
stood b [] h = inr (h, refl)
stood b (e ∷ es) h = ⊎_elim (λ (m : MarkedSince es). inl (later m)) (λ (q : (after b e ≡ true) × (list_any is_edit es ≡ false)). by (is_edit e) refl (is_mark e) refl q) (stood (after b e) es h)
  where
    by : (x : Bool) → is_edit e ≡ x → (y : Bool) → is_mark e ≡ y → (after b e ≡ true) × (list_any is_edit es ≡ false) → MarkedSince (e ∷ es) ⊎ ((b ≡ true) × (list_any is_edit (e ∷ es) ≡ false))
    by x p true q r = inl (record { before = []; marking = e; since = es; split = refl; marked = q; unedited = r.1 })
    by true p false q r = absurd (both_ways (after b e) (ap (λ x. cond x false (cond (is_mark e) true b)) p) r.0)
    by false p false q r =
        let same : after b e ≡ b = ap (λ x. cond x false (cond (is_mark e) true b)) p ∙ ap (λ y. cond y true b) q in
        inr (sym same ∙ r.0, or_from (is_edit e) (list_any is_edit es) p r.1)

cond-same : (b : Bool) → cond b true true ≡ true
cond-same true = refl
cond-same false = refl

unedited-stands : (es : List Entry) → list_any is_edit es ≡ false → standing true es ≡ true
unfolding standing
unedited-stands [] h = refl
unedited-stands (e ∷ es) h =
    let p = or_parts (is_edit e) (list_any is_edit es) h in
    let kept : after true e ≡ true = ap (λ x. cond x false (cond (is_mark e) true true)) p.0 ∙ cond-same (is_mark e) in
    ap (λ b. standing b es) kept ∙ unedited-stands es p.1

standing-append : (b : Bool) (xs ys : List Entry) → standing b (xs ++ ys) ≡ standing (standing b xs) ys
unfolding standing
standing-append b [] ys = refl
standing-append b (x ∷ xs) ys = standing-append (after b x) xs ys

pub since-stands : (b : Bool) (es : List Entry) → MarkedSince es → standing b es ≡ true
unfolding standing
since-stands b es m =
    let B = standing b m.before in
    let kept : after B m.marking ≡ true =
    ap (λ x. cond x false (cond (is_mark m.marking) true B)) (marks-only m.marking.room m.marking.call m.marking.answer m.marked) ∙ ap (λ y. cond y true B) m.marked in
    ap (standing b) m.split ∙ standing-append b m.before (m.marking ∷ m.since) ∙ ap (λ x. standing x m.since) kept ∙ unedited-stands m.since m.unedited

pub histories : (t : Pages) → Histories t
histories t es h =
    let m = many empty es t h (λ M e. none-some M e) in
    record {
      lists = m.2;
      marked = (λ k. ⊎_elim (λ (x : MarkedSince es). x) (λ (q : (false ≡ true) × (list_any is_edit es ≡ false)). absurd (both_ways false refl q.0)) (stood false es (sym m.1 ∙ k)), λ x. m.1 ∙ since-stands false es x);
      kept = m.0;
    }

-- what closing means: the closed table by the kept marks, and the book as it is where there are none
pub closes_as : (t : Pages) (C : Lists) (f : Option Refusal) → f ≡ None → C ≡ shut f t.kept t.lists → (es : List Entry) → Follows empty es t → ClosesAs es t.lists C
closes_as t C f none h es follows = by t.kept refl (histories t es follows)
  where
    lent : C ≡ shut None t.kept t.lists
    lent = h ∙ ap (λ (g : Option Refusal). shut g t.kept t.lists) none

    by : (o : Option Marking) → t.kept ≡ o → Told es t → ClosesAs es t.lists C
    by None e told = record {
      ready = λ m. absurd (both_ways (is_some t.kept) (ap is_some e) (told.marked.1 m));
      unready = λ _. lent ∙ ap (λ (o : Option Marking). shut None o t.lists) e;
    }
    by (Some M) e told =
        let kept = told.kept M e in
        let means = lent ∙ ap (λ (o : Option Marking). shut None o t.lists) e in
        record {
          ready = λ _. record {
            marks = M;
            least = kept.0;
            passes = kept.1;
            meaning = means ∙ ap (λ (g : Option Refusal). cond (is_some g) t.lists (closed t.lists M)) kept.1;
            stands_in = stands-in t.lists M kept.1 kept.0.obeys;
            verdict = verdict t.lists M kept.1 kept.0.obeys;
          };
          unready = λ no. absurd (no (told.marked.0 (ap is_some e)));
        }

-- ready says whether marks are kept

pub ready_law : (t : Pages) (r : Result (Unit {0}) BookFault) → is_ok r ≡ is_some t.kept → (es : List Entry) → Follows empty es t → IsOk r ↔ MarkedSince es
ready_law t r h es follows =
    let marked = (histories t es follows).marked in
    (λ k. marked.0 (sym h ∙ k), λ m. h ∙ marked.1 m)

pub ready_refused_as : (R : Room) (t : Pages) → t.kept ≡ None → Does R ready t (Err (book_at 17 0)) t
unfolding Does
ready_refused_as R t h =
    subst (λ (o : Option Marking). Gives (when (not (is_some o)) (book_at 17 0)) 0 t t (Err (book_at 17 0)) t) (sym h) (record { says = refl; leaves = refl })

pub ready_accepted_as : (R : Room) (t : Pages) (M : Marking) → t.kept ≡ Some M → Does R ready t (Ok 0) t
unfolding Does
ready_accepted_as R t M h =
    subst (λ (o : Option Marking). Gives (when (not (is_some o)) (book_at 17 0)) 0 t t (Ok 0) t) (sym h) (record { says = refl; leaves = refl })

pub ruleset ready_call = (ready_refused_as, ready_accepted_as)

-- a marking, by what was measured

pub mark_refused_as : (short : Option Refusal) (R : Room) (s : Pages) (r : Refusal) → short ≡ None → Measured s.lists (Err r) → Dealt short R mark s (Err r) s
unfolding Does
mark_refused_as short R s r lent m = record { lent = λ _. (m.marks, m.least, by (test_refused s.lists m.marks) m.says); unlent = λ f e. none-some f (sym lent ∙ e) }
  where
    by : (f : Option Refusal) → ◌≡◌ {A = Result (Marking × ℕ) Refusal} (Err r) (answer f (m.marks, closed_count s.lists m.marks)) → Gives f (total m.marks) (record { lists = s.lists; kept = Some m.marks }) s (Err r) s
    by None h = absurd (both_ways false refl (ap is_ok h))
    by (Some f) h = record { says = subst (λ (x : Result (Marking × ℕ) Refusal). IfErr x (λ g. ◌≡◌ {A = Result ℕ Refusal} (Err r) (Err g))) h refl; leaves = refl }

pub mark_accepted_as : (short : Option Refusal) (R : Room) (s : Pages) (M : Marking) (n : ℕ) → short ≡ None → Measured s.lists (Ok (M, n)) → Dealt short R mark s (Ok (total M)) (record { lists = s.lists; kept = Some M })
unfolding Does
mark_accepted_as short R s M n lent m = record { lent = λ _. (m.marks, m.least, by (test_refused s.lists m.marks) m.says); unlent = λ f e. none-some f (sym lent ∙ e) }
  where
    by : (f : Option Refusal) → ◌≡◌ {A = Result (Marking × ℕ) Refusal} (Ok (M, n)) (answer f (m.marks, closed_count s.lists m.marks)) → Gives f (total m.marks) (record { lists = s.lists; kept = Some m.marks }) s (Ok (total M)) (record { lists = s.lists; kept = Some M })
    by (Some f) h = absurd (both_ways true (ap is_ok h) refl)
    by None h =
        let same : M ≡ m.marks = subst (λ (x : Result (Marking × ℕ) Refusal). IfOk x (λ y. M ≡ y.0)) h refl in
        record { says = ap (λ N. Ok (total N)) same; leaves = ap (λ (N : Marking). record { lists = s.lists; kept = Some N }) same }

pub ruleset marking_call = (histories, mark_refused_as, mark_accepted_as)
