-- Calls keep a book within its limits, and so is what closing it means.
use Rattle.std.proofs.Common.{◌≡◌, ℕ, ◌+◌, ◌≤◌, false, cond, ltb, leb, List, [], ◌∷◌, length, is_some, Some, None, Option, Result, refl, sym, ap, ◌∙◌, subst, arith}
use Rattle.std.proofs.lemmas.Bool.{ltb-false}
use Rattle.std.proofs.lemmas.Bool.Decides.{nat_tests}
use Rattle.std.proofs.lemmas.List.{length-append, length-set}
use Rattle.std.proofs.lemmas.List.Edits.{length-remove}
use Rattle.book.specs.Books.{lists_of, shut}
use Rattle.book.specs.Calls.{Pages, Room, Call, Edit, Does, Gives, bad_terms, book_at, declare_process, declare_signal, change_edge, edit, edit_refused, edited, empty, enter_edge, enter_expression, mark, number, numbered_edge, ready, close, strike_edge, table_at, when}
use Rattle.book.specs.Histories.{Entry, Follows}
use Rattle.book.specs.declared.book.Book.{Book}
use Rattle.bridge.specs.Tables.{size_of}
use Rattle.marks.specs.Rules.{Marking}
use Rattle.refusal.specs.declared.fault.Refusal.{Refusal}
use Rattle.rules.proofs.Examined.{closed-passes, passed}
use Rattle.rules.specs.Closing.{closed, test_refused}
use Rattle.table.proofs.Passing.{cond-none, none-parts}
use Rattle.table.specs.Examination.{bad_process, bad_signal, too_many}
use Rattle.table.specs.Lists.{Lists}
use Rattle.table.specs.declared.record.Edge.{Edge}
use Rattle.table.specs.declared.record.Term.{Term}

-- the lists are no longer than they may be
pub record Few (T : Lists) : Type 0 where
  pub processes : length T.processes ≤ 8
  pub signals : length T.signals ≤ 64
  pub edges : length T.edges ≤ 2048
  pub terms : length T.terms ≤ 4096

pub few-words : (T : Lists) → Few T → size_of T ≤ 16384
few-words T h = omega arith

few-listed : (T : Lists) → too_many T ≡ false → Few T
few-listed T h = record { processes = grind (arith, nat_tests); signals = grind (arith, nat_tests); edges = grind (arith, nat_tests); terms = grind (arith, nat_tests) }

-- what is refused where a list would be longer is not accepted
within : (most n : ℕ) (r : Refusal) → when (ltb most n) r ≡ None → n ≤ most
within most n r h = ltb-false most n (cond-none (ltb most n) r h)

few-edited : (R : Room) (T : Lists) (x : Edit) → edit_refused R T x ≡ None → Few T → Few (edited x T)
unfolding edit_refused edited
few-edited R T (declare_process p) h f =
    let n = within 8 (length T.processes + 1) (book_at 15 (length T.processes)) (none-parts (when (bad_process p) (table_at (length T.processes))) _ h).1 in
    record { processes = omega (arith, length-append T.processes (p ∷ [])); signals = f.signals; edges = f.edges; terms = f.terms }
few-edited R T (declare_signal s) h f =
    let n = within 64 (length T.signals + 1) (book_at 15 (length T.signals)) (none-parts (when (bad_signal (length T.processes) s) (table_at (length T.signals))) _ h).1 in
    record { processes = f.processes; signals = omega (arith, length-append T.signals (s ∷ [])); edges = f.edges; terms = f.terms }
few-edited R T (enter_expression ts) h f =
    let n = within _ (length T.terms + length ts) (book_at 15 (length T.terms)) (none-parts (when (bad_terms ts) (book_at 9 (length T.terms))) _ h).1 in
    record { processes = f.processes; signals = f.signals; edges = f.edges; terms = omega (arith, n, length-append T.terms ts) }
few-edited R T (enter_edge e) h f =
    let n = within _ (length T.edges + 1) (book_at 15 (length T.edges)) (none-parts (numbered_edge (length T.edges) T e) _ h).1 in
    record { processes = f.processes; signals = f.signals; edges = omega (arith, n, length-append T.edges (e ∷ [])); terms = f.terms }
few-edited R T (change_edge k e) h f = record { processes = f.processes; signals = f.signals; edges = omega (arith, length-set T.edges k e); terms = f.terms }
few-edited R T (strike_edge k) h f =
    let n = cond-none (leb (length T.edges) k) (book_at 16 k) h in
    record { processes = f.processes; signals = f.signals; edges = omega (arith, length-remove T.edges k (grind (arith, nat_tests))); terms = f.terms }

few-given : (f : Option Refusal) (n : ℕ) (new s : Pages) (r : Result ℕ Refusal) (t : Pages) → Gives f n new s r t → Few s.lists → (f ≡ None → Few new.lists) → Few t.lists
few-given None n new s r t g few made = subst (λ (u : Pages). Few u.lists) (sym g.leaves) (made refl)
few-given (Some x) n new s r t g few made = subst (λ (u : Pages). Few u.lists) (sym g.leaves) few

few-call : (R : Room) (c : Call) (s : Pages) (r : Result ℕ Refusal) (t : Pages) → Does R c s r t → Few s.lists → Few t.lists
unfolding Does
few-call R (edit x) s r t d few = few-given (edit_refused R s.lists x) (number s.lists x) _ s r t d few (λ h. few-edited R s.lists x h few)
few-call R mark s r t d few = few-given _ _ _ s r t d.2 few (λ _. few)
few-call R ready s r t d few = few-given _ _ _ s r t d few (λ _. few)
few-call R close s r t d few = few-given _ _ _ s r t d few (λ _. few)

few-calls : (s : Pages) (es : List Entry) (t : Pages) → Follows s es t → Few s.lists → Few t.lists
unfolding Follows
few-calls s [] t h few = subst (λ (u : Pages). Few u.lists) (sym h) few
few-calls s (e ∷ es) t h few = few-calls h.0 es t h.2 (few-call e.room e.call s e.answer h.0 h.1 few)

pub few-made : (es : List Entry) (t : Pages) → Follows empty es t → Few t.lists
few-made es t h = few-calls empty es t h (record { processes = omega arith; signals = omega arith; edges = omega arith; terms = omega arith })

pub few-closed : (f : Option Refusal) (o : Option Marking) (T C : Lists) → f ≡ None → C ≡ shut f o T → Few T → Few C
few-closed f o T C none h few = subst Few (sym (h ∙ ap (λ (g : Option Refusal). shut g o T) none)) (by o)
  where
    tested : (M : Marking) (r : Option Refusal) → test_refused T M ≡ r → Few (cond (is_some r) T (closed T M))
    tested M (Some x) e = few
    tested M None e = few-listed (closed T M) (passed (closed T M) (closed-passes T M e)).lists

    by : (o : Option Marking) → Few (shut None o T)
    by None = few
    by (Some M) = tested M (test_refused T M) refl

-- a view has the lists of the book and the memories that it was given
pub viewed : (b d : Book) (es fs : List Edge) (ts us : List Term) → b ≡ d → es ≡ fs → ts ≡ us → lists_of b es ts ≡ lists_of d fs us
viewed b d es fs ts us h k l = rw (h, k, l) refl

pub few-viewed : (b d : Book) (es fs : List Edge) (ts us : List Term) → b ≡ d → es ≡ fs → ts ≡ us → Few (lists_of d fs us) → size_of (lists_of b es ts) ≤ 16384
few-viewed b d es fs ts us h k l few = few-words (lists_of b es ts) (subst Few (sym (viewed b d es fs ts us h k l)) few)
