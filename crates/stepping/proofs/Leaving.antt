-- What leaves a location: two tests in one pass. And the value of an edge that has none.
use Rattle.std.proofs.Common.{◌≡◌, ℕ, ◌+◌, Bool, true, false, not, ◌&&◌, ◌||◌, List, [], ◌∷◌, ℤ, pos, drop, Some, None, unwrap_or, sym, refl, ap, ◌∙◌, arith}
use Rattle.std.proofs.lemmas.Bool.Decides.{nat_tests}
use Rattle.std.specs.List.{slice_get, list_any}
use Rattle.evaluation.specs.Values.{value_of}
use Rattle.rules.specs.States.{waiting, takes_signal}
use Rattle.rules.specs.Steps.{untaken, value_in}
use Rattle.rules.specs.declared.step.Message.{Message}
use Rattle.table.specs.Examination.{leaves, acts, some}
use Rattle.table.specs.Lists.{Lists}
use Rattle.table.specs.declared.record.Edge.{Edge}
use Rattle.table.proofs.Passing.{none-some}
use Rattle.table.proofs.Windows.{drop-some}
use Rattle.loading.specs.Following.{leaving}

-- an edge that does not pass is none of those that do
pub any-later : (h : Edge → Bool) (es : List Edge) (k : ℕ) (e : Edge) → slice_get es k ≡ Some e → h e ≡ false → list_any h (drop k es) ≡ list_any h (drop (k + 1) es)
any-later h es k e there f = ap (list_any h) (drop-some es k e there) ∙ ap (λ b. b || list_any h (drop (k + 1) es)) f

pub not-leaving : (p l : ℕ) (f : Edge → Bool) (e : Edge) → leaving p l e ≡ false → leaves p l f e ≡ false
not-leaving p l f e h = ap (λ b. b && f e) h

-- either of two tests, in one pass
any_either : (f g : Edge → Bool) (p l : ℕ) (es : List Edge) → list_any (leaves p l (λ e. f e || g e)) es ≡ (list_any (leaves p l f) es || list_any (leaves p l g) es)
any_either f g p l [] = refl
any_either f g p l (e ∷ es) = rw (any_either f g p l es) (grind arith)

pub some_either : (T : Lists) (f g : Edge → Bool) (p l : ℕ) → some T (λ e. f e || g e) p l ≡ (some T f p l || some T g p l)
some_either T f g p l = any_either f g p l T.edges

not_either : (a b : Bool) → not (a || b) ≡ (not a && not b)
not_either true b = refl
not_either false b = refl

pub waiting_and_none : (T : Lists) (g : Edge → Bool) (p l : ℕ) → not (some T (λ e. acts e || g e) p l) ≡ (waiting T p l && not (some T g p l))
waiting_and_none T g p l = ap not (some_either T acts g p l) ∙ not_either (some T acts p l) (some T g p l)

pub value_empty : (T : Lists) (vars : List ℤ) (e : Edge) → unwrap_or (value_of vars T.terms e.value) (pos 0) ≡ value_in T vars e
unfolding value_of value_in
value_empty T vars e = grind (arith, nat_tests)

-- a head that no input takes
pub untaken_none : (T : Lists) (p l : ℕ) (q : List Message) → slice_get q 0 ≡ None → untaken T p l q ≡ false
untaken_none T p l [] h = refl
untaken_none T p l (m ∷ ms) h = none-some m (sym h)

pub untaken_some : (T : Lists) (p l : ℕ) (q : List Message) (x : Message) → slice_get q 0 ≡ Some x → untaken T p l q ≡ not (some T (takes_signal x.signal) p l)
untaken_some T p l [] x h = none-some x h
untaken_some T p l (m ∷ ms) x h = let e : m ≡ x = cc in ap (λ (y : Message). not (some T (takes_signal y.signal) p l)) e
