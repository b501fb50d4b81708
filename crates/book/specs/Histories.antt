-- What holds of a book after whatever calls on a new one, in any order and refused ones among them.
--   Entry              a call, the room that it was lent, and its answer
--   Follows s es t     the calls es on the book s, one after the other, were answered as es says and left t
--   is_accepted r      the answer is no refusal
--   is_edit, is_mark   an accepted edit; an accepted marking
--   MarkedSince es     the book was marked, and since then no edit was accepted
--   built T es         the lists T after the accepted edits among es
--   Kept T o           marks that are kept are the least of the lists as they are, and the lists pass the test
--   Told es t          what holds of a new book after the calls es, which left t
--   Histories t        what holds of t, whatever calls led there from a new book
--   ClosesAs es T C    closing after the calls es means C: the closed table of T where ready would pass, and else T
use Rattle.std.specs.Prelude.{◌≡◌, ℕ, Bool, true, false, cond, ◌&&◌, ◌↔◌, List, [], ◌∷◌, ◌++◌, is_some, is_ok, Some, None, Option, Result}
use Rattle.std.specs.List.{list_any}
use Rattle.book.specs.Calls.{Pages, Room, Call, edit, mark, ready, close, empty, edited, Does}
use Rattle.marks.specs.Rules.{Marking, Least}
use Rattle.refusal.specs.declared.fault.Refusal.{Refusal}
use Rattle.rules.specs.Closing.{test_refused}
use Rattle.rules.specs.Promise.{ClosedBy}
use Rattle.table.specs.Lists.{Lists}

pub record Entry : Type 0 where
  pub room : Room
  pub call : Call
  pub answer : Result ℕ Refusal

unfoldable pub Follows : Pages → List Entry → Pages → Type 0
Follows s [] t = t ≡ s
Follows s (e ∷ es) t = (u : Pages) × Does e.room e.call s e.answer u × Follows u es t

abbrev edits : Call → Bool
edits (edit x) = true
edits mark = false
edits ready = false
edits close = false

abbrev marks : Call → Bool
marks (edit x) = false
marks mark = true
marks ready = false
marks close = false

abbrev pub is_edit : Entry → Bool
is_edit e = edits e.call && is_ok e.answer

abbrev pub is_mark : Entry → Bool
is_mark e = marks e.call && is_ok e.answer

pub record MarkedSince (es : List Entry) : Type 0 where
  pub before : List Entry
  pub marking : Entry
  pub since : List Entry
  pub split : es ≡ before ++ marking ∷ since
  pub marked : is_mark marking ≡ true
  pub unedited : list_any is_edit since ≡ false

abbrev pub change : Call → Lists → Lists
change (edit x) T = edited x T
change mark T = T
change ready T = T
change close T = T

unfoldable pub built : Lists → List Entry → Lists
built T [] = T
built T (e ∷ es) = built (cond (is_ok e.answer) (change e.call T) T) es

abbrev pub Kept : Lists → Option Marking → Type 0
Kept T o = (M : Marking) → o ≡ Some M → Least T M × (test_refused T M ≡ None)

pub record Told (es : List Entry) (t : Pages) : Type 0 where
  pub lists : t.lists ≡ built empty.lists es
  pub marked : (is_some t.kept ≡ true) ↔ MarkedSince es
  pub kept : Kept t.lists t.kept

abbrev pub Histories : Pages → Type 0
Histories t = (es : List Entry) → Follows empty es t → Told es t

pub record ClosesAs (es : List Entry) (T C : Lists) : Type 0 where
  pub ready : MarkedSince es → ClosedBy T C
  pub unready : (MarkedSince es → ⊥) → C ≡ T
