-- What a book in the code is, with the memories that a call is lent.
--   plain t            the term t; no table has an operation above 15
--   lists_of b es ts   the four lists of the book b, whose edges and terms lie in es and ts
--   pages b es ts      the book as the rules see it
--   room es ts         the room that the memories have
--   lack n xs          the first of n items for which the memory xs has no place
--   lacking b es ts    15 where a memory is shorter than what the book has in it, at the lower place
--   shut f o T         what closing T means: by the marks o that are kept, if any, and as it is where memory lacks
--   Dealt ..           a call that is lent enough does as the rules say, and another is refused with 15
--   Whole b es ts      nothing lacks: b counts just the edges and terms of its lists, and is the same book in any memories
--                      that begin as these do, however long they are
use Rattle.std.specs.Prelude.{◌≡◌, ℕ, min, cond, List, map, length, take, Some, None, Err, Option, Result, nat_lt}
use Rattle.std.specs.Option.{option_map}
use Rattle.book.specs.Calls.{Pages, Room, Call, Does, book_at}
use Rattle.book.specs.declared.book.Book.{Book}
use Rattle.marks.specs.Rules.{Marking}
use Rattle.marks.specs.Words.{marking}
use Rattle.refusal.specs.declared.fault.Refusal.{Refusal}
use Rattle.rules.specs.Closing.{closed_by}
use Rattle.table.specs.Lists.{Lists, meant}
use Rattle.table.specs.declared.record.Edge.{Edge}
use Rattle.table.specs.declared.record.Term.{Term}

abbrev pub plain : Term → Term
plain t = record { operation = min t.operation 15; argument = t.argument }

unfoldable pub lists_of : Book → List Edge → List Term → Lists
lists_of b es ts = record {
  processes = map meant b.processes.items;
  signals = b.signals.items;
  edges = take b.edges es;
  terms = map plain (take b.terms ts);
}

abbrev pub pages : Book → List Edge → List Term → Pages
pages b es ts = record { lists = lists_of b es ts; kept = option_map marking b.marks }

abbrev pub room : List Edge → List Term → Room
room es ts = record { edges = length es; terms = length ts }

abbrev pub lack : {A : Type 0} → ℕ → List A → Option ℕ
lack n xs = cond (nat_lt (length xs) n) (Some (length xs)) None

abbrev lower : Option ℕ → Option ℕ → Option ℕ
lower None b = b
lower (Some a) None = Some a
lower (Some a) (Some b) = Some (min a b)

abbrev pub lacking : Book → List Edge → List Term → Option Refusal
lacking b es ts = option_map (book_at 15) (lower (lack b.edges es) (lack b.terms ts))

pub record Dealt (short : Option Refusal) (R : Room) (c : Call) (s : Pages) (r : Result ℕ Refusal) (t : Pages) : Type 0 where
  pub lent : short ≡ None → Does R c s r t
  pub unlent : (f : Refusal) → short ≡ Some f → r ≡ Err f

pub record Whole (b : Book) (es : List Edge) (ts : List Term) : Type 0 where
  pub edges : b.edges ≡ length (lists_of b es ts).edges
  pub terms : b.terms ≡ length (lists_of b es ts).terms
  pub lent : lacking b es ts ≡ None
  pub elsewhere : (us : List Edge) (vs : List Term) → take b.edges us ≡ take b.edges es → take b.terms vs ≡ take b.terms ts → (lacking b us vs ≡ None) × (pages b us vs ≡ pages b es ts)

abbrev pub shut : Option Refusal → Option Marking → Lists → Lists
shut (Some f) o T = T
shut None None T = T
shut None (Some M) T = closed_by T M
