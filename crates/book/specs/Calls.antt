-- The calls on a book, and what each does.
--   Pages              a book as the rules see it: its four lists, and the marks it keeps
--   empty              a new book
--   Room               how many edges and terms the memories have room for that a call is lent
--   Edit, Call         the calls
--   book_at n k        refusal n of layer book at place k
--   edge_at n k        refusal n of layer edge at place k
--   table_at k         refusal 3 at place k
--   numbered_edge k    the refusal of an edge's fault, at the number k
--   is_over most room n   n items are more than a list may have, or than its memory has room for
--   bad_terms ts       not 1 to 16 terms, or an operation above 15
--   edit_refused R T x why the edit x of a book with the lists T is refused
--   number T x         the number that an accepted edit answers: that of the first item it adds; 0 for one that adds none
--   edited x T         the lists after an accepted edit
--   ready_refused s    17 where no marks are kept
--   Gives f n new s r t   a call on s answers r and leaves t: refused with f and nothing changed, or n and new
--   Does R c s r t     the call c on the book s, lent memories of room R, answers r and leaves t
use Rattle.std.specs.Prelude.{◌≡◌, ℕ, ◌+◌, min, Bool, cond, not, ◌&&◌, ◌||◌, List, [], ◌∷◌, ◌++◌, length, is_some, Some, None, Option, Result, nat_le, nat_lt, slice_set}
use Rattle.std.specs.List.{list_any, remove}
use Rattle.std.specs.Option.{option_map, option_or}
use Rattle.marks.specs.Rules.{Marking}
use Rattle.marks.specs.Words.{total}
use Rattle.refusal.specs.Refusals.{refusal}
use Rattle.refusal.specs.declared.fault.Layer.{Layer}
use Rattle.refusal.specs.declared.fault.Place.{Place}
use Rattle.refusal.specs.declared.fault.Refusal.{Refusal}
use Rattle.rules.specs.Closing.{test_refused}
use Rattle.rules.specs.Promise.{Marked}
use Rattle.rules.specs.Steps.{answer}
use Rattle.table.specs.Edges.{edge_fault}
use Rattle.table.specs.Examination.{bad_process, bad_signal}
use Rattle.table.specs.Lists.{Lists, Proc}
use Rattle.table.specs.declared.record.Edge.{Edge}
use Rattle.table.specs.declared.record.Signal.{Signal}
use Rattle.table.specs.declared.record.Term.{Term}

pub record Pages : Type 0 where
  pub lists : Lists
  pub kept : Option Marking

abbrev pub empty : Pages
empty = record { lists = record { processes = []; signals = []; edges = []; terms = [] }; kept = None }

pub record Room : Type 0 where
  pub edges : ℕ
  pub terms : ℕ

pub data Edit : Type 0 where
  declare_process : Proc → Edit
  declare_signal : Signal → Edit
  enter_expression : List Term → Edit
  enter_edge : Edge → Edit
  change_edge : ℕ → Edge → Edit
  strike_edge : ℕ → Edit

pub data Call : Type 0 where
  edit : Edit → Call
  mark : Call
  ready : Call
  close : Call

abbrev pub book_at : ℕ → ℕ → Refusal
book_at n k = refusal n Layer.Book (Place.At k)

abbrev pub table_at : ℕ → Refusal
table_at k = refusal 3 Layer.Table (Place.At k)

abbrev pub edge_at : ℕ → ℕ → Refusal
edge_at n k = refusal n Layer.Edge (Place.At k)

abbrev pub when : Bool → Refusal → Option Refusal
when b r = cond b (Some r) None

abbrev pub numbered_edge : ℕ → Lists → Edge → Option Refusal
numbered_edge k T e = option_map (λ n. edge_at n k) (edge_fault T e)

abbrev pub is_over : ℕ → ℕ → ℕ → Bool
is_over most room n = nat_lt (min most room) n

abbrev pub bad_terms : List Term → Bool
bad_terms ts = not (nat_le 1 (length ts) && nat_le (length ts) 16) || list_any (λ t. nat_lt 15 t.operation) ts

unfoldable pub edit_refused : Room → Lists → Edit → Option Refusal
edit_refused R T (declare_process p) =
    option_or (when (bad_process p) (table_at (length T.processes))) (when (nat_lt 8 (length T.processes + 1)) (book_at 15 (length T.processes)))
edit_refused R T (declare_signal s) =
    option_or (when (bad_signal (length T.processes) s) (table_at (length T.signals))) (when (nat_lt 64 (length T.signals + 1)) (book_at 15 (length T.signals)))
edit_refused R T (enter_expression ts) =
    option_or (when (bad_terms ts) (book_at 9 (length T.terms))) (when (is_over 4096 R.terms (length T.terms + length ts)) (book_at 15 (length T.terms)))
edit_refused R T (enter_edge e) =
    option_or (numbered_edge (length T.edges) T e) (when (is_over 2048 R.edges (length T.edges + 1)) (book_at 15 (length T.edges)))
edit_refused R T (change_edge k e) = option_or (numbered_edge k T e) (when (nat_le (length T.edges) k) (book_at 16 k))
edit_refused R T (strike_edge k) = when (nat_le (length T.edges) k) (book_at 16 k)

abbrev pub number : Lists → Edit → ℕ
number T (declare_process p) = length T.processes
number T (declare_signal s) = length T.signals
number T (enter_expression ts) = length T.terms
number T (enter_edge e) = length T.edges
number T (change_edge k e) = 0
number T (strike_edge k) = 0

unfoldable pub edited : Edit → Lists → Lists
edited (declare_process p) T = record { processes = T.processes ++ p ∷ []; signals = T.signals; edges = T.edges; terms = T.terms }
edited (declare_signal s) T = record { processes = T.processes; signals = T.signals ++ s ∷ []; edges = T.edges; terms = T.terms }
edited (enter_expression ts) T = record { processes = T.processes; signals = T.signals; edges = T.edges; terms = T.terms ++ ts }
edited (enter_edge e) T = record { processes = T.processes; signals = T.signals; edges = T.edges ++ e ∷ []; terms = T.terms }
edited (change_edge k e) T = record { processes = T.processes; signals = T.signals; edges = slice_set T.edges k e; terms = T.terms }
edited (strike_edge k) T =
    record { processes = T.processes; signals = T.signals; edges = remove T.edges k; terms = T.terms }

abbrev pub ready_refused : Pages → Option Refusal
ready_refused s = when (not (is_some s.kept)) (book_at 17 0)

pub record Gives (f : Option Refusal) (n : ℕ) (new s : Pages) (r : Result ℕ Refusal) (t : Pages) : Type 0 where
  pub says : r ≡ answer f n
  pub leaves : t ≡ cond (is_some f) s new

unfoldable pub Does : Room → Call → Pages → Result ℕ Refusal → Pages → Type 0
Does R (edit x) s r t =
    Gives (edit_refused R s.lists x) (number s.lists x) (record { lists = edited x s.lists; kept = None }) s r t
Does R mark s r t =
    (M : Marking) × Marked s.lists M × Gives (test_refused s.lists M) (total M) (record { lists = s.lists; kept = Some M }) s r t
Does R ready s r t = Gives (ready_refused s) 0 s s r t
Does R close s r t = Gives None 0 s s r t
