-- The number, layer and place of every refusal of a call on a book.
--   book_refusal f     an edge's, the test's and a table's refusal stay as they are
--   said r             what a call answers that gives a number
--   done r             what a call answers that gives nothing
use Rattle.std.specs.Prelude.{ℕ, Result}
use Rattle.std.specs.Result.{result_map_both}
use Rattle.book.specs.Calls.{book_at, table_at}
use Rattle.book.specs.declared.fault.BookFault.{BookFault}
use Rattle.book.specs.declared.fault.BookFault.TheVariants.{Limit, Edge, Test, Expression, Full, NoEdge, Unmarked}
use Rattle.closing.specs.Faults.{test_refusal}
use Rattle.refusal.specs.Refusals.{edge_refusal}
use Rattle.refusal.specs.declared.fault.Refusal.{Refusal}

abbrev pub book_refusal : BookFault → Refusal
book_refusal (Limit k) = table_at k
book_refusal (Edge b) = edge_refusal b
book_refusal (Test f) = test_refusal f
book_refusal (Expression k) = book_at 9 k
book_refusal (Full k) = book_at 15 k
book_refusal (NoEdge k) = book_at 16 k
book_refusal Unmarked = book_at 17 0

abbrev pub said : Result ℕ BookFault → Result ℕ Refusal
said r = result_map_both (λ n. n) book_refusal r

abbrev pub done : Result Unit BookFault → Result ℕ Refusal
done r = result_map_both (λ _. 0) book_refusal r
