-- What closing did to a sheet, as text. T is the open table and C the closed one; e is an edge before, f the same after.
--   name_text c        how the change c is called
--   did c e f          closing did c to the edge
--   edge_text c T C k  the number of edge k, if closing did c to it
--   changed_text c T C the line of the edges that closing did c to
--   name_of r          the characters of a name, if there is one
--   timer_text r n m   a chaos timer by the name r of its process and its number n, if the process has n timers before and m after
--   timers_text ns T C the line of the chaos timers, where the processes have the names ns
--   parts_text T, counts_text T C, marks_text T M   the lines that count processes and signals, edges, and marks
--   before_text o C M  the lines before those of the edges
--   summary_text o C M all lines, of the sheet that was opened as o
--   Summarised bs t    t is the summary of the sheet bs and its closed table
use Rattle.std.specs.Prelude.{◌≡◌, ℕ, Bool, false, cond, not, ◌&&◌, List, [], ◌++◌, length, take, codes, decimal, encode_utf8, sum_by, Some, None, Ok, Option, ◌==◌}
use Rattle.std.specs.List.{slice_get, range_with_len, flat_map}
use Rattle.marks.specs.Instances.{of_process, process_at}
use Rattle.marks.specs.Rules.{Marking, Least}
use Rattle.marks.specs.Words.{total}
use Rattle.reading.specs.Opening.{Opened, opened}
use Rattle.rules.specs.Closing.{closed}
use Rattle.sealing.specs.declared.summary.Change.{Change}
use Rattle.table.specs.Lists.{Lists}
use Rattle.table.specs.declared.record.Edge.{Edge}
use Rattle.table.specs.declared.record.Span.{Span}

abbrev pub name_text : Change → List ℕ
name_text Change.Awaiting = codes "awaiting chaos"
name_text Change.Skipped = codes "skipped"
name_text Change.Emptied = codes "emptied"
name_text Change.Opened = codes "opened"

abbrev pub same_span : Span → Span → Bool
same_span s t = s.start == t.start && s.count == t.count

-- kinds 6 and 7 are rearm and skip
abbrev pub did : Change → Edge → Edge → Bool
did Change.Awaiting e f = not (e.kind == f.kind) && f.kind == 6
did Change.Skipped e f = not (e.kind == f.kind) && f.kind == 7
did Change.Emptied e f = e.kind == f.kind && not (same_span e.value f.value)
did Change.Opened e f = not (e.mode == f.mode)

abbrev pub did_to : Change → Option Edge → Option Edge → Bool
did_to c (Some e) (Some f) = did c e f
did_to c (Some e) None = false
did_to c None (Some f) = false
did_to c None None = false

abbrev pub edge_text : Change → Lists → Lists → ℕ → List ℕ
edge_text c T C k = cond (did_to c (slice_get T.edges k) (slice_get C.edges k)) (codes " " ++ decimal k) []

abbrev pub changed_text : Change → Lists → Lists → List ℕ
changed_text c T C = (name_text c ++ codes ":") ++ (flat_map (edge_text c T C) (range_with_len 0 (length T.edges)) ++ codes "\n")

abbrev pub name_of : Option (ℕ × List ℕ) → List ℕ
name_of (Some n) = flat_map encode_utf8 n.1
name_of None = []

abbrev pub timer_text : List ℕ → ℕ → ℕ → List ℕ
timer_text name n m = cond (m == n) [] ((codes " " ++ name) ++ (codes " t" ++ decimal n))

abbrev pub timer_at : List (ℕ × List ℕ) → Lists → Lists → ℕ → List ℕ
timer_at names T C p = timer_text (name_of (slice_get names p)) (process_at T p).timers (process_at C p).timers

abbrev pub timers_text : List (ℕ × List ℕ) → Lists → Lists → List ℕ
timers_text names T C = codes "chaos timers:" ++ (flat_map (timer_at names T C) (range_with_len 0 (length T.processes)) ++ codes "\n")

abbrev pub parts_text : Lists → List ℕ
parts_text T = decimal (length T.processes) ++ (codes " processes, " ++ (decimal (length T.signals) ++ codes " signals\n"))

abbrev pub counts_text : Lists → Lists → List ℕ
counts_text T C = decimal (length T.edges) ++ (codes " edges, closed " ++ (decimal (length C.edges) ++ codes "\n"))

abbrev pub marks_text : Lists → Marking → List ℕ
marks_text T M = decimal (total M) ++ (codes " of " ++ (decimal (sum_by of_process (take 8 T.processes)) ++ codes " instances marked\n"))

abbrev pub before_text : Opened → Lists → Marking → List ℕ
before_text o C M = ((parts_text o.lists ++ counts_text o.lists C) ++ marks_text o.lists M) ++ timers_text o.process_names o.lists C

abbrev pub summary_text : Opened → Lists → Marking → List ℕ
summary_text o C M =
    (((before_text o C M ++ changed_text Change.Awaiting o.lists C) ++ changed_text Change.Skipped o.lists C) ++ changed_text Change.Emptied o.lists C) ++ changed_text Change.Opened o.lists C

pub record Summarised (bs text : List ℕ) : Type 0 where
  pub holds : Opened
  pub opens : opened bs ≡ Ok holds
  pub marks : Marking
  pub least : Least holds.lists marks
  pub says : text ≡ summary_text holds (closed holds.lists marks) marks
