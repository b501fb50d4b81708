-- The listing of the marks of a sheet, as text.
--   each_from f i n      what f gives for the n numbers from i on, one after the other
--   line p l c n         a line: process, location, and the instance as its letter c and number
--   instance_text m ..   that line where the instance is marked, else nothing
--   sort_text s M p l n  the line of variable or timer n
--   location_text M r p l the lines of location l of process p, whose record is r: variables, then timers
--   listing_text T M     the lines of the table T in order, and a last one with both counts
--   refused_of r         the refusal of a sheet that opens as r: that of opening it, else that of its table's examination
--   refused_by bs        the refusal of the sheet bs
--   Listed bs text       the sheet bs opens, its table passes the examination, and text lists the least marks of that
use Rattle.std.specs.Prelude.{◌≡◌, ℕ, zero, suc, ◌+◌, Bool, cond, List, [], ◌++◌, length, take, Some, None, Ok, Err, codes, decimal, sum_by, Option, Result, slice_index_or}
use Rattle.marks.specs.Instances.{of_process}
use Rattle.marks.specs.Rules.{Marking, Least}
use Rattle.marks.specs.Words.{is_marked, letter, total}
use Rattle.marks.specs.declared.marks.Sort.{Sort}
use Rattle.marks.specs.declared.marks.Sort.TheVariants.{Variable, Timer}
use Rattle.reading.specs.Opening.{Opened, opened}
use Rattle.table.specs.Edges.{blank}
use Rattle.table.specs.Examination.{examined}
use Rattle.table.specs.Lists.{Lists, Proc}
use Rattle.refusal.specs.declared.fault.Refusal.{Refusal}

unfoldable pub each_from : (ℕ → List ℕ) → ℕ → ℕ → List ℕ
each_from f i zero = []
each_from f i (suc n) = f i ++ each_from f (i + 1) n

abbrev pub line : ℕ → ℕ → List ℕ → ℕ → List ℕ
line p l c n = decimal p ++ (codes " " ++ (decimal l ++ (codes " " ++ (c ++ (decimal n ++ codes "\n")))))

abbrev pub instance_text : Bool → ℕ → ℕ → List ℕ → ℕ → List ℕ
instance_text m p l c n = cond m (line p l c n) []

abbrev pub sort_text : Sort → Marking → ℕ → ℕ → ℕ → List ℕ
sort_text s M p l n = instance_text (is_marked s M p l n) p l (letter s) n

abbrev pub location_text : Marking → Proc → ℕ → ℕ → List ℕ
location_text M r p l = each_from (sort_text Variable M p l) 0 r.variables ++ each_from (sort_text Timer M p l) 0 r.timers

abbrev pub process_text : Marking → Proc → ℕ → List ℕ
process_text M r p = each_from (location_text M r p) 0 r.locations

abbrev pub table_text : Lists → Marking → ℕ → List ℕ
table_text T M p = process_text M (slice_index_or T.processes p blank) p

abbrev pub count_text : Lists → Marking → List ℕ
count_text T M = decimal (total M) ++ (codes " of " ++ (decimal (sum_by of_process (take 8 T.processes)) ++ codes "\n"))

abbrev pub listing_text : Lists → Marking → List ℕ
listing_text T M = each_from (table_text T M) 0 (length T.processes) ++ count_text T M

abbrev pub refused_of : Result Opened Refusal → Option Refusal
refused_of (Err r) = Some r
refused_of (Ok c) = examined c.lists

abbrev pub refused_by : List ℕ → Option Refusal
refused_by bs = refused_of (opened bs)

pub record Listed (bs text : List ℕ) : Type 0 where
  pub holds : Opened
  pub opens : opened bs ≡ Ok holds
  pub passes : examined holds.lists ≡ None
  pub marks : Marking
  pub least : Least holds.lists marks
  pub says : text ≡ listing_text holds.lists marks
