-- What the calls answer.
--   CountedBy o bs n    n packs the refusal o, or else is the number of the least marks of the table of the sheet bs
--   Counted bs n        the same, o being the refusal of the sheet bs
--   Written xs n old new   xs has n bytes, and new is old with it, if there was room
--   refused_text r      the refusal r on a line of its own
--   Described bs text   text lists the marks of the sheet bs, or says why it is refused
--   Shown bs n old new  such a text has n bytes, and new is old with it, if there was room; or else there was no memory
--   Sealing bs n old new   the sheet bs is closed as a sheet of n bytes, and new is old with it, if there was room; or n packs the refusal
--   Summed bs n         n is the sum over the edges of the closed table of the sheet bs, or packs the refusal
--   RunsTo T W ss n old new   the steps ss made from the world W on: answers and end have n bytes, and new is old with them, if there was room
--   Traced bs ss n old new   the steps ss are made from the start of the table of the sheet bs; or n packs the refusal of the sheet or of the start
--   Made bs n es t      the entries es are the first n calls that bs spells, each lent the room that bs gives, and made on a new book they left t
--   answers_of es      what the entries es answer, as numbers
--   Booked bs n old new   all calls of bs made: the answers, the book and what closing it means have n bytes, and new is old with them, if
--                       there was room
use Rattle.std.specs.Prelude.{◌≡◌, ℕ, ◌⊎◌, List, ◌++◌, codes, length, map, replicate, Some, None, Ok, Err, Option, Result}
use Rattle.book.specs.Calls.{Pages, empty}
use Rattle.book.specs.Histories.{ClosesAs, Entry, Follows}
use Rattle.bridge.specs.Calls.{call_count, calls_to, room_in}
use Rattle.bridge.specs.Codes.{failed, number_code, packed}
use Rattle.bridge.specs.Laid.{fitted, spelled}
use Rattle.bridge.specs.Sums.{checksum}
use Rattle.bridge.specs.Tables.{words_of}
use Rattle.bridge.specs.Traces.{traced}
use Rattle.listing.specs.Listing.{Listed, refused_by}
use Rattle.marks.specs.Rules.{Marking, Least}
use Rattle.marks.specs.Words.{total}
use Rattle.reading.specs.Opening.{Opened, opened}
use Rattle.refusal.specs.Reports.{refusal_text}
use Rattle.refusal.specs.declared.fault.Refusal.{Refusal}
use Rattle.rules.specs.Promise.{ClosedBy}
use Rattle.rules.specs.States.{World, start_refused, started}
use Rattle.sealing.specs.Seals.{SealedAs, RefusedAs}
use Rattle.table.specs.Lists.{Lists}

abbrev pub CountedBy : Option Refusal → List ℕ → ℕ → Type 0
CountedBy (Some r) bs n = n ≡ packed r
CountedBy None bs n = (o : Opened) × (opened bs ≡ Ok o) × (M : Marking) × Least o.lists M × (n ≡ total M)

abbrev pub Counted : List ℕ → ℕ → Type 0
Counted bs n = CountedBy (refused_by bs) bs n

abbrev pub OutOfMemory : ℕ → List ℕ → List ℕ → Type 0
OutOfMemory n old new = (n ≡ failed) × (new ≡ old)

abbrev pub Written : List ℕ → ℕ → List ℕ → List ℕ → Type 0
Written xs n old new = (n ≡ length xs) × (new ≡ fitted xs old)

abbrev pub Refused : Refusal → ℕ → List ℕ → List ℕ → Type 0
Refused r n old new = (n ≡ packed r) × (new ≡ old)

abbrev pub refused_text : Refusal → List ℕ
refused_text r = refusal_text r ++ codes "\n"

abbrev pub Described : List ℕ → List ℕ → Type 0
Described bs text = Listed bs text ⊎ ((r : Refusal) × (refused_by bs ≡ Some r) × (text ≡ refused_text r))

abbrev pub Shown : List ℕ → ℕ → List ℕ → List ℕ → Type 0
Shown bs n old new = ((text : List ℕ) × Described bs text × Written text n old new) ⊎ OutOfMemory n old new

abbrev pub Sealing : List ℕ → ℕ → List ℕ → List ℕ → Type 0
Sealing bs n old new =
    ((vs : List ℕ) × SealedAs bs vs × Written vs n old new) ⊎ ((r : Refusal) × RefusedAs bs r × Refused r n old new)

pub record SummedAs (bs : List ℕ) (n : ℕ) : Type 0 where
  pub holds : Opened
  pub opens : opened bs ≡ Ok holds
  pub meaning : Lists
  pub closed : ClosedBy holds.lists meaning
  pub sum : n ≡ checksum meaning.edges

abbrev pub Summed : List ℕ → ℕ → Type 0
Summed bs n = SummedAs bs n ⊎ ((r : Refusal) × RefusedAs bs r × (n ≡ packed r))

abbrev pub RunsTo : Lists → World → List ℕ → ℕ → List ℕ → List ℕ → Type 0
RunsTo T W ss n old new = Written (spelled (traced T W ss)) n old new

abbrev pub RanBy : Option Refusal → Lists → List ℕ → ℕ → List ℕ → List ℕ → Type 0
RanBy (Some r) T ss n old new = Refused r n old new
RanBy None T ss n old new = RunsTo T (started T 128) ss n old new

abbrev pub TracedBy : Result Opened Refusal → List ℕ → ℕ → List ℕ → List ℕ → Type 0
TracedBy (Err r) ss n old new = Refused r n old new
TracedBy (Ok o) ss n old new = RanBy (start_refused o.lists 128) o.lists ss n old new

abbrev pub Traced : List ℕ → List ℕ → ℕ → List ℕ → List ℕ → Type 0
Traced bs ss n old new = TracedBy (opened bs) ss n old new

pub record Made (bs : List ℕ) (n : ℕ) (es : List Entry) (t : Pages) : Type 0 where
  pub calls : map (λ e. e.call) es ≡ calls_to bs n
  pub lent : map (λ e. e.room) es ≡ replicate n (room_in bs)
  pub follows : Follows empty es t

abbrev pub answers_of : List Entry → List ℕ
answers_of es = map (λ e. number_code e.answer) es

pub record Booked (bs : List ℕ) (n : ℕ) (old new : List ℕ) : Type 0 where
  pub entries : List Entry
  pub book : Pages
  pub made : Made bs (call_count bs) entries book
  pub closed : Lists
  pub closes : ClosesAs entries book.lists closed
  pub written : Written (spelled (answers_of entries ++ words_of book.lists ++ words_of closed)) n old new
