-- The worked example: its 104 bytes and what they hold.
--   gate             the bytes
--   gate_opened      the worked example's table, and its names with their places
--   Refuses          what is said of it with a byte changed
--   Opens            the bytes open to that; a byte less gives 1 at bit 824, a byte more 5 at bit 832, none 1 at bit 0
use Rattle.std.specs.Prelude.{◌≡◌, ℕ, List, [], ◌∷◌, ◌++◌, take, Some, Ok, Err, codes, Result, slice_set}
use Rattle.reading.specs.Opening.{Opened, opened}
use Rattle.table.specs.Gate.{gate_table}
use Rattle.refusal.specs.Refusals.{refusal}
use Rattle.refusal.specs.declared.fault.Layer.{Layer}
use Rattle.refusal.specs.declared.fault.Place.{Place}
use Rattle.refusal.specs.declared.fault.Refusal.{Refusal}

unfoldable pub gate : List ℕ
gate =
    0x01 ∷ 0x20 ∷ 0x60 ∷ 0x0E ∷ 0x00 ∷ 0x52 ∷ 0x21 ∷ 0x00 ∷ 0x00 ∷ 0x00 ∷ 0x00 ∷ 0x70 ∷ 0x00 ∷ 0x01 ∷ 0x11 ∷ 0x00 ∷
    0x00 ∷ 0x00 ∷ 0x00 ∷ 0x02 ∷ 0x01 ∷ 0x40 ∷ 0x00 ∷ 0x80 ∷ 0x00 ∷ 0x00 ∷ 0x00 ∷ 0x00 ∷ 0x00 ∷ 0x00 ∷ 0x91 ∷ 0x04 ∷
    0x00 ∷ 0x00 ∷ 0x00 ∷ 0x00 ∷ 0x04 ∷ 0x10 ∷ 0x30 ∷ 0x00 ∷ 0x00 ∷ 0x00 ∷ 0x00 ∷ 0x08 ∷ 0x40 ∷ 0x05 ∷ 0x00 ∷ 0x00 ∷
    0x00 ∷ 0x00 ∷ 0x00 ∷ 0x00 ∷ 0x80 ∷ 0x80 ∷ 0x40 ∷ 0x00 ∷ 0x00 ∷ 0x00 ∷ 0x00 ∷ 0x08 ∷ 0x83 ∷ 0x00 ∷ 0x10 ∷ 0x02 ∷
    0x18 ∷ 0x00 ∷ 0x04 ∷ 0x88 ∷ 0x10 ∷ 0x82 ∷ 0x00 ∷ 0x00 ∷ 0x00 ∷ 0x00 ∷ 0x44 ∷ 0x00 ∷ 0x00 ∷ 0x40 ∷ 0x00 ∷ 0x40 ∷
    0x00 ∷ 0x00 ∷ 0x40 ∷ 0x00 ∷ 0x14 ∷ 0x00 ∷ 0x00 ∷ 0x02 ∷ 0x72 ∷ 0x78 ∷ 0x02 ∷ 0x74 ∷ 0x78 ∷ 0x03 ∷ 0x72 ∷ 0x65 ∷
    0x71 ∷ 0x02 ∷ 0x67 ∷ 0x6F ∷ 0x03 ∷ 0x61 ∷ 0x63 ∷ 0x6B ∷ []

unfoldable pub gate_opened : Opened
gate_opened = record {
  lists = gate_table;
  process_names = (88, codes "rx") ∷ (91, codes "tx") ∷ [];
  signal_names = (94, codes "req") ∷ (98, codes "go") ∷ (101, codes "ack") ∷ [];
}

abbrev sheet_bad : ℕ → ℕ → Result Opened Refusal
sheet_bad n bit = Err (refusal n Layer.Sheet (Place.At bit))

abbrev edge_bad : ℕ → ℕ → ℕ → Result Opened Refusal
edge_bad n k bit = Err (record { number = n; layer = Layer.Edge; place = Place.At k; sheet = Some bit })

pub record Opens : Type 0 where
  pub whole : opened gate ≡ Ok gate_opened
  pub less : opened (take 103 gate) ≡ sheet_bad 1 824
  pub more : opened (gate ++ 0 ∷ []) ≡ sheet_bad 5 832
  pub none : opened [] ≡ sheet_bad 1 0

-- a byte, and what it is changed to
pub record Refuses : Type 0 where
  pub cut : opened (0x01 ∷ 0x20 ∷ []) ≡ sheet_bad 1 12
  pub count_before_cut : opened (0x01 ∷ 0x00 ∷ []) ≡ sheet_bad 3 8
  pub version : opened (slice_set gate 0 0x02) ≡ sheet_bad 2 0
  pub processes : opened (slice_set gate 1 0x00) ≡ sheet_bad 3 8
  pub first_location : opened (slice_set gate 7 0x30) ≡ sheet_bad 3 56
  pub class : opened (slice_set gate 19 0x08) ≡ sheet_bad 3 156
  pub destination : opened (slice_set gate 20 0x81) ≡ sheet_bad 3 159
  pub timer_off : opened (slice_set gate 13 0x11) ≡ sheet_bad 4 93
  pub unused : opened (slice_set gate 21 0x44) ≡ sheet_bad 4 171
  pub fill : opened (slice_set gate 86 0x01) ≡ sheet_bad 4 694
  pub length : opened (slice_set gate 87 0x00) ≡ sheet_bad 6 696
  pub character : opened (slice_set gate 88 0x20) ≡ sheet_bad 6 704
  pub missing : opened (slice_set gate 46 0x04) ≡ edge_bad 7 3 354
  pub unfit : opened (slice_set gate 24 0x80) ≡ edge_bad 8 0 174
  pub expression : opened (slice_set gate 64 0x10) ≡ edge_bad 9 5 474
  pub malformed : opened (slice_set gate 47 0x10) ≡ edge_bad 10 3 354
