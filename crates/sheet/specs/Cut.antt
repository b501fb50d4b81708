-- More bytes than any sheet has.
--   OpensAsCut bs   where bs has more bytes than the largest sheet, which has 27,078, the answer stays the same whatever follows bs
use Rattle.std.specs.Prelude.{◌≡◌, ℕ, ◌<◌, List, ◌++◌, length}
use Rattle.reading.specs.Opening.{opened}

abbrev pub OpensAsCut : List ℕ → Type 0
OpensAsCut bs = (more : List ℕ) → 27078 < length bs → opened (bs ++ more) ≡ opened bs
