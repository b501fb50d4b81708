-- What a ring holds in the places that are lent to it. Of n places:
--   fits r n        whether the ring r stands within them: its head is one of them, and it counts at most n items. Over none, no ring does
--   held r places   the items of the ring r, first to last: from its head on, round the end. None where it does not fit
--   fresh           the ring that holds nothing, with its head at place 0
--   longer r        the ring r after an append
--   shorter r n     the ring r after a remove
--   spot r i n      the place of the i-th item
--   place r n       the place that the next item goes to
use Rattle.std.specs.Prelude.{ℕ, ◌+◌, ◌-◌, Bool, cond, ◌&&◌, List, [], ◌++◌, length, take, drop, nat_le, nat_lt}
use Rattle.ring.specs.declared.Ring.{Ring}

abbrev pub fits : Ring → ℕ → Bool
fits r n = nat_lt r.head n && nat_le r.len n

unfoldable pub held : {X : Type 0} → Ring → List X → List X
held r places = cond (fits r (length places)) (take r.len (drop r.head (places ++ places))) []

abbrev pub fresh : Ring
fresh = record { head = 0; len = 0 }

abbrev pub longer : Ring → Ring
longer r = record { head = r.head; len = r.len + 1 }

abbrev pub shorter : Ring → ℕ → Ring
shorter r n = record { head = cond (nat_lt (r.head + 1) n) (r.head + 1) 0; len = r.len - 1 }

abbrev pub spot : Ring → ℕ → ℕ → ℕ
spot r i n = cond (nat_lt i (n - r.head)) (r.head + i) (i - (n - r.head))

abbrev pub place : Ring → ℕ → ℕ
place r n = spot r r.len n
