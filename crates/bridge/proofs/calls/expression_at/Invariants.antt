use Rattle.std.proofs.Common.{◌≡◌, ◌+◌, length}
use Rattle.bridge.specs.Calls.{terms_to}
use Rattle.bridge.proofs.calls.expression_at.Given as goal

abbrev pub invariant-loop-n : goal.invariant-loop-n
invariant-loop-n l = record { items : l.terms.items ≡ terms_to l.bytes (l.i + 1) l.n; length : length l.terms.items ≡ l.n }
