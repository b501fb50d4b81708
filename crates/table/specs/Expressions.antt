-- Postfix expressions.
--   part ts s         the terms that the span s takes out of the list ts
--   names v z         the number z names variable v
--   reads v t         the term t reads variable v
--   mentions ts v     some term of ts reads variable v
--   operands o        how many values an operation takes; it gives one
--   fitting n t       t is known, reads one of n variables if any, and has argument 0 where none is used
--   depth_after n t d   how many values there are after t where d were before; None where t is unfit or lacks operands
--   formed n ts d     where d values lie on the stack before ts, no operation of ts lacks one, and a single value lies there in the end
--   sound n ts s      the span s lies within ts, has 1 to 16 terms, and is well formed in a process of n variables
use Rattle.std.specs.Prelude.{ℕ, ◌+◌, ◌-◌, Bool, true, false, cond, ◌&&◌, List, [], ◌∷◌, length, take, drop, ℤ, pos, negsuc, Some, None, Option, ◌==◌, nat_le, nat_lt}
use Rattle.std.specs.List.{list_any}
use Rattle.table.specs.Records.{operation_of}
use Rattle.table.specs.declared.record.Operation.{Operation}
use Rattle.table.specs.declared.record.Operation.TheVariants.{Number, Variable, Sum, Difference, Equal, Less, Both, Not, Unknown}
use Rattle.table.specs.declared.record.Span.{Span}
use Rattle.table.specs.declared.record.Term.{Term}

abbrev pub part : List Term → Span → List Term
part ts s = take s.count (drop s.start ts)

abbrev pub names : ℕ → ℤ → Bool
names v (pos n) = n == v
names v (negsuc n) = false

abbrev pub reads : ℕ → Term → Bool
reads v t = t.operation == 1 && names v t.argument

abbrev pub mentions : List Term → ℕ → Bool
mentions ts v = list_any (reads v) ts

abbrev pub operands : Operation → ℕ
operands Number = 0
operands Variable = 0
operands Sum = 2
operands Difference = 2
operands Equal = 2
operands Less = 2
operands Both = 2
operands Not = 1
operands Unknown = 0

abbrev known : ℕ → ℤ → Bool
known n (pos v) = nat_lt v n
known n (negsuc v) = false

abbrev pub suits : ℕ → Operation → ℤ → Bool
suits n Number z = true
suits n Variable z = known n z
suits n Sum z = names 0 z
suits n Difference z = names 0 z
suits n Equal z = names 0 z
suits n Less z = names 0 z
suits n Both z = names 0 z
suits n Not z = names 0 z
suits n Unknown z = false

abbrev pub fitting : ℕ → Term → Bool
fitting n t = suits n (operation_of t.operation) t.argument

abbrev pub depth_after : ℕ → Term → ℕ → Option ℕ
depth_after n t d =
    cond (fitting n t && nat_le (operands (operation_of t.operation)) d) (Some (d + 1 - operands (operation_of t.operation))) None

abbrev passes : Option ℕ → (ℕ → Bool) → Bool
passes None f = false
passes (Some d) f = f d

unfoldable pub formed : ℕ → List Term → ℕ → Bool
formed n [] d = d == 1
formed n (t ∷ ts) d = passes (depth_after n t d) (formed n ts)

unfoldable pub sound : ℕ → List Term → Span → Bool
sound n ts s = (nat_le 1 s.count && nat_le s.count 16) && (nat_le (s.start + s.count) (length ts) && formed n (part ts s) 0)
