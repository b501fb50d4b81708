-- The value of a postfix expression. A stack is the list of its values, the top first; vars are the values of the
-- variables, numbered from 0; numbers go from −32768 to 32767; what a sum or a difference passes that by is wrapped round.
--   truth b               1 where b is true, else 0
--   same a b              a and b are the same number
--   combined o a b        what an operation of two operands gives of a and, on top of it, b; 0 for the others, which take fewer
--   one f s               s with f of its top in place of the top; None where there is none
--   two f s               s with f a b in place of b on top and a below it; None where there are not two
--   operated o s          what an operation makes of the stack s that has its operands; None where they lack or it takes none
--   numbered vars z       the value of the variable that the argument z numbers
--   performed vars o z s  what the operation o with argument z makes of the stack s
--   applied vars t s      what the term t makes of the stack s; None where t is unknown, its argument does not fit or operands lack
--   single s              the one value of s; None where there is none or more than one
--   after o f             f of the stack o; None where there is none
--   evaluated vars ts s   the one value that the terms ts leave, begun with the stack s
--   value_of vars ts s    the value of the expression in the part s of the terms ts: 1 to 16 terms, all within ts
--   nonzero o             there is a value, and it is not 0
--   holds vars ts s       the guard in the part s of the terms ts is true; one that is not well formed has no value, so it is false
use Rattle.std.specs.Prelude.{◌+◌, Bool, true, false, cond, not, ◌&&◌, List, [], ◌∷◌, length, ℤ, pos, negsuc, ◌+ℤ◌, ◌-ℤ◌, Some, None, Option, ◌==◌, int_lt, nat_le, slice_index_or}
use Rattle.std.specs.Int.{int_wrap, w16}
use Rattle.table.specs.Expressions.{part, fitting}
use Rattle.table.specs.Records.{operation_of}
use Rattle.table.specs.declared.record.Operation.{Operation}
use Rattle.table.specs.declared.record.Operation.TheVariants.{Number, Variable, Sum, Difference, Equal, Less, Both, Not, Unknown}
use Rattle.table.specs.declared.record.Span.{Span}
use Rattle.table.specs.declared.record.Term.{Term}

abbrev pub truth : Bool → ℤ
truth true = pos 1
truth false = pos 0

abbrev pub same : ℤ → ℤ → Bool
same (pos a) (pos b) = a == b
same (pos a) (negsuc b) = false
same (negsuc a) (pos b) = false
same (negsuc a) (negsuc b) = a == b

abbrev pub combined : Operation → ℤ → ℤ → ℤ
combined Number a b = pos 0
combined Variable a b = pos 0
combined Sum a b = int_wrap w16 (a +ℤ b)
combined Difference a b = int_wrap w16 (a -ℤ b)
combined Equal a b = truth (same a b)
combined Less a b = truth (int_lt a b)
combined Both a b = truth (not (same a (pos 0)) && not (same b (pos 0)))
combined Not a b = pos 0
combined Unknown a b = pos 0

abbrev pub one : (ℤ → ℤ) → List ℤ → Option (List ℤ)
one f [] = None
one f (a ∷ s) = Some (f a ∷ s)

abbrev pub two : (ℤ → ℤ → ℤ) → List ℤ → Option (List ℤ)
two f [] = None
two f (b ∷ []) = None
two f (b ∷ a ∷ s) = Some (f a b ∷ s)

abbrev pub operated : Operation → List ℤ → Option (List ℤ)
operated Number s = None
operated Variable s = None
operated Sum s = two (combined Sum) s
operated Difference s = two (combined Difference) s
operated Equal s = two (combined Equal) s
operated Less s = two (combined Less) s
operated Both s = two (combined Both) s
operated Not s = one (λ a. truth (same a (pos 0))) s
operated Unknown s = None

abbrev pub numbered : List ℤ → ℤ → ℤ
numbered vars (pos v) = slice_index_or vars v (pos 0)
numbered vars (negsuc v) = pos 0

abbrev pub performed : List ℤ → Operation → ℤ → List ℤ → Option (List ℤ)
performed vars Number z s = Some (z ∷ s)
performed vars Variable z s = Some (numbered vars z ∷ s)
performed vars Sum z s = operated Sum s
performed vars Difference z s = operated Difference s
performed vars Equal z s = operated Equal s
performed vars Less z s = operated Less s
performed vars Both z s = operated Both s
performed vars Not z s = operated Not s
performed vars Unknown z s = None

unfoldable pub applied : List ℤ → Term → List ℤ → Option (List ℤ)
applied vars t s = cond (fitting (length vars) t) (performed vars (operation_of t.operation) t.argument s) None

abbrev pub single : List ℤ → Option ℤ
single [] = None
single (a ∷ []) = Some a
single (a ∷ b ∷ s) = None

abbrev pub after : Option (List ℤ) → (List ℤ → Option ℤ) → Option ℤ
after None f = None
after (Some s) f = f s

unfoldable pub evaluated : List ℤ → List Term → List ℤ → Option ℤ
evaluated vars [] s = single s
evaluated vars (t ∷ ts) s = after (applied vars t s) (evaluated vars ts)

unfoldable pub value_of : List ℤ → List Term → Span → Option ℤ
value_of vars ts s =
    cond ((nat_le 1 s.count && nat_le s.count 16) && nat_le (s.start + s.count) (length ts)) (evaluated vars (part ts s) []) None

abbrev pub nonzero : Option ℤ → Bool
nonzero None = false
nonzero (Some z) = not (same z (pos 0))

abbrev pub holds : List ℤ → List Term → Span → Bool
holds vars ts s = nonzero (value_of vars ts s)
