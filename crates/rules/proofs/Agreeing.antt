-- An expression has one value under variables that agree wherever it mentions them.
use Rattle.std.proofs.Common.{◌≡◌, ℕ, ◌+◌, ◌<◌, true, cond, ◌&&◌, eqb, leb, List, [], ◌∷◌, length, get_or, ℤ, pos, negsuc, Some, None, Option, sym, refl, ap, ◌∙◌, ⊎_elim, arith}
use Rattle.std.proofs.lemmas.List.{get_or_past}
use Rattle.std.proofs.lemmas.Bool.{and_from, or_left, or_right, eq-eqb, cases_lt}
use Rattle.std.proofs.lemmas.Bool.Decides.{nat_tests}
use Rattle.evaluation.specs.Values.{performed, applied, after, evaluated, value_of, holds, nonzero, numbered}
use Rattle.table.specs.Expressions.{part, names, reads, mentions}
use Rattle.table.specs.Records.{operation_of}
use Rattle.table.specs.declared.record.Operation.{Operation}
use Rattle.table.specs.declared.record.Operation.TheVariants.{Number, Variable, Sum, Difference, Equal, Less, Both, Not, Unknown}
use Rattle.table.specs.declared.record.Span.{Span}
use Rattle.table.specs.declared.record.Term.{Term}

variable-number : (n : ℕ) → operation_of n ≡ Variable → eqb n 1 ≡ true
variable-number n h = grind (arith, nat_tests)

module _ (xs ys : List ℤ) (even : length xs ≡ length ys) where
  -- the two lists agree at v, which is no matter past their end
  abbrev pub Same : ℕ → Type 0
  Same v = v < length xs → get_or xs v (pos 0) ≡ get_or ys v (pos 0)

  same_at : (v : ℕ) → Same v → get_or xs v (pos 0) ≡ get_or ys v (pos 0)
  same_at v h =
      ⊎_elim h (λ past. get_or_past xs v (pos 0) past ∙ sym (get_or_past ys v (pos 0) (omega arith))) (cases_lt v (length xs))

  numbered-agrees : (z : ℤ) → ((v : ℕ) → names v z ≡ true → Same v) → numbered xs z ≡ numbered ys z
  numbered-agrees (pos n) h = same_at n (h n (eq-eqb n n refl))
  numbered-agrees (negsuc n) h = refl

  performed-agrees : (o : Operation) (z : ℤ) (s : List ℤ) → (o ≡ Variable → (v : ℕ) → names v z ≡ true → Same v) → performed xs o z s ≡ performed ys o z s
  performed-agrees Number z s h = refl
  performed-agrees Variable z s h = ap (λ x. Some (x ∷ s)) (numbered-agrees z (h refl))
  performed-agrees Sum z s h = refl
  performed-agrees Difference z s h = refl
  performed-agrees Equal z s h = refl
  performed-agrees Less z s h = refl
  performed-agrees Both z s h = refl
  performed-agrees Not z s h = refl
  performed-agrees Unknown z s h = refl

  applied-agrees : (t : Term) (s : List ℤ) → ((v : ℕ) → reads v t ≡ true → Same v) → applied xs t s ≡ applied ys t s
  unfolding applied
  applied-agrees t s h =
      rw (even, performed-agrees (operation_of t.operation) t.argument s (λ q v e. h v (and_from (eqb t.operation 1) (names v t.argument) (variable-number t.operation q) e)))

  evaluated-agrees : (ts : List Term) (s : List ℤ) → ((v : ℕ) → mentions ts v ≡ true → Same v) → evaluated xs ts s ≡ evaluated ys ts s
  unfolding evaluated
  evaluated-agrees [] s h = refl
  evaluated-agrees (t ∷ ts) s h =
      ap (λ o. after o (evaluated xs ts)) (applied-agrees t s (λ v e. h v (or_left (reads v t) (mentions ts v) e)))
      ∙ by (applied ys t s) (λ u. evaluated-agrees ts u (λ v e. h v (or_right (reads v t) (mentions ts v) e)))
    where
      by : (o : Option (List ℤ)) → ((u : List ℤ) → evaluated xs ts u ≡ evaluated ys ts u) → after o (evaluated xs ts) ≡ after o (evaluated ys ts)
      by None f = refl
      by (Some u) f = f u

  pub value-agrees : (ts : List Term) (s : Span) → ((v : ℕ) → mentions (part ts s) v ≡ true → Same v) → value_of xs ts s ≡ value_of ys ts s
  unfolding value_of
  value-agrees ts s h =
      ap (λ o. cond ((leb 1 s.count && leb s.count 16) && leb (s.start + s.count) (length ts)) o None) (evaluated-agrees (part ts s) [] h)

  pub holds-agrees : (ts : List Term) (s : Span) → ((v : ℕ) → mentions (part ts s) v ≡ true → Same v) → holds xs ts s ≡ holds ys ts s
  holds-agrees ts s h = ap nonzero (value-agrees ts s h)
