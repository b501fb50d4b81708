-- Words as sets of bits.
use Rattle.std.proofs.Common.{w16, ◌≡◌, ℕ, zero, suc, ◌+◌, ◌-◌, ◌*◌, ◌%◌, ◌^◌, ◌<◌, ◌≤◌, Bool, true, false, not, ◌&&◌, ◌||◌, eqb, ltb, List, [], ◌∷◌, take, drop, ℤ, pos, negsuc, refl, sym, ap, ◌∙◌, ⊎_elim, arith}
use Rattle.std.specs.List.{list_any}
use Rattle.std.specs.Int.{bit_at}
use Rattle.std.proofs.lemmas.Nat.{one_shl}
use Rattle.std.proofs.lemmas.Nat.Bits.{bit_at_not}
use Rattle.std.proofs.lemmas.Bool.{cases_eq, eq-eqb, ne_eqb, ltb-true, ltb-false}
use Rattle.table.specs.Expressions.{mentions, names, reads, suits}
use Rattle.table.specs.Records.{operation_of}
use Rattle.table.specs.declared.record.Operation.TheVariants.{Variable}
use Rattle.table.specs.declared.record.Term.{Term}
use Rattle.table.proofs.Windows.{window, window-whole}
use Rattle.marks.specs.Words.{bit}
use Rattle.marks.proofs.Bitwise.{bit-pow, bit-zero}

and-none : (b : Bool) → (b && false) ≡ false
and-none true = refl
and-none false = refl

one-other : (x : ℕ) → x < 2 → eqb (1 - x) 1 ≡ not (eqb x 1)
one-other zero h = refl
one-other (suc zero) h = refl
one-other (suc (suc x)) h = absurd (omega arith)

pub bit-not : (w n : ℕ) → w < 65536 → n < 16 → bit (65535 - w) n ≡ not (bit w n)
unfolding bit
bit-not w n h k = ap (λ y. eqb y 1) (bit_at_not w16 w n h k) ∙ one-other (bit_at w n) (omega arith)

eqb-swap : (m n : ℕ) → eqb m n ≡ eqb n m
eqb-swap m n = ⊎_elim (λ e. eq-eqb m n e ∙ sym (eq-eqb n m (sym e))) (λ d. ne_eqb m n d ∙ sym (ne_eqb n m (λ e. d (sym e)))) (cases_eq m n)

pub single_bit : (n b : ℕ) → n < 16 → bit (1 * 2 ^ n % 65536) b ≡ eqb n b
single_bit n b h = ap (λ w. bit w b) (one_shl n 16 h) ∙ bit-pow n b ∙ eqb-swap b n

pub single_none : (n b : ℕ) → 16 ≤ n → b < 16 → bit 0 b ≡ eqb n b
single_none n b h k = bit-zero b ∙ sym (ne_eqb n b (λ e. omega arith))

-- what a term reads

pub no-name : (b : ℕ) (z : ℤ) → suits 8 Variable z ≡ false → bit 0 b ≡ (ltb b 8 && names b z)
no-name b (pos n) h = bit-zero b ∙ sym (by (ltb b 8) refl)
  where
    by : (t : Bool) → ltb b 8 ≡ t → (t && eqb n b) ≡ false
    by true e = ne_eqb n b (λ q. omega (arith, ltb-false n 8 h, ltb-true b 8 e))
    by false e = refl
no-name b (negsuc n) h = bit-zero b ∙ sym (and-none (ltb b 8))

pub unread : (t : Term) → (operation_of t.operation ≡ Variable → ⊥) → (b : ℕ) → b < 16 → bit 0 b ≡ (ltb b 8 && reads b t)
unread t d b h =
    bit-zero b ∙ sym (ap (λ x. ltb b 8 && (x && names b t.argument)) (ne_eqb t.operation 1 (λ e. d (ap operation_of e))) ∙ and-none (ltb b 8))

abbrev pub variable-read : ℕ → Term → Bool
variable-read b t = ltb b 8 && reads b t

pub read-all : (b : ℕ) (ts : List Term) → list_any (variable-read b) ts ≡ (ltb b 8 && mentions ts b)
read-all b ts = by (ltb b 8) ts
  where
    by : (t : Bool) (xs : List Term) → list_any (λ x. t && reads b x) xs ≡ (t && list_any (reads b) xs)
    by true [] = refl
    by false [] = refl
    by true (x ∷ xs) = ap (λ y. reads b x || y) (by true xs)
    by false (x ∷ xs) = by false xs

pub or-none : (b : Bool) → (b || false) ≡ b
or-none true = refl
or-none false = refl

or-both : (a b c : Bool) → ((a || b) || c) ≡ (a || (b || c))
or-both true b c = refl
or-both false b c = refl

-- one more of what is left is found
pub or-step : (a b t more rest now : Bool) → now ≡ (a || b) → b ≡ t → rest ≡ (t || more) → (now || more) ≡ (a || rest)
or-step a b t more rest now n e r = ap (λ x. x || more) (n ∙ ap (λ x. a || x) e) ∙ or-both a t more ∙ ap (λ x. a || x) (sym r)

-- nothing is left
pub read-whole : (b : ℕ) (ts : List Term) (start count s n i all : ℕ) → s ≡ start → n ≡ count → list_any (variable-read b) (window ts i (s + n)) ≡ false
    → (bit all b || list_any (variable-read b) (window ts i (s + n))) ≡ list_any (variable-read b) (window ts s (s + n)) → bit all b ≡ (ltb b 8 && mentions (take count (drop start ts)) b)
read-whole b ts start count s n i all p q z h =
    sym (or-none (bit all b)) ∙ ap (λ x. bit all b || x) (sym z) ∙ h ∙ ap (list_any (variable-read b)) (window-whole ts s n)
    ∙ ap (λ m. list_any (variable-read b) (take n (drop m ts))) p ∙ ap (λ m. list_any (variable-read b) (take m (drop start ts))) q
    ∙ read-all b (take count (drop start ts))
