-- A text that grows in a loop: with what is still to come it is the whole.
use Rattle.std.proofs.Common.{◌≡◌, ℕ, suc, ◌+◌, ◌-◌, ◌<◌, ◌≤◌, List, ◌++◌, sym, ap, ◌∙◌, append_assoc, arith}
use Rattle.std.proofs.lemmas.List.{append-nil}
use Rattle.std.specs.List.{flat_map, range_with_len}

module _ (f : ℕ → List ℕ) where
  next : (i e : ℕ) → i < e → flat_map f (range_with_len i (e - i)) ≡ f i ++ flat_map f (range_with_len (i + 1) (e - (i + 1)))
  next i e lt = let z : e - i ≡ suc (e - (i + 1)) = omega arith in rw z

  pub grown : (i e : ℕ) (t u w : List ℕ) → i < e → u ≡ t ++ f i → t ++ flat_map f (range_with_len i (e - i)) ≡ w → u ++ flat_map f (range_with_len (i + 1) (e - (i + 1))) ≡ w
  grown i e t u w lt h so =
      ap (λ x. x ++ flat_map f (range_with_len (i + 1) (e - (i + 1)))) h ∙ append_assoc t (f i) (flat_map f (range_with_len (i + 1) (e - (i + 1)))) ∙ ap (λ x. t ++ x) (sym (next i e lt)) ∙ so

  pub ended : (i e : ℕ) (t w : List ℕ) → e ≤ i → t ++ flat_map f (range_with_len i (e - i)) ≡ w → t ≡ w
  ended i e t w le so = let z : e - i ≡ 0 = omega arith in sym (append-nil t) ∙ ap (λ n. t ++ flat_map f (range_with_len i n)) (sym z) ∙ so
