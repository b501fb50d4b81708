-- The words of a table, one more at a time, and how many there are.
use Rattle.std.proofs.Common.{◌≡◌, ℕ, zero, suc, ◌+◌, ◌*◌, List, [], ◌∷◌, ◌++◌, length, refl, sym, ap, ◌∙◌, arith}
use Rattle.std.proofs.lemmas.List.{append-nil, append_assoc, length-append}
use Rattle.std.specs.Int.{w64, to_be_bytes}
use Rattle.bridge.proofs.Overlays.{length-spelled, spelled-more}
use Rattle.bridge.specs.Laid.{laid, spelled}
use Rattle.bridge.specs.Tables.{size_of, table_word, table_words, words_of}
use Rattle.table.specs.Lists.{Lists}

module _ (T : Lists) where
  words-more : (n : ℕ) → table_words T (n + 1) ≡ table_words T n ++ table_word T n ∷ []
  unfolding table_words
  words-more n = let e : n + 1 ≡ suc n = omega arith in rw e refl

  pub length-words : (n : ℕ) → length (table_words T n) ≡ n
  unfolding table_words
  length-words zero = refl
  length-words (suc n) = length-append (table_words T n) (table_word T n ∷ []) ∙ ap (λ k. k + 1) (length-words n) ∙ omega arith

  pub length-table : length (spelled (words_of T)) ≡ 8 * size_of T
  length-table = length-spelled (words_of T) ∙ ap (λ k. 8 * k) (length-words (size_of T))

  pub words-none : (xs : List ℕ) → xs ++ spelled (table_words T 0) ≡ xs
  unfolding table_words spelled
  words-none xs = append-nil xs

  pub words-laid : (n w : ℕ) (xs old : List ℕ) → w ≡ table_word T n →
      laid ((xs ++ spelled (table_words T n)) ++ to_be_bytes w64 w) old ≡ laid (xs ++ spelled (table_words T (n + 1))) old
  words-laid n w xs old e = ap (λ t. laid t old) (
      append_assoc xs (spelled (table_words T n)) (to_be_bytes w64 w)
      ∙ ap (λ t. xs ++ t) (ap (λ v. spelled (table_words T n) ++ to_be_bytes w64 v) e ∙ sym (spelled-more (table_words T n) _) ∙ ap spelled (sym (words-more n))))
