-- The answers to a list of steps and the words of a state, one more at a time.
use Rattle.std.proofs.Common.{◌≡◌, ℕ, zero, suc, ◌+◌, ◌*◌, ◌/◌, ◌%◌, List, [], ◌∷◌, ◌++◌, length, None, Ok, Option, Result, refl, sym, ap, ◌∙◌, subst, arith}
use Rattle.std.proofs.lemmas.List.{append_assoc, length-append}
use Rattle.std.specs.Int.{w64, to_be_bytes}
use Rattle.bridge.proofs.Overlays.{length-spelled, spelled-append, spelled-more}
use Rattle.bridge.specs.Answers.{RanBy, RunsTo, TracedBy}
use Rattle.bridge.specs.Codes.{answer_code}
use Rattle.bridge.specs.Laid.{laid, spelled}
use Rattle.bridge.specs.Traces.{answers, ends, state_word, state_words, step_at, traced, unstarted}
use Rattle.reading.specs.Opening.{Opened}
use Rattle.refusal.specs.declared.fault.Refusal.{Refusal}
use Rattle.rules.specs.States.{World, started}
use Rattle.rules.specs.Steps.{next, stepped}
use Rattle.sheet.specs.Views.{lists_of, opened_of}
use Rattle.sheet.specs.declared.view.Sheet.{Sheet}
use Rattle.table.specs.Lists.{Lists}

module _ (W : World) where
  words-more : (n : ℕ) → state_words W (n + 1) ≡ state_words W n ++ state_word W (n / 33) (n % 33) ∷ []
  unfolding state_words
  words-more n = let e : n + 1 ≡ suc n = omega arith in rw e refl

  pub length-words : (n : ℕ) → length (state_words W n) ≡ n
  unfolding state_words
  length-words zero = refl
  length-words (suc n) = length-append (state_words W n) (state_word W (n / 33) (n % 33) ∷ []) ∙ ap (λ k. k + 1) (length-words n) ∙ omega arith

  pub words-none : (xs : List ℕ) → xs ++ spelled (state_words W 0) ≡ xs
  unfolding state_words spelled
  words-none [] = refl
  words-none (x ∷ xs) = ap (λ t. x ∷ t) (words-none xs)

  pub words-laid : (n w : ℕ) (xs old : List ℕ) → w ≡ state_word W (n / 33) (n % 33) →
      laid ((xs ++ spelled (state_words W n)) ++ to_be_bytes w64 w) old ≡ laid (xs ++ spelled (state_words W (n + 1))) old
  words-laid n w xs old e = ap (λ t. laid t old) (
      append_assoc xs (spelled (state_words W n)) (to_be_bytes w64 w)
      ∙ ap (λ t. xs ++ t) (ap (λ v. spelled (state_words W n) ++ to_be_bytes w64 v) e ∙ sym (spelled-more (state_words W n) _) ∙ ap spelled (sym (words-more n))))

module _ (T : Lists) (W : World) (ss : List ℕ) where
  answers-more : (n : ℕ) → answers T W ss (n + 1) ≡ answers T W ss n ++ answer_code (stepped T (ends T W ss n) (step_at ss n)) ∷ []
  unfolding answers
  answers-more n = let e : n + 1 ≡ suc n = omega arith in rw e refl

  pub ends-more : (n : ℕ) → ends T W ss (n + 1) ≡ next T (ends T W ss n) (step_at ss n)
  unfolding ends
  ends-more n = let e : n + 1 ≡ suc n = omega arith in rw e refl

  pub ends-none : W ≡ ends T W ss 0
  unfolding ends
  ends-none = refl

  pub answers-none : (old : List ℕ) → old ≡ laid (spelled (answers T W ss 0)) old
  unfolding answers spelled laid
  answers-none old = refl

  pub length-answers : (n : ℕ) → length (answers T W ss n) ≡ n
  unfolding answers
  length-answers zero = refl
  length-answers (suc n) =
      length-append (answers T W ss n) (answer_code (stepped T (ends T W ss n) (step_at ss n)) ∷ []) ∙ ap (λ k. k + 1) (length-answers n) ∙ omega arith

  pub answers-laid : (n w : ℕ) (old : List ℕ) → w ≡ answer_code (stepped T (ends T W ss n) (step_at ss n)) →
      laid (spelled (answers T W ss n) ++ to_be_bytes w64 w) old ≡ laid (spelled (answers T W ss (n + 1))) old
  answers-laid n w old e = ap (λ t. laid t old) (
      ap (λ v. spelled (answers T W ss n) ++ to_be_bytes w64 v) e ∙ sym (spelled-more (answers T W ss n) _) ∙ ap spelled (sym (answers-more n)))

  pub traced-spelled : spelled (traced T W ss) ≡ spelled (answers T W ss (length ss / 5)) ++ spelled (state_words (ends T W ss (length ss / 5)) 264)
  unfolding traced
  traced-spelled = spelled-append (answers T W ss (length ss / 5)) (state_words (ends T W ss (length ss / 5)) 264)

  pub length-traced : length (spelled (traced T W ss)) ≡ 8 * (length ss / 5 + 264)
  unfolding traced
  length-traced =
      let n = length ss / 5 in
      length-spelled (traced T W ss)
      ∙ ap (λ k. 8 * k) (length-append (answers T W ss n) (state_words (ends T W ss n) 264) ∙ ap (λ k. k + length (state_words (ends T W ss n) 264)) (length-answers n) ∙ ap (λ k. n + k) (length-words (ends T W ss n) 264))

-- a sheet that opens, and whose table starts
pub traced-open : (o : Result Opened Refusal) (s : Sheet) (ss : List ℕ) (n : ℕ) (old new : List ℕ) → o ≡ Ok (opened_of s) → None ≡ unstarted o 128 → RunsTo (lists_of s) (started (lists_of s) 128) ss n old new → TracedBy o ss n old new
unfolding opened_of
traced-open o s ss n old new e f r =
    let g : ◌≡◌ {A = Option Refusal} None (unstarted (Ok (opened_of s)) 128) = f ∙ ap (λ q. unstarted q 128) e in
    subst (λ (q : Result Opened Refusal). TracedBy q ss n old new) (sym e) (subst (λ (q : Option Refusal). RanBy q (lists_of s) ss n old new) g r)
