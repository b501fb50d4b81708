-- From what opening, the test, closing and writing promise to what sealing does.
use Rattle.std.proofs.Common.{◌≡◌, ℕ, true, false, inl, inr, List, drop, IfOk, IfErr, IfSome, is_ok, Some, None, Ok, Err, Option, Result, sym, refl, ap, ◌∙◌, subst}
use Rattle.std.specs.Option.{option_or}
use Rattle.std.proofs.lemmas.Bool.{both_ways}
use Rattle.marks.proofs.Unique.{least-unique}
use Rattle.marks.specs.Rules.{Marking}
use Rattle.reading.proofs.Again.{names-meaning}
use Rattle.reading.proofs.Sizes.{sheet-names}
use Rattle.reading.specs.Opening.{Opened, names_byte, names_in, opened}
use Rattle.reading.specs.Spelling.{AreBytes, Inverse, IsSheet, IsWritable, area_of}
use Rattle.refusal.specs.declared.fault.Refusal.{Refusal}
use Rattle.rules.specs.Closing.{closed, closed_count, count_refused, test_refused, timers_refused}
use Rattle.rules.proofs.Examined.{table-passes}
use Rattle.rules.specs.Promise.{ClosedBy, Measured}
use Rattle.rules.specs.Steps.{answer}
use Rattle.table.proofs.Passing.{none-some}
use Rattle.table.specs.Examination.{examined}
use Rattle.sealing.specs.Seals.{RefusedAs, SealedAs}
use Rattle.sealing.proofs.Writable.{closed-writable}
use Rattle.sheet.specs.Views.{lists_of, opened_of}
use Rattle.sheet.specs.declared.view.Sheet.{Sheet}
use Rattle.table.specs.Lists.{Lists}
use Rattle.writing.proofs.Sole.{area-same}
use Rattle.writing.specs.Written.{IsWrittenAs}

module _ (bs area : List ℕ) (s : Sheet) (C : Lists) (opens : opened bs ≡ Ok (opened_of s)) (inverse : Inverse bs) (small : AreBytes bs) (closes : ClosedBy (lists_of s) C)
    (at : area ≡ drop s.names_at bs) (place : s.names_at ≡ names_byte (lists_of s)) where
  pub held : area ≡ area_of (names_in (opened_of s))
  unfolding opened_of
  held =
      let found = inverse.only (opened_of s) opens in
      let c = found.0 in
      let same : lists_of s ≡ c.lists = ap (λ (o : Opened). o.lists) found.2 in
      let names : names_in (opened_of s) ≡ c.names = ap names_in found.2 ∙ names-meaning c in
      at ∙ ap (λ k. drop k bs) (place ∙ ap names_byte same) ∙ sheet-names c bs small found.1 ∙ ap area_of (sym names)

  pub sealed : (vs : List ℕ) → IsWrittenAs C area vs → SealedAs bs vs
  unfolding opened_of
  sealed vs written = record {
    holds = opened_of s;
    opens = opens;
    meaning = C;
    closed = closes;
    sheet = subst (λ (ts : List (List ℕ)). IsSheet (record { lists = C; names = ts }) vs) (area-same written.0 (names_in (opened_of s)) (sym written.1 ∙ held)) written.2;
  }

  pub writable : IsWritable (record { lists = C; names = names_in (opened_of s) })
  unfolding opened_of
  writable =
      let found = inverse.only (opened_of s) opens in
      let c = found.0 in
      let same : lists_of s ≡ c.lists = ap (λ (o : Opened). o.lists) found.2 in
      let names : names_in (opened_of s) ≡ c.names = ap names_in found.2 ∙ names-meaning c in
      let N = closes.marks in
      let tested : test_refused c.lists N ≡ None = subst (λ (T : Lists). test_refused T N ≡ None) same closes.passes in
      let is : C ≡ closed c.lists N = closes.meaning ∙ ap (λ (T : Lists). closed T N) same in
      subst (λ (ts : List (List ℕ)). IsWritable (record { lists = C; names = ts })) (sym names)
      (subst (λ (L : Lists). IsWritable (record { lists = L; names = c.names })) (sym is) (closed-writable c found.1.writable N tested))

-- a sheet is refused in one way, and one that can be closed in none

erring : {A : Type 0} (o : Option Refusal) (x : A) (f : Refusal) → ◌≡◌ {A = Result A Refusal} (Err f) (answer o x) → o ≡ Some f
erring (Some g) x f h = ap Some (sym (subst (λ r. IfErr r (λ y. f ≡ y)) h refl))
erring None x f h = absurd (both_ways false refl (ap is_ok h))

pub going : {A : Type 0} (o : Option Refusal) (x y : A) → ◌≡◌ {A = Result A Refusal} (Ok y) (answer o x) → o ≡ None
going None x y h = refl
going (Some g) x y h = absurd (both_ways true (ap is_ok h) refl)

same-some : {x y : Refusal} → Some x ≡ Some y → x ≡ y
same-some {x} h = subst (λ o. IfSome o (λ z. x ≡ z)) h refl

module _ (T : Lists) where
  -- where the examination passes, both speak of the same marks
  agreeing : {r q : Result (Marking × ℕ) Refusal} (a : Measured T r) (b : Measured T q) → examined T ≡ None → test_refused T a.marks ≡ test_refused T b.marks
  agreeing a b e = ap (test_refused T) (least-unique T a.marks b.marks (a.least e) (b.least e))

  never-both : (f : Refusal) (x : Marking × ℕ) → Measured T (Err f) → Measured T (Ok x) → ⊥
  never-both f x a b =
      let passes = going (test_refused T b.marks) (b.marks, closed_count T b.marks) x b.says in
      none-some f (sym passes ∙ sym (agreeing a b (table-passes T b.marks passes)) ∙ erring (test_refused T a.marks) (a.marks, closed_count T a.marks) f a.says)

  early : (x : Refusal) (M : Marking) → examined T ≡ Some x → test_refused T M ≡ Some x
  unfolding test_refused
  early x M e = ap (λ o. option_or o (option_or (timers_refused T) (count_refused T M))) e

  once : (f g : Refusal) → Measured T (Err f) → Measured T (Err g) → f ≡ g
  once f g a b = by (examined T) refl
    where
      first : test_refused T a.marks ≡ Some f
      first = erring (test_refused T a.marks) (a.marks, closed_count T a.marks) f a.says

      second : test_refused T b.marks ≡ Some g
      second = erring (test_refused T b.marks) (b.marks, closed_count T b.marks) g b.says

      by : (o : Option Refusal) → examined T ≡ o → f ≡ g
      by None e = same-some (sym first ∙ agreeing a b e ∙ second)
      by (Some x) e = sym (same-some (sym (early x a.marks e) ∙ first)) ∙ same-some (sym (early x b.marks e) ∙ second)

pub refused-once : (bs : List ℕ) (f g : Refusal) → RefusedAs bs f → RefusedAs bs g → f ≡ g
refused-once bs f g (inl a) (inl b) = subst (λ (r : Result Opened Refusal). IfErr r (λ y. f ≡ y)) (sym a ∙ b) refl
refused-once bs f g (inl a) (inr b) = absurd (both_ways false refl (ap is_ok (sym a ∙ b.1)))
refused-once bs f g (inr a) (inl b) = absurd (both_ways true (ap is_ok (sym a.1 ∙ b)) refl)
refused-once bs f g (inr a) (inr b) =
    let same : a.0 ≡ b.0 = subst (λ (r : Result Opened Refusal). IfOk r (λ y. a.0 ≡ y)) (sym a.1 ∙ b.1) refl in
    once a.0.lists f g a.2 (subst (λ (o : Opened). Measured o.lists (Err g)) (sym same) b.2)

unrefused : (bs : List ℕ) (f : Refusal) (o : Opened) (x : Marking × ℕ) → RefusedAs bs f → opened bs ≡ Ok o → Measured o.lists (Ok x) → ⊥
unrefused bs f o x (inl a) e m = both_ways false refl (ap is_ok (sym a ∙ e))
unrefused bs f o x (inr a) e m =
    let same : a.0 ≡ o = subst (λ (r : Result Opened Refusal). IfOk r (λ y. a.0 ≡ y)) (sym a.1 ∙ e) refl in
    never-both o.lists f x (subst (λ (p : Opened). Measured p.lists (Err f)) same a.2) m

pub unrefused-view : (bs : List ℕ) (f : Refusal) (s : Sheet) (x : Marking × ℕ) → RefusedAs bs f → opened bs ≡ Ok (opened_of s) → Measured (lists_of s) (Ok x) → ⊥
unfolding opened_of
unrefused-view bs f s x r e m = unrefused bs f (opened_of s) x r e m
