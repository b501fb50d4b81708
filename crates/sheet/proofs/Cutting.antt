-- The fields of a sheet end within 216,627 bits, so what follows the first 27,079 bytes does not matter.
--   Local f w P   where w bits more are there, f answers the same whatever follows the bytes; what it reads ends within them, and has P
use Rattle.std.proofs.Common.{◌≡◌, ℕ, zero, suc, ◌+◌, ◌-◌, ◌*◌, ◌/◌, ◌%◌, ◌^◌, ◌≤◌, Bool, true, false, cond, ◌&&◌, eqb, leb, ltb, List, [], ◌∷◌, ◌++◌, length, sym, refl, ap, ◌∙◌, subst, arith, length-append}
use Rattle.std.proofs.Math.Nat.{mul-le-mul_left}
use Rattle.std.proofs.lemmas.Bool.{le-leb, lt-ltb, cond-true}
use Rattle.std.proofs.lemmas.List.{get_or_append_left}
use Rattle.std.specs.Int.{w16, cast_signed}
use Rattle.reading.specs.Formats.{Answer, got, bad, after, bit, number, taken, fault, field, plain, signed, each, filled, ended}
use Rattle.reading.specs.Layout.{header_format, timer_format, process_format, destination, signal_format, span_format, edge_format, term_format, name_format, sheet_format}
use Rattle.reading.specs.Opening.{opened, judged}
use Rattle.reading.proofs.Chains.{got-value, got-end, bad-got, after-parts}
use Rattle.reading.proofs.ExactRecords.{SheetCounts}
use Rattle.reading.proofs.Numbers.{number-none, number_more}
use Rattle.reading.proofs.Taken.{taken-parts}
use Rattle.refusal.specs.Refusals.{refusal}
use Rattle.refusal.specs.declared.fault.Layer.{Layer}
use Rattle.refusal.specs.declared.fault.Place.{Place}
use Rattle.refusal.specs.declared.fault.Refusal.{Refusal}
use Rattle.sheet.specs.Cut.{OpensAsCut}
use Rattle.table.specs.Records.{timer_of}

record Local {A : Type 0} (f : List ℕ → ℕ → Answer A) (w : ℕ) (P : A → Type 0) : Type 0 where
  pub same : (bs more : List ℕ) (p : ℕ) → p + w ≤ 8 * length bs → f (bs ++ more) p ≡ f bs p
  pub near : (bs : List ℕ) (p q : ℕ) (x : A) → f bs p ≡ got x q → (q ≤ p + w) × P x

-- the bits of one field

module _ (bs more : List ℕ) (p : ℕ) where
  number-same : (w : ℕ) → p + w ≤ 8 * length bs → number (bs ++ more) p w ≡ number bs p w
  number-same zero le = number-none (bs ++ more) p ∙ sym (number-none bs p)
  number-same (suc w) le =
      let b = get_or_append_left bs more 0 ((p + w) / 8) (omega arith) in
      number_more (bs ++ more) p w
      ∙ ap (λ n. 2 * n + bit (bs ++ more) (p + w)) (number-same w (omega arith))
      ∙ ap (λ b. 2 * number bs p w + b / 2 ^ (7 - (p + w) % 8) % 2) b
      ∙ sym (number_more bs p w)

  taken-same : (w least most : ℕ) (r : Refusal) → p + w ≤ 8 * length bs → taken w least most r (bs ++ more) p ≡ taken w least most r bs p
  unfolding taken
  taken-same w least most r le =
      let a : leb (p + w) (8 * length (bs ++ more)) ≡ true = le-leb (p + w) (8 * length (bs ++ more)) (omega (arith, length-append bs more)) in
      let b : leb (p + w) (8 * length bs) ≡ true = le-leb (p + w) (8 * length bs) le in
      cond-true (leb (p + w) (8 * length (bs ++ more))) _ (fault 1 p) a
      ∙ ap (λ n. cond (leb least n && leb n most) (got n (p + w)) (bad r)) (number-same w le)
      ∙ sym (cond-true (leb (p + w) (8 * length bs)) _ (fault 1 p) b)

  ended-same : p + 1 ≤ 8 * length bs → ended.reads (bs ++ more) p ≡ ended.reads bs p
  ended-same le =
      cond-true (ltb p (8 * length (bs ++ more))) (fault 5 p) (got 0 p) (lt-ltb p (8 * length (bs ++ more)) (omega (arith, length-append bs more)))
      ∙ sym (cond-true (ltb p (8 * length bs)) (fault 5 p) (got 0 p) (lt-ltb p (8 * length bs) (omega arith)))

local-field : (w least most n : ℕ) → Local (field w least most n).reads w (λ v. (least ≤ v) × (v ≤ most))
local-field w least most n = record {
  same = λ bs more p le. taken-same bs more p w least most (refusal n Layer.Sheet (Place.At p)) le;
  near = λ bs p q x e. let t = taken-parts w least most _ bs p x q e in (let z = t.end in omega arith, (t.low, t.high));
}

local-filled : Local filled.reads 7 (λ _. Unit {0})
local-filled = record {
  same = λ bs more p le. taken-same bs more p ((8 - p % 8) % 8) 0 0 (refusal 4 Layer.Sheet (Place.At p)) (omega arith);
  near = λ bs p q x e. let t = taken-parts ((8 - p % 8) % 8) 0 0 _ bs p x q e in (let z = t.end in omega arith, tt);
}

local-ended : Local ended.reads 1 (λ _. Unit {0})
local-ended = record {
  same = λ bs more p le. ended-same bs more p le;
  near = λ bs p q x e. by p q x (ltb p (8 * length bs)) e;
}
  where
    by : (p q x : ℕ) (b : Bool) → cond b (fault 5 p) (got 0 p) ≡ got x q → (q ≤ p + 1) × Unit {0}
    by p q x true e = bad-got _ x q e
    by p q x false e = (let z = got-end 0 x p q e in omega arith, tt)

-- what is made of fields

local-done : {A : Type 0} {P : A → Type 0} (x : A) → P x → Local (λ _ p. got x p) 0 P
local-done {A} {P} x h = record {
  same = λ bs more p le. refl;
  near = λ bs p q y e. (let z = got-end x y p q e in omega arith, subst P (got-value x y p q e) h);
}

local-wider : {A : Type 0} {f : List ℕ → ℕ → Answer A} {w v : ℕ} {P : A → Type 0} → Local f w P → w ≤ v → Local f v P
local-wider h le = record {
  same = λ bs more p room. h.same bs more p (omega arith);
  near = λ bs p q x e. let n = h.near bs p q x e in (let z = n.0 in omega arith, n.1);
}

local-any : {A : Type 0} {f : List ℕ → ℕ → Answer A} {w : ℕ} {P : A → Type 0} → Local f w P → Local f w (λ _. Unit {0})
local-any h = record { same = h.same; near = λ bs p q x e. ((h.near bs p q x e).0, tt) }

local-plain : (w : ℕ) → Local (plain w).reads w (λ _. Unit {0})
local-plain w = local-any (local-field w 0 65535 1)

after-same : {A B : Type 0} (a : Answer A) (k l : A → ℕ → Answer B) → ((x : A) (q : ℕ) → a ≡ got x q → k x q ≡ l x q) → after a k ≡ after a l
unfolding after
after-same (got x q) k l h = h x q refl
after-same (bad r) k l h = refl

local-then : {A B : Type 0} {f : List ℕ → ℕ → Answer A} {rest : A → List ℕ → ℕ → Answer B} {a b : ℕ} {P : A → Type 0} {Q : B → Type 0} →
    Local f a P → ((x : A) → P x → Local (rest x) b Q) → Local (λ bs p. after (f bs p) (λ x q. rest x bs q)) (a + b) Q
local-then {A} {B} {f} {rest} {a} {b} {P} {Q} h k = record {
  same = λ bs more p le.
      ap (λ y. after y (λ x q. rest x (bs ++ more) q)) (h.same bs more p (omega arith))
      ∙ after-same (f bs p) (λ x q. rest x (bs ++ more) q) (λ x q. rest x bs q) (λ x q e.
      let n = h.near bs p q x e in
      (k x n.1).same bs more q (let z = n.0 in omega arith));
  near = λ bs p q y e.
      let c = after-parts (f bs p) (λ x q. rest x bs q) y q e in
      let n = h.near bs p c.end c.value c.first in
      let m = (k c.value n.1).near bs c.end q y c.rest in
      (let z = n.0 in let t = m.0 in omega arith, m.1);
}

module _ {A : Type 0} {f : List ℕ → ℕ → Answer A} {w : ℕ} {P : A → Type 0} (h : Local f w P) where
  local-each : (n : ℕ) → Local (λ bs p. each n (f bs) p) (w * n) (λ _. Unit {0})
  unfolding each
  local-each zero = local-wider (local-done [] tt) (omega arith)
  local-each (suc n) = local-wider (local-then (local-each n) (λ xs _. local-then h (λ x _. local-done (xs ++ x ∷ []) tt))) (omega arith)

  -- at most m times
  local-most : (m n : ℕ) → n ≤ m → Local (λ bs p. each n (f bs) p) (w * m) (λ _. Unit {0})
  local-most m n le = local-wider (local-each n) (mul-le-mul_left w le)

local-signed : Local signed.reads 16 (λ _. Unit {0})
local-signed = local-wider (local-then (local-plain 16) (λ x _. local-done (cast_signed w16 x) tt)) (omega arith)

-- the layout

local-header : Local header_format.reads 44 SheetCounts
unfolding header_format
local-header =
    local-wider
    (local-then (local-field 8 1 1 2) (λ version _.
    local-then (local-field 4 1 8 3) (λ processes p.
    local-then (local-field 7 0 64 3) (λ signals s.
    local-then (local-field 12 0 2048 3) (λ edges e.
    local-then (local-field 13 0 4096 3) (λ terms t.
    local-done (record { processes = processes; signals = signals; edges = edges; terms = terms }) (record { some = p.0; processes = p.1; signals = s.1; edges = e.1; terms = t.1 })))))))
    (omega arith)

local-timer : Local timer_format.reads 16 (λ _. Unit {0})
unfolding timer_format
local-timer =
    local-wider
    (local-then (local-plain 1) (λ on _.
    local-then (by (eqb on 0)) (λ n _.
    local-done (timer_of on n) tt)))
    (omega arith)
  where
    by : (b : Bool) → Local (cond b (field 15 0 0 4) (plain 15)).reads 15 (λ _. Unit {0})
    by true = local-any (local-field 15 0 0 4)
    by false = local-plain 15

local-process : Local process_format.reads 272 (λ _. Unit {0})
unfolding process_format
local-process =
    local-wider
    (local-then (local-plain 4) (λ last _.
    local-then (local-field 4 0 8 3) (λ variables v.
    local-then (local-field 4 0 8 3) (λ timers t.
    local-then (local-field 4 0 last 3) (λ first _.
    local-then (local-most local-signed 8 variables v.1) (λ values _.
    local-then (local-most local-timer 8 timers t.1) (λ settings _.
    local-done (record { locations = last + 1; first = first; variables = variables; timers = timers; values = values; settings = settings }) tt)))))))
    (omega arith)

local-destination : (processes class : ℕ) → Local (destination processes class).reads 3 (λ _. Unit {0})
local-destination processes class = by (leb class 1)
  where
    by : (b : Bool) → Local (cond b (field 3 0 (processes - 1) 3) (field 3 0 0 4)).reads 3 (λ _. Unit {0})
    by true = local-any (local-field 3 0 (processes - 1) 3)
    by false = local-any (local-field 3 0 0 4)

local-signal : (processes : ℕ) → Local (signal_format processes).reads 6 (λ _. Unit {0})
unfolding signal_format
local-signal processes =
    local-wider
    (local-then (local-field 3 0 3 3) (λ class _.
    local-then (local-destination processes class) (λ destination _.
    local-done (record { class = class; destination = destination }) tt)))
    (omega arith)

local-span : Local span_format.reads 17 (λ _. Unit {0})
unfolding span_format
local-span =
    local-wider
    (local-then (local-plain 12) (λ start _.
    local-then (local-plain 5) (λ count _.
    local-done (record { start = start; count = count }) tt)))
    (omega arith)

local-edge : Local edge_format.reads 60 (λ _. Unit {0})
unfolding edge_format
local-edge =
    local-wider
    (local-then (local-plain 3) (λ process _.
    local-then (local-plain 4) (λ from _.
    local-then (local-plain 4) (λ to _.
    local-then (local-plain 3) (λ kind _.
    local-then (local-plain 6) (λ first _.
    local-then (local-plain 4) (λ second _.
    local-then (local-plain 2) (λ mode _.
    local-then local-span (λ guard _.
    local-then local-span (λ value _.
    local-done (record {
      process = process;
      from = from;
      to = to;
      kind = kind;
      first = first;
      second = second;
      mode = mode;
      guard = guard;
      value = value;
    }) tt))))))))))
    (omega arith)

local-term : Local term_format.reads 20 (λ _. Unit {0})
unfolding term_format
local-term =
    local-wider
    (local-then (local-plain 4) (λ operation _.
    local-then local-signed (λ argument _.
    local-done (record { operation = operation; argument = argument }) tt)))
    (omega arith)

local-name : Local name_format.reads 128 (λ _. Unit {0})
unfolding name_format
local-name = local-wider (local-then (local-field 8 1 15 6) (λ n h. local-most (local-field 8 33 126 6) 15 n h.1)) (omega arith)

-- 44 + 272 * 8 + 6 * 64 + 60 * 2048 + 20 * 4096 bits, at most 7 of fill, 128 * 72, and the bit behind them
local-sheet : Local sheet_format.reads 216628 (λ _. Unit {0})
unfolding sheet_format
local-sheet =
    local-wider
    (local-then local-header (λ counts h.
    local-then (local-most local-process 8 counts.processes h.processes) (λ processes _.
    local-then (local-most (local-signal counts.processes) 64 counts.signals h.signals) (λ signals _.
    local-then (local-most local-edge 2048 counts.edges h.edges) (λ edges _.
    local-then (local-most local-term 4096 counts.terms h.terms) (λ terms _.
    local-then local-filled (λ _ _.
    local-then (local-most local-name 72 (counts.processes + counts.signals) (let p = h.processes in let s = h.signals in omega arith)) (λ names _.
    local-then local-ended (λ _ _.
    local-done (record { lists = record { processes = processes; signals = signals; edges = edges; terms = terms }; names = names }) tt)))))))))
    (omega arith)

pub cut : (bs : List ℕ) → OpensAsCut bs
unfolding opened
cut bs more h = ap judged (local-sheet.same bs more 0 (omega arith))
