-- The fields of an edge and of a term, out of the number that their bits write.
use Rattle.std.proofs.Common.{◌≡◌, ℕ, zero, suc, ◌+◌, ◌-◌, ◌*◌, ◌/◌, ◌%◌, ◌^◌, ◌<◌, ◌≤◌, List, [], length, get_or, take, drop, Ok, sym, refl, ap, ◌∙◌, arith}
use Rattle.std.proofs.lemmas.List.{get_or-take, get_or-drop}
use Rattle.std.specs.List.{slice_range}
use Rattle.reading.proofs.Chains.{after-got}
use Rattle.reading.proofs.Numbers.{number-none, number-part, number-bytes}
use Rattle.reading.proofs.Taken.{plain-room}
use Rattle.std.specs.Int.{w16, cast_signed}
use Rattle.std.proofs.Math.Nat.{mul-suc}
use Rattle.std.proofs.lemmas.List.FromFn.{map-range_with_len_more}
use Rattle.reading.proofs.Rows.{each_none, each-suc}
use Rattle.reading.specs.Formats.{Format, each, got, many, number}
use Rattle.reading.specs.Layout.{edge_format, span_format, term_format}
use Rattle.reading.specs.Readings.{Reads, value_or, read_at, row_at}
use Rattle.reading.specs.Rows.{no_edge, no_term}
use Rattle.reading.specs.declared.reader.Reader.{Reader}
use Rattle.table.specs.declared.record.Edge.{Edge}
use Rattle.table.specs.declared.record.Term.{Term}

piece : (n : ℕ) (bs : List ℕ) (p a w r q : ℕ) → q ≡ p + a → a + w + r ≡ n → number bs q w ≡ number bs p n / 2 ^ r % 2 ^ w
piece n bs p a w r q e s = ap (λ k. number bs k w) e ∙ number-part bs p a w r ∙ ap (λ k. number bs p k / 2 ^ r % 2 ^ w) s

abbrev pub unpacked : ℕ → Edge
unpacked n = record {
  process = n / 2 ^ 57 % 2 ^ 3;
  from = n / 2 ^ 53 % 2 ^ 4;
  to = n / 2 ^ 49 % 2 ^ 4;
  kind = n / 2 ^ 46 % 2 ^ 3;
  first = n / 2 ^ 40 % 2 ^ 6;
  second = n / 2 ^ 36 % 2 ^ 4;
  mode = n / 2 ^ 34 % 2 ^ 2;
  guard = record { start = n / 2 ^ 22 % 2 ^ 12; count = n / 2 ^ 17 % 2 ^ 5 };
  value = record { start = n / 2 ^ 5 % 2 ^ 12; count = n / 2 ^ 0 % 2 ^ 5 };
}

edge-room : (bs : List ℕ) (p : ℕ) → p + 60 ≤ 8 * length bs → edge_format.reads bs p ≡ got (unpacked (number bs p 60)) (p + 60)
unfolding edge_format span_format
edge-room bs p room =
    let q1 = p + 3 in
    let q2 = q1 + 4 in
    let q3 = q2 + 4 in
    let q4 = q3 + 3 in
    let q5 = q4 + 6 in
    let q6 = q5 + 4 in
    let q7 = q6 + 2 in
    let q8 = q7 + 12 in
    let q9 = q8 + 5 in
    let q10 = q9 + 12 in
    rw (
      plain-room bs p 3 _ (omega arith) (omega arith),
      after-got,
      plain-room bs q1 4 _ (omega arith) (omega arith),
      after-got,
      plain-room bs q2 4 _ (omega arith) (omega arith),
      after-got,
      plain-room bs q3 3 _ (omega arith) (omega arith),
      after-got,
      plain-room bs q4 6 _ (omega arith) (omega arith),
      after-got,
      plain-room bs q5 4 _ (omega arith) (omega arith),
      after-got,
      plain-room bs q6 2 _ (omega arith) (omega arith),
      after-got,
      plain-room bs q7 12 _ (omega arith) (omega arith),
      after-got,
      plain-room bs q8 5 _ (omega arith) (omega arith),
      after-got,
      after-got,
      plain-room bs q9 12 _ (omega arith) (omega arith),
      after-got,
      plain-room bs q10 5 _ (omega arith) (omega arith),
      after-got,
      after-got,
    )
    (rw (
      piece 60 bs p 0 3 57 p (omega arith) refl,
      piece 60 bs p 3 4 53 q1 (omega arith) refl,
      piece 60 bs p 7 4 49 q2 (omega arith) refl,
      piece 60 bs p 11 3 46 q3 (omega arith) refl,
      piece 60 bs p 14 6 40 q4 (omega arith) refl,
      piece 60 bs p 20 4 36 q5 (omega arith) refl,
      piece 60 bs p 24 2 34 q6 (omega arith) refl,
      piece 60 bs p 26 12 22 q7 (omega arith) refl,
      piece 60 bs p 38 5 17 q8 (omega arith) refl,
      piece 60 bs p 43 12 5 q9 (omega arith) refl,
      piece 60 bs p 55 5 0 q10 (omega arith) refl,
    ) (ap (got (unpacked (number bs p 60))) (omega arith)))

pub edge-loaded : (bs : List ℕ) (p : ℕ) → p + 60 ≤ 8 * length bs → read_at edge_format no_edge bs p ≡ unpacked (number bs p 60)
edge-loaded bs p room = ap (λ a. value_or a no_edge) (edge-room bs p room)

-- a row of records that any bits make

-- a format whose records all have w bits, which may be any
abbrev pub Open : {A : Type 0} → Format A → ℕ → List ℕ → Type 0
Open f w bs = (d : _) (p : ℕ) → p + w ≤ 8 * length bs → f.reads bs p ≡ got (read_at f d bs p) (p + w)

pub open-edge : (bs : List ℕ) → Open edge_format 60 bs
open-edge bs d p room = let e = edge-room bs p room in e ∙ ap (λ x. got x (p + 60)) (sym (ap (λ a. value_or a d) e))

abbrev pub unpacked_term : ℕ → Term
unpacked_term n = record { operation = n / 2 ^ 16 % 2 ^ 4; argument = cast_signed w16 (n / 2 ^ 0 % 2 ^ 16) }

term-room : (bs : List ℕ) (p : ℕ) → p + 20 ≤ 8 * length bs → term_format.reads bs p ≡ got (unpacked_term (number bs p 20)) (p + 20)
unfolding term_format
term-room bs p room =
    let q = p + 4 in
    rw (plain-room bs p 4 _ (omega arith) (omega arith), after-got, plain-room bs q 16 _ (omega arith) (omega arith), after-got, after-got)
    (rw (piece 20 bs p 0 4 16 p (omega arith) refl, piece 20 bs p 4 16 0 q (omega arith) refl) (ap (got (unpacked_term (number bs p 20))) (omega arith)))

pub term-loaded : (bs : List ℕ) (p : ℕ) → p + 20 ≤ 8 * length bs → read_at term_format no_term bs p ≡ unpacked_term (number bs p 20)
term-loaded bs p room = ap (λ a. value_or a no_term) (term-room bs p room)

pub open-term : (bs : List ℕ) → Open term_format 20 bs
open-term bs d p room = let e = term-room bs p room in e ∙ ap (λ x. got x (p + 20)) (sym (ap (λ a. value_or a d) e))

pub each-open : {A : Type 0} (f : Format A) (d : A) (w : ℕ) (bs : List ℕ) (p n : ℕ) → Open f w bs → p + w * n ≤ 8 * length bs → each n (f.reads bs) p ≡ got (row_at f d bs p w n) (p + w * n)
each-open f d w bs p zero free room =
    each_none (f.reads bs) p ∙ ap (got []) (omega arith)
each-open f d w bs p (suc n) free room =
    let m = mul-suc w n in
    let e = each-open f d w bs p n free (omega arith) in
    let r = map-range_with_len_more (λ i. read_at f d bs (p + w * i)) 0 n n (omega arith) in
    let k : n + 1 ≡ suc n = omega arith in
    each-suc (f.reads bs) p n (row_at f d bs p w n) (p + w * n) (read_at f d bs (p + w * n)) (p + w * n + w) e (free d (p + w * n) (omega arith))
    ∙ ap (λ xs. got xs (p + w * n + w)) (sym r ∙ ap (λ j. row_at f d bs p w j) k) ∙ ap (got (row_at f d bs p w (suc n))) (omega arith)

-- a reader goes past a row that is all there
pub passed_row : {A : Type 0} (f : Format A) (d : A) (w n : ℕ) (s t : Reader) → Open f w s.bytes.now → s.place + w * n ≤ 8 * length s.bytes.now → t.bytes.now ≡ s.bytes.now → t.place ≡ s.place + w * n
    → Reads {A = Unit} (many n f).reads (λ _. row_at f d s.bytes.now s.place w n) s (Ok tt) t
passed_row f d w n s t free room same at = record {
  value = ap (got (row_at f d s.bytes.now s.place w n)) at ∙ sym (each-open f d w s.bytes.now s.place n free room);
  same = same;
  stays = tt;
}

-- a byte of n
pub chunk : (n : ℕ) (bs part xs : List ℕ) (i k : ℕ) → part ≡ slice_range bs i (i + n) → xs ≡ take n part → k < n → get_or xs k 0 ≡ get_or bs (i + k) 0
chunk n bs part xs i k p s h =
    ap (λ ys. get_or ys k 0) s ∙ get_or-take n part k 0 h ∙ ap (λ ys. get_or ys k 0) p ∙ get_or-take (i + n - i) (drop i bs) k 0 (omega arith) ∙ get_or-drop i bs k 0

-- w bits out of n whole bytes, with r behind them
inside : (bs : List ℕ) (p w r n all : ℕ) → p % 8 + w + r ≡ n → number bs (8 * (p / 8)) n ≡ all → number bs p w ≡ all / 2 ^ r % 2 ^ w
inside bs p w r n all e h =
    let q : 8 * (p / 8) + p % 8 ≡ p = omega arith in
    ap (λ k. number bs k w) (sym q) ∙ number-part bs (8 * (p / 8)) (p % 8) w r
    ∙ ap (λ k. number bs (8 * (p / 8)) k / 2 ^ r % 2 ^ w) e ∙ ap (λ k. k / 2 ^ r % 2 ^ w) h

-- 60 bits lie in nine bytes
abbrev pub loaded : List ℕ → ℕ
loaded xs =
    (get_or xs 0 0 * 72057594037927936 + get_or xs 1 0 * 281474976710656 + get_or xs 2 0 * 1099511627776 + get_or xs 3 0 * 4294967296 + get_or xs 4 0 * 16777216
    + get_or xs 5 0 * 65536 + get_or xs 6 0 * 256 + get_or xs 7 0) * 256 + get_or xs 8 0

next_byte : (bs xs : List ℕ) (p k n : ℕ) → get_or xs k 0 ≡ get_or bs (p / 8 + k) 0 → get_or xs k 0 < 256 → number bs (8 * (p / 8 + k)) (8 + n) ≡ get_or xs k 0 * 2 ^ n + number bs (8 * (p / 8 + (k + 1))) n
next_byte bs xs p k n e h =
    let s : p / 8 + k + 1 ≡ p / 8 + (k + 1) = omega arith in
    number-bytes bs (p / 8 + k) n (rw (← e) h) ∙ rw (← e, s) refl

module _ (bs xs : List ℕ) (p : ℕ) (same : (k : ℕ) → k < 9 → get_or xs k 0 ≡ get_or bs (p / 8 + k) 0) (small : (k : ℕ) → k < 9 → get_or xs k 0 < 256) where
  next : (k n : ℕ) → k < 9 → number bs (8 * (p / 8 + k)) (8 + n) ≡ get_or xs k 0 * 2 ^ n + number bs (8 * (p / 8 + (k + 1))) n
  next k n h = next_byte bs xs p k n (same k h) (small k h)

  pub number-loaded : number bs p 60 ≡ loaded xs / 2 ^ (12 - p % 8) % 2 ^ 60
  number-loaded =
      let z : p / 8 + 0 ≡ p / 8 = omega arith in
      let n0 = rw z at (next 0 64 (omega arith)) in
      let n1 = next 1 56 (omega arith) in
      let n2 = next 2 48 (omega arith) in
      let n3 = next 3 40 (omega arith) in
      let n4 = next 4 32 (omega arith) in
      let n5 = next 5 24 (omega arith) in
      let n6 = next 6 16 (omega arith) in
      let n7 = next 7 8 (omega arith) in
      let n8 = next 8 0 (omega arith) in
      let none = number-none bs (8 * (p / 8 + (8 + 1))) in
      let all : number bs (8 * (p / 8)) 72 ≡ loaded xs = omega arith in
      inside bs p 60 (12 - p % 8) 72 (loaded xs) (omega arith) all

-- 20 bits lie in four bytes
abbrev pub loaded_short : List ℕ → ℕ
loaded_short xs = get_or xs 0 0 * 16777216 + get_or xs 1 0 * 65536 + get_or xs 2 0 * 256 + get_or xs 3 0

module _ (bs xs : List ℕ) (p : ℕ) (same : (k : ℕ) → k < 4 → get_or xs k 0 ≡ get_or bs (p / 8 + k) 0) (small : (k : ℕ) → k < 4 → get_or xs k 0 < 256) where
  pub number-loaded_short : number bs p 20 ≡ loaded_short xs / 2 ^ (12 - p % 8) % 2 ^ 20
  number-loaded_short =
      let z : p / 8 + 0 ≡ p / 8 = omega arith in
      let n0 = rw z at (next_byte bs xs p 0 24 (same 0 (omega arith)) (small 0 (omega arith))) in
      let n1 = next_byte bs xs p 1 16 (same 1 (omega arith)) (small 1 (omega arith)) in
      let n2 = next_byte bs xs p 2 8 (same 2 (omega arith)) (small 2 (omega arith)) in
      let n3 = next_byte bs xs p 3 0 (same 3 (omega arith)) (small 3 (omega arith)) in
      let none = number-none bs (8 * (p / 8 + (3 + 1))) in
      let all : number bs (8 * (p / 8)) 32 ≡ loaded_short xs = omega arith in
      inside bs p 20 (12 - p % 8) 32 (loaded_short xs) (omega arith) all
