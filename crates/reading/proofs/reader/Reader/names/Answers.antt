use Rattle.std.proofs.Common.{◌≡◌, ℕ, ◌+◌, ◌*◌, ◌/◌, List, [], ◌∷◌, ◌++◌, length, get_or, sym, ap, ◌∙◌, subst, arith, rules}
use Rattle.std.proofs.lemmas.List.FromFn.{map-range_with_len_more}
use Rattle.reading.specs.Layout.{name_format}
use Rattle.reading.specs.Rows.{text_at, texts_at, next_name, name_start}
use Rattle.reading.proofs.Naming.{name_start-none, name_start-more, laid_none, laid_more}
use Rattle.reading.proofs.Rows.{Row, row-none, row_more, row-exit}
use Rattle.reading.proofs.reader.Reader.names.Goals as goal

pub loop-init : goal.loop-init
loop-init c =
    (row-none name_format.reads c.args.self.now, omega (arith, name_start-none c.args.self.now.bytes.now (c.args.self.now.place / 8)), omega arith, laid_none c.args.self.now.bytes.now (c.args.self.now.place / 8))

pub returns-in_err-name : goal.returns-in_err-name
returns-in_err-name c =
    record { reads = row-exit (omega arith) c.loop.invariant.0 c.name.ensures.reads c.in_err-name.was c.from_residual.ensures.1; places = search rules }

pub loop-preserved : goal.loop-preserved
loop-preserved c =
    let bs = c.args.self.now.bytes.now in
    let a = c.args.self.now.place / 8 in
    let i = c.loop.counter in
    let s = c.loop.invariant.0.same in
    let q : c.loop.self.place / 8 ≡ name_start bs a i = omega arith in
    let v : text_at c.loop.self.bytes.now (c.loop.self.place / 8) ≡ text_at bs (name_start bs a i) =
    ap (λ ys. text_at ys (c.loop.self.place / 8)) s ∙ ap (text_at bs) q in
    let w : length (text_at bs (name_start bs a i)) ≡ get_or bs (name_start bs a i) 0 =
    subst (λ (ys : List ℕ). length (text_at ys (name_start bs a i)) ≡ get_or ys (name_start bs a i) 0) s (subst (λ (k : ℕ). length (text_at c.loop.self.bytes.now k) ≡ get_or c.loop.self.bytes.now k 0) q c.in_ok-name.ensures.whole) in
    let e : texts_at bs a (i + 1) ≡ texts_at bs a i ++ text_at c.loop.self.bytes.now (c.loop.self.place / 8) ∷ [] =
    map-range_with_len_more (λ k. text_at bs (name_start bs a k)) 0 i i (omega arith) ∙ ap (λ y. texts_at bs a i ++ y ∷ []) (sym v) in
    let n : next_name c.loop.self.bytes.now (c.loop.self.place / 8) ≡ name_start bs a (i + 1) =
    ap (λ ys. next_name ys (c.loop.self.place / 8)) s ∙ ap (next_name bs) q ∙ sym (name_start-more bs a i) in (
      subst (λ (ys : List (List ℕ)). Row name_format.reads (i + 1) ys c.args.self.now c.name.new.self) (sym e) (row_more c.loop.invariant.0 c.name.ensures.reads c.in_ok-name.was),
      c.in_ok-name.ensures.size ∙ ap (λ k. 8 * k) n,
      omega arith,
      laid_more bs a i c.loop.invariant.3 w,
    )
