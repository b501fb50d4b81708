use Rattle.std.proofs.Common.{◌≡◌, ℕ, ◌+◌, ◌<◌, ◌++◌, length, take, drop, sym, subst, arith, length-take}
use Rattle.std.proofs.lemmas.List.{take_more_set, take-append-le}
use Rattle.reading.proofs.Rows.{Row, row-none, row_more, row-exit, row-all}
use Rattle.reading.proofs.reader.Reader.read_first.Goals as goal

pub loop-place-init : goal.loop-place-init
loop-place-init g c = (λ f h. row-none f.reads c.args.self.now, omega arith)

pub returns-in_err-place-clause-reads : goal.returns-in_err-place-clause-reads
returns-in_err-place-clause-reads g c = λ f h.
    let l : c.loop-place.place-index < c.args.count = omega (arith, length-take c.from.result c.args.places.now) in
    row-exit l (c.loop-place.invariant.0 f h) (h _ _ _ c.read.ensures) c.in_err-place.was c.from_residual.ensures.1

pub loop-place-preserved : goal.loop-place-preserved
loop-place-preserved g c =
    let m = rw c.in_ok-place.was at (c.requires.sixteen _ _ _ c.read.ensures) in
    let j = c.loop-place.place-index in
    let xs = c.loop-place.place-items in
    let e = take_more_set xs j c.in_ok-place.field-0 (omega arith) in
    (λ f h. subst (λ ys. Row f.reads (j + 1) ys c.args.self.now c.read.new.arg2) (sym e) (row_more (c.loop-place.invariant.0 f h) (h _ _ _ c.read.ensures) c.in_ok-place.was), omega arith)

pub returns-clause-reads : goal.returns-clause-reads
returns-clause-reads g c = λ f h.
    let xs = c.loop-place.place-items in
    let ys = drop c.from.result c.args.places.now in
    let l : length xs ≡ c.args.count = omega (arith, length-take c.from.result c.args.places.now) in
    let n : c.loop-place.place-index ≡ c.args.count = omega arith in
    let e : take c.args.count (xs ++ ys) ≡ take c.args.count xs = take-append-le c.args.count xs ys (omega arith) in
    let F = λ (k : ℕ). Row f.reads k (take k xs) c.args.self.now c.loop-place.self in
    row-all tt (subst F n (c.loop-place.invariant.0 f h)) e
