use Rattle.std.proofs.Common.{◌≡◌, ℕ, ◌+◌, ◌*◌, refl, subst, arith, rules}
use Rattle.reading.specs.Readings.{row_at}
use Rattle.reading.proofs.Rows.{Row, reach, row-none, row_next, row-exit, row-all}
use Rattle.reading.proofs.reader.Reader.row.Goals as goal

pub loop-init : goal.loop-init
loop-init g c = (λ f d w h. (row-none f.reads c.args.self.now, omega arith), omega arith)

pub returns-in_err-read : goal.returns-in_err-read
returns-in_err-read g c = λ f d w h.
    let i = c.loop.invariant.0 f d w h in
    let k = h _ _ _ c.read.ensures in
    let m = rw c.in_err-read.was at k.moves in
    let e = reach w c.loop.counter c.args.count (omega arith) in
    record { reads = row-exit {xs = row_at f d c.args.self.now.bytes.now c.args.self.now.place w c.loop.counter} (omega arith) i.0 k.reads c.in_err-read.was c.from_residual.ensures.1; moves = search rules }

pub loop-preserved : goal.loop-preserved
loop-preserved g c =
    let n = c.requires.narrow _ _ _ c.read.ensures in (
      λ f d w h.
          let i = c.loop.invariant.0 f d w h in
          let k = h _ _ _ c.read.ensures in
          let m = rw c.in_ok-read.was at k.moves in
          let e = reach w c.loop.counter c.args.count (omega arith) in
          (row_next f d w i.0 i.1 k.reads c.in_ok-read.was, omega arith),
      omega arith,
    )

pub returns : goal.returns
returns g c = λ f d w h.
    let i = c.loop.invariant.0 f d w h in
    let n : c.loop.counter ≡ c.args.count = omega arith in
    let F = λ (k : ℕ). Row f.reads k (row_at f d c.args.self.now.bytes.now c.args.self.now.place w k) c.args.self.now c.loop.self in
    let G = λ (k : ℕ). c.loop.self.place ≡ c.args.self.now.place + w * k in
    record { reads = row-all tt (subst F n i.0) refl; moves = subst G n i.1 }
