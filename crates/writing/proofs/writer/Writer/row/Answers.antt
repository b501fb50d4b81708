use Rattle.std.proofs.Common.{◌≡◌, arith}
use borrow.Author.Count.{below_more}
use Rattle.reading.proofs.Rows.{reach}
use Rattle.writing.proofs.Rows.{row_none, row_more}
use Rattle.writing.proofs.writer.Writer.row.Goals as goal

pub loop-k-init : goal.loop-k-init
loop-k-init g c = record {
  within = omega arith;
  bound = λ w h. omega arith;
  calls = λ k lt. absurd (omega arith);
  writes = λ fs h. row_none fs c.args.self.now.place c.args.bytes.now;
}

pub write-requires : goal.write-requires
write-requires g c = c.requires.writable c.loop-k.k _ _ _ (omega arith) c.read.ensures (omega arith)

pub loop-k-preserved : goal.loop-k-preserved
loop-k-preserved g c =
    let i = c.loop-k.invariant in
    let n = c.requires.narrow _ _ _ _ _ c.write.ensures in
    record {
      within = omega arith;
      bound = λ w h.
          let m = h _ _ _ _ _ c.write.ensures in
          let b = i.bound w h in
          let e = reach w c.loop-k.k c.args.count (omega arith) in
          omega arith;
      calls = below_more _ _ i.calls (_, _, _, _, _, c.read.ensures, c.write.ensures);
      writes = λ fs h. row_more fs c.loop-k.k (i.writes fs h) (h _ _ _ _ _ _ (omega arith) c.read.ensures c.write.ensures);
    }

pub returns-clause-bound : goal.returns-clause-bound
returns-clause-bound g c = λ w h.
    let n : c.loop-k.k ≡ c.args.count = omega arith in
    rw (← n) (c.loop-k.invariant.bound w h)

pub returns-clause-calls : goal.returns-clause-calls
returns-clause-calls g c = λ k lt. c.loop-k.invariant.calls k (omega arith)

pub returns-clause-writes : goal.returns-clause-writes
returns-clause-writes g c = λ fs h.
    let n : c.loop-k.k ≡ c.args.count = omega arith in
    rw (← n) (c.loop-k.invariant.writes fs h)
