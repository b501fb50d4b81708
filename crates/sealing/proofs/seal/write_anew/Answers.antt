use Rattle.std.proofs.Common.{◌≡◌, ◌≤◌, ◌++◌, length, take, drop, ap, sym, ◌∙◌, subst, arith}
use Rattle.std.proofs.Math.Seq.{take-append_seam}
use Rattle.writing.specs.Written.{IsWrittenAs}
use Rattle.sealing.proofs.seal.write_anew.Goals as goal

pub returns : goal.returns
returns g c =
    let w = c.write-size.ensures.sheet in
    let n = c.write-size.result in
    let new = c.write-size.new.output in
    let old = c.deref_mut.result.now in
    let l : length new ≡ c.in_ok-output.output.len = omega (arith, c.write-size.auto.output, c.deref_mut.ensures.len) in
    let room : length w.0 ≤ length old = omega (arith, c.write-size.ensures.size, w.2, c.requires.room, c.deref_mut.ensures.len, c.in_ok-output.ensures.len) in
    let taken : c.truncate.new.self.items ≡ take n new = rw (← l, take-append_seam) at c.truncate.ensures.items in
    let front : take n new ≡ w.0 = ap (take n) (w.3.room room) ∙ ap (λ k. take k (w.0 ++ drop (length w.0) old)) w.2 ∙ take-append_seam w.0 (drop (length w.0) old) in
    subst (IsWrittenAs (g.T.Table.lists c.args.table.now) c.args.names.now) (sym (taken ∙ front)) w.1
