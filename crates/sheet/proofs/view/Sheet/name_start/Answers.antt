use Rattle.std.proofs.Common.{◌≡◌, ◌+◌, sym, ap, ◌∙◌, arith}
use Rattle.reading.specs.Rows.{next_name}
use Rattle.sheet.specs.Views.{bytes_of}
use Rattle.reading.proofs.Naming.{name_start-none, name_start-more}
use Rattle.sheet.proofs.view.Sheet.name_start.Goals as goal

pub loop-init : goal.loop-init
loop-init c = (sym (name_start-none (bytes_of c.args.self.now) c.args.self.now.names_at), omega arith)

pub loop-preserved : goal.loop-preserved
loop-preserved c =
    let s = c.args.self.now in
    let b = rw c.at-reader.ensures.bytes at c.byte.ensures in
    let e : c.loop.at + (1 + c.from.result) ≡ next_name (bytes_of s) c.loop.at = omega arith in
    (e ∙ ap (next_name (bytes_of s)) c.loop.invariant.0 ∙ sym (name_start-more (bytes_of s) s.names_at c.loop.counter), omega arith)
