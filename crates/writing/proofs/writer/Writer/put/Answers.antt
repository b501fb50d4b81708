use Rattle.std.proofs.Common.{◌≡◌, ℕ, ◌+◌, ◌-◌, ◌/◌, ◌%◌, ◌<◌, get_or, ap, ◌∙◌, arith}
use Rattle.writing.specs.Writes.{patched}
use Rattle.reading.specs.Readings.{window}
use Rattle.writing.proofs.Places.{stored-from, writes_put}
use Rattle.writing.proofs.writer.Writer.put.Goals as goal

pub returns-clause-writes : goal.returns-clause-writes
returns-clause-writes c =
    let bs = c.args.bytes.now in
    let p = c.args.self.now.place in
    let w = c.args.width in
    let v = c.args.value in
    let r = 24 - p % 8 - w in
    let small : (k : ℕ) → k < 3 → get_or bs (p / 8 + k) 0 < 256 = rw (c.at.ensures.bytes, c.at.ensures.place) at c.window-window.ensures.bytes in
    let at : c.window-window.result ≡ window bs p = rw (c.at.ensures.bytes, c.at.ensures.place) at c.window-window.ensures.value in
    let n : c.patch.result ≡ patched (window bs p) r w v = c.patch.ensures.value ∙ ap (λ n. patched n r w v) at in
    let all = stored-from bs c.store.new.bytes c.store-2.new.bytes c.store-3.new.bytes c.to_be_bytes.result (p / 8) c.patch.result c.to_be_bytes.ensures c.store.ensures c.store-2.ensures c.store-3.ensures in
    rw (all, n) (writes_put bs p w v r small (omega arith) (omega arith) (omega arith))
