use Rattle.std.proofs.Common.{◌≡◌, ◌+◌, ◌<◌, List, [], ◌∷◌, ◌++◌, take, set, sym, ap, ◌∙◌, subst, arith, length-take}
use Rattle.std.proofs.lemmas.List.{take_more_set, map_push}
use Rattle.std.proofs.lemmas.List.Sums.{sum_by_push}
use Rattle.reading.specs.Layout.{process_format}
use Rattle.reading.specs.Opening.{process_bits, processes_bits}
use Rattle.reading.specs.Readings.{read_at, value_or}
use Rattle.reading.specs.Rows.{processes_at}
use Rattle.reading.proofs.Chains.{read}
use Rattle.reading.proofs.Rows.{Row, row-none, row_more, row-exit}
use Rattle.reading.proofs.reader.Reader.processes.Goals as goal
use Rattle.table.specs.Edges.{blank}
use Rattle.table.specs.Lists.{Proc, meant}

pub loop-place-init : goal.loop-place-init
loop-place-init c = (row-none process_format.reads c.args.self.now, omega arith, omega arith)

pub returns-in_err-process-clause-reads : goal.returns-in_err-process-clause-reads
returns-in_err-process-clause-reads c =
    let l : c.loop-place.place-index < c.args.count = omega (arith, length-take c.from.result c.args.places.now) in
    row-exit l c.loop-place.invariant.0 c.process.ensures.reads c.in_err-process.was c.from_residual.ensures.1

pub loop-place-preserved : goal.loop-place-preserved
loop-place-preserved c =
    let bs = c.args.self.now.bytes.now in
    let i = c.loop-place.place-index in
    let items = c.loop-place.place-items in
    let at = c.loop-place.self.place in
    let p = meant c.in_ok-process.field-0 in
    let before = processes_at bs (take i items) in
    let v : read_at process_format blank bs at ≡ p = ap (λ a. value_or a blank) (read bs c.process.ensures.reads c.in_ok-process.was c.loop-place.invariant.0.same) in
    let e : processes_at bs (take (i + 1) (set items i at)) ≡ before ++ p ∷ [] =
    ap (processes_at bs) (take_more_set items i at (omega arith)) ∙ map_push (read_at process_format blank bs) (take i items) at ∙ ap (λ y. before ++ y ∷ []) v in (
      subst (λ (ys : List Proc). Row process_format.reads (i + 1) ys c.args.self.now c.process.new.self) (sym e) (row_more c.loop-place.invariant.0 c.process.ensures.reads c.in_ok-process.was),
      omega (arith, ap processes_bits e, sum_by_push process_bits before p, c.in_ok-process.ensures.size),
      omega arith,
    )
