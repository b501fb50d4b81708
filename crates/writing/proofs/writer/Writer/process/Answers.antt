use Rattle.std.proofs.Common.{◌≡◌, length, get_or, take, arith, rules, FitsSigned, pos, append-nil, length-take-le}
use Rattle.std.specs.Int.{w16}
use Rattle.std.proofs.lemmas.List.{get_or-take, get_or_read}
use Rattle.reading.specs.Formats.{signed}
use Rattle.reading.specs.Layout.{process_format, timer_format}
use Rattle.table.specs.Lists.{meant}
use Rattle.table.specs.declared.record.Timer.TheVariants.{Off}
use Rattle.writing.specs.Writes.{Writes}
use Rattle.writing.proofs.Processes.{good_process, narrow-timer}
use Rattle.writing.proofs.Joins.{writes_join}
use Rattle.writing.proofs.Rows.{fields_below-list}
use Rattle.writing.proofs.writer.Writer.process.Goals as goal

pub row-requires-2-clause-writable : goal.row-requires-2-clause-writable
row-requires-2-clause-writable c = λ k r s x lt e le.
    let good = good_process (meant c.args.process) c.requires.good in
    let b = c.row.ensures.bound 16 (λ r s x t y e. search rules) in
    let same : r ≡ get_or c.args.process.settings k r = search rules in
    let n : length c.args.process.settings ≡ 8 = search rules in
    let here = get_or-take c.args.process.timers c.args.process.settings k r (omega arith) in
    let l = length-take-le c.args.process.timers c.args.process.settings (omega arith) in
    let h = narrow-timer (take c.args.process.timers c.args.process.settings) k r good.short (omega arith) in
    (omega arith, rw (here, ← same) at h)

pub returns-clause-bound : goal.returns-clause-bound
returns-clause-bound c =
    let good = good_process (meant c.args.process) c.requires.good in
    let b = c.row.ensures.bound 16 (λ r s x t y e. search rules) in
    let d = c.row-2.ensures.bound 16 (λ r s x t y e. search rules) in
    omega arith

pub returns-clause-fits : goal.returns-clause-fits
returns-clause-fits c =
    let good = good_process (meant c.args.process) c.requires.good in
    let n : length c.args.process.values ≡ 8 = search rules in
    let m : length c.args.process.settings ≡ 8 = search rules in
    let v = length-take-le c.args.process.variables c.args.process.values (omega arith) in
    record {
      values = v;
      settings = length-take-le c.args.process.timers c.args.process.settings (omega arith);
      words = λ k d lt.
          let call = c.row.ensures.calls k (omega arith) in
          let same : call.0 ≡ get_or c.args.process.values k call.0 = search rules in
          let fits : FitsSigned w16 call.0 = search rules in
          let read = get_or_read c.args.process.values k call.0 (omega arith) same d in
          rw (get_or-take c.args.process.variables c.args.process.values k d (omega arith), ← read) fits;
    }

pub returns-clause-writes : goal.returns-clause-writes
unfolding process_format
returns-clause-writes c =
    let good = good_process (meant c.args.process) c.requires.good in
    let n : length c.args.process.values ≡ 8 = search rules in
    let m : length c.args.process.settings ≡ 8 = search rules in
    let v = c.row.ensures.writes (λ k. signed.writes (get_or c.args.process.values k (pos 0))) (λ k r s x t y lt e f.
    let same : r ≡ get_or c.args.process.values k r = search rules in
    let read = get_or_read c.args.process.values k r (omega arith) same (pos 0) in
    let w : Writes (signed.writes r) s.now.place t.now.place x.now y.now = search rules in
    rw read at w) in
    let t = c.row-2.ensures.writes (λ k. timer_format.writes (get_or c.args.process.settings k Off)) (λ k r s x t y lt e f.
    let same : r ≡ get_or c.args.process.settings k r = search rules in
    let read = get_or_read c.args.process.settings k r (omega arith) same Off in
    let w : Writes (timer_format.writes r) s.now.place t.now.place x.now y.now = search rules in
    rw read at w) in
    let v' = rw (c.from-variables.ensures, fields_below-list signed.writes (pos 0) c.args.process.values c.args.process.variables (omega arith)) at v in
    let t' = rw (c.from-timers.ensures, fields_below-list timer_format.writes Off c.args.process.settings c.args.process.timers (omega arith)) at t in
    writes_join c.put.ensures.writes (writes_join c.put-2.ensures.writes (writes_join c.put-3.ensures.writes (writes_join c.put-4.ensures.writes (rw append-nil (writes_join v' t')))))
