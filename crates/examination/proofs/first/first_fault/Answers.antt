use Rattle.std.proofs.Common.{sym, ◌∙◌}
use Rattle.std.proofs.lemmas.Result.{err_from_is_err_and}
use Rattle.examination.proofs.Firsts.{told-end, told-hit, told-miss}
use Rattle.examination.proofs.first.first_fault.Goals as goal

pub returns-in_err-check : goal.returns-in_err-check
returns-in_err-check g c refused f told =
    let p = err_from_is_err_and c.from_residual.result c.from_residual.ensures.1 in
    let t = told c.loop-i.i _ c.loop-i-test.true c.in_err-check.ensures in
    rw (p.1, p.2) (sym (told-hit f c.loop-i.i c.args.count (refused c.in_err-check.field-0.0) c.loop-i-test.true (sym t)) ∙ c.loop-i.invariant.1 refused f told)

pub loop-i-preserved : goal.loop-i-preserved
loop-i-preserved g c = (
  c.loop-i.invariant.0,
  λ refused f told.
      let t = told c.loop-i.i _ c.loop-i-test.true c.in_ok-check.ensures in
      sym (told-miss f c.loop-i.i c.args.count c.loop-i-test.true (sym t)) ∙ c.loop-i.invariant.1 refused f told,
)

pub returns : goal.returns
returns g c refused f told = sym (told-end f c.loop-i.i c.args.count c.loop-i-test.false) ∙ c.loop-i.invariant.1 refused f told
