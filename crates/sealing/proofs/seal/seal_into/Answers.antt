use Rattle.std.proofs.Common.{◌≡◌, drop, Err, sym, ap, ◌∙◌, arith}
use Rattle.std.proofs.lemmas.Result.{err_from_is_err_and}
use Rattle.closing.specs.Layers.{layered}
use Rattle.marks.specs.Words.{marking}
use Rattle.reading.specs.Opening.{names_in}
use Rattle.sheet.specs.Views.{lists_of, opened_of}
use Rattle.sealing.proofs.Sealing.{held, refused-once, sealed, unrefused-view, writable}
use Rattle.sealing.proofs.seal.seal_into.Goals as goal

pub write-requires : goal.write-requires
write-requires c =
    let s = c.in_ok-open.open in
    let h = c.in_ok-open.ensures in
    let bs = c.args.bytes.now in
    let r = c.in_ok-open.closed in
    let area = c.name_area.result.now in
    let at : area ≡ drop s.names_at bs = c.name_area.ensures ∙ ap (drop s.names_at) h.bytes in (
      names_in (opened_of s),
      held bs area s (layered r.plan (lists_of r.below)) h.opens h.inverse (λ i. omega (arith, c.type_inv.bytes i)) h.closes at h.place,
      writable bs area s (layered r.plan (lists_of r.below)) h.opens h.inverse (λ i. omega (arith, c.type_inv.bytes i)) h.closes at h.place,
    )

pub returns-clause-sealed : goal.returns-clause-sealed
returns-clause-sealed c =
    let s = c.in_ok-open.open in
    let h = c.in_ok-open.ensures in
    let bs = c.args.bytes.now in
    let r = c.in_ok-open.closed in
    let area = c.name_area.result.now in
    let at : area ≡ drop s.names_at bs = c.name_area.ensures ∙ ap (drop s.names_at) h.bytes in
    let w = c.write.ensures.sheet in (
      w.0,
      sealed bs area s (layered r.plan (lists_of r.below)) h.opens h.inverse (λ i. omega (arith, c.type_inv.bytes i)) h.closes at h.place w.0 w.1,
      w.2,
      w.3,
    )

pub returns-clause-told : goal.returns-clause-told
returns-clause-told c =
    let h = c.in_ok-open.ensures in
    λ f k. absurd (unrefused-view c.args.bytes.now f c.in_ok-open.open (marking c.in_ok-open.field-0-2, h.tests.0) k h.opens h.tests.1)

pub returns-in_err-open-clause-told : goal.returns-in_err-open-clause-told
returns-in_err-open-clause-told c =
    let p = err_from_is_err_and c.from_residual.result c.from_residual.ensures.1 in
    λ f k. p.1 ∙ ap Err (p.2 ∙ sym (refused-once c.args.bytes.now f c.in_err-open.field-0.0 k c.in_err-open.ensures.refused))
