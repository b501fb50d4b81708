use Rattle.std.proofs.Common.{◌≡◌, drop, Err, string_bytes, sym, ap, ◌∙◌, arith}
use Rattle.std.proofs.lemmas.Result.{err_from_is_err_and}
use Rattle.closing.specs.Layers.{layered}
use Rattle.marks.specs.Words.{marking}
use Rattle.reading.specs.Opening.{names_in}
use Rattle.sheet.specs.Views.{lists_of, opened_of}
use Rattle.sealing.proofs.Fitting.{fits-any}
use Rattle.sealing.proofs.Sealing.{held, refused-once, sealed, unrefused-view, writable}
use Rattle.sealing.proofs.Summaries.{summarised}
use Rattle.refusal.specs.declared.failure.Failure.TheVariants.{Refused}
use Rattle.sealing.proofs.seal.seal.Goals as goal

pub write_anew-requires : goal.write_anew-requires
write_anew-requires c =
    let s = c.in_ok-open.open in
    let h = c.in_ok-open.ensures in
    let bs = c.args.bytes.now in
    let C = layered c.in_ok-open.closed.plan (lists_of c.in_ok-open.closed.below) in
    let area = c.name_area.result.now in
    let at : area ≡ drop s.names_at bs = c.name_area.ensures ∙ ap (drop s.names_at) h.bytes in
    let names = held bs area s C h.opens h.inverse (λ i. omega (arith, c.type_inv.bytes i)) h.closes at h.place in
    let w = writable bs area s C h.opens h.inverse (λ i. omega (arith, c.type_inv.bytes i)) h.closes at h.place in
    record { writable = (names_in (opened_of s), names, w); room = fits-any (record { lists = C; names = names_in (opened_of s) }) w area names area }

pub returns : goal.returns
returns c =
    let s = c.in_ok-open.open in
    let h = c.in_ok-open.ensures in
    let bs = c.args.bytes.now in
    let C = layered c.in_ok-open.closed.plan (lists_of c.in_ok-open.closed.below) in
    let M = marking c.in_ok-open.marks in
    let area = c.name_area.result.now in
    let at : area ≡ drop s.names_at bs = c.name_area.ensures ∙ ap (drop s.names_at) h.bytes in
    record {
      sealed =
          sealed bs area s C h.opens h.inverse (λ i. omega (arith, c.type_inv.bytes i)) h.closes at h.place c.in_ok-sheet.sheet.items c.in_ok-sheet.ensures;
      summary = summarised bs (string_bytes c.in_ok-summary.summary) s C M h.tests.0 h.opens h.tests.1 h.closed c.in_ok-summary.ensures;
      refused = tt;
      told = λ f k. absurd (unrefused-view bs f s (M, h.tests.0) k h.opens h.tests.1);
    }

pub returns-in_err-sheet-clause-told : goal.returns-in_err-sheet-clause-told
returns-in_err-sheet-clause-told c =
    let h = c.in_ok-open.ensures in
    λ f k. absurd (unrefused-view c.args.bytes.now f c.in_ok-open.open (marking c.in_ok-open.marks, h.tests.0) k h.opens h.tests.1)

pub returns-in_err-summary-clause-told : goal.returns-in_err-summary-clause-told
returns-in_err-summary-clause-told c =
    let h = c.in_ok-open.ensures in
    λ f k. absurd (unrefused-view c.args.bytes.now f c.in_ok-open.open (marking c.in_ok-open.marks, h.tests.0) k h.opens h.tests.1)

pub returns-in_err-open-clause-told : goal.returns-in_err-open-clause-told
returns-in_err-open-clause-told c =
    let p = err_from_is_err_and c.from_residual.result c.from_residual.ensures.1 in
    λ f k. p.1 ∙ ap Err (p.2 ∙ ap Refused (sym (refused-once c.args.bytes.now f c.in_err-open.field-0.0 k c.in_err-open.ensures.refused)))
