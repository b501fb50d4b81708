use Rattle.std.proofs.Common.{Err, sym, ap, ◌∙◌}
use Rattle.std.proofs.lemmas.Result.{err_from_is_err_and}
use Rattle.listing.specs.Listing.{refused_by, refused_of}
use Rattle.listing.proofs.Refusals.{no-refusal, one-refusal}
use Rattle.marks.specs.Words.{marking}
use Rattle.refusal.specs.declared.failure.Failure.TheVariants.{Refused}
use Rattle.sheet.specs.Views.{opened_of}
use Rattle.listing.proofs.list.Goals as goal

pub returns-in_err-sheet-clause-refused : goal.returns-in_err-sheet-clause-refused
returns-in_err-sheet-clause-refused c =
    let p = err_from_is_err_and c.from_residual.result c.from_residual.ensures.1 in
    rw (p.1, p.2) (sym c.in_err-sheet.ensures.refused)

pub returns-in_err-sheet-clause-told : goal.returns-in_err-sheet-clause-told
returns-in_err-sheet-clause-told c =
    let p = err_from_is_err_and c.from_residual.result c.from_residual.ensures.1 in
    λ f k. p.1 ∙ ap Err (p.2 ∙ ap Refused (one-refusal (refused_by c.args.bytes.now) c.in_err-sheet.field-0.0 f c.in_err-sheet.ensures.refused k))

pub returns-in_err-text-clause-told : goal.returns-in_err-text-clause-told
returns-in_err-text-clause-told c =
    λ f k. absurd (no-refusal (refused_by c.args.bytes.now) f c.in_ok-sheet.ensures.refused k)

pub returns-clause-listing : goal.returns-clause-listing
unfolding opened_of
returns-clause-listing c =
    let h = c.in_ok-sheet.ensures in
    record {
      holds = opened_of c.in_ok-sheet.sheet;
      opens = h.opens;
      passes = sym (h.refused ∙ ap refused_of h.opens);
      marks = marking c.in_ok-sheet.marks;
      least = h.least;
      says = c.in_ok-text.ensures;
    }

pub returns-clause-told : goal.returns-clause-told
returns-clause-told c =
    λ f k. absurd (no-refusal (refused_by c.args.bytes.now) f c.in_ok-sheet.ensures.refused k)
