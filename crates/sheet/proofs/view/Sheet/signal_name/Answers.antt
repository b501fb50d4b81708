use Rattle.std.proofs.Common.{ap, ◌∙◌, arith, length-drop}
use Rattle.std.proofs.lemmas.List.{take_all}
use Rattle.std.proofs.lemmas.List.FromFn.{length-map-range_with_len}
use Rattle.std.specs.List.{slice_get}
use Rattle.sheet.specs.Views.{names_of, opened_of}
use Rattle.sheet.proofs.view.Sheet.signal_name.Goals as goal

pub returns : goal.returns
unfolding opened_of names_of
returns c =
    let s = c.args.self.now in
    c.name_among.ensures ∙ ap (λ xs. slice_get xs c.args.s) (take_all _ _ (simp (length-drop, length-map-range_with_len) (omega arith)))
