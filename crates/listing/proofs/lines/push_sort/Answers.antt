use Rattle.std.proofs.Common.{◌≡◌, ◌++◌, string_bytes, ap, ◌∙◌}
use Rattle.listing.specs.Listing.{each_from, sort_text}
use Rattle.listing.proofs.Texts.{grown, ended}
use Rattle.marks.specs.Words.{marking}
use Rattle.listing.proofs.lines.push_sort.Goals as goal

pub loop-n-preserved : goal.loop-n-preserved
loop-n-preserved c =
    let f = sort_text c.args.sort (marking c.args.marks.now) c.args.site.process c.args.site.location in
    let h : string_bytes c.push_instance.new.text ≡ string_bytes c.loop-n.text ++ f c.loop-n.n =
    c.in_ok-push_instance.ensures in
    grown f c.loop-n.n c.from-n-end.result _ _ _ c.loop-n-test.true h c.loop-n.invariant

pub returns : goal.returns
returns c =
    let f = sort_text c.args.sort (marking c.args.marks.now) c.args.site.process c.args.site.location in
    ended f c.loop-n.n c.from-n-end.result _ _ c.loop-n-test.false c.loop-n.invariant ∙ ap (λ e. string_bytes c.args.text.now ++ each_from f 0 e) c.from-n-end.ensures
