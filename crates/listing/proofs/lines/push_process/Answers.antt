use Rattle.std.proofs.Common.{◌≡◌, ◌++◌, string_bytes, ap, ◌∙◌, append_assoc}
use Rattle.listing.specs.Listing.{each_from, sort_text, location_text}
use Rattle.marks.specs.declared.marks.Sort.TheVariants.{Variable, Timer}
use Rattle.listing.proofs.Texts.{grown, ended}
use Rattle.marks.specs.Words.{marking}
use Rattle.table.specs.Lists.{meant}
use Rattle.listing.proofs.lines.push_process.Goals as goal

pub loop-location-preserved : goal.loop-location-preserved
loop-location-preserved c =
    let M = marking c.args.marks.now in
    let f = location_text M (meant c.args.process.now) c.args.p in
    let l = c.loop-location.location in
    let h : string_bytes c.push_sort-in-loop-location.new.text ≡ string_bytes c.loop-location.text ++ f l =
    c.in_ok-push_sort-2.ensures ∙ ap (λ b. b ++ each_from (sort_text Timer M c.args.p l) 0 c.args.process.now.timers) c.in_ok-push_sort.ensures ∙ append_assoc (string_bytes c.loop-location.text) (each_from (sort_text Variable M c.args.p l) 0 c.args.process.now.variables) (each_from (sort_text Timer M c.args.p l) 0 c.args.process.now.timers) in
    grown f l c.from-location-end.result _ _ _ c.loop-location-test.true h c.loop-location.invariant

pub returns : goal.returns
returns c =
    let f = location_text (marking c.args.marks.now) (meant c.args.process.now) c.args.p in
    ended f c.loop-location.location c.from-location-end.result _ _ c.loop-location-test.false c.loop-location.invariant ∙ ap (λ e. string_bytes c.args.text.now ++ each_from f 0 e) c.from-location-end.ensures
