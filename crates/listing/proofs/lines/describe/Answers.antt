use Rattle.std.proofs.Common.{◌++◌, string_bytes, ap, ◌∙◌}
use Rattle.listing.specs.Listing.{each_from, process_text, table_text, count_text}
use Rattle.listing.proofs.Texts.{grown, ended}
use Rattle.marks.specs.Words.{marking}
use Rattle.listing.proofs.lines.describe.Goals as goal

pub loop-p-preserved : goal.loop-p-preserved
loop-p-preserved g c =
    let M = marking c.args.marks.now in
    let f = table_text (g.T.Table.lists c.args.table.now) M in
    let h = c.in_ok-push_process.ensures ∙ ap (λ r. string_bytes c.loop-p.text ++ process_text M r c.loop-p.p) c.process_or_blank.ensures in
    grown f c.loop-p.p c.process_count-p-end.result _ _ _ c.loop-p-test.true h c.loop-p.invariant

pub returns : goal.returns
returns g c =
    let T = g.T.Table.lists c.args.table.now in
    let M = marking c.args.marks.now in
    let e = ended (table_text T M) c.loop-p.p c.process_count-p-end.result _ _ c.loop-p-test.false c.loop-p.invariant in
    c.in_ok-push_count.ensures ∙ ap (λ b. b ++ count_text T M) (e ∙ ap (each_from (table_text T M) 0) c.process_count-p-end.ensures)
