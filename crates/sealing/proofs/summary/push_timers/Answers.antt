use Rattle.std.proofs.Common.{◌≡◌, ◌++◌, codes, length, string_bytes, ap, ◌∙◌, append_assoc}
use Rattle.std.specs.List.{flat_map, range_with_len, slice_get}
use Rattle.marks.specs.Instances.{process_at}
use Rattle.sealing.specs.Summary.{name_of, timer_at, timer_text}
use Rattle.sealing.proofs.Texts.{grown, ended}
use Rattle.sheet.specs.Views.{lists_of, opened_of}
use Rattle.sealing.proofs.summary.push_timers.Goals as goal

pub loop-p-preserved : goal.loop-p-preserved
loop-p-preserved g c =
    let T = lists_of c.args.sheet.now in
    let names = (opened_of c.args.sheet.now).process_names in
    let f = timer_at names T (g.C.Table.lists c.args.closed.now) in
    let t = string_bytes c.loop-p.text in
    let own = c.process_or_blank-own.result.timers in
    let timers = c.process_or_blank-timers.result.timers in
    let name = name_of (slice_get names c.loop-p.p) in
    let h : string_bytes c.push_timer.new.text ≡ t ++ f c.loop-p.p =
    c.in_ok-push_timer.ensures ∙ ap (λ r. t ++ timer_text (name_of r) own timers) c.process_name.ensures
    ∙ ap (λ r. t ++ timer_text name r.timers timers) c.process_or_blank-own.ensures
    ∙ ap (λ r. t ++ timer_text name (process_at T c.loop-p.p).timers r.timers) c.process_or_blank-timers.ensures in
    grown f c.loop-p.p c.process_count-p-end.result _ _ _ c.loop-p-test.true h c.loop-p.invariant

pub returns : goal.returns
returns g c =
    let T = lists_of c.args.sheet.now in
    let f = timer_at (opened_of c.args.sheet.now).process_names T (g.C.Table.lists c.args.closed.now) in
    let t = string_bytes c.args.text.now in
    let n = codes "chaos timers:" in
    let all = flat_map f (range_with_len 0 (length T.processes)) in
    let e = ended f c.loop-p.p c.process_count-p-end.result _ _ c.loop-p-test.false c.loop-p.invariant in
    c.in_ok-write-2.ensures.bytes
    ∙ ap (λ b. b ++ codes "\n") (e ∙ ap (λ k. string_bytes c.write.new.self ++ flat_map f (range_with_len 0 k)) c.process_count-p-end.ensures ∙ ap (λ b. b ++ all) c.in_ok-write.ensures.bytes)
    ∙ append_assoc (t ++ n) all (codes "\n") ∙ append_assoc t n (all ++ codes "\n")
