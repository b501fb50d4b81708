use Rattle.std.proofs.Common.{◌++◌, codes, length, string_bytes, ap, ◌∙◌, append_assoc}
use Rattle.std.specs.List.{flat_map, range_with_len}
use Rattle.sealing.specs.Summary.{edge_text, name_text}
use Rattle.sealing.proofs.Texts.{grown, ended}
use Rattle.sealing.proofs.summary.push_changed.Goals as goal

pub loop-k-preserved : goal.loop-k-preserved
loop-k-preserved g c =
    let f = edge_text c.args.change (g.T.Table.lists c.args.table.now) (g.C.Table.lists c.args.closed.now) in
    grown f c.loop-k.k c.edge_count-k-end.result _ _ _ c.loop-k-test.true c.in_ok-push_edge.ensures c.loop-k.invariant

pub returns : goal.returns
returns g c =
    let T = g.T.Table.lists c.args.table.now in
    let f = edge_text c.args.change T (g.C.Table.lists c.args.closed.now) in
    let t = string_bytes c.args.text.now in
    let n = name_text c.args.change ++ codes ":" in
    let all = flat_map f (range_with_len 0 (length T.edges)) in
    let e = ended f c.loop-k.k c.edge_count-k-end.result _ _ c.loop-k-test.false c.loop-k.invariant in
    c.in_ok-write-2.ensures.bytes
    ∙ ap (λ b. b ++ codes "\n") (e ∙ ap (λ k. string_bytes c.write.new.self ++ flat_map f (range_with_len 0 k)) c.edge_count-k-end.ensures ∙ ap (λ b. b ++ all) c.in_ok-write.ensures.bytes)
    ∙ append_assoc (t ++ n) all (codes "\n") ∙ append_assoc t n (all ++ codes "\n")
