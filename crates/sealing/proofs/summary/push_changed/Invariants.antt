use Rattle.std.proofs.Common.{◌≡◌, ◌-◌, ◌++◌, string_bytes}
use Rattle.std.specs.List.{flat_map, range_with_len}
use Rattle.sealing.specs.Summary.{edge_text}
use Rattle.sealing.proofs.summary.push_changed.Given as goal

-- with what is still to come the text is whole
abbrev pub invariant-loop-k : goal.invariant-loop-k
invariant-loop-k g l =
    let f = edge_text l.change (g.T.Table.lists l.table) (g.C.Table.lists l.closed) in
    string_bytes l.text ++ flat_map f (range_with_len l.k (l.k-end - l.k)) ≡ string_bytes l.initial.text ++ flat_map f (range_with_len 0 l.k-end)
