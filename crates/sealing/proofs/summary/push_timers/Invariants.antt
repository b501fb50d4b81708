use Rattle.std.proofs.Common.{◌≡◌, ◌-◌, ◌++◌, string_bytes}
use Rattle.std.specs.List.{flat_map, range_with_len}
use Rattle.sealing.specs.Summary.{timer_at}
use Rattle.sheet.specs.Views.{lists_of, opened_of}
use Rattle.sealing.proofs.summary.push_timers.Given as goal

-- with what is still to come the text is whole
abbrev pub invariant-loop-p : goal.invariant-loop-p
invariant-loop-p g l =
    let f = timer_at (opened_of l.sheet).process_names (lists_of l.sheet) (g.C.Table.lists l.closed) in
    string_bytes l.text ++ flat_map f (range_with_len l.p (l.p-end - l.p)) ≡ string_bytes l.initial.text ++ flat_map f (range_with_len 0 l.p-end)
