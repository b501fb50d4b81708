use Rattle.std.proofs.Common.{◌≡◌, ◌-◌, ◌++◌, string_bytes}
use Rattle.listing.specs.Listing.{each_from, table_text}
use Rattle.marks.specs.Words.{marking}
use Rattle.listing.proofs.lines.describe.Given as goal

-- with what is still to come the text is whole
abbrev pub invariant-loop-p : goal.invariant-loop-p
invariant-loop-p g l =
    let f = table_text (g.T.Table.lists l.table) (marking l.marks) in
    string_bytes l.text ++ each_from f l.p (l.p-end - l.p) ≡ each_from f 0 l.p-end
