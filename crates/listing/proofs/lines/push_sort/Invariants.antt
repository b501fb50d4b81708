use Rattle.std.proofs.Common.{◌≡◌, ◌-◌, ◌++◌, string_bytes}
use Rattle.listing.specs.Listing.{each_from, sort_text}
use Rattle.marks.specs.Words.{marking}
use Rattle.listing.proofs.lines.push_sort.Given as goal

-- with what is still to come the text is whole
abbrev pub invariant-loop-n : goal.invariant-loop-n
invariant-loop-n l =
    let f = sort_text l.sort (marking l.marks) l.site.process l.site.location in
    string_bytes l.text ++ each_from f l.n (l.n-end - l.n) ≡ string_bytes l.initial.text ++ each_from f 0 l.n-end
