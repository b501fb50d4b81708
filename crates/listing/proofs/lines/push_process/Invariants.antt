use Rattle.std.proofs.Common.{◌≡◌, ◌-◌, ◌++◌, string_bytes}
use Rattle.listing.specs.Listing.{each_from, location_text}
use Rattle.marks.specs.Words.{marking}
use Rattle.table.specs.Lists.{meant}
use Rattle.listing.proofs.lines.push_process.Given as goal

-- with what is still to come the text is whole
abbrev pub invariant-loop-location : goal.invariant-loop-location
invariant-loop-location l =
    let f = location_text (marking l.marks) (meant l.process) l.p in
    string_bytes l.text ++ each_from f l.location (l.location-end - l.location) ≡ string_bytes l.initial.text ++ each_from f 0 l.location-end
