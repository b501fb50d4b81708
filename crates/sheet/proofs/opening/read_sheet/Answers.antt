use Rattle.std.proofs.Common.{◌≡◌, ◌+◌, ◌≤◌, length, refl, arith, rules}
use Rattle.sheet.proofs.Wholes.{sheet-read, sheet-limits, sheet-edges, sheet-names_at, sheet-opened}
use Rattle.sheet.proofs.opening.read_sheet.Goals as goal

pub returns : goal.returns
returns c =
    let n = c.in_ok-counts.counts in
    let m : c.from.result + c.from-2.result ≡ n.processes + n.signals = omega arith in
    let l : length c.processes.new.places ≡ 8 = search rules in
    let few : n.processes ≤ 8 = c.in_ok-counts.ensures.fits.0 in
    let at =
    sheet-edges c.processes.new.places c.header.ensures.reads c.in_ok-counts.was c.processes.ensures.reads c.in_ok-processes.was
    c.signals.ensures.reads c.in_ok-signals.was c.edges.ensures.reads c.in_ok-edges.was
    c.terms.ensures.reads c.in_ok-terms.was c.fill.ensures.reads c.in_ok-fill.was
    m c.names.ensures.reads c.in_ok-names.was c.end.ensures.reads c.in_ok-end.was
    (omega arith) c.in_ok-counts.ensures.moves c.in_ok-processes.ensures.size c.in_ok-signals.ensures.moves in
    let whole =
    sheet-read c.processes.new.places c.header.ensures.reads c.in_ok-counts.was c.processes.ensures.reads c.in_ok-processes.was
    c.signals.ensures.reads c.in_ok-signals.was c.edges.ensures.reads c.in_ok-edges.was
    c.terms.ensures.reads c.in_ok-terms.was c.fill.ensures.reads c.in_ok-fill.was
    m c.names.ensures.reads c.in_ok-names.was c.end.ensures.reads c.in_ok-end.was in
    record {
      reads = whole;
      limits = sheet-limits whole refl c.requires;
      edges = at;
      bytes = search rules;
      place =
          sheet-names_at c.processes.new.places c.header.ensures.reads c.in_ok-counts.was c.processes.ensures.reads c.in_ok-processes.was
          c.signals.ensures.reads c.in_ok-signals.was c.edges.ensures.reads c.in_ok-edges.was
          c.terms.ensures.reads c.in_ok-terms.was c.fill.ensures.reads c.in_ok-fill.was
          m c.names.ensures.reads c.in_ok-names.was c.end.ensures.reads c.in_ok-end.was
          at few l c.in_ok-edges.ensures.moves c.in_ok-terms.ensures.moves c.in_ok-fill.ensures.moves;
      names =
          sheet-opened c.processes.new.places c.header.ensures.reads c.in_ok-counts.was c.processes.ensures.reads c.in_ok-processes.was
          c.signals.ensures.reads c.in_ok-signals.was c.edges.ensures.reads c.in_ok-edges.was
          c.terms.ensures.reads c.in_ok-terms.was c.fill.ensures.reads c.in_ok-fill.was
          m c.names.ensures.reads c.in_ok-names.was c.end.ensures.reads c.in_ok-end.was
          at few l c.in_ok-edges.ensures.moves c.in_ok-terms.ensures.moves c.in_ok-fill.ensures.moves c.in_ok-names.ensures.places;
    }
