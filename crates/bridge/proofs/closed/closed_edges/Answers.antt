use Rattle.std.proofs.Common.{inl}
use Rattle.closing.specs.Layers.{layered}
use Rattle.sheet.specs.Views.{lists_of, opened_of}
use Rattle.bridge.proofs.closed.closed_edges.Goals as goal

pub returns-in-Ok : goal.returns-in-Ok
unfolding opened_of
returns-in-Ok c =
    let s = c.in-Ok.field-0-0 in
    let h = c.in-Ok.ensures in
    let r = c.in-Ok.closed in
    inl (record {
      holds = opened_of s;
      opens = h.opens;
      meaning = layered r.plan (lists_of r.below);
      closed = h.closes;
      sum = c.checksum.ensures;
    })
