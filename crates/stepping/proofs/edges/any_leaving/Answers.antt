use Rattle.std.proofs.Common.{◌≡◌, ◌+◌, ◌≤◌, true, false, length, drop, sym, ap, ◌∙◌, None, arith, rules}
use Rattle.std.specs.Fn.{FnReturnsAt}
use Rattle.std.specs.List.{list_any, slice_get}
use Rattle.std.proofs.lemmas.Bool.{and_from, and_left, and_right}
use Rattle.std.proofs.lemmas.List.{drop_all}
use Rattle.std.proofs.lemmas.Map.Keys.{any_passes_from_place}
use Rattle.loading.proofs.Following.{next-any-to, past-none}
use Rattle.table.specs.Examination.{leaves}
use Rattle.stepping.proofs.Leaving.{any-later, not-leaving}
use Rattle.stepping.proofs.edges.any_leaving.Goals as goal
use Rattle.stepping.proofs.edges.any_leaving.Goals.{in_default-via-in-None-1, in_default-via-in-Some+else-leaves, in_default-via-in-Some+then-leaves+else-test}

pub loop-k-init : goal.loop-k-init
loop-k-init g c = (
  c.requires,
  λ f told.
      let s = c.args.site in
      let n = c.next_leaving-k in
      next-any-to (g.T.Table.lists c.args.table.now).edges s.process s.location 0 n.result n.ensures.above n.ensures.before (leaves s.process s.location f) (not-leaving s.process s.location f),
)

pub returns-in-loop-k : goal.returns-in-loop-k
returns-in-loop-k g c f told =
    let e = c.in-Some.edge in
    let s = c.args.site in
    let t : FnReturnsAt g.F.Fn c.args.test e true = search rules in
    let p : leaves s.process s.location f e ≡ true = and_from _ (f e) (sym c.if-leaves.ensures) (sym (told e true t)) in
    sym (any_passes_from_place (leaves s.process s.location f) (g.T.Table.lists c.args.table.now).edges c.loop-k.k e (sym c.in-Some.ensures) p)

pub loop-k-preserved : goal.loop-k-preserved
loop-k-preserved g c = (
  c.loop-k.invariant.0,
  λ f told.
      let es = (g.T.Table.lists c.args.table.now).edges in
      let k = c.loop-k.k in
      let s = c.args.site in
      let h = leaves s.process s.location f in
      let n = c.next_leaving-k-in-loop-k in
      let later : list_any h (drop k es) ≡ list_any h (drop (k + 1) es) = elim c.in_default.branch [
        | in_default-via-in-None-1 w ↦ let z : slice_get es k ≡ None = search rules in let past = past-none es k z in absurd (omega arith)
        | in_default-via-in-Some+else-leaves w ↦
            let e = w.in-Some.edge in
            any-later h es k e (sym w.in-Some.ensures) (and_left _ (f e) (sym w.if-leaves.ensures))
        | in_default-via-in-Some+then-leaves+else-test w ↦
            let e = w.in-Some.edge in
            let t : FnReturnsAt g.F.Fn c.args.test e false = search rules in
            any-later h es k e (sym w.in-Some.ensures) (and_right _ (f e) (sym (told e false t)))
      ] in
      c.loop-k.invariant.1 f told ∙ later ∙ next-any-to es s.process s.location (k + 1) n.result n.ensures.above n.ensures.before h (not-leaving s.process s.location f),
)

pub returns : goal.returns
returns g c f told =
    let es = (g.T.Table.lists c.args.table.now).edges in
    let s = c.args.site in
    let le : length es ≤ c.loop-k.k = omega arith in
    sym (c.loop-k.invariant.1 f told ∙ ap (list_any (leaves s.process s.location f)) (drop_all c.loop-k.k es le))
