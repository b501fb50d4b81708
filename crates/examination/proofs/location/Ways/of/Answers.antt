use Rattle.std.proofs.Common.{◌≡◌, ◌+◌, ◌≤◌, Bool, List, length, take, sym, ap, ◌∙◌, subst, None, arith, rules}
use Rattle.std.proofs.lemmas.List.{take_all}
use Rattle.std.specs.List.{list_any, slice_get}
use Rattle.table.specs.Examination.{acts, waits, frees, leaves}
use Rattle.examination.specs.Locations.{Raised, raised}
use Rattle.table.proofs.Scans.{any-nil}
use Rattle.table.specs.declared.record.Edge.{Edge}
use Rattle.examination.proofs.Raised.{raised-some, raised-none}
use Rattle.examination.proofs.location.Ways.of.Goals as goal
use Rattle.examination.proofs.location.Ways.of.Goals.{in-Some, in_default}

pub loop-k-init : goal.loop-k-init
loop-k-init g c = (
  λ p l hp hl. c.none.ensures p l ∙ sym (any-nil (leaves p l acts)),
  λ p l hp hl. c.none-2.ensures p l ∙ sym (any-nil (leaves p l waits)),
  λ p l hp hl. c.none-3.ensures p l ∙ sym (any-nil (leaves p l frees)),
)

pub loop-k-preserved : goal.loop-k-preserved
loop-k-preserved g c =
    let es = (g.T.Table.lists c.args.table.now).edges in
    let k = c.loop-k.k in
    let fs = c.loop-k.found in
    let so = c.loop-k.invariant in
    elim c.match-edge.branch [
      | in-Some w ↦
          let e = w.in-Some.edge in
          let h = sym w.in-Some.ensures in
          let is : (f : Edge → Bool) (xs ys : List Bool) → ys ≡ raised f e xs → Raised (raised f e xs) f (take (k + 1) es) → Raised ys f (take (k + 1) es) =
          λ f xs ys q r. subst (λ (zs : List Bool). Raised zs f (take (k + 1) es)) (sym q) r in
          let a : c.match-edge.found.acting.flags ≡ raised acts e fs.acting.flags = cc in
          let b : c.match-edge.found.waiting.flags ≡ raised waits e fs.waiting.flags = cc in
          let d : c.match-edge.found.free.flags ≡ raised frees e fs.free.flags = cc in (
            is acts fs.acting.flags c.match-edge.found.acting.flags a (raised-some fs.acting.flags acts es k so.0 e fs.acting.size h),
            is waits fs.waiting.flags c.match-edge.found.waiting.flags b (raised-some fs.waiting.flags waits es k so.1 e fs.waiting.size h),
            is frees fs.free.flags c.match-edge.found.free.flags d (raised-some fs.free.flags frees es k so.2 e fs.free.size h),
          )
      | in_default w ↦
          let z : slice_get es k ≡ None = search rules in
          rw w.found-is (
            raised-none fs.acting.flags acts es k so.0 z,
            raised-none fs.waiting.flags waits es k so.1 z,
            raised-none fs.free.flags frees es k so.2 z,
          )
    ]

pub returns : goal.returns
returns g c =
    let es = (g.T.Table.lists c.args.table.now).edges in
    let le : length es ≤ c.loop-k.k = omega arith in
    let all = take_all c.loop-k.k es le in
    record {
      acting = λ p l hp hl. c.loop-k.invariant.0 p l hp hl ∙ ap (list_any (leaves p l acts)) all;
      waiting = λ p l hp hl. c.loop-k.invariant.1 p l hp hl ∙ ap (list_any (leaves p l waits)) all;
      free = λ p l hp hl. c.loop-k.invariant.2 p l hp hl ∙ ap (list_any (leaves p l frees)) all;
    }
