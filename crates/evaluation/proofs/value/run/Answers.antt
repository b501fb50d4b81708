use Rattle.std.proofs.Common.{◌≡◌, ◌+◌, ◌∷◌, ◌++◌, [], reverse, sym, ap, ◌∙◌, arith, w16, SFits, rules}
use Rattle.std.proofs.lemmas.Int.{to_z-of_z}
use Rattle.std.proofs.lemmas.List.{reverse-append}
use Rattle.evaluation.specs.Values.{evaluated}
use Rattle.evaluation.proofs.Evaluations.{evaluated-window-end, evaluated-window-none, evaluated-window-stops, evaluated-window-goes}
use Rattle.evaluation.proofs.Stacks.{single_reverse, taken}
use Rattle.table.proofs.Windows.{window, window-whole}
use Rattle.evaluation.proofs.value.run.Goals as goal
use Rattle.evaluation.proofs.value.run.Goals.{else-loop-i-test, then-loop-i-test+in_default}

pub returns-in_err-value : goal.returns-in_err-value
returns-in_err-value g c =
    let ts = (g.T.Table.lists c.args.table.now).terms in
    let a = evaluated-window-stops c.args.variables.now ts c.loop-i.i (c.from-start.result + c.from.result) (reverse c.loop-i.stack.items) c.in-Some.term c.loop-i-test.true (cc) (sym c.in_err-value.ensures) in
    let b = window-whole ts c.args.span.start c.args.span.count in
    let k = c.loop-i.invariant.0 in
    cc

pub push-requires : goal.push-requires
push-requires g c =
    let b = taken c.args.variables.now c.in-Some.term c.loop-i.stack.items c.apply.new.stack.items c.in_ok-value.value c.in_ok-value.ensures in
    (omega arith, omega (arith, c.loop-i.invariant.1))

pub loop-i-preserved : goal.loop-i-preserved
loop-i-preserved g c =
    let ts = (g.T.Table.lists c.args.table.now).terms in
    let vars = c.args.variables.now in
    let e = c.from-start.result + c.from.result in
    let v = c.in_ok-value.value in
    let old = c.loop-i.stack.items in
    let mid = c.apply.new.stack.items in
    let f : SFits w16 v = search rules in
    let p : c.push.new.self.items ≡ mid ++ v ∷ [] = simp to_z-of_z at c.push.ensures.items in
    let q : reverse c.push.new.self.items ≡ v ∷ reverse mid = ap reverse p ∙ reverse-append mid (v ∷ []) in
    let a = evaluated-window-goes vars ts c.loop-i.i e (reverse old) c.in-Some.term (v ∷ reverse mid) c.loop-i-test.true (cc) (sym c.in_ok-value.ensures) in
    let b = taken vars c.in-Some.term old mid v c.in_ok-value.ensures in
    (ap (evaluated vars (window ts (c.loop-i.i + 1) e)) q ∙ sym a ∙ c.loop-i.invariant.0, omega (arith, c.push.ensures.len, c.loop-i.invariant.1))

pub returns : goal.returns
returns g c =
    let ts = (g.T.Table.lists c.args.table.now).terms in
    let s = reverse c.loop-i.stack.items in
    let b = window-whole ts c.args.span.start c.args.span.count in
    let r = single_reverse c.loop-i.stack.items in
    let k = c.loop-i.invariant.0 in
    elim c.loop-i-test.branch [
      | else-loop-i-test w ↦
          let a = evaluated-window-end c.args.variables.now ts c.loop-i.i (c.from-start.result + c.from.result) s w.loop-i-test.false in cc
      | then-loop-i-test+in_default w ↦
          let a = evaluated-window-none c.args.variables.now ts c.loop-i.i (c.from-start.result + c.from.result) s (cc) in cc
    ]
