use Rattle.std.proofs.Common.{◌≡◌, ◌-◌, ◌<◌, Some, None, false, true, ◌&&◌, ltb, length, drop, ap, sym, ◌∙◌, arith, rules}
use Rattle.std.proofs.lemmas.Bool.Decides.{nat_tests}
use Rattle.std.specs.List.{slice_get}
use Rattle.std.specs.Option.{is_some}
use Rattle.ring.specs.Queue.{fits, held, shorter}
use Rattle.ring.proofs.Held.{held-taken, held_none}
use Rattle.ring.proofs.Ring.remove.Goals as goal

pub returns-in_err-first : goal.returns-in_err-first
returns-in_err-first g c =
    let t = c.front.ensures in
    let n : c.front.result ≡ None = search rules in
    let e : false ≡ (fits c.args.self.now (length c.args.places.now) && ltb 0 c.args.self.now.len) = sym (ap is_some n) ∙ t.test in
    let h = held_none c.args.self.now c.args.places.now e in
    let d = ap (drop 1) h in
    search rules

pub returns : goal.returns
returns g c =
    let t = c.front.ensures in
    let s : c.front.result ≡ Some c.in_ok-first.first = search rules in
    let v : Some c.in_ok-first.first ≡ slice_get (held c.args.self.now c.args.places.now) 0 = sym s ∙ t.value in
    let e : true ≡ (fits c.args.self.now (length c.args.places.now) && ltb 0 c.args.self.now.len) = sym (ap is_some s) ∙ t.test in
    let f : fits c.args.self.now (length c.args.places.now) ≡ true = grind (arith, nat_tests) in
    let l : 0 < c.args.self.now.len = grind (arith, nat_tests) in
    let p : c.if-next-places.self ≡ (shorter c.args.self.now (length c.args.places.now)).head = grind (arith, nat_tests) in
    let r : record { head = c.if-next-places.self; len = c.args.self.now.len - 1 } ≡ shorter c.args.self.now (length c.args.places.now) = ap (λ h. record { head = h; len = c.args.self.now.len - 1 }) p in
    let h = held-taken c.args.self.now _ c.args.places.now c.in_ok-first.first f l r v in
    let d = ap (drop 1) h in
    search (rules, nat_tests)
