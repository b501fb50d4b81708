use Rattle.std.proofs.Common.{Bool, not, ◌&&◌, arith, rules}
use Rattle.table.specs.Examination.{acts, waits, frees, locations_refused}
use Rattle.examination.specs.Locations.{has_at}
use Rattle.examination.proofs.Placed.{found-alike}
use Rattle.examination.proofs.location.check_locations.Goals as goal

pub returns-in-Some : goal.returns-in-Some
unfolding locations_refused
returns-in-Some g c =
    let T = g.T.Table.lists c.args.table.now in
    let a = c.of-found.result.acting.flags in
    let b = c.of-found.result.waiting.flags in
    let ra = c.of-found.ensures.acting in
    let rb = c.of-found.ensures.waiting in
    let m = found-alike T c.requires a b acts waits ra rb (λ (x y : Bool). x && y) in
    let n = c.find_location-mixed.ensures (λ p l. has_at a p l && has_at b p l) (λ s r k. search rules) in
    rw (← m, ← n, c.in-Some.is)

pub returns-in-Some-stuck : goal.returns-in-Some-stuck
unfolding locations_refused
returns-in-Some-stuck g c =
    let T = g.T.Table.lists c.args.table.now in
    let a = c.of-found.result.acting.flags in
    let b = c.of-found.result.waiting.flags in
    let d = c.of-found.result.free.flags in
    let ra = c.of-found.ensures.acting in
    let rb = c.of-found.ensures.waiting in
    let rd = c.of-found.ensures.free in
    let m = found-alike T c.requires a b acts waits ra rb (λ (x y : Bool). x && y) in
    let s = found-alike T c.requires a d acts frees ra rd (λ (x y : Bool). x && not y) in
    let n = c.find_location-mixed.ensures (λ p l. has_at a p l && has_at b p l) (λ s r k. search rules) in
    let o = c.find_location-stuck.ensures (λ p l. has_at a p l && not (has_at d p l)) (λ s r k. grind arith) in
    rw (← m, ← n, c.in_default.is, ← s, ← o, c.in-Some-stuck.is)

pub returns : goal.returns
unfolding locations_refused
returns g c =
    let T = g.T.Table.lists c.args.table.now in
    let a = c.of-found.result.acting.flags in
    let b = c.of-found.result.waiting.flags in
    let d = c.of-found.result.free.flags in
    let ra = c.of-found.ensures.acting in
    let rb = c.of-found.ensures.waiting in
    let rd = c.of-found.ensures.free in
    let m = found-alike T c.requires a b acts waits ra rb (λ (x y : Bool). x && y) in
    let s = found-alike T c.requires a d acts frees ra rd (λ (x y : Bool). x && not y) in
    let n = c.find_location-mixed.ensures (λ p l. has_at a p l && has_at b p l) (λ s r k. search rules) in
    let o = c.find_location-stuck.ensures (λ p l. has_at a p l && not (has_at d p l)) (λ s r k. grind arith) in
    rw (← m, ← n, c.in_default.is, ← s, ← o, c.in_default-stuck.is)
