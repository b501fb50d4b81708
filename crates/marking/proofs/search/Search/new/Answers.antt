use Rattle.std.proofs.Common.{false, replicate, refl, ap, ◌∙◌, ⊎_elim, arith}
use Rattle.std.proofs.lemmas.Bool.{cases_lt}
use Rattle.std.proofs.lemmas.List.{get_or-replicate, get_or_past}
use Rattle.ring.specs.Queue.{fits, held}
use Rattle.ring.proofs.Held.{held-fresh}
use Rattle.marking.proofs.Setting.{unset-le, bit-none}
use Rattle.marking.proofs.search.Search.new.Goals as goal

pub invariant_of-result : goal.invariant_of-result
invariant_of-result c =
    let e = c.new.ensures.value in
    record {
      locations = refl;
      known = refl;
      whole = refl;
      fit = ap (λ r. fits r 2048) e;
      room = omega (arith, unset-le 2048 (replicate 128 0), ap (λ r. r.len) e);
    }

pub returns-clause-none : goal.returns-clause-none
returns-clause-none c i = bit-none 128 i.site i.index

pub returns-clause-deaf : goal.returns-clause-deaf
returns-clause-deaf c n = ⊎_elim (λ h. get_or-replicate 64 n false false h) (λ h. get_or_past (replicate 64 false) n false h) (cases_lt n 64)

pub returns-clause-still : goal.returns-clause-still
returns-clause-still c = ap (λ r. held r (replicate 2048 (record { site = 0; index = 0 }))) c.new.ensures.value ∙ held-fresh (replicate 2048 (record { site = 0; index = 0 }))
