use Rattle.std.specs.Result.{is_ok}
use Rattle.std.proofs.Common.{sym, ◌∙◌, arith}
use Rattle.std.proofs.lemmas.List.{length-set}
use Rattle.marking.proofs.Appending.{now_marked, room_left, still_fits, grew_one}
use Rattle.marking.proofs.search.Search.mark.Goals as goal

pub invariant_of-self : goal.invariant_of-self
invariant_of-self c =
    let s = c.args.self.now in
    let a = c.from-site.result in
    let b = c.from-index.result in
    let lacks = sym c.bit.ensures.value ∙ c.if-not-bit.true in
    let e = c.append.ensures in
    record {
      locations = length-set s.words c.from-site.result _ ∙ s.locations;
      known = s.known;
      whole = omega (arith, s.whole);
      fit = still_fits s c.args.instance a b c.from-site.ensures c.from-index.ensures c.if-site-lt-SITES.true c.if-index-lt16.true lacks
          (is_ok c.append.result) c.append.new.self c.append.new.places e.value e.fit;
      room = room_left s c.args.instance a b c.from-site.ensures c.from-index.ensures c.if-site-lt-SITES.true c.if-index-lt16.true lacks
          (is_ok c.append.result) c.append.new.self c.append.new.places e.value e.len;
    }

pub returns-then-not-bit-clause-marked : goal.returns-then-not-bit-clause-marked
returns-then-not-bit-clause-marked c f =
    now_marked c.args.self.now c.args.instance c.from-site.result c.from-index.result c.from-site.ensures c.from-index.ensures
    c.if-site-lt-SITES.true c.if-index-lt16.true (sym c.bit.ensures.value ∙ c.if-not-bit.true)

pub returns-then-not-bit-clause-grew : goal.returns-then-not-bit-clause-grew
returns-then-not-bit-clause-grew c T =
    let e = c.append.ensures in
    grew_one c.args.self.now c.args.instance c.from-site.result c.from-index.result c.from-site.ensures c.from-index.ensures
    c.if-site-lt-SITES.true c.if-index-lt16.true (sym c.bit.ensures.value ∙ c.if-not-bit.true)
    (is_ok c.append.result) c.append.new.self c.append.new.places e.value e.items T
