use Rattle.std.proofs.Common.{◌≡◌, suc, ◌+◌, ◌++◌, [], ◌∷◌, length, min, ap, ◌∙◌, arith}
use Rattle.bridge.specs.Calls.{terms_to}
use Rattle.bridge.proofs.calls.expression_at.Goals as goal

pub loop-n-init : goal.loop-n-init
unfolding terms_to
loop-n-init c = record { items = c.new-terms.ensures; length = ap length c.new-terms.ensures }

pub loop-n-preserved : goal.loop-n-preserved
unfolding terms_to
loop-n-preserved c =
    let n = c.loop-n.n in
    let more : n + 1 ≡ suc n = omega arith in
    let before = terms_to c.args.bytes.now (c.args.i + 1) n in
    record {
      items = rw more (c.push.ensures.items ∙ ap (λ ts. ts ++ c.term_at.result ∷ []) c.loop-n.invariant.items ∙ ap (λ t. before ++ t ∷ []) c.term_at.ensures);
      length = omega arith;
    }

pub returns : goal.returns
returns c =
    let n : c.loop-n.n ≡ c.min-n-end.result = omega (arith, c.loop-n-test.false, c.loop-n.auto.n-end) in
    c.loop-n.invariant.items ∙ ap (terms_to c.args.bytes.now (c.args.i + 1)) (n ∙ c.min-n-end.ensures ∙ ap (λ k. min k 17) (c.from.ensures ∙ c.byte_at.ensures))
