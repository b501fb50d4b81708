use Rattle.std.proofs.Common.{◌≡◌, ◌+◌, ◌*◌, ◌++◌, length, refl, sym, ap, ◌∙◌, arith}
use Rattle.std.proofs.lemmas.List.{length-append}
use Rattle.bridge.proofs.Overlays.{length-spelled}
use Rattle.bridge.proofs.Tracing.{length-words, words-laid, words-none}
use Rattle.bridge.specs.Laid.{laid, spelled}
use Rattle.bridge.specs.Traces.{state_words}
use Rattle.stepping.specs.Worlds.{world_of}
use Rattle.bridge.proofs.ending.put_words.Goals as goal

pub loop-n-init : goal.loop-n-init
loop-n-init c = record {
  laid = λ xs old e f. f ∙ ap (λ t. laid t old) (sym (words-none (world_of c.args.state.now c.args.memory.now) xs));
  length = refl;
}

pub loop-n-preserved : goal.loop-n-preserved
loop-n-preserved c =
    let W = world_of c.args.state.now c.args.memory.now in
    let n = c.loop-n.n in
    let ws = spelled (state_words W n) in
    record {
      laid = λ xs old e f.
          let at : length (xs ++ ws) ≡ c.args.at + 8 * n = omega (arith, length-append xs ws, length-spelled (state_words W n), length-words W n, e) in
          c.put.ensures.laid (xs ++ ws) old at (c.loop-n.invariant.laid xs old e f)
          ∙ ap (λ bs. laid ((xs ++ ws) ++ bs) old) c.to_be_bytes.ensures
          ∙ words-laid W n c.state_word-word.result xs old c.state_word-word.ensures;
      length = c.put.ensures.length ∙ c.loop-n.invariant.length;
    }

pub returns-clause-laid : goal.returns-clause-laid
returns-clause-laid c xs old e f =
    let W = world_of c.args.state.now c.args.memory.now in
    let n : c.loop-n.n ≡ c.args.count = omega (arith, c.loop-n-test.false, c.loop-n.auto.n-end) in
    c.loop-n.invariant.laid xs old e f ∙ ap (λ k. laid (xs ++ spelled (state_words W k)) old) n
