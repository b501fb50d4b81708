use Rattle.std.proofs.Common.{◌≡◌, ◌+◌, ◌*◌, ◌++◌, length, refl, sym, ap, ◌∙◌, arith}
use Rattle.std.proofs.lemmas.List.{length-append}
use Rattle.bridge.proofs.Overlays.{length-spelled}
use Rattle.bridge.proofs.Tabling.{length-words, words-laid, words-none}
use Rattle.bridge.specs.Laid.{laid, spelled}
use Rattle.bridge.specs.Tables.{table_words}
use Rattle.bridge.proofs.tables.put_table.Goals as goal

pub loop-n-init : goal.loop-n-init
loop-n-init g c = record {
  laid = λ xs old e f. f ∙ ap (λ t. laid t old) (sym (words-none (g.T.Table.lists c.args.table.now) xs));
  length = refl;
}

pub loop-n-preserved : goal.loop-n-preserved
loop-n-preserved g c =
    let T = g.T.Table.lists c.args.table.now in
    let n = c.loop-n.n in
    let ws = spelled (table_words T n) in
    record {
      laid = λ xs old e f.
          let at : length (xs ++ ws) ≡ c.args.at + 8 * n = omega (arith, length-append xs ws, length-spelled (table_words T n), length-words T n, e) in
          c.put.ensures.laid (xs ++ ws) old at (c.loop-n.invariant.laid xs old e f)
          ∙ ap (λ bs. laid ((xs ++ ws) ++ bs) old) c.to_be_bytes.ensures
          ∙ words-laid T n c.table_word.result xs old c.table_word.ensures;
      length = c.put.ensures.length ∙ c.loop-n.invariant.length;
    }

pub returns-clause-laid : goal.returns-clause-laid
returns-clause-laid g c xs old e f =
    let T = g.T.Table.lists c.args.table.now in
    let n : c.loop-n.n ≡ c.size_of-n-end.result = omega (arith, c.loop-n-test.false, c.loop-n.auto.n-end) in
    c.loop-n.invariant.laid xs old e f ∙ ap (λ k. laid (xs ++ spelled (table_words T k)) old) (n ∙ c.size_of-n-end.ensures)
