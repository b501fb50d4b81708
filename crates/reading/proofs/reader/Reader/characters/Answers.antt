use Rattle.std.proofs.Common.{◌≡◌, ℕ, ◌+◌, ◌/◌, ◌<◌, List, [], ◌∷◌, ◌++◌, length, get_or, take, drop, sym, refl, ap, ◌∙◌, subst, arith, length-drop, rules}
use Rattle.std.proofs.lemmas.List.{take_more, get_or-drop, length_push}
use Rattle.reading.specs.Formats.{field}
use Rattle.reading.proofs.Rows.{Row, row-none, row_more, row-exit}
use Rattle.reading.proofs.reader.Reader.characters.Goals as goal

pub loop-init : goal.loop-init
loop-init c = (row-none (field 8 33 126 6).reads c.args.self.now, omega arith, refl)

pub returns-in_err-name_byte : goal.returns-in_err-name_byte
returns-in_err-name_byte c = record {
  reads = row-exit (omega arith) c.loop.invariant.0 c.name_byte.ensures.reads c.in_err-name_byte.was c.from_residual.ensures.1;
  moves = search rules;
  whole = search rules;
}

pub loop-preserved : goal.loop-preserved
loop-preserved c =
    let bs = c.args.self.now.bytes.now in
    let i = c.loop.counter in
    let a = c.args.self.now.place / 8 in
    let x = c.in_ok-name_byte.field-0 in
    let b = c.in_ok-name_byte.ensures.byte in
    let q : c.loop.self.place / 8 ≡ a + i = omega arith in
    let s = c.loop.invariant.0.same in
    let v : x ≡ get_or bs (a + i) 0 = b.0 ∙ ap (λ ys. get_or ys (c.loop.self.place / 8) 0) s ∙ ap (λ k. get_or bs k 0) q in
    let l : i < length (drop a bs) = omega (arith, b.1, ap length s, length-drop a bs) in
    let e : take (i + 1) (drop a bs) ≡ take i (drop a bs) ++ x ∷ [] = take_more (drop a bs) i 0 l ∙ ap (λ y. take i (drop a bs) ++ y ∷ []) (get_or-drop a bs i 0 ∙ sym v) in (
      subst (λ (ys : List ℕ). Row (field 8 33 126 6).reads (i + 1) ys c.args.self.now c.name_byte.new.self) (sym e) (row_more c.loop.invariant.0 c.name_byte.ensures.reads c.in_ok-name_byte.was),
      omega (arith, c.in_ok-name_byte.ensures.moves),
      omega (arith, ap length e, length_push (take i (drop a bs)) x, c.loop.invariant.2),
    )
