use Rattle.std.proofs.Common.{w16, ◌≡◌, ℕ, ◌/◌, ◌%◌, ◌^◌, ℤ, to_z, of_z, sym, ap, ◌∙◌, arith}
use Rattle.std.specs.Int.{cast_signed}
use Rattle.std.proofs.lemmas.Int.{to_z-of_z}
use Rattle.std.proofs.lemmas.Nat.{and_mask}
use Rattle.table.specs.declared.record.Term.{Term}
use Rattle.reading.proofs.Loads.{unpacked_term, term-loaded}
use Rattle.reading.proofs.reader.Reader.term_here.Goals as goal

pub returns : goal.returns
returns c =
    let bs = c.args.self.now.bytes.now in
    let p = c.args.self.now.place in
    let w = c.in-Some.word in
    let made : ℕ → ℤ → Term = λ o a. record { operation = o; argument = a } in
    let o : w / 65536 ≡ w / 2 ^ 16 % 2 ^ 4 = omega (arith, c.in-Some.ensures.bound) in
    let m : w % 2 ^ 16 ≡ w / 2 ^ 0 % 2 ^ 16 = omega arith in
    let a = to_z-of_z w16 c.cast_signed.result (record { sfits = c.cast_signed.type_inv }) ∙ c.cast_signed.ensures ∙ ap (cast_signed w16) (and_mask w 16 ∙ m) in
    record {
      value =
          ap (λ x. made x (to_z w16 (of_z w16 c.cast_signed.result))) o ∙ ap (made (w / 2 ^ 16 % 2 ^ 4)) a ∙ ap unpacked_term c.in-Some.ensures.value
          ∙ sym (term-loaded bs p c.in-Some.ensures.room);
      bound = omega (arith, c.in-Some.ensures.bound);
    }
