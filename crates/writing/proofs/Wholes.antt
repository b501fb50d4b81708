-- What is written of a table that nothing is refused of.
use Rattle.std.proofs.Common.{◌≡◌, ℕ, ◌+◌, ◌*◌, ◌<◌, ◌≤◌, ◌||◌, eqb, ltb, List, length, get_or, take, drop, Ok, Some, None, Option, sym, refl, ◌∙◌, arith, length-drop, length-take-le}
use Rattle.std.specs.Option.{option_or}
use Rattle.std.proofs.lemmas.Bool.Decides.{nat_tests}
use Rattle.std.proofs.lemmas.List.{ext_get_or, get_or-drop}
use Rattle.examination.proofs.Nearest.{passes-parts}
use Rattle.examination.proofs.Placed.{not-refused}
use Rattle.reading.specs.Layout.{Contents, sheet_format}
use Rattle.reading.specs.Opening.{unless}
use Rattle.reading.specs.Spelling.{FitsRecords, area_of}
use Rattle.refusal.specs.declared.fault.Refusal.{Refusal}
use Rattle.table.specs.Examination.{edges_refused, limits_refused}
use Rattle.table.specs.Lists.{Lists}
use Rattle.writing.specs.Writes.{Writes}
use Rattle.writing.specs.Written.{IsWrittenAs, names_refused, miscounted, needed, too_short, write_refused, written}
use Rattle.writing.proofs.Areas.{Named, area-read}
use Rattle.reading.proofs.Spelled.{spells_taken}

pub record Passed (T : Lists) (area : List ℕ) (room n : ℕ) : Type 0 where
  pub some : 1 ≤ length T.processes
  pub limits : limits_refused T ≡ None
  pub edges : edges_refused T ≡ None
  pub names : names_refused T area ≡ None
  pub fits : needed T area ≤ room
  pub size : n ≡ needed T area

unless-ok : (o : Option Refusal) (x n : ℕ) → Ok n ≡ unless o x → (o ≡ None) × (n ≡ x)
unless-ok None x n h = (refl, cc)
unless-ok (Some r) x n h = cc

pub written-passed : (T : Lists) (area : List ℕ) (room n : ℕ) → Ok n ≡ written T area room → Passed T area room n
unfolding write_refused
written-passed T area room n h =
    let o = unless-ok (write_refused T area room) (needed T area) n h in
    let a = passes-parts (miscounted T) (limits_refused T) (option_or (edges_refused T) (option_or (names_refused T area) (too_short (needed T area) room))) o.0 in
    let b = passes-parts (edges_refused T) (names_refused T area) (too_short (needed T area) room) a.1.1 in
    let some = not-refused (eqb (length T.processes) 0 || ltb 8 (length T.processes)) _ a.0 in
    let fits = not-refused (ltb room (needed T area)) _ b.1.1 in
    record { some = grind (arith, nat_tests); limits = a.1.0; edges = b.0; names = b.1.0; fits = grind (arith, nat_tests); size = o.1 }

module _ (T : Lists) (area old new : List ℕ) (n : ℕ) (passed : Passed T area (length old) n) (small : (i : ℕ) → get_or area i 0 < 256)
    (writes : (texts : List (List ℕ)) → area ≡ area_of texts → Writes (sheet_format.writes (record { lists = T; names = texts })) 0 (8 * needed T area) old new) where
  named : Named (length T.processes + length T.signals) area
  named = area-read area small (length T.processes + length T.signals) passed.names

  pub is-written : FitsRecords T → IsWrittenAs T area (take n new)
  is-written records =
      let c : Contents = record { lists = T; names = named.names } in
      let w = writes named.names named.whole in
      let l : length (take n new) ≡ n = length-take-le n new (omega (arith, w.size, passed.fits, passed.size)) in (
        named.names,
        named.whole,
        record {
          writable = record { some = passed.some; limits = passed.limits; edges = passed.edges; records = records; named = named.count; names = named.each };
          size = omega (arith, l, w.place, passed.size);
          fields = spells_taken new n 0 (sheet_format.writes c) (omega (arith, w.place, passed.size)) (w.fields (omega (arith, passed.fits)));
        },
      )

  pub drop-written : drop n new ≡ drop n old
  drop-written =
      let w = writes named.names named.whole in
      ext_get_or 0 (drop n new) (drop n old) (simp length-drop (omega (arith, w.size))) (λ i lt. get_or-drop n new i 0 ∙ w.beyond (n + i) (omega (arith, passed.size)) ∙ sym (get_or-drop n old i 0))
