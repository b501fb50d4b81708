-- Of a table with names that may be written nothing but the room is refused, and no sheet is larger than 27,078 bytes.
use Rattle.std.proofs.Common.{◌≡◌, ℕ, zero, suc, ◌+◌, ◌-◌, ◌*◌, ◌<◌, ◌≤◌, ◌||◌, eqb, ltb, false, List, [], ◌∷◌, length, get_or, Some, None, refl, ap, ◌∙◌, ⊎_elim, arith, length-append}
use Rattle.std.specs.List.{All, flat_map}
use Rattle.std.proofs.lemmas.Bool.{cases_lt, cond-false, le-ltb}
use Rattle.std.proofs.lemmas.Bool.Decides.{nat_tests}
use Rattle.std.proofs.lemmas.List.{get_or-append_right, get_or_append_left}
use Rattle.std.proofs.lemmas.List.Elements.{All-head, All-tail}
use Rattle.std.proofs.lemmas.List.Sums.{sum_by-cons}
use Rattle.examination.proofs.Placed.{few-processes}
use Rattle.reading.proofs.Exact.{exact-many}
use Rattle.reading.proofs.ExactRecords.{exact-name}
use Rattle.reading.proofs.Sizes.{names-writes}
use Rattle.reading.specs.Formats.{got, after, fault, ended}
use Rattle.reading.specs.Layout.{Contents, name_format}
use Rattle.reading.specs.Opening.{process_bits, processes_bits}
use Rattle.reading.specs.Spelling.{AreBytes, IsName, IsWritable, Spells, area_of, ends}
use Rattle.refusal.specs.Refusals.{refusal}
use Rattle.refusal.specs.declared.fault.Layer.{Layer}
use Rattle.refusal.specs.declared.fault.Place.{Place}
use Rattle.table.specs.Edges.{blank}
use Rattle.table.specs.Examination.{bad_process}
use Rattle.table.specs.Lists.{Proc}
use Rattle.writing.specs.Written.{misnamed, miscounted, names_refused, needed, too_short, write_refused}
use Rattle.writing.proofs.Copies.{ends-bytes, spells-bytes}
use Rattle.writing.proofs.Processes.{good_process}
use Rattle.writing.proofs.Tables.{few-edges, few-signals, few-terms, process-good}

-- the names

pub area-small : (ts : List (List ℕ)) → All IsName ts → AreBytes (area_of ts)
area-small [] h i = omega arith
area-small (t ∷ ts) h zero = let n = All-head IsName t ts h in omega (arith, n.short)
area-small (t ∷ ts) h (suc i) =
    ⊎_elim
    (λ (l : i < length t). let n = All-head IsName t ts h in let c = n.characters i 0 l in rw (get_or_append_left t (area_of ts) 0 i l) (omega (arith, c.1)))
    (λ (l : length t ≤ i). rw (get_or-append_right t (area_of ts) (length t) i 0 refl l) (area-small ts (All-tail IsName t ts h) (i - length t)))
    (cases_lt i (length t))

area-length : (ts : List (List ℕ)) → All IsName ts → length (area_of ts) ≤ 16 * length ts
area-length [] h = omega arith
area-length (t ∷ ts) h =
    let n = All-head IsName t ts h in
    omega (arith, n.short, length-append t (area_of ts), area-length ts (All-tail IsName t ts h))

-- the processes

processes-few_bits : (ps : List Proc) → ((k : ℕ) → k < length ps → bad_process (get_or ps k blank) ≡ false) → processes_bits ps ≤ 272 * length ps
processes-few_bits [] h = omega arith
processes-few_bits (p ∷ ps) h =
    let g = good_process p (h 0 (omega arith)) in
    omega (arith, g.variables, g.timers, sum_by-cons process_bits p ps, processes-few_bits ps (λ k lt. h (suc k) (omega arith)))

module _ (c : Contents) (w : IsWritable c) where
  counted : miscounted c.lists ≡ None
  counted =
      let n = few-processes c.lists w.limits in
      let s = w.some in
      cond-false (eqb (length c.lists.processes) 0 || ltb 8 (length c.lists.processes)) (Some (refusal 3 Layer.Sheet (Place.At 8))) None (grind (arith, nat_tests))

  named : names_refused c.lists (area_of c.names) ≡ None
  unfolding after
  named =
      let a = area_of c.names in
      let q = ends 0 (flat_map name_format.writes c.names) in
      let e : q ≡ 8 * length a = ap (ends 0) (names-writes c.names) ∙ ends-bytes a 0 ∙ omega arith in
      let s : Spells a 0 (flat_map name_format.writes c.names) = rw names-writes (spells-bytes a a 0 (λ i lt. let z : 0 + i ≡ i = omega arith in ap (λ j. get_or a j 0) z) (area-small c.names w.names)) in
      let r = (exact-many exact-name (length c.lists.processes + length c.lists.signals)).forth a 0 c.names (w.named, w.names) s (omega arith) in
      ap (λ x. misnamed (after x (λ _ q. ended.reads a q))) r ∙ ap misnamed (cond-false (ltb q (8 * length a)) (fault 5 q) (got 0 q) (le-ltb q (8 * length a) (omega arith)))

  pub only-short : (room : ℕ) → write_refused c.lists (area_of c.names) room ≡ too_short (needed c.lists (area_of c.names)) room
  unfolding write_refused
  only-short room = rw (counted, w.limits, w.edges, named) refl

  pub small : needed c.lists (area_of c.names) ≤ 27078
  small =
      let p = few-processes c.lists w.limits in
      let bits = processes-few_bits c.lists.processes (process-good c.lists w.limits) in
      omega (arith, w.named, few-signals c.lists w.limits, few-edges c.lists w.limits, few-terms c.lists w.limits, area-length c.names w.names)
