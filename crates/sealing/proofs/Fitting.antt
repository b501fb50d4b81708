-- What writing answers where nothing but the room can be refused, and the sheet that is then put in front.
use Rattle.std.proofs.Common.{◌≡◌, ℕ, ◌<◌, ◌≤◌, Bool, true, false, cond, ltb, List, ◌++◌, length, take, drop, is_ok, Some, None, Ok, Err, Result, sym, refl, ap, ◌∙◌, subst, arith, length-take-le}
use Rattle.std.specs.Result.{result_map_both}
use Rattle.std.proofs.lemmas.Bool.{both_ways, ltb-false, ltb-true}
use Rattle.std.proofs.lemmas.List.{take-append-drop}
use Rattle.reading.specs.Layout.{Contents}
use Rattle.reading.specs.Opening.{unless}
use Rattle.reading.specs.Spelling.{IsWritable, area_of}
use Rattle.refusal.specs.Refusals.{refusal}
use Rattle.refusal.specs.declared.fault.Layer.{Layer}
use Rattle.refusal.specs.declared.fault.Layer.TheVariants.{Output}
use Rattle.refusal.specs.declared.fault.Place.{Place}
use Rattle.refusal.specs.declared.fault.Refusal.{Refusal}
use Rattle.refusal.specs.declared.fault.TableFault.TheVariants.{Limit, Edge, Mixed, Stuck}
use Rattle.sealing.specs.Seals.{PutInFront}
use Rattle.writing.proofs.Existing.{sheet-of}
use Rattle.writing.proofs.Writable.{only-short, small}
use Rattle.writing.specs.Faults.{write_refusal}
use Rattle.writing.specs.Written.{IsWrittenAs, needed, too_short, write_refused, written}
use Rattle.writing.specs.declared.fault.WriteFault.{WriteFault}
use Rattle.writing.specs.declared.fault.WriteFault.TheVariants.{Processes, Table, Names, Short}

-- n bytes are needed, and there is room for them or not
abbrev Fits : Result ℕ WriteFault → ℕ → ℕ → Type 0
Fits (Ok m) n room = (m ≡ n) × (n ≤ room)
Fits (Err (Short m)) n room = (m ≡ n) × (room < n)
Fits (Err Processes) n room = ⊥
Fits (Err (Table f)) n room = ⊥
Fits (Err (Names b)) n room = ⊥

abbrev is_output : Layer → Bool
is_output Output = true
is_output _ = false

abbrev of_output : Result ℕ Refusal → Bool
of_output (Ok n) = false
of_output (Err f) = is_output f.layer

abbrev number_at : Place → ℕ
number_at (Place.At n) = n
number_at (Place.Pair p l) = 0

abbrev at_of : Result ℕ Refusal → ℕ
at_of (Ok n) = n
at_of (Err f) = number_at f.place

fits : (r : Result ℕ WriteFault) (n room : ℕ) → result_map_both (λ n. n) write_refusal r ≡ unless (too_short n room) n → Fits r n room
fits r n room h = by (ltb room n) refl r h
  where
    by : (b : Bool) → ltb room n ≡ b → (r : Result ℕ WriteFault) → result_map_both (λ n. n) write_refusal r ≡ unless (cond b (Some (refusal 22 Layer.Output (Place.At n))) None) n → Fits r n room
    by true e (Ok m) h = absurd (both_ways true (ap is_ok h) refl)
    by true e (Err (Short m)) h = (ap at_of h, ltb-true room n e)
    by true e (Err Processes) h = both_ways false refl (ap of_output h)
    by true e (Err (Table (Limit p))) h = both_ways false refl (ap of_output h)
    by true e (Err (Table (Edge b))) h = both_ways false refl (ap of_output h)
    by true e (Err (Table (Mixed p l))) h = both_ways false refl (ap of_output h)
    by true e (Err (Table (Stuck p l))) h = both_ways false refl (ap of_output h)
    by true e (Err (Names b)) h = both_ways false refl (ap of_output h)
    by false e (Ok m) h = (ap at_of h, ltb-false room n e)
    by false e (Err f) h = absurd (both_ways false refl (ap is_ok h))

module _ (c : Contents) (w : IsWritable c) (area : List ℕ) (held : area ≡ area_of c.names) (old : List ℕ) where
  pub answered : (r : Result ℕ WriteFault) → result_map_both (λ n. n) write_refusal r ≡ written c.lists area (length old) → Fits r (needed c.lists area) (length old)
  answered r h =
      let only = subst (λ a. write_refused c.lists a (length old) ≡ too_short (needed c.lists a) (length old)) (sym held) (only-short c w (length old)) in
      fits r (needed c.lists area) (length old) (h ∙ ap (λ o. unless o (needed c.lists area)) only)

  pub fits-any : needed c.lists area ≤ 27078
  fits-any = subst (λ a. needed c.lists a ≤ 27078) (sym held) (small c w)

  abbrev pub Front : ℕ → List ℕ → Type 0
  Front n new = (vs : List ℕ) × IsWrittenAs c.lists area vs × (n ≡ length vs) × PutInFront vs old new

  pub with-room : (n : ℕ) (new : List ℕ) → Fits (Ok n) (needed c.lists area) (length old) → IsWrittenAs c.lists area (take n new) → length new ≡ length old → drop n new ≡ drop n old → Front n new
  with-room n new f written size beyond =
      let l : length (take n new) ≡ n = length-take-le n new (omega (arith, f.0, f.1)) in (
        take n new,
        written,
        sym l,
        record {
          room = λ h. sym (take-append-drop n new) ∙ ap (λ xs. take n new ++ xs) (beyond ∙ ap (λ k. drop k old) (sym l));
          short = λ h. absurd (omega (arith, f.0, f.1));
        },
      )

  pub with-less : (n : ℕ) (new : List ℕ) → Fits (Err (Short n)) (needed c.lists area) (length old) → new ≡ old → Front n new
  with-less n new f same =
      let s = sheet-of c w in
      let l : n ≡ length s.0 = f.0 ∙ ap (needed c.lists) held ∙ sym s.1.1 in
      (s.0, (c.names, held, s.1.0), l, record { room = λ h. absurd (omega (arith, f.0, f.1)); short = λ h. same })
