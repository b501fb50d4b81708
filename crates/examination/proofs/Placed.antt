-- In a table within its limits, the flags of locations decide the two tests of a location.
use Rattle.std.proofs.Common.{◌≡◌, ℕ, ◌<◌, ◌≤◌, Bool, true, false, cond, List, length, Some, None, refl, arith}
use Rattle.std.specs.List.{slice_get}
use Rattle.std.proofs.lemmas.Bool.Decides.{nat_tests}
use Rattle.std.proofs.lemmas.Option.{slice_get_within}
use Rattle.table.specs.Examination.{some, bad_process, too_many, limited, limits_refused, lists_refused, processes_refused, signals_refused, first_location}
use Rattle.table.specs.Lists.{Lists, Proc}
use Rattle.table.specs.declared.record.Edge.{Edge}
use Rattle.examination.specs.Locations.{Raised, has_at}
use Rattle.examination.proofs.Nearest.{location-cong, first_passes, passes-parts}

-- a test that refuses nothing fails
pub not-refused : {R : Type 0} (b : Bool) (r : R) → cond b (Some r) None ≡ None → b ≡ false
not-refused true r e = cc
not-refused false r e = refl

-- a process that is not bad has at most sixteen locations
few-locations : (r : Proc) → bad_process r ≡ false → r.locations ≤ 16
few-locations r e = grind (arith, nat_tests)

module _ (T : Lists) (good : limits_refused T ≡ None) where
  parts : (lists_refused T ≡ None) × ((processes_refused T ≡ None) × (signals_refused T ≡ None))
  unfolding limits_refused
  parts = passes-parts (lists_refused T) (processes_refused T) (signals_refused T) good

  pub few-processes : length T.processes ≤ 8
  few-processes = let n = not-refused (too_many T) _ parts.0 in grind (arith, nat_tests)

  pub sound-process : (p : ℕ) (r : Proc) → slice_get T.processes p ≡ Some r → bad_process r ≡ false
  sound-process p r e = not-refused (bad_process r) _ (first_passes (limited bad_process) T.processes 0 parts.1.0 p r e)

  -- where flags tell which locations an edge leaves that passes f, and which one that passes g, a test of both flags hits what the same test of the edges hits
  module _ (a b : List Bool) (f g : Edge → Bool) (ra : Raised a f T.edges) (rb : Raised b g T.edges) (with : Bool → Bool → Bool) where
    pub found-alike : first_location (λ p l. with (has_at a p l) (has_at b p l)) T.processes ≡ first_location (λ p l. with (some T f p l) (some T g p l)) T.processes
    found-alike = location-cong (λ p l. with (has_at a p l) (has_at b p l)) (λ p l. with (some T f p l) (some T g p l)) T.processes (λ p r l e lt.
        let hp : p < 8 = let n = slice_get_within T.processes p r e in let m = few-processes in omega arith in
        let hl : l < 16 = let n = few-locations r (sound-process p r e) in omega arith in
        rw (ra p l hp hl, rb p l hp hl))
