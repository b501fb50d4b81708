-- A table with a name area has one sheet.
use Rattle.std.proofs.Common.{◌≡◌, ℕ, suc, List, [], ◌∷◌, ◌++◌, length, take, drop, sym, refl, ap, ◌∙◌, ◌<◌, ◌≤◌, ⊎_elim, get_or, length-take, subst, arith}
use Rattle.std.proofs.lemmas.Bool.{cases_lt}
use Rattle.std.proofs.lemmas.List.{get_or-take, get_or_past}
use Rattle.std.proofs.Math.Seq.{take-append_seam, drop-append_seam}
use Rattle.reading.proofs.Unique.{one_sheet}
use Rattle.reading.specs.Spelling.{AreBytes, IsSheet, area_of}
use Rattle.table.specs.Lists.{Lists}
use Rattle.writing.specs.Written.{IsWrittenAs}

-- the length before each name tells where it ends
pub area-same : (ts us : List (List ℕ)) → area_of ts ≡ area_of us → ts ≡ us
area-same [] [] h = refl
area-same [] (u ∷ us) h = let z : 0 ≡ suc (length (u ++ area_of us)) = ap length h in absurd (omega arith)
area-same (t ∷ ts) [] h = let z : suc (length (t ++ area_of ts)) ≡ 0 = ap length h in absurd (omega arith)
area-same (t ∷ ts) (u ∷ us) h =
    let n : length t ≡ length u = ap (λ (xs : List ℕ). get_or xs 0 0) h in
    let all : t ++ area_of ts ≡ u ++ area_of us = ap (drop 1) h in
    let first : t ≡ u =
    sym (take-append_seam t (area_of ts)) ∙ ap (take (length t)) all ∙ ap (λ k. take k (u ++ area_of us)) n ∙ take-append_seam u (area_of us) in
    let rest : area_of ts ≡ area_of us =
    sym (drop-append_seam t (area_of ts)) ∙ ap (drop (length t)) all ∙ ap (λ k. drop k (u ++ area_of us)) n ∙ drop-append_seam u (area_of us) in
    ap (λ x. x ∷ ts) first ∙ ap (λ xs. u ∷ xs) (area-same ts us rest)

pub bytes-taken : (n : ℕ) (xs : List ℕ) → AreBytes xs → AreBytes (take n xs)
bytes-taken n xs h i =
    ⊎_elim (λ (l : i < n). rw (get_or-take n xs i 0 l) (h i)) (λ (l : n ≤ i). let e = get_or_past (take n xs) i 0 (omega (arith, length-take n xs)) in omega arith) (cases_lt i n)

pub sole : (T : Lists) (area bs cs : List ℕ) → AreBytes bs → AreBytes cs → IsWrittenAs T area bs → IsWrittenAs T area cs → cs ≡ bs
sole T area bs cs b c h k =
    let same : k.0 ≡ h.0 = area-same k.0 h.0 (sym k.1 ∙ h.1) in
    one_sheet (record { lists = T; names = h.0 }) cs bs c b (subst (λ (ns : List (List ℕ)). IsSheet (record { lists = T; names = ns }) cs) same k.2) h.2
