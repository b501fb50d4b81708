-- What opened is what its bytes are the sheet of, and they are its only sheet.
use Rattle.std.proofs.Common.{◌≡◌, ℕ, ◌+◌, List, [], ◌∷◌, map, length, drop, Ok, sym, refl, ap, ◌∙◌, subst}
use Rattle.std.proofs.lemmas.List.{take-append-drop}
use Rattle.reading.specs.Layout.{Contents}
use Rattle.reading.specs.Opening.{Opened, names_byte, names_in, opened, placed}
use Rattle.reading.specs.Spelling.{AreBytes, IsSheet, IsTheSheet, area_of, held, meaning}
use Rattle.reading.proofs.Inverse.{inverse}
use Rattle.reading.proofs.Sizes.{sheet-names}
use Rattle.reading.proofs.Unique.{one_sheet}

texts-placed : (a : ℕ) (ts : List (List ℕ)) → map (λ n. n.1) (placed a ts) ≡ ts
unfolding placed
texts-placed a [] = refl
texts-placed a (t ∷ ts) = ap (λ xs. t ∷ xs) (texts-placed (a + 1 + length t) ts)

pub names-meaning : (c : Contents) → names_in (meaning c) ≡ c.names
names-meaning c =
    ap (map (λ n. n.1)) (take-append-drop (length c.lists.processes) (placed (names_byte c.lists) c.names)) ∙ texts-placed (names_byte c.lists) c.names

module _ (bs : List ℕ) (o : Opened) (small : AreBytes bs) (opens : opened bs ≡ Ok o) where
  pub opened_sheet : IsTheSheet (held o) bs
  opened_sheet =
      let found = (inverse bs).only o opens in
      let c = found.0 in
      let with : List (List ℕ) → Contents = λ names. record { lists = c.lists; names = names } in
      let same : held o ≡ c = ap held found.2 ∙ ap with (names-meaning c) in
      let s = subst (λ (x : Contents). IsSheet x bs) (sym same) found.1 in
      record { sheet = s; sole = λ cs d t. one_sheet (held o) cs bs d small t s }

  -- their end is the area of the names
  pub opened_area : drop (names_byte o.lists) bs ≡ area_of (names_in o)
  opened_area = sheet-names (held o) bs small opened_sheet.sheet
