-- How a refusal is written.
--   layer_text l     the layer's name
--   place_text p     one number, or a process and a location
--   refusal_text r   `refused`, number, layer and place; one met inside a sheet ends with `sheet` and the bit
use Rattle.std.specs.Prelude.{ℕ, List, [], ◌++◌, Some, None, codes, decimal, Option}
use Rattle.refusal.specs.declared.fault.Layer.{Layer}
use Rattle.refusal.specs.declared.fault.Layer.TheVariants.{Sheet, Edge, Table, Test, Book, State, Output}
use Rattle.refusal.specs.declared.fault.Place.{Place}
use Rattle.refusal.specs.declared.fault.Place.TheVariants.{At, Pair}
use Rattle.refusal.specs.declared.fault.Refusal.{Refusal}

abbrev pub layer_text : Layer → List ℕ
layer_text Sheet = codes "sheet"
layer_text Edge = codes "edge"
layer_text Table = codes "table"
layer_text Test = codes "test"
layer_text Book = codes "book"
layer_text State = codes "state"
layer_text Output = codes "output"

abbrev pub place_text : Place → List ℕ
place_text (At n) = decimal n
place_text (Pair p l) = decimal p ++ (codes " " ++ decimal l)

abbrev pub inside_text : Option ℕ → List ℕ
inside_text None = []
inside_text (Some bit) = codes " sheet " ++ decimal bit

abbrev pub refusal_text : Refusal → List ℕ
refusal_text r =
    codes "refused " ++ (decimal r.number ++ (codes " " ++ (layer_text r.layer ++ (codes " " ++ (place_text r.place ++ inside_text r.sheet)))))
