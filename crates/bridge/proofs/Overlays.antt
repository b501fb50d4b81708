-- Bytes laid over others, and numbers spelled as bytes.
use Rattle.std.proofs.Common.{◌≡◌, ℕ, ◌+◌, ◌-◌, ◌*◌, ◌<◌, ◌≤◌, List, [], ◌∷◌, ◌++◌, take, drop, length, cond, refl, sym, ap, ◌∙◌, arith}
use Rattle.std.proofs.Math.Seq.{drop-append_seam, take-append_seam}
use Rattle.std.proofs.lemmas.Bool.{le-leb, lt-leb}
use Rattle.std.proofs.lemmas.Grind.{flat_map-append}
use Rattle.std.proofs.lemmas.List.{append_assoc, drop-drop, length-append}
use Rattle.std.specs.Int.{w64, to_be_bytes}
use borrow.Rule.Slice.PartMut.{put_mid}
use Rattle.bridge.specs.Laid.{fitted, laid, spelled}

-- what is put behind what was laid is laid too
pub put-laid : (xs ys old : List ℕ) → take (length xs) (laid xs old) ++ (ys ++ drop (length ys) (drop (length xs) (laid xs old))) ≡ laid (xs ++ ys) old
unfolding laid
put-laid xs ys old =
    let rest = drop (length xs) old in
    ap (λ t. t ++ (ys ++ drop (length ys) (drop (length xs) (xs ++ rest)))) (take-append_seam xs rest)
    ∙ ap (λ t. xs ++ (ys ++ t)) (ap (drop (length ys)) (drop-append_seam xs rest) ∙ drop-drop (length ys) (length xs) old ∙ ap (λ n. drop n old) (sym (length-append xs ys)))
    ∙ sym (append_assoc xs ys (drop (length (xs ++ ys)) old))

pub mid-laid : (a : ℕ) (out xs ys zs old : List ℕ) → length xs ≡ a → ys ≡ zs → out ≡ laid xs old → put_mid a (a + length zs - a) out ys ≡ laid (xs ++ zs) old
mid-laid a out xs ys zs old e f g =
    let k : a + length zs - a ≡ length zs = omega arith in
    rw (g, f, k, sym e) (put-laid xs zs old)

pub laid-none : (old : List ℕ) → old ≡ laid [] old
unfolding laid
laid-none old = refl

pub fitted-room : (xs old : List ℕ) → length xs ≤ length old → fitted xs old ≡ laid xs old
fitted-room xs old h = ap (λ b. cond b (laid xs old) old) (le-leb (length xs) (length old) h)

pub fitted-none : (xs old : List ℕ) → length old < length xs → fitted xs old ≡ old
fitted-none xs old h = ap (λ b. cond b (laid xs old) old) (lt-leb (length xs) (length old) h)

pub spelled-append : (vs ws : List ℕ) → spelled (vs ++ ws) ≡ spelled vs ++ spelled ws
unfolding spelled
spelled-append vs ws = flat_map-append (to_be_bytes w64) vs ws

pub spelled-more : (ws : List ℕ) (w : ℕ) → spelled (ws ++ w ∷ []) ≡ spelled ws ++ to_be_bytes w64 w
unfolding spelled
spelled-more ws w = flat_map-append (to_be_bytes w64) ws (w ∷ [])

pub length-spelled : (ws : List ℕ) → length (spelled ws) ≡ 8 * length ws
unfolding spelled
length-spelled [] = refl
length-spelled (w ∷ ws) =
    let eight : length (to_be_bytes w64 w) ≡ 8 = refl in
    length-append (to_be_bytes w64 w) (spelled ws) ∙ omega (arith, length-spelled ws, eight)
