-- Eight items that begin with those of a list.
use Rattle.std.proofs.Common.{◌≡◌, ℕ, ◌+◌, ◌-◌, ◌≤◌, List, ◌++◌, length, take, drop, replicate, sym, ap, ◌∙◌, arith}
use Rattle.std.proofs.lemmas.List.{take-replicate, drop-replicate}
use Rattle.rules.proofs.Lists.{take_past}
use Rattle.rules.specs.States.{padded}

pub padded-front : {X : Type 0} (xs : List X) (n : ℕ) (d : X) → length xs ≤ n → xs ++ drop (length xs) (replicate n d) ≡ padded n d xs
unfolding padded
padded-front xs n d h =
    let e : length xs + (n - length xs) ≡ n = omega arith in
    ap (λ ys. xs ++ ys) (drop-replicate (length xs) n d ∙ sym (take-replicate (n - length xs) n d (omega arith)))
    ∙ sym (take_past xs (replicate n d) (n - length xs))
    ∙ ap (λ k. take k (xs ++ replicate n d)) e
