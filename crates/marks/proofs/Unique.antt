-- No two markings are the least of one table.
use Rattle.std.proofs.Common.{◌≡◌, ℕ, Bool, true, false, sym, refl, ap, ◌∙◌}
use Rattle.std.proofs.Math.Path.{fun_ext}
use Rattle.table.specs.Lists.{Lists}
use Rattle.marks.specs.Rules.{Marking, Within, Least}

same : (a b : Bool) → (a ≡ true → b ≡ true) → (b ≡ true → a ≡ true) → a ≡ b
same true b f g = sym (f refl)
same false true f g = g refl
same false false f g = refl

abbrev Instances : Type 0
Instances = ℕ → ℕ → ℕ → Bool

same-instances : (f g : Instances) → ((p l i : ℕ) → f p l i ≡ true → g p l i ≡ true) → ((p l i : ℕ) → g p l i ≡ true → f p l i ≡ true) → f ≡ g
same-instances f g h k = fun_ext (λ p. fun_ext (λ l. fun_ext (λ i. same (f p l i) (g p l i) (h p l i) (k p l i))))

abbrev both : Instances → Instances → Marking
both f g = record { variable = f; timer = g }

within-both : (M N : Marking) → Within M N → Within N M → M ≡ N
within-both M N a b =
    ap (λ f. both f M.timer) (same-instances M.variable N.variable a.variables b.variables)
    ∙ ap (λ g. both N.variable g) (same-instances M.timer N.timer a.timers b.timers)

pub least-unique : (T : Lists) (M N : Marking) → Least T M → Least T N → M ≡ N
least-unique T M N a b = within-both M N (a.least N b.obeys) (b.least M a.obeys)
