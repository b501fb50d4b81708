-- An accepted edit of a book that is lent enough memory.
use Rattle.std.proofs.Common.{◌≡◌, ℕ, Bool, false, cond, is_some, None, Ok, Option, Result, sym, refl, ap, ◌∙◌, List}
use Rattle.std.specs.Option.{option_or}
use Rattle.table.proofs.Passing.{none-some}
use Rattle.book.specs.Books.{Dealt}
use Rattle.book.specs.Calls.{when, Pages, Room, Edit, Gives, Does, edit, edit_refused, edited, number}
use Rattle.refusal.specs.declared.fault.Refusal.{Refusal}
use Rattle.rules.specs.Steps.{answer}
use Rattle.table.specs.Lists.{Lists, Proc}
use Rattle.table.specs.declared.record.Edge.{Edge}
use Rattle.table.specs.declared.record.Signal.{Signal}
use Rattle.table.specs.declared.record.Term.{Term}

gives_ok : {f : Option Refusal} {n : ℕ} {new s t : Pages} {r : Result ℕ Refusal} → f ≡ None → r ≡ Ok n → t ≡ new → Gives f n new s r t
gives_ok {n} {new} {s} a b c = record {
  says = b ∙ ap (λ g. answer g n) (sym a);
  leaves = c ∙ ap (λ (g : Option Refusal). cond (is_some g) s new) (sym a);
}

pub dealt_ok : {short : Option Refusal} {R : Room} {x : Edit} {s : Pages} {r : Result ℕ Refusal} {U : Lists} → short ≡ None → edit_refused R s.lists x ≡ None → r ≡ Ok (number s.lists x) → U ≡ edited x s.lists → Dealt short R (edit x) s r (record { lists = U; kept = None })
unfolding Does
dealt_ok a b c d = record {
  lent = λ _. gives_ok b c (ap (λ (V : Lists). record { lists = V; kept = None }) d);
  unlent = λ f e. none-some f (sym a ∙ e);
}

-- the lists after a write to a memory
pub lists_with : {P : List Proc} {S : List Signal} {E F : List Edge} {X Y : List Term} → E ≡ F → X ≡ Y → ◌≡◌ {A = Lists} (record { processes = P; signals = S; edges = E; terms = X }) (record { processes = P; signals = S; edges = F; terms = Y })
lists_with p q = rw (p, q) refl

pub neither : {b d : Bool} (p q : Refusal) → b ≡ false → d ≡ false → option_or (when b p) (when d q) ≡ None
neither p q h k = rw (h, k) refl
