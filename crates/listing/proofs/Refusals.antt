-- A sheet has one refusal, or none.
use Rattle.std.proofs.Common.{◌≡◌, Some, None, Option}
use Rattle.refusal.specs.declared.fault.Refusal.{Refusal}

pub one-refusal : (r : Option Refusal) (f g : Refusal) → Some f ≡ r → r ≡ Some g → f ≡ g
one-refusal r f g a b = cc

pub no-refusal : (r : Option Refusal) (f : Refusal) → None ≡ r → r ≡ Some f → ⊥
no-refusal r f a b = cc
