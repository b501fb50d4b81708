use Rattle.std.proofs.Common.{refl}
use Rattle.sheet.specs.Example.{gate}
use Rattle.sheet.proofs.Examples.{opens, refuses}
use Rattle.sheet.proofs.example.example_length.Goals as goal

pub returns : goal.returns
unfolding gate
returns c = record { value = refl; opens = opens; refuses = refuses }
