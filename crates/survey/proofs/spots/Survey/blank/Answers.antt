use Rattle.std.proofs.Common.{rules}
use Rattle.survey.proofs.Noting.{blank-spots, blank-chaos}
use Rattle.survey.proofs.spots.Survey.blank.Goals as goal

pub returns : goal.returns
returns c =
    record { spots = λ p l. blank-spots 128 p l c.default.result (search rules); chaotic = blank-chaos 8 }
