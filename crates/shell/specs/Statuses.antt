-- How runs end.
--   number_of s    the number that the process ends with
--   both s t       how two runs end that ended by s and t: as the first that is not done
--   ended k        how a program ends whose words are not to be run: done where help or the version was asked for
use Rattle.std.specs.Prelude.{ℕ}
use Rattle.clap.specs.declared.error.kind.ErrorKind.{ErrorKind}
use Rattle.clap.specs.declared.error.kind.ErrorKind.TheVariants.{DisplayHelp, DisplayVersion}
use Rattle.shell.specs.declared.status.Status.{Status}
use Rattle.shell.specs.declared.status.Status.TheVariants.{Done, Refused, Failed, Misused}

abbrev pub number_of : Status → ℕ
number_of Done = 0
number_of Refused = 1
number_of Failed = 1
number_of Misused = 2

abbrev pub both : Status → Status → Status
both Done t = t
both s t = s

abbrev pub ended : ErrorKind → Status
ended DisplayHelp = Done
ended DisplayVersion = Done
ended k = Misused
