-- The exit statuses of the program. This profile's own rule.
use Rattle.std.specs.Prelude.{ℕ}
use Rattle.aas_server.specs.declared.status.Status.{Status}
use Rattle.aas_server.specs.declared.status.Status.TheVariants.{Done, NotACommand, LinkFault, DiskFault}
use Rattle.aas_server.specs.declared.status.Status.TheVariants.{NotInitialised, Damaged}
use Rattle.aas_server.specs.declared.status.Status.TheVariants.{Refused, AlreadyThere, JournalFull, NoMemory, TooLong}

abbrev pub exit_code : Status → ℕ
exit_code Done = 0
exit_code NotACommand = 2
exit_code LinkFault = 3
exit_code DiskFault = 4
exit_code NotInitialised = 5
exit_code Damaged = 6
exit_code Refused = 7
exit_code AlreadyThere = 8
exit_code JournalFull = 9
exit_code NoMemory = 10
exit_code TooLong = 11
