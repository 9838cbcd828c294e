use Rattle.aas_clients.specs.Earliest.{IsEarliest}
use Rattle.aas_clients.specs.Places.{idle_at}
use Rattle.aas_clients.proofs.earliest.longest_idle.Given as goal

abbrev pub invariant-loop-number : goal.invariant-loop-number
invariant-loop-number g l = IsEarliest l.found (idle_at l.places) l.number
