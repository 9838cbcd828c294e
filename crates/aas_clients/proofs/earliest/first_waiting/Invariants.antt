use Rattle.aas_clients.specs.Earliest.{IsEarliest}
use Rattle.aas_clients.specs.Places.{turn_at}
use Rattle.aas_clients.proofs.earliest.first_waiting.Given as goal

abbrev pub invariant-loop-number : goal.invariant-loop-number
invariant-loop-number g l = IsEarliest l.found (turn_at l.places) l.number
