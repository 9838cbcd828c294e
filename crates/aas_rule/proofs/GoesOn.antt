-- What calls on a machine leave, said of another failure.
use Rattle.aas_rule.specs.State.{GoesOn, MachineState}

-- where the one comes exactly where the other does
pub goes_on_as : {D I : Type 0} (A B : Type 0) (old new : MachineState D I)
    → (A → B) → (B → A) → GoesOn A old new → GoesOn B old new
goes_on_as A B old new to from g = record {
  room = g.room;
  past = g.past;
  stopped = λ not. g.stopped (λ a. not (to a));
  later = g.later;
  calm = λ not. g.calm (λ a. not (to a));
  fault = λ b. g.fault (from b);
}
