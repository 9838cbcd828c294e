use Rattle.aas_journal.specs.Bank.{chosen_file}
use Rattle.aas_journal.proofs.Gates.{initialised, undamaged, damaged_once}
use Rattle.aas_journal.proofs.laws.have_one_condition.Goals as goal

pub returns : goal.returns
returns c = record {
  image_initialised = λ files payloads image. initialised (chosen_file files) payloads image.gate image.rest image.has;
  image_undamaged = λ files payloads at. undamaged (chosen_file files) payloads at;
  damaged_initialised = λ file at damaged. initialised file damaged.payloads 1 damaged.rest damaged.has;
  damaged_once = damaged_once;
}
