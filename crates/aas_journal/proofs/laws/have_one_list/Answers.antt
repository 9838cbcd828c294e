use Rattle.aas_journal.specs.Bank.{chosen_file}
use Rattle.aas_journal.proofs.Gates.{one_list}
use Rattle.aas_journal.proofs.laws.have_one_list.Goals as goal

pub returns : goal.returns
returns c = λ files a b. one_list (chosen_file files) a b
