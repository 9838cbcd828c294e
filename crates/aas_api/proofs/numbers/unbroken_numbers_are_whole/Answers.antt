use Rattle.aas_api.proofs.BrokenNumbers.{none_broken, unbroken}
use Rattle.aas_api.proofs.numbers.unbroken_numbers_are_whole.Goals as goal

pub returns : goal.returns
returns c = λ v. (unbroken v, none_broken v)
