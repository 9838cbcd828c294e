use Rattle.aas_command.specs.Commands.{IsWellFormed}
use Rattle.aas_repo_elements.proofs.inserting.InsertionEdit.is_accepted.Goals as goal

pub is_accepted_below-requires-clause-whole : goal.is_accepted_below-requires-clause-whole
unfolding IsWellFormed
is_accepted_below-requires-clause-whole g c = c.requires.well_formed.1.1

pub returns-in-Err-clause-refused : goal.returns-in-Err-clause-refused
returns-in-Err-clause-refused g c = c.in-Err.ensures.lost _
