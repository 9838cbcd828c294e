use Rattle.aas_command.specs.Commands.{IsWellFormed}
use Rattle.aas_repo_documents.proofs.Reached.{is_missing_at, some_steps}
use Rattle.aas_repo_elements.proofs.replacing.ReplacementEdit.is_accepted.Goals as goal

pub is_accepted_over-requires-clause-whole : goal.is_accepted_over-requires-clause-whole
unfolding IsWellFormed
is_accepted_over-requires-clause-whole g c = c.requires.well_formed.1.1

pub returns-in-Err-clause-refused : goal.returns-in-Err-clause-refused
unfolding IsWellFormed
returns-in-Err-clause-refused g c = λ other.
    let p = c.args.self.now.path.steps in
    is_missing_at (g.T.Table.kept c.args.table.now) p c.in-Err.missing.steps _ _
    (some_steps p c.requires.well_formed.1.0) c.in-Err.ensures.found.0
    c.in-Err.ensures.found.1 c.not_found.ensures other
