use Rattle.aas_repo_values.proofs.updating.update_for.Goals as goal

pub returns-in-Err-stored_row-clause-refusal : goal.returns-in-Err-stored_row-clause-refusal
returns-in-Err-stored_row-clause-refusal g c = λ other. c.in-Err-stored_row.ensures.lost other c.args.value.now
