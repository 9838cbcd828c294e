use Rattle.std.proofs.Common.{◌≡◌, true, Err, sym, subst, ap}
use Rattle.aas_command.specs.Commands.{IsWellFormed}
use Rattle.aas_edit_laws.proofs.Edits.{insert_keeps_whole}
use Rattle.aas_json_mapping.specs.Whole.{is_whole_submodel}
use Rattle.aas_json_table.specs.TooDeep.{limits}
use Rattle.aas_repo_documents.proofs.Reached.{inserts, is_missing_at}
use Rattle.aas_repo_elements.proofs.inserting.InsertionEdit.make.Goals as goal

pub returns-in-Ok-clause-ok : goal.returns-in-Ok-clause-ok
returns-in-Ok-clause-ok c = (
  inserts c.args.submodel.now c.args.self.path.steps c.args.self.element c.conflicts.result
      (λ m is. let never = (c.in-Ok.ensures.missing m).1 is in absurd (cc))
      (λ is. let never = c.in-Ok.ensures.not_a_container.1 is in absurd (cc))
      c.conflicts.ensures c.if-conflicts.false,
  c.in-Ok.ensures.done,
)

pub returns-in-Ok-clause-whole : goal.returns-in-Ok-clause-whole
unfolding IsWellFormed
returns-in-Ok-clause-whole c = λ whole.
    subst (λ s. is_whole_submodel limits s ≡ true) (sym c.in-Ok.ensures.done)
    (insert_keeps_whole c.args.submodel.now c.args.self.path.steps c.args.self.element whole c.requires.1.1)

pub returns-in-Err-Missing-clause-err : goal.returns-in-Err-Missing-clause-err
returns-in-Err-Missing-clause-err c = λ other.
    let m = (c.in-Err-Missing.ensures.missing c.in-Err-Missing.missing).0 (ap Err c.in-Err-Missing.field-0-is) in
    is_missing_at c.args.submodel.now c.args.self.path.steps _ _ _ m.0 m.1 m.2 c.not_found.ensures other
