use Rattle.std.proofs.Common.{◌≡◌, true, Err, sym, subst, ap}
use Rattle.aas_command.specs.Commands.{IsWellFormed}
use Rattle.aas_json_mapping.specs.Whole.{is_whole_submodel}
use Rattle.aas_json_table.specs.TooDeep.{limits}
use Rattle.aas_repo_documents.proofs.Edited.{replacement_keeps_whole}
use Rattle.aas_repo_documents.proofs.Reached.{is_missing_at, replaces, some_steps}
use Rattle.aas_repo_elements.proofs.replacing.ReplacementEdit.make.Goals as goal

pub replace-requires : goal.replace-requires
unfolding IsWellFormed
replace-requires c = some_steps c.args.self.path.steps c.requires.1.0

pub returns-in-Ok-clause-ok : goal.returns-in-Ok-clause-ok
unfolding IsWellFormed
returns-in-Ok-clause-ok c = (
  replaces c.args.submodel.now c.args.self.path.steps c.args.self.element
      (some_steps c.args.self.path.steps c.requires.1.0)
      (λ m is. let never = (c.in-Ok.ensures.missing m).1 is in absurd (cc))
      (λ is. let never = c.in-Ok.ensures.not_a_container.1 is in absurd (cc)),
  c.in-Ok.ensures.done,
)

pub returns-in-Ok-clause-whole : goal.returns-in-Ok-clause-whole
unfolding IsWellFormed
returns-in-Ok-clause-whole c = λ whole.
    let none =
    replaces c.args.submodel.now c.args.self.path.steps c.args.self.element
    (some_steps c.args.self.path.steps c.requires.1.0)
    (λ m is. let never = (c.in-Ok.ensures.missing m).1 is in absurd (cc))
    (λ is. let never = c.in-Ok.ensures.not_a_container.1 is in absurd (cc)) in
    subst (λ s. is_whole_submodel limits s ≡ true) (sym c.in-Ok.ensures.done)
    (replacement_keeps_whole c.requires.0 c.args.self.path
    c.args.self.element c.args.submodel.now c.requires.1 none whole)

pub returns-in-Err-Missing-clause-err : goal.returns-in-Err-Missing-clause-err
returns-in-Err-Missing-clause-err c = λ other.
    let m = (c.in-Err-Missing.ensures.missing c.in-Err-Missing.missing).0 (ap Err c.in-Err-Missing.field-0-is) in
    is_missing_at c.args.submodel.now c.args.self.path.steps _ _ _ m.0 m.1 m.2 c.not_found.ensures other
