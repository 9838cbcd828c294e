use Rattle.std.proofs.Common.{sym, ◌∙◌}
use Rattle.std.specs.Option.{option_copied}
use Rattle.aas_repo_elements.proofs.Placed.{is_faultless}
use Rattle.aas_repo_elements.proofs.placing.is_faultless.Goals as goal
use Rattle.aas_repo_elements.proofs.placing.is_faultless.Goals.{in-Some, in-None}

pub returns : goal.returns
returns c = elim c.match-branch-2.branch [
  | in-Some w ↦ rw w.result-is (λ is. absurd (cc))
  | in-None w ↦ rw w.result-is (λ is.
      is_faultless c.args.parent.now c.as_ref-above.result
      (option_copied c.args.lead) c.args.element.now c.as_ref-above.ensures.value
      (λ b new lead. sym w.in-None.is ∙ c.in_ok-check_child.ensures b new lead))
]
