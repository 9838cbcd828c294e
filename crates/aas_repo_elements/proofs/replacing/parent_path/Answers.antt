use Rattle.std.proofs.Common.{◌≡◌, ◌+◌, ◌-◌, ◌<◌, List, [], ◌∷◌, ◌++◌, length, sym, ap, ◌∙◌, arith}
use Rattle.aas_model.specs.declared.path.Path.{Path}
use Rattle.aas_model.specs.declared.path.PathStep.{PathStep}
use Rattle.aas_store.proofs.Merges.{without_last}
use Rattle.aas_repo_documents.proofs.Accepted.{some_steps}
use Rattle.aas_repo_elements.proofs.replacing.parent_path.Goals as goal

pub returns : goal.returns
returns c =
    let step = c.remove.result in
    let some : 0 < length c.args.path.now.steps = some_steps c.args.path.now.steps c.requires in
    let same : length c.in_ok-above.above.steps ≡ length c.args.path.now.steps =
    ap (λ (p : Path). length p.steps) c.in_ok-above.ensures in
    let last : (c.len-last.result - 1) + 1 ≡ length c.in_ok-above.above.steps =
    omega (arith, some, same, c.len-last.ensures) in (
      step,
      ap (λ (p : Path). p.steps) (sym c.in_ok-above.ensures)
          ∙ without_last c.in_ok-above.above.steps (c.len-last.result - 1) step last c.remove.ensures.item
          ∙ ap (λ (xs : List PathStep). xs ++ step ∷ []) (sym c.remove.ensures.rest),
    )
