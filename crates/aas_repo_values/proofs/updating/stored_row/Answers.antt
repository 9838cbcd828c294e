use Rattle.std.proofs.Common.{◌≡◌, Some, Err, ap, subst}
use Rattle.std.specs.Prelude.{ℕ, List, MatchOption}
use Rattle.aas_path_trees.specs.ElementAt.{element_at}
use Rattle.aas_store.specs.Edited.{Holds}
use Rattle.aas_store.specs.Reads.{IsRowOf}
use Rattle.aas_store.specs.Spots.{rank_at}
use Rattle.aas_repo_values.proofs.Updated.{lack_refuses}
use Rattle.aas_repo_values.proofs.updating.stored_row.Goals as goal

pub returns-in-Ok-clause-ranked : goal.returns-in-Ok-clause-ranked
returns-in-Ok-clause-ranked g c =
    let d = g.S.Store.documents c.args.store.now in
    subst (λ (b : List ℕ). Holds d b (λ s. rank_at s c.args.path.now.steps ≡ Some c.in-Ok.found.0))
    c.as_str.ensures.bytes c.in-Ok.ensures.ranked

pub returns-in-Ok-clause-found : goal.returns-in-Ok-clause-found
returns-in-Ok-clause-found g c =
    let d = g.S.Store.documents c.args.store.now in
    subst (λ (b : List ℕ).
    Holds d b (λ s. MatchOption (element_at s c.args.path.now.steps) ⊥ (λ e. IsRowOf e c.in-Ok.found.1)))
    c.as_str.ensures.bytes
    c.in-Ok.ensures.found

pub returns-in-Err-clause-lost : goal.returns-in-Err-clause-lost
returns-in-Err-clause-lost g c = λ other v.
    lack_refuses (g.S.Store.documents c.args.store.now) c.args.id.now
    c.as_str.result.now c.args.path.now v c.in-Err.lack c.refusal_of.result
    c.as_str.ensures.bytes c.requires
    (λ is. c.in-Err.ensures.no_submodel.0 (ap Err is))
    (λ m is. (c.in-Err.ensures.no_element m).0 (ap Err is)) c.refusal_of.ensures other
