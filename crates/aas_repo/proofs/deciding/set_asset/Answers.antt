use Rattle.std.proofs.Common.{refl, sym, ap, ◌∙◌, subst}
use Rattle.std.specs.FinMap as map
use Rattle.aas_command.specs.declared.command.Command.TheVariants.{SetAsset}
use Rattle.aas_command.specs.declared.refusal.Absent.TheVariants as absent
use Rattle.aas_command.specs.declared.refusal.Refusal.TheVariants.{NotFound}
use Rattle.aas_json_mapping.specs.Trees.{asset_informations}
use Rattle.aas_json_table.specs.TooDeep.{limits}
use Rattle.aas_repo.proofs.Decided.{sets, sets_nothing, sets_whole}
use Rattle.aas_repo.proofs.deciding.set_asset.Goals as goal
use Rattle.aas_repo_documents.specs.Decisions.{IsDecision}
use Rattle.aas_repo_documents.specs.declared.decision.Decision.TheVariants as decision

pub put-requires : goal.put-requires
put-requires g c =
    let d = g.S.Store.documents c.args.store.now in
    sets_whole d c.args.id c.into_inner.result _ c.in-Ok-Some.shell c.requires.valid
    (subst (asset_informations.IsWhole limits) (sym c.into_inner.ensures) c.requires.whole)
    (sym (c.shell.ensures ∙ ap (map.get d.shells) c.as_str.ensures.bytes))
    (sym c.in-Ok-Some.field-0-is ∙ c.in-Ok-Some.ensures)

pub returns-in-Ok-Some : goal.returns-in-Ok-Some
returns-in-Ok-Some g c =
    let d = g.S.Store.documents c.args.store.now in
    subst (λ a. IsDecision c.args.has_room d (SetAsset c.args.id a) (g.S.Store.documents c.put.new.store) c.put.result)
    c.into_inner.ensures
    (c.put.ensures _ (sets d c.args.id c.into_inner.result _ c.in-Ok-Some.shell
    (sym (c.shell.ensures ∙ ap (map.get d.shells) c.as_str.ensures.bytes))
    (sym c.in-Ok-Some.field-0-is ∙ c.in-Ok-Some.ensures)))

pub returns-in-Ok-None : goal.returns-in-Ok-None
returns-in-Ok-None g c =
    let d = g.S.Store.documents c.args.store.now in
    subst (λ a. IsDecision c.args.has_room d (SetAsset c.args.id a) d (decision.Refused (NotFound absent.Shell)))
    c.into_inner.ensures
    (sets_nothing _ d d c.args.id c.into_inner.result _
    (sym (c.shell.ensures ∙ ap (map.get d.shells) c.as_str.ensures.bytes))
    (sym c.in-Ok-None.field-0-is ∙ c.in-Ok-None.ensures) refl)
