use Rattle.std.proofs.Common.{◌≡◌, ◌↔◌, true, List, Option, MatchOption, Result, Ok, Err, OnOk, refl, subst}
use Rattle.aas_model.specs.declared.documents.Submodel.{Submodel}
use Rattle.aas_model.specs.declared.element.Element.{Element}
use Rattle.aas_model.specs.declared.path.PathStep.{PathStep}
use Rattle.aas_path.specs.Refusals.{IsMissing, IsUnfit}
use Rattle.aas_path.specs.declared.edits.ReplaceFault.{ReplaceFault}
use Rattle.aas_path.specs.declared.edits.ReplaceFault.TheVariants.{Missing, NotAContainer}
use Rattle.aas_path_trees.specs.Children.{role_of}
use Rattle.aas_path_trees.specs.Edits.{fits_role, replaced}
use Rattle.aas_store.specs.Edited.{CanReplace}
use Rattle.aas_store.proofs.elements.replace_at.Goals as goal

abbrev Fitting : Element → Option Element → Type 0
Fitting e found = MatchOption found ⊥ (λ old. fits_role e (role_of old) ≡ true)

-- where an element fits the path's, no cause of a refusal holds
replaced_if_fits : (r : Result Element ReplaceFault) (s new : Submodel) (p : List PathStep) (e : Element) → CanReplace s p e → OnOk r (new ≡ replaced s p e)
    → ((m : _) → (r ≡ Err (Missing m)) ↔ IsMissing s p m) → (r ≡ Err NotAContainer) ↔ IsUnfit s p e → new ≡ replaced s p e
replaced_if_fits (Ok old) s new p e fits done missing unfit = done
replaced_if_fits (Err (Missing m)) s new p e fits done missing unfit = absurd (subst (Fitting e) ((missing m).0 refl).1 fits)
replaced_if_fits (Err NotAContainer) s new p e fits done missing unfit =
    let u = unfit.0 refl in
    let fit = subst (Fitting e) u.1 fits in
    absurd (cc)

pub returns : goal.returns
returns c =
    replaced_if_fits c.replace.result c.args.submodel.now c.replace.new.submodel c.args.path.now.steps c.args.element c.requires c.replace.ensures.done c.replace.ensures.missing c.replace.ensures.not_a_container
