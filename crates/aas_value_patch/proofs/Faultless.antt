-- What the first fault of an updated element says, and that of a submodel.
use Rattle.std.proofs.Common.{◌≡◌, ◌==◌, Bool, true, false, List, [], ◌∷◌, Option, Some, None, is_some, refl, sym, ap}
use Rattle.std.proofs.Common.{◌∙◌, subst, true≢false}
use Rattle.std.proofs.lemmas.Bool.Decides.{Decides-eqb}
use Rattle.std.specs.Prelude.{if◌then◌else◌, Result, Ok, Err, IfErr, IsErr, IsErrAnd}
use Rattle.std.proofs.lemmas.Option.{none-some}
use Rattle.serde_json.specs.Data.{Data}
use Rattle.aas_json_spelling.specs.Values.{IsOrdered}
use Rattle.aas_model.specs.declared.documents.Submodel.{Submodel}
use Rattle.aas_model.specs.declared.element.Element.{Element}
use Rattle.aas_model.specs.declared.patch.Patch.{Patch}
use Rattle.aas_model.specs.declared.path.Fault.{Fault}
use Rattle.aas_reference.specs.Rules.{first}
use Rattle.aas_constraint_rules.specs.Faults.{submodel}
use Rattle.aas_constraint_laws.specs.Law.{local_faults}
use Rattle.aas_constraint_laws.specs.Valid.{IsValid}
use Rattle.aas_value_update.specs.Update.{IsElementUpdate, IsSubmodelUpdate, body}
use Rattle.aas_value_update.proofs.Place.{law_of_whole_submodel, valid_after_update}
use Rattle.aas_value_patch.specs.Faults.{IsPatchFault}
use Rattle.aas_value_patch.specs.Prepared.{Breaks, IsSubmodelFault, IsValueFault, SubmodelBreaks}
use Rattle.aas_value_patch.specs.Prepared.{fault_by}
use Rattle.aas_value_patch.specs.declared.preparing.ValueFault.{ValueFault}
use Rattle.aas_value_patch.specs.declared.preparing.ValueFault.TheVariants as fault
use Rattle.aas_value_patch.proofs.Updated.{body_form}

pub no_first : (fs : List Fault) → None ≡ first fs → fs ≡ []
no_first [] e = refl
no_first (f ∷ fs) e = absurd (none-some f e)

-- a fault is of a lexical rule, or of another
by_number : (P : ValueFault → Type 0) (f : Fault)
    → (f ≡ record { number = 0; path = f.path } → P (fault.Lexical f.path))
    → (¬ (f.number ≡ 0) → P (fault.Constraint f)) → P (fault_by f)
by_number P f lexical other = by_test (f.number == 0) refl
  where
    false_true : false ≡ true → ⊥
    false_true e = cc

    by_test : (b : Bool) → (f.number == 0) ≡ b → P (if b then fault.Lexical f.path else fault.Constraint f)
    by_test true zero =
        lexical (ap (λ n. let g : Fault = record { number = n; path = f.path } in g) ((Decides-eqb f.number 0).0 zero))
    by_test false is = other (λ zero. false_true (sym is ∙ (Decides-eqb f.number 0).1 zero))

-- ---- an element

pub broken : (e u : Element) (v : Data) (f : Fault)
    → IsElementUpdate e v u → Some f ≡ first (local_faults u) → IsValueFault e v (fault_by f)
broken e u v f update is =
    by_number (IsValueFault e v) f (λ same. subst (Breaks e v) same breaks) (λ other. (breaks, other))
  where
    breaks : Breaks e v f
    breaks = record { new = u; update = update; first = sym is }

-- ---- a submodel

pub submodel_broken : (d u : Submodel) (v : Data) (f : Fault)
    → IsValid (submodel d) → IsSubmodelUpdate d v u → Some f ≡ first (local_faults (body u))
    → IsSubmodelFault d v (fault_by f)
submodel_broken d u v f valid update is =
    by_number (IsSubmodelFault d v) f (λ same. subst (SubmodelBreaks d v) same breaks) (λ other. (breaks, other))
  where
    breaks : SubmodelBreaks d v f
    breaks = record {
      new = u;
      update = update;
      first = ap first (law_of_whole_submodel d u valid.faultless update.outside update.update.metadata) ∙ sym is;
    }

submodel_unfit : (d : Submodel) (v : Data) (f : ValueFault) → IsPatchFault (body d) v f → IsSubmodelFault d v f
submodel_unfit d v fault.NoValueForm none =
    absurd (true≢false (sym (body_form d) ∙ ap (λ (o : Option Data). is_some o) none))
submodel_unfit d v (fault.Shape path) is = is.1
submodel_unfit d v fault.NoMemory is = tt
submodel_unfit d v _ none = absurd none

pub submodel_unfit_at : (r : Result Patch ValueFault) (f : ValueFault) (d : Submodel) (v : Data)
    → IsErr r → IsErrAnd r (λ g. g ≡ f)
    → IsPatchFault (body d) v f → IfErr r (λ g. IsSubmodelFault d v g)
submodel_unfit_at (Ok patch) f d v err is unfit = absurd (cc)
submodel_unfit_at (Err g) f d v err is unfit = subst (IsSubmodelFault d v) (sym is) (submodel_unfit d v f unfit)

pub submodel_valid : (d u : Submodel) (v : Data)
    → IsOrdered v → IsSubmodelUpdate d v u → local_faults (body u) ≡ [] → IsValid (submodel d)
    → IsValid (submodel u)
submodel_valid d u v ordered update clean valid = valid_after_update d u [] v (body u) valid ordered update refl clean
