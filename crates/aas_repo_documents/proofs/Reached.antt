-- Where a path leads, and why an edit there is refused.
use Rattle.std.proofs.Common.{◌≡◌, ◌⊎◌, ⊎_elim, ℕ, ◌<◌, Bool, true, false, List, [], ◌∷◌, length, Option, Some, None}
use Rattle.std.proofs.Common.{refl, sym, ap, ◌∙◌, arith}
use Rattle.std.specs.Prelude.{◌≢◌, ◌&&◌, is_some, take}
use Rattle.std.specs.Option.{option_map_or}
use Rattle.aas_command.specs.declared.refusal.Absent.TheVariants as absent
use Rattle.aas_command.specs.declared.refusal.Refusal.{Refusal}
use Rattle.aas_command.specs.declared.refusal.Refusal.TheVariants.{Conflict, NoMemory, NotAContainer}
use Rattle.aas_command.specs.declared.refusal.Refusal.TheVariants.{NotFound, StorageFault}
use Rattle.aas_model.specs.declared.documents.Submodel.{Submodel}
use Rattle.aas_model.specs.declared.element.Element.{Element}
use Rattle.aas_model.specs.declared.path.Missing.{Missing}
use Rattle.aas_model.specs.declared.path.PathStep.{PathStep}
use Rattle.aas_path.specs.Refusals.{IsMissing, IsNoContainer, IsUnfit}
use Rattle.aas_path_trees.specs.Children.{id_short_of, role_of}
use Rattle.aas_path_trees.specs.Edits.{fits_role, role_at, role_under, role_under_found}
use Rattle.aas_path_trees.specs.ElementAt.{depth_found, element_at, children_at}
use Rattle.aas_path_trees.specs.PathRule.{KeepsRule}
use Rattle.aas_model.specs.declared.element.Role.{Role}
use Rattle.aas_step.specs.Causes.{Cause, first_of, insert_causes, is_container, is_lost, is_named_among, replace_causes}
use Rattle.aas_step.specs.Causes.{unless, when}

pub some_steps : (p : List PathStep) → KeepsRule p → 0 < length p
some_steps [] h = absurd h
some_steps (s ∷ p) h = omega arith

pub has_steps : (p : List PathStep) → KeepsRule p → p ≢ []
has_steps [] h none = h
has_steps (s ∷ p) h none = absurd (cc)

-- ---- a path that leads nowhere

lost_as : Submodel → List PathStep → Refusal
lost_as s p = NotFound (absent.Element (record { steps = take (depth_found s p) p }))

lost_there : (s : Submodel) (p : List PathStep)
    → 0 < length p → element_at s p ≡ None → is_lost s p ≡ Some (lost_as s p)
unfolding lost_as
lost_there s [] some none = absurd (omega (arith, some))
lost_there s (t ∷ p) some none =
    ap (λ (o : Option Element).
    unless (is_some o) (NotFound (absent.Element (record { steps = take (depth_found s (t ∷ p)) (t ∷ p) }))))
    none

pub found_there : (s : Submodel) (t : PathStep) (p : List PathStep) (o : Element)
    → element_at s (t ∷ p) ≡ Some o → is_lost s (t ∷ p) ≡ None
found_there s t p o is =
    ap (λ (o : Option Element).
    unless (is_some o) (NotFound (absent.Element (record { steps = take (depth_found s (t ∷ p)) (t ∷ p) }))))
    is

pub is_missing_at : (s : Submodel) (p : List PathStep) (m : ℕ) (r : Refusal) (rest : List Cause)
    → 0 < length p → element_at s p ≡ None → m ≡ depth_found s p
    → (r ≡ NoMemory) ⊎ (r ≡ NotFound (absent.Element (record { steps = take m p }))) → r ≢ NoMemory
    → (r ≢ StorageFault) × (first_of (is_lost s p ∷ rest) ≡ Some r)
unfolding lost_as
is_missing_at s p m r rest some none depth made other = ⊎_elim
    (λ memory. absurd (other memory))
    (λ is.
    let why : r ≡ lost_as s p = is ∙ ap (λ (n : ℕ). NotFound (absent.Element (record { steps = take n p }))) depth in (
      λ fault. let e : lost_as s p ≡ StorageFault = sym why ∙ fault in absurd (cc),
      ap (λ (o : Cause). first_of (o ∷ rest)) (lost_there s p some none ∙ ap Some (sym why)),
    ))
    made

-- ---- an edit that is made

missing_at : (s : Submodel) (t : PathStep) (p : List PathStep)
    → element_at s (t ∷ p) ≡ None → IsMissing s (t ∷ p) (record { steps = depth_found s (t ∷ p) })
missing_at s t p none = (omega arith, none, refl)

abbrev Second : Bool → List Cause → Cause
Second b rest = first_of (when b Conflict ∷ rest)

pub inserts : (s : Submodel) (p : List PathStep) (e : Element) (b : Bool)
    → ((m : Missing) → ¬ (IsMissing s p m)) → ¬ (IsNoContainer s p e)
    → b ≡ (is_container s p && is_named_among (id_short_of e) (children_at s p)) → b ≡ false
    → first_of (insert_causes p e s) ≡ None
inserts s [] e b found takes is clear = ap (λ (c : Bool). Second c (None ∷ [])) (sym is ∙ clear)
inserts s (t ∷ p) e b found takes is clear = by_element (element_at s (t ∷ p)) refl
  where
    by_role : (o : Element) (r : Option Role)
        → element_at s (t ∷ p) ≡ Some o → role_under o e ≡ r → first_of (insert_causes (t ∷ p) e s) ≡ None
    by_role o None at none = absurd (takes (o, at, none))
    by_role o (Some r) at some =
        ap (λ (c : Cause).
        first_of (c ∷ when (is_container s (t ∷ p) && is_named_among (id_short_of e) (children_at s (t ∷ p))) Conflict
        ∷ unless (is_some (role_at s (t ∷ p) e)) NotAContainer ∷ []))
        (found_there s t p o at)
        ∙ ap (λ (c : Bool). Second c (unless (is_some (role_at s (t ∷ p) e)) NotAContainer ∷ [])) (sym is ∙ clear)
        ∙ ap (λ (r : Option Role). first_of (unless (is_some r) NotAContainer ∷ []))
        (ap (λ (o : Option Element). role_under_found o e) at ∙ some)

    by_element : (o : Option Element) → element_at s (t ∷ p) ≡ o → first_of (insert_causes (t ∷ p) e s) ≡ None
    by_element None at = absurd (found _ (missing_at s t p at))
    by_element (Some o) at = by_role o (role_under o e) at refl

pub replaces : (s : Submodel) (p : List PathStep) (e : Element)
    → 0 < length p → ((m : Missing) → ¬ (IsMissing s p m)) → ¬ (IsUnfit s p e)
    → first_of (replace_causes p e s) ≡ None
replaces s [] e some found fits = absurd (omega (arith, some))
replaces s (t ∷ p) e some found fits = by_element (element_at s (t ∷ p)) refl
  where
    by_fit : (o : Element) (b : Bool)
        → element_at s (t ∷ p) ≡ Some o → fits_role e (role_of o) ≡ b → first_of (replace_causes (t ∷ p) e s) ≡ None
    by_fit o false at unfit = absurd (fits (o, at, unfit))
    by_fit o true at fit =
        ap (λ (c : Cause). first_of
        (c ∷ unless (option_map_or (λ o. fits_role e (role_of o)) (element_at s (t ∷ p)) false) NotAContainer ∷ []))
        (found_there s t p o at)
        ∙ ap (λ (b : Bool). first_of (unless b NotAContainer ∷ []))
        (ap (λ (f : Option Element). option_map_or (λ o. fits_role e (role_of o)) f false) at ∙ fit)

    by_element : (o : Option Element) → element_at s (t ∷ p) ≡ o → first_of (replace_causes (t ∷ p) e s) ≡ None
    by_element None at = absurd (found _ (missing_at s t p at))
    by_element (Some o) at = by_fit o (fits_role e (role_of o)) at refl
