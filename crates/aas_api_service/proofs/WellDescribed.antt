-- The command by which metadata is put: it is made of what a store has, and is well formed.
use Rattle.std.proofs.Common.{◌≡◌, ◌⊎◌, inl, inr, ◌&&◌, Bool, true, List, ℕ, take, Option, Some, None, MatchOption, Ok}
use Rattle.std.proofs.Common.{Err, IfOk, refl, sym, ap, ◌∙◌, subst}
use Rattle.std.specs.FinMap as map
use Rattle.std.specs.List.{list_all}
use Rattle.std.specs.Str.{encode_utf8_all}
use Rattle.std.proofs.lemmas.Bool.{and_from}
use Rattle.aas_lemmas.proofs.Truth.{and_left, and_right}
use Rattle.aas_json_table.specs.TooDeep.{limits}
use Rattle.aas_json_mapping.specs.Whole.{is_whole_element, is_whole_submodel, whole_head}
use Rattle.aas_json_mapping.specs.Whole.{whole_qualifier, whole_semantics}
use Rattle.aas_model.specs.declared.documents.Submodel.{Submodel}
use Rattle.aas_model.specs.declared.element.Element.{Element}
use Rattle.aas_model.specs.declared.element.Role.TheVariants.{Member}
use Rattle.aas_model.specs.declared.path.Missing.{Missing}
use Rattle.aas_model.specs.declared.path.Path.{Path}
use Rattle.aas_path_trees.specs.Children.{with_role}
use Rattle.aas_path_trees.specs.ElementAt.{element_at}
use Rattle.aas_command.specs.Commands.{IsWellFormed}
use Rattle.aas_command.specs.declared.command.Command.{Command}
use Rattle.aas_command.specs.declared.command.Command.TheVariants.{ReplaceElement, ReplaceSubmodel}
use Rattle.aas_command.specs.declared.refusal.Absent.TheVariants as absent
use Rattle.aas_command.specs.declared.refusal.Refusal.{Refusal}
use Rattle.aas_command.specs.declared.refusal.Refusal.TheVariants as refused
use Rattle.aas_command.specs.declared.refusal.Refusal.TheVariants.{NotFound}
use Rattle.aas_meta_update.specs.Laws.{PutStaysWhole}
use Rattle.aas_meta_update.specs.WithMetadata.{IsAlike, with_metadata, with_submodel_metadata}
use Rattle.aas_store.specs.Documents.{Documents}
use Rattle.aas_store.specs.Edited.{Holds, LeadsNowhere}
use Rattle.aas_store.specs.declared.lack.Lack.{Lack}
use Rattle.aas_store.specs.declared.lack.Lack.TheVariants as lacks
use Rattle.aas_step.specs.Lost.{IsRefusalOf}
use Rattle.aas_step.specs.Valid.{AreValid}
use Rattle.aas_api.specs.declared.ask.Metadata.{Metadata}
use Rattle.aas_api.specs.declared.ask.Metadata.TheVariants as metadata
use Rattle.aas_api_service.proofs.WellFormed.{takes_element}
use Rattle.aas_api_service.specs.Described.{ByFound, Described, IsDescribed, PutsElement, no_element}
use Rattle.aas_api_service.specs.Laws.{DescribedIsWellFormed}
use Rattle.aas_api_service.specs.WellFormed.{IsWellFormedMetadata}

-- ---- what there is, for which the command is

pub record PutsIn (d : Documents) (m : Submodel) (c : Command) : Type 0 where
  pub submodel : Submodel
  pub there : map.get d.submodels (encode_utf8_all m.head.id) ≡ Some submodel
  pub is : c ≡ ReplaceSubmodel (with_submodel_metadata submodel m)

pub record PutsAt (d : Documents) (id : List ℕ) (p : Path) (m : Element) (c : Command) : Type 0 where
  pub submodel : Submodel
  pub there : map.get d.submodels (encode_utf8_all id) ≡ Some submodel
  pub element : Element
  pub found : element_at submodel p.steps ≡ Some element
  pub alike : IsAlike element m
  pub is : c ≡ ReplaceElement id p (with_role (with_metadata element m) Member)

in_submodel : (d : Documents) (m : Submodel) (c : Command) (why : Refusal) (found : Option Submodel)
    → map.get d.submodels (encode_utf8_all m.head.id) ≡ found
    → ByFound found why (λ s command. command ≡ Ok (ReplaceSubmodel (with_submodel_metadata s m))) (Ok c) → PutsIn d m c
in_submodel d m c why None there by = absurd (cc)
in_submodel d m c why (Some s) there by = record { submodel = s; there = there; is = cc }

pub puts_in : (d : Documents) (m : Submodel) (c : Command) → IsDescribed d (metadata.Submodel m) (Ok c) → PutsIn d m c
puts_in d m c by = in_submodel d m c _ (map.get d.submodels (encode_utf8_all m.head.id)) refl by

at_element : (d : Documents) (id : List ℕ) (p : Path) (m : Element) (c : Command) (why : Refusal) (s : Submodel)
    → map.get d.submodels (encode_utf8_all id) ≡ Some s
    → (found : Option Element)
    → element_at s p.steps ≡ found → ByFound found why (PutsElement id p m) (Ok c) → PutsAt d id p m c
at_element d id p m c why s there None found by = absurd (cc)
at_element d id p m c why s there (Some e) found (inl (alike, is)) = record {
  submodel = s;
  there = there;
  element = e;
  found = found;
  alike = alike;
  is = cc;
}
at_element d id p m c why s there (Some e) found (inr (differs, is)) = absurd (cc)

at_submodel : (d : Documents) (id : List ℕ) (p : Path) (m : Element) (c : Command)
    (why : Refusal) (lost : Submodel → Refusal) (found : Option Submodel)
    → map.get d.submodels (encode_utf8_all id) ≡ found
    → ByFound found why (λ s. ByFound (element_at s p.steps) (lost s) (PutsElement id p m)) (Ok c) → PutsAt d id p m c
at_submodel d id p m c why lost None there by = absurd (cc)
at_submodel d id p m c why lost (Some s) there by =
    at_element d id p m c (lost s) s there (element_at s p.steps) refl by

pub puts_at : (d : Documents) (id : List ℕ) (p : Path) (m : Element) (c : Command)
    → IsDescribed d (metadata.Element id p m) (Ok c) → PutsAt d id p m c
puts_at d id p m c by = at_submodel d id p m c _ _ (map.get d.submodels (encode_utf8_all id)) refl by

-- ---- it is well formed

takes_submodel : (d : Submodel) → is_whole_submodel limits d ≡ true → IsWellFormed (ReplaceSubmodel d)
unfolding IsWellFormed
takes_submodel d whole = whole

-- the form's own attributes and the old elements are whole
put_whole : (s m : Submodel) → is_whole_submodel limits s ≡ true → is_whole_submodel limits m ≡ true
    → is_whole_submodel limits (with_submodel_metadata s m) ≡ true
put_whole s m old new =
    let own : Submodel → Bool = λ d.
    whole_head limits d.head && whole_semantics limits d.semantics && list_all (whole_qualifier limits) d.qualifiers in
    let elements : Submodel → Bool = λ d. list_all (is_whole_element limits) d.kids in
    and_from (own m) (elements s) (and_left (own m) (elements m) new) (and_right (own s) (elements s) old)

pub described_well : PutStaysWhole → DescribedIsWellFormed
described_well stays_whole d (metadata.Submodel m) c valid form by =
    let at = puts_in d m c by in
    let old = (valid.submodels (encode_utf8_all m.head.id) at.submodel at.there).valid.whole in
    subst IsWellFormed (sym at.is)
    (takes_submodel (with_submodel_metadata at.submodel m) (put_whole at.submodel m old form.whole))
described_well stays_whole d (metadata.Element id p m) c valid (rule, form) by =
    let at = puts_at d id p m c by in
    let old = (valid.submodels (encode_utf8_all id) at.submodel at.there).valid.whole in
    subst IsWellFormed (sym at.is)
    (takes_element id p (with_role (with_metadata at.element m) Member) rule
    (stays_whole at.submodel p.steps at.element m old at.found at.alike form))

-- ---- by what a store has

-- the command by which metadata is put, or want of memory
abbrev pub OrNoCommand : Documents → Metadata → Described → Type 0
OrNoCommand d m command = (command ≡ Err refused.NoMemory) ⊎ IsDescribed d m command

-- of what the submodel of an identifier has, by how its elements are described
module _ (d : Documents) (id : List ℕ) (p : Path) (m : Element) (command : Described) where
  abbrev InFound : Option Submodel → Type 0
  InFound there =
      ByFound there (NotFound absent.Submodel)
      (λ s. ByFound (element_at s p.steps) (no_element s p) (PutsElement id p m)) command

  -- where the path leads to an element
  pub described_found : (e : Element) (bytes : List ℕ)
      → bytes ≡ encode_utf8_all id → Holds d bytes (λ s. element_at s p.steps ≡ Some e) → PutsElement id p m e command
      → IsDescribed d (metadata.Element id p m) command
  described_found e bytes same found puts =
      in_there (map.get d.submodels (encode_utf8_all id))
      (subst (λ (b : List ℕ). Holds d b (λ s. element_at s p.steps ≡ Some e)) same found)
    where
      in_there : (there : Option Submodel) → MatchOption there ⊥ (λ s. element_at s p.steps ≡ Some e) → InFound there
      in_there None found = absurd found
      in_there (Some s) found =
          subst (λ (o : Option Element). ByFound o (no_element s p) (PutsElement id p m) command) (sym found) puts

  nowhere : (missing : Missing) → Holds d (encode_utf8_all id) (λ s. LeadsNowhere s p.steps missing)
      → command ≡ Err (NotFound (absent.Element (record { steps = take missing.steps p.steps })))
      → IsDescribed d (metadata.Element id p m) command
  nowhere missing leads is = in_there (map.get d.submodels (encode_utf8_all id)) leads
    where
      in_there : (there : Option Submodel) → MatchOption there ⊥ (λ s. LeadsNowhere s p.steps missing) → InFound there
      in_there None leads = absurd leads
      in_there (Some s) leads =
          subst (λ (o : Option Element). ByFound o (no_element s p) (PutsElement id p m) command) (sym leads.0)
          (is ∙ ap (λ n. Err (NotFound (absent.Element (record { steps = take n p.steps })))) leads.1)

-- where the store lacks the submodel or the element
pub described_lost : (d : Documents) (id : List ℕ) (p : Path)
    (m : Element) (lack : Lack) (why : Refusal) (bytes : List ℕ)
    → bytes ≡ encode_utf8_all id
    → (lack ≡ lacks.NoSubmodel → map.get d.submodels bytes ≡ None)
    → ((missing : Missing) → lack ≡ lacks.NoElement missing → Holds d bytes (λ s. LeadsNowhere s p.steps missing))
    → (why ≡ refused.NoMemory) ⊎ IsRefusalOf p.steps lack why → OrNoCommand d (metadata.Element id p m) (Err why)
described_lost d id p m lack why bytes same submodel_lost element_lost (inl none) =
    inl (ap (λ (r : Refusal). Err r) none)
described_lost d id p m lacks.NoSubmodel why bytes same submodel_lost element_lost (inr is) =
    let gone : map.get d.submodels (encode_utf8_all id) ≡ None =
    ap (map.get d.submodels) (sym same) ∙ submodel_lost refl in
    inr (subst (λ (o : Option Submodel). InFound d id p m (Err why) o) (sym gone) (ap (λ (r : Refusal). Err r) is))
described_lost d id p m (lacks.NoElement missing) why bytes same submodel_lost element_lost (inr is) =
    let leads =
    subst (λ (b : List ℕ). Holds d b (λ s. LeadsNowhere s p.steps missing)) same (element_lost missing refl) in
    inr (nowhere d id p m (Err why) missing leads (ap (λ (r : Refusal). Err r) is))
described_lost d id p m lacks.NoMemory why bytes same submodel_lost element_lost (inr is) =
    inl (ap (λ (r : Refusal). Err r) is)

-- what is answered is well formed, where it is a command
pub if_described : DescribedIsWellFormed → (d : Documents) (m : Metadata) (command : Described)
    → AreValid d → IsWellFormedMetadata m → OrNoCommand d m command
    → IfOk command IsWellFormed
if_described law d m (Err why) valid form by = tt
if_described law d m (Ok c) valid form (inl none) = absurd (cc)
if_described law d m (Ok c) valid form (inr by) = law d m c valid form by
