-- The references of one thing, as the code goes through them.
use Rattle.std.proofs.Common.{◌≡◌, List, [], ◌++◌, flat_map, sym, ap, ◌∙◌, append_assoc}
use Rattle.std.proofs.lemmas.List.{append-nil}
use Rattle.aas_constraint_rules.specs.Sites.{Own}
use Rattle.aas_constraint_rules.specs.Texts.{as_list}
use Rattle.aas_model.specs.declared.common.Common.{Common}
use Rattle.aas_model.specs.declared.documents.Concept.{Concept}
use Rattle.aas_model.specs.declared.documents.Shell.{Shell}
use Rattle.aas_model.specs.declared.documents.Submodel.{Submodel}
use Rattle.aas_model.specs.declared.parts.Qualifier.{Qualifier}
use Rattle.aas_model.specs.declared.payload.Payload.{Payload}
use Rattle.aas_model.specs.declared.payload.Payload.TheVariants as p
use Rattle.aas_model.specs.declared.reference.Reference.{Reference}
use Rattle.aas_model.specs.declared.reference.Semantics.{Semantics}
use Rattle.aas_resolve.specs.Held.{common_members, held_by, held_by_administration, held_by_asset, held_by_asset_id}
use Rattle.aas_resolve.specs.Held.{held_by_concept, held_by_element, held_by_extension, held_by_qualifier}
use Rattle.aas_resolve.specs.Held.{held_by_shell, held_by_submodel, own_members, semantics_members}
use Rattle.aas_resolve.specs.OwnMembers.{before_qualifiers, before_semantic_id, behind_all, behind_semantic_id}

three : {X : Type 0} (a b c : List X) → a ++ (b ++ (c ++ [])) ≡ (a ++ b) ++ c
three a b c = simp (append_assoc, append-nil)

pub semantics_in_turn : (s : Semantics)
    → held_by (semantics_members s) ≡ as_list s.semantic_id ++ s.supplemental_semantic_ids
semantics_in_turn s = ap (λ l. as_list s.semantic_id ++ l) (append-nil s.supplemental_semantic_ids)

pub qualifier_in_turn : (q : Qualifier)
    → held_by_qualifier q ≡ held_by (semantics_members q.semantics) ++ as_list q.value_id
qualifier_in_turn q = three (as_list q.semantics.semantic_id) q.semantics.supplemental_semantic_ids (as_list q.value_id)
    ∙ ap (λ l. l ++ as_list q.value_id) (sym (semantics_in_turn q.semantics))

five : {X : Type 0} (a b c d e : List X) → a ++ (b ++ (c ++ (d ++ (e ++ [])))) ≡ (((a ++ b) ++ c) ++ d) ++ e
five a b c d e = simp (append_assoc, append-nil)

four : {X : Type 0} (a b c d : List X) → a ++ (b ++ (c ++ d)) ≡ ((a ++ b) ++ c) ++ d
four a b c d = simp append_assoc

pub shell_in_turn : (s : Shell) → held_by_shell s
    ≡ (((flat_map held_by_administration (as_list s.head.administration) ++ held_by_asset s.asset)
    ++ as_list s.derived_from)
    ++ flat_map held_by_extension s.head.extensions)
    ++ s.submodels
shell_in_turn s =
    five (flat_map held_by_administration (as_list s.head.administration)) (held_by_asset s.asset)
    (as_list s.derived_from) (flat_map held_by_extension s.head.extensions) s.submodels

pub submodel_in_turn : (d : Submodel) → held_by_submodel d
    ≡ ((flat_map held_by_administration (as_list d.head.administration) ++ flat_map held_by_extension d.head.extensions)
    ++ flat_map held_by_qualifier d.qualifiers)
    ++ held_by (semantics_members d.semantics)
submodel_in_turn d =
    four (flat_map held_by_administration (as_list d.head.administration))
    (flat_map held_by_extension d.head.extensions)
    (flat_map held_by_qualifier d.qualifiers) (held_by (semantics_members d.semantics))

pub concept_in_turn : (c : Concept) → held_by_concept c
    ≡ (flat_map held_by_administration (as_list c.head.administration) ++ flat_map held_by_extension c.head.extensions)
    ++ c.is_case_of
concept_in_turn c =
    three (flat_map held_by_administration (as_list c.head.administration))
    (flat_map held_by_extension c.head.extensions) c.is_case_of

-- ---- elements: extensions, qualifiers, semanticId and supplementalSemanticIds,
-- and what a kind has between and behind them

In : {X : Type 0} (e before q between s behind t last : List X) → List X
In e before q between s behind t last = ((((((e ++ before) ++ q) ++ between) ++ s) ++ behind) ++ t) ++ last

with_none : {X : Type 0} (e q s t : List X) → e ++ (q ++ (s ++ (t ++ []))) ≡ In e [] q [] s [] t []
unfolding In
with_none e q s t = simp (append_assoc, append-nil)

with_last : {X : Type 0} (e q s t last : List X) → e ++ (q ++ (s ++ (t ++ (last ++ [])))) ≡ In e [] q [] s [] t last
unfolding In
with_last e q s t last = simp (append_assoc, append-nil)

with_middle : {X : Type 0} (e q s middle t : List X)
    → e ++ (q ++ (s ++ (middle ++ (t ++ [])))) ≡ In e [] q [] s middle t []
unfolding In
with_middle e q s middle t = simp (append_assoc, append-nil)

with_two : {X : Type 0} (e first q second s t : List X)
    → e ++ (first ++ (q ++ (second ++ (s ++ (t ++ []))))) ≡ In e first q second s [] t []
unfolding In
with_two e first q second s t = simp (append_assoc, append-nil)

with_both : {X : Type 0} (e one other q s t : List X)
    → e ++ (one ++ (other ++ (q ++ (s ++ (t ++ []))))) ≡ In e (one ++ other) q [] s [] t []
unfolding In
with_both e one other q s t = simp (append_assoc, append-nil)

module _ (c : Common) where
  e : List Reference
  e = flat_map held_by_extension c.extensions

  q : List Reference
  q = flat_map held_by_qualifier c.qualifiers

  s : List Reference
  s = as_list c.semantics.semantic_id

  t : List Reference
  t = c.semantics.supplemental_semantic_ids

  in_turn : (own : Payload)
      → held_by (common_members c ++ own_members own)
      ≡ In e (before_qualifiers own) q (before_semantic_id own) s (behind_semantic_id own) t (behind_all own)
  unfolding e q s t
  in_turn (p.Property _ _ i) = with_last e q s t (as_list i)
  in_turn (p.MultiLanguageProperty _ i) = with_last e q s t (as_list i)
  in_turn (p.Range _ _ _) = with_none e q s t
  in_turn (p.File _ _) = with_none e q s t
  in_turn (p.Blob _ _) = with_none e q s t
  in_turn (p.ReferenceElement v) = with_last e q s t (as_list v)
  in_turn (p.RelationshipElement first second) = with_two e (as_list first) q (as_list second) s t
  in_turn (p.AnnotatedRelationshipElement first second) = with_two e (as_list first) q (as_list second) s t
  in_turn (p.Entity _ _ ids) = with_middle e q s (flat_map held_by_asset_id ids) t
  in_turn (p.BasicEventElement observed _ _ _ broker _ _ _) = with_both e (as_list broker) (as_list observed) q s t
  in_turn p.Capability = with_none e q s t
  in_turn p.Operation = with_none e q s t
  in_turn p.SubmodelElementCollection = with_none e q s t
  in_turn (p.SubmodelElementList _ l _ _) = with_middle e q s (as_list l) t

pub element_in_turn : (o : Own) → held_by_element o
    ≡ ((((((flat_map held_by_extension o.common.extensions ++ before_qualifiers o.payload)
    ++ flat_map held_by_qualifier o.common.qualifiers)
    ++ before_semantic_id o.payload)
    ++ as_list o.common.semantics.semantic_id) ++ behind_semantic_id o.payload)
    ++ o.common.semantics.supplemental_semantic_ids)
    ++ behind_all o.payload
unfolding In e q s t
element_in_turn o = in_turn o.common o.payload
