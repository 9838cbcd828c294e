use Rattle.std.proofs.Common.{◌≡◌, List, [], ◌++◌, Some, None, MatchOption, codes, refl, sym, subst, rules, IsTrue}
use Rattle.serde_json.specs.Data.{Data, string}
use Rattle.serde_json.specs.View.{members_view}
use Rattle.aas_json_table.specs.Canonical.{canonical_member, canonical_object}
use Rattle.aas_json_table.specs.Rows.{rows_of}
use Rattle.aas_model.specs.declared.element.Element.{Element}
use Rattle.aas_json_mapping.proofs.Documents.{spell_form}
use Rattle.aas_json_table.specs.Table.{submodel_metadata, required, text}
use Rattle.aas_json_read.specs.Found.{FindsHead}
use Rattle.aas_json_read.proofs.DocumentLevels.{document_is, document_lacks, no_document}
use Rattle.aas_json_read.proofs.documents.submodel_form_in.Goals as goal
use Rattle.aas_json_mapping.specs.Documents.{typed, head_attributes, spell_submodel, submodel_attributes}

pub returns-then-not-has_model_type-clause-says : goal.returns-then-not-has_model_type-clause-says
returns-then-not-has_model_type-clause-says c =
    no_document submodel_metadata (codes "Submodel") _ refl (members_view c.args.members.now.entries) (λ e. let is : IsTrue c.has_model_type.result = c.has_model_type.ensures.1 e in search rules)

pub returns-in_default-clause-says : goal.returns-in_default-clause-says
returns-in_default-clause-says c =
    let ms = members_view c.args.members.now.entries in
    document_lacks submodel_metadata (codes "Submodel") _ refl ms (c.has_model_type.ensures.0 (search rules)) (required (codes "id") text) refl refl
    (subst (λ o. MatchOption o (canonical_member ms (codes "id") text ≡ None) (FindsHead (canonical_member ms))) c.in_default.is c.in_ok-head.ensures)

pub returns-clause-says : goal.returns-clause-says
returns-clause-says c =
    let ms = members_view c.args.members.now.entries in
    let named : canonical_member ms (codes "modelType") text ≡ Some (string (codes "Submodel")) = c.has_model_type.ensures.0 (search rules) in
    let h = subst (λ o. MatchOption o (canonical_member ms (codes "id") text ≡ None) (FindsHead (canonical_member ms))) c.in-Some.is c.in_ok-head.ensures in
    subst (λ (ks : List Element). Some (spell_submodel (record { head = c.in-Some.head; kind = c.word_member.result; semantics = c.in_ok-semantics_in.field-0; qualifiers = c.in_ok-list_member.field-0; kids = ks })) ≡ canonical_object (rows_of submodel_metadata ms) (canonical_member ms)) (sym c.new.ensures)
    (subst (λ (d : Data). Some d ≡ canonical_object (rows_of submodel_metadata ms) (canonical_member ms)) (sym (spell_form (record { head = c.in-Some.head; kind = c.word_member.result; semantics = c.in_ok-semantics_in.field-0; qualifiers = c.in_ok-list_member.field-0; kids = [] })))
    (document_is submodel_metadata (codes "Submodel") _ refl ms named
    (typed (codes "Submodel") (head_attributes c.in-Some.head ++ submodel_attributes (record { head = c.in-Some.head; kind = c.word_member.result; semantics = c.in_ok-semantics_in.field-0; qualifiers = c.in_ok-list_member.field-0; kids = [] })))
    (record { agree = (h.category, (h.description, (h.display_name, (h.extensions, (h.id_short, (sym named, (h.specifications, (h.id, (h.administration, (c.word_member.ensures, (c.in_ok-semantics_in.ensures.semantic_id, (c.in_ok-semantics_in.ensures.supplemental, (c.in_ok-list_member.ensures, tt))))))))))))); there = refl })))
