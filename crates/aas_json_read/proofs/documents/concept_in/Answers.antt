use Rattle.std.proofs.Common.{◌≡◌, ◌++◌, Some, None, MatchOption, codes, refl, sym, subst, rules, IsTrue}
use Rattle.serde_json.specs.Data.{string}
use Rattle.serde_json.specs.View.{members_view}
use Rattle.aas_json_table.specs.Canonical.{canonical_member}
use Rattle.aas_json_table.specs.Table.{concept, required, text}
use Rattle.aas_json_read.specs.Found.{FindsHead}
use Rattle.aas_json_read.proofs.DocumentLevels.{document_is, document_lacks, no_document}
use Rattle.aas_json_read.proofs.documents.concept_in.Goals as goal
use Rattle.aas_json_mapping.specs.Documents.{typed, head_attributes, concept_attributes}

pub returns-then-not-has_model_type : goal.returns-then-not-has_model_type
returns-then-not-has_model_type c =
    no_document concept (codes "ConceptDescription") _ refl (members_view c.args.members.now.entries) (λ e. let is : IsTrue c.has_model_type.result = c.has_model_type.ensures.1 e in search rules)

pub returns-in_default : goal.returns-in_default
returns-in_default c =
    let ms = members_view c.args.members.now.entries in
    document_lacks concept (codes "ConceptDescription") _ refl ms (c.has_model_type.ensures.0 (search rules)) (required (codes "id") text) refl refl
    (subst (λ o. MatchOption o (canonical_member ms (codes "id") text ≡ None) (FindsHead (canonical_member ms))) c.in_default.is c.in_ok-head.ensures)

pub returns : goal.returns
returns c =
    let ms = members_view c.args.members.now.entries in
    let named : canonical_member ms (codes "modelType") text ≡ Some (string (codes "ConceptDescription")) = c.has_model_type.ensures.0 (search rules) in
    let h = subst (λ o. MatchOption o (canonical_member ms (codes "id") text ≡ None) (FindsHead (canonical_member ms))) c.in-Some.is c.in_ok-head.ensures in
    document_is concept (codes "ConceptDescription") _ refl ms named
    (typed (codes "ConceptDescription") (head_attributes c.in-Some.head ++ concept_attributes (record { head = c.in-Some.head; is_case_of = c.in_ok-is_case_of.is_case_of })))
    (record { agree = (h.category, (h.description, (h.display_name, (h.extensions, (h.id_short, (sym named, (h.specifications, (h.id, (h.administration, (c.in_ok-is_case_of.ensures, tt)))))))))); there = refl })
