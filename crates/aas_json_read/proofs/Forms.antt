-- A metadata form, from what was found among the members of an object.
use Rattle.std.proofs.Common.{◌≡◌, ℕ, List, [], ◌++◌, ◌&&◌, Bool, true, false, is_some, if◌then◌else◌, Option, Some, None, option_map, codes, refl, sym, ap, ◌∙◌, subst}
use Rattle.serde_json.specs.Data.{Data, string, object, Members}
use Rattle.aas_model_names.specs.KindNames.{name_of}
use Rattle.aas_model_names.specs.declared.kind.Kind.{Kind}
use Rattle.aas_model_names.specs.declared.kind.Kind.TheVariants as kind
use Rattle.aas_json_table.specs.Table.{element, element_metadata, MemberType, text, one, Row, referable, has_semantics, qualifiable, shown}
use Rattle.aas_json_table.specs.Rows.{sorted, rows_of}
use Rattle.aas_json_table.specs.Canonical.{are_there, canonical, canonical_member, canonical_object, members_by}
use Rattle.aas_json_table.specs.Spelled.{spelled}
use Rattle.aas_json_table.proofs.Counted.{of_elements}
use Rattle.aas_json_spelling.proofs.Rows.{rising}
use Rattle.aas_json_mapping.specs.Elements.{own_attributes, element_attributes, rows_for, spell_element}
use Rattle.aas_json_mapping.specs.Metadata.{without_values}
use Rattle.aas_json_mapping.proofs.Elements.{made, attributes_at}
use Rattle.aas_json_mapping.proofs.Metadata as form
use Rattle.aas_model.specs.Payload.{kind_of}
use Rattle.aas_model.specs.declared.common.Common.{Common}
use Rattle.aas_model.specs.declared.element.Role.TheVariants as role
use Rattle.aas_model.specs.declared.payload.Payload.{Payload}
use Rattle.aas_model.specs.declared.payload.Payload.TheVariants as p
use Rattle.aas_json_read.specs.Found.{FindsCommon}
use Rattle.aas_json_read.specs.Shown.{shown_rows, spell_shown, canonical_shown}
use Rattle.aas_json_read.proofs.Levels.{with_common}
use Rattle.aas_json_read.proofs.Rows.{Found, found_says, says_found, there_sorted}

-- all rows of the form of a kind
abbrev all_shown : Kind → List Row
all_shown k = referable ++ (has_semantics ++ (qualifiable ++ shown_rows k))

sorted_shown : (k : Kind) → sorted (all_shown k) ≡ shown (sorted (rows_for (name_of k)))
sorted_shown kind.Property = refl
sorted_shown k = refl

shown_rise : (k : Kind) → rising (sorted (shown_rows k)) ≡ true
shown_rise kind.Property = refl
shown_rise k = refl

found_own : (find : List ℕ → MemberType → Option Data) (c : Common) (x : Payload) → Found (shown_rows (kind_of x)) (own_attributes x []) find → Found (shown_rows (kind_of x)) (element_attributes c x []) find
found_own find e (p.Property t v i) own = record { agree = own.agree; there = own.there }
found_own find e x own = record { agree = own.agree; there = own.there }

-- What is found spells the form.
pub form_is : (find : List ℕ → MemberType → Option Data) (c : Common) (x : Payload) (k : Kind) → kind_of x ≡ k → without_values x ≡ x → FindsCommon find c
    → Some (string (name_of k)) ≡ find (codes "modelType") text → Some (spell_shown x) ≡ canonical_shown k find
    → Some (spell_element (made role.Member c x [])) ≡ canonical_object (Some (shown (sorted (rows_for (name_of k))))) find
form_is find c x k is bare f name own =
    let Says : Kind → Type 0 = λ j. Some (string (name_of j)) ≡ find (codes "modelType") text → Some (spell_shown x) ≡ canonical_shown j find
    → Some (spell_element (made role.Member c x [])) ≡ canonical_object (Some (shown (sorted (rows_for (name_of j))))) find in
    subst Says is (λ n o.
    ap (λ y. Some (spell_element (made role.Member c y []))) (sym bare)
    ∙ ap Some (form.spell_form role.Member c x)
    ∙ ap (λ y. Some (spelled (form.shown_rows y) (attributes_at c y []))) bare
    ∙ found_says (all_shown (kind_of x)) (element_attributes c x []) find
    (with_common find c x [] (shown_rows (kind_of x)) f n (found_own find c x (says_found (shown_rows (kind_of x)) (own_attributes x []) find (shown_rise (kind_of x)) o)))
    ∙ ap (λ rows. canonical_object (Some rows) find) (sorted_shown (kind_of x))) name own

-- The form that an object says, by the rows of an element.
pub says_form : (ms : Members) (rows : Option (List Row)) → rows ≡ rows_of element ms → canonical_object (option_map shown rows) (canonical_member ms) ≡ canonical (one element_metadata) (object ms)
says_form ms rows is = ap (λ r. canonical_object r (canonical_member ms)) (ap (option_map shown) is ∙ sym (of_elements ms))

-- What lacks an own attribute that is required says no form.
pub no_form : (find : List ℕ → MemberType → Option Data) (k : Kind) → Some (string (name_of k)) ≡ find (codes "modelType") text → None ≡ canonical_shown k find
    → None ≡ canonical_object (Some (shown (sorted (rows_for (name_of k))))) find
no_form find k name none =
    let lacks : are_there (shown_rows k) find ≡ false = sym (there_sorted (shown_rows k) find) ∙ not_there (are_there (sorted (shown_rows k)) find) (members_by (sorted (shown_rows k)) find) none in
    let all : are_there (all_shown k) find ≡ false = ap (λ o. is_some o && are_there (shown_rows k) find) (sym name) ∙ lacks in
    sym (ap (λ rows. canonical_object (Some rows) find) (sym (sorted_shown k))
    ∙ ap (λ b. if b then Some (object (members_by (sorted (all_shown k)) find)) else None) (there_sorted (all_shown k) find ∙ all))
  where
    not_there : (b : Bool) (ms : Members) → None ≡ (if b then Some (object ms) else None) → b ≡ false
    not_there true ms e = cc
    not_there false ms e = refl
