-- What a value says as a key or as a reference is spelled by one.
use Rattle.std.proofs.Common.{ℕ, List, ◌&&◌, true, Option, option_map, is_some, codes, refl, sym, ap, ◌∙◌}
use Rattle.serde_json.specs.Data.{Data, object, Members}
use Rattle.aas_model_names.specs.KeyTypeNames as key_type
use Rattle.aas_model_names.specs.ReferenceTypeNames as reference_type
use Rattle.aas_json_table.specs.Names.{key_types, reference_types}
use Rattle.aas_json_table.specs.Table.{Sort, reference, key, MemberType, text, word, one, many, parts}
use Rattle.aas_json_table.specs.Rows.{sorted}
use Rattle.aas_json_table.specs.Canonical.{canonical, canonical_member}
use Rattle.aas_json_table.specs.Spelled.{attribute, text_of}
use Rattle.aas_model.specs.declared.reference.Key.{Key}
use Rattle.aas_model.specs.declared.reference.Reference.{Reference}
use Rattle.aas_json_spelling.specs.Values.{IsText, HasTexts}
use Rattle.aas_lemmas.proofs.Truth.{and_left, and_right}
use Rattle.aas_json_spelling.proofs.Objects.{same_members}
use Rattle.aas_json_spelling.proofs.Exists.{IsSpelled, IsListed, IsWord, Kinds, IsTree, Gives, Object, there, named_there, as_itself, part_tree, tree}
use Rattle.aas_reference.specs.Spelling.{key_attributes, spell_key, spell_reference}
use Rattle.aas_reference.proofs.Levels.{made, attributes_at, spell_at}

-- ---- objects, of which it is known by what their attributes are spelled

pub key_object : (g : List ℕ → MemberType → Option Data) → IsWord key_types (g (codes "type") (word key_types)) → IsSpelled text_of (g (codes "value") text) → Object spell_key (sorted (parts key)) g
key_object g type value all =
    let type_there = and_left (is_some (g (codes "type") (word key_types))) (is_some (g (codes "value") text) && true) all in
    let value_there = and_left (is_some (g (codes "value") text)) true (and_right (is_some (g (codes "type") (word key_types))) (is_some (g (codes "value") text) && true) all) in
    let t = named_there key_type.name_of key_type.all (g (codes "type") (word key_types)) type type_there in
    let v = there text_of (g (codes "value") text) value value_there in
    let k : Key = record { key_type = t.0; value = v.0 } in
    (k, ap object (same_members (sorted (parts key)) g (attribute (key_attributes k)) (t.1, (v.1, tt))))

pub reference_object : (g : List ℕ → MemberType → Option Data) → IsListed spell_key (g (codes "keys") (many key)) → IsSpelled spell_reference (g (codes "referredSemanticId") (one reference))
    → IsWord reference_types (g (codes "type") (word reference_types)) → Object spell_reference (sorted (parts reference)) g
reference_object g keys referred type all =
    let type_there = and_left (is_some (g (codes "type") (word reference_types))) true (and_right (is_some (g (codes "keys") (many key))) (is_some (g (codes "type") (word reference_types)) && true) all) in
    let t = named_there reference_type.name_of reference_type.all (g (codes "type") (word reference_types)) type type_there in (
      made t.0 keys.0 referred.0,
      ap object (same_members (sorted (parts reference)) g (attribute (attributes_at t.0 keys.0 (option_map spell_reference referred.0))) (keys.1, (referred.1, (t.1, tt))))
          ∙ sym (spell_at t.0 keys.0 referred.0),
    )

-- ---- values

-- the trees of keys and references; those of other sorts don't matter here
abbrev Tree : Sort → Type 0
Tree reference = Reference
Tree key = Key
Tree s = Data

abbrev spell : (s : Sort) → Tree s → Data
spell reference t = spell_reference t
spell key t = spell_key t
spell s t = t

abbrev kinds : Kinds
kinds = record { Tree = Tree; spell = spell }

builds : (s : Sort) (ms : Members) → HasTexts ms → Gives kinds (canonical_member ms) → IsTree kinds (one s) (canonical (one s) (object ms))
builds reference ms u g = part_tree spell_reference reference ms refl
    (reference_object (canonical_member ms) (g (codes "keys") (many key)) (g (codes "referredSemanticId") (one reference)) (g (codes "type") (word reference_types)))
builds key ms u g = part_tree spell_key key ms refl (key_object (canonical_member ms) (g (codes "type") (word key_types)) (g (codes "value") text))
builds s ms u g = as_itself (canonical (one s) (object ms))

-- What a value of UTF-8 says is spelled by a reference.
pub some_reference : (j : Data) → IsText j → IsSpelled spell_reference (canonical (one reference) j)
some_reference j u = tree kinds builds j (one reference) u
