-- Pairs of kept data before members.
use Rattle.std.proofs.Common.{◌≡◌, List, [], ◌∷◌, ◌++◌, map, refl, ap, ap₂, ◌∙◌, rules}
use Rattle.std.specs.Str.{encode_utf8_all}
use Rattle.serde_json.specs.Data.{Data, array, object, no_items, Members, no_members, member}
use Rattle.aas_model.specs.declared.plain.Plain.{Plain, Map, List as PlainList, the_lemmas}
use Rattle.aas_model.specs.declared.plain.PlainPair.{PlainPair, fold-PlainPair, fold-roll-PlainPair}
use Rattle.aas_json_table.specs.Spelled.{onto}
use Rattle.aas_json_spelling.specs.Kept.{Member, members_of, spell_plain, spell_plain_step, spell_pair_step}
use Rattle.aas_json_members.specs.Kept.{pairs_onto}

-- one pair more, at the end of the list
pub one_pair_more : (ps : List PlainPair) (p : PlainPair) (rest : Members) → pairs_onto (ps ++ p ∷ []) rest ≡ pairs_onto ps (member (encode_utf8_all p.name) (spell_plain p.value) rest)
one_pair_more [] p rest = refl
one_pair_more (q ∷ ps) p rest = ap (member (encode_utf8_all q.name) (spell_plain q.value)) (one_pair_more ps p rest)

same_members : (ps : List PlainPair) → members_of (map (fold-PlainPair Data Member spell_plain_step spell_pair_step) ps) ≡ pairs_onto ps no_members
same_members [] = refl
same_members (p ∷ ps) =
    ap₂ (λ (m : Member) rest. member m.0 m.1 rest) (fold-roll-PlainPair Data Member spell_plain_step spell_pair_step (record { name = p.name; value = p.value })) (same_members ps)

-- a list is spelled as the array of its items
pub spell_list : (ps : List Plain) → spell_plain (PlainList ps) ≡ array (onto (map spell_plain ps) no_items)
spell_list ps = search (rules, the_lemmas)

-- a map is spelled as the object of its pairs
pub spell_map : (ps : List PlainPair) → spell_plain (Map ps) ≡ object (pairs_onto ps no_members)
spell_map ps =
    let level : spell_plain (Map ps) ≡ object (members_of (map (fold-PlainPair Data Member spell_plain_step spell_pair_step) ps)) = search (rules, the_lemmas) in
    level ∙ ap object (same_members ps)
