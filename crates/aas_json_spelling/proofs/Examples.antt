-- Kept data worked out: [{"a":[null]}], and an object whose names don't rise.
use Rattle.std.proofs.Common.{◌≡◌, suc, [], ◌∷◌, false, Some, codes, max, ap, ◌∙◌}
use Rattle.serde_json.specs.Data.{null, array, object, no_items, item, no_members, member}
use Rattle.aas_model.specs.declared.plain.Plain.{Plain, roll-Plain}
use Rattle.aas_model.specs.declared.plain.Plain.TheOpen.{Plain-F}
use Rattle.aas_json_spelling.specs.Kept.{spell_kept, kept_depth, is_ordered}
use Rattle.aas_json_spelling.proofs.Kept.{spell_at, depth_at, ordered_at}

abbrev a_null : Plain
a_null = roll-Plain Plain-F.Null

abbrev a_list : Plain
a_list = roll-Plain (Plain-F.List (a_null ∷ []))

abbrev a_map : Plain
a_map = roll-Plain (Plain-F.Map (record { name = codes "a"; value = a_list } ∷ []))

spells : spell_kept (a_map ∷ []) ≡ Some (array (item (object (member (codes "a") (array (item null no_items)) no_members)) no_items))
unfolding lib.Utf8.encode
spells =
    ap (λ d. Some (array (item d no_items)))
    (spell_at (Plain-F.Map (record { name = codes "a"; value = a_list } ∷ []))
    ∙ ap (λ d. object (member (codes "a") d no_members)) (spell_at (Plain-F.List (a_null ∷ [])) ∙ ap (λ d. array (item d no_items)) (spell_at Plain-F.Null)))

-- the list, the map, the list in it and the null
is_four_deep : kept_depth (a_map ∷ []) ≡ 4
is_four_deep =
    ap (λ n. suc (max n 0))
    (depth_at (Plain-F.Map (record { name = codes "a"; value = a_list } ∷ []))
    ∙ ap (λ n. suc (max n 0)) (depth_at (Plain-F.List (a_null ∷ [])) ∙ ap (λ n. suc (max n 0)) (depth_at Plain-F.Null)))

not_rising : is_ordered (roll-Plain (Plain-F.Map (record { name = codes "b"; value = a_null } ∷ record { name = codes "a"; value = a_null } ∷ []))) ≡ false
unfolding lib.Utf8.encode
not_rising = ordered_at (Plain-F.Map (record { name = codes "b"; value = a_null } ∷ record { name = codes "a"; value = a_null } ∷ []))
