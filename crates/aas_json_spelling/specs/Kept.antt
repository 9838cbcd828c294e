-- Kept data, the contents of data specifications (IDTA-01001-3-0, class HasDataSpecification), of which nothing is read: how it is spelled, and when it is whole. This profile's own rules.
use Rattle.std.specs.Prelude.{◌≡◌, ◌≤◌, ℕ, suc, ◌&&◌, List, [], ◌∷◌, Bool, true, map, Option}
use Rattle.std.specs.Ordering.{nat_cmp, is_lt}
use Rattle.std.specs.Cmp.Lexicographic.{slice_cmp}
use Rattle.std.specs.Str.{encode_utf8_all}
use Rattle.serde_json.specs.Data.{Data, null, boolean, array, object, no_items, Members, no_members, member}
use Rattle.aas_json_table.specs.TooDeep.{Levels}
use Rattle.aas_json_table.specs.Spelled.{list_of, onto, text_of}
pub use Rattle.aas_json_spelling.specs.Lists.{each_true, most}
use Rattle.aas_model.specs.declared.plain.Plain.{Plain, fold-Plain}
use Rattle.aas_model.specs.declared.plain.Plain.TheOpen.{Plain-F, PlainPair-F}

-- ---- how it is spelled: as it is

abbrev pub Member : Type 0
Member = List ℕ × Data

abbrev pub members_of : List Member → Members
members_of [] = no_members
members_of (m ∷ ms) = member m.0 m.1 (members_of ms)

abbrev pub spell_plain_step : Plain-F Data Member → Data
spell_plain_step Plain-F.Null = null
spell_plain_step (Plain-F.Bool b) = boolean b
spell_plain_step (Plain-F.Str s) = text_of s
spell_plain_step (Plain-F.List ds) = array (onto ds no_items)
spell_plain_step (Plain-F.Map ms) = object (members_of ms)

abbrev pub spell_pair_step : PlainPair-F Data Member → Member
spell_pair_step p = (encode_utf8_all p.name, p.value)

abbrev pub spell_plain : Plain → Data
spell_plain = fold-Plain Data Member spell_plain_step spell_pair_step

-- a list of kept data
abbrev pub spell_kept : List Plain → Option Data
spell_kept = list_of spell_plain

-- ---- when it is whole

-- how deep it is: each value counts, a text too
abbrev pub plain_depth_step : Plain-F ℕ ℕ → ℕ
plain_depth_step (Plain-F.List ns) = suc (most ns)
plain_depth_step (Plain-F.Map ns) = suc (most ns)
plain_depth_step p = 1

abbrev pub plain_depth : Plain → ℕ
plain_depth = fold-Plain ℕ ℕ plain_depth_step (λ p. p.value)

-- with the list itself, which counts too; the empty list is as if absent
abbrev pub kept_depth : List Plain → ℕ
kept_depth [] = 0
kept_depth (p ∷ ps) = suc (most (map plain_depth (p ∷ ps)))

abbrev pub is_below : List ℕ → List (List ℕ) → Bool
is_below n [] = true
is_below n (m ∷ ms) = is_lt (slice_cmp nat_cmp n m) && is_below n ms

-- each name is below all the later ones
abbrev pub are_rising : List (List ℕ) → Bool
are_rising [] = true
are_rising (n ∷ ns) = is_below n ns && are_rising ns

-- a name, and whether what it names is in order
abbrev pub Named : Type 0
Named = List ℕ × Bool

abbrev pub is_ordered_step : Plain-F Bool Named → Bool
is_ordered_step (Plain-F.List bs) = each_true bs
is_ordered_step (Plain-F.Map ms) = are_rising (map (λ m. m.0) ms) && each_true (map (λ m. m.1) ms)
is_ordered_step p = true

-- the names of each map are distinct and rise in byte order
abbrev pub is_ordered : Plain → Bool
is_ordered = fold-Plain Bool Named is_ordered_step (λ p. (encode_utf8_all p.name, p.value))

pub record IsWholeKept (levels : Levels) (ps : List Plain) : Type 0 where
  pub order : each_true (map is_ordered ps) ≡ true
  pub low : kept_depth ps ≤ levels.kept
