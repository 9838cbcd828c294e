-- That a JSON value spells a tree (the JSON mapping of IDTA-01001-3-0, by the attribute table): it conforms to the table (`Conforms`), and says what spells the tree.
use Rattle.std.specs.Prelude.{◌≡◌, ◌⊎◌, ◌≤◌, ℕ, List, Some, None, IsSome}
use Rattle.std.specs.Str.{IsUtf8}
use Rattle.serde_json.specs.Data.{Data}
use Rattle.serde_json.specs.Written.{compact_text}
use Rattle.aas_json_table.specs.Table.{Sort, one}
use Rattle.aas_json_table.specs.Misfit.{misfit}
use Rattle.aas_json_table.specs.TooDeep.{Levels, limits, too_deep}
use Rattle.aas_json_table.specs.Canonical.{canonical}
use Rattle.aas_json_spelling.specs.Reading.{reading}
use Rattle.aas_json_spelling.specs.Values.{IsValue}

-- The trees of a sort: how they are spelled, and which are whole where so many levels are left.
pub record Trees (A : Type 0) : Type 1 where
  pub sort : Sort
  pub spell : A → Data
  pub IsWhole : Levels → A → Type 0

-- j spells the whole tree t, where so many levels are left. The first two fields say that j conforms; the walks that they speak of decide it, and name a place where it doesn't.
pub record Spells {A : Type 0} (trees : Trees A) (levels : Levels) (j : Data) (t : A) : Type 0 where
  pub fits : misfit (one trees.sort) j ≡ None
  pub shallow : too_deep (one trees.sort) j levels ≡ None
  pub says : canonical (one trees.sort) j ≡ Some (trees.spell t)
  pub whole : trees.IsWhole levels t

-- j spells a tree, and no other
pub record SpellsOne {A : Type 0} (trees : Trees A) (levels : Levels) (j : Data) : Type 0 where
  pub tree : A
  pub spelled : Spells trees levels j tree
  pub only : (t : A) → Spells trees levels j t → t ≡ tree

-- Of each JSON value exactly one holds: it spells one tree; it has a mapping fault; it has none, and lies too deep. No two go together, since what is spelled fits and is not too deep.
abbrev pub ExactlyOne : {A : Type 0} → Trees A → Type 0
ExactlyOne trees = (levels : Levels) (j : Data) → IsValue j
    → SpellsOne trees levels j ⊎ IsSome (misfit (one trees.sort) j) ⊎ ((misfit (one trees.sort) j ≡ None) × IsSome (too_deep (one trees.sort) j levels))

-- ---- the canonical text

-- the compact text of what spells a tree
abbrev pub canonical_text : {A : Type 0} → Trees A → A → List ℕ
canonical_text trees t = compact_text (trees.spell t)

-- no more levels are left than at the outside of a document
pub record IsWithinLimits (levels : Levels) : Type 0 where
  pub elements : levels.elements ≤ limits.elements
  pub references : levels.references ≤ limits.references
  pub kept : levels.kept ≤ limits.kept

-- The canonical text of a whole tree, where it is UTF-8, is read as a value that spells the tree. It is UTF-8 where the strings and
-- names of its spelling are (`compact_text_is_utf8`).
abbrev pub ReadsBack : {A : Type 0} → Trees A → Type 0
ReadsBack {A = A} trees = (levels : Levels) (t : A) → IsWithinLimits levels → trees.IsWhole levels t → IsUtf8 (canonical_text trees t)
    → (j : Data) × (reading (canonical_text trees t) ≡ Some j) × Spells trees levels j t
