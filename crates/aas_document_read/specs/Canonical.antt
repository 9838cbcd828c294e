-- The canonical text of a tree, as bytes. This profile's own rule.
use Rattle.std.specs.Prelude.{◌≡◌, ℕ, List}
use Rattle.std.specs.Str.{IsUtf8}
use Rattle.aas_json_table.specs.TooDeep.{Levels}
use Rattle.aas_json_spelling.specs.Spells.{Trees, canonical_text}

-- the canonical text of a whole tree, in UTF-8
abbrev pub IsCanonical : {A : Type 0} → Trees A → Levels → List ℕ → Type 0
IsCanonical {A = A} trees levels content =
    IsUtf8 content × ((t : A) × trees.IsWhole levels t × (content ≡ canonical_text trees t))
