-- The laws of a mapping: how the trees of a sort and JSON values go together.
use Rattle.std.specs.Prelude.{◌≡◌, ◌⊎◌, Some, None, Result, Ok, Err, ⊤}
use Rattle.std.specs.Str.{IsUtf8}
use Rattle.serde_json.specs.Data.{Data}
use Rattle.aas_json_table.specs.Table.{one}
use Rattle.aas_json_table.specs.TooDeep.{Levels, too_deep}
use Rattle.aas_json_table.specs.Canonical.{canonical}
use Rattle.aas_model.specs.declared.read_fault.ReadFault.{ReadFault}
use Rattle.aas_model.specs.declared.read_fault.ReadFault.TheVariants.{NoMemory}
use Rattle.aas_json_spelling.specs.Reads.{ReadsEachOfBytes}
use Rattle.aas_json_spelling.specs.Spells.{Trees, Spells, ExactlyOne, IsWithinLimits, ReadsBack, canonical_text}
use Rattle.aas_json_spelling.specs.Values.{IsOrdered}

-- of trees whose spelling shows all of them
abbrev pub AnyShape : {A : Type 0} → A → Type 0
AnyShape t = ⊤

-- What holds of the trees of a sort. The shape of a tree is what its spelling doesn't show.
pub record IsMapped {A : Type 0} (trees : Trees A) (Shape : A → Type 0) : Type 0 where
  -- The spelling of a whole tree spells it.
  pub spells_itself : (levels : Levels) (t : A) → trees.IsWhole levels t → Spells trees levels (trees.spell t) t
  -- So does the value that its canonical text is read as.
  pub reads_back : ReadsBack trees
  -- What a writer wrote, its reader reads: given the canonical text of a whole tree, a reader that answers each tree that is spelled answers this one, unless memory was refused.
  pub answered : (levels : Levels) (t : A) (result : Result A ReadFault) → IsWithinLimits levels → trees.IsWhole levels t → IsUtf8 (canonical_text trees t)
      → ReadsEachOfBytes trees levels result (canonical_text trees t) → (result ≡ Ok t) ⊎ (result ≡ Err NoMemory)
  -- Trees that have their shape, and are spelled the same, are the same.
  pub said_once : (t u : A) → Shape t → Shape u → trees.spell t ≡ trees.spell u → t ≡ u
  -- A tree that has its shape, and that a value says, is whole, where nothing in the value lies too deep.
  pub said_whole : (levels : Levels) (j : Data) (t : A) → IsOrdered j → Shape t → too_deep (one trees.sort) j levels ≡ None → canonical (one trees.sort) j ≡ Some (trees.spell t)
      → trees.IsWhole levels t
  -- Each value spells one tree, or has a mapping fault, or has none and lies too deep.
  pub exactly_one : ExactlyOne trees
