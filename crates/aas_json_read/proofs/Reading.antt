-- From what a value says to the whole tree that it spells.
use Rattle.std.proofs.Common.{◌≡◌, ℕ, List, Option, Some, None, Result, Ok, Err, refl}
use Rattle.std.specs.Prelude.{⊤}
use Rattle.serde_json.specs.Data.{Data}
use Rattle.aas_json_table.specs.TooDeep.{Levels}
use Rattle.aas_model.specs.declared.read_fault.ReadFault.{ReadFault}
use Rattle.aas_model.specs.declared.read_fault.ReadFault.TheVariants.{NotJson, NotMapping, TooDeep, NoMemory}
use Rattle.aas_json_spelling.specs.Values.{IsOrdered}
use Rattle.aas_json_spelling.specs.Spells.{Trees}
use Rattle.aas_json_spelling.specs.Reading.{reading}
use Rattle.aas_json_spelling.specs.Mapped.{AnyShape}
use Rattle.aas_json_spelling.specs.Reads.{Reads, ReadsIf, ReadsBytes, ReadsEachOfBytes}
use Rattle.aas_json_spelling.proofs.Laws.{Laws, spells_said, reads_each_of_bytes}
use Rattle.aas_json_spelling.proofs.Reading.{reading_ordered}
use Rattle.aas_json_read.specs.Shaped.{shaped}

module _ {A : Type 0} (trees : Trees A) (Shape : A → Type 0) (laws : Laws trees Shape) (Known : A → Type 0) (shape : (t : A) → Known t → Shape t) where
  read_whole : (l : Levels) (result : Result A ReadFault) (j : Data) → IsOrdered j → Reads (shaped trees.sort trees.spell Known) l result j → Reads trees l result j
  read_whole l (Ok t) j order r = spells_said trees Shape laws l j t order (shape t r.whole) r.fits r.shallow r.says
  read_whole l (Err NotJson) j order r = r
  read_whole l (Err (NotMapping p)) j order r = r
  read_whole l (Err (TooDeep p)) j order r = r
  read_whole l (Err NoMemory) j order r = r

  -- What is read of bytes, with the shape that is known of it, is whole.
  pub reads_whole : (l : Levels) (result : Result A ReadFault) (bytes : List ℕ) → ReadsBytes (shaped trees.sort trees.spell Known) l result bytes → ReadsBytes trees l result bytes
  reads_whole l result bytes r = by_reading (reading bytes) refl r
    where
      by_reading : (o : Option Data) → reading bytes ≡ o → ReadsIf (shaped trees.sort trees.spell Known) l result o → ReadsIf trees l result o
      by_reading None is r = r
      by_reading (Some j) is r = read_whole l result j (reading_ordered bytes j is) r

-- where the shape is all that is known
module _ {A : Type 0} (trees : Trees A) (Shape : A → Type 0) (laws : Laws trees Shape) where
  pub reads_shaped : (l : Levels) (result : Result A ReadFault) (bytes : List ℕ) → ReadsBytes (shaped trees.sort trees.spell Shape) l result bytes → ReadsBytes trees l result bytes
  reads_shaped l result bytes r = reads_whole trees Shape laws Shape (λ t s. s) l result bytes r

  pub reads_each_shaped : (l : Levels) (result : Result A ReadFault) (bytes : List ℕ) → ReadsBytes (shaped trees.sort trees.spell Shape) l result bytes → ReadsEachOfBytes trees l result bytes
  reads_each_shaped l result bytes r = reads_each_of_bytes trees Shape laws l result bytes (reads_shaped l result bytes r)

-- where the spelling shows all of a tree
module _ {A : Type 0} (trees : Trees A) (laws : Laws trees AnyShape) where
  pub reads_any : (l : Levels) (result : Result A ReadFault) (bytes : List ℕ) → ReadsBytes (shaped trees.sort trees.spell (λ t. ⊤)) l result bytes → ReadsBytes trees l result bytes
  reads_any l result bytes r = reads_whole trees AnyShape laws (λ t. ⊤) (λ t s. tt) l result bytes r

  pub reads_each_any : (l : Levels) (result : Result A ReadFault) (bytes : List ℕ) → ReadsBytes (shaped trees.sort trees.spell (λ t. ⊤)) l result bytes → ReadsEachOfBytes trees l result bytes
  reads_each_any l result bytes r = reads_each_of_bytes trees AnyShape laws l result bytes (reads_any l result bytes r)
