-- Canonical texts and the trees that they are read as.
use Rattle.std.proofs.Common.{◌≡◌, ◌≢◌, ◌≤◌, ◌⊎◌, ⊎_elim, ℕ, List, Result, Ok, Err, sym, ◌∙◌, ap, subst}
use Rattle.std.specs.Prelude.{⊤}
use Rattle.std.specs.Str.{IsUtf8}
use Rattle.std.proofs.lemmas.Option.{same_Some}
use Rattle.std.proofs.Math.Nat.{le_refl, sub-le-sub_left}
use Rattle.aas_model.specs.declared.read_fault.ReadFault.{ReadFault}
use Rattle.aas_model.specs.declared.read_fault.ReadFault.TheVariants.{NoMemory}
use Rattle.aas_json_table.specs.TooDeep.{Levels, limits}
use Rattle.aas_json_spelling.specs.Reading.{reading}
use Rattle.aas_json_spelling.specs.Mapped.{IsMapped}
use Rattle.aas_json_spelling.specs.Reads.{ReadsEachOfBytes}
use Rattle.aas_json_spelling.specs.Spells.{Trees, Spells, IsWithinLimits, canonical_text}
use Rattle.aas_json_spelling.proofs.Laws.{Laws, one_tree, reads_back}
use Rattle.aas_edit_laws.specs.Laws.{at_level}
use Rattle.aas_document_read.specs.Canonical.{IsCanonical}

pub at_limits : IsWithinLimits limits
at_limits = record { elements = le_refl _; references = le_refl _; kept = le_refl _ }

pub within_level : (n : ℕ) → 1 ≤ n → IsWithinLimits (at_level n)
within_level n from = record { elements = sub-le-sub_left from 31; references = le_refl _; kept = le_refl _ }

-- a fault of what was read
abbrev pub IsOfInput : ReadFault → Type 0
IsOfInput NoMemory = ⊥
IsOfInput fault = ⊤

-- what a reader answers that answers each tree that is spelled
module _ {A : Type 0} (trees : Trees A) (Shape : A → Type 0) (mapped : IsMapped trees Shape)
    (left : Levels) (within : IsWithinLimits left) (result : Result A ReadFault) (bytes : List ℕ)
    (each : ReadsEachOfBytes trees left result bytes) where
  -- the tree whose canonical text it is given
  answered : (type : IsCanonical trees left bytes) → (result ≡ Ok type.1.0) ⊎ (result ≡ Err NoMemory)
  answered (utf8, (t, whole, same)) =
      mapped.answered left t result within whole (subst IsUtf8 same utf8)
      (subst (ReadsEachOfBytes trees left result) same each)

  -- where it answers another tree, it was given none
  pub another_tree : (t : A) (text : List ℕ)
      → result ≡ Ok t → text ≡ canonical_text trees t → text ≢ bytes → ¬ (IsCanonical trees left bytes)
  another_tree t text read is differs type = ⊎_elim
      (λ e. let same : t ≡ type.1.0 = cc in differs (is ∙ ap (canonical_text trees) same ∙ sym type.1.2))
      (λ e. cc)
      (answered type)

  -- and so where it answers a fault of what was read
  pub a_fault : (fault : ReadFault) → result ≡ Err fault → IsOfInput fault → ¬ (IsCanonical trees left bytes)
  a_fault fault read of_input type =
      ⊎_elim (λ e. cc) (λ e. let same : fault ≡ NoMemory = cc in subst IsOfInput same of_input) (answered type)

module _ {A : Type 0} (trees : Trees A) (Shape : A → Type 0)
    (laws : Laws trees Shape) (left : Levels) (within : IsWithinLimits left) where
  -- whole trees of one canonical text are the same
  pub same_by_text : (s t : A) → trees.IsWhole left s → trees.IsWhole left t
      → IsUtf8 (canonical_text trees s) → canonical_text trees s ≡ canonical_text trees t → s ≡ t
  same_by_text s t whole_s whole_t utf8 same =
      let a = reads_back trees Shape laws left s within whole_s utf8 in
      let b = reads_back trees Shape laws left t within whole_t (subst IsUtf8 same utf8) in
      let values : b.0 ≡ a.0 = same_Some _ _ (sym b.1 ∙ ap reading (sym same) ∙ a.1) in
      one_tree trees Shape laws left a.0 s t a.2 (subst (λ j. Spells trees left j t) values b.2)
