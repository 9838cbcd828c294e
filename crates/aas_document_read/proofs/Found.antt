-- A tree whose canonical text the bytes are is what they are read as.
use Rattle.std.proofs.Common.{◌≡◌, ℕ, List, Option, Some, Ok, sym, ap, ◌∙◌, subst}
use Rattle.std.specs.Prelude.{IfSome}
use Rattle.std.specs.Str.{IsUtf8}
use Rattle.aas_json_table.specs.TooDeep.{Levels}
use Rattle.aas_json_spelling.specs.Mapped.{IsMapped}
use Rattle.aas_json_spelling.specs.Reading.{reading}
use Rattle.aas_json_spelling.specs.Reads.{ReadsBytes, ReadsIf}
use Rattle.aas_json_spelling.specs.Spells.{IsWithinLimits, Trees, canonical_text}
use Rattle.aas_document_read.specs.Canonical.{IsCanonical}

-- the bytes are the canonical text of a whole tree
abbrev IsText : {A : Type 0} → Trees A → Levels → List ℕ → A → Type 0
IsText trees left bytes tree =
    trees.IsWhole left tree × IsCanonical trees left bytes × (bytes ≡ canonical_text trees tree)

pub reads : {A : Type 0} (trees : Trees A) (Shape : A → Type 0) → IsMapped trees Shape
    → (left : Levels) → IsWithinLimits left → (bytes : List ℕ) (found : Option A) (tree : A)
    → found ≡ Some tree → IfSome found (IsText trees left bytes) → ReadsBytes trees left (Ok tree) bytes
reads trees Shape mapped left within bytes found tree is has =
    let text : IsText trees left bytes tree = subst (λ o. IfSome o (IsText trees left bytes)) is has in
    let same = text.2 in
    let back = mapped.reads_back left tree within text.0 (subst IsUtf8 same text.1.0) in
    subst (ReadsIf trees left (Ok tree)) (sym (ap reading same ∙ back.1)) back.2
