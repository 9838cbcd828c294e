-- The image of no payloads.
use Rattle.std.proofs.Common.{◌≡◌, ℕ, ◌≤◌, List, [], ◌∷◌, ◌++◌, Option, Some, None, inr, refl, sym, ◌∙◌, ap}
use Rattle.std.proofs.Common.{subst, arith}
use Rattle.std.specs.Prelude.{IfSome, Ok, codes}
use Rattle.std.proofs.lemmas.List.Elements.{All-nil}
use Rattle.aas_outside_disk.specs.Disk.{AddsNone, HoldsWhatIsRead, Meanwhile, Tears, Writes, written}
use Rattle.aas_outside_disk.specs.Files.{Files, file}
use Rattle.aas_outside_disk.specs.declared.part.Part.TheVariants.{Main}
use Rattle.aas_journal.specs.Bank.{IsBankImage, chosen}
use Rattle.aas_journal.specs.Causes.{AreEmpty}
use Rattle.aas_journal.specs.Image.{IsImage}
use Rattle.aas_journal.proofs.Disks.{known, told}
use Rattle.aas_journal.proofs.Images.{closed_image}

pub where_told : (seen : Option Files) (P : Files → Type 0)
    → ((files : Files) → seen ≡ Some files → P files) → IfSome seen P
where_told None P h = tt
where_told (Some files) P h = h files refl

abbrev initial : List ℕ
initial = codes "AASJ0002" ++ 0 ∷ []

initial_image : (image : Files) → image.main ≡ initial → image.selector ≡ [] → IsBankImage image []
initial_image image main selector =
    subst (λ (s : List ℕ). IsImage (file (chosen s) image) []) (sym selector)
    (closed_image (codes "AASJ0002") [] image.main 0 [] (inr refl) (All-nil (λ (p : List ℕ). _)) main (omega arith))

module _ (m0 m1 m2 : ℕ) (l0 l1 l2 : ℕ → Files → Type 0) (first : m0 ≤ m1)
    (none : Meanwhile m0 m1 l0 l1 AddsNone) (second : m1 ≤ m2) (torn : Meanwhile m1 m2 l1 l2 (Tears Main 0 9)) where
  pub made_images : (E : Type 0) (files : Files) (mid new : Option Files) → AreEmpty files
      → mid ≡ Some files → Writes {E = E} Main 0 initial mid new (Ok tt) → HoldsWhatIsRead Main new (l2 m2)
      → ((image : Files) → l0 m0 image → AreEmpty image) → (image : Files) → l2 m2 image → IsBankImage image []
  made_images E files mid new empty told_is writes holds all image left =
      let t = told files mid new _ told_is writes in
      let from = torn m2 second (omega arith) 0 (λ c h. omega arith) image left in
      let was = all from.0 (none m1 first (omega arith) from.0 from.1) in
      let is_written : t.0.main ≡ initial = t.2.2 ∙ ap (λ (l : List ℕ). written 0 initial l) empty.0 in
      initial_image image (known t.0 new _ t.1 holds image left ∙ is_written) (from.2.1 ∙ was.2)
