-- That files of which any image may be left go through any write.
use Rattle.std.specs.Prelude.{ℕ, refl}
use Rattle.aas_outside_disk.specs.declared.part.Part.{Part}
use Rattle.aas_outside_disk.specs.declared.part.Part.TheVariants.{Main, Spare, Selector}
use Rattle.aas_outside_disk.specs.Disk.{Tears}
use Rattle.aas_outside_disk.specs.Files.{Files, SameOthers}

same_others : (part : Part) (files : Files) → SameOthers part files files
same_others Main files = (refl, refl)
same_others Spare files = (refl, refl)
same_others Selector files = (refl, refl)

pub any_tears : (part : Part) (at n : ℕ) → Tears part at n (λ _. Unit {0}) (λ _. Unit {0})
any_tears part at n end least image is =
    (image, tt, same_others part image, record { before = refl; after = refl; no_shorter = least image tt })
