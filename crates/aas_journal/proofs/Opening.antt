-- Which fault a file has.
use Rattle.std.proofs.Common.{◌≡◌, ◌⊎◌, inl, inr, ℕ, ◌<◌, List, length, refl, ◌∙◌, ap, arith}
use Rattle.aas_journal.specs.Causes.{HasFault, IsDamaged}
use Rattle.aas_journal.specs.Gates.{IsClosedAt}
use Rattle.aas_journal.specs.Image.{IsImage, gate_of}
use Rattle.aas_journal.specs.declared.fault.OpenFault.{OpenFault}
use Rattle.aas_journal.specs.declared.fault.OpenFault.TheVariants.{Damaged, Failed, NoMemory, NotInitialised}
use Rattle.aas_journal.proofs.Gates.{damaged_once, initialised, one_list, undamaged}
use Rattle.aas_journal.proofs.Images.{holds_gate}

pub closed_within : (file : List ℕ) (at : ℕ) → IsClosedAt file at → at < length file
closed_within file at closed = omega (arith, holds_gate closed.payloads at closed.at_is file closed.image)

pub closed_behind : (file : List ℕ) (at : ℕ) (payloads : List (List ℕ))
    → IsClosedAt file at → IsImage file payloads → at ≡ gate_of payloads (length payloads)
closed_behind file at payloads closed image =
    closed.at_is
    ∙ ap (λ (l : List (List ℕ)). gate_of l (length l)) (one_list file closed.payloads payloads closed.image image)

pub image_fails : (file : List ℕ) (payloads : List (List ℕ)) (fault : OpenFault)
    → IsImage file payloads → HasFault file fault → fault ≡ Failed
image_fails file payloads NotInitialised image has =
    absurd (initialised file payloads image.gate image.rest image.has has)
image_fails file payloads (Damaged at) image has = absurd (undamaged file payloads at image has)
image_fails file payloads Failed image has = refl
image_fails file payloads NoMemory image has = absurd has

pub damaged_fails : (file : List ℕ) (at : ℕ) (fault : OpenFault)
    → IsDamaged file at → HasFault file fault → (fault ≡ Damaged at) ⊎ (fault ≡ Failed)
damaged_fails file at NotInitialised damaged has =
    absurd (initialised file damaged.payloads 1 damaged.rest damaged.has has)
damaged_fails file at (Damaged place) damaged has =
    inl (ap (λ (n : ℕ). Damaged n) (damaged_once file place at has damaged))
damaged_fails file at Failed damaged has = inr refl
damaged_fails file at NoMemory damaged has = absurd has
