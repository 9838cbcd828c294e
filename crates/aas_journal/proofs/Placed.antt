-- Where a journal writes, and that its gate stays in its file.
use Rattle.std.proofs.Common.{◌≡◌, ℕ, ◌+◌, ◌<◌, ◌≤◌, Bool, true, false, List, [], ◌∷◌, ◌++◌, length, take, drop, Option}
use Rattle.std.proofs.Common.{Some, None, refl, sym, ◌∙◌, ap, subst, arith, length-append}
use Rattle.std.specs.Option.{ForSome}
use Rattle.std.specs.Prelude.{Result, Ok, if◌then◌else◌, ◌==◌, ◌%◌}
use Rattle.std.proofs.lemmas.List.{length-take-le}
use Rattle.aas_outside_disk.specs.Disk.{Becomes, Writes}
use Rattle.aas_outside_disk.specs.Files.{Files, SameOthers, file}
use Rattle.aas_outside_disk.specs.declared.part.Part.{Part}
use Rattle.aas_outside_disk.specs.declared.part.Part.TheVariants.{Main, Spare, Selector}
use Rattle.aas_journal.specs.Bank.{chosen}
use Rattle.aas_journal.specs.Checkpoint.{Rewrites}

by_parity : (even : Bool) (old new : Files)
    → SameOthers (if even then Main else Spare) old new → new.selector ≡ old.selector
by_parity true old new same = same.1
by_parity false old new same = same.1

-- a write to the chosen file leaves the selector
pub same_selector : (selector : List ℕ) (old new : Files)
    → SameOthers (chosen selector) old new → new.selector ≡ old.selector
same_selector [] old new same = same.1
same_selector (byte ∷ rest) old new same = by_parity (byte % 2 == 0) old new same

pub same_part : (part : Part) (selector : List ℕ) (old new : Files)
    → part ≡ chosen selector → SameOthers part old new → old.selector ≡ selector → new.selector ≡ selector
same_part part selector old new part_is same is =
    same_selector old.selector old new (subst (λ (q : Part). SameOthers q old new) (part_is ∙ ap chosen (sym is)) same)
    ∙ is

-- what is told was told before
pub was_told : (old new : Option Files) (P : Files → Files → Type 0)
    → Becomes old new P → (b : Files) → new ≡ Some b → (a : Files) × (old ≡ Some a) × P a b
was_told None new P become b is = absurd (let h : None ≡ Some b = sym become ∙ is in cc h)
was_told (Some a) None P become b is = absurd become
was_told (Some a) (Some c) P become b is = (a, refl, let same : c ≡ b = cc in subst (λ (x : Files). P a x) same become)

-- no file is shorter after a write
no_shorter : (part other : Part) (old new : Files) → SameOthers part old new
    → length (file part old) ≤ length (file part new) → length (file other old) ≤ length (file other new)
no_shorter Main Main old new same le = le
no_shorter Main Spare old new same le = omega (arith, ap length same.0)
no_shorter Main Selector old new same le = omega (arith, ap length same.1)
no_shorter Spare Main old new same le = omega (arith, ap length same.0)
no_shorter Spare Spare old new same le = le
no_shorter Spare Selector old new same le = omega (arith, ap length same.1)
no_shorter Selector Main old new same le = omega (arith, ap length same.0)
no_shorter Selector Spare old new same le = omega (arith, ap length same.1)
no_shorter Selector Selector old new same le = le

-- the place stands in the file
abbrev pub Within : Option Files → Part → ℕ → Type 0
Within seen part gate = ForSome seen (λ files. gate < length (file part files))

within_on : (old new : Option Files) (part : Part) (gate : ℕ) (P : Files → Files → Type 0) → Within old part gate
    → Becomes old new P → ((a b : Files) → P a b → length (file part a) ≤ length (file part b)) → Within new part gate
within_on old new part gate P within becomes grows b is =
    let from = was_told old new P becomes b is in
    omega (arith, within from.0 from.1, grows from.0 b from.2)

pub within_write : {E : Type 0} (old new : Option Files) (part : Part)
    (gate at : ℕ) (bytes : List ℕ) (result : Result (Unit {0}) E)
    → Within old part gate → Writes part at bytes old new result → Within new part gate
within_write old new part gate at bytes result within writes =
    within_on old new part gate _ within writes (λ a b it. it.1.no_shorter)

pub within_rewrite : {E : Type 0} (old new : Option Files) (part other : Part)
    (gate : ℕ) (change : List ℕ → List ℕ) (result : Result (Unit {0}) E)
    → Within old part gate → Rewrites other change old new result → Within new part gate
within_rewrite old new part other gate change result within rewrites =
    within_on old new part gate _ within rewrites (λ a b it. no_shorter other part a b it.0 it.1)

-- what was written behind the gate may have the next one
pub within_further : (E : Type 0) (old new : Option Files) (part : Part) (gate : ℕ) (bytes : List ℕ)
    → Within old part gate → Writes {E = E} part (gate + 1) bytes old new (Ok tt)
    → Within new part (gate + length bytes)
within_further E old new part gate bytes within writes b is =
    let from = was_told old new _ writes b is in
    let a = file part from.0 in
    let front : length (take (gate + 1) a) ≡ gate + 1 =
    length-take-le (gate + 1) a (omega (arith, within from.0 from.1)) in
    omega (
      arith,
      front,
      ap length from.2.2,
      length-append (take (gate + 1) a) (bytes ++ drop (gate + 1 + length bytes) a),
      length-append bytes (drop (gate + 1 + length bytes) a),
    )
