-- What is read of parts that are canonical JSON.
use Rattle.std.proofs.Common.{◌≡◌, ℕ, true, false, not, ◌&&◌, List, Option, Some, None, is_none, refl, sym, ap}
use Rattle.std.proofs.Common.{ap₂, ◌∙◌}
use Rattle.std.proofs.lemmas.Bool.{and_from}
use Rattle.std.proofs.Math.Bool.{and-false}
use Rattle.serde_json.specs.Data.{Data}
use Rattle.aas_json_spelling.specs.Reads.{IsFault, IsPointer}
use Rattle.aas_json_spelling.specs.Spells.{Trees, Spells}
use Rattle.aas_json_spelling.specs.Values.{IsOrdered}
use Rattle.aas_json_table.specs.Misfit.{misfit}
use Rattle.aas_json_table.specs.Rows.{Pointer}
use Rattle.aas_json_table.specs.Table.{Sort, one}
use Rattle.aas_json_table.specs.TooDeep.{limits, too_deep}
use Rattle.aas_model.specs.declared.read_fault.ReadFault.{ReadFault}
use Rattle.aas_model.specs.declared.read_fault.ReadFault.TheVariants as read
use Rattle.aas_value.specs.Json.{has_empty_list, is_part}
use Rattle.aas_value_update.proofs.Canonical.{says_itself}
use Rattle.aas_value_patch.specs.Faults.{Refuses, misfit_of}

pub part_fits : {A : Type 0} (trees : Trees A) (j : Data) (t : A)
    → Spells trees limits j t → has_empty_list j ≡ false → is_part trees.sort j ≡ true
part_fits trees j t s full =
    let fit : is_none (misfit (one trees.sort) j) ≡ true = ap is_none s.fits in
    let low : is_none (too_deep (one trees.sort) j limits) ≡ true = ap is_none s.shallow in
    let rest : not (has_empty_list j) ≡ true = ap not full in
    and_from (is_none (misfit (one trees.sort) j) && is_none (too_deep (one trees.sort) j limits))
    (not (has_empty_list j))
    (and_from (is_none (misfit (one trees.sort) j)) (is_none (too_deep (one trees.sort) j limits)) fit low) rest

pub part_taken : {A : Type 0} (trees : Trees A) (j : Data) (t : A)
    → Spells trees limits j t → has_empty_list j ≡ false → IsOrdered j → trees.spell t ≡ j
part_taken trees j t s full order =
    let same : Some (trees.spell t) ≡ Some j =
    sym s.says ∙ says_itself trees.sort j (part_fits trees j t s full) order in
    cc

pub part_emptied : (s : Sort) (j : Data) → has_empty_list j ≡ true → is_part s j ≡ false
part_emptied s j e = ap (λ b. (is_none (misfit (one s) j) && is_none (too_deep (one s) j limits)) && not b) e
    ∙ and-false (is_none (misfit (one s) j) && is_none (too_deep (one s) j limits))

some_pointer : (found : Option Pointer) (p : List ℕ) → IsPointer found p → is_none found ≡ false
some_pointer None p h = absurd (cc)
some_pointer (Some x) p h = refl

pub part_misfits : {A : Type 0} (trees : Trees A) (fault : ReadFault) (j : Data) → IsFault trees limits fault j
    → Refuses (misfit_of fault) (is_part trees.sort j)
part_misfits trees read.NotJson j h = absurd h
part_misfits trees (read.NotMapping p) j h =
    ap (λ b. (b && is_none (too_deep (one trees.sort) j limits)) && not (has_empty_list j))
    (some_pointer (misfit (one trees.sort) j) p h)
part_misfits trees (read.TooDeep p) j h =
    ap₂ (λ a b. (a && b) && not (has_empty_list j)) (ap is_none h.0)
    (some_pointer (too_deep (one trees.sort) j limits) p h.1)
part_misfits trees read.NoMemory j h = tt
