-- The bytes of an export are read as its documents.
use Rattle.std.proofs.Common.{◌≡◌, ◌⊎◌, ℕ, Bool, List, [], ◌∷◌, Some, Ok, Err, refl, sym, ◌∙◌, subst, arith}
use Rattle.std.specs.Prelude.{◌↔◌}
use Rattle.std.specs.Prelude as prelude
use Rattle.std.specs.Str.{IsUtf8}
use Rattle.std.proofs.lemmas.Str.{IsUtf8-append, is_utf8-from_IsUtf8}
use Rattle.json.proofs.Printed.Utf8.{IsUtf8-are_ascii}
use Rattle.serde_json.specs.Data.{Data}
use Rattle.serde_json.specs.Read.{read}
use Rattle.serde_json.specs.Written.{compact_text}
use Rattle.aas_command.specs.Commands.{IsWellFormed}
use Rattle.aas_command.specs.declared.command.Command.TheVariants.{Import}
use Rattle.aas_json_mapping.specs.Shape.{IsShapedEnvironment}
use Rattle.aas_json_mapping.specs.Trees.{environments}
use Rattle.aas_json_mapping.proofs.DocumentsLaws.{environments_laws}
use Rattle.aas_json_spelling.specs.Reading.{reading}
use Rattle.aas_json_spelling.specs.Reads.{ReadsBytes, ReadsEachIf, ReadsIf}
use Rattle.aas_json_spelling.specs.Spells.{Spells, canonical_text}
use Rattle.aas_json_spelling.proofs.Back.{read_back}
use Rattle.aas_json_spelling.proofs.Laws.{one_tree, reads_each_of_bytes, spells_itself}
use Rattle.aas_json_spelling.proofs.Nesting.{fits_whole, nests}
use Rattle.aas_json_table.specs.Table.{environment, one}
use Rattle.aas_json_table.specs.TooDeep.{limits}
use Rattle.aas_model.specs.declared.documents.Environment.{Environment}
use Rattle.aas_model.specs.declared.read_fault.ReadFault.{ReadFault}
use Rattle.aas_model.specs.declared.read_fault.ReadFault.TheVariants.{NoMemory}
use Rattle.aas_repo.specs.Decisions.{has_room_for}
use Rattle.aas_step.specs.Step.{ComesTo, Result}
use Rattle.aas_step.specs.Valid.{AreValid}
use Rattle.aas_store.specs.Documents.{Documents, empty}
use Rattle.aas_environment.specs.Environments.{environment_of, export_text}
use Rattle.aas_environment.specs.Imports.{Comes, Spell}
use Rattle.aas_environment.specs.Laws.{ComesBack, ExportReadsBack, put_in}
use Rattle.aas_environment.proofs.LineFeed.{read_fed}
use Rattle.aas_environment.proofs.Settled.{comes_by}
use Rattle.aas_environment.proofs.WellFormed.{well_formed}

module _ (d : Documents) (valid : AreValid d) (utf8 : IsUtf8 (export_text d)) where
  abbrev exported : Environment
  exported = environment_of d

  abbrev spelling : Data
  spelling = environments.spell exported

  whole : environments.IsWhole limits exported
  unfolding IsWellFormed
  whole = well_formed d valid

  is_read : reading (export_text d) ≡ Some spelling
  is_read =
      let good = environments_laws.good limits exported whole in
      let numbers = fits_whole spelling (one environment) good.fits in
      let back : read (compact_text spelling) ≡ Some spelling =
      read_back spelling good.order numbers
      (nests spelling environment limits (omega arith) (omega arith) (omega arith) good.fits good.low) in
      rw (is_utf8-from_IsUtf8 (export_text d) utf8) (read_fed spelling numbers ∙ back)

  spells : Spells environments limits spelling exported
  spells = spells_itself environments IsShapedEnvironment environments_laws limits exported whole

  spelled : Spell (export_text d) exported
  spelled = subst (λ value. ReadsIf environments limits (Ok exported) value) (sym is_read) spells

  only : (e : Environment) → Spell (export_text d) e → e ≡ exported
  only e other = one_tree environments IsShapedEnvironment environments_laws limits spelling e exported
      (subst (λ value. ReadsIf environments limits (Ok e) value) is_read other) spells

  answered : (answer : prelude.Result Environment ReadFault) → ReadsBytes environments limits answer (export_text d)
      → (answer ≡ Ok exported) ⊎ (answer ≡ Err NoMemory)
  answered answer reads = subst (λ value. ReadsEachIf environments limits answer value) is_read
      (reads_each_of_bytes environments IsShapedEnvironment environments_laws limits answer (export_text d) reads)
      exported spells

  comes : (has_room : ℕ → Bool) (result : Result)
      → Comes has_room empty (export_text d) result ↔ (result ≡ put_in (has_room_for has_room (Import exported)) d)
  comes has_room result = (
    λ c. (comes_by (has_room_for has_room (Import exported)) d valid result).0
        (subst (λ (e : Environment). ComesTo (has_room_for has_room (Import e)) empty (Import e) result)
        (only c.environment c.spelled) c.comes),
    λ is. record {
      environment = exported;
      spelled = spelled;
      comes = (comes_by (has_room_for has_room (Import exported)) d valid result).1 is;
    },
  )

pub export_reads_back : ExportReadsBack
export_reads_back d valid utf8 = record { read = answered d valid utf8; comes = comes d valid utf8 }

-- where the text was made
pub stored : (d : Documents) → AreValid d → (text : List ℕ)
    → text ≡ canonical_text environments (environment_of d) → IsUtf8 text → ComesBack d
stored d valid text is utf8 =
    export_reads_back d valid
    (IsUtf8-append (canonical_text environments (environment_of d))
    (10 ∷ []) (subst IsUtf8 is utf8) (IsUtf8-are_ascii (10 ∷ []) refl))
