-- What a reader of references answers.
use Rattle.std.proofs.Common.{Result, Ok, Err}
use Rattle.serde_json.specs.Data.{Data}
use Rattle.aas_json_table.specs.Table.{reference}
use Rattle.aas_json_table.specs.TooDeep.{Levels}
use Rattle.aas_model.specs.declared.read_fault.ReadFault.{ReadFault}
use Rattle.aas_model.specs.declared.read_fault.ReadFault.TheVariants.{NotJson, NotMapping, TooDeep, NoMemory}
use Rattle.aas_model.specs.declared.reference.Reference.{Reference}
use Rattle.aas_json_spelling.specs.Reads.{Reads, ReadsEach}
use Rattle.aas_json_spelling.proofs.Laws.{reads_each}
use Rattle.aas_json_input.specs.Said.{said}
use Rattle.aas_reference.specs.Spelling.{spell_reference}
use Rattle.aas_reference.specs.Trees.{references}
use Rattle.aas_json_spelling.specs.Mapped.{AnyShape}
use Rattle.aas_reference.proofs.Facts.{laws, whole_where_fits}
use Rattle.aas_reference.proofs.Whole.{said_whole}

-- What is read, whole or not, is whole.
pub reads_whole : (l : Levels) (result : Result Reference ReadFault) (j : Data) → Reads (said reference spell_reference) l result j → Reads references l result j
reads_whole l (Ok r) j s = record { fits = s.fits; shallow = s.shallow; says = s.says; whole = whole_where_fits l r (said_whole r l j s.shallow s.says) }
reads_whole l (Err NotJson) j fault = fault
reads_whole l (Err (NotMapping p)) j fault = fault
reads_whole l (Err (TooDeep p)) j fault = fault
reads_whole l (Err NoMemory) j fault = fault

pub reads_each_reference : (l : Levels) (result : Result Reference ReadFault) (j : Data) → Reads references l result j → ReadsEach references l result j
reads_each_reference = reads_each references AnyShape laws
