-- The three files of a disk in memory. This profile's own rule.
use Rattle.aas_outside_disk.specs.declared.memory_files.MemFiles.{MemFiles}
use Rattle.aas_outside_disk.specs.declared.part.Part.{Part}
use Rattle.aas_outside_disk.specs.declared.part.Part.TheVariants.{Main, Spare, Selector}
use Rattle.aas_outside_disk.specs.MemFile.{MemFileState}

abbrev pub mem_file : Part → MemFiles → MemFileState
mem_file Main files = files.main
mem_file Spare files = files.spare
mem_file Selector files = files.selector

-- the files with another in the place of this one
abbrev pub with_mem_file : Part → MemFileState → MemFiles → MemFiles
with_mem_file Main file files = record files { main = file }
with_mem_file Spare file files = record files { spare = file }
with_mem_file Selector file files = record files { selector = file }
