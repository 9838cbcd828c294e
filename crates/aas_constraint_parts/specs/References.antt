-- What references break: the lexical rules and the characters of their texts (numbers 0 and 130), and the constraints on references (121 to 128).
use Rattle.std.specs.Prelude.{ℕ, Bool, true, List, map, Option}
use Rattle.aas_model.specs.declared.reference.Reference.{Reference}
use Rattle.aas_reference.specs.Faults.{least_of}
use Rattle.aas_constraint_rules.specs.Rules.{ElementSentence, local, placed, rules}
use Rattle.aas_constraint_parts.specs.Tests.{first_failed, tests}

-- what a sentence on elements wants of each reference
abbrev pub each_reference : ElementSentence → Reference → Bool
each_reference (local s) r = s.each_reference r
each_reference (placed test) r = true

-- the least number that a reference breaks: of documents as of elements
abbrev pub reference_fault : Reference → Option ℕ
reference_fault r = first_failed (tests (λ s. each_reference s r) rules)

-- the least number that any of the references breaks
abbrev pub references_fault : List Reference → Option ℕ
references_fault rs = least_of (map reference_fault rs)
