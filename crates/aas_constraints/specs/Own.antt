-- What is wanted of an element or a document itself, apart from its references.
use Rattle.std.specs.Prelude.{ℕ, Bool, true, List, Option}
use Rattle.aas_model.specs.declared.reference.Reference.{Reference}
use Rattle.aas_reference.specs.Rules.{Rule, failing, first}
use Rattle.aas_constraint_rules.specs.Rules.{ElementSentence, local, placed, holds_locally, rules}
use Rattle.aas_constraint_rules.specs.Sentences.{Sentence, holds_of}
use Rattle.aas_constraint_rules.specs.Sites.{Own, Site, of_common, of_payload}
use Rattle.aas_model.specs.declared.common.Common.{Common}
use Rattle.aas_model.specs.declared.payload.Payload.{Payload}
use Rattle.aas_constraint_parts.specs.Tests.{first_failed, tests}

-- what is wanted of an element alone, apart from its references
abbrev pub itself : ElementSentence → Own → Bool
itself (local s) o = s.itself o
itself (placed test) o = true

-- what is wanted of an element at its place
abbrev pub at_place : ElementSentence → Site → Bool
at_place (local s) x = true
at_place (placed test) x = test x

-- the least number that is broken apart from references
abbrev pub own_fault : {D : Type 0} → List (Rule (Sentence D)) → D → Option ℕ
own_fault rs d = first_failed (tests (λ s. s.itself d) rs)

abbrev pub own_element_fault : Own → Option ℕ
own_element_fault o = first_failed (tests (λ s. itself s o) rules)

-- the least number that an element breaks by itself
abbrev pub local_fault : Own → Option ℕ
local_fault o = first (failing (λ s. holds_locally s o) rules)

-- the least number that is broken by the attributes that every element has, and by those of a kind
abbrev pub common_fault : Common → Option ℕ
common_fault c = local_fault (of_common c)

abbrev pub payload_fault : Payload → Option ℕ
payload_fault x = local_fault (of_payload x)

-- the least number that is broken by a place
abbrev pub place_fault : Site → Option ℕ
place_fault x = first_failed (tests (λ s. at_place s x) rules)

-- the least number that is broken by a document with these references
abbrev pub least_broken : {D : Type 0} → List (Rule (Sentence D)) → List Reference → D → Option ℕ
least_broken rs references d = first (failing (holds_of references d) rs)
