-- Trees in base64url.
use Rattle.std.proofs.Common.{◌≡◌, ◌≢◌, inl, inr, ℕ, List, Option, Some, None, Ok, Err, subst}
use Rattle.std.specs.Prelude.{IfNone, IfOk, IsErrAnd, Result}
use Rattle.base64.specs.GeneralPurpose.{IsBytes}
use Rattle.serde_json.specs.Data.{Data}
use Rattle.aas_json_spelling.specs.Reading.{reading}
use Rattle.aas_json_spelling.specs.Reads.{ReadsEachIf, ReadsEachOfBytes, ReadsIf}
use Rattle.aas_json_spelling.specs.Spells.{Trees}
use Rattle.aas_json_table.specs.TooDeep.{limits}
use Rattle.aas_model.specs.declared.read_fault.ReadFault.{ReadFault}
use Rattle.aas_model.specs.declared.read_fault.ReadFault.TheVariants.{NoMemory}
use Rattle.aas_model.specs.declared.NoMemory.{NoMemory as Refused}
use Rattle.aas_page.specs.Segment.{IsBase64Url}
use Rattle.aas_page.proofs.Coding.{coded_once}
use Rattle.aas_target.specs.Values.{IsTreeCode}

module _ {A : Type 0} (trees : Trees A) where
  no_other : (found : Option Data) (fault : ReadFault) → fault ≢ NoMemory → ReadsEachIf trees limits (Err fault) found
      → (t : A) → ¬ ReadsIf trees limits (Ok t) found
  no_other None fault is_fault each t (inl is) = cc
  no_other None fault is_fault each t (inr is) = cc
  no_other (Some j) fault is_fault each t spells = elim (each t spells) [ inl is ↦ cc | inr is ↦ is_fault (cc) ]

  -- where bytes spell no tree, what stands for them stands for none
  pub none_spelled : (text bytes : List ℕ) → IsBytes bytes → IsBase64Url text bytes → (read : Result A ReadFault)
      → ReadsEachOfBytes trees limits read bytes → (result : Result (Option A) Refused)
      → IfOk result (λ found. IfNone found (IsErrAnd read (λ fault. fault ≢ NoMemory)))
      → IfOk result (λ found. IfNone found ((t : A) → ¬ IsTreeCode trees text t))
  none_spelled text bytes are coded (Err fault) each (Ok None) is_fault = λ t code.
      let same : code.0 ≡ bytes = coded_once text code.0 bytes code.1 are code.2 coded in
      let reads = subst (λ json. ReadsIf trees limits (Ok t) (reading json)) same code.3 in
      no_other (reading bytes) fault is_fault each t reads
  none_spelled text bytes are coded (Ok tree) each (Ok None) none = absurd none
  none_spelled text bytes are coded read each (Ok (Some tree)) none = tt
  none_spelled text bytes are coded read each (Err refused) none = tt
