-- Methods that ask for nothing to be changed (RFC 9110, section 9.2.1), and what a machine is then.
use Rattle.std.specs.Prelude.{◌≡◌, ◌↔◌, ℕ, List, codes}
use Rattle.aas_http.specs.FirstRequest.{Message}
use Rattle.aas_rule.specs.State.{State}

-- it is GET, the only one of them that is served
abbrev pub IsSafe : Message → Type 0
IsSafe m = m.method ≡ codes "GET"

-- The documents are the same, the same payloads are kept, and no time has passed.
pub record IsUnchanged {D I : Type 0} (old new : State D I) : Type 0 where
  pub documents : new.documents ≡ old.documents
  pub kept : (payloads : List (List ℕ)) → new.kept payloads ↔ old.kept payloads
  pub moment : new.moment ≡ old.moment
