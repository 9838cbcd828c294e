-- What a call of a pouring adds to what was put, where a pouring that has stopped puts no more.
-- This profile's own rule.
use Rattle.std.specs.Prelude.{Result, Ok, Err, ◌≡◌, ℕ, List}
use Rattle.aas_outside.specs.declared.link.Failed.{Failed}
use Rattle.aas_out.specs.declared.pouring.Pouring.{Pouring}
use Rattle.aas_out.specs.declared.pouring.Pouring.TheVariants as pouring
use Rattle.aas_out.specs.Told.{Told, Wrote, WroteFront}

-- from one state of a pouring to the next
unfoldable pub Adds : {Kept : Type 0} → Pouring → Pouring → Told Kept → Told Kept → List ℕ → Type 0
Adds pouring.Stopped after old new text = (after ≡ pouring.Stopped) × (new ≡ old)
Adds pouring.Going pouring.Going old new text = Wrote old new text
Adds pouring.Going pouring.Stopped old new text = WroteFront old new text

-- what a pouring answers that is over
abbrev pub outcome_of : Pouring → Result (Unit {0}) Failed
outcome_of pouring.Going = Ok tt
outcome_of pouring.Stopped = Err (record {})
