-- What an end tells that keeps the text in memory. This profile's own rule.
use Rattle.std.specs.Prelude.{ℕ, List, Some, None}
use Rattle.aas_out.specs.Told.{Told}

-- What is put is the text. None of it has left the end, and it isn't counted.
abbrev pub text_told : List ℕ → ℕ → Told (Unit {0})
text_told text faults = record { sent = Some text; gone = None; count = None; faults = faults; kept = tt }
