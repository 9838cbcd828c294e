-- What an end tells that compares what is put with bytes that are there. This profile's own rule.
use Rattle.std.specs.Prelude.{ℕ, List, Some, None, take}
use Rattle.aas_out.specs.Told.{Told}

-- So many of the bytes were put. None of them has left the end, and they aren't counted. No call changes the bytes.
abbrev pub match_told : List ℕ → ℕ → ℕ → Told (List ℕ)
match_told bytes met faults =
    record { sent = Some (take met bytes); gone = None; count = None; faults = faults; kept = bytes }
