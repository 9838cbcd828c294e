-- What a stop leaves of files that nobody tells. This profile's own rule.
use Rattle.std.specs.Prelude.{ℕ}
use Rattle.aas_outside_disk.specs.Files.{Files}

-- any image at any moment
abbrev pub AnyImage : {D : Type 0} → D → ℕ → Files → Type 0
AnyImage disk time image = Unit {0}
