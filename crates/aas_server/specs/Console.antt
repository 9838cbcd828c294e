-- What the console gives. This profile's own rule.
use Rattle.std.specs.Prelude.{ℕ}

-- the most bytes that an input may have
abbrev pub input_limit : ℕ
input_limit = 4194304
