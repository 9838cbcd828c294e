-- The calls on an end in memory, as its callers see them. This profile's own rule.
use Rattle.std.specs.Prelude.{ℕ, List, Contains}
use Rattle.aas_outside.specs.Faults.{one_more}

pub record MemCallsState : Type 0 where
  -- the numbers of the calls that fail
  pub fails : List ℕ
  -- how many calls were made
  pub made : ℕ

-- one call more was made
abbrev pub called : MemCallsState → MemCallsState
called calls = record calls { made = one_more calls.made }

-- the next call is one of those that fail, the first being 1
abbrev pub IsNextFailing : MemCallsState → Type 0
IsNextFailing calls = Contains calls.fails (one_more calls.made)
