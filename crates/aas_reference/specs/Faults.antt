-- The least broken constraint at one level of a reference, and over several things.
use Rattle.std.specs.Prelude.{ℕ, min, List, [], ◌∷◌, Option, Some, None}
use Rattle.aas_model.specs.declared.reference.Reference.{Reference, out-Reference}
use Rattle.aas_reference.specs.Rules.{Level, reference_rules, failing, first}

-- a reference without the one within it
abbrev pub level_of : Reference → Level
level_of r = record { ref_type = (out-Reference r).ref_type; keys = (out-Reference r).keys }

-- the least number that is broken at one level
abbrev pub first_broken : Level → Option ℕ
first_broken x = first (failing (λ s. s x) reference_rules)

-- the lesser of what is there
abbrev pub least : Option ℕ → Option ℕ → Option ℕ
least None y = y
least (Some x) None = Some x
least (Some x) (Some y) = Some (min x y)

-- the least of what is there
abbrev pub least_of : List (Option ℕ) → Option ℕ
least_of [] = None
least_of (x ∷ xs) = least x (least_of xs)
