-- Whole references: the reference and those within it have keys, and no more stand in one another than levels are left. The limit is this profile's own rule.
use Rattle.std.specs.Prelude.{ℕ, suc, ◌&&◌, nat_le, Bool, true, false, Option, Some, None, unwrap_or}
use Rattle.aas_json_table.specs.TooDeep.{Levels}
use Rattle.aas_json_spelling.specs.Lists.{is_any}
use Rattle.aas_model.specs.declared.reference.Reference.{Reference, fold-Reference}

-- the reference and those within it have keys
abbrev pub has_keys : Reference → Bool
has_keys = fold-Reference Bool (λ r. is_any r.keys && unwrap_or r.referred true)

-- how many references stand in one another
abbrev pub reference_levels : Reference → ℕ
reference_levels = fold-Reference ℕ (λ r. suc (unwrap_or r.referred 0))

abbrev pub is_whole : Levels → Reference → Bool
is_whole left r = has_keys r && nat_le (reference_levels r) left.references

-- whole, if there is one
abbrev pub whole_if_there : Levels → Option Reference → Bool
whole_if_there left None = true
whole_if_there left (Some r) = is_whole left r

-- there, and whole
abbrev pub whole_and_there : Levels → Option Reference → Bool
whole_and_there left None = false
whole_and_there left (Some r) = is_whole left r
