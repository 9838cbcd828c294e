-- What follows where a value has no fault.
use Rattle.std.proofs.Common.{◌≡◌, None, is_some, true≢false, sym, ap, ◌∙◌}
use Rattle.serde_json.specs.Data.{Data}
use Rattle.aas_json_table.specs.Table.{Sort, one}
use Rattle.aas_json_table.specs.Misfit.{misfit}
use Rattle.aas_json_table.specs.Canonical.{canonical}
use Rattle.aas_json_spelling.proofs.Fits.{fits_one}

-- a value that fits says something
pub says_something : (s : Sort) (j : Data) → misfit (one s) j ≡ None → None ≡ canonical (one s) j → ⊥
says_something s j fits none = true≢false (sym (fits_one s j fits) ∙ ap is_some (sym none))
