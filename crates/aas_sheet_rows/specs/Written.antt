-- Rows with the payloads of a patch.
use Rattle.std.specs.Prelude.{ℕ, zero, suc, ◌+◌, ◌<◌, List, [], ◌∷◌}
use Rattle.aas_model.specs.declared.patch.PatchRow.{PatchRow}
use Rattle.aas_model.specs.declared.payload.Payload.{Payload}
use Rattle.aas_sheet_rows.specs.declared.row.Row.{Row}

-- each rank, counted from base on, is there
abbrev pub InRange : ℕ → ℕ → List PatchRow → Type 0
InRange base n [] = Unit {0}
InRange base n (p ∷ ps) = (base + p.rank < n) × InRange base n ps

abbrev pub with_payload : List Row → ℕ → Payload → List Row
with_payload [] n p = []
with_payload (r ∷ rs) zero p = record r { payload = p } ∷ rs
with_payload (r ∷ rs) (suc n) p = r ∷ with_payload rs n p

-- rows with each payload at its rank, counted from base on
abbrev pub written : List Row → ℕ → List PatchRow → List Row
written rs base [] = rs
written rs base (p ∷ ps) = written (with_payload rs (base + p.rank) p.payload) base ps
