-- Methods among some.
use Rattle.std.proofs.Common.{inl, inr, ℕ, zero, suc, ◌<◌, List, [], ◌∷◌, length, refl, arith}
use Rattle.std.specs.Prelude.{slice_index_or}
use Rattle.aas_target.specs.Routes.{IsOneOf}
use Rattle.aas_target.specs.declared.method.Method.{Method}

-- that at a place of them is one of them
pub one_at : (methods : List Method) (i : ℕ) (d : Method) → i < length methods → IsOneOf (slice_index_or methods i d) methods
one_at [] i d inside = absurd (omega arith)
one_at (m ∷ ms) zero d inside = inl refl
one_at (m ∷ ms) (suc i) d inside = inr (one_at ms i d (omega arith))
