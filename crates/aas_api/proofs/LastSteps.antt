-- The last step of a path.
use Rattle.std.proofs.Common.{◌≡◌, ◌-◌, List, [], ◌∷◌, length, refl, sym, ap, ◌∙◌, arith}
use Rattle.std.specs.Prelude.{Some, None}
use Rattle.std.specs.List.{last_or, slice_get}
use Rattle.aas_model.specs.declared.path.PathStep.{PathStep}

last_at : (s : PathStep) (p : List PathStep) → last_or (Some s) p ≡ slice_get (s ∷ p) (length p)
last_at s [] = refl
last_at s (t ∷ p) = last_at t p

pub last_is : (p : List PathStep) → last_or None p ≡ slice_get p (length p - 1)
last_is [] = refl
last_is (s ∷ p) =
    let less : length (s ∷ p) - 1 ≡ length p = omega arith in
    last_at s p ∙ ap (slice_get (s ∷ p)) (sym less)
