-- What is left of a list from a place on.
use Rattle.std.proofs.Common.{◌≡◌, ℕ, zero, suc, ◌+◌, List, [], ◌∷◌, drop, ap, ◌∙◌}
use Rattle.std.proofs.Math.Numerals.{add-one}

drop_suc : {X : Type 0} (xs rest : List X) (i : ℕ) (x : X) → drop i xs ≡ x ∷ rest → drop (suc i) xs ≡ rest
drop_suc [] rest zero x e = absurd (cc)
drop_suc [] rest (suc i) x e = absurd (cc)
drop_suc (y ∷ xs) rest zero x e = cc
drop_suc (y ∷ xs) rest (suc i) x e = drop_suc xs rest i x e

pub drop_next : {X : Type 0} (xs rest : List X) (i : ℕ) (x : X) → drop i xs ≡ x ∷ rest → drop (i + 1) xs ≡ rest
drop_next xs rest i x e = ap (λ n. drop n xs) (add-one i) ∙ drop_suc xs rest i x e
