-- What holds of each of a list.
use Rattle.std.proofs.Common.{ℕ, ◌≤◌, List, [], ◌∷◌, map, arith}
use Rattle.aas_json_spelling.specs.Lists.{Each, most}

pub each_of : {A : Type 0} (P : A → Type 0) → ((x : A) → P x) → (xs : List A) → Each P xs
each_of P h [] = tt
each_of P h (x ∷ xs) = (h x, each_of P h xs)

-- what follows from two facts
pub each_both : {A : Type 0} (P Q R : A → Type 0) → ((x : A) → P x → Q x → R x) → (xs : List A) → Each P xs → Each Q xs → Each R xs
each_both P Q R h [] p q = tt
each_both P Q R h (x ∷ xs) p q = (h x p.0 q.0, each_both P Q R h xs p.1 q.1)

pub each_from_most : {A : Type 0} (f : A → ℕ) (n : ℕ) (xs : List A) → most (map f xs) ≤ n → Each (λ x. f x ≤ n) xs
each_from_most f n [] h = tt
each_from_most f n (x ∷ xs) h = (omega (arith, h), each_from_most f n xs (omega (arith, h)))

pub most_from_each : {A : Type 0} (f : A → ℕ) (n : ℕ) (xs : List A) → Each (λ x. f x ≤ n) xs → most (map f xs) ≤ n
most_from_each f n [] h = omega arith
most_from_each f n (x ∷ xs) h = let first = h.0 in let rest = most_from_each f n xs h.1 in omega (arith, first, rest)
