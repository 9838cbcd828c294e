-- A part of a storage that grows at its end and loses its front.
use Rattle.std.proofs.Common.{◌≡◌, ℕ, ◌+◌, ◌≤◌, List, ◌++◌, length, take, drop, ap, ◌∙◌, arith}
use Rattle.std.specs.List.{slice_range}
use Rattle.std.proofs.lemmas.List.{take-append-le, length-take-le, take_all}
use Rattle.bytes.proofs.Ranges.{slice_range_grown, take-append_past}

module _ (items xs buf post : List ℕ) (s e len : ℕ) (ordered : s ≤ e) (within : e ≤ length xs) (is : xs ≡ items)
    (whole : length (take e xs ++ (buf ++ post)) ≡ len) where
  full : take len ((take e xs ++ (buf ++ post)) ++ drop (length (take e xs ++ (buf ++ post))) items)
      ≡ take e xs ++ (buf ++ post)
  full =
      take-append-le len (take e xs ++ (buf ++ post)) _ (omega (arith, whole))
      ∙ take_all len (take e xs ++ (buf ++ post)) (omega (arith, whole))

  pub grown : (n : ℕ) → n ≤ length buf
      → slice_range (take len ((take e xs ++ (buf ++ post)) ++ drop (length (take e xs ++ (buf ++ post))) items)) s
      (e + n)
      ≡ slice_range items s e ++ take n buf
  grown n fits =
      ap (λ (l : List ℕ). slice_range l s (e + n)) full
      ∙ slice_range_grown xs (take e xs ++ (buf ++ post)) (take n buf) s e (e + n) ordered within
      (take-append_past (take e xs) (buf ++ post) n (e + n) (omega (arith, length-take-le e xs within))
      ∙ ap (λ (l : List ℕ). take e xs ++ l) (take-append-le n buf post fits))
      ∙ ap (λ (l : List ℕ). slice_range l s e ++ take n buf) is
