-- From the lanes of two loads to bytes that are the same.
use Rattle.std.proofs.Common.{◌≡◌, ℕ, ◌+◌, ◌-◌, ◌*◌, ◌%◌, ◌^◌, ◌≤◌, Bool, true, false, cond, eqb, ◌==◌, List, [], ◌∷◌}
use Rattle.std.proofs.Common.{length, get_or, map, refl, sym, ap, ap₂, ◌∙◌, arith, not}
use Rattle.std.proofs.lemmas.Bool.{OnTrue_from, eqb-true}
use Rattle.std.proofs.lemmas.Simd.{get_or-chunk, length-chunk, length-zip2, mask_l-mod, tops_compared}
use Rattle.std.specs.Bool.{OnTrue}
use lib.Lanes.{chunk, mask_l, zip2, top}
use mir.Syntax.{w8}
use Rattle.aas_out.specs.Fronts.{SameBetween}

abbrev differ : ℕ → ℕ → Bool
differ x y = not (eqb x y)

no_bit : (same : Bool) (mask : ℕ) → cond (not same) 1 0 + 2 * mask ≡ 0 → (same ≡ true) × (mask ≡ 0)
no_bit true mask e = (refl, omega (arith, e))
no_bit false mask e = absurd (omega (arith, e))

same_lanes : (xs ys : List ℕ) → length xs ≡ length ys → mask_l (zip2 differ xs ys) ≡ 0 → xs ≡ ys
same_lanes [] [] long none = refl
same_lanes [] (y ∷ ys) long none = absurd (omega (arith, long))
same_lanes (x ∷ xs) [] long none = absurd (omega (arith, long))
same_lanes (x ∷ xs) (y ∷ ys) long none =
    let bits = no_bit (eqb x y) (mask_l (zip2 differ xs ys)) none in
    ap₂ (λ z zs. z ∷ zs) (eqb-true x y bits.0) (same_lanes xs ys (omega (arith, long)) bits.1)

same_between : (xs ys : List ℕ) (at n : ℕ) → chunk at n xs ≡ chunk at n ys → SameBetween xs ys at (at + n)
same_between xs ys at n same k from to =
    let back : at + (k - at) ≡ k = omega arith in
    ap (λ j. get_or xs j 0) (sym back)
    ∙ sym (get_or-chunk at n xs (k - at) 0 (omega arith))
    ∙ ap (λ l. get_or l (k - at) 0) same
    ∙ get_or-chunk at n ys (k - at) 0 (omega arith)
    ∙ ap (λ j. get_or ys j 0) back

-- the test of two loads of n lanes, as the code makes it
pub same_from_lanes : (xs ys : List ℕ) (at n : ℕ) → at + n ≤ length xs → at + n ≤ length ys → n ≤ 64
    → OnTrue
    (mask_l (map (top 7) (zip2 (λ a b. cond (differ a b) 255 0) (chunk at n xs) (chunk at n ys))) % 2 ^ 64 == 0)
    (SameBetween xs ys at (at + n))
same_from_lanes xs ys at n room_xs room_ys few =
    let a = chunk at n xs in
    let b = chunk at n ys in
    let long_a : length a ≡ n = length-chunk at n xs room_xs in
    let long_b : length b ≡ n = length-chunk at n ys room_ys in
    let long : length a ≡ length b = long_a ∙ sym long_b in
    let lanes : length (zip2 differ a b) ≤ 64 = omega (arith, length-zip2 differ a b long, long_a) in
    let mask = ap (λ ms. mask_l ms % 2 ^ 64) (tops_compared w8 differ a b) ∙ mask_l-mod (zip2 differ a b) 64 lanes in
    OnTrue_from _ _ (λ e. same_between xs ys at n (same_lanes a b long (sym mask ∙ eqb-true _ 0 e)))
