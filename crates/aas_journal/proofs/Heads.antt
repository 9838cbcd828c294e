-- What the bytes of a gate and of the length behind it tell.
use Rattle.std.proofs.Common.{◌≡◌, ℕ, ◌+◌, ◌-◌, ◌<◌, ◌≤◌, ◌^◌, List, [], ◌∷◌, ◌++◌, length, get_or, take, drop, refl}
use Rattle.std.proofs.Common.{sym, ◌∙◌, ap, ap₂, arith, length-drop, take-append-drop}
use Rattle.std.specs.Int.{from_be_bytes, to_be_bytes, w32}
use Rattle.std.proofs.lemmas.List.{length-take-le}
use Rattle.aas_journal.specs.Gates.{StandsAt}
use Rattle.aas_journal.specs.declared.walk.Gate.TheVariants.{Open, PastEnd}

-- the four bytes behind a gate
abbrev pub four : List ℕ → List ℕ
four head = get_or head 1 0 ∷ get_or head 2 0 ∷ get_or head 3 0 ∷ get_or head 4 0 ∷ []

five : (head : List ℕ) → length head ≡ 5 → head ≡ get_or head 0 0 ∷ four head
five (a ∷ b ∷ c ∷ d ∷ e ∷ []) size = refl
five [] size = absurd (omega (arith, size))
five (a ∷ []) size = absurd (omega (arith, size))
five (a ∷ b ∷ []) size = absurd (omega (arith, size))
five (a ∷ b ∷ c ∷ []) size = absurd (omega (arith, size))
five (a ∷ b ∷ c ∷ d ∷ []) size = absurd (omega (arith, size))
five (a ∷ b ∷ c ∷ d ∷ e ∷ f ∷ rest) size = absurd (omega (arith, size))

one : (head : List ℕ) → length head ≡ 1 → head ≡ get_or head 0 0 ∷ []
one (a ∷ []) size = refl
one [] size = absurd (omega (arith, size))
one (a ∷ b ∷ rest) size = absurd (omega (arith, size))

head_is : (bytes head : List ℕ)
    → head ≡ take 5 bytes → 5 ≤ length bytes → bytes ≡ get_or head 0 0 ∷ (four head ++ drop 5 bytes)
head_is bytes head is enough =
    let size : length head ≡ 5 = ap length is ∙ length-take-le 5 bytes enough in
    sym (take-append-drop 5 bytes) ∙ ap (λ (l : List ℕ). l ++ drop 5 bytes) (sym is ∙ five head size)

pub short_past : (bytes head : List ℕ) (at : ℕ)
    → head ≡ take 1 bytes → 0 < length bytes → length bytes ≤ 5 → get_or head 0 0 ≡ 1 → StandsAt bytes at PastEnd
short_past bytes head at is some few first =
    let size : length head ≡ 1 = ap length is ∙ length-take-le 1 bytes (omega (arith, some)) in
    let all : bytes ≡ 1 ∷ drop 1 bytes = sym (take-append-drop 1 bytes)
    ∙ ap (λ (l : List ℕ). l ++ drop 1 bytes) (sym is ∙ one head size ∙ ap (λ (x : ℕ). x ∷ []) first) in
    (drop 1 bytes, all, omega (arith, few, length-drop 1 bytes))

pub long_past : (bytes head : List ℕ) (at n : ℕ) → head ≡ take 5 bytes → 5 < length bytes
    → get_or head 0 0 ≡ 1 → n ≡ from_be_bytes w32 (four head) → length bytes - 5 ≤ n → StandsAt bytes at PastEnd
long_past bytes head at n is many first n_is past =
    let rest = four head ++ drop 5 bytes in
    let all : bytes ≡ 1 ∷ rest = head_is bytes head is (omega (arith, many)) ∙ ap (λ (x : ℕ). x ∷ rest) first in
    let length_is : length rest + 1 ≡ length bytes = omega (arith, ap length all) in
    (rest, all, omega (arith, n_is, past, length_is))

pub is_open : (bytes head : List ℕ) (at n : ℕ) → head ≡ take 5 bytes → 5 < length bytes
    → get_or head 0 0 ≡ 1 → to_be_bytes w32 n ≡ four head → n < 2 ^ 32 → n < length bytes - 5
    → StandsAt bytes at (Open (at + 5 + n))
is_open bytes head at n is many first n_is limit within =
    let behind = drop 5 bytes in
    let payload = take n behind in
    let size : length payload ≡ n = length-take-le n behind (omega (arith, within, length-drop 5 bytes)) in
    let coded : to_be_bytes w32 (length payload) ≡ four head = ap (λ (k : ℕ). to_be_bytes w32 k) size ∙ n_is in
    let all : bytes ≡ 1 ∷ (to_be_bytes w32 (length payload) ++ (payload ++ drop n behind)) =
    head_is bytes head is (omega (arith, many))
    ∙ ap₂ (λ (x : ℕ) (l : List ℕ). x ∷ l) first
    (ap₂ (λ (a b : List ℕ). a ++ b) (sym coded) (sym (take-append-drop n behind))) in
    (payload, drop n behind, omega (arith, size, limit), all, omega (arith, size))
