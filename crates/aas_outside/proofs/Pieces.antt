-- Payloads that stand one after another.
use Rattle.std.proofs.Common.{◌≡◌, ◌≤◌, ◌<◌, ℕ, ◌+◌, ◌-◌, ◌*◌, List, [], ◌∷◌, ◌++◌, length, take, drop, refl, ◌∙◌, ap}
use Rattle.std.proofs.Common.{ap₂, arith, length-drop}
use Rattle.std.specs.Prelude.{sum, IsTrue, nat_le, ◌^◌}
use Rattle.std.proofs.lemmas.Bool.Decides.{nat_tests}
use Rattle.std.proofs.lemmas.List.Sums.{sum_by-append}
use Rattle.std.proofs.lemmas.List.{take-append-le, drop-append-le, length-take-le, take_all}
use Rattle.aas_outside.specs.MemKeeper.{pieces, frame_size, frames_size, has_room_behind}

sum-cons : (n : ℕ) (lengths : List ℕ) → sum (n ∷ lengths) ≡ n + sum lengths
sum-cons n lengths =
    let all : sum (n ∷ lengths) ≡ 0 + n + sum lengths = sum_by-append (λ (x : ℕ). x) (n ∷ []) lengths in
    omega (arith, all)

frames_size-cons : (payload : List ℕ) (payloads : List (List ℕ))
    → frames_size (payload ∷ payloads) ≡ frame_size (length payload) + frames_size payloads
frames_size-cons payload payloads =
    let all : frames_size (payload ∷ payloads) ≡ 0 + (length payload + 5) + frames_size payloads =
    sum_by-append (λ (p : List ℕ). frame_size (length p)) (payload ∷ []) payloads in
    omega (arith, all)

pub pieces_size : (lengths bytes : List ℕ)
    → sum lengths ≡ length bytes → frames_size (pieces lengths bytes) ≡ length bytes + 5 * length lengths
pieces_size [] bytes whole = omega (arith, whole)
pieces_size (n ∷ lengths) bytes whole =
    let less : n ≤ length bytes = omega (arith, whole, sum-cons n lengths) in
    omega (
      arith,
      length-drop n bytes,
      length-take-le n bytes less,
      less,
      frames_size-cons (take n bytes) (pieces lengths (drop n bytes)),
      pieces_size lengths (drop n bytes) (omega (arith, whole, sum-cons n lengths, length-drop n bytes)),
    )

no_bytes : (bytes : List ℕ) → 0 ≡ length bytes → bytes ≡ []
no_bytes [] none = refl
no_bytes (b ∷ bytes) none = absurd (omega (arith, none))

pub pieces_more : (lengths bytes payload : List ℕ) → sum lengths ≡ length bytes
    → pieces (lengths ++ length payload ∷ []) (bytes ++ payload) ≡ pieces lengths bytes ++ payload ∷ []
pieces_more [] bytes payload whole =
    ap (λ (l : List ℕ). take (length payload) (l ++ payload) ∷ []) (no_bytes bytes whole)
    ∙ ap (λ (l : List ℕ). l ∷ []) (take_all (length payload) payload (omega arith))
pieces_more (n ∷ lengths) bytes payload whole =
    let less : n ≤ length bytes = omega (arith, whole, sum-cons n lengths) in
    ap₂
    (λ (l : List ℕ) (ls : List (List ℕ)). l ∷ ls)
    (take-append-le n bytes payload less)
    (ap (λ (l : List ℕ). pieces (lengths ++ length payload ∷ []) l) (drop-append-le n bytes payload less)
    ∙ pieces_more lengths (drop n bytes) payload (omega (arith, whole, sum-cons n lengths, length-drop n bytes)))

pub sum_more : (lengths : List ℕ) (n : ℕ) → sum (lengths ++ n ∷ []) ≡ sum lengths + n
sum_more lengths n =
    let all : sum (lengths ++ n ∷ []) ≡ sum lengths + (0 + n) = sum_by-append (λ (x : ℕ). x) lengths (n ∷ []) in
    omega (arith, all)

-- so many bytes of frames are there, and so many more are free
pub room_is : (lengths bytes : List ℕ) (capacity n : ℕ)
    → sum lengths ≡ length bytes → length bytes + 5 * length lengths ≤ capacity → n < 2 ^ 32
    → nat_le (n + 5) (capacity - (length bytes + 5 * length lengths))
    ≡ has_room_behind capacity (pieces lengths bytes) n
room_is lengths bytes capacity n whole fits small =
    let size : frames_size (pieces lengths bytes) ≡ length bytes + 5 * length lengths =
    pieces_size lengths bytes whole in
    grind (arith, nat_tests, size, fits, small)

pub room_gives : (lengths bytes : List ℕ) (capacity n : ℕ)
    → sum lengths ≡ length bytes → IsTrue (has_room_behind capacity (pieces lengths bytes) n)
    → length bytes + 5 * length lengths + (n + 5) ≤ capacity
room_gives lengths bytes capacity n whole room =
    let size : frames_size (pieces lengths bytes) ≡ length bytes + 5 * length lengths =
    pieces_size lengths bytes whole in
    let fits : frames_size (pieces lengths bytes) + frame_size n ≤ capacity = grind (arith, nat_tests, room) in
    omega (arith, size, fits)
