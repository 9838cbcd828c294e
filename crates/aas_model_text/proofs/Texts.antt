-- Texts, as bytes and as characters.
use Rattle.std.proofs.Common.{◌≡◌, ℕ, List, Bool, true, Decides, bytes_eq, sym, ap, ◌∙◌}
use Rattle.std.specs.Str.{chars, IsUtf8}
use Rattle.std.proofs.lemmas.Str.{encodes-chars, scalars-chars}
use Rattle.std.proofs.lemmas.Slice.Eq.{bytes_eq-Decides}
use Rattle.std.proofs.lemmas.Bool.Decides.{same_from_decides}
use lib.Utf8.{encodes, scalars}

-- two texts are the same bytes exactly where they are the same characters
pub bytes_eq-chars : (xs ys : List ℕ) → IsUtf8 xs → IsUtf8 ys → bytes_eq xs ys ≡ bytes_eq (chars xs) (chars ys)
bytes_eq-chars xs ys p q =
    let d : Decides (bytes_eq (chars xs) (chars ys)) (chars xs ≡ chars ys) = bytes_eq-Decides (chars xs) (chars ys) in
    let back : chars xs ≡ chars ys → xs ≡ ys = λ e. sym (encodes-chars xs p) ∙ (ap encodes e ∙ encodes-chars ys q) in
    same_from_decides _ _ (bytes_eq-Decides xs ys) (λ e. back (d.0 e), λ e. d.1 (ap chars e))

-- an answer that compares two lists decides whether they are equal
pub Decides-bytes_eq : (b : Bool) (xs ys : List ℕ) → b ≡ bytes_eq xs ys → Decides b (xs ≡ ys)
Decides-bytes_eq b xs ys e = rw e (bytes_eq-Decides xs ys)

-- bytes are those of their characters
pub bytes_of_chars : (bs cs : List ℕ) → IsUtf8 bs → cs ≡ chars bs → bs ≡ encodes cs
bytes_of_chars bs cs u e = sym (ap encodes e ∙ encodes-chars bs u)

-- the characters of a text are scalar values
pub scalars_of_chars : (bs cs : List ℕ) → IsUtf8 bs → cs ≡ chars bs → scalars cs ≡ true
scalars_of_chars bs cs u e = ap scalars e ∙ scalars-chars bs u
