-- Texts of ASCII characters.
use Rattle.std.proofs.Common.{◌≡◌, ℕ, ◌<◌, ◌^◌, List, ◌∷◌, codes, decimal, ap, ◌∙◌, refl, lit<}
use Rattle.std.specs.Str.{chars}
use Rattle.std.proofs.lemmas.Fmt.{IsAscii-decimal}
use Rattle.std.proofs.lemmas.Str.{chars-IsAscii}
use Rattle.std.proofs.lemmas.Str.Ascii.{IsAscii-cons}

pub decimal_chars : (text bytes : List ℕ) (n : ℕ) → n < 2 ^ 64 → bytes ≡ decimal n → text ≡ chars bytes → text ≡ decimal n
decimal_chars text bytes n small is spelled = spelled ∙ ap chars is ∙ chars-IsAscii (decimal n) (IsAscii-decimal n small)

-- P and a number
pub name_chars : (text bytes : List ℕ) (n : ℕ) → n < 2 ^ 64 → bytes ≡ 80 ∷ decimal n → text ≡ chars bytes → text ≡ 80 ∷ decimal n
name_chars text bytes n small is spelled =
    spelled ∙ ap chars is ∙ chars-IsAscii (80 ∷ decimal n) (IsAscii-cons 80 (decimal n) (lit< tt) (IsAscii-decimal n small))

pub urn_chars : chars (codes "urn:demo") ≡ codes "urn:demo"
unfolding chars
urn_chars = refl
