-- Numbers in digits.
use Rattle.std.proofs.Common.{◌≡◌, ℕ, ◌<◌, ◌^◌, List, sym, ap, ◌∙◌, arith}
use Rattle.std.specs.Prelude.{decimal}
use Rattle.std.specs.Str.Parse.{digits_value}
use Rattle.std.proofs.lemmas.Fmt.{decimal_is_IsNumeral}
use Rattle.aas_target.specs.Values.{IsLimit, IsPlaceCursor}

-- a text writes one number alone
pub one_number : (text : List ℕ) (m n : ℕ) → m < 2 ^ 64 → n < 2 ^ 64 → text ≡ decimal m → text ≡ decimal n → m ≡ n
one_number text m n small_m small_n is other =
    sym (decimal_is_IsNumeral m small_m).1 ∙ ap (digits_value 10) (sym is ∙ other) ∙ (decimal_is_IsNumeral n small_n).1

pub one_limit : (text : List ℕ) (m n : ℕ) → m < 2 ^ 64 → text ≡ decimal m → IsLimit text n → m ≡ n
one_limit text m n small is limit = one_number text m n small (omega (arith, limit.2)) is limit.0

pub one_place : (text : List ℕ) (m n : ℕ) → m < 2 ^ 64 → text ≡ decimal m → IsPlaceCursor text n → m ≡ n
one_place text m n small is place = one_number text m n small (omega (arith, place.2)) is place.0
