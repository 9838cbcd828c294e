-- What is cut for a number.
use Rattle.std.specs.Prelude.{ℕ, Bool, List, Option}
use Rattle.std.specs.Char.{is_ascii_digit}
use Rattle.aas_lexical_forms.specs.Cut.{after_lit, after_one, after_any, after_run, cut_all, cut_then, cut_maybe, cut_either}
use Rattle.aas_lexical.specs.Numbers.{is_sign, is_exponent_mark}
use Rattle.aas_lexical.specs.Names.{is_nonzero_digit}
use Rattle.aas_lexical.specs.Times.{is_zero}
use Rattle.aas_lexical.specs.declared.number.NumberByte.{NumberByte}
use Rattle.aas_lexical.specs.declared.number.NumberByte.TheVariants.{Sign, ExponentMark, Zero, Nonzero}

abbrev pub is_in : NumberByte → ℕ → Bool
is_in Sign = is_sign
is_in ExponentMark = is_exponent_mark
is_in Zero = is_zero
is_in Nonzero = is_nonzero_digit

abbrev pub after_decimal : List ℕ → Option (List ℕ)
after_decimal = cut_then (cut_maybe (after_one is_sign))
    (cut_either (cut_then (after_run is_ascii_digit) (cut_maybe (cut_then (after_lit ".") (cut_all (after_any is_ascii_digit)))))
    (cut_then (after_lit ".") (after_run is_ascii_digit)))

abbrev pub after_exponent : List ℕ → Option (List ℕ)
after_exponent = cut_then (after_one is_exponent_mark) (cut_then (cut_maybe (after_one is_sign)) (after_run is_ascii_digit))

abbrev pub after_decimal_with_exponent : List ℕ → Option (List ℕ)
after_decimal_with_exponent = cut_then after_decimal (cut_maybe after_exponent)

abbrev pub after_integer : List ℕ → Option (List ℕ)
after_integer = cut_then (cut_maybe (after_one is_sign)) (after_run is_ascii_digit)
