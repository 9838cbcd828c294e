-- What is cut for a binary text.
use Rattle.std.specs.Prelude.{ℕ, Bool, List, Option}
use Rattle.aas_lexical_forms.specs.Cut.{after_lit, after_one, cut_all, cut_then, cut_maybe, cut_either, cut_many}
use Rattle.aas_lexical.specs.Binary.{is_symbol, is_symbol_of_four_bits, is_symbol_of_two_bits}
use Rattle.aas_lexical.specs.declared.binary.Base64Byte.{Base64Byte}
use Rattle.aas_lexical.specs.declared.binary.Base64Byte.TheVariants.{SixBits, FourBits, TwoBits}

abbrev pub is_in : Base64Byte → ℕ → Bool
is_in SixBits = is_symbol
is_in FourBits = is_symbol_of_four_bits
is_in TwoBits = is_symbol_of_two_bits

abbrev pub after_group : List ℕ → Option (List ℕ)
after_group = cut_then (after_one is_symbol) (cut_then (after_one is_symbol) (cut_then (after_one is_symbol) (after_one is_symbol)))

abbrev pub after_groups : List ℕ → List ℕ
after_groups = cut_many after_group

abbrev pub after_two_padded : List ℕ → Option (List ℕ)
after_two_padded = cut_then (after_one is_symbol) (cut_then (after_one is_symbol_of_four_bits) (after_lit "="))

abbrev pub after_one_padded : List ℕ → Option (List ℕ)
after_one_padded = cut_then (after_one is_symbol_of_two_bits) (after_lit "==")

abbrev pub after_padded_group : List ℕ → Option (List ℕ)
after_padded_group = cut_then (after_one is_symbol) (cut_either after_two_padded after_one_padded)

abbrev pub after_base64 : List ℕ → Option (List ℕ)
after_base64 = cut_then (cut_all after_groups) (cut_maybe after_padded_group)
