-- What is cut for a name, a language and a version.
use Rattle.std.specs.Prelude.{ℕ, List, Option}
use Rattle.std.specs.Char.{is_ascii_digit, is_ascii_alphabetic, is_ascii_alphanumeric}
use Rattle.aas_lexical_forms.specs.Cut.{after_lit, after_one, after_any, after_run, cut_all, cut_then, cut_either, cut_many, cut_up_to}
use Rattle.aas_lexical.specs.Names.{is_nonzero_digit, is_name_character, most_name_characters}

abbrev pub after_subtag : List ℕ → Option (List ℕ)
after_subtag = cut_then (after_lit "-") (cut_up_to 8 (after_run is_ascii_alphanumeric))

abbrev pub after_subtags : List ℕ → List ℕ
after_subtags = cut_many after_subtag

abbrev pub after_language : List ℕ → Option (List ℕ)
after_language = cut_then (cut_up_to 8 (after_run is_ascii_alphabetic)) (cut_all after_subtags)

abbrev pub after_version : List ℕ → Option (List ℕ)
after_version = cut_either (after_lit "0") (cut_then (after_one is_nonzero_digit) (cut_up_to 3 (cut_all (after_any is_ascii_digit))))

abbrev pub after_name : List ℕ → Option (List ℕ)
after_name = cut_then (after_one is_ascii_alphabetic) (cut_all (after_any is_name_character))

abbrev pub after_id_short : List ℕ → Option (List ℕ)
after_id_short = cut_up_to most_name_characters after_name
