-- What is cut for a media type.
use Rattle.std.specs.Prelude.{ℕ, Bool, List, Option}
use Rattle.aas_lexical_forms.specs.Cut.{after_lit, after_one, after_any, after_run, cut_all, cut_then, cut_either, cut_many}
use Rattle.aas_lexical.specs.Media.{is_token_byte, is_space, is_printable, is_plain, is_lead, is_continuation}
use Rattle.aas_lexical.specs.declared.media.MediaByte.{MediaByte}
use Rattle.aas_lexical.specs.declared.media.MediaByte.TheVariants.{Token, Space, Printable, Plain, Lead, Continuation}

abbrev pub is_in : MediaByte → ℕ → Bool
is_in Token = is_token_byte
is_in Space = is_space
is_in Printable = is_printable
is_in Plain = is_plain
is_in Lead = is_lead
is_in Continuation = is_continuation

abbrev pub after_high : List ℕ → Option (List ℕ)
after_high = cut_then (after_one is_lead) (after_one is_continuation)

abbrev pub after_pair : List ℕ → Option (List ℕ)
after_pair = cut_then (after_lit "\\") (cut_either (after_one is_printable) after_high)

abbrev pub after_quoted_character : List ℕ → Option (List ℕ)
after_quoted_character = cut_either (after_one is_plain) (cut_either after_high after_pair)

abbrev pub after_quoted_characters : List ℕ → List ℕ
after_quoted_characters = cut_many after_quoted_character

abbrev pub after_quoted : List ℕ → Option (List ℕ)
after_quoted = cut_then (after_lit "\"") (cut_then (cut_all after_quoted_characters) (after_lit "\""))

abbrev pub after_value : List ℕ → Option (List ℕ)
after_value = cut_either (after_run is_token_byte) after_quoted

abbrev pub after_parameter : List ℕ → Option (List ℕ)
after_parameter = cut_then (cut_all (after_any is_space)) (cut_then (after_lit ";") (cut_then (cut_all (after_any is_space))
    (cut_then (after_run is_token_byte) (cut_then (after_lit "=") after_value))))

abbrev pub after_parameters : List ℕ → List ℕ
after_parameters = cut_many after_parameter

abbrev pub after_media_type : List ℕ → Option (List ℕ)
after_media_type = cut_then (after_run is_token_byte) (cut_then (after_lit "/") (cut_then (after_run is_token_byte) (cut_all after_parameters)))
