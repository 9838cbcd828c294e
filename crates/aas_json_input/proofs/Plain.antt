-- A string in which each byte stands for itself is read as what stands between its quotes, and a number as its value.
use Rattle.std.proofs.Common.{◌≡◌, ℕ, Bool, true, List, length, [], ◌∷◌, ◌++◌, Option, Some, None, sym, ap, ◌∙◌, arith, append-nil}
use Rattle.std.specs.Prelude.{if◌then◌else◌, option_and_then, option_map, IfSome}
use Rattle.std.specs.Str.{IsUtf8}
use Rattle.std.proofs.lemmas.Str.{is_utf8-from_IsUtf8}
use Rattle.json.specs.Json as json
use Rattle.json.specs.Lex.{tokens}
use Rattle.json.specs.Print.{print_from, ArePrintable, IsNumber}
use Rattle.json.specs.Token.{number as number_token}
use Rattle.json.specs.Written.{PlainBetween}
use Rattle.json.proofs.Printed.Plain.{escape_on_plain}
use Rattle.json.proofs.Printed.Tokens.{tokens-print}
use Rattle.serde_json.specs.Data.{number, string}
use Rattle.serde_json.specs.Read.{max_depth, number_of, of_json, read}
use Rattle.serde_json.specs.View.{number_view}
use Rattle.serde_json.specs.Written.{compact_text}
use Rattle.serde_json.specs.declared.number.Number.{Number}
use Rattle.aas_json_spelling.specs.Reading.{reading}
use Rattle.aas_json_spelling.proofs.Back.{read_back, text_utf8}

pub reads_plain : (bytes s : List ℕ) → bytes ≡ 34 ∷ (s ++ 34 ∷ []) → PlainBetween s 0 (length s) → IsUtf8 s → reading bytes ≡ Some (string s)
reads_plain bytes s quoted plain utf8 =
    let written : 34 ∷ (s ++ 34 ∷ []) ≡ compact_text (string s) = ap (λ t. 34 ∷ (t ++ 34 ∷ [])) (sym (escape_on_plain true s plain)) in
    ap reading (quoted ∙ written)
    ∙ ap (λ (b : Bool). if b then read (compact_text (string s)) else None) (is_utf8-from_IsUtf8 (compact_text (string s)) (text_utf8 (string s) utf8))
    ∙ read_back (string s) tt tt (omega arith)

-- the one token of a number
one_token : (s : List ℕ) → IsNumber s → tokens s ≡ number_token s ∷ []
unfolding print_from ArePrintable
one_token s is_number = ap tokens (sym (append-nil s)) ∙ tokens-print (number_token s ∷ []) (is_number, tt)

pub reads_number : (s : List ℕ) (found : Option Number) → IsNumber s → IsUtf8 s → IfSome found (λ n. number_of s ≡ Some (number_view n)) → IfSome found (λ n. reading s ≡ Some (number (number_view n)))
unfolding number_of json.value
reads_number s None is_number utf8 value = tt
reads_number s (Some n) is_number utf8 value =
    ap (λ (b : Bool). if b then read s else None) (is_utf8-from_IsUtf8 s utf8)
    ∙ ap (λ ts. option_and_then of_json (option_and_then (λ p. json.if_last p.0 p.1) (json.value max_depth ts))) (one_token s is_number)
    ∙ ap (option_map number) value
