-- A line feed behind the compact text of a value is no part of what is read.
use Rattle.std.proofs.Common.{◌≡◌, ℕ, suc, pos, negsuc, ◌<◌, ◌==◌, Bool, true, false, cond, ◌&&◌, List, [], ◌∷◌, ◌++◌}
use Rattle.std.proofs.Common.{get_or, decimal, refl, sym, ap, ap₂, ◌∙◌, subst, arith, append_assoc, option_and_then}
use Rattle.std.proofs.lemmas.Bool.{ne_eqb}
use Rattle.std.proofs.lemmas.Fmt.{first_decimal}
use Rattle.json.specs.Json as json
use Rattle.json.specs.Lex.{Lexeme, token, comma, colon, string_token, lex, between, fresh, punctuate, tokens}
use Rattle.json.specs.Print.{escape, quoted, token_text, begins, ends, print_from, print, IsNumber}
use Rattle.json.specs.Print.{IsPrintable, ArePrintable}
use Rattle.json.specs.Token.{Token, begin_object, end_object, begin_array, end_array, key, string, number, boolean}
use Rattle.json.specs.Token.{null, bad}
use Rattle.json.specs.Tree as tree
use Rattle.json.specs.Word.{after_number, after_whole, after_fraction, after_exponent, ends_word, word}
use Rattle.json.proofs.Printed.Decimals.{IsNumber-decimal}
use Rattle.json.proofs.Printed.Numbers.{lex-number, in_word-ended}
use Rattle.json.proofs.Printed.Strings.{content-escape, lex-escape}
use Rattle.json.proofs.Printed.Trees.{ArePrintable-json_tokens}
use Rattle.serde_json.specs.Data as value
use Rattle.serde_json.specs.Data.{Data, Items, Members, Num}
use Rattle.serde_json.specs.Read.{max_depth, of_json, read}
use Rattle.serde_json.specs.Written.{compact_text, items_outline, members_outline, number_text, outline}
use Rattle.serde_json.proofs.Texts.{print-outline}
use Rattle.aas_json_spelling.specs.Values.{HasWholeNumbers, HaveWholeNumbers, IsWholeNumber, MembersHaveWholeNumbers}

-- ---- behind printed tokens

abbrev feed : List ℕ
feed = 10 ∷ []

-- the lexer makes nothing of a line feed behind these bytes
abbrev IsSame : List ℕ → Type 0
IsSame r = lex between (r ++ feed) ≡ lex between r

-- the lexemes of a token
abbrev lexemes : Token → List Lexeme
lexemes begin_object = token begin_object ∷ []
lexemes end_object = token end_object ∷ []
lexemes begin_array = token begin_array ∷ []
lexemes end_array = token end_array ∷ []
lexemes (key s) = token (string s) ∷ colon ∷ []
lexemes (string s) = token (string s) ∷ []
lexemes (number s) = token (number s) ∷ []
lexemes (boolean b) = token (boolean b) ∷ []
lexemes null = token null ∷ []
lexemes bad = []

lex_quoted : (s r : List ℕ) → lex between (quoted s ++ r) ≡ token (string s) ∷ lex between r
unfolding lex
lex_quoted s r =
    ap (λ l. lex between (34 ∷ l)) (append_assoc (escape s) (34 ∷ []) r)
    ∙ ap₂ (λ o l. token (string_token o) ∷ l) (content-escape s r) (lex-escape s r)

lex_token : (t : Token) (r : List ℕ) → IsPrintable t → (ends t ≡ true → ends_word r ≡ true)
    → lex between (token_text t ++ r) ≡ lexemes t ++ lex between r
unfolding lex word
lex_token begin_object r h ended = refl
lex_token end_object r h ended = refl
lex_token begin_array r h ended = refl
lex_token end_array r h ended = refl
lex_token (key s) r h ended = ap (lex between) (append_assoc (quoted s) (58 ∷ []) r) ∙ lex_quoted s (58 ∷ r)
lex_token (string s) r h ended = lex_quoted s r
lex_token (number s) r h ended = lex-number s r h (ended refl)
lex_token (boolean true) r h ended =
    ap₂ (λ b l. token (cond b (boolean true) bad) ∷ l) (ended refl) (in_word-ended r (ended refl))
lex_token (boolean false) r h ended =
    ap₂ (λ b l. token (cond b (boolean false) bad) ∷ l) (ended refl) (in_word-ended r (ended refl))
lex_token null r h ended = ap₂ (λ b l. token (cond b null bad) ∷ l) (ended refl) (in_word-ended r (ended refl))
lex_token bad r h ended = absurd h

-- behind a value stands a comma, a closing bracket, a line feed or nothing
word_ends : (ts : List Token) → ends_word (print_from true ts) ≡ true
unfolding print_from
word_ends [] = refl
word_ends (begin_object ∷ ts) = refl
word_ends (end_object ∷ ts) = refl
word_ends (begin_array ∷ ts) = refl
word_ends (end_array ∷ ts) = refl
word_ends (key s ∷ ts) = refl
word_ends (string s ∷ ts) = refl
word_ends (number s ∷ ts) = refl
word_ends (boolean b ∷ ts) = refl
word_ends (null ∷ ts) = refl
word_ends (bad ∷ ts) = refl

-- so it does with a line feed
fed_ends : (r : List ℕ) → ends_word r ≡ true → ends_word (r ++ feed) ≡ true
fed_ends [] h = refl
fed_ends (x ∷ r) h = h

token_same : (t : Token) (r : List ℕ)
    → IsPrintable t → (ends t ≡ true → ends_word r ≡ true) → IsSame r → IsSame (token_text t ++ r)
token_same t r h ended same =
    ap (lex between) (append_assoc (token_text t) r feed)
    ∙ lex_token t (r ++ feed) h (λ e. fed_ends r (ended e))
    ∙ ap (λ l. lexemes t ++ l) same ∙ sym (lex_token t r h ended)

comma_same : (b : Bool) (r : List ℕ) → IsSame r → IsSame (cond b (44 ∷ []) [] ++ r)
unfolding lex
comma_same true r same = ap (λ l. comma ∷ l) same
comma_same false r same = same

print_same : (c : Bool) (ts : List Token) → ArePrintable ts → IsSame (print_from c ts)
unfolding lex print_from ArePrintable
print_same c [] h = refl
print_same c (t ∷ ts) h = comma_same (c && begins t) _
    (token_same t (print_from (ends t) ts) h.0
    (λ e. ap (λ b. ends_word (print_from b ts)) e ∙ word_ends ts) (print_same (ends t) ts h.1))

-- ---- behind the text of a value

negative_number : (ds : List ℕ) → 48 < get_or ds 0 0 → IsNumber ds → IsNumber (45 ∷ ds)
unfolding after_number
negative_number [] h n = absurd (omega arith)
negative_number (x ∷ ds) h n =
    let other : (x == 45) ≡ false = ne_eqb x 45 (λ e. omega arith) in
    sym
    (ap (λ b. option_and_then after_exponent (option_and_then after_fraction (after_whole (cond b ds (x ∷ ds))))) other)
    ∙ n

is_number : (n : Num) → IsWholeNumber n → IsNumber (number_text n)
is_number (value.unsigned n) h = IsNumber-decimal n h
is_number (value.negative (pos n)) h = absurd h
is_number (value.negative (negsuc n)) h =
    negative_number (decimal (suc n)) (first_decimal (suc n) (omega arith) (omega (arith, h)))
    (IsNumber-decimal (suc n) (omega (arith, h)))
is_number (value.float x) h = absurd h

mutual
  numbers : (d : Data) → HasWholeNumbers d → tree.HasNumbers (outline d)
  numbers value.null w = tt
  numbers (value.boolean b) w = tt
  numbers (value.number n) w = is_number n w
  numbers (value.string s) w = tt
  numbers (value.array ds) w = item_numbers ds w
  numbers (value.object ms) w = member_numbers ms w

  item_numbers : (ds : Items) → HaveWholeNumbers ds → tree.ItemsHaveNumbers (items_outline ds)
  item_numbers value.no_items w = tt
  item_numbers (value.item d ds) w = (numbers d w.0, item_numbers ds w.1)

  member_numbers : (ms : Members) → MembersHaveWholeNumbers ms → tree.MembersHaveNumbers (members_outline ms)
  member_numbers value.no_members w = tt
  member_numbers (value.member k d ms) w = (numbers d w.0, member_numbers ms w.1)

pub read_fed : (d : Data) → HasWholeNumbers d → read (compact_text d ++ 10 ∷ []) ≡ read (compact_text d)
read_fed d w =
    let ts = tree.json_tokens (outline d) in
    let printed : tokens (print ts ++ feed) ≡ tokens (print ts) =
    ap (punctuate fresh) (print_same false ts (ArePrintable-json_tokens (outline d) (numbers d w))) in
    let same : tokens (compact_text d ++ feed) ≡ tokens (compact_text d) =
    subst (λ l. tokens (l ++ feed) ≡ tokens l) (print-outline d) printed in
    ap (λ ts. option_and_then of_json (option_and_then (λ p. json.if_last p.0 p.1) (json.value max_depth ts))) same
