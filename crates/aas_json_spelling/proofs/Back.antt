-- The compact text of a value reads back as the value, where its names rise, its numbers are whole and it nests at most 127 deep.
use Rattle.std.proofs.Common.{◌≡◌, ℕ, pos, negsuc, zero, suc, ◌<◌, ◌≤◌, max, ◌==◌, ◌/◌, ◌%◌, if◌then◌else◌, nat_lt, Bool, true, false, cond, List, [], ◌∷◌, ◌++◌, get_or, Some, option_map, option_and_then, IsUtf8, decimal, refl, sym, ap, ap₂, ◌∙◌, arith, append-nil}
use Rattle.std.specs.Fmt.{digits, digits_onto, digit_glyph}
use Rattle.std.proofs.lemmas.Str.{IsUtf8-append, IsUtf8-nil}
use Rattle.std.proofs.lemmas.Fmt.{first_decimal}
use Rattle.std.proofs.lemmas.Bool.{ne_eqb, and_from}
use Rattle.json.specs.Json as json
use Rattle.json.specs.Tree as tree
use Rattle.json.specs.Lex.{tokens}
use Rattle.json.specs.Word.{after_number, after_whole, after_fraction, after_exponent}
use Rattle.json.specs.Print.{IsNumber, quoted}
use Rattle.json.proofs.Printed.Tokens.{tokens-print}
use Rattle.json.proofs.Printed.Trees.{value-json_tokens, ArePrintable-json_tokens}
use Rattle.json.proofs.Printed.Decimals.{IsNumber-decimal}
use Rattle.json.proofs.Printed.Utf8.{IsUtf8-quoted, IsUtf8-are_ascii, IsUtf8-boolean}
use Rattle.serde_json.specs.Data.{Num, unsigned, negative, float, Data, null, boolean, number, string, array, object, Items, no_items, item, Members, no_members, member, put, depth, items_depth, members_depth}
use Rattle.serde_json.specs.Read.{of_json, of_items, of_members, read, number_of, max_depth}
use Rattle.serde_json.specs.Written.{number_text, outline, items_outline, members_outline, compact_text, items_text, members_text, comma_if}
use Rattle.serde_json.proofs.Numbers.{number_of-decimal, number_of-negative}
use Rattle.serde_json.proofs.Texts.{print-outline}
use Rattle.aas_json_spelling.proofs.Puts.{then_members, then_none, then_one_more, AllBelow, none_below, put_after, all_below_more}
use Rattle.aas_json_spelling.specs.Values.{IsText, AreTexts, HasTexts, IsOrdered, AreOrdered, HasOrder, IsWholeNumber, HasWholeNumbers, HaveWholeNumbers, MembersHaveWholeNumbers}

-- ---- numbers

negative_number : (ds : List ℕ) → 48 < get_or ds 0 0 → IsNumber ds → IsNumber (45 ∷ ds)
unfolding after_number
negative_number [] h n = absurd (omega arith)
negative_number (x ∷ ds) h n =
    let other : (x == 45) ≡ false = ne_eqb x 45 (λ e. omega arith) in
    sym (ap (λ b. option_and_then after_exponent (option_and_then after_fraction (after_whole (cond b ds (x ∷ ds))))) other) ∙ n

is_number : (n : Num) → IsWholeNumber n → IsNumber (number_text n)
is_number (unsigned n) h = IsNumber-decimal n h
is_number (negative (pos n)) h = absurd h
is_number (negative (negsuc n)) h = negative_number (decimal (suc n)) (first_decimal (suc n) (omega arith) (omega (arith, h))) (IsNumber-decimal (suc n) (omega (arith, h)))
is_number (float x) h = absurd h

of_number : (n : Num) → IsWholeNumber n → number_of (number_text n) ≡ Some n
of_number (unsigned n) h = number_of-decimal n h
of_number (negative (pos n)) h = absurd h
of_number (negative (negsuc n)) h = number_of-negative n h
of_number (float x) h = absurd h

-- ---- the value of a value's outline

mutual
  of_outline : (d : Data) → IsOrdered d → HasWholeNumbers d → of_json (outline d) ≡ Some d
  of_outline null o w = refl
  of_outline (boolean b) o w = refl
  of_outline (number n) o w = ap (option_map number) (of_number n w)
  of_outline (string s) o w = refl
  of_outline (array ds) o w = ap (option_map array) (of_items_outline ds o w)
  of_outline (object ms) o w = ap (option_map object) (of_members_outline ms no_members o w (none_below ms))

  of_items_outline : (ds : Items) → AreOrdered ds → HaveWholeNumbers ds → of_items (items_outline ds) ≡ Some ds
  of_items_outline no_items o w = refl
  of_items_outline (item d ds) o w =
      ap (λ r. option_and_then (λ e. option_map (item e) (of_items (items_outline ds))) r) (of_outline d o.0 w.0) ∙ ap (option_map (item d)) (of_items_outline ds o.1 w.1)

  of_members_outline : (ms before : Members) → HasOrder ms → MembersHaveWholeNumbers ms → AllBelow before ms → of_members (members_outline ms) before ≡ Some (then_members before ms)
  of_members_outline no_members before o w below = ap Some (sym (then_none before))
  of_members_outline (member k d ms) before o w below =
      ap (λ r. option_and_then (λ e. of_members (members_outline ms) (put k e before)) r) (of_outline d o.1 w.0)
      ∙ ap (of_members (members_outline ms)) (put_after before k d below.0)
      ∙ of_members_outline ms (then_members before (member k d no_members)) o.2 w.1 (all_below_more before ms k d below.1 o.0)
      ∙ ap Some (then_one_more before k d ms)

mutual
  depth_outline : (d : Data) → tree.depth (outline d) ≡ depth d
  depth_outline null = refl
  depth_outline (boolean b) = refl
  depth_outline (number n) = refl
  depth_outline (string s) = refl
  depth_outline (array ds) = ap suc (items_depth_outline ds)
  depth_outline (object ms) = ap suc (members_depth_outline ms)

  items_depth_outline : (ds : Items) → tree.items_depth (items_outline ds) ≡ items_depth ds
  items_depth_outline no_items = refl
  items_depth_outline (item d ds) = ap₂ max (depth_outline d) (items_depth_outline ds)

  members_depth_outline : (ms : Members) → tree.members_depth (members_outline ms) ≡ members_depth ms
  members_depth_outline no_members = refl
  members_depth_outline (member k d ms) = ap₂ max (depth_outline d) (members_depth_outline ms)

mutual
  numbers_outline : (d : Data) → HasWholeNumbers d → tree.HasNumbers (outline d)
  numbers_outline null w = tt
  numbers_outline (boolean b) w = tt
  numbers_outline (number n) w = is_number n w
  numbers_outline (string s) w = tt
  numbers_outline (array ds) w = items_numbers_outline ds w
  numbers_outline (object ms) w = members_numbers_outline ms w

  items_numbers_outline : (ds : Items) → HaveWholeNumbers ds → tree.ItemsHaveNumbers (items_outline ds)
  items_numbers_outline no_items w = tt
  items_numbers_outline (item d ds) w = (numbers_outline d w.0, items_numbers_outline ds w.1)

  members_numbers_outline : (ms : Members) → MembersHaveWholeNumbers ms → tree.MembersHaveNumbers (members_outline ms)
  members_numbers_outline no_members w = tt
  members_numbers_outline (member k d ms) w = (numbers_outline d w.0, members_numbers_outline ms w.1)

-- The compact text reads back.
pub read_back : (d : Data) → IsOrdered d → HasWholeNumbers d → depth d ≤ max_depth → read (compact_text d) ≡ Some d
read_back d o w shallow =
    let j = outline d in
    let ts = tree.json_tokens j in
    let same : tokens (compact_text d) ≡ ts = ap tokens (sym (print-outline d)) ∙ tokens-print ts (ArePrintable-json_tokens j (numbers_outline d w)) in
    let whole : json.value max_depth (tokens (compact_text d)) ≡ Some (j, []) =
    ap (json.value max_depth) (same ∙ sym (append-nil ts)) ∙ value-json_tokens j max_depth [] (omega (arith, shallow, depth_outline d)) in
    ap (λ r. option_and_then of_json (option_and_then (λ p. json.if_last p.0 p.1) r)) whole ∙ of_outline d o w

-- ---- the text is UTF-8

one_byte : (x : ℕ) (xs : List ℕ) → nat_lt x 128 ≡ true → IsUtf8 xs → IsUtf8 (x ∷ xs)
one_byte x xs small u = IsUtf8-append (x ∷ []) xs (IsUtf8-are_ascii (x ∷ []) (and_from (nat_lt x 128) true small refl)) u

glyph_small : (d : ℕ) → d < 10 → nat_lt (digit_glyph false d) 128 ≡ true
glyph_small d low = grind arith

digits_utf8 : (k n : ℕ) (later : List ℕ) → IsUtf8 later → IsUtf8 (digits_onto k 10 false n later)
digits_utf8 zero n later u = u
digits_utf8 (suc k) n later u =
    let more = digit_glyph false (n % 10) ∷ later in
    let here = one_byte (digit_glyph false (n % 10)) later (glyph_small (n % 10) (omega arith)) u in
    elim (n / 10 == 0) as (λ b. IsUtf8 (if b then more else digits_onto k 10 false (n / 10) more)) [ true ↦ here | false ↦ digits_utf8 k (n / 10) more here ]

decimal_utf8 : (n : ℕ) → IsUtf8 (decimal n)
unfolding digits
decimal_utf8 n = digits_utf8 64 n [] IsUtf8-nil

number_utf8 : (n : Num) → IsUtf8 (number_text n)
number_utf8 (unsigned n) = decimal_utf8 n
number_utf8 (negative (pos n)) = decimal_utf8 n
number_utf8 (negative (negsuc n)) = one_byte 45 (decimal (suc n)) refl (decimal_utf8 (suc n))
number_utf8 (float x) = IsUtf8-nil

comma_utf8 : (b : Bool) → IsUtf8 (comma_if b)
comma_utf8 true = IsUtf8-are_ascii (44 ∷ []) refl
comma_utf8 false = IsUtf8-nil

mutual
  -- The compact text is UTF-8.
  pub text_utf8 : (d : Data) → IsText d → IsUtf8 (compact_text d)
  text_utf8 null u = IsUtf8-are_ascii (110 ∷ 117 ∷ 108 ∷ 108 ∷ []) refl
  text_utf8 (boolean b) u = IsUtf8-boolean b
  text_utf8 (number n) u = number_utf8 n
  text_utf8 (string s) u = IsUtf8-quoted s u
  text_utf8 (array ds) u = one_byte 91 (items_text false ds) refl (items_utf8 false ds u)
  text_utf8 (object ms) u = one_byte 123 (members_text false ms) refl (members_utf8 false ms u)

  items_utf8 : (later : Bool) (ds : Items) → AreTexts ds → IsUtf8 (items_text later ds)
  items_utf8 later no_items u = IsUtf8-are_ascii (93 ∷ []) refl
  items_utf8 later (item d ds) u = IsUtf8-append (comma_if later) (compact_text d ++ items_text true ds) (comma_utf8 later) (IsUtf8-append (compact_text d) (items_text true ds) (text_utf8 d u.0) (items_utf8 true ds u.1))

  members_utf8 : (later : Bool) (ms : Members) → HasTexts ms → IsUtf8 (members_text later ms)
  members_utf8 later no_members u = IsUtf8-are_ascii (125 ∷ []) refl
  members_utf8 later (member k d ms) u =
      let rest = compact_text d ++ members_text true ms in
      IsUtf8-append (comma_if later) (quoted k ++ 58 ∷ rest) (comma_utf8 later)
      (IsUtf8-append (quoted k) (58 ∷ rest) (IsUtf8-quoted k u.0) (one_byte 58 rest refl (IsUtf8-append (compact_text d) (members_text true ms) (text_utf8 d u.1) (members_utf8 true ms u.2))))
