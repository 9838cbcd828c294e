-- No number is broken exactly where each is whole.
use Rattle.std.proofs.Common.{◌≡◌, ℕ, ◌+◌, ◌^◌, pos, negsuc, [], ◌∷◌, Bool, true, false, Option, Some, None}
use Rattle.std.proofs.Common.{refl, lt-ltb}
use Rattle.std.proofs.lemmas.Bool.{ltb-true}
use Rattle.std.specs.Prelude.{if◌then◌else◌}
use Rattle.serde_json.specs.Data.{Num, unsigned, negative, float, Data, null, boolean, number, string, array, object}
use Rattle.serde_json.specs.Data.{Items, no_items, item, Members, no_members, member}
use Rattle.aas_json_table.specs.Rows.{Pointer, Token, in_member, in_item, below, first_of}
use Rattle.aas_json_spelling.specs.Values.{HasWholeNumbers, HaveWholeNumbers, IsWholeNumber, MembersHaveWholeNumbers}
use Rattle.aas_json_spelling.proofs.Fits.{first_none, map_none}
use Rattle.aas_api.specs.Numbers.{broken_number, broken_number_of_items, broken_number_of_members, is_whole}

-- ---- none is broken

whole : (n : Num) → is_whole n ≡ true → IsWholeNumber n
whole (unsigned n) e = ltb-true n (2 ^ 64) e
whole (negative (pos n)) e = cc
whole (negative (negsuc n)) e = ltb-true n (2 ^ 63) e
whole (float x) e = cc

whole_number : (n : Num) → broken_number (number n) ≡ None → IsWholeNumber n
whole_number n e = by_test (is_whole n) refl e
  where
    by_test : (b : Bool)
        → is_whole n ≡ b → (let found : Option Pointer = if b then None else Some [] in found ≡ None) → IsWholeNumber n
    by_test true is e = whole n is
    by_test false is e = cc

mutual
  pub unbroken : (d : Data) → broken_number d ≡ None → HasWholeNumbers d
  unbroken null e = tt
  unbroken (boolean b) e = tt
  unbroken (number n) e = whole_number n e
  unbroken (string s) e = tt
  unbroken (array ds) e = unbroken_items ds 0 e
  unbroken (object ms) e = unbroken_members ms e

  unbroken_items : (ds : Items) (n : ℕ) → broken_number_of_items ds n ≡ None → HaveWholeNumbers ds
  unbroken_items no_items n e = tt
  unbroken_items (item d ds) n e =
      let both = first_none (below (in_item n) (broken_number d)) (broken_number_of_items ds (n + 1)) e in
      (unbroken d (map_none (λ p. in_item n ∷ p) (broken_number d) both.0), unbroken_items ds (n + 1) both.1)

  unbroken_members : (ms : Members) → broken_number_of_members ms ≡ None → MembersHaveWholeNumbers ms
  unbroken_members no_members e = tt
  unbroken_members (member k d ms) e =
      let both = first_none (below (in_member k) (broken_number d)) (broken_number_of_members ms) e in
      (unbroken d (map_none (λ p. in_member k ∷ p) (broken_number d) both.0), unbroken_members ms both.1)

-- ---- each is whole

is_whole_true : (n : Num) → IsWholeNumber n → is_whole n ≡ true
is_whole_true (unsigned n) is = lt-ltb n (2 ^ 64) is
is_whole_true (negative (pos n)) is = absurd is
is_whole_true (negative (negsuc n)) is = lt-ltb n (2 ^ 63) is
is_whole_true (float x) is = absurd is

none_of : (t : Token) (here later : Option Pointer) → here ≡ None → later ≡ None → first_of (below t here) later ≡ None
none_of t None later is e = e
none_of t (Some p) later is e = cc

mutual
  pub none_broken : (d : Data) → HasWholeNumbers d → broken_number d ≡ None
  none_broken null is = refl
  none_broken (boolean b) is = refl
  none_broken (number n) is = rw (is_whole_true n is) refl
  none_broken (string s) is = refl
  none_broken (array ds) is = no_broken_item ds 0 is
  none_broken (object ms) is = no_broken_member ms is

  no_broken_item : (ds : Items) (n : ℕ) → HaveWholeNumbers ds → broken_number_of_items ds n ≡ None
  no_broken_item no_items n is = refl
  no_broken_item (item d ds) n is =
      none_of (in_item n) (broken_number d) (broken_number_of_items ds (n + 1))
      (none_broken d is.0) (no_broken_item ds (n + 1) is.1)

  no_broken_member : (ms : Members) → MembersHaveWholeNumbers ms → broken_number_of_members ms ≡ None
  no_broken_member no_members is = refl
  no_broken_member (member k d ms) is =
      none_of (in_member k) (broken_number d) (broken_number_of_members ms)
      (none_broken d is.0) (no_broken_member ms is.1)
