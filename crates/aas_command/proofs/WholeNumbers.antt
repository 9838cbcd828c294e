-- A value whose numbers are whole has no float.
use Rattle.std.proofs.Common.{◌≡◌, false, refl}
use Rattle.std.proofs.lemmas.Bool.{or_from}
use Rattle.serde_json.specs.Data.{Num, unsigned, negative, float, Data, null, boolean, number, string, array, object}
use Rattle.serde_json.specs.Data.{Items, no_items, item, Members, no_members, member}
use Rattle.serde_json.specs.Find.{is_float}
use Rattle.serde_json.specs.Written.{has_float, items_have_float, members_have_float}
use Rattle.aas_json_spelling.specs.Values.{IsWholeNumber, HasWholeNumbers, HaveWholeNumbers, MembersHaveWholeNumbers}

not_float : (n : Num) → IsWholeNumber n → is_float n ≡ false
not_float (unsigned n) whole = refl
not_float (negative z) whole = refl
not_float (float x) whole = absurd whole

mutual
  pub no_float : (d : Data) → HasWholeNumbers d → has_float d ≡ false
  no_float null whole = refl
  no_float (boolean b) whole = refl
  no_float (number n) whole = not_float n whole
  no_float (string s) whole = refl
  no_float (array ds) whole = no_floats ds whole
  no_float (object ms) whole = members_no_float ms whole

  no_floats : (ds : Items) → HaveWholeNumbers ds → items_have_float ds ≡ false
  no_floats no_items whole = refl
  no_floats (item d ds) whole = or_from (has_float d) (items_have_float ds) (no_float d whole.0) (no_floats ds whole.1)

  members_no_float : (ms : Members) → MembersHaveWholeNumbers ms → members_have_float ms ≡ false
  members_no_float no_members whole = refl
  members_no_float (member k d ms) whole =
      or_from (has_float d) (members_have_float ms) (no_float d whole.0) (members_no_float ms whole.1)
