-- JSON values (RFC 8259): strings and names are UTF-8 (section 8.1). The names of an object are distinct and rise in byte order: this profile's own rule, which any value that is read keeps.
use Rattle.std.specs.Prelude.{◌≡◌, ℕ, ◌^◌, ◌<◌, pos, negsuc, List, ⊤}
use Rattle.std.specs.Str.{IsUtf8}
use Rattle.std.specs.Ordering.{nat_cmp}
use Rattle.std.specs.declared.cmp.Ordering.TheVariants.{Less}
use Rattle.std.specs.Cmp.Lexicographic.{slice_cmp}
use Rattle.serde_json.specs.Data.{Num, unsigned, negative, float, Data, number, string, array, object, Items, no_items, item, Members, no_members, member}

abbrev mutual
  pub IsText : Data → Type 0
  IsText (string s) = IsUtf8 s
  IsText (array ds) = AreTexts ds
  IsText (object ms) = HasTexts ms
  IsText d = ⊤

  pub AreTexts : Items → Type 0
  AreTexts no_items = ⊤
  AreTexts (item d ds) = IsText d × AreTexts ds

  pub HasTexts : Members → Type 0
  HasTexts no_members = ⊤
  HasTexts (member k d ms) = IsUtf8 k × IsText d × HasTexts ms

-- each name of the members is above k
abbrev pub AreAbove : List ℕ → Members → Type 0
AreAbove k no_members = ⊤
AreAbove k (member l d ms) = (slice_cmp nat_cmp k l ≡ Less) × AreAbove k ms

abbrev mutual
  pub IsOrdered : Data → Type 0
  IsOrdered (array ds) = AreOrdered ds
  IsOrdered (object ms) = HasOrder ms
  IsOrdered d = ⊤

  pub AreOrdered : Items → Type 0
  AreOrdered no_items = ⊤
  AreOrdered (item d ds) = IsOrdered d × AreOrdered ds

  pub HasOrder : Members → Type 0
  HasOrder no_members = ⊤
  HasOrder (member k d ms) = AreAbove k ms × IsOrdered d × HasOrder ms

pub record IsValue (j : Data) : Type 0 where
  pub text : IsText j
  pub order : IsOrdered j

-- ---- numbers

-- a whole number from -2^63 to 2^64 - 1
abbrev pub IsWholeNumber : Num → Type 0
IsWholeNumber (unsigned n) = n < 2 ^ 64
IsWholeNumber (negative (pos n)) = ⊥
IsWholeNumber (negative (negsuc n)) = n < 2 ^ 63
IsWholeNumber (float x) = ⊥

-- each number is whole
abbrev mutual
  pub HasWholeNumbers : Data → Type 0
  HasWholeNumbers (number n) = IsWholeNumber n
  HasWholeNumbers (array ds) = HaveWholeNumbers ds
  HasWholeNumbers (object ms) = MembersHaveWholeNumbers ms
  HasWholeNumbers d = ⊤

  pub HaveWholeNumbers : Items → Type 0
  HaveWholeNumbers no_items = ⊤
  HaveWholeNumbers (item d ds) = HasWholeNumbers d × HaveWholeNumbers ds

  pub MembersHaveWholeNumbers : Members → Type 0
  MembersHaveWholeNumbers no_members = ⊤
  MembersHaveWholeNumbers (member k d ms) = HasWholeNumbers d × MembersHaveWholeNumbers ms
