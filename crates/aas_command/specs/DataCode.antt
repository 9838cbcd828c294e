-- JSON data told apart by a code.
use Rattle.std.specs.Prelude.{◌≡◌, ◌⊎◌, ℕ, ℤ, List, Float}
use Rattle.std.proofs.Common.{inl, inr, refl, ap, ap₂, arith}
use Rattle.std.specs.Coded.{Coded, code_by, coded_bool, coded_list, coded_ℕ, coded_ℤ, coded⊎}
use base.Stored.{Gv, gnil, gnum, gcons, coded_float}
use Rattle.serde_json.specs.Data.{Num, unsigned, negative, float, Data, null, boolean, number, string, array, object}
use Rattle.serde_json.specs.Data.{Items, no_items, item, Members, no_members, member}

-- ---- numbers and texts

abbrev by_sign : Num → ℕ ⊎ (ℤ ⊎ Float)
by_sign (unsigned n) = inl n
by_sign (negative z) = inr (inl z)
by_sign (float x) = inr (inr x)

abbrev from_sign : ℕ ⊎ (ℤ ⊎ Float) → Num
from_sign (inl n) = unsigned n
from_sign (inr (inl z)) = negative z
from_sign (inr (inr x)) = float x

pub from_sign-by_sign : (n : Num) → from_sign (by_sign n) ≡ n
from_sign-by_sign (unsigned n) = refl
from_sign-by_sign (negative z) = refl
from_sign-by_sign (float x) = refl

abbrev number_code : Coded Num
number_code =
    code_by (ℕ ⊎ (ℤ ⊎ Float)) (coded⊎ coded_ℕ (coded⊎ coded_ℤ coded_float)) by_sign from_sign from_sign-by_sign

abbrev text_code : Coded (List ℕ)
text_code = coded_list coded_ℕ

-- ---- values: their kind, and what they hold

abbrev kind : Data → ℕ
kind null = 0
kind (boolean b) = 1
kind (number n) = 2
kind (string s) = 3
kind (array ds) = 4
kind (object ms) = 5

abbrev mutual
  content : Data → Gv
  content null = gnil
  content (boolean b) = coded_bool.code b
  content (number n) = number_code.code n
  content (string s) = text_code.code s
  content (array ds) = items ds
  content (object ms) = members ms

  items : Items → Gv
  items no_items = gnil
  items (item d ds) = gcons (gcons (gnum (kind d)) (content d)) (items ds)

  members : Members → Gv
  members no_members = gnil
  members (member k d ms) = gcons (text_code.code k) (gcons (gcons (gnum (kind d)) (content d)) (members ms))

mutual
  one_data : (c d : Data) → kind c ≡ kind d → content c ≡ content d → c ≡ d
  one_data null null k e = refl
  one_data (boolean a) (boolean b) k e = ap boolean (coded_bool.inj a b e)
  one_data (number m) (number n) k e = ap number (number_code.inj m n e)
  one_data (string s) (string t) k e = ap string (text_code.inj s t e)
  one_data (array cs) (array ds) k e = ap array (one_items cs ds e)
  one_data (object ls) (object ms) k e = ap object (one_members ls ms e)
  one_data c d k e = absurd (omega (arith, k))

  one_items : (cs ds : Items) → items cs ≡ items ds → cs ≡ ds
  one_items no_items no_items e = refl
  one_items no_items (item d ds) e = absurd (cc)
  one_items (item c cs) no_items e = absurd (cc)
  one_items (item c cs) (item d ds) e = ap₂ item (one_data c d (cc) (cc)) (one_items cs ds (cc))

  one_members : (ls ms : Members) → members ls ≡ members ms → ls ≡ ms
  one_members no_members no_members e = refl
  one_members no_members (member k d ms) e = absurd (cc)
  one_members (member j c ls) no_members e = absurd (cc)
  one_members (member j c ls) (member k d ms) e =
      let names : j ≡ k = text_code.inj j k (cc) in
      let values : c ≡ d = one_data c d (cc) (cc) in
      let others : ls ≡ ms = one_members ls ms (cc) in
      cc

pub same_data : (c d : Data) → gcons (gnum (kind c)) (content c) ≡ gcons (gnum (kind d)) (content d) → c ≡ d
same_data c d e = one_data c d (cc) (cc)

abbrev pub data_code : Coded Data
data_code = record { code = λ d. gcons (gnum (kind d)) (content d); inj = same_data }
