-- No float comes in where none is put.
use Rattle.std.proofs.Common.{◌≡◌, ℕ, List, [], ◌∷◌, ◌++◌, ◌||◌, false, Ordering, Less, Equal, Greater, nat_cmp, refl}
use Rattle.std.proofs.lemmas.Bool.{or_from, or_parts}
use Rattle.std.specs.Cmp.Lexicographic.{slice_cmp}
use Rattle.std.specs.Ordering.{match_ordering}
use Rattle.serde_json.specs.Data.{Data, Members, no_members, member, put}
use Rattle.serde_json.specs.View.{view, items_view}
use Rattle.serde_json.specs.Written.{has_float, items_have_float, members_have_float}
use Rattle.serde_json.specs.declared.value.Value.{Value}

put_at : (o : Ordering) (k : List ℕ) (d : Data) (l : List ℕ) (e : Data) (ms : Members) → has_float d ≡ false → has_float e || members_have_float ms ≡ false → members_have_float (put k d ms) ≡ false
    → members_have_float (match_ordering o (member k d (member l e ms)) (member l d ms) (member l e (put k d ms))) ≡ false
put_at Less k d l e ms h i later = or_from (has_float d) _ h i
put_at Equal k d l e ms h i later = or_from (has_float d) _ h (or_parts (has_float e) _ i).1
put_at Greater k d l e ms h i later = or_from (has_float e) _ (or_parts (has_float e) _ i).0 later

-- a member without a float, put among members without one
pub no_float_put : (k : List ℕ) (d : Data) (ms : Members) → has_float d ≡ false → members_have_float ms ≡ false → members_have_float (put k d ms) ≡ false
no_float_put k d no_members h i = or_from (has_float d) _ h i
no_float_put k d (member l e ms) h i = put_at (slice_cmp nat_cmp k l) k d l e ms h i (no_float_put k d ms h (or_parts (has_float e) _ i).1)

-- a value without a float, behind values without one
pub no_float_last : (vs : List Value) (v : Value) → items_have_float (items_view vs) ≡ false → has_float (view v) ≡ false → items_have_float (items_view (vs ++ v ∷ [])) ≡ false
no_float_last [] v h i = or_from (has_float (view v)) _ i refl
no_float_last (w ∷ vs) v h i = or_from (has_float (view w)) _ (or_parts (has_float (view w)) _ h).0 (no_float_last vs v (or_parts (has_float (view w)) _ h).1 i)
