-- Objects of one string.
use Rattle.std.proofs.Common.{◌≡◌, ℕ, List, [], ◌∷◌, length, Some, slice_get, refl, ap, arith}
use Rattle.std.specs.Prelude.{String, string_bytes}
use Rattle.std.specs.declared.alloc.Global.{Global}
use Rattle.serde_json.specs.Data.{Data, no_members, member}
use Rattle.serde_json.specs.View.{view, members_view}
use Rattle.serde_json.specs.declared.value.Value.{Value}

-- the first entry, where there is one only
pub one_viewed : (es : List (String Global × Value)) (n : String Global) (v : Value)
    → length es ≡ 1 → slice_get es 0 ≡ Some (n, v)
    → members_view es ≡ member (string_bytes n) (view v) no_members
one_viewed [] n v size first = absurd (omega arith)
one_viewed (e ∷ []) n v size first =
    let same : e ≡ (n, v) = cc in
    ap (λ (x : String Global × Value). member (string_bytes x.0) (view x.1) no_members) same
one_viewed (e ∷ f ∷ es) n v size first = absurd (omega arith)

pub one_entry : (es : List (String Global × Value)) (n : List ℕ) (d : Data)
    → members_view es ≡ member n d no_members → length es ≡ 1
one_entry [] n d e = absurd (cc)
one_entry (x ∷ []) n d e = refl
one_entry (x ∷ y ∷ es) n d e = absurd (cc)
