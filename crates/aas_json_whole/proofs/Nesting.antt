-- One level of what stands in one another.
use Rattle.std.proofs.Common.{◌≡◌, ℕ, suc, ◌&&◌, nat_le, Bool, true, List, [], ◌∷◌, option_map, refl}
use Rattle.std.proofs.Common.{unwrap_or, sym, ap, ap₂, ◌∙◌, arith, le-leb}
use Rattle.std.specs.Cmp.{both_ways}
use Rattle.std.proofs.lemmas.Bool.{leb-true}
use Rattle.aas_json_spelling.specs.Lists.{is_any}
use Rattle.aas_model.specs.declared.reference.Reference.{Reference, out-Reference}
use Rattle.aas_reference.specs.Whole.{has_keys, reference_levels}
use Rattle.aas_reference.proofs.Levels.{keys_at, levels_at, made_out}

-- a level more on both sides
pub one_more : (n left m : ℕ) → left ≡ suc m → nat_le (suc n) left ≡ nat_le n m
one_more n left m spent = both_ways _ _
    (λ e. le-leb n m (omega (arith, leb-true (suc n) left e)))
    (λ e. le-leb (suc n) left (omega (arith, leb-true n m e)))

-- ---- references

keys_out : (r : Reference)
    → has_keys r ≡ is_any (out-Reference r).keys && unwrap_or (option_map has_keys (out-Reference r).referred) true
keys_out r =
    let y = out-Reference r in ap has_keys (sym (made_out r)) ∙ keys_at y.ref_type y.keys y.referred

levels_out : (r : Reference)
    → reference_levels r ≡ suc (unwrap_or (option_map reference_levels (out-Reference r).referred) 0)
levels_out r =
    let y = out-Reference r in ap reference_levels (sym (made_out r)) ∙ levels_at y.ref_type y.keys y.referred

any_there : {X : Type 0} (xs : List X) → (xs ≡ [] → ⊥) → is_any xs ≡ true
any_there [] some = absurd (some refl)
any_there (x ∷ xs) some = refl

-- a reference with keys, by the one within it
pub reference_level : (r : Reference) (left m : ℕ) → left ≡ suc m → ((out-Reference r).keys ≡ [] → ⊥)
    → (unwrap_or (option_map has_keys (out-Reference r).referred) true
    && nat_le (unwrap_or (option_map reference_levels (out-Reference r).referred) 0) m)
    ≡ (has_keys r && nat_le (reference_levels r) left)
reference_level r left m spent some =
    let y = out-Reference r in
    let inner : Bool = unwrap_or (option_map has_keys y.referred) true in
    let levels : ℕ = unwrap_or (option_map reference_levels y.referred) 0 in
    sym (ap₂ (λ a b. a && b)
    (keys_out r ∙ ap (λ a. a && inner) (any_there y.keys some))
    (ap (λ n. nat_le n left) (levels_out r) ∙ one_more levels left m spent))
