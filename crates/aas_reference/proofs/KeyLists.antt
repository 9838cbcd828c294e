-- Keys in their order.
use Rattle.std.proofs.Common.{◌≡◌, ◌-◌, ◌&&◌, List, [], ◌∷◌, length, drop, Bool, option_map, refl, sym, ap, ◌∙◌, arith}
use Rattle.std.specs.List.{list_all, slice_get, zip}
use Rattle.aas_model.specs.declared.reference.Key.{Key}
use Rattle.aas_reference.specs.Rules.{later_keys, last_key, each_pair}

pub later_drop : (ks : List Key) → later_keys ks ≡ drop 1 ks
later_drop [] = refl
later_drop (k ∷ ks) = refl

pub each_pair_zip : (test : Key → Key → Bool) (ks : List Key) → each_pair test ks ≡ list_all (λ p. test p.0 p.1) (zip ks (drop 1 ks))
each_pair_zip test [] = refl
each_pair_zip test (j ∷ []) = refl
each_pair_zip test (j ∷ k ∷ ks) = ap (λ b. test j k && b) (each_pair_zip test (k ∷ ks))

last_at : (k : Key) (ks : List Key) → last_key (k ∷ ks) ≡ option_map (λ x. x.key_type) (slice_get (k ∷ ks) (length ks))
last_at k [] = refl
last_at k (j ∷ ks) = last_at j ks

pub last_is : (ks : List Key) → last_key ks ≡ option_map (λ x. x.key_type) (slice_get ks (length ks - 1))
last_is [] = refl
last_is (k ∷ ks) = let less : length (k ∷ ks) - 1 ≡ length ks = omega arith in last_at k ks ∙ ap (λ n. option_map (λ x. x.key_type) (slice_get (k ∷ ks) n)) (sym less)
