-- What a change at one key does to what a test answers of a map's values.
use Rattle.std.proofs.Common.{◌≡◌, ℕ, Bool, true, false, cond, not, ◌&&◌, ◌||◌, List, Option, Some, None, is_some, refl}
use Rattle.std.proofs.Common.{sym, ap, ◌∙◌}
use Rattle.std.specs.Prelude.{bytes_eq, ⊤}
use Rattle.std.specs.Cmp.{eq_by_cmp_equiv}
use Rattle.std.specs.FinMap as fin
use Rattle.std.specs.FinMap.{get-insert, get-remove}
use Rattle.std.specs.Option.{option_map_or}
use Rattle.std.specs.Ordering.{eq_by_cmp}
use Rattle.std.proofs.Math.Bool.{and-true, or-false}
use Rattle.std.proofs.lemmas.Cmp.{nat_list_cmp_total}
use Rattle.std.proofs.lemmas.Map.Text.{is_eq-slice_cmp}
use Rattle.std.proofs.lemmas.Slice.Eq.{bytes_eq-Decides}
use Rattle.aas_store.specs.Documents.{Identifier, Map}
use Rattle.aas_store.proofs.Ordered.{order}

-- ---- keys

tied : (q k : List ℕ) → eq_by_cmp order q k ≡ bytes_eq k q
tied q k = (eq_by_cmp_equiv nat_list_cmp_total).symm q k ∙ is_eq-slice_cmp k q

pub get_put : {X : Type 0} (m : Map X) (k : Identifier) (x : X) (q : Identifier)
    → fin.get (fin.insert m k x) q ≡ cond (bytes_eq k q) (Some x) (fin.get m q)
get_put m k x q = get-insert nat_list_cmp_total m k x q ∙ ap (λ b. cond b (Some x) (fin.get m q)) (tied q k)

pub get_without : {X : Type 0} (m : Map X) (k q : Identifier)
    → fin.get (fin.remove m k) q ≡ cond (bytes_eq k q) None (fin.get m q)
get_without m k q = get-remove nat_list_cmp_total m k q ∙ ap (λ b. cond b None (fin.get m q)) (tied q k)

-- ---- sets

pub has_put : (ids : Map ⊤) (id q : Identifier) → fin.contains_key (fin.insert ids id tt) q
    ≡ (fin.contains_key ids q || bytes_eq id q)
has_put ids id q = ap is_some (get_put ids id tt q) ∙ by (bytes_eq id q) (fin.get ids q)
  where
    by : (b : Bool) (o : Option ⊤) → is_some (cond b (Some tt) o) ≡ (is_some o || b)
    by true None = refl
    by true (Some x) = refl
    by false None = refl
    by false (Some x) = refl

pub has_without : (ids : Map ⊤) (id q : Identifier) → fin.contains_key (fin.remove ids id) q
    ≡ (fin.contains_key ids q && not (bytes_eq id q))
has_without ids id q = ap is_some (get_without ids id q) ∙ by (bytes_eq id q) (fin.get ids q)
  where
    by : (b : Bool) (o : Option ⊤) → is_some (cond b None o) ≡ (is_some o && not b)
    by true None = refl
    by true (Some x) = refl
    by false None = refl
    by false (Some x) = refl

-- ---- values

module _ {X : Type 0} (f : X → Bool) where
  abbrev pub at : Map X → Identifier → Bool
  at m q = option_map_or f (fin.get m q) false

  at_put : (m : Map X) (k : Identifier) (x : X) (q : Identifier)
      → at (fin.insert m k x) q ≡ cond (bytes_eq k q) (f x) (at m q)
  at_put m k x q = ap (λ o. option_map_or f o false) (get_put m k x q) ∙ by (bytes_eq k q)
    where
      by : (b : Bool) → option_map_or f (cond b (Some x) (fin.get m q)) false ≡ cond b (f x) (at m q)
      by true = refl
      by false = refl

  -- what is asked at an equal key
  at_same : (m : Map X) (k q : Identifier) (o : Option X) → fin.get m k ≡ o → bytes_eq k q ≡ true
      → at m q ≡ option_map_or f o false
  at_same m k q o is same = ap (at m) (sym ((bytes_eq-Decides k q).0 same)) ∙ ap (λ o. option_map_or f o false) is

  -- of what is got, what is at a key
  pub put_in_place : (m : Map X) (k : Identifier) (old new : X) (q : Identifier) (c : Bool) → fin.get m k ≡ Some old
      → f new ≡ (f old || c)
      → at (fin.insert m k new) q ≡ (at m q || (bytes_eq k q && c))
  put_in_place m k old new q c is more = at_put m k new q ∙ by (bytes_eq k q) refl
    where
      by : (b : Bool) → bytes_eq k q ≡ b → cond b (f new) (at m q) ≡ (at m q || (b && c))
      by true same = more ∙ ap (λ b. b || c) (sym (at_same m k q (Some old) is same))
      by false other = sym (or-false (at m q))

  pub put_new : (m : Map X) (k : Identifier) (new : X) (q : Identifier) (c : Bool) → fin.get m k ≡ None → f new ≡ c
      → at (fin.insert m k new) q ≡ (at m q || (bytes_eq k q && c))
  put_new m k new q c none is = at_put m k new q ∙ by (bytes_eq k q) refl
    where
      by : (b : Bool) → bytes_eq k q ≡ b → cond b (f new) (at m q) ≡ (at m q || (b && c))
      by true same = is ∙ ap (λ b. b || c) (sym (at_same m k q None none same))
      by false other = sym (or-false (at m q))

  pub taken_in_place : (m : Map X) (k : Identifier) (old new : X) (q : Identifier) (c : Bool) → fin.get m k ≡ Some old
      → f new ≡ (f old && not c)
      → at (fin.insert m k new) q ≡ (at m q && not (bytes_eq k q && c))
  taken_in_place m k old new q c is less = at_put m k new q ∙ by (bytes_eq k q) refl
    where
      by : (b : Bool) → bytes_eq k q ≡ b → cond b (f new) (at m q) ≡ (at m q && not (b && c))
      by true same = less ∙ ap (λ b. b && not c) (sym (at_same m k q (Some old) is same))
      by false other = sym (and-true (at m q))

  -- what the test denies is given up
  pub given_up : (m : Map X) (k q : Identifier) → at m k ≡ false → at (fin.remove m k) q ≡ at m q
  given_up m k q denied = ap (λ o. option_map_or f o false) (get_without m k q) ∙ by (bytes_eq k q) refl
    where
      by : (b : Bool) → bytes_eq k q ≡ b → option_map_or f (cond b None (fin.get m q)) false ≡ at m q
      by true same = sym (ap (at m) (sym ((bytes_eq-Decides k q).0 same)) ∙ denied)
      by false other = refl

  -- what is put at a key is tested there
  pub put_at : (m : Map X) (k : Identifier) (x : X) → at (fin.insert m k x) k ≡ f x
  put_at m k x = at_put m k x k ∙ ap (λ b. cond b (f x) (at m k)) ((bytes_eq-Decides k k).1 refl)
