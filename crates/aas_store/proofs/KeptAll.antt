-- A map of tables, as the map of what they keep.
use Rattle.std.proofs.Common.{◌≡◌, ◌&&◌, Bool, true, false, cond, T, List, [], ◌∷◌, map, length, Option, Some, None, option_map, is_some, refl, sym, ap, ap₂, ◌∙◌, subst}
use Rattle.std.specs.FinMap as fin
use Rattle.std.specs.FinMap.{entries-from_sorted, entries_sorted, get-entries, get-insert, get-remove, get-empty, len-entries, same_map}
use Rattle.std.specs.Ordering.{eq_by_cmp, is_lt}
use Rattle.std.proofs.lemmas.Cmp.{nat_list_cmp_total}
use Rattle.std.proofs.lemmas.List.{length-map}
use Rattle.std.proofs.lemmas.Simd.{map-map}
use Rattle.aas_store.specs.Documents.{Identifier, Map}
use Rattle.aas_store.specs.DocumentStore.{kept_all}
use Rattle.aas_store.specs.Merged.{with_each}
use Rattle.aas_store.proofs.Ordered.{order, same_id}

module _ {D E : Type 0} (f : D → E) where
  abbrev each : List (Identifier × D) → List (Identifier × E)
  each es = map (λ e. (e.0, f e.1)) es

  below_each : (k : Identifier) (es : List (Identifier × D)) → fin.Entries.below_all order k (each es) ≡ fin.Entries.below_all order k es
  below_each k [] = refl
  below_each k (e ∷ es) = ap (λ b. is_lt (order k e.0) && b) (below_each k es)

  in_order_each : (es : List (Identifier × D)) → fin.is_sorted order (each es) ≡ fin.is_sorted order es
  in_order_each [] = refl
  in_order_each (e ∷ es) = ap₂ (λ a b. a && b) (below_each e.0 es) (in_order_each es)

  find_each : (q : Identifier) (es : List (Identifier × D)) → fin.find order q (each es) ≡ option_map f (fin.find order q es)
  find_each q [] = refl
  find_each q (e ∷ es) = ap (cond (eq_by_cmp order q e.0) (Some (f e.1))) (find_each q es) ∙ by (eq_by_cmp order q e.0)
    where
      by : (b : Bool) → cond b (Some (f e.1)) (option_map f (fin.find order q es)) ≡ option_map f (cond b (Some e.1) (fin.find order q es))
      by true = refl
      by false = refl

  sorted_each : (m : Map D) → T (fin.is_sorted order (each (fin.entries m)))
  sorted_each m = subst T (sym (in_order_each (fin.entries m))) (entries_sorted m)

  pub entries_kept : (m : Map D) → fin.entries (kept_all f m) ≡ each (fin.entries m)
  unfolding kept_all
  entries_kept m = entries-from_sorted order (each (fin.entries m)) (sorted_each m)

  pub get_kept : (m : Map D) (q : Identifier) → fin.get (kept_all f m) q ≡ option_map f (fin.get m q)
  get_kept m q =
      get-entries (kept_all f m) q ∙ ap (fin.find order q) (entries_kept m) ∙ find_each q (fin.entries m) ∙ ap (option_map f) (sym (get-entries m q))

  pub keys_kept : (m : Map D) → fin.keys (kept_all f m) ≡ fin.keys m
  keys_kept m = ap (map (λ (e : Identifier × E). e.0)) (entries_kept m) ∙ map-map _ _ (fin.entries m)

  pub len_kept : (m : Map D) → fin.len (kept_all f m) ≡ fin.len m
  len_kept m = len-entries (kept_all f m) ∙ ap length (entries_kept m) ∙ length-map (fin.entries m) _ ∙ sym (len-entries m)

  pub has_kept : (m : Map D) (q : Identifier) → fin.contains_key (kept_all f m) q ≡ fin.contains_key m q
  has_kept m q = ap is_some (get_kept m q) ∙ by (fin.get m q)
    where
      by : (o : Option D) → is_some (option_map f o) ≡ is_some o
      by None = refl
      by (Some d) = refl

  same_kept : (m : Map D) (n : Map E) → ((q : Identifier) → option_map f (fin.get m q) ≡ fin.get n q) → kept_all f m ≡ n
  same_kept m n same = same_map nat_list_cmp_total same_id (kept_all f m) n (λ q. get_kept m q ∙ same q)

  pub empty_kept : kept_all f fin.empty ≡ fin.empty
  empty_kept = same_kept fin.empty fin.empty (λ q. ap (option_map f) (get-empty order q) ∙ sym (get-empty order q))

  pub insert_kept : (m : Map D) (id : Identifier) (d : D) → kept_all f (fin.insert m id d) ≡ fin.insert (kept_all f m) id (f d)
  insert_kept m id d = same_kept (fin.insert m id d) (fin.insert (kept_all f m) id (f d)) (λ q.
      ap (option_map f) (get-insert nat_list_cmp_total m id d q) ∙ by (fin.get m q) (eq_by_cmp order q id)
      ∙ ap (cond (eq_by_cmp order q id) (Some (f d))) (sym (get_kept m q)) ∙ sym (get-insert nat_list_cmp_total (kept_all f m) id (f d) q))
    where
      by : (o : Option D) (b : Bool) → option_map f (cond b (Some d) o) ≡ cond b (Some (f d)) (option_map f o)
      by o true = refl
      by o false = refl

  pub remove_kept : (m : Map D) (id : Identifier) → kept_all f (fin.remove m id) ≡ fin.remove (kept_all f m) id
  remove_kept m id = same_kept (fin.remove m id) (fin.remove (kept_all f m) id) (λ q.
      ap (option_map f) (get-remove nat_list_cmp_total m id q) ∙ by (fin.get m q) (eq_by_cmp order q id)
      ∙ ap (cond (eq_by_cmp order q id) None) (sym (get_kept m q)) ∙ sym (get-remove nat_list_cmp_total (kept_all f m) id q))
    where
      by : (o : Option D) (b : Bool) → option_map f (cond b None o) ≡ cond b None (option_map f o)
      by o true = refl
      by o false = refl

  -- documents put in, each under what it says
  pub each_kept : (id_of : D → Identifier) (name : E → Identifier) → ((d : D) → id_of d ≡ name (f d))
      → (m : Map D) (ds : List D) → kept_all f (with_each id_of m ds) ≡ with_each name (kept_all f m) (map f ds)
  each_kept id_of name names m [] = refl
  each_kept id_of name names m (d ∷ ds) =
      each_kept id_of name names (fin.insert m (id_of d) d) ds
      ∙ ap (λ (n : Map E). with_each name n (map f ds))
      (insert_kept m (id_of d) d ∙ ap (λ id. fin.insert (kept_all f m) id (f d)) (names d))

-- a table that is what it keeps
pub itself_kept : {D : Type 0} (m : Map D) → kept_all (λ (d : D). d) m ≡ m
itself_kept {D = D} m = same_kept (λ (d : D). d) m m (λ q. by (fin.get m q))
  where
    by : (o : Option D) → option_map (λ (d : D). d) o ≡ o
    by None = refl
    by (Some d) = refl
