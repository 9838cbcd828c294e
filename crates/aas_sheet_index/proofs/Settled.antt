-- Sides that come into the place of others, and their index.
use Rattle.std.proofs.Common.{◌≡◌, ℕ, zero, suc, ◌+◌, ◌-◌, ◌≤◌, ◌^◌, ◌==◌, ◌&&◌, List, [], ◌∷◌, ◌++◌, length, map, take}
use Rattle.std.proofs.Common.{drop, slice_get, refl, sym, ap, ap₂, ◌∙◌, subst, append_assoc, arith, length-append}
use Rattle.std.specs.List.{All, filter, replace_range}
use Rattle.std.specs.List.Sorted.{IsPermutation, IsSorted}
use Rattle.std.specs.Ordering.{is_lt}
use Rattle.std.proofs.Math.Seq.{take-length}
use Rattle.std.proofs.lemmas.List.{append-nil, map-append}
use Rattle.std.proofs.lemmas.List.Elements.{filter-append, All-append, All-drop, All-take}
use Rattle.std.proofs.lemmas.List.Sorted.{list_any-IsPermutation}
use Rattle.aas_model_text.specs.Many.{filled}
use Rattle.aas_sheet_index.specs.Index.{compared, has_name, is_between, key_of, order, AreKeyed, Enlarged, IsColumn}
use Rattle.aas_sheet_index.specs.Index.{IsIndex, IsPart, Listed, Waiting}
use Rattle.aas_sheet_index.specs.Measuring.{Begins, StandFor}
use Rattle.aas_sheet_index.specs.Moving.{moved, renumbered, stays}
use Rattle.aas_sheet_index.specs.Sides.{measured, AreMeasured, HaveLevels}
use Rattle.aas_sheet_index.specs.declared.side.Side.{Side}
use Rattle.aas_sheet_index.proofs.Measures.{have_measured, keyed_measured, measured_back, measured_long, sized_measured}
use Rattle.aas_sheet_index.proofs.Moved.{back_long, back_sorted, front_sorted, listed, Cut}
use Rattle.aas_sheet_index.proofs.Ordered.{is_less}
use Rattle.aas_sheet_index.proofs.Ranks.{listed_none}
use Rattle.aas_sheet_index.proofs.Spliced.{drop_seam, filled_all, take_seam, Parts}

-- ---- sizes count for nothing

key_measured : (ss : List Side) (r : ℕ) → key_of (slice_get (measured ss) r) ≡ key_of (slice_get ss r)
key_measured [] r = refl
key_measured (s ∷ ss) zero = refl
key_measured (s ∷ ss) (suc r) = key_measured ss r

name_measured : (ss : List Side) (r : ℕ) → has_name (slice_get (measured ss) r) ≡ has_name (slice_get ss r)
name_measured [] r = refl
name_measured (s ∷ ss) zero = refl
name_measured (s ∷ ss) (suc r) = name_measured ss r

less_measured : (ss : List Side) (r q : ℕ) → is_less (measured ss) r q ≡ is_less ss r q
less_measured ss r q = ap₂ (λ a b. is_lt (compared a r b q)) (key_measured ss r) (key_measured ss q)

part_measured : (ss : List Side) (ranks : List ℕ) → IsPart ss 0 ranks → IsPart (measured ss) 0 ranks
part_measured ss ranks x = record {
  ordered = λ k d low high. less_measured ss _ _ ∙ x.ordered k d low high;
  listed = λ r. x.listed r ∙ ap₂ (λ n c. is_between 0 n r && c) (sym (measured_long ss)) (sym (name_measured ss r));
}

pub index_measured : (ss : List Side) (ranks : List ℕ)
    → length ss ≤ 2 ^ 31 → IsPart ss 0 ranks → IsIndex (measured ss) ranks
index_measured ss ranks few x =
    record { few = subst (λ n. n ≤ 2 ^ 31) (sym (measured_long ss)) few; part = part_measured ss ranks x }

-- ---- ranks that are renumbered

-- two parts in order, that together name all sides
pub record Renewed (ss : List Side) (ranks : List ℕ) (added : ℕ) : Type 0 where
  pub front : List ℕ
  pub back : List ℕ
  pub is : ranks ≡ front ++ back
  pub long : added ≡ length back
  pub front_sorted : IsSorted (order ss) front
  pub back_sorted : IsSorted (order ss) back
  pub names : Listed ss 0 (length ss) ranks

cut_of : (ss : List Side) (first end count : ℕ) (p : Parts ss first end count)
    → Cut p.front p.old p.rest p.new first end count (length ss)
cut_of ss first end count p =
    let all = ap length p.whole in
    let one = length-append p.front (p.old ++ (p.rest ++ p.new)) in
    let two = length-append p.old (p.rest ++ p.new) in
    let three = length-append p.rest p.new in
    let at_first = p.at_first in
    let at_end = p.at_end in
    let at_added = p.at_added in
    record {
      at_first = p.at_first;
      at_end = p.at_end;
      at_count = p.at_added;
      at_total = omega (arith, all, one, two, three, at_first, at_end, at_added);
    }

module _ (ss : List Side) (first end count : ℕ) (p : Parts ss first end count) where
  parted : ss ≡ (p.front ++ (p.old ++ p.rest)) ++ p.new
  parted =
      p.whole ∙ ap (λ xs. p.front ++ xs) (sym (append_assoc p.old p.rest p.new))
      ∙ sym (append_assoc p.front (p.old ++ p.rest) p.new)

  old_long : length (p.front ++ (p.old ++ p.rest)) ≡ count
  old_long =
      let one = length-append p.front (p.old ++ p.rest) in
      let two = length-append p.old p.rest in
      let at_first = p.at_first in
      let at_end = p.at_end in
      let at_added = p.at_added in
      omega (arith, one, two, at_first, at_end, at_added)

  all_old : take count ss ≡ p.front ++ (p.old ++ p.rest)
  all_old = take_seam ss (p.front ++ (p.old ++ p.rest)) p.new count parted old_long

  all_new : drop count ss ≡ p.new
  all_new = drop_seam ss (p.front ++ (p.old ++ p.rest)) p.new count parted old_long

  replaced : replace_range (take count ss) first end (drop count ss) ≡ (p.front ++ p.new) ++ p.rest
  replaced =
      ap₂ (λ xs ys. replace_range xs first end ys) all_old all_new
      ∙ ap₂ (λ xs ys. (xs ++ p.new) ++ ys)
      (take_seam (p.front ++ (p.old ++ p.rest)) p.front (p.old ++ p.rest) first refl p.at_first)
      (drop_seam (p.front ++ (p.old ++ p.rest)) (p.front ++ p.old) p.rest end (sym (append_assoc p.front p.old p.rest))
      (length-append p.front p.old ∙ ap (λ n. n + length p.old) p.at_first ∙ p.at_end))

  pub renewed : (ranks new : List ℕ) (added : ℕ)
      → Waiting ss count ranks added → new ≡ renumbered first end count (length ss) ranks
      → Renewed (replace_range (take count ss) first end (drop count ss)) new added
  renewed ranks new added w is =
      let total : ℕ = length ss in
      let cut = cut_of ss first end count p in
      let x : IsPart (p.front ++ (p.old ++ p.rest)) 0 w.kept = subst (λ xs. IsPart xs 0 w.kept) all_old w.index in
      let y : IsPart ((p.front ++ (p.old ++ p.rest)) ++ p.new) count w.fresh =
      subst (λ xs. IsPart xs count w.fresh) parted w.part in
      let shape : new ≡ renumbered first end count total w.kept ++ renumbered first end count total w.fresh =
      is ∙ ap (renumbered first end count total) w.is
      ∙ ap (λ xs. map (moved first end count total) xs) (filter-append (stays first end) w.kept w.fresh)
      ∙ map-append (moved first end count total) (filter (stays first end) w.kept) (filter (stays first end) w.fresh) in
      subst (λ xs. Renewed xs new added) (sym replaced)
      (record {
        front = renumbered first end count total w.kept;
        back = renumbered first end count total w.fresh;
        is = shape;
        long = w.long ∙ sym (back_long p.front p.old p.rest p.new first end count total cut w.kept w.fresh x y);
        front_sorted = front_sorted p.front p.old p.rest p.new first end count total cut w.kept w.fresh x y;
        back_sorted = back_sorted p.front p.old p.rest p.new first end count total cut w.kept w.fresh x y;
        names =
            subst (Listed ((p.front ++ p.new) ++ p.rest) 0 (length ((p.front ++ p.new) ++ p.rest)))
            (sym shape) (listed p.front p.old p.rest p.new first end count total cut w.kept w.fresh x y);
      })

  -- the sides from the new ones on
  rest_at : (lent : List Side) (total : ℕ)
      → lent ≡ replace_range (take count ss) first end (drop count ss) → total ≡ length ss
      → drop (first + (total - count)) lent ≡ p.rest
  rest_at lent total is all =
      let cut = cut_of ss first end count p in
      let both = length-append p.front p.new in
      let at_first = p.at_first in
      let at_total = cut.at_total in
      let long : length (p.front ++ p.new) ≡ first + (total - count) = omega (arith, both, at_first, at_total, all) in
      drop_seam lent (p.front ++ p.new) p.rest (first + (total - count)) (is ∙ replaced) long

  -- the sizes behind the new sides are what they were
  pub ends : (lent : List Side) (total : ℕ)
      → lent ≡ replace_range (take count ss) first end (drop count ss) → total ≡ length ss
      → AreMeasured (take count ss) → AreMeasured (drop (first + (total - count)) lent)
  ends lent total is all known =
      let old : AreMeasured ((p.front ++ p.old) ++ p.rest) =
      subst AreMeasured (all_old ∙ sym (append_assoc p.front p.old p.rest)) known in
      subst AreMeasured (sym (rest_at lent total is all)) (measured_back (p.front ++ p.old) p.rest old)

  -- those before them had others behind them
  pub stand : (lent : List Side) (total level : ℕ)
      → lent ≡ replace_range (take count ss) first end (drop count ss) → total ≡ length ss
      → AreMeasured (take count ss) → Begins level (drop first ss)
      → StandFor lent first (first + (total - count)) end level
  stand lent total level is all known begins =
      let front : take first lent ≡ p.front =
      take_seam lent p.front (p.new ++ p.rest) first (is ∙ replaced ∙ append_assoc p.front p.new p.rest) p.at_first in
      let behind : drop first ss ≡ (p.old ++ p.rest) ++ p.new =
      drop_seam ss p.front (p.old ++ (p.rest ++ p.new)) first p.whole p.at_first
      ∙ sym (append_assoc p.old p.rest p.new) in
      let rest : p.rest ≡ drop (first + (total - count)) lent = sym (rest_at lent total is all) in record {
        old = p.old;
        went = p.at_end;
        sized = subst AreMeasured (all_old ∙ ap₂ (λ xs ys. xs ++ (p.old ++ ys)) (sym front) rest) known;
        begins =
            subst (λ ys. Begins level (p.old ++ ys)) rest
            (begins_front (p.old ++ p.rest) p.new (subst (Begins level) behind begins));
      }
    where
      begins_front : (xs ys : List Side) → Begins level (xs ++ ys) → Begins level xs
      begins_front [] ys h = tt
      begins_front (x ∷ xs) ys h = h

-- ---- what holds of each side

module _ (P : Side → Type 0) where
  all_replaced : (old more : List Side) (first end : ℕ)
      → All P old → All P more → All P (replace_range old first end more)
  all_replaced old more first end all also =
      All-append P (take first old ++ more) (drop end old)
      (All-append P (take first old) more (All-take P first old all) also)
      (All-drop P end old all)

  pub all_spliced : (ss : List Side) (first end count : ℕ)
      → All P ss → All P (replace_range (take count ss) first end (drop count ss))
  all_spliced ss first end count all =
      all_replaced (take count ss) (drop count ss) first end (All-take P count ss all) (All-drop P count ss all)

  pub all_more : (old more ss : List Side) → ss ≡ old ++ more → All P old → All P more → All P ss
  all_more old more ss is all also = subst (All P) (sym is) (All-append P old more all also)

pub column : (ss new : List Side) (ranks : List ℕ)
    → new ≡ measured ss → HaveLevels ss → AreKeyed ss → IsIndex new ranks → IsColumn new ranks
column ss new ranks is deep keyed index = record {
  index = index;
  sized = subst AreMeasured (sym is) (sized_measured ss);
  levels = subst HaveLevels (sym is) (have_measured ss deep);
  keyed = subst AreKeyed (sym is) (keyed_measured ss keyed);
}

-- ---- merged

-- where the parts meet
pub record Meeting (ss : List Side) (ranks : List ℕ) (kept : ℕ) : Type 0 where
  pub inside : kept ≤ length ranks
  pub front : IsSorted (order ss) (take kept ranks)
  pub back : IsSorted (order ss) (drop kept ranks)

pub meeting : (ss : List Side) (ranks : List ℕ) (added kept : ℕ)
    → Renewed ss ranks added → kept ≡ length ranks - added → Meeting ss ranks kept
meeting ss ranks added kept r is =
    let all = ap length r.is ∙ length-append r.front r.back in
    let long = r.long in
    let at : length r.front ≡ kept = omega (arith, all, long, is) in record {
      inside = omega (arith, is);
      front = subst (IsSorted (order ss)) (sym (take_seam ranks r.front r.back kept r.is at)) r.front_sorted;
      back = subst (IsSorted (order ss)) (sym (drop_seam ranks r.front r.back kept r.is at)) r.back_sorted;
    }

pub merged : (ss : List Side) (ranks new : List ℕ) (added : ℕ) → Renewed ss ranks added
    → length ss ≤ 2 ^ 31 → IsSorted (order ss) new → IsPermutation ranks new → IsIndex (measured ss) new
merged ss ranks new added r few sorted same = index_measured ss new few (record {
  ordered = sorted;
  listed = λ q. sym (list_any-IsPermutation (λ x. x == q) ranks new same) ∙ r.names q;
})

-- ---- what waits

pub waiting_more : (old more all : List Side) (count added : ℕ) (ranks new : List ℕ) → count ≡ length old
    → all ≡ old ++ more → IsIndex old ranks → Enlarged all (length old) ranks new added → Waiting all count new added
waiting_more old more all count added ranks new at is x e = record {
  kept = ranks;
  fresh = e.fresh;
  is = e.is;
  long = e.long;
  index = subst (λ ss. IsPart ss 0 ranks) (sym (take_seam all old more count is (sym at))) x.part;
  part = subst (λ n. IsPart all n e.fresh) (sym at) e.part;
}

pub waiting_none : (ss : List Side) (count : ℕ) (ranks : List ℕ)
    → count ≡ length ss → IsIndex ss ranks → Waiting ss count ranks 0
waiting_none ss count ranks at x = record {
  kept = ranks;
  fresh = [];
  is = sym (append-nil ranks);
  long = refl;
  index = subst (λ ss. IsPart ss 0 ranks) (sym (ap (λ n. take n ss) at ∙ take-length ss)) x.part;
  part = record {
    ordered = λ k d low high. absurd (omega arith);
    listed = listed_none ss count (length ss) (omega (arith, at));
  };
}

-- ---- what was lent

-- sides that are measured in place
pub measured_in : (ss start new : List Side) → start ≡ ss → new ≡ measured start → filled ss new ≡ measured ss
measured_in ss start new is are =
    let same : new ≡ measured ss = are ∙ ap measured is in
    filled_all ss new (ap length same ∙ measured_long ss) ∙ same

pub fits : (ss : List Side) (ranks : List ℕ) (added : ℕ) → Renewed ss ranks added → added ≤ length ranks
fits ss ranks added r =
    let all = ap length r.is ∙ length-append r.front r.back in
    let long = r.long in
    omega (arith, all, long)
