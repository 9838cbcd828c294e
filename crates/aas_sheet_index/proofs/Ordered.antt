-- Ranks in the order of the index.
use Rattle.std.proofs.Common.{◌≡◌, ℕ, ◌==◌, nat_lt, Bool, true, false, List, get_or, refl, if◌then◌else◌}
use Rattle.std.specs.Cmp.{IsTotalOrder, IsStrictWeakOrder}
use Rattle.std.specs.List.Sorted.{IsSorted, IsPartitionedBy}
use Rattle.std.specs.Ordering.{nat_cmp, is_lt}
use Rattle.std.specs.declared.cmp.Ordering.{Ordering}
use Rattle.std.specs.declared.cmp.Ordering.TheVariants.{Less, Equal, Greater}
use Rattle.std.proofs.lemmas.Cmp.{lists_total, nat_cmp_total, on_total, then_total}
use Rattle.std.proofs.lemmas.List.Sorted.{ranks_by, sorted_far}
use Rattle.aas_sheet_index.specs.Index.{compared, key_at, order}
use Rattle.aas_sheet_index.specs.declared.side.Side.{Side}

pub numbers : (m n : ℕ) → is_lt (nat_cmp m n) ≡ nat_lt m n
numbers m n = by (nat_lt m n) (m == n)
  where
    by : (b c : Bool) → is_lt (if b then Less else if c then Equal else Greater) ≡ b
    by true c = refl
    by false true = refl
    by false false = refl

-- a key and a rank
pub record Entry : Type 0 where
  pub by : List ℕ
  pub rank : ℕ

abbrev pub compared_entries : Entry → Entry → Ordering
compared_entries a b = compared a.by a.rank b.by b.rank

pub entries_total : IsTotalOrder compared_entries
entries_total =
    then_total (on_total (λ (e : Entry). e.by) (lists_total nat_cmp_total))
    (on_total (λ (e : Entry). e.rank) nat_cmp_total)

abbrev pub entry : List Side → ℕ → Entry
entry ss r = record { by = key_at ss r; rank = r }

abbrev pub is_less : List Side → ℕ → ℕ → Bool
is_less ss r q = is_lt (order ss r q)

-- the order of the ranks of some sides
pub weak : (ss : List Side) → IsStrictWeakOrder (is_less ss)
weak ss = ranks_by entries_total (entry ss)

-- ranks in order, of which those before something come before those that aren't
pub parted : (ss : List Side) (ranks : List ℕ) (e : Entry)
    → IsSorted (order ss) ranks → IsPartitionedBy (λ r. is_lt (compared_entries (entry ss r) e)) ranks
parted ss ranks e sorted i j d le within before =
    let far : is_less ss (get_or ranks j d) (get_or ranks i d) ≡ false =
    sorted_far (is_less ss) (weak ss) ranks sorted i j d le within in
    by (is_lt (compared_entries (entry ss (get_or ranks i d)) e)) refl far
  where
    w : IsStrictWeakOrder (λ a b. is_lt (compared_entries a b))
    w = ranks_by entries_total (λ (e : Entry). e)

    by : (b : Bool) → is_lt (compared_entries (entry ss (get_or ranks i d)) e) ≡ b
        → is_less ss (get_or ranks j d) (get_or ranks i d) ≡ false → b ≡ true
    by true holds far = refl
    by false fails far =
        let lost = w.chain (entry ss (get_or ranks j d)) (entry ss (get_or ranks i d)) e far fails in absurd (cc)
