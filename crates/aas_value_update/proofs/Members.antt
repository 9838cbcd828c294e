-- Members of objects, by what stands under each name.
use Rattle.std.proofs.Common.{◌≡◌, ℕ, Bool, true, false, List, Option, Some, None, Ordering, Less, Equal, Greater}
use Rattle.std.proofs.Common.{nat_cmp, is_eq, refl, sym, ap, ◌∙◌, subst, true≢false}
use Rattle.std.specs.Prelude.{bytes_eq}
use Rattle.std.specs.Cmp.Lexicographic.{slice_cmp}
use Rattle.std.specs.Ordering.{match_ordering, ordering_reverse}
use Rattle.std.proofs.lemmas.Cmp.{nat_list_cmp_total}
use Rattle.std.proofs.lemmas.Slice.Eq.{bytes_eq-Decides}
use Rattle.std.proofs.lemmas.Map.Text.{is_eq-slice_cmp}
use Rattle.std.proofs.lemmas.Option.{none-some}
use Rattle.serde_json.specs.Data.{Data, put, Members, no_members, member}
use Rattle.serde_json.specs.Find.{get_member}
use Rattle.aas_json_spelling.specs.Values.{AreAbove}
use Rattle.aas_json_spelling.proofs.Reading.{above_all, still_above}
use Rattle.aas_json_spelling.proofs.Objects.{at_itself}

-- names rise
abbrev pub Rises : Members → Type 0
Rises no_members = Unit {0}
Rises (member k d ms) = AreAbove k ms × Rises ms

put_at : (o : Ordering) (k m : List ℕ) (d e : Data) (ms rest : Members)
    → slice_cmp nat_cmp k m ≡ o → Rises (member m e ms) → (slice_cmp nat_cmp m k ≡ Less → AreAbove m rest) → Rises rest
    → Rises (match_ordering o (member k d (member m e ms)) (member m d ms) (member m e rest))
put_at Less k m d e ms rest is h above later = ((is, above_all k m ms is h.0), h)
put_at Equal k m d e ms rest is h above later = (h.0, h.1)
put_at Greater k m d e ms rest is h above later =
    (above (nat_list_cmp_total.antisymm m k ∙ ap ordering_reverse is), later)

pub put_rises : (k : List ℕ) (d : Data) (ms : Members) → Rises ms → Rises (put k d ms)
put_rises k d no_members h = (tt, tt)
put_rises k d (member m e ms) h =
    put_at (slice_cmp nat_cmp k m) k m d e ms (put k d ms) refl h
    (λ less. still_above m k d ms less h.0) (put_rises k d ms h.1)

-- ---- what stands under a name

pub absent : (k : List ℕ) (ms : Members) → AreAbove k ms → get_member k ms ≡ None
absent k no_members a = refl
absent k (member l e ms) a =
    ap (λ o. match_ordering o (get_member k ms) (Some e) (get_member k ms)) a.0 ∙ absent k ms a.1

past : (o : Ordering) (a b : Option Data) → is_eq o ≡ false → match_ordering o a b a ≡ a
past Less a b e = refl
past Equal a b e = absurd (true≢false e)
past Greater a b e = refl

pub same_name : (n k : List ℕ) → bytes_eq n k ≡ true → n ≡ k
same_name n k e = (bytes_eq-Decides n k).0 e

pub name_itself : (n : List ℕ) → bytes_eq n n ≡ true
name_itself n = (bytes_eq-Decides n n).1 refl

pub get_here : (n k : List ℕ) (d : Data) (ms : Members) → bytes_eq n k ≡ true → get_member n (member k d ms) ≡ Some d
get_here n k d ms e = at_itself (slice_cmp nat_cmp n k) (get_member n ms) (Some d) (is_eq-slice_cmp n k ∙ e)

pub get_past : (n k : List ℕ) (d : Data) (ms : Members)
    → bytes_eq n k ≡ false → get_member n (member k d ms) ≡ get_member n ms
get_past n k d ms e = past (slice_cmp nat_cmp n k) (get_member n ms) (Some d) (is_eq-slice_cmp n k ∙ e)

-- ---- members are known by what stands under each name

tail_at : (n k : List ℕ) (d e : Data) (ms ns : Members) (b : Bool) → bytes_eq n k ≡ b → AreAbove k ms
    → AreAbove k ns → get_member n (member k d ms) ≡ get_member n (member k e ns) → get_member n ms ≡ get_member n ns
tail_at n k d e ms ns true is a b h =
    let same = same_name n k is in
    ap (λ x. get_member x ms) same ∙ absent k ms a ∙ sym (absent k ns b) ∙ sym (ap (λ x. get_member x ns) same)
tail_at n k d e ms ns false is a b h = sym (get_past n k d ms is) ∙ h ∙ get_past n k e ns is

pub known : (ms ns : Members) → Rises ms → Rises ns → ((n : List ℕ) → get_member n ms ≡ get_member n ns) → ms ≡ ns
known no_members no_members a b h = refl
known no_members (member l e ns) a b h = absurd (none-some e (h l ∙ get_here l l e ns (name_itself l)))
known (member k d ms) no_members a b h = absurd (none-some d (sym (h k) ∙ get_here k k d ms (name_itself k)))
known (member k d ms) (member l e ns) a b h = by_order (slice_cmp nat_cmp k l) refl (known ms ns a.1 b.1)
  where
    by_order : (o : Ordering) → slice_cmp nat_cmp k l ≡ o
        → (((n : List ℕ) → get_member n ms ≡ get_member n ns) → ms ≡ ns) → member k d ms ≡ member l e ns
    by_order Less is tails = absurd (none-some d
        (sym (absent k (member l e ns) (is, above_all k l ns is b.0)) ∙ sym (h k) ∙ get_here k k d ms (name_itself k)))
    by_order Greater is tails =
        let back = nat_list_cmp_total.antisymm l k ∙ ap ordering_reverse is in
        absurd (none-some e
        (sym (absent l (member k d ms) (back, above_all l k ms back a.0)) ∙ h l ∙ get_here l l e ns (name_itself l)))
    by_order Equal is tails =
        let same : k ≡ l = same_name k l (sym (is_eq-slice_cmp k l) ∙ ap is_eq is) in
        let values : Some d ≡ Some e =
        sym (get_here k k d ms (name_itself k)) ∙ h k ∙ get_here k l e ns (sym (is_eq-slice_cmp k l) ∙ ap is_eq is) in
        let ds : d ≡ e = cc in
        let above = subst (λ x. AreAbove x ns) (sym same) b.0 in
        let rest = tails (λ n. tail_at n k d e ms ns (bytes_eq n k) refl a.0 above
        (h n ∙ ap (λ x. get_member n (member x e ns)) (sym same))) in
        λ i. member (same i) (ds i) (rest i)
