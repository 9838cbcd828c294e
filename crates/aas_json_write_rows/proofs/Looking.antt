-- A search for a child among the rows.
use Rattle.std.proofs.Common.{◌≡◌, inl, inr, ℕ, suc, ◌+◌, ◌-◌, ◌<◌, ◌≤◌, ◌&&◌, Bool, true, false, nat_lt, List, [], ◌∷◌}
use Rattle.std.proofs.Common.{◌++◌, drop, map, Some, None, slice_get, refl, sym, ap, ap₂, ◌∙◌, subst, arith}
use Rattle.std.proofs.Common.{if◌then◌else◌, le-ltb, lt-ltb}
use Rattle.std.specs.Prelude.{filter}
use Rattle.std.proofs.Math.Numerals.{add-one}
use Rattle.std.proofs.Math.Seq.{drop-cons}
use Rattle.std.proofs.lemmas.Bool.{cases_lt, and_right, cond-true, cond-false}
use Rattle.std.proofs.lemmas.List.{drop_all}
use Rattle.std.proofs.lemmas.Option.{get_or_from_slice_get, slice_get_within, slice_get_cases, same_Some}
use Rattle.aas_rows.specs.Rows.{Line}
use Rattle.aas_json_write_members.specs.Members.{opening, closing, has_stop, role_fits}
use Rattle.aas_json_write_members.specs.Script.{Spoken, element_text, at_stop}
use Rattle.aas_json_write_members.specs.declared.members.Show.{Show}
use Rattle.aas_json_write_members.specs.declared.stops.Stop.{Stop}
use Rattle.aas_json_write_rows.specs.Poured.{voices, kids_at, if_row, text_at}
use Rattle.aas_json_write_rows.specs.Walk.{AreBelow, IsFirst}
use Rattle.aas_json_write_rows.specs.declared.children.Sought.TheVariants as sought

pub row_there : (rows : List Line) (n : ℕ) (c : Line) → slice_get rows n ≡ Some c → drop n rows ≡ c ∷ drop (n + 1) rows
row_there rows n c is =
    drop-cons rows n c (slice_get_within rows n c is)
    ∙ ap₂ (λ x m. x ∷ drop m rows) (get_or_from_slice_get rows n c c is) (sym (add-one n))

-- the text of the element of a row
pub text_here : (w : Show) (rows : List Line) (n : ℕ) (r : Line) → slice_get rows n ≡ Some r
    → text_at w rows n ≡ element_text w r (kids_at w rows r n)
text_here w rows n r is = ap (λ o. if_row o (λ r. element_text w r (kids_at w rows r n))) is

pub voices_end : (w : Show) (k : ℕ) (rows : List Line) (n : ℕ) (c : Line)
    → slice_get rows n ≡ Some c → nat_lt k c.level ≡ false → voices w k (drop n rows) ≡ []
voices_end w k rows n c is high =
    ap (voices w k) (row_there rows n c is)
    ∙ cond-false (nat_lt k c.level)
    (if nat_lt (k + 1) c.level then voices w k (drop (n + 1) rows)
    else record { role = c.role; text = element_text w c (kids_at w rows c n) } ∷ voices w k (drop (n + 1) rows))
    [] high

pub voices_deep : (w : Show) (k : ℕ) (rows : List Line) (n : ℕ) (c : Line)
    → slice_get rows n ≡ Some c → nat_lt k c.level ≡ true → nat_lt (k + 1) c.level ≡ true
    → voices w k (drop n rows) ≡ voices w k (drop (n + 1) rows)
voices_deep w k rows n c is deep deeper =
    ap (voices w k) (row_there rows n c is)
    ∙ cond-true (nat_lt k c.level)
    (if nat_lt (k + 1) c.level then voices w k (drop (n + 1) rows)
    else record { role = c.role; text = element_text w c (kids_at w rows c n) } ∷ voices w k (drop (n + 1) rows))
    [] deep
    ∙ cond-true (nat_lt (k + 1) c.level) (voices w k (drop (n + 1) rows))
    (record { role = c.role; text = element_text w c (kids_at w rows c n) } ∷ voices w k (drop (n + 1) rows)) deeper

pub voices_here : (w : Show) (k : ℕ) (rows : List Line) (n : ℕ) (c : Line)
    → slice_get rows n ≡ Some c → nat_lt k c.level ≡ true → nat_lt (k + 1) c.level ≡ false
    → voices w k (drop n rows)
    ≡ record { role = c.role; text = element_text w c (kids_at w rows c n) } ∷ voices w k (drop (n + 1) rows)
voices_here w k rows n c is deep here =
    ap (voices w k) (row_there rows n c is)
    ∙ cond-true (nat_lt k c.level)
    (if nat_lt (k + 1) c.level then voices w k (drop (n + 1) rows)
    else record { role = c.role; text = element_text w c (kids_at w rows c n) } ∷ voices w k (drop (n + 1) rows))
    [] deep
    ∙ cond-false (nat_lt (k + 1) c.level) (voices w k (drop (n + 1) rows))
    (record { role = c.role; text = element_text w c (kids_at w rows c n) } ∷ voices w k (drop (n + 1) rows)) here

-- what is shown at a stop of nothing
none_shown : {A : Type 0} (p : A → Bool) (vs : List A) → ((v : A) → p v ≡ false) → filter p vs ≡ []
none_shown p [] h = refl
none_shown p (v ∷ vs) h = cond-false (p v) (v ∷ filter p vs) (filter p vs) (h v) ∙ none_shown p vs h

-- nothing is shown below the last level that has some
pub cut_shown : (w : Show) (r : Line) (s : Stop) (vs : List Spoken) → w.cut ≤ r.level → at_stop w r s vs ≡ []
cut_shown w r s vs high =
    ap (map (λ (v : Spoken). opening s ++ (v.text ++ closing s)))
    (none_shown (λ (v : Spoken). nat_lt r.level w.cut && (has_stop s r.payload && role_fits s v.role)) vs
    (λ v. ap (λ b. b && (has_stop s r.payload && role_fits s v.role)) (le-ltb r.level w.cut high)))

-- nor at a stop that the kind doesn't have
pub unstopped_shown : (w : Show) (r : Line) (s : Stop) (vs : List Spoken)
    → has_stop s r.payload ≡ false → at_stop w r s vs ≡ []
unstopped_shown w r s vs none =
    ap (map (λ (v : Spoken). opening s ++ (v.text ++ closing s)))
    (none_shown (λ (v : Spoken). nat_lt r.level w.cut && (has_stop s r.payload && role_fits s v.role)) vs
    (λ v. and_right (nat_lt r.level w.cut) (has_stop s r.payload && role_fits s v.role)
    (ap (λ b. b && role_fits s v.role) none)))

pub cut_off : (w : Show) (r : Line) (s : Stop) (rows : List Line) (from after : ℕ)
    → AreBelow rows r.level from after → w.cut ≤ r.level → IsFirst w rows r s from (sought.End after)
unfolding IsFirst
cut_off w r s rows from after below high = (cut_shown w r s (voices w r.level (drop from rows)) high, below)

pub no_stop : (w : Show) (r : Line) (s : Stop) (rows : List Line) (from after : ℕ)
    → AreBelow rows r.level from after → has_stop s r.payload ≡ false → IsFirst w rows r s from (sought.End after)
unfolding IsFirst
no_stop w r s rows from after below none = (unstopped_shown w r s (voices w r.level (drop from rows)) none, below)

-- ---- rows below a level

pub below_none : (rows : List Line) (k a : ℕ) → AreBelow rows k a a
below_none rows k a = record { order = omega arith; deep = λ n c low high at. absurd (omega (arith, low, high)) }

pub below_both : (rows : List Line) (k a b c : ℕ) → AreBelow rows k a b → AreBelow rows k b c → AreBelow rows k a c
below_both rows k a b c h g = record {
  order = omega (arith, h.order, g.order);
  deep = λ n r low high at.
      elim (cases_lt n b) [ inl near ↦ h.deep n r low near at | inr far ↦ g.deep n r far high at ];
}

pub below_higher : (rows : List Line) (k j a b : ℕ) → AreBelow rows k a b → j ≤ k → AreBelow rows j a b
below_higher rows k j a b h high =
    record { order = h.order; deep = λ n r low near at. omega (arith, h.deep n r low near at, high) }

below_one : (rows : List Line) (k a : ℕ) (c : Line)
    → slice_get rows a ≡ Some c → k < c.level → AreBelow rows k a (a + 1)
below_one rows k a c is deep = record {
  order = omega arith;
  deep = λ n r low high at.
      let here : n ≡ a = omega (arith, low, high) in
      subst (λ (l : Line). k < l.level) (same_Some c r (sym is ∙ sym (ap (slice_get rows) here) ∙ at)) deep;
}

pub below_more : (rows : List Line) (k a n : ℕ) (c : Line)
    → AreBelow rows k a n → slice_get rows n ≡ Some c → k < c.level → AreBelow rows k a (n + 1)
below_more rows k a n c h is deep = below_both rows k a n (n + 1) h (below_one rows k n c is deep)

skip_by : (w : Show) (rows : List Line) (i k n a : ℕ)
    → i < k → AreBelow rows k a (a + n) → voices w i (drop a rows) ≡ voices w i (drop (a + n) rows)
skip_by w rows i k Prim.Native.Nat.zero a high h = ap (λ m. voices w i (drop m rows)) (omega arith)
skip_by w rows i k (suc n) a high h = elim ((slice_get_cases rows a).1) [
  | inl here ↦
      let deep : k < here.0.level = h.deep a here.0 (omega arith) (omega arith) here.2 in
      voices_deep w i rows a here.0 here.2 (lt-ltb i here.0.level (omega (arith, deep)))
      (lt-ltb (i + 1) here.0.level (omega (arith, deep)))
      ∙ skip_by w rows i k n (a + 1) high (record {
        order = omega arith;
        deep = λ m r low near at. h.deep m r (omega (arith, low)) (omega (arith, near)) at;
      })
      ∙ ap (λ m. voices w i (drop m rows)) (omega arith)
  | inr past ↦ ap (voices w i) (drop_all a rows past.0 ∙ sym (drop_all (a + suc n) rows (omega (arith, past.0))))
]

-- rows that stand below a level say nothing at a higher one
pub skipped : (w : Show) (rows : List Line) (i k a b : ℕ)
    → i < k → AreBelow rows k a b → voices w i (drop a rows) ≡ voices w i (drop b rows)
skipped w rows i k a b high h =
    let is : a + (b - a) ≡ b = omega (arith, h.order) in
    skip_by w rows i k (b - a) a high (subst (λ m. AreBelow rows k a m) (sym is) h)
    ∙ ap (λ m. voices w i (drop m rows)) is

-- ---- a search

pub Looking : Show → List Line → Line → Stop → ℕ → ℕ → Type 0
Looking w rows r s from n =
    (at_stop w r s (voices w r.level (drop from rows)) ≡ at_stop w r s (voices w r.level (drop n rows)))
    × AreBelow rows r.level from n

pub look_start : (w : Show) (rows : List Line) (r : Line) (s : Stop) (from : ℕ) → Looking w rows r s from from
unfolding Looking
look_start w rows r s from = (refl, below_none rows r.level from)

pub past_end : (rows : List Line) (n : ℕ) → slice_get rows n ≡ None → drop n rows ≡ []
past_end rows n h = elim ((slice_get_cases rows n).1) [
  | inl c ↦ absurd (differ c.0 (sym c.2 ∙ h))
  | inr c ↦ drop_all n rows c.0
]
  where
    differ : (x : Line) → Some x ≡ None → ⊥
    differ x e = cc

pub look_past : (w : Show) (rows : List Line) (r : Line) (s : Stop) (from n : ℕ)
    → Looking w rows r s from n → slice_get rows n ≡ None → IsFirst w rows r s from (sought.End n)
unfolding IsFirst Looking
look_past w rows r s from n h none = (h.0 ∙ ap (λ ls. at_stop w r s (voices w r.level ls)) (past_end rows n none), h.1)

pub look_end : (w : Show) (rows : List Line) (r c : Line) (s : Stop) (from n : ℕ)
    → Looking w rows r s from n → slice_get rows n ≡ Some c → c.level ≤ r.level → IsFirst w rows r s from (sought.End n)
unfolding IsFirst Looking
look_end w rows r c s from n h is high =
    (h.0 ∙ ap (at_stop w r s) (voices_end w r.level rows n c is (le-ltb r.level c.level high)), h.1)

shown_by : (w : Show) (r c : Line) (s : Stop) (m : ℕ) (rows : List Line) (b : Bool)
    → (nat_lt r.level w.cut && (has_stop s r.payload && role_fits s c.role)) ≡ b
    → at_stop w r s
    (record { role = c.role; text = element_text w c (kids_at w rows c m) } ∷ voices w r.level (drop (m + 1) rows))
    ≡ (if b
    then (opening s ++ (element_text w c (kids_at w rows c m) ++ closing s))
    ∷ at_stop w r s (voices w r.level (drop (m + 1) rows))
    else at_stop w r s (voices w r.level (drop (m + 1) rows)))
shown_by w r c s m rows b h =
    let v : Spoken = record { role = c.role; text = element_text w c (kids_at w rows c m) } in
    let vs : List Spoken = voices w r.level (drop (m + 1) rows) in
    let p : Spoken → Bool = λ v. nat_lt r.level w.cut && (has_stop s r.payload && role_fits s v.role) in
    let f : Spoken → List ℕ = λ v. opening s ++ (v.text ++ closing s) in
    ap (λ b. map f (if b then v ∷ filter p vs else filter p vs)) h ∙ split b f v (filter p vs)
  where
    split : (b : Bool) (f : Spoken → List ℕ) (v : Spoken) (vs : List Spoken)
        → map f (if b then v ∷ vs else vs) ≡ (if b then f v ∷ map f vs else map f vs)
    split true f v vs = refl
    split false f v vs = refl

all_true : (a b c : Bool) → a ≡ true → b ≡ true → c ≡ true → (a && (b && c)) ≡ true
all_true a b c h g k = cc

pub look_found : (w : Show) (rows : List Line) (r c : Line) (s : Stop) (from n : ℕ)
    → Looking w rows r s from n → slice_get rows n ≡ Some c → c.level ≡ r.level + 1
    → r.level < w.cut → has_stop s r.payload ≡ true → role_fits s c.role ≡ true
    → IsFirst w rows r s from (sought.Child n)
unfolding IsFirst Looking
look_found w rows r c s from n h is deep low has fits = (
  c,
  is,
  deep,
  h.1,
  h.0
      ∙ ap (at_stop w r s) (voices_here w r.level rows n c is
      (lt-ltb r.level c.level (omega (arith, deep))) (le-ltb (r.level + 1) c.level (omega (arith, deep))))
      ∙ shown_by w r c s n rows true
      (all_true (nat_lt r.level w.cut) (has_stop s r.payload) (role_fits s c.role) (lt-ltb r.level w.cut low) has fits),
)

pub look_unfit : (w : Show) (rows : List Line) (r c : Line) (s : Stop) (from n : ℕ) → Looking w rows r s from n
    → slice_get rows n ≡ Some c → c.level ≡ r.level + 1 → role_fits s c.role ≡ false → Looking w rows r s from (n + 1)
unfolding Looking
look_unfit w rows r c s from n h is deep unfit = (
  h.0
      ∙ ap (at_stop w r s) (voices_here w r.level rows n c is
      (lt-ltb r.level c.level (omega (arith, deep))) (le-ltb (r.level + 1) c.level (omega (arith, deep))))
      ∙ shown_by w r c s n rows false
      (and_right (nat_lt r.level w.cut) (has_stop s r.payload && role_fits s c.role)
      (and_right (has_stop s r.payload) (role_fits s c.role) unfit)),
  below_more rows r.level from n c h.1 is (omega (arith, deep)),
)

pub look_deep : (w : Show) (rows : List Line) (r c : Line) (s : Stop) (from n : ℕ)
    → Looking w rows r s from n → slice_get rows n ≡ Some c → r.level + 1 < c.level → Looking w rows r s from (n + 1)
unfolding Looking
look_deep w rows r c s from n h is deep = (
  h.0
      ∙ ap (at_stop w r s) (voices_deep w r.level rows n c is
      (lt-ltb r.level c.level (omega (arith, deep))) (lt-ltb (r.level + 1) c.level deep)),
  below_more rows r.level from n c h.1 is (omega (arith, deep)),
)
