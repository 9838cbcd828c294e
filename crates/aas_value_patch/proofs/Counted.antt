-- Members fit parts of different names where what is there for each part fits it, and there is nothing else.
use Rattle.std.proofs.Common.{◌≡◌, ℕ, suc, ◌+◌, ◌≤◌, ◌==◌, ◌&&◌, Bool, true, false, List, [], ◌∷◌, Option, Some, None}
use Rattle.std.proofs.Common.{refl, sym, ap, ap₂, ◌∙◌, subst, true≢false, arith}
use Rattle.std.proofs.lemmas.Bool.Decides.{nat_tests}
use Rattle.std.proofs.lemmas.Str.{encodes_same}
use Rattle.std.specs.Prelude.{bytes_eq, if◌then◌else◌}
use Rattle.std.specs.Str.{encode_utf8_all}
use Rattle.aas_lemmas.proofs.Truth.{bytes_eq-unlike}
use Rattle.serde_json.specs.Data.{Data, object, Members, no_members, member}
use Rattle.serde_json.specs.Events.{members_len}
use Rattle.serde_json.specs.Find.{get_member}
use Rattle.aas_value.specs.Parts.{Part, is_called, by_name, children, members_fit, fits_if}
use Rattle.aas_value_update.specs.Shape.{under_name}
use Rattle.aas_value_update.proofs.Members.{Rises, absent, same_name, name_itself, get_here, get_past}
use Rattle.aas_value_update.proofs.Named.{IsNew, Apart}
use Rattle.aas_value_patch.specs.Counted.{one_if_some, found, each_fits}

-- ---- one child

under_here : (k : List ℕ) (d : Data) (ms : Members) (a : Option (List ℕ)) (f : Option Data)
    → is_called k (record { name = a; form = f }) ≡ true
    → under_name (object (member k d ms)) (record { name = a; form = f }) ≡ Some d
under_here k d ms None f e = absurd (true≢false (sym e))
under_here k d ms (Some m) None e = by_test (bytes_eq k (encode_utf8_all m)) e
  where
    by_test : (b : Bool) → (b && false) ≡ true → ◌≡◌ {A = Option Data} None (Some d)
    by_test true e = absurd (true≢false (sym e))
    by_test false e = absurd (true≢false (sym e))
under_here k d ms (Some m) (Some f) e = by_test (bytes_eq k (encode_utf8_all m)) refl e
  where
    by_test : (b : Bool) → bytes_eq k (encode_utf8_all m) ≡ b → (b && true) ≡ true
        → get_member (encode_utf8_all m) (member k d ms) ≡ Some d
    by_test true is e =
        get_here (encode_utf8_all m) k d ms
        (ap (λ n. bytes_eq n k) (sym (same_name k (encode_utf8_all m) is)) ∙ name_itself k)
    by_test false is e = absurd (true≢false (sym e))

under_past : (k : List ℕ) (d : Data) (ms : Members) (a : Option (List ℕ)) (f : Option Data)
    → is_called k (record { name = a; form = f }) ≡ false
    → under_name (object (member k d ms)) (record { name = a; form = f })
    ≡ under_name (object ms) (record { name = a; form = f })
under_past k d ms None None e = refl
under_past k d ms None (Some f) e = refl
under_past k d ms (Some m) None e = refl
under_past k d ms (Some m) (Some f) e = by_test (bytes_eq k (encode_utf8_all m)) refl e
  where
    by_test : (b : Bool) → bytes_eq k (encode_utf8_all m) ≡ b → (b && true) ≡ false
        → get_member (encode_utf8_all m) (member k d ms) ≡ get_member (encode_utf8_all m) ms
    by_test true is e = absurd (true≢false e)
    by_test false is e = get_past (encode_utf8_all m) k d ms (bytes_eq-unlike k (encode_utf8_all m) is)

under_absent : (k : List ℕ) (ms : Members) (a : Option (List ℕ)) (f : Option Data)
    → get_member k ms ≡ None → is_called k (record { name = a; form = f }) ≡ true
    → under_name (object ms) (record { name = a; form = f }) ≡ None
under_absent k ms None f none e = absurd (true≢false (sym e))
under_absent k ms (Some m) None none e = refl
under_absent k ms (Some m) (Some f) none e = by_test (bytes_eq k (encode_utf8_all m)) refl e
  where
    by_test : (b : Bool)
        → bytes_eq k (encode_utf8_all m) ≡ b → (b && true) ≡ true → get_member (encode_utf8_all m) ms ≡ None
    by_test true is e = ap (λ n. get_member n ms) (sym (same_name k (encode_utf8_all m) is)) ∙ none
    by_test false is e = absurd (true≢false (sym e))

-- the name by which a child is called
called_name : (k n : List ℕ) (a : Option (List ℕ)) (f : Option Data)
    → a ≡ Some n → is_called k (record { name = a; form = f }) ≡ true → k ≡ encode_utf8_all n
called_name k n None f is e = absurd (true≢false (sym e))
called_name k n (Some m) None is e = absurd (by_test (bytes_eq k (encode_utf8_all m)) e)
  where
    by_test : (b : Bool) → (b && false) ≡ true → ⊥
    by_test true e = true≢false (sym e)
    by_test false e = true≢false (sym e)
called_name k n (Some m) (Some f) is e =
    let same : m ≡ n = cc in by_test (bytes_eq k (encode_utf8_all m)) refl e ∙ ap encode_utf8_all same
  where
    by_test : (b : Bool) → bytes_eq k (encode_utf8_all m) ≡ b → (b && true) ≡ true → k ≡ encode_utf8_all m
    by_test true is e = same_name k (encode_utf8_all m) is
    by_test false is e = absurd (true≢false (sym e))

-- ---- one member more

-- no part is called by its name, or one
data Meets (xs : List Part) (k : List ℕ) (d : Data) (ms : Members) : Type 0 where
  passed : found xs (member k d ms) ≡ found xs ms → each_fits xs (member k d ms) ≡ each_fits xs ms
      → ((other : Data → Bool) → by_name k (λ x. x.fits) xs other ≡ other) → Meets xs k d ms
  met : (fits : Data → Bool)
      → found xs (member k d ms) ≡ suc (found xs ms) → each_fits xs (member k d ms) ≡ fits d && each_fits xs ms
      → ((other : Data → Bool) → by_name k (λ x. x.fits) xs other ≡ fits) → Meets xs k d ms

record Passed (xs : List Part) (k : List ℕ) (d : Data) (ms : Members) : Type 0 where
  count : found xs (member k d ms) ≡ found xs ms
  fit : each_fits xs (member k d ms) ≡ each_fits xs ms
  name : (other : Data → Bool) → by_name k (λ x. x.fits) xs other ≡ other

pass_one : (x : Part) (xs : List Part) (k : List ℕ) (d : Data) (ms : Members)
    → is_called k x.child ≡ false → Passed xs k d ms → Passed (x ∷ xs) k d ms
pass_one x xs k d ms e p =
    let same = under_past k d ms x.child.name x.child.form e in record {
      count = ap₂ (λ o n. one_if_some o + n) same p.count;
      fit = ap₂ (λ o b. fits_if x.fits o && b) same p.fit;
      name = λ other. ap (λ b. by_name k (λ x. x.fits) xs (if b then x.fits else other)) e ∙ p.name other;
    }

none_called : (n : List ℕ) (xs : List Part) (d : Data) (ms : Members)
    → IsNew n (children xs) → Passed xs (encode_utf8_all n) d ms
none_called n [] d ms h = record { count = refl; fit = refl; name = λ other. refl }
none_called n (x ∷ xs) d ms h =
    pass_one x xs (encode_utf8_all n) d ms
    (by_test (is_called (encode_utf8_all n) x.child) refl) (none_called n xs d ms h.1)
  where
    some_name : (a : Option (List ℕ)) (f : Option Data)
        → is_called (encode_utf8_all n) (record { name = a; form = f }) ≡ true → a ≡ Some n
    some_name None f e = absurd (true≢false (sym e))
    some_name (Some m) f e =
        ap (λ (k : List ℕ). Some k) (sym (encodes_same n m (called_name (encode_utf8_all n) m (Some m) f refl e)))

    by_test : (b : Bool) → is_called (encode_utf8_all n) x.child ≡ b → b ≡ false
    by_test true is = absurd (h.0 (some_name x.child.name x.child.form is))
    by_test false is = refl

swap : (a b c : Bool) → a && (b && c) ≡ b && (a && c)
swap true true c = refl
swap true false c = refl
swap false true c = refl
swap false false c = refl

meets : (xs : List Part) (k : List ℕ) (d : Data) (ms : Members)
    → get_member k ms ≡ None → Apart (children xs) → Meets xs k d ms
meets [] k d ms none a = passed refl refl (λ other. refl)
meets (x ∷ xs) k d ms none a = by_test (is_called k x.child) refl (meets xs k d ms none a.1)
  where
    by_rest : is_called k x.child ≡ false → Meets xs k d ms → Meets (x ∷ xs) k d ms
    by_rest e (passed c f n) =
        let p = pass_one x xs k d ms e (record { count = c; fit = f; name = n }) in
        passed p.count p.fit p.name
    by_rest e (met fits c f n) =
        let same = under_past k d ms x.child.name x.child.form e in
        met fits (ap₂ (λ o m. one_if_some o + m) same c ∙ grind arith)
        (ap₂ (λ o b. fits_if x.fits o && b) same f
        ∙ swap (fits_if x.fits (under_name (object ms) x.child)) (fits d) (each_fits xs ms))
        (λ other. ap (λ b. by_name k (λ x. x.fits) xs (if b then x.fits else other)) e ∙ n other)

    by_test : (b : Bool) → is_called k x.child ≡ b → Meets xs k d ms → Meets (x ∷ xs) k d ms
    by_test false e more = by_rest e more
    by_test true e more =
        let here = under_here k d ms x.child.name x.child.form e in
        let gone = under_absent k ms x.child.name x.child.form none e in
        let is = called_name k a.0.0 x.child.name x.child.form a.0.1 e in
        let p = subst (λ n. Passed xs n d ms) (sym is) (none_called a.0.0 xs d ms a.0.2) in
        met x.fits
        (ap₂ (λ o m. one_if_some o + m) here p.count ∙ counted_one (found xs ms)
        ∙ ap (λ o. suc (one_if_some o + found xs ms)) (sym gone))
        (ap₂ (λ o b. fits_if x.fits o && b) here p.fit
        ∙ ap (λ o. x.fits d && (fits_if x.fits o && each_fits xs ms)) (sym gone))
        (λ other. ap (λ b. by_name k (λ x. x.fits) xs (if b then x.fits else other)) e ∙ p.name x.fits)
      where
        counted_one : (n : ℕ) → 1 + n ≡ suc (0 + n)
        counted_one n = omega arith

-- ---- all members

nothing : (a : Option (List ℕ)) (f : Option Data)
    → under_name (object no_members) (record { name = a; form = f }) ≡ None
nothing None None = refl
nothing None (Some f) = refl
nothing (Some m) None = refl
nothing (Some m) (Some f) = refl

none_found : (xs : List Part) → found xs no_members ≡ 0
none_found [] = refl
none_found (x ∷ xs) = ap₂ (λ o n. one_if_some o + n) (nothing x.child.name x.child.form) (none_found xs)

none_unfit : (xs : List Part) → each_fits xs no_members ≡ true
none_unfit [] = refl
none_unfit (x ∷ xs) = ap₂ (λ o b. fits_if x.fits o && b) (nothing x.child.name x.child.form) (none_unfit xs)

bounded : (xs : List Part) (ms : Members) → Apart (children xs) → Rises ms → found xs ms ≤ members_len ms
bounded xs no_members a r = let none = none_found xs in omega arith
bounded xs (member k d ms) a r = by_meeting (meets xs k d ms (absent k ms r.0) a) (bounded xs ms a r.1)
  where
    by_meeting : Meets xs k d ms → found xs ms ≤ members_len ms → found xs (member k d ms) ≤ suc (members_len ms)
    by_meeting (passed c f n) b = omega arith
    by_meeting (met fits c f n) b = omega arith

too_few : (m n : ℕ) (b : Bool) → m ≤ n → false ≡ b && (m == suc n)
too_few m n true h = grind (arith, nat_tests)
too_few m n false h = refl

one_more : (m n : ℕ) (a b : Bool) → a && (b && (m == n)) ≡ (a && b) && (suc m == suc n)
one_more m n true true = grind (arith, nat_tests)
one_more m n true false = refl
one_more m n false b = refl

pub counted : (xs : List Part) (ms : Members)
    → Apart (children xs) → Rises ms → members_fit xs ms ≡ each_fits xs ms && (found xs ms == members_len ms)
counted xs no_members a r = ap₂ (λ b n. b && (n == 0)) (sym (none_unfit xs)) (sym (none_found xs))
counted xs (member k d ms) a r = by_meeting (meets xs k d ms (absent k ms r.0) a) (counted xs ms a r.1)
  where
    by_meeting : Meets xs k d ms → members_fit xs ms ≡ each_fits xs ms && (found xs ms == members_len ms)
        → by_name k (λ x. x.fits) xs (λ e. false) d && members_fit xs ms
        ≡ each_fits xs (member k d ms) && (found xs (member k d ms) == suc (members_len ms))
    by_meeting (passed c f n) same =
        ap (λ (t : Data → Bool). t d && members_fit xs ms) (n (λ e. false))
        ∙ too_few (found xs ms) (members_len ms) (each_fits xs ms) (bounded xs ms a r.1)
        ∙ ap₂ (λ b m. b && (m == suc (members_len ms))) (sym f) (sym c)
    by_meeting (met fits c f n) same =
        ap₂ (λ (t : Data → Bool) b. t d && b) (n (λ e. false)) same
        ∙ one_more (found xs ms) (members_len ms) (fits d) (each_fits xs ms)
        ∙ ap₂ (λ b m. b && (m == suc (members_len ms))) (sym f) (sym c)
