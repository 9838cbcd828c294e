-- Parts that depend on a number that stands before them.
use Rattle.std.proofs.Common.{◌≡◌, ℕ, ◌+◌, ◌-◌, ◌*◌, ◌↔◌, Bool, true, false, ◌&&◌, List, [], ◌∷◌, ◌++◌, Option, Some, None, refl, sym, ap, ◌∙◌, append_assoc, arith, if◌then◌else◌}
use Rattle.std.proofs.lemmas.Bool.Decides.{nat_tests}
use Rattle.std.specs.Char.{is_ascii_digit, digit_value}
use Rattle.std.specs.Option.{option_and_then}
use Rattle.std.specs.Str.Parse.{digits_value}
use Rattle.std.proofs.lemmas.Bool.{and_parts}
use Rattle.aas_lexical_forms.specs.Form.{digits, such, ◌▸=◌}
use Rattle.aas_lexical_forms.specs.Cut.{after_two_digits, after_four_digits, hundreds, cut_with, cut_such}
use Rattle.aas_lexical_forms.proofs.Cuts.{Cuts, Anything}

-- p reads the numbers that the form writes, and nothing else, whatever follows
pub record Reads (A : ℕ → List ℕ → Type 0) (p : List ℕ → Option (ℕ × List ℕ)) : Type 0 where
  pub sound : (t : List ℕ) (v : ℕ) (rest : List ℕ) → p t ≡ Some (v, rest) → (x : List ℕ) × (t ≡ x ++ rest) × A v x
  pub full : (v : ℕ) (x rest : List ℕ) → A v x → p (x ++ rest) ≡ Some (v, rest)

pub digit_is : (b : ℕ) → is_ascii_digit b ≡ true → digit_value b ≡ b - 48
digit_is b h = grind (arith, nat_tests)

-- ---- two digits

abbrev read_pair : ℕ → ℕ → List ℕ → ℕ × List ℕ
read_pair a b t = ((a - 48) * 10 + (b - 48), t)

pair_is : (a b : ℕ) → is_ascii_digit a ≡ true → is_ascii_digit b ≡ true → (a - 48) * 10 + (b - 48) ≡ digits_value 10 (a ∷ b ∷ [])
pair_is a b h k = let x = digit_is a h in let y = digit_is b k in omega arith

two_by : (a b : ℕ) (t : List ℕ) (v : ℕ) (rest : List ℕ) (x y : Bool) → is_ascii_digit a ≡ x → is_ascii_digit b ≡ y
    → (if x && y then Some (read_pair a b t) else None) ≡ Some (v, rest) → (w : List ℕ) × (a ∷ b ∷ t ≡ w ++ rest) × digits 2 v w
two_by a b t v rest true true h k e =
    let whole : read_pair a b t ≡ (v, rest) = cc in
    (a ∷ b ∷ [], ap (λ (r : ℕ × List ℕ). a ∷ b ∷ r.1) whole, (rw (h, k) refl, refl, sym (ap (λ (r : ℕ × List ℕ). r.0) whole) ∙ pair_is a b h k))
two_by a b t v rest true false h k e = absurd (cc)
two_by a b t v rest false y h k e = absurd (cc)

two-sound : (t : List ℕ) (v : ℕ) (rest : List ℕ) → after_two_digits t ≡ Some (v, rest) → (x : List ℕ) × (t ≡ x ++ rest) × digits 2 v x
two-sound [] v rest e = absurd (cc)
two-sound (a ∷ []) v rest e = absurd (cc)
two-sound (a ∷ b ∷ t) v rest e = two_by a b t v rest (is_ascii_digit a) (is_ascii_digit b) refl refl e

two-full : (v : ℕ) (x rest : List ℕ) → digits 2 v x → after_two_digits (x ++ rest) ≡ Some (v, rest)
two-full v [] rest h = let n = h.1 in absurd (omega arith)
two-full v (a ∷ []) rest h = let n = h.1 in absurd (omega arith)
two-full v (a ∷ b ∷ []) rest h =
    let s = and_parts (is_ascii_digit a) _ h.0 in let r = and_parts (is_ascii_digit b) true s.1 in
    rw (s.0, r.0) (ap (λ n. Some (n, rest)) (pair_is a b s.0 r.0 ∙ sym h.2))
two-full v (a ∷ b ∷ c ∷ x) rest h = let n = h.1 in absurd (omega arith)

pub Reads-two_digits : Reads (digits 2) after_two_digits
Reads-two_digits = record { sound = two-sound; full = two-full }

-- ---- four digits

four_is : (a b c d : ℕ) → is_ascii_digit a ≡ true → is_ascii_digit b ≡ true → is_ascii_digit c ≡ true → is_ascii_digit d ≡ true
    → digits_value 10 (a ∷ b ∷ []) * 100 + digits_value 10 (c ∷ d ∷ []) ≡ digits_value 10 (a ∷ b ∷ c ∷ d ∷ [])
four_is a b c d h k l m = omega arith

-- two digits, and two more
join_pairs : (u w : ℕ) (x y : List ℕ) → digits 2 u x → digits 2 w y → digits 4 (u * 100 + w) (x ++ y)
join_pairs u w [] y h k = let n = h.1 in absurd (omega arith)
join_pairs u w (a ∷ []) y h k = let n = h.1 in absurd (omega arith)
join_pairs u w (a ∷ b ∷ c ∷ x) y h k = let n = h.1 in absurd (omega arith)
join_pairs u w (a ∷ b ∷ []) [] h k = let n = k.1 in absurd (omega arith)
join_pairs u w (a ∷ b ∷ []) (c ∷ []) h k = let n = k.1 in absurd (omega arith)
join_pairs u w (a ∷ b ∷ []) (c ∷ d ∷ e ∷ y) h k = let n = k.1 in absurd (omega arith)
join_pairs u w (a ∷ b ∷ []) (c ∷ d ∷ []) h k =
    let s = and_parts (is_ascii_digit a) _ h.0 in let r = and_parts (is_ascii_digit b) true s.1 in
    let p = and_parts (is_ascii_digit c) _ k.0 in let q = and_parts (is_ascii_digit d) true p.1 in
    (rw (s.0, r.0, p.0, q.0) refl, refl, rw (h.2, k.2) (four_is a b c d s.0 r.0 p.0 q.0))

four_last : (t : List ℕ) (u v : ℕ) (mid rest : List ℕ) (o : Option (ℕ × List ℕ)) → (x : List ℕ) × (t ≡ x ++ mid) × digits 2 u x → after_two_digits mid ≡ o
    → option_and_then (λ (s : ℕ × List ℕ). Some (hundreds u s)) o ≡ Some (v, rest) → (x : List ℕ) × (t ≡ x ++ rest) × digits 4 v x
four_last t u v mid rest None x h e = absurd (cc)
four_last t u v mid rest (Some s) x h e =
    let whole : hundreds u s ≡ (v, rest) = cc in
    let number : u * 100 + s.0 ≡ v = ap (λ (r : ℕ × List ℕ). r.0) whole in let left : s.1 ≡ rest = ap (λ (r : ℕ × List ℕ). r.1) whole in
    let y = two-sound mid s.0 s.1 h in (
      x.0 ++ y.0,
      x.1 ∙ ap (λ (l : List ℕ). x.0 ++ l) y.1 ∙ sym (append_assoc x.0 y.0 s.1) ∙ ap (λ (l : List ℕ). (x.0 ++ y.0) ++ l) left,
      rw (sym number) (join_pairs u s.0 x.0 y.0 x.2 y.2),
    )

four_first : (t : List ℕ) (v : ℕ) (rest : List ℕ) (o : Option (ℕ × List ℕ)) → after_two_digits t ≡ o
    → option_and_then (λ (r : ℕ × List ℕ). option_and_then (λ (s : ℕ × List ℕ). Some (hundreds r.0 s)) (after_two_digits r.1)) o ≡ Some (v, rest) → (x : List ℕ) × (t ≡ x ++ rest) × digits 4 v x
four_first t v rest None h e = absurd (cc)
four_first t v rest (Some r) h e = four_last t r.0 v r.1 rest (after_two_digits r.1) (two-sound t r.0 r.1 h) refl e

four-full : (v : ℕ) (x rest : List ℕ) → digits 4 v x → after_four_digits (x ++ rest) ≡ Some (v, rest)
four-full v [] rest h = let n = h.1 in absurd (omega arith)
four-full v (a ∷ []) rest h = let n = h.1 in absurd (omega arith)
four-full v (a ∷ b ∷ []) rest h = let n = h.1 in absurd (omega arith)
four-full v (a ∷ b ∷ c ∷ []) rest h = let n = h.1 in absurd (omega arith)
four-full v (a ∷ b ∷ c ∷ d ∷ []) rest h =
    let s = and_parts (is_ascii_digit a) _ h.0 in let r = and_parts (is_ascii_digit b) _ s.1 in
    let p = and_parts (is_ascii_digit c) _ r.1 in let q = and_parts (is_ascii_digit d) true p.1 in
    rw (s.0, r.0, p.0, q.0) (ap (λ n. Some (n, rest)) (ap (λ n. n * 100 + ((c - 48) * 10 + (d - 48))) (pair_is a b s.0 r.0) ∙ ap (λ n. digits_value 10 (a ∷ b ∷ []) * 100 + n) (pair_is c d p.0 q.0) ∙ four_is a b c d s.0 r.0 p.0 q.0 ∙ sym h.2))
four-full v (a ∷ b ∷ c ∷ d ∷ e ∷ x) rest h = let n = h.1 in absurd (omega arith)

pub Reads-four_digits : Reads (digits 4) after_four_digits
Reads-four_digits = record { sound = λ t v rest e. four_first t v rest (after_two_digits t) refl e; full = four-full }

-- ---- what the number asks for

module _ {A : ℕ → List ℕ → Type 0} {p : List ℕ → Option (ℕ × List ℕ)} (a : Reads A p) {B : ℕ → List ℕ → Type 0} {Next : List ℕ → Type 0} {q : ℕ → List ℕ → Option (List ℕ)} (b : (v : ℕ) → Cuts (B v) Next (q v)) where
  with_by : (t rest : List ℕ) (o : Option (ℕ × List ℕ)) → p t ≡ o → option_and_then (λ (r : ℕ × List ℕ). q r.0 r.1) o ≡ Some rest → (x : List ℕ) × (t ≡ x ++ rest) × (A ▸= B) x
  with_by t rest None h e = absurd (cc)
  with_by t rest (Some r) h e =
      let x = a.sound t r.0 r.1 h in let y = (b r.0).sound r.1 rest e in
      (x.0 ++ y.0, x.1 ∙ ap (λ (l : List ℕ). x.0 ++ l) y.1 ∙ sym (append_assoc x.0 y.0 rest), (r.0, x.0, y.0, refl, x.2, y.2))

  pub Cuts-with : Cuts (A ▸= B) Next (cut_with p q)
  Cuts-with = record {
    sound = λ t rest e. with_by t rest (p t) refl e;
    full = λ x rest h next.
        let same : x ++ rest ≡ h.1 ++ (h.2 ++ rest) = ap (λ (l : List ℕ). l ++ rest) h.3 ∙ append_assoc h.1 h.2 rest in
        ap (λ (l : List ℕ). cut_with p q l) same ∙ ap (option_and_then (λ (r : ℕ × List ℕ). q r.0 r.1)) (a.full h.0 h.1 (h.2 ++ rest) h.4) ∙ (b h.0).full h.2 rest h.5 next;
  }

such_by : (P : Type 0) (v : Bool) → ((v ≡ true) ↔ P) → (t rest : List ℕ) → cut_such v t ≡ Some rest → (x : List ℕ) × (t ≡ x ++ rest) × such P x
such_by P true k t rest e = ([], (cc), (k.0 refl, refl))
such_by P false k t rest e = absurd (cc)

pub Cuts-such : (P : Type 0) (v : Bool) → ((v ≡ true) ↔ P) → Cuts (such P) Anything (cut_such v)
Cuts-such P v k = record { sound = such_by P v k; full = λ x rest h next. rw (k.1 h.0, h.1) refl }
