-- Parts that aren't empty, or aren't long, and parts that are repeated.
use Rattle.std.proofs.Common.{◌≡◌, ℕ, zero, suc, nat_le, nat_lt, ◌+◌, ◌<◌, ◌≤◌, length, length-append, arith, Bool, true, false, List, [], ◌∷◌, ◌++◌, Option, Some, None, refl, sym, ap, ◌∙◌, append_assoc, inl, inr, if◌then◌else◌, codes}
use Rattle.std.proofs.lemmas.Bool.Decides.{nat_tests}
use Rattle.std.specs.Option.{option_and_then, option_map_or}
use Rattle.aas_lexical_forms.specs.Form.{lit, one, nonempty, up_to, Many, ◌∣◌, ◌▸◌}
use Rattle.aas_lexical_forms.specs.Form.Many.{none, more}
use Rattle.aas_lexical_forms.specs.Cut.{shorter, cut_nonempty, within, cut_up_to, cut_times, cut_many, cut_all}
use Rattle.aas_lexical_forms.proofs.Cuts.{Cuts}
use Prim.Native.String.{String}

-- ---- forms whose texts aren't empty

pub record Nonempty (A : List ℕ → Type 0) : Type 0 where
  pub long : (x : List ℕ) → A x → 0 < length x

one_long : (class : ℕ → Bool) (x : List ℕ) → one class x → 0 < length x
one_long class [] h = absurd h
one_long class (b ∷ x) h = omega arith

pub Nonempty-one : (class : ℕ → Bool) → Nonempty (one class)
Nonempty-one class = record { long = one_long class }

-- the premise computes, where the word is written out
pub Nonempty-lit : (word : String) → 0 < length (codes word) → Nonempty (lit word)
Nonempty-lit word k = record { long = λ x h. rw h k }

pub Nonempty-then : {A B : List ℕ → Type 0} → Nonempty A → Nonempty (A ▸ B)
Nonempty-then n = record { long = λ x h. let sum : length x ≡ length h.0 + length h.1 = ap length h.2 ∙ length-append h.0 h.1 in let front = n.long h.0 h.3 in omega arith }

pub Nonempty-behind : {A B : List ℕ → Type 0} → Nonempty B → Nonempty (A ▸ B)
Nonempty-behind n = record { long = λ x h. let sum : length x ≡ length h.0 + length h.1 = ap length h.2 ∙ length-append h.0 h.1 in let back = n.long h.1 h.4 in omega arith }

either_long : {A B : List ℕ → Type 0} → Nonempty A → Nonempty B → (x : List ℕ) → (A ∣ B) x → 0 < length x
either_long n m x (inl h) = n.long x h
either_long n m x (inr h) = m.long x h

pub Nonempty-either : {A B : List ℕ → Type 0} → Nonempty A → Nonempty B → Nonempty (A ∣ B)
Nonempty-either n m = record { long = either_long n m }

-- ---- lengths

some_long : (x rest : List ℕ) → 0 < length x → nat_lt (length rest) (length (x ++ rest)) ≡ true
some_long x rest h = let sum : length (x ++ rest) ≡ length x + length rest = length-append x rest in grind (arith, nat_tests)

short_enough : (n : ℕ) (x rest : List ℕ) → length x ≤ n → nat_le (length (x ++ rest)) (n + length rest) ≡ true
short_enough n x rest h = let sum : length (x ++ rest) ≡ length x + length rest = length-append x rest in grind (arith, nat_tests)

module _ {A NextA : List ℕ → Type 0} {p : List ℕ → Option (List ℕ)} (a : Cuts A NextA p) where
  nonempty_at : (t rest u : List ℕ) → p t ≡ Some u → (v : Bool) → nat_lt (length u) (length t) ≡ v → (if v then Some u else None) ≡ Some rest → (x : List ℕ) × (t ≡ x ++ rest) × nonempty A x
  nonempty_at t rest u h true l e =
      let same : u ≡ rest = cc in let x = a.sound t u h in
      let long : length u < length t = grind (arith, nat_tests) in
      let sum : length t ≡ length x.0 + length u = ap length x.1 ∙ length-append x.0 u in
      (x.0, x.1 ∙ ap (λ (y : List ℕ). x.0 ++ y) same, (x.2, omega arith))
  nonempty_at t rest u h false l e = absurd (cc)

  nonempty_by : (t rest : List ℕ) (o : Option (List ℕ)) → p t ≡ o → option_and_then (shorter t) o ≡ Some rest → (x : List ℕ) × (t ≡ x ++ rest) × nonempty A x
  nonempty_by t rest None h e = absurd (cc)
  nonempty_by t rest (Some u) h e = nonempty_at t rest u h (nat_lt (length u) (length t)) refl e

  pub Cuts-nonempty : Cuts (nonempty A) NextA (cut_nonempty p)
  Cuts-nonempty = record {
    sound = λ t rest e. nonempty_by t rest (p t) refl e;
    full = λ x rest h next.
        let long : nat_lt (length rest) (length (x ++ rest)) ≡ true = some_long x rest h.1 in
        ap (option_and_then (shorter (x ++ rest))) (a.full x rest h.0 next) ∙ rw long refl;
  }

  up_to_at : (n : ℕ) (t rest u : List ℕ) → p t ≡ Some u → (v : Bool) → nat_le (length t) (n + length u) ≡ v → (if v then Some u else None) ≡ Some rest → (x : List ℕ) × (t ≡ x ++ rest) × up_to n A x
  up_to_at n t rest u h true l e =
      let same : u ≡ rest = cc in let x = a.sound t u h in
      let short : length t ≤ n + length u = grind (arith, nat_tests) in
      let sum : length t ≡ length x.0 + length u = ap length x.1 ∙ length-append x.0 u in
      (x.0, x.1 ∙ ap (λ (y : List ℕ). x.0 ++ y) same, (x.2, omega arith))
  up_to_at n t rest u h false l e = absurd (cc)

  up_to_by : (n : ℕ) (t rest : List ℕ) (o : Option (List ℕ)) → p t ≡ o → option_and_then (within n t) o ≡ Some rest → (x : List ℕ) × (t ≡ x ++ rest) × up_to n A x
  up_to_by n t rest None h e = absurd (cc)
  up_to_by n t rest (Some u) h e = up_to_at n t rest u h (nat_le (length t) (n + length u)) refl e

  pub Cuts-up_to : (n : ℕ) → Cuts (up_to n A) NextA (cut_up_to n p)
  Cuts-up_to n = record {
    sound = λ t rest e. up_to_by n t rest (p t) refl e;
    full = λ x rest h next.
        let short : nat_le (length (x ++ rest)) (n + length rest) ≡ true = short_enough n x rest h.1 in
        ap (option_and_then (within n (x ++ rest))) (a.full x rest h.0 next) ∙ rw short refl;
  }

  -- ---- any number of parts

  times_by : (n : ℕ) (t : List ℕ) (o : Option (List ℕ)) → p t ≡ o → ((r : List ℕ) → (x : List ℕ) × (r ≡ x ++ cut_times n p r) × Many A x)
      → (x : List ℕ) × (t ≡ x ++ option_map_or (cut_times n p) o t) × Many A x
  times_by n t None h k = ([], refl, none)
  times_by n t (Some r) h k =
      let x = a.sound t r h in let y = k r in
      (x.0 ++ y.0, x.1 ∙ ap (λ (l : List ℕ). x.0 ++ l) y.1 ∙ sym (append_assoc x.0 y.0 (cut_times n p r)), more x.0 y.0 (x.0 ++ y.0) refl x.2 y.2)

  times-sound : (n : ℕ) (t : List ℕ) → (x : List ℕ) × (t ≡ x ++ cut_times n p t) × Many A x
  times-sound zero t = ([], refl, none)
  times-sound (suc n) t = times_by n t (p t) refl (λ r. times-sound n r)

  module _ {Next : List ℕ → Type 0} (long : Nonempty A) (ends : (z : List ℕ) → Next z → p z ≡ None) (next : (y z : List ℕ) → Many A y → Next z → NextA (y ++ z)) where
    times-full : (n : ℕ) (x rest : List ℕ) → Many A x → length x ≤ n → Next rest → cut_times n p (x ++ rest) ≡ rest
    times-full zero x rest none l k = refl
    times-full zero x rest (more f b t e h m) l k =
        let sum : length t ≡ length f + length b = ap length e ∙ length-append f b in let front = long.long f h in absurd (omega arith)
    times-full (suc n) x rest none l k = ap (λ o. option_map_or (cut_times n p) o rest) (ends rest k)
    times-full (suc n) x rest (more f b t e h m) l k =
        let sum : length t ≡ length f + length b = ap length e ∙ length-append f b in let front = long.long f h in
        let same : t ++ rest ≡ f ++ (b ++ rest) = ap (λ (q : List ℕ). q ++ rest) e ∙ append_assoc f b rest in
        let cut : p (t ++ rest) ≡ Some (b ++ rest) = ap p same ∙ a.full f (b ++ rest) h (next b rest m k) in
        ap (λ o. option_map_or (cut_times n p) o (t ++ rest)) cut ∙ times-full n b rest m (omega arith) k

    -- no part is empty, nothing more is found in what may follow, and further parts are fit to follow a part
    pub Cuts-many : Cuts (Many A) Next (cut_all (cut_many p))
    Cuts-many = record {
      sound = λ t rest e. let y = times-sound (length t) t in let same : cut_times (length t) p t ≡ rest = cc in (y.0, y.1 ∙ ap (λ (l : List ℕ). y.0 ++ l) same, y.2);
      full = λ x rest h k. ap (λ (l : List ℕ). Some l) (times-full (length (x ++ rest)) x rest h (let sum : length (x ++ rest) ≡ length x + length rest = length-append x rest in omega arith) k);
    }

-- ---- a loop that cuts as long as something is found

-- what the cut leaves is shorter
pub record Shrinks (p : List ℕ → Option (List ℕ)) : Type 0 where
  pub shrinks : (t rest : List ℕ) → p t ≡ Some rest → length rest < length t

-- as it is, if no text of the form is empty
pub Shrinks-cut : {A Next : List ℕ → Type 0} {p : List ℕ → Option (List ℕ)} → Cuts A Next p → Nonempty A → Shrinks p
Shrinks-cut a n = record {
  shrinks = λ t rest e.
      let x = a.sound t rest e in let front = n.long x.0 x.2 in
      let sum : length t ≡ length x.0 + length rest = ap length x.1 ∙ length-append x.0 rest in omega arith;
}

module _ {p : List ℕ → Option (List ℕ)} (s : Shrinks p) where
  enough_by : (m n : ℕ) (t : List ℕ) (o : Option (List ℕ)) → p t ≡ o → length t ≤ suc m → length t ≤ suc n
      → ((r : List ℕ) → length r ≤ m → length r ≤ n → cut_times m p r ≡ cut_times n p r) → option_map_or (cut_times m p) o t ≡ option_map_or (cut_times n p) o t
  enough_by m n t None e h k same = refl
  enough_by m n t (Some r) e h k same = let less = s.shrinks t r e in same r (omega arith) (omega arith)

  none_left : (n : ℕ) (t : List ℕ) (o : Option (List ℕ)) → p t ≡ o → length t ≤ 0 → t ≡ option_map_or (cut_times n p) o t
  none_left n t None e h = refl
  none_left n t (Some r) e h = let less = s.shrinks t r e in absurd (omega arith)

  -- more times than there are bytes change nothing
  times_enough : (m n : ℕ) (t : List ℕ) → length t ≤ m → length t ≤ n → cut_times m p t ≡ cut_times n p t
  times_enough zero zero t h k = refl
  times_enough zero (suc n) t h k = none_left n t (p t) refl h
  times_enough (suc m) zero t h k = sym (none_left m t (p t) refl k)
  times_enough (suc m) (suc n) t h k = enough_by m n t (p t) refl h k (times_enough m n)

  -- one turn of the loop
  pub cut_many_turn : (t rest : List ℕ) → p t ≡ Some rest → cut_many p t ≡ cut_many p rest
  cut_many_turn [] rest e = let less = s.shrinks [] rest e in absurd (omega arith)
  cut_many_turn (b ∷ t) rest e =
      let less = s.shrinks (b ∷ t) rest e in
      ap (λ o. option_map_or (cut_times (length t) p) o (b ∷ t)) e ∙ times_enough (length t) (length rest) rest (omega arith) (omega arith)

-- its end
pub cut_many_end : (p : List ℕ → Option (List ℕ)) (t : List ℕ) → p t ≡ None → cut_many p t ≡ t
cut_many_end p [] e = refl
cut_many_end p (b ∷ t) e = ap (λ o. option_map_or (cut_times (length t) p) o (b ∷ t)) e
