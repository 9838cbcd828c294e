-- How the texts of a form begin, and what a cut must find there to find anything.
use Rattle.std.proofs.Common.{◌≡◌, ℕ, Bool, true, false, not, ◌==◌, ◌||◌, List, [], ◌∷◌, ◌++◌, Option, None, refl, ap, append_assoc, inl, inr, codes}
use Rattle.std.proofs.lemmas.Bool.{not-true, and_parts}
use Rattle.std.proofs.lemmas.Bool.Decides.{Decides-eqb}
use Rattle.std.specs.List.{list_all}
use Rattle.std.specs.Option.{option_and_then}
use Rattle.aas_lexical_forms.specs.Form.{lit, is_among, among, one, run, maybe, Many, ◌∣◌, ◌▸◌}
use Rattle.aas_lexical_forms.specs.Form.Many.{none, more}
use Rattle.aas_lexical_forms.specs.Cut.{after_word, after_one, after_run, cut_then}
use Prim.Native.String.{String}

-- the text doesn't begin with a byte of the class
abbrev pub Stops : (ℕ → Bool) → List ℕ → Type 0
Stops class [] = Unit {0}
Stops class (b ∷ t) = class b ≡ false

-- no byte is in both classes
abbrev pub Apart : (ℕ → Bool) → (ℕ → Bool) → Type 0
Apart s t = (b : ℕ) → s b ≡ true → t b ≡ false

-- no text of the form begins with a byte of the class
pub record Avoids (A : List ℕ → Type 0) (class : ℕ → Bool) : Type 0 where
  pub avoids : (x z : List ℕ) → A x → Stops class (x ++ z)

-- the cut finds nothing where the text doesn't begin with a byte of the class
pub record Needs (class : ℕ → Bool) (p : List ℕ → Option (List ℕ)) : Type 0 where
  pub fails : (t : List ℕ) → Stops class t → p t ≡ None

-- ---- classes that have no common byte

of_among_by : (class : ℕ → Bool) (c b : ℕ) (v rest : Bool) → (b == c) ≡ v → (v || rest) ≡ true → class c ≡ true → (rest ≡ true → class b ≡ true) → class b ≡ true
of_among_by class c b true rest e h t k = rw ((Decides-eqb b c).0 e) t
of_among_by class c b false rest e h t k = k h

-- what holds of each of these characters holds of a byte that is one of them
pub of_among : (class : ℕ → Bool) (cs : List ℕ) (b : ℕ) → is_among cs b ≡ true → list_all class cs ≡ true → class b ≡ true
of_among class [] b h k = absurd (cc)
of_among class (c ∷ []) b h k = rw ((Decides-eqb b c).0 h) (and_parts (class c) true k).0
of_among class (c ∷ d ∷ cs) b h k =
    let s = and_parts (class c) (list_all class (d ∷ cs)) k in
    of_among_by class c b (b == c) (is_among (d ∷ cs) b) refl h s.0 (λ r. of_among class (d ∷ cs) b r s.1)

-- none of these characters is in the class
pub Apart-among : (word : String) (class : ℕ → Bool) → list_all (λ c. not (class c)) (codes word) ≡ true → Apart (among word) class
Apart-among word class k b h = not-true (class b) (of_among (λ c. not (class c)) (codes word) b h k)

apart_by : (s t : ℕ → Bool) (b : ℕ) (v : Bool) → s b ≡ v → Apart s t → t b ≡ true → v ≡ false
apart_by s t b true e k h = let other = k b e in absurd (cc)
apart_by s t b false e k h = refl

pub Apart-swap : (s t : ℕ → Bool) → Apart s t → Apart t s
Apart-swap s t k b h = apart_by s t b (s b) refl k h

-- ---- what no text of a form begins with

one-avoids : (s class : ℕ → Bool) → Apart s class → (x z : List ℕ) → one s x → Stops class (x ++ z)
one-avoids s class k [] z h = absurd h
one-avoids s class k (b ∷ x) z h = k b h.0

run-avoids : (s class : ℕ → Bool) → Apart s class → (x z : List ℕ) → run s x → Stops class (x ++ z)
run-avoids s class k [] z h = absurd h
run-avoids s class k (b ∷ x) z h = k b h.0

pub Avoids-one : (s class : ℕ → Bool) → Apart s class → Avoids (one s) class
Avoids-one s class k = record { avoids = one-avoids s class k }

pub Avoids-run : (s class : ℕ → Bool) → Apart s class → Avoids (run s) class
Avoids-run s class k = record { avoids = run-avoids s class k }

-- the premise computes, where the word is written out
pub Avoids-lit : (word : String) (class : ℕ → Bool) → ((z : List ℕ) → Stops class (codes word ++ z)) → Avoids (lit word) class
Avoids-lit word class k = record { avoids = λ x z h. rw h (k z) }

pub Avoids-then : {A B : List ℕ → Type 0} {class : ℕ → Bool} → Avoids A class → Avoids (A ▸ B) class
Avoids-then a = record { avoids = λ x z h. rw (h.2, append_assoc) (a.avoids h.0 (h.1 ++ z) h.3) }

either-avoids : {A B : List ℕ → Type 0} {class : ℕ → Bool} → Avoids A class → Avoids B class → (x z : List ℕ) → (A ∣ B) x → Stops class (x ++ z)
either-avoids a b x z (inl h) = a.avoids x z h
either-avoids a b x z (inr h) = b.avoids x z h

pub Avoids-either : {A B : List ℕ → Type 0} {class : ℕ → Bool} → Avoids A class → Avoids B class → Avoids (A ∣ B) class
Avoids-either a b = record { avoids = either-avoids a b }

-- what may be left out, and then what is behind it
pub past_maybe : {A : List ℕ → Type 0} {class : ℕ → Bool} → Avoids A class → (y z : List ℕ) → maybe A y → Stops class z → Stops class (y ++ z)
past_maybe a y z (inl h) k = rw h k
past_maybe a y z (inr h) k = a.avoids y z h

pub past_many : {A : List ℕ → Type 0} {class : ℕ → Bool} → Avoids A class → (y z : List ℕ) → Many A y → Stops class z → Stops class (y ++ z)
past_many v y z none k = k
past_many v y z (more f b t e h m) k = rw (e, append_assoc) (v.avoids f (b ++ z) h)

-- ---- what a cut must find

pub one_none : (class : ℕ → Bool) (t : List ℕ) → Stops class t → after_one class t ≡ None
one_none class [] h = refl
one_none class (b ∷ t) h = rw h refl

run_none : (class : ℕ → Bool) (t : List ℕ) → Stops class t → after_run class t ≡ None
run_none class [] h = refl
run_none class (b ∷ t) h = rw h refl

word_none : (c : ℕ) (cs t : List ℕ) → Stops (λ b. b == c) t → after_word (c ∷ cs) t ≡ None
word_none c cs [] h = refl
word_none c cs (b ∷ t) h = rw h refl

pub Needs-one : (class : ℕ → Bool) → Needs class (after_one class)
Needs-one class = record { fails = one_none class }

pub Needs-run : (class : ℕ → Bool) → Needs class (after_run class)
Needs-run class = record { fails = run_none class }

-- a word, by its first character
pub Needs-word : (c : ℕ) (cs : List ℕ) → Needs (λ b. b == c) (after_word (c ∷ cs))
Needs-word c cs = record { fails = word_none c cs }

pub Needs-then : {class : ℕ → Bool} {p : List ℕ → Option (List ℕ)} → Needs class p → (q : List ℕ → Option (List ℕ)) → Needs class (cut_then p q)
Needs-then n q = record { fails = λ t h. ap (option_and_then q) (n.fails t h) }
