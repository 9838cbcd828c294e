-- A function that cuts a form off the front of a text, and when it does so exactly.
use Rattle.std.proofs.Common.{IsTrue, ◌≡◌, ℕ, ◌==◌, Bool, true, false, ◌↔◌, List, [], ◌∷◌, ◌++◌, Option, Some, None, refl, sym, ap, ◌∙◌, inl, inr, append_assoc, append-nil, if◌then◌else◌, codes}
use Rattle.std.proofs.lemmas.Bool.Decides.{Decides-eqb}
use Rattle.std.specs.List.{list_all}
use Rattle.std.specs.Option.{option_and_then, MatchOption}
use Rattle.std.proofs.lemmas.Bool.{and_parts}
use Rattle.aas_lexical_forms.specs.Form.{lit, one, any, run, maybe, ◌∣◌, ◌▸◌}
use Rattle.aas_lexical_forms.specs.Cut.{after_word, after_lit, after_one, after_any, after_run, rest_or, first_of, cut_all, cut_then, cut_maybe, cut_either}
use Rattle.aas_lexical_forms.proofs.Begin.{Stops, Avoids, Needs, Needs-one}
use Prim.Native.String.{String}

-- The cut finds something only behind a text of the form, and it takes each text of the form, wherever what follows is
-- fit for that.
pub record Cuts (A : List ℕ → Type 0) (Next : List ℕ → Type 0) (p : List ℕ → Option (List ℕ)) : Type 0 where
  pub sound : (t rest : List ℕ) → p t ≡ Some rest → (x : List ℕ) × (t ≡ x ++ rest) × A x
  pub full : (x rest : List ℕ) → A x → Next rest → p (x ++ rest) ≡ Some rest

abbrev pub Anything : List ℕ → Type 0
Anything t = Unit {0}

-- the end of the text
abbrev pub End : List ℕ → Type 0
End t = t ≡ []

-- ---- a word

word_by : (c b : ℕ) (cs t rest : List ℕ) (v : Bool) → (b == c) ≡ v → (after_word cs t ≡ Some rest → t ≡ cs ++ rest) → (if v then after_word cs t else None) ≡ Some rest → b ∷ t ≡ (c ∷ cs) ++ rest
word_by c b cs t rest true h k e = let first : b ≡ c = (Decides-eqb b c).0 h in let more = k e in cc
word_by c b cs t rest false h k e = absurd (cc)

pub word-sound : (cs t rest : List ℕ) → after_word cs t ≡ Some rest → t ≡ cs ++ rest
word-sound [] t rest e = cc
word-sound (c ∷ cs) [] rest e = absurd (cc)
word-sound (c ∷ cs) (b ∷ t) rest e = word_by c b cs t rest (b == c) refl (λ k. word-sound cs t rest k) e

pub word-full : (cs rest : List ℕ) → after_word cs (cs ++ rest) ≡ Some rest
word-full [] rest = refl
word-full (c ∷ cs) rest = rw ((Decides-eqb c c).1 refl) (word-full cs rest)

pub Cuts-lit : (word : String) → Cuts (lit word) Anything (after_lit word)
Cuts-lit word = record {
  sound = λ t rest e. (codes word, word-sound (codes word) t rest e, refl);
  full = λ x rest h k. rw h (word-full (codes word) rest);
}

-- ---- bytes of a class

one_by : (class : ℕ → Bool) (b : ℕ) (t rest : List ℕ) (v : Bool) → class b ≡ v → (if v then Some t else None) ≡ Some rest → (x : List ℕ) × (b ∷ t ≡ x ++ rest) × one class x
one_by class b t rest true h e = (b ∷ [], (cc), (h, refl))
one_by class b t rest false h e = absurd (cc)

one-sound : (class : ℕ → Bool) (t rest : List ℕ) → after_one class t ≡ Some rest → (x : List ℕ) × (t ≡ x ++ rest) × one class x
one-sound class [] rest e = absurd (cc)
one-sound class (b ∷ t) rest e = one_by class b t rest (class b) refl e

one-full : (class : ℕ → Bool) (x rest : List ℕ) → one class x → Anything rest → after_one class (x ++ rest) ≡ Some rest
one-full class [] rest h k = absurd h
one-full class (b ∷ x) rest h k = rw (h.0, h.1) refl

pub Cuts-one : (class : ℕ → Bool) → Cuts (one class) Anything (after_one class)
Cuts-one class = record { sound = one-sound class; full = one-full class }

any_by : (class : ℕ → Bool) (b : ℕ) (t : List ℕ) (v : Bool) → class b ≡ v → ((x : List ℕ) × (t ≡ x ++ after_any class t) × any class x)
    → (x : List ℕ) × (b ∷ t ≡ x ++ (if v then after_any class t else b ∷ t)) × any class x
any_by class b t true h r = (b ∷ r.0, ap (λ (l : List ℕ). b ∷ l) r.1, rw h r.2)
any_by class b t false h r = ([], refl, refl)

pub any-sound : (class : ℕ → Bool) (t : List ℕ) → (x : List ℕ) × (t ≡ x ++ after_any class t) × any class x
any-sound class [] = ([], refl, refl)
any-sound class (b ∷ t) = any_by class b t (class b) refl (any-sound class t)

any-full : (class : ℕ → Bool) (x rest : List ℕ) → any class x → Stops class rest → after_any class (x ++ rest) ≡ rest
any-full class [] [] h k = refl
any-full class [] (b ∷ rest) h k = rw k refl
any-full class (b ∷ x) rest h k = let s = and_parts (class b) (list_all class x) h in rw s.0 (any-full class x rest s.1 k)

any_some : (class : ℕ → Bool) (t rest : List ℕ) → Some (after_any class t) ≡ Some rest → (x : List ℕ) × (t ≡ x ++ rest) × any class x
any_some class t rest e = let s = any-sound class t in let same : after_any class t ≡ rest = cc in (s.0, s.1 ∙ ap (λ (l : List ℕ). s.0 ++ l) same, s.2)

pub Cuts-any : (class : ℕ → Bool) → Cuts (any class) (Stops class) (cut_all (after_any class))
Cuts-any class = record { sound = any_some class; full = λ x rest h k. ap (λ (l : List ℕ). Some l) (any-full class x rest h k) }

run_by : (class : ℕ → Bool) (b : ℕ) (t rest : List ℕ) (v : Bool) → class b ≡ v → (if v then Some (after_any class t) else None) ≡ Some rest → (x : List ℕ) × (b ∷ t ≡ x ++ rest) × run class x
run_by class b t rest true h e = let s = any_some class t rest e in (b ∷ s.0, ap (λ (l : List ℕ). b ∷ l) s.1, (h, s.2))
run_by class b t rest false h e = absurd (cc)

run-sound : (class : ℕ → Bool) (t rest : List ℕ) → after_run class t ≡ Some rest → (x : List ℕ) × (t ≡ x ++ rest) × run class x
run-sound class [] rest e = absurd (cc)
run-sound class (b ∷ t) rest e = run_by class b t rest (class b) refl e

pub run-full : (class : ℕ → Bool) (x rest : List ℕ) → run class x → Stops class rest → after_run class (x ++ rest) ≡ Some rest
run-full class [] rest h k = absurd h
run-full class (b ∷ x) rest h k = rw h.0 (ap (λ (l : List ℕ). Some l) (any-full class x rest h.1 k))

pub Cuts-run : (class : ℕ → Bool) → Cuts (run class) (Stops class) (after_run class)
Cuts-run class = record { sound = run-sound class; full = run-full class }

-- ---- two parts, or one of two

module _ {A B NextA NextB : List ℕ → Type 0} {p q : List ℕ → Option (List ℕ)} (a : Cuts A NextA p) (b : Cuts B NextB q) where
  then_by : (t rest : List ℕ) (o : Option (List ℕ)) → p t ≡ o → option_and_then q o ≡ Some rest → (x : List ℕ) × (t ≡ x ++ rest) × (A ▸ B) x
  then_by t rest None h e = absurd (cc)
  then_by t rest (Some u) h e =
      let x = a.sound t u h in let y = b.sound u rest e in
      (x.0 ++ y.0, x.1 ∙ ap (λ (l : List ℕ). x.0 ++ l) y.1 ∙ sym (append_assoc x.0 y.0 rest), (x.0, y.0, refl, x.2, y.2))

  -- the second part, and what may follow it, is fit to follow the first
  pub Cuts-then : ((y z : List ℕ) → B y → NextB z → NextA (y ++ z)) → Cuts (A ▸ B) NextB (cut_then p q)
  Cuts-then k = record {
    sound = λ t rest e. then_by t rest (p t) refl e;
    full = λ x rest h next.
        let same : x ++ rest ≡ h.0 ++ (h.1 ++ rest) = ap (λ (l : List ℕ). l ++ rest) h.2 ∙ append_assoc h.0 h.1 rest in
        ap (λ (l : List ℕ). cut_then p q l) same ∙ ap (option_and_then q) (a.full h.0 (h.1 ++ rest) h.3 (k h.1 rest h.4 next)) ∙ b.full h.1 rest h.4 next;
  }

  either_by : (t rest : List ℕ) (o : Option (List ℕ)) → p t ≡ o → first_of o (q t) ≡ Some rest → (x : List ℕ) × (t ≡ x ++ rest) × (A ∣ B) x
  either_by t rest None h e = let y = b.sound t rest e in (y.0, y.1, inr y.2)
  either_by t rest (Some u) h e = let x = a.sound t rest (h ∙ e) in (x.0, x.1, inl x.2)

  either_full : {Next : List ℕ → Type 0} → ((y z : List ℕ) → B y → Next z → p (y ++ z) ≡ None) → ((z : List ℕ) → Next z → NextA z × NextB z)
      → (x rest : List ℕ) → (A ∣ B) x → Next rest → cut_either p q (x ++ rest) ≡ Some rest
  either_full d k x rest (inl h) next = ap (λ o. first_of o (q (x ++ rest))) (a.full x rest h (k rest next).0)
  either_full d k x rest (inr h) next = ap (λ o. first_of o (q (x ++ rest))) (d x rest h next) ∙ b.full x rest h (k rest next).1

  -- the first cut finds nothing where a text of the second form stands
  pub Cuts-either_by : {Next : List ℕ → Type 0} → ((y z : List ℕ) → B y → Next z → p (y ++ z) ≡ None) → ((z : List ℕ) → Next z → NextA z × NextB z) → Cuts (A ∣ B) Next (cut_either p q)
  Cuts-either_by d k = record { sound = λ t rest e. either_by t rest (p t) refl e; full = either_full d k }

  -- which is so, if it needs a byte with which no text of the second form begins
  pub Cuts-either : {class : ℕ → Bool} {Next : List ℕ → Type 0} → Needs class p → Avoids B class → ((z : List ℕ) → Next z → NextA z × NextB z) → Cuts (A ∣ B) Next (cut_either p q)
  Cuts-either n v k = Cuts-either_by (λ y z h next. n.fails (y ++ z) (v.avoids y z h)) k

-- two parts, of which the first may be followed by anything
pub Cuts-next : {A B NextB : List ℕ → Type 0} {p q : List ℕ → Option (List ℕ)} → Cuts A Anything p → Cuts B NextB q → Cuts (A ▸ B) NextB (cut_then p q)
Cuts-next a b = Cuts-then a b (λ y z h k. tt)

-- two parts, of which the second begins with no byte that the first would take too
pub Cuts-apart : {A B NextB : List ℕ → Type 0} {class : ℕ → Bool} {p q : List ℕ → Option (List ℕ)} → Cuts A (Stops class) p → Cuts B NextB q → Avoids B class → Cuts (A ▸ B) NextB (cut_then p q)
Cuts-apart a b v = Cuts-then a b (λ y z h k. v.avoids y z h)

-- ---- a part that may be left out

module _ {A NextA : List ℕ → Type 0} {p : List ℕ → Option (List ℕ)} (a : Cuts A NextA p) where
  maybe_by : (t rest : List ℕ) (o : Option (List ℕ)) → p t ≡ o → Some (rest_or t o) ≡ Some rest → (x : List ℕ) × (t ≡ x ++ rest) × maybe A x
  maybe_by t rest None h e = let same : t ≡ rest = cc in ([], same, inl refl)
  maybe_by t rest (Some u) h e = let x = a.sound t rest (h ∙ e) in (x.0, x.1, inr x.2)

  maybe_full : {Next : List ℕ → Type 0} → ((z : List ℕ) → Next z → NextA z × (p z ≡ None)) → (x rest : List ℕ) → maybe A x → Next rest → cut_maybe p (x ++ rest) ≡ Some rest
  maybe_full k x rest (inl h) next = rw h (ap (λ o. Some (rest_or rest o)) (k rest next).1)
  maybe_full k x rest (inr h) next = ap (λ o. Some (rest_or (x ++ rest) o)) (a.full x rest h (k rest next).0)

  pub Cuts-maybe_by : {Next : List ℕ → Type 0} → ((z : List ℕ) → Next z → NextA z × (p z ≡ None)) → Cuts (maybe A) Next (cut_maybe p)
  Cuts-maybe_by k = record { sound = λ t rest e. maybe_by t rest (p t) refl e; full = maybe_full k }

  pub Cuts-maybe : {class : ℕ → Bool} {Next : List ℕ → Type 0} → Needs class p → ((z : List ℕ) → Next z → NextA z × Stops class z) → Cuts (maybe A) Next (cut_maybe p)
  Cuts-maybe n k = Cuts-maybe_by (λ z next. ((k z next).0, n.fails z (k z next).1))

  -- the whole text is of the form exactly where nothing is left
  pub whole : NextA [] → (t : List ℕ) → (p t ≡ Some []) ↔ A t
  whole next t = (
    λ e. let x = a.sound t [] e in let same : t ≡ x.0 = x.1 ∙ append-nil x.0 in rw same x.2,
    λ h. ap p (sym (append-nil t)) ∙ a.full t [] h next,
  )

-- what a call answers that asks whether nothing is left
pub answered : (A : List ℕ → Type 0) (p : List ℕ → Option (List ℕ)) (t : List ℕ) (o : Option (List ℕ)) (r : Bool) → ((p t ≡ Some []) ↔ A t) → o ≡ p t → (IsTrue r ↔ (o ≡ Some [])) → IsTrue r ↔ A t
answered A p t o r f e g = (λ h. f.0 (sym e ∙ g.0 h), λ h. g.1 (e ∙ f.1 h))

pub Cuts-maybe_one : (class : ℕ → Bool) → Cuts (maybe (one class)) (Stops class) (cut_maybe (after_one class))
Cuts-maybe_one class = Cuts-maybe (Cuts-one class) (Needs-one class) (λ z k. (tt, k))

-- ---- the first part peeled off, and a fact about the rest

peeled : (A B : List ℕ → Type 0) {Next : List ℕ → Type 0} {p : List ℕ → Option (List ℕ)} → Cuts A Next p → (t : List ℕ) (o : Option (List ℕ)) → p t ≡ o → MatchOption o ⊥ B → (A ▸ B) t
peeled A B a t None e h = absurd h
peeled A B a t (Some u) e h = let x = a.sound t u e in (x.0, u, x.1, x.2, h)

pub peel : {A Next : List ℕ → Type 0} {p : List ℕ → Option (List ℕ)} → Cuts A Next p → (B : List ℕ → Type 0) → ((y : List ℕ) → B y → Next y) → (t : List ℕ) → (A ▸ B) t ↔ MatchOption (p t) ⊥ B
peel {A} {Next} {p} a B k t = (
  λ h. let found : p t ≡ Some h.1 = ap p h.2 ∙ a.full h.0 h.1 h.3 (k h.1 h.4) in rw found h.4,
  λ h. peeled A B a t (p t) refl h,
)
