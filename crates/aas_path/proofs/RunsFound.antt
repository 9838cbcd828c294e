-- The bytes of a class at the front of a text, and the rest behind them.
use Rattle.std.proofs.Common.{◌≡◌, ℕ, ◌-◌, ◌≤◌, Bool, true, false, List, [], ◌∷◌, ◌++◌, length, take, drop, refl, sym, ap, ◌∙◌, subst, arith, length-append, if◌then◌else◌}
use Rattle.std.specs.List.{list_all}
use Rattle.std.proofs.lemmas.List.{drop_at, take_at}
use Rattle.std.proofs.lemmas.Bool.{and_parts}
use Rattle.aas_lexical_forms.specs.Cut.{after_any}
use Rattle.aas_lexical_forms.specs.Form.{any}
use Rattle.aas_lexical_forms.proofs.Cuts.{any-sound}
use Rattle.aas_path.specs.Runs.{Stops, IsRun}

stops_by : (class : ℕ → Bool) (b : ℕ) (text : List ℕ) (v : Bool) → class b ≡ v → Stops class (after_any class text) → Stops class (if v then after_any class text else b ∷ text)
stops_by class b text true e more = more
stops_by class b text false e more = e

stops : (class : ℕ → Bool) (text : List ℕ) → Stops class (after_any class text)
stops class [] = tt
stops class (b ∷ text) = stops_by class b text (class b) refl (stops class text)

run_at : (class : ℕ → Bool) (text x rest : List ℕ) (n : ℕ) → text ≡ x ++ rest → length x ≡ n → any class x → Stops class rest → IsRun class text n
run_at class text x rest n whole long all stop = record {
  within = omega (arith, ap length whole, length-append x rest);
  front = subst (any class) (sym (ap (take n) whole ∙ take_at x rest n long)) all;
  behind = subst (Stops class) (sym (ap (drop n) whole ∙ drop_at x rest n long)) stop;
}

pub found : (class : ℕ → Bool) (text : List ℕ) → IsRun class text (length text - length (after_any class text))
found class text =
    let s = any-sound class text in
    run_at class text s.0 (after_any class text) _ s.1 (omega (arith, ap length s.1, length-append s.0 (after_any class text))) s.2 (stops class text)

pub shorter : (class : ℕ → Bool) (text : List ℕ) → length (after_any class text) ≤ length text
shorter class text = let s = any-sound class text in omega (arith, ap length s.1, length-append s.0 (after_any class text))

-- ---- a front of bytes of a class, and what stops it

-- where the second of two such fronts is stopped, it is no shorter
pub front_no_longer : (class : ℕ → Bool) (x m y z : List ℕ) → any class x → any class m → Stops class z → x ++ y ≡ m ++ z → length x ≤ length m
front_no_longer class [] m y z a b stop e = omega arith
front_no_longer class (c ∷ x) [] y z a b stop e =
    let in_class : class c ≡ true = (and_parts (class c) (list_all class x) a).0 in
    let not : Stops class (c ∷ (x ++ y)) = subst (Stops class) (sym e) stop in
    absurd (cc)
front_no_longer class (c ∷ x) (d ∷ m) y z a b stop e =
    let more : x ++ y ≡ m ++ z = cc in
    omega (arith, front_no_longer class x m y z (and_parts (class c) (list_all class x) a).1 (and_parts (class d) (list_all class m) b).1 stop more)

-- where both are stopped, they are the same
pub same_front : (class : ℕ → Bool) (x m y z : List ℕ) → any class x → any class m → Stops class y → Stops class z → x ++ y ≡ m ++ z → (x ≡ m) × (y ≡ z)
same_front class [] [] y z a b p q e = (refl, e)
same_front class [] (d ∷ m) y z a b p q e =
    let in_class : class d ≡ true = (and_parts (class d) (list_all class m) b).0 in
    let not : Stops class (d ∷ (m ++ z)) = subst (Stops class) e p in
    absurd (cc)
same_front class (c ∷ x) [] y z a b p q e =
    let in_class : class c ≡ true = (and_parts (class c) (list_all class x) a).0 in
    let not : Stops class (c ∷ (x ++ y)) = subst (Stops class) (sym e) q in
    absurd (cc)
same_front class (c ∷ x) (d ∷ m) y z a b p q e =
    let first : c ≡ d = cc in
    let more : x ++ y ≡ m ++ z = cc in
    let rest = same_front class x m y z (and_parts (class c) (list_all class x) a).1 (and_parts (class d) (list_all class m) b).1 p q more in
    let front : x ≡ m = rest.0 in
    (λ i. first i ∷ front i, rest.1)
