-- A step by name at the front of a text, behind its dot.
use Rattle.std.proofs.Common.{◌≡◌, ℕ, zero, suc, ◌+◌, ◌-◌, ◌<◌, ◌≤◌, Bool, true, false, ◌⊎◌, ◌&&◌, List, [], ◌∷◌, ◌++◌, length, take, drop, get_or, refl, sym, ap, ◌∙◌, subst, inl, inr, lit≤, lit<, arith, append-nil, append_assoc, codes, decimal}
use Rattle.std.proofs.Math.Numerals.{add-one}
use Rattle.std.proofs.lemmas.Bool.Decides.{nat_tests}
use Rattle.std.proofs.lemmas.List.{take-append-drop, take-take, take_rest, length-take-le, drop_more, take_more}
use Rattle.std.specs.Char.{is_ascii_alphabetic}
use Rattle.std.specs.List.{list_all}
use Rattle.std.specs.Str.{encode_utf8_all}
use Rattle.std.proofs.lemmas.Bool.{and_parts}
use Rattle.aas_lemmas.proofs.Lists.{same_tails}
use Rattle.aas_lexical_forms.specs.Form.{one, any}
use Rattle.aas_model.specs.declared.path.PathStep.{PathStep}
use Rattle.aas_model.specs.declared.path.PathStep.TheVariants.{Name, Place}
use Rattle.aas_path.specs.PathText.{step_text}
use Rattle.aas_path.specs.Runs.{BeginsWith, Stops, IsRun}
use Rattle.aas_path.specs.StepText.{EndsStep, IsStep, IsNoStep}
use Rattle.aas_path.proofs.RunsFound.{front_no_longer, same_front}
use Rattle.aas_lexical.proofs.NamesAscii.{name_bytes}
use Rattle.aas_lexical.specs.Names.{is_name_character, id_short}

-- ---- the characters of names

letter_in_name : (c : ℕ) → is_ascii_alphabetic c ≡ true → is_name_character c ≡ true
letter_in_name c h = grind (arith, nat_tests)

end_not_in_name : (c : ℕ) → (c ≡ 46) ⊎ (c ≡ 91) → is_name_character c ≡ false
end_not_in_name c (inl e) = rw e refl
end_not_in_name c (inr e) = rw e refl

pub end_stops_name : (text : List ℕ) → EndsStep text → Stops is_name_character text
end_stops_name [] e = tt
end_stops_name (c ∷ text) e = end_not_in_name c e

-- what a name is, character by character
pub record IsName (n : List ℕ) : Type 0 where
  pub begins : BeginsWith is_ascii_alphabetic n
  pub all : any is_name_character n
  pub short : length n ≤ 128

name_by : (n front back : List ℕ) → n ≡ front ++ back → one is_ascii_alphabetic front → any is_name_character back → length n ≤ 128 → IsName n
name_by n [] back whole first rest short = absurd first
name_by n (c ∷ front) back whole first rest short =
    let none : front ≡ [] = first.1 in
    let is : n ≡ c ∷ back = whole ∙ ap (λ (f : List ℕ). (c ∷ f) ++ back) none in
    let all : any is_name_character (c ∷ back) = ap (λ b. b && list_all is_name_character back) (letter_in_name c first.0) ∙ rest in record {
      begins = subst (BeginsWith is_ascii_alphabetic) (sym is) first.0;
      all = subst (any is_name_character) (sym is) all;
      short = short;
    }

pub name_from : (n : List ℕ) → id_short n → IsName n
name_from n h = name_by n h.0.0 h.0.1 h.0.2 h.0.3 h.0.4 h.1

pub name_to : (n : List ℕ) → IsName n → id_short n
name_to [] h = absurd h.begins
name_to (c ∷ n) h = ((c ∷ [], n, refl, (h.begins, refl), (and_parts (is_name_character c) (list_all is_name_character n) h.all).1), h.short)

-- ---- a step by name, behind its dot

pub record NameStep (text : List ℕ) (s : PathStep) (rest : List ℕ) : Type 0 where
  pub name : List ℕ
  pub is : s ≡ Name name
  pub good : IsName name
  pub whole : text ≡ name ++ rest

pub dot_no_bracket : (x y : List ℕ) → 46 ∷ x ≡ 91 ∷ y → ⊥
dot_no_bracket x y e = absurd (cc)

dotted_name : (text n m rest : List ℕ) → id_short n → m ≡ n → 46 ∷ text ≡ 46 ∷ (m ++ rest) → NameStep text (Name n) rest
dotted_name text n m rest keeps same whole = record { name = n; is = refl; good = name_from n keeps; whole = same_tails 46 46 text (m ++ rest) whole ∙ ap (λ (m : List ℕ). m ++ rest) same }

pub dotted : (text : List ℕ) (s : PathStep) (rest : List ℕ) → IsStep (46 ∷ text) s rest → NameStep text s rest
dotted text (Name n) rest h = dotted_name text n (encode_utf8_all n) rest h.keeps (name_bytes n h.keeps.0) h.whole
dotted text (Place i) rest h = absurd (dot_no_bracket text ((decimal i ++ codes "]") ++ rest) h.whole)

pub name_step_text : (n : List ℕ) → id_short n → 46 ∷ n ≡ step_text (Name n)
name_step_text n h = ap (λ (m : List ℕ). 46 ∷ m) (sym (name_bytes n h.0))

-- a text that has a name at its front, and what ends a step behind it, is a step
pub is_name : (text : List ℕ) (n : ℕ) → IsName (take n text) → EndsStep (drop n text) → IsStep (46 ∷ text) (Name (take n text)) (drop n text)
is_name text n good ends = record {
  whole = ap (λ (t : List ℕ). 46 ∷ t) (sym (take-append-drop n text)) ∙ ap (λ (t : List ℕ). t ++ drop n text) (name_step_text (take n text) (name_to (take n text) good));
  keeps = name_to (take n text) good;
  ends = ends;
}

-- ---- where none stands

begins_name : (text : List ℕ) (s : PathStep) (rest : List ℕ) → NameStep text s rest → BeginsWith is_ascii_alphabetic text
begins_name text s rest h = begins h.name h.good.begins h.whole
  where
    begins : (m : List ℕ) → BeginsWith is_ascii_alphabetic m → text ≡ m ++ rest → BeginsWith is_ascii_alphabetic text
    begins [] b whole = absurd b
    begins (c ∷ m) b whole = subst (BeginsWith is_ascii_alphabetic) (sym whole) b

no_letter_more : (text more : List ℕ) → ¬ BeginsWith is_ascii_alphabetic text → 1 < length (46 ∷ text) → ¬ BeginsWith is_ascii_alphabetic (take 1 text ++ more)
no_letter_more [] more not long = λ b. absurd (omega arith)
no_letter_more (c ∷ text) more not long = not

letter_a : id_short (65 ∷ [])
letter_a = name_to (65 ∷ []) (record { begins = refl; all = refl; short = lit≤ tt })

-- no letter at the front
pub no_letter : (text : List ℕ) → ¬ BeginsWith is_ascii_alphabetic text → IsNoStep (46 ∷ text) 1
no_letter text not = record {
  none = λ s rest h. not (begins_name text s rest (dotted text s rest h));
  within = omega arith;
  begins = (Name (65 ∷ []), 65 ∷ [], letter_a, name_step_text (65 ∷ []) letter_a);
  no_longer = λ long more s rest h. no_letter_more text more not long (begins_name (take 1 text ++ more) s rest (dotted (take 1 text ++ more) s rest h));
}

begins_take : (k : ℕ) (text : List ℕ) → 0 < k → BeginsWith is_ascii_alphabetic text → BeginsWith is_ascii_alphabetic (take k text)
begins_take zero text some b = absurd (omega arith)
begins_take (suc k) [] some b = b
begins_take (suc k) (c ∷ text) some b = b

all_take : (class : ℕ → Bool) (k : ℕ) (text : List ℕ) → any class text → any class (take k text)
all_take class zero text a = refl
all_take class (suc k) [] a = refl
all_take class (suc k) (c ∷ text) a = let s = and_parts (class c) (list_all class text) a in ap (λ b. b && list_all class (take k text)) s.0 ∙ all_take class k text s.1

-- the front of a front
pub front_of : (class : ℕ → Bool) (text : List ℕ) (n k : ℕ) → IsRun class text n → k ≤ n → any class (take k text)
front_of class text n k run le = subst (any class) (take-take k n text le) (all_take class k (take n text) run.front)

begins_run : (text : List ℕ) (n : ℕ) → IsRun is_name_character text n → BeginsWith is_ascii_alphabetic text → BeginsWith is_ascii_alphabetic (take n text)
begins_run text zero run begins = absurd (no_run text begins run.behind)
  where
    no_run : (text : List ℕ) → BeginsWith is_ascii_alphabetic text → Stops is_name_character text → ⊥
    no_run [] b stop = b
    no_run (c ∷ text) b stop = let yes : is_name_character c ≡ true = letter_in_name c b in absurd (cc)
begins_run text (suc n) run begins = begins_take (suc n) text (omega arith) begins

-- a step at the front of a part of a text, and of what goes on from there, behind the first byte
pub step_behind : (c : ℕ) (text more : List ℕ) (n : ℕ) (s : PathStep) (rest : List ℕ) → IsStep (take (n + 1) (c ∷ text) ++ more) s rest → IsStep (c ∷ (take n text ++ more)) s rest
step_behind c text more n s rest h = subst (λ (k : ℕ). IsStep (take k (c ∷ text) ++ more) s rest) (add-one n) h

pub stops_more : (class : ℕ → Bool) (behind : List ℕ) (c : ℕ) (text more : List ℕ) → behind ≡ c ∷ text → Stops class behind → Stops class (c ∷ more)
stops_more class behind c text more is stop = subst (Stops class) is stop

-- more than 128 characters
pub too_long : (text : List ℕ) (n : ℕ) → IsRun is_name_character text n → BeginsWith is_ascii_alphabetic text → 128 < n → IsNoStep (46 ∷ text) 129
too_long text n run begins long =
    let long_text : 129 ≤ length text = omega (arith, run.within) in
    let front : length (take 128 text) ≡ 128 = length-take-le 128 text (omega arith) in
    let good : id_short (take 128 text) =
    name_to (take 128 text) (record { begins = begins_take 128 text (lit< tt) begins; all = front_of is_name_character text n 128 run (omega arith); short = omega arith }) in record {
      none = λ s rest h.
          let d = dotted text s rest h in
          let no_longer = front_no_longer is_name_character (take n text) d.name (drop n text) rest run.front d.good.all (end_stops_name rest h.ends) (take-append-drop n text ∙ d.whole) in
          absurd (omega (arith, length-take-le n text run.within, d.good.short, no_longer));
      within = omega (arith, run.within);
      begins = (Name (take 128 text), [], good, append-nil (46 ∷ take 128 text) ∙ name_step_text (take 128 text) good);
      no_longer = λ _ more s rest h.
          let d = dotted (take 129 text ++ more) s rest h in
          let no_longer = front_no_longer is_name_character (take 129 text) d.name more rest (front_of is_name_character text n 129 run (omega arith)) d.good.all (end_stops_name rest h.ends) d.whole in
          absurd (omega (arith, length-take-le 129 text long_text, d.good.short, no_longer));
    }

-- something else behind a name
pub wrong_end : (text : List ℕ) (n : ℕ) → IsRun is_name_character text n → BeginsWith is_ascii_alphabetic text → n ≤ 128 → ¬ EndsStep (drop n text) → IsNoStep (46 ∷ text) (n + 1)
wrong_end text n run begins short not =
    let long : length (take n text) ≡ n = length-take-le n text run.within in
    let good : id_short (take n text) = name_to (take n text) (record { begins = begins_run text n run begins; all = run.front; short = omega arith }) in record {
      none = λ s rest h.
          let d = dotted text s rest h in
          let same = same_front is_name_character (take n text) d.name (drop n text) rest run.front d.good.all run.behind (end_stops_name rest h.ends) (take-append-drop n text ∙ d.whole) in
          not (subst EndsStep (sym same.1) h.ends);
      within = omega (arith, run.within);
      begins = (Name (take n text), [], good, append-nil (take (n + 1) (46 ∷ text)) ∙ ap (λ k. take k (46 ∷ text)) (add-one n) ∙ name_step_text (take n text) good);
      no_longer = λ lt more s rest h.
          let within : n < length text = omega arith in
          let behind : drop n text ≡ get_or text n 0 ∷ drop (n + 1) text = drop_more text n 0 within in
          let front : take (n + 1) text ++ more ≡ take n text ++ get_or text n 0 ∷ more = ap (λ (t : List ℕ). t ++ more) (take_more text n 0 within) ∙ append_assoc (take n text) (get_or text n 0 ∷ []) more in
          let d = dotted (take (n + 1) text ++ more) s rest (step_behind 46 text more (n + 1) s rest h) in
          let stop : Stops is_name_character (get_or text n 0 ∷ more) = stops_more is_name_character (drop n text) (get_or text n 0) (drop (n + 1) text) more behind run.behind in
          let same = same_front is_name_character (take n text) d.name (get_or text n 0 ∷ more) rest run.front d.good.all stop (end_stops_name rest h.ends) (sym front ∙ d.whole) in
          let ends : EndsStep (get_or text n 0 ∷ more) = subst EndsStep (sym same.1) h.ends in
          not (subst EndsStep (sym behind) ends);
    }

pub good_name : (text : List ℕ) (n : ℕ) → IsRun is_name_character text n → BeginsWith is_ascii_alphabetic text → n ≤ 128 → id_short (take n text)
good_name text n run begins short = name_to (take n text) (record { begins = begins_run text n run begins; all = run.front; short = omega (arith, length-take-le n text run.within) })

-- a name that was cut off, with what is behind it
pub cut_name : (text name : List ℕ) (n : ℕ) → name ≡ take n text → id_short (take n text) → EndsStep (drop n text) → IsStep (46 ∷ text) (Name name) (take (length text - n) (drop n text))
cut_name text name n is good ends =
    let step : IsStep (46 ∷ text) (Name (take n text)) (drop n text) = is_name text n (name_from (take n text) good) ends in
    subst (λ (m : List ℕ). IsStep (46 ∷ text) (Name m) (take (length text - n) (drop n text))) (sym is) (subst (IsStep (46 ∷ text) (Name (take n text))) (sym (take_rest text n)) step)
