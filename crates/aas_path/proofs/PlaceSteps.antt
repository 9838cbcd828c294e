-- A step by place at the front of a text, behind its bracket.
use Rattle.std.proofs.Common.{◌≡◌, ℕ, zero, suc, ◌+◌, ◌-◌, ◌<◌, ◌≤◌, ◌^◌, Bool, true, false, ◌==◌, if◌then◌else◌, List, [], ◌∷◌, ◌++◌, length, take, drop, get_or, refl, sym, ap, ◌∙◌, subst, lit≤, lit<, arith, rules, append-nil, append_assoc, decimal, Some, None}
use Rattle.std.proofs.Math.Numerals.{add-one}
use Rattle.std.proofs.lemmas.Bool.Decides.{Decides-eqb}
use Rattle.std.proofs.lemmas.Fmt.{digits_decimal, decimal_nonempty, length-decimal-le, first_decimal, decimal-digits_value, decimal_digit}
use Rattle.std.proofs.lemmas.List.{take-append-drop, length-take-le, length-drop, get_or-take, get_or_append_left, take_rest, drop_more, take_more}
use Rattle.std.proofs.lemmas.Str.Parse.{IsDigitsTest, IsNumeralModel, numerals_by_value, digits_value_short}
use Rattle.std.specs.Char.{is_ascii_digit}
use Rattle.std.specs.Str.{encode_utf8_all}
use Rattle.std.specs.Str.Parse.{digits_value}
use Rattle.aas_lemmas.proofs.Lists.{same_heads, same_tails}
use Rattle.aas_lexical_forms.proofs.Cuts.{word-sound, word-full}
use Rattle.aas_lexical_forms.specs.Cut.{after_word}
use Rattle.aas_lexical_forms.specs.Form.{any}
use Rattle.aas_model.specs.declared.path.PathStep.{PathStep}
use Rattle.aas_model.specs.declared.path.PathStep.TheVariants.{Name, Place}
use Rattle.aas_path.specs.PathText.{step_text}
use Rattle.aas_path.specs.Runs.{Stops, IsRun}
use Rattle.aas_path.specs.StepText.{EndsStep, IsPlace, IsStep, IsNoStep, most_behind, most_digits}
use Rattle.aas_path_trees.specs.PathRule.{StepKeepsRule}
use Rattle.aas_path.proofs.RunsFound.{front_no_longer, same_front}
use Rattle.aas_path.proofs.NameSteps.{dot_no_bracket, step_behind, stops_more, front_of}

tells : IsDigitsTest (any is_ascii_digit)
tells = search rules

pub own : IsNumeralModel (any is_ascii_digit) (digits_value 10)
own = numerals_by_value (any is_ascii_digit) tells

-- what the digits of a place are, digit by digit
pub record IsDigits (ds : List ℕ) : Type 0 where
  pub all : any is_ascii_digit ds
  pub some : 0 < length ds
  pub short : length ds ≤ 9
  pub no_zero : get_or ds 0 0 ≡ 48 → length ds ≡ 1

no_zero_of : (n : ℕ) → n < 10 ^ 9 → get_or (decimal n) 0 0 ≡ 48 → length (decimal n) ≡ 1
no_zero_of zero small first = ap length (decimal_digit 0 (lit< tt))
no_zero_of (suc n) small first = absurd (omega (arith, first_decimal (suc n) (omega arith) (omega arith)))

pub digits_of_place : (n : ℕ) → n < 10 ^ 9 → IsDigits (decimal n)
digits_of_place n small = record {
  all = digits_decimal own n (omega arith);
  some = decimal_nonempty n (omega arith);
  short = length-decimal-le 9 n (lit< tt) small (omega arith);
  no_zero = no_zero_of n small;
}

pub place_of_digits : (ds : List ℕ) → IsDigits ds → IsPlace ds
place_of_digits ds h =
    let small : digits_value 10 ds < 10 ^ 9 = digits_value_short own ds 9 h.all h.short in
    let wide : digits_value 10 ds < 2 ^ 64 = omega arith in
    (digits_value 10 ds, small, sym (decimal-digits_value own ds h.all h.some h.no_zero wide))

-- ---- a step by place, behind its bracket

pub record PlaceStep (text : List ℕ) (s : PathStep) (rest : List ℕ) : Type 0 where
  pub place : ℕ
  pub digits : List ℕ
  pub is : s ≡ Place place
  pub small : place < 10 ^ 9
  pub writes : digits ≡ decimal place
  pub good : IsDigits digits
  pub whole : text ≡ digits ++ 93 ∷ rest
  pub ends : EndsStep rest

bracketed_place : (text ds rest : List ℕ) (n : ℕ) → ds ≡ decimal n → n < 10 ^ 9 → EndsStep rest → 91 ∷ text ≡ 91 ∷ ((ds ++ 93 ∷ []) ++ rest) → PlaceStep text (Place n) rest
bracketed_place text ds rest n is small ends whole = record {
  place = n;
  digits = ds;
  is = refl;
  small = small;
  writes = is;
  good = subst IsDigits (sym is) (digits_of_place n small);
  whole = same_tails 91 91 text ((ds ++ 93 ∷ []) ++ rest) whole ∙ append_assoc ds (93 ∷ []) rest;
  ends = ends;
}

pub bracketed : (text : List ℕ) (s : PathStep) (rest : List ℕ) → IsStep (91 ∷ text) s rest → PlaceStep text s rest
bracketed text (Name n) rest h = absurd (dot_no_bracket (encode_utf8_all n ++ rest) text (sym h.whole))
bracketed text (Place i) rest h = bracketed_place text (decimal i) rest i refl h.keeps h.ends h.whole

place_text : (n : ℕ) (ds : List ℕ) → ds ≡ decimal n → 91 ∷ (ds ++ 93 ∷ []) ≡ step_text (Place n)
place_text n ds is = ap (λ (ds : List ℕ). 91 ∷ (ds ++ 93 ∷ [])) is

begun : (ds front : List ℕ) (more : List ℕ) → IsDigits ds → front ++ more ≡ 91 ∷ (ds ++ 93 ∷ []) → (s : PathStep) × (more : List ℕ) × StepKeepsRule s × (front ++ more ≡ step_text s)
begun ds front more good is = let place = place_of_digits ds good in (Place place.0, more, place.1, is ∙ place_text place.0 ds place.2)

-- a text that has the digits of a place at its front, then a bracket, and what ends a step behind it, is a step
pub is_place : (text ds rest : List ℕ) (n : ℕ) → n < 10 ^ 9 → ds ≡ decimal n → text ≡ ds ++ 93 ∷ rest → EndsStep rest → IsStep (91 ∷ text) (Place n) rest
is_place text ds rest n small is whole ends = record {
  whole = ap (λ (t : List ℕ). 91 ∷ t) (whole ∙ sym (append_assoc ds (93 ∷ []) rest)) ∙ ap (λ (t : List ℕ). t ++ rest) (place_text n ds is);
  keeps = small;
  ends = ends;
}

bracket_no_digit : is_ascii_digit 93 ≡ false
bracket_no_digit = refl

-- ---- where none stands

zero_digit : IsDigits (48 ∷ [])
zero_digit = record { all = refl; some = lit< tt; short = lit≤ tt; no_zero = λ _. refl }

-- the digits of a step that begins as a run of digits and then something else
same_digits : (text : List ℕ) (n : ℕ) (y : List ℕ) (whole : List ℕ) (s : PathStep) (rest : List ℕ) → any is_ascii_digit (take n text) → Stops is_ascii_digit y → whole ≡ take n text ++ y
    → (p : PlaceStep whole s rest) → (take n text ≡ p.digits) × (y ≡ 93 ∷ rest)
same_digits text n y whole s rest all stop is p = same_front is_ascii_digit (take n text) p.digits y (93 ∷ rest) all p.good.all stop bracket_no_digit (sym is ∙ p.whole)

-- the text up to the byte behind a run, and what goes on there
next_behind : (text more : List ℕ) (n : ℕ) → n < length text → take (n + 1) text ++ more ≡ take n text ++ get_or text n 0 ∷ more
next_behind text more n within = ap (λ (t : List ℕ). t ++ more) (take_more text n 0 within) ∙ append_assoc (take n text) (get_or text n 0 ∷ []) more

stop_next : (text more : List ℕ) (n : ℕ) → n < length text → Stops is_ascii_digit (drop n text) → Stops is_ascii_digit (get_or text n 0 ∷ more)
stop_next text more n within stop = stops_more is_ascii_digit (drop n text) (get_or text n 0) (drop (n + 1) text) more (drop_more text n 0 within) stop

-- no digit at the front
pub no_digit : (text : List ℕ) → IsRun is_ascii_digit text 0 → IsNoStep (91 ∷ text) 1
no_digit text run = record {
  none = λ s rest h.
      let p = bracketed text s rest h in
      let same = same_digits text 0 text text s rest refl run.behind refl p in
      absurd (omega (arith, ap length same.0, p.good.some));
  within = omega arith;
  begins = begun (48 ∷ []) (91 ∷ []) (48 ∷ 93 ∷ []) zero_digit refl;
  no_longer = λ lt more s rest h.
      let within : 0 < length text = omega arith in
      let p = bracketed (take 1 text ++ more) s rest h in
      let same = same_digits text 0 (get_or text 0 0 ∷ more) (take 1 text ++ more) s rest refl (stop_next text more 0 within run.behind) (next_behind text more 0 within) p in
      absurd (omega (arith, ap length same.0, p.good.some));
}

-- ---- too many digits

most_if : Bool → ℕ
most_if b = if b then 1 else 9

at_most_by : (ds : List ℕ) (b : Bool) → IsDigits ds → (get_or ds 0 0 == 48) ≡ b → length ds ≤ most_if b
unfolding most_if
at_most_by ds true good e = omega (arith, good.no_zero ((Decides-eqb (get_or ds 0 0) 48).0 e))
at_most_by ds false good e = good.short

at_most : (ds text : List ℕ) → IsDigits ds → get_or ds 0 0 ≡ get_or text 0 0 → length ds ≤ most_digits text
unfolding most_if
at_most ds text good first = subst (λ (c : ℕ). length ds ≤ most_behind c) first (at_most_by ds (get_or ds 0 0 == 48) good refl)

record Most (c m : ℕ) : Type 0 where
  some : 0 < m
  short : m ≤ 9
  zero_alone : c ≡ 48 → m ≡ 1

most_by : (c : ℕ) (b : Bool) → (c == 48) ≡ b → Most c (most_if b)
unfolding most_if
most_by c true e = record { some = lit< tt; short = lit≤ tt; zero_alone = λ _. refl }
most_by c false e = record { some = lit< tt; short = lit≤ tt; zero_alone = λ is. let yes : (c == 48) ≡ true = (Decides-eqb c 48).1 is in absurd (cc) }

most : (text : List ℕ) → Most (get_or text 0 0) (most_digits text)
unfolding most_if
most text = most_by (get_or text 0 0) (get_or text 0 0 == 48) refl

pub too_many : (text : List ℕ) (n : ℕ) → IsRun is_ascii_digit text n → most_digits text < n → IsNoStep (91 ∷ text) (most_digits text + 1)
too_many text n run lt =
    let m : ℕ = most_digits text in
    let most = most text in
    let long : m < length text = omega (arith, run.within) in
    let size : length (take m text) ≡ m = length-take-le m text (omega arith) in
    let good : IsDigits (take m text) = record {
      all = front_of is_ascii_digit text n m run (omega arith);
      some = omega (arith, most.some);
      short = omega (arith, most.short);
      no_zero = λ zero. size ∙ most.zero_alone (sym (get_or-take m text 0 0 most.some) ∙ zero);
    } in record {
      none = λ s rest h.
          let p = bracketed text s rest h in
          let same = same_digits text n (drop n text) text s rest run.front run.behind (sym (take-append-drop n text)) p in
          let first : get_or p.digits 0 0 ≡ get_or text 0 0 = ap (λ (ds : List ℕ). get_or ds 0 0) (sym same.0) ∙ get_or-take n text 0 0 (omega (arith, most.some)) in
          absurd (omega (arith, at_most p.digits text p.good first, ap length same.0, length-take-le n text run.within));
      within = omega arith;
      begins = begun (take m text) (take (m + 1) (91 ∷ text)) (93 ∷ []) good (ap (λ k. take k (91 ∷ text) ++ 93 ∷ []) (add-one m));
      no_longer = λ _ more s rest h.
          let p = bracketed (take (m + 1) text ++ more) s rest (step_behind 91 text more (m + 1) s rest h) in
          let size_next : length (take (m + 1) text) ≡ m + 1 = length-take-le (m + 1) text (omega arith) in
          let longer = front_no_longer is_ascii_digit (take (m + 1) text) p.digits more (93 ∷ rest) (front_of is_ascii_digit text n (m + 1) run (omega arith)) p.good.all bracket_no_digit p.whole in
          let first : get_or p.digits 0 0 ≡ get_or text 0 0 =
          sym (get_or_append_left p.digits (93 ∷ rest) 0 0 p.good.some) ∙ sym (ap (λ (t : List ℕ). get_or t 0 0) p.whole) ∙ get_or_append_left (take (m + 1) text) more 0 0 (omega arith) ∙ get_or-take (m + 1) text 0 0 (omega arith) in
          absurd (omega (arith, at_most p.digits text p.good first, longer));
    }

-- ---- the right count of digits, and then something else

pub digits_of_run : (text : List ℕ) (n : ℕ) → IsRun is_ascii_digit text n → 0 < n → n ≤ most_digits text → IsDigits (take n text)
digits_of_run text n run some le =
    let most = most text in
    let size : length (take n text) ≡ n = length-take-le n text run.within in record {
      all = run.front;
      some = omega arith;
      short = omega (arith, most.short);
      no_zero = λ zero. let one : most_digits text ≡ 1 = most.zero_alone (sym (get_or-take n text 0 0 some) ∙ zero) in omega arith;
    }

-- no bracket behind the digits
pub no_bracket : (text : List ℕ) (n : ℕ) → IsRun is_ascii_digit text n → IsDigits (take n text) → ((behind : List ℕ) → ¬ (drop n text ≡ 93 ∷ behind)) → IsNoStep (91 ∷ text) (n + 1)
no_bracket text n run good not = record {
  none = λ s rest h.
      let p = bracketed text s rest h in
      not rest (same_digits text n (drop n text) text s rest run.front run.behind (sym (take-append-drop n text)) p).1;
  within = omega (arith, run.within);
  begins = begun (take n text) (take (n + 1) (91 ∷ text)) (93 ∷ []) good (ap (λ k. take k (91 ∷ text) ++ 93 ∷ []) (add-one n));
  no_longer = λ lt more s rest h.
      let within : n < length text = omega arith in
      let p = bracketed (take (n + 1) text ++ more) s rest (step_behind 91 text more (n + 1) s rest h) in
      let same = same_digits text n (get_or text n 0 ∷ more) (take (n + 1) text ++ more) s rest run.front (stop_next text more n within run.behind) (next_behind text more n within) p in
      let bracket : get_or text n 0 ≡ 93 = same_heads (get_or text n 0) 93 more rest same.1 in
      not (drop (n + 1) text) (drop_more text n 0 within ∙ ap (λ c. c ∷ drop (n + 1) text) bracket);
}

-- a bracket, and behind it what ends no step
no_end_at : (text behind : List ℕ) (n : ℕ) → IsRun is_ascii_digit text n → IsDigits (take n text) → drop n text ≡ 93 ∷ behind → ¬ EndsStep behind → IsNoStep (91 ∷ text) (n + 2)
no_end_at text behind n run good is not =
    let within : n < length text = omega (arith, length-drop n text, ap length is) in
    let next : get_or text n 0 ∷ drop (n + 1) text ≡ 93 ∷ behind = sym (drop_more text n 0 within) ∙ is in
    let bracket : get_or text n 0 ≡ 93 = same_heads (get_or text n 0) 93 (drop (n + 1) text) behind next in
    let rest_is : drop (n + 1) text ≡ behind = same_tails (get_or text n 0) 93 (drop (n + 1) text) behind next in
    let two : n + 2 ≡ suc (n + 1) = omega arith in record {
      none = λ s rest h.
          let p = bracketed text s rest h in
          let same = same_digits text n (drop n text) text s rest run.front run.behind (sym (take-append-drop n text)) p in
          not (subst EndsStep (same_tails 93 93 rest behind (sym same.1 ∙ is)) p.ends);
      within = omega arith;
      begins = begun (take n text) (take (n + 2) (91 ∷ text)) [] good
          (append-nil (take (n + 2) (91 ∷ text)) ∙ ap (λ k. take k (91 ∷ text)) two ∙ ap (λ (t : List ℕ). 91 ∷ t) (take_more text n 0 within ∙ ap (λ (c : ℕ). take n text ++ c ∷ []) bracket));
      no_longer = λ lt more s rest h.
          let further : n + 1 < length text = omega arith in
          let c : ℕ = get_or text (n + 1) 0 in
          let p = bracketed (take (n + 2) text ++ more) s rest (step_behind 91 text more (n + 2) s rest h) in
          let three : n + 2 ≡ n + 1 + 1 = omega arith in
          let parts : take (n + 2) text ++ more ≡ take n text ++ get_or text n 0 ∷ c ∷ more =
          ap (λ k. take k text ++ more) three ∙ next_behind text more (n + 1) further ∙ next_behind text (c ∷ more) n within in
          let same = same_digits text n (get_or text n 0 ∷ c ∷ more) (take (n + 2) text ++ more) s rest run.front (stop_next text (c ∷ more) n within run.behind) parts p in
          let ends : EndsStep (c ∷ more) = subst EndsStep (sym (same_tails (get_or text n 0) 93 (c ∷ more) rest same.1)) p.ends in
          let behind_is : behind ≡ c ∷ drop (n + 1 + 1) text = sym rest_is ∙ drop_more text (n + 1) 0 further in
          not (ends_by behind c (drop (n + 1 + 1) text) more behind_is ends);
    }
  where
    ends_by : (behind : List ℕ) (c : ℕ) (text more : List ℕ) → behind ≡ c ∷ text → EndsStep (c ∷ more) → EndsStep behind
    ends_by behind c text more is ends = subst EndsStep (sym is) ends

pub no_end : (text behind : List ℕ) (n : ℕ) → IsRun is_ascii_digit text n → IsDigits (take n text) → drop n text ≡ 93 ∷ behind → ¬ EndsStep behind → IsNoStep (91 ∷ text) (n + 1 + 1)
no_end text behind n run good is not = let two : n + 2 ≡ n + 1 + 1 = omega arith in subst (IsNoStep (91 ∷ text)) two (no_end_at text behind n run good is not)

-- ---- what is behind the digits

pub bracket_found : (text behind : List ℕ) (n : ℕ) → Some behind ≡ after_word (93 ∷ []) (take (length text - n) (drop n text)) → drop n text ≡ 93 ∷ behind
bracket_found text behind n found = sym (take_rest text n) ∙ word-sound (93 ∷ []) (take (length text - n) (drop n text)) behind (sym found)

pub bracket_not_found : (text : List ℕ) (n : ℕ) → None ≡ after_word (93 ∷ []) (take (length text - n) (drop n text)) → (behind : List ℕ) → ¬ (drop n text ≡ 93 ∷ behind)
bracket_not_found text n none behind is =
    let found : Some behind ≡ after_word (93 ∷ []) (take (length text - n) (drop n text)) = sym (word-full (93 ∷ []) behind) ∙ ap (after_word (93 ∷ [])) (sym (take_rest text n ∙ is)) in
    absurd (cc)
