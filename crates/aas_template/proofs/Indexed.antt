-- The children of a template by their idShorts, one more at a time, and what a text is known for.
use Rattle.std.proofs.Common.{◌≡◌, ℕ, ◌+◌, ◌<◌, ◌≤◌, true, false, ◌&&◌, ◌||◌, ◌==◌, inl, inr, List, length, get_or, map, bytes_eq, slice_get, Option, Some, None, refl, sym, ap, ◌∙◌, arith}
use Rattle.std.specs.Prelude.{IfSome, MatchOption, is_some}
use Rattle.std.specs.Str.{chars, encode_utf8_all}
use Rattle.std.proofs.lemmas.Bool.{true≢false, cases_Bool, cases_eq, cases_lt, cond-true, cond-false, false_from_ne_true}
use Rattle.std.proofs.lemmas.Slice.Eq.{bytes_eq-Decides}
use Rattle.std.proofs.lemmas.Str.{encodes_same}
use Rattle.std.proofs.lemmas.Option.{slice_get_read, slice_get_within}
use Rattle.std.proofs.lemmas.List.{length-append}
use Rattle.aas_model.specs.declared.element.Element.{Element}
use Rattle.aas_path_trees.specs.Places.{Differ}
use Rattle.aas_constraint_rules.specs.Sites.{Own, own_of}
use Rattle.aas_template.specs.Belonging.{admits, belongs, id_short, may_repeat, same_role}
use Rattle.aas_template.specs.Index.{Admitted, Cut, EndsOtherwise, IsIndex, IsShorter, Places, Puts, Refused, Stands, is_at, name_of, place_at}
use Rattle.aas_template.proofs.Owners.{NoneLonger, admits_at, admitted_cut, belongs_there, same_place}
use Rattle.aas_template.proofs.Texts.{no_shorter, same_cuts, shorter_by_one}

-- ---- one more

puts_same : (m n : Places) (bytes : List ℕ) (i : ℕ) → Puts m n bytes i → (cs : List ℕ) → bytes_eq bytes cs ≡ true → place_at n cs ≡ Some i
puts_same m n bytes i puts cs e = puts cs ∙ cond-true (bytes_eq bytes cs) (Some i) (place_at m cs) e

puts_other : (m n : Places) (bytes : List ℕ) (i : ℕ) → Puts m n bytes i → (cs : List ℕ) → bytes_eq bytes cs ≡ false → place_at n cs ≡ place_at m cs
puts_other m n bytes i puts cs e = puts cs ∙ cond-false (bytes_eq bytes cs) (Some i) (place_at m cs) e

later : (ts : List Element) (i j : ℕ) (name : List ℕ) → Stands ts i j name → Stands ts (i + 1) j name
later ts i j name s = record { before = omega (arith, s.before); element = s.element; there = s.there; named = s.named }

pub one_more : (ts : List Element) (i : ℕ) (t : Element) (m n : Places) (bytes : List ℕ) → Differ ts → slice_get ts i ≡ Some t → chars bytes ≡ name_of t
    → bytes ≡ encode_utf8_all (name_of t) → Puts m n bytes i → IsIndex ts i m → IsIndex ts (i + 1) n
one_more ts i t m n bytes differ there characters is puts so_far = record {
  found = λ cs j e. elim (cases_Bool (bytes_eq bytes cs)) [
    | inl same ↦
        let one : i ≡ j = let both : Some i ≡ Some j = sym (puts_same m n bytes i puts cs same) ∙ e in cc in
        record {
          before = omega arith;
          element = t;
          there = ap (slice_get ts) (sym one) ∙ there;
          named = sym characters ∙ ap chars ((bytes_eq-Decides bytes cs).0 same);
        }
    | inr other ↦ later ts i j (chars cs) (so_far.found cs j (sym (puts_other m n bytes i puts cs other) ∙ e))
  ];
  known = λ j u lt at. elim (cases_eq j i) [
    | inl same ↦
        let one : u ≡ t = let both : Some u ≡ Some t = sym at ∙ ap (slice_get ts) same ∙ there in cc in
        let own : bytes ≡ encode_utf8_all (name_of u) = is ∙ ap (λ x. encode_utf8_all (name_of x)) (sym one) in
        puts_same m n bytes i puts (encode_utf8_all (name_of u)) ((bytes_eq-Decides bytes (encode_utf8_all (name_of u))).1 own) ∙ ap Some (sym same)
    | inr other ↦
        let lt_i : j < i = omega arith in
        let apart : bytes_eq bytes (encode_utf8_all (name_of u)) ≡ false = false_from_ne_true _ (λ same.
        let one : name_of u ≡ name_of t = encodes_same (name_of u) (name_of t) (sym ((bytes_eq-Decides bytes (encode_utf8_all (name_of u))).0 same) ∙ is) in
        other (same_place ts differ j i u t at there one))
        in
        puts_other m n bytes i puts (encode_utf8_all (name_of u)) apart ∙ so_far.known j u lt_i at
  ];
}

-- ---- what a text is known for

known_at : (ts : List Element) (m : Places) (bytes n : List ℕ) → IsIndex ts (length ts) m → encode_utf8_all n ≡ bytes
    → (j : ℕ) (t : Element) → slice_get ts j ≡ Some t → name_of t ≡ n → place_at m bytes ≡ Some j
known_at ts m bytes n index is j t at named =
    ap (place_at m) (sym is ∙ ap encode_utf8_all (sym named)) ∙ index.known j t (slice_get_within ts j t at) at

-- there is none
pub refused_unknown : (ts : List Element) (m : Places) (bytes n : List ℕ) (k : Own) → IsIndex ts (length ts) m → encode_utf8_all n ≡ bytes → place_at m bytes ≡ None → Refused ts k n
unfolding Refused
refused_unknown ts m bytes n k index is none j t at named = let both : Some j ≡ None = sym (known_at ts m bytes n index is j t at named) ∙ none in absurd (cc)

-- the one at place i is refused
pub refused_known : (ts : List Element) (m : Places) (bytes n : List ℕ) (k : Own) (i : ℕ) (u : Element) → IsIndex ts (length ts) m → encode_utf8_all n ≡ bytes
    → place_at m bytes ≡ Some i → slice_get ts i ≡ Some u → Cut (id_short k) n
    → (same_role (own_of u).role k.role && (bytes_eq n (id_short k) || may_repeat (own_of u))) ≡ false → Refused ts k n
unfolding Refused
refused_known ts m bytes n k i u index is there at_i cut not_so j t at named =
    let both : Some j ≡ Some i = sym (known_at ts m bytes n index is j t at named) ∙ there in
    let same : j ≡ i = cc in
    let one : Some t ≡ Some u = sym at ∙ ap (slice_get ts) same ∙ at_i in
    let t_is : t ≡ u = cc in
    admits_at (own_of t) k n named cut ∙ ap (λ e. same_role (own_of e).role k.role && (bytes_eq n (id_short k) || may_repeat (own_of e))) t_is ∙ not_so

-- ---- a shorter text

shorter_ones : (ts : List Element) (k : Own) (n : List ℕ) → Cut (id_short k) n → NoneLonger ts k (length n) → Refused ts k n
    → (j : ℕ) (t : Element) → slice_get ts j ≡ Some t → admits (own_of t) k ≡ true → length (name_of t) < length n
unfolding NoneLonger Refused
shorter_ones ts k n cut longest refused j t at so =
    let le : length (name_of t) ≤ length n = longest j t at so in
    elim (cases_lt (length (name_of t)) (length n)) [
      | inl lt ↦ lt
      | inr ge ↦
          let long : length (name_of t) ≡ length n = omega arith in
          let named = same_cuts (id_short k) (name_of t) n (admitted_cut (own_of t) k so) cut long in
          absurd (true≢false (sym so ∙ refused j t at named))
    ]

pub none_longer : (ts : List Element) (k : Own) (n s : List ℕ) → Cut (id_short k) n → NoneLonger ts k (length n) → Refused ts k n → IsShorter n s → NoneLonger ts k (length s)
unfolding NoneLonger
none_longer ts k n s cut longest refused less j t at so =
    let lt : length (name_of t) < length n = shorter_ones ts k n cut longest refused j t at so in omega (arith, shorter_by_one n s less)

pub none_at_all : (ts : List Element) (k : Own) (n : List ℕ) → Cut (id_short k) n → NoneLonger ts k (length n) → Refused ts k n → EndsOtherwise n
    → (j : ℕ) (t : Element) → slice_get ts j ≡ Some t → admits (own_of t) k ≡ false
none_at_all ts k n cut longest refused ends j t at =
    false_from_ne_true _ (λ so. no_shorter (id_short k) (name_of t) n (admitted_cut (own_of t) k so) cut ends (shorter_ones ts k n cut longest refused j t at so))

-- none has an idShort that is longer than that of k and admits it
pub none_longer_yet : (ts : List Element) (k : Own) → NoneLonger ts k (length (id_short k))
unfolding NoneLonger
none_longer_yet ts k j t at so = let cut = admitted_cut (own_of t) k so in omega (arith, ap length cut.is, length-append (id_short (own_of t)) cut.tail)

-- ---- what is known at a place

pub known_place : (ts : List Element) (m : Places) (bytes : List ℕ) (i : ℕ) → IsIndex ts (length ts) m → place_at m bytes ≡ Some i → i < length ts
known_place ts m bytes i index there = (index.found bytes i there).before

pub admitted : (ts : List Element) (m : Places) (bytes : List ℕ) (k : Own) (i : ℕ) (u : Element) → IsIndex ts (length ts) m → place_at m bytes ≡ Some i → u ≡ get_or ts i u
    → Cut (id_short k) (chars bytes) → (same_role (own_of u).role k.role && (bytes_eq (chars bytes) (id_short k) || may_repeat (own_of u))) ≡ true → Admitted ts k (chars bytes) i
admitted ts m bytes k i u index there at cut so =
    let stands = index.found bytes i there in
    let in_ts : slice_get ts i ≡ Some u = slice_get_read ts (length ts) i u refl stands.before at in
    let one : stands.element ≡ u = let both : Some stands.element ≡ Some u = sym stands.there ∙ in_ts in cc in
    let named : name_of u ≡ chars bytes = ap name_of (sym one) ∙ stands.named in
    record { element = u; there = in_ts; named = named; admits_it = admits_at (own_of u) k (chars bytes) named cut ∙ so }

pub not_admitted : (ts : List Element) (m : Places) (bytes : List ℕ) (k : Own) (i : ℕ) (u : Element) → IsIndex ts (length ts) m → encode_utf8_all (chars bytes) ≡ bytes
    → place_at m bytes ≡ Some i → u ≡ get_or ts i u → Cut (id_short k) (chars bytes)
    → (same_role (own_of u).role k.role && (bytes_eq (chars bytes) (id_short k) || may_repeat (own_of u))) ≡ false → Refused ts k (chars bytes)
not_admitted ts m bytes k i u index is there at cut not_so =
    let in_ts : slice_get ts i ≡ Some u = slice_get_read ts (length ts) i u refl (known_place ts m bytes i index there) at in
    refused_known ts m bytes (chars bytes) k i u index is there in_ts cut not_so

-- the child that admits k by the longest idShort is the one to which it belongs
pub belongs_by : (ts : List Element) (k : Own) (n : List ℕ) (i : ℕ) → Differ ts → Cut (id_short k) n → NoneLonger ts k (length n) → Admitted ts k n i
    → (j : ℕ) (t : Element) → slice_get ts j ≡ Some t → belongs (map own_of ts) (own_of t) k ≡ (j == i)
belongs_by ts k n i differ cut longest is = belongs_there ts k i is.element n differ is.there is.named cut is.admits_it longest

pub refused_by : (o : Option ℕ) (R : Type 0) (A : ℕ → Type 0) → is_some o ≡ false → MatchOption o R A → R
refused_by None R A none it = it
refused_by (Some i) R A none it = absurd (true≢false none)

pub place_by : (ts : List Element) (k : Own) (n : List ℕ) (o : Option ℕ) → Differ ts → Cut (id_short k) n → NoneLonger ts k (length n) → is_some o ≡ true
    → MatchOption o (Refused ts k n) (Admitted ts k n) → (j : ℕ) (t : Element) → slice_get ts j ≡ Some t → belongs (map own_of ts) (own_of t) k ≡ is_at j o
place_by ts k n None differ cut longest some it = absurd (true≢false (sym some))
place_by ts k n (Some i) differ cut longest some it = belongs_by ts k n i differ cut longest it

pub place_within : (ts : List Element) (k : Own) (n : List ℕ) (o : Option ℕ) → MatchOption o (Refused ts k n) (Admitted ts k n) → IfSome o (λ j. j < length ts)
place_within ts k n None it = tt
place_within ts k n (Some i) it = slice_get_within ts i it.element it.there
