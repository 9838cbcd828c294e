-- What bytes begin with, by their head.
use Rattle.std.proofs.Common.{◌≡◌, if◌then◌else◌, inl, inr, ⊎_elim, ℕ, ◌+◌, ◌<◌, ◌≤◌, min, Bool, true, false, List, []}
use Rattle.std.proofs.Common.{◌∷◌, ◌++◌, length, take, drop, map, Option, Some, None, refl, sym, ap, ◌∙◌, subst, arith}
use Rattle.std.proofs.Common.{append_assoc, length-append, take-append-drop}
use Rattle.std.specs.Prelude.{nat_lt, nat_le, ◌==◌, ◌||◌}
use Rattle.http1.specs.Fields.{Header, known_fields}
use Rattle.http1.specs.declared.fields.KnownFields.{KnownFields}
use Rattle.std.specs.List.{list_all}
use Rattle.std.proofs.lemmas.Bool.{cond-true, cond-false, lt-ltb, le-ltb, cases_eq}
use Rattle.std.proofs.lemmas.Bool.Decides.{nat_tests}
use Rattle.std.proofs.lemmas.List.{take-append-le, drop-append-le, drop-drop, length-take, length-take-le}
use Rattle.std.proofs.lemmas.List.{take_all, length-map}
use Rattle.std.proofs.lemmas.List.Folds.{list_all-append}
use Rattle.httparse.specs.declared.spans.HeaderSpan.{HeaderSpan}
use Rattle.httparse.specs.declared.spans.RequestSpans.{RequestSpans}
use Rattle.httparse.specs.Grammar.{RequestHead, ReadsRequest, print_request, HasNoRequest, is_token_byte, AllPass}
use Rattle.httparse.specs.Grammar.{IsToken, print_blank, print_version, print_end, print_section}
use Rattle.httparse.specs.Spans.{header_bytes, span_bytes, name_and_value, RequestOverflows, AreFieldsAt}
use Rattle.httparse.proofs.GrammarLemmas.{ReadsRequest-append, print_request-append}
use Rattle.aas_http.specs.BodyLength.{body_limit, body_length}
use Rattle.aas_http.specs.Close.{asks_to_close}
use Rattle.aas_http.specs.Head.{head_limit, Admits, AdmitsNone, fields_of}
use Rattle.aas_http.specs.NotImplemented.{is_not_implemented}
use Rattle.aas_http.specs.FirstRequest.{Message, FirstRequest, Bad, TooLarge, NotImplemented, Whole, ends_line, IsBlank}
use Rattle.aas_http.specs.FirstRequest.{message, first_with_body, first_by_length, first_of_head, IsFirstRequest}
use Rattle.aas_http.specs.Found.{IsFound}
use Rattle.std.specs.Str.{IsUtf8}
use Rattle.std.proofs.lemmas.Str.{IsUtf8-from_ascii}
use Rattle.std.proofs.lemmas.Str.Ascii.{IsAscii-from_all}
use Rattle.std.proofs.lemmas.List.Elements.{All-weaker}
use Rattle.aas_lemmas.proofs.Truth.{and_left, and_right}

not_blank : (b more : List ℕ) → ¬ (IsBlank b) → ¬ (IsBlank (b ++ more))
not_blank b more some blank = some (record {
  lines =
      and_left (list_all ends_line b) (list_all ends_line more) (sym (list_all-append ends_line b more) ∙ blank.lines);
  short = omega (arith, blank.short, length-append b more);
})

pub admits_more : (b : List ℕ) (h : RequestHead) (rest more : List ℕ)
    → Admits b h rest → Admits (b ++ more) h (rest ++ more)
admits_more b h rest more a =
    record { reads = ReadsRequest-append b h rest more a.reads; fields = a.fields; size = a.size }

by_head : (b : List ℕ) (h : RequestHead) (rest : List ℕ) → ¬ (IsBlank b) → Admits b h rest
    → (more : List ℕ) (first : FirstRequest) → first ≡ first_of_head h (rest ++ more) → IsFirstRequest (b ++ more) first
unfolding IsFirstRequest
by_head b h rest some a more first is =
    inr (inr (h, rest ++ more, not_blank b more some, admits_more b h rest more a, is))

pub by_none : (b more : List ℕ) → ¬ (IsBlank b) → AdmitsNone (b ++ more) → IsFirstRequest (b ++ more) Bad
unfolding IsFirstRequest
by_none b more some none = inr (inl (not_blank b more some, none, refl))

module _ (b front : List ℕ) (spans : RequestSpans) (fields : List HeaderSpan) (F : IsFound b front spans fields) where
  abbrev rest : List ℕ
  rest = drop spans.len b

  pub length_is : (r : Option ℕ)
      → r ≡ body_length (map (header_bytes front) fields) → r ≡ body_length (fields_of F.head)
  length_is r is = is ∙ ap body_length F.fields_are

  pub not_implemented_is : (r : Bool) (m : List ℕ)
      → m ≡ span_bytes front spans.method → r ≡ is_not_implemented m (map (header_bytes front) fields)
      → r ≡ is_not_implemented F.head.method (fields_of F.head)
  not_implemented_is r m same is =
      is ∙ ap (λ f. is_not_implemented m f) F.fields_are
      ∙ ap (λ (k : List ℕ). is_not_implemented k (fields_of F.head)) (same ∙ F.method)

  pub bad : None ≡ body_length (fields_of F.head) → (more : List ℕ) → IsFirstRequest (b ++ more) Bad
  bad is more = by_head b F.head rest F.some F.admits more Bad (ap (λ r. first_by_length F.head r (rest ++ more)) is)

  module _ (n : ℕ) (said : Some n ≡ body_length (fields_of F.head)) where
    pub too_large : body_limit < n → (more : List ℕ) → IsFirstRequest (b ++ more) TooLarge
    too_large over more = by_head b F.head rest F.some F.admits more TooLarge (
        sym (cond-true _ _ _ (lt-ltb body_limit n over)) ∙ ap (λ r. first_by_length F.head r (rest ++ more)) said)

    not_over : n ≤ body_limit → nat_lt body_limit n ≡ false
    not_over within = le-ltb body_limit n within

    by_rest : n ≤ body_limit → (more : List ℕ)
        → (if is_not_implemented F.head.method (fields_of F.head) then NotImplemented
        else first_with_body F.head n (rest ++ more))
        ≡ first_of_head F.head (rest ++ more)
    by_rest within more =
        sym (cond-false _ _ _ (not_over within)) ∙ ap (λ r. first_by_length F.head r (rest ++ more)) said

    pub not_implemented : n ≤ body_limit → true ≡ is_not_implemented F.head.method (fields_of F.head) → (more : List ℕ)
        → IsFirstRequest (b ++ more) NotImplemented
    not_implemented within out more =
        by_head b F.head rest F.some F.admits more NotImplemented
        (sym (cond-true _ _ _ (sym out)) ∙ by_rest within more)

    pub whole : n ≤ body_limit → false ≡ is_not_implemented F.head.method (fields_of F.head)
        → n ≤ length rest → (m : Message) → m ≡ message F.head (take n rest)
        → (more : List ℕ) → IsFirstRequest (b ++ more) (Whole m (drop (spans.len + n) b ++ more))
    whole within kept enough m is more =
        let all : take n (rest ++ more) ≡ take n rest = take-append-le n rest more enough in
        let behind : drop n (rest ++ more) ≡ drop (spans.len + n) b ++ more =
        drop-append-le n rest more enough ∙ ap (λ (l : List ℕ). l ++ more) (drop-drop n spans.len b) in
        let long : nat_le n (length (rest ++ more)) ≡ true =
        grind (arith, nat_tests, length-append rest more, enough) in
        by_head b F.head rest F.some F.admits more (Whole m (drop (spans.len + n) b ++ more)) (
        ap (λ (l : List ℕ). Whole m l) (sym behind)
        ∙ ap (λ (k : Message). Whole k (drop n (rest ++ more))) (is ∙ ap (λ (l : List ℕ). message F.head l) (sym all))
        ∙ sym (cond-true _ _ _ long) ∙ sym (cond-false _ _ _ (sym kept)) ∙ by_rest within more)

  pub message_is : (method target body : List ℕ) (close : Bool) (n : ℕ)
      → method ≡ span_bytes front spans.method → target ≡ span_bytes front spans.path → body ≡ take n rest
      → close ≡ asks_to_close spans.version (map (header_bytes front) fields)
      → (let m : Message = record { method = method; target = target; body = body; close = close } in m)
      ≡ message F.head (take n rest)
  message_is method target body close n m t d k =
      let e : method ≡ F.head.method = m ∙ F.method in
      let f : target ≡ F.head.target = t ∙ F.target in
      let h : close ≡ asks_to_close F.head.minor (fields_of F.head) =
      k ∙ ap (λ v. asks_to_close v (map (header_bytes front) fields)) F.version
      ∙ ap (λ l. asks_to_close F.head.minor l) F.fields_are in
      λ i. record { method = e i; target = f i; body = d i; close = h i }

-- ---- a head in the first 16,384 bytes

module _ (b front : List ℕ) (is_front : front ≡ take (min (length b) head_limit) b) where
  abbrev joined : front ++ drop (min (length b) head_limit) b ≡ b
  joined =
      ap (λ (l : List ℕ). l ++ drop (min (length b) head_limit) b) is_front
      ∙ take-append-drop (min (length b) head_limit) b

  front_size : length front ≡ min (length b) head_limit
  front_size = ap length is_front ∙ length-take-le (min (length b) head_limit) b (omega arith)

  all_joined : (more : List ℕ) → front ++ (drop (min (length b) head_limit) b ++ more) ≡ b ++ more
  all_joined more =
      sym (append_assoc front (drop (min (length b) head_limit) b) more) ∙ ap (λ (l : List ℕ). l ++ more) joined

  -- whatever follows has more fields than a head may have
  pub none_over : RequestOverflows 64 front → (more : List ℕ) → AdmitsNone (b ++ more)
  none_over over more h rest a =
      let reads : ReadsRequest (front ++ (drop (min (length b) head_limit) b ++ more)) h rest =
      subst (λ (l : List ℕ). ReadsRequest l h rest) (sym (all_joined more)) a.reads in
      let many : 64 < length h.fields = over (drop (min (length b) head_limit) b ++ more) h rest reads in
      absurd (omega (arith, many, a.fields))

  -- a head would lie in the front
  pub none_past : head_limit ≤ length b → HasNoRequest front → (more : List ℕ) → AdmitsNone (b ++ more)
  none_past long none more h rest a =
      let p = print_request h in
      let size : length front ≡ head_limit = omega (arith, front_size, long) in
      let reads : front ++ (drop (min (length b) head_limit) b ++ more) ≡ p ++ rest = all_joined more ∙ a.reads.1 in
      let within : length p ≤ length front = omega (arith, a.size, size) in
      let cut : take (length p) front ≡ p =
      sym (take-append-le (length p) front (drop (min (length b) head_limit) b ++ more) within)
      ∙ ap (λ (l : List ℕ). take (length p) l) reads
      ∙ take-append-le (length p) p rest (omega arith) ∙ take_all (length p) p (omega arith) in
      none h (drop (length p) front)
      (a.reads.0, sym (take-append-drop (length p) front) ∙ ap (λ (l : List ℕ). l ++ drop (length p) front) cut)

  pub none_yet : length b < head_limit → HasNoRequest front → AdmitsNone b
  none_yet short none h rest a =
      let all : front ≡ b = is_front ∙ take_all (min (length b) head_limit) b (omega arith) in
      none h rest (subst (λ (l : List ℕ). ReadsRequest l h rest) (sym all) a.reads)

  pub admits : (h : RequestHead) (n count : ℕ) (headers : List HeaderSpan)
      → ReadsRequest front h (drop n front) → n ≡ length (print_request h) → n ≤ length front
      → AreFieldsAt front headers count h.fields → length headers ≡ 64 → Admits b h (drop n b)
  admits h n count headers reads size within fields room =
      let whole : ReadsRequest (front ++ drop (min (length b) head_limit) b) h
      (drop n front ++ drop (min (length b) head_limit) b) =
      ReadsRequest-append front h (drop n front) (drop (min (length b) head_limit) b) reads in
      let behind : drop n front ++ drop (min (length b) head_limit) b ≡ drop n b =
      sym (drop-append-le n front (drop (min (length b) head_limit) b) within) ∙ ap (λ (l : List ℕ). drop n l) joined in
      let count_is : length (take count headers) ≡ length h.fields =
      sym (length-map (take count headers) (header_bytes front))
      ∙ ap length fields ∙ length-map h.fields name_and_value in
      record {
        reads = subst (λ (l : List ℕ). ReadsRequest b h l) behind (subst
            (λ (l : List ℕ). ReadsRequest l h (drop n front ++ drop (min (length b) head_limit) b)) joined whole);
        fields = omega (arith, count_is, room, length-take count headers);
        size = omega (arith, size, within, front_size);
      }

-- ---- lines alone are no head

not_token : (m : ℕ) → ends_line m ≡ true → is_token_byte m ≡ true → ⊥
unfolding is_token_byte
not_token m ends token = ⊎_elim
    (λ cr. let P : ℕ → Type 0 = λ k. is_token_byte k ≡ true in let no : false ≡ true = subst P cr token in cc)
    (λ other. ⊎_elim
    (λ nl. let P : ℕ → Type 0 = λ k. is_token_byte k ≡ true in let no : false ≡ true = subst P nl token in cc)
    (λ neither. absurd (grind (arith, nat_tests))) (cases_eq m 10))
    (cases_eq m 13)

not_method : (method : List ℕ) → 0 < length method → AllPass is_token_byte method → list_all ends_line method ≡ true → ⊥
not_method [] some token lines = absurd (omega arith)
not_method (m ∷ method) some token lines =
    not_token m (and_left (ends_line m) (list_all ends_line method) lines) (token 0 m (omega arith))

pub blank_none : (b : List ℕ) → IsBlank b → AdmitsNone b
blank_none b blank h rest a =
    let behind = 32
    ∷ (h.target ++ 32 ∷ (print_version h.minor ++ (print_end h.line_end ++ (print_section h.fields h.last ++ rest)))) in
    let is : b ≡ print_blank h.blank ++ (h.method ++ behind) = a.reads.1 ∙ print_request-append h rest in
    let all : list_all ends_line (print_blank h.blank ++ (h.method ++ behind)) ≡ true =
    sym (ap (list_all ends_line) is) ∙ blank.lines in
    let more : list_all ends_line (h.method ++ behind) ≡ true = and_right (list_all ends_line (print_blank h.blank)) _
    (sym (list_all-append ends_line (print_blank h.blank) (h.method ++ behind)) ∙ all) in
    not_method h.method a.reads.0.method.0 a.reads.0.method.1
    (and_left (list_all ends_line h.method) (list_all ends_line behind)
    (sym (list_all-append ends_line h.method behind) ∙ more))

ascii : (b : ℕ) → is_token_byte b ≡ true → b < 128
unfolding is_token_byte
ascii b token = grind (arith, nat_tests)

pub is_text : (h : RequestHead) → IsToken h.method → IsUtf8 h.method
is_text h token =
    IsUtf8-from_ascii h.method
    (IsAscii-from_all h.method (All-weaker (λ b. is_token_byte b ≡ true) (λ b. b < 128) ascii h.method token.1))

pub closing : (minor : ℕ) (fields : List Header) (known : KnownFields)
    → known ≡ known_fields fields → ((minor == 0) || known.close) ≡ asks_to_close minor fields
unfolding asks_to_close known_fields
closing minor fields known is = ap (λ k. (minor == 0) || k.close) is
