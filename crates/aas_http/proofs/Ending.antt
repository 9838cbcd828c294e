-- Where a whole request ends.
use Rattle.std.proofs.Common.{◌≡◌, if◌then◌else◌, inl, inr, ℕ, ◌≤◌, Bool, true, false, List, ◌++◌, length, take, drop}
use Rattle.std.proofs.Common.{Option, Some, None, refl, sym, ap, ◌∙◌, subst, arith, append_assoc}
use Rattle.std.proofs.Common.{length-append, take-append-drop}
use Rattle.std.specs.Prelude.{nat_lt, nat_le}
use Rattle.std.proofs.lemmas.Bool.{cond-true, cond-false}
use Rattle.std.proofs.lemmas.Bool.Decides.{nat_tests}
use Rattle.std.proofs.lemmas.List.{length-take-le}
use Rattle.std.proofs.Math.Seq.{take-append_seam, drop-append_seam}
use Rattle.httparse.specs.Grammar.{RequestHead, print_request}
use Rattle.aas_http.specs.BodyLength.{body_limit, body_length}
use Rattle.aas_http.specs.FirstRequest.{Message, FirstRequest, Bad, TooLarge, NotImplemented, Whole, message}
use Rattle.aas_http.specs.FirstRequest.{first_by_length, first_of_head, IsFirstRequest}
use Rattle.aas_http.specs.Head.{Admits, fields_of}
use Rattle.aas_http.specs.Laws.{EndsByItself}
use Rattle.aas_http.specs.NotImplemented.{is_not_implemented}
use Rattle.aas_http.proofs.Firsts.{blank_none}

-- the bytes of a request alone
abbrev Ends : List ℕ → Message → List ℕ → Type 0
Ends bytes m rest =
    (front : List ℕ) × (bytes ≡ front ++ rest) × ((more : List ℕ) → IsFirstRequest (front ++ more) (Whole m more))

by_head : (b : List ℕ) (h : RequestHead) (r : List ℕ)
    → Admits b h r → (first : FirstRequest) → first ≡ first_of_head h r → IsFirstRequest b first
unfolding IsFirstRequest
by_head b h r a first is = inr (inr (h, r, λ blank. blank_none b blank h r a, a, is))

module _ (bytes : List ℕ) (m : Message) (rest : List ℕ) (h : RequestHead) (r : List ℕ) (admits : Admits bytes h r) where
  module _ (n : ℕ) (said : body_length (fields_of h) ≡ Some n) where
    ends : (over out whole : Bool)
        → nat_lt body_limit n ≡ over → is_not_implemented h.method (fields_of h) ≡ out → nat_le n (length r) ≡ whole
        → Whole m rest
        ≡ (if over then TooLarge
        else (if out then NotImplemented else (if whole then Whole (message h (take n r)) (drop n r) else Bad)))
        → Ends bytes m rest
    ends true out whole o u w is = let no : ⊥ = cc in absurd no
    ends false true whole o u w is = let no : ⊥ = cc in absurd no
    ends false false false o u w is = let no : ⊥ = cc in absurd no
    ends false false true o u w is =
        let fits : n ≤ length r = grind (arith, nat_tests, w) in
        let size : length (take n r) ≡ n = length-take-le n r fits in
        let m_is : m ≡ message h (take n r) = cc in
        let rest_is : rest ≡ drop n r = cc in
        let bytes_are : bytes ≡ print_request h ++ r = admits.reads.1 in (
          print_request h ++ take n r,
          bytes_are ∙ ap (λ (l : List ℕ). print_request h ++ l) (sym (take-append-drop n r))
              ∙ sym (append_assoc (print_request h) (take n r) (drop n r))
              ∙ ap (λ (l : List ℕ). (print_request h ++ take n r) ++ l) (sym rest_is),
          λ more.
              let behind = take n r ++ more in
              let long : nat_le n (length behind) ≡ true =
              grind (arith, nat_tests, length-append (take n r) more, size) in
              let body : take n behind ≡ take n r =
              subst (λ (k : ℕ). take k behind ≡ take n r) size (take-append_seam (take n r) more) in
              let next_part : drop n behind ≡ more =
              subst (λ (k : ℕ). drop k behind ≡ more) size (drop-append_seam (take n r) more) in
              let whole_is : first_by_length h (Some n) behind ≡ Whole (message h (take n behind)) (drop n behind) =
              cond-false _ _ _ o ∙ cond-false _ _ _ u ∙ cond-true _ _ _ long in
              let same : Whole m more ≡ Whole (message h (take n behind)) (drop n behind) =
              ap (λ (k : Message). Whole k more) (m_is ∙ ap (λ (l : List ℕ). message h l) (sym body))
              ∙ ap (λ (l : List ℕ). Whole (message h (take n behind)) l) (sym next_part) in
              by_head ((print_request h ++ take n r) ++ more) h behind (
              record {
                reads = (admits.reads.0, append_assoc (print_request h) (take n r) more);
                fields = admits.fields;
                size = admits.size;
              }) (Whole m more) (same ∙ sym whole_is ∙ ap (λ o. first_by_length h o behind) (sym said)),
        )

  by_length : (o : Option ℕ) → body_length (fields_of h) ≡ o → Whole m rest ≡ first_by_length h o r → Ends bytes m rest
  by_length None said is = let no : ⊥ = cc in absurd no
  by_length (Some n) said is = ends n said _ _ _ refl refl refl is

  pub of_head : Whole m rest ≡ first_of_head h r → Ends bytes m rest
  of_head is = by_length (body_length (fields_of h)) refl is

pub ends_by_itself : EndsByItself
unfolding IsFirstRequest
ends_by_itself bytes m rest (inl x) = let e = x.1 in let no : ⊥ = cc in absurd no
ends_by_itself bytes m rest (inr (inl x)) = let e = x.2 in let no : ⊥ = cc in absurd no
ends_by_itself bytes m rest (inr (inr x)) = of_head bytes m rest x.0 x.1 x.3 x.4
