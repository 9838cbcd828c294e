-- Laws of the first request.
use Rattle.std.proofs.Common.{◌≡◌, ◌⊎◌, inl, inr, ℕ, ◌+◌, ◌<◌, false, List, length, Some, refl, sym, ap, ◌∙◌}
use Rattle.std.proofs.Common.{arith, length-append}
use Rattle.std.specs.Prelude.{nat_le}
use Rattle.std.proofs.lemmas.Bool.{cond-false, le-ltb}
use Rattle.std.proofs.lemmas.Bool.Decides.{nat_tests}
use Rattle.httparse.specs.Grammar.{print_request}
use Rattle.httparse.proofs.GrammarLemmas.{request_unique}
use Rattle.aas_http.specs.BodyLength.{body_limit}
use Rattle.aas_http.specs.Head.{head_limit}
use Rattle.aas_http.specs.Laws.{BeginsWithOne, EndsUnfinished, FitsLimits}
use Rattle.aas_http.specs.FirstRequest.{Nothing, Bad, IsBlank, first_by_length, first_of_head, IsFirstRequest}
use Rattle.aas_http.specs.Steps.{AwaitsHead, AwaitsBody}

pub blank_first : (b : List ℕ) → IsBlank b → IsFirstRequest b Nothing
unfolding IsFirstRequest
blank_first b blank = inl (blank, refl)

pub unfinished : (b : List ℕ) → ¬ (IsBlank b) → AwaitsHead b ⊎ AwaitsBody b → IsFirstRequest b Bad
unfolding IsFirstRequest
unfinished b some (inl head) = inr (inl (some, head.none, refl))
unfinished b some (inr body) =
    let h = body.head in let rest = body.rest in
    let cut : nat_le body.size (length rest) ≡ false = grind (arith, nat_tests, body.short) in
    let step : first_by_length h (Some body.size) rest ≡ Bad =
    cond-false _ _ _ (le-ltb body_limit body.size body.within)
    ∙ cond-false _ _ _ body.supported ∙ cond-false _ _ _ cut in
    inr (inr (h, rest, some, body.admits, sym (ap (λ r. first_by_length h r rest) body.said ∙ step)))

more_short : (b : List ℕ) → AwaitsHead b ⊎ AwaitsBody b → length b < head_limit + body_limit
more_short b (inl head) = omega (arith, head.short)
more_short b (inr body) = omega (
  arith,
  ap length body.admits.reads.1,
  length-append (print_request body.head) body.rest,
  body.admits.size,
  body.short,
  body.within,
)

pub ends_unfinished : EndsUnfinished
ends_unfinished b awaits = (blank_first b, λ some. unfinished b some awaits)

pub fits_limits : FitsLimits
fits_limits b awaits = more_short b awaits

pub begins_with_one : BeginsWithOne
unfolding IsFirstRequest
begins_with_one b f g (inl x) (inl y) = x.1 ∙ sym y.1
begins_with_one b f g (inl x) (inr (inl y)) = absurd (y.0 x.0)
begins_with_one b f g (inl x) (inr (inr y)) = absurd (y.2 x.0)
begins_with_one b f g (inr (inl x)) (inl y) = absurd (x.0 y.0)
begins_with_one b f g (inr (inl x)) (inr (inl y)) = x.2 ∙ sym y.2
begins_with_one b f g (inr (inl x)) (inr (inr y)) = absurd (x.1 y.0 y.1 y.3)
begins_with_one b f g (inr (inr x)) (inl y) = absurd (x.2 y.0)
begins_with_one b f g (inr (inr x)) (inr (inl y)) = absurd (y.1 x.0 x.1 x.3)
begins_with_one b f g (inr (inr x)) (inr (inr y)) =
    let same = request_unique b x.0 y.0 x.1 y.1 x.3.reads y.3.reads in
    x.4 ∙ ap (λ h. first_of_head h x.1) same.0 ∙ ap (λ (r : List ℕ). first_of_head y.0 r) same.1 ∙ sym y.4
