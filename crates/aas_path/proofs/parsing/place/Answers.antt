use Rattle.std.proofs.Common.{◌+◌, ◌<◌, ◌≤◌, ◌∷◌, ◌++◌, take, sym, ap, ◌∙◌, subst, arith}
use Rattle.std.proofs.lemmas.List.{take-append-drop}
use Rattle.std.specs.Char.{is_ascii_digit}
use Rattle.aas_path.specs.Runs.{IsRun}
use Rattle.aas_path.specs.StepText.{IsNoStep}
use Rattle.aas_path.proofs.PlaceSteps.{no_digit, too_many, digits_of_run, place_of_digits, no_bracket, no_end, is_place, bracket_found, bracket_not_found}
use Rattle.aas_path.proofs.Answered.{holds, fails}
use Rattle.aas_path.proofs.parsing.place.Goals as goal

pub returns-then-len-eq0 : goal.returns-then-len-eq0
returns-then-len-eq0 c = no_digit c.args.text.now (subst (IsRun is_ascii_digit c.args.text.now) c.if-len-eq0.true c.run_len-len.ensures)

pub returns-then-len-most : goal.returns-then-len-most
returns-then-len-most c =
    let lt = subst (λ m. m < c.run_len-len.result) c.most_digits-most.ensures c.if-len-most.true in
    subst (λ m. IsNoStep (91 ∷ c.args.text.now) (m + 1)) (sym c.most_digits-most.ensures) (too_many c.args.text.now c.run_len-len.result c.run_len-len.ensures lt)

pub returns-in_default : goal.returns-in_default
returns-in_default c =
    let text = c.args.text.now in
    let n = c.run_len-len.result in
    let some : 0 < n = omega arith in
    let le = subst (λ m. n ≤ m) c.most_digits-most.ensures c.if-len-most.false in
    no_bracket text n c.run_len-len.ensures (digits_of_run text n c.run_len-len.ensures some le) (bracket_not_found text n c.in_default.ensures)

pub number-requires : goal.number-requires
number-requires c =
    let text = c.args.text.now in
    let n = c.run_len-len.result in
    let some : 0 < n = omega arith in
    let le = subst (λ m. n ≤ m) c.most_digits-most.ensures c.if-len-most.false in
    place_of_digits (take n text) (digits_of_run text n c.run_len-len.ensures some le)

pub returns-else-ends_step : goal.returns-else-ends_step
returns-else-ends_step c =
    let text = c.args.text.now in
    let n = c.run_len-len.result in
    let some : 0 < n = omega arith in
    let le = subst (λ m. n ≤ m) c.most_digits-most.ensures c.if-len-most.false in
    no_end text c.in-Some.behind.now n c.run_len-len.ensures (digits_of_run text n c.run_len-len.ensures some le) (bracket_found text c.in-Some.behind.now n c.in-Some.ensures)
    (fails c.ends_step.result c.if-ends_step.false c.ends_step.ensures)

pub returns-then-ends_step : goal.returns-then-ends_step
returns-then-ends_step c =
    let text = c.args.text.now in
    let n = c.run_len-len.result in
    let behind = c.in-Some.behind.now in
    let parts = sym (take-append-drop n text) ∙ ap (λ t. take n text ++ t) (bracket_found text behind n c.in-Some.ensures) in
    is_place text (take n text) behind c.number.result c.number.ensures.small c.number.ensures.text parts (holds c.ends_step.result c.if-ends_step.true c.ends_step.ensures)
