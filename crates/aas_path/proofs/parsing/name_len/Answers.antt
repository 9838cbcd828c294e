use Rattle.std.proofs.Common.{subst, sym, arith}
use Rattle.std.proofs.lemmas.List.{take_rest}
use Rattle.aas_path.specs.StepText.{EndsStep}
use Rattle.aas_path.proofs.NameSteps.{no_letter, too_long, wrong_end, good_name}
use Rattle.aas_path.proofs.Answered.{holds, fails}
use Rattle.aas_path.proofs.parsing.name_len.Goals as goal

pub returns-then-not-begins_with : goal.returns-then-not-begins_with
returns-then-not-begins_with c = no_letter c.args.text.now (fails c.begins_with.result c.if-not-begins_with.true c.begins_with.ensures)

pub returns-then-len-gt-MOST_NAME_CHARACTERS : goal.returns-then-len-gt-MOST_NAME_CHARACTERS
returns-then-len-gt-MOST_NAME_CHARACTERS c = too_long c.args.text.now c.run_len-len.result c.run_len-len.ensures (holds c.begins_with.result c.if-not-begins_with.false c.begins_with.ensures) (omega arith)

pub returns-then-ends_step : goal.returns-then-ends_step
returns-then-ends_step c =
    let text = c.args.text.now in
    let n = c.run_len-len.result in (
      c.run_len-len.ensures.within,
      good_name text n c.run_len-len.ensures (holds c.begins_with.result c.if-not-begins_with.false c.begins_with.ensures) (omega arith),
      subst EndsStep (take_rest text n) (holds c.ends_step.result c.if-ends_step.true c.ends_step.ensures),
    )

pub returns-else-ends_step : goal.returns-else-ends_step
returns-else-ends_step c =
    let text = c.args.text.now in
    let n = c.run_len-len.result in
    let not = fails c.ends_step.result c.if-ends_step.false c.ends_step.ensures in
    wrong_end text n c.run_len-len.ensures (holds c.begins_with.result c.if-not-begins_with.false c.begins_with.ensures) (omega arith) (λ ends. not (subst EndsStep (sym (take_rest text n)) ends))
