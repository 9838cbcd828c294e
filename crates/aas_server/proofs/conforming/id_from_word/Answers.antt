use Rattle.std.proofs.Common.{refl, ◌∙◌}
use Rattle.aas_server.proofs.ConformAnswers.{none_coded}
use Rattle.aas_server.proofs.conforming.id_from_word.Goals as goal

pub returns-in-None-clause-bad : goal.returns-in-None-clause-bad
returns-in-None-clause-bad c = λ some. (
  refl,
  none_coded c.as_bytes.result.now c.args.word.now c.in_ok-id.field-0 c.in-None.is
      (c.as_bytes.ensures.value ∙ c.as_str.ensures.bytes) c.in_ok-id.ensures.none,
)
