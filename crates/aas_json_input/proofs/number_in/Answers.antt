use Rattle.aas_json_input.proofs.Plain.{reads_number}
use Rattle.aas_json_input.proofs.number_in.Goals as goal

pub returns-then-is_number : goal.returns-then-is_number
returns-then-is_number c = reads_number c.args.text.now c.number_of.result (c.is_number.ensures.0 c.if-is_number.true) c.utf8.text c.number_of.ensures
