use Rattle.std.proofs.Common.{refl}
use Rattle.std.specs.Fmt.{digits}
use Rattle.json.specs.Print.{escape_byte}
use Rattle.aas_session.specs.Refusals.{bad_request, not_implemented, out_of_memory, storage_fault, too_large}
use Rattle.aas_api_service.specs.Replies.{refusal_reply}
use Rattle.aas_api_service.proofs.laws.own_replies_are_of_refusals.Goals as goal

pub returns : goal.returns
unfolding out_of_memory bad_request too_large not_implemented storage_fault refusal_reply escape_byte digits
returns c =
    record { out_of_memory = refl; bad_request = refl; too_large = refl; not_implemented = refl; storage_fault = refl }
