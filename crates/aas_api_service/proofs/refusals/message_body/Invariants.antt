use Rattle.std.proofs.Common.{◌≡◌, take}
use Rattle.aas_api_service.proofs.refusals.message_body.Given as goal

abbrev pub invariant-loop-byte : goal.invariant-loop-byte
invariant-loop-byte l = l.bytes ≡ take l.byte-index l.byte-items
