use Rattle.std.proofs.Common.{◌+◌, length, subst}
use Rattle.std.proofs.lemmas.Bool.{OnTrue_at}
use Rattle.aas_out.proofs.Meeting.{met_is_put, met_utf8}
use Rattle.aas_out.specs.MatchTold.{match_told}
use Rattle.aas_out.specs.Told.{Wrote}
use Rattle.aas_out.proofs.match_out.MatchOutTextEnd.put_text.Goals as goal

pub invariant_of-self-2-clause-utf8 : goal.invariant_of-self-2-clause-utf8
invariant_of-self-2-clause-utf8 c =
    let self = c.args.self.now in
    ∣ met_utf8 self.bytes.now c.as_bytes-piece.result.now self.met self.within
    (OnTrue_at c.if-not-begins_with.false c.begins_with.ensures.front) self.utf8 c.as_bytes-piece.ensures.utf8 ∣₁

pub returns : goal.returns
returns c =
    let self = c.args.self.now in
    let piece = c.as_bytes-piece.result.now in
    subst
    (Wrote (match_told self.bytes.now self.met self.faults)
    (match_told self.bytes.now (self.met + length piece) self.faults))
    c.as_bytes-piece.ensures.value
    (met_is_put self.bytes.now piece self.met self.faults self.within
    (OnTrue_at c.if-not-begins_with.false c.begins_with.ensures.front))
