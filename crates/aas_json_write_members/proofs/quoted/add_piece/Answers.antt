use Rattle.std.proofs.lemmas.Str.{IsCharBoundary-after_ascii}
use Rattle.aas_json_write_members.proofs.Quoting.{escaped_first, escaped_is_ascii}
use Rattle.aas_json_write_members.proofs.quoted.add_piece.Goals as goal

pub returns-then-plain-eq0-clause-boundary : goal.returns-then-plain-eq0-clause-boundary
returns-then-plain-eq0-clause-boundary g c =
    IsCharBoundary-after_ascii c.args.text.now 0 c.utf8.text c.requires (escaped_is_ascii _
    (escaped_first c.as_bytes-bytes.result.now c.args.text.now c.count_plain-plain.result
    c.count_plain-plain.ensures.behind c.as_bytes-bytes.ensures.value c.if-plain-eq0.true c.requires))
