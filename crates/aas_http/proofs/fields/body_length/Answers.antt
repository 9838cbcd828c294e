use Rattle.std.proofs.Common.{[], ◌∷◌, Some, None, refl, sym, ◌∙◌, map, arith}
use Rattle.std.specs.Prelude.{codes}
use Rattle.httparse.specs.Spans.{header_bytes}
use Rattle.http1.specs.Fields.{values_named}
use Rattle.aas_http.proofs.Lengths.{known_length, long_number}
use Rattle.aas_http.proofs.Values.{said, length_of_several}
use Rattle.aas_http.proofs.fields.body_length.Goals as goal

pub returns-in-Absent : goal.returns-in-Absent
returns-in-Absent c =
    said (map (header_bytes c.args.bytes.now) c.args.headers.now) [] (Some 0) (sym c.in-Absent.ensures) refl

pub returns-then-value-gt-LENGTH_DIGITS : goal.returns-then-value-gt-LENGTH_DIGITS
returns-then-value-gt-LENGTH_DIGITS c =
    said (map (header_bytes c.args.bytes.now) c.args.headers.now) (c.in-One.value.now ∷ []) None
    (sym c.in-One.ensures) (long_number c.in-One.value.now (omega arith))

pub returns-else-value-gt-LENGTH_DIGITS : goal.returns-else-value-gt-LENGTH_DIGITS
returns-else-value-gt-LENGTH_DIGITS c =
    let fields = map (header_bytes c.args.bytes.now) c.args.headers.now in
    said fields (c.in-One.value.now ∷ []) c.number_of.result (sym c.in-One.ensures)
    (c.number_of.ensures
    ∙ known_length fields c.in-One.value.now c.args.known.now c.requires.known c.in-One.ensures (omega arith))

pub returns-in-Several : goal.returns-in-Several
returns-in-Several c =
    let fields = map (header_bytes c.args.bytes.now) c.args.headers.now in
    let values = values_named (codes "content-length") fields in
    said fields values None refl (length_of_several values c.in-Several.ensures)
