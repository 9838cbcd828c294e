use Rattle.std.proofs.Common.{◌≡◌, decimal, Ok, sym, ap, ◌∙◌, arith, rules}
use Rattle.std.specs.Str.{chars}
use Rattle.std.proofs.lemmas.Str.{chars-IsAscii}
use Rattle.aas_server.proofs.Words.{parsed}
use Rattle.aas_server.proofs.command_line.count_of.Goals as goal
use Rattle.aas_server.proofs.command_line.count_of.Goals.{then-count-eq0-via-then-count-eq0}
use Rattle.aas_server.proofs.command_line.count_of.Goals.{then-count-eq0-via-else-count-eq0+then-count-most}

pub returns-in_default : goal.returns-in_default
returns-in_default c = λ n within is.
    let read = parsed c.args.word.now c.as_str.result.now n c.args.most c.parse.result
    c.ranges.most.fits c.as_str.ensures.bytes c.parse.ensures.value.0 within is in
    let ok : c.parse.result ≡ Ok n = read.0 in cc

pub returns-then-count-eq0 : goal.returns-then-count-eq0
returns-then-count-eq0 c = λ n within is.
    let read = parsed c.args.word.now c.as_str.result.now n c.args.most c.parse.result
    c.ranges.most.fits c.as_str.ensures.bytes c.parse.ensures.value.0 within is in
    let ok : c.parse.result ≡ Ok n = read.0 in
    let same : c.in-Ok.count ≡ n = cc in
    elim c.then-count-eq0.branch [
      | then-count-eq0-via-then-count-eq0 w ↦ omega (arith, within, same, w.if-count-eq0.true)
      | then-count-eq0-via-else-count-eq0+then-count-most w ↦ omega (arith, within, same, w.if-count-most.true)
    ]

pub returns-then-eq : goal.returns-then-eq
returns-then-eq c =
    let same : c.format.result.now ≡ c.as_str-2.result.now = search rules in
    let read : c.args.word.now ≡ decimal c.in-Ok.count =
    sym c.as_str-2.ensures.characters ∙ ap chars (sym same)
    ∙ chars-IsAscii c.format.result.now c.format.ensures.ascii ∙ c.format.ensures.text in
    ((omega arith, omega arith), read)

pub returns-else-eq : goal.returns-else-eq
returns-else-eq c = λ n within is.
    let read = parsed c.args.word.now c.as_str.result.now n c.args.most c.parse.result
    c.ranges.most.fits c.as_str.ensures.bytes c.parse.ensures.value.0 within is in
    let ok : c.parse.result ≡ Ok n = read.0 in
    let same : c.in-Ok.count ≡ n = cc in
    let text : c.format.result.now ≡ c.as_str-2.result.now =
    c.format.ensures.text ∙ ap decimal same ∙ sym read.1 ∙ c.as_str.ensures.bytes ∙ sym c.as_str-2.ensures.bytes in
    search (rules, text)
