use Rattle.std.proofs.Common.{◌++◌, codes, sym, ap, ◌∙◌}
use Rattle.aas_out.proofs.Adding.{adds_both, adds_same}
use Rattle.aas_answer.specs.Answers.{cursor_text}
use Rattle.aas_answer.proofs.page_text.pour_cursor.Goals as goal

pub returns-in-Some : goal.returns-in-Some
returns-in-Some g c =
    let t = g.O.Out.told c.args.out.now in
    let u = g.O.Out.told c.add_text-named.new.out in
    let v = g.O.Out.told c.add-told.new.out in
    let w = g.O.Out.told c.add_text-in-Some.new.out in
    adds_same c.args.so_far c.add_text-in-Some.result t w
    (codes "{\"cursor\":\"" ++ (c.as_slice.result.now ++ codes "\"}")) (cursor_text c.args.cursor.now)
    (adds_both c.args.so_far c.add_text-named.result c.add_text-in-Some.result t u w
    (codes "{\"cursor\":\"") (c.as_slice.result.now ++ codes "\"}") c.add_text-named.ensures
    (adds_both c.add_text-named.result c.add-told.result c.add_text-in-Some.result u v w c.as_slice.result.now
    (codes "\"}") c.add-told.ensures c.add_text-in-Some.ensures))
    (ap (λ s. codes "{\"cursor\":\"" ++ (s ++ codes "\"}")) c.as_slice.ensures ∙ ap cursor_text (sym c.in-Some.is))
