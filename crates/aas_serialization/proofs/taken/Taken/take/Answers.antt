use Rattle.std.proofs.Common.{◌≡◌, false, Bor, [], Option, Some, None, refl, sym, ap, ◌∙◌}
use Rattle.std.specs.Prelude.{is_some}
use Rattle.std.specs.FinMap as map
use Rattle.std.specs.Option.{option_copied, option_map_or}
use Rattle.std.specs.Str.{encode_utf8_all}
use Rattle.aas_serialization.proofs.Along.{along_last, along_new}
use Rattle.aas_serialization.proofs.taken.Taken.take.Given.{Over}
use Rattle.aas_serialization.proofs.taken.Taken.take.Goals as goal
use Rattle.aas_serialization.proofs.taken.Taken.take.Goals.{After-has_cases}

not_there : {X : Type 0} (o : Option (Bor X)) → is_some o ≡ false → is_some (option_copied o) ≡ false
not_there None is = refl
not_there (Some x) is = is

out : (g : Over) (c : After-has_cases g)
    → map.contains_key c.args.self.now.ids (encode_utf8_all c.in-Some.id.now) ≡ false
out g c =
    sym (ap is_some (c.get.ensures ∙ ap (map.get c.args.self.now.ids) c.as_str.ensures.bytes))
    ∙ not_there c.get.result (sym c.is_some.ensures ∙ c.if-is_some.false)

put : (g : Over) (c : After-has_cases g)
    → c.put.new.self ≡ map.insert c.args.self.now.ids (encode_utf8_all c.in-Some.id.now) tt
put g c =
    c.in_ok-put.ensures.ok ∙ ap (λ id. map.insert c.args.self.now.ids (encode_utf8_all id) tt) c.in_ok-copy.ensures

pub returns-in_ok-wait : goal.returns-in_ok-wait
returns-in_ok-wait g c =
    let so_far = (goal.at.returns-in_ok-wait g c).After-has_cases in
    along_new (g.S.Store.documents c.args.store.now) c.args.self.now c.wait.new.self c.args.reference.now
    (encode_utf8_all c.in-Some.id.now) c.in-Some.ensures (out g so_far) (c.wait.ensures.ids ∙ put g so_far)
    c.in_ok-wait.ensures.waiting

pub returns-else-has_cases : goal.returns-else-has_cases
returns-else-has_cases g c =
    let m = g.S.Store.documents c.args.store.now in
    let so_far = (goal.at.returns-else-has_cases g c).After-has_cases in
    along_last m c.args.self.now (record c.args.self.now { ids = c.put.new.self }) c.args.reference.now
    (encode_utf8_all c.in-Some.id.now) c.in-Some.ensures (out g so_far) (put g so_far) refl
    (ap (λ id. option_map_or (λ c. c.is_case_of) (map.get m.concepts id) []) (sym c.as_str-2.ensures.bytes)
    ∙ c.has_cases.ensures.0 c.if-has_cases.false)
