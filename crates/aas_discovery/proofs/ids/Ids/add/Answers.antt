use Rattle.std.proofs.Common.{ℕ, List, sym, ap, ◌∙◌, subst}
use Rattle.std.specs.FinMap as fin
use Rattle.std.specs.Str.{encode_utf8_all}
use Rattle.aas_store.specs.Places.{IsGapFor}
use Rattle.aas_store.proofs.Shelves.{found_there, inserted_same}
use Rattle.aas_discovery.proofs.Marks.{gap_within, sorted_after_insert, stands_after_insert}
use Rattle.aas_discovery.proofs.ids.Ids.add.Goals as goal

pub insert-requires : goal.insert-requires
insert-requires c = gap_within c.self.inside.ids c.self.invariant c.args.self.now c.self.view_is c.as_str.result.now
    c.in-Err.place c.in-Err.ensures

pub invariant_of-self : goal.invariant_of-self
invariant_of-self c =
    let same = c.as_str.ensures.bytes ∙ ap encode_utf8_all (sym c.in_ok-copy-in-Err.ensures) in
    sorted_after_insert c.self.inside.ids c.self.invariant c.args.self.now c.self.view_is c.insert.result
    c.insert.new.self c.in_ok-copy-in-Err.copy c.in-Err.place
    (subst (λ (id : List ℕ). IsGapFor c.args.self.now id c.in-Err.place) same c.in-Err.ensures) c.insert.ensures.ok
    c.insert.ensures.err

pub returns-in-Ok-clause-ok : goal.returns-in-Ok-clause-ok
returns-in-Ok-clause-ok c =
    sym (inserted_same c.args.self.now (encode_utf8_all c.args.id.now) tt
    (ap (fin.get c.args.self.now) (sym c.as_str.ensures.bytes)
    ∙ found_there c.args.self.now c.as_str.result.now c.in-Ok.field-0 c.in-Ok.ensures.0 c.in-Ok.ensures.1))

pub returns-in_ok-copy-in-Err-clause-ok : goal.returns-in_ok-copy-in-Err-clause-ok
returns-in_ok-copy-in-Err-clause-ok c =
    let same = c.as_str.ensures.bytes ∙ ap encode_utf8_all (sym c.in_ok-copy-in-Err.ensures) in
    stands_after_insert c.self.inside.ids c.self.invariant c.args.self.now c.self.view_is c.insert.result
    c.insert.new.self c.in_ok-copy-in-Err.copy (encode_utf8_all c.args.id.now) c.in-Err.place
    (subst (λ (id : List ℕ). IsGapFor c.args.self.now id c.in-Err.place) same c.in-Err.ensures)
    (ap encode_utf8_all c.in_ok-copy-in-Err.ensures) c.insert.ensures.ok
