use Rattle.std.proofs.Common.{sym, ap, ap₂, ◌∙◌, map}
use Rattle.std.specs.Str.{encode_utf8_all}
use Rattle.aas_discovery.specs.Carriers.{carriers}
use Rattle.aas_discovery.proofs.Paged.{none_posted, posted}
use Rattle.aas_discovery.proofs.indexed_store.IndexedStore.holders.Goals as goal

pub returns-in-Some-clause-ids : goal.returns-in-Some-clause-ids
returns-in-Some-clause-ids g c =
    let shells = (g.S.Store.documents c.args.self.now).shells in
    ap (map encode_utf8_all) c.as_slice.ensures
    ∙ posted shells c.as_str.result.now c.as_str-2.result.now c.in-Some.ids.now c.as_many.result.now c.in-Some.ensures
    c.as_many.ensures.ids
    ∙ ap₂ (λ n v. carriers n v shells) c.as_str.ensures.bytes c.as_str-2.ensures.bytes

pub returns-in-None-clause-ids : goal.returns-in-None-clause-ids
returns-in-None-clause-ids g c =
    let shells = (g.S.Store.documents c.args.self.now).shells in
    sym (none_posted shells c.as_str.result.now c.as_str-2.result.now c.in-None.ensures)
    ∙ ap₂ (λ n v. carriers n v shells) c.as_str.ensures.bytes c.as_str-2.ensures.bytes
