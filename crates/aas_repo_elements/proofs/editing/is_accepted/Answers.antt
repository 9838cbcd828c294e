use Rattle.std.proofs.Common.{Result, Ok, Err, refl, sym, ap, ◌∙◌}
use Rattle.std.specs.Prelude.{IfErr}
use Rattle.std.specs.FinMap as map
use Rattle.aas_command.specs.declared.refusal.Refusal.{Refusal}
use Rattle.aas_repo_documents.proofs.Edited.{is_missing, is_refused}
use Rattle.aas_repo_elements.proofs.editing.is_accepted.Goals as goal

pub is_accepted-requires-clause-valid : goal.is_accepted-requires-clause-valid
is_accepted-requires-clause-valid g c =
    let d = g.S.Store.documents c.args.store.now in
    (c.requires.valid.submodels _ _ (sym (c.in-Some.ensures ∙ ap (map.get d.submodels) c.as_str.ensures.bytes))).valid

-- why it is refused
for_each : {A : Type 0} (result : Result A Refusal) (P Q : Refusal → Type 0)
    → ((refusal : Refusal) → P refusal → Q refusal) → IfErr result P → IfErr result Q
for_each (Ok a) P Q then is = is
for_each (Err refusal) P Q then is = then refusal is

pub returns-in-Some-clause-refused : goal.returns-in-Some-clause-refused
returns-in-Some-clause-refused g c =
    let d = g.S.Store.documents c.args.store.now in
    let there = sym (c.in-Some.ensures ∙ ap (map.get d.submodels) c.as_str.ensures.bytes) in
    for_each c.is_accepted.result _ _
    (λ refusal first room. is_refused d _ c.args.id.now _ _
    (g.met.E.Edit.edits c.args.edit.now c.args.id.now d) room d _ refusal there first refl)
    c.is_accepted.ensures.refused

pub returns-in-None-clause-refused : goal.returns-in-None-clause-refused
returns-in-None-clause-refused g c = λ room.
    let d = g.S.Store.documents c.args.store.now in
    is_missing d _ c.args.id.now _ _ (g.met.E.Edit.edits c.args.edit.now c.args.id.now d) room d
    (sym (c.in-None.ensures ∙ ap (map.get d.submodels) c.as_str.ensures.bytes)) refl
