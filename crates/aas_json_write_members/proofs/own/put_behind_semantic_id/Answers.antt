use Rattle.std.proofs.Common.{◌∷◌, [], codes}
use Rattle.aas_json_write_members.specs.Puts.{own_fields}
use Rattle.aas_json_write_members.proofs.Lacking.{no_behind_semantic_id}
use Rattle.aas_json_write_members.proofs.Putting.{fields_both, put_lacking, put_none, put_own}
use Rattle.aas_json_write_members.proofs.own.put_behind_semantic_id.Goals as goal

pub returns-in-SubmodelElementList : goal.returns-in-SubmodelElementList
returns-in-SubmodelElementList g c =
    put_own c.args.payload.now
    (codes "semanticIdListElement" ∷ codes "specificAssetIds" ∷ codes "state" ∷ []) c.in-SubmodelElementList.is
    (fields_both (fields_both c.put_optional.ensures
    (put_none c.put_optional.result (g.O.TextEnd.told c.put_optional.new.out) (codes "specificAssetIds")))
    (put_none c.put_optional.result (g.O.TextEnd.told c.put_optional.new.out) (codes "state")))

pub returns-in-Entity : goal.returns-in-Entity
returns-in-Entity g c =
    put_own c.args.payload.now
    (codes "semanticIdListElement" ∷ codes "specificAssetIds" ∷ codes "state" ∷ []) c.in-Entity.is
    (fields_both (fields_both (put_none c.args.pen (g.O.TextEnd.told c.args.out.now) (codes "semanticIdListElement"))
    c.put_list.ensures)
    (put_none c.put_list.result (g.O.TextEnd.told c.put_list.new.out) (codes "state")))

pub returns-in-BasicEventElement : goal.returns-in-BasicEventElement
returns-in-BasicEventElement g c =
    put_own c.args.payload.now
    (codes "semanticIdListElement" ∷ codes "specificAssetIds" ∷ codes "state" ∷ []) c.in-BasicEventElement.is
    (fields_both (fields_both (put_none c.args.pen (g.O.TextEnd.told c.args.out.now) (codes "semanticIdListElement"))
    (put_none c.args.pen (g.O.TextEnd.told c.args.out.now) (codes "specificAssetIds")))
    c.put_word.ensures)

pub returns-in_default : goal.returns-in_default
returns-in_default g c =
    put_lacking c.args.pen (g.O.TextEnd.told c.args.out.now)
    (own_fields c.args.payload.now (codes "semanticIdListElement" ∷ codes "specificAssetIds" ∷ codes "state" ∷ []))
    (codes "semanticIdListElement" ∷ codes "specificAssetIds" ∷ codes "state" ∷ [])
    (no_behind_semantic_id c.args.payload.now c.in_default.not-SubmodelElementList
    c.in_default.not-Entity c.in_default.not-BasicEventElement)
