use Rattle.std.proofs.Common.{◌∷◌, [], codes}
use Rattle.aas_json_write_members.specs.Puts.{own_fields}
use Rattle.aas_json_write_members.proofs.Lacking.{no_first}
use Rattle.aas_json_write_members.proofs.Putting.{fields_both, put_lacking, put_none, put_own}
use Rattle.aas_json_write_members.proofs.own.put_first.Goals as goal

pub returns-in-RelationshipElement : goal.returns-in-RelationshipElement
returns-in-RelationshipElement g c =
    put_own c.args.payload.now (codes "first" ∷ codes "globalAssetId" ∷ []) c.in-RelationshipElement.is
    (fields_both c.put_optional.ensures
    (put_none c.put_optional.result (g.O.TextEnd.told c.put_optional.new.out) (codes "globalAssetId")))

pub returns-in-AnnotatedRelationshipElement : goal.returns-in-AnnotatedRelationshipElement
returns-in-AnnotatedRelationshipElement g c =
    put_own c.args.payload.now (codes "first" ∷ codes "globalAssetId" ∷ []) c.in-AnnotatedRelationshipElement.is
    (fields_both c.put_optional-in-AnnotatedRelationshipElement.ensures
    (put_none c.put_optional-in-AnnotatedRelationshipElement.result
    (g.O.TextEnd.told c.put_optional-in-AnnotatedRelationshipElement.new.out) (codes "globalAssetId")))

pub returns-in-Entity : goal.returns-in-Entity
returns-in-Entity g c =
    put_own c.args.payload.now (codes "first" ∷ codes "globalAssetId" ∷ []) c.in-Entity.is
    (fields_both (put_none c.args.pen (g.O.TextEnd.told c.args.out.now) (codes "first"))
    c.put_optional-in-Entity.ensures)

pub returns-in_default : goal.returns-in_default
returns-in_default g c =
    put_lacking c.args.pen (g.O.TextEnd.told c.args.out.now)
    (own_fields c.args.payload.now (codes "first" ∷ codes "globalAssetId" ∷ []))
    (codes "first" ∷ codes "globalAssetId" ∷ [])
    (no_first c.args.payload.now c.in_default.not-RelationshipElement
    c.in_default.not-AnnotatedRelationshipElement c.in_default.not-Entity)
