use Rattle.std.proofs.Common.{◌∷◌, [], codes}
use Rattle.aas_json_write_members.specs.Puts.{own_fields}
use Rattle.aas_json_write_members.proofs.Lacking.{no_second}
use Rattle.aas_json_write_members.proofs.Putting.{put_lacking, put_own}
use Rattle.aas_json_write_members.proofs.own.put_second.Goals as goal

pub returns-in-RelationshipElement : goal.returns-in-RelationshipElement
returns-in-RelationshipElement g c =
    put_own c.args.payload.now (codes "second" ∷ []) c.in-RelationshipElement.is c.put_optional.ensures

pub returns-in-AnnotatedRelationshipElement : goal.returns-in-AnnotatedRelationshipElement
returns-in-AnnotatedRelationshipElement g c =
    put_own c.args.payload.now
    (codes "second" ∷ []) c.in-AnnotatedRelationshipElement.is c.put_optional-in-AnnotatedRelationshipElement.ensures

pub returns-in_default : goal.returns-in_default
returns-in_default g c =
    put_lacking c.args.pen (g.O.TextEnd.told c.args.out.now)
    (own_fields c.args.payload.now (codes "second" ∷ [])) (codes "second" ∷ [])
    (no_second c.args.payload.now c.in_default.not-RelationshipElement c.in_default.not-AnnotatedRelationshipElement)
