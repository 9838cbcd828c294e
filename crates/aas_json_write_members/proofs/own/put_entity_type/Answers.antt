use Rattle.std.proofs.Common.{◌∷◌, [], codes}
use Rattle.aas_json_write_members.specs.Puts.{own_fields}
use Rattle.aas_json_write_members.proofs.Lacking.{no_entity_type}
use Rattle.aas_json_write_members.proofs.Putting.{put_lacking, put_own}
use Rattle.aas_json_write_members.proofs.own.put_entity_type.Goals as goal

pub returns-in-Entity : goal.returns-in-Entity
returns-in-Entity g c = put_own c.args.payload.now (codes "entityType" ∷ []) c.in-Entity.is c.put_optional_word.ensures

pub returns-in_default : goal.returns-in_default
returns-in_default g c =
    put_lacking c.args.pen (g.O.TextEnd.told c.args.out.now) (own_fields c.args.payload.now (codes "entityType" ∷ []))
    (codes "entityType" ∷ []) (no_entity_type c.args.payload.now c.in_default.not-Entity)
