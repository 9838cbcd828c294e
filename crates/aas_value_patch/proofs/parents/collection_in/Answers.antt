use Rattle.std.proofs.Common.{map}
use Rattle.serde_json.specs.Data.{object}
use Rattle.serde_json.specs.View.{members_view}
use Rattle.aas_model.specs.declared.payload.Payload.TheVariants as p
use Rattle.aas_value_update.specs.Forms.{part_of}
use Rattle.aas_value_patch.proofs.Attributes.{refused, collection_takes}
use Rattle.aas_value_patch.proofs.parents.collection_in.Goals as goal

pub returns-in_err-kids : goal.returns-in_err-kids
returns-in_err-kids c = λ differ order.
    let ms = members_view c.args.members.now.entries in
    refused c.from_residual.result c.in_err-kids.field-0.0 p.SubmodelElementCollection
    (map part_of c.args.kids.now) (object ms) _ c.from_residual.ensures.0
    c.from_residual.ensures.1 (c.in_err-kids.ensures.fit differ order) (λ e. e)

pub returns : goal.returns
returns c = λ differ order.
    record {
      fits = c.in_ok-kids.ensures.fit differ order;
      takes = collection_takes (members_view c.args.members.now.entries);
      kids = c.in_ok-kids.ensures.sent _;
    }
