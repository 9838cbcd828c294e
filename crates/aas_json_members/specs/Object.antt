-- What an object stands for.
use Rattle.serde_json.specs.Data.{Members}
use Rattle.serde_json.specs.View.{members_view}
use Rattle.aas_json_members.specs.declared.object.Object.{Object}

abbrev pub members_of : Object → Members
members_of o = members_view o.members.entries
