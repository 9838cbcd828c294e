-- What is sent for children, as a walk along them has it in hand.
use Rattle.std.specs.Prelude.{List, Option}
use Rattle.serde_json.specs.Data.{Data, object}
use Rattle.serde_json.specs.View.{items_view, members_view}
use Rattle.aas_value.specs.Children.{Child}
use Rattle.aas_value_update.specs.Shape.{by_names, in_turn, by_entries, nothing_sent}
use Rattle.aas_value_patch.specs.declared.sent.Sent.{Sent}
use Rattle.aas_value_patch.specs.declared.sent.Sent.TheVariants as s

abbrev pub sent_by : Sent → List Child → List (Option Data)
sent_by s.Nothing cs = nothing_sent cs
sent_by (s.Members ms) cs = by_names cs (object (members_view ms.now.entries))
sent_by (s.InTurn vs) cs = in_turn cs (items_view vs.now)
sent_by (s.Entries vs) cs = by_entries cs (items_view vs.now)
