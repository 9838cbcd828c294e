-- Elements in memory, of which all is put: what stands at their stops.
use Rattle.std.specs.Prelude.{ℕ, true, List, ◌++◌, map, filter}
use Rattle.serde_json.specs.Written.{compact_text}
use Rattle.aas_json_mapping.specs.Elements.{spell_element}
use Rattle.aas_model.specs.declared.element.Element.{Element, out-Element}
use Rattle.aas_json_write_members.specs.Members.{opening, closing, role_fits}
use Rattle.aas_json_write_members.specs.declared.members.Show.{Show}
use Rattle.aas_json_write_members.specs.declared.stops.Stop.{Stop}

-- all of an element that stands at the level 0 is shown
abbrev pub all_shown : Show
all_shown = record { cut = 1; blobs = true }

-- a child as it stands at a stop
abbrev pub child_text : Stop → Element → List ℕ
child_text s e = opening s ++ (compact_text (spell_element e) ++ closing s)

-- the children that stand at a stop
abbrev pub texts_at : Stop → List Element → List (List ℕ)
texts_at s es = map (child_text s) (filter (λ e. role_fits s (out-Element e).role) es)
