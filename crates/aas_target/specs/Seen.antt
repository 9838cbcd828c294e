-- What the program's own table and what it finds stand for.
use Rattle.std.specs.Prelude.{option_map}
use Rattle.aas_target.specs.Routes as routes
use Rattle.aas_target.specs.declared.found.Found.{Found}
use Rattle.aas_target.specs.declared.found.Texts.{Texts}
use Rattle.aas_target.specs.declared.routes.Segment.{Segment}
use Rattle.aas_target.specs.declared.routes.Segment.TheVariants as segments

abbrev pub segment_of : Segment → routes.Segment
segment_of segments.Shells = routes.shells
segment_of segments.Submodels = routes.submodels
segment_of segments.Concepts = routes.concepts
segment_of segments.AssetInformation = routes.asset_information
segment_of segments.SubmodelRefs = routes.submodel_refs
segment_of segments.Elements = routes.elements
segment_of segments.Metadata = routes.metadata
segment_of segments.Value = routes.value
segment_of segments.Reference = routes.reference
segment_of segments.Paths = routes.paths
segment_of segments.Lookup = routes.lookup
segment_of segments.Serialization = routes.serialization
segment_of segments.Id = routes.id
segment_of segments.Submodel = routes.submodel
segment_of segments.Path = routes.path

abbrev pub texts_of : Texts → routes.Texts
texts_of t = record { id = t.id.now; submodel = t.submodel.now; path = t.path.now }

abbrev pub found_of : Found → routes.Found
found_of f = record { resource = f.resource; through = option_map (λ shell. shell.now) f.through; texts = texts_of f.texts }
