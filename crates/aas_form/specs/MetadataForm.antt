-- The metadata form (IDTA-01002-3-0, content modifier Metadata): all but the values and the children.
pub use Rattle.aas_json_mapping.specs.Metadata.{metadata_form, submodel_metadata}
