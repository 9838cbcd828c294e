use Rattle.aas_api_service.proofs.PutMetadata.{updates_put_metadata}
use Rattle.aas_api_service.proofs.laws.updates_put_metadata.Goals as goal

pub returns : goal.returns
returns c =
    updates_put_metadata c.segments_stand_for_one.ensures c.queries_say_one.ensures
    c.metadata_is_put.ensures c.values_stay.ensures c.only_metadata_changes.ensures
    c.inserted_elements_have_the_faults.ensures.unnamed
