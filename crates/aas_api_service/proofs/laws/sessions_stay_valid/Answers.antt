use Rattle.aas_api_service.proofs.Sessions.{sessions_stay_valid}
use Rattle.aas_api_service.proofs.laws.sessions_stay_valid.Goals as goal

pub returns : goal.returns
returns c = sessions_stay_valid c.documents_stay_valid.ensures
