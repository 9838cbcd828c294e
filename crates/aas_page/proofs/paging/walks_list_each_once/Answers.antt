use Rattle.aas_page.proofs.Walked.{lists_each_once}
use Rattle.aas_page.proofs.paging.walks_list_each_once.Goals as goal

pub returns : goal.returns
returns g c = lists_each_once _
