use Rattle.aas_server.proofs.OneWay.{open_one_way}
use Rattle.aas_server.proofs.laws.files_open_one_way.Goals as goal

pub returns : goal.returns
returns c =
    open_one_way c.have_one_list.ensures c.have_one_condition.ensures
    c.payloads_stop_at_one_place.ensures c.payloads_replay_to_one_state.ensures
