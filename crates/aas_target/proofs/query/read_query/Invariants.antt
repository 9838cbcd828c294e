use Rattle.form_urlencoded.specs.Form.{raw_pairs}
use Rattle.form_urlencoded.specs.Parse.{raw_pairs_left}
use Rattle.aas_target.proofs.Queries.{Reaches}
use Rattle.aas_target.proofs.query.read_query.Given as goal

abbrev pub invariant-loop-name : goal.invariant-loop-name
invariant-loop-name l = Reaches l.listed (raw_pairs l.query) (raw_pairs_left l.name-iterator) l.given
