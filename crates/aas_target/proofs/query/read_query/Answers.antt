use Rattle.std.proofs.Common.{◌≡◌, Err, ap, rules}
use Rattle.form_urlencoded.specs.Form.{raw_pairs}
use Rattle.aas_target.specs.Query.{settings_of}
use Rattle.aas_target.specs.declared.query.QueryFault.TheVariants.{BadQuery}
use Rattle.aas_target.proofs.Queries.{ends, next, stops}
use Rattle.aas_target.proofs.query.read_query.Goals as goal

pub loop-name-preserved : goal.loop-name-preserved
loop-name-preserved c =
    next c.args.listed.now (raw_pairs c.args.query.now) _ _ (c.in-Some.name.now, c.in-Some.value.now) c.loop-name.given
    c.in-Some.ensures.steps c.loop-name.invariant c.take_pair.new.given c.in_ok-take_pair.ensures.ok

pub returns-in_err-take_pair-clause-bad : goal.returns-in_err-take_pair-clause-bad
unfolding settings_of
returns-in_err-take_pair-clause-bad c = λ p is.
    let result : c.from_residual.result ≡ Err c.in_err-take_pair.field-0.0 = search rules in
    let bad : c.in_err-take_pair.field-0.0 ≡ BadQuery p = cc in
    stops c.args.listed.now (raw_pairs c.args.query.now) _ _ (c.in-Some.name.now, c.in-Some.value.now) c.loop-name.given
    c.in-Some.ensures.steps c.loop-name.invariant p (c.in_err-take_pair.ensures.bad p (ap Err bad))

pub returns-clause-ok : goal.returns-clause-ok
unfolding settings_of
returns-clause-ok c =
    ends c.args.listed.now (raw_pairs c.args.query.now) _ c.loop-name.given c.in-None.ensures.steps.0
    c.loop-name.invariant
