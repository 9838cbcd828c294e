use Rattle.std.proofs.Common.{◌∷◌, [], codes}
use Rattle.aas_json_write_members.specs.Puts.{own_fields}
use Rattle.aas_json_write_members.proofs.Lacking.{no_before_model_type}
use Rattle.aas_json_write_members.proofs.Putting.{fields_both, put_lacking, put_none, put_own}
use Rattle.aas_json_write_members.proofs.own.put_before_model_type.Goals as goal

pub returns-in-BasicEventElement : goal.returns-in-BasicEventElement
returns-in-BasicEventElement g c =
    put_own c.args.payload.now
    (codes "lastUpdate" ∷ codes "max" ∷ codes "maxInterval" ∷ codes "messageBroker"
    ∷ codes "messageTopic" ∷ codes "min" ∷ codes "minInterval" ∷ [])
    c.in-BasicEventElement.is
    (fields_both (fields_both (fields_both (fields_both (fields_both (fields_both c.put_optional-updated.ensures
    (put_none c.put_optional-updated.result (g.O.TextEnd.told c.put_optional-updated.new.out) (codes "max")))
    c.put_optional-longest.ensures)
    c.put_optional-broker.ensures)
    c.put_optional-topic.ensures)
    (put_none c.put_optional-topic.result (g.O.TextEnd.told c.put_optional-topic.new.out) (codes "min")))
    c.put_optional.ensures)

pub returns-in-Range : goal.returns-in-Range
returns-in-Range g c =
    put_own c.args.payload.now
    (codes "lastUpdate" ∷ codes "max" ∷ codes "maxInterval" ∷ codes "messageBroker"
    ∷ codes "messageTopic" ∷ codes "min" ∷ codes "minInterval" ∷ [])
    c.in-Range.is (fields_both (fields_both (fields_both (fields_both (fields_both (fields_both
    (put_none c.args.pen (g.O.TextEnd.told c.args.out.now) (codes "lastUpdate")) c.put_optional-upper.ensures)
    (put_none c.put_optional-upper.result (g.O.TextEnd.told c.put_optional-upper.new.out) (codes "maxInterval")))
    (put_none c.put_optional-upper.result (g.O.TextEnd.told c.put_optional-upper.new.out) (codes "messageBroker")))
    (put_none c.put_optional-upper.result (g.O.TextEnd.told c.put_optional-upper.new.out) (codes "messageTopic")))
    c.put_optional-in-Range.ensures)
    (put_none c.put_optional-in-Range.result (g.O.TextEnd.told c.put_optional-in-Range.new.out) (codes "minInterval")))

pub returns-in_default : goal.returns-in_default
returns-in_default g c =
    put_lacking c.args.pen (g.O.TextEnd.told c.args.out.now)
    (own_fields c.args.payload.now (codes "lastUpdate" ∷ codes "max" ∷ codes "maxInterval"
    ∷ codes "messageBroker" ∷ codes "messageTopic" ∷ codes "min" ∷ codes "minInterval" ∷ []))
    (codes "lastUpdate" ∷ codes "max" ∷ codes "maxInterval" ∷ codes "messageBroker"
    ∷ codes "messageTopic" ∷ codes "min" ∷ codes "minInterval" ∷ [])
    (no_before_model_type c.args.payload.now c.in_default.not-BasicEventElement c.in_default.not-Range)
