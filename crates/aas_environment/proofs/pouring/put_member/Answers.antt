use Rattle.std.proofs.Common.{sym, ◌∙◌}
use Rattle.aas_environment.proofs.Poured.{a_member, no_member}
use Rattle.aas_environment.proofs.Written.{from_now, still}
use Rattle.aas_environment.proofs.pouring.put_member.Goals as goal

pub returns-then-count-eq0-clause-text : goal.returns-then-count-eq0-clause-text
returns-then-count-eq0-clause-text g c =
    no_member c.args.pen.later c.args.collection (g.S.Store.documents c.args.store.now) c.args.pen.state
    (g.O.TextEnd.told c.args.out.now) (sym c.count.ensures ∙ c.if-count-eq0.true)

pub returns-then-count-eq0-clause-later : goal.returns-then-count-eq0-clause-later
returns-then-count-eq0-clause-later g c =
    still c.args.pen.later c.args.collection (g.S.Store.documents c.args.store.now)
    (sym c.count.ensures ∙ c.if-count-eq0.true)

pub returns-clause-text : goal.returns-clause-text
returns-clause-text g c =
    a_member c.args.pen.later c.args.collection (g.S.Store.documents c.args.store.now) c.comma_of.result.now
    c.args.pen.state c.add_text-comma.result c.put_name-named.result c.pour_documents.result
    (g.O.TextEnd.told c.args.out.now) (g.O.TextEnd.told c.add_text-comma.new.out)
    (g.O.TextEnd.told c.put_name-named.new.out) (g.O.TextEnd.told c.pour_documents.new.out)
    (λ none. c.if-count-eq0.false (c.count.ensures ∙ none)) c.comma_of.ensures
    c.add_text-comma.ensures c.put_name-named.ensures c.pour_documents.ensures

pub returns-clause-later : goal.returns-clause-later
returns-clause-later g c =
    from_now c.args.pen.later c.args.collection (g.S.Store.documents c.args.store.now) (λ none.
    c.if-count-eq0.false (c.count.ensures ∙ none))
