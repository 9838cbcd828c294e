use Rattle.std.proofs.Common.{◌≡◌, inl, inr, ◌∙◌, ap, sym, subst, arith, ℕ, List, Option, Err}
use Rattle.std.proofs.lemmas.Result.{on_err_weaker}
use Rattle.std.specs.Io.KnownBytes.{append_known}
use Rattle.aas_http.specs.declared.replies.Reply.{Reply}
use Rattle.aas_http.specs.ReplyText.{reply_text}
use Rattle.aas_out.specs.Held.{held_by}
use Rattle.aas_outside.specs.Faults.{Rose}
use Rattle.aas_session.specs.Refusals.{out_of_memory, storage_fault}
use Rattle.aas_session.specs.Steps.{GivesUnless}
use Rattle.aas_session.proofs.Fronts.{front_given}
use Rattle.aas_session.proofs.Giving.{gives_unless, unchanged, given_unless_safe, stops_in, stops_behind, stops_within}
use Rattle.aas_session.proofs.connection.serve_one.Goals as goal

pub returns-in-Err-clause-served : goal.returns-in-Err-clause-served
returns-in-Err-clause-served g c = λ records settled.
    let sent = λ (l : g.row.L.Denot). (g.L.Link.state l).sent in
    let old = c.args.out.now in
    let new = c.give_before.new.out in
    inl (
      unchanged (g.M.Machine.state c.args.machine.now).held,
      front_given (sent old.link.now) (sent new.link.now) (held_by new)
          (held_by old) c.in-Err.ensures.put c.in-Err.ensures.given,
    )

pub returns-in-Ok-pour-clause-served : goal.returns-in-Ok-pour-clause-served
returns-in-Ok-pour-clause-served g c = λ records settled.
    let M = g.M.Machine in let sent = λ (l : g.row.L.Denot). (g.L.Link.state l).sent in
    let old = c.args.out.now in
    let mid = c.give_before.new.out in
    let new = c.pour.new.out in
    let answer = c.in-Ok-answer.ensures.answered records settled in
    let text : Reply → List ℕ = λ r. reply_text (record r { close = c.args.close }) in
    let all : append_known (sent new.link.now) (held_by new)
    ≡ append_known (append_known (sent mid.link.now) (held_by mid)) (text answer.0.reply) =
    c.in-Ok-pour.ensures.sent
    ∙ ap (λ (r : Reply). append_known (append_known (sent mid.link.now) (held_by mid)) (text r)) answer.2 in (
      answer.0,
      answer.1,
      answer.3,
      all
          ∙ ap (λ (k : Option (List ℕ)). append_known k (text answer.0.reply))
          {x = append_known (sent mid.link.now) (held_by mid)} c.give_before.ensures.put,
      stops_behind sent (M.state c.args.machine.now).held (M.state c.answer.new.self).held old mid
          c.in-Ok.ensures.empty c.answer.ensures.safe c.give_before.ensures.put c.give_before.ensures.given
          new (text answer.0.reply) c.in-Ok-pour.ensures.gone all,
    )

pub returns-in-Ok-answer-clause-served : goal.returns-in-Ok-answer-clause-served
returns-in-Ok-answer-clause-served g c = λ records settled.
    let M = g.M.Machine in
    let answer = c.in-Ok-answer.ensures.answered records settled in
    let text : Reply → List ℕ = λ r. reply_text (record r { close = c.args.close }) in
    let put = c.in-Err-pour.ensures in
    inr (inl (
      answer.0,
      answer.1,
      answer.3,
      stops_within (λ (l : g.row.L.Denot). (g.L.Link.state l).sent) (M.state c.args.machine.now).held
          (M.state c.answer.new.self).held c.args.out.now c.give_before.new.out c.in-Ok.ensures.empty c.answer.ensures.safe
          c.give_before.ensures.put c.give_before.ensures.given c.pour.new.out
          (text answer.0.reply) put.wrote.gone put.front put.rest (ap text (sym answer.2) ∙ put.parts) put.wrote.sent,
    ))

pub returns-in-Err-NoMemory-clause-served : goal.returns-in-Err-NoMemory-clause-served
returns-in-Err-NoMemory-clause-served g c = λ records settled.
    let M = g.M.Machine in
    inr (inr (
      rw c.in-Err-NoMemory.field-0-is at c.in-Err-NoMemory.ensures.answered records settled,
      stops_in (λ (l : g.row.L.Denot). (g.L.Link.state l).sent) (M.state c.args.machine.now).held
          (M.state c.answer.new.self).held c.args.out.now c.give_before.new.out c.in-Ok.ensures.empty c.answer.ensures.safe
          c.give_before.ensures.put c.give_before.ensures.given out_of_memory
          (g.L.Link.state c.give_last.new.out.link.now).sent
          (rw (← c.out_of_memory.ensures) c.in-Err-give_last.ensures.front),
    ))

pub returns-clause-served : goal.returns-clause-served
returns-clause-served g c = λ records settled.
    let sent = λ (l : g.row.L.Denot). (g.L.Link.state l).sent in let faults = λ (l : g.row.L.Denot). (g.L.Link.state l).faults in
    let old = c.args.out.now in
    let mid = c.give_before.new.out in
    let new = c.give_all-given.new.link in
    let faulted = rw c.in-Err-StorageFault.field-0-is at c.in-Err-StorageFault.ensures.answered records settled in
    let safe = c.in-Err-StorageFault.ensures.safe in
    let given : sent mid.link.now ≡ append_known (sent old.link.now) (held_by old) =
    given_unless_safe sent (g.M.Machine.state c.args.machine.now).held
    (g.M.Machine.state c.answer.new.self).held old mid c.in-Ok.ensures.empty safe
    c.give_before.ensures.put c.give_before.ensures.given (λ s.
    (safe s).1 (ap (λ e. Err e) c.in-Err-StorageFault.field-0-is)) in
    let e = c.give_all-given.ensures in
    let F = Rose (faults old.link.now) (faults new) in
    let failed = on_err_weaker c.give_all-given.result
    (λ rose. let since : F = omega (arith, rose, c.give_before.ensures.call.cause.later) in since) e.call.cause.failed in (
      faulted.0,
      faulted.1,
      faulted.2,
      faulted.3,
      subst (λ (k : Option (List ℕ)). GivesUnless F k (sent new) storage_fault) given
          (rw (← c.storage_fault.ensures) (gives_unless c.give_all-given.result F
          (sent mid.link.now) (sent new) c.storage_fault.result.now e.given e.front failed)),
    )
