use Rattle.std.proofs.Common.{◌≡◌, ◌∙◌, refl, ap, inr, arith, rules}
use Rattle.std.specs.Io.KnownBytes.{append_known}
use Rattle.aas_server.specs.Answer.{done, refused}
use Rattle.aas_server.specs.Status.{exit_code}
use Rattle.aas_server.proofs.Given.{done_status, front_moved, refused_status, never_ten}
use Rattle.aas_server.proofs.commands.value.Goals as goal

pub returns-in-Ok-clause-says : goal.returns-in-Ok-clause-says
returns-in-Ok-clause-says g c = record {
  given = λ not3 not10.
      let given = c.end_with.ensures.given not3 in
      let all : (g.C.Link.state c.end_with.new.link).sent ≡ append_known (g.C.Link.state c.args.console.now).sent c.in-Ok.text.items =
      cc (given.1, c.value_text.ensures.sent, c.deref.ensures.value) in
      (done c.in-Ok.text.items, c.in-Ok.ensures.done, given.0, all);
  front = λ is. inr (
    done c.in-Ok.text.items,
    c.in-Ok.ensures.done,
    front_moved _ _ _ _ _ c.value_text.ensures.sent c.deref.ensures.value (c.end_with.ensures.front is),
  );
  fault = λ is. omega (arith, c.value_text.ensures.later, c.end_with.ensures.gives.calls.rose is);
  memory = λ is. absurd (never_ten (exit_code c.end_with.result) c.end_with.ensures.statuses is);
}

pub returns-in-Err-Refused-clause-says : goal.returns-in-Err-Refused-clause-says
returns-in-Err-Refused-clause-says g c = record {
  given = λ not3 not10.
      let seven : exit_code c.end_refused.result ≡ 7 = search rules in
      let given = c.end_refused.ensures.given seven in
      let all : (g.C.Link.state c.end_refused.new.link).sent
      ≡ append_known (g.C.Link.state c.args.console.now).sent (refused c.in-Err-Refused.refusal).text =
      cc (given.1, c.value_text.ensures.sent) in (
        refused c.in-Err-Refused.refusal,
        (rw c.in-Err-Refused.field-0-is at c.in-Err-Refused.ensures.refused) given.0,
        seven,
        all,
      );
  front = λ is.
      let front = c.end_refused.ensures.front is in
      inr (
        refused c.in-Err-Refused.refusal,
        (rw c.in-Err-Refused.field-0-is at c.in-Err-Refused.ensures.refused) front.0,
        front_moved _ _ _ _ _ c.value_text.ensures.sent refl front.1,
      );
  fault = λ is. omega (arith, c.value_text.ensures.later, c.end_refused.ensures.gives.calls.rose is);
  memory = λ is. ap (λ (l : g.row.C.Denot). (g.C.Link.state l).sent) (c.end_refused.ensures.memory is) ∙ c.value_text.ensures.sent;
}

pub returns-in-Err-Refused-clause-statuses : goal.returns-in-Err-Refused-clause-statuses
returns-in-Err-Refused-clause-statuses g c =
    refused_status (exit_code c.end_refused.result) c.end_refused.ensures.statuses

pub returns-in-Ok-clause-statuses : goal.returns-in-Ok-clause-statuses
returns-in-Ok-clause-statuses g c = done_status (exit_code c.end_with.result) c.end_with.ensures.statuses
