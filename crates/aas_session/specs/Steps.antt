-- One step of a connection: a request served, or bytes refused.
use Rattle.std.specs.Prelude.{◌≡◌, ◌⊎◌, ◌++◌, ℕ, Bool, List, [], Option, Result, Ok, Err}
use Rattle.std.specs.Io.KnownBytes.{append_known}
use Rattle.aas_http.specs.FirstRequest.{Message}
use Rattle.aas_outside.specs.Link.{GivesFront}
use Rattle.aas_http.specs.declared.replies.Reply.{Reply}
use Rattle.aas_http.specs.ReplyText.{reply_text}
use Rattle.aas_session.specs.Refusals.{storage_fault, out_of_memory}
use Rattle.aas_rule.specs.Rule.{Repository, Outcome, HasCommand, after}
use Rattle.aas_session.specs.declared.connection.Ended.{Ended}
use Rattle.aas_session.specs.declared.connection.Ended.TheVariants as ended
use Rattle.aas_session.specs.Safe.{IsUnchanged}
use Rattle.aas_session.specs.Session.{HttpRule}
use Rattle.aas_rule.specs.State.{State, Holds, IsFaulted}

-- the text was given whole, or where the link failed too a front of it
abbrev pub GivesUnless : Type 0 → Option (List ℕ) → Option (List ℕ) → List ℕ → Type 0
GivesUnless link_failed old new text = (new ≡ append_known old text) ⊎ (link_failed × GivesFront old new text)

-- Some bytes were given, others were held for the link, and a text was put behind them. The link stopped in those that
-- were held, and nothing has changed, or in the text.
abbrev pub StopsIn : {D I : Type 0}
    → State D I → State D I → Option (List ℕ) → List ℕ → List ℕ → Option (List ℕ) → Type 0
StopsIn before now given held text stopped =
    (IsUnchanged before now × GivesFront given stopped held) ⊎ GivesFront (append_known given held) stopped text

-- What a request and its reply did, by the way in which they ended the connection, if they did. The reply is put behind
-- what was held for the link before, and in what of both is still held the link may stop later.
abbrev pub ServesOne : {D I : Type 0}
    → HttpRule D → (I → List (List ℕ) → Type 0) → Repository D → Message → Bool → State D I → State D I
    → Option (List ℕ) → List ℕ → Option (List ℕ) → List ℕ → Type 0 → Result Unit Ended → Type 0
ServesOne {D} rule stands_for r message close before now given held given_new held_new link_failed (Ok u) =
    (outcome : Outcome D Reply) × rule r message outcome
    × Holds stands_for r.records outcome.kept (after r outcome) before.moment now
    × (append_known given_new held_new
    ≡ append_known (append_known given held) (reply_text (record outcome.reply { close = close })))
    × ((stopped : Option (List ℕ)) → GivesFront given_new stopped held_new
    → StopsIn before now given held (reply_text (record outcome.reply { close = close })) stopped)
ServesOne {D} rule stands_for r message close before now given held given_new held_new link_failed
    (Err ended.LinkFault) =
    (IsUnchanged before now × GivesFront given given_new held)
    ⊎ (((outcome : Outcome D Reply) × rule r message outcome
    × Holds stands_for r.records outcome.kept (after r outcome) before.moment now
    × StopsIn before now given held (reply_text (record outcome.reply { close = close })) given_new)
    ⊎ (Holds stands_for r.records [] r before.moment now × StopsIn before now given held out_of_memory given_new))
ServesOne rule stands_for r message close before now given held given_new held_new link_failed (Err ended.NoMemory) =
    Holds stands_for r.records [] r before.moment now
    × (given_new ≡ append_known (append_known given held) out_of_memory)
ServesOne {D} rule stands_for r message close before now given held given_new held_new link_failed
    (Err ended.KeeperFault) =
    (outcome : Outcome D Reply) × rule r message outcome × HasCommand outcome
    × IsFaulted stands_for r.records [] outcome.kept outcome.documents before.moment now
    × GivesUnless link_failed (append_known given held) given_new storage_fault
ServesOne rule stands_for r message close before now given held given_new held_new link_failed (Err ended.Closed) = ⊥

-- What was held and the text were given and the connection closed, or a front of them was given.
abbrev pub ClosesWith : List ℕ → Option (List ℕ) → List ℕ → Option (List ℕ) → Ended → Type 0
ClosesWith text given held given_new ended.Closed = given_new ≡ append_known given (held ++ text)
ClosesWith text given held given_new ended.LinkFault = GivesFront given given_new (held ++ text)
ClosesWith text given held given_new ended.KeeperFault = ⊥
ClosesWith text given held given_new ended.NoMemory = ⊥
