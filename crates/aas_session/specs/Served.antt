-- What a connection did, by the way in which it ended.
use Rattle.std.specs.Prelude.{◌≡◌, ◌⊎◌, ℕ, List, [], ◌∷◌, ◌++◌, Option, Some}
use Rattle.std.specs.Io.KnownBytes.{append_known}
use Rattle.aas_http.specs.FirstRequest.{Message, Whole, IsFirstRequest}
use Rattle.aas_outside.specs.Faults.{Rose}
use Rattle.aas_outside.specs.Link.{GivesFront, LinkState}
use Rattle.aas_http.specs.declared.replies.Reply.{Reply}
use Rattle.aas_session.specs.Refusals.{storage_fault}
use Rattle.aas_rule.specs.Rule.{Repository, Outcome, HasCommand}
use Rattle.aas_session.specs.declared.connection.Ended.{Ended}
use Rattle.aas_session.specs.declared.connection.Ended.TheVariants as ended
use Rattle.aas_session.specs.Session.{HttpRule, End, Closed, NoMemory, Place, going, start, repository, Turn, TakesAll}
use Rattle.aas_session.specs.Session.{replies, commands, IsSession}
use Rattle.aas_rule.specs.State.{State, Holds, IsFaulted}
use Rattle.aas_session.specs.Steps.{GivesUnless}

-- Of some turns the replies were given, all but the last one whole, and of the last a front.
abbrev pub GivesTurns : Option (List ℕ) → Option (List ℕ) → List Turn → Type 0
GivesTurns old new turns =
    ((turns ≡ []) × (new ≡ old))
    ⊎ ((first : List Turn) × (last : Turn) × (turns ≡ first ++ last ∷ [])
    × GivesFront (append_known old (replies first)) new last.reply)

-- The session on the input went to this end, and all its replies were given.
pub record IsFinished {D I : Type 0} (rule : HttpRule D)
    (stands_for : I → List (List ℕ) → Type 0) (old : Repository D) (input : List ℕ)
    (from : ℕ) (now : State D I) (sent_old sent_new : Option (List ℕ)) (end : End) : Type 0 where
  pub new : Repository D
  pub out : List ℕ
  pub session : IsSession rule old input new out end
  pub holds : Holds stands_for old.records (commands session.turns) new from now
  pub gives : sent_new ≡ append_known sent_old out

-- Some turns of the session on the input were taken, and then the link failed, or in the reply of the last.
pub record IsCut {D I : Type 0} (rule : HttpRule D)
    (stands_for : I → List (List ℕ) → Type 0) (old : Repository D) (input : List ℕ)
    (from : ℕ) (now : State D I) (sent_old sent_new : Option (List ℕ)) : Type 0 where
  pub turns : List Turn
  pub last : Place D
  pub taken : TakesAll rule (start old input) turns last
  pub holds : Holds stands_for old.records (commands turns) (repository last) from now
  pub gives : GivesTurns sent_old sent_new turns

-- Some turns of the session on the input were taken and their replies given, and the keeper failed over the command of
-- the next request. The documents are those of that request's outcome. Since a moment these payloads and the commands
-- of the turns were kept behind the records, and then that command or not. The reply is that of a storage fault, of
-- which a mere front was given only where the link failed too.
pub record IsBroken {D I : Type 0} (rule : HttpRule D) (stands_for : I → List (List ℕ) → Type 0)
    (records payloads : List (List ℕ)) (old : Repository D) (input : List ℕ)
    (from : ℕ) (now : State D I) (sent_old sent_new : Option (List ℕ)) (link_failed : Type 0) : Type 0 where
  pub turns : List Turn
  pub requests : ℕ
  pub so_far : Repository D
  pub bytes : List ℕ
  pub taken : TakesAll rule (start old input) turns (going requests so_far bytes)
  pub message : Message
  pub rest : List ℕ
  pub next : IsFirstRequest bytes (Whole message rest)
  pub outcome : Outcome D Reply
  pub comes : rule so_far message outcome
  pub command : HasCommand outcome
  pub faulted : IsFaulted stands_for records (payloads ++ commands turns) outcome.kept outcome.documents from now
  pub gives : GivesUnless link_failed (append_known sent_old (replies turns)) sent_new storage_fault

-- by the way in which the connection ended
abbrev pub Served : {D I : Type 0} → HttpRule D → (I → List (List ℕ) → Type 0) → Repository D → List ℕ → ℕ → State D I
    → Option (List ℕ) → Option (List ℕ) → Type 0 → Ended → Type 0
Served rule stands_for old input from now sent_old sent_new link_failed ended.Closed =
    IsFinished rule stands_for old input from now sent_old sent_new Closed
Served rule stands_for old input from now sent_old sent_new link_failed ended.NoMemory =
    IsFinished rule stands_for old input from now sent_old sent_new NoMemory
Served rule stands_for old input from now sent_old sent_new link_failed ended.LinkFault =
    IsCut rule stands_for old input from now sent_old sent_new
Served rule stands_for old input from now sent_old sent_new link_failed ended.KeeperFault =
    IsBroken rule stands_for old.records [] old input from now sent_old sent_new link_failed

-- the same of a link that tells its input
abbrev pub ServesLink : {D I : Type 0} → HttpRule D → (I → List (List ℕ) → Type 0) → Repository D → ℕ → State D I
    → LinkState → LinkState → Ended → Type 0
ServesLink rule stands_for r from now old new ended = (input : List ℕ) → old.left ≡ Some input
    → Served rule stands_for r input from now old.sent new.sent (Rose old.faults new.faults) ended
