-- Laws of requests and sessions.
use Rattle.std.specs.Prelude.{◌≡◌, ℕ, List, Option, None, Some, Ok, true}
use Rattle.std.specs.List.{last_or}
use Rattle.aas_command.specs.Commands.{IsWellFormed, tagged_of}
use Rattle.aas_command.specs.declared.command.Command.{Command}
use Rattle.aas_command.specs.declared.refusal.Refusal.{Refusal}
use Rattle.aas_command.specs.declared.refusal.Refusal.TheVariants as refusal
use Rattle.aas_http.specs.FirstRequest.{Message}
use Rattle.aas_http.specs.ReplyText.{reply_text}
use Rattle.aas_http.specs.declared.replies.Reply.{Reply}
use Rattle.aas_rule.specs.Rule.{Repository, Room, Outcome}
use Rattle.aas_session.specs.Refusals as own
use Rattle.aas_session.specs.Session.{Place, Turn, TakesAll, repository, start}
use Rattle.aas_store.specs.Documents.{Documents}
use Rattle.aas_step.specs.Valid.{AreValid}
use Rattle.aas_api.specs.Asked.{IsAsked}
use Rattle.aas_api.specs.declared.ask.Ask.{Ask}
use Rattle.aas_api.specs.declared.ask.Metadata.{Metadata}
use Rattle.aas_api_service.specs.Described.{IsDescribed}
use Rattle.aas_api_service.specs.Replies.{refusal_reply}
use Rattle.aas_api_service.specs.Turns.{Turns, success_reply}
use Rattle.aas_api_service.specs.WellFormed.{IsWellFormedAsk, IsWellFormedMetadata}

-- where documents are valid, a request comes to one thing alone
abbrev pub OneOutcome : Type 0
OneOutcome =
    (room : Room) (r : Repository Documents) (m : Message) (x y : Outcome Documents Reply)
    → AreValid r.documents → Turns room r m x
    → Turns room r m y → x ≡ y

-- the command or the metadata that a request asks for is well formed
abbrev pub AsksWellFormed : Type 0
AsksWellFormed = (m : Message) (through : Option (List ℕ)) (ask : Ask)
    → IsAsked m (Ok (record { through = through; ask = ask })) → IsWellFormedAsk ask

-- in valid documents metadata that is well formed is put by a command that is
abbrev pub DescribedIsWellFormed : Type 0
DescribedIsWellFormed = (d : Documents) (m : Metadata) (c : Command)
    → AreValid d → IsWellFormedMetadata m → IsDescribed d m (Ok c) → IsWellFormed c

-- the turns of a session leave every constraint true
abbrev pub SessionsStayValid : Type 0
SessionsStayValid =
    (room : Room) (old : Repository Documents) (bytes : List ℕ) (turns : List Turn) (last : Place Documents)
    → TakesAll (Turns room) (start old bytes) turns last → AreValid old.documents → AreValid (repository last).documents

-- the reply of a refusal behind which the connection closes
abbrev pub closing_reply : Refusal → List ℕ
closing_reply r = reply_text (record (refusal_reply r) { close = true })

-- what a connection replies by itself is what is answered to these refusals
pub record OwnRepliesAreOfRefusals : Type 0 where
  pub out_of_memory : own.out_of_memory ≡ closing_reply refusal.NoMemory
  pub bad_request : own.bad_request ≡ closing_reply refusal.BadRequest
  pub too_large : own.too_large ≡ closing_reply refusal.TooLarge
  pub not_implemented : own.not_implemented ≡ closing_reply refusal.NotImplemented
  pub storage_fault : own.storage_fault ≡ closing_reply refusal.StorageFault

-- What a command creates is kept by the very text that is replied: it is the last field of the payload.
abbrev pub RepliesAreKept : Type 0
RepliesAreKept = (c : Command) → (success_reply c).status ≡ 201
    → last_or None (tagged_of c).fields ≡ Some (success_reply c).body
