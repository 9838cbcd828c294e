-- A session: what an abstract repository answers to the bytes of one connection, turn by turn. HTTP/1.1 (RFC 9112)
-- within the limits of this profile.
use Rattle.std.specs.Prelude.{◌≡◌, ◌⊎◌, ◌-◌, ◌==◌, ◌||◌, ℕ, Bool, List, [], ◌∷◌, if◌then◌else◌, flat_map}
use Rattle.aas_http.specs.FirstRequest.{Message, FirstRequest, Nothing, Bad, TooLarge, NotImplemented}
use Rattle.aas_http.specs.FirstRequest.{Whole, IsFirstRequest}
use Rattle.aas_http.specs.declared.replies.Reply.{Reply}
use Rattle.aas_http.specs.ReplyText.{reply_text}
use Rattle.aas_session.specs.Refusals.{bad_request, too_large, not_implemented, out_of_memory}
use Rattle.aas_rule.specs.Rule.{Repository, Outcome, Rule, after}

-- how a repository of such documents takes the requests of HTTP
abbrev pub HttpRule : Type 0 → Type 1
HttpRule D = Rule D Message Reply

-- the most requests of a connection
abbrev pub request_limit : ℕ
request_limit = 1000000

pub data End : Type 0 where
  Closed NoMemory : End

-- Where a session stands: so many requests may come, the repository is this, and these bytes are left; or it is over.
pub data Place (D : Type 0) : Type 0 where
  going : ℕ → Repository D → List ℕ → Place D
  over : Repository D → End → Place D

abbrev pub start : {D : Type 0} → Repository D → List ℕ → Place D
start repository bytes = going request_limit repository bytes

abbrev pub repository : {D : Type 0} → Place D → Repository D
repository (going requests r bytes) = r
repository (over r end) = r

-- what a turn gives, and the payloads that it keeps
pub record Turn : Type 0 where
  pub reply : List ℕ
  pub kept : List (List ℕ)

-- the turn of bytes that are refused, or of a request for which there is no memory
abbrev pub refusal : List ℕ → Turn
refusal text = record { reply = text; kept = [] }

-- the turn of a request that is answered
abbrev pub answered : {D : Type 0} → Outcome D Reply → Bool → Turn
answered outcome close = record { reply = reply_text (record outcome.reply { close = close }); kept = outcome.kept }

-- the connection closes behind a reply where the request asks for it, and at the last request
abbrev pub closes : ℕ → Message → Bool
closes requests message = message.close || (requests == 1)

-- behind the reply to a request the session is over, or it goes on with the rest of the bytes
abbrev pub behind : {D : Type 0} → ℕ → Message → Repository D → List ℕ → Place D
behind requests message r rest = if closes requests message then over r Closed else going (requests - 1) r rest

-- One turn, by what the bytes begin with: a refusal of the bytes,
-- an answer, or want of memory in the place of an answer.
abbrev pub TurnAt : {D : Type 0} → HttpRule D → ℕ → Repository D → FirstRequest → Turn → Place D → Type 0
TurnAt rule requests r Nothing turn next = ⊥
TurnAt rule requests r Bad turn next = (turn ≡ refusal bad_request) × (next ≡ over r Closed)
TurnAt rule requests r TooLarge turn next = (turn ≡ refusal too_large) × (next ≡ over r Closed)
TurnAt rule requests r NotImplemented turn next = (turn ≡ refusal not_implemented) × (next ≡ over r Closed)
TurnAt {D} rule requests r (Whole message rest) turn next =
    ((outcome : Outcome D Reply) × rule r message outcome
    × (turn ≡ answered outcome (closes requests message)) × (next ≡ behind requests message (after r outcome) rest))
    ⊎ ((turn ≡ refusal out_of_memory) × (next ≡ over r NoMemory))

-- a session that is over takes no turn
abbrev pub Takes : {D : Type 0} → HttpRule D → Place D → Turn → Place D → Type 0
Takes rule (over r end) turn next = ⊥
Takes rule (going requests r bytes) turn next =
    (first : FirstRequest) × IsFirstRequest bytes first × TurnAt rule requests r first turn next

-- turns one after another
abbrev pub TakesAll : {D : Type 0} → HttpRule D → Place D → List Turn → Place D → Type 0
TakesAll rule place [] last = last ≡ place
TakesAll {D} rule place (turn ∷ turns) last =
    (next : Place D) × Takes rule place turn next × TakesAll rule next turns last

-- the session ends here in this way: it is over, or nothing more comes
abbrev pub EndsAs : {D : Type 0} → Place D → End → Type 0
EndsAs (over r end) way = way ≡ end
EndsAs (going requests r bytes) way = IsFirstRequest bytes Nothing × (way ≡ Closed)

abbrev pub replies : List Turn → List ℕ
replies turns = flat_map (λ t. t.reply) turns

-- the payloads of the commands that were accepted
abbrev pub commands : List Turn → List (List ℕ)
commands turns = flat_map (λ t. t.kept) turns

-- The session on these bytes leaves the repository so, gives these bytes and ends so.
pub record IsSession {D : Type 0} (rule : HttpRule D) (old : Repository D)
    (bytes : List ℕ) (new : Repository D) (out : List ℕ) (end : End) : Type 0 where
  pub turns : List Turn
  pub last : Place D
  pub taken : TakesAll rule (start old bytes) turns last
  pub ends : EndsAs last end
  pub leaves : new ≡ repository last
  pub gives : out ≡ replies turns
