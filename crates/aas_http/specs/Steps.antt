-- What the answer on a piece of the input says.
use Rattle.std.specs.Prelude.{◌≡◌, ◌≤◌, ◌<◌, ◌⊎◌, ℕ, List, ◌++◌, drop, length, Some, false}
use Rattle.httparse.specs.Grammar.{RequestHead, MayBecomeRequest}
use Rattle.aas_http.specs.BodyLength.{body_limit, body_length}
use Rattle.aas_http.specs.FirstRequest.{Message, Bad, TooLarge, NotImplemented, Whole, IsBlank, IsFirstRequest}
use Rattle.aas_http.specs.Head.{head_limit, Admits, AdmitsNone, fields_of}
use Rattle.aas_http.specs.NotImplemented.{is_not_implemented}
use Rattle.aas_http.specs.declared.request.Request.{Request}
use Rattle.aas_http.specs.declared.request.Step.{Step}
use Rattle.aas_http.specs.declared.request.Step.TheVariants as step

-- No admitted head is there, and the bytes are blank, end inside the target, or can go on as a head.
pub record AwaitsHead (bytes : List ℕ) : Type 0 where
  pub short : length bytes < head_limit
  pub none : AdmitsNone bytes
  pub may : IsBlank bytes ⊎ MayBecomeRequest bytes

-- The head is there, none of the refusals is met, and the body isn't whole.
pub record AwaitsBody (bytes : List ℕ) : Type 0 where
  pub head : RequestHead
  pub rest : List ℕ
  pub admits : Admits bytes head rest
  pub size : ℕ
  pub said : body_length (fields_of head) ≡ Some size
  pub within : size ≤ body_limit
  pub supported : is_not_implemented head.method (fields_of head) ≡ false
  pub short : length rest < size

abbrev pub message_of : Request → Message
message_of r = record { method = r.method.now; target = r.target.now; body = r.body.now; close = r.close }

-- Whatever bytes follow these, the first request is the one answered.
abbrev pub IsStep : List ℕ → Step → Type 0
IsStep bytes step.More = AwaitsHead bytes ⊎ AwaitsBody bytes
IsStep bytes step.Bad = (more : List ℕ) → IsFirstRequest (bytes ++ more) Bad
IsStep bytes step.TooLarge = (more : List ℕ) → IsFirstRequest (bytes ++ more) TooLarge
IsStep bytes step.NotImplemented = (more : List ℕ) → IsFirstRequest (bytes ++ more) NotImplemented
IsStep bytes (step.Request r n) = (n ≤ length bytes)
    × ((more : List ℕ) → IsFirstRequest (bytes ++ more) (Whole (message_of r) (drop n bytes ++ more)))
