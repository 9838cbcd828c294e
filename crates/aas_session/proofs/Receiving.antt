-- What a take gave.
use Rattle.std.proofs.Common.{◌≡◌, ℕ, ◌<◌, List, ◌++◌, length, take, Option}
use Rattle.std.proofs.lemmas.List.{length-take-le}
use Rattle.aas_outside.specs.Link.{TakesCount}
use Rattle.aas_session.specs.Intake.{ReceivesPiece}

pub receives_taken : (old new buf : List ℕ) (left_old left_new : Option (List ℕ)) (count : ℕ)
    → new ≡ old ++ take count buf → TakesCount left_old left_new buf count → 0 < length buf
    → ReceivesPiece count old new left_old left_new
receives_taken old new buf left_old left_new count is taken room = record {
  receives = record { piece = take count buf; unread = is; left = taken.front };
  size = length-take-le count buf taken.within;
  at_end = λ none. taken.at_end none room;
}
