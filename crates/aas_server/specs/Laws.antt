-- Laws of what files open as, and of what the records of sessions replay to.
use Rattle.std.specs.Prelude.{◌≡◌, ℕ, List}
use Rattle.aas_outside_disk.specs.Files.{Files}
use Rattle.aas_api_service.specs.Turns.{Turns}
use Rattle.aas_repo_replay.specs.Replay.{Replays}
use Rattle.aas_rule.specs.Rule.{Repository, Room}
use Rattle.aas_session.specs.Visits.{Visited, IsSessions}
use Rattle.aas_session.specs.Session.{Place, Turn, TakesAll, repository, start}
use Rattle.aas_store.specs.Documents.{Documents}
use Rattle.aas_server.specs.Opening.{Opened, Opens}

-- Files open as one thing at most.
abbrev pub OpenOneWay : Type 0
OpenOneWay = (files : Files) (a b : Opened) → Opens files a → Opens files b → a ≡ b

-- Where records replay to the documents of a repository, those that there are behind any visits that were served one
-- after another, whether or not their link failed, and behind any turns of the next one, replay to the documents then.
abbrev pub SessionsReplay : Type 0
SessionsReplay =
    (room : Room) (old mid : Repository Documents) (faults faults_mid : ℕ) (served : List (Visited Documents))
    (bytes : List ℕ) (turns : List Turn) (last : Place Documents)
    → IsSessions (Turns room) old faults served mid faults_mid → TakesAll (Turns room) (start mid bytes) turns last
    → Replays old.records old.documents → Replays (repository last).records (repository last).documents
