-- What was opened on a disk is the repository that its files open as.
use Rattle.std.proofs.Common.{◌≡◌, ℕ, List, Option, subst}
use Rattle.std.specs.Prelude.{IfSome}
use Rattle.std.proofs.lemmas.Option.{IfSome_then}
use Rattle.aas_outside_disk.specs.Disk.{DiskState}
use Rattle.aas_journal.specs.Bank.{IsBankImage}
use Rattle.aas_journal.specs.Laws.{HaveOneList}
use Rattle.aas_outside_disk.specs.Files.{Files}
use Rattle.aas_repo_replay.specs.Laws.{OneReplay}
use Rattle.aas_rule.specs.Rule.{Repository}
use Rattle.aas_rule.specs.State.{State, IsSettledState, repository_of}
use Rattle.aas_store.specs.Documents.{Documents}
use Rattle.aas_server.specs.Opening.{HasBegun, Opens, OpensAs, begun}
use Rattle.aas_server.proofs.OneWay.{same_repository}

-- the files open as the repository of this state, which is settled
abbrev pub IsOpened : State Documents Files → Files → Type 0
IsOpened state files = (payloads : List (List ℕ)) × Opens files (begun (repository_of state payloads))
    × IsSettledState IsBankImage state payloads

pub has_begun : (start : DiskState) (state : State Documents Files)
    → IfSome start.seen (IsOpened state) → HasBegun start
has_begun start state opened = IfSome_then start.seen opened (λ files is. (repository_of state is.0, is.1))

module _ (one_list : HaveOneList) (one_replay : OneReplay) (start : DiskState) (opened : State Documents Files)
    (is_opened : IfSome start.seen (IsOpened opened)) (r : Repository Documents) (opens : OpensAs start r) where
  abbrev pub here : IsOpened opened opens.0
  here = subst (λ (seen : Option Files). IfSome seen (IsOpened opened)) opens.1 is_opened

  pub same : repository_of opened here.0 ≡ r
  same = same_repository one_list one_replay opens.0 (repository_of opened here.0) r here.1 opens.2
