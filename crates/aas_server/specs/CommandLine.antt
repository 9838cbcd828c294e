-- The words of the command line: which commands there are, what a run of each does,
-- and how it may end. This profile's own rule.
use Rattle.std.specs.Prelude.{◌≡◌, ◌≤◌, ℕ, List, [], ◌∷◌, ◌==◌, Bool, false, codes, decimal, Option, Some, None, IfSome}
use Rattle.std.specs.Prelude.{Contains}
use Rattle.std.specs.List.{list_any}
use Rattle.aas_outside.specs.Link.{LinkState}
use Rattle.aas_outside_disk.specs.Disk.{DiskState, IsLater}
use Rattle.aas_server.specs.declared.command_line.CommandLine.{CommandLine}
use Rattle.aas_server.specs.declared.command_line.CommandLine.TheVariants.{Value, Init, Pipe, Serve, Check, Export}
use Rattle.aas_server.specs.declared.command_line.CommandLine.TheVariants.{Import, Demo, Checkpoint, Conform}
use Rattle.aas_environment.specs.Environments.{export_text}
use Rattle.aas_server.specs.Answer.{Says, done, exported, not_a_command}
use Rattle.aas_server.specs.CheckText.{check_text}
use Rattle.aas_server.specs.Checkpointing.{Checkpoints}
use Rattle.aas_server.specs.Conforming.{IsConformAnswer}
use Rattle.aas_server.specs.Importing.{ImportsDemo, ImportsInput}
use Rattle.aas_server.specs.Init.{Inits}
use Rattle.aas_server.specs.Pipe.{Pipes}
use Rattle.aas_server.specs.Serve.{Serves}
use Rattle.aas_server.specs.Telling.{Tells}
use Rattle.aas_server.specs.ValueAnswer.{IsValueAnswer}

-- ---- the commands

-- so many can be asked for, where that is the most
abbrev pub IsCount : ℕ → ℕ → Type 0
IsCount most count = (1 ≤ count) × (count ≤ most)

abbrev pub most_clients : ℕ
most_clients = 1000000

-- of the demo
abbrev pub most_properties : ℕ
most_properties = 65536

-- the words of each command
abbrev pub AreWordsOf : CommandLine → List (List ℕ) → Type 0
AreWordsOf Value words = words ≡ codes "value" ∷ []
AreWordsOf Init words = words ≡ codes "init" ∷ []
AreWordsOf Pipe words = words ≡ codes "pipe" ∷ []
AreWordsOf Check words = words ≡ codes "check" ∷ []
AreWordsOf Export words = words ≡ codes "export" ∷ []
AreWordsOf Import words = words ≡ codes "import" ∷ []
AreWordsOf Checkpoint words = words ≡ codes "checkpoint" ∷ []
AreWordsOf (Conform template instance) words = words ≡ codes "conform" ∷ template.now ∷ instance.now ∷ []
AreWordsOf (Demo count) words = IsCount most_properties count × (words ≡ codes "demo" ∷ decimal count ∷ [])
AreWordsOf (Serve count) words =
    IsCount most_clients count × ((address : List ℕ) × (words ≡ codes "serve" ∷ address ∷ decimal count ∷ []))

-- What a run of each command, or of no command, does: its status, and the console, the wire and the disk before and
-- after it, of which the disk is seen so.
abbrev pub Does : {D : Type 0}
    → (D → DiskState) → Option CommandLine → ℕ → LinkState → LinkState → LinkState → LinkState → D → D → Type 0
Does view None status old new wire_old wire_new disk_old disk_new =
    Says (λ answer. answer ≡ not_a_command) status old new × (wire_new ≡ wire_old) × (disk_new ≡ disk_old)
Does view (Some Value) status old new wire_old wire_new disk_old disk_new =
    Says (λ answer. IfSome old.left (λ input. IsValueAnswer input answer)) status old new
    × (wire_new ≡ wire_old) × (disk_new ≡ disk_old)
Does view (Some Init) status old new wire_old wire_new disk_old disk_new =
    Inits status old new (view disk_old) (view disk_new) × (wire_new ≡ wire_old)
Does view (Some Pipe) status old new wire_old wire_new disk_old disk_new =
    Pipes status old new (view disk_old) (view disk_new) × (wire_new ≡ wire_old)
Does view (Some Check) status old new wire_old wire_new disk_old disk_new =
    Tells (λ d answer. answer ≡ done (check_text d)) status old new (view disk_old) (view disk_new)
    × (wire_new ≡ wire_old)
Does view (Some Export) status old new wire_old wire_new disk_old disk_new =
    Tells (λ d answer. answer ≡ exported (export_text d)) status old new (view disk_old) (view disk_new)
    × (wire_new ≡ wire_old)
Does view (Some Import) status old new wire_old wire_new disk_old disk_new =
    ImportsInput status old new (view disk_old) (view disk_new) × (wire_new ≡ wire_old)
Does view (Some (Demo count)) status old new wire_old wire_new disk_old disk_new =
    ImportsDemo count status old new (view disk_old) (view disk_new) × (wire_new ≡ wire_old)
Does view (Some Checkpoint) status old new wire_old wire_new disk_old disk_new =
    Checkpoints status old new (view disk_old) (view disk_new) × (wire_new ≡ wire_old)
Does view (Some (Conform template instance)) status old new wire_old wire_new disk_old disk_new =
    Tells (IsConformAnswer template.now instance.now) status old new (view disk_old) (view disk_new)
    × (wire_new ≡ wire_old)
Does view (Some (Serve count)) status old new wire_old wire_new disk_old disk_new =
    Serves count status old new wire_old wire_new (view disk_old) (view disk_new)

-- the statuses with which a run of each command, or of no command, may end
abbrev pub statuses_of : Option CommandLine → List ℕ
statuses_of None = 2 ∷ 3 ∷ []
statuses_of (Some Value) = 0 ∷ 3 ∷ 7 ∷ 10 ∷ []
statuses_of (Some Init) = 0 ∷ 3 ∷ 4 ∷ 8 ∷ []
statuses_of (Some Pipe) = 0 ∷ 3 ∷ 4 ∷ 5 ∷ 6 ∷ 10 ∷ []
statuses_of (Some Check) = 0 ∷ 3 ∷ 4 ∷ 5 ∷ 6 ∷ 10 ∷ []
statuses_of (Some Export) = 0 ∷ 3 ∷ 4 ∷ 5 ∷ 6 ∷ 10 ∷ 11 ∷ []
statuses_of (Some Import) = 0 ∷ 3 ∷ 4 ∷ 5 ∷ 6 ∷ 7 ∷ 9 ∷ 10 ∷ []
statuses_of (Some (Demo count)) = 0 ∷ 3 ∷ 4 ∷ 5 ∷ 6 ∷ 9 ∷ 10 ∷ []
statuses_of (Some Checkpoint) = 0 ∷ 3 ∷ 4 ∷ 5 ∷ 6 ∷ 9 ∷ 10 ∷ []
statuses_of (Some (Conform template instance)) = 0 ∷ 3 ∷ 4 ∷ 5 ∷ 6 ∷ 10 ∷ 7 ∷ []
statuses_of (Some (Serve count)) = 0 ∷ 3 ∷ 4 ∷ 5 ∷ 6 ∷ 10 ∷ []

-- ---- the words as a whole

abbrev pub begins_with_dash : List ℕ → Bool
begins_with_dash [] = false
begins_with_dash (c ∷ rest) = c == 45

-- they are the words of the command, and none of them begins with -
abbrev pub Asks : List (List ℕ) → CommandLine → Type 0
Asks words command = AreWordsOf command words × (list_any begins_with_dash words ≡ false)

-- the command that the words ask for, or none where they ask for none
abbrev pub IsAsked : List (List ℕ) → Option CommandLine → Type 0
IsAsked words (Some command) = Asks words command
IsAsked words None = (command : CommandLine) → ¬ Asks words command

-- P of the command that the words ask for
abbrev pub ForAsked : List (List ℕ) → (Option CommandLine → Type 0) → Type 0
ForAsked words P = (asked : Option CommandLine) × IsAsked words asked × P asked

-- What a run with these words does on a console, a wire and a disk, of which the disk is seen so. The disk's time goes
-- on, what a stop may have left before stays, and its count of faults never falls.
pub record IsRun {D : Type 0} (view : D → DiskState) (words : List (List ℕ)) (status : ℕ)
    (old new wire_old wire_new : LinkState) (disk_old disk_new : D) : Type 0 where
  pub does : ForAsked words (λ asked. Does view asked status old new wire_old wire_new disk_old disk_new)
  pub statuses : ForAsked words (λ asked. Contains (statuses_of asked) status)
  pub later : IsLater (view disk_old) (view disk_new)
