-- Files open as one thing at most.
use Rattle.std.proofs.Common.{◌≡◌, inl, inr, ℕ, List, refl, sym, ap, subst, ◌∙◌}
use Rattle.aas_journal.specs.Bank.{chosen_file}
use Rattle.aas_journal.specs.Image.{gate_of}
use Rattle.aas_journal.specs.Laws.{HaveOneCondition, HaveOneList}
use Rattle.aas_outside_disk.specs.Files.{Files}
use Rattle.aas_repo_replay.specs.Laws.{OneReplay, OneStop}
use Rattle.aas_repo_replay.specs.Replay.{Replays, StopsAt}
use Rattle.aas_rule.specs.Rule.{Repository}
use Rattle.aas_store.specs.Documents.{Documents}
use Rattle.aas_server.specs.Laws.{OpenOneWay}
use Rattle.aas_server.specs.Opening.{Opens, StopsAtGate, begun, damaged, not_initialised}

-- ---- one repository

pub same_repository : HaveOneList → OneReplay → (files : Files) (a b : Repository Documents) → Opens files (begun a)
    → Opens files (begun b) → a ≡ b
same_repository one_list one_replay files a b (image, replays) (other, too) =
    let records : a.records ≡ b.records = one_list files a.records b.records image other in
    let documents : a.documents ≡ b.documents =
    one_replay b.records a.documents b.documents
    (subst (λ (l : List (List ℕ)). Replays l a.documents) records replays) too in
    λ i. record { documents = documents i; records = records i }

-- ---- one thing

module _ (one_list : HaveOneList) (one_condition : HaveOneCondition) (one_stop : OneStop) (one_replay : OneReplay) where
  same_gate : (files : Files) (a b : List (List ℕ)) (x y : ℕ) → a ≡ b → StopsAtGate a x → StopsAtGate b y → x ≡ y
  same_gate files a b x y same (n, d, stop, is) (m, e, other, too) =
      let place : n ≡ m = one_stop.one_place b n m d e (subst (λ (l : List (List ℕ)). StopsAt l n d) same stop) other in
      is ∙ ap (λ (l : List (List ℕ)). gate_of l n) same ∙ ap (λ (k : ℕ). gate_of b k) place ∙ sym too

  never_both : (payloads : List (List ℕ)) (r : Repository Documents) (at : ℕ)
      → payloads ≡ r.records → StopsAtGate payloads at
      → ¬ (Replays r.records r.documents)
  never_both payloads r at same (n, d, stop, is) replays =
      one_stop.replay_or_stop r.records n r.documents d replays (subst (λ (l : List (List ℕ)). StopsAt l n d) same stop)

  damaged_or_begun : (files : Files) (at : ℕ) (r : Repository Documents)
      → Opens files (damaged at) → ¬ (Opens files (begun r))
  damaged_or_begun files at r (inl passes) (image, replays) =
      one_condition.image_undamaged files r.records at image passes
  damaged_or_begun files at r (inr (payloads, other, stops)) (image, replays) =
      never_both payloads r at (one_list files payloads r.records other image) stops replays

  not_or_damaged : (files : Files) (at : ℕ) → Opens files not_initialised → ¬ (Opens files (damaged at))
  not_or_damaged files at none (inl passes) = one_condition.damaged_initialised (chosen_file files) at passes none
  not_or_damaged files at none (inr (payloads, image, stops)) =
      one_condition.image_initialised files payloads image none

  not_or_begun : (files : Files) (r : Repository Documents) → Opens files not_initialised → ¬ (Opens files (begun r))
  not_or_begun files r none (image, replays) = one_condition.image_initialised files r.records image none

  damaged_once : (files : Files) (x y : ℕ) → Opens files (damaged x) → Opens files (damaged y) → x ≡ y
  damaged_once files x y (inl passes) (inl too) = one_condition.damaged_once (chosen_file files) x y passes too
  damaged_once files x y (inl passes) (inr (payloads, image, stops)) =
      absurd (one_condition.image_undamaged files payloads x image passes)
  damaged_once files x y (inr (payloads, image, stops)) (inl passes) =
      absurd (one_condition.image_undamaged files payloads y image passes)
  damaged_once files x y (inr (payloads, image, stops)) (inr (others, other, too)) =
      same_gate files payloads others x y (one_list files payloads others image other) stops too

  pub open_one_way : OpenOneWay
  open_one_way files not_initialised not_initialised a b = refl
  open_one_way files not_initialised (damaged at) a b = absurd (not_or_damaged files at a b)
  open_one_way files not_initialised (begun r) a b = absurd (not_or_begun files r a b)
  open_one_way files (damaged at) not_initialised a b = absurd (not_or_damaged files at b a)
  open_one_way files (damaged x) (damaged y) a b = ap damaged (damaged_once files x y a b)
  open_one_way files (damaged at) (begun r) a b = absurd (damaged_or_begun files at r a b)
  open_one_way files (begun r) not_initialised a b = absurd (not_or_begun files r b a)
  open_one_way files (begun r) (damaged at) a b = absurd (damaged_or_begun files at r b a)
  open_one_way files (begun r) (begun s) a b = ap begun (same_repository one_list one_replay files r s a b)
