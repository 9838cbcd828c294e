-- A place at which no placed sentence fails has its local faults alone.
use Rattle.std.proofs.Common.{◌≡◌, ℕ, Bool, true, false, not, cond, List, [], ◌∷◌, ◌++◌, map, filter, flat_map, None, refl, sym, ap, ap₂, ◌∙◌}
use Rattle.std.specs.List.{AllByRecursion}
use Rattle.aas_model.specs.declared.path.Fault.{Fault}
use Rattle.aas_reference.specs.Rules.{Rule, failing}
use Rattle.aas_constraint_rules.specs.Faults.{fault, broken, faults_at}
use Rattle.aas_constraint_rules.specs.Rules.{ElementSentence, local, placed, holds, holds_locally, rules}
use Rattle.aas_constraint_rules.specs.Sites.{Own, Site, Trees, sites_among}
use Rattle.aas_lemmas.proofs.Lists.{no_first, no_second, no_map}
use Rattle.aas_constraint_laws.specs.Law.{local_faults_at}
use Rattle.aas_constraint_laws.proofs.Bare.{bare_site, bare_trees, among_bare}
use Rattle.aas_constraint_laws.proofs.PlacedRows.{holds_in_place, placed_bare}

-- ---- rows

module _ {S : Type 0} where
  abbrev numbers : List (Rule S) → List ℕ
  numbers rs = map (λ r. r.number) rs

  passes_first : (b : Bool) (r : Rule S) (l : List (Rule S)) → numbers (cond (not b) (r ∷ l) l) ≡ [] → (b ≡ true) × (numbers l ≡ [])
  passes_first true r l e = (refl, e)
  passes_first false r l e = absurd (cc)

  abbrev pub Passes : (S → Bool) → Rule S → Type 0
  Passes test r = test r.sentence ≡ true

  -- where no row fails, each holds
  pub each_passes : (test : S → Bool) (rs : List (Rule S)) → failing test rs ≡ [] → AllByRecursion (Passes test) rs
  each_passes test [] e = tt
  each_passes test (r ∷ rs) e = let first = passes_first (test r.sentence) r (filter (λ r. not (test r.sentence)) rs) e in (first.0, each_passes test rs first.1)

  -- what holds of each row doesn't fail
  none_fails : (test : S → Bool) (rs : List (Rule S)) → AllByRecursion (Passes test) rs → failing test rs ≡ []
  none_fails test [] h = refl
  none_fails test (r ∷ rs) h = ap (λ b. numbers (cond (not b) (r ∷ filter (λ r. not (test r.sentence)) rs) (filter (λ r. not (test r.sentence)) rs))) h.0 ∙ none_fails test rs h.1

  -- a row that is failed by one test is failed by another
  fewer_fail : (test other : S → Bool) → ((s : S) → test s ≡ true → other s ≡ true) → (rs : List (Rule S)) → failing test rs ≡ [] → failing other rs ≡ []
  fewer_fail test other f rs e = none_fails other rs (each rs (each_passes test rs e))
    where
      each : (rs : List (Rule S)) → AllByRecursion (Passes test) rs → AllByRecursion (Passes other) rs
      each [] h = tt
      each (r ∷ rs) h = (f r.sentence h.0, each rs h.1)

-- ---- a sentence

placed_too : (x : Site) (s : ElementSentence) → holds s x ≡ true → holds_in_place s x ≡ true
placed_too x (local s) e = refl
placed_too x (placed test) e = e

local_too : (x : Site) (s : ElementSentence) → holds s x ≡ true → holds_locally s x.own ≡ true
local_too x (local s) e = e
local_too x (placed test) e = refl

local_alone : (x : Site) (s : ElementSentence) → holds_in_place s x ≡ true → holds s x ≡ holds_locally s x.own
local_alone x (local s) e = refl
local_alone x (placed test) e = e

-- ---- all rows

abbrev pub placed_broken : Site → List ℕ
placed_broken x = failing (λ s. holds_in_place s x) rules

abbrev pub placed_faults_at : Site → List Fault
placed_faults_at x = map (fault x.path) (placed_broken x)

abbrev pub locally_broken : Own → List ℕ
locally_broken o = failing (λ s. holds_locally s o) rules

none_placed : (x : Site) → broken x ≡ [] → placed_broken x ≡ []
none_placed x e = fewer_fail (λ s. holds s x) (λ s. holds_in_place s x) (placed_too x) rules e

pub none_local : (x : Site) → broken x ≡ [] → locally_broken x.own ≡ []
none_local x e = fewer_fail (λ s. holds s x) (λ s. holds_locally s x.own) (local_too x) rules e

only_local : (x : Site) (rs : List (Rule ElementSentence)) → AllByRecursion (Passes (λ s. holds_in_place s x)) rs
    → filter (λ r. not (holds r.sentence x)) rs ≡ filter (λ r. not (holds_locally r.sentence x.own)) rs
only_local x [] h = refl
only_local x (r ∷ rs) h = ap₂ (λ b l. cond (not b) (r ∷ l) l) (local_alone x r.sentence h.0) (only_local x rs h.1)

local_when : (x : Site) → placed_broken x ≡ [] → broken x ≡ locally_broken x.own
local_when x e = ap (map (λ r. r.number)) (only_local x rules (each_passes (λ s. holds_in_place s x) rules e))

-- ---- all places

pub all_none_placed : (xs : List Site) → flat_map faults_at xs ≡ [] → flat_map placed_faults_at xs ≡ []
all_none_placed [] e = refl
all_none_placed (x ∷ xs) e =
    ap₂ (λ a b. a ++ b) (ap (map (fault x.path)) (none_placed x (no_map _ (broken x) (no_first (faults_at x) _ e)))) (all_none_placed xs (no_second (faults_at x) _ e))

pub all_none_local : (xs : List Site) → flat_map faults_at xs ≡ [] → flat_map local_faults_at xs ≡ []
all_none_local [] e = refl
all_none_local (x ∷ xs) e =
    ap₂ (λ a b. a ++ b) (ap (map (fault x.path)) (none_local x (no_map _ (broken x) (no_first (faults_at x) _ e)))) (all_none_local xs (no_second (faults_at x) _ e))

pub all_local : (xs : List Site) → flat_map placed_faults_at xs ≡ [] → flat_map faults_at xs ≡ flat_map local_faults_at xs
all_local [] e = refl
all_local (x ∷ xs) e =
    ap₂ (λ a b. a ++ b) (ap (map (fault x.path)) (local_when x (no_map _ (placed_broken x) (no_first (placed_faults_at x) _ e)))) (all_local xs (no_second (placed_faults_at x) _ e))

all_placed_bare : (xs : List Site) → flat_map placed_faults_at (map bare_site xs) ≡ flat_map placed_faults_at xs
all_placed_bare [] = refl
all_placed_bare (x ∷ xs) = ap₂ (λ ns l. map (fault x.path) ns ++ l) (placed_bare x) (all_placed_bare xs)

-- trees that are the same bare have the same placed faults
pub same_placed : (c : Bool) (ts us : Trees) → bare_trees ts ≡ bare_trees us → flat_map placed_faults_at (sites_among c None [] ts) ≡ flat_map placed_faults_at (sites_among c None [] us)
same_placed c ts us e =
    sym (all_placed_bare (sites_among c None [] ts)) ∙ ap (flat_map placed_faults_at) (among_bare c None [] ts) ∙ ap (λ w. flat_map placed_faults_at (sites_among c None [] w)) e
    ∙ sym (ap (flat_map placed_faults_at) (among_bare c None [] us)) ∙ all_placed_bare (sites_among c None [] us)
