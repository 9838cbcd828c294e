-- What was poured into the end that compares, from its start on.
use Rattle.std.proofs.Common.{◌≡◌, ℕ, List, take, subst}
use Rattle.aas_out.specs.Adds.{Adds}
use Rattle.aas_out.specs.MatchTold.{match_told}
use Rattle.aas_out.specs.declared.pouring.Pouring.{Pouring}
use Rattle.aas_out.specs.declared.pouring.Pouring.TheVariants.{Going, Stopped}
use Rattle.aas_out.proofs.Meeting.{all_met}

-- the bytes are still those of the start
pub same_bytes : (bytes now : List ℕ) (start met before faults : ℕ) (after : Pouring) (poured : List ℕ)
    → Adds Going after (match_told bytes start before) (match_told now met faults) poured → now ≡ bytes
unfolding Adds
same_bytes bytes now start met before faults Going poured h = h.kept
same_bytes bytes now start met before faults Stopped poured h = h.wrote.kept

-- all of them were met
pub bytes_met : (bytes now : List ℕ) (start met before faults : ℕ) (after : Pouring) (poured : List ℕ)
    → Adds Going after (match_told bytes start before) (match_told now met faults) poured → start ≡ 0
    → after ≡ Going → take met now ≡ now → bytes ≡ poured
bytes_met bytes now start met before faults after poured h begun going all =
    all_met bytes now met before faults after poured
    (subst (λ n. Adds Going after (match_told bytes n before) (match_told now met faults) poured) begun h) going all
