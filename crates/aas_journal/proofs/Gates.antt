-- What a file's gates say of it.
use Rattle.std.proofs.Common.{◌≡◌, ⊎_elim, ℕ, List, ◌∷◌, ◌++◌, length, take, drop, sym, ◌∙◌, ap, subst}
use Rattle.std.proofs.Common.{arith, length-append}
use Rattle.std.proofs.lemmas.List.{take_at, drop_at}
use Rattle.aas_journal.specs.Image.{HasGate, IsHeader, IsImage, records, gate_of}
use Rattle.aas_journal.specs.Causes.{IsDamaged, IsNotInitialised}
use Rattle.aas_journal.proofs.Records.{OneOrOpen, one_or_open}

pub header_eight : (header : List ℕ) → IsHeader header → length header ≡ 8
header_eight header known = ⊎_elim (λ e. ap length e) (λ e. ap length e) known

pub gates : (file : List ℕ) (a b : List (List ℕ)) (g h : ℕ) (r s : List ℕ)
    → HasGate file a g r → HasGate file b h s → OneOrOpen a b g h r s
gates file a b g h r s A B =
    one_or_open a b g h r s A.short B.short
    (sym (drop_at A.header (records a ++ g ∷ r) 8 (header_eight A.header A.known))
    ∙ ap (λ (l : List ℕ). drop 8 l) (sym A.is ∙ B.is)
    ∙ drop_at B.header (records b ++ h ∷ s) 8 (header_eight B.header B.known))

pub initialised : (file : List ℕ) (a : List (List ℕ)) (g : ℕ) (r : List ℕ)
    → HasGate file a g r → ¬ (IsNotInitialised file)
initialised file a g r A why = ⊎_elim
    (λ few. absurd (omega (
      arith,
      few,
      ap length A.is,
      length-append A.header (records a ++ g ∷ r),
      length-append (records a) (g ∷ r),
      header_eight A.header A.known,
    )))
    (λ other. other (subst IsHeader
    (sym (ap (λ (l : List ℕ). take 8 l) A.is ∙ take_at A.header (records a ++ g ∷ r) 8 (header_eight A.header A.known)))
    A.known))
    why

pub one_list : (file : List ℕ) (a b : List (List ℕ)) → IsImage file a → IsImage file b → a ≡ b
one_list file a b A B = ⊎_elim
    (λ one. one.0)
    (λ some. ⊎_elim (λ first. absurd (A.closed first.0)) (λ second. absurd (B.closed second.0)) some)
    (gates file a b A.gate B.gate A.rest B.rest A.has B.has)

pub undamaged : (file : List ℕ) (a : List (List ℕ)) (at : ℕ) → IsImage file a → ¬ (IsDamaged file at)
undamaged file a at A D = ⊎_elim
    (λ one. A.closed one.1)
    (λ some. ⊎_elim (λ first. A.closed first.0) (λ second. absurd (omega (arith, second.1, D.passes))) some)
    (gates file a D.payloads A.gate 1 A.rest D.rest A.has D.has)

pub damaged_once : (file : List ℕ) (a b : ℕ) → IsDamaged file a → IsDamaged file b → a ≡ b
damaged_once file a b A B = ⊎_elim
    (λ one. A.at_is ∙ ap (λ (l : List (List ℕ)). gate_of l (length l)) one.0 ∙ sym B.at_is)
    (λ some. ⊎_elim (λ first. absurd (omega (arith, first.1, A.passes)))
    (λ second. absurd (omega (arith, second.1, B.passes))) some)
    (gates file A.payloads B.payloads 1 1 A.rest B.rest A.has B.has)
