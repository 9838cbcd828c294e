-- What is said of an export.
use Rattle.std.proofs.Common.{◌≡◌, ◌≢◌, ◌⊎◌, ◌≤◌, ◌^◌, ℕ, Bool, true, false, List, length, nat_lt, if◌then◌else◌, refl}
use Rattle.std.proofs.Common.{sym, ap, subst, inl, inr}
use Rattle.std.specs.Io.KnownBytes.{append_known}
use Rattle.std.proofs.lemmas.Bool.{le-ltb, ltb-false}
use Rattle.aas_outside.specs.Faults.{Rose}
use Rattle.aas_outside.specs.Link.{GivesFront, LinkState}
use Rattle.aas_server.specs.Answer.{Answer, Says, done, exported, too_long}
use Rattle.aas_server.proofs.Given.{says_line}

-- not too long
abbrev IsShort : List ℕ → Type 0
IsShort text = ¬ (2 ^ 64 ≤ length text)

short : (text : List ℕ) → IsShort text → exported text ≡ done text
short text is_short = by (nat_lt (length text) (2 ^ 64)) refl
  where
    by : (b : Bool) → nat_lt (length text) (2 ^ 64) ≡ b → (if b then done text else too_long) ≡ done text
    by true is = refl
    by false is = absurd (is_short (ltb-false (length text) (2 ^ 64) is))

long : (text : List ℕ) → 2 ^ 64 ≤ length text → exported text ≡ too_long
long text is_long = ap (λ (b : Bool). if b then done text else too_long) (le-ltb (length text) (2 ^ 64) is_long)

abbrev SaysExported : List ℕ → ℕ → LinkState → LinkState → Type 0
SaysExported text = Says (λ said. said ≡ exported text)

says_answer : (text : List ℕ) (answer : Answer) (status : ℕ) (old new : LinkState)
    → exported text ≡ answer → Says (λ said. said ≡ answer) status old new → SaysExported text status old new
says_answer text answer status old new is says =
    subst (λ (answer : Answer). Says (λ said. said ≡ answer) status old new) (sym is) says

pub says_exported : (text : List ℕ) (old new : LinkState)
    → IsShort text → new.sent ≡ append_known old.sent text → SaysExported text 0 old new
says_exported text old new is_short given =
    says_answer text (done text) 0 old new (short text is_short)
    (says_line (done text) 0 old new (λ e. cc) (λ not3. (refl, given))
    (λ is. absurd (cc)) (λ is. absurd (cc)) (inr refl))

pub says_cut : (text : List ℕ) (old new : LinkState)
    → IsShort text → GivesFront old.sent new.sent text → Rose old.faults new.faults → SaysExported text 3 old new
says_cut text old new is_short front rose =
    says_answer text (done text) 3 old new (short text is_short)
    (says_line (done text) 3 old new (λ e. cc) (λ not3. absurd (not3 refl)) (λ is. front) (λ is. rose) (inl refl))

pub says_too_long : (text : List ℕ) (status : ℕ) (old mid new : LinkState) → 2 ^ 64 ≤ length text → mid ≡ old
    → (status ≢ 3 → (status ≡ 11) × (new.sent ≡ append_known mid.sent too_long.text))
    → (status ≡ 3 → GivesFront mid.sent new.sent too_long.text)
    → (status ≡ 3 → Rose mid.faults new.faults) → (status ≡ 3) ⊎ (status ≡ 11) → SaysExported text status old new
says_too_long text status old mid new is_long same given front fault statuses =
    subst (λ (before : LinkState). SaysExported text status before new) same
    (says_answer text too_long status mid new (long text is_long)
    (says_line too_long status mid new (λ e. cc) given front fault statuses))
