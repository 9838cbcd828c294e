-- What `conform` answers, by what came of its words, its documents and their comparison.
use Rattle.std.proofs.Common.{◌≡◌, ◌≢◌, ◌⊎◌, ⊎_elim, ℕ, List, [], ◌∷◌, Option, Some, None, sym, ap, subst, inr}
use Rattle.std.proofs.Common.{◌∙◌, arith}
use Rattle.std.specs.Prelude.{Contains, IfNone}
use Rattle.std.specs.Str.{encode_utf8_all}
use Rattle.std.specs.Io.KnownBytes.{append_known}
use Rattle.aas_command.specs.declared.refusal.Refusal.{Refusal}
use Rattle.aas_command.specs.declared.refusal.Refusal.TheVariants.{NoMemory}
use Rattle.aas_outside.specs.Faults.{Rose}
use Rattle.aas_outside.specs.Link.{GivesFront, LinkState}
use Rattle.aas_page.specs.Segment.{IsIdentifierCode}
use Rattle.aas_store.specs.Documents.{Documents}
use Rattle.aas_server.specs.Answer.{Answer, Says, done, refused}
use Rattle.aas_server.specs.Conforming.{IsConformAnswer, StandsForNone, compared_answer, not_a_template, submodel_at}
use Rattle.aas_server.proofs.Given.{says_weaker}

-- ---- words that stand for none

pub none_coded : (bytes word : List ℕ) (o : Option (List ℕ))
    → o ≡ None → bytes ≡ encode_utf8_all word → IfNone o ((id : List ℕ) → ¬ IsIdentifierCode bytes id)
    → StandsForNone word
none_coded bytes word None is same none = subst (λ (b : List ℕ). (id : List ℕ) → ¬ IsIdentifierCode b id) same none
none_coded bytes word (Some id) is same none = absurd (cc)

-- ---- words that stand for identifiers

module _ (template instance : List ℕ) (d : Documents) (t i : List ℕ)
    (t_coded : IsIdentifierCode (encode_utf8_all template) t)
    (i_coded : IsIdentifierCode (encode_utf8_all instance) i) where
  pub compared : (answer : Answer)
      → answer ≡ compared_answer (submodel_at d t) (submodel_at d i) → IsConformAnswer template instance d answer
  compared answer is = inr (t, i, t_coded, i_coded, is)

-- ---- what is said

-- of a refusal that is an answer, unless it is want of memory
pub says_refusal : (P : Answer → Type 0) (r : Refusal) (status : ℕ) (old new : LinkState)
    → (r ≢ NoMemory → P (refused r))
    → (status ≡ 7 → (r ≢ NoMemory) × (new.sent ≡ append_known old.sent (refused r).text))
    → (status ≡ 3 → (r ≢ NoMemory) × GivesFront old.sent new.sent (refused r).text)
    → (status ≡ 3 → Rose old.faults new.faults)
    → (status ≡ 10 → new.sent ≡ old.sent) → (status ≡ 3) ⊎ (status ≡ 7) ⊎ (status ≡ 10) → Says P status old new
says_refusal P r status old new answers given front fault silent statuses = record {
  given = λ not3 not10.
      let seven : status ≡ 7 = ⊎_elim (λ three. absurd (not3 three))
      (λ rest. ⊎_elim (λ seven. seven) (λ ten. absurd (not10 ten)) rest) statuses in
      (refused r, answers (given seven).0, seven, (given seven).1);
  front = λ is. inr (refused r, answers (front is).0, (front is).1);
  fault = fault;
  memory = silent;
}

-- of a line that is an answer
pub says_conform : (template instance : List ℕ) (d e : Documents)
    (text items : List ℕ) (status : ℕ) (old new : LinkState)
    → d ≡ e → text ≡ items
    → IsConformAnswer template instance d (done items) → Says (λ said. said ≡ done text) status old new
    → Says (IsConformAnswer template instance e) status old new
says_conform template instance d e text items status old new same same_text answers =
    says_weaker (λ said. said ≡ done text) (IsConformAnswer template instance e) status old new (λ said is.
    let P : Answer → Type 0 = λ a. IsConformAnswer template instance e a in
    let here : IsConformAnswer template instance e (done items) =
    subst (λ (x : Documents). IsConformAnswer template instance x (done items)) same answers in
    subst P (sym (is ∙ ap done same_text)) here)

pub says_no_template : (template instance : List ℕ) (d e : Documents) (status : ℕ) (old new : LinkState)
    → d ≡ e → IsConformAnswer template instance d not_a_template
    → Says (λ said. said ≡ not_a_template) status old new → Says (IsConformAnswer template instance e) status old new
says_no_template template instance d e status old new same answers =
    says_weaker (λ said. said ≡ not_a_template) (IsConformAnswer template instance e) status old new (λ said is.
    let P : Answer → Type 0 = λ a. IsConformAnswer template instance e a in
    subst P (sym is) (subst (λ (x : Documents). IsConformAnswer template instance x not_a_template) same answers))

-- ---- statuses

pub unfit_status : (n : ℕ) → (n ≡ 3) ⊎ (n ≡ 7) → Contains (0 ∷ 3 ∷ 4 ∷ 5 ∷ 6 ∷ 10 ∷ 7 ∷ []) n
unfit_status n = ⊎_elim (λ three. (1, omega arith, sym three)) (λ seven. (6, omega arith, sym seven))

pub refused_status : (n : ℕ) → (n ≡ 3) ⊎ (n ≡ 7) ⊎ (n ≡ 10) → Contains (0 ∷ 3 ∷ 4 ∷ 5 ∷ 6 ∷ 10 ∷ 7 ∷ []) n
refused_status n =
    ⊎_elim (λ three. (1, omega arith, sym three))
    (λ rest. ⊎_elim (λ seven. (6, omega arith, sym seven)) (λ ten. (5, omega arith, sym ten)) rest)
