-- What a stop leaves in each of the two writes of a `keep`.
use Rattle.std.proofs.Common.{◌≡◌, ◌⊎◌, inl, inr, ⊎_elim, ℕ, ◌+◌, ◌≤◌, ◌<◌, ◌^◌, List, [], ◌∷◌, ◌++◌, Option, Some}
use Rattle.std.proofs.Common.{true, false, length, sym, ◌∙◌, ap, subst, arith}
use Rattle.std.specs.Prelude.{Err, IsErr, MatchResult, Ok, Result}
use Rattle.std.proofs.lemmas.Bool.{cases_lt}
use Rattle.aas_outside.specs.Frame.{frame_bytes}
use Rattle.aas_outside.specs.Moments.{During, InTurn, Passes}
use Rattle.aas_outside_disk.specs.Disk.{Meanwhile, Tears, Torn, written}
use Rattle.aas_outside_disk.specs.Files.{Files, SameOthers, file}
use Rattle.aas_outside_disk.specs.declared.part.Part.{Part}
use Rattle.aas_journal.specs.Bank.{IsBankImage, chosen}
use Rattle.aas_journal.specs.Image.{IsImage, gate_of}
use Rattle.aas_journal.specs.Kept.{Keeps}
use Rattle.aas_journal.proofs.Images.{holds_gate, next_gate, opened, opening, staging}
use Rattle.aas_journal.proofs.Placed.{same_part}

-- What the journal keeps before a `keep`.
module _ (before : Option Files) (part : Part) (gate : ℕ) (payloads : List (List ℕ)) (m0 : ℕ) (l0 : ℕ → Files → Type 0)
    (kept : Keeps before (l0 m0) part gate payloads) (payload : List ℕ) (small : length payload < 2 ^ 32)
    (frame : List ℕ) (frame_is : frame ≡ frame_bytes payload) where
  abbrev files : Files
  files = kept.files

  abbrev at : gate ≡ gate_of payloads (length payloads)
  at = kept.gate_is

  abbrev Old : Files → Type 0
  Old c = (c.selector ≡ files.selector) × IsImage (file part c) payloads

  bank : (c : Files) (some : List (List ℕ))
      → c.selector ≡ files.selector → IsImage (file part c) some → IsBankImage c some
  bank c some same it = subst (λ (q : Part). IsImage (file q c) some) (kept.part_is ∙ ap chosen (sym same)) it

  is_told : IsImage (file part files) payloads
  is_told = subst (λ (q : Part). IsImage (file q files) payloads) (sym kept.part_is) kept.image

  stays : (d c : Files) → d.selector ≡ files.selector → SameOthers part d c → c.selector ≡ files.selector
  stays d c same others = same_part part files.selector d c kept.part_is others same

  -- a stop in the two writes leaves the selector
  pub same_selectors : (at1 n1 at2 n2 m1 m2 : ℕ) (l1 l2 : ℕ → Files → Type 0)
      → m0 ≤ m1 → m1 ≤ m2 → Meanwhile m0 m1 l0 l1 (Tears part at1 n1) → Meanwhile m1 m2 l1 l2 (Tears part at2 n2)
      → (c : Files) → l2 m2 c → c.selector ≡ files.selector
  same_selectors at1 n1 at2 n2 m1 m2 l1 l2 first second torn1 torn2 c left =
      let mid = torn2 m2 second (omega arith) 0 (λ d h. omega arith) c left in
      let from = torn1 m1 first (omega arith) 0 (λ d h. omega arith) mid.0 mid.1 in
      stays mid.0 c (stays from.0 mid.0 (kept.selectors from.0 from.1) from.2) mid.2

  -- the journal after both writes
  pub keeps : (seen : Option Files) (images : Files → Type 0) (told : Files) (staged : List ℕ)
      → seen ≡ Some told → told.selector ≡ files.selector → ((c : Files) → images c → c.selector ≡ files.selector)
      → staged ≡ written (gate + 1) frame (file part files) → file part told ≡ written gate (1 ∷ []) staged
      → Keeps seen images part (gate + length frame) (payloads ++ payload ∷ [])
  keeps seen images told staged told_is same selectors staged_is last_is = record {
    files = told;
    told = told_is;
    image = bank told (payloads ++ payload ∷ []) same
        (opened payloads gate at (file part files) is_told payload small staged
        (staged_is ∙ ap (λ (l : List ℕ). written (gate + 1) l (file part files)) frame_is) (file part told) last_is);
    gate_is =
        ap (λ (l : List ℕ). gate + length l) frame_is ∙ next_gate payloads gate at (file part files) is_told payload;
    part_is = kept.part_is ∙ ap chosen (sym same);
    selectors = λ c left. selectors c left ∙ sym same;
  }

  -- the first write, of the frame behind the gate, where a stop before it leaves images of the payloads alone
  module _ (alone : (c : Files) → l0 m0 c → IsBankImage c payloads) (m1 : ℕ) (l1 : ℕ → Files → Type 0)
      (past1 : Passes m0 l0 m1 l1) (images1 : Meanwhile m0 m1 l0 l1 (Tears part (gate + 1) (length frame))) where
    begun : (c : Files) → l0 m0 c → Old c
    begun c left =
        let same = kept.selectors c left in
        (same, subst (λ (q : Part). IsImage (file q c) payloads) (ap chosen same ∙ sym kept.part_is) (alone c left))

    in_first : (t : ℕ) → m0 ≤ t → t ≤ m1 → (c : Files) → l1 t c → Old c
    in_first t since until c left =
        let from =
        images1 t since until (gate + 1) (λ d h. holds_gate payloads gate at (file part d) (begun d h).1) c left in
        let was = begun from.0 from.1 in (
          stays from.0 c was.0 from.2,
          staging payloads gate at (file part from.0) was.1 (length frame) (file part c) from.3,
        )

    first : During IsBankImage l1 m0 m1 payloads (payload ∷ [])
    first t since until c left = let was = in_first t since until c left in inl (bank c payloads was.0 was.1)

    pub failed_first : InTurn IsBankImage l1 m0 m1 payloads [] (payload ∷ [])
    failed_first = (past1.later, first)

    -- the second write, of the gate
    module _ (staged : List ℕ) (staged_is : staged ≡ written (gate + 1) frame (file part files))
        (holds1 : (c : Files) → l1 m1 c → file part c ≡ staged)
        (m2 : ℕ) (l2 : ℕ → Files → Type 0) (past2 : Passes m1 l1 m2 l2)
        (images2 : Meanwhile m1 m2 l1 l2 (Tears part gate 1)) where
      whole : staged ≡ written (gate + 1) (frame_bytes payload) (file part files)
      whole = staged_is ∙ ap (λ (l : List ℕ). written (gate + 1) l (file part files)) frame_is

      in_second : (t : ℕ) → m1 ≤ t → t ≤ m2 → (c : Files) → l2 t c
          → (c.selector ≡ files.selector)
          × (IsImage (file part c) payloads ⊎ IsImage (file part c) (payloads ++ payload ∷ []))
      in_second t since until c left =
          let from = images2 t since until (length staged) (λ d h. omega (arith, ap length (holds1 d h))) c left in
          let was = in_first m1 past1.later (omega arith) from.0 from.1 in (
            stays from.0 c was.0 from.2,
            opening payloads gate at (file part files) is_told payload small staged whole (file part c)
                (subst (λ (l : List ℕ). Torn (length staged) gate 1 l (file part c)) (holds1 from.0 from.1) from.3),
          )

      second : During IsBankImage l2 m0 m2 payloads (payload ∷ [])
      second t since until c left = ⊎_elim
          (λ low. first t since (omega (arith, low)) c ((past2.past t (omega (arith, low)) c).0 left))
          (λ high. let now = in_second t high until c left in
          ⊎_elim (λ a. inl (bank c payloads now.0 a)) (λ b. inr (bank c (payloads ++ payload ∷ []) now.0 b)) now.1)
          (cases_lt t m1)

      pub failed_second : InTurn IsBankImage l2 m0 m2 payloads [] (payload ∷ [])
      failed_second = (omega (arith, past1.later, past2.later), second)

      pub kept_in_turn : (last : List ℕ) → last ≡ written gate (1 ∷ []) staged
          → ((c : Files) → l2 m2 c → file part c ≡ last) → InTurn IsBankImage l2 m0 m2 payloads (payload ∷ []) []
      kept_in_turn last last_is holds2 = (
        m2,
        omega (arith, past1.later, past2.later),
        second,
        (
          omega arith,
          λ t since until c left.
              let here : l2 m2 c = subst (λ (k : ℕ). l2 k c) (omega (arith, since, until)) left in
              inl (bank c (payloads ++ payload ∷ []) (in_second m2 past2.later (omega arith) c here).0
              (subst (λ (l : List ℕ). IsImage l (payloads ++ payload ∷ [])) (sym (holds2 c here))
              (opened payloads gate at (file part files) is_told payload small staged whole last last_is))),
        ),
      )

pub at_err : {T E B : Type 0} (A : Type 0) (r : Result T E) → IsErr r → B → MatchResult r (λ _. A) (λ _. B)
at_err A (Ok v) is b = absurd (let no : false ≡ true = is in cc no)
at_err A (Err e) is b = b
