-- What a stop leaves in a checkpoint, and what it makes of the files.
use Rattle.std.proofs.Common.{◌≡◌, ◌⊎◌, inl, inr, ⊎_elim, ℕ, ◌+◌, ◌≤◌, ◌<◌, ◌^◌, Bool, true, false, List, [], ◌∷◌}
use Rattle.std.proofs.Common.{Option, Some, length, drop, refl, sym, ◌∙◌, ap, subst, arith}
use Rattle.std.specs.Prelude.{Ok, Result, codes, if◌then◌else◌, ◌==◌, ◌%◌}
use Rattle.std.proofs.lemmas.Bool.{cases_lt}
use Rattle.std.proofs.lemmas.Bool.Decides.{nat_tests}
use Rattle.std.proofs.lemmas.List.Elements.{All-nil}
use Rattle.aas_outside.specs.Moments.{IsSettled, Passes}
use Rattle.aas_outside.specs.declared.link.Failed.{Failed}
use Rattle.aas_outside_disk.specs.Disk.{Becomes, HoldsWhatIsRead, Meanwhile, written}
use Rattle.aas_outside_disk.specs.Files.{Files, SameOthers, file}
use Rattle.aas_outside_disk.specs.declared.disk.Disk.{Ghosts}
use Rattle.aas_outside_disk.specs.declared.part.Part.{Part}
use Rattle.aas_outside_disk.specs.declared.part.Part.TheVariants.{Main, Spare, Selector}
use Rattle.aas_journal.specs.Bank.{IsBankImage, chosen, chosen_file}
use Rattle.aas_journal.specs.Checkpoint.{ChangesOnly, EitherDuring, Rewrites, one_record, other, turned}
use Rattle.aas_journal.specs.Image.{IsImage, gate_of}
use Rattle.aas_journal.specs.Kept.{Keeps}
use Rattle.aas_journal.specs.Shown.{kept_by}
use Rattle.aas_journal.specs.declared.journal.Journal.{Journal}
use Rattle.aas_journal.proofs.Disks.{known, told}
use Rattle.aas_journal.proofs.Images.{opened_image}

-- a write to the other file leaves the selector and this file
others_stay : (part : Part) (d c : Files)
    → SameOthers (other part) d c → (c.selector ≡ d.selector) × (file part c ≡ file part d)
others_stay Main d c same = (same.1, same.0)
others_stay Spare d c same = (same.1, same.0)
others_stay Selector d c same = (same.1, same.1)

-- a write to the selector leaves both files of records
other_stays : (part : Part) (d c : Files) → SameOthers Selector d c → file (other part) c ≡ file (other part) d
other_stays Main d c same = same.1
other_stays Spare d c same = same.0
other_stays Selector d c same = same.0

by_test : (b : Bool) (d c : Files)
    → SameOthers Selector d c → file (if b then Main else Spare) c ≡ file (if b then Main else Spare) d
by_test true d c same = same.0
by_test false d c same = same.1

chosen_stays : (selector : List ℕ) (d c : Files)
    → SameOthers Selector d c → file (chosen selector) c ≡ file (chosen selector) d
chosen_stays [] d c same = same.0
chosen_stays (byte ∷ rest) d c same = by_test (byte % 2 == 0) d c same

-- two selectors choose one file or the two
by_tests : (a b : Bool)
    → ((if a then Main else Spare) ≡ (if b then Main else Spare))
    ⊎ ((if a then Main else Spare) ≡ other (if b then Main else Spare))
by_tests true true = inl refl
by_tests true false = inr refl
by_tests false true = inr refl
by_tests false false = inl refl

chosen_by : (selector : List ℕ) → (b : Bool) × (chosen selector ≡ (if b then Main else Spare))
chosen_by [] = (true, refl)
chosen_by (byte ∷ rest) = (byte % 2 == 0, refl)

one_of_two : (a b : List ℕ) → (chosen a ≡ chosen b) ⊎ (chosen a ≡ other (chosen b))
one_of_two a b =
    let x = chosen_by a in
    let y = chosen_by b in
    ⊎_elim
    (λ same. inl (x.1 ∙ same ∙ sym y.1))
    (λ apart. inr (x.1 ∙ apart ∙ ap other (sym y.1)))
    (by_tests x.0 y.0)

-- what is told before and after
becomes : (a b : Files) (old new : Option Files) (P : Files → Files → Type 0)
    → old ≡ Some a → new ≡ Some b → P a b → Becomes old new P
becomes a b old new P old_is new_is it =
    subst (λ (n : Option Files). Becomes old n P) (sym new_is)
    (subst (λ (o : Option Files). Becomes o (Some b) P) (sym old_is) it)

-- the chosen file of the old files is as it was
abbrev pub HasOldRecords : Files → Files → Type 0
HasOldRecords old new = file (chosen old.selector) new ≡ chosen_file old

-- the journal keeps these payloads
module _ (before : Option Files) (images : Files → Type 0) (part : Part) (gate : ℕ)
    (payloads : List (List ℕ)) (kept : Keeps before images part gate payloads) where
  -- the other file is written
  module _ {E : Type 0} (spare : Part) (apart : spare ≡ other part) (mid : Option Files)
      (change : List ℕ → List ℕ) (result : Result (Unit {0}) E) (first : Rewrites spare change before mid result) where
    after_first : (b : Files) × (mid ≡ Some b) × HasOldRecords kept.files b
    after_first =
        let t = told kept.files before mid _ kept.told first in
        let stay =
        (others_stay part kept.files t.0 (subst (λ (q : Part). SameOthers q kept.files t.0) apart t.2.0)).1 in
        (t.0, t.1, subst (λ (q : Part). file q t.0 ≡ file q kept.files) kept.part_is stay)

    pub stays_first : Becomes before mid HasOldRecords
    stays_first = becomes kept.files after_first.0 before mid HasOldRecords kept.told after_first.1 after_first.2

    -- and then the selector
    pub stays_both : {F : Type 0} (new : Option Files) (turn : List ℕ → List ℕ) (last : Result (Unit {0}) F)
        → Rewrites Selector turn mid new last → Becomes before new HasOldRecords
    stays_both new turn last second =
        let u = told after_first.0 mid new _ after_first.1 second in
        becomes kept.files u.0 before new HasOldRecords kept.told u.1
        (chosen_stays kept.files.selector after_first.0 u.0 u.2.0 ∙ after_first.2)

turns : (byte : ℕ) → (if (byte + 1) % 256 % 2 == 0 then Main else Spare) ≡ other (if byte % 2 == 0 then Main else Spare)
turns byte = grind (arith, nat_tests)

chooses_other : (selector : List ℕ) → chosen (turned selector) ≡ other (chosen selector)
chooses_other [] = refl
chooses_other (byte ∷ rest) = turns byte

one_image : (payload file : List ℕ)
    → length payload < 2 ^ 32 → IsImage (written 0 (one_record payload) file) (payload ∷ [])
one_image payload file small =
    opened_image (codes "AASJ0002") [] payload (written 0 (one_record payload) file)
    (drop (0 + length (one_record payload)) file) (inr refl) (All-nil (λ (p : List ℕ). _)) small refl

module _ {D : Type 0} (ghosts : Ghosts D) where
  abbrev Goes : D → D → Type 0
  Goes d e = Passes (ghosts.state d).moment (ghosts.state d).left_at (ghosts.state e).moment (ghosts.state e).left_at

  abbrev Changes : Part → D → D → Type 0
  Changes part d e =
      Meanwhile (ghosts.state d).moment (ghosts.state e).moment (ghosts.state d).left_at (ghosts.state e).left_at (ChangesOnly part)

  abbrev During : D → D → List (List ℕ) → List (List ℕ) → Type 0
  During d e a b = EitherDuring IsBankImage (ghosts.state e).left_at (ghosts.state d).moment (ghosts.state e).moment a b

  -- The journal keeps these payloads, and then the other file alone is written.
  module _ (journal : Journal D ghosts) (payloads : List (List ℕ)) (kept : kept_by journal payloads)
      (spare : Part) (apart : spare ≡ other journal.part) (mid : D) (goes1 : Goes journal.disk mid)
      (changes1 : Changes spare journal.disk mid) where
    abbrev Alone : Type 0
    Alone = (c : Files) → (ghosts.state journal.disk).left_at (ghosts.state journal.disk).moment c → IsBankImage c payloads

    stays1 : (d c : Files)
        → SameOthers spare d c → (c.selector ≡ d.selector) × (file journal.part c ≡ file journal.part d)
    stays1 d c same = others_stay journal.part d c (subst (λ (q : Part). SameOthers q d c) apart same)

    -- each image chooses the journal's file, as one from before has it
    chooses : (t : ℕ) → (ghosts.state journal.disk).moment ≤ t → t ≤ (ghosts.state mid).moment → (c : Files) → (ghosts.state mid).left_at t c
        → (journal.part ≡ chosen c.selector) × (d : Files)
        × (ghosts.state journal.disk).left_at (ghosts.state journal.disk).moment d × (chosen_file c ≡ chosen_file d)
    chooses t since until c left =
        let from = changes1 t since until c left in
        let d = from.0 in
        let stay = stays1 d c from.2 in
        let old : journal.part ≡ chosen d.selector = kept.part_is ∙ ap chosen (sym (kept.selectors d from.1)) in
        let now : journal.part ≡ chosen c.selector = old ∙ ap chosen (sym stay.0) in
        (now, d, from.1, ap (λ (q : Part). file q c) (sym now) ∙ stay.1 ∙ ap (λ (q : Part). file q d) old)

    in_first : Alone → (t : ℕ) → (ghosts.state journal.disk).moment ≤ t → t ≤ (ghosts.state mid).moment → (c : Files)
        → (ghosts.state mid).left_at t c → IsBankImage c payloads
    in_first alone t since until c left =
        let it = chooses t since until c left in
        subst (λ (l : List ℕ). IsImage l payloads) (sym it.3) (alone it.1 it.2)

    pub during_first : Alone → (one : List (List ℕ)) → During journal.disk mid payloads one
    during_first alone one t since until c left = inl (in_first alone t since until c left)

    -- The other file holds the one record, and then the selector alone is written.
    module _ (payload : List ℕ) (small : length payload < 2 ^ 32)
        (record1 : Rewrites {E = Failed} spare (written 0 (one_record payload))
        (ghosts.state journal.disk).seen (ghosts.state mid).seen (Ok tt))
        (durable1 : HoldsWhatIsRead spare (ghosts.state mid).seen ((ghosts.state mid).left_at (ghosts.state mid).moment)) (new : D)
        (goes2 : Goes mid new) (changes2 : Changes Selector mid new) where
      between : (b : Files) × ((ghosts.state mid).seen ≡ Some b)
          × (SameOthers spare kept.files b × (length (file spare kept.files) ≤ length (file spare b))
          × (file spare b ≡ written 0 (one_record payload) (file spare kept.files)))
      between = told kept.files (ghosts.state journal.disk).seen (ghosts.state mid).seen _ kept.told record1

      abbrev staged : List ℕ
      staged = file spare between.0

      stays2 : (d c : Files) → SameOthers Selector d c → file spare c ≡ file spare d
      stays2 d c same = subst (λ (q : Part). file q c ≡ file q d) (sym apart) (other_stays journal.part d c same)

      holds2 : (t : ℕ) → (ghosts.state mid).moment ≤ t → t ≤ (ghosts.state new).moment → (c : Files)
          → (ghosts.state new).left_at t c → file spare c ≡ staged
      holds2 t since until c left =
          let from = changes2 t since until c left in
          stays2 from.0 c from.2 ∙ known between.0 (ghosts.state mid).seen _ between.1 durable1 from.0 from.1

      one_alone : (c : Files) → spare ≡ chosen c.selector → file spare c ≡ staged → IsBankImage c (payload ∷ [])
      one_alone c is holds =
          subst (λ (l : List ℕ). IsImage l (payload ∷ []))
          (sym (ap (λ (q : Part). file q c) (sym is) ∙ holds ∙ between.2.2))
          (one_image payload (file spare kept.files) small)

      in_second : Alone → (t : ℕ) → (ghosts.state mid).moment ≤ t → t ≤ (ghosts.state new).moment → (c : Files)
          → (ghosts.state new).left_at t c → IsBankImage c payloads ⊎ IsBankImage c (payload ∷ [])
      in_second alone t since until c left =
          let from = changes2 t since until c left in
          let d = from.0 in
          ⊎_elim
          (λ same. inl
          (subst (λ (l : List ℕ). IsImage l payloads)
          (sym (ap (λ (q : Part). file q c) same ∙ chosen_stays d.selector d c from.2))
          (in_first alone (ghosts.state mid).moment goes1.later (omega arith) d from.1)))
          (λ turned_one. inr (one_alone c
          (apart ∙ ap other (chooses (ghosts.state mid).moment goes1.later (omega arith) d from.1).0 ∙ sym turned_one)
          (holds2 t since until c left)))
          (one_of_two c.selector d.selector)

      pub during_second : Alone → During journal.disk new payloads (payload ∷ [])
      during_second alone t since until c left = ⊎_elim
          (λ low. inl (in_first alone t since (omega (arith, low)) c ((goes2.past t (omega (arith, low)) c).0 left)))
          (λ high. in_second alone t high until c left)
          (cases_lt t (ghosts.state mid).moment)

      -- the selector is turned
      pub settled_on_one : (closed : ℕ) → closed ≡ gate_of (payload ∷ []) 1
          → Rewrites {E = Failed} Selector turned (ghosts.state mid).seen (ghosts.state new).seen (Ok tt)
          → HoldsWhatIsRead Selector (ghosts.state new).seen ((ghosts.state new).left_at (ghosts.state new).moment)
          → IsSettled IsBankImage (Keeps (ghosts.state new).seen ((ghosts.state new).left_at (ghosts.state new).moment) spare closed)
          (ghosts.state new).moment (ghosts.state new).left_at (payload ∷ [])
      settled_on_one closed closed_is record2 durable2 =
          let last = told between.0 (ghosts.state mid).seen (ghosts.state new).seen _ between.1 record2 in
          let files = last.0 in
          let same = (stays1 kept.files between.0 between.2.0).0 in
          let is : spare ≡ chosen files.selector = apart ∙ ap other (kept.part_is ∙ ap chosen (sym same))
          ∙ sym (chooses_other between.0.selector) ∙ ap chosen (sym last.2.2) in
          let selectors = known files (ghosts.state new).seen _ last.1 durable2 in
          record {
            told = record {
              files = files;
              told = last.1;
              image = one_alone files is (stays2 between.0 files last.2.0);
              gate_is = closed_is;
              part_is = is;
              selectors = selectors;
            };
            alone = λ c left.
                one_alone c (is ∙ ap chosen (sym (selectors c left)))
                (holds2 (ghosts.state new).moment goes2.later (omega arith) c left);
          }
