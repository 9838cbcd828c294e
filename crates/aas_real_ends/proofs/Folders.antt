-- Files that were opened, in a folder with another file for a part, or none.
use Rattle.std.specs.Prelude.{◌≡◌, None, Some, IsTrue}
use Rattle.std.proofs.Common.{subst, sym, ◌∙◌}
use Rattle.std.proofs.lemmas.Option.{none-some, same_Some}
use Rattle.aas_outside_disk.specs.declared.part.Part.{Part}
use Rattle.aas_outside_disk.specs.declared.part.Part.TheVariants.{Main, Spare, Selector}
use Rattle.aas_real_ends.specs.declared.folder.Folder.{Folder}
use Rattle.aas_real_ends.specs.declared.stored_file.StoredFile.{Ghosts}
use Rattle.aas_real_ends.specs.Folder.{AreOpened, IsOpened, file_of, with_file}

module _ {F : Type 0} (ghosts : Ghosts F) where
  it_alone : (part : Part) (file : F) → IsOpened ghosts part file → (other : F)
      → Some file ≡ Some other → IsOpened ghosts part other
  it_alone part file opened other is = subst (IsOpened ghosts part) (same_Some file other is) opened

  none_at_all : (part : Part) (other : F) → None ≡ Some other → IsOpened ghosts part other
  none_at_all part other is = absurd (none-some other is)

  -- a file that was opened counts as such while it has its name and its lock
  opened_still : (part : Part) (before after : F) → ghosts.name after ≡ ghosts.name before
      → (IsTrue (ghosts.is_locked before) → IsTrue (ghosts.is_locked after))
      → IsOpened ghosts part before → IsOpened ghosts part after
  opened_still part before after name locked opened =
      ((λ it is. opened.0 it (sym name ∙ is)), (λ is. locked (opened.1 is)))

module _ {O F : Type 0} (ghosts : Ghosts F) where
  pub opened_with : (part : Part) (file : F) (folder : Folder O F) → IsOpened ghosts part file → AreOpened ghosts folder
      → AreOpened ghosts (with_file part (Some file) folder)
  opened_with Main file folder is all = (it_alone ghosts Main file is, all.1, all.2)
  opened_with Spare file folder is all = (all.0, it_alone ghosts Spare file is, all.2)
  opened_with Selector file folder is all = (all.0, all.1, it_alone ghosts Selector file is)

  opened_without : (part : Part) (folder : Folder O F)
      → AreOpened ghosts folder → AreOpened ghosts (with_file part None folder)
  opened_without Main folder all = (none_at_all ghosts Main, all.1, all.2)
  opened_without Spare folder all = (all.0, none_at_all ghosts Spare, all.2)
  opened_without Selector folder all = (all.0, all.1, none_at_all ghosts Selector)

  -- a file of a folder whose files were opened
  opened_of : (part : Part) (file : F) (folder : Folder O F)
      → file_of part folder ≡ Some file → AreOpened ghosts folder → IsOpened ghosts part file
  opened_of Main file folder is all = all.0 file is
  opened_of Spare file folder is all = all.1 file is
  opened_of Selector file folder is all = all.2 file is

  -- a file was taken out and put back after a call
  pub opened_again : (part : Part) (before after : F) (folder without folder_now : Folder O F)
      → ghosts.name after ≡ ghosts.name before
      → (IsTrue (ghosts.is_locked before) → IsTrue (ghosts.is_locked after)) → file_of part folder ≡ Some before
      → without ≡ with_file part None folder → folder_now ≡ with_file part (Some after) without
      → AreOpened ghosts folder → AreOpened ghosts folder_now
  opened_again part before after folder without folder_now name locked here taken put all =
      subst (AreOpened ghosts) (sym put) (opened_with part after without
      (opened_still ghosts part before after name locked (opened_of part before folder here all))
      (subst (AreOpened ghosts) (sym taken) (opened_without part folder all)))
