-- The copy that a commit makes of what it takes.
use Rattle.std.proofs.Common.{◌≡◌, ℕ, ◌≤◌, ◌<◌, Bool, false, List, get_or, sym, ap, subst, ◌∙◌, arith}
use Rattle.std.specs.Prelude.{◌==◌, Option, slice_index_or}
use Rattle.locus_ids.specs.Sizes.{content_pages_max, content_tables_max, pack_tables}
use Rattle.file_content.specs.Pages.{pages_of, tables_of}
use Rattle.pack_layout.specs.declared.half.Half.{Half}
use Rattle.pack_layout.specs.declared.slot.Slot.{Slot}
use Rattle.pack_layout.specs.Layout.{numbers_of}
use Rattle.new_contents.specs.of_shadow_pages.Working.{Working}
use Rattle.stored_versions.specs.declared.new_version.NewVersion.{NewVersion}
use Rattle.pack_slots.specs.declared.inode_copy.InodeCopy.{InodeCopy}
use Rattle.pack_slots.specs.Copies.{numbers_in, copy_of, AreCopies, AreUses}
use Rattle.inode_pack.specs.Committing.{is_free, is_free_table, is_table_over, table_in, Takes, TakesPages, TakesTables, Makes, next_half, next_turn}
use Rattle.inode_pack.proofs.NewCopies.{takes_alike}
use Rattle.inode_pack.proofs.Taking.{takes_same}

module _ (copies : List (Option InodeCopy)) (uses : List ℕ) (free ino : ℕ) (o : Option InodeCopy) (version : NewVersion) (w : Working) (are : AreCopies copies) (used : AreUses copies uses free) (at : o ≡ copy_of copies ino)
    (pages more : List ℕ) (few : pages_of w.size ≤ content_pages_max) (takes : TakesPages (λ p. get_or uses p 0 == 0) o w (numbers_of pages more))
    (tables : List ℕ) (slot : Slot) (is : slot ≡ record { turn = next_turn o; kind = version.kind; ino = ino; set = version.set; size = w.size; stamp = version.stamp; vector = version.vector; pages = pages; tables = tables })
    (half : Half) where
  abbrev made : InodeCopy
  made = record { half = half; slot = slot; more = more }

  -- its page numbers are those that are taken
  pub numbers_are : numbers_of pages more ≡ numbers_in (record { half = half; slot = slot; more = more })
  numbers_are = sym (ap (λ (s : Slot). numbers_of s.pages more) is)

  says : slot ≡ record { turn = next_turn (copy_of copies ino); kind = version.kind; ino = ino; set = version.set; size = w.size; stamp = version.stamp; vector = version.vector; pages = slot.pages; tables = slot.tables }
  says =
      let front = sym (ap (λ (s : Slot). s.pages) is) in
      let own = sym (ap (λ (s : Slot). s.tables) is) in
      is ∙ (λ i. record { turn = next_turn (at i); kind = version.kind; ino = ino; set = version.set; size = w.size; stamp = version.stamp; vector = version.vector; pages = front i; tables = own i })

  pub makes_copy : (marks : List Bool) → ((k : ℕ) → k < content_tables_max → slice_index_or marks k false ≡ is_table_over o w k)
      → Takes content_tables_max pack_tables (tables_of (pages_of w.size)) (is_free_table copies) (table_in o) (λ k. slice_index_or marks k false) tables → half ≡ next_half o
      → Makes (is_free copies) (is_free_table copies) (copy_of copies ino) ino version w (record { half = half; slot = slot; more = more })
  makes_copy marks same taken place =
      let over : TakesTables (is_free_table copies) o w tables = takes_same content_tables_max pack_tables (is_free_table copies) (table_in o) (tables_of (pages_of w.size)) (λ k. slice_index_or marks k false) (is_table_over o w) tables
      (λ k lt. same k (omega (arith, lt, few))) taken in
      record {
        place = place ∙ ap next_half at;
        says = says;
        takes = subst (λ (l : List ℕ). TakesPages (is_free copies) (copy_of copies ino) w l) numbers_are (takes_alike copies uses free ino o w (numbers_of pages more) are used at takes);
        tables = subst (λ (l : List ℕ). TakesTables (is_free_table copies) (copy_of copies ino) w l) (sym (ap (λ (s : Slot). s.tables) is)) (subst (λ (c : Option InodeCopy). TakesTables (is_free_table copies) c w tables) at over);
      }
