-- The room that a storage site has is the tree's.
use Rattle.std.proofs.Common.{◌≡◌, ℕ, ◌+◌, ◌-◌, ◌==◌, ◌<◌, Bool, true, false, List, filter, length, Option, Some, None, refl, sym, ap, ◌∙◌, arith, nat_lt}
use Rattle.std.proofs.lemmas.Bool.Decides.{nat_tests}
use Rattle.std.specs.List.{sum_by}
use Rattle.std.specs.Option.{option_map}
use Rattle.locus_ids.specs.declared.config.Config.{Config}
use Rattle.locus_ids.specs.declared.ids.Stamp.{Stamp}
use Rattle.locus_ids.specs.Sizes.{inode_span, pack_pages}
use Rattle.commit_graph.specs.declared.history.Version.{Version}
use Rattle.file_content.specs.Pages.{pages_of}
use Rattle.site_laws.specs.of_role_steps.Storage.{changed_pages, content_of, copy_of, copy_pages, free_pages}
use Rattle.site_laws.specs.of_role_steps.Tables.{total}
use Rattle.site_laws.specs.of_role_steps.Views.{Frame, Store}
use Rattle.site_laws.specs.of_role_steps.declared.copies.FileCopy.{FileCopy}
use Rattle.tree_laws.specs.of_the_run.Worlds.{Line}
use Rattle.tree_model.specs.declared.copy.HeldCopy.{HeldCopy}
use Rattle.tree_model.specs.Files.{version_of}
use Rattle.tree_model.specs.Histories.{held, history, stamped_content}
use Rattle.tree_model.specs.State.{TreeState, held_at}
use Rattle.tree_model.specs.Tree.{tree_of}
use Rattle.tree_model.specs.Working.{free_pages as tree_free, held_pages, pages_of_copy}
use Rattle.tree_laws.specs.Doing.{FrameFact, StoreHeld}
use Rattle.tree_laws.specs.Following.{IsFollowed}
use Rattle.tree_laws.specs.Printed.{entries}
use Rattle.tree_laws.specs.Stores.{CopiesAreHeld, copy_for}
use Rattle.tree_laws.proofs.Rows.{followed_rows}
use Rattle.tree_laws.proofs.Orders.Alone.{tree_named}
use Rattle.tree_laws.proofs.Orders.Standing.{At}
use Rattle.store_laws.proofs.Holdings.Copies.{copies_are}
use Rattle.store_laws.proofs.Holdings.Made.{held_stand}
use Rattle.store_laws.specs.Holdings.RoomRests.{RoomRests}
use Rattle.store_laws.proofs.Holdings.RoomRoomInstances.{changed_same}
use Rattle.store_laws.proofs.Holdings.RoomStoreCopies.{copies_narrow, none_wide, store_amounts, store_at_key, store_single, store_sum}
use Rattle.store_laws.proofs.Holdings.RoomSums.{amount_at, same_sum}
use Rattle.store_laws.proofs.Holdings.RoomTreeCopies.{copies_apart, held_amounts, held_at_key, held_single, held_sum, numbers_tell, same_number}

module _ (c : Config) (trace : List Line) (f : Frame) (s : Store) (followed : IsFollowed c trace) (rests : RoomRests c trace) (frame : FrameFact c trace f) (copies : CopiesAreHeld c trace f.me s) (g : ℕ) where
  abbrev t : TreeState
  t = tree_of c f.epoch g (entries trace)

  abbrev h : List Version
  h = history c (entries trace)

  inside_same : (i : ℕ) → held_at t f.me i ≡ held c (entries trace) f.me (At g i)
  inside_same i = (copies_are c (entries trace) f.epoch g f.me i).held_is frame.inside

  -- the content of the copy is that of the version that the site has in the epoch
  content_same : (i : ℕ) → i < inode_span → length (content_of (copy_of s (At g i))) ≡ length (stamped_content h (At g i) (held_at t f.me i))
  content_same i small = ap (λ (o : Option FileCopy). length (content_of o)) (copies.are (At g i) small) ∙ (over (held c (entries trace) f.me (At g i)) ∙ ap (λ (o : Option Stamp). length (stamped_content h (At g i) o)) (sym (inside_same i)))
    where
      over : (o : Option Stamp) → length (content_of (option_map (copy_for (At g i)) (option_map (version_of c (entries trace) (At g i)) o))) ≡ length (stamped_content h (At g i) o)
      over None = refl
      over (Some v) = refl

  -- a number that hasn't 16 bits is no file's
  none_held : (i : ℕ) → (i < inode_span → ⊥) → pages_of (length (stamped_content h (At g i) (held_at t f.me i))) ≡ 0
  none_held i wide = over (held_at t f.me i) refl
    where
      over : (o : Option Stamp) → held_at t f.me i ≡ o → pages_of (length (stamped_content h (At g i) o)) ≡ 0
      over None e = refl
      over (Some v) e = absurd (wide (rests.narrow (At g i) v (held_stand c (entries trace) (followed_rows c trace followed) f.epoch (At g i) f.me v e)))

  alike : (i : ℕ) → amount_at same_number numbers_tell i (store_amounts g s.copies) ≡ amount_at same_number numbers_tell i (held_amounts h g f.me t.copies)
  alike i = at (nat_lt i inode_span) refl ∙ sym (held_at_key h g f.me i t.copies)
    where
      is_small : nat_lt i inode_span ≡ true → i < inode_span
      is_small e = grind (arith, nat_tests)

      is_wide : nat_lt i inode_span ≡ false → i < inode_span → ⊥
      is_wide e p = grind (arith, nat_tests)

      at : (b : Bool) → nat_lt i inode_span ≡ b → amount_at same_number numbers_tell i (store_amounts g s.copies) ≡ pages_of (length (stamped_content h (At g i) (held_at t f.me i)))
      at true e = store_at_key g i s.copies (copies_narrow c trace f.me s copies) (is_small e) ∙ ap pages_of (content_same i (is_small e))
      at false e = none_wide g i s.copies (copies_narrow c trace f.me s copies) (is_wide e) ∙ sym (none_held i (is_wide e))

  held_same : total (copy_pages g) s.copies ≡ held_pages h t f.me
  held_same = store_sum g s.copies
      ∙ (same_sum same_number numbers_tell (store_amounts g s.copies) (held_amounts h g f.me t.copies) (store_single g s.copies copies.ascends) (held_single h g f.me t.copies (copies_apart c (entries trace) f.epoch g)) alike
      ∙ (sym (held_sum h g f.me t.copies) ∙ sym group_same))
    where
      group_same : held_pages h t f.me ≡ sum_by (pages_of_copy h g) (filter (λ (x : HeldCopy). x.site == f.me) t.copies)
      group_same = ap (λ (n : ℕ). sum_by (pages_of_copy h n) (filter (λ (x : HeldCopy). x.site == f.me) t.copies)) (tree_named c f.epoch g (entries trace)).1

pub room_same : (c : Config) (trace : List Line) (f : Frame) (s : Store) → IsFollowed c trace → RoomRests c trace → FrameFact c trace f → StoreHeld c f trace s → (g : ℕ) → free_pages s g ≡ tree_free (history c (entries trace)) (tree_of c f.epoch g (entries trace)) f.me
room_same c trace f s followed rests frame store g = ap (λ (n : ℕ). pack_pages - (n + total (changed_pages g) s.instances)) (held_same c trace f s followed rests frame store.copies g)
    ∙ ap (λ (n : ℕ). pack_pages - (held_pages (history c (entries trace)) (tree_of c f.epoch g (entries trace)) f.me + n)) (changed_same c trace f s followed rests store.instances g)
