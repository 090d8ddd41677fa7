-- What an event of a site needs so that it isn't refused as unfit.
use Rattle.std.specs.Prelude.{◌≡◌, ◌≢◌, ℕ, ◌-◌, ◌<◌, ◌≤◌, true, false, List, length, Option, None, Some}
use Rattle.std.specs.List.{AllByRecursion}
use Rattle.locus_ids.specs.Sizes.{inodes_max, file_bytes_max, pack_pages}
use Rattle.locus_ids.specs.declared.config.Config.{Config}
use Rattle.locus_ids.specs.declared.sites.Links.{Links}
use Rattle.file_content.specs.Pages.{has_page, pages_of}
use Rattle.stored_versions.specs.Versions.{IsVersion}
use Rattle.packet_order.specs.Counts.{FitsIfCounted}
use Rattle.wire_messages.specs.declared.body.Body.{Body}
use Rattle.wire_messages.specs.declared.body.Body.TheVariants as body
use Rattle.role_steps.specs.Adoption.{is_ready, fits_own}
use Rattle.role_steps.specs.Epochs.{frame_in, leaves, passes_over, starts_merge, starts_part}
use Rattle.role_steps.specs.Pulling.{bytes_in, wanted_pages}
use Rattle.role_steps.specs.Storage.{content_of, copy_of, copy_pages}
use Rattle.role_steps.specs.Tables.{total}
use Rattle.role_steps.specs.Views.{Frame, Store, SiteView, Event, Calls, Receives, Ticks, Parts, Merges, GivesUp}
use Rattle.role_steps.specs.declared.pulls.Pull.{Pull}
use Rattle.role_steps.specs.declared.rounds.InEpoch.{InEpoch}
use Rattle.role_steps.specs.declared.synchronizing.SyncTable.{SyncTable}
use Rattle.the_run.specs.Kept.{Among}
use Rattle.the_run.specs.Steps.{adopts_in, is_dropped, step, takes, takes_call, tries_at}
use Rattle.site_packs.specs.Packs.{has_group}
use Rattle.site_parts.specs.of_site_tables.Inodes.{AreInodes}
use Rattle.site_parts.specs.Fitting.{CanTakeAtStore}
use Rattle.site_parts.specs.Roles.{mending_by}
use Rattle.site_node.specs.Taking.{IsSpent, is_tried}

-- ---- a packet of the epoch ----

-- a notice is of a version that is no longer than a file may be
abbrev pub IsShort : Body → Type 0
IsShort (body.Notify file kind set size stamp vector holder) = size ≤ file_bytes_max
IsShort _ = Unit {0}

-- what a member sent may be taken in the epoch of the frame, at a site with packs of these groups on the disk of this site
pub record CanTakeInside (f : Frame) (groups : List ℕ) (home from : ℕ) (b : Body) (v : SiteView) : Type 0 where
  pub pulls : IsShort b
  pub stores : CanTakeAtStore f (mending_by v.tables v.users v.store) v.tables groups home from b v.store

abbrev pub CanTakeIn : Config → ℕ → List ℕ → ℕ → ℕ → Body → SiteView → Option InEpoch → Type 0
CanTakeIn c me groups home from b v None = Unit {0}
CanTakeIn c me groups home from b v (Some e) = CanTakeInside (frame_in c me v.boot e) groups home from b v

-- so may the packet of an event, where it isn't dropped
abbrev pub CanTake : Config → ℕ → List ℕ → ℕ → SiteView → Event → Type 0
CanTake c me groups home v (Receives p) = is_dropped p v ≡ false → CanTakeIn c me groups home p.from p.body v v.epoch
CanTake c me groups home v _ = Unit {0}

-- ---- an adoption ----

-- The pulled version may be kept in a pack of its group: its inode is one, a slot may say what it is, of each page that wasn't pulled the
-- site's own copy has the bytes, and there is room for those that were.
pub record CanKeep (groups : List ℕ) (s : Store) (p : Pull) : Type 0 where
  pub group : has_group groups p.file.group ≡ true
  pub low : 1 ≤ p.file.ino
  pub high : p.file.ino ≤ inodes_max
  pub version : IsVersion (record { kind = p.kind; set = p.set; stamp = p.stamp; vector = p.vector }) p.size
  pub kept : (page : ℕ) → page < pages_of p.size → has_page (wanted_pages p) page ≡ false → bytes_in p.size page ≤ bytes_in (length (content_of (copy_of s p.file))) page
  pub room : length (wanted_pages p) ≤ pack_pages - total (copy_pages p.file.group) s.copies

-- each pull that is ready and fits the site's own copy may be adopted
abbrev pub CanAdopt : List ℕ → SiteView → Type 0
CanAdopt groups v = (p : Pull) → Among p v.pulls → is_ready v p ≡ true → fits_own p (copy_of v.store p.file) ≡ true → CanKeep groups v.store p

-- in the view in which an adoption is tried: at a Notify, a Page and a Delta that have been taken, and at a tick
abbrev pub CanTry : Config → ℕ → List ℕ → Links → SiteView → Event → Type 0
CanTry c me groups links v (Receives p) = is_dropped p v ≡ false → is_tried p.body ≡ true → CanAdopt groups (takes c me links p p.body v).view
CanTry c me groups links v Ticks = CanAdopt groups v
CanTry c me groups links v _ = Unit {0}

-- ---- the end of the event ----

-- the view before the end of the event
abbrev pub acted : Config → ℕ → Links → SiteView → Event → SiteView
acted c me links v (Calls process words) = (takes_call c me process words v).view
acted c me links v (Receives p) = (tries_at c me p.body (takes c me links p p.body v).view).view
acted c me links v Ticks = (adopts_in c me v).view
acted c me links v Parts = (starts_part me links v).view
acted c me links v Merges = (starts_merge me links v).view
acted c me links v GivesUp = (leaves me v).view

-- the numbers in all tables are those of inodes
abbrev pub HasInodes : List SyncTable → Type 0
HasInodes tables = AllByRecursion AreInodes tables

-- so are those of the tables by which mends start then
abbrev pub CanMend : Config → ℕ → Links → SiteView → Event → Type 0
CanMend c me links v (Receives p) = is_dropped p v ≡ false → HasInodes (passes_over c me links (acted c me links v (Receives p))).view.tables
CanMend c me links v e = HasInodes (passes_over c me links (acted c me links v e)).view.tables

-- a new epoch has a number
abbrev pub HasNumber : SiteView → Event → Type 0
HasNumber v (Receives p) = IsSpent p.body → ⊥
HasNumber v Parts = v.promised.number ≢ 4294967295
HasNumber v Merges = v.promised.number ≢ 4294967295
HasNumber v _ = Unit {0}

-- ---- an event ----

-- What the event needs at a site with packs of these groups on the disk of this site: its packet may be taken, what is pulled and ready may
-- be adopted, mends rest on tables of inodes, a new epoch has a number, and all that is sent is of the format.
pub record CanAct (c : Config) (me : ℕ) (groups : List ℕ) (home : ℕ) (links : Links) (v : SiteView) (e : Event) : Type 0 where
  pub taking : CanTake c me groups home v e
  pub adopting : CanTry c me groups links v e
  pub mending : CanMend c me links v e
  pub numbering : HasNumber v e
  pub sending : AllByRecursion FitsIfCounted (step c me links v e).sent
