-- A book of what sites of a run have done with instances, each in one boot, and what its notes mean.
use Rattle.std.specs.Prelude.{ℕ, ◌≡◌, ◌≤◌, ◌⊎◌, List, Some}
use Rattle.locus_ids.specs.declared.ids.EpochId.{EpochId}
use Rattle.locus_ids.specs.declared.ids.FileId.{FileId}
use Rattle.locus_ids.specs.declared.ids.Serial.{Serial}
use Rattle.locus_ids.specs.declared.ids.Mode.{Mode}
use Rattle.locus_ids.specs.declared.ids.Mode.TheVariants as mode
use Rattle.locus_ids.specs.declared.sites.Members.{Members}
use Rattle.locus_ids.specs.declared.config.Config.{Config}
use Rattle.locus_ids.specs.Sizes.{sites_max}
use Rattle.wire_messages.specs.declared.body.Opening.{Opening}
use Rattle.role_steps.specs.Opens.{mode_of}
use Rattle.role_steps.specs.Views.{boot_in, serial_key, sync_site}
use Rattle.the_run.specs.Kept.{Among}

pub data Note : Type 0 where
  -- the epoch has these members
  Listed : EpochId → Members → Note
  -- a using site asks an open: the site, its boot number, the serial number, the file, and how
  Asked : ℕ → ℕ → ℕ → FileId → Opening → Note
  -- an instance on a file of this group: its synchronization site, with its boot number, asks this storage site to open it
  Placed : EpochId → Serial → ℕ → ℕ → ℕ → ℕ → Note
  -- a storage site, with its boot number, begins the instance on this file
  Began : EpochId → Serial → ℕ → ℕ → FileId → Note

abbrev pub Book : Type 0
Book = List Note

-- ---- whose a note is ----

-- the note is of what this boot of this site did
abbrev pub IsOf : ℕ → ℕ → Note → Type 0
IsOf s boot (Listed e members) = (e.site ≡ s) × (e.boot ≡ boot)
IsOf s boot (Asked us b serial file how) = (us ≡ s) × (b ≡ boot)
IsOf s boot (Placed e inst group css b ss) = (css ≡ s) × (b ≡ boot)
IsOf s boot (Began e inst ss b file) = (ss ≡ s) × (b ≡ boot)

-- ---- what a note means ----

-- in the epoch of these members the using site of the instance asked this open under its serial number
abbrev pub AskedBy : Book → Members → Serial → FileId → Opening → Type 0
AskedBy book members inst file how = Among (Asked inst.us (boot_in members.boot inst.us) inst.serial file how) book

-- the file is the one that was asked; that of a make is of the group that was asked
abbrev pub IsFor : Mode → FileId → FileId → Type 0
IsFor mode.Make file asked = file.group ≡ asked.group
IsFor _ file asked = file ≡ asked

-- the synchronization site of the group of the file that was asked placed it there
pub record PlacedFact (c : Config) (book : Book) (e : EpochId) (inst : Serial) (group css boot : ℕ) : Type 0 where
  pub members : Members
  pub listed : Among (Listed e members) book
  pub file : FileId
  pub how : Opening
  pub asked : AskedBy book members inst file how
  pub group_is : file.group ≡ group
  pub css_is : sync_site c members group ≡ Some css
  pub boot_is : boot ≡ boot_in members.boot css

-- the site was asked to open it, by an open that was asked of this file
pub record BeganFact (book : Book) (e : EpochId) (inst : Serial) (ss boot : ℕ) (file : FileId) : Type 0 where
  pub members : Members
  pub listed : Among (Listed e members) book
  pub file_asked : FileId
  pub how : Opening
  pub asked : AskedBy book members inst file_asked how
  pub is_for : IsFor (mode_of how) file file_asked
  pub css : ℕ
  pub css_boot : ℕ
  pub placed : Among (Placed e inst file_asked.group css css_boot ss) book
  pub boot_is : boot ≡ boot_in members.boot ss

abbrev pub NoteFact : Config → Book → Note → Type 0
NoteFact c book (Listed e members) = Unit {0}
NoteFact c book (Asked us b serial file how) = us ≤ sites_max
NoteFact c book (Placed e inst group css b ss) = PlacedFact c book e inst group css b
NoteFact c book (Began e inst ss b file) = BeganFact book e inst ss b file

-- ---- what stands once ----

pub record Once (book : Book) : Type 0 where
  -- an epoch has one list of members
  pub listed : (e : EpochId) (m n : Members) → Among (Listed e m) book → Among (Listed e n) book → m ≡ n
  -- a serial number is of one open in a boot of a site
  pub asked : (us boot serial : ℕ) (f g : FileId) (h i : Opening) → Among (Asked us boot serial f h) book → Among (Asked us boot serial g i) book → (f ≡ g) × (h ≡ i)
  -- in an epoch an instance is placed at one storage site
  pub placed : (e : EpochId) (a b : Serial) (group css boot ss other_group other_css other_boot other : ℕ) → serial_key a ≡ serial_key b →
      Among (Placed e a group css boot ss) book → Among (Placed e b other_group other_css other_boot other) book → ss ≡ other
  -- and begun on one file
  pub began : (e : EpochId) (a b : Serial) (ss boot other other_boot : ℕ) (f g : FileId) → serial_key a ≡ serial_key b →
      Among (Began e a ss boot f) book → Among (Began e b other other_boot g) book → f ≡ g

pub record Sound (c : Config) (book : Book) : Type 0 where
  pub notes : (n : Note) → Among n book → NoteFact c book n
  pub once : Once book

-- ---- how a book grows ----

-- the later book has all notes of the earlier one, and new ones of one sort alone
pub record Grown (New : Note → Type 0) (old new : Book) : Type 0 where
  pub leads : (n : Note) → Among n old → Among n new
  pub fresh : (n : Note) → Among n new → Among n old ⊎ New n
