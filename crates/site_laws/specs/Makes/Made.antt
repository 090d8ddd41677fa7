-- What disks and the packets that were sent tell of files that are being made.
use Rattle.std.specs.Prelude.{ℕ, ◌≡◌, ◌≤◌, ◌⊎◌, List, [], ◌∷◌, Some}
use Rattle.locus_ids.specs.declared.ids.EpochId.{EpochId}
use Rattle.locus_ids.specs.declared.ids.FileId.{FileId}
use Rattle.locus_ids.specs.declared.ids.Mode.{Mode}
use Rattle.locus_ids.specs.declared.ids.Mode.TheVariants as mode
use Rattle.locus_ids.specs.declared.config.Config.{Config}
use Rattle.trace_book.specs.declared.record.Record.{Record}
use Rattle.trace_book.specs.declared.record.Record.TheVariants as says
use Rattle.wire_messages.specs.declared.packet.Packet.{Packet}
use Rattle.wire_messages.specs.declared.body.Body.{Body}
use Rattle.wire_messages.specs.declared.body.Body.TheVariants as body
use Rattle.role_steps.specs.Own.{Every}
use Rattle.role_steps.specs.Views.{SiteView, Told, Shown, Begins, serial_key, all_groups, all_sites}
use Rattle.role_steps.specs.declared.copies.FileCopy.{FileCopy}
use Rattle.role_steps.specs.declared.synchronizing.SyncTable.{SyncTable}
use Rattle.the_run.specs.Kept.{Among}
use Rattle.the_run.specs.Laws.{boot_on}
use Rattle.the_run.specs.Worlds.{World, Place, Running, Numbered, place_at}
use Rattle.site_laws.specs.Vectors.Held.{copies_on}
use Rattle.site_laws.specs.Vectors.Written.{past_of}
use Rattle.site_laws.specs.Vectors.HistoryCommits.{NumbersFit}
use Rattle.site_laws.specs.Locks.Going.{WasBegunAt, InstancesGoOn}
use Rattle.site_laws.specs.Packs.Packs.{HasPack, ToldPacked}
use Rattle.site_laws.specs.Packs.Making.{WasCommittedAt, FilesAreMadeAtHome, HomesCommitFirst}
use Rattle.site_laws.specs.Makes.Fresh.{NumbersAreFresh}
use Rattle.site_laws.specs.Makes.Holding.{WasReserved}

-- ---- disks ----

-- one of the copies is of the file
abbrev pub HasCopy : FileId → List FileCopy → Type 0
HasCopy file [] = ⊥
HasCopy file (x ∷ xs) = (x.file ≡ file) ⊎ HasCopy file xs

-- one of the groups that a cluster may have
abbrev pub IsListed : ℕ → Type 0
IsListed group = Among group all_groups

-- a file that the site has committed, or a root of which it has a pack
abbrev pub IsOwned : Config → List Told → ℕ → FileId → Type 0
IsOwned c past s file = WasCommittedAt past s file ⊎ ((file.ino ≡ 1) × IsListed file.group × HasPack c file.group s)

-- a disk has a copy of each of them
abbrev pub DiskHas : Config → List Told → ℕ → List FileCopy → Type 0
DiskHas c past s copies = (file : FileId) → IsOwned c past s file → HasCopy file copies

-- ---- packets ----

abbrev pub AsksSo : ℕ → Mode → Body → Type 0
AsksSo key m (body.OpenSs inst file mode set kind base vector parents) = (serial_key inst ≡ key) × (mode ≡ m)
AsksSo key m _ = ⊥

-- among the packets is one that asks this storage site in this epoch to open the instance of this key in this mode
pub record IsAskedThere (packets : List Numbered) (s : ℕ) (e : EpochId) (key : ℕ) (m : Mode) : Type 0 where
  pub opening : Numbered
  pub was_sent : Among opening packets
  pub epoch_is : opening.packet.epoch ≡ e
  pub to_is : opening.packet.to ≡ s
  pub asks : AsksSo key m opening.packet.body

-- what was begun was asked so, and for a make the number was reserved
pub record IsBegunSo (packets : List Numbered) (past : List Told) (s : ℕ) (e : EpochId) (key : ℕ) (file : FileId) : Type 0 where
  pub how : Mode
  pub asked : IsAskedThere packets s e key how
  pub reserved : how ≡ mode.Make → WasReserved past s e key file

-- of one of the sites, in a boot of it
pub record IsSender (p : Packet) : Type 0 where
  pub site : Among p.from all_sites
  pub boot : 1 ≤ p.from_boot

abbrev pub NumberedSender : Numbered → Type 0
NumberedSender x = IsSender x.packet

pub record IsPlaced (s : ℕ) (p : Place) : Type 0 where
  pub site : Among s all_sites
  pub boot : 1 ≤ boot_on (Some p)

pub record WorldSent (w : World) : Type 0 where
  pub places : (s : ℕ) (p : Place) → place_at w s ≡ Some p → IsPlaced s p
  pub senders : Every NumberedSender w.sent
  pub underway : Every NumberedSender w.underway

-- ---- the world ----

-- laws of every run about what was told, on which the others rest
pub record Lawful (c : Config) (past : List Told) : Type 0 where
  pub goes : InstancesGoOn past
  pub homes : HomesCommitFirst past
  pub made : FilesAreMadeAtHome past
  pub packed : Every (ToldPacked c) past
  pub fit : NumbersFit past

-- each instance that was begun
abbrev pub AllBegunSo : List Numbered → List Told → Type 0
AllBegunSo packets past = (s : ℕ) (e : EpochId) (key : ℕ) (file : FileId) → WasBegunAt past s e key file → IsBegunSo packets past s e key file

abbrev pub IsNoBegin : Told → Type 0
IsNoBegin (Begins s e inst file) = ⊥
IsNoBegin _ = Unit {0}

-- at each time, but between a begin and what follows it
abbrev pub AlwaysBegunSo : List Numbered → List Told → Type 0
AlwaysBegunSo packets [] = Unit {0}
AlwaysBegunSo packets (x ∷ older) = (IsNoBegin x → AllBegunSo packets (x ∷ older)) × AlwaysBegunSo packets older

pub record WorldMade (c : Config) (w : World) : Type 0 where
  pub low : (s : ℕ) (p : Place) → place_at w s ≡ Some p → 1 ≤ s
  pub begun : AllBegunSo w.sent (past_of w.trace)
  pub always : AlwaysBegunSo w.sent (past_of w.trace)
  pub reserved : (s : ℕ) (e : EpochId) (key : ℕ) (file : FileId) → WasReserved (past_of w.trace) s e key file → IsAskedThere w.sent s e key mode.Make
  pub underway : Every (λ (x : Numbered). Among x w.sent) w.underway

abbrev pub StartRecord : Record → Type 0
StartRecord (says.Start e group brought) = IsListed group
StartRecord _ = Unit {0}

-- a group that starts is listed
abbrev pub StartListed : Told → Type 0
StartListed (Shown r) = StartRecord r
StartListed _ = Unit {0}

pub record WorldListed (w : World) : Type 0 where
  pub starts : Every StartListed (past_of w.trace)
  pub tables : (s : ℕ) (v : SiteView) → place_at w s ≡ Some (Running v) → Every (λ (t : SyncTable). IsListed t.group) v.tables

pub record WorldFresh (c : Config) (w : World) : Type 0 where
  pub disks : (s : ℕ) (p : Place) → place_at w s ≡ Some p → DiskHas c (past_of w.trace) s (copies_on p)
  pub fresh : NumbersAreFresh (past_of w.trace)
