-- What the role reads in the heads of copies, and which numbers its instances make.
use Rattle.std.specs.Prelude.{ℕ, nat_lt, Bool, false, ◌&&◌, cond, List, [], ◌∷◌, Option, Some, None}
use Rattle.locus_ids.specs.declared.ids.Stamp.{Stamp}
use Rattle.locus_ids.specs.declared.refusal.Refusal.TheVariants as refusal
use Rattle.commit_graph.specs.Versions.{same_stamp}
use Rattle.file_content.specs.Pages.{pages_of}
use Rattle.wire_messages.specs.declared.packet.Packet.{Packet}
use Rattle.wire_messages.specs.declared.body.Body.TheVariants as body
use Rattle.wire_messages.specs.declared.body.OpenedAs.TheVariants as opened
use Rattle.wire_messages.specs.declared.body.ReportedCopy.{ReportedCopy}
use Rattle.role_steps.specs.Views.{Frame, to_sync}
use Rattle.role_steps.specs.Storage.{StoreRequest, has_page, is_open_in}
use Rattle.role_steps.specs.declared.copies.FileCopy.{FileCopy}
use Rattle.role_steps.specs.declared.instances.Instance.{Instance}
use Rattle.store_instances.specs.Stores.{is_make}

-- what is said of a copy is of this version and has this page
abbrev pub head_page : Stamp → ℕ → Option ReportedCopy → Bool
head_page stamp page None = false
head_page stamp page (Some c) = same_stamp c.stamp stamp && nat_lt page (pages_of c.size)

-- the copy is of this version and has this page
abbrev pub has_page_of : Stamp → ℕ → Option FileCopy → Bool
has_page_of stamp page None = false
has_page_of stamp page (Some x) = has_page stamp page x

-- the number that an instance of the group makes, if it does
abbrev pub made_ino : ℕ → Instance → List ℕ
made_ino group i = cond (is_open_in group i && is_make i.mode) (i.file.ino ∷ []) []

-- a make that finds no number
abbrev pub no_inode_packets : Frame → StoreRequest → List Packet
no_inode_packets f r = to_sync f r.file.group (body.Opened r.inst (opened.No refusal.NoInode))
