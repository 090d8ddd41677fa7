-- The disk of a stopped site in the run, as a function of the image, and what the run has left of a boot that was cut off.
use Rattle.std.specs.Prelude.{ℕ, List}
use Rattle.disk_model.specs.declared.script.Leave.{Leave as DiskLeave}
use Rattle.disk_model.specs.declared.script.Leave.TheVariants as left
use Rattle.disk_model.specs.Cut.{Cut as DiskCut, Stops as StopsDisk, Fails as FailsDisk}
use Rattle.schedule_lines.specs.declared.line.Leave.{Leave}
use Rattle.schedule_lines.specs.declared.line.Leave.TheVariants as leave
use Rattle.the_run.specs.Disks.{Disk, Label, Armed, Cut, Stops, Fails}
use Rattle.site_label.specs.Cutting.{LabelState}
use Rattle.site_packs.specs.Copies.{copies_on}
use Rattle.site_packs.specs.Cutting.{both_open_on}
use Rattle.site_disk.specs.Image.{label_on}
use Rattle.site_disk.specs.Boots.{label_left, files_left}

-- the same label as the run has it
abbrev pub as_label : LabelState → Label
as_label l = record { boot = l.boot; both_open = l.both_open }

-- what the disk of a site with packs of these groups holds
abbrev pub disk_on : List ℕ → List ℕ → Disk
disk_on groups image = record { copies = copies_on groups image; both_open = both_open_on groups image; label = as_label (label_on image) }

-- what a line leaves, as a disk has it
abbrev pub as_leave : Leave → DiskLeave
as_leave leave.Old = left.Old
as_leave leave.New = left.New
as_leave (leave.Byte byte) = left.Byte byte

abbrev pub as_cut : Cut → DiskCut
as_cut (Stops l) = StopsDisk (as_leave l)
as_cut Fails = FailsDisk

-- what is left of a disk whose boot is cut off as it is armed
abbrev pub cut_boot : Armed → Disk → Disk
cut_boot a d = record {
  copies = d.copies;
  both_open = files_left d.label.both_open (as_cut a.how) a.left d.both_open;
  label = as_label (label_left d.label.both_open (as_cut a.how) a.left d.label.boot);
}
