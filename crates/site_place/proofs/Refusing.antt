-- Why an event doesn't happen, or a disk isn't formatted or booted.
use Rattle.std.proofs.Common.{◌≡◌, ℕ, List, sym, ◌∙◌, ap, subst, inr, refl}
use Rattle.std.specs.Prelude.{Option, None, Some, Result, Err}
use Rattle.std.proofs.lemmas.Bool.{false≢true}
use Rattle.locus_ids.specs.declared.config.Config.{Config}
use Rattle.pack_slots.specs.declared.mount_fault.MountFault.{MountFault}
use Rattle.pack_slots.specs.declared.mount_fault.MountFault.TheVariants as mount
use Rattle.site_label.specs.Image.{label_number}
use Rattle.site_label.specs.Label.{HasBoot}
use Rattle.site_label.proofs.Image.{boot_there}
use Rattle.site_packs.specs.Packs.{groups_at}
use Rattle.site_packs.specs.Mounting.{IsFirstCause}
use Rattle.site_packs.proofs.Mounts.{passing_only}
use Rattle.disk_model.specs.declared.disk.DiskFault.{DiskFault}
use Rattle.disk_model.specs.declared.disk.DiskFault.TheVariants.{Failed}
use Rattle.disk_model.specs.declared.script.Script.{Script}
use Rattle.disk_model.specs.declared.script_disk.ScriptDisk.{ScriptDisk}
use Rattle.disk_model.specs.Disk.{Passing}
use Rattle.disk_model.specs.Script.{passing_of}
use Rattle.disk_model.specs.ScriptDisk.{moment}
use Rattle.wire_messages.specs.Outboxes.{Outgoing}
use Rattle.role_steps.specs.Views.{DiskWrite}
use Rattle.site_packs.specs.declared.faults.WriteSize.{WriteSize}
use Rattle.disk_model.specs.Moments.{TellsMany}
use Rattle.site_disk.specs.declared.format_fault.FormatFault.{FormatFault}
use Rattle.site_disk.specs.declared.format_fault.FormatFault.TheVariants.{Disk as FormatDisk}
use Rattle.site_disk.specs.Formats.{TellsFormat}
use Rattle.site_disk.specs.Boots.{IsCause}
use Rattle.site_disk.specs.declared.boot_fault.BootFault.{BootFault}
use Rattle.site_disk.specs.declared.boot_fault.BootFault.TheVariants.{Disk, NotALabel, Spent, NotAPack, BadSlot, SharedTable, SharedPage, NoMemory}
use Rattle.the_run.specs.Disks.{Armed}
use Rattle.site_node.specs.declared.node.SiteNode.{SiteNode}
use Rattle.site_node.specs.of_site_parts.declared.fault.NodeFault.{NodeFault}
use Rattle.site_node.specs.of_site_parts.declared.fault.NodeFault.TheVariants as node
use Rattle.site_node.specs.Writing.{EventWrites}
use Rattle.site_place.specs.declared.script.DiskScript.{DiskScript}
use Rattle.site_place.specs.Counts.{armed_by_script, waiting}
use Rattle.site_place.specs.Places.{PlaceState, disk_boot}
use Rattle.site_place.specs.Views.{place_in}
use Rattle.site_place.specs.Starts.{IsOfWhole}
use Rattle.site_place.specs.Standing.{IsWhole}
use Rattle.site_place.proofs.Happening.{state_at}
use Rattle.site_place.proofs.Scripts.{passing_is}

-- packs that mount aren't the cause
pub of_whole : (config : Config) (me : ℕ) (image : List ℕ) (f : BootFault) → IsWhole config me image → IsCause me (groups_at config me) image f → IsOfWhole f
of_whole config me image Disk whole cause = tt
of_whole config me image NotALabel whole cause = cause (label_number image) whole.label
of_whole config me image Spent whole cause = tt
of_whole config me image NotAPack whole cause = passing_only me (groups_at config me) image mount.NotAPack whole.sound (inr cause)
of_whole config me image (BadSlot ino) whole cause = passing_only me (groups_at config me) image (mount.BadSlot ino) whole.sound (inr cause)
of_whole config me image (SharedTable table) whole cause = passing_only me (groups_at config me) image (mount.SharedTable table) whole.sound (inr cause)
of_whole config me image (SharedPage page) whole cause = passing_only me (groups_at config me) image (mount.SharedPage page) whole.sound (inr cause)
of_whole config me image NoMemory whole cause = tt

pub greatest : (config : Config) (me : ℕ) (image : List ℕ) (f : BootFault) → f ≡ Spent → IsCause me (groups_at config me) image f → label_number image ≡ 4294967295
greatest config me image f is cause = boot_there me 4294967295 image (subst (λ (k : BootFault). IsCause me (groups_at config me) image k) is cause)

pub boot_shown : (gs : List ℕ) (config : Config) (me : ℕ) (x : Option SiteNode) (image : List ℕ) (armed : Option Armed) (state : PlaceState) (n : ℕ) → state_at config me (place_in gs x image) armed ≡ state → x ≡ None → label_number image ≡ n → disk_boot state.place ≡ n
boot_shown gs config me x image armed state n shown none is =
    ap (λ (k : PlaceState). disk_boot k.place) (sym shown) ∙ (ap (λ (k : Option SiteNode). disk_boot (place_in gs k image)) none ∙ is)

pub same_fault : {T E : Type 0} (a b : E) → ◌≡◌ {A = Result T E} (Err a) (Err b) → a ≡ b
same_fault a b e = cc

-- a format that the disk failed
pub format_failed : {T : Type 0} (r : Result T FormatFault) (n : ℕ) (p q : Passing) (fault : FormatFault) → fault ≡ FormatDisk → TellsFormat {T = T} n p q (Err fault) → TellsMany {T = Unit {0}} {E = DiskFault} n p q (Err Failed)
format_failed {T} r n p q fault is tells = subst (λ (f : FormatFault). TellsFormat {T = T} n p q (Err f)) is tells

-- ---- an event ----

-- it doesn't fail outside its write
pub no_disk_fault : {R : Type 0} (n : SiteNode) (w : Option DiskWrite) (old now : ScriptDisk) (given after : Outgoing) (f : NodeFault) (armed : Option DiskScript) → old.script ≡ waiting (armed_by_script armed) old.script.faults → EventWrites {T = R} w n.packs (moment old) (moment now) given after (Err f) → f ≡ node.Disk → ⊥
no_disk_fault {R} n w old now given after f None script writes is =
    let failed = subst (λ (k : NodeFault). EventWrites {T = R} w n.packs (moment old) (moment now) given after (Err k)) is writes in
    false≢true (failed.free (ap (λ (s : Script). passing_of s) script))
no_disk_fault n w old now given after f (Some x) script writes is = writes.told x.left (passing_is old.script x old.script.faults script) (ap (λ (k : NodeFault). Err k) is)

-- and nothing is cut off where nothing is armed
pub uncut_unarmed : {R : Type 0} (n : SiteNode) (w : Option DiskWrite) (old now : ScriptDisk) (given after : Outgoing) (f : NodeFault) (size : WriteSize) → old.script ≡ waiting (armed_by_script None) old.script.faults → f ≡ node.Cut size → EventWrites {T = R} w n.packs (moment old) (moment now) given after (Err f) → ⊥
uncut_unarmed {R} n w old now given after f size script is writes =
    let cut = subst (λ (k : NodeFault). EventWrites {T = R} w n.packs (moment old) (moment now) given after (Err k)) is writes in
    false≢true (cut.free (ap (λ (s : Script). passing_of s) script))
