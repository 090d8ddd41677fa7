-- A boot of a stopped site is that of the run: whole, or cut off.
use Rattle.std.proofs.Common.{◌≡◌, ℕ, ◌+◌, ◌-◌, ◌*◌, ◌<◌, List, [], ◌∷◌, ◌++◌, length, sym, ◌∙◌, ap, subst, arith}
use Rattle.std.specs.Prelude.{Option, None, Some, if◌then◌else◌}
use Rattle.trace_book.specs.declared.record.Record.TheVariants as says
use Rattle.wire_messages.specs.Outboxes.{Outgoing}
use Rattle.role_steps.specs.Views.{SiteView}
use Rattle.the_run.specs.Disks.{Disk, Booted, Whole, CutOff, one_label, boot_writes, boots}
use Rattle.the_run.specs.Worlds.{Running, Stopped, fresh, cause_of}
use Rattle.site_packs.specs.Copies.{copies_on}
use Rattle.site_packs.specs.Mounting.{AreSound}
use Rattle.site_packs.proofs.Cutting.{mount_calls_are}
use Rattle.site_label.specs.Image.{label_number}
use Rattle.site_label.specs.Raising.{are_open, IsRaised}
use Rattle.site_label.proofs.Image.{boot_there}
use Rattle.site_disk.specs.Boots.{boot_calls, IsCutBoot}
use Rattle.site_disk.specs.Run.{as_cut, as_label, cut_boot, disk_on}
use Rattle.site_disk.proofs.Runs.{boots_whole, writes_counted}
use Rattle.site_disk.proofs.CutRuns.{cut_boots, whole_boots}
use Rattle.site_node.specs.declared.node.SiteNode.{SiteNode}
use Rattle.site_node.specs.Views.{view_of}
use Rattle.site_place.specs.declared.script.DiskScript.{DiskScript}
use Rattle.site_place.specs.Places.{PlaceState, Gives, armed_by, cut_by, boots_to, boots_at}
use Rattle.site_place.specs.Views.{armed_in}
use Rattle.site_place.proofs.Scripts.{AllPassed, with_count}

-- a boot makes as many calls as that of the run
pub calls_counted : (groups image : List ℕ) → 2 * length (boot_writes (disk_on groups image)) ≡ boot_calls groups image
calls_counted groups image = writes_counted (disk_on groups image) ∙ ap (λ (n : ℕ). (if are_open image then 8 else 6) + n) (sym (mount_calls_are groups image))

-- the disk after a whole boot
abbrev raised : Disk → Disk
raised d = record { copies = d.copies; both_open = []; label = one_label (d.label.boot + 1) }

boots_all : (d : Disk) (armed : Option DiskScript) (left n : ℕ) → 2 * length (boot_writes d) ≡ n → AllPassed armed n left → boots (armed_in armed) d ≡ Whole (raised d) (armed_in (with_count left armed))
boots_all d None left n same passed = ap (λ (k : Disk). Whole k None) (boots_whole d)
boots_all d (Some x) left n same passed =
    let le = passed.0 in
    let spent : x.left - 2 * length (boot_writes d) ≡ left = ap (λ (k : ℕ). x.left - k) same ∙ sym passed.1 in
    whole_boots d (armed_by x) (omega (arith, le, same))
    ∙ (ap (λ (k : Disk). Whole k (Some (armed_by (record x { left = x.left - 2 * length (boot_writes d) })))) (boots_whole d)
    ∙ ap (λ (k : ℕ). Whole (raised d) (Some (armed_by (record x { left = k })))) spent)

pub number_raised : (me boot : ℕ) (image : List ℕ) → IsRaised me image boot → boot ≡ label_number image + 1
number_raised me boot image is = let number = boot_there me is.0 image is.1 in let e = is.2 in omega (arith, number, e)

pub boots_up : (groups : List ℕ) (me home boot left : ℕ) (n : SiteNode) (image now : List ℕ) (armed : Option DiskScript) (b : PlaceState) (out : Outgoing) → IsRaised home image boot → AllPassed armed (boot_calls groups image) left
    → view_of n now ≡ fresh boot (copies_on groups image) → out ≡ record { packets = []; records = says.Up me boot ∷ [] }
    → Gives (boots_at me (armed_in armed) (Stopped (disk_on groups image))) b (record b { place = Running (view_of n now); armed = armed_in (with_count left armed) }) out
boots_up groups me home boot left n image now armed b out is passed view told =
    let d = disk_on groups image in
    let number = number_raised home boot image is in
    let same = boots_all d armed left (boot_calls groups image) (calls_counted groups image) passed in
    let later = record b { place = Running (view_of n now); armed = armed_in (with_count left armed) } in
    subst (λ (k : Booted). Gives (boots_to me k) b later out) (sym same) (record {
      state = ap (λ (v : SiteView). record b { place = Running v; armed = armed_in (with_count left armed) }) (view ∙ ap (λ (k : ℕ). fresh k (copies_on groups image)) number);
      packets = ap (λ (g : Outgoing). g.packets) told;
      records = ap (λ (g : Outgoing). g.records) told ∙ ap (λ (k : ℕ). says.Up me k ∷ []) number;
    })

-- what is left of a disk whose boot was cut off is what the run has left
pub boot_cut : (groups : List ℕ) (me home : ℕ) (image left : List ℕ) (x : DiskScript) (b : PlaceState) (out : Outgoing) → AreSound home groups image → x.left < boot_calls groups image
    → IsCutBoot home groups (as_cut (cut_by x.how)) (label_number image) x.left image left → out ≡ record { packets = []; records = says.Stopped me (cause_of (cut_by x.how)) ∷ [] }
    → Gives (boots_at me (Some (armed_by x)) (Stopped (disk_on groups image))) b (record b { place = Stopped (disk_on groups left); armed = None }) out
boot_cut groups me home image left x b out sound few cut told =
    let d = disk_on groups image in
    let count = calls_counted groups image in
    let same : boots (Some (armed_by x)) d ≡ CutOff (cut_boot (armed_by x) d) (cut_by x.how) = cut_boots d (armed_by x) (omega (arith, few, count)) in
    let copies = cut.copies sound in
    let files = cut.both in
    let label = cut.label in
    let disk : disk_on groups left ≡ cut_boot (armed_by x) d = (λ i. record { copies = copies i; both_open = files i; label = as_label (label i) }) in
    subst (λ (k : Booted). Gives (boots_to me k) b (record b { place = Stopped (disk_on groups left); armed = None }) out) (sym same) (record {
      state = ap (λ (k : Disk). record b { place = Stopped k; armed = None }) disk;
      packets = ap (λ (g : Outgoing). g.packets) told;
      records = ap (λ (g : Outgoing). g.records) told;
    })
