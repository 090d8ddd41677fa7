-- The image of a site's disk stays whole.
use Rattle.std.proofs.Common.{◌≡◌, ◌⊎◌, ⊎_elim, ℕ, ◌+◌, ◌*◌, ◌≤◌, false, List, length, sym, ap, subst}
use Rattle.std.specs.Prelude.{Option, None, Some}
use Rattle.locus_ids.specs.declared.config.Config.{Config}
use Rattle.disk_model.specs.Images.{Torn}
use Rattle.pack_layout.specs.Layout.{area_length}
use Rattle.site_label.specs.Cutting.{LabelState}
use Rattle.site_label.specs.Image.{label_number}
use Rattle.site_label.specs.Label.{HasBoot}
use Rattle.site_label.specs.Raising.{are_open}
use Rattle.site_label.proofs.Image.{boot_there, boot_same, shut_same}
use Rattle.role_steps.specs.Views.{DiskWrite}
use Rattle.site_packs.specs.Mounting.{AreSound}
use Rattle.site_packs.specs.Packs.{PacksState, groups_of, groups_at}
use Rattle.site_disk.specs.Image.{disk_length, label_on, one_half}
use Rattle.site_disk.specs.Boots.{MayBeLeft as BootLeft}
use Rattle.site_disk.proofs.Labels.{label_there}
use Rattle.site_node.specs.of_store_instances.Writes.{MayLeave}
use Rattle.site_place.specs.Standing.{IsWhole}

-- a label that has a number has the one that is read
pub has_number : (me boot : ℕ) (image : List ℕ) → HasBoot me boot image → HasBoot me (label_number image) image
has_number me boot image has = subst (λ (n : ℕ). HasBoot me n image) (sym (boot_there me boot image has)) has

-- the image is whole, and its label has this number in one half
pub record IsLabelled (config : Config) (me boot : ℕ) (image : List ℕ) : Type 0 where
  pub whole : IsWhole config me image
  pub label : label_on image ≡ one_half boot

-- what a crash within a write leaves
pub whole_torn : (config : Config) (me boot : ℕ) (p : PacksState) (image c : List ℕ) → groups_of p ≡ groups_at config me → p.site ≡ me → IsLabelled config me boot image
    → AreSound p.site (groups_of p) c → Torn 1024 (area_length * length (groups_of p)) image c → IsLabelled config me boot c
whole_torn config me boot p image c groups home is sound torn =
    let n = area_length * length (groups_of p) in
    let number : label_number image ≡ boot = ap (λ (l : LabelState). l.boot) is.label in
    let shut : are_open image ≡ false = ap (λ (l : LabelState). l.both_open) is.label in
    let has : HasBoot me boot c = boot_same n image c torn me boot (subst (λ (k : ℕ). HasBoot me k image) number is.whole.label) in
    record {
      whole = record {
        long = subst (λ (k : ℕ). disk_length config me ≤ k) (sym torn.long) is.whole.long;
        label = has_number me boot c has;
        sound = subst (λ (s : ℕ). AreSound s (groups_at config me) c) home (subst (λ (gs : List ℕ). AreSound p.site gs c) groups sound);
      };
      label = label_there me boot c has (shut_same n image c torn shut);
    }

pub whole_left : (config : Config) (me boot : ℕ) (p : PacksState) (w : Option DiskWrite) (image c : List ℕ) → groups_of p ≡ groups_at config me → p.site ≡ me → IsLabelled config me boot image
    → ((c ≡ image) ⊎ MayLeave p w image c) → IsLabelled config me boot c
whole_left config me boot p w image c groups home is left = ⊎_elim (λ (same : c ≡ image). stays same) (λ may. by w may) left
  where
    stays : c ≡ image → IsLabelled config me boot c
    stays same = subst (λ (l : List ℕ). IsLabelled config me boot l) (sym same) is

    by : (w : Option DiskWrite) → MayLeave p w image c → IsLabelled config me boot c
    by None same = stays same
    by (Some d) may = whole_torn config me boot p image c groups home is may.sound may.outside

-- what a crash within a boot leaves
pub whole_booted : (config : Config) (me : ℕ) (image c : List ℕ) → IsWhole config me image → BootLeft me (groups_at config me) image c → IsWhole config me c
whole_booted config me image c is left = record {
  long = subst (λ (k : ℕ). disk_length config me ≤ k) (sym left.outside.long) is.long;
  label = ⊎_elim (λ (has : HasBoot me (label_number image) c). has_number me (label_number image) c has) (λ (has : HasBoot me (label_number image + 1) c). has_number me (label_number image + 1) c has) (left.number (label_number image) is.label);
  sound = left.sound;
}
