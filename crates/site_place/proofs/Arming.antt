-- A site stands as it did where the bytes of its disk are as they were.
use Rattle.std.proofs.Common.{◌≡◌, ℕ, List, sym, ◌∙◌, ap, subst}
use Rattle.std.specs.Prelude.{Option, None, Some}
use Rattle.locus_ids.specs.declared.config.Config.{Config}
use Rattle.disk_model.specs.declared.script.Armed.{Armed}
use Rattle.disk_model.specs.declared.script.Script.{Script}
use Rattle.disk_model.specs.declared.script_disk.ScriptDisk.{ScriptDisk}
use Rattle.disk_model.specs.declared.store.Span.{Span}
use Rattle.disk_model.specs.Disk.{Moment, IsSettled}
use Rattle.disk_model.specs.Images.{IsImage}
use Rattle.disk_model.specs.ScriptDisk.{seen, unsynced, moment, SameBytes}
use Rattle.site_packs.specs.Packs.{AreLive, AreShown}
use Rattle.site_disk.specs.Image.{label_on, one_half}
use Rattle.site_node.specs.declared.node.SiteNode.{SiteNode}
use Rattle.site_place.specs.declared.script.DiskScript.{DiskScript}
use Rattle.site_place.specs.Counts.{armed_by_script, armed_disk, waiting}
use Rattle.site_place.specs.Standing.{MayRun}

pub settled_same : (old new : ScriptDisk) → SameBytes old new → IsSettled (moment old) → IsSettled (moment new)
settled_same old new same settled c is =
    settled c (subst (λ (l : List ℕ). IsImage (unsynced old) l c) same.read (subst (λ (s : List Span). IsImage s (seen new) c) same.waiting is)) ∙ sym same.read

pub runs_same : (config : Config) (me : ℕ) (node : Option SiteNode) (old new : ScriptDisk) → SameBytes old new → MayRun config me node (moment old) → MayRun config me node (moment new)
runs_same config me None old new same runs = tt
runs_same config me (Some n) old new same runs = record {
  stands = record {
    settled = settled_same old new same runs.stands.settled;
    shown = subst (λ (l : List ℕ). AreShown n.packs.packs l) (sym same.read) runs.stands.shown;
    live = subst (λ (l : List ℕ). AreLive n.packs l) (sym same.read) runs.stands.live;
  };
  groups = runs.groups;
  home = runs.home;
  cluster = runs.cluster;
  own = runs.own;
  label = subst (λ (l : List ℕ). label_on l ≡ one_half n.epochs.boot) (sym same.read) runs.label;
}

-- a script that is armed takes the place of one that waits
pub waits_again : (old new : Script) (writes : Armed) (x : DiskScript) → old ≡ waiting writes old.faults → new ≡ record old { writes = armed_disk x.left x.how } → new ≡ waiting (armed_by_script (Some x)) new.faults
waits_again old new writes x was is =
    let now : new ≡ waiting (armed_disk x.left x.how) old.faults = is ∙ ap (λ (s : Script). record s { writes = armed_disk x.left x.how }) was in
    let same : new.faults ≡ old.faults = ap (λ (s : Script). s.faults) now in
    now ∙ ap (λ (n : ℕ). waiting (armed_disk x.left x.how) n) (sym same)

pub still_waits : (s : Script) (writes : Armed) (faults : ℕ) → s ≡ waiting writes faults → s ≡ waiting writes s.faults
still_waits s writes faults is = is ∙ ap (λ (n : ℕ). waiting writes n) (sym (ap (λ (k : Script). k.faults) is))

-- a stopped site
pub stays_stopped : (config : Config) (me : ℕ) (node : Option SiteNode) (now : Moment) → node ≡ None → MayRun config me node now
stays_stopped config me node now none = subst (λ (k : Option SiteNode). MayRun config me k now) (sym none) tt
