-- When a site runs over its disk.
use Rattle.std.proofs.Common.{◌≡◌, ℕ, ◌≤◌, List, length, replicate, refl, sym, ◌∙◌, ap, subst, arith}
use Rattle.std.proofs.lemmas.List.{length-replicate}
use Rattle.locus_ids.specs.declared.config.Config.{Config}
use Rattle.disk_model.specs.Disk.{Moment}
use Rattle.wire_messages.specs.Outboxes.{Outgoing}
use Rattle.role_steps.specs.Views.{SiteView, Event}
use Rattle.role_steps.specs.declared.copies.FileCopy.{FileCopy}
use Rattle.locus_ids.specs.declared.sites.Links.{Links}
use Rattle.site_packs.specs.Packs.{PacksState, Stand, groups_of, groups_at}
use Rattle.site_disk.specs.Image.{disk_length, label_on, one_half}
use Rattle.the_run.specs.Worlds.{fresh}
use Rattle.the_run.proofs.StepSends.{step_sends}
use Rattle.site_node.specs.declared.node.SiteNode.{SiteNode}
use Rattle.site_node.specs.Views.{view_of, Moves, steps_at}
use Rattle.site_place.specs.Standing.{IsRunning}

pub long_enough : (config : Config) (me n : ℕ) (image : List ℕ) → n ≡ disk_length config me → image ≡ replicate n 0 → disk_length config me ≤ length image
long_enough config me n image is zeros =
    let k = disk_length config me in
    let long : length image ≡ k = ap (λ (l : List ℕ). length l) zeros ∙ length-replicate n 0 ∙ is in
    let enough : k ≤ k = omega arith in
    subst (λ (m : ℕ). k ≤ m) (sym long) enough

-- a site that has just booted
pub runs_fresh : (config : Config) (me boot : ℕ) (n : SiteNode) (p : PacksState) (copies : List FileCopy) (now : Moment) → Stand p now → groups_of p ≡ groups_at config me → p.site ≡ me → n.packs ≡ p → n.frame.config ≡ config → n.frame.me ≡ me
    → view_of n now.seen ≡ fresh boot copies → label_on now.seen ≡ one_half boot → IsRunning config me n now
runs_fresh config me boot n p copies now stands groups home packs cluster own view label =
    let number : n.epochs.boot ≡ boot = ap (λ (v : SiteView). v.boot) view in
    record {
      stands = subst (λ (q : PacksState). Stand q now) (sym packs) stands;
      groups = ap (λ (q : PacksState). groups_of q) packs ∙ groups;
      home = ap (λ (q : PacksState). q.site) packs ∙ home;
      cluster = cluster;
      own = own;
      label = label ∙ ap (λ (k : ℕ). one_half k) (sym number);
    }

-- an event keeps the boot number
pub boot_stays : (n new : SiteNode) (links : Links) (e : Event) (old now : Moment) (given after : Outgoing) → Moves (steps_at n links e) n old new now given after → new.epochs.boot ≡ n.epochs.boot
boot_stays n new links e old now given after moves =
    ap (λ (v : SiteView). v.boot) moves.gives.view ∙ (step_sends n.frame.config n.frame.me n.epochs.boot links (view_of n old.seen) e refl).view

pub runs_on : (config : Config) (me : ℕ) (n new : SiteNode) (links : Links) (e : Event) (old now : Moment) (given after : Outgoing) → IsRunning config me n old → Moves (steps_at n links e) n old new now given after → label_on now.seen ≡ one_half n.epochs.boot
    → IsRunning config me new now
runs_on config me n new links e old now given after runs moves label = record {
  stands = moves.stands;
  groups = moves.places.groups ∙ runs.groups;
  home = moves.places.site ∙ runs.home;
  cluster = moves.config ∙ runs.cluster;
  own = moves.me ∙ runs.own;
  label = label ∙ ap (λ (k : ℕ). one_half k) (sym (boot_stays n new links e old now given after moves));
}
