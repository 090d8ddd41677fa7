-- A packet that the frame lets through, by its kind.
use Rattle.std.proofs.Common.{◌≡◌, ℕ, Option, None, Some, refl, sym, ap, ◌∙◌, subst}
use Rattle.disk_model.specs.Disk.{Moment}
use Rattle.locus_ids.specs.declared.config.Config.{Config}
use Rattle.locus_ids.specs.declared.sites.Links.{Links}
use Rattle.wire_messages.specs.Outboxes.{Outgoing}
use Rattle.wire_messages.specs.declared.body.Body.{Body}
use Rattle.wire_messages.specs.declared.body.Body.TheVariants as body
use Rattle.locus_ids.specs.declared.ids.EpochId.{EpochId}
use Rattle.locus_ids.specs.declared.sites.Members.{Members}
use Rattle.locus_ids.specs.declared.sites.Sites.{Sites}
use Rattle.wire_messages.specs.declared.packet.Packet.{Packet}
use Rattle.role_steps.specs.Views.{Frame, SiteView, Outcome, quiet}
use Rattle.role_steps.specs.Epochs.{frame_in}
use Rattle.role_steps.specs.declared.rounds.InEpoch.{InEpoch}
use Rattle.site_packs.specs.Packs.{Stand}
use Rattle.the_run.specs.Steps.{takes, takes_framed, takes_inside}
use Rattle.site_parts.proofs.of_site_tables.Giving.{gives_none, gives_as}
use Rattle.std.specs.Prelude.{Result, Ok, Err, IfErr}
use Rattle.site_parts.specs.declared.fault.NodeFault.{NodeFault}
use Rattle.site_parts.specs.declared.fault.NodeFault.TheVariants.{NoNumber}
use Rattle.site_node.specs.Taking.{in_epoch_takes, in_epoch_takes_of, taken}
use Rattle.site_node.specs.Views.{view_of, Moves}
use Rattle.site_node.specs.declared.node.SiteNode.{SiteNode}
use Rattle.site_node.proofs.Moving.{moves_as, same_places}

pub takes_outside : (c : Config) (me from : ℕ) (b : Body) (n : SiteNode) (m : Moment) (a : Outgoing) → Stand n.packs m → ◌≡◌ {A = Option InEpoch} None n.epochs.epoch → Moves (in_epoch_takes c me from b) n m n m a a
takes_outside c me from b n m a s e = record {
  gives = gives_as (quiet (view_of n m.seen)) (in_epoch_takes c me from b (view_of n m.seen)) (view_of n m.seen) a a (ap (λ (o : Option InEpoch). in_epoch_takes_of c me from b o (view_of n m.seen)) (sym e)) (gives_none (view_of n m.seen) a);
  stands = s;
  places = same_places n.packs n.packs refl;
  config = refl;
  me = refl;
}

-- what is taken in the frame that was entered
pub takes_entered : (e : InEpoch) (from : ℕ) (b : Body) (n : SiteNode) (frame : Frame) (new : SiteNode) (m o : Moment) (a d : Outgoing) → ◌≡◌ {A = Option InEpoch} (Some e) n.epochs.epoch → frame ≡ frame_in n.frame.config n.frame.me n.epochs.boot e
    → Moves (takes_inside frame from b) (record n { frame = frame }) m new o a d → Moves (in_epoch_takes n.frame.config n.frame.me from b) n m new o a d
takes_entered e from b n frame new m o a d h f w =
    let v : SiteView = view_of n m.seen in
    let x = subst (λ (g : Frame). Moves (takes_inside g from b) (record n { frame = g }) m new o a d) f w in record {
      gives = gives_as (takes_inside (frame_in n.frame.config n.frame.me n.epochs.boot e) from b v) (in_epoch_takes n.frame.config n.frame.me from b v) (view_of new o.seen) a d (ap (λ (k : Option InEpoch). in_epoch_takes_of n.frame.config n.frame.me from b k v) (sym h)) x.gives;
      stands = x.stands;
      places = x.places;
      config = x.config;
      me = x.me;
    }

-- a packet is taken by its kind
pub taken_as : (c : Config) (me : ℕ) (links : Links) (p : Packet) (b : Body) (old new : SiteNode) (m o : Moment) (a d : Outgoing) → p.body ≡ b → Moves (takes c me links p b) old m new o a d → Moves (taken c me links p) old m new o a d
taken_as c me links p b old new m o a d e w = subst (λ (x : Body). Moves (takes c me links p x) old m new o a d) (sym e) w

framed_as : (c : Config) (me : ℕ) (p : Packet) (o : Option InEpoch) (v : SiteView) → takes_framed c me p o v ≡ in_epoch_takes_of c me p.from p.body o v
framed_as c me p None v = refl
framed_as c me p (Some e) v = refl

others_framed : (c : Config) (me : ℕ) (links : Links) (p : Packet) (b : Body) (v : SiteView)
    → (b ≡ body.Poll → ⊥) → ((reach : Sites) → b ≡ body.Promise reach → ⊥) → ((promised : EpochId) → b ≡ body.Refuse promised → ⊥) → ((members : Members) → b ≡ body.Install members → ⊥) → (b ≡ body.Joined → ⊥)
    → takes c me links p b v ≡ takes_framed c me p v.epoch v
others_framed c me links p body.Poll v h i j k l = absurd (h refl)
others_framed c me links p (body.Promise reach) v h i j k l = absurd (i reach refl)
others_framed c me links p (body.Refuse promised) v h i j k l = absurd (j promised refl)
others_framed c me links p (body.Install members) v h i j k l = absurd (k members refl)
others_framed c me links p body.Joined v h i j k l = absurd (l refl)
others_framed c me links p _ v h i j k l = refl

pub taken_inside : (c : Config) (me : ℕ) (links : Links) (p : Packet) (old new : SiteNode) (m o : Moment) (a d : Outgoing)
    → (p.body ≡ body.Poll → ⊥) → ((reach : Sites) → p.body ≡ body.Promise reach → ⊥) → ((promised : EpochId) → p.body ≡ body.Refuse promised → ⊥) → ((members : Members) → p.body ≡ body.Install members → ⊥) → (p.body ≡ body.Joined → ⊥)
    → Moves (in_epoch_takes c me p.from p.body) old m new o a d → Moves (taken c me links p) old m new o a d
taken_inside c me links p old new m o a d h i j k l w = moves_as (in_epoch_takes c me p.from p.body) (taken c me links p) old new m o a d (λ v. others_framed c me links p p.body v h i j k l ∙ framed_as c me p v.epoch v) w

-- ---- what is written ----

pub inside_written : (c : Config) (me : ℕ) (links : Links) (p : Packet) (v : SiteView)
    → (p.body ≡ body.Poll → ⊥) → ((reach : Sites) → p.body ≡ body.Promise reach → ⊥) → ((promised : EpochId) → p.body ≡ body.Refuse promised → ⊥) → ((members : Members) → p.body ≡ body.Install members → ⊥) → (p.body ≡ body.Joined → ⊥)
    → (taken c me links p v).written ≡ (in_epoch_takes c me p.from p.body v).written
inside_written c me links p v h i j k l = ap (λ (o : Outcome SiteView). o.written) (others_framed c me links p p.body v h i j k l ∙ framed_as c me p v.epoch v)

pub outside_written : (c : Config) (me from : ℕ) (b : Body) (v : SiteView) → ◌≡◌ {A = Option InEpoch} None v.epoch → (in_epoch_takes c me from b v).written ≡ None
outside_written c me from b v e = ap (λ (o : Option InEpoch). (in_epoch_takes_of c me from b o v).written) (sym e)

pub entered_written : (c : Config) (me from : ℕ) (b : Body) (e : InEpoch) (frame : Frame) (v : SiteView) → ◌≡◌ {A = Option InEpoch} (Some e) v.epoch → frame ≡ frame_in c me v.boot e → (in_epoch_takes c me from b v).written ≡ (takes_inside frame from b v).written
entered_written c me from b e frame v h f = ap (λ (o : Option InEpoch). (in_epoch_takes_of c me from b o v).written) (sym h) ∙ ap (λ (x : Frame). (takes_inside x from b v).written) (sym f)

-- ---- when no number is left ----

pub never_spent : {T : Type 0} (P : Type 0) (r : Result T NodeFault) → IfErr r (λ f. f ≡ NoNumber → ⊥) → IfErr r (λ f. f ≡ NoNumber → P)
never_spent P (Ok x) h = tt
never_spent P (Err f) h = λ is. absurd (h is)
