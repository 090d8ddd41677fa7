-- The mends that start at the end of an event, and the frame of an epoch.
use Rattle.std.proofs.Common.{◌≡◌, ℕ, List, Option, None, Some, refl, sym, ap, ◌∙◌, subst}
use Rattle.disk_model.specs.Disk.{Moment}
use Rattle.locus_ids.specs.declared.config.Config.{Config}
use Rattle.wire_messages.specs.Outboxes.{Outgoing}
use Rattle.role_steps.specs.Views.{Frame, SiteView, Users, quiet}
use Rattle.role_steps.specs.Epochs.{frame_in, with_users}
use Rattle.role_steps.specs.Mends.{starts_mends_in}
use Rattle.role_steps.specs.declared.rounds.InEpoch.{InEpoch}
use Rattle.site_packs.specs.Packs.{Stand}
use Rattle.site_parts.specs.of_site_mends.Mending.{IsSeen}
use Rattle.the_run.specs.Steps.{starts_mends_of}
use Rattle.site_parts.specs.of_using_site.Steps.{Gives}
use Rattle.site_parts.proofs.of_site_tables.Giving.{gives_none, gives_as}
use Rattle.site_node.specs.Mending.{mends_at}
use Rattle.site_node.specs.Views.{view_of, Moves}
use Rattle.site_node.specs.declared.node.SiteNode.{SiteNode}
use Rattle.site_node.proofs.Moving.{same_places}

-- the frame that is entered
pub entered_frame : (n : SiteNode) (frame : Frame) (boot : ℕ) (e : InEpoch) → frame ≡ frame_in n.frame.config n.frame.me boot e → boot ≡ n.epochs.boot → frame ≡ frame_in n.frame.config n.frame.me n.epochs.boot e
entered_frame n frame boot e f b = f ∙ ap (λ (k : ℕ). frame_in n.frame.config n.frame.me k e) b

pub mends_outside : (c : Config) (me : ℕ) (n : SiteNode) (m : Moment) (a : Outgoing) → Stand n.packs m → ◌≡◌ {A = Option InEpoch} None n.epochs.epoch → Moves (mends_at c me) n m n m a a
mends_outside c me n m a s e = record {
  gives = gives_as (quiet (view_of n m.seen)) (mends_at c me (view_of n m.seen)) (view_of n m.seen) a a (ap (λ (o : Option InEpoch). starts_mends_of c me o (view_of n m.seen)) (sym e)) (gives_none (view_of n m.seen) a);
  stands = s;
  places = same_places n.packs n.packs refl;
  config = refl;
  me = refl;
}

pub mends_inside : (e : InEpoch) (n : SiteNode) (frame : Frame) (users : Users) (m o : Moment) (a b : Outgoing) → ◌≡◌ {A = Option InEpoch} (Some e) n.epochs.epoch → frame ≡ frame_in n.frame.config n.frame.me n.epochs.boot e
    → o.seen ≡ m.seen → Stand n.packs o → ((v : SiteView) → IsSeen v n.packs m.seen n.users → Gives (starts_mends_in frame n.tables v) (with_users v users) a b)
    → Moves (mends_at n.frame.config n.frame.me) n m (record n { frame = frame; users = users }) o a b
mends_inside e n frame users m o a b h f r s g =
    let v : SiteView = view_of n m.seen in
    let given : Gives (starts_mends_in frame n.tables v) (with_users v users) a b = g v (record { copies = refl; users = refl }) in
    let framed : Gives (starts_mends_in (frame_in n.frame.config n.frame.me n.epochs.boot e) n.tables v) (with_users v users) a b = subst (λ (x : Frame). Gives (starts_mends_in x n.tables v) (with_users v users) a b) f given in
    let told : Gives (mends_at n.frame.config n.frame.me v) (with_users v users) a b = subst (λ (x : Option InEpoch). Gives (starts_mends_of n.frame.config n.frame.me x v) (with_users v users) a b) h framed in record {
      gives = subst (λ (image : List ℕ). Gives (mends_at n.frame.config n.frame.me v) (view_of (record n { frame = frame; users = users }) image) a b) (sym r) told;
      stands = s;
      places = same_places n.packs n.packs refl;
      config = ap (λ (x : Frame). x.config) f;
      me = ap (λ (x : Frame). x.me) f;
    }
