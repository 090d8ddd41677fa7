-- How the event of a delivery ends: after its handler, and the adoption that it tries, only the member's calls change.
use Rattle.std.proofs.Common.{List, None, Some, inl, inr, refl, ℕ, ◌≡◌, ◌⊎◌}
use Rattle.calm_laws.specs.Carrying.{frame_of}
use Rattle.calm_laws.specs.Rounds.{Delivery}
use Rattle.calm_laws.proofs.Convergence.Coming.{Comes, comes_step}
use Rattle.calm_laws.proofs.Convergence.Happening.{Happened, IsStill, IsTaken, before_in, remains_in, taken_happens}
use Rattle.calm_laws.proofs.Convergence.Midst.{midst_in}
use Rattle.calm_laws.specs.Convergence.Converging.{FormsEpochs}
use Rattle.run_laws.specs.Epochs.Forming.{FormsNone}
use Rattle.locus_ids.specs.declared.config.Config.{Config}
use Rattle.locus_ids.specs.declared.sites.Links.{Links}
use Rattle.role_steps.specs.Views.{Receives, SiteView}
use Rattle.role_steps.specs.declared.rounds.InEpoch.{InEpoch}
use Rattle.schedule_lines.specs.declared.line.ScheduleLine.{ScheduleLine}
use Rattle.the_run.specs.Runs.{arrives}
use Rattle.the_run.specs.Steps.{ends_event, step, takes_inside, tries_at}
use Rattle.the_run.specs.Worlds.{Numbered, World, links_of, passed}
use Rattle.wire_messages.specs.declared.body.Body.{Body}
use Rattle.wire_messages.specs.declared.packet.Packet.{Packet}

-- the handler of a packet of the epoch, and then a try
pub record IsOfEpoch (c : Config) (e : InEpoch) (x : Numbered) (v last : SiteView) : Type 0 where
  pub body : Body
  pub came : x.packet.body ≡ body
  pub forms : FormsNone body
  pub is : last ≡ (tries_at c x.packet.to body (takes_inside (frame_of c e x.packet.to) x.packet.from body v).view).view

-- the handler of another packet
pub record IsOfForming (x : Numbered) (v last : SiteView) : Type 0 where
  pub kind : FormsEpochs x.packet.body
  pub users : last.users ≡ v.users
  pub store : last.store ≡ v.store

pub record EndsSo (c : Config) (n : ℕ) (e : InEpoch) (x : Numbered) (w : World) (v : SiteView) : Type 0 where
  pub view : SiteView
  pub comes : Comes c n x w view
  pub last : SiteView
  pub links : Links
  pub ended : view ≡ (ends_event c x.packet.to links last).view
  pub round : last.round ≡ None
  pub epoch : last.epoch ≡ Some e
  pub by : IsOfEpoch c e x v last ⊎ IsOfForming x v last

pub event_ends : (c : Config) (lines : List ScheduleLine) (n : ℕ) (e : InEpoch) (x : Numbered) (w : World) → (d : Delivery c lines n e x w) → EndsSo c n e x w d.view
event_ends c lines n e x w d = record { view = u; comes = comes; last = h.last; links = h.links; ended = h.ended; round = h.round; epoch = h.epoch; by = by_kind h.by }
  where
    p : Packet
    p = x.packet

    m : ℕ
    m = p.to

    v : SiteView
    v = d.view

    u : SiteView
    u = (step c m (links_of (passed x.number w) m) v (Receives p)).view

    comes : Comes c n x w u
    comes = comes_step c lines n e x w d

    h : Happened c e m v u (Receives p)
    h = taken_happens c e m (links_of (passed x.number w) m) v (before_in c e w (midst_in c lines n e w d.round d.before) m v d.member d.here) p
        (remains_in c e (arrives c n x w) (midst_in c lines n e (arrives c n x w) d.follows d.after) m u d.member comes.here) d.taken

    by_kind : IsTaken c e m v h.last p ⊎ IsStill v h.last p.body → IsOfEpoch c e x v h.last ⊎ IsOfForming x v h.last
    by_kind (inl t) = inl (record { body = p.body; came = refl; forms = t.forms; is = t.is })
    by_kind (inr q) = inr (record { kind = q.forms; users = q.users; store = q.store })
