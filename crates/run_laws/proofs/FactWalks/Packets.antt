-- A packet that comes, by what it does and what is tried after it.
use Rattle.std.proofs.Common.{◌≡◌, ℕ, nat_lt, false, [], None, refl}
use Rattle.locus_ids.specs.declared.ids.EpochId.{EpochId}
use Rattle.locus_ids.specs.declared.sites.Members.{Members}
use Rattle.locus_ids.specs.declared.sites.Sites.{Sites}
use Rattle.locus_ids.specs.declared.sites.Links.{Links}
use Rattle.locus_ids.specs.declared.config.Config.{Config}
use Rattle.wire_messages.specs.Bodies.{kind_number}
use Rattle.wire_messages.specs.declared.packet.Packet.{Packet}
use Rattle.wire_messages.specs.declared.body.Body.{Body}
use Rattle.wire_messages.specs.declared.body.Body.TheVariants as body
use Rattle.the_run.specs.of_role_steps.Views.{Frame, SiteView, Outcome, quiet}
use Rattle.the_run.specs.of_role_steps.Storage.{copy_of}
use Rattle.the_run.specs.of_role_steps.Pulling.{pull_of, pages_in}
use Rattle.the_run.specs.of_role_steps.Epochs.{on_poll, on_promise, on_refuse, on_install, on_joined}
use Rattle.the_run.specs.Steps.{takes_inside, takes_framed, takes, adopts_in, tries_at}
use Rattle.run_laws.proofs.FactWalks.Pulls.{SiteSilent, notify_silent, delta_silent, page_silent}

-- it holds of what each packet does, with what is tried after it
pub record ByPacket (Q : Body → Outcome SiteView → (SiteView → Outcome SiteView) → Type 0) (c : Config) (me : ℕ) (links : Links) (p : Packet) (v : SiteView) : Type 0 where
  pub poll : Q body.Poll (on_poll me links p.from p.from_boot p.epoch v) quiet
  pub promise : (reach : Sites) → Q (body.Promise reach) (on_promise p.from p.from_boot p.epoch reach v) quiet
  pub refuse : (promised : EpochId) → Q (body.Refuse promised) (on_refuse me links p.epoch promised v) quiet
  pub install : (members : Members) → Q (body.Install members) (on_install c me p.from p.from_boot p.epoch members v) quiet
  pub joined : Q body.Joined (on_joined p.from p.epoch v) quiet
  -- a packet of the epoch
  pub inside : (x : Body) → nat_lt (kind_number x) 6 ≡ false → Q x (takes_framed c me p v.epoch v) quiet
  -- and one after which an adoption is tried: it tells nothing and writes nothing itself
  pub pulled : (x : Body) → nat_lt (kind_number x) 6 ≡ false → ((f : Frame) → SiteSilent (takes_inside f p.from x v)) → Q x (takes_framed c me p v.epoch v) (adopts_in c me)

module _ (Q : Body → Outcome SiteView → (SiteView → Outcome SiteView) → Type 0) (c : Config) (me : ℕ) (links : Links) (p : Packet) (v : SiteView) (k : ByPacket Q c me links p v) where
  pub by_packet : (x : Body) → Q x (takes c me links p x v) (tries_at c me x)
  by_packet body.Poll = k.poll
  by_packet (body.Promise reach) = k.promise reach
  by_packet (body.Refuse promised) = k.refuse promised
  by_packet (body.Install members) = k.install members
  by_packet body.Joined = k.joined
  by_packet (body.Notify file kind set size stamp vector holder) =
      k.pulled _ refl (λ f. notify_silent f p.from (copy_of v.store file) (record { file = file; kind = kind; set = set; size = size; stamp = stamp; vector = vector; holder = holder; base = None; wanted = None; content = [] }) v.pulls)
  by_packet (body.Page file stamp page bytes) = k.pulled _ refl (λ f. page_silent f stamp page bytes (pull_of v.pulls file) v.pulls)
  by_packet (body.Delta file wanted pages) = k.pulled _ refl (λ f. delta_silent f (pages_in (copy_of v.store file)) wanted pages (pull_of v.pulls file) v.pulls)
  by_packet x = k.inside x refl
