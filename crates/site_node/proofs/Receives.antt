-- A packet comes.
use Rattle.std.proofs.Common.{◌≡◌, ℕ, [], Bool, true, false, refl, sym, ap, ◌∙◌}
use Rattle.disk_model.specs.Disk.{Moment}
use Rattle.locus_ids.specs.declared.config.Config.{Config}
use Rattle.locus_ids.specs.declared.sites.Links.{Links}
use Rattle.wire_messages.specs.Outboxes.{Outgoing}
use Rattle.wire_messages.specs.declared.body.Body.{Body}
use Rattle.wire_messages.specs.declared.body.Body.TheVariants as body
use Rattle.wire_messages.specs.declared.packet.Packet.{Packet}
use Rattle.role_steps.specs.Views.{SiteView, Outcome, Receives, quiet}
use Rattle.packet_order.specs.Orders.{behind, sorted_out}
use Rattle.site_packs.specs.Packs.{Stand}
use Rattle.the_run.specs.Steps.{adopts_in, ends_event, is_dropped, takes, tries_at, whole}
use Rattle.site_parts.proofs.of_site_tables.Giving.{gives_none, gives_as}
use Rattle.site_node.specs.Taking.{is_tried, taken}
use Rattle.site_node.specs.Views.{view_of, Moves, steps_at}
use Rattle.site_node.specs.declared.node.SiteNode.{SiteNode}
use Rattle.site_node.proofs.Endings.{event_adopting}
use Rattle.site_node.proofs.Moving.{moves_as, moves_from, moves_none, same_places}

pub tried : (c : Config) (me : ℕ) (b : Body) (v : SiteView) → true ≡ is_tried b → tries_at c me b v ≡ adopts_in c me v
tried c me (body.Notify file kind set size stamp vector holder) v e = refl
tried c me (body.Page file stamp page bytes) v e = refl
tried c me (body.Delta file wanted pages) v e = refl
tried c me _ v e = absurd (cc)

untried : (c : Config) (me : ℕ) (b : Body) (v : SiteView) → false ≡ is_tried b → tries_at c me b v ≡ quiet v
untried c me (body.Notify file kind set size stamp vector holder) v e = absurd (cc)
untried c me (body.Page file stamp page bytes) v e = absurd (cc)
untried c me (body.Delta file wanted pages) v e = absurd (cc)
untried c me _ v e = refl

pub tries_none : (c : Config) (me : ℕ) (b : Body) (t : Bool) (n : SiteNode) (m : Moment) (a : Outgoing) → Stand n.packs m → t ≡ is_tried b → t ≡ false → Moves (tries_at c me b) n m n m a a
tries_none c me b t n m a s e f = moves_as quiet (tries_at c me b) n n m m a a (λ v. untried c me b v (sym f ∙ e)) (moves_none n m a s)

pub tries_now : (c : Config) (me : ℕ) (b : Body) (t : Bool) (old new : SiteNode) (m n : Moment) (a d : Outgoing) → t ≡ is_tried b → t ≡ true → Moves (adopts_in c me) old m new n a d → Moves (tries_at c me b) old m new n a d
tries_now c me b t old new m n a d e f w = moves_as (adopts_in c me) (tries_at c me b) old new m n a d (λ v. tried c me b v (sym f ∙ e)) w

abbrev pub by_drop : Config → ℕ → Links → Packet → SiteView → Bool → Outcome SiteView
by_drop c me links p v b = elim b [
  | true ↦ quiet v
  | false ↦ whole c me links (takes c me links p p.body v) (tries_at c me p.body)
]

pub receives_none : (links : Links) (p : Packet) (n : SiteNode) (m : Moment) (a : Outgoing) → Stand n.packs m → is_dropped p (view_of n m.seen) ≡ true → Moves (steps_at n links (Receives p)) n m n m a a
receives_none links p n m a s d = record {
  gives = gives_as (quiet (view_of n m.seen)) (steps_at n links (Receives p) (view_of n m.seen)) (view_of n m.seen) a a (ap (by_drop n.frame.config n.frame.me links p (view_of n m.seen)) d) (gives_none (view_of n m.seen) a);
  stands = s;
  places = same_places n.packs n.packs refl;
  config = refl;
  me = refl;
}

pub receives : (links : Links) (p : Packet) (old mid late new : SiteNode) (m n o q : Moment) (a b c d e out first now : Outgoing) → a.packets ≡ [] → a.records ≡ [] → d.packets ≡ [] → d.records ≡ []
    → is_dropped p (view_of old m.seen) ≡ false → Moves (taken old.frame.config old.frame.me links p) old m mid n a b → Moves (tries_at mid.frame.config mid.frame.me p.body) mid n late o d e → Moves (ends_event late.frame.config late.frame.me links) late o new q b c
    → first ≡ behind out e → now ≡ behind first (sorted_out c) → Moves (steps_at old links (Receives p)) old m new q out now
receives links p old mid late new m n o q a b c d e out first now a0 a1 d0 d1 k w x y i j =
    let v : SiteView = view_of old m.seen in
    let tries : Moves (tries_at old.frame.config old.frame.me p.body) mid n late o d e = moves_from (λ f me. tries_at f me p.body) old mid late n o d e w.config w.me x in
    let ends : Moves (ends_event old.frame.config old.frame.me links) late o new q b c = moves_from (λ f me. ends_event f me links) old late new o q b c (x.config ∙ w.config) (x.me ∙ w.me) y in
    let both = event_adopting (taken old.frame.config old.frame.me links p) (tries_at old.frame.config old.frame.me p.body) (ends_event old.frame.config old.frame.me links) old mid late new m n o q a b c d e out first now a0 a1 d0 d1 w tries ends i j in record {
      gives = gives_as (whole old.frame.config old.frame.me links (takes old.frame.config old.frame.me links p p.body v) (tries_at old.frame.config old.frame.me p.body)) (steps_at old links (Receives p) v) (view_of new q.seen) out now (ap (by_drop old.frame.config old.frame.me links p v) k) both.gives;
      stands = both.stands;
      places = both.places;
      config = both.config;
      me = both.me;
    }
