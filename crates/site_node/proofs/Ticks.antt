-- A tick: an adoption, what is sent again, and the end of the event.
use Rattle.std.proofs.Common.{◌≡◌, ℕ, List, [], ◌++◌, append_assoc, append-nil, Option, None, Some, refl, sym, ap, ◌∙◌, subst}
use Rattle.locus_ids.specs.declared.config.Config.{Config}
use Rattle.locus_ids.specs.declared.sites.Links.{Links}
use Rattle.disk_model.specs.Disk.{Moment}
use Rattle.wire_messages.specs.Outboxes.{Outgoing}
use Rattle.wire_messages.specs.declared.packet.Packet.{Packet}
use Rattle.role_steps.specs.Views.{Frame, SiteView, Outcome, Ticks}
use Rattle.role_steps.specs.Epochs.{frame_in, poll_repeats}
use Rattle.role_steps.specs.declared.rounds.InEpoch.{InEpoch}
use Rattle.role_steps.specs.declared.rounds.Round.{Round}
use Rattle.merge_protocol.specs.Parts.{alone}
use Rattle.site_packs.specs.Packs.{AreShown}
use Rattle.packet_order.specs.Orders.{behind, sorted_out}
use Rattle.the_run.specs.Steps.{adopts_in, ends_event, in_order, repeats, repeats_inside, repeats_of}
use Rattle.site_parts.specs.of_using_site.Steps.{Gives}
use Rattle.site_node.specs.Repeats.{Adds, Repeats, forming_repeats, installs_again}
use Rattle.site_node.specs.Views.{view_of, Moves, steps_at}
use Rattle.site_node.specs.declared.node.SiteNode.{SiteNode}
use Rattle.site_node.proofs.Moving.{moves_from, same_places, places_then}
use Rattle.site_node.proofs.Endings.{is_empty, ticked}

abbrev ends_in : Links → Config → ℕ → SiteView → Outcome SiteView
ends_in links c me v = ends_event c me links v

pub tick_given : (links : Links) (old mid late new : SiteNode) (m n o : Moment) (a b c d out first more now : Outgoing) → a.packets ≡ [] → a.records ≡ [] → c.packets ≡ [] → c.records ≡ []
    → Moves (adopts_in old.frame.config old.frame.me) old m mid n a b → first ≡ behind out b → Repeats mid late first more → Moves (ends_event late.frame.config late.frame.me links) late n new o c d → now ≡ behind more (sorted_out d)
    → Moves (steps_at old links Ticks) old m new o out now
tick_given links old mid late new m n o a b c d out first more now ap_ ar cp cr w i r x j = record {
  gives = ticked (adopts_in old.frame.config old.frame.me v0) (ends_event old.frame.config old.frame.me links v1) (repeats old.frame.config old.frame.me v1) (view_of mid n.seen) (view_of new o.seen) a b c d out first more now (is_empty a ap_ ar) (is_empty c cp cr) w.gives ends i adds j;
  stands = x.stands;
  places = places_then old.packs mid.packs new.packs w.places (places_then mid.packs late.packs new.packs (same_places mid.packs late.packs r.packs) x.places);
  config = x.config ∙ (r.config ∙ w.config);
  me = x.me ∙ (r.me ∙ w.me);
} where
  v0 : SiteView
  v0 = view_of old m.seen

  v1 : SiteView
  v1 = (adopts_in old.frame.config old.frame.me v0).view

  here : Moves (ends_event old.frame.config old.frame.me links) late n new o c d
  here = moves_from (ends_in links) old late new n o c d (r.config ∙ w.config) (r.me ∙ w.me) x

  ends : Gives (ends_event old.frame.config old.frame.me links v1) (view_of new o.seen) c d
  ends = subst (λ (v : SiteView). Gives (ends_event old.frame.config old.frame.me links v) (view_of new o.seen) c d) (r.view n.seen ∙ w.gives.view) here.gives

  adds : Adds (repeats old.frame.config old.frame.me v1) first more
  adds = subst (λ (v : SiteView). Adds (repeats old.frame.config old.frame.me v) first more) w.gives.view (subst (λ (s : ℕ). Adds (repeats old.frame.config s (view_of mid n.seen)) first more) w.me (subst (λ (k : Config). Adds (repeats k mid.frame.me (view_of mid n.seen)) first more) w.config (r.adds n.seen w.stands.shown)))

-- ---- packets that are added class by class ----

pub adds_then : (ps qs : List Packet) (a b c : Outgoing) → Adds ps a b → Adds qs b c → Adds (ps ++ qs) a c
adds_then ps qs a b c h k = record { packets = k.packets ∙ (ap (λ xs. xs ++ qs) h.packets ∙ append_assoc a.packets ps qs); records = k.records ∙ h.records }

-- an outbox that has these packets and no record is added, in order or as it stands
pub adds_sorted : (ps : List Packet) (a b out now : Outgoing) → a.packets ≡ [] → a.records ≡ [] → b.packets ≡ a.packets ++ ps → b.records ≡ a.records → now ≡ behind out (sorted_out b) → Adds (in_order ps) out now
adds_sorted ps a b out now p r q s n = record {
  packets = ap (λ (x : Outgoing). x.packets) n ∙ ap (λ (xs : List Packet). out.packets ++ in_order xs) (q ∙ ap (λ xs. xs ++ ps) p);
  records = ap (λ (x : Outgoing). x.records) n ∙ (ap (λ xs. out.records ++ xs) (s ∙ r) ∙ append-nil out.records);
}

pub adds_plain : (ps : List Packet) (a b out now : Outgoing) → a.packets ≡ [] → a.records ≡ [] → b.packets ≡ a.packets ++ ps → b.records ≡ a.records → now ≡ behind out b → Adds ps out now
adds_plain ps a b out now p r q s n = record {
  packets = ap (λ (x : Outgoing). x.packets) n ∙ ap (λ (xs : List Packet). out.packets ++ xs) (q ∙ ap (λ xs. xs ++ ps) p);
  records = ap (λ (x : Outgoing). x.records) n ∙ (ap (λ xs. out.records ++ xs) (s ∙ r) ∙ append-nil out.records);
}

-- ---- what forms an epoch, and what is sent again in it ----

polls_alone : (me : ℕ) (o : Option Round) (n : SiteNode) (image : List ℕ) → poll_repeats me (alone n.epochs) o ≡ poll_repeats me (view_of n image) o
polls_alone me None n image = refl
polls_alone me (Some r) n image = refl

-- the outbox has what forms an epoch
pub forming_packets : (m me : ℕ) (e : Option InEpoch) (n : SiteNode) (image : List ℕ) (a b c : Outgoing) → m ≡ me → a.packets ≡ [] → b.packets ≡ a.packets ++ poll_repeats m (alone n.epochs) n.epochs.round
    → c.packets ≡ installs_again me (view_of n image) e b.packets → c.packets ≡ forming_repeats me (view_of n image) e
forming_packets m me e n image a b c k p h t =
    let q : b.packets ≡ a.packets ++ poll_repeats me (alone n.epochs) n.epochs.round = subst (λ (i : ℕ). b.packets ≡ a.packets ++ poll_repeats i (alone n.epochs) n.epochs.round) k h in
    let polls : b.packets ≡ poll_repeats me (view_of n image) n.epochs.round = q ∙ (ap (λ (ps : List Packet). ps ++ poll_repeats me (alone n.epochs) n.epochs.round) p ∙ polls_alone me n.epochs.round n image) in
    t ∙ ap (λ (ps : List Packet). installs_again me (view_of n image) e ps) polls

pub forming_adds : (m me : ℕ) (e : Option InEpoch) (n : SiteNode) (image : List ℕ) (a b c out now : Outgoing) → m ≡ me → a.packets ≡ [] → a.records ≡ [] → b.packets ≡ a.packets ++ poll_repeats m (alone n.epochs) n.epochs.round → b.records ≡ a.records
    → c.packets ≡ installs_again me (view_of n image) e b.packets → c.records ≡ b.records → now ≡ behind out (sorted_out c) → Adds (in_order (forming_repeats me (view_of n image) e)) out now
forming_adds m me e n image a b c out now k p r h s t u x =
    let all : c.packets ≡ forming_repeats me (view_of n image) e = forming_packets m me e n image a b c k p h t in
    adds_sorted (forming_repeats me (view_of n image) e) a c out now p r (all ∙ ap (λ (ps : List Packet). ps ++ forming_repeats me (view_of n image) e) (sym p)) (u ∙ s) x

repeats_as : (c : Config) (me : ℕ) (e : Option InEpoch) (n : SiteNode) (image : List ℕ) → e ≡ n.epochs.epoch → repeats c me (view_of n image) ≡ repeats_of c me e (view_of n image)
repeats_as c me e n image h = ap (λ (o : Option InEpoch). repeats_of c me o (view_of n image)) (sym h)

pub repeats_outside : (e : Option InEpoch) (n : SiteNode) (a b : Outgoing) → e ≡ n.epochs.epoch → e ≡ None → ((image : List ℕ) → Adds (in_order (forming_repeats n.frame.me (view_of n image) e)) a b) → Repeats n n a b
repeats_outside e n a b h o f = record {
  adds = λ image s. subst (λ (ps : List Packet). Adds ps a b) (sym (repeats_as n.frame.config n.frame.me None n image (sym o ∙ h))) (subst (λ (x : Option InEpoch). Adds (in_order (forming_repeats n.frame.me (view_of n image) x)) a b) o (f image));
  view = λ image. refl;
  packs = refl;
  config = refl;
  me = refl;
}

pub repeats_within : (o : Option InEpoch) (e : InEpoch) (n : SiteNode) (frame : Frame) (a b d : Outgoing) → o ≡ n.epochs.epoch → o ≡ Some e → frame ≡ frame_in n.frame.config n.frame.me n.epochs.boot e
    → ((image : List ℕ) → Adds (in_order (forming_repeats n.frame.me (view_of n image) o)) a b) → ((image : List ℕ) (x : InEpoch) → AreShown n.packs.packs image → Adds (repeats_inside frame x (view_of n image)) b d) → Repeats n (record n { frame = frame }) a d
repeats_within o e n frame a b d h s f g k = record {
  adds = λ image shown.
      let forming : Adds (in_order (forming_repeats n.frame.me (view_of n image) (Some e))) a b = subst (λ (x : Option InEpoch). Adds (in_order (forming_repeats n.frame.me (view_of n image) x)) a b) s (g image) in
      let rest : Adds (repeats_inside (frame_in n.frame.config n.frame.me n.epochs.boot e) e (view_of n image)) b d = subst (λ (x : Frame). Adds (repeats_inside x e (view_of n image)) b d) f (k image e shown) in
      subst (λ (ps : List Packet). Adds ps a d) (sym (repeats_as n.frame.config n.frame.me (Some e) n image (sym s ∙ h))) (adds_then (in_order (forming_repeats n.frame.me (view_of n image) (Some e))) (repeats_inside (frame_in n.frame.config n.frame.me n.epochs.boot e) e (view_of n image)) a b d forming rest);
  view = λ image. refl;
  packs = refl;
  config = ap (λ (x : Frame). x.config) f;
  me = ap (λ (x : Frame). x.me) f;
}
