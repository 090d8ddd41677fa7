-- What becomes of the disk where a packet comes.
use Rattle.std.proofs.Common.{◌≡◌, ℕ, ◌≤◌, List, Bool, true, false, Option, None, refl, sym, ap, ◌∙◌, subst}
use Rattle.std.specs.Prelude.{Result, Ok, Err}
use Rattle.disk_model.specs.Disk.{Moment}
use Rattle.locus_ids.specs.declared.config.Config.{Config}
use Rattle.locus_ids.specs.declared.sites.Links.{Links}
use Rattle.wire_messages.specs.Outboxes.{Outgoing}
use Rattle.wire_messages.specs.declared.packet.Packet.{Packet}
use Rattle.role_steps.specs.Views.{SiteView, DiskWrite, Receives, first_written}
use Rattle.the_run.specs.Steps.{is_dropped, tries_at}
use Rattle.site_parts.specs.declared.fault.NodeFault.{NodeFault}
use Rattle.site_node.specs.declared.node.SiteNode.{SiteNode}
use Rattle.site_node.specs.Taking.{is_tried, taken}
use Rattle.site_node.specs.Views.{view_of, Moves, steps_at}
use Rattle.site_node.specs.Writing.{EventWrites}
use Rattle.site_node.proofs.Receives.{by_drop}
use Rattle.site_node.proofs.Together.{none_failed, reads_first, then_reads}
use Rattle.site_node.proofs.Unwritten.{both_step, first_none, tried_none, untried_none}

module _ (links : Links) (p : Packet) (n : SiteNode) (v : SiteView) where
  pub dropped_none : is_dropped p v ≡ true → (steps_at n links (Receives p) v).written ≡ None
  dropped_none d = ap (λ (b : Bool). (by_drop n.frame.config n.frame.me links p v b).written) d

  step_is : is_dropped p v ≡ false → (steps_at n links (Receives p) v).written ≡ first_written (tries_at n.frame.config n.frame.me p.body (taken n.frame.config n.frame.me links p v).view).written (taken n.frame.config n.frame.me links p v).written
  step_is d =
      ap (λ (b : Bool). (by_drop n.frame.config n.frame.me links p v b).written) d
      ∙ both_step n.frame.config n.frame.me links (taken n.frame.config n.frame.me links p v) (tries_at n.frame.config n.frame.me p.body (taken n.frame.config n.frame.me links p v).view)

  -- the adoption writes, or the packet's own part does
  step_tried : is_dropped p v ≡ false → is_tried p.body ≡ true → (steps_at n links (Receives p) v).written ≡ (tries_at n.frame.config n.frame.me p.body (taken n.frame.config n.frame.me links p v).view).written
  step_tried d e =
      let t : Option DiskWrite = (tries_at n.frame.config n.frame.me p.body (taken n.frame.config n.frame.me links p v).view).written in
      step_is d ∙ (ap (λ (x : Option DiskWrite). first_written t x) (tried_none n.frame.config n.frame.me links p v e) ∙ first_none t)

  step_untried : is_dropped p v ≡ false → is_tried p.body ≡ false → (steps_at n links (Receives p) v).written ≡ (taken n.frame.config n.frame.me links p v).written
  step_untried d e =
      step_is d ∙ ap (λ (x : Option DiskWrite). first_written x (taken n.frame.config n.frame.me links p v).written) (untried_none n.frame.config n.frame.me p.body (taken n.frame.config n.frame.me links p v).view e)

module _ {D : Type 0} (moment : D → Moment) (reads : (d : D) → (moment d).may_leave (moment d).seen) (counts : (d : D) (t : ℕ) (c : List ℕ) → t ≤ (moment d).now → (moment d).may_leave c → (moment d).may_have_left t c) where
  -- the packet's own part failed
  pub receive_failed : {T : Type 0} (links : Links) (p : Packet) (n : SiteNode) (old new : D) (a b : Outgoing) (e : NodeFault) → is_dropped p (view_of n (moment old).seen) ≡ false
      → EventWrites {T = T} (taken n.frame.config n.frame.me links p (view_of n (moment old).seen)).written n.packs (moment old) (moment new) a b (Err e)
      → EventWrites {T = T} (steps_at n links (Receives p) (view_of n (moment old).seen)).written n.packs (moment old) (moment new) a b (Err e)
  receive_failed {T = T} links p n old new a b e d k = by (is_tried p.body) refl where
    v : SiteView
    v = view_of n (moment old).seen

    Goal : Option DiskWrite → Type 0
    Goal w = EventWrites {T = T} w n.packs (moment old) (moment new) a b (Err e)

    by : (t : Bool) → is_tried p.body ≡ t → Goal (steps_at n links (Receives p) v).written
    by true h = none_failed moment reads counts {T = T} (steps_at n links (Receives p) v).written n.packs old new a b e (subst Goal (tried_none n.frame.config n.frame.me links p v h) k)
    by false h = subst Goal (sym (step_untried links p n v d h)) k

  -- it ended well, and the adoption was tried
  pub received : {S T : Type 0} (links : Links) (p : Packet) (n after : SiteNode) (old mid new : D) (a b c e : Outgoing) (x : S) (r : Result T NodeFault) → is_dropped p (view_of n (moment old).seen) ≡ false
      → Moves (taken n.frame.config n.frame.me links p) n (moment old) after (moment mid) a b
      → EventWrites (taken n.frame.config n.frame.me links p (view_of n (moment old).seen)).written n.packs (moment old) (moment mid) a b (Ok x)
      → EventWrites (tries_at after.frame.config after.frame.me p.body (view_of after (moment mid).seen)).written after.packs (moment mid) (moment new) c e r
      → EventWrites (steps_at n links (Receives p) (view_of n (moment old).seen)).written n.packs (moment old) (moment new) c e r
  received {S = S} {T = T} links p n after old mid new a b c e x r d w one two = by (is_tried p.body) refl where
    v : SiteView
    v = view_of n (moment old).seen

    now : SiteView
    now = view_of after (moment mid).seen

    Goal : Option DiskWrite → Type 0
    Goal o = EventWrites {T = T} o n.packs (moment old) (moment new) c e r

    First : Option DiskWrite → Type 0
    First o = EventWrites {T = S} o n.packs (moment old) (moment mid) a b (Ok x)

    Second : Option DiskWrite → Type 0
    Second o = EventWrites {T = T} o after.packs (moment mid) (moment new) c e r

    here : (tries_at after.frame.config after.frame.me p.body now).written ≡ (tries_at n.frame.config n.frame.me p.body (taken n.frame.config n.frame.me links p v).view).written
    here =
        ap (λ (k : Config). (tries_at k after.frame.me p.body now).written) w.config
        ∙ (ap (λ (s : ℕ). (tries_at n.frame.config s p.body now).written) w.me
        ∙ ap (λ (y : SiteView). (tries_at n.frame.config n.frame.me p.body y).written) w.gives.view)

    by : (t : Bool) → is_tried p.body ≡ t → Goal (steps_at n links (Receives p) v).written
    by true h =
        subst Goal (here ∙ sym (step_tried links p n v d h))
        (reads_first moment reads counts {S = S} {T = T} (tries_at after.frame.config after.frame.me p.body now).written n.packs after.packs old mid new a b c e x r w.places (subst First (tried_none n.frame.config n.frame.me links p v h) one) two)
    by false h =
        subst Goal (sym (step_untried links p n v d h))
        (then_reads moment reads counts {S = S} {T = T} (taken n.frame.config n.frame.me links p v).written n.packs after.packs old mid new a b c e c e x r one (subst Second (here ∙ untried_none n.frame.config n.frame.me p.body (taken n.frame.config n.frame.me links p v).view h) two))
