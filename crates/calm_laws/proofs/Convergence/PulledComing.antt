-- A packet comes to a member that pulls the only kept version of a file that nobody has open: its pull stood before, unless what it wants next
-- is asked now; and where it brings what the pull waits for, what it wants then is asked.
use Rattle.std.proofs.Common.{List, None, Option, Some, [], ap, false, inl, inr, length, refl, subst, sym, true, ℕ, ◌∙◌, ◌≡◌, ◌⊎◌}
use Rattle.std.specs.Option.{option_map}
use Rattle.calm_laws.proofs.Events.{Under}
use Rattle.calm_laws.specs.Carrying.{frame_of}
use Rattle.calm_laws.specs.Rounds.{Delivery}
use Rattle.commit_graph.specs.Vectors.{vector_of}
use Rattle.commit_graph.specs.Versions.{content_of}
use Rattle.calm_laws.proofs.Convergence.Adopting.{left_pulls}
use Rattle.calm_laws.proofs.Convergence.Coming.{Ends, ends_keep}
use Rattle.calm_laws.proofs.Convergence.DueSteps.{sent_under}
use Rattle.calm_laws.proofs.Convergence.Going.{other_keeps}
use Rattle.calm_laws.proofs.Convergence.Happening.{Before, Happened, IsStill, IsTaken}
use Rattle.calm_laws.proofs.Convergence.Midst.{Midst, pull_in}
use Rattle.calm_laws.proofs.Convergence.PulledCarried.{Answers, Brings, IsNewPull, OnWay, delta_new, delta_taken, next_among, notify_new, page_new, page_taken}
use Rattle.calm_laws.proofs.Convergence.PulledDelta.{delta_fits}
use Rattle.calm_laws.proofs.Convergence.PulledHeld.{Settled}
use Rattle.calm_laws.proofs.Convergence.PulledSteps.{Pulling, copy_is, file_is, pull_there}
use Rattle.calm_laws.specs.Convergence.Converging.{FormsEpochs}
use Rattle.calm_laws.specs.Convergence.Offers.{is_above}
use Rattle.run_laws.proofs.Epochs.Forms.{framed_formless}
use Rattle.run_laws.specs.Epochs.Forming.{FormlessSite, FormsNone}
use Rattle.file_content.specs.Pages.{pages_of}
use Rattle.locus_ids.specs.declared.config.Config.{Config}
use Rattle.locus_ids.specs.declared.ids.FileId.{FileId}
use Rattle.locus_ids.specs.declared.ids.Stamp.{Stamp}
use Rattle.row_laws.proofs.Orderly.Rounds.{next_among as next_there}
use Rattle.store_laws.proofs.OneTree.Run.{arrives_fact}
use Rattle.store_laws.specs.OneTree.Wants.{Arrives, DeltaOf}
use Rattle.role_steps.proofs.of_plain_facts.Options.{some_same}
use Rattle.role_steps.proofs.of_plain_facts.Tests.{true_false}
use Rattle.role_steps.specs.Epochs.{frame_in}
use Rattle.role_steps.specs.Pulling.{are_delta, is_complete, next_asked, pages_in, pull_of, pull_packets}
use Rattle.role_steps.specs.Storage.{copy_of, delta_of}
use Rattle.role_steps.specs.Versions.{is_below}
use Rattle.role_steps.specs.Views.{Frame, Outcome, Receives, SiteView, packet}
use Rattle.role_steps.specs.declared.pulls.Pull.{Pull}
use Rattle.role_steps.specs.declared.rounds.InEpoch.{InEpoch}
use Rattle.schedule_lines.specs.declared.line.ScheduleLine.{ScheduleLine}
use Rattle.the_run.specs.Kept.{Among}
use Rattle.the_run.specs.Runs.{arrives}
use Rattle.the_run.specs.Steps.{adopts_of, ends_event, takes_inside, tries_at}
use Rattle.the_run.specs.Worlds.{Line, Numbered, World}
use Rattle.tree_laws.specs.Deltas.{AgreeBut, DeltaFact, PullsAbove}
use Rattle.tree_laws.specs.Printed.{entries}
use Rattle.tree_laws.specs.Stores.{PullFact, copy_for}
use Rattle.tree_model.specs.Files.{HeldVersion, version_of}
use Rattle.tree_model.specs.Histories.{held, history}
use Rattle.wire_messages.specs.declared.body.Body.{Body}
use Rattle.wire_messages.specs.declared.body.Body.TheVariants as body
use Rattle.wire_messages.specs.declared.packet.Packet.{Packet}

-- ---- what is pulled after a packet ----

-- an adoption that is tried leaves pulls that stood before
tried_less : (c : Config) (e : InEpoch) (s : ℕ) (b : Body) (v : SiteView) (p : Pull) → v.epoch ≡ Some e → Among p (tries_at c s b v).view.pulls → Among p v.pulls
tried_less c e s b v p inside = by b
  where
    adopted : Among p (adopts_of c s v.epoch v).view.pulls → Among p v.pulls
    adopted = subst (λ (o : Option InEpoch). Among p (adopts_of c s o v).view.pulls → Among p v.pulls) (sym inside) (left_pulls (frame_in c s v.boot e) v.pulls v p)

    by : (z : Body) → Among p (tries_at c s z v).view.pulls → Among p v.pulls
    by (body.Notify about what sites size stamp vector holder) = adopted
    by (body.Page about stamp page bytes) = adopted
    by (body.Delta about wanted pages) = adopted
    by _ = λ a. a

-- a pull after the handler stood before it, or what it wants next was sent
inside_new : (f : Frame) (from : ℕ) (b : Body) (v : SiteView) (p : Pull) → Among p (takes_inside f from b v).view.pulls → IsNewPull f v.pulls (takes_inside f from b v).sent p
inside_new f from b v p = by b
  where
    Is : Body → Type 0
    Is z = Among p (takes_inside f from z v).view.pulls → IsNewPull f v.pulls (takes_inside f from z v).sent p

    same : (z : Body) → (takes_inside f from z v).view.pulls ≡ v.pulls → Is z
    same z eq a = inl (subst (λ (ps : List Pull). Among p ps) eq a)

    by : (z : Body) → Is z
    by (body.Notify about what sites size stamp vector holder) = notify_new f from (copy_of v.store about) (record { file = about; kind = what; set = sites; size = size; stamp = stamp; vector = vector; holder = holder; base = None; wanted = None; content = [] }) v.pulls p
    by (body.Page about stamp page bytes) = page_new f stamp page bytes (pull_of v.pulls about) v.pulls p
    by (body.Delta about wanted pages) = delta_new f (pages_in (copy_of v.store about)) wanted pages (pull_of v.pulls about) v.pulls p
    by (body.Op serial n o seen) = same (body.Op serial n o seen) refl
    by (body.ReadHeld serial n at len) = same (body.ReadHeld serial n at len) refl
    by (body.Close serial) = same (body.Close serial) refl
    by z = same z (other_keeps f from z v tt).pulls

-- ---- the packet comes ----

module _ (c : Config) (lines : List ScheduleLine) (n : ℕ) (e : InEpoch) (x : Numbered) (w : World) (d : Delivery c lines n e x w) where
  abbrev s : ℕ
  s = x.packet.to

  abbrev f : Frame
  f = frame_of c e s

  abbrev v : SiteView
  v = d.view

  -- what a pull wants next is under way
  asks_next : (p : Pull) → FormsNone x.packet.body → is_complete p ≡ false → ((q : Packet) → Among q (pull_packets f p) → Among q (takes_inside f x.packet.from x.packet.body v).sent) → OnWay c e (arrives c n x w) s p
  asks_next p forms unfinished sent = record { letter = u.letter; there = u.there; carries = inl (record { is = u.is }) }
    where
      next : Packet
      next = packet f p.holder (next_asked p p.base p.wanted)

      u : Under (arrives c n x w).underway next
      u = sent_under c lines n e x w x.packet.body d refl forms next (sent next (next_among f p unfinished))

  -- it brings what the pull waits for, which is there still
  module _ (file : FileId) (p : Pull) (k : Midst c e w) (stands : Settled c e w file p.stamp) (g : Pulling c e w s file v p) (unfinished : is_complete p ≡ false) where
    there : Among p v.pulls
    there = (pull_there c e w k s d.member file v p g).0

    abbrev Sent : Body → Type 0
    Sent b = Among p (takes_inside f x.packet.from b v).view.pulls → (q : Packet) → Among q (pull_packets f p) → Among q (takes_inside f x.packet.from b v).sent

    page_brought : (about : FileId) (stamp : Stamp) (page : ℕ) (bytes : List ℕ) → Answers p (body.Page about stamp page bytes) → Sent (body.Page about stamp page bytes)
    page_brought about stamp page bytes h = subst (λ (b : Body). Sent b) (λ i. body.Page (sym h.0 i) (sym h.1 i) (sym h.2 i) bytes) (page_taken f p bytes v.pulls (k.ascend s v d.here) there unfinished h.3 h.4)

    delta_brought : (about : FileId) (stamp : Stamp) (pages : List ℕ) → x.packet.body ≡ body.Delta about stamp pages → x.packet.epoch ≡ e.id → v.epoch ≡ Some e → Answers p (body.Delta about stamp pages) → Sent (body.Delta about stamp pages)
    delta_brought about stamp pages is epoch inside h = subst (λ (b : Body). Sent b) (λ i. body.Delta (sym h.0 i) (sym h.1 i) pages) (delta_taken f (pages_in (copy_of v.store p.file)) p pages v.pulls (k.ascend s v d.here) there h.2 fits)
      where
        t : List Line
        t = w.trace

        is_file : p.file ≡ file
        is_file = file_is c e w k s d.member file v p g

        fact : PullFact c t e.id s p
        fact = pull_in c e w k s v d.member d.here p there

        arrived : Arrives c t x.packet v
        arrived = arrives_fact c w x v stands.facts.fact (inr (next_there w w.over x d.next)) d.here

        of_delta : DeltaFact c t s v.pulls about stamp pages
        of_delta = subst (λ (b : Body). DeltaOf c t s v.pulls b) is (arrived.deltas e inside (sym epoch))

        asked : DeltaFact c t s v.pulls file p.stamp pages
        asked = subst (λ (z : Stamp). DeltaFact c t s v.pulls file z pages) h.1 (subst (λ (z : FileId). DeltaFact c t s v.pulls z stamp pages) (h.0 ∙ is_file) of_delta)

        now : HeldVersion
        now = asked.asked.now

        found : copy_of v.store file ≡ Some (copy_for file now)
        found = copy_is c e w k s d.member file v p g ∙ ap (option_map (copy_for file)) asked.asked.held

        version : fact.version ≡ version_of c (entries t) file p.stamp
        version = fact.is_version.same ∙ (ap (λ (z : FileId). version_of c (entries t) z fact.version.stamp) is_file ∙ ap (version_of c (entries t) file) fact.stamp_is)

        held_is : (o : Option Stamp) → option_map (version_of c (entries t) file) o ≡ Some now → now.content ≡ content_of (history c (entries t)) file now.stamp
        held_is None q = absurd (none_now q)
          where
            none_now : ◌≡◌ {A = Option HeldVersion} None (Some now) → ⊥
            none_now z = cc
        held_is (Some z) q = subst (λ (y : HeldVersion). y.content ≡ content_of (history c (entries t)) file y.stamp) (some_same (version_of c (entries t) file z) now q) refl

        own_is : now.stamp ≡ asked.own
        own_is = by asked.asked.over
          where
            below : is_below now.vector (version_of c (entries t) file p.stamp).vector ≡ true
            below = ap (is_below now.vector) (ap (λ (y : HeldVersion). y.vector) (sym version) ∙ fact.vector_is) ∙ (sym (ap (is_above p.vector) found) ∙ g.above)

            by : ((now.stamp ≡ asked.own) × ((q : Pull) × (pull_of v.pulls file ≡ Some q) × PullsAbove c t file p.stamp asked.own q)) ⊎ (is_below now.vector (vector_of (history c (entries t)) file p.stamp) ≡ false) → now.stamp ≡ asked.own
            by (inl a) = a.0
            by (inr low) = absurd (true_false (sym below ∙ low))

        agree : AgreeBut now.content fact.version.content pages
        agree = subst (λ (l : List ℕ). AgreeBut now.content l pages) (ap (λ (y : HeldVersion). y.content) (sym version))
            (subst (λ (l : List ℕ). AgreeBut l (content_of (history c (entries t)) file p.stamp) pages) (ap (content_of (history c (entries t)) file) (sym own_is) ∙ sym (held_is (held c (entries t) s file) asked.asked.held)) asked.differ.agree)

        since : Option (List ℕ)
        since = h.3.0

        pages_is : pages ≡ delta_of (pages_of (length fact.version.content)) since
        pages_is = h.3.1 ∙ ap (λ (z : ℕ). delta_of (pages_of z) since) (sym fact.size_is)

        own_pages : pages_in (copy_of v.store p.file) ≡ pages_of (length now.content)
        own_pages = ap (λ (z : FileId). pages_in (copy_of v.store z)) is_file ∙ ap pages_in found

        fits : are_delta (pages_in (copy_of v.store p.file)) (pages_of p.size) pages ≡ true
        fits = ap (λ (z : ℕ). are_delta z (pages_of p.size) pages) own_pages ∙ (ap (λ (z : ℕ). are_delta (pages_of (length now.content)) (pages_of z) pages) (sym fact.size_is)
            ∙ (ap (are_delta (pages_of (length now.content)) (pages_of (length fact.version.content))) pages_is ∙ delta_fits now.content fact.version.content since (subst (AgreeBut now.content fact.version.content) pages_is agree)))

    pub brought : FormsNone x.packet.body → x.packet.epoch ≡ e.id → v.epoch ≡ Some e → Among p (takes_inside f x.packet.from x.packet.body v).view.pulls → Brings c e s p x.packet → OnWay c e (arrives c n x w) s p
    brought forms epoch inside still b = asks_next p forms unfinished (subst Sent (sym is_body) (by b.answer b.answers is_body) still)
      where
        is_body : x.packet.body ≡ b.answer
        is_body = ap (λ (q : Packet). q.body) b.is

        by : (z : Body) → Answers p z → x.packet.body ≡ z → Sent z
        by (body.Page about stamp page bytes) h is = page_brought about stamp page bytes h
        by (body.Delta about stamp pages) h is = delta_brought about stamp pages is epoch inside h
        by _ h is = absurd h

  -- the pull stood before, or what it wants next is asked
  module _ (u : SiteView) (p : Pull) (before : Before c e s v) (h : Happened c e s v u (Receives x.packet)) (unfinished : is_complete p ≡ false) (a : Among p u.pulls) where
    ends : Ends h.last (ends_event c s h.links h.last).view
    ends = ends_keep c s h.links h.last e h.round h.epoch

    in_last : Among p h.last.pulls
    in_last = subst (λ (ps : List Pull). Among p ps) (ap (λ (y : SiteView). y.pulls) h.ended ∙ ends.pulls) a

    never_brings : FormsEpochs x.packet.body → Brings c e s p x.packet → ⊥
    never_brings forms b = by b.answer b.answers (subst FormsEpochs (ap (λ (q : Packet). q.body) b.is) forms)
      where
        by : (z : Body) → Answers p z → FormsEpochs z → ⊥
        by (body.Page about stamp page bytes) q f = f
        by (body.Delta about stamp pages) q f = f
        by _ q f = q

    -- what was there before, and what it does where the packet brings what it waits for
    pub comes_so : (R : Type 0) → (OnWay c e (arrives c n x w) s p → R) → (Among p v.pulls → ((Brings c e s p x.packet → ⊥) ⊎ ((FormsNone x.packet.body) × (x.packet.epoch ≡ e.id) × Among p (takes_inside f x.packet.from x.packet.body v).view.pulls)) → R) → R
    comes_so R asks was = by h.by
      where
        by : IsTaken c e s v h.last x.packet ⊎ IsStill v h.last x.packet.body → R
        by (inr q) = was (subst (λ (ps : List Pull). Among p ps) q.pulls in_last) (inl (never_brings q.forms))
        by (inl t) = over (inside_new f x.packet.from x.packet.body v p in_mid)
          where
            mid : Outcome SiteView
            mid = takes_inside f x.packet.from x.packet.body v

            formless : FormlessSite v mid
            formless = subst (λ (i : ℕ). FormlessSite v (takes_inside (frame_in c s i e) x.packet.from x.packet.body v)) before.boot (framed_formless c s x.packet (Some e) v before.formless)

            in_mid : Among p mid.view.pulls
            in_mid = tried_less c e s x.packet.body mid.view p (formless.epoch ∙ before.epoch) (subst (λ (y : SiteView). Among p y.pulls) t.is in_last)

            over : IsNewPull f v.pulls mid.sent p → R
            over (inl old) = was old (inr (t.forms, t.epoch, in_mid))
            over (inr sent) = asks (asks_next p t.forms unfinished sent)
