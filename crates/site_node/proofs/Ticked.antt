-- What an event needs, as each of its parts meets it.
use Rattle.std.proofs.Common.{◌≡◌, ◌≤◌, ◌<◌, ◌-◌, ℕ, true, false, List, [], ◌++◌, length, Option, Some, refl, sym, ap, ◌∙◌, subst, arith}
use Rattle.std.specs.List.{AllByRecursion}
use Rattle.std.specs.Option.{is_some}
use Rattle.disk_model.specs.Disk.{Moment}
use Rattle.locus_ids.specs.declared.config.Config.{Config}
use Rattle.locus_ids.specs.declared.sites.Links.{Links}
use Rattle.file_content.specs.Pages.{has_page, pages_of}
use Rattle.wire_messages.specs.Outboxes.{Outgoing}
use Rattle.packet_order.specs.Counts.{FitsIfCounted}
use Rattle.wire_messages.specs.declared.body.Body.{Body}
use Rattle.wire_messages.specs.declared.packet.Packet.{Packet}
use Rattle.role_steps.specs.Epochs.{frame_in, passes_over}
use Rattle.role_steps.proofs.of_plain_facts.Numbers.{same as is_same}
use Rattle.role_steps.proofs.of_plain_facts.Tests.{and_second}
use Rattle.role_steps.specs.Storage.{content_of}
use Rattle.role_steps.specs.Pulling.{bytes_in, is_complete, pages_got, wanted_pages}
use Rattle.role_steps.specs.Views.{Frame, Outcome, Receives, SiteView, Ticks}
use Rattle.role_steps.specs.declared.pulls.Pull.{Pull}
use Rattle.role_steps.specs.declared.rounds.InEpoch.{InEpoch}
use Rattle.the_run.specs.Steps.{adopts_in, ends_event, in_order, is_dropped, repeats, step, tries_at}
use Rattle.site_parts.specs.of_using_site.Steps.{Gives}
use Rattle.stored_versions.specs.declared.new_version.NewVersion.{NewVersion}
use Rattle.site_packs.specs.of_inode_pack.of_new_contents.declared.laid_pages.LaidPages.{LaidPages}
use Rattle.site_packs.specs.Committing.{IsWholeFit, room}
use Rattle.site_packs.specs.of_page_marks.Laying.{AreLaid, ArePagesOf, AreRising}
use Rattle.site_packs.specs.Laying.{IsLaidFit}
use Rattle.site_packs.specs.Packs.{copy_at, groups_of}
use Rattle.site_node.specs.Adopting.{choice_at, fits_own_in}
use Rattle.role_steps.specs.Adoption.{is_ready}
use Rattle.propagation.specs.Choosing.{without_chosen}
use Rattle.propagation.specs.Sized.{IsSized}
use Rattle.site_node.specs.Fitting.{CanAdopt, CanKeep, CanTakeIn, CanTakeInside, HasInodes, acted}
use Rattle.site_node.specs.Repeats.{Repeats}
use Rattle.site_node.specs.Taking.{taken}
use Rattle.site_node.specs.Views.{Moves, view_of}
use Rattle.site_node.specs.declared.node.SiteNode.{SiteNode}
use Rattle.site_node.proofs.Adoptions.{chosen_above, chosen_ready}
use Rattle.site_node.proofs.Fitted.{all_first, all_last, all_ordered, chosen_pull, own_fit, step_taken, tables_then}
use Rattle.site_node.proofs.Moving.{moves_from}

abbrev AllFit : List Packet → Type 0
AllFit ps = AllByRecursion FitsIfCounted ps

-- ---- a tick ----

-- after what is sent again, the site is as it was
pub late_tables : (links : Links) (old mid late : SiteNode) (m n : Moment) (a b c d : Outgoing) → Moves (adopts_in old.frame.config old.frame.me) old m mid n a b → Repeats mid late c d
    → HasInodes (passes_over old.frame.config old.frame.me links (acted old.frame.config old.frame.me links (view_of old m.seen) Ticks)).view.tables → HasInodes (passes_over late.frame.config late.frame.me links (view_of late n.seen)).view.tables
late_tables links old mid late m n a b c d w r h =
    subst (λ (k : Config). HasInodes (passes_over k late.frame.me links (view_of late n.seen)).view.tables) (sym r.config)
    (subst (λ (s : ℕ). HasInodes (passes_over mid.frame.config s links (view_of late n.seen)).view.tables) (sym r.me)
    (subst (λ (v : SiteView). HasInodes (passes_over mid.frame.config mid.frame.me links v).view.tables) (sym (r.view n.seen))
    (tables_then (adopts_in old.frame.config old.frame.me) links old mid m n a b w h)))

pub again_fit : (links : Links) (old mid : SiteNode) (m n : Moment) (a b : Outgoing) → Moves (adopts_in old.frame.config old.frame.me) old m mid n a b → AllFit (step old.frame.config old.frame.me links (view_of old m.seen) Ticks).sent → AllFit (repeats mid.frame.config mid.frame.me (view_of mid n.seen))
again_fit links old mid m n a b w h =
    let v : SiteView = view_of old m.seen in
    let o : Outcome SiteView = adopts_in old.frame.config old.frame.me v in
    let last : Outcome SiteView = ends_event old.frame.config old.frame.me links o.view in
    let k : AllFit (repeats old.frame.config old.frame.me o.view) = all_first (repeats old.frame.config old.frame.me o.view) (in_order last.sent) (all_last o.sent (repeats old.frame.config old.frame.me o.view ++ in_order last.sent) h) in
    subst (λ (c : Config). AllFit (repeats c mid.frame.me (view_of mid n.seen))) (sym w.config)
    (subst (λ (s : ℕ). AllFit (repeats old.frame.config s (view_of mid n.seen))) (sym w.me)
    (subst (λ (u : SiteView). AllFit (repeats old.frame.config old.frame.me u)) (sym w.gives.view) k))

pub last_fit : (links : Links) (old mid late new : SiteNode) (m n o : Moment) (a b c d e f : Outgoing) → e.packets ≡ [] → Moves (adopts_in old.frame.config old.frame.me) old m mid n a b → Repeats mid late c d → Moves (ends_event late.frame.config late.frame.me links) late n new o e f
    → AllFit (step old.frame.config old.frame.me links (view_of old m.seen) Ticks).sent → AllFit f.packets
last_fit links old mid late new m n o a b c d e f none w r x h = subst AllFit (sym sent) (all_ordered last.sent (all_last (repeats old.frame.config old.frame.me v1) (in_order last.sent) (all_last (adopts_in old.frame.config old.frame.me v0).sent (repeats old.frame.config old.frame.me v1 ++ in_order last.sent) h)))
  where
    v0 : SiteView
    v0 = view_of old m.seen

    v1 : SiteView
    v1 = (adopts_in old.frame.config old.frame.me v0).view

    last : Outcome SiteView
    last = ends_event old.frame.config old.frame.me links v1

    here : Moves (ends_event old.frame.config old.frame.me links) late n new o e f
    here = moves_from (λ k me. ends_event k me links) old late new n o e f (r.config ∙ w.config) (r.me ∙ w.me) x

    ends : Gives last (view_of new o.seen) e f
    ends = subst (λ (v : SiteView). Gives (ends_event old.frame.config old.frame.me links v) (view_of new o.seen) e f) (r.view n.seen ∙ w.gives.view) here.gives

    sent : f.packets ≡ last.sent
    sent = ends.packets ∙ ap (λ (ps : List Packet). ps ++ last.sent) none

-- ---- a packet that comes ----

pub tried_fit : (f : SiteView → Outcome SiteView) (old mid : SiteNode) (m n : Moment) (a b : Outgoing) → Moves f old m mid n a b → CanAdopt (groups_of old.packs) (f (view_of old m.seen)).view → CanAdopt (groups_of mid.packs) (view_of mid n.seen)
tried_fit f old mid m n a b w h = subst (λ (gs : List ℕ). CanAdopt gs (view_of mid n.seen)) (sym w.places.groups) (subst (λ (v : SiteView). CanAdopt (groups_of old.packs) v) (sym w.gives.view) h)

module _ (links : Links) (p : Packet) (old mid late : SiteNode) (m n o : Moment) (a b d e : Outgoing) where
  tries : Moves (taken old.frame.config old.frame.me links p) old m mid n a b → Moves (tries_at mid.frame.config mid.frame.me p.body) mid n late o d e → Moves (tries_at old.frame.config old.frame.me p.body) mid n late o d e
  tries w x = moves_from (λ k me. tries_at k me p.body) old mid late n o d e w.config w.me x

  pub came_tables : Moves (taken old.frame.config old.frame.me links p) old m mid n a b → Moves (tries_at mid.frame.config mid.frame.me p.body) mid n late o d e
      → HasInodes (passes_over old.frame.config old.frame.me links (acted old.frame.config old.frame.me links (view_of old m.seen) (Receives p))).view.tables → HasInodes (passes_over late.frame.config late.frame.me links (view_of late o.seen)).view.tables
  came_tables w x h =
      subst (λ (k : Config). HasInodes (passes_over k late.frame.me links (view_of late o.seen)).view.tables) (sym (x.config ∙ w.config))
      (subst (λ (s : ℕ). HasInodes (passes_over old.frame.config s links (view_of late o.seen)).view.tables) (sym (x.me ∙ w.me))
      (subst (λ (v : SiteView). HasInodes (passes_over old.frame.config old.frame.me links v).view.tables) (sym ((tries w x).gives.view ∙ ap (λ (v : SiteView). (tries_at old.frame.config old.frame.me p.body v).view) w.gives.view)) h))

pub came_fit : (links : Links) (p : Packet) (old mid late new : SiteNode) (m n o q : Moment) (a b d e c : Outgoing) → a.packets ≡ [] → a.records ≡ [] → is_dropped p (view_of old m.seen) ≡ false
    → Moves (taken old.frame.config old.frame.me links p) old m mid n a b → Moves (tries_at mid.frame.config mid.frame.me p.body) mid n late o d e → Moves (ends_event late.frame.config late.frame.me links) late o new q b c
    → AllFit (step old.frame.config old.frame.me links (view_of old m.seen) (Receives p)).sent → AllFit c.packets
came_fit links p old mid late new m n o q a b d e c none told taken_ w x y h = subst AllFit (sym sent) (all_ordered (first.sent ++ last.sent) (all_last adopted.sent (in_order (first.sent ++ last.sent)) whole))
  where
    v : SiteView
    v = view_of old m.seen

    first : Outcome SiteView
    first = taken old.frame.config old.frame.me links p v

    adopted : Outcome SiteView
    adopted = tries_at old.frame.config old.frame.me p.body first.view

    last : Outcome SiteView
    last = ends_event old.frame.config old.frame.me links adopted.view

    whole : AllFit (adopted.sent ++ in_order (first.sent ++ last.sent))
    whole = subst (λ (r : Outcome SiteView). AllFit r.sent) (step_taken old.frame.config old.frame.me links p v taken_) h

    tries_now : Moves (tries_at old.frame.config old.frame.me p.body) mid n late o d e
    tries_now = moves_from (λ k me. tries_at k me p.body) old mid late n o d e w.config w.me x

    here : Moves (ends_event old.frame.config old.frame.me links) late o new q b c
    here = moves_from (λ k me. ends_event k me links) old late new o q b c (x.config ∙ w.config) (x.me ∙ w.me) y

    late_is : view_of late o.seen ≡ adopted.view
    late_is = tries_now.gives.view ∙ ap (λ (u : SiteView). (tries_at old.frame.config old.frame.me p.body u).view) w.gives.view

    ends : Gives last (view_of new q.seen) b c
    ends = subst (λ (u : SiteView). Gives (ends_event old.frame.config old.frame.me links u) (view_of new q.seen) b c) late_is here.gives

    sent : c.packets ≡ first.sent ++ last.sent
    sent = ends.packets ∙ ap (λ (ps : List Packet). ps ++ last.sent) (w.gives.packets ∙ ap (λ (ps : List Packet). ps ++ first.sent) none)

-- in its epoch the frame is that of the epoch
pub entered_taken : (n : SiteNode) (frame : Frame) (e : InEpoch) (image : List ℕ) (from : ℕ) (b : Body) → ◌≡◌ {A = Option InEpoch} (Some e) n.epochs.epoch → frame ≡ frame_in n.frame.config n.frame.me n.epochs.boot e
    → CanTakeIn n.frame.config n.frame.me (groups_of n.packs) n.packs.site from b (view_of n image) n.epochs.epoch → CanTakeInside frame (groups_of n.packs) n.packs.site from b (view_of (record n { frame = frame }) image)
entered_taken n frame e image from b h f can = subst (λ (x : Frame). CanTakeInside x (groups_of n.packs) n.packs.site from b (view_of n image)) (sym f) (subst (CanTakeIn n.frame.config n.frame.me (groups_of n.packs) n.packs.site from b (view_of n image)) (sym h) can)

-- ---- an adoption ----

pub chosen_keeps : (p : Pull) (n : SiteNode) (frame : Frame) (mid : SiteNode) (image : List ℕ) → ◌≡◌ {A = Option Pull} (Some p) (choice_at (view_of n image)).chosen → mid ≡ record n { frame = frame; pulls = without_chosen (choice_at (view_of n image)) }
    → CanAdopt (groups_of n.packs) (view_of n image) → CanKeep (groups_of mid.packs) (view_of mid image).store p
chosen_keeps p n frame mid image chosen left can =
    let v : SiteView = view_of n image in
    subst (λ (x : SiteNode). CanKeep (groups_of x.packs) (view_of x image).store p) (sym left) (can p (chosen_pull v p chosen) (chosen_ready (is_ready v) (fits_own_in v) v.pulls v.pulls p chosen) (chosen_above (is_ready v) (fits_own_in v) v.pulls v.pulls p chosen))

-- the pages that came of a pulled version may be laid over the site's own copy
module _ (n : SiteNode) (image : List ℕ) (p : Pull) (came : LaidPages) (size : came.size ≡ p.size) (numbered : came.numbers.now ≡ wanted_pages p) (filled : came.bytes.now ≡ p.content) (can : CanKeep (groups_of n.packs) (view_of n image).store p) where
  abbrev given : NewVersion
  given = record { kind = p.kind; set = p.set; stamp = p.stamp; vector = p.vector }

  abbrev has : ℕ → ℕ
  has page = bytes_in (length (content_of (copy_at n.packs image p.file))) page

  abbrev Keeps : ℕ → List ℕ → Type 0
  Keeps bytes numbers = (page : ℕ) → page < pages_of bytes → has_page numbers page ≡ false → bytes_in bytes page ≤ has page

  pub keeps_laid : IsSized p → is_complete p ≡ true → IsLaidFit n.packs image p.file given came
  keeps_laid sized full =
      let all : pages_got p ≡ length (wanted_pages p) = is_same (pages_got p) (length (wanted_pages p)) (and_second (is_some p.wanted) _ full) in
      let whole : IsWholeFit n.packs p.file given p.size = record { group = can.group; low = can.low; high = can.high; version = can.version } in
      let rising : AreRising (pages_of p.size) (wanted_pages p) = record { ascend = sized.ascend; inside = sized.inside } in
      let bytes : ArePagesOf p.size (wanted_pages p) p.content = λ k l. sized.bytes k (omega (arith, all, l)) in
      let laid : AreLaid (length (content_of (copy_at n.packs image p.file))) came = record {
        pages = subst (λ (k : ℕ). AreRising (pages_of k) came.numbers.now) (sym size) (subst (λ (ps : List ℕ). AreRising (pages_of p.size) ps) (sym numbered) rising);
        bytes = subst (λ (k : ℕ). ArePagesOf k came.numbers.now came.bytes.now) (sym size) (subst (λ (ps : List ℕ). ArePagesOf p.size ps came.bytes.now) (sym numbered) (subst (λ (bs : List ℕ). ArePagesOf p.size (wanted_pages p) bs) (sym filled) bytes));
        kept = subst (λ (k : ℕ). Keeps k came.numbers.now) (sym size) (subst (λ (ps : List ℕ). Keeps p.size ps) (sym numbered) can.kept);
      } in
      record { whole = subst (λ (k : ℕ). IsWholeFit n.packs p.file given k) (sym size) whole; laid = laid }

  pub has_room : room n.packs image p.file.group < length came.numbers.now → ⊥
  has_room few = over (length (wanted_pages p)) (room n.packs image p.file.group) can.room (subst (λ (ps : List ℕ). room n.packs image p.file.group < length ps) numbered few)
    where
      over : (a b : ℕ) → a ≤ b → b < a → ⊥
      over a b l k = omega (arith, l, k)
