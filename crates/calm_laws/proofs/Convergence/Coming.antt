-- A packet comes to a member of an epoch that takes it: what that makes of the world, and what notices name then.
use Rattle.std.proofs.Common.{◌≡◌, ◌≢◌, ℕ, ◌+◌, ◌≤◌, ◌==◌, ◌⊎◌, Bool, true, false, not, ◌&&◌, ◌||◌, List, ◌++◌, length, Option, Some, None, refl, sym, ◌∙◌, ap, subst, inl, inr, arith, length-append}
use Rattle.role_steps.proofs.of_plain_facts.Numbers.{equal_self}
use Rattle.role_steps.proofs.of_plain_facts.Tests.{and_true, both_true, true_false}
use Rattle.locus_ids.specs.declared.config.Config.{Config}
use Rattle.locus_ids.specs.declared.sites.Links.{Links}
use Rattle.schedule_lines.specs.declared.line.ScheduleLine.{ScheduleLine}
use Rattle.wire_messages.specs.declared.body.Body.{Body}
use Rattle.wire_messages.specs.declared.packet.Packet.{Packet}
use Rattle.role_steps.specs.Epochs.{frame_in}
use Rattle.role_steps.specs.Tables.{without_row}
use Rattle.role_steps.specs.Views.{SiteView, Outcome, Receives, boot_in}
use Rattle.role_steps.specs.declared.rounds.InEpoch.{InEpoch}
use Rattle.the_run.specs.Disks.{Disk}
use Rattle.the_run.specs.Kept.{Among}
use Rattle.the_run.specs.Runs.{arrives}
use Rattle.the_run.specs.Steps.{is_framed, is_forming, is_dropped, takes_inside, tries_at, ends_event, whole, step}
use Rattle.the_run.specs.Worlds.{World, Place, Running, Stopped, Numbered, number_of, place_at, links_of, numbered_from, passed, acts}
use Rattle.run_laws.specs.Epochs.Forming.{FormsNone}
use Rattle.run_laws.specs.Epochs.Known.{Good}
use Rattle.run_laws.proofs.Epochs.Run.{good_kept, first_good}
use Rattle.row_laws.specs.Orderly.Calm.{IsInside}
use Rattle.row_laws.specs.Orderly.Numbers.{NumbersAscend}
use Rattle.row_laws.proofs.Orderly.Numbers.{one_of_number, ascend_kept, first_ascends}
use Rattle.row_laws.proofs.Orderly.Places.{view_eq}
use Rattle.calm_laws.specs.Carrying.{frame_of}
use Rattle.calm_laws.specs.Rounds.{IsInRound, Delivery}
use Rattle.calm_laws.proofs.Calls.{OnlyCalls}
use Rattle.calm_laws.proofs.Ends.{ends_calls, step_is}
use Rattle.calm_laws.proofs.Events.{arrives_cases}
use Rattle.calm_laws.proofs.Rounds.{in_round}
use Rattle.calm_laws.proofs.Ticks.{no_round}
use Rattle.calm_laws.specs.Convergence.Offers.{Offer, is_for, names, named}
use Rattle.calm_laws.proofs.Convergence.Events.{RunsOn, Moved, acts_moved}
use Rattle.calm_laws.proofs.Convergence.Lists.{among_either}
use Rattle.calm_laws.proofs.Convergence.Named.{named_both, named_less, named_rest}

-- ---- whom a packet is for ----

kept_through : (a b f : Bool) → a ≡ true → b ≡ true → not (a && (f || b)) ≡ false
kept_through true true true p q = refl
kept_through true true false p q = refl
kept_through true false f p q = absurd (true_false (sym q))
kept_through false b f p q = absurd (true_false (sym p))

-- a packet for a member is taken there
pub for_taken : (e : InEpoch) (s : ℕ) (p : Packet) (v : SiteView) → v.epoch ≡ Some e → v.boot ≡ boot_in e.members.boot s → is_for e s p ≡ true → is_dropped p v ≡ false
for_taken e s p v inside boot h =
    let a : _ × (((p.to_boot == boot_in e.members.boot s) && is_framed p (Some e)) ≡ true) = both_true (p.to == s) _ h in
    let b : ((p.to_boot == boot_in e.members.boot s) ≡ true) × (is_framed p (Some e) ≡ true) = both_true (p.to_boot == boot_in e.members.boot s) _ a.1 in
    kept_through (p.to_boot == v.boot) (is_framed p v.epoch) (is_forming p) (ap (λ (n : ℕ). p.to_boot == n) boot ∙ b.0) (ap (is_framed p) inside ∙ b.1)

-- and one that is taken by a member and forms no epoch is for it
pub taken_for : (e : InEpoch) (p : Packet) (v : SiteView) → v.epoch ≡ Some e → v.boot ≡ boot_in e.members.boot p.to → is_forming p ≡ false → is_dropped p v ≡ false → is_for e p.to p ≡ true
taken_for e p v inside boot forms taken =
    let k : ((p.to_boot == v.boot) ≡ true) × (is_framed p v.epoch ≡ true) = undropped (p.to_boot == v.boot) (is_forming p) (is_framed p v.epoch) forms taken in
    and_true (p.to == p.to) _ (equal_self p.to) (and_true (p.to_boot == boot_in e.members.boot p.to) (is_framed p (Some e)) (ap (λ (n : ℕ). p.to_boot == n) (sym boot) ∙ k.0) (ap (is_framed p) (sym inside) ∙ k.1))
  where
    undropped : (a f b : Bool) → f ≡ false → not (a && (f || b)) ≡ false → (a ≡ true) × (b ≡ true)
    undropped true false true q h = (refl, refl)
    undropped true false false q h = absurd (true_false h)
    undropped true true b q h = absurd (true_false q)
    undropped false f b q h = absurd (true_false h)

-- ---- what an event leaves of the world ----

-- The site that takes the packet has this view then, all others stay, and more is under way.
pub record Comes (c : Config) (n : ℕ) (x : Numbered) (w : World) (u : SiteView) : Type 0 where
  pub here : place_at (arrives c n x w) x.packet.to ≡ Some (Running u)
  pub others : (t : ℕ) → x.packet.to ≢ t → place_at (arrives c n x w) t ≡ place_at w t
  pub more : List Numbered
  pub underway : (arrives c n x w).underway ≡ without_row number_of x.number w.underway ++ more

stopped_running : (d : Disk) (v : SiteView) → ◌≡◌ {A = Option Place} (Some (Stopped d)) (Some (Running v)) → ⊥
stopped_running d v e = cc

pub inside_view : (e : InEpoch) (w : World) (s : ℕ) (v : SiteView) → IsInside w e s → place_at w s ≡ Some (Running v) → (v.epoch ≡ Some e) × (v.boot ≡ boot_in e.members.boot s)
inside_view e w s v i here = (let is : i.view ≡ v = view_eq (place_at w s) i.view v i.here here in (ap (λ (x : SiteView). x.epoch) (sym is) ∙ i.epoch, ap (λ (x : SiteView). x.boot) (sym is) ∙ i.boot))

-- what the member makes of a packet with this body
abbrev pub taken_whole : Config → InEpoch → Links → Packet → SiteView → Body → Outcome SiteView
taken_whole c e links p v b = whole c p.to links (takes_inside (frame_of c e p.to) p.from b v) (tries_at c p.to b)

-- with all that the event sends
pub record Came (c : Config) (n : ℕ) (x : Numbered) (w : World) (o : Outcome SiteView) : Type 0 where
  pub comes : Comes c n x w o.view
  pub number : ℕ
  pub sends : comes.more ≡ numbered_from number o.sent

pub came_step : (c : Config) (lines : List ScheduleLine) (n : ℕ) (e : InEpoch) (x : Numbered) (w : World) → (d : Delivery c lines n e x w) → Came c n x w (step c x.packet.to (links_of (passed x.number w) x.packet.to) d.view (Receives x.packet))
came_step c lines n e x w d = arrives_cases (λ u. u ≡ arrives c n x w → Came c n x w (after d.view)) c n x w takes drops refl
  where
    p : Packet
    p = x.packet

    after : SiteView → Outcome SiteView
    after v = step c p.to (links_of (passed x.number w) p.to) v (Receives p)

    takes : (v : SiteView) → place_at w p.to ≡ Some (Running v) → is_dropped p v ≡ false → acts n p.to v (after v) (passed x.number w) ≡ arrives c n x w → Came c n x w (after d.view)
    takes v here undropped eq = subst (λ (y : SiteView). Came c n x w (after y)) (view_eq (place_at w p.to) v d.view here d.here) (record {
      comes = record {
        here = ap (λ (u : World). place_at u p.to) (sym eq) ∙ runs.here;
        others = λ t ne. ap (λ (u : World). place_at u t) (sym eq) ∙ moved.others t ne;
        more = moved.more;
        underway = ap (λ (u : World). u.underway) (sym eq) ∙ moved.underway;
      };
      number = runs.number;
      sends = runs.sends;
    })
      where
        u : World
        u = acts n p.to v (after v) (passed x.number w)

        moved : Moved p.to (after v) (passed x.number w) u
        moved = acts_moved n p.to v (after v) (passed x.number w) (ap (λ (y : World). y.over) eq ∙ d.within)

        by_ran : RunsOn p.to (after v) u moved.more ⊎ ((k : Disk) × (place_at u p.to ≡ Some (Stopped k))) → RunsOn p.to (after v) u moved.more
        by_ran (inl r) = r
        by_ran (inr stop) = (let i : IsInside (arrives c n x w) e p.to = d.after.inside p.to d.member in absurd (stopped_running stop.0 i.view (sym stop.1 ∙ (ap (λ (y : World). place_at y p.to) eq ∙ i.here))))

        runs : RunsOn p.to (after v) u moved.more
        runs = by_ran moved.ran

    drops : ((v : SiteView) → place_at w p.to ≡ Some (Running v) → is_dropped p v ≡ true) → passed x.number w ≡ arrives c n x w → Came c n x w (after d.view)
    drops h eq = absurd (true_false (sym (h d.view d.here) ∙ d.taken))

pub comes_step : (c : Config) (lines : List ScheduleLine) (n : ℕ) (e : InEpoch) (x : Numbered) (w : World) → (d : Delivery c lines n e x w) → Comes c n x w (step c x.packet.to (links_of (passed x.number w) x.packet.to) d.view (Receives x.packet)).view
comes_step c lines n e x w d = (came_step c lines n e x w d).comes

-- of a packet that forms no epoch
pub came : (c : Config) (lines : List ScheduleLine) (n : ℕ) (e : InEpoch) (x : Numbered) (w : World) (b : Body) → (d : Delivery c lines n e x w) → x.packet.body ≡ b → FormsNone b →
    Came c n x w (taken_whole c e (links_of (passed x.number w) x.packet.to) x.packet d.view b)
came c lines n e x w b d is forms = subst (λ (o : Outcome SiteView). Came c n x w o) is_step (came_step c lines n e x w d)
  where
    p : Packet
    p = x.packet

    links : Links
    links = links_of (passed x.number w) p.to

    inside : (d.view.epoch ≡ Some e) × (d.view.boot ≡ boot_in e.members.boot p.to)
    inside = inside_view e w p.to d.view (d.before.inside p.to d.member) d.here

    is_step : step c p.to links d.view (Receives p) ≡ taken_whole c e links p d.view b
    is_step = step_is c e p.to links p d.view (subst FormsNone (sym is) forms) inside.0 inside.1 d.taken ∙ ap (taken_whole c e links p d.view) is

pub comes : (c : Config) (lines : List ScheduleLine) (n : ℕ) (e : InEpoch) (x : Numbered) (w : World) (b : Body) → (d : Delivery c lines n e x w) → x.packet.body ≡ b → FormsNone b →
    Comes c n x w (taken_whole c e (links_of (passed x.number w) x.packet.to) x.packet d.view b).view
comes c lines n e x w b d is forms = (came c lines n e x w b d is forms).comes

-- ---- the end of an event ----

-- a site's calls alone change at the end of its event
pub record Ends (v u : SiteView) : Type 0 where
  pub store : u.store ≡ v.store
  pub pulls : u.pulls ≡ v.pulls
  pub tables : u.tables ≡ v.tables

pub ends_keep : (c : Config) (me : ℕ) (links : Links) (v : SiteView) (e : InEpoch) → v.round ≡ None → v.epoch ≡ Some e → Ends v (ends_event c me links v).view
ends_keep c me links v e none inside = (let k : OnlyCalls (frame_in c me v.boot e) v (ends_event c me links v) = ends_calls c me links v e none inside in record {
  store = ap (λ (x : SiteView). x.store) k.same;
  pulls = ap (λ (x : SiteView). x.pulls) k.same;
  tables = ap (λ (x : SiteView). x.tables) k.same;
})

pub good_in : (c : Config) (lines : List ScheduleLine) (n : ℕ) (w : World) → IsInRound c lines n w → Good w
good_in c lines n w h = in_round c Good (good_kept c) (first_good c) lines n w h

pub roundless : (c : Config) (lines : List ScheduleLine) (n : ℕ) (e : InEpoch) (x : Numbered) (w : World) → (d : Delivery c lines n e x w) → d.view.round ≡ None
roundless c lines n e x w d = no_round w x.packet.to d.view e (good_in c lines n w d.round) d.here (inside_view e w x.packet.to d.view (d.before.inside x.packet.to d.member) d.here).0

-- ---- what notices name then ----

pub ascends_in : (c : Config) (lines : List ScheduleLine) (n : ℕ) (w : World) → IsInRound c lines n w → NumbersAscend w
ascends_in c lines n w h = in_round c NumbersAscend (ascend_kept c) (first_ascends c) lines n w h

pub record Names (e : InEpoch) (s : ℕ) (x : Numbered) (under after more : List Numbered) : Type 0 where
  pub each : (d : Offer) → Among d (named e s after) → Among d (named e s under) ⊎ Among d (named e s more)
  pub count : length (named e s under) + length (named e s more) ≤ length (names e s x.packet) + length (named e s after)

pub names_then : (c : Config) (lines : List ScheduleLine) (n : ℕ) (e : InEpoch) (s : ℕ) (x : Numbered) (w : World) (after more : List Numbered) → IsInRound c lines n w → Among x w.underway → after ≡ without_row number_of x.number w.underway ++ more → Names e s x w.underway after more
names_then c lines n e s x w after more round there eq = record {
  each = λ d a. over d (among_either d (named e s rest) (named e s more) (subst (λ (l : List Offer). Among d l) is a));
  count = (let sum : length (named e s rest ++ named e s more) ≡ length (named e s rest) + length (named e s more) = length-append (named e s rest) (named e s more) in
      let all : length (named e s after) ≡ length (named e s rest ++ named e s more) = ap length is in
      let few : length (named e s w.underway) ≤ length (names e s x.packet) + length (named e s rest) = named_rest e s x w.underway (λ y a k. one_of_number w.underway (ascends_in c lines n w round).ascend y x a there k) in
      omega (arith, sum, all, few));
}
  where
    rest : List Numbered
    rest = without_row number_of x.number w.underway

    is : named e s after ≡ named e s rest ++ named e s more
    is = ap (named e s) eq ∙ named_both e s rest more

    over : (d : Offer) → Among d (named e s rest) ⊎ Among d (named e s more) → Among d (named e s w.underway) ⊎ Among d (named e s more)
    over d (inl a) = inl (named_less e s d x.number w.underway a)
    over d (inr a) = inr a
