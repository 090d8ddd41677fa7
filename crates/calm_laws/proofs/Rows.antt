-- A row: where the handler of a packet hands on what was carried, so does its whole event in the world.
use Rattle.std.proofs.Common.{◌≡◌, ◌≢◌, ℕ, ◌==◌, ◌⊎◌, Bool, true, false, cond, List, Option, Some, None, refl, sym, ◌∙◌, ap, subst, inl, inr, arith}
use Rattle.std.proofs.lemmas.Bool.Decides.{nat_tests}
use Rattle.role_steps.proofs.of_plain_facts.Tests.{true_false}
use Rattle.locus_ids.specs.declared.config.Config.{Config}
use Rattle.locus_ids.specs.declared.sites.Links.{Links}
use Rattle.schedule_lines.specs.declared.line.ScheduleLine.{ScheduleLine}
use Rattle.wire_messages.specs.declared.body.Body.{Body}
use Rattle.wire_messages.specs.declared.body.Body.TheVariants as body
use Rattle.wire_messages.specs.declared.body.ReportedCopy.{ReportedCopy}
use Rattle.wire_messages.specs.declared.packet.Packet.{Packet}
use Rattle.role_steps.specs.Epochs.{frame_in}
use Rattle.role_steps.specs.Views.{SiteView, Outcome, Receives, boot_in, quiet}
use Rattle.role_steps.specs.declared.rounds.InEpoch.{InEpoch}
use Rattle.role_steps.specs.declared.users.WaitingCall.{WaitingCall}
use Rattle.the_run.specs.Disks.{Disk}
use Rattle.the_run.specs.Kept.{Among}
use Rattle.the_run.specs.Runs.{arrives}
use Rattle.the_run.specs.Steps.{is_dropped, tries_at, whole, step}
use Rattle.the_run.specs.Worlds.{World, Place, Running, Stopped, Numbered, place_at, links_of, passed, acts}
use Rattle.the_run.proofs.Boots.{at_each}
use Rattle.run_laws.specs.Epochs.Forming.{FormsNone}
use Rattle.run_laws.specs.Epochs.Known.{Places, Good}
use Rattle.run_laws.proofs.Epochs.Run.{good_kept, first_good}
use Rattle.row_laws.specs.Orderly.Calm.{IsInside, AreTogether}
use Rattle.row_laws.specs.Orderly.Numbers.{NumbersAscend}
use Rattle.row_laws.proofs.Orderly.Numbers.{ascend_kept, first_ascends}
use Rattle.row_laws.proofs.Orderly.Places.{view_eq}
use Rattle.row_laws.proofs.Orderly.Rounds.{next_among}
use Rattle.calm_laws.specs.Carrying.{IsMember, frame_of, Goes, Carries, IsAllCarried}
use Rattle.calm_laws.specs.Rounds.{IsInRound, RequestsGoToMembers, Delivery}
use Rattle.calm_laws.proofs.Calls.{IsSent}
use Rattle.calm_laws.proofs.Ends.{After, whole_after, handles, step_is}
use Rattle.calm_laws.proofs.Events.{RunsOn, Moved, acts_moved, arrives_cases, others_stay}
use Rattle.calm_laws.proofs.Handing.{StillWaits, IsHandedOn, Hands, all_handed}
use Rattle.calm_laws.proofs.Keeping.{KeepsRoles, AllKeep, one_keeps, roles_itself, carries_kept, held_kept, reported_kept}
use Rattle.calm_laws.proofs.Members.{sync_is}
use Rattle.calm_laws.proofs.Requests.{Requested, request_carries}
use Rattle.calm_laws.proofs.Rounds.{in_round}
use Rattle.calm_laws.proofs.Ticks.{no_round}

-- ---- one place changed ----

abbrev pub placed : Places → ℕ → SiteView → Places
placed at m u t = cond (t == m) (Some (Running u)) (at t)

pub placed_here : (at : Places) (m : ℕ) (u : SiteView) → placed at m u m ≡ Some (Running u)
placed_here at m u = ap (λ (b : Bool). cond b (Some (Running u)) (at m)) (same m)
  where
    same : (n : ℕ) → (n == n) ≡ true
    same n = grind (arith, nat_tests)

pub placed_other : (at : Places) (m : ℕ) (u : SiteView) (t : ℕ) → m ≢ t → placed at m u t ≡ at t
placed_other at m u t ne = ap (λ (b : Bool). cond b (Some (Running u)) (at t)) (differ t m (λ z. absurd (ne (sym z))))
  where
    differ : (a b : ℕ) → a ≢ b → (a == b) ≡ false
    differ a b h = grind (arith, nat_tests)

-- ---- a handler that leaves the roles ----

-- Where a handler keeps what carries requests, it hands on all but what its packet carried.
pub keeping_hands : (c : Config) (e : InEpoch) (m : ℕ) (at : Places) (p : Packet) (v u : SiteView) (sent : List Packet) → at m ≡ Some (Running v) → KeepsRoles v u → ((y : WaitingCall) → Among y u.users.waiting → Among y v.users.waiting ⊎ IsHandedOn c e (placed at m u) sent m y) →
    ((s : ℕ) (y : WaitingCall) → StillWaits e at (placed at m u) s y → Carries c e at s y y.asking p → IsHandedOn c e (placed at m u) sent s y) → ((from to group : ℕ) (copies : List ReportedCopy) → Goes c e from to (body.Report group copies) p → ⊥) → Hands c e m at (placed at m u) p v u sent
keeping_hands c e m at p v u sent was keeps calls takes none = record {
  calls = calls;
  keeps = λ s y q k g. inl (carries_kept c e at (placed at m u) s y y.asking q keep g);
  takes = takes;
  holds = λ s y k g. inr (held_kept c e at (placed at m u) s y y.asking keep g);
  reported = λ css group s member k. reported_kept e at (placed at m u) css group s keep member k;
  counts = λ group css s copies sync g. absurd (none s css group copies g);
}
  where
    keep : AllKeep e at (placed at m u)
    keep = one_keeps e m at (placed at m u) v u was (placed_here at m u) (placed_other at m u) keeps

-- ---- the whole event ----

-- after the handler nothing changes what carries requests, and new calls ask
pub hands_then : (c : Config) (e : InEpoch) (m : ℕ) (at now : Places) (p : Packet) (v u : SiteView) (sent : List Packet) (o : Outcome SiteView) → IsMember e m → at m ≡ Some (Running v) → now m ≡ Some (Running o.view) → ((t : ℕ) → m ≢ t → now t ≡ at t) → Hands c e m at (placed at m u) p v u sent → After (frame_of c e m) u sent o →
    ((y : WaitingCall) → Among y o.view.users.waiting → Requested c e now m y y.asking) → Hands c e m at now p v o.view o.sent
hands_then c e m at now p v u sent o member was here others h after asks = record {
  calls = λ y a. calls y a (after.calls y a);
  keeps = λ s y q k g. waits s y k (λ w. on_keeps s y q (h.keeps s y q w g));
  takes = λ s y k g. handed_only s y (waits s y k (λ w. inr (on s y (h.takes s y w g))));
  holds = λ s y k g. handed_only s y (waits s y k (λ w. inr (on s y (h.holds s y w g))));
  reported = λ css group s i k. reported_kept e mid now css group s keep i (h.reported css group s i k);
  counts = λ group css s copies sync g. reported_kept e mid now css group s keep (sync_is c e group css sync).1 (h.counts group css s copies sync g);
}
  where
    mid : Places
    mid = placed at m u

    keep : AllKeep e mid now
    keep = one_keeps e m mid now u o.view (placed_here at m u) here (λ t ne. others t ne ∙ sym (placed_other at m u t ne)) after.keeps

    on : (s : ℕ) (y : WaitingCall) → IsHandedOn c e mid sent s y → IsHandedOn c e now o.sent s y
    on s y (inl k) = inl (k.0, after.sends k.0 k.1, carries_kept c e mid now s y y.asking k.0 keep k.2)
    on s y (inr k) = inr (held_kept c e mid now s y y.asking keep k)

    on_keeps : (s : ℕ) (y : WaitingCall) (q : Packet) → Carries c e mid s y y.asking q ⊎ IsHandedOn c e mid sent s y → Carries c e now s y y.asking q ⊎ IsHandedOn c e now o.sent s y
    on_keeps s y q (inl k) = inl (carries_kept c e mid now s y y.asking q keep k)
    on_keeps s y q (inr k) = inr (on s y k)

    anew : (y : WaitingCall) → Among y o.view.users.waiting → IsSent (frame_of c e m) y o.sent → IsHandedOn c e now o.sent m y
    anew y a k = (let r : Requested c e now m y y.asking = asks y a in inl (r.letter, k r.letter r.there, r.carries))

    calls : (y : WaitingCall) → Among y o.view.users.waiting → Among y u.users.waiting ⊎ IsSent (frame_of c e m) y o.sent → Among y v.users.waiting ⊎ IsHandedOn c e now o.sent m y
    calls y a (inr k) = inr (anew y a k)
    calls y a (inl k) = over (h.calls y k)
      where
        over : Among y v.users.waiting ⊎ IsHandedOn c e mid sent m y → Among y v.users.waiting ⊎ IsHandedOn c e now o.sent m y
        over (inl b) = inl b
        over (inr g) = inr (on m y g)

    -- a call that waits before and after waits between, or asks anew
    waits : {A : Type 0} (s : ℕ) (y : WaitingCall) → StillWaits e at now s y → (StillWaits e at mid s y → A ⊎ IsHandedOn c e now o.sent s y) → A ⊎ IsHandedOn c e now o.sent s y
    waits {A = A} s y k f = at_each m s (A ⊎ IsHandedOn c e now o.sent s y)
        (λ eq. mine eq (after.calls y (subst (λ (z : SiteView). Among y z.users.waiting) (view_eq (now s) k.after o.view k.here (ap now (sym eq) ∙ here)) k.waits)))
        (λ ne. f (record { member = k.member; before = k.before; was = k.was; waited = k.waited; after = k.after; here = placed_other at m u s ne ∙ (sym (others s ne) ∙ k.here); waits = k.waits }))
      where
        mine : m ≡ s → Among y u.users.waiting ⊎ IsSent (frame_of c e m) y o.sent → A ⊎ IsHandedOn c e now o.sent s y
        mine eq (inl a) = f (record { member = k.member; before = k.before; was = k.was; waited = k.waited; after = u; here = ap mid (sym eq) ∙ placed_here at m u; waits = a })
        mine eq (inr g) = inr (subst (λ (t : ℕ). IsHandedOn c e now o.sent t y) eq (anew y (subst (λ (z : SiteView). Among y z.users.waiting) (view_eq (now s) k.after o.view k.here (ap now (sym eq) ∙ here)) k.waits) g))

    handed_only : (s : ℕ) (y : WaitingCall) → ⊥ ⊎ IsHandedOn c e now o.sent s y → IsHandedOn c e now o.sent s y
    handed_only s y (inl k) = absurd k
    handed_only s y (inr k) = k

-- ---- in the world ----

-- the requests of members go to members, in each world of a round in which they are together
abbrev pub AllGoToMembers : Config → Type 0
AllGoToMembers c = (lines : List ScheduleLine) (n : ℕ) (e : InEpoch) (w : World) → IsInRound c lines n w → AreTogether w e → RequestsGoToMembers c e w

stopped_running : (d : Disk) (v : SiteView) → ◌≡◌ {A = Option Place} (Some (Stopped d)) (Some (Running v)) → ⊥
stopped_running d v e = cc

-- what the handler owes of the member that takes the packet
pub record HandlerHands (c : Config) (e : InEpoch) (m : ℕ) (at : Places) (p : Packet) (v : SiteView) : Type 0 where
  pub boot : (handles c e m p v).view.boot ≡ v.boot
  pub round : (handles c e m p v).view.round ≡ v.round
  pub epoch : (handles c e m p v).view.epoch ≡ v.epoch
  pub hands : Hands c e m at (placed at m (handles c e m p v).view) p v (handles c e m p v).view (handles c e m p v).sent

-- no adoption is tried
abbrev pub TriesNone : Body → Type 0
TriesNone (body.Notify file kind set size stamp vector holder) = ⊥
TriesNone (body.Page file stamp page bytes) = ⊥
TriesNone (body.Delta file wanted pages) = ⊥
TriesNone _ = Unit {0}

tries_quiet : (c : Config) (m : ℕ) (b : Body) (u : SiteView) → TriesNone b → tries_at c m b u ≡ quiet u
tries_quiet c m (body.Notify file kind set size stamp vector holder) u h = absurd h
tries_quiet c m (body.Page file stamp page bytes) u h = absurd h
tries_quiet c m (body.Delta file wanted pages) u h = absurd h
tries_quiet c m _ u h = refl

-- the view of the member that takes the packet
pub record Taker (c : Config) (e : InEpoch) (m : ℕ) (v : SiteView) : Type 0 where
  pub epoch : v.epoch ≡ Some e
  pub boot : v.boot ≡ boot_in e.members.boot m
  pub none : v.round ≡ None

pub taker : (c : Config) (lines : List ScheduleLine) (n : ℕ) (e : InEpoch) (x : Numbered) (w : World) (d : Delivery c lines n e x w) → Taker c e x.packet.to d.view
taker c lines n e x w d = record { epoch = epoch; boot = ap (λ (y : SiteView). y.boot) (sym is_view) ∙ inside.boot; none = no_round w x.packet.to d.view e (in_round c Good (good_kept c) (first_good c) lines n w d.round) d.here epoch }
  where
    inside : IsInside w e x.packet.to
    inside = d.before.inside x.packet.to d.member

    is_view : inside.view ≡ d.view
    is_view = view_eq (place_at w x.packet.to) inside.view d.view inside.here d.here

    epoch : d.view.epoch ≡ Some e
    epoch = ap (λ (y : SiteView). y.epoch) (sym is_view) ∙ inside.epoch

-- the event of the member in the world: what it left, and that the world is in the round
pub record Event (c : Config) (lines : List ScheduleLine) (n : ℕ) (e : InEpoch) (x : Numbered) (w : World) (v : SiteView) (links : Links) (u : World) : Type 0 where
  pub moved : Moved n x.packet.to (step c x.packet.to links v (Receives x.packet)) (passed x.number w) u
  pub run : RunsOn n x.packet.to (step c x.packet.to links v (Receives x.packet)) (passed x.number w) u
  pub together : AreTogether u e
  pub requests : RequestsGoToMembers c e u
  pub round : IsInRound c lines n u

-- where the event hands on what was carried, all stays carried
pub event_row : (c : Config) → AllGoToMembers c → (lines : List ScheduleLine) (n : ℕ) (e : InEpoch) (x : Numbered) (w : World) (d : Delivery c lines n e x w) →
    ((links : Links) (u : World) → Event c lines n e x w d.view links u → Hands c e x.packet.to (place_at w) (place_at u) x.packet d.view (step c x.packet.to links d.view (Receives x.packet)).view (step c x.packet.to links d.view (Receives x.packet)).sent) → IsAllCarried c e w → IsAllCarried c e (arrives c n x w)
event_row c members lines n e x w d hands old =
    arrives_cases (λ u. AreTogether u e → u.over ≡ None → RequestsGoToMembers c e u → IsInRound c lines n u → IsAllCarried c e u) c n x w takes (λ gone together within asks round. absurd (true_false (sym (gone d.view d.here) ∙ d.taken)))
    d.after d.within (members lines n e (arrives c n x w) d.follows d.after) d.follows
  where
    m : ℕ
    m = x.packet.to

    links : Links
    links = links_of (passed x.number w) m

    takes : (v : SiteView) → place_at w m ≡ Some (Running v) → is_dropped x.packet v ≡ false → AreTogether (acts n m v (step c m links v (Receives x.packet)) (passed x.number w)) e →
        (acts n m v (step c m links v (Receives x.packet)) (passed x.number w)).over ≡ None → RequestsGoToMembers c e (acts n m v (step c m links v (Receives x.packet)) (passed x.number w)) → IsInRound c lines n (acts n m v (step c m links v (Receives x.packet)) (passed x.number w)) →
        IsAllCarried c e (acts n m v (step c m links v (Receives x.packet)) (passed x.number w))
    takes v here taken = subst (λ (y : SiteView). AreTogether (acts n m y (step c m links y (Receives x.packet)) (passed x.number w)) e → (acts n m y (step c m links y (Receives x.packet)) (passed x.number w)).over ≡ None →
        RequestsGoToMembers c e (acts n m y (step c m links y (Receives x.packet)) (passed x.number w)) → IsInRound c lines n (acts n m y (step c m links y (Receives x.packet)) (passed x.number w)) → IsAllCarried c e (acts n m y (step c m links y (Receives x.packet)) (passed x.number w))) (view_eq (place_at w m) d.view v d.here here) done
      where
        end : Outcome SiteView
        end = step c m links d.view (Receives x.packet)

        u : World
        u = acts n m d.view end (passed x.number w)

        done : AreTogether u e → u.over ≡ None → RequestsGoToMembers c e u → IsInRound c lines n u → IsAllCarried c e u
        done together within asks round = by_run k.ran
          where
            k : Moved n m end (passed x.number w) u
            k = acts_moved n m d.view end (passed x.number w) within

            by_run : RunsOn n m end (passed x.number w) u ⊎ ((s : Disk) × (place_at u m ≡ Some (Stopped s))) → IsAllCarried c e u
            by_run (inr stop) = (let i : IsInside u e m = together.inside m d.member in absurd (stopped_running stop.0 i.view (sym stop.1 ∙ i.here)))
            by_run (inl run) =
                all_handed c e m (place_at w) (place_at u) x.packet d.view end.view end.sent w.underway u.underway (hands links u (record { moved = k; run = run; together = together; requests = asks; round = round }))
                (λ group css sync. (sync_is c e group css sync).1) d.here run.here k.others (λ y a. later y (others_stay x w (in_round c NumbersAscend (ascend_kept c) (first_ascends c) lines n w d.round) (next_among w w.over x d.next) y a)) run.sent old
              where
                later : (y : Numbered) → Among y (passed x.number w).underway ⊎ (y.packet ≡ x.packet) → Among y u.underway ⊎ (y.packet ≡ x.packet)
                later y (inl a) = inl (k.stays y a)
                later y (inr is) = inr is

-- what follows the handler, where no adoption is tried
pub handler_after : (c : Config) (e : InEpoch) (m : ℕ) (links : Links) (p : Packet) (v : SiteView) → Taker c e m v → FormsNone p.body → TriesNone p.body → is_dropped p v ≡ false → (handles c e m p v).view.boot ≡ v.boot → (handles c e m p v).view.round ≡ v.round → (handles c e m p v).view.epoch ≡ v.epoch →
    After (frame_of c e m) (handles c e m p v).view (handles c e m p v).sent (step c m links v (Receives p))
handler_after c e m links p v k forms tries taken boot round epoch =
    subst (λ (z : Outcome SiteView). After (frame_of c e m) o.view o.sent z) (sym (step_is c e m links p v forms k.epoch k.boot taken)) (by_quiet (tries_quiet c m p.body o.view tries))
  where
    o : Outcome SiteView
    o = handles c e m p v

    by_quiet : tries_at c m p.body o.view ≡ quiet o.view → After (frame_of c e m) o.view o.sent (whole c m links o (tries_at c m p.body))
    by_quiet q =
        subst (λ (b : ℕ). After (frame_in c m b e) o.view o.sent (whole c m links o (tries_at c m p.body))) (ap (λ (z : Outcome SiteView). z.view.boot) q ∙ (boot ∙ k.boot))
        (whole_after c m links o (tries_at c m p.body) e
        (ap (λ (z : Outcome SiteView). z.view.round) q ∙ (round ∙ k.none))
        (ap (λ (z : Outcome SiteView). z.view.epoch) q ∙ (epoch ∙ k.epoch))
        (subst (λ (z : Outcome SiteView). KeepsRoles o.view z.view) (sym q) (roles_itself o.view))
        (ap (λ (z : Outcome SiteView). z.view.users) q))

-- where the handler hands on what was carried, all stays carried
pub handler_row : (c : Config) → AllGoToMembers c → (lines : List ScheduleLine) (n : ℕ) (e : InEpoch) (x : Numbered) (w : World) (d : Delivery c lines n e x w) → FormsNone x.packet.body → TriesNone x.packet.body → HandlerHands c e x.packet.to (place_at w) x.packet d.view → IsAllCarried c e w → IsAllCarried c e (arrives c n x w)
handler_row c members lines n e x w d forms tries h old = event_row c members lines n e x w d
    (λ links u k. hands_then c e x.packet.to (place_at w) (place_at u) x.packet d.view (handles c e x.packet.to x.packet d.view).view (handles c e x.packet.to x.packet d.view).sent (step c x.packet.to links d.view (Receives x.packet)) d.member d.here k.run.here k.moved.others h.hands
    (handler_after c e x.packet.to links x.packet d.view (taker c lines n e x w d) forms tries d.taken h.boot h.round h.epoch)
    (λ y a. request_carries c e (place_at u) x.packet.to y y.asking d.member (k.requests x.packet.to (step c x.packet.to links d.view (Receives x.packet)).view y d.member k.run.here a))) old
