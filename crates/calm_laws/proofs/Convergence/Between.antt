-- From the end of a round on, through lines of any kind, while nobody has a file open: a member that has pulled its only kept version whole
-- has it so still, and could adopt it, but for room; or it has a copy that isn't below it.
use Rattle.std.proofs.Common.{Bool, List, None, Option, Some, [], ap, append_assoc, cond, false, inl, inr, length, refl, subst, sym, true, ℕ, ◌++◌, ◌<◌, ◌==◌, ◌∙◌, ◌∷◌, ◌≡◌, ◌≢◌, ◌≤◌, ◌⊎◌}
use Rattle.calm_laws.specs.Carrying.{IsMember, frame_of}
use Rattle.calm_laws.proofs.Convergence.Events.{Moved, RunsOn, acts_moved}
use Rattle.calm_laws.proofs.Convergence.FreeClosing.{WasOpen, none_is, there_open}
use Rattle.calm_laws.proofs.Convergence.FreeMend.{wanted_low}
use Rattle.calm_laws.proofs.Convergence.FreeUsers.{IsWanted, Mends, mend_there, there_mend}
use Rattle.calm_laws.proofs.Convergence.Going.{GoesOrLow, NamesLow, PullsOver, PullsStill, closing_was, goes_on_so, mends_were}
use Rattle.calm_laws.proofs.Convergence.Happening.{Before, Leads, Remains, before_in, leads, remains_in}
use Rattle.calm_laws.proofs.Convergence.Midst.{Midst, low_stays, narrow_in, none_runs, notice_low}
use Rattle.calm_laws.proofs.Convergence.Resting.{RestsBy, rests_back, starts_stay}
use Rattle.calm_laws.specs.Convergence.Offers.{is_above}
use Rattle.calm_laws.specs.Convergence.Rounds.{IsShutFrom}
use Rattle.run_laws.specs.Epochs.Known.{Good}
use Rattle.lawful_trace.specs.Lawful.{MayCome}
use Rattle.locus_ids.specs.Sizes.{inode_span}
use Rattle.locus_ids.specs.declared.config.Config.{Config}
use Rattle.locus_ids.specs.declared.ids.EpochId.{EpochId}
use Rattle.locus_ids.specs.declared.ids.FileId.{FileId}
use Rattle.locus_ids.specs.declared.sites.Links.{Links}
use Rattle.locus_ids.specs.declared.sites.Members.{Members}
use Rattle.row_laws.proofs.Orderly.Blocks.{happened_within}
use Rattle.row_laws.proofs.Orderly.Places.{runs}
use Rattle.store_laws.proofs.OneTree.Run.{sent_fact}
use Rattle.store_laws.proofs.OneTree.Worlds.{Holds}
use Rattle.tree_laws.proofs.Syncs.Members.{inside_joined}
use Rattle.calm_laws.specs.Pulls.Pulls.{PullsAscend}
use Rattle.store_laws.specs.OneTree.Places.{InsideFact, SiteIn, WorldFact}
use Rattle.store_laws.specs.OneTree.Rest.{IsRest, Past}
use Rattle.role_steps.proofs.of_plain_facts.Numbers.{equal}
use Rattle.role_steps.proofs.of_plain_facts.Options.{some_same}
use Rattle.role_steps.proofs.of_plain_facts.Tests.{true_false}
use Rattle.role_steps.specs.Adoption.{has_mend, mends_file}
use Rattle.role_steps.specs.Epochs.{frame_in}
use Rattle.role_steps.specs.Pulling.{is_complete}
use Rattle.role_steps.specs.Storage.{closes, copy_of, has_open}
use Rattle.role_steps.specs.Views.{Calls, Event, Outcome, Receives, Shown, SiteView, Told, boot_in, file_key}
use Rattle.role_steps.specs.declared.rounds.InEpoch.{InEpoch}
use Rattle.role_steps.specs.declared.synchronizing.VersionRow.{VersionRow}
use Rattle.the_run.proofs.Boots.{at_each}
use Rattle.the_run.proofs.Events.{acts_keeps, happened_keeps, onto_front}
use Rattle.the_run.specs.Disks.{Disk}
use Rattle.the_run.specs.Steps.{step}
use Rattle.the_run.specs.Worlds.{Line, Place, Running, Stopped, World, acts, arms, happened, place_at, puts, stops_with}
use Rattle.trace_book.specs.declared.call.Call.{Call}
use Rattle.trace_book.specs.declared.record.Record.{Record}
use Rattle.trace_book.specs.declared.record.Record.TheVariants as says
use Rattle.tree_laws.proofs.Carried.{joined_stays}
use Rattle.tree_laws.proofs.Mending.{members_stay}
use Rattle.tree_laws.proofs.Rows.{followed_rows}
use Rattle.tree_laws.specs.Following.{IsFollowed}
use Rattle.tree_laws.specs.Instances.{IsStarted}
use Rattle.tree_laws.specs.Packets.{BodyFact, PacketFact}
use Rattle.tree_laws.specs.Printed.{entries}
use Rattle.tree_model.specs.Epochs.{epoch_after, epoch_of, has_joined, members_of}
use Rattle.tree_model.specs.Folds.{Trace}
use Rattle.wire_messages.specs.declared.body.Body.{Body}
use Rattle.wire_messages.specs.declared.body.Body.TheVariants as body
use Rattle.wire_messages.specs.declared.packet.Packet.{Packet}

-- ---- who is in the epoch ----

none_id : (e : EpochId) → ◌≡◌ {A = Option EpochId} None (Some e) → ⊥
none_id e q = cc

epoch_record : (r : Record) (s : ℕ) (e : EpochId) (t : Trace) (c : Config) → MayCome c t r → has_joined t s e ≡ true → epoch_after r s (epoch_of t s) ≡ Some e → epoch_of t s ≡ Some e
epoch_record (says.Join z d m) s e t c may joined h = over (z == s) refl h
  where
    over : (b : Bool) → (z == s) ≡ b → ◌≡◌ {A = Option EpochId} (cond b (Some d) (epoch_of t s)) (Some e) → epoch_of t s ≡ Some e
    over false q k = k
    over true q k = absurd (true_false (sym joined ∙ (ap (λ (i : EpochId). has_joined t s i) (sym (some_same d e k)) ∙ (ap (λ (x : ℕ). has_joined t x d) (sym (equal z s q)) ∙ may.new))))
epoch_record (says.Leave z d) s e t c may joined h = over (z == s) h
  where
    over : (b : Bool) → ◌≡◌ {A = Option EpochId} (cond b None (epoch_of t s)) (Some e) → epoch_of t s ≡ Some e
    over false k = k
    over true k = absurd (none_id e k)
epoch_record (says.Stopped z cause) s e t c may joined h = over (z == s) h
  where
    over : (b : Bool) → ◌≡◌ {A = Option EpochId} (cond b None (epoch_of t s)) (Some e) → epoch_of t s ≡ Some e
    over false k = k
    over true k = absurd (none_id e k)
epoch_record (says.Up z boot) s e t c may joined h = over (z == s) h
  where
    over : (b : Bool) → ◌≡◌ {A = Option EpochId} (cond b None (epoch_of t s)) (Some e) → epoch_of t s ≡ Some e
    over false k = k
    over true k = absurd (none_id e k)
epoch_record r s e t c may joined h = h

epoch_told : (c : Config) (n : ℕ) (x : Told) (t : List Line) (s : ℕ) (e : EpochId) → IsFollowed c (record { number = n; told = x } ∷ t) → has_joined (entries t) s e ≡ true → epoch_of (entries (record { number = n; told = x } ∷ t)) s ≡ Some e → epoch_of (entries t) s ≡ Some e
epoch_told c n (Shown r) t s e followed joined h = epoch_record r s e (entries t) c (followed_rows c (record { number = n; told = Shown r } ∷ t) followed).0 joined h
epoch_told c n _ t s e followed joined h = h

joined_later : (new old : List Line) (s : ℕ) (e : EpochId) → has_joined (entries old) s e ≡ true → has_joined (entries (new ++ old)) s e ≡ true
joined_later [] old s e h = h
joined_later (x ∷ xs) old s e h = joined_stays x.number x.told (xs ++ old) s e (joined_later xs old s e h)

-- a site joins an epoch once: who was in it and is in it later is in it between
epoch_between : (c : Config) (new old : List Line) (s : ℕ) (e : EpochId) → IsFollowed c (new ++ old) → has_joined (entries old) s e ≡ true → epoch_of (entries (new ++ old)) s ≡ Some e → epoch_of (entries old) s ≡ Some e
epoch_between c [] old s e followed joined h = h
epoch_between c (x ∷ xs) old s e followed joined h = epoch_between c xs old s e followed.1 joined (epoch_told c x.number x.told (xs ++ old) s e followed (joined_later xs old s e joined) h)

members_later : (c : Config) (new old : List Line) → IsFollowed c (new ++ old) → (id : EpochId) (m : Members) → members_of (entries old) id ≡ Some m → members_of (entries (new ++ old)) id ≡ Some m
members_later c [] old h id m e = e
members_later c (x ∷ xs) old h id m e = (let r : members_of (entries (xs ++ old)) id ≡ Some m = members_later c xs old h.1 id m e in members_stay c x.number x.told (xs ++ old) id h.0 (m, r) ∙ r)

-- ---- a file at rest from one part of the trace on to another ----

pub record Course (c : Config) (e : InEpoch) (file : FileId) (v : VersionRow) (s : ℕ) (from to : List Line) : Type 0 where
  pub rests : RestsBy c e file v s to
  pub started : IsStarted c from e.id file.group
  pub shut : IsShutFrom c e file from to
  pub groups : length c.packs ≤ 4
  pub listed : members_of (entries from) e.id ≡ Some e.members
  pub was : (m : ℕ) → IsMember e m → epoch_of (entries from) m ≡ Some e.id
  pub is : (m : ℕ) → IsMember e m → epoch_of (entries to) m ≡ Some e.id
  pub followed : IsFollowed c from

-- a part between the two
pub record IsPart (from to t : List Line) : Type 0 where
  pub ahead : List Line
  pub goes : to ≡ ahead ++ t
  pub back : List Line
  pub since : t ≡ back ++ from

-- ---- what each line leaves ----

-- what every world of the run has, where its lines are in range
abbrev pub Base : Config → World → Type 0
Base c w = Holds c w × (Good w × PullsAscend w)

-- the member could adopt the version, but for room
pub record CouldAdopt (u : SiteView) (file : FileId) (v : VersionRow) : Type 0 where
  pub pulls : PullsOver u file v
  pub whole : is_complete pulls.pull ≡ true
  pub closed : has_open u.store file ≡ false
  pub unmended : has_mend u.users file ≡ false

abbrev pub IsReady : SiteView → FileId → VersionRow → Type 0
IsReady u file v = (is_above v.vector (copy_of u.store file) ≡ false) ⊎ CouldAdopt u file v

-- ---- one event of the member ----

-- of a file at rest, in two worlds: the member could adopt its version after an event, where it could before, or has it
module _ (c : Config) (e : InEpoch) (file : FileId) (v : VersionRow) (s : ℕ) (member : IsMember e s) (w w1 : World) (k : Midst c e w) (k1 : Midst c e w1) (rests : RestsBy c e file v s w.trace) (rests1 : RestsBy c e file v s w1.trace) (lines : List Line) (goes : w1.trace ≡ lines ++ w.trace) where
  pub names_low : (q : Packet) → PacketFact c w.trace q → q.epoch ≡ e.id → NamesLow q.body file v
  names_low q fact inside = by_body q.body fact
    where
      by_body : (b : Body) → BodyFact c w.trace q b → NamesLow b file v
      by_body (body.Notify about what sites size stamp vector holder) f = notice_low c e w k file v s rests member q about what sites size stamp vector holder inside f
      by_body _ f = tt

  pub ready_on : (ev : Event) (links : Links) (x u : SiteView) → place_at w s ≡ Some (Running x) → place_at w1 s ≡ Some (Running u) → u ≡ (step c s links x ev).view →
      ((process : ℕ) (words : Call) → ev ≡ Calls process words → (f : FileId) → mends_file f words ≡ false) → ((q : Packet) → ev ≡ Receives q → PacketFact c w.trace q) → IsReady x file v → IsReady u file v
  ready_on ev links x u here there is plain facts = by_ready
    where
      narrow : file.ino < inode_span
      narrow = narrow_in c e w k file v s rests member

      low_then : is_above v.vector (copy_of x.store file) ≡ false → is_above v.vector (copy_of u.store file) ≡ false
      low_then low = low_stays c e w w1 lines k k1 goes s member x u here there file narrow v.vector low

      before : Before c e s x
      before = before_in c e w k s x member here

      led : Leads c e s x u ev
      led = subst (λ (y : SiteView). Leads c e s x y ev) (sym is) (leads c e s links x ev before plain (subst (λ (y : SiteView). Remains e y) is (remains_in c e w1 k1 s u member there)))

      by_led : CouldAdopt x file v → Leads c e s x u ev → IsReady u file v
      by_led h (inl same) = subst (λ (y : SiteView). IsReady y file v) (sym same) (inr h)
      by_led h (inr t) = by_pull (goes_on_so c e s x u ev file v before t (λ q z inside. names_low q (facts q z) inside) (none_runs c e w k file v s rests member x here) (k.ascend s x here) h.pulls)
        where
          closed : has_open u.store file ≡ false
          closed = none_is u.store file (λ i a same runs. none_runs c e w1 k1 file v s rests1 member u there i a (ap file_key same) runs)
              (λ i a same closes. shut_before (subst (λ (f : FileId). WasOpen x.store f) same (closing_was c e s x u ev t i a closes)))
            where
              shut_before : WasOpen x.store file → ⊥
              shut_before o = true_false (sym (there_open x.store file o.instance o.there o.opened o.same) ∙ h.closed)

          by_mend : PullsStill u file v h.pulls.pull → (b : Bool) → has_mend u.users file ≡ b → IsReady u file v
          by_mend q false z = inr (record { pulls = q.pulls; whole = ap is_complete (q.whole h.whole) ∙ h.whole; closed = closed; unmended = z })
          by_mend q true z = over (mends_were c e s x u ev file t (mend_there file u.users z))
            where
              over : Mends file x.users.waiting ⊎ IsWanted u u.tables file → IsReady u file v
              over (inl m) = absurd (true_false (sym (there_mend file x.users m) ∙ h.unmended))
              over (inr want) = inl (wanted_low c e w1 k1 file v s rests1 member u there want)

          by_pull : GoesOrLow u file v h.pulls.pull → IsReady u file v
          by_pull (inl low) = inl low
          by_pull (inr q) = by_mend q (has_mend u.users file) refl

      by_ready : IsReady x file v → IsReady u file v
      by_ready (inl low) = inl (low_then low)
      by_ready (inr h) = by_led h led

module _ (c : Config) (e : InEpoch) (file : FileId) (v : VersionRow) (s : ℕ) (member : IsMember e s) (from to : List Line) (course : Course c e file v s from to) where
  rests_at : (t : List Line) → IsPart from to t → RestsBy c e file v s t
  rests_at t p = rests_back c e file v s p.ahead t started shut (subst (λ (l : List Line). RestsBy c e file v s l) p.goes course.rests)
    where
      started : IsStarted c t e.id file.group
      started = subst (λ (l : List Line). IsStarted c l e.id file.group) (sym p.since) (starts_stay c p.back from e.id file.group course.started)

      shut : IsShutFrom c e file t (p.ahead ++ t)
      shut more since now a b = course.shut more (since ++ p.back) now (p.goes ∙ a) (b ∙ (ap (λ (l : List Line). since ++ l) p.since ∙ sym (append_assoc since p.back from)))

  followed_at : (t : List Line) → IsPart from to t → IsFollowed c t
  followed_at t p = (rests_at t p).past.followed

  inside_at : (t : List Line) → IsPart from to t → (m : ℕ) → IsMember e m → epoch_of (entries t) m ≡ Some e.id
  inside_at t p m k = epoch_between c p.ahead t m e.id (subst (λ (l : List Line). IsFollowed c l) p.goes course.rests.past.followed) joined (subst (λ (l : List Line). epoch_of (entries l) m ≡ Some e.id) p.goes (course.is m k))
    where
      joined : has_joined (entries t) m e.id ≡ true
      joined = subst (λ (l : List Line). has_joined (entries l) m e.id ≡ true) (sym p.since) (joined_later p.back from m e.id (inside_joined c from course.followed m e.id (course.was m k)))

  listed_at : (t : List Line) → IsPart from to t → members_of (entries t) e.id ≡ Some e.members
  listed_at t p = subst (λ (l : List Line). members_of (entries l) e.id ≡ Some e.members) (sym p.since) (members_later c p.back from (subst (λ (l : List Line). IsFollowed c l) p.since (followed_at t p)) e.id e.members course.listed)

  -- ---- a world between ----

  pub midst_at : (w : World) → IsPart from to w.trace → Base c w → Midst c e w
  midst_at w p b = record { past = past; good = b.1.0; groups = course.groups; stays = stays; site = site; packets = λ x sent. sent_fact c w x fact sent; ascend = b.1.1 }
    where
      past : Past c w.trace
      past = (rests_at w.trace p).past

      fact : WorldFact c w
      fact = b.0 past.rest

      by_epoch : (m : ℕ) → IsMember e m → (x : SiteView) → (o : Option InEpoch) → x.epoch ≡ o → SiteIn c m w.trace x o → (x.epoch ≡ Some e) × (x.boot ≡ boot_in e.members.boot m)
      by_epoch m k x None is f = absurd (none_id e.id (sym f.outside ∙ inside_at w.trace p m k))
      by_epoch m k x (Some d) is f = (is ∙ (λ i. Some (record { id = same i; members = list i })), sym f.frame.is_member ∙ ap (λ (z : Members). boot_in z.boot m) list)
        where
          same : d.id ≡ e.id
          same = some_same d.id e.id (sym f.frame.inside ∙ inside_at w.trace p m k)

          list : d.members ≡ e.members
          list = some_same d.members e.members (sym f.frame.members_are ∙ (ap (members_of (entries w.trace)) same ∙ listed_at w.trace p))

      stays : (m : ℕ) (x : SiteView) → IsMember e m → place_at w m ≡ Some (Running x) → (x.epoch ≡ Some e) × (x.boot ≡ boot_in e.members.boot m)
      stays m x k here = by_epoch m k x x.epoch refl (fact.places m (Running x) here)

      site : (m : ℕ) (x : SiteView) → IsMember e m → place_at w m ≡ Some (Running x) → InsideFact c (frame_of c e m) w.trace x
      site m x k here = (let i : (x.epoch ≡ Some e) × (x.boot ≡ boot_in e.members.boot m) = stays m x k here in
          subst (λ (boot : ℕ). InsideFact c (frame_in c m boot e) w.trace x) i.1 (subst (λ (o : Option InEpoch). SiteIn c m w.trace x o) i.0 (fact.places m (Running x) here)))

  never_stopped : (w : World) → IsPart from to w.trace → Base c w → (d : Disk) → place_at w s ≡ Some (Stopped d) → ⊥
  never_stopped w p b d here = none_id e.id (sym ((b.0 (rests_at w.trace p).past.rest).places s (Stopped d) here).outside ∙ inside_at w.trace p s member)

  -- ---- one event of the member ----

  abbrev State : World → Type 0
  State w = (u : SiteView) → place_at w s ≡ Some (Running u) → IsReady u file v

  one_event : (w w1 : World) (p : IsPart from to w.trace) (p1 : IsPart from to w1.trace) (k : Midst c e w) (k1 : Midst c e w1) (lines : List Line) → w1.trace ≡ lines ++ w.trace → (ev : Event) (links : Links) (x u : SiteView) → place_at w s ≡ Some (Running x) → place_at w1 s ≡ Some (Running u) → u ≡ (step c s links x ev).view →
      ((process : ℕ) (words : Call) → ev ≡ Calls process words → (f : FileId) → mends_file f words ≡ false) → ((q : Packet) → ev ≡ Receives q → PacketFact c w.trace q) → IsReady x file v → IsReady u file v
  one_event w w1 p p1 k k1 lines goes ev links x u = ready_on c e file v s member w w1 k k1 (rests_at w.trace p) (rests_at w1.trace p1) lines goes ev links x u

  -- ---- what the lines keep ----

  pub record Since (w : World) : Type 0 where
    pub back : List Line
    pub since : w.trace ≡ back ++ from
    -- where the later trace goes on from here, and no limit is passed
    pub state : (ahead : List Line) → to ≡ ahead ++ w.trace → w.over ≡ None → State w

  -- the later world has all told lines, and passes no limit that wasn't passed
  pub record Later (w w1 : World) : Type 0 where
    pub lines : List Line
    pub trace : w1.trace ≡ lines ++ w.trace
    pub within : w1.over ≡ None → w.over ≡ None

  pub later_itself : (w w1 : World) → w1.trace ≡ w.trace → (w1.over ≡ None → w.over ≡ None) → Later w w1
  later_itself w w1 same within = record { lines = []; trace = same; within = within }

  pub happened_later : (n : ℕ) (ps : List Packet) (told : List Told) (change : World → World) (w : World) → Later w (happened n ps told change w)
  happened_later n ps told change w = record { lines = r.0; trace = r.1; within = happened_within n ps told change w }
    where
      r : (lines : List Line) × ((happened n ps told change w).trace ≡ lines ++ w.trace)
      r = happened_keeps (λ (u : World). (lines : List Line) × (u.trace ≡ lines ++ w.trace)) n ps told change w ([], refl) (λ l. ([], refl)) (λ k b t. onto_front n told w.trace)

  pub acts_later : (n t : ℕ) (x : SiteView) (o : Outcome SiteView) (w : World) → Later w (acts n t x o w)
  acts_later n t x o w = acts_keeps (Later w) n t x o w
      (λ ps told place. happened_later n ps told (λ now. puts t place now) w)
      (λ ps told place a. happened_later n ps told (λ now. puts t place (arms a now)) w)
      (λ ps told d. happened_later n ps told (stops_with t d) w)

  -- an event after which the member's place is what it was, or that began with a stop
  pub quiet_since : (w w1 : World) → Base c w → Later w w1 → ((u : SiteView) → place_at w1 s ≡ Some (Running u) → (place_at w s ≡ Some (Running u)) ⊎ ((d : Disk) × (place_at w s ≡ Some (Stopped d)))) → Since w → Since w1
  quiet_since w w1 b l was h = record { back = l.lines ++ h.back; since = l.trace ∙ (ap (λ (x : List Line). l.lines ++ x) h.since ∙ sym (append_assoc l.lines h.back from)); state = state }
    where
      state : (ahead : List Line) → to ≡ ahead ++ w1.trace → w1.over ≡ None → State w1
      state ahead goes within u there = over (was u there)
        where
          goes_on : to ≡ (ahead ++ l.lines) ++ w.trace
          goes_on = goes ∙ (ap (λ (x : List Line). ahead ++ x) l.trace ∙ sym (append_assoc ahead l.lines w.trace))

          over : (place_at w s ≡ Some (Running u)) ⊎ ((d : Disk) × (place_at w s ≡ Some (Stopped d))) → IsReady u file v
          over (inl here) = h.state (ahead ++ l.lines) goes_on (l.within within) u here
          over (inr d) = absurd (never_stopped w (record { ahead = ahead ++ l.lines; goes = goes_on; back = h.back; since = h.since }) b d.0 d.1)

  running_not : (d : Disk) (u : SiteView) → ◌≡◌ {A = Option Place} (Some (Stopped d)) (Some (Running u)) → ⊥
  running_not d u q = cc

  running_same : (x u : SiteView) → ◌≡◌ {A = Option Place} (Some (Running x)) (Some (Running u)) → u ≡ x
  running_same x u q = cc

  -- an event of a running site
  pub stepped_since : (n t : ℕ) (ev : Event) (links : Links) (x : SiteView) (w w0 : World) → place_at w t ≡ Some (Running x) → w0.trace ≡ w.trace → w0.over ≡ w.over → ((m : ℕ) → place_at w0 m ≡ place_at w m) → ((process : ℕ) (words : Call) → ev ≡ Calls process words → (f : FileId) → mends_file f words ≡ false) →
      ((q : Packet) → ev ≡ Receives q → IsRest c w.trace → PacketFact c w.trace q) → Base c w → Base c (acts n t x (step c t links x ev) w0) → Since w → Since (acts n t x (step c t links x ev) w0)
  stepped_since n t ev links x w w0 here same_trace same_over places plain facts b b1 h = record { back = l.lines ++ h.back; since = trace ∙ (ap (λ (z : List Line). l.lines ++ z) h.since ∙ sym (append_assoc l.lines h.back from)); state = state }
    where
      o : Outcome SiteView
      o = step c t links x ev

      w1 : World
      w1 = acts n t x o w0

      l : Later w0 w1
      l = acts_later n t x o w0

      trace : w1.trace ≡ l.lines ++ w.trace
      trace = l.trace ∙ ap (λ (z : List Line). l.lines ++ z) same_trace

      state : (ahead : List Line) → to ≡ ahead ++ w1.trace → w1.over ≡ None → State w1
      state ahead goes within u there = at_each t s (IsReady u file v) mine theirs
        where
          goes_on : to ≡ (ahead ++ l.lines) ++ w.trace
          goes_on = goes ∙ (ap (λ (z : List Line). ahead ++ z) trace ∙ sym (append_assoc ahead l.lines w.trace))

          old : State w
          old = h.state (ahead ++ l.lines) goes_on (sym same_over ∙ l.within within)

          moved : Moved t o w0 w1
          moved = acts_moved n t x o w0 within

          theirs : t ≢ s → IsReady u file v
          theirs ne = old u (sym (places s) ∙ (sym (moved.others s ne) ∙ there))

          mine : t ≡ s → IsReady u file v
          mine eq = over moved.ran
            where
              p : IsPart from to w.trace
              p = record { ahead = ahead ++ l.lines; goes = goes_on; back = h.back; since = h.since }

              p1 : IsPart from to w1.trace
              p1 = record { ahead = ahead; goes = goes; back = l.lines ++ h.back; since = trace ∙ (ap (λ (z : List Line). l.lines ++ z) h.since ∙ sym (append_assoc l.lines h.back from)) }

              k : Midst c e w
              k = midst_at w p b

              here_s : place_at w s ≡ Some (Running x)
              here_s = ap (place_at w) (sym eq) ∙ here

              over : RunsOn t o w1 moved.more ⊎ ((d : Disk) × (place_at w1 t ≡ Some (Stopped d))) → IsReady u file v
              over (inr stop) = absurd (running_not stop.0 u (sym stop.1 ∙ (ap (place_at w1) eq ∙ there)))
              over (inl r) = one_event w w1 p p1 k (midst_at w1 p1 b1) l.lines trace ev links x u here_s there
                  (running_same o.view u (sym r.here ∙ (ap (place_at w1) eq ∙ there)) ∙ ap (λ (z : ℕ). (step c z links x ev).view) eq)
                  plain (λ q z. facts q z (rests_at w.trace p).past.rest) (old x here_s)
