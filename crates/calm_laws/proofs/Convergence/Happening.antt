-- What an event is to a member that is in its epoch before and after it: what its handler leaves, and the end, by which mends alone start.
use Rattle.std.proofs.Common.{Bool, List, None, Option, Some, [], ap, arith, cond, false, inl, inr, nat_lt, not, refl, subst, sym, true, ℕ, ◌&&◌, ◌+◌, ◌==◌, ◌||◌, ◌∙◌, ◌∷◌, ◌≡◌, ◌⊎◌}
use Rattle.calm_laws.proofs.Calls.{frees_waiting}
use Rattle.calm_laws.proofs.Ends.{step_is}
use Rattle.calm_laws.specs.Carrying.{IsMember, frame_of}
use Rattle.calm_laws.proofs.Convergence.FreeUsers.{Mends, goes_waited}
use Rattle.calm_laws.proofs.Convergence.Midst.{Midst, round_none}
use Rattle.calm_laws.specs.Convergence.Converging.{FormsEpochs}
use Rattle.calm_laws.specs.Convergence.Offers.{notice_in}
use Rattle.run_laws.proofs.Epochs.Forms.{adopts_of_formless, framed_formless, mends_of_formless, tries_formless}
use Rattle.run_laws.proofs.Epochs.Handlers.{leaves_of_epoch}
use Rattle.run_laws.proofs.Epochs.Steps.{passed_tables}
use Rattle.run_laws.specs.Epochs.Forming.{FormlessSite, FormsNone, TableFormless}
use Rattle.run_laws.specs.Epochs.Known.{ViewFact}
use Rattle.locus_ids.specs.declared.config.Config.{Config}
use Rattle.locus_ids.specs.declared.ids.EpochId.{EpochId}
use Rattle.locus_ids.specs.declared.ids.FileId.{FileId}
use Rattle.locus_ids.specs.declared.sites.Links.{Links}
use Rattle.locus_ids.specs.declared.sites.Members.{Members}
use Rattle.locus_ids.specs.declared.sites.Sites.{Sites}
use Rattle.role_steps.proofs.of_plain_facts.Options.{none_some}
use Rattle.role_steps.proofs.of_plain_facts.Tests.{both_true, true_false}
use Rattle.role_steps.specs.Adoption.{mends_file}
use Rattle.role_steps.specs.Epochs.{begins_round, boots_where, decides_if, frame_in, is_epoch_below, is_in, joined_packet, joins, leaves, leaves_of, may_install, merge_boot, on_install, on_joined, on_poll, on_promise_of, on_refuse_of, part_boot, passed_over, passes_over, passes_over_of, promise_packet, promises, reached, refuse_packet, starts_part_of, unanswered}
use Rattle.role_steps.specs.Own.{Every}
use Rattle.role_steps.specs.Tables.{without_row}
use Rattle.role_steps.specs.Using.{accepted_call, counted_call, counted_users, on_call}
use Rattle.role_steps.specs.Views.{Calls, Event, Frame, GivesUp, Merges, Outcome, Parts, Receives, SiteView, Ticks, and_then, boot_in, quiet, sends}
use Rattle.role_steps.specs.declared.rounds.InEpoch.{InEpoch}
use Rattle.role_steps.specs.declared.rounds.Round.{Round}
use Rattle.role_steps.specs.declared.users.WaitingCall.{WaitingCall}
use Rattle.the_run.specs.Steps.{adopts_in, call_frame, ends_event, epoch_id, is_dropped, is_forming, is_framed, starts_mends_of, step, takes, takes_call, takes_inside, tries_at, whole}
use Rattle.the_run.specs.Worlds.{Running, World, place_at}
use Rattle.trace_book.specs.Same.{same_epoch}
use Rattle.trace_book.specs.declared.call.Call.{Call}
use Rattle.tree_laws.proofs.Names.{same_epoch_eq}
use Rattle.wire_messages.specs.Bodies.{kind_number}
use Rattle.wire_messages.specs.declared.body.Body.{Body}
use Rattle.wire_messages.specs.declared.body.Body.TheVariants as body
use Rattle.wire_messages.specs.declared.packet.Packet.{Packet}

some_none : (r : Round) → ◌≡◌ {A = Option Round} (Some r) None → ⊥
some_none r e = cc

-- ---- what the handler does ----

-- it leaves the site as it was but for what it repeats
record Leaves (v u : SiteView) : Type 0 where
  round : u.round ≡ v.round
  epoch : u.epoch ≡ v.epoch
  store : u.store ≡ v.store
  pulls : u.pulls ≡ v.pulls
  tables : u.tables ≡ v.tables
  users : u.users ≡ v.users

leaves_itself : (v : SiteView) → Leaves v v
leaves_itself v = record { round = refl; epoch = refl; store = refl; pulls = refl; tables = refl; users = refl }

abbrev LeavesBy : SiteView → Outcome SiteView → Type 0
LeavesBy v o = Leaves v o.view

-- or the site leaves its epoch
abbrev LeavesOr : SiteView → Outcome SiteView → Type 0
LeavesOr v o = Leaves v o.view ⊎ ((o.view.round ≡ None) × (o.view.epoch ≡ None))

poll_leaves : (m : ℕ) (links : Links) (from boot : ℕ) (id : EpochId) (v : SiteView) → LeavesOr v (on_poll m links from boot id v)
poll_leaves m links from boot id v = elim (is_epoch_below v.promised id) as (λ b. LeavesOr v (elim b [
  | true ↦ and_then (promises m id (reached links) v) (λ now. sends (promise_packet m links from boot id now) now)
  | false ↦ sends (cond (same_epoch id v.promised && not v.installed) (promise_packet m links from boot id v) (refuse_packet m from boot id v)) v
])) [
  | true ↦ inr (refl, leaves_of_epoch m v.epoch v refl)
  | false ↦ inl (leaves_itself v)
]

promise_leaves : (from boot : ℕ) (id : EpochId) (reach : Sites) (o : Option Round) (v : SiteView) → o ≡ None → Leaves v (on_promise_of from boot id reach o v).view
promise_leaves from boot id reach None v h = leaves_itself v
promise_leaves from boot id reach (Some r) v h = absurd (some_none r h)

refuse_leaves : (m : ℕ) (links : Links) (id theirs : EpochId) (o : Option Round) (v : SiteView) → o ≡ None → Leaves v (on_refuse_of m links id theirs o v).view
refuse_leaves m links id theirs None v h = leaves_itself v
refuse_leaves m links id theirs (Some r) v h = absurd (some_none r h)

-- a member has installed what it promised
install_leaves : (c : Config) (m from boot : ℕ) (id : EpochId) (members : Members) (v : SiteView) → v.installed ≡ true → Leaves v (on_install c m from boot id members v).view
install_leaves c m from boot id members v h = by_may (may_install m id members v) (never (same_epoch id v.promised) v.installed (boot_in members.boot m == v.boot) h)
  where
    never : (a i b : Bool) → i ≡ true → (a && (not i && b)) ≡ false
    never true true b h = refl
    never false i b h = refl
    never a false b h = absurd (true_false (sym h))

    by_may : (b : Bool) → b ≡ false → LeavesBy v (elim b [
      | true ↦ and_then (joins c m id members v) (λ now. sends (joined_packet m from boot id now) now)
      | false ↦ sends (cond (is_in id v.epoch) (joined_packet m from boot id v) []) v
    ])
    by_may true k = absurd (true_false k)
    by_may false k = leaves_itself v

joined_leaves : (from : ℕ) (id : EpochId) (v : SiteView) → Leaves v (on_joined from id v).view
joined_leaves from id v = elim (is_in id v.epoch) as (λ b. Leaves v (cond b (record v { installs = without_row (λ (s : ℕ). s) from v.installs }) v)) [
  | true ↦ record { round = refl; epoch = refl; store = refl; pulls = refl; tables = refl; users = refl }
  | false ↦ leaves_itself v
]

takes_leaves : (c : Config) (m : ℕ) (links : Links) (p : Packet) (b : Body) (v : SiteView) → v.round ≡ None → v.installed ≡ true → FormsEpochs b → LeavesOr v (takes c m links p b v)
takes_leaves c m links p body.Poll v none i k = poll_leaves m links p.from p.from_boot p.epoch v
takes_leaves c m links p (body.Promise reach) v none i k = inl (promise_leaves p.from p.from_boot p.epoch reach v.round v none)
takes_leaves c m links p (body.Refuse theirs) v none i k = inl (refuse_leaves m links p.epoch theirs v.round v none)
takes_leaves c m links p (body.Install members) v none i k = inl (install_leaves c m p.from p.from_boot p.epoch members v i)
takes_leaves c m links p body.Joined v none i k = inl (joined_leaves p.from p.epoch v)
takes_leaves c m links p _ v none i k = absurd k

tries_none : (c : Config) (m : ℕ) (b : Body) (y : SiteView) → FormsEpochs b → tries_at c m b y ≡ quiet y
tries_none c m body.Poll y k = refl
tries_none c m (body.Promise reach) y k = refl
tries_none c m (body.Refuse theirs) y k = refl
tries_none c m (body.Install members) y k = refl
tries_none c m body.Joined y k = refl
tries_none c m _ y k = absurd k

pub names_none : (b : Body) → FormsEpochs b → notice_in b ≡ []
names_none body.Poll k = refl
names_none (body.Promise reach) k = refl
names_none (body.Refuse theirs) k = refl
names_none (body.Install members) k = refl
names_none body.Joined k = refl
names_none _ k = absurd k

-- a site in no epoch, that has no round, stays in none
ends_outside : (c : Config) (m : ℕ) (links : Links) (v : SiteView) → v.round ≡ None → v.epoch ≡ None → (ends_event c m links v).view.epoch ≡ None
ends_outside c m links v none outside = by_round v.round none
  where
    by_epoch : (o : Option InEpoch) → o ≡ None → (starts_mends_of c m o v).view.epoch ≡ None
    by_epoch None h = outside
    by_epoch (Some d) h = absurd (none_some d (sym h))

    by_round : (r : Option Round) → r ≡ None → (and_then (passes_over_of c m links r v) (λ now. starts_mends_of c m now.epoch now)).view.epoch ≡ None
    by_round None h = by_epoch v.epoch outside
    by_round (Some r) h = absurd (some_none r h)

-- ---- the end of an event ----

passes_promised : (c : Config) (m : ℕ) (links : Links) (o : Option Round) (v : SiteView) → (passes_over_of c m links o v).view.promised ≡ v.promised
passes_promised c m links None v = refl
passes_promised c m links (Some r) v = by_answers (unanswered (passed_over links r))
  where
    by_answers : (ss : List ℕ) → (decides_if c m links (passed_over links r) ss v).view.promised ≡ v.promised
    by_answers [] = refl
    by_answers (s ∷ ss) = refl

-- it leaves what the site has promised
ends_promised : (c : Config) (m : ℕ) (links : Links) (v : SiteView) → Every TableFormless v.tables → (ends_event c m links v).view.promised ≡ v.promised
ends_promised c m links v formless = (mends_of_formless c m mid.epoch mid (passed_tables c m links v.round v formless)).promised ∙ passes_promised c m links v.round v
  where
    mid : SiteView
    mid = (passes_over c m links v).view

-- ---- what happened ----

-- a packet of the epoch was taken, and then an adoption was tried, where its kind lets one
pub record IsTaken (c : Config) (e : InEpoch) (s : ℕ) (v last : SiteView) (p : Packet) : Type 0 where
  pub forms : FormsNone p.body
  pub epoch : p.epoch ≡ e.id
  pub is : last ≡ (tries_at c s p.body (takes_inside (frame_of c e s) p.from p.body v).view).view

-- a packet that forms an epoch came, and its handler left what the site has, pulls and calls
pub record IsStill (v last : SiteView) (b : Body) : Type 0 where
  pub forms : FormsEpochs b
  pub tables : last.tables ≡ v.tables
  pub store : last.store ≡ v.store
  pub pulls : last.pulls ≡ v.pulls
  pub users : last.users ≡ v.users

-- a call began, which isn't a mend
pub record IsCalled (v last : SiteView) : Type 0 where
  pub store : last.store ≡ v.store
  pub pulls : last.pulls ≡ v.pulls
  pub waited : (file : FileId) → Mends file last.users.waiting → Mends file v.users.waiting

abbrev pub By : Config → InEpoch → ℕ → SiteView → SiteView → Event → Type 0
By c e s v last (Receives p) = IsTaken c e s v last p ⊎ IsStill v last p.body
By c e s v last Ticks = last ≡ (adopts_in c s v).view
By c e s v last (Calls process words) = IsCalled v last
By c e s v last _ = ⊥

pub record Happened (c : Config) (e : InEpoch) (s : ℕ) (v u : SiteView) (ev : Event) : Type 0 where
  pub last : SiteView
  pub links : Links
  pub ended : u ≡ (ends_event c s links last).view
  pub round : last.round ≡ None
  pub epoch : last.epoch ≡ Some e
  pub by : By c e s v last ev

-- a member before the event, and its view after it
pub record Before (c : Config) (e : InEpoch) (s : ℕ) (v : SiteView) : Type 0 where
  pub formless : Every TableFormless v.tables
  pub round : v.round ≡ None
  pub epoch : v.epoch ≡ Some e
  pub boot : v.boot ≡ boot_in e.members.boot s
  pub installed : v.installed ≡ true
  pub promised : e.id ≡ v.promised

-- the event leaves the member in the epoch
pub record Remains (e : InEpoch) (u : SiteView) : Type 0 where
  pub epoch : u.epoch ≡ Some e
  pub promised : e.id ≡ u.promised

pub before_in : (c : Config) (e : InEpoch) (w : World) → Midst c e w → (s : ℕ) (v : SiteView) → IsMember e s → place_at w s ≡ Some (Running v) → Before c e s v
before_in c e w k s v m here = record {
  formless = g.tables;
  round = round_none c e w k s v m here;
  epoch = i.0;
  boot = i.1;
  installed = (g.inside e i.0).1;
  promised = (g.inside e i.0).0;
}
  where
    i : (v.epoch ≡ Some e) × (v.boot ≡ boot_in e.members.boot s)
    i = k.stays s v m here

    g : ViewFact (place_at w) s v
    g = k.good.views s v here

pub remains_in : (c : Config) (e : InEpoch) (w : World) → Midst c e w → (s : ℕ) (v : SiteView) → IsMember e s → place_at w s ≡ Some (Running v) → Remains e v
remains_in c e w k s v m here = (let b : Before c e s v = before_in c e w k s v m here in record { epoch = b.epoch; promised = b.promised })

-- ---- kinds of events ----

-- nothing at all happened, or it is such an event
abbrev pub Leads : Config → InEpoch → ℕ → SiteView → SiteView → Event → Type 0
Leads c e s v u ev = (u ≡ v) ⊎ Happened c e s v u ev

mids_in : (e : InEpoch) (p : Packet) (v : SiteView) → v.epoch ≡ Some e → is_forming p ≡ false → is_dropped p v ≡ false → p.epoch ≡ e.id
mids_in e p v inside forms taken = sym (same_epoch_eq e.id p.epoch (both_true (same_epoch e.id p.epoch) _ (sym (ap (is_framed p) inside) ∙ framed (p.to_boot == v.boot) (is_forming p) (is_framed p v.epoch) forms taken)).0)
  where
    framed : (a f b : Bool) → f ≡ false → not (a && (f || b)) ≡ false → b ≡ true
    framed true false true q h = refl
    framed true false false q h = absurd (true_false h)
    framed true true b q h = absurd (true_false q)
    framed false f b q h = absurd (true_false h)

module _ (c : Config) (e : InEpoch) (s : ℕ) (links : Links) (v : SiteView) (b : Before c e s v) where
  -- a packet of the epoch
  inside_leads : (p : Packet) → FormsNone p.body → is_forming p ≡ false → is_dropped p v ≡ false → Happened c e s v (step c s links v (Receives p)).view (Receives p)
  inside_leads p forms unforming taken = record {
    last = a.view;
    links = links;
    ended = ap (λ (o : Outcome SiteView). o.view) (step_is c e s links p v forms b.epoch b.boot taken);
    round = tried.round ∙ (formless.round ∙ b.round);
    epoch = tried.epoch ∙ (formless.epoch ∙ b.epoch);
    by = inl (record { forms = forms; epoch = mids_in e p v b.epoch unforming taken; is = refl });
  }
    where
      mid : Outcome SiteView
      mid = takes_inside (frame_of c e s) p.from p.body v

      a : Outcome SiteView
      a = tries_at c s p.body mid.view

      formless : FormlessSite v mid
      formless = subst (λ (i : ℕ). FormlessSite v (takes_inside (frame_in c s i e) p.from p.body v)) b.boot (framed_formless c s p (Some e) v b.formless)

      tried : FormlessSite mid.view a
      tried = tries_formless c s p.body mid.view formless.tables

  -- one that forms an epoch
  forming_leads : (p : Packet) → FormsEpochs p.body → is_dropped p v ≡ false → Remains e (step c s links v (Receives p)).view → Happened c e s v (step c s links v (Receives p)).view (Receives p)
  forming_leads p kind taken later = over (takes_leaves c s links p p.body v b.round b.installed kind)
    where
      o : Outcome SiteView
      o = takes c s links p p.body v

      by_test : (t : Bool) → t ≡ false → (elim t as (λ (z : Bool). Outcome SiteView) [ true ↦ quiet v | false ↦ whole c s links o (tries_at c s p.body) ]).view ≡ (ends_event c s links o.view).view
      by_test true h = absurd (true_false h)
      by_test false h = ap (λ (a : Outcome SiteView). (ends_event c s links a.view).view) (tries_none c s p.body o.view kind)

      is_end : (step c s links v (Receives p)).view ≡ (ends_event c s links o.view).view
      is_end = by_test (is_dropped p v) taken

      over : LeavesOr v o → Happened c e s v (step c s links v (Receives p)).view (Receives p)
      over (inr gone) = absurd (none_some e (sym (ends_outside c s links o.view gone.0 gone.1) ∙ (ap (λ (y : SiteView). y.epoch) (sym is_end) ∙ later.epoch)))
      over (inl k) = record { last = o.view; links = links; ended = is_end; round = k.round ∙ b.round; epoch = k.epoch ∙ b.epoch; by = inr (record { forms = kind; tables = k.tables; store = k.store; pulls = k.pulls; users = k.users }) }

  -- one that it takes
  pub taken_happens : (p : Packet) → Remains e (step c s links v (Receives p)).view → is_dropped p v ≡ false → Happened c e s v (step c s links v (Receives p)).view (Receives p)
  taken_happens p later taken = by_body p.body refl
    where
      by_body : (body_is : Body) → p.body ≡ body_is → Happened c e s v (step c s links v (Receives p)).view (Receives p)
      by_body body.Poll is = forming_leads p (subst FormsEpochs (sym is) tt) taken later
      by_body (body.Promise reach) is = forming_leads p (subst FormsEpochs (sym is) tt) taken later
      by_body (body.Refuse promised) is = forming_leads p (subst FormsEpochs (sym is) tt) taken later
      by_body (body.Install members) is = forming_leads p (subst FormsEpochs (sym is) tt) taken later
      by_body body.Joined is = forming_leads p (subst FormsEpochs (sym is) tt) taken later
      by_body _ is = inside_leads p (subst FormsNone (sym is) tt) (ap (λ (y : Body). nat_lt (kind_number y) 6) is) taken

  received_leads : (p : Packet) → Remains e (step c s links v (Receives p)).view → Leads c e s v (step c s links v (Receives p)).view (Receives p)
  received_leads p later = by_test (is_dropped p v) refl
    where
      dropped : (t : Bool) → t ≡ true → (elim t as (λ (z : Bool). Outcome SiteView) [ true ↦ quiet v | false ↦ whole c s links (takes c s links p p.body v) (tries_at c s p.body) ]).view ≡ v
      dropped true h = refl
      dropped false h = absurd (true_false (sym h))

      by_test : (t : Bool) → is_dropped p v ≡ t → Leads c e s v (step c s links v (Receives p)).view (Receives p)
      by_test true h = inl (dropped (is_dropped p v) h)
      by_test false h = inr (taken_happens p later h)

  ticked_leads : Happened c e s v (step c s links v Ticks).view Ticks
  ticked_leads = record { last = a.view; links = links; ended = refl; round = formed.round ∙ b.round; epoch = formed.epoch ∙ b.epoch; by = refl }
    where
      a : Outcome SiteView
      a = adopts_in c s v

      formed : FormlessSite v a
      formed = adopts_of_formless c s v.epoch v b.formless

  called_leads : (process : ℕ) (words : Call) → ((file : FileId) → mends_file file words ≡ false) → Happened c e s v (step c s links v (Calls process words)).view (Calls process words)
  called_leads process words plain = record { last = (takes_call c s process words v).view; links = links; ended = refl; round = b.round; epoch = b.epoch; by = record { store = refl; pulls = refl; waited = waited } }
    where
      f : Frame
      f = call_frame c s v.boot v.epoch

      now : Option EpochId
      now = epoch_id v.epoch

      waited : (file : FileId) → Mends file (on_call f now process words v.users).view.waiting → Mends file v.users.waiting
      waited file m = subst (λ (xs : List WaitingCall). Mends file xs) (frees_waiting process words (counted_users f now process words v.users))
          (goes_waited file f (accepted_call f now process words v.users) (counted_call f now process words v.users) (λ h. absurd (true_false (sym h ∙ plain file))) m)

  -- a site that starts to part or to merge has promised a higher id
  promised_more : (links_of polled : Links) → Remains e (ends_event c s links (begins_round s links_of (v.promised.number + 1) polled v).view).view → Every TableFormless (begins_round s links_of (v.promised.number + 1) polled v).view.tables → ⊥
  promised_more links_of polled later formless = higher v.promised.number (ap (λ (i : EpochId). i.number) (sym b.promised ∙ (later.promised ∙ ends_promised c s links (begins_round s links_of (v.promised.number + 1) polled v).view formless)))
    where
      higher : (n : ℕ) → n ≡ n + 1 → ⊥
      higher n h = omega (arith, h)

left_formless : (m : ℕ) (o : Option InEpoch) (v : SiteView) → Every TableFormless v.tables → Every TableFormless (leaves_of m o v).view.tables
left_formless m None v h = h
left_formless m (Some e) v h = tt

left_round : (m : ℕ) (o : Option InEpoch) (v : SiteView) → (leaves_of m o v).view.round ≡ v.round
left_round m None v = refl
left_round m (Some e) v = refl

-- so is each event of a member that stays in its epoch, where a call that a line asks isn't a mend
pub leads : (c : Config) (e : InEpoch) (s : ℕ) (links : Links) (v : SiteView) (ev : Event) → Before c e s v → ((process : ℕ) (words : Call) → ev ≡ Calls process words → (file : FileId) → mends_file file words ≡ false) → Remains e (step c s links v ev).view → Leads c e s v (step c s links v ev).view ev
leads c e s links v (Calls process words) b plain later = inr (called_leads c e s links v b process words (plain process words refl))
leads c e s links v (Receives p) b plain later = received_leads c e s links v b p later
leads c e s links v Ticks b plain later = inr (ticked_leads c e s links v b)
leads c e s links v Parts b plain later = absurd (over v.epoch b.epoch later)
  where
    over : (o : Option InEpoch) → o ≡ Some e → Remains e (ends_event c s links (starts_part_of s links o v).view).view → ⊥
    over None h k = none_some e h
    over (Some d) h k = promised_more c e s links v b links (boots_where (part_boot s links d.members)) k (left_formless s v.epoch v b.formless)
leads c e s links v Merges b plain later = absurd (promised_more c e s links v b links (boots_where (merge_boot s links)) later (left_formless s v.epoch v b.formless))
leads c e s links v GivesUp b plain later = absurd (none_some e (sym (ends_outside c s links (leaves s v).view (left_round s v.epoch v ∙ b.round) (leaves_of_epoch s v.epoch v refl)) ∙ later.epoch))
