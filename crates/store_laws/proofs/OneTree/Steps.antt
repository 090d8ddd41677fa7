-- The whole step of a site: a call, a packet, a tick, or a line for epochs, and the end of the event.
use Rattle.std.proofs.Common.{◌≡◌, ℕ, ◌+◌, ◌==◌, nat_lt, Bool, true, false, ◌&&◌, ◌||◌, List, [], ◌∷◌, ◌++◌, Option, Some, None, refl, sym, ◌∙◌, subst}
use Rattle.role_steps.proofs.of_plain_facts.Numbers.{equal}
use Rattle.role_steps.proofs.of_plain_facts.Tests.{both_true, not_false}
use Rattle.locus_ids.specs.declared.config.Config.{Config}
use Rattle.locus_ids.specs.declared.sites.Links.{Links}
use Rattle.trace_book.specs.declared.call.Call.{Call}
use Rattle.wire_messages.specs.Bodies.{kind_number}
use Rattle.wire_messages.specs.declared.body.Body.{Body}
use Rattle.wire_messages.specs.declared.body.Body.TheVariants as body
use Rattle.wire_messages.specs.declared.packet.Packet.{Packet}
use Rattle.role_steps.specs.Epochs.{frame_in, leaves, starts_part, starts_merge, boots_where, merge_boot, with_users}
use Rattle.role_steps.specs.Own.{Every}
use Rattle.role_steps.specs.Pulling.{pages_in, pull_of}
use Rattle.role_steps.specs.Storage.{copy_of}
use Rattle.role_steps.specs.Using.{on_call}
use Rattle.role_steps.specs.Views.{Frame, Store, Users, SiteView, Told, DiskWrite, Outcome, Event, Calls, Receives, Ticks, Parts, Merges, GivesUp, quiet, within, joined_to}
use Rattle.role_steps.specs.declared.rounds.InEpoch.{InEpoch}
use Rattle.role_steps.proofs.Sending.{every_append}
use Rattle.the_run.specs.Steps.{in_order, is_framed, is_forming, is_dropped, takes_framed, takes, adopts_in, tries_at, ends_event, whole, repeats, ticks_after, call_frame, epoch_id, takes_call, takes_inside, step}
use Rattle.the_run.specs.Worlds.{Line, told_onto}
use Rattle.the_run.proofs.StepSends.{order_sent}
use Rattle.row_laws.proofs.of_site_laws.Locks.StepFacts.{SiteSilent, notify_silent, page_silent, delta_silent, framed_notify}
use Rattle.tree_laws.specs.Doing.{NoWrite, WriteFact}
use Rattle.tree_laws.specs.Packets.{PacketFact}
use Rattle.store_laws.specs.OneTree.Places.{OutsideFact, SiteFact, SiteIn, SiteFine}
use Rattle.store_laws.specs.OneTree.Rest.{AllRest, Past}
use Rattle.store_laws.specs.OneTree.Roles.{EventFact, MayCall, RolesDo}
use Rattle.store_laws.specs.OneTree.Wants.{Arrives}
use Rattle.store_laws.proofs.OneTree.Staying.{Stays}
use Rattle.store_laws.proofs.OneTree.Composing.{past_onto, onto_append, packets_onto, rest_first, rest_last, site_then}
use Rattle.store_laws.proofs.OneTree.Forming.{inside_site, begins_fine, starts_part_fine, on_poll_fine, on_promise_fine, on_refuse_fine, on_install_fine, on_joined_fine, adopts_fine, ends_fine}
use Rattle.store_laws.proofs.OneTree.Inside.{writes_nothing, inside_fine, Stands, inside_stands}
use Rattle.store_laws.proofs.OneTree.Leaving.{Gone, gone_site, out_over, leaves_fine}
use Rattle.store_laws.proofs.OneTree.Lifting.{InsideFine, users_inside}
use Rattle.store_laws.proofs.OneTree.Repeats.{repeats_fine}
use Rattle.store_laws.proofs.OneTree.Taken.{taken_boot, taken_epoch}

abbrev pub DoesWith : Config → ℕ → List Line → ℕ → (DiskWrite → Type 0) → Outcome SiteView → Type 0
DoesWith c n trace me W o = SiteFine c n trace me (SiteFact c me) W o

pub every_first : {A : Type 0} (P : A → Type 0) (xs ys : List A) → Every P (xs ++ ys) → Every P xs
every_first P [] ys h = tt
every_first P (x ∷ xs) ys h = (h.0, every_first P xs ys h.1)

pub every_last : {A : Type 0} (P : A → Type 0) (xs ys : List A) → Every P (xs ++ ys) → Every P ys
every_last P [] ys h = h
every_last P (x ∷ xs) ys h = every_last P xs ys h.1

-- ---- the end of an event ----

-- where no adoption is tried
untried : (c : Config) → RolesDo c → Stays c → (n me : ℕ) (links : Links) (trace : List Line) (W : DiskWrite → Type 0) (o : Outcome SiteView) → Past c trace → DoesWith c n trace me W o → AllRest c n trace (whole c me links o quiet).told → DoesWith c n trace me W (whole c me links o quiet)
untried c roles stays n me links trace W o followed a rest =
    let last : Outcome SiteView = ends_event c me links o.view in
    let k : DoesWith c n trace me W (joined_to o last) = site_then c n trace me (SiteFact c me) (SiteFact c me) W o last stays followed rest a
    (ends_fine c roles stays n me links (told_onto n o.told trace) o.view (past_onto c n o.told trace followed a.told (rest_first c n o.told last.told trace rest)) a.view (rest_last c n o.told last.told trace rest)) in
    record { told = k.told; own = k.own; view = k.view; sent = order_sent (PacketFact c (told_onto n (o.told ++ last.told) trace)) (o.sent ++ last.sent) k.sent; written = k.written }

-- an adoption, and the end of the event
adopted : (c : Config) → RolesDo c → Stays c → (n me : ℕ) (links : Links) (trace : List Line) (v : SiteView) → Past c trace → SiteFact c me trace v → AllRest c n trace ((adopts_in c me v).told ++ (ends_event c me links (adopts_in c me v).view).told) →
    DoesWith c n trace me (WriteFact c n trace me v.store) (joined_to (adopts_in c me v) (ends_event c me links (adopts_in c me v).view))
adopted c roles stays n me links trace v followed h rest =
    let o : Outcome SiteView = adopts_in c me v in
    let last : Outcome SiteView = ends_event c me links o.view in
    let a : DoesWith c n trace me (WriteFact c n trace me v.store) o = adopts_fine c roles n me trace v.epoch v followed refl h (rest_first c n o.told last.told trace rest) in
    site_then c n trace me (SiteFact c me) (SiteFact c me) (WriteFact c n trace me v.store) o last stays followed rest a
    (ends_fine c roles stays n me links (told_onto n o.told trace) o.view (past_onto c n o.told trace followed a.told (rest_first c n o.told last.told trace rest)) a.view (rest_last c n o.told last.told trace rest))

-- what tells and writes nothing, and then an adoption
tried_still : (c : Config) → RolesDo c → Stays c → (n me : ℕ) (links : Links) (trace : List Line) (v : SiteView) (sent : List Packet) → Past c trace → SiteFact c me trace v → Every (PacketFact c trace) sent →
    AllRest c n trace (whole c me links (record { view = v; sent = sent; told = []; written = None }) (adopts_in c me)).told →
    DoesWith c n trace me (WriteFact c n trace me v.store) (whole c me links (record { view = v; sent = sent; told = []; written = None }) (adopts_in c me))
tried_still c roles stays n me links trace v sent followed h facts rest =
    let o : Outcome SiteView = adopts_in c me v in
    let last : Outcome SiteView = ends_event c me links o.view in
    let end : List Line = told_onto n (o.told ++ last.told) trace in
    let k : DoesWith c n trace me (WriteFact c n trace me v.store) (joined_to o last) = adopted c roles stays n me links trace v followed h rest in
    record {
      told = k.told;
      own = k.own;
      view = k.view;
      sent = every_append (PacketFact c end) o.sent (in_order (sent ++ last.sent)) (every_first (PacketFact c end) o.sent last.sent k.sent)
          (order_sent (PacketFact c end) (sent ++ last.sent) (every_append (PacketFact c end) sent last.sent (packets_onto c n (o.told ++ last.told) trace stays followed k.told rest sent facts) (every_last (PacketFact c end) o.sent last.sent k.sent)));
      written = k.written;
    }

tried : (c : Config) → RolesDo c → Stays c → (n me : ℕ) (links : Links) (trace : List Line) (s : Store) (W : DiskWrite → Type 0) (o : Outcome SiteView) → Past c trace → SiteSilent o → o.view.store ≡ s → DoesWith c n trace me W o → AllRest c n trace (whole c me links o (adopts_in c me)).told →
    DoesWith c n trace me (WriteFact c n trace me s) (whole c me links o (adopts_in c me))
tried c roles stays n me links trace s W o followed silent same a rest =
    subst (λ (d : Store). DoesWith c n trace me (WriteFact c n trace me d) (whole c me links o (adopts_in c me))) same
    (subst (λ (x : Outcome SiteView). AllRest c n trace (whole c me links x (adopts_in c me)).told → DoesWith c n trace me (WriteFact c n trace me o.view.store) (whole c me links x (adopts_in c me))) (sym still)
    (tried_still c roles stays n me links trace o.view o.sent followed view sent) rest)
  where
    still : o ≡ record { view = o.view; sent = o.sent; told = []; written = None }
    still = λ i. record { view = o.view; sent = o.sent; told = silent.0 i; written = silent.1 i }

    view : SiteFact c me trace o.view
    view = subst (λ (told : List Told). SiteFact c me (told_onto n told trace) o.view) silent.0 a.view

    sent : Every (PacketFact c trace) o.sent
    sent = subst (λ (told : List Told). Every (PacketFact c (told_onto n told trace)) o.sent) silent.0 a.sent

-- ---- a tick ----

ticks_fine : (c : Config) → RolesDo c → Stays c → (n me : ℕ) (links : Links) (trace : List Line) (v : SiteView) → Past c trace → SiteFact c me trace v → AllRest c n trace (ticks_after c me links (adopts_in c me v)).told → DoesWith c n trace me (WriteFact c n trace me v.store) (ticks_after c me links (adopts_in c me v))
ticks_fine c roles stays n me links trace v followed h rest =
    let o : Outcome SiteView = adopts_in c me v in
    let last : Outcome SiteView = ends_event c me links o.view in
    let mid : List Line = told_onto n o.told trace in
    let end : List Line = told_onto n (o.told ++ last.told) trace in
    let a : DoesWith c n trace me (WriteFact c n trace me v.store) o = adopts_fine c roles n me trace v.epoch v followed refl h (rest_first c n o.told last.told trace rest) in
    let l : DoesWith c n mid me NoWrite last = ends_fine c roles stays n me links mid o.view (past_onto c n o.told trace followed a.told (rest_first c n o.told last.told trace rest)) a.view (rest_last c n o.told last.told trace rest) in
    let k : DoesWith c n trace me (WriteFact c n trace me v.store) (joined_to o last) = adopted c roles stays n me links trace v followed h rest in
    record {
      told = k.told;
      own = k.own;
      view = k.view;
      sent = every_append (PacketFact c end) o.sent (repeats c me o.view ++ in_order last.sent) (every_first (PacketFact c end) o.sent last.sent k.sent)
          (every_append (PacketFact c end) (repeats c me o.view) (in_order last.sent)
          (subst (λ (t : List Line). Every (PacketFact c t) (repeats c me o.view)) (sym (onto_append n o.told last.told trace))
          (packets_onto c n last.told mid stays (past_onto c n o.told trace followed a.told (rest_first c n o.told last.told trace rest)) l.told (rest_last c n o.told last.told trace rest) (repeats c me o.view) (repeats_fine c roles mid me o.view (past_onto c n o.told trace followed a.told (rest_first c n o.told last.told trace rest)) a.view)))
          (order_sent (PacketFact c end) last.sent (every_last (PacketFact c end) o.sent last.sent k.sent)));
      written = k.written;
    }

-- ---- a call ----

pub called : (c : Config) → RolesDo c → (n me process : ℕ) (words : Call) (trace : List Line) (e : Option InEpoch) (v : SiteView) → Past c trace → v.epoch ≡ e → SiteIn c me trace v e → MayCall c me process words v.users →
    AllRest c n trace (on_call (call_frame c me v.boot e) (epoch_id e) process words v.users).told → DoesWith c n trace me NoWrite (within (with_users v) (on_call (call_frame c me v.boot e) (epoch_id e) process words v.users))
called c roles n me process words trace None v followed here h may rest =
    let o : Outcome Users = on_call (call_frame c me v.boot None) None process words v.users in
    let k : SiteFine c n trace me (OutsideFact c me) NoWrite (within (with_users v) o) = out_over c roles n me v.boot trace v o followed (record { up = h.up; outside = h.outside; copies = h.copies }) refl h.instances h.steps h.tables h.pulls rest
    (roles.users.calls_outside n trace me v.boot process words v.users followed h.up h.outside h.users may rest) in
    record { told = k.told; own = k.own; view = subst (λ (x : Option InEpoch). SiteIn c me (told_onto n o.told trace) (with_users v o.view) x) (sym here) k.view; sent = k.sent; written = k.written }
called c roles n me process words trace (Some e) v followed here h may rest =
    let f : Frame = frame_in c me v.boot e in
    let o : Outcome Users = on_call f (Some e.id) process words v.users in
    let k : InsideFine c n trace f NoWrite (within (with_users v) o) = users_inside c roles n trace f v o (record { past = followed; frame = h.frame }) h rest (roles.users.calls n trace f process words v.users (record { past = followed; frame = h.frame }) h.users may rest) in
    record { told = k.told; own = k.own; view = inside_site c me (told_onto n o.told trace) v (with_users v o.view) e here refl k.view; sent = k.sent; written = k.written }

-- ---- a packet ----

pub to_boot : (p : Packet) (v : SiteView) → is_dropped p v ≡ false → p.to_boot ≡ v.boot
to_boot p v h = equal p.to_boot v.boot (both_true (p.to_boot == v.boot) (is_forming p || is_framed p v.epoch) (not_false ((p.to_boot == v.boot) && (is_forming p || is_framed p v.epoch)) h)).0

abbrev pub Taken : Config → ℕ → List Line → Packet → SiteView → Outcome SiteView → Type 0
Taken c n trace p v o = DoesWith c n trace p.to (WriteFact c n trace p.to v.store) o

pub framed : (c : Config) → RolesDo c → (n : ℕ) (trace : List Line) (p : Packet) (x : Body) (e : Option InEpoch) (v : SiteView) → p.body ≡ x → nat_lt (kind_number x) 6 ≡ false → is_dropped p v ≡ false → Past c trace → v.epoch ≡ e → SiteIn c p.to trace v e → Arrives c trace p v →
    AllRest c n trace (takes_framed c p.to p e v).told → Taken c n trace p v (takes_framed c p.to p e v)
framed c roles n trace p x None v q inside d followed here h fact fresh = record { told = tt; own = tt; view = subst (SiteIn c p.to trace v) (sym here) h; sent = tt; written = tt }
framed c roles n trace p x (Some e) v q inside d followed here h fact fresh =
    let f : Frame = frame_in c p.to v.boot e in
    let s : Stands v (takes_inside f p.from p.body v) = inside_stands f p.from p.body v in
    let k : InsideFine c n trace f (WriteFact c n trace p.to v.store) (takes_inside f p.from p.body v) = inside_fine c roles n trace f p p.body v (record { past = followed; frame = h.frame }) h
    (record { to_is = refl; to_boot_is = to_boot p v d; epoch_is = taken_epoch p x v e q inside d here; from_boot_is = taken_boot p x v e q inside d here }) refl fact.fact (fact.deltas e here (sym (taken_epoch p x v e q inside d here))) fresh in
    record { told = k.told; own = k.own; view = inside_site c p.to (told_onto n (takes_inside f p.from p.body v).told trace) v (takes_inside f p.from p.body v).view e (s.epoch ∙ here) s.boot k.view; sent = k.sent; written = k.written }

abbrev Received : Config → ℕ → List Line → Links → Packet → Body → SiteView → Type 0
Received c n trace links p x v = AllRest c n trace (whole c p.to links (takes c p.to links p x v) (tries_at c p.to x)).told → Taken c n trace p v (whole c p.to links (takes c p.to links p x v) (tries_at c p.to x))

pub whole_first : (c : Config) (n me : ℕ) (links : Links) (trace : List Line) (o : Outcome SiteView) → AllRest c n trace (whole c me links o quiet).told → AllRest c n trace o.told
whole_first c n me links trace o rest = rest_first c n o.told (ends_event c me links o.view).told trace rest

-- what forms an epoch
formed : (c : Config) → RolesDo c → Stays c → (n : ℕ) (trace : List Line) (links : Links) (p : Packet) (v : SiteView) (o : Outcome SiteView) → Past c trace → (AllRest c n trace o.told → DoesWith c n trace p.to NoWrite o) → AllRest c n trace (whole c p.to links o quiet).told → Taken c n trace p v (whole c p.to links o quiet)
formed c roles stays n trace links p v o followed a rest =
    untried c roles stays n p.to links trace (WriteFact c n trace p.to v.store) o followed (writes_nothing c n trace p.to (SiteFact c p.to) (WriteFact c n trace p.to v.store) o (a (whole_first c n p.to links trace o rest))) rest

-- what comes in the epoch, and after which no adoption is tried
came : (c : Config) → RolesDo c → Stays c → (n : ℕ) (trace : List Line) (links : Links) (p : Packet) (x : Body) (v : SiteView) → p.body ≡ x → nat_lt (kind_number x) 6 ≡ false → is_dropped p v ≡ false → Past c trace → SiteFact c p.to trace v → Arrives c trace p v →
    AllRest c n trace (whole c p.to links (takes_framed c p.to p v.epoch v) quiet).told → Taken c n trace p v (whole c p.to links (takes_framed c p.to p v.epoch v) quiet)
came c roles stays n trace links p x v q inside d followed h fact rest =
    untried c roles stays n p.to links trace (WriteFact c n trace p.to v.store) (takes_framed c p.to p v.epoch v) followed
    (framed c roles n trace p x v.epoch v q inside d followed refl h fact (whole_first c n p.to links trace (takes_framed c p.to p v.epoch v) rest)) rest

pub same_store : (c : Config) (me : ℕ) (p : Packet) (x : Body) (e : Option InEpoch) (v : SiteView) → p.body ≡ x → ((f : Frame) → (takes_inside f p.from x v).view.store ≡ v.store) → (takes_framed c me p e v).view.store ≡ v.store
same_store c me p x None v q h = refl
same_store c me p x (Some e) v q h = subst (λ (y : Body). (takes_inside (frame_in c me v.boot e) p.from y v).view.store ≡ v.store) (sym q) (h (frame_in c me v.boot e))

-- what comes in the epoch, and then an adoption is tried
came_tried : (c : Config) → RolesDo c → Stays c → (n : ℕ) (trace : List Line) (links : Links) (p : Packet) (x : Body) (v : SiteView) → p.body ≡ x → nat_lt (kind_number x) 6 ≡ false → is_dropped p v ≡ false → ((f : Frame) → SiteSilent (takes_inside f p.from x v)) → ((f : Frame) → (takes_inside f p.from x v).view.store ≡ v.store) →
    Past c trace → SiteFact c p.to trace v → Arrives c trace p v → AllRest c n trace (whole c p.to links (takes_framed c p.to p v.epoch v) (adopts_in c p.to)).told → Taken c n trace p v (whole c p.to links (takes_framed c p.to p v.epoch v) (adopts_in c p.to))
came_tried c roles stays n trace links p x v q inside d silent store followed h fact rest =
    let o : Outcome SiteView = takes_framed c p.to p v.epoch v in
    let s : SiteSilent o = framed_notify c p.to p x v.epoch v q silent in
    tried c roles stays n p.to links trace v.store (WriteFact c n trace p.to v.store) o followed s (same_store c p.to p x v.epoch v q store)
    (framed c roles n trace p x v.epoch v q inside d followed refl h fact (subst (AllRest c n trace) (sym s.0) tt)) rest

received : (c : Config) → RolesDo c → Stays c → (n : ℕ) (trace : List Line) (links : Links) (p : Packet) (x : Body) (v : SiteView) → p.body ≡ x → is_dropped p v ≡ false → Past c trace → SiteFact c p.to trace v → Arrives c trace p v → Received c n trace links p x v
received c roles stays n trace links p body.Poll v q d followed h fact = formed c roles stays n trace links p v _ followed (on_poll_fine c roles stays n p.to links p.from p.from_boot p.epoch trace v followed h)
received c roles stays n trace links p (body.Promise reach) v q d followed h fact = formed c roles stays n trace links p v _ followed (λ r. on_promise_fine c n p.to p.from p.from_boot p.epoch reach trace v.round v h)
received c roles stays n trace links p (body.Refuse promised) v q d followed h fact = formed c roles stays n trace links p v _ followed (on_refuse_fine c roles stays n p.to links p.epoch promised trace v.round v followed h)
received c roles stays n trace links p (body.Install members) v q d followed h fact = formed c roles stays n trace links p v _ followed (on_install_fine c roles stays n p.to p.from p.from_boot p.epoch members trace v followed h)
received c roles stays n trace links p body.Joined v q d followed h fact = formed c roles stays n trace links p v _ followed (λ r. on_joined_fine c n p.to p.from p.epoch trace v h)
received c roles stays n trace links p (body.Notify file kind set size stamp vector holder) v q d followed h fact =
    came_tried c roles stays n trace links p (body.Notify file kind set size stamp vector holder) v q refl d
    (λ f. notify_silent f p.from (copy_of v.store file) (record { file = file; kind = kind; set = set; size = size; stamp = stamp; vector = vector; holder = holder; base = None; wanted = None; content = [] }) v.pulls) (λ f. refl) followed h fact
received c roles stays n trace links p (body.Page file stamp page bytes) v q d followed h fact =
    came_tried c roles stays n trace links p (body.Page file stamp page bytes) v q refl d (λ f. page_silent f stamp page bytes (pull_of v.pulls file) v.pulls) (λ f. refl) followed h fact
received c roles stays n trace links p (body.Delta file wanted pages) v q d followed h fact =
    came_tried c roles stays n trace links p (body.Delta file wanted pages) v q refl d (λ f. delta_silent f (pages_in (copy_of v.store file)) wanted pages (pull_of v.pulls file) v.pulls) (λ f. refl) followed h fact
received c roles stays n trace links p x v q d followed h fact = came c roles stays n trace links p x v q refl d followed h fact

-- ---- every event ----

takes_packet : (c : Config) → RolesDo c → Stays c → (n : ℕ) (links : Links) (trace : List Line) (v : SiteView) (p : Packet) → Past c trace → SiteFact c p.to trace v → Arrives c trace p v → AllRest c n trace (step c p.to links v (Receives p)).told → Taken c n trace p v (step c p.to links v (Receives p))
takes_packet c roles stays n links trace v p followed h fact rest = over (is_dropped p v) refl rest
  where
    over : (b : Bool) → is_dropped p v ≡ b → AllRest c n trace (elim b as (λ (x : Bool). Outcome SiteView) [ true ↦ quiet v | false ↦ whole c p.to links (takes c p.to links p p.body v) (tries_at c p.to p.body) ]).told → Taken c n trace p v (elim b as (λ (x : Bool). Outcome SiteView) [ true ↦ quiet v | false ↦ whole c p.to links (takes c p.to links p p.body v) (tries_at c p.to p.body) ])
    over true e r = record { told = tt; own = tt; view = h; sent = tt; written = tt }
    over false e r = received c roles stays n trace links p p.body v refl e followed h fact r

pub step_fine : (c : Config) → RolesDo c → Stays c → (n me : ℕ) (links : Links) (trace : List Line) (v : SiteView) (e : Event) → Past c trace → SiteFact c me trace v → EventFact c trace me v e → AllRest c n trace (step c me links v e).told → DoesWith c n trace me (WriteFact c n trace me v.store) (step c me links v e)
step_fine c roles stays n me links trace v (Calls process words) followed h fact rest =
    untried c roles stays n me links trace (WriteFact c n trace me v.store) (takes_call c me process words v) followed (writes_nothing c n trace me (SiteFact c me) (WriteFact c n trace me v.store) (takes_call c me process words v)
    (called c roles n me process words trace v.epoch v followed refl h fact (whole_first c n me links trace (takes_call c me process words v) rest))) rest
step_fine c roles stays n me links trace v (Receives p) followed h fact rest =
    subst (λ (s : ℕ). SiteFact c s trace v → AllRest c n trace (step c s links v (Receives p)).told → DoesWith c n trace s (WriteFact c n trace s v.store) (step c s links v (Receives p))) fact.0 (λ g r. takes_packet c roles stays n links trace v p followed g fact.1 r) h rest
step_fine c roles stays n me links trace v Ticks followed h fact rest = ticks_fine c roles stays n me links trace v followed h rest
step_fine c roles stays n me links trace v Parts followed h fact rest =
    untried c roles stays n me links trace (WriteFact c n trace me v.store) (starts_part me links v) followed (writes_nothing c n trace me (SiteFact c me) (WriteFact c n trace me v.store) (starts_part me links v) (starts_part_fine c roles stays n me links trace v.epoch v followed h (whole_first c n me links trace (starts_part me links v) rest))) rest
step_fine c roles stays n me links trace v Merges followed h fact rest =
    untried c roles stays n me links trace (WriteFact c n trace me v.store) (starts_merge me links v) followed (writes_nothing c n trace me (SiteFact c me) (WriteFact c n trace me v.store) (starts_merge me links v)
    (begins_fine c roles stays n me links (v.promised.number + 1) (boots_where (merge_boot me links)) trace v followed h (whole_first c n me links trace (starts_merge me links v) rest))) rest
step_fine c roles stays n me links trace v GivesUp followed h fact rest =
    let a : SiteFine c n trace me (Gone c me) NoWrite (leaves me v) = leaves_fine c roles stays n me trace v followed h (whole_first c n me links trace (leaves me v) rest) in
    untried c roles stays n me links trace (WriteFact c n trace me v.store) (leaves me v) followed (writes_nothing c n trace me (SiteFact c me) (WriteFact c n trace me v.store) (leaves me v)
    (record { told = a.told; own = a.own; view = gone_site c me (told_onto n (leaves me v).told trace) (leaves me v).view a.view; sent = a.sent; written = a.written })) rest
