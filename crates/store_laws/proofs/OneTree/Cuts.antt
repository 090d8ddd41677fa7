-- What an event writes has its fact even where the event is cut off in it: by what was before the event, and a fresh stamp.
use Rattle.std.proofs.Common.{◌≡◌, ℕ, ◌+◌, nat_lt, Bool, true, false, cond, not, ◌&&◌, List, [], ◌∷◌, Option, Some, None, refl, sym, ◌∙◌, ap, subst}
use Rattle.role_steps.proofs.HeldReads.{held_read_so}
use Rattle.role_steps.proofs.of_plain_facts.Options.{none_some}
use Rattle.locus_ids.specs.declared.config.Config.{Config}
use Rattle.locus_ids.specs.declared.ids.EpochId.{EpochId}
use Rattle.locus_ids.specs.declared.sites.Links.{Links}
use Rattle.locus_ids.specs.declared.sites.Members.{Members}
use Rattle.locus_ids.specs.declared.sites.Sites.{Sites}
use Rattle.locus_ids.specs.declared.ids.Serial.{Serial}
use Rattle.trace_book.specs.Same.{same_epoch}
use Rattle.trace_book.specs.declared.record.Record.{Record}
use Rattle.trace_book.specs.declared.record.Record.TheVariants as says
use Rattle.wire_messages.specs.Bodies.{kind_number}
use Rattle.wire_messages.specs.declared.body.Body.{Body}
use Rattle.wire_messages.specs.declared.body.Body.TheVariants as body
use Rattle.wire_messages.specs.declared.packet.Packet.{Packet}
use Rattle.role_steps.specs.Own.{Every}
use Rattle.role_steps.specs.Epochs.{is_epoch_below, frame_in, leaves_of, leaves, promises, reached, round_id, begins_round, starts_merge, boots_where, merge_boot, part_boot, starts_part_of, starts_part, promise_packet, refuse_packet, on_poll, on_promise_of, on_refuse_of, joins, may_install, is_in, joined_packet, on_install, on_joined}
use Rattle.role_steps.specs.Tables.{row}
use Rattle.role_steps.specs.Using.{on_call}
use Rattle.role_steps.specs.Views.{Frame, Store, SiteView, Told, Shown, Shuts, DiskWrite, Outcome, Event, Calls, Receives, Ticks, Parts, Merges, GivesUp, quiet, sends, and_then, first_written}
use Rattle.role_steps.specs.declared.rounds.InEpoch.{InEpoch}
use Rattle.role_steps.specs.declared.rounds.Round.{Round}
use Rattle.the_run.specs.Steps.{from_user, group_of, is_dropped, takes_inside, takes_framed, takes, tries_at, adopts_in, ends_event, whole, call_frame, epoch_id, takes_call, step}
use Rattle.the_run.specs.Worlds.{Line, told_onto}
use Rattle.site_laws.specs.Vectors.Written.{past_of}
use Rattle.site_laws.specs.Vectors.HistoryCommits.{StampsAreOnce}
use Rattle.row_laws.proofs.of_run_laws.Telling.{on_open_ss_talks, on_closed_ok_talks, on_call_talks}
use Rattle.site_laws.proofs.of_run_laws.Walks.Untouched.{untouched}
use Rattle.site_laws.proofs.Vectors.SiteDisks.{ends_keeps}
use Rattle.row_laws.proofs.of_site_laws.Locks.StepFacts.{SiteSilent, notify_silent, page_silent, delta_silent, framed_notify}
use Rattle.role_steps.specs.Mends.{mending}
use Rattle.role_steps.specs.OperationEffects.{Mending}
use Rattle.role_steps.specs.Operations.{on_op, on_read_held}
use Rattle.role_steps.specs.Pulling.{pull_of, pages_in}
use Rattle.role_steps.specs.Storage.{StoreRequest, copy_of, instance_of, on_open_ss, on_close, on_closed_ok}
use Rattle.tree_laws.specs.Doing.{IsReceived, WriteFact, WrittenFact}
use Rattle.tree_laws.specs.Packets.{PacketFact}
use Rattle.store_laws.specs.OneTree.Places.{InsideFact, SiteFact, SiteIn}
use Rattle.store_laws.specs.OneTree.Rest.{AllRest, RestTold, Past, more}
use Rattle.store_laws.specs.OneTree.Roles.{EventFact, Ready, RolesDo}
use Rattle.store_laws.specs.OneTree.Wants.{Arrives}
use Rattle.store_laws.proofs.OneTree.Forming.{adopts_fine}
use Rattle.store_laws.proofs.OneTree.Deeds.{IsPlainRecord, IsPlain, IsShaped, on_close_shaped, on_op_shaped, adopts_shaped}
use Rattle.store_laws.proofs.OneTree.Steps.{framed, same_store, to_boot}
use Rattle.store_laws.proofs.OneTree.Taken.{taken_boot, taken_epoch}

-- ---- what other laws give of plain lines ----

once_record : (r : Record) (past : List Told) → IsPlainRecord r → StampsAreOnce past → StampsAreOnce (Shown r ∷ past)
once_record (says.Act e inst n o result) past h once = once
once_record _ past h once = absurd h

plain_once : (x : Told) (past : List Told) → IsPlain x → StampsAreOnce past → StampsAreOnce (x ∷ past)
plain_once (Shown r) past h once = once_record r past h once
plain_once (Shuts site e inst) past h once = once
plain_once _ past h once = absurd h

rest_record : (c : Config) (t : List Line) (r : Record) → IsPlainRecord r → StampsAreOnce (Shown r ∷ past_of t) → RestTold c t (Shown r)
rest_record c t (says.Act e inst n o result) h once = record { row = tt; range = h; packed = tt; fresh = tt; once = once; numbered = tt; sited = tt; rooted = tt }
rest_record c t _ h once = absurd h

plain_rest : (c : Config) (t : List Line) (x : Told) → IsPlain x → StampsAreOnce (x ∷ past_of t) → RestTold c t x
plain_rest c t (Shown r) h once = rest_record c t r h once
plain_rest c t (Shuts site e inst) h once = record { row = tt; range = tt; packed = tt; fresh = tt; once = once; numbered = tt; sited = tt; rooted = tt }
plain_rest c t _ h once = absurd h

all_plain : (c : Config) (n : ℕ) (xs : List Told) (t : List Line) → StampsAreOnce (past_of t) → Every IsPlain xs → AllRest c n t xs
all_plain c n [] t once h = tt
all_plain c n (x ∷ xs) t once h = (let k : StampsAreOnce (x ∷ past_of t) = plain_once x (past_of t) h.0 once in (plain_rest c t x h.0 k, all_plain c n xs (more n x t) k h.1))

-- so they give it of all that an outcome tells which writes, where they give it of the record of what is written
shaped_rest : (c : Config) (n : ℕ) (t : List Line) (told : List Told) (w : Option DiskWrite) (d : DiskWrite) → IsShaped told w → w ≡ Some d → RestTold c t (Shown d.says) → AllRest c n t told
shaped_rest c n t told w d h e r =
    let k : IsShaped told (Some d) = subst (IsShaped told) e h in
    subst (AllRest c n t) (sym k.1) (r, all_plain c n k.0 (more n (Shown d.says) t) r.once k.2)

-- ---- what an outcome writes ----

abbrev pub WritesSo : Config → ℕ → List Line → ℕ → Store → Option DiskWrite → Type 0
WritesSo c n trace me s w = (d : DiskWrite) → w ≡ Some d → RestTold c trace (Shown d.says) → WriteFact c n trace me s d

by_fact : (W : DiskWrite → Type 0) (w : Option DiskWrite) (d : DiskWrite) → w ≡ Some d → WrittenFact W w → W d
by_fact W w d e h = subst (WrittenFact W) e h

none_writes : (c : Config) (n : ℕ) (trace : List Line) (me : ℕ) (s : Store) (w : Option DiskWrite) → w ≡ None → WritesSo c n trace me s w
none_writes c n trace me s w e d k fresh = absurd (none_some d (sym e ∙ k))

first_writes : (c : Config) (n : ℕ) (trace : List Line) (me : ℕ) (s : Store) (a b : Option DiskWrite) → WritesSo c n trace me s a → WritesSo c n trace me s b → WritesSo c n trace me s (first_written a b)
first_writes c n trace me s None b h k = k
first_writes c n trace me s (Some x) b h k = h

-- ---- a packet of the epoch ----

-- a read whose asker has the bytes writes nothing
held_unwritten : (f : Frame) (i : Serial) (k at len : ℕ) (s : Store) → (on_read_held f i k at len s).written ≡ None
held_unwritten f i k at len s = (held_read_so (λ q. Unit {0}) (λ x. Unit {0}) (λ w. w ≡ None) f (record { full = λ to serial m r. tt; held = λ to serial m size. tt; told = λ inst m o r. tt; unwritten = refl }) i k at len s).2

inside_writes : (c : Config) → RolesDo c → (n : ℕ) (trace : List Line) (f : Frame) (p : Packet) (b : Body) (v : SiteView) → Ready c trace f → InsideFact c f trace v → IsReceived f p → p.body ≡ b → PacketFact c trace p → WritesSo c n trace f.me v.store (takes_inside f p.from b v).written
inside_writes c roles n trace f p (body.OpenSs inst file mode set kind base vector parents) v ready h r q fact =
    let o : StoreRequest = record { inst = inst; file = file; mode = mode; set = set; kind = kind; base = base; vector = vector; parents = parents } in none_writes c n trace f.me v.store (on_open_ss f o v.store).written (on_open_ss_talks f o v.store).1
inside_writes c roles n trace f p (body.Op serial k o seen) v ready h r q fact = λ d e rest.
    (let m : Mending = mending v (group_of (instance_of v.store (from_user p.from serial))) in let out : Outcome Store = on_op f m (from_user p.from serial) k o seen v.store in
    by_fact (WriteFact c n trace f.me v.store) out.written d e (roles.stores.acts n trace f p serial k o seen v ready h (record { received = r; body_is = q; fact = fact }) (shaped_rest c n trace out.told out.written d (on_op_shaped f m (from_user p.from serial) k o seen v.store) e rest)).written)
inside_writes c roles n trace f p (body.ReadHeld serial k at len) v ready h r q fact = none_writes c n trace f.me v.store (on_read_held f (from_user p.from serial) k at len v.store).written (held_unwritten f (from_user p.from serial) k at len v.store)
inside_writes c roles n trace f p (body.Close serial) v ready h r q fact = λ d e rest.
    (let out : Outcome Store = on_close f (from_user p.from serial) v.store in
    by_fact (WriteFact c n trace f.me v.store) out.written d e (roles.stores.closes n trace f p serial v.store ready h.store (record { received = r; body_is = q; fact = fact }) (shaped_rest c n trace out.told out.written d (on_close_shaped f (from_user p.from serial) v.store) e rest)).written)
inside_writes c roles n trace f p (body.ClosedOk inst) v ready h r q fact = none_writes c n trace f.me v.store (on_closed_ok f inst v.store).written (on_closed_ok_talks f inst v.store).1
inside_writes c roles n trace f p x v ready h r q fact = none_writes c n trace f.me v.store (takes_inside f p.from x v).written (untouched f p.from x v (λ k. k)).1

-- an adoption that is cut off
adopts_writes : (c : Config) → RolesDo c → (n me : ℕ) (trace : List Line) (v : SiteView) → Past c trace → SiteFact c me trace v → WritesSo c n trace me v.store (adopts_in c me v).written
adopts_writes c roles n me trace v past h = λ d e rest.
    by_fact (WriteFact c n trace me v.store) (adopts_in c me v).written d e (adopts_fine c roles n me trace v.epoch v past refl h (shaped_rest c n trace (adopts_in c me v).told (adopts_in c me v).written d (adopts_shaped c me v.epoch v) e rest)).written

-- ---- the whole step ----

pub leaves_none : (me : ℕ) (e : Option InEpoch) (v : SiteView) → (leaves_of me e v).written ≡ None
leaves_none me None v = refl
leaves_none me (Some e) v = refl

promises_none : (me : ℕ) (id : EpochId) (reach : Sites) (v : SiteView) → (promises me id reach v).written ≡ None
promises_none me id reach v = ap (λ (w : Option DiskWrite). first_written w None) (leaves_none me v.epoch v)

pub begins_none : (me : ℕ) (links : Links) (number : ℕ) (polled : Links) (v : SiteView) → (begins_round me links number polled v).written ≡ None
begins_none me links number polled v = ap (λ (w : Option DiskWrite). first_written w None) (promises_none me (round_id me number v) (reached links) v)

pub part_none : (me : ℕ) (links : Links) (e : Option InEpoch) (v : SiteView) → (starts_part_of me links e v).written ≡ None
part_none me links None v = refl
part_none me links (Some e) v = begins_none me links (v.promised.number + 1) (boots_where (part_boot me links e.members)) v

pub poll_none : (me : ℕ) (links : Links) (from from_boot : ℕ) (id : EpochId) (v : SiteView) → (on_poll me links from from_boot id v).written ≡ None
poll_none me links from from_boot id v = over (is_epoch_below v.promised id)
  where
    over : (b : Bool) → (elim b as (λ (x : Bool). Outcome SiteView) [ true ↦ and_then (promises me id (reached links) v) (λ now. sends (promise_packet me links from from_boot id now) now) | false ↦ sends (cond (same_epoch id v.promised && not v.installed) (promise_packet me links from from_boot id v) (refuse_packet me from from_boot id v)) v ]).written ≡ None
    over true = ap (λ (w : Option DiskWrite). first_written w None) (promises_none me id (reached links) v)
    over false = refl

pub promise_none : (from from_boot : ℕ) (id : EpochId) (reach : Sites) (o : Option Round) (v : SiteView) → (on_promise_of from from_boot id reach o v).written ≡ None
promise_none from from_boot id reach None v = refl
promise_none from from_boot id reach (Some r) v = refl

pub refuse_none : (me : ℕ) (links : Links) (id theirs : EpochId) (o : Option Round) (v : SiteView) → (on_refuse_of me links id theirs o v).written ≡ None
refuse_none me links id theirs None v = refl
refuse_none me links id theirs (Some r) v = over (same_epoch r.id id)
  where
    over : (b : Bool) → (elim b as (λ (x : Bool). Outcome SiteView) [ true ↦ begins_round me links (theirs.number + 1) r.polled v | false ↦ quiet v ]).written ≡ None
    over true = begins_none me links (theirs.number + 1) r.polled v
    over false = refl

pub install_none : (c : Config) (me from from_boot : ℕ) (id : EpochId) (members : Members) (v : SiteView) → (on_install c me from from_boot id members v).written ≡ None
install_none c me from from_boot id members v = over (may_install me id members v)
  where
    over : (b : Bool) → (elim b as (λ (x : Bool). Outcome SiteView) [ true ↦ and_then (joins c me id members v) (λ now. sends (joined_packet me from from_boot id now) now) | false ↦ sends (cond (is_in id v.epoch) (joined_packet me from from_boot id v) []) v ]).written ≡ None
    over true = refl
    over false = refl

-- what the parts of an event write, the event does
whole_writes : (c : Config) (n me : ℕ) (links : Links) (trace : List Line) (s : Store) (o : Outcome SiteView) (tries : SiteView → Outcome SiteView) → WritesSo c n trace me s o.written → WritesSo c n trace me s (tries o.view).written → WritesSo c n trace me s (whole c me links o tries).written
whole_writes c n me links trace s o tries h k = first_writes c n trace me s (tries o.view).written (first_written o.written (ends_event c me links (tries o.view).view).written) k (first_writes c n trace me s o.written (ends_event c me links (tries o.view).view).written h (none_writes c n trace me s (ends_event c me links (tries o.view).view).written (ends_keeps c me links (tries o.view).view).none))

no_try : (c : Config) (n me : ℕ) (trace : List Line) (s : Store) (v : SiteView) → WritesSo c n trace me s (quiet v).written
no_try c n me trace s v = none_writes c n trace me s None refl

still_writes : (c : Config) (n me : ℕ) (links : Links) (trace : List Line) (s : Store) (o : Outcome SiteView) → o.written ≡ None → WritesSo c n trace me s (whole c me links o quiet).written
still_writes c n me links trace s o e = whole_writes c n me links trace s o quiet (none_writes c n trace me s o.written e) (no_try c n me trace s o.view)

framed_writes : (c : Config) → RolesDo c → (n : ℕ) (trace : List Line) (p : Packet) (x : Body) (e : Option InEpoch) (v : SiteView) → p.body ≡ x → nat_lt (kind_number x) 6 ≡ false → is_dropped p v ≡ false → Past c trace → v.epoch ≡ e → SiteIn c p.to trace v e → Arrives c trace p v →
    WritesSo c n trace p.to v.store (takes_framed c p.to p e v).written
framed_writes c roles n trace p x None v q inside d followed here h fact = none_writes c n trace p.to v.store None refl
framed_writes c roles n trace p x (Some e) v q inside d followed here h fact =
    inside_writes c roles n trace (frame_in c p.to v.boot e) p p.body v (record { past = followed; frame = h.frame }) h
    (record { to_is = refl; to_boot_is = to_boot p v d; epoch_is = taken_epoch p x v e q inside d here; from_boot_is = taken_boot p x v e q inside d here }) refl fact.fact

came_writes : (c : Config) → RolesDo c → (n : ℕ) (links : Links) (trace : List Line) (p : Packet) (x : Body) (v : SiteView) → p.body ≡ x → nat_lt (kind_number x) 6 ≡ false → is_dropped p v ≡ false → Past c trace → SiteFact c p.to trace v → Arrives c trace p v → WritesSo c n trace p.to v.store (whole c p.to links (takes_framed c p.to p v.epoch v) quiet).written
came_writes c roles n links trace p x v q inside d followed h fact = whole_writes c n p.to links trace v.store (takes_framed c p.to p v.epoch v) quiet (framed_writes c roles n trace p x v.epoch v q inside d followed refl h fact) (no_try c n p.to trace v.store (takes_framed c p.to p v.epoch v).view)

tried_writes : (c : Config) → RolesDo c → (n : ℕ) (links : Links) (trace : List Line) (p : Packet) (x : Body) (v : SiteView) → p.body ≡ x → nat_lt (kind_number x) 6 ≡ false → is_dropped p v ≡ false → ((f : Frame) → SiteSilent (takes_inside f p.from x v)) → ((f : Frame) → (takes_inside f p.from x v).view.store ≡ v.store) →
    Past c trace → SiteFact c p.to trace v → Arrives c trace p v → WritesSo c n trace p.to v.store (whole c p.to links (takes_framed c p.to p v.epoch v) (adopts_in c p.to)).written
tried_writes c roles n links trace p x v q inside d silent store followed h fact = whole_writes c n p.to links trace v.store o (adopts_in c p.to) (none_writes c n trace p.to v.store o.written s.1)
    (subst (λ (k : Store). WritesSo c n trace p.to k (adopts_in c p.to o.view).written) (same_store c p.to p x v.epoch v q store)
    (adopts_writes c roles n p.to trace o.view followed view))
  where
    o : Outcome SiteView
    o = takes_framed c p.to p v.epoch v

    s : SiteSilent o
    s = framed_notify c p.to p x v.epoch v q silent

    view : SiteFact c p.to trace o.view
    view = subst (λ (told : List Told). SiteFact c p.to (told_onto n told trace) o.view) s.0 (framed c roles n trace p x v.epoch v q inside d followed refl h fact (subst (AllRest c n trace) (sym s.0) tt)).view

packet_writes : (c : Config) → RolesDo c → (n : ℕ) (links : Links) (trace : List Line) (p : Packet) (x : Body) (v : SiteView) → p.body ≡ x → is_dropped p v ≡ false → Past c trace → SiteFact c p.to trace v → Arrives c trace p v → WritesSo c n trace p.to v.store (whole c p.to links (takes c p.to links p x v) (tries_at c p.to x)).written
packet_writes c roles n links trace p body.Poll v q d followed h fact = still_writes c n p.to links trace v.store (on_poll p.to links p.from p.from_boot p.epoch v) (poll_none p.to links p.from p.from_boot p.epoch v)
packet_writes c roles n links trace p (body.Promise reach) v q d followed h fact = still_writes c n p.to links trace v.store (on_promise_of p.from p.from_boot p.epoch reach v.round v) (promise_none p.from p.from_boot p.epoch reach v.round v)
packet_writes c roles n links trace p (body.Refuse promised) v q d followed h fact = still_writes c n p.to links trace v.store (on_refuse_of p.to links p.epoch promised v.round v) (refuse_none p.to links p.epoch promised v.round v)
packet_writes c roles n links trace p (body.Install members) v q d followed h fact = still_writes c n p.to links trace v.store (on_install c p.to p.from p.from_boot p.epoch members v) (install_none c p.to p.from p.from_boot p.epoch members v)
packet_writes c roles n links trace p body.Joined v q d followed h fact = still_writes c n p.to links trace v.store (on_joined p.from p.epoch v) refl
packet_writes c roles n links trace p (body.Notify file kind set size stamp vector holder) v q d followed h fact =
    tried_writes c roles n links trace p (body.Notify file kind set size stamp vector holder) v q refl d
    (λ f. notify_silent f p.from (copy_of v.store file) (record { file = file; kind = kind; set = set; size = size; stamp = stamp; vector = vector; holder = holder; base = None; wanted = None; content = [] }) v.pulls) (λ f. refl) followed h fact
packet_writes c roles n links trace p (body.Page file stamp page bytes) v q d followed h fact = tried_writes c roles n links trace p (body.Page file stamp page bytes) v q refl d (λ f. page_silent f stamp page bytes (pull_of v.pulls file) v.pulls) (λ f. refl) followed h fact
packet_writes c roles n links trace p (body.Delta file wanted pages) v q d followed h fact = tried_writes c roles n links trace p (body.Delta file wanted pages) v q refl d (λ f. delta_silent f (pages_in (copy_of v.store file)) wanted pages (pull_of v.pulls file) v.pulls) (λ f. refl) followed h fact
packet_writes c roles n links trace p x v q d followed h fact = came_writes c roles n links trace p x v q refl d followed h fact

takes_writes : (c : Config) → RolesDo c → (n : ℕ) (links : Links) (trace : List Line) (v : SiteView) (p : Packet) → Past c trace → SiteFact c p.to trace v → Arrives c trace p v → WritesSo c n trace p.to v.store (step c p.to links v (Receives p)).written
takes_writes c roles n links trace v p followed h fact = over (is_dropped p v) refl
  where
    over : (b : Bool) → is_dropped p v ≡ b → WritesSo c n trace p.to v.store (elim b as (λ (x : Bool). Outcome SiteView) [ true ↦ quiet v | false ↦ whole c p.to links (takes c p.to links p p.body v) (tries_at c p.to p.body) ]).written
    over true e = none_writes c n trace p.to v.store None refl
    over false e = packet_writes c roles n links trace p p.body v refl e followed h fact

tick_writes : (c : Config) → RolesDo c → (n me : ℕ) (links : Links) (trace : List Line) (v : SiteView) → Past c trace → SiteFact c me trace v → WritesSo c n trace me v.store (step c me links v Ticks).written
tick_writes c roles n me links trace v followed h = first_writes c n trace me v.store (adopts_in c me v).written (ends_event c me links (adopts_in c me v).view).written (adopts_writes c roles n me trace v followed h)
    (none_writes c n trace me v.store (ends_event c me links (adopts_in c me v).view).written (ends_keeps c me links (adopts_in c me v).view).none)

-- what a step writes has its fact
pub step_writes : (c : Config) → RolesDo c → (n me : ℕ) (links : Links) (trace : List Line) (v : SiteView) (e : Event) → Past c trace → SiteFact c me trace v → EventFact c trace me v e → WritesSo c n trace me v.store (step c me links v e).written
step_writes c roles n me links trace v (Calls process words) followed h fact = whole_writes c n me links trace v.store (takes_call c me process words v) quiet (none_writes c n trace me v.store (on_call (call_frame c me v.boot v.epoch) (epoch_id v.epoch) process words v.users).written (on_call_talks (call_frame c me v.boot v.epoch) (epoch_id v.epoch) process words v.users).1) (no_try c n me trace v.store (takes_call c me process words v).view)
step_writes c roles n me links trace v (Receives p) followed h fact = subst (λ (s : ℕ). SiteFact c s trace v → WritesSo c n trace s v.store (step c s links v (Receives p)).written) fact.0 (λ g. takes_writes c roles n links trace v p followed g fact.1) h
step_writes c roles n me links trace v Ticks followed h fact = tick_writes c roles n me links trace v followed h
step_writes c roles n me links trace v Parts followed h fact = still_writes c n me links trace v.store (starts_part me links v) (part_none me links v.epoch v)
step_writes c roles n me links trace v Merges followed h fact = still_writes c n me links trace v.store (starts_merge me links v) (begins_none me links (v.promised.number + 1) (boots_where (merge_boot me links)) v)
step_writes c roles n me links trace v GivesUp followed h fact = still_writes c n me links trace v.store (leaves me v) (leaves_none me v.epoch v)
