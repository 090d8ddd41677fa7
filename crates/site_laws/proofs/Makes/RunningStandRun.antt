-- In every run stores stand as they must, and tell only of what runs.
use Rattle.std.proofs.Common.{◌≡◌, ◌≤◌, ℕ, true, List, Option, Some, None, refl, sym, ◌∙◌, subst, inl, inr}
use Rattle.role_steps.proofs.of_plain_facts.Tests.{false_true}
use Rattle.locus_ids.specs.declared.ids.EpochId.{EpochId}
use Rattle.locus_ids.specs.declared.ids.FileId.{FileId}
use Rattle.locus_ids.specs.declared.ids.Serial.{Serial}
use Rattle.locus_ids.specs.declared.ids.Mode.{Mode}
use Rattle.locus_ids.specs.declared.ids.Mode.TheVariants as mode
use Rattle.locus_ids.specs.declared.config.Config.{Config}
use Rattle.schedule_lines.specs.declared.line.ScheduleLine.{ScheduleLine}
use Rattle.trace_book.specs.declared.operation.Op.{Op}
use Rattle.trace_book.specs.declared.operation.Op.TheVariants as op
use Rattle.wire_messages.specs.declared.body.Body.{Body}
use Rattle.wire_messages.specs.declared.body.Body.TheVariants as body
use Rattle.role_steps.specs.Own.{Every}
use Rattle.role_steps.specs.Tables.{row}
use Rattle.role_steps.specs.Views.{Frame, Store, SiteView, Told, serial_key}
use Rattle.role_steps.specs.Storage.{StoreRequest, instance_key, instance_of}
use Rattle.role_steps.specs.Epochs.{frame_in}
use Rattle.role_steps.specs.Mends.{mending}
use Rattle.role_steps.specs.declared.instances.Instance.{Instance}
use Rattle.role_steps.specs.declared.rounds.InEpoch.{InEpoch}
use Rattle.run_laws.proofs.Run.{found_among}
use Rattle.the_run.specs.Kept.{Among, WasSent, Kept}
use Rattle.the_run.specs.Runs.{run_in}
use Rattle.the_run.specs.Steps.{from_user, group_of}
use Rattle.the_run.specs.Worlds.{World, Running, Numbered, first_world}
use Rattle.the_run.proofs.Runs.{every_run}
use Rattle.site_laws.specs.Vectors.Written.{past_of}
use Rattle.site_laws.proofs.Vectors.SyncFacts.{FoundAt, row_at}
use Rattle.site_laws.specs.Packs.InstanceBook.{IsFor}
use Rattle.site_laws.specs.Locks.Facts.{BodyFact, InstanceFact, NumberedFact, WorldFact}
use Rattle.site_laws.specs.Locks.Joins.{WasJoined}
use Rattle.site_laws.specs.Locks.Writing.{changes}
use Rattle.site_laws.proofs.Locks.SiteFacts.{inside_of}
use Rattle.site_laws.proofs.Locks.FactsRun.{Both, both_kept, first_both}
use Rattle.site_laws.specs.Packs.WriterAsking.{AsksChange}
use Rattle.site_laws.specs.Makes.RunningStores.{AsksIn, IsAsked, InstanceSo, StoresStand}
use Rattle.site_laws.proofs.Makes.RunningSpine.{InSite, in_epoch}
use Rattle.site_laws.proofs.Makes.RunningSpineParts.{takes_store}
use Rattle.site_laws.proofs.Makes.RunningSpineStep.{IsFramed}
use Rattle.site_laws.proofs.Makes.RunningSpineRun.{Before, Where, Stores, where_kept, first_where}
use Rattle.site_laws.proofs.Makes.RunningStand.{StandFacts, StandOwed, ChangesAreOfWriters, stand_spines}
use Rattle.site_laws.proofs.Makes.RunningStandStore.{StoreOut, InStore, quiet_out, FoundHere, AsksHere, on_open_ss_out, on_close_out, on_closed_ok_out}
use Rattle.site_laws.proofs.Makes.RunningStandOps.{FoundToWrite, on_op_out, on_read_held_out}
use Rattle.site_laws.proofs.Makes.RunningUnderway.{UnderwaySent, sent_among, underway_kept, first_underway}
use Rattle.site_laws.proofs.Makes.RunningPlacing.{PlacesSited, places_kept, first_sited}

-- ---- what stands beside ----

abbrev pub Beside : World → Type 0
Beside w = Both w × (UnderwaySent w × PlacesSited w)

beside_kept : (c : Config) → Kept c Beside
beside_kept c = record {
  steps = λ n s e v w here own g. (locks.steps n s e v w here own g.0, (under.steps n s e v w here own g.1.0, places.steps n s e v w here own g.1.1));
  receives = λ n x v w here sent g. (locks.receives n x v w here sent g.0, (under.receives n x v w here sent g.1.0, places.receives n x v w here sent g.1.1));
  passes = λ k w g. (locks.passes k w g.0, (under.passes k w g.1.0, places.passes k w g.1.1));
  drops = λ k w g. (locks.drops k w g.0, (under.drops k w g.1.0, places.drops k w g.1.1));
  recuts = λ xs w g. (locks.recuts xs w g.0, (under.recuts xs w g.1.0, places.recuts xs w g.1.1));
  arming = λ a w g. (locks.arming a w g.0, (under.arming a w g.1.0, places.arming a w g.1.1));
  voiding = λ n w g. (locks.voiding n w g.0, (under.voiding n w g.1.0, places.voiding n w g.1.1));
  budgets = λ n w g. (locks.budgets n w g.0, (under.budgets n w g.1.0, places.budgets n w g.1.1));
  pending = λ n w g. (locks.pending n w g.0, (under.pending n w g.1.0, places.pending n w g.1.1));
  stopping = λ n s v w here g. (locks.stopping n s v w here g.0, (under.stopping n s v w here g.1.0, places.stopping n s v w here g.1.1));
  booting = λ n s d w here g. (locks.booting n s d w here g.0, (under.booting n s d w here g.1.0, places.booting n s d w here g.1.1));
}
  where
    locks : Kept c Both
    locks = both_kept c

    under : Kept c UnderwaySent
    under = underway_kept c

    places : Kept c PlacesSited
    places = places_kept c

-- ---- what is found under a key ----

found_here : (sent : List Numbered) (past : List Told) (f : Frame) (s : Store) (key : ℕ) (o : Option Instance) → row instance_key key s.instances ≡ o → FoundAt (InstanceFact past f.me f.epoch) instance_key key o → FoundAt (InstanceSo sent f.me f.epoch) instance_key key o → FoundHere sent past f s key o
found_here sent past f s key None q l k = tt
found_here sent past f s key (Some i) q l k = (l.0, record { found = subst (λ (n : ℕ). row instance_key n s.instances ≡ Some i) (sym l.0) q; so = k.1; begun = l.1.begun })

lookup : (sent : List Numbered) (past : List Told) (f : Frame) (s : Store) (inst : Serial) → Every (InstanceFact past f.me f.epoch) s.instances → InStore sent past f s → FoundHere sent past f s (serial_key inst) (instance_of s inst)
lookup sent past f s inst l h = found_here sent past f s (serial_key inst) (instance_of s inst) refl (row_at (InstanceFact past f.me f.epoch) instance_key (serial_key inst) s.instances l) (row_at (InstanceSo sent f.me f.epoch) instance_key (serial_key inst) s.instances h.each)

-- ---- what the packet asks ----

for_self : (m : Mode) (file : FileId) → IsFor m file file
for_self mode.Make file = refl
for_self mode.Read file = refl
for_self mode.Write file = refl
for_self mode.Resolve file = refl
for_self mode.Mend file = refl

asks_here : (sent : List Numbered) (x : Numbered) (f : Frame) (r : StoreRequest) (b : Body) → x.packet.body ≡ b → Among x sent → 1 ≤ f.me → x.packet.to ≡ f.me → x.packet.epoch ≡ f.epoch → ((m : Mode) (file : FileId) → r.mode ≡ m → IsFor m file r.file → AsksIn (serial_key r.inst) m file b) → AsksHere sent f r r.mode
asks_here sent x f r b q k site to e asks = record { site = site; plain = it r.mode r.file refl (for_self r.mode r.file); make = λ make file group. it mode.Make file make group }
  where
    it : (m : Mode) (file : FileId) → r.mode ≡ m → IsFor m file r.file → IsAsked sent f.me f.epoch (serial_key r.inst) m file
    it m file p g = record { opening = x; was_sent = k; epoch_is = e; to_is = to; asks = subst (AsksIn (serial_key r.inst) m file) (sym q) (asks m file p g) }

-- by the premise, what an operation changes was asked for otherwise than to read
may_write : (sent : List Numbered) (past : List Told) (x : Numbered) (f : Frame) (s : Store) (e : InEpoch) (serial : ℕ) (o : Op) (i : Option Instance) → ChangesAreOfWriters sent past → Among x sent → (changes o ≡ true → AsksChange serial x.packet.body) → IsFramed x.packet e → WasJoined past f.me e.id e.members → f.epoch ≡ e.id → FoundHere sent past f s (serial_key (from_user x.packet.from serial)) i → FoundToWrite o i
may_write sent past x f s e serial o None p k change framed joined at h = tt
may_write sent past x f s e serial o (Some i) p k change framed joined at h =
    let a : IsAsked sent f.me f.epoch (serial_key i.inst) i.mode i.file = h.1.so.asked in
    λ c. p x a.opening serial f.me e.members i.mode i.file k a.was_sent (change c) (subst (λ (key : ℕ). AsksIn key i.mode i.file a.opening.packet.body) h.0 a.asks)
    (sym framed.epoch ∙ (sym at ∙ sym a.epoch_is)) (subst (λ (d : EpochId). WasJoined past f.me d e.members) framed.epoch joined) framed.boot

change_of : (x : Numbered) (serial n : ℕ) (o : Op) (seen : List ℕ) → x.packet.body ≡ body.Op serial n o seen → changes o ≡ true → AsksChange serial x.packet.body
change_of x serial n o seen q c = subst (AsksChange serial) (sym q) (refl, c)

-- ---- a packet ----

abbrev Done : Config → World → Numbered → SiteView → InEpoch → Body → Type 0
Done c w x v e b = StoreOut w.sent (past_of w.trace) (frame_in c x.packet.to v.boot e) (takes_store (frame_in c x.packet.to v.boot e) x.packet.from b v)

body_done : (c : Config) (w : World) (x : Numbered) (v : SiteView) (e : InEpoch) (b : Body) → x.packet.body ≡ b → Among x w.sent → 1 ≤ x.packet.to → ChangesAreOfWriters w.sent (past_of w.trace) → IsFramed x.packet e → WasJoined (past_of w.trace) x.packet.to e.id e.members → BodyFact (past_of w.trace) x.packet.from x.packet.to e.id b → Every (InstanceFact (past_of w.trace) x.packet.to e.id) v.store.instances → InStore w.sent (past_of w.trace) (frame_in c x.packet.to v.boot e) v.store → Done c w x v e b
body_done c w x v e (body.OpenSs inst file mode set kind base vector parents) q k site p framed joined fact l h =
    let f : Frame = frame_in c x.packet.to v.boot e in
    let r : StoreRequest = record { inst = inst; file = file; mode = mode; set = set; kind = kind; base = base; vector = vector; parents = parents } in
    on_open_ss_out w.sent (past_of w.trace) f r v.store (asks_here w.sent x f r (body.OpenSs inst file mode set kind base vector parents) q k site refl (sym framed.epoch) (λ m g same is_for. (refl, same, is_for))) h
body_done c w x v e (body.Op serial n o seen) q k site p framed joined fact l h =
    let f : Frame = frame_in c x.packet.to v.boot e in
    let inst : Serial = from_user x.packet.from serial in
    let found : FoundHere w.sent (past_of w.trace) f v.store (serial_key inst) (instance_of v.store inst) = lookup w.sent (past_of w.trace) f v.store inst l h in
    on_op_out w.sent (past_of w.trace) f (mending v (group_of (instance_of v.store inst))) inst n o seen v.store (may_write w.sent (past_of w.trace) x f v.store e serial o (instance_of v.store inst) p k (change_of x serial n o seen q) framed joined refl found) fact.granted found h
body_done c w x v e (body.ReadHeld serial n at len) q k site p framed joined fact l h =
    let f : Frame = frame_in c x.packet.to v.boot e in
    let inst : Serial = from_user x.packet.from serial in
    let found : FoundHere w.sent (past_of w.trace) f v.store (serial_key inst) (instance_of v.store inst) = lookup w.sent (past_of w.trace) f v.store inst l h in
    on_read_held_out w.sent (past_of w.trace) f inst n at len v.store (may_write w.sent (past_of w.trace) x f v.store e serial (op.Read at len) (instance_of v.store inst) p k (λ c. absurd (false_true c)) framed joined refl found) fact.granted found h
body_done c w x v e (body.Close serial) q k site p framed joined fact l h =
    let f : Frame = frame_in c x.packet.to v.boot e in
    on_close_out w.sent (past_of w.trace) f (from_user x.packet.from serial) v.store fact.granted (lookup w.sent (past_of w.trace) f v.store (from_user x.packet.from serial) l h) h
body_done c w x v e (body.ClosedOk inst) q k site p framed joined fact l h =
    let f : Frame = frame_in c x.packet.to v.boot e in
    on_closed_ok_out w.sent (past_of w.trace) f inst v.store (lookup w.sent (past_of w.trace) f v.store inst l h) h
body_done c w x v e _ q k site p framed joined fact l h = quiet_out w.sent (past_of w.trace) (frame_in c x.packet.to v.boot e) v.store h

sent_fact : (w : World) (x : Numbered) → WasSent w x → WorldFact w → NumberedFact (past_of w.trace) x
sent_fact w x (inl a) f = found_among (NumberedFact (past_of w.trace)) x w.sent f.packets a
sent_fact w x (inr a) f = found_among (NumberedFact (past_of w.trace)) x w.underway f.underway a

stores_keep : (c : Config) → Stores c Beside ChangesAreOfWriters StandFacts StandOwed
stores_keep c x v w here sent g b holds e in_it framed =
    let past : List Told = past_of w.trace in
    let lock : WorldFact w = g.0.1 in
    let site : InSite (StandFacts w.sent) past x.packet.to v (Some e) = in_epoch (StandFacts w.sent) past x.packet.to v e in_it (holds.views x.packet.to v here) in
    let fact : BodyFact past x.packet.from x.packet.to e.id x.packet.body = subst (λ (i : EpochId). BodyFact past x.packet.from x.packet.to i x.packet.body) (sym framed.epoch) (sent_fact w x sent lock) in
    let k : Done c w x v e x.packet.body = body_done c w x v e x.packet.body refl (sent_among w x sent g.1.0) (g.1.1 x.packet.to (Running v) here) b.1 framed site.0 fact (inside_of past x.packet.to v e in_it (lock.views x.packet.to v here)).0 site.1 in
    record { view = k.view; owed = k.owed; here = k.here; disk = k.disk }

-- ---- every world of a run ----

-- what the premises of the stores are, which are laws of every run
abbrev pub Orderly : World → Type 0
Orderly w = Before ChangesAreOfWriters w

abbrev pub StoresHold : World → Type 0
StoresHold w = Where ChangesAreOfWriters StandFacts StandOwed w

-- the laws of locks, and, where the premises hold, the stores
abbrev pub Standing : World → Type 0
Standing w = Beside w × StoresHold w

pub standing_kept : (c : Config) → Kept c Standing
standing_kept c = where_kept c Beside ChangesAreOfWriters StandFacts StandOwed (λ w g. g.0.0) (beside_kept c) stand_spines (stores_keep c)

pub first_standing : (c : Config) → Standing (first_world c)
first_standing c = ((first_both c, (first_underway c, first_sited c)), first_where c ChangesAreOfWriters StandFacts StandOwed)

-- so stores stand, in each world of a run
pub stores_stand : (w : World) → Standing w → Orderly w → StoresStand w
stores_stand w g b s v e here in_it = (in_epoch (StandFacts w.sent) (past_of w.trace) s v e in_it (((g.1 b).views) s v here)).1

-- ---- the whole run ----

pub run_standing : (c : Config) (lines : List ScheduleLine) → Standing (run_in c lines)
run_standing c lines = every_run c Standing (standing_kept c) (first_standing c) lines
