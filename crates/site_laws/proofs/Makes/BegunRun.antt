-- In every run what a storage site begins was asked so, and the number of what it makes was reserved.
use Rattle.std.proofs.Common.{◌≡◌, ◌≤◌, ℕ, ◌+◌, false, ◌⊎◌, List, [], ◌∷◌, ◌++◌, map, Some, None, refl, sym, ◌∙◌, ap, subst, inl, inr}
use Rattle.locus_ids.specs.declared.ids.EpochId.{EpochId}
use Rattle.locus_ids.specs.declared.ids.FileId.{FileId}
use Rattle.locus_ids.specs.declared.ids.Mode.{Mode}
use Rattle.locus_ids.specs.declared.ids.Mode.TheVariants as mode
use Rattle.locus_ids.specs.declared.config.Config.{Config}
use Rattle.trace_book.specs.declared.record.Record.TheVariants as says
use Rattle.trace_book.specs.declared.record.StopCause.TheVariants as cause
use Rattle.wire_messages.specs.declared.packet.Packet.{Packet}
use Rattle.role_steps.specs.Own.{Every}
use Rattle.role_steps.specs.Views.{Frame, Store, SiteView, Told, Shown, Begins, Reserves, Outcome, Event, Receives, serial_key}
use Rattle.role_steps.specs.Epochs.{frame_in}
use Rattle.role_steps.specs.Storage.{StoreRequest, on_open_ss}
use Rattle.role_steps.proofs.Sending.{every_append, every_map}
use Rattle.the_run.specs.Disks.{Disk, Booted, Whole, CutOff, boots, cut_disk, is_on_disk}
use Rattle.the_run.specs.Steps.{is_dropped, step}
use Rattle.the_run.specs.Worlds.{World, Place, Running, Stopped, Numbered, number_of, links_of, place_at, script_of, happened, numbered_from, newest_onto, told_onto, disk_of, puts, arms, passed, stops_with, cause_of, acts, first_world}
use Rattle.the_run.specs.Runs.{boots_as, packet_record}
use Rattle.the_run.specs.Kept.{Among, WasSent, IsOwn, Kept}
use Rattle.the_run.proofs.Boots.{at_each, acts_cases, every_weaker}
use Rattle.the_run.proofs.Events.{happened_keeps, puts_other}
use Rattle.the_run.proofs.InsideSync.{every_without}
use Rattle.run_laws.proofs.Run.{found_among}
use Rattle.site_laws.specs.Vectors.Written.{past_of}
use Rattle.site_laws.specs.Vectors.Facts.{onto}
use Rattle.site_laws.proofs.Vectors.FactsRun.{past_onto}
use Rattle.site_laws.specs.Locks.Going.{BegunAt}
use Rattle.site_laws.specs.Locks.Locks.{IsOfAFile}
use Rattle.site_laws.proofs.Locks.Facts.{onto_later}
use Rattle.site_laws.proofs.Packs.WriterAsksRun.{Leads, newest_leads, newest_has}
use Rattle.run_laws.proofs.Walks.FirstWorld.{first_places}
use Rattle.site_laws.specs.Makes.Holding.{ReservedAt, WasReserved}
use Rattle.site_laws.specs.Makes.Made.{AsksSo, IsAskedThere, IsBegunSo, AllBegunSo, IsNoBegin, AlwaysBegunSo, WorldMade}
use Rattle.site_laws.proofs.Makes.Telling.{AnyGroup, Plain}
use Rattle.site_laws.proofs.Makes.SitesTell.{open_body, IsOpened, ToldAs, step_plain}
use Rattle.site_laws.proofs.Makes.Opening.{made_file, OpenTold, open_told}
use Rattle.site_laws.proofs.Makes.Happening.{TellsOne, told_now, none_told, cut_plain, taken_epoch}

-- ---- what stays ----

asked_later : (a b : List Numbered) → Leads a b → (s : ℕ) (e : EpochId) (key : ℕ) (m : Mode) → IsAskedThere a s e key m → IsAskedThere b s e key m
asked_later a b l s e key m h = record { opening = h.opening; was_sent = l h.opening h.was_sent; epoch_is = h.epoch_is; to_is = h.to_is; asks = h.asks }

begun_later : (a b : List Numbered) (told past : List Told) → Leads a b → (s : ℕ) (e : EpochId) (key : ℕ) (file : FileId) → IsBegunSo a past s e key file → IsBegunSo b (onto told past) s e key file
begun_later a b told past l s e key file h = record { how = h.how; asked = asked_later a b l s e key h.how h.asked; reserved = λ m. onto_later told past _ (h.reserved m) }

plain_begun : (s : ℕ) (e : EpochId) (key : ℕ) (file : FileId) (x : Told) → Plain x → BegunAt s e key file x → ⊥
plain_begun s e key file (Begins t at inst of) h k = h
plain_begun s e key file _ h k = k

plain_reserved : (s : ℕ) (e : EpochId) (key : ℕ) (file : FileId) (x : Told) → Plain x → ReservedAt s e key file x → ⊥
plain_reserved s e key file (Reserves t at inst of) h k = h
plain_reserved s e key file _ h k = k

-- ---- one event ----

abbrev AllSo : List Numbered → List Told → List Told → Type 0
AllSo sent past [] = Unit {0}
AllSo sent past (x ∷ xs) = (IsNoBegin x → AllBegunSo sent (x ∷ past)) × AllSo sent (x ∷ past) xs

always_onto : (sent : List Numbered) (told past : List Told) → AllSo sent past told → AlwaysBegunSo sent past → AlwaysBegunSo sent (onto told past)
always_onto sent [] past h g = g
always_onto sent (x ∷ xs) past h g = always_onto sent xs (x ∷ past) h.1 (h.0, g)

always_later : (a b : List Numbered) (past : List Told) → Leads a b → AlwaysBegunSo a past → AlwaysBegunSo b past
always_later a b [] l h = tt
always_later a b (x ∷ older) l h = ((λ n s e key file k. begun_later a b [] (x ∷ older) l s e key file (h.0 n s e key file k)), always_later a b older l h.1)

-- what an event owes of what it tells, where what was begun before is so
record News (told : List Told) (past : List Told) (sent : List Numbered) : Type 0 where
  begun : AllBegunSo sent (onto told past)
  always : AllSo sent past told
  reserved : (s : ℕ) (e : EpochId) (key : ℕ) (file : FileId) → TellsOne (ReservedAt s e key file) told → IsAskedThere sent s e key mode.Make

plain_so : (sent : List Numbered) (x : Told) (past : List Told) → Plain x → AllBegunSo sent past → AllBegunSo sent (x ∷ past)
plain_so sent x past h g s e key file (inl k) = absurd (plain_begun s e key file x h k)
plain_so sent x past h g s e key file (inr k) = begun_later sent sent (x ∷ []) past (λ y m. m) s e key file (g s e key file k)

plain_all : (sent : List Numbered) (told past : List Told) → Every Plain told → AllBegunSo sent past → AllBegunSo sent (onto told past) × AllSo sent past told
plain_all sent [] past h g = (g, tt)
plain_all sent (x ∷ xs) past h g =
    let now : AllBegunSo sent (x ∷ past) = plain_so sent x past h.0 g in
    let k : AllBegunSo sent (onto xs (x ∷ past)) × AllSo sent (x ∷ past) xs = plain_all sent xs (x ∷ past) h.1 now in
    (k.0, ((λ n. now), k.1))

plain_news : (told past : List Told) (sent : List Numbered) → Every Plain told → AllBegunSo sent past → News told past sent
plain_news told past sent h g =
    let k : AllBegunSo sent (onto told past) × AllSo sent past told = plain_all sent told past h g in
    record { begun = k.0; always = k.1; reserved = λ s e key file r. absurd (none_told (ReservedAt s e key file) Plain told (plain_reserved s e key file) h r) }

happened_made : (c : Config) (n : ℕ) (ps : List Packet) (told : List Told) (change : World → World) (w : World) → (change w).sent ≡ w.sent → (change w).underway ≡ w.underway → ((t : ℕ) (p : Place) → place_at (change w) t ≡ Some p → 1 ≤ t) →
    (AllBegunSo (newest_onto (numbered_from (w.packets + 1) ps) w.sent) (past_of w.trace) → News told (past_of w.trace) (newest_onto (numbered_from (w.packets + 1) ps) w.sent)) → WorldMade c w → WorldMade c (happened n ps told change w)
happened_made c n ps told change w sent underway low owed g =
    happened_keeps (WorldMade c) n ps told change w g
    (λ l. record { low = g.low; begun = g.begun; always = g.always; reserved = g.reserved; underway = g.underway })
    (λ k b t. record {
      low = low;
      begun = subst (λ (xs : List Numbered). AllBegunSo (newest_onto new xs) L) (sym sent) (subst (AllBegunSo now) (sym same) news.begun);
      always = subst (λ (xs : List Numbered). AlwaysBegunSo (newest_onto new xs) L) (sym sent) (subst (AlwaysBegunSo now) (sym same) (always_onto now told past news.always (always_later w.sent now past (newest_leads new w.sent) g.always)));
      reserved = λ s e key file h. subst (λ (xs : List Numbered). IsAskedThere (newest_onto new xs) s e key mode.Make) (sym sent) (reserved_of s e key file (told_now (ReservedAt s e key file) told past (subst (λ (xs : List Told). WasReserved xs s e key file) same h)));
      underway = every_append (λ (x : Numbered). Among x (newest_onto new (change w).sent)) (change w).underway new
          (subst (λ (xs : List Numbered). Every (λ (x : Numbered). Among x (newest_onto new xs)) (change w).underway) (sym sent) (subst (λ (xs : List Numbered). Every (λ (x : Numbered). Among x now) xs) (sym underway) (every_weaker (λ (x : Numbered). Among x w.sent) (λ (x : Numbered). Among x now) w.underway (λ x. newest_leads new w.sent x) g.underway)))
          (all_among (newest_onto new (change w).sent) new (λ x. newest_has new (change w).sent x));
    })
  where
    past : List Told
    past = past_of w.trace

    L : List Told
    L = past_of (told_onto n told w.trace)

    same : L ≡ onto told past
    same = past_onto n told w.trace

    new : List Numbered
    new = numbered_from (w.packets + 1) ps

    now : List Numbered
    now = newest_onto new w.sent

    news : News told past now
    news = owed (λ s e key file h. begun_later w.sent now [] past (newest_leads new w.sent) s e key file (g.begun s e key file h))

    reserved_of : (s : ℕ) (e : EpochId) (key : ℕ) (file : FileId) → TellsOne (ReservedAt s e key file) told ⊎ WasReserved past s e key file → IsAskedThere now s e key mode.Make
    reserved_of s e key file (inl h) = news.reserved s e key file h
    reserved_of s e key file (inr h) = asked_later w.sent now (newest_leads new w.sent) s e key mode.Make (g.reserved s e key file h)

    all_among : (ys xs : List Numbered) → ((x : Numbered) → Among x xs → Among x ys) → Every (λ (x : Numbered). Among x ys) xs
    all_among ys [] f = tt
    all_among ys (x ∷ xs) f = (f x (inl refl), all_among ys xs (λ y m. f y (inr m)))

puts_low : (s : ℕ) (new : Place) (w : World) → 1 ≤ s → ((t : ℕ) (p : Place) → place_at w t ≡ Some p → 1 ≤ t) → (t : ℕ) (p : Place) → place_at (puts s new w) t ≡ Some p → 1 ≤ t
puts_low s new w low all t p here = at_each s t (1 ≤ t) (λ e. subst (λ (n : ℕ). 1 ≤ n) e low) (λ ne. all t p (sym (puts_other s t new w ne) ∙ here))

-- an event that tells neither begins nor reserves
pub plain_made : (c : Config) (n : ℕ) (told : List Told) (change : World → World) (w : World) → (change w).sent ≡ w.sent → (change w).underway ≡ w.underway → ((t : ℕ) (p : Place) → place_at (change w) t ≡ Some p → 1 ≤ t) → Every Plain told → WorldMade c w → WorldMade c (happened n [] told change w)
plain_made c n told change w sent underway low h g = happened_made c n [] told change w sent underway low (plain_news told (past_of w.trace) w.sent h) g

-- ---- an open that is asked of a store ----

-- the packet that asks it, among those that were sent
record Asking (sent : List Numbered) (s : ℕ) (e : EpochId) (r : StoreRequest) : Type 0 where
  opening : Numbered
  was_sent : Among opening sent
  epoch_is : opening.packet.epoch ≡ e
  to_is : opening.packet.to ≡ s
  body_is : opening.packet.body ≡ open_body r

asked_by : (sent : List Numbered) (s : ℕ) (e : EpochId) (r : StoreRequest) → Asking sent s e r → IsAskedThere sent s e (serial_key r.inst) r.mode
asked_by sent s e r h = record { opening = h.opening; was_sent = h.was_sent; epoch_is = h.epoch_is; to_is = h.to_is; asks = subst (AsksSo (serial_key r.inst) r.mode) (sym h.body_is) (refl, refl) }

no_make : (m : Mode) → IsOfAFile m → m ≡ mode.Make → ⊥
no_make m h e = subst IsOfAFile e h

-- what the store tells of it, by its epoch and its key
at_key : (sent : List Numbered) (s t : ℕ) (e id : EpochId) (key k : ℕ) (m : Mode) → s ≡ t → e ≡ id → key ≡ k → IsAskedThere sent s e key m → IsAskedThere sent t id k m
at_key sent s t e id key k m a b q h = subst (λ (n : ℕ). IsAskedThere sent n id k m) a (subst (λ (i : EpochId). IsAskedThere sent s i k m) b (subst (λ (n : ℕ). IsAskedThere sent s e n m) q h))

abbrev News_of : List Told → List Told → List Numbered → Type 0
News_of told past sent = AllBegunSo sent past → News told past sent

-- an instance of a file that is begun
plain_opened : (sent : List Numbered) (past : List Told) (f : Frame) (r : StoreRequest) → Asking sent f.me f.epoch r → IsOfAFile r.mode → AllBegunSo sent past → AllBegunSo sent (Begins f.me f.epoch r.inst r.file ∷ past)
plain_opened sent past f r a it g s e key file (inl q) = record { how = r.mode; asked = at_key sent f.me s f.epoch e (serial_key r.inst) key r.mode q.0 q.1 q.2 (asked_by sent f.me f.epoch r a); reserved = λ m. absurd (no_make r.mode it m) }
plain_opened sent past f r a it g s e key file (inr q) = begun_later sent sent (Begins f.me f.epoch r.inst r.file ∷ []) past (λ y m. m) s e key file (g s e key file q)

-- one that makes a file, once its number is reserved
abbrev made_told : Frame → StoreRequest → FileId → List Told → List Told
made_told f r file past = Reserves f.me f.epoch r.inst file ∷ Begins f.me f.epoch r.inst file ∷ past

made_opened : (sent : List Numbered) (past : List Told) (f : Frame) (r : StoreRequest) (made : FileId) → Asking sent f.me f.epoch r → AllBegunSo sent past → AllBegunSo sent (made_told f r made past)
made_opened sent past f r made a g s e key file (inl q) = absurd q
made_opened sent past f r made a g s e key file (inr (inl q)) = record { how = r.mode; asked = at_key sent f.me s f.epoch e (serial_key r.inst) key r.mode q.0 q.1 q.2 (asked_by sent f.me f.epoch r a); reserved = λ m. inl (q.0, q.1, q.2, q.3) }
made_opened sent past f r made a g s e key file (inr (inr q)) = begun_later sent sent (Begins f.me f.epoch r.inst made ∷ Reserves f.me f.epoch r.inst made ∷ []) past (λ y m. m) s e key file (g s e key file q)

one_reserved : (sent : List Numbered) (f : Frame) (r : StoreRequest) (made : FileId) (after : List Told) → Asking sent f.me f.epoch r → r.mode ≡ mode.Make → Every Plain after → (s : ℕ) (e : EpochId) (key : ℕ) (file : FileId) →
    TellsOne (ReservedAt s e key file) (Begins f.me f.epoch r.inst made ∷ Reserves f.me f.epoch r.inst made ∷ after) → IsAskedThere sent s e key mode.Make
one_reserved sent f r made after a m h s e key file (inl q) = absurd q
one_reserved sent f r made after a m h s e key file (inr (inl q)) = subst (IsAskedThere sent s e key) m (at_key sent f.me s f.epoch e (serial_key r.inst) key r.mode q.0 q.1 q.2 (asked_by sent f.me f.epoch r a))
one_reserved sent f r made after a m h s e key file (inr (inr q)) = absurd (none_told (ReservedAt s e key file) Plain after (plain_reserved s e key file) h q)

opened_news : (sent : List Numbered) (past : List Told) (f : Frame) (r : StoreRequest) (store : Store) (told after : List Told) → Asking sent f.me f.epoch r → Every Plain after → OpenTold f r store told → News_of (told ++ after) past sent
opened_news sent past f r store told after a h (inl o) g = subst (λ (xs : List Told). News (xs ++ after) past sent) (sym o) (plain_news after past sent h g)
opened_news sent past f r store told after a h (inr (inl o)) g =
    subst (λ (xs : List Told). News (xs ++ after) past sent) (sym o.told_is)
    (let x : Told = Begins f.me f.epoch r.inst r.file in
    let now : AllBegunSo sent (x ∷ past) = plain_opened sent past f r a o.of_a_file g in
    let k : News after (x ∷ past) sent = plain_news after (x ∷ past) sent h now in
    record { begun = k.begun; always = ((λ n. absurd n), k.always); reserved = λ s e key file q. reserved_in k s e key file q })
  where
    reserved_in : News after (Begins f.me f.epoch r.inst r.file ∷ past) sent → (s : ℕ) (e : EpochId) (key : ℕ) (file : FileId) → TellsOne (ReservedAt s e key file) (Begins f.me f.epoch r.inst r.file ∷ after) → IsAskedThere sent s e key mode.Make
    reserved_in k s e key file (inl q) = absurd q
    reserved_in k s e key file (inr q) = k.reserved s e key file q
opened_news sent past f r store told after a h (inr (inr o)) g =
    subst (λ (xs : List Told). News (xs ++ after) past sent) (sym o.told_is)
    (let made : FileId = made_file r o.ino in
    let now : AllBegunSo sent (made_told f r made past) = made_opened sent past f r made a g in
    let k : News after (made_told f r made past) sent = plain_news after (made_told f r made past) sent h now in
    record { begun = k.begun; always = ((λ n. absurd n), ((λ n. now), k.always)); reserved = one_reserved sent f r made after a o.mode_is h })

-- ---- every event ----

received_asks : (w : World) (x : Numbered) (v : SiteView) (e : Event) (c : Config) (told : List Told) → WorldMade c w → WasSent w x → e ≡ Receives x.packet → (o : IsOpened AnyGroup c x.packet.to v e told) → Asking w.sent x.packet.to o.epoch.id o.asked
received_asks w x v e c told g sent is o = record {
  opening = x;
  was_sent = there sent;
  epoch_is = taken_epoch x.packet (open_body o.asked) v o.epoch body_is refl (subst (λ (p : Packet). is_dropped p v ≡ false) same o.taken) o.here;
  to_is = refl;
  body_is = body_is;
}
  where
    packet_eq : (p q : Packet) → Receives p ≡ Receives q → p ≡ q
    packet_eq p q k = cc

    same : o.packet ≡ x.packet
    same = packet_eq o.packet x.packet (sym o.event ∙ is)

    body_is : x.packet.body ≡ open_body o.asked
    body_is = sym (ap (λ (p : Packet). p.body) same) ∙ o.body_is

    there : WasSent w x → Among x w.sent
    there (inl k) = k
    there (inr k) = found_among (λ (y : Numbered). Among y w.sent) x w.underway g.underway k

lead_asks : (a b : List Numbered) (s : ℕ) (e : EpochId) (r : StoreRequest) → Leads a b → Asking a s e r → Asking b s e r
lead_asks a b s e r l h = record { opening = h.opening; was_sent = l h.opening h.was_sent; epoch_is = h.epoch_is; to_is = h.to_is; body_is = h.body_is }

-- what an event tells, where each open that it takes was asked by a packet that was sent
abbrev Asks : Config → World → ℕ → SiteView → Event → List Told → Type 0
Asks c w s v e told = (o : IsOpened AnyGroup c s v e told) → Asking w.sent s o.epoch.id o.asked

event_news : (c : Config) (w : World) (s : ℕ) (v : SiteView) (e : Event) (told : List Told) (sent : List Numbered) → Leads w.sent sent → Asks c w s v e told → ToldAs AnyGroup c s v e told → News_of told (past_of w.trace) sent
event_news c w s v e told sent l asks (inl h) g = plain_news told (past_of w.trace) sent h g
event_news c w s v e told sent l asks (inr o) g =
    let f : Frame = frame_in c s v.boot o.epoch in
    subst (λ (xs : List Told). News xs (past_of w.trace) sent) (sym o.told_is) (opened_news sent (past_of w.trace) f o.asked v.store (on_open_ss f o.asked v.store).told o.after (lead_asks w.sent sent s o.epoch.id o.asked l (asks o)) o.plain (open_told f o.asked v.store) g)

acts_made : (c : Config) (n s : ℕ) (v : SiteView) (e : Event) (o : Outcome SiteView) (w : World) → place_at w s ≡ Some (Running v) → ToldAs AnyGroup c s v e o.told → Asks c w s v e o.told → WorldMade c w → WorldMade c (acts n s v o w)
acts_made c n s v e o w here told asks g =
    acts_cases (WorldMade c) n s v o w
    (happened_made c n o.sent o.told (λ now. puts s (Running o.view) now) w refl refl (puts_low s (Running o.view) w low g.low) owed g)
    (λ a. happened_made c n o.sent o.told (λ now. puts s (Running o.view) (arms a now)) w refl refl (puts_low s (Running o.view) w low g.low) owed g)
    (λ d a q. plain_made c n _ (stops_with s (cut_disk v.boot v.store d a.how a.left)) w refl refl (puts_low s (Stopped (cut_disk v.boot v.store d a.how a.left)) w low g.low) (cut_plain (is_on_disk v.store d a.how a.left) d.says (Shown (says.Stopped s (cause_of a.how))) tt) g)
  where
    low : 1 ≤ s
    low = g.low s (Running v) here

    owed : News_of o.told (past_of w.trace) (newest_onto (numbered_from (w.packets + 1) o.sent) w.sent)
    owed = event_news c w s v e o.told (newest_onto (numbered_from (w.packets + 1) o.sent) w.sent) (newest_leads (numbered_from (w.packets + 1) o.sent) w.sent) asks told

as_made : (c : Config) (n s : ℕ) (d : Disk) (b : Booted) (w : World) → place_at w s ≡ Some (Stopped d) → WorldMade c w → WorldMade c (boots_as n s b w)
as_made c n s d (Whole x None) w here g = plain_made c n (Shown (says.Up s x.label.boot) ∷ []) _ w refl refl (λ t p at. puts_low s _ w (g.low s (Stopped d) here) g.low t p at) (tt, tt) g
as_made c n s d (Whole x (Some a)) w here g = plain_made c n (Shown (says.Up s x.label.boot) ∷ []) _ w refl refl (λ t p at. puts_low s _ w (g.low s (Stopped d) here) g.low t p at) (tt, tt) g
as_made c n s d (CutOff x how) w here g = plain_made c n (Shown (says.Stopped s (cause_of how)) ∷ []) (stops_with s x) w refl refl (puts_low s (Stopped x) w (g.low s (Stopped d) here) g.low) (tt, tt) g

own_asks : (c : Config) (w : World) (s : ℕ) (v : SiteView) (e : Event) (told : List Told) → IsOwn e → Asks c w s v e told
own_asks c w s v e told own o = absurd (subst IsOwn o.event own)

passed_made : (c : Config) (k : ℕ) (w : World) → WorldMade c w → WorldMade c (passed k w)
passed_made c k w g = record { low = g.low; begun = g.begun; always = g.always; reserved = g.reserved; underway = every_without (λ (x : Numbered). Among x w.sent) number_of k w.underway g.underway }

pub made_kept : (c : Config) → Kept c (WorldMade c)
made_kept c = record {
  steps = λ n s e v w here own g. acts_made c n s v e (step c s (links_of w s) v e) w here (step_plain c s (links_of w s) v e) (own_asks c w s v e (step c s (links_of w s) v e).told own) g;
  receives = λ n x v w here sent g. acts_made c n x.packet.to v (Receives x.packet) (step c x.packet.to (links_of (passed x.number w) x.packet.to) v (Receives x.packet)) (passed x.number w) here (step_plain c x.packet.to (links_of (passed x.number w) x.packet.to) v (Receives x.packet)) (received_asks w x v (Receives x.packet) c (step c x.packet.to (links_of (passed x.number w) x.packet.to) v (Receives x.packet)).told g sent refl) (passed_made c x.number w g);
  passes = λ k w g. passed_made c k w g;
  drops = λ k w g. (let p : WorldMade c (passed k w) = passed_made c k w g in record { low = p.low; begun = p.begun; always = p.always; reserved = p.reserved; underway = p.underway });
  recuts = λ xs w g. record { low = g.low; begun = g.begun; always = g.always; reserved = g.reserved; underway = g.underway };
  arming = λ a w g. record { low = g.low; begun = g.begun; always = g.always; reserved = g.reserved; underway = g.underway };
  voiding = λ n w g. plain_made c n (Shown says.Void ∷ []) (λ now. now) w refl refl g.low (tt, tt) g;
  budgets = λ n w g. plain_made c n (Shown says.Budget ∷ []) (λ now. now) w refl refl g.low (tt, tt) g;
  pending = λ n w g. plain_made c n (map packet_record w.underway) (λ now. now) w refl refl g.low (every_map Plain packet_record w.underway (λ x. tt)) g;
  stopping = λ n s v w here g. plain_made c n (Shown (says.Stopped s cause.Asked) ∷ []) (stops_with s (disk_of v)) w refl refl (puts_low s (Stopped (disk_of v)) w (g.low s (Running v) here) g.low) (tt, tt) g;
  booting = λ n s d w here g. as_made c n s d (boots (script_of w s) d) w here g;
}

-- ---- the first world ----

pub first_made : (c : Config) → WorldMade c (first_world c)
first_made c = record { low = first_places c (λ s p. 1 ≤ s) (λ s own. own.0.0); begun = λ s e key file h. absurd h; always = tt; reserved = λ s e key file h. absurd h; underway = tt }
