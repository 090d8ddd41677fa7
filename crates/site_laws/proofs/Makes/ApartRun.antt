-- In every run a number is reserved where each earlier make of the file in the epoch is released.
use Rattle.std.proofs.Common.{◌≡◌, ◌≤◌, ℕ, ◌+◌, ◌*◌, ◌-◌, ◌==◌, ◌||◌, Bool, true, false, cond, ◌&&◌, List, [], ◌∷◌, ◌++◌, map, Option, Some, None, refl, sym, ◌∙◌, subst, inl, inr, arith}
use Rattle.std.proofs.lemmas.Bool.Decides.{nat_tests}
use Rattle.std.specs.List.{list_any}
use Rattle.role_steps.proofs.of_plain_facts.Numbers.{equal_self}
use Rattle.role_steps.proofs.of_plain_facts.Tests.{or_neither, true_false}
use Rattle.locus_ids.specs.declared.ids.EpochId.{EpochId}
use Rattle.locus_ids.specs.declared.ids.FileId.{FileId}
use Rattle.locus_ids.specs.declared.ids.Mode.{Mode}
use Rattle.locus_ids.specs.declared.ids.Mode.TheVariants as mode
use Rattle.locus_ids.specs.declared.config.Config.{Config}
use Rattle.locus_ids.specs.Sizes.{site_inodes}
use Rattle.schedule_lines.specs.declared.line.ScheduleLine.{ScheduleLine}
use Rattle.trace_book.specs.declared.record.Record.TheVariants as says
use Rattle.trace_book.specs.declared.record.StopCause.TheVariants as cause
use Rattle.wire_messages.specs.declared.packet.Packet.{Packet}
use Rattle.wire_messages.specs.declared.body.Body.{Body}
use Rattle.wire_messages.specs.declared.body.Body.TheVariants as body
use Rattle.role_steps.specs.Own.{Every}
use Rattle.role_steps.specs.Tables.{row}
use Rattle.role_steps.specs.Views.{Frame, Store, SiteView, Told, Shown, Begins, Reserves, Outcome, Event, Receives, serial_key}
use Rattle.role_steps.specs.Epochs.{frame_in}
use Rattle.role_steps.specs.Storage.{StoreRequest, instance_key, is_open, is_making, is_held, is_used, on_open_ss}
use Rattle.role_steps.specs.declared.instances.Instance.{Instance}
use Rattle.role_steps.specs.declared.instances.Stage.{Stage}
use Rattle.role_steps.specs.declared.instances.Stage.TheVariants as stage
use Rattle.role_steps.specs.declared.rounds.InEpoch.{InEpoch}
use Rattle.role_steps.proofs.Sending.{every_map}
use Rattle.the_run.specs.Disks.{Booted, Whole, CutOff, boots, cut_disk, is_on_disk}
use Rattle.the_run.specs.Steps.{step}
use Rattle.the_run.specs.Worlds.{World, Running, Numbered, links_of, place_at, script_of, happened, told_onto, numbered_from, newest_onto, disk_of, puts, arms, passed, loses, stops_with, cause_of, acts, first_world}
use Rattle.the_run.specs.Runs.{boots_as, packet_record, run_in}
use Rattle.the_run.specs.Kept.{Among, Kept, with_circuits}
use Rattle.the_run.proofs.Boots.{acts_cases}
use Rattle.the_run.proofs.Events.{happened_keeps}
use Rattle.the_run.proofs.Runs.{every_run}
use Rattle.site_laws.specs.Vectors.Written.{past_of}
use Rattle.site_laws.specs.Vectors.Facts.{onto}
use Rattle.site_laws.proofs.Vectors.SyncFacts.{FoundAt, row_at}
use Rattle.site_laws.proofs.Vectors.FactsRun.{past_onto}
use Rattle.site_laws.specs.Locks.Going.{WasBegunAt, WasReleased}
use Rattle.site_laws.specs.Locks.Facts as locks
use Rattle.site_laws.proofs.Packs.WriterAsksRun.{Leads, newest_leads}
use Rattle.site_laws.specs.Packs.Making.{IsOwnNumber, FilesAreMadeAtHome}
use Rattle.site_laws.specs.Makes.RunningStores.{HasOn, AsksIn, IsAsked, InstanceSo, Stands}
use Rattle.site_laws.proofs.Makes.RunningSpine.{order_before}
use Rattle.site_laws.proofs.Makes.RunningStand.{ChangesAreOfWriters, stand_spines}
use Rattle.site_laws.proofs.Makes.RunningStandRun.{Orderly, Standing, standing_kept, first_standing, stores_stand}
use Rattle.site_laws.proofs.Makes.RunningOrders.{run_orderly}
use Rattle.site_laws.specs.Locks.Joins.{JoinsAreOnce}
use Rattle.site_laws.specs.Makes.Holding.{ReservedAt, WasReserved, ApartTold, ReservesAreApart}
use Rattle.site_laws.specs.Makes.Made.{AsksSo, IsAskedThere, Lawful, WorldMade}
use Rattle.site_laws.proofs.Makes.Telling.{AnyGroup, Plain}
use Rattle.site_laws.proofs.Makes.SitesTell.{ToldAs, step_plain}
use Rattle.site_laws.proofs.Makes.Opening.{made_file, OpenTold, open_told}
use Rattle.site_laws.proofs.Makes.Happening.{cut_plain}
use Rattle.site_laws.proofs.Makes.BegunRun.{made_kept, first_made}
use Rattle.site_laws.proofs.Makes.FreshRun.{lawful_before, run_lawful}
use Rattle.site_laws.proofs.Makes.Modes.{OneMode, run_one_mode}

-- ---- premises: laws of every run about what was sent and told ----

record Known (c : Config) (sent : List Numbered) (past : List Told) : Type 0 where
  law : Lawful c past
  once : JoinsAreOnce past
  changes : ChangesAreOfWriters sent past
  modes : OneMode sent

asked_later : (a b : List Numbered) → Leads a b → (s : ℕ) (e : EpochId) (key : ℕ) (m : Mode) → IsAskedThere a s e key m → IsAskedThere b s e key m
asked_later a b l s e key m h = record { opening = h.opening; was_sent = l h.opening h.was_sent; epoch_is = h.epoch_is; to_is = h.to_is; asks = h.asks }

known_before : (c : Config) (old new : List Numbered) → Leads old new → (told past : List Told) → Known c new (onto told past) → Known c old past
known_before c old new l told past h = record {
  law = lawful_before c told past h.law;
  once = order_before told past h.once;
  changes = stand_spines.earlier old new l told past h.changes;
  modes = λ s t e key m n a b. h.modes s t e key m n (asked_later old new l s e key m a) (asked_later old new l t e key n b);
}

-- ---- what was told of reserves ----

abbrev LowTold : Told → Type 0
LowTold (Reserves s e inst file) = 1 ≤ s
LowTold _ = Unit {0}

record WorldApart (past : List Told) : Type 0 where
  apart : ReservesAreApart past
  low : Every LowTold past

abbrev Apart : Config → World → Type 0
Apart c w = Known c w.sent (past_of w.trace) → WorldApart (past_of w.trace)

low_one : (s : ℕ) (e : EpochId) (key : ℕ) (file : FileId) (x : Told) → ReservedAt s e key file x → LowTold x → 1 ≤ s
low_one s e key file (Reserves t at inst of) k h = subst (λ (n : ℕ). 1 ≤ n) k.0 h
low_one s e key file _ k h = absurd k

was_low : (s : ℕ) (e : EpochId) (key : ℕ) (file : FileId) (past : List Told) → WasReserved past s e key file → Every LowTold past → 1 ≤ s
was_low s e key file [] k h = absurd k
was_low s e key file (x ∷ older) (inl k) h = low_one s e key file x k h.0
was_low s e key file (x ∷ older) (inr k) h = was_low s e key file older k h.1

own_one : (s : ℕ) (e : EpochId) (key : ℕ) (file : FileId) (x : Told) (older : List Told) → ReservedAt s e key file x → FilesAreMadeAtHome (x ∷ older) → IsOwnNumber s file.ino
own_one s e key file (Reserves t at inst of) older k h = subst (λ (g : FileId). IsOwnNumber s g.ino) k.3 (subst (λ (n : ℕ). IsOwnNumber n of.ino) k.0 h.0)
own_one s e key file _ older k h = absurd k

was_own : (s : ℕ) (e : EpochId) (key : ℕ) (file : FileId) (past : List Told) → WasReserved past s e key file → FilesAreMadeAtHome past → IsOwnNumber s file.ino
was_own s e key file [] k h = absurd k
was_own s e key file (x ∷ older) (inl k) h = own_one s e key file x older k h
was_own s e key file (x ∷ older) (inr k) h = was_own s e key file older k h.1

begun_one : (s : ℕ) (e : EpochId) (key : ℕ) (file : FileId) (x : Told) (older : List Told) → ReservedAt s e key file x → ApartTold older x → WasBegunAt older s e key file
begun_one s e key file (Reserves t at inst of) older k h = subst (WasBegunAt older s e key) k.3 (subst (λ (n : ℕ). WasBegunAt older s e n of) k.2 (subst (λ (i : EpochId). WasBegunAt older s i (serial_key inst) of) k.1 (subst (λ (n : ℕ). WasBegunAt older n at (serial_key inst) of) k.0 h.0)))
begun_one s e key file _ older k h = absurd k

pub was_begun : (s : ℕ) (e : EpochId) (key : ℕ) (file : FileId) (past : List Told) → WasReserved past s e key file → ReservesAreApart past → WasBegunAt past s e key file
was_begun s e key file [] k h = absurd k
was_begun s e key file (x ∷ older) (inl k) h = inr (begun_one s e key file x older k h.0)
was_begun s e key file (x ∷ older) (inr k) h = inr (was_begun s e key file older k h.1)

-- the numbers of two sites differ
same_home : (s t ino : ℕ) → 1 ≤ s → 1 ≤ t → IsOwnNumber s ino → IsOwnNumber t ino → s ≡ t
same_home s t ino p q h g =
    let a : site_inodes * (s - 1) + 1 ≤ ino = h.low in
    let b : ino ≤ site_inodes * (s - 1) + site_inodes = h.high in
    let c : site_inodes * (t - 1) + 1 ≤ ino = g.low in
    let d : ino ≤ site_inodes * (t - 1) + site_inodes = g.high in
    omega (arith, p, q, a, b, c, d)

-- ---- what the store has of it ----

-- the instance, which is released where it isn't open
record StillHas (past : List Told) (e : EpochId) (store : Store) (key : ℕ) (file : FileId) : Type 0 where
  instance : Instance
  found : Among instance store.instances
  file_is : instance.file ≡ file
  mode_is : instance.mode ≡ mode.Make
  released : is_open instance.stage ≡ false → WasReleased past e key

stage_released : (past : List Told) (s : ℕ) (e : EpochId) (key : ℕ) (x : Stage) → locks.StageFact past s e key x → is_open x ≡ false → WasReleased past e key
stage_released past s e key stage.Running h q = absurd (true_false q)
stage_released past s e key (stage.Closing made a) h q = absurd (true_false q)
stage_released past s e key (stage.Closed a) h q = h.1

each_among : (is all : List Instance) → ((i : Instance) → Among i is → Among i all) → Every (λ (i : Instance). Among i all) is
each_among [] all f = tt
each_among (i ∷ is) all f = (f i (inl refl), each_among is all (λ j m. f j (inr m)))

every_both : (P Q : Instance → Type 0) (is : List Instance) → Every P is → Every Q is → Every (λ (i : Instance). P i × Q i) is
every_both P Q [] h g = tt
every_both P Q (i ∷ is) h g = ((h.0, g.0), every_both P Q is h.1 g.1)

none_instance : (i : Instance) → ◌≡◌ {A = Option Instance} None (Some i) → ⊥
none_instance i e = cc

some_instance : (a b : Instance) → Some a ≡ Some b → a ≡ b
some_instance a b e = cc

found_at : (P : Instance → Type 0) (key : ℕ) (o : Option Instance) (i : Instance) → o ≡ Some i → FoundAt P instance_key key o → (instance_key i ≡ key) × P i
found_at P key None i q h = absurd (none_instance i q)
found_at P key (Some x) i q h = subst (λ (y : Instance). (instance_key y ≡ key) × P y) (some_instance x i q) h

asks_so : (key : ℕ) (m : Mode) (file : FileId) (b : Body) → AsksIn key m file b → AsksSo key m b
asks_so key m file (body.OpenSs inst asked how set kind base vector parents) h = (h.0, h.1)
asks_so key m file _ h = absurd h

asked_there : (sent : List Numbered) (s : ℕ) (e : EpochId) (key : ℕ) (m : Mode) (file : FileId) → IsAsked sent s e key m file → IsAskedThere sent s e key m
asked_there sent s e key m file h = record { opening = h.opening; was_sent = h.was_sent; epoch_is = h.epoch_is; to_is = h.to_is; asks = asks_so key m file h.opening.packet.body h.asks }

abbrev Facts : List Numbered → List Told → ℕ → EpochId → List Instance → Instance → Type 0
Facts sent past s e all i = Among i all × (InstanceSo sent s e i × locks.InstanceFact past s e i)

still_has : (sent : List Numbered) (past : List Told) (s : ℕ) (e : EpochId) (store : Store) (key : ℕ) (file : FileId) → OneMode sent → IsAskedThere sent s e key mode.Make → Stands sent past s e store.instances → Every (locks.InstanceFact past s e) store.instances → HasOn store.instances key file → StillHas past e store key file
still_has sent past s e store key file modes asked stands fact on =
    let all : List Instance = store.instances in
    let each : Every (Facts sent past s e all) all = every_both (λ (i : Instance). Among i all) (λ (i : Instance). InstanceSo sent s e i × locks.InstanceFact past s e i) all (each_among all all (λ i m. m)) (every_both (InstanceSo sent s e) (locks.InstanceFact past s e) all stands.each fact) in
    let k : (instance_key on.0 ≡ key) × Facts sent past s e all on.0 = found_at (Facts sent past s e all) key (row instance_key key all) on.0 on.1 (row_at (Facts sent past s e all) instance_key key all each) in
    let so : InstanceSo sent s e on.0 = k.1.1.0 in
    let lock : locks.InstanceFact past s e on.0 = k.1.1.1 in
    record {
      instance = on.0;
      found = k.1.0;
      file_is = on.2;
      mode_is = modes s s e key on.0.mode mode.Make (subst (λ (n : ℕ). IsAskedThere sent s e n on.0.mode) k.0 (asked_there sent s e (serial_key on.0.inst) on.0.mode on.0.file so.asked)) asked;
      released = λ q. subst (WasReleased past e) k.0 (stage_released past s e (serial_key on.0.inst) on.0.stage lock.stage q);
    }

inside_of : (past : List Told) (s : ℕ) (v : SiteView) (e : InEpoch) (o : Option InEpoch) → o ≡ Some e → locks.InEpochFact past s v o → Every (locks.InstanceFact past s e.id) v.store.instances
inside_of past s v e None q h = absurd (none_epoch e q)
  where
    none_epoch : (x : InEpoch) → ◌≡◌ {A = Option InEpoch} None (Some x) → ⊥
    none_epoch x z = cc
inside_of past s v e (Some x) q h = subst (λ (i : InEpoch). Every (locks.InstanceFact past s i.id) v.store.instances) (same_in x e q) h.0
  where
    same_in : (a b : InEpoch) → Some a ≡ Some b → a ≡ b
    same_in a b z = cc

-- each earlier reserve of this site in its epoch has its instance in the store
abbrev Here : List Told → ℕ → EpochId → Store → Type 0
Here past s e store = (key : ℕ) (file : FileId) → WasReserved past s e key file → StillHas past e store key file

here_of : (c : Config) (w : World) (s : ℕ) (v : SiteView) (e : InEpoch) → place_at w s ≡ Some (Running v) → v.epoch ≡ Some e → WorldMade c w → Standing w → Known c w.sent (past_of w.trace) → WorldApart (past_of w.trace) → Here (past_of w.trace) s e.id v.store
here_of c w s v e here in_it made standing known a key file reserved =
    let past : List Told = past_of w.trace in
    let stands : Stands w.sent past s e.id v.store.instances = stores_stand w standing (known.once, known.changes) s v e here in_it in
    let lock : locks.WorldFact w = standing.0.0.1 in
    still_has w.sent past s e.id v.store key file known.modes (made.reserved s e.id key file reserved) stands (inside_of past s v e v.epoch in_it (lock.views s v here).inside) (stands.begun key file (was_begun s e.id key file past reserved a.apart))

-- ---- a number that the store doesn't use ----

cond_false : (a b : Bool) → cond a true b ≡ false → b ≡ false
cond_false true b h = absurd (true_false h)
cond_false false b h = h

any_none : (test : Instance → Bool) (i : Instance) (is : List Instance) → list_any test is ≡ false → Among i is → test i ≡ false
any_none test i [] h k = absurd k
any_none test i (x ∷ is) h (inl q) = subst (λ (y : Instance). test y ≡ false) (sym q) (or_neither (test x) (list_any test is) h).0
any_none test i (x ∷ is) h (inr k) = any_none test i is (or_neither (test x) (list_any test is) h).1 k

making_open : (group ino : ℕ) (i : Instance) → i.mode ≡ mode.Make → is_making group ino i ≡ ((is_open i.stage && (i.file.group == group)) && ((i.file.ino == ino) && true))
making_open group ino i e = rw e refl

all_true : (b c : Bool) → b ≡ true → c ≡ true → ((true && b) && (c && true)) ≡ true
all_true b c p q = rw p rw q refl

none_of : (a b c : Bool) → b ≡ true → c ≡ true → ((a && b) && (c && true)) ≡ false → a ≡ false
none_of false b c p q h = refl
none_of true b c p q h = absurd (true_false (sym (all_true b c p q) ∙ h))

not_making : (group ino : ℕ) (i : Instance) → i.file ≡ record { group = group; ino = ino } → i.mode ≡ mode.Make → is_making group ino i ≡ false → is_open i.stage ≡ false
not_making group ino i file made h = none_of (is_open i.stage) (i.file.group == group) (i.file.ino == ino) (subst (λ (f : FileId). (f.group == group) ≡ true) (sym file) (equal_self group)) (subst (λ (f : FileId). (f.ino == ino) ≡ true) (sym file) (equal_self ino)) (sym (making_open group ino i made) ∙ h)

unused_released : (past : List Told) (e : EpochId) (store : Store) (key group ino : ℕ) → is_used store group ino ≡ false → StillHas past e store key (record { group = group; ino = ino }) → WasReleased past e key
unused_released past e store key group ino unused h =
    let none : list_any (is_making group ino) store.instances ≡ false = cond_false (list_any (is_held group ino) store.copies) (list_any (is_making group ino) store.instances) unused in
    h.released (not_making group ino h.instance h.file_is h.mode_is (any_none (is_making group ino) h.instance store.instances none h.found))

-- ---- what an event tells ----

abbrev AllApart : List Told → List Told → Type 0
AllApart past [] = Unit {0}
AllApart past (x ∷ xs) = ApartTold past x × AllApart (x ∷ past) xs

all_apart : (told past : List Told) → AllApart past told → ReservesAreApart past → ReservesAreApart (onto told past)
all_apart [] past h g = g
all_apart (x ∷ xs) past h g = all_apart xs (x ∷ past) h.1 (h.0, g)

all_low : (told past : List Told) → Every LowTold told → Every LowTold past → Every LowTold (onto told past)
all_low [] past h g = g
all_low (x ∷ xs) past h g = all_low xs (x ∷ past) h.1 (h.0, g)

plain_apart : (past : List Told) (x : Told) → Plain x → ApartTold past x
plain_apart past (Reserves s e inst file) h = absurd h
plain_apart past _ h = tt

plain_low : (x : Told) → Plain x → LowTold x
plain_low (Reserves s e inst file) h = absurd h
plain_low _ h = tt

record News (past told : List Told) : Type 0 where
  apart : AllApart past told
  low : Every LowTold told

plains : (told past : List Told) → Every Plain told → News past told
plains [] past h = record { apart = tt; low = tt }
plains (x ∷ xs) past h = let k : News (x ∷ past) xs = plains xs (x ∷ past) h.1 in record { apart = (plain_apart past x h.0, k.apart); low = (plain_low x h.0, k.low) }

opened_apart : (c : Config) (f : Frame) (r : StoreRequest) (store : Store) (told after past : List Told) → 1 ≤ f.me → Every Plain after → Lawful c (onto (told ++ after) past) → WorldApart past → Here past f.me f.epoch store → OpenTold f r store told → News past (told ++ after)
opened_apart c f r store told after past low h law a here (inl o) = subst (λ (xs : List Told). News past (xs ++ after)) (sym o) (plains after past h)
opened_apart c f r store told after past low h law a here (inr (inl o)) =
    let k : News (Begins f.me f.epoch r.inst r.file ∷ past) after = plains after (Begins f.me f.epoch r.inst r.file ∷ past) h in
    subst (λ (xs : List Told). News past (xs ++ after)) (sym o.told_is) (record { apart = (tt, k.apart); low = (tt, k.low) })
opened_apart c f r store told after past low h law a here (inr (inr o)) =
    let k : News (y ∷ x ∷ past) after = plains after (y ∷ x ∷ past) h in
    subst (λ (xs : List Told). News past (xs ++ after)) (sym o.told_is) (record { apart = (tt, ((inl (refl, refl, refl, refl), others), k.apart)); low = (tt, (low, k.low)) })
  where
    file : FileId
    file = made_file r o.ino

    x : Told
    x = Begins f.me f.epoch r.inst file

    y : Told
    y = Reserves f.me f.epoch r.inst file

    there : Lawful c (y ∷ x ∷ past)
    there = lawful_before c after (y ∷ x ∷ past) (subst (λ (xs : List Told). Lawful c (onto (xs ++ after) past)) o.told_is law)

    others : (t key : ℕ) → WasReserved (x ∷ past) t f.epoch key file → WasReleased (x ∷ past) f.epoch key
    others t key (inl k) = absurd k
    others t key (inr k) =
        let same : t ≡ f.me = same_home t f.me file.ino (was_low t f.epoch key file past k a.low) low (was_own t f.epoch key file past k there.made.1.1) there.made.0 in
        inr (unused_released past f.epoch store key r.file.group o.ino o.unused (here key file (subst (λ (n : ℕ). WasReserved past n f.epoch key file) same k)))

event_apart : (c : Config) (w : World) (s : ℕ) (v : SiteView) (e : Event) (told : List Told) → place_at w s ≡ Some (Running v) → WorldMade c w → Standing w → Lawful c (onto told (past_of w.trace)) → Known c w.sent (past_of w.trace) → WorldApart (past_of w.trace) → ToldAs AnyGroup c s v e told → News (past_of w.trace) told
event_apart c w s v e told here made standing law known a (inl h) = plains told (past_of w.trace) h
event_apart c w s v e told here made standing law known a (inr o) =
    let f : Frame = frame_in c s v.boot o.epoch in
    subst (News (past_of w.trace)) (sym o.told_is) (opened_apart c f o.asked v.store (on_open_ss f o.asked v.store).told o.after (past_of w.trace) (made.low s (Running v) here) o.plain (subst (λ (xs : List Told). Lawful c (onto xs (past_of w.trace))) o.told_is law) a (here_of c w s v o.epoch here o.here made standing known a) (open_told f o.asked v.store))

-- ---- one event ----

abbrev Owes : Config → World → List Told → Type 0
Owes c w told = Lawful c (onto told (past_of w.trace)) → Known c w.sent (past_of w.trace) → WorldApart (past_of w.trace) → News (past_of w.trace) told

happened_apart : (c : Config) (n : ℕ) (ps : List Packet) (told : List Told) (change : World → World) (w : World) → (change w).sent ≡ w.sent → Owes c w told → Apart c w → Apart c (happened n ps told change w)
happened_apart c n ps told change w sent owed g =
    happened_keeps (Apart c) n ps told change w g
    (λ l h. (let f : WorldApart (past_of w.trace) = g (record { law = h.law; once = h.once; changes = h.changes; modes = h.modes }) in record { apart = f.apart; low = f.low }))
    (λ k b t h. (let now : Known c (newest_onto new w.sent) (onto told past) = subst (Known c (newest_onto new w.sent)) same (subst (λ (xs : List Numbered). Known c (newest_onto new xs) (past_of (told_onto n told w.trace))) sent h) in
    let before : Known c w.sent past = known_before c w.sent (newest_onto new w.sent) (newest_leads new w.sent) told past now in
    let f : WorldApart past = g before in
    let o : News past told = owed now.law before f in
    record { apart = subst ReservesAreApart (sym same) (all_apart told past o.apart f.apart); low = subst (Every LowTold) (sym same) (all_low told past o.low f.low) }))
  where
    past : List Told
    past = past_of w.trace

    new : List Numbered
    new = numbered_from (w.packets + 1) ps

    same : past_of (told_onto n told w.trace) ≡ onto told past
    same = past_onto n told w.trace

plain_event : (c : Config) (n : ℕ) (told : List Told) (change : World → World) (w : World) → (change w).sent ≡ w.sent → Every Plain told → Apart c w → Apart c (happened n [] told change w)
plain_event c n told change w sent h g = happened_apart c n [] told change w sent (λ law known f. plains told (past_of w.trace) h) g

acts_apart : (c : Config) (n s : ℕ) (v : SiteView) (o : Outcome SiteView) (w : World) → Owes c w o.told → Apart c w → Apart c (acts n s v o w)
acts_apart c n s v o w owed g =
    acts_cases (Apart c) n s v o w
    (happened_apart c n o.sent o.told (λ now. puts s (Running o.view) now) w refl owed g)
    (λ a. happened_apart c n o.sent o.told (λ now. puts s (Running o.view) (arms a now)) w refl owed g)
    (λ d a q. plain_event c n _ (stops_with s (cut_disk v.boot v.store d a.how a.left)) w refl (cut_plain (is_on_disk v.store d a.how a.left) d.says (Shown (says.Stopped s (cause_of a.how))) tt) g)

as_apart : (c : Config) (n s : ℕ) (b : Booted) (w : World) → Apart c w → Apart c (boots_as n s b w)
as_apart c n s (Whole x None) w g = plain_event c n (Shown (says.Up s x.label.boot) ∷ []) _ w refl (tt, tt) g
as_apart c n s (Whole x (Some a)) w g = plain_event c n (Shown (says.Up s x.label.boot) ∷ []) _ w refl (tt, tt) g
as_apart c n s (CutOff x how) w g = plain_event c n (Shown (says.Stopped s (cause_of how)) ∷ []) (stops_with s x) w refl (tt, tt) g

-- ---- every event and change ----

abbrev All : Config → World → Type 0
All c w = (WorldMade c w × Standing w) × Apart c w

alike : (c : Config) (w u : World) → u.trace ≡ w.trace → u.sent ≡ w.sent → Apart c w → Apart c u
alike c w u e sent g h = subst (λ (xs : List _). WorldApart (past_of xs)) (sym e) (g (subst (λ (xs : List Numbered). Known c xs (past_of w.trace)) sent (subst (λ (xs : List _). Known c u.sent (past_of xs)) e h)))

apart_kept : (c : Config) → Kept c (All c)
apart_kept c = record {
  steps = λ n s e v w here own g. ((made.steps n s e v w here own g.0.0, stands.steps n s e v w here own g.0.1), acts_apart c n s v (step c s (links_of w s) v e) w (λ law known f. event_apart c w s v e (step c s (links_of w s) v e).told here g.0.0 g.0.1 law known f (step_plain c s (links_of w s) v e)) g.1);
  receives = λ n x v w here sent g. ((made.receives n x v w here sent g.0.0, stands.receives n x v w here sent g.0.1), received n x v w here g);
  passes = λ k w g. ((made.passes k w g.0.0, stands.passes k w g.0.1), alike c w (passed k w) refl refl g.1);
  drops = λ k w g. ((made.drops k w g.0.0, stands.drops k w g.0.1), alike c w (loses k w) refl refl g.1);
  recuts = λ xs w g. ((made.recuts xs w g.0.0, stands.recuts xs w g.0.1), alike c w (with_circuits xs w) refl refl g.1);
  arming = λ a w g. ((made.arming a w g.0.0, stands.arming a w g.0.1), alike c w (arms a w) refl refl g.1);
  voiding = λ n w g. ((made.voiding n w g.0.0, stands.voiding n w g.0.1), plain_event c n (Shown says.Void ∷ []) (λ now. now) w refl (tt, tt) g.1);
  budgets = λ n w g. ((made.budgets n w g.0.0, stands.budgets n w g.0.1), plain_event c n (Shown says.Budget ∷ []) (λ now. now) w refl (tt, tt) g.1);
  pending = λ n w g. ((made.pending n w g.0.0, stands.pending n w g.0.1), plain_event c n (map packet_record w.underway) (λ now. now) w refl (every_map Plain packet_record w.underway (λ x. tt)) g.1);
  stopping = λ n s v w here g. ((made.stopping n s v w here g.0.0, stands.stopping n s v w here g.0.1), plain_event c n (Shown (says.Stopped s cause.Asked) ∷ []) (stops_with s (disk_of v)) w refl (tt, tt) g.1);
  booting = λ n s d w here g. ((made.booting n s d w here g.0.0, stands.booting n s d w here g.0.1), as_apart c n s (boots (script_of w s) d) w g.1);
}
  where
    made : Kept c (WorldMade c)
    made = made_kept c

    stands : Kept c Standing
    stands = standing_kept c

    received : (n : ℕ) (x : Numbered) (v : SiteView) (w : World) → place_at w x.packet.to ≡ Some (Running v) → All c w → Apart c (acts n x.packet.to v (step c x.packet.to (links_of (passed x.number w) x.packet.to) v (Receives x.packet)) (passed x.number w))
    received n x v w here g =
        let o : Outcome SiteView = step c x.packet.to (links_of (passed x.number w) x.packet.to) v (Receives x.packet) in
        acts_apart c n x.packet.to v (step c x.packet.to (links_of (passed x.number w) x.packet.to) v (Receives x.packet)) (passed x.number w)
        (λ law known f. event_apart c w x.packet.to v (Receives x.packet) o.told here g.0.0 g.0.1 law known f (step_plain c x.packet.to (links_of (passed x.number w) x.packet.to) v (Receives x.packet)))
        (alike c w (passed x.number w) refl refl g.1)

-- ---- the law ----

first_apart : (c : Config) → All c (first_world c)
first_apart c = ((first_made c, first_standing c), (λ h. record { apart = tt; low = tt }))

run_known : (c : Config) (lines : List ScheduleLine) → Known c (run_in c lines).sent (past_of (run_in c lines).trace)
run_known c lines = let o : Orderly (run_in c lines) = run_orderly c lines in record { law = run_lawful c lines; once = o.0; changes = o.1; modes = run_one_mode c lines }

pub run_apart : (c : Config) (lines : List ScheduleLine) → ReservesAreApart (past_of (run_in c lines).trace)
run_apart c lines =
    let g : All c (run_in c lines) = every_run c (All c) (apart_kept c) (first_apart c) lines in
    let f : WorldApart (past_of (run_in c lines).trace) = g.1 (run_known c lines) in
    f.apart
