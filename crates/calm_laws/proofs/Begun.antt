-- A storage site has the instance that a call asks it to work on or to close: it has begun it.
use Rattle.std.proofs.Common.{◌≡◌, ℕ, zero, suc, ◌≤◌, ◌⊎◌, Bool, true, false, cond, ◌&&◌, List, [], ◌∷◌, filter, Option, Some, refl, sym, ◌∙◌, ap, subst, inl, inr, arith}
use Rattle.std.proofs.lemmas.Bool.Decides.{nat_tests}
use Rattle.role_steps.proofs.of_plain_facts.Tests.{and_true, true_false}
use Rattle.locus_ids.specs.Sites.{has}
use Rattle.locus_ids.specs.declared.config.Config.{Config}
use Rattle.locus_ids.specs.declared.ids.CallId.{CallId}
use Rattle.locus_ids.specs.declared.ids.EpochId.{EpochId}
use Rattle.locus_ids.specs.declared.ids.FileId.{FileId}
use Rattle.locus_ids.specs.declared.ids.Mode.{Mode}
use Rattle.locus_ids.specs.declared.ids.Mode.TheVariants as mode
use Rattle.locus_ids.specs.declared.ids.Serial.{Serial}
use Rattle.locus_ids.specs.declared.ids.Stamp.{Stamp}
use Rattle.locus_ids.specs.Sizes.{sites_max}
use Rattle.schedule_lines.specs.declared.line.ScheduleLine.{ScheduleLine}
use Rattle.trace_book.specs.declared.record.Record.{Record}
use Rattle.trace_book.specs.declared.record.Record.TheVariants as says
use Rattle.role_steps.specs.Views.{Told, Shown, Begins, all_sites, first_site, is_member, pack_sites, serial_key, sync_site}
use Rattle.role_steps.specs.declared.rounds.InEpoch.{InEpoch}
use Rattle.the_run.specs.Kept.{Among}
use Rattle.the_run.specs.Worlds.{World, Line}
use Rattle.site_laws.specs.Vectors.Written.{WasTold, past_of}
use Rattle.site_laws.specs.Packs.Packs.{ToldPacked}
use Rattle.site_laws.specs.Locks.Going.{BegunAt, WasBegunAt}
use Rattle.site_laws.specs.Locks.Asked.{IsBegun, WhatIsAskedIsBegun}
use Rattle.site_laws.specs.Locks.Facts.{GrantedAt}
use Rattle.site_laws.proofs.Locks.Asked.{asked_begun}
use Rattle.site_laws.proofs.Locks.FactsRun.{Both, both_kept, first_world_fact}
use Rattle.run_laws.proofs.Run.{first_good}
use Rattle.tree_laws.specs.Following.{IsFollowed, MakesInTime, MayTell}
use Rattle.tree_laws.specs.Past.{BeginsIt, GrantRecord, Printed, WasBegun, WasGranted, WasNamed}
use Rattle.tree_laws.proofs.Making.{IsAskedAt, begun_asked}
use Rattle.store_laws.specs.Rests.{IsAsGranted}
use Rattle.store_laws.proofs.Begun.{granted_named}
use Rattle.store_laws.proofs.Numbers.{serial_key_eq}
use Rattle.store_laws.proofs.Places.{plain_place}
use Rattle.rest_laws.proofs.StoreStepNamed.{named_low}
use Rattle.rest_laws.proofs.StoreStepResting.{store_rests}
use Rattle.store_laws.specs.OneTree.Rest.{EachRest, Past}
use Rattle.row_laws.proofs.Orderly.Choosing.{among_sites}
use Rattle.calm_laws.specs.Carrying.{IsMember, own_serial}
use Rattle.calm_laws.specs.Rounds.{IsInRound}
use Rattle.calm_laws.proofs.Rounds.{in_round}

-- in each world of a round
pub round_begun : (c : Config) (lines : List ScheduleLine) (n : ℕ) (w : World) → IsInRound c lines n w → WhatIsAskedIsBegun w
round_begun c lines n w h = asked_begun w (in_round c Both (both_kept c) (first_good c, first_world_fact c) lines n w h).1

-- ---- by keys, and by serial numbers ----

record Granted (trace : List Line) (e : EpochId) (key ss : ℕ) : Type 0 where
  call : CallId
  request : ℕ
  inst : Serial
  key_is : serial_key inst ≡ key
  how : Mode
  file : FileId
  stamp : Option Stamp
  was : WasGranted trace e call request inst how file stamp ss

granted_of : (trace : List Line) (e : EpochId) (key ss : ℕ) → WasTold (GrantedAt e key ss) (past_of trace) → Granted trace e key ss
granted_of [] e key ss h = absurd h
granted_of (x ∷ older) e key ss (inr h) = (let g : Granted older e key ss = granted_of older e key ss h in record { call = g.call; request = g.request; inst = g.inst; key_is = g.key_is; how = g.how; file = g.file; stamp = g.stamp; was = inr g.was })
granted_of (x ∷ older) e key ss (inl h) = over x.told h
  where
    of : (r : Record) → GrantedAt e key ss (Shown r) → Granted (record { number = x.number; told = Shown r } ∷ older) e key ss
    of (says.Grant at call request inst how file stamp place) k = record { call = call; request = request; inst = inst; key_is = k.1; how = how; file = file; stamp = stamp; was = inl (record { epoch_is = k.0; call_is = refl; request_is = refl; serial_is = refl; mode_is = refl; file_is = refl; stamp_is = refl; place_is = k.2 }) }
    of r k = absurd k

    over : (z : Told) → GrantedAt e key ss z → Granted (record { number = x.number; told = z } ∷ older) e key ss
    over (Shown r) k = of r k
    over z k = absurd k

pub record Begun (trace : List Line) (e : EpochId) (key at : ℕ) (file : FileId) : Type 0 where
  pub inst : Serial
  pub key_is : serial_key inst ≡ key
  pub was : WasBegun trace at e inst file

pub begun_of : (trace : List Line) (e : EpochId) (key at : ℕ) (file : FileId) → WasBegunAt (past_of trace) at e key file → Begun trace e key at file
begun_of [] e key at file h = absurd h
begun_of (x ∷ older) e key at file (inr h) = (let g : Begun older e key at file = begun_of older e key at file h in record { inst = g.inst; key_is = g.key_is; was = inr g.was })
begun_of (x ∷ older) e key at file (inl h) = over x.told h
  where
    over : (z : Told) → BegunAt at e key file z → Begun (record { number = x.number; told = z } ∷ older) e key at file
    over (Begins site epoch inst of) k = record { inst = inst; key_is = k.2; was = inl (record { site_is = k.0; epoch_is = k.1; serial_is = refl; file_is = k.3 }) }
    over z k = absurd k

-- who begins an instance begins one of a site 1 to 16
pub begun_low : (c : Config) (trace : List Line) → Past c trace → (s : ℕ) (e : EpochId) (i : Serial) (f : FileId) → WasBegun trace s e i f → i.us ≤ sites_max
begun_low c trace past s e i f b = over (begun_asked c trace past.followed e s i f b)
  where
    over : WasNamed trace e i ⊎ IsAskedAt c trace e s i f → i.us ≤ sites_max
    over (inl named) = named_low c trace past.followed past.rest.each e i named
    over (inr k) = subst (λ (n : ℕ). n ≤ sites_max) (sym k.user_is) ((store_rests c trace past).sites e k.call k.asks.inside)

-- a make is begun where its grant says
make_begun : (c : Config) (trace : List Line) → IsFollowed c trace → (e : EpochId) (d : CallId) (request : ℕ) (i : Serial) (f : FileId) (stamp : Option Stamp) (ss : ℕ) → WasGranted trace e d request i mode.Make f stamp ss → WasBegun trace ss e i f
make_begun c [] h e d request i f stamp ss k = absurd k
make_begun c (x ∷ older) h e d request i f stamp ss (inr k) = inr (make_begun c older h.1 e d request i f stamp ss k)
make_begun c (x ∷ older) h e d request i f stamp ss (inl k) = inr (over x.told h.0 k)
  where
    of : (r : Record) → MayTell c older (Shown r) → GrantRecord e d request i mode.Make f stamp ss older r → WasBegun older ss e i f
    of (says.Grant at call number inst how file on place) may p =
        subst (λ (z : EpochId). WasBegun older ss z i f) p.epoch_is (subst (λ (z : Serial). WasBegun older ss at z f) p.serial_is (subst (λ (z : FileId). WasBegun older ss at inst z) p.file_is (subst (λ (z : ℕ). WasBegun older z at inst file) p.place_is
        (subst (MakesInTime older at inst file place) p.mode_is may.in_time.makes))))
    of r may p = absurd p

    over : (z : Told) → MayTell c older z → Printed (GrantRecord e d request i mode.Make f stamp ss) older z → WasBegun older ss e i f
    over (Shown r) may p = of r may p
    over z may p = absurd p

-- ---- the storage site that is asked has begun it ----

pub asked_here : (c : Config) (trace : List Line) → Past c trace → (e : EpochId) (us serial ss : ℕ) → us ≤ sites_max → IsBegun trace e us serial ss → (f : FileId) × WasBegun trace ss e (own_serial us serial) f
asked_here c trace past e us serial ss low h = over ((store_rests c trace past).granted e g.call g.request i g.how g.file g.stamp ss was)
  where
    i : Serial
    i = own_serial us serial

    g : Granted trace e (serial_key i) ss
    g = granted_of trace e (serial_key i) ss h.granted

    same : g.inst ≡ i
    same = serial_key_eq g.inst i (named_low c trace past.followed past.rest.each e g.inst (granted_named trace e g.call g.request g.inst g.how g.file g.stamp ss g.was)) low g.key_is

    was : WasGranted trace e g.call g.request i g.how g.file g.stamp ss
    was = subst (λ (j : Serial). WasGranted trace e g.call g.request j g.how g.file g.stamp ss) same g.was

    b : Begun trace e (serial_key i) h.at h.file
    b = begun_of trace e (serial_key i) h.at h.file h.begun

    begun : WasBegun trace h.at e i h.file
    begun = subst (λ (j : Serial). WasBegun trace h.at e j h.file) (serial_key_eq b.inst i (begun_low c trace past h.at e b.inst h.file b.was) low b.key_is) b.was

    by_mode : (m : Mode) → WasGranted trace e g.call g.request i m g.file g.stamp ss → (f : FileId) × WasBegun trace ss e i f
    by_mode mode.Make k = (g.file, make_begun c trace past.followed e g.call g.request i g.file g.stamp ss k)
    by_mode mode.Read k = (h.file, subst (λ (s : ℕ). WasBegun trace s e i h.file) (plain_place c trace past.followed e g.call g.request i mode.Read g.file h.file g.stamp ss h.at read k begun) begun)
      where
        read : mode.Read ≡ mode.Make → ⊥
        read q = cc
    by_mode mode.Write k = (h.file, subst (λ (s : ℕ). WasBegun trace s e i h.file) (plain_place c trace past.followed e g.call g.request i mode.Write g.file h.file g.stamp ss h.at write k begun) begun)
      where
        write : mode.Write ≡ mode.Make → ⊥
        write q = cc
    by_mode mode.Resolve k = (h.file, subst (λ (s : ℕ). WasBegun trace s e i h.file) (plain_place c trace past.followed e g.call g.request i mode.Resolve g.file h.file g.stamp ss h.at resolve k begun) begun)
      where
        resolve : mode.Resolve ≡ mode.Make → ⊥
        resolve q = cc
    by_mode mode.Mend k = (h.file, subst (λ (s : ℕ). WasBegun trace s e i h.file) (plain_place c trace past.followed e g.call g.request i mode.Mend g.file h.file g.stamp ss h.at mend k begun) begun)
      where
        mend : mode.Mend ≡ mode.Make → ⊥
        mend q = cc

    over : WasBegun trace ss e i g.file ⊎ IsAsGranted c trace e i g.how g.file g.stamp ss → (f : FileId) × WasBegun trace ss e i f
    over (inl k) = (g.file, k)
    over (inr k) = by_mode g.how was

-- ---- where something is begun a pack is, and so the group has a synchronization site ----

pub begun_packed : (c : Config) (trace : List Line) → EachRest c trace → (s : ℕ) (e : EpochId) (i : Serial) (f : FileId) → WasBegun trace s e i f → has (pack_sites c f.group) s ≡ true
begun_packed c [] h s e i f b = absurd b
begun_packed c (x ∷ older) h s e i f (inr b) = begun_packed c older h.1 s e i f b
begun_packed c (x ∷ older) h s e i f (inl b) = over x.told h.0.packed b
  where
    over : (z : Told) → ToldPacked c z → BeginsIt s e i f older z → has (pack_sites c f.group) s ≡ true
    over (Begins site at inst file) p k = subst (λ (g : FileId). has (pack_sites c g.group) s ≡ true) k.file_is (subst (λ (n : ℕ). has (pack_sites c file.group) n ≡ true) k.site_is p)
    over z p k = absurd k

first_there : (test : ℕ → Bool) (xs : List ℕ) (s : ℕ) → Among s xs → test s ≡ true → (t : ℕ) × (first_site (filter test xs) ≡ Some t)
first_there test [] s a k = absurd a
first_there test (x ∷ xs) s a k = over (test x) refl (λ b. first_there test xs s b k) a
  where
    over : (b : Bool) → test x ≡ b → (Among s xs → (t : ℕ) × (first_site (filter test xs) ≡ Some t)) → Among s (x ∷ xs) → (t : ℕ) × (first_site (cond b (x ∷ filter test xs) (filter test xs)) ≡ Some t)
    over true e later h = (x, refl)
    over false e later (inl same) = absurd (true_false (sym k ∙ (ap test same ∙ e)))
    over false e later (inr h) = later h

member_test : (e : InEpoch) (s : ℕ) → IsMember e s → is_member e.members s ≡ true
member_test e s h = grind (arith, nat_tests)

low_member : (e : InEpoch) (s : ℕ) → IsMember e s → 1 ≤ s
low_member e zero m = absurd (m refl)
low_member e (suc s) m = omega arith

-- a member with a pack of the group: so some member synchronizes it
pub sync_there : (c : Config) (e : InEpoch) (group s : ℕ) → IsMember e s → s ≤ sites_max → has (pack_sites c group) s ≡ true → (css : ℕ) × (sync_site c e.members group ≡ Some css)
sync_there c e group s member low packed = first_there (λ t. has (pack_sites c group) t && is_member e.members t) all_sites s (among_sites s (low_member e s member) low) (and_true (has (pack_sites c group) s) (is_member e.members s) packed (member_test e s member))
