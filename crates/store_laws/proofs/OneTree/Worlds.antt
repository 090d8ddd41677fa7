-- The world after an event: each site has its fact, and each packet.
use Rattle.std.proofs.Common.{◌≡◌, ℕ, ◌+◌, ◌==◌, Bool, true, false, cond, not, ◌&&◌, ◌||◌, List, [], ◌∷◌, length, filter, Option, Some, None, refl, sym, ◌∙◌, ap, subst, inl, inr}
use Rattle.role_steps.proofs.of_plain_facts.Numbers.{equal_self}
use Rattle.role_steps.proofs.of_plain_facts.Options.{none_some, some_same}
use Rattle.role_steps.proofs.of_plain_facts.Tests.{true_false}
use Rattle.locus_ids.specs.declared.config.Config.{Config}
use Rattle.trace_book.specs.declared.record.Record.{Record}
use Rattle.trace_book.specs.declared.record.Record.TheVariants as says
use Rattle.trace_book.specs.declared.record.StopCause.{StopCause}
use Rattle.trace_book.specs.declared.record.StopCause.TheVariants as cause
use Rattle.wire_messages.specs.declared.packet.Packet.{Packet}
use Rattle.role_steps.specs.Own.{Every}
use Rattle.role_steps.specs.Storage.{copy_key, with_version}
use Rattle.role_steps.specs.Tables.{with_row}
use Rattle.role_steps.specs.Views.{Store, SiteView, Told, Shown, DiskWrite, Outcome}
use Rattle.role_steps.specs.declared.copies.FileCopy.{FileCopy}
use Rattle.role_steps.specs.declared.rounds.InEpoch.{InEpoch}
use Rattle.role_steps.proofs.Sending.{every_append}
use Rattle.the_run.specs.Disks.{Disk, Armed, Booted, Whole, CutOff, cut_disk, is_on_disk}
use Rattle.the_run.specs.Worlds.{World, Place, Running, Stopped, Numbered, Line, place_at, told_onto, numbered_from, with_numbered, happened, puts, arms, stops_with, disk_of, cause_of, cut_told, cut_event, runs_on, acts, fresh, no_epoch}
use Rattle.the_run.specs.Runs.{asked_stop, rearms, boots_as}
use Rattle.the_run.proofs.Boots.{at_each, acts_cases, every_newest, every_numbered, every_weaker}
use Rattle.the_run.proofs.Events.{happened_keeps, puts_other, puts_same}
use Rattle.site_laws.proofs.Vectors.Held.{KeepsCopies}
use Rattle.tree_model.specs.declared.accepted.Waiting.{Waiting}
use Rattle.tree_model.specs.Calls.{waiting}
use Rattle.tree_model.specs.Epochs.{epoch_of, is_up}
use Rattle.tree_laws.specs.of_lawful_trace.Tables.{descriptor}
use Rattle.tree_laws.specs.Doing.{AllTold, IsAdopted, IsWriteOf, WriteFact}
use Rattle.tree_laws.specs.Following.{MayTell}
use Rattle.tree_laws.specs.Packets.{PacketFact}
use Rattle.tree_laws.specs.Printed.{entries}
use Rattle.tree_laws.specs.Stores.{CopiesAreHeld}
use Rattle.tree_laws.specs.Users.{had}
use Rattle.store_laws.specs.OneTree.Places.{AllOf, IsOf, IsIdle, SiteFact, SiteIn, SiteFine, StoppedFact, PlaceFact, NumberedFact, WorldFact}
use Rattle.store_laws.specs.OneTree.Rest.{RestTold, IsRest, AllRest, Past, Comes, more}
use Rattle.store_laws.specs.OneTree.Roles.{RolesDo}
use Rattle.store_laws.specs.OneTree.Wants.{AskedFact, IsAsked, IsTidy, WantsAt}
use Rattle.store_laws.proofs.OneTree.Frames.{booted_users, copies_frame}
use Rattle.store_laws.proofs.OneTree.Staying.{Stays}
use Rattle.store_laws.proofs.OneTree.Composing.{past_more, past_onto, packet_onto, rest_before, rest_told}
use Rattle.store_laws.proofs.OneTree.Cuts.{WritesSo}
use Rattle.store_laws.proofs.OneTree.Foreign.{Apart, place_apart, place_over}
use Rattle.store_laws.proofs.OneTree.Framing.{every_at, stay_over}
use Rattle.store_laws.proofs.OneTree.Parts.{copies_bare}
use Rattle.store_laws.proofs.OneTree.WantsParts.{differ_onto}
use Rattle.store_laws.proofs.OneTree.WantsWorlds.{NumberedAsked, Wanted, WantsStay, alike_stay, all_later, came_later, new_asked, nobody_stays, outcome_tidy, placed_stays, running_view}

-- where other laws give the rest, the world is as it may be
abbrev pub Holds : Config → World → Type 0
Holds c w = IsRest c w.trace → WorldFact c w

-- ---- one event of the world ----

-- what an event gives: what is told comes as it may, and packets and places are as they may be after it
pub record Gives (c : Config) (n : ℕ) (told : List Told) (ps : List Packet) (change : World → World) (w : World) : Type 0 where
  pub told_so : AllTold c n w.trace told
  pub sent : Every (PacketFact c (told_onto n told w.trace)) ps
  pub places : (s : ℕ) (p : Place) → place_at (change w) s ≡ Some p → PlaceFact c s (told_onto n told w.trace) p
  pub wants : WantsStay c (place_at w) w.trace (place_at (change w)) (told_onto n told w.trace)
  pub asked : Every (IsAsked c (place_at (change w)) (told_onto n told w.trace)) ps
  pub tidy : (s : ℕ) (v : SiteView) → place_at (change w) s ≡ Some (Running v) → IsTidy v

numbered_over : (c : Config) → Stays c → (n : ℕ) (told : List Told) (trace : List Line) → Past c trace → AllTold c n trace told → AllRest c n trace told → (xs : List Numbered) → Every (NumberedFact c trace) xs → Every (NumberedFact c (told_onto n told trace)) xs
numbered_over c stays n told trace h k fresh xs facts = every_weaker (NumberedFact c trace) (NumberedFact c (told_onto n told trace)) xs (λ x. packet_onto c n told trace stays h k fresh x.packet) facts

pub happened_holds : (c : Config) → Stays c → (n : ℕ) (ps : List Packet) (told : List Told) (change : World → World) (w : World) → (change w).sent ≡ w.sent → (change w).underway ≡ w.underway →
    (Past c w.trace → AllRest c n w.trace told → WorldFact c w → Gives c n told ps change w) → Holds c w → Holds c (happened n ps told change w)
happened_holds c stays n ps told change w same under gives g =
    happened_keeps (Holds c) n ps told change w g
    (λ l r. (let f : WorldFact c w = g r in record { followed = f.followed; places = f.places; sent = f.sent; underway = f.underway; asked = record { tidy = f.asked.tidy; sent = f.asked.sent; underway = f.asked.underway } }))
    (λ k b t r. (let f : WorldFact c w = g (rest_before c n told w.trace r) in let past : Past c w.trace = record { followed = f.followed; rest = rest_before c n told w.trace r } in after past f (gives past (rest_told c n told w.trace r) f) (rest_told c n told w.trace r) b t))
  where
    later : List Line
    later = told_onto n told w.trace

    asked_after : Past c w.trace → WorldFact c w → Gives c n told ps change w → AllRest c n w.trace told → (b t : ℕ) → AskedFact c (with_numbered (numbered_from (w.packets + 1) ps) later (w.packets + length ps) b t (change w))
    asked_after past f i rest b t = record {
      tidy = i.tidy;
      sent = every_newest (NumberedAsked c (place_at (change w)) later) (numbered_from (w.packets + 1) ps) (change w).sent (every_numbered (IsAsked c (place_at (change w)) later) (w.packets + 1) ps i.asked)
          (subst (λ (xs : List Numbered). Every (NumberedAsked c (place_at (change w)) later) xs) (sym same) (still w.sent f.sent f.asked.sent));
      underway = every_append (NumberedAsked c (place_at (change w)) later) (change w).underway (numbered_from (w.packets + 1) ps)
          (subst (λ (xs : List Numbered). Every (NumberedAsked c (place_at (change w)) later) xs) (sym under) (still w.underway f.underway f.asked.underway))
          (every_numbered (IsAsked c (place_at (change w)) later) (w.packets + 1) ps i.asked);
    }
      where
        still : (xs : List Numbered) → Every (NumberedFact c w.trace) xs → Every (NumberedAsked c (place_at w) w.trace) xs → Every (NumberedAsked c (place_at (change w)) later) xs
        still xs facts h = all_later c (place_at w) w.trace (place_at (change w)) later i.wants (differ_onto c n told w.trace past i.told_so rest) xs facts h

    after : Past c w.trace → WorldFact c w → Gives c n told ps change w → AllRest c n w.trace told → (b t : ℕ) → WorldFact c (with_numbered (numbered_from (w.packets + 1) ps) (told_onto n told w.trace) (w.packets + length ps) b t (change w))
    after past f i rest b t = record {
      followed = (past_onto c n told w.trace past i.told_so rest).followed;
      places = i.places;
      sent = every_newest (NumberedFact c (told_onto n told w.trace)) (numbered_from (w.packets + 1) ps) (change w).sent (every_numbered (PacketFact c (told_onto n told w.trace)) (w.packets + 1) ps i.sent)
          (subst (λ (xs : List Numbered). Every (NumberedFact c (told_onto n told w.trace)) xs) (sym same) (numbered_over c stays n told w.trace past i.told_so rest w.sent f.sent));
      underway = every_append (NumberedFact c (told_onto n told w.trace)) (change w).underway (numbered_from (w.packets + 1) ps)
          (subst (λ (xs : List Numbered). Every (NumberedFact c (told_onto n told w.trace)) xs) (sym under) (numbered_over c stays n told w.trace past i.told_so rest w.underway f.underway))
          (every_numbered (PacketFact c (told_onto n told w.trace)) (w.packets + 1) ps i.sent);
      asked = asked_after past f i rest b t;
    }

-- one site becomes this place, and the others stay
placed : (c : Config) → RolesDo c → (n s : ℕ) (new : Place) (told : List Told) (w : World) → Past c w.trace → AllTold c n w.trace told → AllRest c n w.trace told → AllOf c n w.trace s told → PlaceFact c s (told_onto n told w.trace) new → WorldFact c w →
    (t : ℕ) (p : Place) → place_at (puts s new w) t ≡ Some p → PlaceFact c t (told_onto n told w.trace) p
placed c roles n s new told w past k fresh own fact f t p here = at_each s t (PlaceFact c t (told_onto n told w.trace) p)
    (λ e. subst (λ (u : ℕ). PlaceFact c u (told_onto n told w.trace) p) e (subst (λ (q : Place). PlaceFact c s (told_onto n told w.trace) q) (some_same new p (sym (puts_same s new w) ∙ (ap (place_at (puts s new w)) e ∙ here))) fact))
    (λ ne. place_over c roles n s t p ne told w.trace past k fresh own (f.places t p (sym (puts_other s t new w ne) ∙ here)))

-- the wants of the other sites stay, where one is stopped
stopped_stays : (c : Config) (n s : ℕ) (d : Disk) (told : List Told) (w : World) → Past c w.trace → AllTold c n w.trace told → AllRest c n w.trace told → AllOf c n w.trace s told → WantsStay c (place_at w) w.trace (place_at (puts s (Stopped d) w)) (told_onto n told w.trace)
stopped_stays c n s d told w past may rest own = placed_stays c n s (Stopped d) told w past may rest own (λ v e. absurd (never v e))
  where
    never : (v : SiteView) → Stopped d ≡ Running v → ⊥
    never v e = cc

-- a site's pulls and looks are as they may be where they are so of the new place
tidy_placed : (c : Config) (s : ℕ) (new : Place) (w : World) → WorldFact c w → ((v : SiteView) → new ≡ Running v → IsTidy v) → (t : ℕ) (v : SiteView) → place_at (puts s new w) t ≡ Some (Running v) → IsTidy v
tidy_placed c s new w f at t v here = at_each s t (IsTidy v)
    (λ e. at v (some_same new (Running v) (sym (puts_same s new w) ∙ (ap (place_at (puts s new w)) e ∙ here))))
    (λ ne. f.asked.tidy t v (sym (puts_other s t new w ne) ∙ here))

tidy_stopped : (c : Config) (s : ℕ) (d : Disk) (w : World) → WorldFact c w → (t : ℕ) (v : SiteView) → place_at (puts s (Stopped d) w) t ≡ Some (Running v) → IsTidy v
tidy_stopped c s d w f t v here = tidy_placed c s (Stopped d) w f (λ u e. absurd (never u e)) t v here
  where
    never : (u : SiteView) → Stopped d ≡ Running u → ⊥
    never u e = cc

-- ---- an outcome of a site ----

runs_holds : (c : Config) → RolesDo c → Stays c → (n s : ℕ) (v : SiteView) (o : Outcome SiteView) (change : World → World) (w : World) → place_at w s ≡ Some (Running v) → (change w).sent ≡ w.sent → (change w).underway ≡ w.underway → ((t : ℕ) → place_at (puts s (Running o.view) (change w)) t ≡ place_at (puts s (Running o.view) w) t) →
    (Past c w.trace → AllRest c n w.trace o.told → WorldFact c w → SiteFine c n w.trace s (SiteFact c s) (WriteFact c n w.trace s v.store) o) →
    (Past c w.trace → AllRest c n w.trace o.told → WorldFact c w → Wanted c n s v o w) → Holds c w → Holds c (runs_on n s o change w)
runs_holds c roles stays n s v o change w here same under alike fine wanted g =
    happened_holds c stays n o.sent o.told (λ now. puts s (Running o.view) (change now)) w same under
    (λ old r f. (let k : SiteFine c n w.trace s (SiteFact c s) (WriteFact c n w.trace s v.store) o = fine old r f in record {
      told_so = k.told;
      sent = k.sent;
      places = λ t p e. placed c roles n s (Running o.view) o.told w old k.told r k.own k.view f t p (sym (alike t) ∙ e);
      wants = wants_still old r k (wanted old r f);
      asked = (let x : Wanted c n s v o w = wanted old r f in new_asked c after later s o.view (alike s ∙ puts_same s (Running o.view) w) x.came
          (came_later c (place_at w) w.trace after later (wants_still old r k x) (differ_onto c n o.told w.trace old k.told r) x.came x.asked) o.sent x.wants.asks);
      tidy = λ t u e. tidy_placed c s (Running o.view) w f (λ y q. subst IsTidy (running_view o.view y q) (outcome_tidy c n s v o w (wanted old r f) (f.asked.tidy s v here))) t u (sym (alike t) ∙ e);
    })) g
  where
    after : ℕ → Option Place
    after = place_at (puts s (Running o.view) (change w))

    later : List Line
    later = told_onto n o.told w.trace

    wants_still : Past c w.trace → AllRest c n w.trace o.told → SiteFine c n w.trace s (SiteFact c s) (WriteFact c n w.trace s v.store) o → Wanted c n s v o w → WantsStay c (place_at w) w.trace after later
    wants_still old r k x = alike_stay c (place_at w) w.trace (place_at (puts s (Running o.view) w)) after later alike (placed_stays c n s (Running o.view) o.told w old k.told r k.own
        (λ y q e f a b stands joined h. subst (λ (u : SiteView). WantsAt c later s u e f a b) (running_view o.view y q) (x.wants.stays e f a b stands joined (h v here))))

-- ---- stops ----

cond_own : {A : Type 0} (s : ℕ) (x y : A) → cond (s == s) x y ≡ x
cond_own s x y = over (s == s) (equal_self s)
  where
    over : (b : Bool) → b ≡ true → cond b x y ≡ x
    over true e = refl
    over false e = absurd (cc)

down_own : (s : ℕ) (y : Bool) → (not (s == s) && y) ≡ false
down_own s y = over (s == s) (equal_self s)
  where
    over : (b : Bool) → b ≡ true → (not b && y) ≡ false
    over true e = refl
    over false e = absurd (cc)

up_own : (s : ℕ) (y : Bool) → ((s == s) || y) ≡ true
up_own s y = over (s == s) (equal_self s)
  where
    over : (b : Bool) → b ≡ true → (b || y) ≡ true
    over true e = refl
    over false e = absurd (cc)

abbrev NotAt : ℕ → Waiting → Type 0
NotAt s x = x.site ≡ s → ⊥

none_left : (s : ℕ) (xs : List Waiting) → Every (NotAt s) (filter (λ (x : Waiting). not (x.site == s)) xs)
none_left s [] = tt
none_left s (x ∷ xs) = over (x.site == s) refl (none_left s xs)
  where
    over : (b : Bool) → (x.site == s) ≡ b → Every (NotAt s) (filter (λ (y : Waiting). not (y.site == s)) xs) → Every (NotAt s) (cond (not b) (x ∷ filter (λ (y : Waiting). not (y.site == s)) xs) (filter (λ (y : Waiting). not (y.site == s)) xs))
    over true e k = k
    over false e k = ((λ same. true_false (sym (subst (λ (m : ℕ). (m == s) ≡ true) (sym same) (equal_self s)) ∙ e)), k)

-- a site whose disk is as it holds it has just stopped
stopped_now : (c : Config) → RolesDo c → (n s : ℕ) (why : StopCause) (trace : List Line) (d : Disk) → Comes c trace (Shown (says.Stopped s why)) → CopiesAreHeld c trace s (record { copies = d.copies; instances = []; steps = [] }) → StoppedFact c s (more n (Shown (says.Stopped s why)) trace) d
stopped_now c roles n s why trace d k copies = record {
  stopped = down_own s (is_up c (entries trace) s);
  outside = cond_own s None (epoch_of (entries trace) s);
  idle = record { none_waits = none_left s (waiting (entries trace)); has_none = cond_own s [] (had c trace s) };
  descriptors = λ process fd. cond_own s None (descriptor (entries trace) s process fd);
  copies = copies_frame c n (Shown (says.Stopped s why)) trace s (record { copies = d.copies; instances = []; steps = [] }) k (λ e w. w) (λ a. a) copies;
}

-- the row of a stop, as other laws give it
stop_comes : (c : Config) (trace : List Line) (s : ℕ) (why : StopCause) → Past c trace → RestTold c trace (Shown (says.Stopped s why)) → Comes c trace (Shown (says.Stopped s why))
stop_comes c trace s why h r = record { past = h; may = record { row = r.row; in_time = tt }; rest = r }

stops_holds : (c : Config) → RolesDo c → Stays c → (n s : ℕ) (why : StopCause) (d : Disk) (w : World) → (WorldFact c w → CopiesAreHeld c w.trace s (record { copies = d.copies; instances = []; steps = [] })) → Holds c w → Holds c (happened n [] (Shown (says.Stopped s why) ∷ []) (stops_with s d) w)
stops_holds c roles stays n s why d w copies g =
    happened_holds c stays n [] (Shown (says.Stopped s why) ∷ []) (stops_with s d) w refl refl
    (λ old r f. (let k : Comes c w.trace (Shown (says.Stopped s why)) = stop_comes c w.trace s why old r.0 in record {
      told_so = (k.may, tt);
      sent = tt;
      places = placed c roles n s (Stopped d) (Shown (says.Stopped s why) ∷ []) w old (k.may, tt) r (inr (inl refl), tt) (stopped_now c roles n s why w.trace d k (copies f)) f;
      wants = stopped_stays c n s d (Shown (says.Stopped s why) ∷ []) w old (k.may, tt) r (inr (inl refl), tt);
      asked = tt;
      tidy = tidy_stopped c s d w f;
    })) g

store_copies : (c : Config) (s : ℕ) (trace : List Line) (v : SiteView) (o : Option InEpoch) → SiteIn c s trace v o → CopiesAreHeld c trace s (record { copies = v.store.copies; instances = []; steps = [] })
store_copies c s trace v None h = copies_bare c trace s v.store h.copies
store_copies c s trace v (Some e) h = copies_bare c trace s v.store h.store.copies

-- the record of what was written is of the site
written_own : (c : Config) (trace : List Line) (s : ℕ) (r : Record) → IsWriteOf s r → IsOf c trace s (Shown r)
written_own c trace s (says.Commit file site stamp parents content) h = inr (inr (inr (inl (no_epoch, h))))
written_own c trace s (says.Adopt file site stamp) h = inr (inr (inl h))
written_own c trace s _ h = absurd h

cut_gives : (c : Config) → RolesDo c → (n s : ℕ) (why : StopCause) (d : DiskWrite) (disk : Disk) (before : Store) (b : Bool) (w : World) → Past c w.trace → disk.copies ≡ cond b (with_row copy_key d.copy before.copies) before.copies → WorldFact c w → CopiesAreHeld c w.trace s (record { copies = before.copies; instances = []; steps = [] }) →
    (RestTold c w.trace (Shown d.says) → WriteFact c n w.trace s before d) →
    AllRest c n w.trace (cond b (Shown d.says ∷ Shown (says.Stopped s why) ∷ []) (Shown (says.Stopped s why) ∷ [])) → Gives c n (cond b (Shown d.says ∷ Shown (says.Stopped s why) ∷ []) (Shown (says.Stopped s why) ∷ [])) [] (stops_with s disk) w
cut_gives c roles n s why d disk before true w past e f held write r =
    let mid : List Line = more n (Shown d.says) w.trace in
    let told : List Told = Shown d.says ∷ Shown (says.Stopped s why) ∷ [] in
    let fact : WriteFact c n w.trace s before d = write r.0 in
    let k : Comes c mid (Shown (says.Stopped s why)) = stop_comes c mid s why (past_more c n (Shown d.says) w.trace past fact.may r.0) r.1.0 in
    record {
      told_so = (fact.may, (k.may, tt));
      sent = tt;
      places = placed c roles n s (Stopped disk) told w past (fact.may, (k.may, tt)) r (written_own c w.trace s d.says fact.own, (inr (inl refl), tt))
          (stopped_now c roles n s why mid disk k (subst (λ (xs : List FileCopy). CopiesAreHeld c mid s (record { copies = xs; instances = []; steps = [] })) (sym e) (copies_bare c mid s (with_version d.copy d.pages before) fact.held))) f;
      wants = stopped_stays c n s disk told w past (fact.may, (k.may, tt)) r (written_own c w.trace s d.says fact.own, (inr (inl refl), tt));
      asked = tt;
      tidy = tidy_stopped c s disk w f;
    }
cut_gives c roles n s why d disk before false w past e f held write r =
    let told : List Told = Shown (says.Stopped s why) ∷ [] in
    let k : Comes c w.trace (Shown (says.Stopped s why)) = stop_comes c w.trace s why past r.0 in
    record {
      told_so = (k.may, tt);
      sent = tt;
      places = placed c roles n s (Stopped disk) told w past (k.may, tt) r (inr (inl refl), tt) (stopped_now c roles n s why w.trace disk k (subst (λ (xs : List FileCopy). CopiesAreHeld c w.trace s (record { copies = xs; instances = []; steps = [] })) (sym e) held)) f;
      wants = stopped_stays c n s disk told w past (k.may, tt) r (inr (inl refl), tt);
      asked = tt;
      tidy = tidy_stopped c s disk w f;
    }

-- an event that is cut off in what it writes
cut_holds : (c : Config) → RolesDo c → Stays c → (n s : ℕ) (v : SiteView) (d : DiskWrite) (a : Armed) (w : World) → place_at w s ≡ Some (Running v) → (Past c w.trace → WorldFact c w → RestTold c w.trace (Shown d.says) → WriteFact c n w.trace s v.store d) → Holds c w → Holds c (cut_event n s v d a w)
cut_holds c roles stays n s v d a w here write g = happened_holds c stays n [] (cut_told s v.store d a.how a.left) (stops_with s (cut_disk v.boot v.store d a.how a.left)) w refl refl
    (λ old r f. cut_gives c roles n s (cause_of a.how) d (cut_disk v.boot v.store d a.how a.left) v.store (is_on_disk v.store d a.how a.left) w old refl f (store_copies c s w.trace v v.epoch (f.places s (Running v) here)) (write old f) r) g

-- ---- what a site does ----

pub acts_holds : (c : Config) → RolesDo c → Stays c → (n s : ℕ) (v : SiteView) (o : Outcome SiteView) (w : World) → place_at w s ≡ Some (Running v) → (Past c w.trace → AllRest c n w.trace o.told → WorldFact c w → SiteFine c n w.trace s (SiteFact c s) (WriteFact c n w.trace s v.store) o) →
    (Past c w.trace → WorldFact c w → WritesSo c n w.trace s v.store o.written) → (Past c w.trace → AllRest c n w.trace o.told → WorldFact c w → Wanted c n s v o w) → Holds c w → Holds c (acts n s v o w)
acts_holds c roles stays n s v o w here fine writes wanted g =
    acts_cases (Holds c) n s v o w
    (runs_holds c roles stays n s v o (λ now. now) w here refl refl (λ t. refl) fine wanted g)
    (λ a. runs_holds c roles stays n s v o (arms a) w here refl refl (λ t. refl) fine wanted g)
    (λ d a e. cut_holds c roles stays n s v d a w here (λ old f fresh. writes old f d e fresh) g)

-- ---- lines that ask for a stop or a boot ----

pub stop_holds : (c : Config) → RolesDo c → Stays c → (n s : ℕ) (v : SiteView) (w : World) → place_at w s ≡ Some (Running v) → Holds c w → Holds c (asked_stop n s v w)
stop_holds c roles stays n s v w here g = stops_holds c roles stays n s cause.Asked (disk_of v) w (λ f. store_copies c s w.trace v v.epoch (f.places s (Running v) here)) g

-- a site has just booted
booted_now : (c : Config) → RolesDo c → (n s boot : ℕ) (trace : List Line) (copies : List FileCopy) → Comes c trace (Shown (says.Up s boot)) → IsIdle c trace s → ((process fd : ℕ) → descriptor (entries trace) s process fd ≡ None) → CopiesAreHeld c trace s (record { copies = copies; instances = []; steps = [] }) → SiteFact c s (more n (Shown (says.Up s boot)) trace) (fresh boot copies)
booted_now c roles n s boot trace copies k idle none held = record {
  up = up_own s (is_up c (entries trace) s);
  outside = cond_own s None (epoch_of (entries trace) s);
  users = record {
    always = booted_users c n s boot trace none;
    idle = record { none_waits = idle.none_waits; has_none = cond_own s [] (had c trace s) };
    calls = refl;
    instances = refl;
    hopeless = refl;
    descriptors_ascend = tt;
  };
  copies = copies_frame c n (Shown (says.Up s boot)) trace s (record { copies = copies; instances = []; steps = [] }) k (λ e w. w) (λ a. a) held;
  instances = refl;
  steps = refl;
  tables = refl;
  pulls = refl;
}

boot_comes : (c : Config) (trace : List Line) (s boot : ℕ) → Past c trace → RestTold c trace (Shown (says.Up s boot)) → Comes c trace (Shown (says.Up s boot))
boot_comes c trace s boot h r = record { past = h; may = record { row = r.row; in_time = tt }; rest = r }

boot_places : (a : Option Armed) (s : ℕ) (p : Place) (w : World) (t : ℕ) → place_at (rearms s a (puts s p w)) t ≡ place_at (puts s p w) t
boot_places None s p w t = refl
boot_places (Some a) s p w t = refl

boot_sent : (a : Option Armed) (s : ℕ) (p : Place) (w : World) → ((rearms s a (puts s p w)).sent ≡ w.sent) × ((rearms s a (puts s p w)).underway ≡ w.underway)
boot_sent None s p w = (refl, refl)
boot_sent (Some a) s p w = (refl, refl)

pub boots_hold : (c : Config) → RolesDo c → Stays c → (n s : ℕ) (d : Disk) (b : Booted) (w : World) → place_at w s ≡ Some (Stopped d) → KeepsCopies d.copies b → Holds c w → Holds c (boots_as n s b w)
boots_hold c roles stays n s d (Whole x a) w here same g =
    let new : Place = Running (fresh x.label.boot x.copies) in
    let told : List Told = Shown (says.Up s x.label.boot) ∷ [] in
    happened_holds c stays n [] told (λ now. rearms s a (puts s new now)) w (boot_sent a s new w).0 (boot_sent a s new w).1
    (λ rest r f. (let old : StoppedFact c s w.trace d = f.places s (Stopped d) here in let k : Comes c w.trace (Shown (says.Up s x.label.boot)) = boot_comes c w.trace s x.label.boot rest r.0 in record {
      told_so = (k.may, tt);
      sent = tt;
      places = λ t p e. placed c roles n s new told w rest (k.may, tt) r (inr (inl refl), tt)
          (booted_now c roles n s x.label.boot w.trace x.copies k old.idle old.descriptors (subst (λ (xs : List FileCopy). CopiesAreHeld c w.trace s (record { copies = xs; instances = []; steps = [] })) (sym same) old.copies)) f t p (sym (boot_places a s new w t) ∙ e);
      wants = alike_stay c (place_at w) w.trace (place_at (puts s new w)) (place_at (rearms s a (puts s new w))) (told_onto n told w.trace) (boot_places a s new w)
          (placed_stays c n s new told w rest (k.may, tt) r (inr (inl refl), tt) (λ v q e g b o stands joined h y at is. absurd (none_some y (ap (λ (u : SiteView). u.epoch) (running_view (fresh x.label.boot x.copies) v q) ∙ at))));
      asked = tt;
      tidy = λ t v e. tidy_placed c s new w f (λ y q. subst IsTidy (running_view (fresh x.label.boot x.copies) y q) (record { ascends = tt; looks = tt })) t v (sym (boot_places a s new w t) ∙ e);
    })) g
boots_hold c roles stays n s d (CutOff x how) w here same g = stops_holds c roles stays n s (cause_of how) x w (λ f. subst (λ (xs : List FileCopy). CopiesAreHeld c w.trace s (record { copies = xs; instances = []; steps = [] })) (sym same) (f.places s (Stopped d) here).copies) g

-- ---- what the world itself tells ----

-- nobody's line
abbrev pub IsNobodys : Told → Type 0
IsNobodys (Shown says.Void) = Unit {0}
IsNobodys (Shown says.Budget) = Unit {0}
IsNobodys (Shown (says.Packet number from to kind)) = Unit {0}
IsNobodys _ = ⊥

nobody_apart : (c : Config) (older : List Line) (t : ℕ) (x : Told) → IsNobodys x → Apart c older t x
nobody_apart c older t (Shown says.Void) h = record { users = λ k. k; site = λ k. k; adopted = λ k. k; store = λ e k. k; table = λ f g fact me sync k. k }
nobody_apart c older t (Shown says.Budget) h = record { users = λ k. k; site = λ k. k; adopted = λ k. k; store = λ e k. k; table = λ f g fact me sync k. k }
nobody_apart c older t (Shown (says.Packet number from to kind)) h = record { users = λ k. k; site = λ k. k; adopted = λ k. k; store = λ e k. k; table = λ f g fact me sync k. k }
nobody_apart c older t _ h = absurd h

nobody_may : (c : Config) (older : List Line) (x : Told) → IsNobodys x → MayTell c older x
nobody_may c older (Shown says.Void) h = record { row = tt; in_time = tt }
nobody_may c older (Shown says.Budget) h = record { row = tt; in_time = tt }
nobody_may c older (Shown (says.Packet number from to kind)) h = record { row = tt; in_time = tt }
nobody_may c older _ h = absurd h

nobody_told : (c : Config) (n : ℕ) (told : List Told) (trace : List Line) → Every IsNobodys told → AllTold c n trace told
nobody_told c n [] trace h = tt
nobody_told c n (x ∷ xs) trace h = (nobody_may c trace x h.0, nobody_told c n xs (more n x trace) h.1)

pub says_holds : (c : Config) → RolesDo c → Stays c → (n : ℕ) (told : List Told) (w : World) → Every IsNobodys told → Holds c w → Holds c (happened n [] told (λ now. now) w)
says_holds c roles stays n told w h g =
    happened_holds c stays n [] told (λ now. now) w refl refl
    (λ old r f. record {
      told_so = nobody_told c n told w.trace h;
      sent = tt;
      places = λ t p e. stay_over c n (λ older x. IsNobodys x) (λ older. PlaceFact c t older p) (λ x older comes o k. place_apart c roles n t p x older comes (nobody_apart c older t x o) k) told w.trace old (nobody_told c n told w.trace h) r
          (every_at n IsNobodys (λ older x. IsNobodys x) (λ x older k. k) told w.trace h) (f.places t p e);
      wants = nobody_stays c n told w old (nobody_told c n told w.trace h) r (λ t. every_at n IsNobodys (λ older x. IsAdopted t x → ⊥) (λ x older k. (nobody_apart c older t x k).adopted) told w.trace h);
      asked = tt;
      tidy = f.asked.tidy;
    }) g
