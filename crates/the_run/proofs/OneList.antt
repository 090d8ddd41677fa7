-- In every run all joins of one epoch id have one list of members, and promised ids only rise.
use Rattle.std.proofs.Common.{◌≡◌, ◌≢◌, ℕ, ◌+◌, ◌≤◌, List, [], ◌∷◌, ◌++◌, length, map, Option, Some, None, refl, sym, ◌∙◌, ap, subst, inl, inr, arith}
use Rattle.role_steps.proofs.of_plain_facts.Options.{some_same}
use Rattle.locus_ids.specs.declared.ids.EpochId.{EpochId}
use Rattle.locus_ids.specs.declared.sites.Members.{Members}
use Rattle.locus_ids.specs.declared.config.Config.{Config}
use Rattle.disk_calls.specs.of_schedule_lines.declared.line.ScheduleLine.{ScheduleLine}
use Rattle.role_steps.specs.of_trace_book.declared.record.Record.{Record}
use Rattle.role_steps.specs.of_trace_book.declared.record.Record.TheVariants as says
use Rattle.role_steps.specs.of_trace_book.declared.record.StopCause.TheVariants as cause
use Rattle.role_steps.specs.of_wire_messages.declared.packet.Packet.{Packet}
use Rattle.role_steps.specs.Own.{Every}
use Rattle.role_steps.specs.Views.{SiteView, Told, Shown, DiskWrite, Outcome, Event, Calls, Receives, Ticks, Parts, Merges, GivesUp}
use Rattle.role_steps.specs.declared.rounds.InEpoch.{InEpoch}
use Rattle.role_steps.specs.declared.rounds.Round.{Round}
use Rattle.role_steps.specs.declared.synchronizing.SyncTable.{SyncTable}
use Rattle.role_steps.proofs.Sending.{every_append, every_cond, every_map}
use Rattle.the_run.specs.Disks.{Disk, Booted, Whole, CutOff, boots, cut_disk, is_on_disk}
use Rattle.the_run.specs.Steps.{step}
use Rattle.the_run.specs.Worlds.{World, Place, Running, Stopped, Numbered, Line, number_of, links_of, place_at, script_of, happened, numbered_from, told_onto, disk_of, puts, arms, passed, stops_with, cut_told, cause_of, acts, fresh, formatted, first_world}
use Rattle.the_run.specs.Runs.{boots_as, packet_record, run_from, run_in}
use Rattle.the_run.specs.Kept.{Among, WasSent, IsOwn, Kept}
use Rattle.the_run.specs.Laws.{boot_on, boot_number, BootsRise}
use Rattle.the_run.specs.Joins.{IsJoin, IsJoinRecord, TellsJoin, Joined, OneList, EpochsAreJoined, PromisesRise, IsAtMost, Knowledge, Now, MayJoin, LawfulRecord, LawfulOne, And, LawfulTold, PacketFact, NoJoin, NoWrite, TableOk, ViewOk, At, Fine, Lists, JoinsOf, NumberedFact, Good}
use Rattle.the_run.proofs.Boots.{at_each, puts_rises, Reached, boots_reached, acts_cases, every_newest, every_numbered, every_weaker, stays}
use Rattle.the_run.proofs.Events.{happened_keeps, puts_other, puts_same}
use Rattle.the_run.proofs.FirstWorld.{first_views}
use Rattle.the_run.proofs.Growing.{run_splits}
use Rattle.the_run.proofs.Rows.{every_without}
use Rattle.the_run.proofs.Joining.{Leads, same_at_most, fact_weaker, view_same, now_old, old_now, lawful_none}
use Rattle.the_run.proofs.JoinHandlers.{EventFact, step_fine}
use Rattle.the_run.proofs.Runs.{run_from_keeps, every_run}

-- ---- the trace, in two ways ----

onto_new : (n : ℕ) (told : List Told) (trace : List Line) → (s : ℕ) (id : EpochId) (m : Members) → Now (λ t i k. Joined t i k trace) told s id m → Joined s id m (told_onto n told trace)
onto_new n [] trace s id m (inl h) = h
onto_new n [] trace s id m (inr h) = absurd h
onto_new n (x ∷ xs) trace s id m (inl h) = onto_new n xs (record { number = n; told = x } ∷ trace) s id m (inl (inr h))
onto_new n (x ∷ xs) trace s id m (inr (inl h)) = onto_new n xs (record { number = n; told = x } ∷ trace) s id m (inl (inl h))
onto_new n (x ∷ xs) trace s id m (inr (inr h)) = onto_new n xs (record { number = n; told = x } ∷ trace) s id m (inr h)

onto_old : (n : ℕ) (told : List Told) (trace : List Line) → (s : ℕ) (id : EpochId) (m : Members) → Joined s id m (told_onto n told trace) → Now (λ t i k. Joined t i k trace) told s id m
onto_old n [] trace s id m h = inl h
onto_old n (x ∷ xs) trace s id m h = pick (onto_old n xs (record { number = n; told = x } ∷ trace) s id m h)
  where
    pick : Now (λ t i k. Joined t i k (record { number = n; told = x } ∷ trace)) xs s id m → Now (λ t i k. Joined t i k trace) (x ∷ xs) s id m
    pick (inl (inl g)) = inr (inl g)
    pick (inl (inr g)) = inl g
    pick (inr g) = inr (inr g)

-- ---- lists ----

lists_same : (J L : Knowledge) (boots : ℕ → ℕ) → Leads J L → Leads L J → Lists J boots → Lists L boots
lists_same J L boots f g h = record {
  own = λ s id m j. f id.site id m (h.own s id m (g s id m j));
  one = λ id m n j k. h.one id m n (g id.site id m j) (g id.site id n k);
  low = λ id m j. h.low id m (g id.site id m j);
}

lists_boots : (J : Knowledge) (a b : ℕ → ℕ) → ((s : ℕ) → a s ≤ b s) → Lists J a → Lists J b
lists_boots J a b f h = record { own = h.own; one = h.one; low = λ id m j. let k : id.boot ≤ a id.site = h.low id m j in let g : a id.site ≤ b id.site = f id.site in omega (arith, k, g) }

lists_join : (J : Knowledge) (boots : ℕ → ℕ) (s boot t : ℕ) (i : EpochId) (n : Members) → Lists J boots → t ≡ s → MayJoin J s boot i n → boot ≤ boots s → Lists (And J (Shown (says.Join t i n))) boots
lists_join J boots s boot t i n h e (inl j) le = record {
  own = λ a id m k. inl (own a id m k);
  one = λ id m p k q. h.one id m p (back id m k) (back id p q);
  low = λ id m k. h.low id m (back id m k);
}
  where
    known : (id : EpochId) (m : Members) → i ≡ id → n ≡ m → J id.site id m
    known id m f g = subst (λ (k : Members). J id.site id k) g (subst (λ (k : EpochId). J k.site k n) f j)

    own : (a : ℕ) (id : EpochId) (m : Members) → And J (Shown (says.Join t i n)) a id m → J id.site id m
    own a id m (inl k) = h.own a id m k
    own a id m (inr k) = known id m k.1 k.2

    back : (id : EpochId) (m : Members) → And J (Shown (says.Join t i n)) id.site id m → J id.site id m
    back id m k = own id.site id m k
lists_join J boots s boot t i n h e (inr new) le = record { own = own; one = one; low = low }
  where
    never : (id : EpochId) (m : Members) → i ≡ id → J id.site id m → ⊥
    never id m f j = new.2 m (subst (λ (k : ℕ). J k i m) new.0 (subst (λ (k : EpochId). J k.site k m) (sym f) j))

    own : (a : ℕ) (id : EpochId) (m : Members) → And J (Shown (says.Join t i n)) a id m → And J (Shown (says.Join t i n)) id.site id m
    own a id m (inl k) = inl (h.own a id m k)
    own a id m (inr k) = inr (e ∙ (sym new.0 ∙ ap (λ (y : EpochId). y.site) k.1), k.1, k.2)

    one : (id : EpochId) (m p : Members) → And J (Shown (says.Join t i n)) id.site id m → And J (Shown (says.Join t i n)) id.site id p → m ≡ p
    one id m p (inl k) (inl q) = h.one id m p k q
    one id m p (inl k) (inr q) = absurd (never id m q.1 k)
    one id m p (inr k) (inl q) = absurd (never id p k.1 q)
    one id m p (inr k) (inr q) = sym k.2 ∙ q.2

    low : (id : EpochId) (m : Members) → And J (Shown (says.Join t i n)) id.site id m → id.boot ≤ boots id.site
    low id m (inl k) = h.low id m k
    low id m (inr k) = subst (λ (y : EpochId). y.boot ≤ boots y.site) k.1 (subst (λ (y : ℕ). i.boot ≤ boots y) (sym new.0) (let f : i.boot ≡ boot = new.1 in omega (arith, f, le)))

lists_quiet : (J : Knowledge) (boots : ℕ → ℕ) (x : Told) → Lists J boots → ((s : ℕ) (id : EpochId) (m : Members) → IsJoin s id m x → ⊥) → Lists (And J x) boots
lists_quiet J boots x h none = lists_same J (And J x) boots (λ t i n. inl) back h
  where
    back : Leads (And J x) J
    back t i n (inl k) = k
    back t i n (inr k) = absurd (none t i n k)

lists_record : (J : Knowledge) (boots : ℕ → ℕ) (s boot : ℕ) (r : Record) → Lists J boots → LawfulRecord J s boot r → boot ≤ boots s → Lists (And J (Shown r)) boots
lists_record J boots s boot (says.Join t i n) h l le = lists_join J boots s boot t i n h l.0 l.1 le
lists_record J boots s boot r h l le = lists_quiet J boots (Shown r) h (λ t i n k. k)

lists_one : (J : Knowledge) (boots : ℕ → ℕ) (s boot : ℕ) (x : Told) → Lists J boots → LawfulOne J s boot x → boot ≤ boots s → Lists (And J x) boots
lists_one J boots s boot (Shown r) h l le = lists_record J boots s boot r h l le
lists_one J boots s boot x h l le = lists_quiet J boots x h (λ t i n k. k)

lists_told : (J : Knowledge) (boots : ℕ → ℕ) (s boot : ℕ) (told : List Told) → Lists J boots → LawfulTold J s boot told → boot ≤ boots s → Lists (Now J told) boots
lists_told J boots s boot [] h l le = lists_same J (Now J []) boots (λ t i n. inl) back h
  where
    back : Leads (Now J []) J
    back t i n (inl k) = k
    back t i n (inr k) = absurd k
lists_told J boots s boot (x ∷ xs) h l le = lists_same (Now (And J x) xs) (Now J (x ∷ xs)) boots to from (lists_told (And J x) boots s boot xs (lists_one J boots s boot x h l.0 le) l.1 le)
  where
    to : Leads (Now (And J x) xs) (Now J (x ∷ xs))
    to t i n (inl (inl k)) = inl k
    to t i n (inl (inr k)) = inr (inl k)
    to t i n (inr k) = inr (inr k)

    from : Leads (Now J (x ∷ xs)) (Now (And J x) xs)
    from t i n (inl k) = inl (inl k)
    from t i n (inr (inl k)) = inl (inr k)
    from t i n (inr (inr k)) = inr k

-- a site tells its own joins alone
record_at : (J : Knowledge) (s boot : ℕ) (r : Record) (t : ℕ) (i : EpochId) (n : Members) → LawfulRecord J s boot r → IsJoinRecord t i n r → t ≡ s
record_at J s boot (says.Join u j k) t i n l h = sym h.0 ∙ l.0
record_at J s boot _ t i n l h = absurd h

one_at : (J : Knowledge) (s boot : ℕ) (x : Told) (t : ℕ) (i : EpochId) (n : Members) → LawfulOne J s boot x → IsJoin t i n x → t ≡ s
one_at J s boot (Shown r) t i n l h = record_at J s boot r t i n l h
one_at J s boot _ t i n l h = absurd h

told_at : (J : Knowledge) (s boot : ℕ) (told : List Told) (t : ℕ) (i : EpochId) (n : Members) → LawfulTold J s boot told → TellsJoin t i n told → t ≡ s
told_at J s boot [] t i n l h = absurd h
told_at J s boot (x ∷ xs) t i n l (inl h) = one_at J s boot x t i n l.0 h
told_at J s boot (x ∷ xs) t i n l (inr h) = told_at (And J x) s boot xs t i n l.1 h

-- ---- one event ----

-- From an earlier world on: it is good, no boot number fell, and a site that still runs in its boot has promised no less.
record Later (first w : World) : Type 0 where
  good : Good w
  boots : BootsRise first w
  promised : PromisesRise first w

numbered_weaker : (J L : Knowledge) → Leads J L → (xs : List Numbered) → Every (NumberedFact J) xs → Every (NumberedFact L) xs
numbered_weaker J L f xs h = every_weaker (NumberedFact J) (NumberedFact L) xs (λ x. fact_weaker J L f x.packet.epoch x.packet.body) h

happened_good : (s boot n : ℕ) (ps : List Packet) (told : List Told) (change : World → World) (first w : World) → LawfulTold (JoinsOf w) s boot told → boot ≤ boot_number w s → BootsRise w (change w) →
    ((t : ℕ) (u : SiteView) → place_at (change w) t ≡ Some (Running u) → ViewOk (Now (JoinsOf w) told) t u) → PromisesRise first (change w) →
    (change w).sent ≡ w.sent → (change w).underway ≡ w.underway → Every (PacketFact (Now (JoinsOf w) told)) ps → Later first w → Later first (happened n ps told change w)
happened_good s boot n ps told change first w law has rise views promised sent underway new g =
    happened_keeps (Later first) n ps told change w g
    (λ l. record { good = record { lists = g.good.lists; views = g.good.views; packets = g.good.packets; underway = g.good.underway }; boots = g.boots; promised = g.promised })
    (λ k b t. record {
      good = record {
        lists = lists_boots L (boot_number w) (boot_number (change w)) rise (lists_same N L (boot_number w) to from (lists_told (JoinsOf w) (boot_number w) s boot told g.good.lists law has));
        views = λ t u h. view_same N L t u to (from t) (views t u h);
        packets = every_newest (NumberedFact L) (numbered_from (w.packets + 1) ps) (change w).sent added (subst (λ (xs : List Numbered). Every (NumberedFact L) xs) (sym sent) (numbered_weaker (JoinsOf w) L old w.sent g.good.packets));
        underway = every_append (NumberedFact L) (change w).underway (numbered_from (w.packets + 1) ps) (subst (λ (xs : List Numbered). Every (NumberedFact L) xs) (sym underway) (numbered_weaker (JoinsOf w) L old w.underway g.good.underway)) added;
      };
      boots = λ t. (let a : boot_number first t ≤ boot_number w t = g.boots t in let c : boot_number w t ≤ boot_number (change w) t = rise t in omega (arith, a, c));
      promised = promised;
    })
  where
    N : Knowledge
    N = Now (JoinsOf w) told

    L : Knowledge
    L t i m = Joined t i m (told_onto n told w.trace)

    to : Leads N L
    to t i m h = onto_new n told w.trace t i m h

    from : Leads L N
    from t i m h = onto_old n told w.trace t i m h

    old : Leads (JoinsOf w) L
    old t i m h = to t i m (inl h)

    added : Every (NumberedFact L) (numbered_from (w.packets + 1) ps)
    added = every_numbered (PacketFact L) (w.packets + 1) ps (every_weaker (PacketFact N) (PacketFact L) ps (λ p. fact_weaker N L to p.epoch p.body) new)

-- an event of the world itself, which changes no place and joins nothing
told_good : (n : ℕ) (told : List Told) (first w : World) → Every NoJoin told → Later first w → Later first (happened n [] told (λ now. now) w)
told_good n told first w none g =
    happened_good 0 0 n [] told (λ now. now) first w (lawful_none (JoinsOf w) 0 0 told none) (omega arith) (stays w)
    (λ t u h. view_same (JoinsOf w) (Now (JoinsOf w) told) t u (old_now (JoinsOf w) told) (now_old (JoinsOf w) told none t) (g.good.views t u h)) g.promised refl refl tt g

-- ---- one place ----

running_view : (v u : SiteView) → Running v ≡ Running u → v ≡ u
running_view v u e = cc

stopped_never : (d : Disk) (v : SiteView) → Stopped d ≡ Running v → ⊥
stopped_never d v e = cc

place_there : (s : ℕ) (new : Place) (w : World) (u : SiteView) → place_at (puts s new w) s ≡ Some (Running u) → new ≡ Running u
place_there s new w u h = some_same new (Running u) (sym (puts_same s new w) ∙ h)

-- the views after one place changed, where the site tells these
views_of : (s boot : ℕ) (new : Place) (told : List Told) (w : World) → Good w → LawfulTold (JoinsOf w) s boot told → ((v : SiteView) → new ≡ Running v → ViewOk (Now (JoinsOf w) told) s v) →
    (t : ℕ) (u : SiteView) → place_at (puts s new w) t ≡ Some (Running u) → ViewOk (Now (JoinsOf w) told) t u
views_of s boot new told w good law fine t u h = at_each s t (ViewOk (Now (JoinsOf w) told) t u)
    (λ e. subst (λ (y : ℕ). ViewOk (Now (JoinsOf w) told) y u) e (fine u (place_there s new w u (ap (place_at (puts s new w)) e ∙ h))))
    (λ ne. view_same (JoinsOf w) (Now (JoinsOf w) told) t u (old_now (JoinsOf w) told) (old ne) (good.views t u (sym (puts_other s t new w ne) ∙ h)))
  where
    old : s ≢ t → (i : EpochId) (m : Members) → Now (JoinsOf w) told t i m → JoinsOf w t i m
    old ne i m (inl k) = k
    old ne i m (inr k) = absurd (ne (sym (told_at (JoinsOf w) s boot told t i m law k)))

promised_of : (s : ℕ) (new : Place) (first w : World) → PromisesRise first w → ((v u : SiteView) → place_at first s ≡ Some (Running v) → new ≡ Running u → u.boot ≡ v.boot → IsAtMost v.promised u.promised) → PromisesRise first (puts s new w)
promised_of s new first w g fine t v u a b e = at_each s t (IsAtMost v.promised u.promised)
    (λ q. fine v u (ap (place_at first) q ∙ a) (place_there s new w u (ap (place_at (puts s new w)) q ∙ b)) e)
    (λ ne. g t v u a (sym (puts_other s t new w ne) ∙ b) e)

-- ---- a stop, a step and a boot ----

no_round : (r : Round) → ◌≡◌ {A = Option Round} None (Some r) → ⊥
no_round r e = cc

no_epoch_here : (e : InEpoch) → ◌≡◌ {A = Option InEpoch} None (Some e) → ⊥
no_epoch_here e k = cc

stops_good : (n s : ℕ) (old : Place) (d : Disk) (told : List Told) (first w : World) → place_at w s ≡ Some old → Every NoJoin told → boot_on (Some old) ≤ d.label.boot → Later first w → Later first (happened n [] told (stops_with s d) w)
stops_good n s old d told first w here none le g =
    happened_good 0 0 n [] told (stops_with s d) first w (lawful_none (JoinsOf w) 0 0 told none) (omega arith) (puts_rises s old (Stopped d) w here le)
    (views_of s 0 (Stopped d) told w g.good (lawful_none (JoinsOf w) s 0 told none) (λ u q. absurd (stopped_never d u q)))
    (promised_of s (Stopped d) first w g.promised (λ v u a q e. absurd (stopped_never d u q))) refl refl tt g

acts_good : (n s : ℕ) (v : SiteView) (o : Outcome SiteView) (first w : World) → place_at w s ≡ Some (Running v) → ((low : EpochId) → IsAtMost low v.promised → Fine (JoinsOf w) s v.boot low o) → Later first w → Later first (acts n s v o w)
acts_good n s v o first w here fine g =
    acts_cases (Later first) n s v o w
    (happened_good s v.boot n o.sent o.told (λ now. puts s (Running o.view) now) first w f.law has rise views promised refl refl f.sent g)
    (λ a. happened_good s v.boot n o.sent o.told (λ now. puts s (Running o.view) (arms a now)) first w f.law has rise views promised refl refl f.sent g)
    (λ d a e. stopped (cut_told s v.store d a.how a.left) (cut_disk v.boot v.store d a.how a.left) (every_cond NoJoin (is_on_disk v.store d a.how a.left) (Shown d.says ∷ Shown (says.Stopped s (cause_of a.how)) ∷ []) (Shown (says.Stopped s (cause_of a.how)) ∷ []) (subst (λ (x : Option DiskWrite). NoWrite x) e f.written, (tt, tt)) (tt, tt)) (omega arith))
  where
    f : Fine (JoinsOf w) s v.boot v.promised o
    f = fine v.promised (same_at_most v.promised)

    has : v.boot ≤ boot_number w s
    has = let e : boot_number w s ≡ v.boot = ap boot_on here in omega (arith, e)

    rise : BootsRise w (puts s (Running o.view) w)
    rise = puts_rises s (Running v) (Running o.view) w here (let e : o.view.boot ≡ v.boot = f.now.boot_is in omega (arith, e))

    views : (t : ℕ) (u : SiteView) → place_at (puts s (Running o.view) w) t ≡ Some (Running u) → ViewOk (Now (JoinsOf w) o.told) t u
    views = views_of s v.boot (Running o.view) o.told w g.good f.law (λ u q. subst (λ (y : SiteView). ViewOk (Now (JoinsOf w) o.told) s y) (running_view o.view u q) f.now.view)

    promised : PromisesRise first (puts s (Running o.view) w)
    promised = promised_of s (Running o.view) first w g.promised (λ x u a q e. no_lower x u a (running_view o.view u q) e)
      where
        no_lower : (x u : SiteView) → place_at first s ≡ Some (Running x) → o.view ≡ u → u.boot ≡ x.boot → IsAtMost x.promised u.promised
        no_lower x u a q e = subst (λ (y : SiteView). IsAtMost x.promised y.promised) q (fine x.promised (g.promised s x v a here (sym f.now.boot_is ∙ (ap (λ (y : SiteView). y.boot) q ∙ e)))).now.rises

    stopped : (told : List Told) (d : Disk) → Every NoJoin told → v.boot ≤ d.label.boot → Later first (happened n [] told (stops_with s d) w)
    stopped told d none le = stops_good n s (Running v) d told first w here none le g

boots_good : (n s : ℕ) (d x : Disk) (change : World → World) (first w : World) → place_at w s ≡ Some (Stopped d) → d.label.boot + 1 ≤ x.label.boot → ((t : ℕ) → place_at (change w) t ≡ place_at (puts s (Running (fresh x.label.boot x.copies)) w) t) → (change w).sent ≡ w.sent → (change w).underway ≡ w.underway → Later first w →
    Later first (happened n [] (Shown (says.Up s x.label.boot) ∷ []) change w)
boots_good n s d x change first w here above same sent underway g =
    happened_good 0 0 n [] told change first w (lawful_none (JoinsOf w) 0 0 told (tt, tt)) (omega arith)
    (λ t. (let a : boot_number (change w) t ≡ boot_number (puts s new w) t = ap boot_on (same t) in let b : boot_number w t ≤ boot_number (puts s new w) t = puts_rises s (Stopped d) new w here (omega (arith, above)) t in omega (arith, a, b)))
    (λ t u h. views_of s 0 new told w g.good (lawful_none (JoinsOf w) s 0 told (tt, tt)) (λ u q. subst (λ (y : SiteView). ViewOk (Now (JoinsOf w) told) s y) (running_view view u q) booted) t u (sym (same t) ∙ h))
    (λ t v u a b e. promised_of s new first w g.promised (λ v u a q e. absurd (higher v u a (running_view view u q) e)) t v u a (sym (same t) ∙ b) e)
    sent underway tt g
  where
    view : SiteView
    view = fresh x.label.boot x.copies

    new : Place
    new = Running view

    told : List Told
    told = Shown (says.Up s x.label.boot) ∷ []

    never : (id : EpochId) (m : Members) → JoinsOf w s id m → id.site ≡ s → id.boot ≡ x.label.boot → ⊥
    never id m j f k =
        let a : id.boot ≤ boot_number w id.site = g.good.lists.low id m (subst (λ (y : ℕ). JoinsOf w y id m) (sym f) j) in
        let b : boot_number w id.site ≡ d.label.boot = ap (boot_number w) f ∙ ap boot_on here in
        omega (arith, a, b, k, above)

    booted : ViewOk (Now (JoinsOf w) told) s view
    booted = record { round_ok = λ r e. absurd (no_round r e); risen = λ id m j f k. absurd (never id m (now_old (JoinsOf w) told (tt, tt) s id m j) f k); epoch_ok = λ e k. absurd (no_epoch_here e k); epoch_is = λ e k. absurd (no_epoch_here e k); tables_ok = tt }

    higher : (v u : SiteView) → place_at first s ≡ Some (Running v) → view ≡ u → u.boot ≡ v.boot → ⊥
    higher v u a q e =
        let b : boot_number first s ≡ v.boot = ap boot_on a in
        let k : boot_number first s ≤ boot_number w s = g.boots s in
        let m : boot_number w s ≡ d.label.boot = ap boot_on here in
        let y : x.label.boot ≡ v.boot = ap (λ (z : SiteView). z.boot) q ∙ e in
        omega (arith, b, k, m, y, above)

as_good : (n s : ℕ) (d : Disk) (b : Booted) (first w : World) → place_at w s ≡ Some (Stopped d) → Reached d.label.boot (d.label.boot + 1) b → Later first w → Later first (boots_as n s b w)
as_good n s d (Whole x None) first w here r g = boots_good n s d x _ first w here r (λ t. refl) refl refl g
as_good n s d (Whole x (Some a)) first w here r g = boots_good n s d x _ first w here r (λ t. refl) refl refl g
as_good n s d (CutOff x how) first w here r g = stops_good n s (Stopped d) x (Shown (says.Stopped s (cause_of how)) ∷ []) first w here (tt, tt) r g

-- ---- every event and change ----

found_among : (P : Numbered → Type 0) (x : Numbered) (xs : List Numbered) → Every P xs → Among x xs → P x
found_among P x [] h a = absurd a
found_among P x (y ∷ ys) h (inl e) = subst P (sym e) h.0
found_among P x (y ∷ ys) h (inr a) = found_among P x ys h.1 a

was_sent : (w : World) (x : Numbered) → WasSent w x → Good w → NumberedFact (JoinsOf w) x
was_sent w x (inl a) good = found_among (NumberedFact (JoinsOf w)) x w.sent good.packets a
was_sent w x (inr a) good = found_among (NumberedFact (JoinsOf w)) x w.underway good.underway a

own_fact : (J : Knowledge) (e : Event) → IsOwn e → EventFact J e
own_fact J (Calls process words) h = tt
own_fact J (Receives p) h = absurd h
own_fact J Ticks h = tt
own_fact J Parts h = tt
own_fact J Merges h = tt
own_fact J GivesUp h = tt

site_at : (w : World) (s : ℕ) (v : SiteView) (low : EpochId) → place_at w s ≡ Some (Running v) → IsAtMost low v.promised → Good w → At (JoinsOf w) s v.boot low v
site_at w s v low here rises good = record { boot_is = refl; rises = rises; view = good.views s v here }

passed_later : (k : ℕ) (first w : World) → Later first w → Later first (passed k w)
passed_later k first w g = record { good = record { lists = g.good.lists; views = g.good.views; packets = g.good.packets; underway = every_without (NumberedFact (JoinsOf w)) number_of k w.underway g.good.underway }; boots = g.boots; promised = g.promised }

packets_none : (xs : List Numbered) → Every NoJoin (map packet_record xs)
packets_none xs = every_map NoJoin packet_record xs (λ x. tt)

later_kept : (c : Config) (first : World) → Kept c (Later first)
later_kept c first = record {
  steps = λ n s e v w here own g. acts_good n s v (step c s (links_of w s) v e) first w here (λ low rises. step_fine (JoinsOf w) s v.boot low c (links_of w s) v e (site_at w s v low here rises g.good) (own_fact (JoinsOf w) e own)) g;
  receives = λ n x v w here sent g. acts_good n x.packet.to v (step c x.packet.to (links_of (passed x.number w) x.packet.to) v (Receives x.packet)) first (passed x.number w) here
      (λ low rises. step_fine (JoinsOf w) x.packet.to v.boot low c (links_of (passed x.number w) x.packet.to) v (Receives x.packet) (site_at w x.packet.to v low here rises g.good) (was_sent w x sent g.good)) (passed_later x.number first w g);
  passes = λ k w g. passed_later k first w g;
  drops = λ k w g. (let p : Later first (passed k w) = passed_later k first w g in record { good = record { lists = p.good.lists; views = p.good.views; packets = p.good.packets; underway = p.good.underway }; boots = p.boots; promised = p.promised });
  recuts = λ xs w g. record { good = record { lists = g.good.lists; views = g.good.views; packets = g.good.packets; underway = g.good.underway }; boots = g.boots; promised = g.promised };
  arming = λ a w g. record { good = record { lists = g.good.lists; views = g.good.views; packets = g.good.packets; underway = g.good.underway }; boots = g.boots; promised = g.promised };
  voiding = λ n w g. told_good n (Shown says.Void ∷ []) first w (tt, tt) g;
  budgets = λ n w g. told_good n (Shown says.Budget ∷ []) first w (tt, tt) g;
  pending = λ n w g. told_good n (map packet_record w.underway) first w (packets_none w.underway) g;
  stopping = λ n s v w here g. stops_good n s (Running v) (disk_of v) (Shown (says.Stopped s cause.Asked) ∷ []) first w here (tt, tt) (omega arith) g;
  booting = λ n s d w here g. as_good n s d (boots (script_of w s) d) first w here (boots_reached (script_of w s) d) g;
}

-- ---- the first world ----

fresh_ok : (J : Knowledge) (s : ℕ) (v : SiteView) → v.round ≡ None → v.epoch ≡ None → v.tables ≡ [] → ((id : EpochId) (m : Members) → J s id m → ⊥) → ViewOk J s v
fresh_ok J s v a b t h = record { round_ok = λ r e. absurd (no_round r (sym a ∙ e)); risen = λ id m j f g. absurd (h id m j); epoch_ok = λ e k. absurd (no_epoch_here e (sym b ∙ k)); epoch_is = λ e k. absurd (no_epoch_here e (sym b ∙ k)); tables_ok = subst (λ (ts : List SyncTable). Every TableOk ts) (sym t) tt }

first_good : (c : Config) → Good (first_world c)
first_good c = record {
  lists = record { own = λ s id m j. j; one = λ id m n j k. absurd j; low = λ id m j. absurd j };
  views = first_views c (ViewOk (JoinsOf (first_world c))) (λ s own. fresh_ok (JoinsOf (first_world c)) s (fresh 1 (formatted c s)) refl refl refl (λ id m j. j));
  packets = tt;
  underway = tt;
}

promised_stays : (w : World) → PromisesRise w w
promised_stays w s v u a b e = subst (λ (y : SiteView). IsAtMost v.promised y.promised) (running_view v u (some_same (Running v) (Running u) (sym a ∙ b))) (same_at_most v.promised)

-- ---- the laws ----

run_good : (c : Config) (lines : List ScheduleLine) → Good (run_in c lines)
run_good c lines = (every_run c (Later (first_world c)) (later_kept c (first_world c)) (record { good = first_good c; boots = stays (first_world c); promised = promised_stays (first_world c) }) lines).good

pub one_list : (c : Config) (lines : List ScheduleLine) → OneList (run_in c lines).trace
one_list c lines s t id m k h g = let good : Good (run_in c lines) = run_good c lines in good.lists.one id m k (good.lists.own s id m h) (good.lists.own t id k g)

pub epochs_joined : (c : Config) (lines : List ScheduleLine) → EpochsAreJoined (run_in c lines)
epochs_joined c lines = let good : Good (run_in c lines) = run_good c lines in record { promised = λ s v e here k. (good.views s v here).epoch_is e k; joined = λ s v e here k. (good.views s v here).epoch_ok e k }

pub run_promises_rise : (c : Config) (lines more : List ScheduleLine) → PromisesRise (run_in c lines) (run_in c (lines ++ more))
run_promises_rise c lines more =
    let first : World = run_in c lines in
    let g : Later first (run_from c (1 + length lines) more first) = run_from_keeps c (Later first) (later_kept c first) (1 + length lines) more first (record { good = run_good c lines; boots = stays first; promised = promised_stays first }) in
    subst (λ (w : World). PromisesRise first w) (sym (run_splits c 1 lines more (first_world c))) g.promised
