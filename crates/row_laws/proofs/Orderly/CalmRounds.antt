-- A round that starts calm stays so, and doesn't end by its budget.
use Rattle.std.proofs.Common.{◌≡◌, ◌≢◌, ℕ, zero, suc, ◌+◌, ◌-◌, ◌≤◌, ◌==◌, nat_lt, Bool, true, false, List, [], ◌∷◌, length, take, Option, Some, None, refl, sym, ◌∙◌, ap, subst, inl, inr, arith}
use Rattle.std.proofs.lemmas.Bool.Decides.{nat_tests}
use Rattle.std.specs.List.{list_any}
use Rattle.role_steps.proofs.of_plain_facts.Numbers.{apart_test}
use Rattle.role_steps.proofs.of_plain_facts.Tests.{true_false}
use Rattle.locus_ids.specs.declared.ids.EpochId.{EpochId}
use Rattle.locus_ids.specs.declared.config.Config.{Config}
use Rattle.trace_book.specs.declared.record.Record.TheVariants as says
use Rattle.wire_messages.specs.declared.packet.Packet.{Packet}
use Rattle.wire_messages.specs.declared.body.Body.{Body}
use Rattle.wire_messages.specs.declared.body.Body.TheVariants as body
use Rattle.role_steps.specs.Own.{Every}
use Rattle.role_steps.specs.Tables.{row, without_row}
use Rattle.role_steps.specs.Views.{SiteView, Told, Shown, DiskWrite, Outcome, Event, Receives, Ticks, GivesUp, boot_in, all_sites}
use Rattle.role_steps.specs.declared.rounds.InEpoch.{InEpoch}
use Rattle.role_steps.proofs.Rows.{row_other}
use Rattle.role_steps.proofs.Sending.{every_append}
use Rattle.the_run.specs.Disks.{Disk, Armed, write_calls, cut_disk}
use Rattle.the_run.specs.Joins.{IsAtMost}
use Rattle.the_run.specs.Kept.{Among}
use Rattle.the_run.specs.Steps.{is_dropped, step}
use Rattle.the_run.specs.Worlds.{World, Place, Running, Stopped, CutCircuit, Numbered, number_of, place_at, is_between, links_of, armed_site, script_of, happened, numbered_from, puts, passed, stops_with, cut_told, cut_event, runs_on, spends, writes_of, acts_of, acts, happens, happens_at}
use Rattle.the_run.specs.Runs.{arrives_at, arrives, next_packet, goes_round, ends_round, delivers, ticks_to, run_in}
use Rattle.the_run.proofs.Boots.{at_each, every_numbered, every_weaker}
use Rattle.the_run.proofs.Events.{happened_keeps, puts_other, puts_same}
use Rattle.the_run.proofs.InsideSync.{every_without}
use Rattle.the_run.proofs.Runs.{every_run}
use Rattle.run_laws.proofs.Run.{found_among}
use Rattle.run_laws.specs.Epochs.Known.{Good}
use Rattle.run_laws.proofs.Epochs.Run.{running_view, stopped_never, place_there, good_kept, run_good}
use Rattle.row_laws.specs.Orderly.Calm.{IsInside, CallsNoneAway, StartsCalm, delivers_next, delivered, RoundsStayCalm}
use Rattle.row_laws.specs.Orderly.Effects.{Change, Sent, Roundless}
use Rattle.row_laws.specs.Orderly.Quiet.{OnPoll}
use Rattle.row_laws.proofs.Orderly.Counts.{Counted, acts_counts, taken_counts, counted_kept, first_counts}
use Rattle.row_laws.proofs.Orderly.Effects.{BeginsNone, change_round, step_roundless}
use Rattle.row_laws.proofs.Orderly.Quiet.{NoPoll, sent_no_poll}
use Rattle.row_laws.proofs.Orderly.Rounds.{RoundKept, arrives_kept, next_among, ticks_kept}
use Rattle.row_laws.proofs.Orderly.Turns.{greater_not}
use Rattle.row_laws.proofs.Orderly.Places.{view_eq}

-- ---- armed disks ----

row_key : (key : Armed → ℕ) (k : ℕ) (xs : List Armed) (a : Armed) → row key k xs ≡ Some a → key a ≡ k
row_key key k [] a e = absurd (none_some e)
  where
    none_some : ◌≡◌ {A = Option Armed} None (Some a) → ⊥
    none_some e = cc
row_key key k (x ∷ xs) a e =
    (elim (key x == k) as (λ b. (key x == k) ≡ b → elim b [ true ↦ Some x | false ↦ row key k xs ] ≡ Some a → key a ≡ k) [
      | true ↦ λ t f. ap key (sym (some_eq f)) ∙ equal (key x) k t
      | false ↦ λ t f. row_key key k xs a f
    ]) refl e
  where
    some_eq : ◌≡◌ {A = Option Armed} (Some x) (Some a) → x ≡ a
    some_eq f = cc

    equal : (i j : ℕ) → (i == j) ≡ true → i ≡ j
    equal i j t = grind (arith, nat_tests)

without_other : (key : Armed → ℕ) (s t : ℕ) (xs : List Armed) → (s ≡ t → ⊥) → row key t (without_row key s xs) ≡ row key t xs
without_other key s t [] ne = refl
without_other key s t (x ∷ xs) ne =
    (elim (key x == s) as (λ b. (key x == s) ≡ b → row key t (elim b [ true ↦ xs | false ↦ x ∷ without_row key s xs ]) ≡ row key t (x ∷ xs)) [
      | true ↦ λ e. sym (passed (key x == t) (apart e))
      | false ↦ λ e. same (key x == t) (without_other key s t xs ne)
    ]) refl
  where
    equal : (i j : ℕ) → (i == j) ≡ true → i ≡ j
    equal i j f = grind (arith, nat_tests)

    apart : (key x == s) ≡ true → (key x == t) ≡ false
    apart e = by_test (key x == t) refl
      where
        by_test : (b : Bool) → (key x == t) ≡ b → b ≡ false
        by_test true f = absurd (ne (sym (equal (key x) s e) ∙ equal (key x) t f))
        by_test false f = refl

    passed : (b : Bool) → b ≡ false → ◌≡◌ {A = Option Armed} (elim b [ true ↦ Some x | false ↦ row key t xs ]) (row key t xs)
    passed true f = absurd (cc)
    passed false f = refl

    same : (b : Bool) → row key t (without_row key s xs) ≡ row key t xs → ◌≡◌ {A = Option Armed} (elim b [ true ↦ Some x | false ↦ row key t (without_row key s xs) ]) (elim b [ true ↦ Some x | false ↦ row key t xs ])
    same true f = refl
    same false f = f

-- how an outcome becomes part of the world, by what is armed
acts_by_script : (P : World → Type 0) (n s : ℕ) (v : SiteView) (o : Outcome SiteView) (w : World) → P (runs_on n s o (λ now. now) w) → ((a : Armed) (left : ℕ) → script_of w s ≡ Some a → P (runs_on n s o (spends a left) w)) →
    ((d : DiskWrite) (a : Armed) → script_of w s ≡ Some a → P (cut_event n s v d a w)) → P (acts n s v o w)
acts_by_script P n s v o w plain armed cut = by_written o.written
  where
    by_left : (d : DiskWrite) (a : Armed) (b : Bool) → script_of w s ≡ Some a → P (elim b [ true ↦ cut_event n s v d a w | false ↦ runs_on n s o (spends a (a.left - write_calls v.store d)) w ])
    by_left d a true e = cut d a e
    by_left d a false e = armed a (a.left - write_calls v.store d) e

    by_script : (d : DiskWrite) (a : Option Armed) → script_of w s ≡ a → P (writes_of n s v o d a w)
    by_script d None e = plain
    by_script d (Some a) e = by_left d a (nat_lt a.left (write_calls v.store d)) e

    by_written : (d : Option DiskWrite) → P (acts_of n s v o d w)
    by_written None = plain
    by_written (Some d) = by_script d (script_of w s) refl

-- ---- one event ----

none_away : (e : InEpoch) (p : Packet) (x : Body) → OnPoll ⊥ x → OnPoll (IsAtMost p.epoch e.id) x
none_away e p body.Poll h = absurd h
none_away e p _ h = tt

calm_happened : (n : ℕ) (ps : List Packet) (told : List Told) (change : World → World) (w : World) (e : InEpoch) → StartsCalm w e → ((s : ℕ) → boot_in e.members.boot s ≢ 0 → IsInside (change w) e s) → (change w).circuits ≡ w.circuits →
    ((s : ℕ) (v : SiteView) → place_at (change w) s ≡ Some (Running v) → v.round ≡ None) → (change w).underway ≡ w.underway → Every NoPoll ps → ((s : ℕ) → boot_in e.members.boot s ≢ 0 → script_of (change w) s ≡ None) → StartsCalm (happened n ps told change w) e
calm_happened n ps told change w e h inside circuits rounds same none unarmed =
    happened_keeps (λ (u : World). StartsCalm u e) n ps told change w h
    (λ l. record { together = record { inside = λ s m. (let k : IsInside w e s = h.together.inside s m in record { view = k.view; here = k.here; boot = k.boot; epoch = k.epoch }); connected = h.together.connected }; rounds = h.rounds; polls = h.polls; unarmed = h.unarmed })
    (λ k b t. record {
      together = record {
        inside = λ s m. (let k : IsInside (change w) e s = inside s m in record { view = k.view; here = k.here; boot = k.boot; epoch = k.epoch });
        connected = λ s t a b ne. ap (λ (xs : List CutCircuit). list_any (is_between s t) xs) circuits ∙ h.together.connected s t a b ne;
      };
      rounds = rounds;
      polls = every_append (CallsNoneAway e) (change w).underway (numbered_from (w.packets + 1) ps) (subst (λ (xs : List Numbered). Every (CallsNoneAway e) xs) (sym same) h.polls)
          (every_weaker (λ (x : Numbered). NoPoll x.packet) (CallsNoneAway e) (numbered_from (w.packets + 1) ps) (λ x k m. none_away e x.packet x.packet.body k) (every_numbered NoPoll (w.packets + 1) ps none));
      unarmed = unarmed;
    })

-- a poll that comes to a member calls it not away
abbrev EventCalm : InEpoch → ℕ → Event → Type 0
EventCalm e s (Receives p) = boot_in e.members.boot s ≢ 0 → OnPoll (IsAtMost p.epoch e.id) p.body
EventCalm e s GivesUp = ⊥
EventCalm e s _ = Unit {0}

-- a member stays in the epoch
member_stays : (c : Config) (e : InEpoch) (w : World) (s : ℕ) (v : SiteView) (ev : Event) (u : SiteView) → Good w → place_at w s ≡ Some (Running v) → boot_in e.members.boot s ≢ 0 → v.epoch ≡ Some e → EventCalm e s ev → Change s v ev u → (u.epoch ≡ Some e) × (u.boot ≡ v.boot)
member_stays c e w s v ev u good here m inside calm (inl k) = (k.epoch ∙ inside, k.boot)
member_stays c e w s v ev u good here m inside calm (inr (inl k)) = absurd (subst (EventCalm e s) k.comes calm)
member_stays c e w s v ev u good here m inside calm (inr (inr (inl k))) =
    let a : EventCalm e s (Receives k.poll) = subst (EventCalm e s) k.comes calm in
    let top : IsAtMost k.poll.epoch e.id = subst (OnPoll (IsAtMost k.poll.epoch e.id)) k.is_poll (a m) in
    absurd (greater_not v.promised k.poll.epoch (subst (λ (i : EpochId). IsAtMost k.poll.epoch i) ((good.views s v here).inside e inside).0 top) k.greater)
member_stays c e w s v ev u good here m inside calm (inr (inr (inr k))) = absurd (true_false (sym ((good.views s v here).inside e inside).1 ∙ k.waits))

calm_acts : (c : Config) (n s : ℕ) (ev : Event) (v : SiteView) (w : World) (e : InEpoch) → place_at w s ≡ Some (Running v) → BeginsNone ev → EventCalm e s ev → Good w → StartsCalm w e → StartsCalm (acts n s v (step c s (links_of w s) v ev) w) e
calm_acts c n s ev v w e here own calm good h =
    acts_by_script (λ (u : World). StartsCalm u e) n s v o w
    (runs (λ now. now) refl refl (λ t. refl) (λ t m. h.unarmed t m))
    (λ a left is. runs (spends a left) refl refl (λ t. refl) (λ t m. spent a left is t m))
    (λ d a is. stopped d a is)
  where
    o : Outcome SiteView
    o = step c s (links_of w s) v ev

    rl : Roundless s (links_of w s) v ev o
    rl = step_roundless c s (links_of w s) v ev (h.rounds s v here) (good.views s v here).tables own

    none : Every NoPoll o.sent
    none = every_weaker (Sent s (links_of w s) v ev o.view) NoPoll o.sent (λ p k. sent_no_poll s (links_of w s) v ev o.view p p.body k) rl.sent

    runs : (change : World → World) → (change w).circuits ≡ w.circuits → (change w).underway ≡ w.underway → ((t : ℕ) → place_at (change w) t ≡ place_at w t) → ((t : ℕ) → boot_in e.members.boot t ≢ 0 → script_of (change w) t ≡ None) → StartsCalm (runs_on n s o change w) e
    runs change circuits under places unarmed =
        calm_happened n o.sent o.told (λ now. puts s (Running o.view) (change now)) w e h (λ t m. at_each s t (IsInside (puts s (Running o.view) (change w)) e t) (λ eq. mine t eq m) (λ ne. others t ne m)) circuits rounds under none unarmed
      where
        others : (t : ℕ) → s ≢ t → boot_in e.members.boot t ≢ 0 → IsInside (puts s (Running o.view) (change w)) e t
        others t ne m = let k : IsInside w e t = h.together.inside t m in record { view = k.view; here = puts_other s t (Running o.view) (change w) ne ∙ (places t ∙ k.here); boot = k.boot; epoch = k.epoch }

        mine : (t : ℕ) → s ≡ t → boot_in e.members.boot t ≢ 0 → IsInside (puts s (Running o.view) (change w)) e t
        mine t eq m =
            let k : IsInside w e t = h.together.inside t m in
            let is_v : k.view ≡ v = view_eq (place_at w t) k.view v k.here (ap (place_at w) (sym eq) ∙ here) in
            let r : (o.view.epoch ≡ Some e) × (o.view.boot ≡ v.boot) = member_stays c e w s v ev o.view good here (λ z. m (sym (ap (boot_in e.members.boot) eq) ∙ z)) (ap (λ (y : SiteView). y.epoch) (sym is_v) ∙ k.epoch) calm rl.change in
            record { view = o.view; here = ap (place_at (puts s (Running o.view) (change w))) (sym eq) ∙ puts_same s (Running o.view) (change w); boot = r.1 ∙ (ap (λ (y : SiteView). y.boot) (sym is_v) ∙ k.boot); epoch = r.0 }

        rounds : (t : ℕ) (u : SiteView) → place_at (puts s (Running o.view) (change w)) t ≡ Some (Running u) → u.round ≡ None
        rounds t u g = at_each s t (u.round ≡ None)
            (λ eq. subst (λ (y : SiteView). y.round ≡ None) (running_view o.view u (place_there s (Running o.view) (change w) u (ap (place_at (puts s (Running o.view) (change w))) eq ∙ g))) (change_round s v ev o.view (h.rounds s v here) rl.change))
            (λ ne. h.rounds t u (sym (places t) ∙ (sym (puts_other s t (Running o.view) (change w) ne) ∙ g)))

    -- a site whose disk is armed is no member
    no_member : (a : Armed) → script_of w s ≡ Some a → (t : ℕ) → boot_in e.members.boot t ≢ 0 → s ≡ t → ⊥
    no_member a is t m eq = none_some (sym (h.unarmed t m) ∙ (ap (script_of w) (sym eq) ∙ is))
      where
        none_some : ◌≡◌ {A = Option Armed} None (Some a) → ⊥
        none_some k = cc

    spent : (a : Armed) (left : ℕ) → script_of w s ≡ Some a → (t : ℕ) → boot_in e.members.boot t ≢ 0 → script_of (spends a left w) t ≡ None
    spent a left is t m = row_other armed_site (record a { left = left }) t w.armed (apart_test a.site t (λ eq. absurd (no_member a is t m (sym (row_key armed_site s w.armed a is) ∙ eq)))) ∙ h.unarmed t m

    stopped : (d : DiskWrite) (a : Armed) → script_of w s ≡ Some a → StartsCalm (cut_event n s v d a w) e
    stopped d a is =
        calm_happened n [] (cut_told s v.store d a.how a.left) (stops_with s k) w e h (λ t m. others t m) refl rounds refl tt (λ t m. without_other armed_site s t w.armed (no_member a is t m) ∙ h.unarmed t m)
      where
        k : Disk
        k = cut_disk v.boot v.store d a.how a.left

        others : (t : ℕ) → boot_in e.members.boot t ≢ 0 → IsInside (stops_with s k w) e t
        others t m = let g : IsInside w e t = h.together.inside t m in record { view = g.view; here = puts_other s t (Stopped k) w (λ eq. absurd (no_member a is t m eq)) ∙ g.here; boot = g.boot; epoch = g.epoch }

        rounds : (t : ℕ) (u : SiteView) → place_at (stops_with s k w) t ≡ Some (Running u) → u.round ≡ None
        rounds t u g = at_each s t (u.round ≡ None)
            (λ eq. absurd (stopped_never k u (place_there s (Stopped k) w u (ap (place_at (puts s (Stopped k) w)) eq ∙ g))))
            (λ ne. h.rounds t u (sym (puts_other s t (Stopped k) w ne) ∙ g))

-- ---- the round ----

record CalmIn (e : InEpoch) (w : World) : Type 0 where
  good : Good w
  calm : StartsCalm w e

passed_calm : (k : ℕ) (w : World) (e : InEpoch) → StartsCalm w e → StartsCalm (passed k w) e
passed_calm k w e h = record {
  together = record { inside = λ s m. (let g : IsInside w e s = h.together.inside s m in record { view = g.view; here = g.here; boot = g.boot; epoch = g.epoch }); connected = h.together.connected };
  rounds = h.rounds;
  polls = every_without (CallsNoneAway e) number_of k w.underway h.polls;
  unarmed = h.unarmed;
}

calm_kept : (c : Config) (n : ℕ) (e : InEpoch) → RoundKept c n (CalmIn e)
calm_kept c n e = record {
  ticks = λ s v w here h. record { good = (good_kept c).steps n s Ticks v w here tt h.good; calm = calm_acts c n s Ticks v w e here tt tt h.good h.calm };
  receives = λ x v w here a undropped h. record {
    good = (good_kept c).receives n x v w here (inr a) h.good;
    calm = calm_acts c n x.packet.to (Receives x.packet) v (passed x.number w) e here tt (found_among (CallsNoneAway e) x w.underway h.calm.polls a) ((good_kept c).passes x.number w h.good) (passed_calm x.number w e h.calm);
  };
  drops = λ x w a dropped h. record { good = (good_kept c).passes x.number w h.good; calm = passed_calm x.number w e h.calm };
  budgets = λ w h. record {
    good = (good_kept c).budgets n w h.good;
    calm = calm_happened n [] (Shown says.Budget ∷ []) (λ now. now) w e h.calm h.calm.together.inside refl h.calm.rounds refl tt h.calm.unarmed;
  };
}

next_kept : (c : Config) (n : ℕ) (P : World → Type 0) → RoundKept c n P → (w : World) (o : Option Numbered) → next_packet w ≡ o → P w → P (delivers_next c n w o)
next_kept c n P k w None e p = p
next_kept c n P k w (Some x) e p = arrives_kept c n P k x w (next_among w w.over x e) p

delivered_kept : (c : Config) (n : ℕ) (P : World → Type 0) → RoundKept c n P → (k : ℕ) (w : World) → P w → P (delivered c n k w)
delivered_kept c n P r zero w p = p
delivered_kept c n P r (suc k) w p = delivered_kept c n P r k (delivers_next c n w (next_packet w)) (next_kept c n P r w (next_packet w) refl p)

-- ---- the budget ----

arrives_counts : (c : Config) (n more : ℕ) (x : Numbered) (w : World) → Among x w.underway → Counted more w → Counted (more + 1) (arrives c n x w)
arrives_counts c n more x w a g = by_place (place_at w x.packet.to)
  where
    t : Counted (more + 1) (passed x.number w)
    t = taken_counts more x w a g

    happening : (o : Option Place) → Counted (more + 1) (happens_at c n x.packet.to (Receives x.packet) o (passed x.number w))
    happening None = t
    happening (Some (Stopped d)) = t
    happening (Some (Running v)) = acts_counts (more + 1) n x.packet.to v (step c x.packet.to (links_of (passed x.number w) x.packet.to) v (Receives x.packet)) (passed x.number w) t

    by_place : (o : Option Place) → Counted (more + 1) (arrives_at c n x.packet o (passed x.number w))
    by_place None = t
    by_place (Some (Stopped d)) = t
    by_place (Some (Running v)) = elim (is_dropped x.packet v) as (λ b. Counted (more + 1) (elim b [ true ↦ passed x.number w | false ↦ happens c n x.packet.to (Receives x.packet) (passed x.number w) ])) [
      | true ↦ t
      | false ↦ happening (place_at (passed x.number w) x.packet.to)
    ]

there_length : (x : Numbered) (xs : List Numbered) → Among x xs → 1 ≤ length xs
there_length x [] a = absurd a
there_length x (y ∷ ys) a = omega arith

-- where nothing can come nothing is delivered
nothing_more : (c : Config) (n k : ℕ) (u : World) → next_packet u ≡ None → delivered c n k u ≡ u
nothing_more c n zero u e = refl
nothing_more c n (suc k) u e = ap (λ (o : Option Numbered). delivered c n k (delivers_next c n u o)) e ∙ nothing_more c n k u e

-- deliveries in full are those that the round makes, where its budget is large enough
all_delivered : (c : Config) (n budget more : ℕ) (w : World) → Counted more w → 262144 ≤ more + budget → delivers c n budget w ≡ delivered c n budget w
all_delivered c n zero more w g le = by_next (next_packet w) refl
  where
    by_next : (o : Option Numbered) → next_packet w ≡ o → ends_round n w o ≡ w
    by_next None e = refl
    by_next (Some x) e = absurd (let a : 1 ≤ length w.underway = there_length x w.underway (next_among w w.over x e) in let b : more + length w.underway ≤ w.packets = g.under in let d : w.packets ≤ 262144 = g.sent in omega (arith, a, b, d, le))
all_delivered c n (suc budget) more w g le = by_next (all_delivered c n budget (more + 1)) (next_packet w) refl
  where
    by_next : ((u : World) → Counted (more + 1) u → 262144 ≤ (more + 1) + budget → delivers c n budget u ≡ delivered c n budget u) → (o : Option Numbered) → next_packet w ≡ o → goes_round c n (delivers c n budget) w o ≡ delivered c n budget (delivers_next c n w o)
    by_next f None e = sym (nothing_more c n budget w e)
    by_next f (Some x) e = f (arrives c n x w) (arrives_counts c n more x w (next_among w w.over x e) g) (omega (arith, le))

-- ---- the law ----

one_tick : (c : Config) (n s : ℕ) (w : World) (o : Option Place) → Counted 0 w → Counted 0 (happens_at c n s Ticks o w)
one_tick c n s w None g = g
one_tick c n s w (Some (Stopped d)) g = g
one_tick c n s w (Some (Running v)) g = acts_counts 0 n s v (step c s (links_of w s) v Ticks) w g

ticks_counts : (c : Config) (n : ℕ) (ss : List ℕ) (w : World) → Counted 0 w → Counted 0 (ticks_to c n ss w)
ticks_counts c n [] w g = g
ticks_counts c n (s ∷ ss) w g = ticks_counts c n ss (happens c n s Ticks w) (one_tick c n s w (place_at w s) g)

pub rounds_stay_calm : (c : Config) → RoundsStayCalm c
rounds_stay_calm c lines e n most calm le = (
  (λ k. (ticks_kept c n (CalmIn e) (calm_kept c n e) (take k all_sites) w start).calm.together),
  (λ k. (delivered_kept c n (CalmIn e) (calm_kept c n e) k (ticks_to c n all_sites w) (ticks_kept c n (CalmIn e) (calm_kept c n e) all_sites w start)).calm.together),
  all_delivered c n most 0 (ticks_to c n all_sites w) (ticks_counts c n all_sites w (every_run c (Counted 0) (counted_kept c) (first_counts c) lines)) (omega (arith, le)),
)
  where
    w : World
    w = run_in c lines

    start : CalmIn e w
    start = record { good = run_good c lines; calm = calm }
