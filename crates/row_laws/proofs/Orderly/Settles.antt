-- A whole round after a block: at its end each site that started has its epoch, and all is quiet.
use Rattle.std.proofs.Common.{◌≡◌, ◌≢◌, ℕ, ◌+◌, ◌==◌, nat_lt, ◌⊎◌, Bool, true, false, cond, ◌&&◌, ◌||◌, not, List, [], ◌∷◌, Option, Some, None, refl, sym, ◌∙◌, ap, subst, inl, inr, arith}
use Rattle.std.proofs.lemmas.Bool.Decides.{nat_tests}
use Rattle.std.specs.List.{list_any}
use Rattle.role_steps.proofs.of_plain_facts.Options.{none_some}
use Rattle.locus_ids.specs.declared.ids.EpochId.{EpochId}
use Rattle.locus_ids.specs.declared.sites.Links.{Links}
use Rattle.locus_ids.specs.declared.config.Config.{Config}
use Rattle.wire_messages.specs.Bodies.{kind_number}
use Rattle.wire_messages.specs.declared.packet.Packet.{Packet}
use Rattle.wire_messages.specs.declared.body.Body.{Body}
use Rattle.wire_messages.specs.declared.body.Body.TheVariants as body
use Rattle.role_steps.specs.Own.{Every}
use Rattle.role_steps.specs.Tables.{first_that, without_row}
use Rattle.role_steps.specs.Views.{SiteView, Outcome, Receives, Ticks, GivesUp, boot_in, all_sites}
use Rattle.role_steps.specs.Epochs.{polled_sites, has_promised, unanswered}
use Rattle.role_steps.specs.declared.rounds.InEpoch.{InEpoch}
use Rattle.role_steps.specs.declared.rounds.Promise.{Promise}
use Rattle.role_steps.specs.declared.rounds.Round.{Round}
use Rattle.the_run.specs.Joins.{IsAtMost}
use Rattle.the_run.specs.Kept.{Among}
use Rattle.the_run.specs.Steps.{is_forming, is_framed, is_dropped, step}
use Rattle.the_run.specs.Worlds.{World, Running, Numbered, number_of, place_at, CutCircuit, is_between, is_cut, is_up, links_of, passed, acts}
use Rattle.the_run.specs.Runs.{can_come, next_packet, next_packet_of, settles}
use Rattle.the_run.proofs.Boots.{at_each}
use Rattle.the_run.proofs.InsideSync.{every_without}
use Rattle.run_laws.specs.Epochs.Known.{IsKnown, NumberedFact, Good}
use Rattle.run_laws.proofs.Epochs.Run.{good_kept, view_outside}
use Rattle.row_laws.specs.Orderly.Agreeing.{Agrees}
use Rattle.row_laws.specs.Orderly.Effects.{IsAnswer}
use Rattle.row_laws.specs.Orderly.Numbers.{NumbersAscend}
use Rattle.row_laws.specs.Orderly.Quiet.{IsDead, OnPoll, DeadPoll, IsQuiet}
use Rattle.row_laws.specs.Orderly.Rounds.{Unbroken, Ran}
use Rattle.row_laws.specs.Orderly.Settling.{Starts, boot_at, is_chosen, AreApart, IsPollBody, IsInstallBody, Carried, Taken, Covered, OpenFact, Undecided, Follows, DecidedFact, asked_boot, Decided, RowState, IsLive, PollOk, Settling}
use Rattle.row_laws.specs.Orderly.Turn.{Comes, Turn}
use Rattle.row_laws.proofs.Orderly.Choosing.{site_low, site_high}
use Rattle.row_laws.proofs.Orderly.Numbers.{one_of_number, stays_without, left_without, ascend_kept}
use Rattle.row_laws.proofs.Orderly.Places.{view_eq, boot_here, runs, links_same, link_boot, cut_swap, is_up_linked}
use Rattle.row_laws.proofs.Orderly.Rounded.{filter_passes, filter_among}
use Rattle.row_laws.proofs.Orderly.Rounds.{acts_ran, budget_broken, RoundKept, Ended, settles_kept}
use Rattle.row_laws.proofs.Orderly.SettleTurn.{tick_turn, packet_turn}
use Rattle.row_laws.proofs.Orderly.Quiet.{every_pair}

-- ---- one event of the round ----

ticks_receives : (p : Packet) → Ticks ≡ Receives p → ⊥
ticks_receives p e = cc

ticks_gives : Ticks ≡ GivesUp → ⊥
ticks_gives e = cc

receives_gives : (p : Packet) → Receives p ≡ GivesUp → ⊥
receives_gives p e = cc

receives_eq : (p q : Packet) → Receives p ≡ Receives q → p ≡ q
receives_eq p q e = cc

tick_of : (c : Config) (n : ℕ) (first w u : World) (s : ℕ) (v : SiteView) → links_of w s ≡ links_of first s → place_at w s ≡ Some (Running v) → Ran n s (step c s (links_of w s) v Ticks) w u → Turn c first w u s v Ticks
tick_of c n first w u s v links here ran =
    let r : Ran n s (step c s (links_of first s) v Ticks) w u = subst (λ (l : Links). Ran n s (step c s l v Ticks) w u) links ran in
    record { here = here; now = r.here; others = r.others; circuits = r.circuits; under = w.underway; count = w.packets + 1; underway = r.underway; sent = r.sent; was = λ y a. a; stays = λ y a. inl a; comes = λ p e. absurd (ticks_receives p e); given = ticks_gives }

packet_of : (c : Config) (n : ℕ) (first w u : World) (x : Numbered) (v : SiteView) → links_of w x.packet.to ≡ links_of first x.packet.to → place_at w x.packet.to ≡ Some (Running v) → NumbersAscend w → Among x w.underway → is_dropped x.packet v ≡ false →
    Ran n x.packet.to (step c x.packet.to (links_of w x.packet.to) v (Receives x.packet)) (passed x.number w) u → Turn c first w u x.packet.to v (Receives x.packet)
packet_of c n first w u x v links here ascend a undropped ran =
    let r : Ran n x.packet.to (step c x.packet.to (links_of first x.packet.to) v (Receives x.packet)) (passed x.number w) u = subst (λ (l : Links). Ran n x.packet.to (step c x.packet.to l v (Receives x.packet)) (passed x.number w) u) links ran in
    record {
      here = here;
      now = r.here;
      others = r.others;
      circuits = r.circuits;
      under = without_row number_of x.number w.underway;
      count = w.packets + 1;
      underway = r.underway;
      sent = r.sent;
      was = λ y b. left_without number_of x.number w.underway y b;
      stays = λ y b. at_each y.number x.number (Among y (without_row number_of x.number w.underway) ⊎ (Receives x.packet ≡ Receives y.packet))
          (λ e. inr (ap (λ (z : Numbered). Receives z.packet) (sym (one_of_number w.underway ascend.ascend y x b a e)))) (λ ne. inl (stays_without x.number w.underway y b (λ e. absurd (ne e))));
      comes = λ p e. subst (Comes w x.packet.to v) (receives_eq x.packet p e) (record { letter = x; there = a; is = refl; to = refl; undropped = undropped });
      given = receives_gives x.packet;
    }

-- ---- a packet that is dropped ----

forming_kept : (p : Packet) (v : SiteView) → p.to_boot ≡ v.boot → nat_lt (kind_number p.body) 6 ≡ true → is_dropped p v ≡ true → ⊥
forming_kept p v boot form d = true_false (sym (kept (p.to_boot == v.boot) (is_forming p) (is_framed p v.epoch) (equal p.to_boot v.boot boot) form) ∙ d)
  where
    equal : (a b : ℕ) → a ≡ b → (a == b) ≡ true
    equal a b e = grind (arith, nat_tests)

    kept : (x y z : Bool) → x ≡ true → y ≡ true → not (x && (y || z)) ≡ false
    kept true true z h k = refl
    kept true false z h k = absurd (cc)
    kept false y z h k = absurd (cc)

    true_false : false ≡ true → ⊥
    true_false e = cc

poll_forms : (b : Body) → IsPollBody b → nat_lt (kind_number b) 6 ≡ true
poll_forms body.Poll h = refl
poll_forms _ h = absurd h

answer_forms : (b : Body) → IsAnswer b → nat_lt (kind_number b) 6 ≡ true
answer_forms (body.Promise reach) h = refl
answer_forms (body.Refuse theirs) h = refl
answer_forms _ h = absurd h

install_forms : (b : Body) → IsInstallBody b → nat_lt (kind_number b) 6 ≡ true
install_forms (body.Install members) h = refl
install_forms _ h = absurd h

-- a packet by which sites agree isn't dropped, so it stays when another one is
carried_stays : (w : World) (x : Numbered) (id : EpochId) (from from_boot to to_boot : ℕ) (kind : Body → Type 0) (v : SiteView) → NumbersAscend w → Among x w.underway → ((b : Body) → kind b → nat_lt (kind_number b) 6 ≡ true) → place_at w to ≡ Some (Running v) → v.boot ≡ to_boot →
    ((z : SiteView) → place_at w x.packet.to ≡ Some (Running z) → is_dropped x.packet z ≡ true) → Carried w.underway id from from_boot to to_boot kind → Carried (without_row number_of x.number w.underway) id from from_boot to to_boot kind
carried_stays w x id from from_boot to to_boot kind v ascend a forms here boot dropped k =
    record { letter = k.letter; there = stays_without x.number w.underway k.letter k.there same; is_kind = k.is_kind; epoch = k.epoch; from_is = k.from_is; from_boot_is = k.from_boot_is; to_is = k.to_is; to_boot_is = k.to_boot_is }
  where
    same : k.letter.number ≡ x.number → ⊥
    same e =
        let is : k.letter ≡ x = one_of_number w.underway ascend.ascend k.letter x k.there a e in
        let to_x : x.packet.to ≡ to = ap (λ (y : Numbered). y.packet.to) (sym is) ∙ k.to_is in
        forming_kept x.packet v (ap (λ (y : Numbered). y.packet.to_boot) (sym is) ∙ (k.to_boot_is ∙ sym boot)) (ap (λ (y : Numbered). nat_lt (kind_number y.packet.body) 6) (sym is) ∙ forms k.letter.packet.body k.is_kind) (dropped v (ap (place_at w) to_x ∙ here))

-- a site that is asked runs in that boot
asked_runs : (first w : World) (R : Starts) (X : ℕ) (P : Links) (y : ℕ) → AreApart first R → Settling first R w → R X P → boot_in P.boot y ≢ 0 → (v : SiteView) × (place_at w y ≡ Some (Running v)) × (v.boot ≡ boot_in P.boot y)
asked_runs first w R X P y apart st r some =
    let e : boot_in P.boot y ≡ boot_in (links_of first X).boot y = apart.linked X P y r some in
    let b : boot_in P.boot y ≡ boot_at first y = e ∙ (link_boot first X y (λ z. some (e ∙ z))).0 in
    let k : (v : SiteView) × (place_at w y ≡ Some (Running v)) × (v.boot ≡ boot_at w y) = runs (place_at w y) (λ z. some (b ∙ (sym (st.boots y) ∙ z))) in
    (k.0, k.1, k.2 ∙ (st.boots y ∙ sym b))

row_stays : (first w : World) (R : Starts) (x : Numbered) (X : ℕ) (P : Links) → AreApart first R → Settling first R w → NumbersAscend w → Among x w.underway → ((z : SiteView) → place_at w x.packet.to ≡ Some (Running z) → is_dropped x.packet z ≡ true) → R X P →
    RowState first (place_at w) w.underway X P → RowState first (place_at w) (without_row number_of x.number w.underway) X P
row_stays first w R x X P apart st ascend a dropped r row = record { view = row.view; here = row.here; state = by_state row.state }
  where
    under : List Numbered
    under = without_row number_of x.number w.underway

    poll_stays : (id : EpochId) (y : ℕ) → boot_in P.boot y ≢ 0 → Carried w.underway id X row.view.boot y (boot_in P.boot y) IsPollBody → Carried under id X row.view.boot y (boot_in P.boot y) IsPollBody
    poll_stays id y some k = (let z : (v : SiteView) × (place_at w y ≡ Some (Running v)) × (v.boot ≡ boot_in P.boot y) = asked_runs first w R X P y apart st r some in carried_stays w x id X row.view.boot y (boot_in P.boot y) IsPollBody z.0 ascend a poll_forms z.1 z.2 dropped k)

    install_stays : (id : EpochId) (y : ℕ) → boot_in P.boot y ≢ 0 → Carried w.underway id X row.view.boot y (boot_in P.boot y) IsInstallBody → Carried under id X row.view.boot y (boot_in P.boot y) IsInstallBody
    install_stays id y some k = (let z : (v : SiteView) × (place_at w y ≡ Some (Running v)) × (v.boot ≡ boot_in P.boot y) = asked_runs first w R X P y apart st r some in carried_stays w x id X row.view.boot y (boot_in P.boot y) IsInstallBody z.0 ascend a install_forms z.1 z.2 dropped k)

    covers : (q : Round) (y : ℕ) → boot_in P.boot y ≢ 0 → Covered w.underway X row.view.boot P q y → Covered under X row.view.boot P q y
    covers q y some (inl k) = inl k
    covers q y some (inr (inl k)) = inr (inl (poll_stays q.id y some k))
    covers q y some (inr (inr k)) = inr (inr (carried_stays w x q.id y (boot_in P.boot y) X row.view.boot IsAnswer row.view ascend a answer_forms row.here refl dropped k))

    by_member : (e : InEpoch) (y : ℕ) → boot_in P.boot y ≢ 0 → (v : SiteView) → ((boot_in e.members.boot y ≡ boot_in P.boot y) × (v.epoch ≡ Some e)) ⊎ ((v.installed ≡ false) × (boot_in e.members.boot y ≢ 0 → (boot_in e.members.boot y ≡ boot_in P.boot y) × Carried w.underway e.id X row.view.boot y (boot_in P.boot y) IsInstallBody)) →
        ((boot_in e.members.boot y ≡ boot_in P.boot y) × (v.epoch ≡ Some e)) ⊎ ((v.installed ≡ false) × (boot_in e.members.boot y ≢ 0 → (boot_in e.members.boot y ≡ boot_in P.boot y) × Carried under e.id X row.view.boot y (boot_in P.boot y) IsInstallBody))
    by_member e y some v (inl g) = inl g
    by_member e y some v (inr g) = inr (g.0, λ m. ((g.1 m).0, install_stays e.id y some (g.1 m).1))

    by_state : ((q : Round) × Undecided first (place_at w) w.underway X P row.view q) ⊎ ((d : InEpoch) × Decided first (place_at w) w.underway X P row.view d) → ((q : Round) × Undecided first (place_at w) under X P row.view q) ⊎ ((d : InEpoch) × Decided first (place_at w) under X P row.view d)
    by_state (inl k) = (let h : Undecided first (place_at w) w.underway X P row.view k.0 = k.1 in inl (k.0, record { round = h.round; polled = h.polled; covered = λ y some. covers k.0 y some (h.covered y some); taken = h.taken; ascend = h.ascend; packets = every_without (OpenFact first (place_at w) P k.0.id) number_of x.number w.underway h.packets; nobody = h.nobody }))
    by_state (inr k) = (let h : Decided first (place_at w) w.underway X P row.view k.0 = k.1 in inr (
      k.0,
      record {
        epoch = h.epoch;
        own = h.own;
        exactly = h.exactly;
        follows = λ y some. (let f : Follows (place_at w) w.underway X row.view.boot P k.0 y = h.follows y some in record { view = f.view; here = f.here; boot_is = f.boot_is; promised = f.promised; state = by_member k.0 y some f.view f.state });
        packets = every_without (DecidedFact k.0) number_of x.number w.underway h.packets;
        alike = h.alike;
      },
    ))

drops_settling : (first w : World) (R : Starts) (x : Numbered) → AreApart first R → NumbersAscend w → Among x w.underway → ((z : SiteView) → place_at w x.packet.to ≡ Some (Running z) → is_dropped x.packet z ≡ true) → Settling first R w → Settling first R (passed x.number w)
drops_settling first w R x apart ascend a dropped st = record {
  boots = st.boots;
  circuits = st.circuits;
  sent = st.sent;
  underway = every_without (PollOk first R (place_at w)) number_of x.number w.underway st.underway;
  rounds = st.rounds;
  rows = λ X P r. row_stays first w R x X P apart st ascend a dropped r (st.rows X P r);
}

-- ---- the round ----

-- what stands at each moment of it
pub record InRound (first : World) (R : Starts) (n : ℕ) (w : World) : Type 0 where
  pub good : Good w
  pub ascend : NumbersAscend w
  pub settling : Unbroken n w → Settling first R w

pub round_kept : (c : Config) (n : ℕ) (first : World) (R : Starts) → AreApart first R → RoundKept c n (InRound first R n)
round_kept c n first R apart = record {
  ticks = λ s v w here h. record {
    good = (good_kept c).steps n s Ticks v w here tt h.good;
    ascend = (ascend_kept c).steps n s Ticks v w here tt h.ascend;
    settling = λ k. (let r : Ran n s (step c s (links_of w s) v Ticks) w (acts n s v (step c s (links_of w s) v Ticks) w) = acts_ran n s v (step c s (links_of w s) v Ticks) w k in
        let st : Settling first R w = h.settling r.before in
        tick_turn c first w (acts n s v (step c s (links_of w s) v Ticks) w) R s v apart st h.good (tick_of c n first w (acts n s v (step c s (links_of w s) v Ticks) w) s v (links_same first w s st.boots st.circuits) here r));
  };
  receives = λ x v w here a undropped h. record {
    good = (good_kept c).receives n x v w here (inr a) h.good;
    ascend = (ascend_kept c).receives n x v w here (inr a) h.ascend;
    settling = λ k. taken x v w here a undropped h k;
  };
  drops = λ x w a dropped h. record {
    good = (good_kept c).passes x.number w h.good;
    ascend = (ascend_kept c).passes x.number w h.ascend;
    settling = λ k. drops_settling first w R x apart h.ascend a dropped (h.settling (record { within = k.within; whole = k.whole }));
  };
  budgets = λ w h. record {
    good = (good_kept c).budgets n w h.good;
    ascend = (ascend_kept c).budgets n w h.ascend;
    settling = λ k. absurd (budget_broken n w k);
  };
}
  where
    taken : (x : Numbered) (v : SiteView) (w : World) → place_at w x.packet.to ≡ Some (Running v) → Among x w.underway → is_dropped x.packet v ≡ false → InRound first R n w →
        Unbroken n (acts n x.packet.to v (step c x.packet.to (links_of (passed x.number w) x.packet.to) v (Receives x.packet)) (passed x.number w)) → Settling first R (acts n x.packet.to v (step c x.packet.to (links_of (passed x.number w) x.packet.to) v (Receives x.packet)) (passed x.number w))
    taken x v w here a undropped h k =
        let o : Outcome SiteView = step c x.packet.to (links_of w x.packet.to) v (Receives x.packet) in
        let u : World = acts n x.packet.to v o (passed x.number w) in
        let r : Ran n x.packet.to o (passed x.number w) u = acts_ran n x.packet.to v o (passed x.number w) k in
        let st : Settling first R w = h.settling (record { within = r.before.within; whole = r.before.whole }) in
        packet_turn c first w u R x.packet.to v x.packet apart st h.good (packet_of c n first w u x v (links_same first w x.packet.to st.boots st.circuits) here h.ascend a undropped r)

-- ---- its end ----

none_comes : (test : Numbered → Bool) (xs : List Numbered) → first_that test xs ≡ None → (y : Numbered) → Among y xs → test y ≡ true → ⊥
none_comes test [] h y a t = a
none_comes test (x ∷ xs) h y a t =
    (elim (test x) as (λ b. test x ≡ b → ◌≡◌ {A = Option Numbered} (elim b [ true ↦ Some x | false ↦ first_that test xs ]) None → ⊥) [
      | true ↦ λ e f. none_some x (sym f)
      | false ↦ λ e f. later e (none_comes test xs f y) a
    ]) refl h
  where
    true_false : true ≡ false → ⊥
    true_false k = cc

    later : test x ≡ false → (Among y xs → test y ≡ true → ⊥) → Among y (x ∷ xs) → ⊥
    later e g (inl k) = true_false (sym t ∙ (ap test k ∙ e))
    later e g (inr k) = g k t

any_there : (ps : List Promise) (p : Promise) (y : ℕ) → Among p ps → p.site ≡ y → list_any (λ (q : Promise). q.site == y) ps ≡ true
any_there [] p y a e = absurd a
any_there (q ∷ qs) p y (inl k) e = ap (λ (b : Bool). b || list_any (λ (x : Promise). x.site == y) qs) (equal q.site y (ap (λ (x : Promise). x.site) (sym k) ∙ e))
  where
    equal : (a b : ℕ) → a ≡ b → (a == b) ≡ true
    equal a b f = grind (arith, nat_tests)
any_there (q ∷ qs) p y (inr k) e = ap (λ (b : Bool). (q.site == y) || b) (any_there qs p y k e) ∙ or_true (q.site == y)
  where
    or_true : (b : Bool) → (b || true) ≡ true
    or_true true = refl
    or_true false = refl

pub ends_quiet : (first u : World) (R : Starts) → AreApart first R → Good u → Settling first R u → first_that (can_come u) u.underway ≡ None → ((X : ℕ) (P : Links) → R X P → Agrees first u X P) × IsQuiet u
ends_quiet first u R apart good st none = (agrees, quiet)
  where
    -- nothing is carried between a site that starts and one that it asks
    between : (X y : ℕ) (P : Links) (z : Numbered) → R X P → boot_in P.boot y ≢ 0 → Among z u.underway → ((z.packet.from ≡ X) × (z.packet.to ≡ y)) ⊎ ((z.packet.from ≡ y) × (z.packet.to ≡ X)) → ⊥
    between X y P z r some there way = none_comes (can_come u) u.underway none z there (by_way way)
      where
        linked : boot_in (links_of first X).boot y ≢ 0
        linked k = some (apart.linked X P y r some ∙ k)

        uncut : is_cut u X y ≡ false
        uncut = ap (λ (xs : List CutCircuit). list_any (is_between X y) xs) st.circuits ∙ (link_boot first X y linked).1

        mine : boot_at u X ≢ 0
        mine k = apart.itself X P r ((link_boot first X X (apart.itself X P r)).0 ∙ (sym (st.boots X) ∙ k))

        theirs : boot_at u y ≢ 0
        theirs k = linked ((link_boot first X y linked).0 ∙ (sym (st.boots y) ∙ k))

        by_way : ((z.packet.from ≡ X) × (z.packet.to ≡ y)) ⊎ ((z.packet.from ≡ y) × (z.packet.to ≡ X)) → can_come u z ≡ true
        by_way (inl k) = ap (λ (f : ℕ). is_up u f z.packet.to) k.0 ∙ (ap (is_up u X) k.1 ∙ is_up_linked u X y mine theirs uncut)
        by_way (inr k) = ap (λ (f : ℕ). is_up u f z.packet.to) k.0 ∙ (ap (is_up u y) k.1 ∙ is_up_linked u y X theirs mine (sym (cut_swap u X y) ∙ uncut))

    decided : (X : ℕ) (P : Links) → R X P → (x : SiteView) × (place_at u X ≡ Some (Running x)) × ((d : InEpoch) × Decided first (place_at u) u.underway X P x d)
    decided X P r = by_state (st.rows X P r).state
      where
        row : RowState first (place_at u) u.underway X P
        row = st.rows X P r

        never : (q : Round) → Undecided first (place_at u) u.underway X P row.view q → (xs : List ℕ) → unanswered q ≡ xs → ⊥
        never q h [] e = (good.views X row.view row.here).missing q h.round e
        never q h (y ∷ ys) e = by_cover (h.covered y some)
          where
            there : Among y (unanswered q)
            there = subst (λ (xs : List ℕ). Among y xs) (sym e) (inl refl)

            some : boot_in P.boot y ≢ 0
            some z = true_false (sym (filter_passes (λ s. not (boot_in q.polled.boot s == 0)) y all_sites (filter_among (λ s. not (has_promised q s)) y (polled_sites q.polled) there)) ∙ zero (boot_in q.polled.boot y) (h.polled y ∙ z))
              where
                zero : (n : ℕ) → n ≡ 0 → not (n == 0) ≡ false
                zero n k = grind (arith, nat_tests)

                true_false : true ≡ false → ⊥
                true_false k = cc

            taken : Taken q y → ⊥
            taken k = true_false (sym (filter_passes (λ s. not (has_promised q s)) y (polled_sites q.polled) there) ∙ ap not (any_there q.promises k.promise y k.there k.of))
              where
                true_false : true ≡ false → ⊥
                true_false k = cc

            by_cover : Covered u.underway X row.view.boot P q y → ⊥
            by_cover (inl k) = taken k
            by_cover (inr (inl k)) = between X y P k.letter r some k.there (inl (k.from_is, k.to_is))
            by_cover (inr (inr k)) = between X y P k.letter r some k.there (inr (k.from_is, k.to_is))

        by_state : ((q : Round) × Undecided first (place_at u) u.underway X P row.view q) ⊎ ((d : InEpoch) × Decided first (place_at u) u.underway X P row.view d) → (x : SiteView) × (place_at u X ≡ Some (Running x)) × ((d : InEpoch) × Decided first (place_at u) u.underway X P x d)
        by_state (inl k) = absurd (never k.0 k.1 (unanswered k.0) refl)
        by_state (inr k) = (row.view, row.here, k)

    agrees : (X : ℕ) (P : Links) → R X P → Agrees first u X P
    agrees X P r = record {
      epoch = d;
      own = h.own;
      exactly = h.exactly;
      itself = record { view = k.0; here = k.1; epoch = h.epoch };
      members = λ y some chosen. (let f : Follows (place_at u) u.underway X k.0.boot P d y = h.follows y some in record { view = f.view; here = f.here; epoch = inside y some f chosen f.state });
      others = λ y some out. (let f : Follows (place_at u) u.underway X k.0.boot P d y = h.follows y some in record { view = f.view; here = f.here; epoch = outside y some f out f.state });
    }
      where
        k : (x : SiteView) × (place_at u X ≡ Some (Running x)) × ((d : InEpoch) × Decided first (place_at u) u.underway X P x d)
        k = decided X P r

        d : InEpoch
        d = k.2.0

        h : Decided first (place_at u) u.underway X P k.0 d
        h = k.2.1

        boot_of_member : (y : ℕ) → boot_in P.boot y ≢ 0 → boot_in d.members.boot y ≡ cond (is_chosen first X P y) (asked_boot first X P y) 0
        boot_of_member y some = h.exactly y (site_low P.boot y some) (site_high (boot_in P.boot y) y some (apart.sized X P y r))

        asked : (y : ℕ) → boot_in P.boot y ≢ 0 → asked_boot first X P y ≡ boot_in P.boot y
        asked y some = ap (λ (b : Bool). cond b (boot_at first X) (boot_in P.boot y)) (apart_test y X (λ e. some (ap (boot_in P.boot) e ∙ apart.others X P X P r r)))
          where
            apart_test : (a b : ℕ) → (a ≡ b → ⊥) → (a == b) ≡ false
            apart_test a b ne = by_test (a == b) refl
              where
                by_test : (t : Bool) → (a == b) ≡ t → t ≡ false
                by_test true e = absurd (ne (equal a b e))
                  where
                    equal : (a b : ℕ) → (a == b) ≡ true → a ≡ b
                    equal a b e = grind (arith, nat_tests)
                by_test false e = refl

        State : (y : ℕ) → SiteView → Type 0
        State y z = ((boot_in d.members.boot y ≡ boot_in P.boot y) × (z.epoch ≡ Some d)) ⊎ ((z.installed ≡ false) × (boot_in d.members.boot y ≢ 0 → (boot_in d.members.boot y ≡ boot_in P.boot y) × Carried u.underway d.id X k.0.boot y (boot_in P.boot y) IsInstallBody))

        inside : (y : ℕ) → boot_in P.boot y ≢ 0 → (f : Follows (place_at u) u.underway X k.0.boot P d y) → is_chosen first X P y ≡ true → State y f.view → f.view.epoch ≡ Some d
        inside y some f chosen (inl g) = g.1
        inside y some f chosen (inr g) =
            let e : boot_in d.members.boot y ≡ boot_in P.boot y = boot_of_member y some ∙ (ap (λ (b : Bool). cond b (asked_boot first X P y) 0) chosen ∙ asked y some) in
            let c : Carried u.underway d.id X k.0.boot y (boot_in P.boot y) IsInstallBody = (g.1 (λ z. some (sym e ∙ z))).1 in
            absurd (between X y P c.letter r some c.there (inl (c.from_is, c.to_is)))

        outside : (y : ℕ) → boot_in P.boot y ≢ 0 → (f : Follows (place_at u) u.underway X k.0.boot P d y) → is_chosen first X P y ≡ false → State y f.view → f.view.epoch ≡ None
        outside y some f out (inl g) = absurd (some (sym g.0 ∙ (boot_of_member y some ∙ ap (λ (b : Bool). cond b (asked_boot first X P y) 0) out)))
        outside y some f out (inr g) = view_outside (place_at u) y f.view (good.views y f.view f.here) g.0

    quiet : IsQuiet u
    quiet = record { rounds = λ s v here. by_round s v here v.round refl; sent = every_dead u.sent good.packets st.sent; underway = every_dead u.underway good.underway st.underway }
      where
        by_round : (s : ℕ) (v : SiteView) → place_at u s ≡ Some (Running v) → (o : Option Round) → v.round ≡ o → v.round ≡ None
        by_round s v here None e = e
        by_round s v here (Some q) e =
            let m : (P : Links) × R s P = st.rounds s v q here e in
            let k : (x : SiteView) × (place_at u s ≡ Some (Running x)) × ((d : InEpoch) × Decided first (place_at u) u.underway s m.0 x d) = decided s m.0 m.1 in
            absurd (none_some k.2.0 (sym (view_outside (place_at u) s v (good.views s v here) ((good.views s v here).round q e).joins_later) ∙ (ap (λ (x : SiteView). x.epoch) (view_eq (place_at u s) v k.0 here k.1) ∙ k.2.1.epoch)))

        live_dead : (p : Packet) → IsKnown (place_at u) p.epoch → IsLive first R p → IsDead (place_at u) p
        live_dead p known l v here same =
            let k : (x : SiteView) × (place_at u p.epoch.site ≡ Some (Running x)) × ((d : InEpoch) × Decided first (place_at u) u.underway p.epoch.site l.polled x d) = decided p.epoch.site l.polled l.starts in
            let f : Follows (place_at u) u.underway p.epoch.site k.0.boot l.polled k.2.0 p.to = k.2.1.follows p.to (λ z. l.some (sym l.asked ∙ z)) in
            let top : IsAtMost p.epoch k.0.promised = known.risen k.0 k.1 (sym (boot_here u p.epoch.site k.0 k.1) ∙ (st.boots p.epoch.site ∙ sym l.boot)) in
            let e : v.promised ≡ k.2.0.id = ap (λ (x : SiteView). x.promised) (view_eq (place_at u p.to) v f.view here f.here) ∙ f.promised in
            let g : k.2.0.id ≡ k.0.promised = ((good.views p.epoch.site k.0 k.1).inside k.2.0 k.2.1.epoch).0 in
            subst (λ (i : EpochId). IsAtMost p.epoch i) (sym (e ∙ g)) top

        by_body : (p : Packet) (x : Body) → IsKnown (place_at u) p.epoch → OnPoll (IsDead (place_at u) p ⊎ IsLive first R p) x → OnPoll (IsDead (place_at u) p) x
        by_body p body.Poll known (inl k) = k
        by_body p body.Poll known (inr k) = live_dead p known k
        by_body p _ known k = tt

        every_dead : (xs : List Numbered) → Every (NumberedFact (place_at u)) xs → Every (PollOk first R (place_at u)) xs → Every (DeadPoll (place_at u)) xs
        every_dead xs f h = every_pair (NumberedFact (place_at u)) (PollOk first R (place_at u)) (DeadPoll (place_at u)) xs (λ x k m. by_body x.packet x.packet.body k.0 m) f h

next_of : (u : World) → u.over ≡ None → next_packet u ≡ None → first_that (can_come u) u.underway ≡ None
next_of u e h = sym (ap (next_packet_of u) e) ∙ h

-- A round after a block that isn't cut short.
pub round_settles : (c : Config) (n most : ℕ) (first w : World) (R : Starts) → AreApart first R → InRound first R n w → Unbroken n (settles c n most w) → ((X : ℕ) (P : Links) → R X P → Agrees first (settles c n most w) X P) × IsQuiet (settles c n most w)
round_settles c n most first w R apart h k = by_end r.1
  where
    r : InRound first R n (settles c n most w) × Ended n (settles c n most w)
    r = settles_kept c n (InRound first R n) (round_kept c n first R apart) most w h

    by_end : Ended n (settles c n most w) → ((X : ℕ) (P : Links) → R X P → Agrees first (settles c n most w) X P) × IsQuiet (settles c n most w)
    by_end (inl e) = ends_quiet first (settles c n most w) R apart r.0.good (r.0.settling k) (next_of (settles c n most w) k.within e)
    by_end (inr e) = absurd (budget_broken n e.0 (subst (Unbroken n) e.1 k))
