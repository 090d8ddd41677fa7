-- What one event of a round leaves at a site that starts and hasn't decided yet, where it has the event itself.
use Rattle.std.proofs.Common.{◌≡◌, ◌≢◌, ℕ, ◌+◌, ◌≤◌, ◌==◌, ◌⊎◌, Bool, true, false, cond, ◌||◌, not, List, Some, refl, sym, ◌∙◌, ap, subst, inl, inr, arith}
use Rattle.std.proofs.lemmas.Bool.Decides.{nat_tests}
use Rattle.role_steps.proofs.of_plain_facts.Numbers.{not_zero_test}
use Rattle.role_steps.proofs.of_plain_facts.Options.{none_some, some_same}
use Rattle.locus_ids.specs.declared.ids.EpochId.{EpochId}
use Rattle.locus_ids.specs.declared.sites.Members.{Members}
use Rattle.locus_ids.specs.declared.sites.Links.{Links}
use Rattle.locus_ids.specs.declared.config.Config.{Config}
use Rattle.locus_ids.specs.Sizes.{sites_max}
use Rattle.wire_messages.specs.declared.packet.Packet.{Packet}
use Rattle.wire_messages.specs.declared.body.Body.{Body}
use Rattle.wire_messages.specs.declared.body.Body.TheVariants as body
use Rattle.role_steps.specs.Own.{Every}
use Rattle.role_steps.specs.Views.{SiteView, Outcome, Event, Receives, boot_in, all_sites}
use Rattle.role_steps.specs.Epochs.{reached, new_round, poll_packet, polled_sites, round_id, with_promise, is_polled, passed_over, others_of, install_packet}
use Rattle.role_steps.specs.declared.rounds.InEpoch.{InEpoch}
use Rattle.role_steps.specs.declared.rounds.Promise.{Promise}
use Rattle.role_steps.specs.declared.rounds.Round.{Round}
use Rattle.the_run.specs.Joins.{IsAtMost}
use Rattle.the_run.specs.Kept.{Among}
use Rattle.the_run.specs.Steps.{step}
use Rattle.the_run.specs.Worlds.{World, Running, Numbered, place_at, links_of, numbered_from}
use Rattle.the_run.proofs.Boots.{at_each, every_weaker}
use Rattle.run_laws.proofs.Run.{found_among}
use Rattle.run_laws.specs.Epochs.Known.{boots_on, IsKnown, FormFact, NumberedFact, IsOwnRound, Good}
use Rattle.row_laws.specs.Orderly.Effects.{IsAnswer}
use Rattle.row_laws.specs.Orderly.Rounded.{RoundStays, RoundTakes, RoundRestarts, RoundMoves, GoesOn, members_of, Decides, RoundSentCase, RoundSent, Rounded}
use Rattle.row_laws.specs.Orderly.Settling.{Starts, boot_at, is_chosen, AreApart, IsPollBody, IsInstallBody, Carried, Holds, Taken, Covered, IsTrue, OpenBody, OpenFact, PromisesAscend, Undecided, Follows, DecidedBody, DecidedFact, asked_boot, RowState, Settling}
use Rattle.row_laws.specs.Orderly.Turn.{Comes, Turn}
use Rattle.row_laws.proofs.Orderly.Choosing.{site_low, site_high, among_sites, all_taken, every_at, chooses, none_passed}
use Rattle.row_laws.proofs.Orderly.Chosen.{row_every, row_ascends, row_here, row_keeps, filter_every, filter_ascends}
use Rattle.row_laws.proofs.Orderly.Formed.{among_right}
use Rattle.row_laws.proofs.Orderly.Places.{view_eq, boot_here}
use Rattle.row_laws.proofs.Orderly.Rounded.{among_filter}
use Rattle.row_laws.proofs.Orderly.Turns.{among_numbered, come, carried_on, under_now, open_later}

-- ---- a round as it stands before the end of the event ----

-- what stands of a round after the handler
pub record Mid (first w u : World) (s boot : ℕ) (P : Links) (q : Round) : Type 0 where
  pub site : q.id.site ≡ s
  pub polled : (t : ℕ) → boot_in q.polled.boot t ≡ boot_in P.boot t
  pub covered : (t : ℕ) → boot_in P.boot t ≢ 0 → Covered u.underway s boot P q t
  pub taken : Every (IsTrue first (place_at u) P q.id) q.promises
  pub ascend : PromisesAscend q.promises
  pub packets : (y : Numbered) → Among y w.underway → OpenFact first (place_at u) P q.id y
  pub nobody : (t : ℕ) (z : SiteView) (f : InEpoch) → s ≢ t → place_at u t ≡ Some (Running z) → z.epoch ≡ Some f → f.id ≡ q.id → ⊥

pub at_most_not : (a b : EpochId) → IsAtMost a b → b.number + 1 ≤ a.number → ⊥
at_most_not a b h le = absurd (not_below b a h le)
  where
    not_below : (b a : EpochId) → IsAtMost a b → b.number + 1 ≤ a.number → ⊥
    not_below b a h le = grind (arith, nat_tests)

mid_of : (c : Config) (first w u : World) (R : Starts) (s : ℕ) (v : SiteView) (e : Event) → AreApart first R → Good w → Turn c first w u s v e → (P : Links) (r q : Round) → R s P → Undecided first (place_at w) w.underway s P v r →
    RoundMoves s v e r q (step c s (links_of first s) v e).sent → Mid first w u s v.boot P q
mid_of c first w u R s v e apart good t P r q start h moves = by_moves moves
  where
    o : Outcome SiteView
    o = step c s (links_of first s) v e

    own : IsOwnRound (boots_on (place_at w)) s v r
    own = (good.views s v t.here).round r h.round

    itself : boot_in P.boot s ≡ 0
    itself = apart.others s P s P start start

    other_of : (y : ℕ) → boot_in P.boot y ≢ 0 → s ≢ y
    other_of y some eq = some (sym (ap (boot_in P.boot) eq) ∙ itself)

    holds : (y boot : ℕ) (id : EpochId) → s ≢ y → Holds (place_at w) y boot id → Holds (place_at u) y boot id
    holds y boot id ne k = record { view = k.view; here = t.others y ne ∙ k.here; boot_is = k.boot_is; promised = k.promised; waits = k.waits }

    true_on : (p : Promise) → IsTrue first (place_at w) P r.id p → IsTrue first (place_at u) P r.id p
    true_on p k = (k.0, holds p.site (boot_in P.boot p.site) r.id (other_of p.site k.0) k.1, k.2)

    open_on : (y : Numbered) → Among y w.underway → OpenFact first (place_at u) P r.id y
    open_on y a i = open_later first (place_at w) (place_at u) P r.id y.packet y.packet.body (λ z k. holds y.packet.from y.packet.from_boot r.id (other_of y.packet.from z) k) (found_among (OpenFact first (place_at w) P r.id) y w.underway h.packets a i)

    nobody_on : (y : ℕ) (z : SiteView) (f : InEpoch) → s ≢ y → place_at u y ≡ Some (Running z) → z.epoch ≡ Some f → f.id ≡ r.id → ⊥
    nobody_on y z f ne here inside i = h.nobody y z f (sym (t.others y ne) ∙ here) inside i

    -- a poll under way stays so, and an answer does, or comes
    poll_on : (y : ℕ) → boot_in P.boot y ≢ 0 → Carried w.underway r.id s v.boot y (boot_in P.boot y) IsPollBody → Carried u.underway r.id s v.boot y (boot_in P.boot y) IsPollBody
    poll_on y some k = by_case (carried_on c first w u s v e t r.id s v.boot y (boot_in P.boot y) IsPollBody k)
      where
        by_case : Carried u.underway r.id s v.boot y (boot_in P.boot y) IsPollBody ⊎ (e ≡ Receives k.letter.packet) → Carried u.underway r.id s v.boot y (boot_in P.boot y) IsPollBody
        by_case (inl m) = m
        by_case (inr is) = absurd (other_of y some (sym (come c first w u s v e k.letter.packet t is).to ∙ k.to_is))

    stays : RoundStays v e r q → Mid first w u s v.boot P r
    stays m = record { site = own.site; polled = h.polled; covered = λ y some. covers y some (h.covered y some); taken = every_weaker (IsTrue first (place_at w) P r.id) (IsTrue first (place_at u) P r.id) r.promises true_on h.taken; ascend = h.ascend; packets = open_on; nobody = nobody_on }
      where
        covers : (y : ℕ) → boot_in P.boot y ≢ 0 → Covered w.underway s v.boot P r y → Covered u.underway s v.boot P r y
        covers y some (inl k) = inl k
        covers y some (inr (inl k)) = inr (inl (poll_on y some k))
        covers y some (inr (inr k)) = by_case (carried_on c first w u s v e t r.id y (boot_in P.boot y) s v.boot IsAnswer k)
          where
            by_case : Carried u.underway r.id y (boot_in P.boot y) s v.boot IsAnswer ⊎ (e ≡ Receives k.letter.packet) → Covered u.underway s v.boot P r y
            by_case (inl n) = inr (inr n)
            by_case (inr is) = absurd (m.unless k.letter.packet is k.is_kind k.epoch (ap (boot_in r.polled.boot) k.from_is ∙ (h.polled y ∙ sym k.from_boot_is)))

    takes : (m : RoundTakes e r q) → Mid first w u s v.boot P (with_promise m.letter.from m.reach r)
    takes m = record {
      site = own.site;
      polled = h.polled;
      covered = λ y some. covers y some (h.covered y some);
      taken = row_every (IsTrue first (place_at u) P r.id) new r.promises fact (every_weaker (IsTrue first (place_at w) P r.id) (IsTrue first (place_at u) P r.id) r.promises true_on h.taken);
      ascend = row_ascends new r.promises h.ascend;
      packets = open_on;
      nobody = nobody_on;
    }
      where
        new : Promise
        new = record { site = m.letter.from; reach = m.reach }

        k : Comes w s v m.letter
        k = come c first w u s v e m.letter t m.comes

        told : OpenBody first (place_at w) P r.id k.letter.packet (body.Promise m.reach)
        told = subst (OpenBody first (place_at w) P r.id k.letter.packet) (ap (λ (p : Packet). p.body) k.is ∙ m.is_promise) (found_among (OpenFact first (place_at w) P r.id) k.letter w.underway h.packets k.there (ap (λ (p : Packet). p.epoch) k.is ∙ m.id))

        asked : boot_in P.boot m.letter.from ≡ m.letter.from_boot
        asked = sym (h.polled m.letter.from) ∙ m.of

        from_is : k.letter.packet.from ≡ m.letter.from
        from_is = ap (λ (p : Packet). p.from) k.is

        from_boot_is : k.letter.packet.from_boot ≡ m.letter.from_boot
        from_boot_is = ap (λ (p : Packet). p.from_boot) k.is

        fact : IsTrue first (place_at u) P r.id new
        fact =
            let n : Holds (place_at w) k.letter.packet.from k.letter.packet.from_boot r.id × (m.reach ≡ reached (links_of first k.letter.packet.from)) = told.1 (ap (boot_in P.boot) from_is ∙ (asked ∙ sym from_boot_is)) in
            let some : boot_in P.boot m.letter.from ≢ 0 = λ z. told.0 (from_boot_is ∙ (sym asked ∙ z)) in (
              some,
              subst (λ (b : ℕ). Holds (place_at u) m.letter.from b r.id) (from_boot_is ∙ sym asked) (subst (λ (y : ℕ). Holds (place_at u) y k.letter.packet.from_boot r.id) from_is (holds k.letter.packet.from k.letter.packet.from_boot r.id (λ eq. other_of m.letter.from some (eq ∙ from_is)) n.0)),
              n.1 ∙ ap (λ (y : ℕ). reached (links_of first y)) from_is,
            )

        with_new : (y : ℕ) → m.letter.from ≡ y → Taken (with_promise m.letter.from m.reach r) y
        with_new y eq = record { promise = new; there = row_here new r.promises; of = eq }

        covers : (y : ℕ) → boot_in P.boot y ≢ 0 → Covered w.underway s v.boot P r y → Covered u.underway s v.boot P (with_promise m.letter.from m.reach r) y
        covers y some (inl n) = at_each m.letter.from y (Covered u.underway s v.boot P (with_promise m.letter.from m.reach r) y) (λ eq. inl (with_new y eq)) (λ ne. inl (record { promise = n.promise; there = row_keeps new n.promise r.promises n.there (λ z. ne (sym z ∙ n.of)); of = n.of }))
        covers y some (inr (inl n)) = inr (inl (poll_on y some n))
        covers y some (inr (inr n)) = by_case (carried_on c first w u s v e t r.id y (boot_in P.boot y) s v.boot IsAnswer n)
          where
            by_case : Carried u.underway r.id y (boot_in P.boot y) s v.boot IsAnswer ⊎ (e ≡ Receives n.letter.packet) → Covered u.underway s v.boot P (with_promise m.letter.from m.reach r) y
            by_case (inl z) = inr (inr z)
            by_case (inr is) = inl (with_new y (ap (λ (p : Packet). p.from) (receives_eq m.letter n.letter.packet (sym m.comes ∙ is)) ∙ n.from_is))
              where
                receives_eq : (p q : Packet) → Receives p ≡ Receives q → p ≡ q
                receives_eq p q z = cc

    restarts : (m : RoundRestarts s v e r q o.sent) → Mid first w u s v.boot P (new_round (round_id s (m.theirs.number + 1) v) r.polled)
    restarts m = record {
      site = refl;
      polled = h.polled;
      covered = λ y some. inr (inl (carried y some));
      taken = tt;
      ascend = tt;
      packets = λ y a i. absurd (unknown y.packet.epoch (found_among (NumberedFact (place_at w)) y w.underway good.underway a).0 i);
      nobody = λ y z f ne here inside i. unknown f.id (subst (IsKnown (place_at w)) (sym ((good.views y z (sym (t.others y ne) ∙ here)).inside f inside).0) (good.views y z (sym (t.others y ne) ∙ here)).known) i;
    }
      where
        id : EpochId
        id = round_id s (m.theirs.number + 1) v

        k : Comes w s v m.letter
        k = come c first w u s v e m.letter t m.comes

        above : v.promised.number ≤ m.theirs.number
        above = subst (λ (i : EpochId). i.number ≤ m.theirs.number) (ap (λ (p : Packet). p.epoch) k.is ∙ (m.id ∙ own.promised))
            (subst (FormFact (boots_on (place_at w)) k.letter.packet) (ap (λ (p : Packet). p.body) k.is ∙ m.is_refusal) (found_among (NumberedFact (place_at w)) k.letter w.underway good.underway k.there).1)

        -- nobody knows the new id before
        unknown : (i : EpochId) → IsKnown (place_at w) i → i ≡ id → ⊥
        unknown i known same =
            let n : IsKnown (place_at w) id = subst (IsKnown (place_at w)) same known in
            at_most_not id v.promised (n.risen v t.here refl) (omega (arith, above))

        carried : (y : ℕ) → boot_in P.boot y ≢ 0 → Carried u.underway id s v.boot y (boot_in P.boot y) IsPollBody
        carried y some =
            let p : Among y (polled_sites r.polled) = among_filter (λ z. not (boot_in r.polled.boot z == 0)) y all_sites (among_sites y (site_low P.boot y some) (site_high (boot_in P.boot y) y some (apart.sized s P y start))) (not_zero_test (boot_in r.polled.boot y) (λ z. some (sym (h.polled y) ∙ z))) in
            let n : (y' : Numbered) × (Among y' (numbered_from t.count o.sent)) × (y'.packet ≡ poll_packet s v.boot id r.polled y) = among_numbered (poll_packet s v.boot id r.polled y) t.count o.sent (m.polls y p) in
            record {
              letter = n.0;
              there = subst (λ (xs : List Numbered). Among n.0 xs) (sym t.underway) (among_right n.0 t.under (numbered_from t.count o.sent) n.1);
              is_kind = subst (λ (z : Packet). IsPollBody z.body) (sym n.2) tt;
              epoch = ap (λ (z : Packet). z.epoch) n.2;
              from_is = ap (λ (z : Packet). z.from) n.2;
              from_boot_is = ap (λ (z : Packet). z.from_boot) n.2;
              to_is = ap (λ (z : Packet). z.to) n.2;
              to_boot_is = ap (λ (z : Packet). z.to_boot) n.2 ∙ h.polled y;
            }

    by_moves : RoundMoves s v e r q o.sent → Mid first w u s v.boot P q
    by_moves (inl m) = subst (Mid first w u s v.boot P) (sym m.same) (stays m)
    by_moves (inr (inl m)) = subst (Mid first w u s v.boot P) (sym m.same) (takes m)
    by_moves (inr (inr m)) = subst (Mid first w u s v.boot P) (sym m.same) (restarts m)

-- ---- the end of the event ----

pub row_ends : (c : Config) (first w u : World) (R : Starts) (s : ℕ) (v : SiteView) (e : Event) → AreApart first R → boot_at w s ≡ boot_at first s → Good w → Turn c first w u s v e → (P : Links) (q : Round) → R s P → Mid first w u s v.boot P q →
    GoesOn (links_of first s) v q (step c s (links_of first s) v e).view ⊎ Decides s (links_of first s) v q (step c s (links_of first s) v e) → Every (RoundSent s v q (step c s (links_of first s) v e).view) (step c s (links_of first s) v e).sent → RowState first (place_at u) u.underway s P
row_ends c first w u R s v e apart steady good t P q start m ends sent_all = by_ends ends
  where
    o : Outcome SiteView
    o = step c s (links_of first s) v e

    links : Links
    links = links_of first s

    R' : Round
    R' = passed_over links q

    itself : boot_in P.boot s ≡ 0
    itself = apart.others s P s P start start

    polled : (y : ℕ) → boot_in R'.polled.boot y ≡ boot_in P.boot y
    polled = none_passed first R s P q apart start m.polled

    taken : Every (IsTrue first (place_at u) P q.id) R'.promises
    taken = filter_every (IsTrue first (place_at u) P q.id) (is_polled R'.polled) q.promises m.taken

    ascend : PromisesAscend R'.promises
    ascend = filter_ascends (is_polled R'.polled) q.promises m.ascend

    goes_on : GoesOn links v q o.view → RowState first (place_at u) u.underway s P
    goes_on g = record {
      view = o.view;
      here = t.now;
      state = inl (
        R',
        record {
          round = g.round;
          polled = polled;
          covered = λ y some. subst (λ (b : ℕ). Covered u.underway s b P R' y) (sym g.boot) (covers y some (m.covered y some));
          taken = taken;
          ascend = ascend;
          packets = under_now c first w u s v e t (OpenFact first (place_at u) P q.id) (λ (p : Packet). p.epoch ≡ q.id → OpenBody first (place_at u) P q.id p p.body) m.packets (λ y k. k)
              (every_weaker (RoundSent s v q o.view) (λ (p : Packet). p.epoch ≡ q.id → OpenBody first (place_at u) P q.id p p.body) o.sent (λ p k i. opened p p.body k) sent_all);
          nobody = λ y z f here inside i. at_each s y ⊥ (λ eq. none_some f (sym g.outside ∙ subst (λ (x : SiteView). x.epoch ≡ Some f) (view_eq (place_at u s) z o.view (ap (place_at u) eq ∙ here) t.now) inside)) (λ ne. m.nobody y z f ne here inside i);
        },
      );
    }
      where
        covers : (y : ℕ) → boot_in P.boot y ≢ 0 → Covered u.underway s v.boot P q y → Covered u.underway s v.boot P R' y
        covers y some (inl k) = inl (record { promise = k.promise; there = among_filter (is_polled R'.polled) k.promise q.promises k.there (not_zero_test (boot_in R'.polled.boot k.promise.site) (λ z. some (sym (polled y) ∙ (sym (ap (boot_in R'.polled.boot) k.of) ∙ z)))); of = k.of })
        covers y some (inr k) = inr k

        opened : (p : Packet) (x : Body) → RoundSentCase s v q o.view p x → OpenBody first (place_at u) P q.id p x
        opened p (body.Promise reach) k = ((λ z. booted (sym k.1 ∙ z)), λ same. absurd (booted (sym k.1 ∙ (sym same ∙ (ap (boot_in P.boot) k.0 ∙ itself)))))
          where
            booted : v.boot ≡ 0 → ⊥
            booted z = absurd (let b : 1 ≤ v.boot = (good.views s v t.here).booted in omega (arith, b, z))
        opened p (body.Install members) k = none_some (record { id = q.id; members = members }) (sym g.outside ∙ k.1)
        opened p _ k = tt

    decided : Decides s links v q o → RowState first (place_at u) u.underway s P
    decided d = record {
      view = o.view;
      here = t.now;
      state = inr (
        f,
        record {
          epoch = d.epoch;
          own = m.site;
          exactly = exactly;
          follows = λ y some. follows y some;
          packets = under_now c first w u s v e t (DecidedFact f) (λ (p : Packet). p.epoch ≡ q.id → DecidedBody f p.body) (λ y a i. none y.packet y.packet.body (m.packets y a i)) (λ y k. k)
              (every_weaker (RoundSent s v q o.view) (λ (p : Packet). p.epoch ≡ q.id → DecidedBody f p.body) o.sent (λ p k i. sent p p.body k) sent_all);
          alike = λ y z x here inside i. at_each s y (x ≡ f) (λ eq. some_same x f (sym (subst (λ (y : SiteView). y.epoch ≡ Some x) (view_eq (place_at u s) z o.view (ap (place_at u) eq ∙ here) t.now) inside) ∙ d.epoch)) (λ ne. absurd (m.nobody y z x ne here inside i));
        },
      );
    }
      where
        M : Members
        M = members_of s links v q

        f : InEpoch
        f = record { id = q.id; members = M }

        boot : v.boot ≡ boot_at first s
        boot = sym (boot_here w s v t.here) ∙ steady

        exactly : (x : ℕ) → 1 ≤ x → x ≤ sites_max → boot_in M.boot x ≡ cond (is_chosen first s P x) (asked_boot first s P x) 0
        exactly = chooses first R (place_at u) s P v q apart start boot polled taken ascend d.answered

        none : (p : Packet) (x : Body) → OpenBody first (place_at u) P q.id p x → DecidedBody f x
        none p (body.Install members) k = absurd k
        none p _ k = tt

        sent : (p : Packet) (x : Body) → RoundSentCase s v q o.view p x → DecidedBody f x
        sent p (body.Install members) k = ap (λ (y : InEpoch). y.members) (some_same (record { id = q.id; members = members }) f (sym k.1 ∙ d.epoch))
        sent p _ k = tt

        follows : (y : ℕ) → boot_in P.boot y ≢ 0 → Follows (place_at u) u.underway s o.view.boot P f y
        follows y some =
            let k : Taken R' y = all_taken R' y d.answered (λ z. some (sym (polled y) ∙ z)) high in
            let n : IsTrue first (place_at u) P q.id k.promise = every_at (IsTrue first (place_at u) P q.id) R'.promises taken k.promise k.there in
            let g : Holds (place_at u) y (boot_in P.boot y) q.id = subst (λ (x : ℕ). Holds (place_at u) x (boot_in P.boot x) q.id) k.of n.1 in
            record { view = g.view; here = g.here; boot_is = g.boot_is; promised = g.promised; state = inr (g.waits, λ member. (listed member, install member)) }
          where
            high : y ≤ sites_max
            high = site_high (boot_in P.boot y) y some (apart.sized s P y start)

            low : 1 ≤ y
            low = site_low P.boot y some

            ne : y ≡ s → ⊥
            ne eq = some (ap (boot_in P.boot) eq ∙ itself)

            apart_test : (y == s) ≡ false
            apart_test = by_test (y == s) refl
              where
                by_test : (b : Bool) → (y == s) ≡ b → b ≡ false
                by_test true z = absurd (ne (equal y s z))
                  where
                    equal : (a b : ℕ) → (a == b) ≡ true → a ≡ b
                    equal a b z = grind (arith, nat_tests)
                by_test false z = refl

            asked : asked_boot first s P y ≡ boot_in P.boot y
            asked = ap (λ (b : Bool). cond b (boot_at first s) (boot_in P.boot y)) apart_test

            listed : boot_in M.boot y ≢ 0 → boot_in M.boot y ≡ boot_in P.boot y
            listed member = by_chosen (is_chosen first s P y) (exactly y low high)
              where
                by_chosen : (b : Bool) → boot_in M.boot y ≡ cond b (asked_boot first s P y) 0 → boot_in M.boot y ≡ boot_in P.boot y
                by_chosen true z = z ∙ asked
                by_chosen false z = absurd (member z)

            install : boot_in M.boot y ≢ 0 → Carried u.underway q.id s o.view.boot y (boot_in P.boot y) IsInstallBody
            install member =
                let a : Among y (others_of s M) = among_filter (λ x. not ((boot_in M.boot x == 0) || (x == s))) y all_sites (among_sites y low high) (passes (boot_in M.boot y == 0) (y == s) (zero_test (boot_in M.boot y) member) apart_test) in
                let n : (z : Numbered) × (Among z (numbered_from t.count o.sent)) × (z.packet ≡ install_packet s v.boot q.id M y) = among_numbered (install_packet s v.boot q.id M y) t.count o.sent (d.installs y a) in
                record {
                  letter = n.0;
                  there = subst (λ (xs : List Numbered). Among n.0 xs) (sym t.underway) (among_right n.0 t.under (numbered_from t.count o.sent) n.1);
                  is_kind = subst (λ (z : Packet). IsInstallBody z.body) (sym n.2) tt;
                  epoch = ap (λ (z : Packet). z.epoch) n.2;
                  from_is = ap (λ (z : Packet). z.from) n.2;
                  from_boot_is = ap (λ (z : Packet). z.from_boot) n.2 ∙ sym d.boot;
                  to_is = ap (λ (z : Packet). z.to) n.2;
                  to_boot_is = ap (λ (z : Packet). z.to_boot) n.2 ∙ listed member;
                }
              where
                passes : (x y : Bool) → x ≡ false → y ≡ false → not (x || y) ≡ true
                passes false false g k = refl
                passes true y g k = absurd (cc)
                passes false true g k = absurd (cc)

                zero_test : (n : ℕ) → n ≢ 0 → (n == 0) ≡ false
                zero_test n g = grind (arith, nat_tests)

    by_ends : GoesOn links v q o.view ⊎ Decides s links v q o → RowState first (place_at u) u.underway s P
    by_ends (inl g) = goes_on g
    by_ends (inr d) = decided d

pub undecided_own : (c : Config) (first w u : World) (R : Starts) (s : ℕ) (v : SiteView) (e : Event) → AreApart first R → Settling first R w → Good w → Turn c first w u s v e → (P : Links) (r : Round) → R s P → Undecided first (place_at w) w.underway s P v r →
    Rounded s (links_of first s) v e r (step c s (links_of first s) v e) → RowState first (place_at u) u.underway s P
undecided_own c first w u R s v e apart st good t P r start h rd = row_ends c first w u R s v e apart (st.boots s) good t P rd.next start (mid_of c first w u R s v e apart good t P r rd.next start h rd.moves) rd.ends rd.sent

-- the round is of its site, and asks the same sites
pub next_site : (s : ℕ) (v : SiteView) (e : Event) (r q : Round) (sent : List Packet) → r.id.site ≡ s → RoundMoves s v e r q sent → q.id.site ≡ s
next_site s v e r q sent h (inl m) = ap (λ (x : Round). x.id.site) m.same ∙ h
next_site s v e r q sent h (inr (inl m)) = ap (λ (x : Round). x.id.site) m.same ∙ h
next_site s v e r q sent h (inr (inr m)) = ap (λ (x : Round). x.id.site) m.same

pub next_boot : (s : ℕ) (v : SiteView) (e : Event) (r q : Round) (sent : List Packet) → r.id.boot ≡ v.boot → RoundMoves s v e r q sent → q.id.boot ≡ v.boot
next_boot s v e r q sent h (inl m) = ap (λ (x : Round). x.id.boot) m.same ∙ h
next_boot s v e r q sent h (inr (inl m)) = ap (λ (x : Round). x.id.boot) m.same ∙ h
next_boot s v e r q sent h (inr (inr m)) = ap (λ (x : Round). x.id.boot) m.same

pub next_polled : (s : ℕ) (v : SiteView) (e : Event) (r q : Round) (sent : List Packet) → RoundMoves s v e r q sent → q.polled ≡ r.polled
next_polled s v e r q sent (inl m) = ap (λ (x : Round). x.polled) m.same
next_polled s v e r q sent (inr (inl m)) = ap (λ (x : Round). x.polled) m.same
next_polled s v e r q sent (inr (inr m)) = ap (λ (x : Round). x.polled) m.same
