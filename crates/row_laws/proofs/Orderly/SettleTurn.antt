-- Each event of a round keeps what stands since the first line of the block.
use Rattle.std.proofs.Common.{◌≡◌, ◌≢◌, ℕ, ◌≤◌, ◌⊎◌, List, Option, Some, None, refl, sym, ◌∙◌, ap, subst, inl, inr, arith}
use Rattle.role_steps.proofs.of_plain_facts.Options.{none_some, some_same}
use Rattle.locus_ids.specs.declared.ids.EpochId.{EpochId}
use Rattle.locus_ids.specs.declared.sites.Links.{Links}
use Rattle.locus_ids.specs.declared.config.Config.{Config}
use Rattle.wire_messages.specs.declared.packet.Packet.{Packet}
use Rattle.wire_messages.specs.declared.body.Body.{Body}
use Rattle.wire_messages.specs.declared.body.Body.TheVariants as body
use Rattle.role_steps.specs.Own.{Every}
use Rattle.role_steps.specs.Views.{SiteView, Outcome, Event, Receives, Ticks, boot_in}
use Rattle.role_steps.specs.declared.rounds.InEpoch.{InEpoch}
use Rattle.role_steps.specs.declared.rounds.Round.{Round}
use Rattle.role_steps.proofs.Sending.{every_append}
use Rattle.the_run.specs.Joins.{IsAtMost}
use Rattle.the_run.specs.Laws.{boot_on}
use Rattle.the_run.specs.Steps.{step}
use Rattle.the_run.specs.Worlds.{World, Running, Numbered, place_at, boot_of, links_of, numbered_from}
use Rattle.the_run.proofs.Boots.{at_each, every_newest, every_numbered, every_weaker}
use Rattle.run_laws.proofs.Run.{found_among}
use Rattle.run_laws.specs.Epochs.Known.{Places, boots_on, IsKnown, IsOwnRound, FormFact, NumberedFact, Good}
use Rattle.run_laws.proofs.Epochs.Parts.{Fine}
use Rattle.run_laws.proofs.Epochs.Run.{WentOn, Later, links_had, site_of, view_outside}
use Rattle.run_laws.proofs.Epochs.Steps.{EventFact, step_fine}
use Rattle.the_run.proofs.Joining.{same_at_most}
use Rattle.row_laws.specs.Orderly.Effects.{SentCase, Sent, Roundless}
use Rattle.row_laws.specs.Orderly.Quiet.{IsDead, OnPoll}
use Rattle.row_laws.specs.Orderly.Rounded.{GoesOn, Decides, RoundSentCase, RoundSent, Rounded}
use Rattle.row_laws.specs.Orderly.Settling.{Starts, boot_at, AreApart, OpenBody, OpenFact, Undecided, Decided, RowState, IsLive, PollOk, Settling}
use Rattle.row_laws.specs.Orderly.Turn.{Comes, Turn}
use Rattle.row_laws.proofs.Orderly.ApartTurn.{ApartCase, ActsApart, row_apart}
use Rattle.row_laws.proofs.Orderly.DecidedTurn.{decided_own}
use Rattle.row_laws.proofs.Orderly.Effects.{BeginsNone, boot_taken, change_round, step_roundless}
use Rattle.row_laws.proofs.Orderly.OwnTurn.{undecided_own, next_site, next_boot, next_polled}
use Rattle.row_laws.proofs.Orderly.Places.{view_eq, boot_here, links_same}
use Rattle.row_laws.proofs.Orderly.Quiet.{dead_later, every_pair}
use Rattle.row_laws.proofs.Orderly.Rounded.{Stands, Blocked, tick_rounded, taken_rounded}
use Rattle.row_laws.proofs.Orderly.Turns.{every_of, undecided_other, decided_other}

-- ---- promises and boots ----

event_fact : (c : Config) (first w u : World) (s : ℕ) (v : SiteView) (e : Event) → Good w → Turn c first w u s v e → EventFact (IsKnown (place_at w)) (boots_on (place_at w)) e
event_fact c first w u s v e good t = by_event e refl
  where
    by_event : (x : Event) → e ≡ x → EventFact (IsKnown (place_at w)) (boots_on (place_at w)) x
    by_event (Receives p) is =
        let k : Comes w s v p = t.comes p is in
        subst (λ (q : Packet). IsKnown (place_at w) q.epoch × FormFact (boots_on (place_at w)) q q.body) k.is (found_among (NumberedFact (place_at w)) k.letter w.underway good.underway k.there)
    by_event _ is = tt

turn_fine : (c : Config) (first w u : World) (s : ℕ) (v : SiteView) (e : Event) → links_of w s ≡ links_of first s → Good w → Turn c first w u s v e → Fine (IsKnown (place_at w)) (boots_on (place_at w)) s v.boot v.promised (step c s (links_of first s) v e)
turn_fine c first w u s v e links good t =
    step_fine (IsKnown (place_at w)) (boots_on (place_at w)) s v.boot c (links_of first s) v e (subst (λ (l : Links). (x : ℕ) → boot_in l.boot x ≤ boots_on (place_at w) x) links (links_had w s)) (site_of w s v t.here good) (event_fact c first w u s v e good t)

turn_later : (c : Config) (first w u : World) (s : ℕ) (v : SiteView) (e : Event) → links_of w s ≡ links_of first s → Good w → Turn c first w u s v e → Later (place_at w) (place_at u)
turn_later c first w u s v e links good t = record {
  boots = λ y. at_each s y (boots_on (place_at w) y ≤ boots_on (place_at u) y)
      (λ eq. subst (λ (x : ℕ). boots_on (place_at w) x ≤ boots_on (place_at u) x) eq (let a : boots_on (place_at w) s ≡ v.boot = ap boot_on t.here in let b : boots_on (place_at u) s ≡ o.view.boot = ap boot_on t.now in let d : o.view.boot ≡ v.boot = f.view.boot_is in omega (arith, a, b, d)))
      (λ ne. let a : boots_on (place_at u) y ≡ boots_on (place_at w) y = ap boot_on (t.others y ne) in omega (arith, a));
  went = λ y z here. at_each s y (WentOn (place_at w) y z)
      (λ eq. subst (λ (x : ℕ). WentOn (place_at w) x z) eq (inl (v, t.here, sym (f.view.boot_is) ∙ ap (λ (x : SiteView). x.boot) (same eq z here), subst (λ (x : SiteView). IsAtMost v.promised x.promised) (same eq z here) f.rises)))
      (λ ne. inl (z, sym (t.others y ne) ∙ here, refl, same_at_most z.promised));
}
  where
    o : Outcome SiteView
    o = step c s (links_of first s) v e

    f : Fine (IsKnown (place_at w)) (boots_on (place_at w)) s v.boot v.promised o
    f = turn_fine c first w u s v e links good t

    same : {y : ℕ} → s ≡ y → (z : SiteView) → place_at u y ≡ Some (Running z) → o.view ≡ z
    same eq z here = view_eq (place_at u s) o.view z t.now (ap (place_at u) eq ∙ here)

-- ---- polls ----

poll_ok_later : (first : World) (R : Starts) (at now : Places) (p : Packet) (x : Body) → Later at now → FormFact (boots_on at) p x → OnPoll (IsDead at p ⊎ IsLive first R p) x → OnPoll (IsDead now p ⊎ IsLive first R p) x
poll_ok_later first R at now p body.Poll l f (inl d) = inl (dead_later at now p l f.had d)
poll_ok_later first R at now p body.Poll l f (inr d) = inr d
poll_ok_later first R at now p _ l f h = tt

polls_on : (first : World) (R : Starts) (at now : Places) (xs : List Numbered) → Later at now → Every (NumberedFact at) xs → Every (PollOk first R at) xs → Every (PollOk first R now) xs
polls_on first R at now xs l f h = every_pair (NumberedFact at) (PollOk first R at) (PollOk first R now) xs (λ x k d. poll_ok_later first R at now x.packet x.packet.body l k.1 d) f h

-- polls that are sent are of a site that starts
abbrev pub SentOk : World → Starts → Packet → Body → Type 0
SentOk first R p x = OnPoll (IsLive first R p) x

live_ok : (first : World) (R : Starts) (at : Places) (p : Packet) (x : Body) → SentOk first R p x → OnPoll (IsDead at p ⊎ IsLive first R p) x
live_ok first R at p body.Poll h = inr h
live_ok first R at p _ h = tt

-- ---- what an event leaves of all ----

-- the rows, the rounds and the polls that are sent are all that an event may change
pub settling_on : (c : Config) (first w u : World) (R Q : Starts) (s : ℕ) (v : SiteView) (e : Event) → Good w → Settling first R w → ((x : ℕ) (P : Links) → R x P → Q x P) → Turn c first w u s v e →
    ((r : Round) → (step c s (links_of first s) v e).view.round ≡ Some r → (P : Links) × Q s P) → Every (λ (p : Packet). SentOk first Q p p.body) (step c s (links_of first s) v e).sent → ((X : ℕ) (P : Links) → Q X P → RowState first (place_at u) u.underway X P) → Settling first Q u
settling_on c first w u R Q s v e good st more t rounds sent rows = record {
  boots = λ y. at_each s y (boot_at u y ≡ boot_at first y)
      (λ eq. subst (λ (x : ℕ). boot_at u x ≡ boot_at first x) eq (ap boot_of t.now ∙ (f.view.boot_is ∙ (sym (ap boot_of t.here) ∙ st.boots s))))
      (λ ne. ap boot_of (t.others y ne) ∙ st.boots y);
  circuits = t.circuits ∙ st.circuits;
  sent = subst (λ (xs : List Numbered). Every Ok xs) (sym t.sent) (every_newest Ok (numbered_from t.count o.sent) w.sent (every_numbered (λ (p : Packet). OnPoll (IsDead (place_at u) p ⊎ IsLive first Q p) p.body) t.count o.sent added) (polls_on first Q (place_at w) (place_at u) w.sent later good.packets (every_weaker (PollOk first R (place_at w)) (PollOk first Q (place_at w)) w.sent (λ x k. wider x.packet x.packet.body k) st.sent)));
  underway = subst (λ (xs : List Numbered). Every Ok xs) (sym t.underway) (every_append Ok t.under (numbered_from t.count o.sent)
      (every_of Ok t.under (λ y a. poll_ok_later first Q (place_at w) (place_at u) y.packet y.packet.body later (found_among (NumberedFact (place_at w)) y w.underway good.underway (t.was y a)).1 (wider y.packet y.packet.body (found_among (PollOk first R (place_at w)) y w.underway st.underway (t.was y a)))))
      (every_numbered (λ (p : Packet). OnPoll (IsDead (place_at u) p ⊎ IsLive first Q p) p.body) t.count o.sent added));
  rounds = λ y z r here round. at_each s y ((P : Links) × Q y P)
      (λ eq. subst (λ (x : ℕ). (P : Links) × Q x P) eq (rounds r (subst (λ (x : SiteView). x.round ≡ Some r) (view_eq (place_at u s) z o.view (ap (place_at u) eq ∙ here) t.now) round)))
      (λ ne. let k : (P : Links) × R y P = st.rounds y z r (sym (t.others y ne) ∙ here) round in (k.0, more y k.0 k.1));
  rows = rows;
}
  where
    o : Outcome SiteView
    o = step c s (links_of first s) v e

    links : links_of w s ≡ links_of first s
    links = links_same first w s st.boots st.circuits

    f : Fine (IsKnown (place_at w)) (boots_on (place_at w)) s v.boot v.promised o
    f = turn_fine c first w u s v e links good t

    later : Later (place_at w) (place_at u)
    later = turn_later c first w u s v e links good t

    Ok : Numbered → Type 0
    Ok = PollOk first Q (place_at u)

    added : Every (λ (p : Packet). OnPoll (IsDead (place_at u) p ⊎ IsLive first Q p) p.body) o.sent
    added = every_weaker (λ (p : Packet). SentOk first Q p p.body) (λ (p : Packet). OnPoll (IsDead (place_at u) p ⊎ IsLive first Q p) p.body) o.sent (λ p k. live_ok first Q (place_at u) p p.body k) sent

    wider : (p : Packet) (x : Body) → OnPoll (IsDead (place_at w) p ⊎ IsLive first R p) x → OnPoll (IsDead (place_at w) p ⊎ IsLive first Q p) x
    wider p body.Poll (inl d) = inl d
    wider p body.Poll (inr l) = inr (record { polled = l.polled; starts = more p.epoch.site l.polled l.starts; asked = l.asked; some = l.some; boot = l.boot })
    wider p _ h = tt

-- ---- a site without a round ----

no_some : (o : Option Round) → o ≡ None → (r : Round) → o ≡ Some r → ⊥
no_some o e r h = none_some r (sym e ∙ h)

roundless_turn : (c : Config) (first w u : World) (R : Starts) (s : ℕ) (v : SiteView) (e : Event) → AreApart first R → Settling first R w → Good w → Turn c first w u s v e → BeginsNone e → v.round ≡ None → Settling first R u
roundless_turn c first w u R s v e apart st good t begins none =
    settling_on c first w u R R s v e good st (λ x P r. r) t (λ r h. absurd (no_some o.view.round (change_round s v e o.view none rl.change) r h))
    (every_weaker (Sent s (links_of first s) v e o.view) (λ (p : Packet). SentOk first R p p.body) o.sent (λ p k. no_poll p p.body k) rl.sent)
    (λ X P r. at_each s X (RowState first (place_at u) u.underway X P) (λ eq. mine X P eq r (st.rows X P r)) (λ ne. others X P ne r (st.rows X P r)))
  where
    o : Outcome SiteView
    o = step c s (links_of first s) v e

    rl : Roundless s (links_of first s) v e o
    rl = step_roundless c s (links_of first s) v e none (good.views s v t.here).tables begins

    no_poll : (p : Packet) (x : Body) → SentCase s (links_of first s) v e o.view p x → SentOk first R p x
    no_poll p body.Poll h = absurd h
    no_poll p _ h = tt

    others : (X : ℕ) (P : Links) → s ≢ X → R X P → RowState first (place_at w) w.underway X P → RowState first (place_at u) u.underway X P
    others X P ne r row = record { view = row.view; here = t.others X ne ∙ row.here; state = by_state row.state }
      where
        by_state : ((q : Round) × Undecided first (place_at w) w.underway X P row.view q) ⊎ ((d : InEpoch) × Decided first (place_at w) w.underway X P row.view d) → ((q : Round) × Undecided first (place_at u) u.underway X P row.view q) ⊎ ((d : InEpoch) × Decided first (place_at u) u.underway X P row.view d)
        by_state (inl k) = inl (k.0, undecided_other c first w u R s v e apart st good t rl X P row.view k.0 r ne row.here k.1)
        by_state (inr k) = inr (k.0, decided_other c first w u R s v e apart st good t rl none X P row.view k.0 r ne row.here k.1)

    mine : (X : ℕ) (P : Links) → s ≡ X → R X P → RowState first (place_at w) w.underway X P → RowState first (place_at u) u.underway X P
    mine X P eq r row = subst (λ (x : ℕ). RowState first (place_at u) u.underway x P) eq (by_state row.state)
      where
        is_v : row.view ≡ v
        is_v = view_eq (place_at w X) row.view v row.here (ap (place_at w) (sym eq) ∙ t.here)

        by_state : ((q : Round) × Undecided first (place_at w) w.underway X P row.view q) ⊎ ((d : InEpoch) × Decided first (place_at w) w.underway X P row.view d) → RowState first (place_at u) u.underway s P
        by_state (inl k) = absurd (no_some v.round none k.0 (ap (λ (x : SiteView). x.round) (sym is_v) ∙ k.1.round))
        by_state (inr k) = record {
          view = o.view;
          here = t.now;
          state = inr (
            k.0,
            decided_own c first w u R s v e apart st good t rl P k.0 (subst (λ (x : ℕ). R x P) (sym eq) r)
                (subst (λ (x : ℕ). Decided first (place_at w) w.underway x P v k.0) (sym eq) (subst (λ (x : SiteView). Decided first (place_at w) w.underway X P x k.0) is_v k.1)),
          );
        }

-- ---- a site with a round ----

round_of : (w : World) (s : ℕ) (v : SiteView) (r : Round) → Good w → place_at w s ≡ Some (Running v) → v.round ≡ Some r → Stands v r
round_of w s v r good here round = (round, sym own.promised, own.joins_later, view_outside (place_at w) s v (good.views s v here) own.joins_later)
  where
    own : IsOwnRound (boots_on (place_at w)) s v r
    own = (good.views s v here).round r round

-- a site that starts and has a round hasn't decided
undecided_row : (first w : World) (R : Starts) (s : ℕ) (v : SiteView) (r : Round) (P : Links) → Good w → place_at w s ≡ Some (Running v) → v.round ≡ Some r → RowState first (place_at w) w.underway s P → Undecided first (place_at w) w.underway s P v r
undecided_row first w R s v r P good here round row = by_state row.state
  where
    is_v : row.view ≡ v
    is_v = view_eq (place_at w s) row.view v row.here here

    by_state : ((q : Round) × Undecided first (place_at w) w.underway s P row.view q) ⊎ ((d : InEpoch) × Decided first (place_at w) w.underway s P row.view d) → Undecided first (place_at w) w.underway s P v r
    by_state (inl k) = subst (λ (q : Round). Undecided first (place_at w) w.underway s P v q) (some_same k.0 r (sym k.1.round ∙ (ap (λ (x : SiteView). x.round) is_v ∙ round))) (subst (λ (x : SiteView). Undecided first (place_at w) w.underway s P x k.0) is_v k.1)
    by_state (inr k) = absurd (none_some k.0 (sym (view_outside (place_at w) s v (good.views s v here) ((good.views s v here).round r round).joins_later) ∙ (ap (λ (x : SiteView). x.epoch) (sym is_v) ∙ k.1.epoch)))

rounded_turn : (c : Config) (first w u : World) (R : Starts) (s : ℕ) (v : SiteView) (e : Event) → AreApart first R → Settling first R w → Good w → Turn c first w u s v e → (r : Round) → v.round ≡ Some r → Rounded s (links_of first s) v e r (step c s (links_of first s) v e) → Settling first R u
rounded_turn c first w u R s v e apart st good t r round rd =
    settling_on c first w u R R s v e good st (λ x P k. k) t (λ q h. mine)
    (every_weaker (RoundSent s v rd.next o.view) (λ (p : Packet). SentOk first R p p.body) o.sent (λ p k. live p p.body k) rd.sent)
    (λ X P k. at_each s X (RowState first (place_at u) u.underway X P)
    (λ eq. subst (λ (x : ℕ). RowState first (place_at u) u.underway x P) eq (subst (λ (Q : Links). RowState first (place_at u) u.underway s Q) (apart.one s mine.0 P mine.1 (subst (λ (x : ℕ). R x P) (sym eq) k))
    (undecided_own c first w u R s v e apart st good t mine.0 r mine.1 row rd)))
    (λ ne. row_apart c first w u s v e t acts X P ne (apart.others s mine.0 X P mine.1 k) (λ x q here h. ((good.views X x here).round q h).site) (st.rows X P k)))
  where
    o : Outcome SiteView
    o = step c s (links_of first s) v e

    mine : (P : Links) × R s P
    mine = st.rounds s v r t.here round

    own : IsOwnRound (boots_on (place_at w)) s v r
    own = (good.views s v t.here).round r round

    row : Undecided first (place_at w) w.underway s mine.0 v r
    row = undecided_row first w R s v r mine.0 good t.here round (st.rows s mine.0 mine.1)

    site : rd.next.id.site ≡ s
    site = next_site s v e r rd.next o.sent own.site rd.moves

    live : (p : Packet) (x : Body) → RoundSentCase s v rd.next o.view p x → SentOk first R p x
    live p body.Poll k =
        let of : p.epoch.site ≡ s = ap (λ (i : EpochId). i.site) k.id ∙ site in
        record {
          polled = mine.0;
          starts = subst (λ (y : ℕ). R y mine.0) (sym of) mine.1;
          asked = sym (row.polled p.to) ∙ (ap (λ (l : Links). boot_in l.boot p.to) (sym (next_polled s v e r rd.next o.sent rd.moves)) ∙ k.asked);
          some = k.some;
          boot = ap (λ (i : EpochId). i.boot) k.id ∙ (next_boot s v e r rd.next o.sent own.boot rd.moves ∙ (sym (boot_here w s v t.here) ∙ (st.boots s ∙ ap (boot_at first) (sym of))));
        }
    live p _ k = tt

    acts : ActsApart s o
    acts = record {
      sent = every_weaker (RoundSent s v rd.next o.view) (λ (p : Packet). ApartCase s p p.body) o.sent (λ p k. apart_case p p.body k) rd.sent;
      joins = λ f h. by_ends f h rd.ends;
    }
      where
        apart_case : (p : Packet) (x : Body) → RoundSentCase s v rd.next o.view p x → ApartCase s p x
        apart_case p (body.Promise reach) k = (k.0, λ z. absurd (let b : 1 ≤ v.boot = (good.views s v t.here).booted in let d : p.from_boot ≡ v.boot = k.1 in omega (arith, b, d, z)))
        apart_case p (body.Install members) k = ap (λ (i : EpochId). i.site) k.0 ∙ site
        apart_case p _ k = tt

        by_ends : (f : InEpoch) → o.view.epoch ≡ Some f → GoesOn (links_of first s) v rd.next o.view ⊎ Decides s (links_of first s) v rd.next o → f.id.site ≡ s
        by_ends f h (inl g) = absurd (none_some f (sym g.outside ∙ h))
        by_ends f h (inr g) = ap (λ (x : InEpoch). x.id.site) (some_same f _ (sym h ∙ g.epoch)) ∙ site

-- ---- a tick and a packet ----

blocked : (c : Config) (first w u : World) (R : Starts) (s : ℕ) (v : SiteView) (p : Packet) → AreApart first R → Settling first R w → Good w → Comes w s v p → place_at w s ≡ Some (Running v) → (r : Round) (P : Links) → R s P → Undecided first (place_at w) w.underway s P v r → v.boot ≡ p.to_boot → Blocked v r p p.body
blocked c first w u R s v p apart st good k here r P start row boot = subst (λ (q : Packet). Blocked v r q q.body) k.is (by_body k.letter.packet.body (found_among (PollOk first R (place_at w)) k.letter w.underway st.underway k.there) (found_among (OpenFact first (place_at w) P r.id) k.letter w.underway row.packets k.there))
  where
    q : Packet
    q = k.letter.packet

    to : q.to ≡ s
    to = ap (λ (x : Packet). x.to) k.is ∙ k.to

    by_body : (x : Body) → OnPoll (IsDead (place_at w) q ⊎ IsLive first R q) x → (q.epoch ≡ r.id → OpenBody first (place_at w) P r.id q x) → Blocked v r q x
    by_body body.Poll (inl d) f = d v (ap (place_at w) to ∙ here) (boot ∙ ap (λ (x : Packet). x.to_boot) (sym k.is))
    by_body body.Poll (inr l) f = absurd (l.some (sym l.asked ∙ (ap (boot_in l.polled.boot) to ∙ apart.others s P q.epoch.site l.polled start l.starts)))
    by_body (body.Install members) h f = f
    by_body _ h f = tt

round_cases : (o : Option Round) → (o ≡ None) ⊎ ((r : Round) × (o ≡ Some r))
round_cases None = inl refl
round_cases (Some r) = inr (r, refl)

pub tick_turn : (c : Config) (first w u : World) (R : Starts) (s : ℕ) (v : SiteView) → AreApart first R → Settling first R w → Good w → Turn c first w u s v Ticks → Settling first R u
tick_turn c first w u R s v apart st good t = by_round (round_cases v.round)
  where
    by_round : (v.round ≡ None) ⊎ ((r : Round) × (v.round ≡ Some r)) → Settling first R u
    by_round (inl none) = roundless_turn c first w u R s v Ticks apart st good t tt none
    by_round (inr k) = rounded_turn c first w u R s v Ticks apart st good t k.0 k.1 (tick_rounded c s (links_of first s) v k.0 (good.views s v t.here).tables (round_of w s v k.0 good t.here k.1))

pub packet_turn : (c : Config) (first w u : World) (R : Starts) (s : ℕ) (v : SiteView) (p : Packet) → AreApart first R → Settling first R w → Good w → Turn c first w u s v (Receives p) → Settling first R u
packet_turn c first w u R s v p apart st good t = by_round (round_cases v.round)
  where
    k : Comes w s v p
    k = t.comes p refl

    by_round : (v.round ≡ None) ⊎ ((r : Round) × (v.round ≡ Some r)) → Settling first R u
    by_round (inl none) = roundless_turn c first w u R s v (Receives p) apart st good t tt none
    by_round (inr n) =
        let mine : (P : Links) × R s P = st.rounds s v n.0 t.here n.1 in
        let row : Undecided first (place_at w) w.underway s mine.0 v n.0 = undecided_row first w R s v n.0 mine.0 good t.here n.1 (st.rows s mine.0 mine.1) in
        rounded_turn c first w u R s v (Receives p) apart st good t n.0 n.1 (taken_rounded c s (links_of first s) v p n.0 (good.views s v t.here).tables (round_of w s v n.0 good t.here n.1) k.undropped
        (blocked c first w u R s v p apart st good k t.here n.0 mine.0 mine.1 row (sym (boot_taken p v k.undropped))))
