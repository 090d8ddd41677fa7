-- What one event of a round leaves of the facts on a site that starts, where another site has the event and has no round.
use Rattle.std.proofs.Common.{◌≡◌, ◌≢◌, ℕ, ◌+◌, ◌≤◌, ◌⊎◌, true, false, List, [], ◌∷◌, Some, None, refl, sym, ◌∙◌, ap, subst, inl, inr, arith}
use Rattle.role_steps.proofs.of_plain_facts.Options.{none_some, some_same}
use Rattle.role_steps.proofs.of_plain_facts.Tests.{true_false}
use Rattle.locus_ids.specs.declared.ids.EpochId.{EpochId}
use Rattle.locus_ids.specs.declared.sites.Members.{Members}
use Rattle.locus_ids.specs.declared.sites.Links.{Links}
use Rattle.locus_ids.specs.declared.config.Config.{Config}
use Rattle.wire_messages.specs.declared.packet.Packet.{Packet}
use Rattle.wire_messages.specs.declared.body.Body.{Body}
use Rattle.wire_messages.specs.declared.body.Body.TheVariants as body
use Rattle.role_steps.specs.Own.{Every}
use Rattle.role_steps.specs.Views.{SiteView, Outcome, Event, Receives, GivesUp, boot_in}
use Rattle.role_steps.specs.Epochs.{is_epoch_below, reached}
use Rattle.role_steps.specs.declared.rounds.InEpoch.{InEpoch}
use Rattle.role_steps.specs.declared.rounds.Round.{Round}
use Rattle.role_steps.proofs.Sending.{every_append}
use Rattle.the_run.specs.Joins.{IsAtMost}
use Rattle.the_run.specs.Kept.{Among}
use Rattle.the_run.specs.Steps.{step}
use Rattle.the_run.specs.Worlds.{World, Running, Numbered, place_at, links_of, numbered_from}
use Rattle.the_run.proofs.Boots.{at_each, every_numbered, every_weaker}
use Rattle.run_laws.proofs.Run.{found_among}
use Rattle.run_laws.specs.Epochs.Known.{Places, NumberedFact, Good}
use Rattle.run_laws.proofs.Epochs.Run.{view_outside}
use Rattle.row_laws.specs.Orderly.Effects.{SameCore, Promised, Joined, Change, SentCase, Sent, Roundless, IsAnswer, Answers}
use Rattle.row_laws.specs.Orderly.Quiet.{IsDead, OnPoll}
use Rattle.row_laws.specs.Orderly.Settling.{Starts, boot_at, AreApart, IsPollBody, IsInstallBody, Carried, Holds, Covered, IsTrue, OpenBody, OpenFact, Undecided, Follows, DecidedBody, DecidedFact, Decided, IsLive, PollOk, Settling}
use Rattle.row_laws.specs.Orderly.Turn.{Comes, Turn}
use Rattle.row_laws.proofs.Orderly.Effects.{boot_taken, step_answers, step_joins}
use Rattle.row_laws.proofs.Orderly.Formed.{among_left, among_right}
use Rattle.row_laws.proofs.Orderly.Places.{view_eq, boot_here}

-- ---- lists ----

pub every_of : {A : Type 0} (P : A → Type 0) (xs : List A) → ((x : A) → Among x xs → P x) → Every P xs
every_of P [] h = tt
every_of P (x ∷ xs) h = (h x (inl refl), every_of P xs (λ y a. h y (inr a)))

pub among_numbered : (q : Packet) (k : ℕ) (ps : List Packet) → Among q ps → (y : Numbered) × (Among y (numbered_from k ps)) × (y.packet ≡ q)
among_numbered q k [] h = absurd h
among_numbered q k (p ∷ ps) (inl e) = (record { number = k; packet = p }, inl refl, sym e)
among_numbered q k (p ∷ ps) (inr h) = let r : (y : Numbered) × (Among y (numbered_from (k + 1) ps)) × (y.packet ≡ q) = among_numbered q (k + 1) ps h in (r.0, inr r.1, r.2)

-- what comes was under way
pub come : (c : Config) (first w u : World) (s : ℕ) (v : SiteView) (e : Event) (p : Packet) → Turn c first w u s v e → e ≡ Receives p → Comes w s v p
come c first w u s v e p t is = t.comes p is

pub not_left : (c : Config) (first w u : World) (s : ℕ) (v : SiteView) (e : Event) → Turn c first w u s v e → e ≡ GivesUp → ⊥
not_left c first w u s v e t is = t.given is

-- a packet that was under way is so still, or comes
pub carried_on : (c : Config) (first w u : World) (s : ℕ) (v : SiteView) (e : Event) (t : Turn c first w u s v e) (id : EpochId) (from from_boot to to_boot : ℕ) (kind : Body → Type 0) → (k : Carried w.underway id from from_boot to to_boot kind) → Carried u.underway id from from_boot to to_boot kind ⊎ (e ≡ Receives k.letter.packet)
carried_on c first w u s v e t id from from_boot to to_boot kind k = by_case (t.stays k.letter k.there)
  where
    by_case : (Among k.letter t.under ⊎ (e ≡ Receives k.letter.packet)) → Carried u.underway id from from_boot to to_boot kind ⊎ (e ≡ Receives k.letter.packet)
    by_case (inl a) = inl (record { letter = k.letter; there = subst (λ (xs : List Numbered). Among k.letter xs) (sym t.underway) (among_left k.letter t.under _ a); is_kind = k.is_kind; epoch = k.epoch; from_is = k.from_is; from_boot_is = k.from_boot_is; to_is = k.to_is; to_boot_is = k.to_boot_is })
    by_case (inr h) = inr h

-- what is under way now was so, or is sent
pub under_now : (c : Config) (first w u : World) (s : ℕ) (v : SiteView) (e : Event) (t : Turn c first w u s v e) (F : Numbered → Type 0) (G : Packet → Type 0) → ((y : Numbered) → Among y w.underway → F y) → ((y : Numbered) → G y.packet → F y) → Every G (step c s (links_of first s) v e).sent → Every F u.underway
under_now c first w u s v e t F G old new sent =
    subst (λ (xs : List Numbered). Every F xs) (sym t.underway)
    (every_append F t.under (numbered_from t.count (step c s (links_of first s) v e).sent) (every_of F t.under (λ y a. old y (t.was y a)))
    (every_weaker (λ (y : Numbered). G y.packet) F (numbered_from t.count (step c s (links_of first s) v e).sent) new (every_numbered G t.count (step c s (links_of first s) v e).sent sent)))

-- ---- nobody promises away ----

pub greater_not : (a b : EpochId) → IsAtMost b a → is_epoch_below a b ≡ true → ⊥
greater_not a b h e = true_false (sym e ∙ h)

-- a site that is asked doesn't promise more than the site that starts has promised
pub no_more : (c : Config) (first w u : World) (R : Starts) (s : ℕ) (v : SiteView) (e : Event) → AreApart first R → Settling first R w → Good w → Turn c first w u s v e →
    (X : ℕ) (P : Links) (x : SiteView) → R X P → place_at w X ≡ Some (Running x) → boot_in P.boot s ≢ 0 → v.promised ≡ x.promised → Promised v e (step c s (links_of first s) v e).view → ⊥
no_more c first w u R s v e apart st good t X P x r there asked same h = by_poll (subst (OnPoll (IsDead (place_at w) k.letter.packet ⊎ IsLive first R k.letter.packet)) (ap (λ (q : Packet). q.body) k.is ∙ h.is_poll) (found_among (PollOk first R (place_at w)) k.letter w.underway st.underway k.there))
  where
    k : Comes w s v h.poll
    k = come c first w u s v e h.poll t h.comes

    p : Packet
    p = k.letter.packet

    to : p.to ≡ s
    to = ap (λ (q : Packet). q.to) k.is ∙ k.to

    to_boot : p.to_boot ≡ v.boot
    to_boot = ap (λ (q : Packet). q.to_boot) k.is ∙ h.to_boot

    greater : is_epoch_below v.promised p.epoch ≡ true
    greater = ap (λ (q : Packet). is_epoch_below v.promised q.epoch) k.is ∙ h.greater

    by_poll : IsDead (place_at w) p ⊎ IsLive first R p → ⊥
    by_poll (inl d) = greater_not v.promised p.epoch (d v (ap (place_at w) to ∙ t.here) (sym to_boot)) greater
    by_poll (inr l) =
        let mine : X ≡ p.epoch.site = apart.apart X P p.epoch.site l.polled s r l.starts asked (λ z. l.some (sym l.asked ∙ (ap (boot_in l.polled.boot) to ∙ z))) in
        let boot : x.boot ≡ p.epoch.boot = sym (boot_here w X x there) ∙ (st.boots X ∙ (ap (boot_at first) mine ∙ sym l.boot)) in
        let known : IsAtMost p.epoch x.promised = (found_among (NumberedFact (place_at w)) k.letter w.underway good.underway k.there).0.risen x (ap (place_at w) (sym mine) ∙ there) boot in
        greater_not v.promised p.epoch (subst (λ (i : EpochId). IsAtMost p.epoch i) (sym same) known) greater

-- where it promises no more and joins nothing, it holds what it has promised
pub holds_on : (c : Config) (first w u : World) (s : ℕ) (v : SiteView) (e : Event) → Turn c first w u s v e → Change s v e (step c s (links_of first s) v e).view → (id : EpochId) (x boot : ℕ) →
    (s ≡ x → v.promised ≡ id → Promised v e (step c s (links_of first s) v e).view → ⊥) → (s ≡ x → v.promised ≡ id → Joined s v e (step c s (links_of first s) v e).view → ⊥) → Holds (place_at w) x boot id → Holds (place_at u) x boot id
holds_on c first w u s v e t change id x boot more joins h =
    at_each s x (Holds (place_at u) x boot id) (λ eq. by_change eq change) (λ ne. record { view = h.view; here = t.others x ne ∙ h.here; boot_is = h.boot_is; promised = h.promised; waits = h.waits })
  where
    o : Outcome SiteView
    o = step c s (links_of first s) v e

    by_change : s ≡ x → Change s v e o.view → Holds (place_at u) x boot id
    by_change eq change = by_case change
      where
        is_v : h.view ≡ v
        is_v = view_eq (place_at w x) h.view v h.here (ap (place_at w) (sym eq) ∙ t.here)

        boot_v : v.boot ≡ boot
        boot_v = ap (λ (y : SiteView). y.boot) (sym is_v) ∙ h.boot_is

        promised_v : v.promised ≡ id
        promised_v = ap (λ (y : SiteView). y.promised) (sym is_v) ∙ h.promised

        waits_v : v.installed ≡ false
        waits_v = ap (λ (y : SiteView). y.installed) (sym is_v) ∙ h.waits

        now : place_at u x ≡ Some (Running o.view)
        now = ap (place_at u) (sym eq) ∙ t.now

        by_case : Change s v e o.view → Holds (place_at u) x boot id
        by_case (inl k) = record { view = o.view; here = now; boot_is = k.boot ∙ boot_v; promised = k.promised ∙ promised_v; waits = k.installed ∙ waits_v }
        by_case (inr (inl k)) = record { view = o.view; here = now; boot_is = k.boot ∙ boot_v; promised = k.promised ∙ promised_v; waits = k.installed ∙ waits_v }
        by_case (inr (inr (inl k))) = absurd (more eq promised_v k)
        by_case (inr (inr (inr k))) = absurd (joins eq promised_v k)

pub change_boot : (s : ℕ) (v u : SiteView) (e : Event) → Change s v e u → u.boot ≡ v.boot
change_boot s v u e (inl k) = k.boot
change_boot s v u e (inr (inl k)) = k.boot
change_boot s v u e (inr (inr (inl k))) = k.boot
change_boot s v u e (inr (inr (inr k))) = k.boot

-- ---- a round that isn't decided, while another site without a round has an event ----

pub open_later : (first : World) (at now : Places) (P : Links) (id : EpochId) (p : Packet) (x : Body) → (boot_in P.boot p.from ≢ 0 → Holds at p.from p.from_boot id → Holds now p.from p.from_boot id) → OpenBody first at P id p x → OpenBody first now P id p x
open_later first at now P id p (body.Promise reach) f h = (h.0, λ e. (let k : Holds at p.from p.from_boot id × (reach ≡ reached (links_of first p.from)) = h.1 e in (f (λ z. h.0 (sym e ∙ z)) k.0, k.1)))
open_later first at now P id p (body.Install members) f h = h
open_later first at now P id p _ f h = tt

pub undecided_other : (c : Config) (first w u : World) (R : Starts) (s : ℕ) (v : SiteView) (e : Event) → AreApart first R → Settling first R w → Good w → Turn c first w u s v e → Roundless s (links_of first s) v e (step c s (links_of first s) v e) →
    (X : ℕ) (P : Links) (x : SiteView) (r : Round) → R X P → s ≢ X → place_at w X ≡ Some (Running x) → Undecided first (place_at w) w.underway X P x r → Undecided first (place_at u) u.underway X P x r
undecided_other c first w u R s v e apart st good t rl X P x r start ne there h = record {
  round = h.round;
  polled = h.polled;
  covered = λ y some. covers y some (h.covered y some);
  taken = every_weaker (IsTrue first (place_at w) P r.id) (IsTrue first (place_at u) P r.id) r.promises (λ q k. (k.0, holds q.site (boot_in P.boot q.site) k.0 k.1, k.2)) h.taken;
  ascend = h.ascend;
  packets = under_now c first w u s v e t (OpenFact first (place_at u) P r.id) (λ (q : Packet). q.epoch ≡ r.id → OpenBody first (place_at u) P r.id q q.body)
      (λ y a i. open_later first (place_at w) (place_at u) P r.id y.packet y.packet.body (λ z k. holds y.packet.from y.packet.from_boot z k) (found_among (OpenFact first (place_at w) P r.id) y w.underway h.packets a i))
      (λ y g. g)
      (every_weaker (Sent s (links_of first s) v e o.view) (λ (q : Packet). q.epoch ≡ r.id → OpenBody first (place_at u) P r.id q q.body) o.sent (λ q k i. opened q q.body i k) rl.sent);
  nobody = λ y z f here inside i. at_each s y ⊥
      (λ eq. in_none f (subst (λ (q : SiteView). q.epoch ≡ Some f) (view_eq (place_at u s) z o.view (ap (place_at u) eq ∙ here) t.now) inside) i rl.change)
      (λ other. h.nobody y z f (sym (t.others y other) ∙ here) inside i);
}
  where
    o : Outcome SiteView
    o = step c s (links_of first s) v e

    x_promised : r.id ≡ x.promised
    x_promised = ((good.views X x there).round r h.round).promised

    no_install : v.promised ≡ r.id → Joined s v e o.view → ⊥
    no_install i j =
        let k : Comes w s v j.install = come c first w u s v e j.install t j.comes in
        subst (OpenBody first (place_at w) P r.id k.letter.packet) (ap (λ (q : Packet). q.body) k.is ∙ j.is_install)
        (found_among (OpenFact first (place_at w) P r.id) k.letter w.underway h.packets k.there (ap (λ (q : Packet). q.epoch) k.is ∙ (j.id ∙ i)))

    holds : (y boot : ℕ) → boot_in P.boot y ≢ 0 → Holds (place_at w) y boot r.id → Holds (place_at u) y boot r.id
    holds y boot some k = holds_on c first w u s v e t rl.change r.id y boot
        (λ eq i p. no_more c first w u R s v e apart st good t X P x start there (λ z. some (ap (boot_in P.boot) (sym eq) ∙ z)) (i ∙ x_promised) p) (λ eq i j. no_install i j) k

    answered : (y : ℕ) → (k : Carried w.underway r.id X x.boot y (boot_in P.boot y) IsPollBody) → e ≡ Receives k.letter.packet → Covered u.underway X x.boot P r y
    answered y k is =
        let m : Comes w s v k.letter.packet = come c first w u s v e k.letter.packet t is in
        let a : (q : Packet) × (Among q (step c s (links_of first s) v (Receives k.letter.packet)).sent) × Answers s v k.letter.packet q = step_answers c s (links_of first s) v k.letter.packet (good.views s v t.here).tables (poll_body k.letter.packet.body k.is_kind) m.undropped in
        let n : (z : Numbered) × (Among z (numbered_from t.count o.sent)) × (z.packet ≡ a.0) = among_numbered a.0 t.count o.sent (subst (λ (y : Event). Among a.0 (step c s (links_of first s) v y).sent) (sym is) a.1) in
        inr (inr (record {
          letter = n.0;
          there = subst (λ (xs : List Numbered). Among n.0 xs) (sym t.underway) (among_right n.0 t.under (numbered_from t.count o.sent) n.1);
          is_kind = subst (λ (q : Packet). IsAnswer q.body) (sym n.2) a.2.answer;
          epoch = ap (λ (q : Packet). q.epoch) n.2 ∙ (a.2.epoch ∙ k.epoch);
          from_is = ap (λ (q : Packet). q.from) n.2 ∙ (a.2.from ∙ (sym m.to ∙ k.to_is));
          from_boot_is = ap (λ (q : Packet). q.from_boot) n.2 ∙ (a.2.from_boot ∙ (sym (boot_taken k.letter.packet v m.undropped) ∙ k.to_boot_is));
          to_is = ap (λ (q : Packet). q.to) n.2 ∙ (a.2.to ∙ k.from_is);
          to_boot_is = ap (λ (q : Packet). q.to_boot) n.2 ∙ (a.2.to_boot ∙ k.from_boot_is);
        }))
      where
        poll_body : (b : Body) → IsPollBody b → b ≡ body.Poll
        poll_body body.Poll h = refl
        poll_body _ h = absurd h

    covers : (y : ℕ) → boot_in P.boot y ≢ 0 → Covered w.underway X x.boot P r y → Covered u.underway X x.boot P r y
    covers y some (inl k) = inl k
    covers y some (inr (inl k)) = by_case (carried_on c first w u s v e t r.id X x.boot y (boot_in P.boot y) IsPollBody k)
      where
        by_case : Carried u.underway r.id X x.boot y (boot_in P.boot y) IsPollBody ⊎ (e ≡ Receives k.letter.packet) → Covered u.underway X x.boot P r y
        by_case (inl m) = inr (inl m)
        by_case (inr is) = answered y k is
    covers y some (inr (inr k)) = by_case (carried_on c first w u s v e t r.id y (boot_in P.boot y) X x.boot IsAnswer k)
      where
        by_case : Carried u.underway r.id y (boot_in P.boot y) X x.boot IsAnswer ⊎ (e ≡ Receives k.letter.packet) → Covered u.underway X x.boot P r y
        by_case (inl m) = inr (inr m)
        by_case (inr is) = absurd (ne (sym (come c first w u s v e k.letter.packet t is).to ∙ k.to_is))

    opened : (q : Packet) (b : Body) → q.epoch ≡ r.id → SentCase s (links_of first s) v e o.view q b → OpenBody first (place_at u) P r.id q b
    opened q (body.Promise reach) i k = (
      (λ z. (let a : 1 ≤ v.boot = (good.views s v t.here).booted in let b : o.view.boot ≡ v.boot = change_boot s v o.view e rl.change in let d : q.from_boot ≡ o.view.boot = k.from_boot in omega (arith, a, b, d, z))),
      λ same. (record { view = o.view; here = ap (place_at u) k.from ∙ t.now; boot_is = sym k.from_boot; promised = k.promised ∙ i; waits = k.waits }, k.reaches ∙ ap (λ (y : ℕ). reached (links_of first y)) (sym k.from)),
    )
    opened q (body.Install members) i k = h.nobody s v k.epoch t.here k.inside (sym k.id ∙ i)
    opened q _ i k = tt

    in_none : (f : InEpoch) → o.view.epoch ≡ Some f → f.id ≡ r.id → Change s v e o.view → ⊥
    in_none f inside i (inl k) = h.nobody s v f t.here (sym k.epoch ∙ inside) i
    in_none f inside i (inr (inl k)) = none_some f (sym k.epoch ∙ inside)
    in_none f inside i (inr (inr (inl k))) = none_some f (sym k.epoch ∙ inside)
    in_none f inside i (inr (inr (inr k))) = no_install (ap (λ (g : InEpoch). g.id) (some_same (record { id = v.promised; members = k.members }) f (sym k.epoch ∙ inside)) ∙ i) k

-- ---- a round that is decided, while a site without a round has an event ----

pub install_body : (b : Body) → IsInstallBody b → (members : Members) × (b ≡ body.Install members)
install_body (body.Install members) h = (members, refl)
install_body _ h = absurd h

pub decided_other : (c : Config) (first w u : World) (R : Starts) (s : ℕ) (v : SiteView) (e : Event) → AreApart first R → Settling first R w → Good w → Turn c first w u s v e → Roundless s (links_of first s) v e (step c s (links_of first s) v e) →
    v.round ≡ None → (X : ℕ) (P : Links) (x : SiteView) (d : InEpoch) → R X P → s ≢ X → place_at w X ≡ Some (Running x) → Decided first (place_at w) w.underway X P x d → Decided first (place_at u) u.underway X P x d
decided_other c first w u R s v e apart st good t rl none X P x d start ne there h = record {
  epoch = h.epoch;
  own = h.own;
  exactly = h.exactly;
  follows = λ y some. at_each s y (Follows (place_at u) u.underway X x.boot P d y) (λ eq. mine y eq some (h.follows y some)) (λ other. others y other (h.follows y some));
  packets = under_now c first w u s v e t (DecidedFact d) (λ (q : Packet). q.epoch ≡ d.id → DecidedBody d q.body) (λ y a. found_among (DecidedFact d) y w.underway h.packets a) (λ y g. g)
      (every_weaker (Sent s (links_of first s) v e o.view) (λ (q : Packet). q.epoch ≡ d.id → DecidedBody d q.body) o.sent (λ q k i. sent q q.body i k) rl.sent);
  alike = λ y z f here inside i. at_each s y (f ≡ d)
      (λ eq. joined f (subst (λ (q : SiteView). q.epoch ≡ Some f) (view_eq (place_at u s) z o.view (ap (place_at u) eq ∙ here) t.now) inside) i rl.change)
      (λ other. h.alike y z f (sym (t.others y other) ∙ here) inside i);
}
  where
    o : Outcome SiteView
    o = step c s (links_of first s) v e

    x_promised : d.id ≡ x.promised
    x_promised = ((good.views X x there).inside d h.epoch).0

    installs : (j : Joined s v e o.view) → v.promised ≡ d.id → j.members ≡ d.members
    installs j i =
        let k : Comes w s v j.install = come c first w u s v e j.install t j.comes in
        subst (DecidedBody d) (ap (λ (q : Packet). q.body) k.is ∙ j.is_install)
        (found_among (DecidedFact d) k.letter w.underway h.packets k.there (ap (λ (q : Packet). q.epoch) k.is ∙ (j.id ∙ i)))

    whole : (f : InEpoch) → f.id ≡ d.id → f.members ≡ d.members → f ≡ d
    whole f a b = λ i. record { id = a i; members = b i }

    joined : (f : InEpoch) → o.view.epoch ≡ Some f → f.id ≡ d.id → Change s v e o.view → f ≡ d
    joined f inside i (inl k) = h.alike s v f t.here (sym k.epoch ∙ inside) i
    joined f inside i (inr (inl k)) = absurd (none_some f (sym k.epoch ∙ inside))
    joined f inside i (inr (inr (inl k))) = absurd (none_some f (sym k.epoch ∙ inside))
    joined f inside i (inr (inr (inr k))) =
        let g : record { id = v.promised; members = k.members } ≡ f = some_same (record { id = v.promised; members = k.members }) f (sym k.epoch ∙ inside) in
        whole f i (ap (λ (y : InEpoch). y.members) (sym g) ∙ installs k (ap (λ (y : InEpoch). y.id) g ∙ i))

    sent : (q : Packet) (b : Body) → q.epoch ≡ d.id → SentCase s (links_of first s) v e o.view q b → DecidedBody d b
    sent q (body.Install members) i k = k.same ∙ ap (λ (f : InEpoch). f.members) (h.alike s v k.epoch t.here k.inside (sym k.id ∙ i))
    sent q _ i k = tt

    others : (y : ℕ) → s ≢ y → Follows (place_at w) w.underway X x.boot P d y → Follows (place_at u) u.underway X x.boot P d y
    others y other f = record { view = f.view; here = t.others y other ∙ f.here; boot_is = f.boot_is; promised = f.promised; state = by_state f.state }
      where
        goes : Carried w.underway d.id X x.boot y (boot_in P.boot y) IsInstallBody → Carried u.underway d.id X x.boot y (boot_in P.boot y) IsInstallBody
        goes k = by_case (carried_on c first w u s v e t d.id X x.boot y (boot_in P.boot y) IsInstallBody k)
          where
            by_case : Carried u.underway d.id X x.boot y (boot_in P.boot y) IsInstallBody ⊎ (e ≡ Receives k.letter.packet) → Carried u.underway d.id X x.boot y (boot_in P.boot y) IsInstallBody
            by_case (inl m) = m
            by_case (inr is) = absurd (other (sym (come c first w u s v e k.letter.packet t is).to ∙ k.to_is))

        by_state : ((boot_in d.members.boot y ≡ boot_in P.boot y) × (f.view.epoch ≡ Some d)) ⊎ ((f.view.installed ≡ false) × (boot_in d.members.boot y ≢ 0 → (boot_in d.members.boot y ≡ boot_in P.boot y) × Carried w.underway d.id X x.boot y (boot_in P.boot y) IsInstallBody)) →
            ((boot_in d.members.boot y ≡ boot_in P.boot y) × (f.view.epoch ≡ Some d)) ⊎ ((f.view.installed ≡ false) × (boot_in d.members.boot y ≢ 0 → (boot_in d.members.boot y ≡ boot_in P.boot y) × Carried u.underway d.id X x.boot y (boot_in P.boot y) IsInstallBody))
        by_state (inl k) = inl k
        by_state (inr k) = inr (k.0, λ m. ((k.1 m).0, goes (k.1 m).1))

    mine : (y : ℕ) → s ≡ y → boot_in P.boot y ≢ 0 → Follows (place_at w) w.underway X x.boot P d y → Follows (place_at u) u.underway X x.boot P d y
    mine y eq some f = by_change rl.change
      where
        is_v : f.view ≡ v
        is_v = view_eq (place_at w y) f.view v f.here (ap (place_at w) (sym eq) ∙ t.here)

        boot_v : v.boot ≡ boot_in P.boot y
        boot_v = ap (λ (z : SiteView). z.boot) (sym is_v) ∙ f.boot_is

        promised_v : v.promised ≡ d.id
        promised_v = ap (λ (z : SiteView). z.promised) (sym is_v) ∙ f.promised

        now : place_at u y ≡ Some (Running o.view)
        now = ap (place_at u) (sym eq) ∙ t.now

        State : SiteView → List Numbered → Type 0
        State z under = ((boot_in d.members.boot y ≡ boot_in P.boot y) × (z.epoch ≡ Some d)) ⊎ ((z.installed ≡ false) × (boot_in d.members.boot y ≢ 0 → (boot_in d.members.boot y ≡ boot_in P.boot y) × Carried under d.id X x.boot y (boot_in P.boot y) IsInstallBody))

        old : State v w.underway
        old = subst (λ (z : SiteView). State z w.underway) is_v f.state

        by_change : Change s v e o.view → Follows (place_at u) u.underway X x.boot P d y
        by_change (inl k) = record { view = o.view; here = now; boot_is = k.boot ∙ boot_v; promised = k.promised ∙ promised_v; state = by_state k old }
          where
            goes : v.installed ≡ false → boot_in d.members.boot y ≡ boot_in P.boot y → Carried w.underway d.id X x.boot y (boot_in P.boot y) IsInstallBody → Carried u.underway d.id X x.boot y (boot_in P.boot y) IsInstallBody
            goes waits listed m = by_case (carried_on c first w u s v e t d.id X x.boot y (boot_in P.boot y) IsInstallBody m)
              where
                by_case : Carried u.underway d.id X x.boot y (boot_in P.boot y) IsInstallBody ⊎ (e ≡ Receives m.letter.packet) → Carried u.underway d.id X x.boot y (boot_in P.boot y) IsInstallBody
                by_case (inl g) = g
                by_case (inr is) = absurd (none_some (record { id = p.epoch; members = b.0 }) (sym (view_outside (place_at w) s v (good.views s v t.here) waits) ∙ (sym k.epoch ∙ subst (λ (y : Event). (step c s (links_of first s) v y).view.epoch ≡ Some (record { id = p.epoch; members = b.0 })) (sym is) joins)))
                  where
                    p : Packet
                    p = m.letter.packet

                    b : (members : Members) × (p.body ≡ body.Install members)
                    b = install_body p.body m.is_kind

                    same : b.0 ≡ d.members
                    same = subst (DecidedBody d) b.1 (found_among (DecidedFact d) m.letter w.underway h.packets m.there m.epoch)

                    joins : (step c s (links_of first s) v (Receives p)).view.epoch ≡ Some (record { id = p.epoch; members = b.0 })
                    joins = step_joins c s (links_of first s) v p b.0 (good.views s v t.here).tables b.1 (come c first w u s v e p t is).undropped (m.epoch ∙ sym promised_v) waits
                        (ap (λ (z : Members). boot_in z.boot s) same ∙ (ap (boot_in d.members.boot) eq ∙ (listed ∙ sym boot_v)))

            by_state : SameCore v o.view → State v w.underway → State o.view u.underway
            by_state k (inl g) = inl (g.0, k.epoch ∙ g.1)
            by_state k (inr g) = inr (k.installed ∙ g.0, λ member. ((g.1 member).0, goes g.0 (g.1 member).0 (g.1 member).1))
        by_change (inr (inl k)) = absurd (not_left c first w u s v e t k.comes)
        by_change (inr (inr (inl k))) = absurd (no_more c first w u R s v e apart st good t X P x start there (λ z. some (ap (boot_in P.boot) (sym eq) ∙ z)) (promised_v ∙ x_promised) k)
        by_change (inr (inr (inr k))) = record {
          view = o.view;
          here = now;
          boot_is = k.boot ∙ boot_v;
          promised = k.promised ∙ promised_v;
          state = inl (ap (λ (m : Members). boot_in m.boot y) (sym (installs k promised_v)) ∙ (ap (boot_in k.members.boot) (sym eq) ∙ (k.listed ∙ boot_v)), k.epoch ∙ ap (λ (f : InEpoch). Some f) (whole (record { id = v.promised; members = k.members }) promised_v (installs k promised_v)));
        }
