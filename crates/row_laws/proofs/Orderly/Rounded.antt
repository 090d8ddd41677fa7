-- What each event of a round does at a site that has an undecided round, where no poll makes it leave and no install of its round comes.
use Rattle.std.proofs.Common.{◌≡◌, ◌≢◌, ℕ, ◌+◌, ◌==◌, ◌⊎◌, Bool, true, false, cond, ◌&&◌, not, List, [], ◌∷◌, map, filter, Option, Some, None, refl, sym, ◌∙◌, ap, subst, inl, inr, arith}
use Rattle.std.proofs.lemmas.Bool.Decides.{nat_tests}
use Rattle.role_steps.proofs.of_plain_facts.Numbers.{equal, equal_test, not_zero}
use Rattle.role_steps.proofs.of_plain_facts.Options.{none_some}
use Rattle.role_steps.proofs.of_plain_facts.Tests.{both_true, true_false as no_false}
use Rattle.locus_ids.specs.declared.ids.EpochId.{EpochId}
use Rattle.locus_ids.specs.declared.sites.Sites.{Sites}
use Rattle.locus_ids.specs.declared.sites.Members.{Members}
use Rattle.locus_ids.specs.declared.sites.Links.{Links}
use Rattle.locus_ids.specs.declared.config.Config.{Config}
use Rattle.trace_book.specs.Same.{same_epoch}
use Rattle.wire_messages.specs.declared.packet.Packet.{Packet}
use Rattle.wire_messages.specs.declared.body.Body.{Body}
use Rattle.wire_messages.specs.declared.body.Body.TheVariants as body
use Rattle.role_steps.specs.Own.{Every}
use Rattle.role_steps.specs.Views.{SiteView, Outcome, Event, Receives, Ticks, quiet, sends, and_then, boot_in, all_sites}
use Rattle.role_steps.specs.Epochs.{is_epoch_below, promises, reached, new_round, poll_packet, polled_sites, round_id, begins_round, promise_packet, refuse_packet, on_poll, counts_promise, with_promise, on_promise_of, on_refuse_of, joins, may_install, is_in, joined_packet, on_install, on_joined, has_promised, passed_over, unanswered, chosen_members, chosen_set, others_of, install_packet, decides_if, passes_over_of, passes_over, poll_repeats}
use Rattle.role_steps.specs.declared.rounds.InEpoch.{InEpoch}
use Rattle.role_steps.specs.declared.rounds.Round.{Round}
use Rattle.role_steps.proofs.Sending.{every_append, every_cond}
use Rattle.the_run.specs.Kept.{Among}
use Rattle.the_run.specs.Steps.{is_dropped, takes_framed, takes, tries_at, adopts_in, whole, step}
use Rattle.the_run.proofs.Boots.{every_weaker}
use Rattle.run_laws.proofs.InsideSteps.{framed_inner, tries_inner}
use Rattle.run_laws.specs.Epochs.Forming.{FormsNone, Formless, TableFormless, FormlessSite}
use Rattle.run_laws.proofs.Epochs.Forms.{tries_formless, framed_formless}
use Rattle.run_laws.proofs.Epochs.Handlers.{same_epoch_eq}
use Rattle.row_laws.specs.Orderly.Effects.{SameCore, IsAnswer}
use Rattle.row_laws.specs.Orderly.Rounded.{RoundMoves, GoesOn, members_of, Decides, RoundSentCase, RoundSent, Rounded}
use Rattle.row_laws.proofs.Orderly.Formed.{among_right, among_next, same_core, inner_core, Formed, whole_formed, forming_repeats, ticks_formed}
use Rattle.row_laws.proofs.Orderly.Effects.{promises_boot, promises_epoch, promises_silent, reports_formless, joined_core, takes_tables}

-- ---- elements of mapped and filtered lists ----

pub among_map : {A B : Type 0} (f : A → B) (x : A) (xs : List A) → Among x xs → Among (f x) (map f xs)
among_map f x [] h = absurd h
among_map f x (y ∷ ys) (inl e) = inl (ap f e)
among_map f x (y ∷ ys) (inr h) = inr (among_map f x ys h)

pub every_map_among : {A B : Type 0} (P : B → Type 0) (f : A → B) (xs : List A) → ((x : A) → Among x xs → P (f x)) → Every P (map f xs)
every_map_among P f [] h = tt
every_map_among P f (x ∷ xs) h = (h x (inl refl), every_map_among P f xs (λ y a. h y (inr a)))

pub filter_passes : {A : Type 0} (test : A → Bool) (x : A) (xs : List A) → Among x (filter test xs) → test x ≡ true
filter_passes test x [] h = absurd h
filter_passes test x (y ∷ ys) h =
    (elim (test y) as (λ b. test y ≡ b → Among x (cond b (y ∷ filter test ys) (filter test ys)) → test x ≡ true) [
      | true ↦ λ e g. here (filter_passes test x ys) e g
      | false ↦ λ e g. filter_passes test x ys g
    ]) refl h
  where
    here : (Among x (filter test ys) → test x ≡ true) → test y ≡ true → Among x (y ∷ filter test ys) → test x ≡ true
    here f e (inl q) = ap test q ∙ e
    here f e (inr g) = f g

pub filter_among : {A : Type 0} (test : A → Bool) (x : A) (xs : List A) → Among x (filter test xs) → Among x xs
filter_among test x [] h = absurd h
filter_among test x (y ∷ ys) h =
    (elim (test y) as (λ b. Among x (cond b (y ∷ filter test ys) (filter test ys)) → Among x (y ∷ ys)) [
      | true ↦ λ g. among_next x y (filter test ys) ys (filter_among test x ys) g
      | false ↦ λ g. inr (filter_among test x ys g)
    ]) h

pub among_filter : {A : Type 0} (test : A → Bool) (x : A) (xs : List A) → Among x xs → test x ≡ true → Among x (filter test xs)
among_filter test x [] h t = absurd h
among_filter test x (y ∷ ys) h t =
    (elim (test y) as (λ b. test y ≡ b → Among x (cond b (y ∷ filter test ys) (filter test ys))) [
      | true ↦ λ e. among_next x y ys (filter test ys) (λ g. among_filter test x ys g t) h
      | false ↦ λ e. there (λ g. among_filter test x ys g t) e h
    ]) refl
  where
    true_false : true ≡ false → ⊥
    true_false e = cc

    there : (Among x ys → Among x (filter test ys)) → test y ≡ false → Among x (y ∷ ys) → Among x (filter test ys)
    there f e (inl q) = absurd (true_false (sym t ∙ (ap test q ∙ e)))
    there f e (inr g) = f g

pub polled_some : (polled : Links) (t : ℕ) → Among t (polled_sites polled) → boot_in polled.boot t ≢ 0
polled_some polled t h = not_zero (boot_in polled.boot t) (filter_passes (λ s. not (boot_in polled.boot s == 0)) t all_sites h)

-- ---- handlers ----

-- what a handler leaves of the round
record Mid (s : ℕ) (v : SiteView) (e : Event) (r : Round) (m : Outcome SiteView) : Type 0 where
  next : Round
  round : m.view.round ≡ Some next
  boot : m.view.boot ≡ v.boot
  promised : m.view.promised ≡ next.id
  waits : m.view.installed ≡ false
  outside : m.view.epoch ≡ None
  moves : RoundMoves s v e r next m.sent
  sent : (u : SiteView) → Every (RoundSent s v next u) m.sent

abbrev pub Stands : SiteView → Round → Type 0
Stands v r = (v.round ≡ Some r) × (v.promised ≡ r.id) × (v.installed ≡ false) × (v.epoch ≡ None)

pub round_formless : (s : ℕ) (v : SiteView) (q : Round) (u : SiteView) (p : Packet) (x : Body) → FormsNone x → RoundSentCase s v q u p x
round_formless s v q u p body.Poll h = absurd h
round_formless s v q u p (body.Promise reach) h = absurd h
round_formless s v q u p (body.Install members) h = absurd h
round_formless s v q u p _ h = tt

-- the round stays, and a view that agreement doesn't tell from the old one
stays_mid : (s : ℕ) (v : SiteView) (e : Event) (r : Round) (m : Outcome SiteView) → Stands v r → SameCore v m.view → ((u : SiteView) → Every (RoundSent s v r u) m.sent) →
    ((p : Packet) → e ≡ Receives p → IsAnswer p.body → p.epoch ≡ r.id → boot_in r.polled.boot p.from ≡ p.from_boot → ⊥) → Mid s v e r m
stays_mid s v e r m st k sent unless = record { next = r; round = k.round ∙ st.0; boot = k.boot; promised = k.promised ∙ st.1; waits = k.installed ∙ st.2; outside = k.epoch ∙ st.3; moves = inl (record { same = refl; unless = unless }); sent = sent }

receives_eq : (p q : Packet) → Receives p ≡ Receives q → p ≡ q
receives_eq p q e = cc

-- what comes is no answer
no_answer : (p : Packet) (x : Body) (r : Round) → p.body ≡ x → (IsAnswer x → ⊥) → (q : Packet) → Receives p ≡ Receives q → IsAnswer q.body → q.epoch ≡ r.id → boot_in r.polled.boot q.from ≡ q.from_boot → ⊥
no_answer p x r is none q e a id of = none (subst IsAnswer (ap (λ (y : Packet). y.body) (sym (receives_eq p q e)) ∙ is) a)

poll_mid : (s : ℕ) (links : Links) (v : SiteView) (p : Packet) (r : Round) → Stands v r → p.body ≡ body.Poll → is_epoch_below v.promised p.epoch ≡ false → Mid s v (Receives p) r (on_poll s links p.from p.from_boot p.epoch v)
poll_mid s links v p r st is low =
    subst (λ (b : Bool). Mid s v (Receives p) r (elim b [ true ↦ and_then (promises s p.epoch (reached links) v) (λ now. sends (promise_packet s links p.from p.from_boot p.epoch now) now) | false ↦ sends (cond (same_epoch p.epoch v.promised && not v.installed) (promise_packet s links p.from p.from_boot p.epoch v) (refuse_packet s p.from p.from_boot p.epoch v)) v ])) (sym low)
    (stays_mid s v (Receives p) r (sends (cond (same_epoch p.epoch v.promised && not v.installed) (promise_packet s links p.from p.from_boot p.epoch v) (refuse_packet s p.from p.from_boot p.epoch v)) v) st (same_core v)
    (λ u. every_cond (RoundSent s v r u) (same_epoch p.epoch v.promised && not v.installed) (promise_packet s links p.from p.from_boot p.epoch v) (refuse_packet s p.from p.from_boot p.epoch v) ((refl, refl), tt) (tt, tt))
    (no_answer p body.Poll r is (λ a. a)))

same_id_test : (a : EpochId) → same_epoch a a ≡ true
same_id_test a = grind (arith, nat_tests)

promise_mid : (s : ℕ) (v : SiteView) (p : Packet) (reach : Sites) (r : Round) → Stands v r → p.body ≡ body.Promise reach → Mid s v (Receives p) r (on_promise_of p.from p.from_boot p.epoch reach (Some r) v)
promise_mid s v p reach r st is =
    (elim (counts_promise p.from p.from_boot p.epoch r) as (λ b. counts_promise p.from p.from_boot p.epoch r ≡ b → Mid s v (Receives p) r (quiet (record v { round = Some (cond b (with_promise p.from reach r) r) }))) [
      | true ↦ λ e. (let k : (same_epoch r.id p.epoch ≡ true) × ((boot_in r.polled.boot p.from == p.from_boot) ≡ true) = both_true (same_epoch r.id p.epoch) (boot_in r.polled.boot p.from == p.from_boot) e in
          record {
            next = with_promise p.from reach r;
            round = refl;
            boot = refl;
            promised = st.1;
            waits = st.2;
            outside = st.3;
            moves = inr (inl (record { letter = p; reach = reach; comes = refl; is_promise = is; id = sym (same_epoch_eq r.id p.epoch k.0); of = equal (boot_in r.polled.boot p.from) p.from_boot k.1; same = refl }));
            sent = λ u. tt;
          })
      | false ↦ λ e. record { next = r; round = refl; boot = refl; promised = st.1; waits = st.2; outside = st.3; moves = inl (record { same = refl; unless = uncounted e }); sent = λ u. tt }
    ]) refl
  where
    uncounted : counts_promise p.from p.from_boot p.epoch r ≡ false → (q : Packet) → Receives p ≡ Receives q → IsAnswer q.body → q.epoch ≡ r.id → boot_in r.polled.boot q.from ≡ q.from_boot → ⊥
    uncounted e q f a id of =
        let g : q ≡ p = sym (receives_eq p q f) in
        let i : p.epoch ≡ r.id = subst (λ (y : Packet). y.epoch ≡ r.id) g id in
        let j : boot_in r.polled.boot p.from ≡ p.from_boot = subst (λ (y : Packet). boot_in r.polled.boot y.from ≡ y.from_boot) g of in
        no_false (sym (both (same_epoch r.id p.epoch) (boot_in r.polled.boot p.from == p.from_boot) (subst (λ (y : EpochId). same_epoch r.id y ≡ true) (sym i) (same_id_test r.id)) (equal_test (boot_in r.polled.boot p.from) p.from_boot j)) ∙ e)
      where
        both : (x y : Bool) → x ≡ true → y ≡ true → (x && y) ≡ true
        both true true h k = refl
        both true false h k = k
        both false y h k = absurd (no_false (sym h))

refuse_mid : (s : ℕ) (links : Links) (v : SiteView) (p : Packet) (theirs : EpochId) (r : Round) → Stands v r → p.body ≡ body.Refuse theirs → Mid s v (Receives p) r (on_refuse_of s links p.epoch theirs (Some r) v)
refuse_mid s links v p theirs r st is =
    (elim (same_epoch r.id p.epoch) as (λ b. same_epoch r.id p.epoch ≡ b → Mid s v (Receives p) r (elim b [ true ↦ begins_round s links (theirs.number + 1) r.polled v | false ↦ quiet v ])) [
      | true ↦ λ e. record {
        next = new_round id r.polled;
        round = refl;
        boot = promises_boot s id (reached links) v;
        promised = refl;
        waits = refl;
        outside = promises_epoch s id (reached links) v;
        moves = inr (inr (record { letter = p; theirs = theirs; comes = refl; is_refusal = is; id = sym (same_epoch_eq r.id p.epoch e); same = refl; polls = polled }));
        sent = λ u. every_append (RoundSent s v (new_round id r.polled) u) o.sent (map (poll_packet s o.view.boot id r.polled) (polled_sites r.polled)) (promises_silent (RoundSent s v (new_round id r.polled) u) s id (reached links) v)
            (every_map_among (RoundSent s v (new_round id r.polled) u) (poll_packet s o.view.boot id r.polled) (polled_sites r.polled) (λ t a. record { id = refl; asked = refl; some = polled_some r.polled t a }));
      }
      | false ↦ λ e. stays_mid s v (Receives p) r (quiet v) st (same_core v) (λ u. tt) (λ q f a i of. no_false (sym (subst (λ (y : EpochId). same_epoch r.id y ≡ true) (sym i ∙ ap (λ (y : Packet). y.epoch) (sym (receives_eq p q f))) (same_id_test r.id)) ∙ e))
    ]) refl
  where
    id : EpochId
    id = round_id s (theirs.number + 1) v

    o : Outcome SiteView
    o = promises s id (reached links) v

    polled : (t : ℕ) → Among t (polled_sites r.polled) → Among (poll_packet s v.boot id r.polled t) (begins_round s links (theirs.number + 1) r.polled v).sent
    polled t a = among_right (poll_packet s v.boot id r.polled t) o.sent (map (poll_packet s o.view.boot id r.polled) (polled_sites r.polled))
        (subst (λ (b : ℕ). Among (poll_packet s b id r.polled t) (map (poll_packet s o.view.boot id r.polled) (polled_sites r.polled))) (promises_boot s id (reached links) v) (among_map (poll_packet s o.view.boot id r.polled) t (polled_sites r.polled) a))

install_mid : (c : Config) (s : ℕ) (v : SiteView) (p : Packet) (members : Members) (r : Round) → Stands v r → p.body ≡ body.Install members → (p.epoch ≡ r.id → ⊥) → Mid s v (Receives p) r (on_install c s p.from p.from_boot p.epoch members v)
install_mid c s v p members r st is none =
    (elim (may_install s p.epoch members v) as (λ b. may_install s p.epoch members v ≡ b → Mid s v (Receives p) r (elim b [ true ↦ and_then (joins c s p.epoch members v) (λ now. sends (joined_packet s p.from p.from_boot p.epoch now) now) | false ↦ sends (cond (is_in p.epoch v.epoch) (joined_packet s p.from p.from_boot p.epoch v) []) v ])) [
      | true ↦ λ e. absurd (none (same_epoch_eq p.epoch v.promised (both_true (same_epoch p.epoch v.promised) _ e).0 ∙ st.1))
      | false ↦ λ e. stays_mid s v (Receives p) r (sends (cond (is_in p.epoch v.epoch) (joined_packet s p.from p.from_boot p.epoch v) []) v) st (same_core v)
          (λ u. every_cond (RoundSent s v r u) (is_in p.epoch v.epoch) (joined_packet s p.from p.from_boot p.epoch v) [] (tt, tt) tt) (no_answer p (body.Install members) r is (λ a. a))
    ]) refl

framed_mid : (c : Config) (s : ℕ) (v : SiteView) (p : Packet) (x : Body) (r : Round) → Every TableFormless v.tables → Stands v r → p.body ≡ x → (IsAnswer x → ⊥) → Mid s v (Receives p) r (takes_framed c s p v.epoch v)
framed_mid c s v p x r ok st is none =
    let o : Outcome SiteView = takes_framed c s p v.epoch v in
    let f : FormlessSite v o = framed_formless c s p v.epoch v ok in
    stays_mid s v (Receives p) r o st (inner_core v o f (framed_inner c s p v.epoch v refl)) (λ u. every_weaker Formless (RoundSent s v r u) o.sent (λ q h. round_formless s v r u q q.body h) f.still.0) (no_answer p x r is none)

-- neither a poll of a greater id nor an install of the round comes
abbrev pub Blocked : SiteView → Round → Packet → Body → Type 0
Blocked v r p body.Poll = is_epoch_below v.promised p.epoch ≡ false
Blocked v r p (body.Install members) = p.epoch ≡ r.id → ⊥
Blocked v r p _ = Unit {0}

takes_mid : (c : Config) (s : ℕ) (links : Links) (v : SiteView) (p : Packet) (x : Body) (r : Round) → Every TableFormless v.tables → Stands v r → p.body ≡ x → Blocked v r p x → Mid s v (Receives p) r (takes c s links p x v)
takes_mid c s links v p body.Poll r ok st is b = poll_mid s links v p r st is b
takes_mid c s links v p (body.Promise reach) r ok st is b = subst (λ (o : Option Round). Mid s v (Receives p) r (on_promise_of p.from p.from_boot p.epoch reach o v)) (sym st.0) (promise_mid s v p reach r st is)
takes_mid c s links v p (body.Refuse theirs) r ok st is b = subst (λ (o : Option Round). Mid s v (Receives p) r (on_refuse_of s links p.epoch theirs o v)) (sym st.0) (refuse_mid s links v p theirs r st is)
takes_mid c s links v p (body.Install members) r ok st is b = install_mid c s v p members r st is b
takes_mid c s links v p body.Joined r ok st is b = stays_mid s v (Receives p) r (on_joined p.from p.epoch v) st (joined_core p.from p.epoch v) (λ u. tt) (no_answer p body.Joined r is (λ a. a))
takes_mid c s links v p x r ok st is b = framed_mid c s v p x r ok st is (λ a. a)

-- ---- the end of the event ----

pub passes_ends : (c : Config) (s : ℕ) (links : Links) (v mid : SiteView) (q : Round) (o : Outcome SiteView) → mid.round ≡ Some q → mid.boot ≡ v.boot → mid.promised ≡ q.id → mid.installed ≡ false → mid.epoch ≡ None →
    SameCore (passes_over c s links mid).view o.view → ((p : Packet) → Among p (passes_over c s links mid).sent → Among p o.sent) →
    (GoesOn links v q o.view ⊎ Decides s links v q o) × Every (RoundSent s v q o.view) (passes_over c s links mid).sent
passes_ends c s links v mid q o round boot promised waits outside k has = by_round k has (ap (λ (x : Option Round). passes_over_of c s links x mid) round)
  where
    R : Round
    R = passed_over links q

    m : Members
    m = chosen_members s mid.boot R (chosen_set s links R)

    by_missing : (xs : List ℕ) → unanswered R ≡ xs → SameCore (decides_if c s links R xs mid).view o.view → ((p : Packet) → Among p (decides_if c s links R xs mid).sent → Among p o.sent) →
        (GoesOn links v q o.view ⊎ Decides s links v q o) × Every (RoundSent s v q o.view) (decides_if c s links R xs mid).sent
    by_missing [] e k has =
        let same : m ≡ members_of s links v q = ap (λ (b : ℕ). chosen_members s b R (chosen_set s links R)) boot in
        let inside : o.view.epoch ≡ Some (record { id = q.id; members = m }) = k.epoch in (
          inr (record {
            answered = e;
            boot = k.boot ∙ boot;
            promised = k.promised ∙ promised;
            epoch = inside ∙ ap (λ (x : Members). Some (record { id = q.id; members = x })) same;
            installs = λ t a. subst (λ (x : Members). Among (install_packet s v.boot q.id x t) o.sent) same (subst (λ (b : ℕ). Among (install_packet s b q.id m t) o.sent) boot
                (has (install_packet s mid.boot q.id m t) (among_right (install_packet s mid.boot q.id m t) (joins c s q.id m mid).sent (map (install_packet s mid.boot q.id m) (others_of s m)) (among_map (install_packet s mid.boot q.id m) t (others_of s m) (subst (λ (x : Members). Among t (others_of s x)) (sym same) a)))));
          }),
          every_append (RoundSent s v q o.view) (joins c s q.id m mid).sent (map (install_packet s mid.boot q.id m) (others_of s m)) (every_weaker Formless (RoundSent s v q o.view) (joins c s q.id m mid).sent (λ p h. round_formless s v q o.view p p.body h) (reports_formless c s q.id m mid))
              (every_map_among (RoundSent s v q o.view) (install_packet s mid.boot q.id m) (others_of s m) (λ t a. (refl, inside))),
        )
    by_missing (x ∷ xs) e k has = (inl (record { round = k.round; boot = k.boot ∙ boot; promised = k.promised ∙ promised; waits = k.installed ∙ waits; outside = k.epoch ∙ outside }), tt)

    by_round : SameCore (passes_over c s links mid).view o.view → ((p : Packet) → Among p (passes_over c s links mid).sent → Among p o.sent) → passes_over c s links mid ≡ decides_if c s links R (unanswered R) mid →
        (GoesOn links v q o.view ⊎ Decides s links v q o) × Every (RoundSent s v q o.view) (passes_over c s links mid).sent
    by_round k has e = subst (λ (x : Outcome SiteView). (GoesOn links v q o.view ⊎ Decides s links v q o) × Every (RoundSent s v q o.view) x.sent) (sym e)
        (by_missing (unanswered R) refl (subst (λ (x : Outcome SiteView). SameCore x.view o.view) e k) (subst (λ (x : Outcome SiteView). (p : Packet) → Among p x.sent → Among p o.sent) e has))

moves_sent : (s : ℕ) (v : SiteView) (e : Event) (r q : Round) (a b : List Packet) → ((p : Packet) → Among p a → Among p b) → RoundMoves s v e r q a → RoundMoves s v e r q b
moves_sent s v e r q a b f (inl h) = inl h
moves_sent s v e r q a b f (inr (inl h)) = inr (inl h)
moves_sent s v e r q a b f (inr (inr h)) = inr (inr (record { letter = h.letter; theirs = h.theirs; comes = h.comes; is_refusal = h.is_refusal; id = h.id; same = h.same; polls = λ t x. f _ (h.polls t x) }))

rounded_of : (c : Config) (s : ℕ) (links : Links) (v : SiteView) (e : Event) (r : Round) (m o : Outcome SiteView) → Mid s v e r m → Formed c s links m o → Rounded s links v e r o
rounded_of c s links v e r m o h f =
    let k : SameCore m.view f.mid = f.mid_is in
    let d : (GoesOn links v h.next o.view ⊎ Decides s links v h.next o) × Every (RoundSent s v h.next o.view) (passes_over c s links f.mid).sent =
    passes_ends c s links v f.mid h.next o (k.round ∙ h.round) (k.boot ∙ h.boot) (k.promised ∙ h.promised) (k.installed ∙ h.waits) (k.epoch ∙ h.outside) f.view (λ p a. f.has p (inr a)) in
    record {
      next = h.next;
      moves = moves_sent s v e r h.next m.sent o.sent (λ p a. f.has p (inl a)) h.moves;
      ends = d.0;
      sent = f.every (RoundSent s v h.next o.view) (λ p x. round_formless s v h.next o.view p p.body x) (h.sent o.view) d.1;
    }

-- ---- the step ----

tick_sent : (s : ℕ) (v a : SiteView) (r : Round) (o : Option InEpoch) (u : SiteView) → a.round ≡ Some r → o ≡ None → Every (RoundSent s v r u) (forming_repeats s a o)
tick_sent s v a r None u round none =
    subst (λ (x : Option Round). Every (RoundSent s v r u) (poll_repeats s a x)) (sym round)
    (every_map_among (RoundSent s v r u) (poll_packet s a.boot r.id r.polled) (unanswered r) (λ t h. record { id = refl; asked = refl; some = polled_some r.polled t (filter_among (λ x. not (has_promised r x)) t (polled_sites r.polled) h) }))
tick_sent s v a r (Some e) u round none = absurd (none_some e (sym none))

no_tick : (p : Packet) → Ticks ≡ Receives p → ⊥
no_tick p e = cc

pub tick_rounded : (c : Config) (s : ℕ) (links : Links) (v : SiteView) (r : Round) → Every TableFormless v.tables → Stands v r → Rounded s links v Ticks r (step c s links v Ticks)
tick_rounded c s links v r ok st =
    let a : SiteView = (adopts_in c s v).view in
    let t : SameCore v a × Formed c s links (sends (forming_repeats s a a.epoch) a) (step c s links v Ticks) = ticks_formed c s links v ok in
    rounded_of c s links v Ticks r (sends (forming_repeats s a a.epoch) a) (step c s links v Ticks)
    (stays_mid s v Ticks r (sends (forming_repeats s a a.epoch) a) st t.0 (λ u. tick_sent s v a r a.epoch u (t.0.round ∙ st.0) (t.0.epoch ∙ st.3)) (λ p e x id of. no_tick p e)) t.1

pub taken_rounded : (c : Config) (s : ℕ) (links : Links) (v : SiteView) (p : Packet) (r : Round) → Every TableFormless v.tables → Stands v r → is_dropped p v ≡ false → Blocked v r p p.body → Rounded s links v (Receives p) r (step c s links v (Receives p))
taken_rounded c s links v p r ok st undropped b =
    subst (λ (t : Bool). Rounded s links v (Receives p) r (elim t [ true ↦ quiet v | false ↦ whole c s links m (tries_at c s p.body) ])) (sym undropped)
    (rounded_of c s links v (Receives p) r m (whole c s links m (tries_at c s p.body)) (takes_mid c s links v p p.body r ok st refl b)
    (whole_formed c s links m (tries_at c s p.body) (tries_formless c s p.body m.view (takes_tables c s links p p.body v ok)) (tries_inner c s p.body m.view)))
  where
    m : Outcome SiteView
    m = takes c s links p p.body v
