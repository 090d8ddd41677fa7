-- What each event does at a site without a round.
use Rattle.std.proofs.Common.{◌≡◌, ℕ, Bool, true, false, cond, ◌==◌, ◌&&◌, ◌||◌, not, List, [], ◌+◌, Option, Some, None, refl, sym, ◌∙◌, ap, subst, inl, inr, arith}
use Rattle.std.proofs.lemmas.Bool.Decides.{nat_tests}
use Rattle.role_steps.proofs.of_plain_facts.Numbers.{equal as test_same}
use Rattle.role_steps.proofs.of_plain_facts.Tests.{both_true, not_false, not_true}
use Rattle.locus_ids.specs.declared.ids.EpochId.{EpochId}
use Rattle.locus_ids.specs.declared.sites.Sites.{Sites}
use Rattle.locus_ids.specs.declared.sites.Members.{Members}
use Rattle.locus_ids.specs.declared.sites.Links.{Links}
use Rattle.locus_ids.specs.declared.config.Config.{Config}
use Rattle.trace_book.specs.Same.{same_epoch}
use Rattle.wire_messages.specs.declared.packet.Packet.{Packet}
use Rattle.wire_messages.specs.declared.body.Body.{Body}
use Rattle.wire_messages.specs.declared.body.Body.TheVariants as body
use Rattle.role_steps.specs.Own.{Every}
use Rattle.role_steps.specs.Tables.{without_row}
use Rattle.role_steps.specs.Views.{SiteView, Outcome, Event, Calls, Receives, Ticks, Parts, Merges, GivesUp, quiet, sends, and_then, boot_in}
use Rattle.role_steps.specs.Reports.{new_table}
use Rattle.role_steps.specs.Epochs.{is_epoch_below, frame_in, leaves_of, leaves, promises, reached, promise_packet, refuse_packet, on_poll, on_promise_of, on_refuse_of, begins_round, joined_view, report_packets, joins, may_install, is_in, joined_packet, on_install, on_joined, install_packet, passes_over_of, passes_over, poll_repeats, install_repeats}
use Rattle.role_steps.specs.declared.rounds.InEpoch.{InEpoch}
use Rattle.role_steps.specs.declared.rounds.Round.{Round}
use Rattle.role_steps.proofs.Sending.{every_append, every_cond, every_map, every_flat_map}
use Rattle.the_run.specs.Kept.{Among}
use Rattle.the_run.specs.Steps.{is_forming, is_framed, is_dropped, takes_framed, takes, tries_at, adopts_in, whole, call_frame, epoch_id, takes_call, step}
use Rattle.the_run.proofs.Boots.{every_weaker}
use Rattle.run_laws.proofs.InsideSteps.{quiet_inner, framed_inner, tries_inner, call_inner}
use Rattle.run_laws.specs.Epochs.Forming.{FormsNone, Formless, TableFormless, FormlessSite}
use Rattle.run_laws.proofs.Epochs.Forms.{sync_formless, on_call_forms, formless_quiet, tries_formless, framed_formless}
use Rattle.run_laws.proofs.Epochs.Handlers.{same_epoch_eq, leaves_of_epoch}
use Rattle.row_laws.specs.Orderly.Effects.{SameCore, Change, SentCase, Sent, Roundless, Answers}
use Rattle.row_laws.proofs.Orderly.Formed.{among_right, same_core, core_then, inner_core, Formed, whole_formed, forming_repeats, ticks_formed}

-- ---- along views that are alike ----

change_core : (s : ℕ) (v : SiteView) (e : Event) (m u : SiteView) → SameCore m u → Change s v e m → Change s v e u
change_core s v e m u k (inl h) = inl (core_then v m u h k)
change_core s v e m u k (inr (inl h)) = inr (inl (record { comes = h.comes; boot = k.boot ∙ h.boot; promised = k.promised ∙ h.promised; installed = k.installed ∙ h.installed; round = k.round ∙ h.round; epoch = k.epoch ∙ h.epoch }))
change_core s v e m u k (inr (inr (inl h))) = inr (inr (inl (record { poll = h.poll; comes = h.comes; is_poll = h.is_poll; to_boot = h.to_boot; greater = h.greater; boot = k.boot ∙ h.boot; promised = k.promised ∙ h.promised; installed = k.installed ∙ h.installed; round = k.round ∙ h.round; epoch = k.epoch ∙ h.epoch })))
change_core s v e m u k (inr (inr (inr h))) = inr (inr (inr (record { install = h.install; members = h.members; comes = h.comes; is_install = h.is_install; id = h.id; waits = h.waits; listed = h.listed; boot = k.boot ∙ h.boot; promised = k.promised ∙ h.promised; installed = k.installed ∙ h.installed; round = k.round ∙ h.round; epoch = k.epoch ∙ h.epoch })))

sent_core : (s : ℕ) (links : Links) (v : SiteView) (e : Event) (m u : SiteView) (q : Packet) (x : Body) → SameCore m u → SentCase s links v e m q x → SentCase s links v e u q x
sent_core s links v e m u q body.Poll k h = h
sent_core s links v e m u q (body.Promise reach) k h = record { from = h.from; from_boot = h.from_boot ∙ sym k.boot; reaches = h.reaches; promised = k.promised ∙ h.promised; waits = k.installed ∙ h.waits }
sent_core s links v e m u q (body.Install members) k h = h
sent_core s links v e m u q _ k h = tt

pub sent_formless : (s : ℕ) (links : Links) (v : SiteView) (e : Event) (u : SiteView) (q : Packet) (x : Body) → FormsNone x → SentCase s links v e u q x
sent_formless s links v e u q body.Poll h = absurd h
sent_formless s links v e u q (body.Promise reach) h = absurd h
sent_formless s links v e u q (body.Install members) h = absurd h
sent_formless s links v e u q _ h = tt

round_none : (s : ℕ) (v : SiteView) (e : Event) (u : SiteView) → v.round ≡ None → Change s v e u → u.round ≡ None
round_none s v e u none (inl h) = h.round ∙ none
round_none s v e u none (inr (inl h)) = h.round
round_none s v e u none (inr (inr (inl h))) = h.round
round_none s v e u none (inr (inr (inr h))) = h.round

pub change_round : (s : ℕ) (v : SiteView) (e : Event) (u : SiteView) → v.round ≡ None → Change s v e u → u.round ≡ None
change_round s v e u none h = round_none s v e u none h

-- nothing is passed over without a round
pub passes_none : (c : Config) (me : ℕ) (links : Links) (v : SiteView) → v.round ≡ None → passes_over c me links v ≡ quiet v
passes_none c me links v e = ap (λ (o : Option Round). passes_over_of c me links o v) e

-- an event whose handler is such
roundless_of : (c : Config) (s : ℕ) (links : Links) (v : SiteView) (e : Event) (m o : Outcome SiteView) → v.round ≡ None → Formed c s links m o → Change s v e m.view → Every (Sent s links v e m.view) m.sent → Roundless s links v e o
roundless_of c s links v e m o none f change sent = record {
  change = change_core s v e m.view o.view core change;
  sent = f.every (Sent s links v e o.view) (λ q h. sent_formless s links v e o.view q q.body h)
      (every_weaker (Sent s links v e m.view) (Sent s links v e o.view) m.sent (λ q h. sent_core s links v e m.view o.view q q.body core h) sent)
      (subst (λ (x : Outcome SiteView). Every (Sent s links v e o.view) x.sent) (sym ended) tt);
}
  where
    ended : passes_over c s links f.mid ≡ quiet f.mid
    ended = passes_none c s links f.mid (f.mid_is.round ∙ round_none s v e m.view none change)

    core : SameCore m.view o.view
    core = core_then m.view f.mid o.view f.mid_is (subst (λ (x : Outcome SiteView). SameCore x.view o.view) ended f.view)

-- ---- handlers ----

-- of an outcome
abbrev ChangeBy : ℕ → SiteView → Event → Outcome SiteView → Type 0
ChangeBy s v e o = Change s v e o.view

abbrev SentBy : ℕ → Links → SiteView → Event → Outcome SiteView → Type 0
SentBy s links v e o = Every (Sent s links v e o.view) o.sent

abbrev AllSent : (Packet → Type 0) → Outcome SiteView → Type 0
AllSent N o = Every N o.sent

abbrev TablesAfter : Outcome SiteView → Type 0
TablesAfter o = Every TableFormless o.view.tables

abbrev TablesOf : SiteView → Type 0
TablesOf v = Every TableFormless v.tables

abbrev AnsweredIn : ℕ → SiteView → Packet → List Packet → Type 0
AnsweredIn s v p ps = (q : Packet) × (Among q ps) × Answers s v p q

abbrev AnsweredBy : ℕ → SiteView → Packet → Outcome SiteView → Type 0
AnsweredBy s v p o = AnsweredIn s v p o.sent

leaves_of_boot : (me : ℕ) (e : Option InEpoch) (v : SiteView) → (leaves_of me e v).view.boot ≡ v.boot
leaves_of_boot me None v = refl
leaves_of_boot me (Some e) v = refl

pub leaves_of_silent : (N : Packet → Type 0) (me : ℕ) (e : Option InEpoch) (v : SiteView) → Every N (leaves_of me e v).sent
leaves_of_silent N me None v = tt
leaves_of_silent N me (Some e) v = tt

-- the view that a promise leaves
pub promises_boot : (me : ℕ) (id : EpochId) (reach : Sites) (v : SiteView) → (promises me id reach v).view.boot ≡ v.boot
promises_boot me id reach v = leaves_of_boot me v.epoch v

pub promises_epoch : (me : ℕ) (id : EpochId) (reach : Sites) (v : SiteView) → (promises me id reach v).view.epoch ≡ None
promises_epoch me id reach v = leaves_of_epoch me v.epoch v refl

pub promises_silent : (N : Packet → Type 0) (me : ℕ) (id : EpochId) (reach : Sites) (v : SiteView) → Every N (promises me id reach v).sent
promises_silent N me id reach v = every_append N (leaves me v).sent [] (leaves_of_silent N me v.epoch v) tt

poll_change : (s : ℕ) (links : Links) (p : Packet) (v : SiteView) → v.round ≡ None → p.body ≡ body.Poll → p.to_boot ≡ v.boot → Change s v (Receives p) (on_poll s links p.from p.from_boot p.epoch v).view
poll_change s links p v none is here =
    (elim (is_epoch_below v.promised p.epoch) as (λ t. is_epoch_below v.promised p.epoch ≡ t → ChangeBy s v (Receives p) (elim t [ true ↦ and_then (promises s p.epoch (reached links) v) (λ now. sends (promise_packet s links p.from p.from_boot p.epoch now) now) | false ↦ sends (cond (same_epoch p.epoch v.promised && not v.installed) (promise_packet s links p.from p.from_boot p.epoch v) (refuse_packet s p.from p.from_boot p.epoch v)) v ])) [
      | true ↦ λ e. inr (inr (inl (record { poll = p; comes = refl; is_poll = is; to_boot = here; greater = e; boot = promises_boot s p.epoch (reached links) v; promised = refl; installed = refl; round = refl; epoch = promises_epoch s p.epoch (reached links) v })))
      | false ↦ λ e. inl (same_core v)
    ]) refl

again_sent : (s : ℕ) (links : Links) (p : Packet) (v : SiteView) → Every (Sent s links v (Receives p) v) (cond (same_epoch p.epoch v.promised && not v.installed) (promise_packet s links p.from p.from_boot p.epoch v) (refuse_packet s p.from p.from_boot p.epoch v))
again_sent s links p v =
    (elim (same_epoch p.epoch v.promised && not v.installed) as (λ b. (same_epoch p.epoch v.promised && not v.installed) ≡ b → Every (Sent s links v (Receives p) v) (cond b (promise_packet s links p.from p.from_boot p.epoch v) (refuse_packet s p.from p.from_boot p.epoch v))) [
      | true ↦ λ e. (let k : (same_epoch p.epoch v.promised ≡ true) × (not v.installed ≡ true) = both_true (same_epoch p.epoch v.promised) (not v.installed) e in
          (record { from = refl; from_boot = refl; reaches = refl; promised = sym (same_epoch_eq p.epoch v.promised k.0); waits = not_true v.installed k.1 }, tt))
      | false ↦ λ e. (tt, tt)
    ]) refl

poll_sent : (s : ℕ) (links : Links) (p : Packet) (v : SiteView) → Every (Sent s links v (Receives p) (on_poll s links p.from p.from_boot p.epoch v).view) (on_poll s links p.from p.from_boot p.epoch v).sent
poll_sent s links p v =
    elim (is_epoch_below v.promised p.epoch) as (λ t. SentBy s links v (Receives p) (elim t [ true ↦ and_then (promises s p.epoch (reached links) v) (λ now. sends (promise_packet s links p.from p.from_boot p.epoch now) now) | false ↦ sends (cond (same_epoch p.epoch v.promised && not v.installed) (promise_packet s links p.from p.from_boot p.epoch v) (refuse_packet s p.from p.from_boot p.epoch v)) v ])) [
      | true ↦ every_append (Sent s links v (Receives p) (promises s p.epoch (reached links) v).view) (promises s p.epoch (reached links) v).sent (promise_packet s links p.from p.from_boot p.epoch (promises s p.epoch (reached links) v).view)
          (promises_silent (Sent s links v (Receives p) (promises s p.epoch (reached links) v).view) s p.epoch (reached links) v) (record { from = refl; from_boot = refl; reaches = refl; promised = refl; waits = refl }, tt)
      | false ↦ again_sent s links p v
    ]

install_change : (c : Config) (s : ℕ) (p : Packet) (m : Members) (v : SiteView) → v.round ≡ None → p.body ≡ body.Install m → Change s v (Receives p) (on_install c s p.from p.from_boot p.epoch m v).view
install_change c s p m v none is =
    (elim (may_install s p.epoch m v) as (λ t. may_install s p.epoch m v ≡ t → ChangeBy s v (Receives p) (elim t [ true ↦ and_then (joins c s p.epoch m v) (λ now. sends (joined_packet s p.from p.from_boot p.epoch now) now) | false ↦ sends (cond (is_in p.epoch v.epoch) (joined_packet s p.from p.from_boot p.epoch v) []) v ])) [
      | true ↦ λ e. joins_on e
      | false ↦ λ e. inl (same_core v)
    ]) refl
  where
    joins_on : may_install s p.epoch m v ≡ true → Change s v (Receives p) (joined_view c s p.epoch m v)
    joins_on e =
        let a : (same_epoch p.epoch v.promised ≡ true) × ((not v.installed && (boot_in m.boot s == v.boot)) ≡ true) = both_true (same_epoch p.epoch v.promised) (not v.installed && (boot_in m.boot s == v.boot)) e in
        let b : (not v.installed ≡ true) × ((boot_in m.boot s == v.boot) ≡ true) = both_true (not v.installed) (boot_in m.boot s == v.boot) a.1 in
        let k : p.epoch ≡ v.promised = same_epoch_eq p.epoch v.promised a.0 in
        inr (inr (inr (record { install = p; members = m; comes = refl; is_install = is; id = k; waits = not_true v.installed b.0; listed = test_same (boot_in m.boot s) v.boot b.1; boot = refl; promised = refl; installed = refl; round = refl; epoch = ap (λ (i : EpochId). Some (record { id = i; members = m })) k })))

pub reports_formless : (c : Config) (s : ℕ) (id : EpochId) (m : Members) (v : SiteView) → Every Formless (joins c s id m v).sent
reports_formless c s id m v = every_flat_map Formless (report_packets (frame_in c s v.boot (record { id = id; members = m })) (joined_view c s id m v)) (joined_view c s id m v).reports (λ g. sync_formless (frame_in c s v.boot (record { id = id; members = m })) g _ tt)

install_sent : (N : Packet → Type 0) (c : Config) (s : ℕ) (p : Packet) (m : Members) (v : SiteView) → ((q : Packet) → Formless q → N q) → ((q : Packet) → q.body ≡ body.Joined → N q) → Every N (on_install c s p.from p.from_boot p.epoch m v).sent
install_sent N c s p m v f g =
    elim (may_install s p.epoch m v) as (λ t. AllSent N (elim t [ true ↦ and_then (joins c s p.epoch m v) (λ now. sends (joined_packet s p.from p.from_boot p.epoch now) now) | false ↦ sends (cond (is_in p.epoch v.epoch) (joined_packet s p.from p.from_boot p.epoch v) []) v ])) [
      | true ↦ every_append N (joins c s p.epoch m v).sent (joined_packet s p.from p.from_boot p.epoch (joins c s p.epoch m v).view) (every_weaker Formless N (joins c s p.epoch m v).sent f (reports_formless c s p.epoch m v)) (g _ refl, tt)
      | false ↦ every_cond N (is_in p.epoch v.epoch) (joined_packet s p.from p.from_boot p.epoch v) [] (g _ refl, tt) tt
    ]

joined_case : (s : ℕ) (links : Links) (v : SiteView) (e : Event) (u : SiteView) (q : Packet) → q.body ≡ body.Joined → Sent s links v e u q
joined_case s links v e u q is = subst (λ (x : Body). SentCase s links v e u q x) (sym is) tt

pub joined_core : (from : ℕ) (id : EpochId) (v : SiteView) → SameCore v (on_joined from id v).view
joined_core from id v = elim (is_in id v.epoch) as (λ b. SameCore v (cond b (record v { installs = without_row (λ s. s) from v.installs }) v)) [ true ↦ record { boot = refl; promised = refl; installed = refl; round = refl; epoch = refl } | false ↦ same_core v ]

promise_none : (from from_boot : ℕ) (id : EpochId) (reach : Sites) (v : SiteView) → v.round ≡ None → on_promise_of from from_boot id reach v.round v ≡ quiet v
promise_none from from_boot id reach v e = ap (λ (o : Option Round). on_promise_of from from_boot id reach o v) e

refuse_none : (me : ℕ) (links : Links) (id theirs : EpochId) (v : SiteView) → v.round ≡ None → on_refuse_of me links id theirs v.round v ≡ quiet v
refuse_none me links id theirs v e = ap (λ (o : Option Round). on_refuse_of me links id theirs o v) e

-- ---- a packet ----

-- the handler's outcome is such
abbrev Handled : ℕ → Links → SiteView → Event → Outcome SiteView → Type 0
Handled s links v e m = Change s v e m.view × Every (Sent s links v e m.view) m.sent

quiet_handled : (s : ℕ) (links : Links) (v : SiteView) (e : Event) → Handled s links v e (quiet v)
quiet_handled s links v e = (inl (same_core v), tt)

framed_handled : (c : Config) (s : ℕ) (links : Links) (v : SiteView) (p : Packet) → Every TableFormless v.tables → Handled s links v (Receives p) (takes_framed c s p v.epoch v)
framed_handled c s links v p ok =
    let o : Outcome SiteView = takes_framed c s p v.epoch v in
    let f : FormlessSite v o = framed_formless c s p v.epoch v ok in
    (inl (inner_core v o f (framed_inner c s p v.epoch v refl)), every_weaker Formless (Sent s links v (Receives p) o.view) o.sent (λ q h. sent_formless s links v (Receives p) o.view q q.body h) f.still.0)

takes_handled : (c : Config) (s : ℕ) (links : Links) (v : SiteView) (p : Packet) (x : Body) → p.body ≡ x → p.to_boot ≡ v.boot → v.round ≡ None → Every TableFormless v.tables → Handled s links v (Receives p) (takes c s links p x v)
takes_handled c s links v p body.Poll is here none ok = (poll_change s links p v none is here, poll_sent s links p v)
takes_handled c s links v p (body.Promise reach) is here none ok = subst (λ (o : Outcome SiteView). Handled s links v (Receives p) o) (sym (promise_none p.from p.from_boot p.epoch reach v none)) (quiet_handled s links v (Receives p))
takes_handled c s links v p (body.Refuse theirs) is here none ok = subst (λ (o : Outcome SiteView). Handled s links v (Receives p) o) (sym (refuse_none s links p.epoch theirs v none)) (quiet_handled s links v (Receives p))
takes_handled c s links v p (body.Install m) is here none ok = (install_change c s p m v none is, install_sent (Sent s links v (Receives p) (on_install c s p.from p.from_boot p.epoch m v).view) c s p m v (λ q h. sent_formless s links v (Receives p) (on_install c s p.from p.from_boot p.epoch m v).view q q.body h) (joined_case s links v (Receives p) (on_install c s p.from p.from_boot p.epoch m v).view))
takes_handled c s links v p body.Joined is here none ok = (inl (joined_core p.from p.epoch v), tt)
takes_handled c s links v p _ is here none ok = framed_handled c s links v p ok

-- ---- tables stay formless ----

pub leaves_tables : (me : ℕ) (e : Option InEpoch) (v : SiteView) → Every TableFormless v.tables → Every TableFormless (leaves_of me e v).view.tables
leaves_tables me None v ok = ok
leaves_tables me (Some e) v ok = tt

refuse_tables : (me : ℕ) (links : Links) (id theirs : EpochId) (o : Option Round) (v : SiteView) → Every TableFormless v.tables → Every TableFormless (on_refuse_of me links id theirs o v).view.tables
refuse_tables me links id theirs None v ok = ok
refuse_tables me links id theirs (Some r) v ok = elim (same_epoch r.id id) as (λ t. TablesAfter (elim t [ true ↦ begins_round me links (theirs.number + 1) r.polled v | false ↦ quiet v ])) [ true ↦ leaves_tables me v.epoch v ok | false ↦ ok ]

promise_tables : (from from_boot : ℕ) (id : EpochId) (reach : Sites) (o : Option Round) (v : SiteView) → Every TableFormless v.tables → Every TableFormless (on_promise_of from from_boot id reach o v).view.tables
promise_tables from from_boot id reach None v ok = ok
promise_tables from from_boot id reach (Some r) v ok = ok

pub takes_tables : (c : Config) (s : ℕ) (links : Links) (p : Packet) (x : Body) (v : SiteView) → Every TableFormless v.tables → Every TableFormless (takes c s links p x v).view.tables
takes_tables c s links p body.Poll v ok =
    elim (is_epoch_below v.promised p.epoch) as (λ t. TablesAfter (elim t [ true ↦ and_then (promises s p.epoch (reached links) v) (λ now. sends (promise_packet s links p.from p.from_boot p.epoch now) now) | false ↦ sends (cond (same_epoch p.epoch v.promised && not v.installed) (promise_packet s links p.from p.from_boot p.epoch v) (refuse_packet s p.from p.from_boot p.epoch v)) v ])) [
      | true ↦ leaves_tables s v.epoch v ok
      | false ↦ ok
    ]
takes_tables c s links p (body.Promise reach) v ok = promise_tables p.from p.from_boot p.epoch reach v.round v ok
takes_tables c s links p (body.Refuse theirs) v ok = refuse_tables s links p.epoch theirs v.round v ok
takes_tables c s links p (body.Install m) v ok =
    elim (may_install s p.epoch m v) as (λ t. TablesAfter (elim t [ true ↦ and_then (joins c s p.epoch m v) (λ now. sends (joined_packet s p.from p.from_boot p.epoch now) now) | false ↦ sends (cond (is_in p.epoch v.epoch) (joined_packet s p.from p.from_boot p.epoch v) []) v ])) [
      | true ↦ every_map TableFormless new_table _ (λ g. tt)
      | false ↦ ok
    ]
takes_tables c s links p body.Joined v ok = elim (is_in p.epoch v.epoch) as (λ b. TablesOf (cond b (record v { installs = without_row (λ s. s) p.from v.installs }) v)) [ true ↦ ok | false ↦ ok ]
takes_tables c s links p _ v ok = (framed_formless c s p v.epoch v ok).tables

-- ---- the step ----

installs_sent : (s : ℕ) (links : Links) (v u : SiteView) (e : Event) (o : Option InEpoch) → u.epoch ≡ o → v.epoch ≡ u.epoch → u.round ≡ None → Every (Sent s links v e u) (forming_repeats s u o)
installs_sent s links v u e None here same none = subst (λ (r : Option Round). Every (Sent s links v e u) (poll_repeats s u r)) (sym none) tt
installs_sent s links v u e (Some x) here same none =
    every_append (Sent s links v e u) (poll_repeats s u u.round) (install_repeats s u x) (subst (λ (r : Option Round). Every (Sent s links v e u) (poll_repeats s u r)) (sym none) tt)
    (every_map (Sent s links v e u) (install_packet s u.boot x.id x.members) u.installs (λ t. record { epoch = x; inside = same ∙ here; id = refl; same = refl }))

-- a packet that isn't dropped is to this boot
pub boot_taken : (p : Packet) (v : SiteView) → is_dropped p v ≡ false → p.to_boot ≡ v.boot
boot_taken p v h = test_same p.to_boot v.boot (both_true (p.to_boot == v.boot) (is_forming p || is_framed p v.epoch) (not_false ((p.to_boot == v.boot) && (is_forming p || is_framed p v.epoch)) h)).0

-- an event that doesn't begin a round
abbrev pub BeginsNone : Event → Type 0
BeginsNone Parts = ⊥
BeginsNone Merges = ⊥
BeginsNone _ = Unit {0}

leaves_change : (s : ℕ) (o : Option InEpoch) (v : SiteView) → v.epoch ≡ o → v.round ≡ None → Change s v GivesUp (leaves_of s o v).view
leaves_change s None v here none = inl (same_core v)
leaves_change s (Some e) v here none = inr (inl (record { comes = refl; boot = refl; promised = refl; installed = refl; round = none; epoch = refl }))

pub step_roundless : (c : Config) (s : ℕ) (links : Links) (v : SiteView) (e : Event) → v.round ≡ None → Every TableFormless v.tables → BeginsNone e → Roundless s links v e (step c s links v e)
step_roundless c s links v (Calls process words) none ok own =
    let m : Outcome SiteView = takes_call c s process words v in
    let f : FormlessSite v m = record { boot = refl; round = refl; promised = refl; epoch = refl; tables = ok; still = on_call_forms (call_frame c s v.boot v.epoch) (epoch_id v.epoch) process words v.users } in
    roundless_of c s links v (Calls process words) m (step c s links v (Calls process words)) none (whole_formed c s links m quiet (formless_quiet m.view ok) (quiet_inner m.view)) (inl (inner_core v m f (call_inner c s process words v)))
    (every_weaker Formless (Sent s links v (Calls process words) m.view) m.sent (λ q h. sent_formless s links v (Calls process words) m.view q q.body h) f.still.0)
step_roundless c s links v (Receives p) none ok own =
    (elim (is_dropped p v) as (λ t. is_dropped p v ≡ t → Roundless s links v (Receives p) (elim t [ true ↦ quiet v | false ↦ whole c s links (takes c s links p p.body v) (tries_at c s p.body) ])) [
      | true ↦ λ e. record { change = inl (same_core v); sent = tt }
      | false ↦ λ e. taken e
    ]) refl
  where
    m : Outcome SiteView
    m = takes c s links p p.body v

    taken : is_dropped p v ≡ false → Roundless s links v (Receives p) (whole c s links m (tries_at c s p.body))
    taken undropped =
        let h : Handled s links v (Receives p) m = takes_handled c s links v p p.body refl (boot_taken p v undropped) none ok in
        roundless_of c s links v (Receives p) m (whole c s links m (tries_at c s p.body)) none (whole_formed c s links m (tries_at c s p.body) (tries_formless c s p.body m.view (takes_tables c s links p p.body v ok)) (tries_inner c s p.body m.view)) h.0 h.1
step_roundless c s links v Ticks none ok own =
    let a : SiteView = (adopts_in c s v).view in
    let t : SameCore v a × Formed c s links (sends (forming_repeats s a a.epoch) a) (step c s links v Ticks) = ticks_formed c s links v ok in
    roundless_of c s links v Ticks (sends (forming_repeats s a a.epoch) a) (step c s links v Ticks) none t.1 (inl t.0) (installs_sent s links v a Ticks a.epoch refl (sym t.0.epoch) (t.0.round ∙ none))
step_roundless c s links v Parts none ok own = absurd own
step_roundless c s links v Merges none ok own = absurd own
step_roundless c s links v GivesUp none ok own =
    roundless_of c s links v GivesUp (leaves s v) (step c s links v GivesUp) none (whole_formed c s links (leaves s v) quiet (formless_quiet (leaves s v).view (leaves_tables s v.epoch v ok)) (quiet_inner (leaves s v).view)) (leaves_change s v.epoch v refl none) (leaves_of_silent (Sent s links v GivesUp (leaves s v).view) s v.epoch v)

-- ---- a poll is answered ----

poll_answers : (s : ℕ) (links : Links) (p : Packet) (v : SiteView) → (q : Packet) × (Among q (on_poll s links p.from p.from_boot p.epoch v).sent) × Answers s v p q
poll_answers s links p v =
    elim (is_epoch_below v.promised p.epoch) as (λ t. AnsweredBy s v p (elim t [ true ↦ and_then (promises s p.epoch (reached links) v) (λ now. sends (promise_packet s links p.from p.from_boot p.epoch now) now) | false ↦ sends (cond (same_epoch p.epoch v.promised && not v.installed) (promise_packet s links p.from p.from_boot p.epoch v) (refuse_packet s p.from p.from_boot p.epoch v)) v ])) [
      | true ↦ (_, among_right _ (promises s p.epoch (reached links) v).sent (promise_packet s links p.from p.from_boot p.epoch (promises s p.epoch (reached links) v).view) (inl refl), record { answer = tt; epoch = refl; from = refl; from_boot = promises_boot s p.epoch (reached links) v; to = refl; to_boot = refl })
      | false ↦ elim (same_epoch p.epoch v.promised && not v.installed) as (λ b. AnsweredIn s v p (cond b (promise_packet s links p.from p.from_boot p.epoch v) (refuse_packet s p.from p.from_boot p.epoch v))) [
        | true ↦ (_, inl refl, record { answer = tt; epoch = refl; from = refl; from_boot = refl; to = refl; to_boot = refl })
        | false ↦ (_, inl refl, record { answer = tt; epoch = refl; from = refl; from_boot = refl; to = refl; to_boot = refl })
      ]
    ]

takes_answers : (c : Config) (s : ℕ) (links : Links) (p : Packet) (x : Body) (v : SiteView) → x ≡ body.Poll → (q : Packet) × (Among q (takes c s links p x v).sent) × Answers s v p q
takes_answers c s links p x v is = subst (λ (y : Body). (q : Packet) × (Among q (takes c s links p y v).sent) × Answers s v p q) (sym is) (poll_answers s links p v)

-- a poll that isn't dropped is answered in its event
pub step_answers : (c : Config) (s : ℕ) (links : Links) (v : SiteView) (p : Packet) → Every TableFormless v.tables → p.body ≡ body.Poll → is_dropped p v ≡ false → (q : Packet) × (Among q (step c s links v (Receives p)).sent) × Answers s v p q
step_answers c s links v p ok is undropped =
    subst (λ (t : Bool). AnsweredBy s v p (elim t [ true ↦ quiet v | false ↦ whole c s links (takes c s links p p.body v) (tries_at c s p.body) ])) (sym undropped)
    (a.0, f.has a.0 (inl a.1), a.2)
  where
    a : (q : Packet) × (Among q (takes c s links p p.body v).sent) × Answers s v p q
    a = takes_answers c s links p p.body v is

    f : Formed c s links (takes c s links p p.body v) (whole c s links (takes c s links p p.body v) (tries_at c s p.body))
    f = whole_formed c s links (takes c s links p p.body v) (tries_at c s p.body) (tries_formless c s p.body (takes c s links p p.body v).view (takes_tables c s links p p.body v ok)) (tries_inner c s p.body (takes c s links p p.body v).view)

-- ---- an install of the promised id is taken ----

formed_core : (c : Config) (s : ℕ) (links : Links) (m o : Outcome SiteView) → m.view.round ≡ None → Formed c s links m o → SameCore m.view o.view
formed_core c s links m o none f =
    core_then m.view f.mid o.view f.mid_is (subst (λ (x : Outcome SiteView). SameCore x.view o.view) (passes_none c s links f.mid (f.mid_is.round ∙ none)) f.view)

abbrev JoinsIn : EpochId → Members → Outcome SiteView → Type 0
JoinsIn id m o = (o.view.round ≡ None) × (o.view.epoch ≡ Some (record { id = id; members = m }))

may_join : (s : ℕ) (id : EpochId) (m : Members) (v : SiteView) → id ≡ v.promised → v.installed ≡ false → boot_in m.boot s ≡ v.boot → may_install s id m v ≡ true
may_join s id m v a b h = all (same_epoch id v.promised) (not v.installed) (boot_in m.boot s == v.boot) (subst (λ (i : EpochId). same_epoch id i ≡ true) a (own_id id)) (ap not b) (equal (boot_in m.boot s) v.boot h)
  where
    all : (x y z : Bool) → x ≡ true → y ≡ true → z ≡ true → (x && (y && z)) ≡ true
    all true true true p q r = refl
    all true true false p q r = absurd (cc)
    all true false z p q r = absurd (cc)
    all false y z p q r = absurd (cc)

    own_id : (a : EpochId) → same_epoch a a ≡ true
    own_id a = grind (arith, nat_tests)

    equal : (x y : ℕ) → x ≡ y → (x == y) ≡ true
    equal x y e = grind (arith, nat_tests)

install_joins : (c : Config) (s : ℕ) (p : Packet) (m : Members) (v : SiteView) → may_install s p.epoch m v ≡ true → JoinsIn p.epoch m (on_install c s p.from p.from_boot p.epoch m v)
install_joins c s p m v e =
    subst (λ (t : Bool). JoinsIn p.epoch m (elim t [ true ↦ and_then (joins c s p.epoch m v) (λ now. sends (joined_packet s p.from p.from_boot p.epoch now) now) | false ↦ sends (cond (is_in p.epoch v.epoch) (joined_packet s p.from p.from_boot p.epoch v) []) v ])) (sym e) (refl, refl)

takes_joins : (c : Config) (s : ℕ) (links : Links) (p : Packet) (x : Body) (m : Members) (v : SiteView) → x ≡ body.Install m → may_install s p.epoch m v ≡ true → JoinsIn p.epoch m (takes c s links p x v)
takes_joins c s links p x m v is may = subst (λ (y : Body). JoinsIn p.epoch m (takes c s links p y v)) (sym is) (install_joins c s p m v may)

abbrev EpochAfter : InEpoch → Outcome SiteView → Type 0
EpochAfter e o = o.view.epoch ≡ Some e

-- a member that has promised the epoch and hasn't joined it joins by its install
pub step_joins : (c : Config) (s : ℕ) (links : Links) (v : SiteView) (p : Packet) (m : Members) → Every TableFormless v.tables → p.body ≡ body.Install m → is_dropped p v ≡ false → p.epoch ≡ v.promised → v.installed ≡ false → boot_in m.boot s ≡ v.boot →
    (step c s links v (Receives p)).view.epoch ≡ Some (record { id = p.epoch; members = m })
step_joins c s links v p m ok is undropped id waits listed =
    subst (λ (t : Bool). EpochAfter (record { id = p.epoch; members = m }) (elim t [ true ↦ quiet v | false ↦ whole c s links (takes c s links p p.body v) (tries_at c s p.body) ])) (sym undropped)
    ((formed_core c s links (takes c s links p p.body v) (whole c s links (takes c s links p p.body v) (tries_at c s p.body)) j.0 f).epoch ∙ j.1)
  where
    j : JoinsIn p.epoch m (takes c s links p p.body v)
    j = takes_joins c s links p p.body m v is (may_join s p.epoch m v id waits listed)

    f : Formed c s links (takes c s links p p.body v) (whole c s links (takes c s links p p.body v) (tries_at c s p.body))
    f = whole_formed c s links (takes c s links p p.body v) (tries_at c s p.body) (tries_formless c s p.body (takes c s links p p.body v).view (takes_tables c s links p p.body v ok)) (tries_inner c s p.body (takes c s links p p.body v).view)
