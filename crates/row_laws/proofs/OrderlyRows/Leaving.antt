-- A site tells that it leaves by an event of its own line, or by a poll of a greater id than it has promised; by no other event.
use Rattle.std.proofs.Common.{◌≡◌, ℕ, ◌+◌, true, false, cond, ◌&&◌, not, List, [], ◌∷◌, ◌++◌, Option, Some, None, refl, sym, subst}
use Rattle.locus_ids.specs.declared.ids.EpochId.{EpochId}
use Rattle.locus_ids.specs.declared.sites.Sites.{Sites}
use Rattle.locus_ids.specs.declared.sites.Members.{Members}
use Rattle.locus_ids.specs.declared.sites.Links.{Links}
use Rattle.locus_ids.specs.declared.config.Config.{Config}
use Rattle.trace_book.specs.Same.{same_epoch}
use Rattle.trace_book.specs.declared.record.Record.{Record}
use Rattle.trace_book.specs.declared.record.Record.TheVariants as says
use Rattle.wire_messages.specs.declared.packet.Packet.{Packet}
use Rattle.wire_messages.specs.declared.body.Body.{Body}
use Rattle.wire_messages.specs.declared.body.Body.TheVariants as body
use Rattle.role_steps.specs.Own.{Every}
use Rattle.role_steps.specs.Views.{SiteView, Told, Shown, Promises, DiskWrite, Outcome, Event, Calls, Receives, Ticks, Parts, Merges, GivesUp, first_written, quiet, sends, tells, and_then, joined_to}
use Rattle.role_steps.specs.Using.{reply_record}
use Rattle.role_steps.specs.Epochs.{is_epoch_below, leaves_of, leaves, promises, promised_view, reached, polls, round_id, begins_round, starts_merge, boots_where, merge_boot, part_boot, starts_part_of, starts_part, promise_packet, refuse_packet, on_poll, on_promise_of, on_refuse_of, joins, may_install, is_in, joined_packet, on_install, passed_over, unanswered, chosen_members, chosen_set, installs_all, decides_if, passes_over_of, passes_over}
use Rattle.role_steps.specs.declared.rounds.InEpoch.{InEpoch}
use Rattle.role_steps.specs.declared.rounds.Round.{Round}
use Rattle.role_steps.specs.declared.users.WaitingCall.{WaitingCall}
use Rattle.role_steps.proofs.Sending.{every_append, every_map}
use Rattle.the_run.specs.Steps.{is_dropped, takes_framed, takes, tries_at, adopts_in, starts_mends_of, ends_event, whole, takes_call, step}
use Rattle.the_run.proofs.Boots.{every_weaker}
use Rattle.run_laws.specs.Words.{InsideRecord, Inside, InsideWrite}
use Rattle.run_laws.specs.Naming.{Inner}
use Rattle.run_laws.proofs.InsideSteps.{quiet_inner, framed_inner, adopts_of_inner, tries_inner, mends_of_inner, call_inner}
use Rattle.row_laws.proofs.Forming.{IsIn}
use Rattle.row_laws.proofs.Orderly.Effects.{boot_taken}
use Rattle.row_laws.specs.OrderlyRows.Leaving.{LeaveRecord, LeaveTold, HasLeave, Leaves}

-- ---- what roles tell ----

pub inside_record : (L : ℕ → Type 0) (r : Record) → InsideRecord r → LeaveRecord L r
inside_record L (says.Leave site epoch) h = absurd h
inside_record L _ h = tt

inside_told : (L : ℕ → Type 0) (x : Told) → Inside x → LeaveTold L x
inside_told L (Shown r) h = inside_record L r h
inside_told L _ h = tt

inside_leaves : (L : ℕ → Type 0) (v : SiteView) (o : Outcome SiteView) → Inner v o → Leaves L o
inside_leaves L v o h = record { told = every_weaker Inside (LeaveTold L) o.told (inside_told L) h.works.0; written = h.works.1 }

pub record_weaker : (L M : ℕ → Type 0) (r : Record) → ((s : ℕ) → L s → M s) → LeaveRecord L r → LeaveRecord M r
record_weaker L M (says.Leave site epoch) f k = f site k
record_weaker L M _ f k = tt

-- ---- outcomes ----

write_first : (a b : Option DiskWrite) → InsideWrite a → InsideWrite b → InsideWrite (first_written a b)
write_first None b h g = g
write_first (Some d) b h g = h

silent : (L : ℕ → Type 0) (o : Outcome SiteView) → o.told ≡ [] → o.written ≡ None → Leaves L o
silent L o e f = record { told = subst (λ (xs : List Told). Every (LeaveTold L) xs) (sym e) tt; written = subst InsideWrite (sym f) tt }

then_leaves : (L : ℕ → Type 0) (o p : Outcome SiteView) → Leaves L o → Leaves L p → Leaves L (joined_to o p)
then_leaves L o p h g = record { told = every_append (LeaveTold L) o.told p.told h.told g.told; written = write_first o.written p.written h.written g.written }

-- ---- leaving and promising ----

leaves_of_leaves : (L : ℕ → Type 0) (s : ℕ) (e : Option InEpoch) (v : SiteView) → (IsIn e → L s) → Leaves L (leaves_of s e v)
leaves_of_leaves L s None v l = silent L (leaves_of s None v) refl refl
leaves_of_leaves L s (Some e) v l = record { told = (l tt, every_map (LeaveTold L) (λ (w : WaitingCall). reply_record s v.boot w _) v.users.waiting (λ w. tt)); written = tt }

promises_leaves : (L : ℕ → Type 0) (s : ℕ) (id : EpochId) (reach : Sites) (v : SiteView) → (IsIn v.epoch → L s) → Leaves L (promises s id reach v)
promises_leaves L s id reach v l = then_leaves L (leaves s v) (tells (Promises s id reach ∷ []) (promised_view id (leaves s v).view)) (leaves_of_leaves L s v.epoch v l) (record { told = (tt, tt); written = tt })

begins_leaves : (L : ℕ → Type 0) (s : ℕ) (links : Links) (number : ℕ) (polled : Links) (v : SiteView) → (IsIn v.epoch → L s) → Leaves L (begins_round s links number polled v)
begins_leaves L s links number polled v l =
    let o : Outcome SiteView = promises s (round_id s number v) (reached links) v in
    then_leaves L o (polls s (round_id s number v) polled o.view) (promises_leaves L s (round_id s number v) (reached links) v l) (silent L (polls s (round_id s number v) polled o.view) refl refl)

part_leaves : (L : ℕ → Type 0) (s : ℕ) (links : Links) (e : Option InEpoch) (v : SiteView) → (IsIn v.epoch → L s) → Leaves L (starts_part_of s links e v)
part_leaves L s links None v l = silent L (starts_part_of s links None v) refl refl
part_leaves L s links (Some e) v l = begins_leaves L s links (v.promised.number + 1) (boots_where (part_boot s links e.members)) v l

-- ---- packets by which sites agree ----

poll_leaves : (L : ℕ → Type 0) (s : ℕ) (links : Links) (from from_boot : ℕ) (id : EpochId) (v : SiteView) → (is_epoch_below v.promised id ≡ true → L s) → Leaves L (on_poll s links from from_boot id v)
poll_leaves L s links from from_boot id v l =
    (elim (is_epoch_below v.promised id) as (λ t. is_epoch_below v.promised id ≡ t → Leaves L (elim t [
      | true ↦ and_then (promises s id (reached links) v) (λ now. sends (promise_packet s links from from_boot id now) now)
      | false ↦ sends (cond (same_epoch id v.promised && not v.installed) (promise_packet s links from from_boot id v) (refuse_packet s from from_boot id v)) v
    ])) [
      | true ↦ λ e. then_leaves L (promises s id (reached links) v) (sends (promise_packet s links from from_boot id (promises s id (reached links) v).view) (promises s id (reached links) v).view) (promises_leaves L s id (reached links) v (λ i. l e)) (silent L _ refl refl)
      | false ↦ λ e. silent L _ refl refl
    ]) refl

promise_leaves : (L : ℕ → Type 0) (from from_boot : ℕ) (id : EpochId) (reach : Sites) (o : Option Round) (v : SiteView) → Leaves L (on_promise_of from from_boot id reach o v)
promise_leaves L from from_boot id reach None v = silent L _ refl refl
promise_leaves L from from_boot id reach (Some r) v = silent L _ refl refl

-- a site with a round is in no epoch
abbrev pub Outside : SiteView → Type 0
Outside v = (r : Round) → v.round ≡ Some r → v.epoch ≡ None

none_in : (o : Option InEpoch) → o ≡ None → IsIn o → ⊥
none_in o e i = subst IsIn e i

refuse_leaves : (L : ℕ → Type 0) (s : ℕ) (links : Links) (id theirs : EpochId) (o : Option Round) (v : SiteView) → v.round ≡ o → Outside v → Leaves L (on_refuse_of s links id theirs o v)
refuse_leaves L s links id theirs None v e out = silent L _ refl refl
refuse_leaves L s links id theirs (Some r) v e out =
    elim (same_epoch r.id id) as (λ t. Leaves L (elim t [ true ↦ begins_round s links (theirs.number + 1) r.polled v | false ↦ quiet v ])) [
      | true ↦ begins_leaves L s links (theirs.number + 1) r.polled v (λ i. absurd (none_in v.epoch (out r e) i))
      | false ↦ silent L (quiet v) refl refl
    ]

joins_leaves : (L : ℕ → Type 0) (c : Config) (s : ℕ) (id : EpochId) (m : Members) (v : SiteView) → Leaves L (joins c s id m v)
joins_leaves L c s id m v = record { told = (tt, tt); written = tt }

install_leaves : (L : ℕ → Type 0) (c : Config) (s from from_boot : ℕ) (id : EpochId) (m : Members) (v : SiteView) → Leaves L (on_install c s from from_boot id m v)
install_leaves L c s from from_boot id m v =
    elim (may_install s id m v) as (λ t. Leaves L (elim t [
      | true ↦ and_then (joins c s id m v) (λ now. sends (joined_packet s from from_boot id now) now)
      | false ↦ sends (cond (is_in id v.epoch) (joined_packet s from from_boot id v) []) v
    ])) [
      | true ↦ then_leaves L (joins c s id m v) (sends (joined_packet s from from_boot id (joins c s id m v).view) (joins c s id m v).view) (joins_leaves L c s id m v) (silent L _ refl refl)
      | false ↦ silent L _ refl refl
    ]

takes_leaves : (L : ℕ → Type 0) (c : Config) (s : ℕ) (links : Links) (p : Packet) (x : Body) (v : SiteView) → Outside v → (x ≡ body.Poll → is_epoch_below v.promised p.epoch ≡ true → L s) → Leaves L (takes c s links p x v)
takes_leaves L c s links p body.Poll v out l = poll_leaves L s links p.from p.from_boot p.epoch v (l refl)
takes_leaves L c s links p (body.Promise reach) v out l = promise_leaves L p.from p.from_boot p.epoch reach v.round v
takes_leaves L c s links p (body.Refuse promised) v out l = refuse_leaves L s links p.epoch promised v.round v refl out
takes_leaves L c s links p (body.Install members) v out l = install_leaves L c s p.from p.from_boot p.epoch members v
takes_leaves L c s links p body.Joined v out l = silent L _ refl refl
takes_leaves L c s links p _ v out l = inside_leaves L v (takes_framed c s p v.epoch v) (framed_inner c s p v.epoch v refl)

-- ---- the end of an event ----

decides_leaves : (L : ℕ → Type 0) (c : Config) (s : ℕ) (links : Links) (r : Round) (xs : List ℕ) (v : SiteView) → Leaves L (decides_if c s links r xs v)
decides_leaves L c s links r [] v = (let m : Members = chosen_members s v.boot r (chosen_set s links r) in then_leaves L (joins c s r.id m v) (installs_all s r.id m (joins c s r.id m v).view) (joins_leaves L c s r.id m v) (silent L (installs_all s r.id m (joins c s r.id m v).view) refl refl))
decides_leaves L c s links r (x ∷ xs) v = silent L _ refl refl

over_leaves : (L : ℕ → Type 0) (c : Config) (s : ℕ) (links : Links) (o : Option Round) (v : SiteView) → Leaves L (passes_over_of c s links o v)
over_leaves L c s links None v = silent L (quiet v) refl refl
over_leaves L c s links (Some r) v = decides_leaves L c s links (passed_over links r) (unanswered (passed_over links r)) v

ends_leaves : (L : ℕ → Type 0) (c : Config) (s : ℕ) (links : Links) (v : SiteView) → Leaves L (ends_event c s links v)
ends_leaves L c s links v =
    let o : Outcome SiteView = passes_over c s links v in
    then_leaves L o (starts_mends_of c s o.view.epoch o.view) (over_leaves L c s links v.round v) (inside_leaves L o.view (starts_mends_of c s o.view.epoch o.view) (mends_of_inner c s o.view.epoch o.view refl))

whole_leaves : (L : ℕ → Type 0) (c : Config) (s : ℕ) (links : Links) (o : Outcome SiteView) (tries : SiteView → Outcome SiteView) → Leaves L o → ((u : SiteView) → Inner u (tries u)) → Leaves L (whole c s links o tries)
whole_leaves L c s links o tries h t =
    let a : Outcome SiteView = tries o.view in
    let g : Leaves L a = inside_leaves L o.view a (t o.view) in
    let last : Outcome SiteView = ends_event c s links a.view in
    let e : Leaves L last = ends_leaves L c s links a.view in
    record {
      told = every_append (LeaveTold L) a.told (o.told ++ last.told) g.told (every_append (LeaveTold L) o.told last.told h.told e.told);
      written = write_first a.written (first_written o.written last.written) g.written (write_first o.written last.written h.written e.written);
    }

-- ---- the step ----

-- an event by which a site leaves is one by which it does
pub step_leaves : (L : ℕ → Type 0) (c : Config) (s : ℕ) (links : Links) (v : SiteView) (e : Event) → Outside v → (HasLeave v e → L s) → Leaves L (step c s links v e)
step_leaves L c s links v (Calls process words) out l = whole_leaves L c s links (takes_call c s process words v) quiet (inside_leaves L v (takes_call c s process words v) (call_inner c s process words v)) quiet_inner
step_leaves L c s links v (Receives p) out l =
    (elim (is_dropped p v) as (λ t. is_dropped p v ≡ t → Leaves L (elim t [ true ↦ quiet v | false ↦ whole c s links (takes c s links p p.body v) (tries_at c s p.body) ])) [
      | true ↦ λ d. silent L (quiet v) refl refl
      | false ↦ λ d. whole_leaves L c s links (takes c s links p p.body v) (tries_at c s p.body) (takes_leaves L c s links p p.body v out (λ b g. l (b, (boot_taken p v d, g)))) (tries_inner c s p.body)
    ]) refl
step_leaves L c s links v Ticks out l =
    let a : Outcome SiteView = adopts_in c s v in
    let g : Leaves L a = inside_leaves L v a (adopts_of_inner c s v.epoch v refl) in
    let last : Outcome SiteView = ends_event c s links a.view in
    let e : Leaves L last = ends_leaves L c s links a.view in
    record { told = every_append (LeaveTold L) a.told last.told g.told e.told; written = write_first a.written last.written g.written e.written }
step_leaves L c s links v Parts out l = whole_leaves L c s links (starts_part s links v) quiet (part_leaves L s links v.epoch v (λ i. l tt)) quiet_inner
step_leaves L c s links v Merges out l = whole_leaves L c s links (starts_merge s links v) quiet (begins_leaves L s links (v.promised.number + 1) (boots_where (merge_boot s links)) v (λ i. l tt)) quiet_inner
step_leaves L c s links v GivesUp out l = whole_leaves L c s links (leaves s v) quiet (leaves_of_leaves L s v.epoch v (λ i. l tt)) quiet_inner
