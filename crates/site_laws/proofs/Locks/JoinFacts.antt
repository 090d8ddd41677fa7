-- What a site joins in an event, by its boot: no other part of an event joins or boots.
use Rattle.std.proofs.Common.{◌≡◌, ℕ, zero, suc, ◌+◌, ◌==◌, ◌⊎◌, Bool, true, false, cond, ◌&&◌, not, List, [], ◌∷◌, ◌++◌, map, get_or, Option, Some, None, refl, sym, ◌∙◌, ap, subst, inl, inr, arith}
use Rattle.std.proofs.lemmas.Bool.Decides.{nat_tests}
use Rattle.run_laws.proofs.of_plain_facts.Numbers.{equal, equal_self}
use Rattle.run_laws.proofs.of_plain_facts.Tests.{both_true}
use Rattle.locus_ids.specs.Sites.{has}
use Rattle.locus_ids.specs.declared.ids.EpochId.{EpochId}
use Rattle.locus_ids.specs.declared.sites.Sites.{Sites}
use Rattle.locus_ids.specs.declared.sites.Members.{Members}
use Rattle.locus_ids.specs.declared.sites.Links.{Links}
use Rattle.locus_ids.specs.declared.config.Config.{Config}
use Rattle.trace_book.specs.Same.{same_epoch}
use Rattle.trace_book.specs.declared.record.Record.{Record}
use Rattle.trace_book.specs.declared.record.Record.TheVariants as says
use Rattle.wire_messages.specs.declared.packet.Packet.{Packet}
use Rattle.wire_messages.specs.declared.body.Body.{Body}
use Rattle.wire_messages.specs.declared.body.Body.TheVariants as body
use Rattle.role_steps.specs.Own.{Every}
use Rattle.role_steps.specs.Tables.{without_row}
use Rattle.role_steps.specs.Views.{SiteView, Told, Shown, Promises, DiskWrite, Outcome, Event, Calls, Receives, Ticks, Parts, Merges, GivesUp, quiet, sends, tells, and_then, joined_to, first_written, boot_in, all_sites}
use Rattle.role_steps.specs.Using.{reply_record}
use Rattle.role_steps.specs.Reports.{new_table}
use Rattle.role_steps.specs.Epochs.{is_epoch_below, leaves_of, leaves, promises, promised_view, reached, polls, round_id, begins_round, starts_merge, boots_where, merge_boot, part_boot, starts_part_of, starts_part, promise_packet, refuse_packet, on_poll, counts_promise, with_promise, on_promise_of, on_refuse_of, joins, may_install, is_in, joined_packet, on_install, on_joined, passed_over, unanswered, member_boot, polled_boot, chosen_members, chosen_set, installs_all, decides_if, passes_over_of, passes_over}
use Rattle.role_steps.specs.declared.rounds.InEpoch.{InEpoch}
use Rattle.role_steps.specs.declared.rounds.Round.{Round}
use Rattle.role_steps.specs.declared.users.WaitingCall.{WaitingCall}
use Rattle.role_steps.proofs.Sending.{every_append, every_map}
use Rattle.role_steps.proofs.Counted.{CountsFrom, sites_count}
use Rattle.the_run.specs.Joins.{TableOk, Plain}
use Rattle.the_run.specs.Steps.{is_dropped, takes_framed, takes, tries_at, adopts_in, starts_mends_of, ends_event, whole, call_frame, epoch_id, takes_call, step}
use Rattle.the_run.proofs.Boots.{every_weaker}
use Rattle.the_run.proofs.InsideRoles.{on_call_still}
use Rattle.the_run.proofs.InsideSites.{adopts_of_plain, tries_plain, mends_of_plain, framed_plain}
use Rattle.run_laws.specs.Words.{InsideRecord, Inside, InsideWrite, Works}
use Rattle.run_laws.proofs.InsideSteps.{framed_inner, adopts_of_inner, tries_inner, mends_of_inner, call_inner}
use Rattle.site_laws.specs.Locks.Joins.{ListsBoot}

-- ---- what a site may tell of joins and boots ----

abbrev pub JoinRecord : ℕ → ℕ → Record → Type 0
JoinRecord me boot (says.Join t id m) = (t ≡ me) × ListsBoot me id m boot
JoinRecord me boot (says.Up t b) = ⊥
JoinRecord me boot _ = Unit {0}

abbrev pub JoinTold : ℕ → ℕ → Told → Type 0
JoinTold me boot (Shown r) = JoinRecord me boot r
JoinTold me boot _ = Unit {0}

inside_record : (me boot : ℕ) (r : Record) → InsideRecord r → JoinRecord me boot r
inside_record me boot (says.Join t id m) h = absurd h
inside_record me boot (says.Up t b) h = absurd h
inside_record me boot _ h = tt

inside_told : (me boot : ℕ) (x : Told) → Inside x → JoinTold me boot x
inside_told me boot (Shown r) h = inside_record me boot r h
inside_told me boot _ h = tt

-- an undecided round is of an id of this boot
abbrev pub RoundIs : ℕ → ℕ → Option Round → Type 0
RoundIs me boot None = Unit {0}
RoundIs me boot (Some r) = (r.id.site ≡ me) × (r.id.boot ≡ boot)

pub record Stays (me boot : ℕ) (v : SiteView) : Type 0 where
  pub boot_is : v.boot ≡ boot
  pub round : RoundIs me boot v.round
  pub tables : Every TableOk v.tables

pub record Keeps (me boot : ℕ) (o : Outcome SiteView) : Type 0 where
  pub view : Stays me boot o.view
  pub told : Every (JoinTold me boot) o.told
  pub written : InsideWrite o.written

first_inside : (a b : Option DiskWrite) → InsideWrite a → InsideWrite b → InsideWrite (first_written a b)
first_inside None b h g = g
first_inside (Some d) b h g = h

plain_keeps : (me boot : ℕ) (v : SiteView) (o : Outcome SiteView) → Plain v o → Works o → Stays me boot v → Keeps me boot o
plain_keeps me boot v o p w h = record {
  view = record { boot_is = p.boot ∙ h.boot_is; round = subst (RoundIs me boot) (sym p.round) h.round; tables = p.tables };
  told = every_weaker Inside (JoinTold me boot) o.told (inside_told me boot) w.0;
  written = w.1;
}

quiet_keeps : (me boot : ℕ) (v : SiteView) → Stays me boot v → Keeps me boot (quiet v)
quiet_keeps me boot v h = record { view = h; told = tt; written = tt }

sends_keeps : (me boot : ℕ) (ps : List Packet) (v : SiteView) → Stays me boot v → Keeps me boot (sends ps v)
sends_keeps me boot ps v h = record { view = h; told = tt; written = tt }

joined_keeps : (me boot : ℕ) (o p : Outcome SiteView) → Keeps me boot o → Keeps me boot p → Keeps me boot (joined_to o p)
joined_keeps me boot o p h g = record { view = g.view; told = every_append (JoinTold me boot) o.told p.told h.told g.told; written = first_inside o.written p.written h.written g.written }

then_keeps : (me boot : ℕ) (o : Outcome SiteView) (f : SiteView → Outcome SiteView) → Keeps me boot o → (Stays me boot o.view → Keeps me boot (f o.view)) → Keeps me boot (and_then o f)
then_keeps me boot o f h g = joined_keeps me boot o (f o.view) h (g h.view)

-- ---- leaving, promising, polling ----

leaves_of_keeps : (me boot : ℕ) (e : Option InEpoch) (v : SiteView) → Stays me boot v → Keeps me boot (leaves_of me e v)
leaves_of_keeps me boot None v h = quiet_keeps me boot v h
leaves_of_keeps me boot (Some e) v h = record {
  view = record { boot_is = h.boot_is; round = h.round; tables = tt };
  told = (tt, every_map (JoinTold me boot) (λ (w : WaitingCall). reply_record me v.boot w _) v.users.waiting (λ w. tt));
  written = tt;
}

promises_keeps : (me boot : ℕ) (id : EpochId) (reach : Sites) (v : SiteView) → Stays me boot v → Keeps me boot (promises me id reach v)
promises_keeps me boot id reach v h =
    then_keeps me boot (leaves me v) (λ now. tells (Promises me id reach ∷ []) (promised_view id now)) (leaves_of_keeps me boot v.epoch v h)
    (λ g. record { view = record { boot_is = g.boot_is; round = tt; tables = g.tables }; told = (tt, tt); written = tt })

begins_keeps : (me boot : ℕ) (links : Links) (number : ℕ) (polled : Links) (v : SiteView) → Stays me boot v → Keeps me boot (begins_round me links number polled v)
begins_keeps me boot links number polled v h =
    then_keeps me boot (promises me (round_id me number v) (reached links) v) (polls me (round_id me number v) polled) (promises_keeps me boot (round_id me number v) (reached links) v h)
    (λ g. sends_keeps me boot _ _ (record { boot_is = g.boot_is; round = (refl, h.boot_is); tables = g.tables }))

starts_part_keeps : (me boot : ℕ) (links : Links) (e : Option InEpoch) (v : SiteView) → Stays me boot v → Keeps me boot (starts_part_of me links e v)
starts_part_keeps me boot links None v h = quiet_keeps me boot v h
starts_part_keeps me boot links (Some e) v h = begins_keeps me boot links (v.promised.number + 1) (boots_where (part_boot me links e.members)) v h

on_poll_keeps : (me boot : ℕ) (links : Links) (from from_boot : ℕ) (id : EpochId) (v : SiteView) → Stays me boot v → Keeps me boot (on_poll me links from from_boot id v)
on_poll_keeps me boot links from from_boot id v h =
    elim (is_epoch_below v.promised id) as (λ t. Keeps me boot (elim t [ true ↦ and_then (promises me id (reached links) v) (λ now. sends (promise_packet me links from from_boot id now) now) | false ↦ sends (cond (same_epoch id v.promised && not v.installed) (promise_packet me links from from_boot id v) (refuse_packet me from from_boot id v)) v ])) [
      | true ↦ then_keeps me boot (promises me id (reached links) v) (λ now. sends (promise_packet me links from from_boot id now) now) (promises_keeps me boot id (reached links) v h) (λ g. sends_keeps me boot _ (promises me id (reached links) v).view g)
      | false ↦ sends_keeps me boot _ v h
    ]

goes_on : (me boot : ℕ) (r q : Round) (v : SiteView) → v.round ≡ Some r → q.id ≡ r.id → Stays me boot v → Keeps me boot (quiet (record v { round = Some q }))
goes_on me boot r q v here same h =
    let k : (r.id.site ≡ me) × (r.id.boot ≡ boot) = subst (RoundIs me boot) here h.round in
    quiet_keeps me boot (record v { round = Some q }) (record { boot_is = h.boot_is; round = (ap (λ (i : EpochId). i.site) same ∙ k.0, ap (λ (i : EpochId). i.boot) same ∙ k.1); tables = h.tables })

cond_id : (b : Bool) (x y : Round) → x.id ≡ y.id → (cond b x y).id ≡ y.id
cond_id true x y e = e
cond_id false x y e = refl

on_promise_keeps : (me boot : ℕ) (from from_boot : ℕ) (id : EpochId) (reach : Sites) (o : Option Round) (v : SiteView) → v.round ≡ o → Stays me boot v → Keeps me boot (on_promise_of from from_boot id reach o v)
on_promise_keeps me boot from from_boot id reach None v here h = quiet_keeps me boot v h
on_promise_keeps me boot from from_boot id reach (Some r) v here h = goes_on me boot r (cond (counts_promise from from_boot id r) (with_promise from reach r) r) v here (cond_id (counts_promise from from_boot id r) (with_promise from reach r) r refl) h

on_refuse_keeps : (me boot : ℕ) (links : Links) (id theirs : EpochId) (o : Option Round) (v : SiteView) → Stays me boot v → Keeps me boot (on_refuse_of me links id theirs o v)
on_refuse_keeps me boot links id theirs None v h = quiet_keeps me boot v h
on_refuse_keeps me boot links id theirs (Some r) v h =
    elim (same_epoch r.id id) as (λ t. Keeps me boot (elim t [ true ↦ begins_round me links (theirs.number + 1) r.polled v | false ↦ quiet v ])) [
      | true ↦ begins_keeps me boot links (theirs.number + 1) r.polled v h
      | false ↦ quiet_keeps me boot v h
    ]

-- ---- joining ----

joins_keeps : (c : Config) (me boot : ℕ) (id : EpochId) (m : Members) (v : SiteView) → ListsBoot me id m boot → Stays me boot v → Keeps me boot (joins c me id m v)
joins_keeps c me boot id m v k h = record { view = record { boot_is = h.boot_is; round = tt; tables = every_map TableOk new_table _ (λ g. tt) }; told = ((refl, k), tt); written = tt }

on_install_keeps : (c : Config) (me boot : ℕ) (from from_boot : ℕ) (id : EpochId) (m : Members) (v : SiteView) → Stays me boot v → Keeps me boot (on_install c me from from_boot id m v)
on_install_keeps c me boot from from_boot id m v h =
    (elim (may_install me id m v) as (λ t. may_install me id m v ≡ t → Keeps me boot (elim t [ true ↦ and_then (joins c me id m v) (λ now. sends (joined_packet me from from_boot id now) now) | false ↦ sends (cond (is_in id v.epoch) (joined_packet me from from_boot id v) []) v ])) [
      | true ↦ λ e. then_keeps me boot (joins c me id m v) (λ now. sends (joined_packet me from from_boot id now) now) (joins_keeps c me boot id m v (inl (listed e)) h) (λ g. sends_keeps me boot _ (joins c me id m v).view g)
      | false ↦ λ e. sends_keeps me boot _ v h
    ]) refl
  where
    listed : may_install me id m v ≡ true → boot_in m.boot me ≡ boot
    listed e =
        let a : (same_epoch id v.promised ≡ true) × ((not v.installed && (boot_in m.boot me == v.boot)) ≡ true) = both_true (same_epoch id v.promised) (not v.installed && (boot_in m.boot me == v.boot)) e in
        let b : (not v.installed ≡ true) × ((boot_in m.boot me == v.boot) ≡ true) = both_true (not v.installed) (boot_in m.boot me == v.boot) a.1 in
        equal (boot_in m.boot me) v.boot b.1 ∙ h.boot_is

on_joined_keeps : (me boot : ℕ) (from : ℕ) (id : EpochId) (v : SiteView) → Stays me boot v → Keeps me boot (on_joined from id v)
on_joined_keeps me boot from id v h =
    elim (is_in id v.epoch) as (λ b. Keeps me boot (quiet (cond b (record v { installs = without_row (λ s. s) from v.installs }) v))) [
      | true ↦ quiet_keeps me boot (record v { installs = without_row (λ s. s) from v.installs }) (record { boot_is = h.boot_is; round = h.round; tables = h.tables })
      | false ↦ quiet_keeps me boot v h
    ]

-- ---- the decision: the list has the initiator with its boot, or not at all ----

placed : (f : ℕ → ℕ) (n place : ℕ) (xs : List ℕ) → CountsFrom n xs → (get_or (map f xs) place 0 ≡ f (n + place)) ⊎ (get_or (map f xs) place 0 ≡ 0)
placed f n place [] h = inr refl
placed f n zero (x ∷ xs) h = inl (ap f (h.0 ∙ plus_none n))
  where
    plus_none : (n : ℕ) → n ≡ n + 0
    plus_none n = omega arith
placed f n (suc place) (x ∷ xs) h = subst (λ (k : ℕ). (get_or (map f xs) place 0 ≡ f k) ⊎ (get_or (map f xs) place 0 ≡ 0)) (next n place) (placed f (n + 1) place xs h.1)
  where
    next : (n place : ℕ) → (n + 1) + place ≡ n + suc place
    next n place = omega arith

own_boot : (me boot : ℕ) (r : Round) (set : Sites) → (member_boot me boot r set me ≡ boot) ⊎ (member_boot me boot r set me ≡ 0)
own_boot me boot r set = by_set (has set me)
  where
    polled : polled_boot me boot r me ≡ boot
    polled = rw (equal_self me) refl

    by_set : (b : Bool) → (cond b (polled_boot me boot r me) 0 ≡ boot) ⊎ (cond b (polled_boot me boot r me) 0 ≡ 0)
    by_set true = inl polled
    by_set false = inr refl

decided_boot : (me boot : ℕ) (r : Round) (set : Sites) → (boot_in (chosen_members me boot r set).boot me ≡ boot) ⊎ (boot_in (chosen_members me boot r set).boot me ≡ 0)
decided_boot zero boot r set = inr refl
decided_boot (suc place) boot r set = either (placed (member_boot (suc place) boot r set) 1 place all_sites sites_count)
  where
    value : ℕ
    value = get_or (map (member_boot (suc place) boot r set) all_sites) place 0

    one_next : (n : ℕ) → 1 + n ≡ suc n
    one_next n = omega arith

    own : (member_boot (suc place) boot r set (suc place) ≡ boot) ⊎ (member_boot (suc place) boot r set (suc place) ≡ 0) → value ≡ member_boot (suc place) boot r set (suc place) → (value ≡ boot) ⊎ (value ≡ 0)
    own (inl h) e = inl (e ∙ h)
    own (inr h) e = inr (e ∙ h)

    either : (value ≡ member_boot (suc place) boot r set (1 + place)) ⊎ (value ≡ 0) → (value ≡ boot) ⊎ (value ≡ 0)
    either (inl e) = own (own_boot (suc place) boot r set) (subst (λ (n : ℕ). value ≡ member_boot (suc place) boot r set n) (one_next place) e)
    either (inr e) = inr e

decided_lists : (me boot : ℕ) (id : EpochId) (m : Members) → (id.site ≡ me) × (id.boot ≡ boot) → (boot_in m.boot me ≡ boot) ⊎ (boot_in m.boot me ≡ 0) → ListsBoot me id m boot
decided_lists me boot id m k (inl h) = inl h
decided_lists me boot id m k (inr h) = inr (h, k.0, k.1)

decides_if_keeps : (c : Config) (me boot : ℕ) (links : Links) (r q : Round) (xs : List ℕ) (v : SiteView) → v.round ≡ Some r → q.id ≡ r.id → Stays me boot v → Keeps me boot (decides_if c me links q xs v)
decides_if_keeps c me boot links r q [] v here same h =
    let k : (r.id.site ≡ me) × (r.id.boot ≡ boot) = subst (RoundIs me boot) here h.round in
    let own : (q.id.site ≡ me) × (q.id.boot ≡ boot) = (ap (λ (i : EpochId). i.site) same ∙ k.0, ap (λ (i : EpochId). i.boot) same ∙ k.1) in
    let m : Members = chosen_members me v.boot q (chosen_set me links q) in
    let lists : ListsBoot me q.id m boot = decided_lists me boot q.id m own (subst (λ (b : ℕ). (boot_in (chosen_members me v.boot q (chosen_set me links q)).boot me ≡ b) ⊎ (boot_in (chosen_members me v.boot q (chosen_set me links q)).boot me ≡ 0)) h.boot_is (decided_boot me v.boot q (chosen_set me links q))) in
    then_keeps me boot (joins c me q.id m v) (installs_all me q.id m) (joins_keeps c me boot q.id m v lists h)
    (λ g. sends_keeps me boot _ _ (record { boot_is = g.boot_is; round = g.round; tables = g.tables }))
decides_if_keeps c me boot links r q (x ∷ xs) v here same h = goes_on me boot r q v here same h

passes_over_keeps : (c : Config) (me boot : ℕ) (links : Links) (o : Option Round) (v : SiteView) → v.round ≡ o → Stays me boot v → Keeps me boot (passes_over_of c me links o v)
passes_over_keeps c me boot links None v here h = quiet_keeps me boot v h
passes_over_keeps c me boot links (Some r) v here h = decides_if_keeps c me boot links r (passed_over links r) (unanswered (passed_over links r)) v here refl h

-- ---- the step ----

ends_keeps : (c : Config) (me boot : ℕ) (links : Links) (v : SiteView) → Stays me boot v → Keeps me boot (ends_event c me links v)
ends_keeps c me boot links v h =
    let o : Outcome SiteView = passes_over c me links v in
    then_keeps me boot o (λ now. starts_mends_of c me now.epoch now) (passes_over_keeps c me boot links v.round v refl h)
    (λ g. plain_keeps me boot o.view (starts_mends_of c me o.view.epoch o.view) (mends_of_plain c me o.view.epoch o.view g.tables) (mends_of_inner c me o.view.epoch o.view refl).works g)

takes_keeps : (c : Config) (me boot : ℕ) (links : Links) (p : Packet) (x : Body) (v : SiteView) → Stays me boot v → Keeps me boot (takes c me links p x v)
takes_keeps c me boot links p body.Poll v h = on_poll_keeps me boot links p.from p.from_boot p.epoch v h
takes_keeps c me boot links p (body.Promise reach) v h = on_promise_keeps me boot p.from p.from_boot p.epoch reach v.round v refl h
takes_keeps c me boot links p (body.Refuse promised) v h = on_refuse_keeps me boot links p.epoch promised v.round v h
takes_keeps c me boot links p (body.Install members) v h = on_install_keeps c me boot p.from p.from_boot p.epoch members v h
takes_keeps c me boot links p body.Joined v h = on_joined_keeps me boot p.from p.epoch v h
takes_keeps c me boot links p _ v h = plain_keeps me boot v (takes_framed c me p v.epoch v) (framed_plain c me p v.epoch v h.tables) (framed_inner c me p v.epoch v refl).works h

whole_keeps : (c : Config) (me boot : ℕ) (links : Links) (o : Outcome SiteView) (tries : SiteView → Outcome SiteView) → Keeps me boot o → ((v : SiteView) → Stays me boot v → Keeps me boot (tries v)) → Keeps me boot (whole c me links o tries)
whole_keeps c me boot links o tries h t =
    let a : Outcome SiteView = tries o.view in
    let k : Keeps me boot a = t o.view h.view in
    let last : Outcome SiteView = ends_event c me links a.view in
    let e : Keeps me boot last = ends_keeps c me boot links a.view k.view in
    record { view = e.view; told = every_append (JoinTold me boot) a.told (o.told ++ last.told) k.told (every_append (JoinTold me boot) o.told last.told h.told e.told); written = first_inside a.written (first_written o.written last.written) k.written (first_inside o.written last.written h.written e.written) }

tries_keeps : (c : Config) (me boot : ℕ) (x : Body) (v : SiteView) → Stays me boot v → Keeps me boot (tries_at c me x v)
tries_keeps c me boot x v h = plain_keeps me boot v (tries_at c me x v) (tries_plain c me x v h.tables) (tries_inner c me x v).works h

pub step_keeps : (c : Config) (me boot : ℕ) (links : Links) (v : SiteView) (e : Event) → Stays me boot v → Keeps me boot (step c me links v e)
step_keeps c me boot links v (Calls process words) h =
    whole_keeps c me boot links (takes_call c me process words v) quiet
    (plain_keeps me boot v (takes_call c me process words v) (record { boot = refl; round = refl; promised = refl; epoch = refl; tables = h.tables; still = on_call_still (call_frame c me v.boot v.epoch) (epoch_id v.epoch) process words v.users }) (call_inner c me process words v).works h)
    (quiet_keeps me boot)
step_keeps c me boot links v (Receives p) h =
    elim (is_dropped p v) as (λ t. Keeps me boot (elim t [ true ↦ quiet v | false ↦ whole c me links (takes c me links p p.body v) (tries_at c me p.body) ])) [
      | true ↦ quiet_keeps me boot v h
      | false ↦ whole_keeps c me boot links (takes c me links p p.body v) (tries_at c me p.body) (takes_keeps c me boot links p p.body v h) (tries_keeps c me boot p.body)
    ]
step_keeps c me boot links v Ticks h =
    let a : Outcome SiteView = adopts_in c me v in
    let k : Keeps me boot a = plain_keeps me boot v a (adopts_of_plain c me v.epoch v h.tables) (adopts_of_inner c me v.epoch v refl).works h in
    let e : Keeps me boot (ends_event c me links a.view) = ends_keeps c me boot links a.view k.view in
    record { view = e.view; told = every_append (JoinTold me boot) a.told _ k.told e.told; written = first_inside a.written _ k.written e.written }
step_keeps c me boot links v Parts h = whole_keeps c me boot links (starts_part me links v) quiet (starts_part_keeps me boot links v.epoch v h) (quiet_keeps me boot)
step_keeps c me boot links v Merges h = whole_keeps c me boot links (starts_merge me links v) quiet (begins_keeps me boot links (v.promised.number + 1) (boots_where (merge_boot me links)) v h) (quiet_keeps me boot)
step_keeps c me boot links v GivesUp h = whole_keeps c me boot links (leaves me v) quiet (leaves_of_keeps me boot v.epoch v h) (quiet_keeps me boot)
