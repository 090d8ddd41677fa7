-- What leaving, promising, polling and joining leave of the calls of a site.
use Rattle.std.proofs.Common.{◌≡◌, ℕ, ◌+◌, ◌==◌, Bool, true, false, cond, ◌||◌, ◌&&◌, not, List, [], ◌∷◌, Option, Some, None, refl, sym, ◌∙◌, ap, subst, arith}
use Rattle.std.proofs.lemmas.Bool.Decides.{nat_tests}
use Rattle.role_steps.proofs.of_plain_facts.Numbers.{equal_self}
use Rattle.role_steps.proofs.of_plain_facts.Tests.{true_false}
use Rattle.locus_ids.specs.declared.ids.EpochId.{EpochId}
use Rattle.locus_ids.specs.declared.sites.Sites.{Sites}
use Rattle.locus_ids.specs.declared.sites.Members.{Members}
use Rattle.locus_ids.specs.declared.sites.Links.{Links}
use Rattle.locus_ids.specs.declared.config.Config.{Config}
use Rattle.trace_book.specs.Same.{same_epoch}
use Rattle.trace_book.specs.declared.record.Record.TheVariants as says
use Rattle.wire_messages.specs.declared.packet.Packet.{Packet}
use Rattle.role_steps.specs.Own.{Every}
use Rattle.role_steps.specs.Tables.{without_row}
use Rattle.role_steps.specs.Views.{SiteView, Told, Shown, Promises, Outcome, quiet, sends, tells, and_then}
use Rattle.role_steps.specs.Using.{users_leave}
use Rattle.role_steps.specs.Epochs.{is_epoch_below, leaves_of, leaves, promises, promised_view, reached, polls, round_id, begins_round, starts_merge, boots_where, merge_boot, part_boot, starts_part_of, promise_packet, refuse_packet, on_poll, counts_promise, with_promise, on_promise_of, on_refuse_of, joins, may_install, is_in, joined_packet, on_install, on_joined, passed_over, unanswered, chosen_members, chosen_set, installs_all, decides_if, passes_over_of}
use Rattle.role_steps.specs.declared.rounds.InEpoch.{InEpoch}
use Rattle.role_steps.specs.declared.rounds.Round.{Round}
use Rattle.role_steps.specs.declared.synchronizing.SyncTable.{SyncTable}
use Rattle.tree_model.specs.Folds.{Trace}
use Rattle.tree_model.specs.Epochs.{has_joined}
use Rattle.the_run.specs.Steps.{epoch_id}
use Rattle.row_laws.specs.Shown.{with_told}
use Rattle.row_laws.specs.Inward.{LooksInward}
use Rattle.row_laws.proofs.Forming.{joined_tables}
use Rattle.row_laws.specs.CallRows.Waiting.{after, CallFree}
use Rattle.row_laws.specs.CallRows.Standing.{UsersDo, WasIn, Stands, SiteDoes}
use Rattle.row_laws.proofs.CallRows.Owning.{moves_owned}
use Rattle.row_laws.proofs.CallRows.CallSteps.{users_leave_do}
use Rattle.row_laws.proofs.CallRows.Sites.{after_owned, free_stands, plain_done, quiet_done, then_does}

-- ---- outcomes ----

-- the users, the epoch, the boot and the tables stay, and nothing is told of calls
still_does : (c : Config) (s m : ℕ) (t : Trace) (v : SiteView) (o : Outcome SiteView) → o.view.users ≡ v.users → o.view.epoch ≡ v.epoch → o.view.boot ≡ v.boot → o.view.tables ≡ v.tables → Every CallFree o.told → Stands c s t v → SiteDoes c s m t o
still_does c s m t v o users epoch boot tables free h new =
    plain_done c s m t v o users epoch boot (subst (λ (ts : List SyncTable). Every LooksInward ts) (sym tables) h.tables) free h

sends_does : (c : Config) (s m : ℕ) (t : Trace) (ps : List Packet) (v : SiteView) → Stands c s t v → SiteDoes c s m t (sends ps v)
sends_does c s m t ps v h new = record { view = h; rows = tt; own = tt }

quiet_does : (c : Config) (s m : ℕ) (t : Trace) (v : SiteView) → Stands c s t v → SiteDoes c s m t (quiet v)
quiet_does c s m t v h new = quiet_done c s m t v h

-- ---- leaving ----

pub leaves_does : (c : Config) (s m : ℕ) (t : Trace) (o : Option InEpoch) (v : SiteView) → Stands c s t v → SiteDoes c s m t (leaves_of s o v)
leaves_does c s m t None v h new = quiet_done c s m t v h
leaves_does c s m t (Some e) v h new = record {
  view = record { waits = d.waits; owned = after_owned s m told now None (users_leave s v.boot e.id v.users).view d.owned; tables = tt; inside = tt };
  rows = (tt, d.rows);
  own = (tt, d.own);
}
  where
    now : Trace
    now = with_told m (Shown (says.Leave s e.id)) t

    told : List Told
    told = (users_leave s v.boot e.id v.users).told

    g : Stands c s now v
    g = free_stands c s m (Shown (says.Leave s e.id) ∷ []) t v (tt, tt) h

    d : UsersDo c (WasIn s now) s v.boot None m now (users_leave s v.boot e.id v.users)
    d = users_leave_do c (WasIn s now) s v.boot m (epoch_id v.epoch) e.id now v.users g.waits g.owned

-- ---- promising and polling ----

promises_does : (c : Config) (s m : ℕ) (t : Trace) (id : EpochId) (reach : Sites) (v : SiteView) → Stands c s t v → SiteDoes c s m t (promises s id reach v)
promises_does c s m t id reach v h =
    then_does c s m t (leaves s v) (λ now. tells (Promises s id reach ∷ []) (promised_view id now)) (leaves_does c s m t v.epoch v h)
    (λ g. still_does c s m (after m (leaves s v).told t) (leaves s v).view (tells (Promises s id reach ∷ []) (promised_view id (leaves s v).view)) refl refl refl refl (tt, tt) g)

begins_does : (c : Config) (s m : ℕ) (t : Trace) (links : Links) (number : ℕ) (polled : Links) (v : SiteView) → Stands c s t v → SiteDoes c s m t (begins_round s links number polled v)
begins_does c s m t links number polled v h =
    let id : EpochId = round_id s number v in
    let o : Outcome SiteView = promises s id (reached links) v in
    then_does c s m t o (polls s id polled) (promises_does c s m t id (reached links) v h)
    (λ g. still_does c s m (after m o.told t) o.view (polls s id polled o.view) refl refl refl refl tt g)

pub merge_does : (c : Config) (s m : ℕ) (t : Trace) (links : Links) (v : SiteView) → Stands c s t v → SiteDoes c s m t (starts_merge s links v)
merge_does c s m t links v h = begins_does c s m t links (v.promised.number + 1) (boots_where (merge_boot s links)) v h

pub part_does : (c : Config) (s m : ℕ) (t : Trace) (links : Links) (o : Option InEpoch) (v : SiteView) → Stands c s t v → SiteDoes c s m t (starts_part_of s links o v)
part_does c s m t links None v h = quiet_does c s m t v h
part_does c s m t links (Some e) v h = begins_does c s m t links (v.promised.number + 1) (boots_where (part_boot s links e.members)) v h

pub poll_does : (c : Config) (s m : ℕ) (t : Trace) (links : Links) (from from_boot : ℕ) (id : EpochId) (v : SiteView) → Stands c s t v → SiteDoes c s m t (on_poll s links from from_boot id v)
poll_does c s m t links from from_boot id v h =
    elim (is_epoch_below v.promised id) as (λ b. SiteDoes c s m t (elim b [ true ↦ and_then (promises s id (reached links) v) (λ now. sends (promise_packet s links from from_boot id now) now) | false ↦ sends (cond (same_epoch id v.promised && not v.installed) (promise_packet s links from from_boot id v) (refuse_packet s from from_boot id v)) v ])) [
      | true ↦ then_does c s m t (promises s id (reached links) v) (λ now. sends (promise_packet s links from from_boot id now) now) (promises_does c s m t id (reached links) v h) (λ g. sends_does c s m (after m (promises s id (reached links) v).told t) _ (promises s id (reached links) v).view g)
      | false ↦ sends_does c s m t _ v h
    ]

round_does : (c : Config) (s m : ℕ) (t : Trace) (r : Round) (v : SiteView) → Stands c s t v → SiteDoes c s m t (quiet (record v { round = Some r }))
round_does c s m t r v h = still_does c s m t v (quiet (record v { round = Some r })) refl refl refl refl tt h

pub promise_does : (c : Config) (s m : ℕ) (t : Trace) (from from_boot : ℕ) (id : EpochId) (reach : Sites) (o : Option Round) (v : SiteView) → Stands c s t v → SiteDoes c s m t (on_promise_of from from_boot id reach o v)
promise_does c s m t from from_boot id reach None v h = quiet_does c s m t v h
promise_does c s m t from from_boot id reach (Some r) v h = round_does c s m t (cond (counts_promise from from_boot id r) (with_promise from reach r) r) v h

pub refuse_does : (c : Config) (s m : ℕ) (t : Trace) (links : Links) (id theirs : EpochId) (o : Option Round) (v : SiteView) → Stands c s t v → SiteDoes c s m t (on_refuse_of s links id theirs o v)
refuse_does c s m t links id theirs None v h = quiet_does c s m t v h
refuse_does c s m t links id theirs (Some r) v h =
    elim (same_epoch r.id id) as (λ b. SiteDoes c s m t (elim b [ true ↦ begins_round s links (theirs.number + 1) r.polled v | false ↦ quiet v ])) [
      | true ↦ begins_does c s m t links (theirs.number + 1) r.polled v h
      | false ↦ quiet_does c s m t v h
    ]

-- ---- joining ----

epoch_self : (id : EpochId) → same_epoch id id ≡ true
epoch_self id = grind (arith, nat_tests)

epoch_same : (a b : EpochId) → same_epoch a b ≡ true → a ≡ b
epoch_same a b h = id_eq (grind (arith, nat_tests)) (grind (arith, nat_tests)) (grind (arith, nat_tests))
  where
    id_eq : a.number ≡ b.number → a.site ≡ b.site → a.boot ≡ b.boot → a ≡ b
    id_eq e f g = λ i. record { number = e i; site = f i; boot = g i }

joined_now : (s : ℕ) (id : EpochId) (old : Bool) → (((s == s) && same_epoch id id) || old) ≡ true
joined_now s id old = ap (λ (b : Bool). (b && same_epoch id id) || old) (equal_self s) ∙ ap (λ (b : Bool). b || old) (epoch_self id)

joins_does : (c : Config) (s m : ℕ) (t : Trace) (id : EpochId) (members : Members) (v : SiteView) → Stands c s t v → SiteDoes c s m t (joins c s id members v)
joins_does c s m t id members v h new = record {
  view = record {
    waits = g.waits;
    owned = moves_owned (WasIn s now) (epoch_id v.epoch) (Some id) v.users (λ d a o. true_false (sym (subst (λ (e : EpochId). has_joined t s e ≡ true) (sym (epoch_same id d.descriptor.epoch o)) (h.owned.epochs d a)) ∙ new.0)) g.owned;
    tables = joined_tables c s members;
    inside = joined_now s id (has_joined t s id);
  };
  rows = (tt, tt);
  own = (tt, tt);
}
  where
    now : Trace
    now = with_told m (Shown (says.Join s id members)) t

    g : Stands c s now v
    g = free_stands c s m (Shown (says.Join s id members) ∷ []) t v (tt, tt) h

pub install_does : (c : Config) (s m : ℕ) (t : Trace) (from from_boot : ℕ) (id : EpochId) (members : Members) (v : SiteView) → Stands c s t v → SiteDoes c s m t (on_install c s from from_boot id members v)
install_does c s m t from from_boot id members v h =
    elim (may_install s id members v) as (λ b. SiteDoes c s m t (elim b [ true ↦ and_then (joins c s id members v) (λ now. sends (joined_packet s from from_boot id now) now) | false ↦ sends (cond (is_in id v.epoch) (joined_packet s from from_boot id v) []) v ])) [
      | true ↦ then_does c s m t (joins c s id members v) (λ now. sends (joined_packet s from from_boot id now) now) (joins_does c s m t id members v h) (λ g. sends_does c s m (after m (joins c s id members v).told t) _ (joins c s id members v).view g)
      | false ↦ sends_does c s m t _ v h
    ]

pub joined_does : (c : Config) (s m : ℕ) (t : Trace) (from : ℕ) (id : EpochId) (v : SiteView) → Stands c s t v → SiteDoes c s m t (on_joined from id v)
joined_does c s m t from id v h =
    elim (is_in id v.epoch) as (λ b. SiteDoes c s m t (quiet (cond b (record v { installs = without_row (λ s. s) from v.installs }) v))) [
      | true ↦ still_does c s m t v (quiet (record v { installs = without_row (λ s. s) from v.installs })) refl refl refl refl tt h
      | false ↦ quiet_does c s m t v h
    ]

-- ---- the decision ----

decides_does : (c : Config) (s m : ℕ) (t : Trace) (links : Links) (q : Round) (xs : List ℕ) (v : SiteView) → Stands c s t v → SiteDoes c s m t (decides_if c s links q xs v)
decides_does c s m t links q [] v h =
    let members : Members = chosen_members s v.boot q (chosen_set s links q) in
    let o : Outcome SiteView = joins c s q.id members v in
    then_does c s m t o (installs_all s q.id members) (joins_does c s m t q.id members v h)
    (λ g. still_does c s m (after m o.told t) o.view (installs_all s q.id members o.view) refl refl refl refl tt g)
decides_does c s m t links q (x ∷ xs) v h = round_does c s m t q v h

pub passes_does : (c : Config) (s m : ℕ) (t : Trace) (links : Links) (o : Option Round) (v : SiteView) → Stands c s t v → SiteDoes c s m t (passes_over_of c s links o v)
passes_does c s m t links None v h = quiet_does c s m t v h
passes_does c s m t links (Some r) v h = decides_does c s m t links (passed_over links r) (unanswered (passed_over links r)) v h
