-- An event of a site leaves tables of a law: those that were there go on in it, and an epoch that is joined begins with new ones.
use Rattle.std.proofs.Common.{ℕ, ◌+◌, Bool, true, false, cond, ◌&&◌, not, List, [], ◌∷◌, map, filter, Option, Some, None}
use Rattle.std.specs.List.{filter}
use Rattle.locus_ids.specs.Sites.{has}
use Rattle.locus_ids.specs.declared.ids.EpochId.{EpochId}
use Rattle.locus_ids.specs.declared.sites.Members.{Members}
use Rattle.locus_ids.specs.declared.sites.Sites.{Sites}
use Rattle.locus_ids.specs.declared.sites.Links.{Links}
use Rattle.locus_ids.specs.declared.config.Config.{Config}
use Rattle.the_run.specs.of_trace_book.Same.{same_epoch}
use Rattle.the_run.specs.of_wire_messages.declared.packet.Packet.{Packet}
use Rattle.the_run.specs.of_wire_messages.declared.body.Body.{Body}
use Rattle.the_run.specs.of_wire_messages.declared.body.Body.TheVariants as body
use Rattle.the_run.specs.of_role_steps.Own.{Every}
use Rattle.the_run.specs.of_role_steps.Tables.{without_row}
use Rattle.the_run.specs.of_role_steps.Views.{SiteView, Event, Calls, Receives, Ticks, Parts, Merges, GivesUp, Outcome, quiet, sends, and_then, pack_sites, all_groups}
use Rattle.the_run.specs.of_role_steps.Reports.{new_table}
use Rattle.the_run.specs.of_role_steps.Epochs.{is_epoch_below, leaves_of, leaves, promises, reached, begins_round, starts_part_of, starts_part, starts_merge, promise_packet, refuse_packet, on_poll, on_promise_of, on_refuse_of, own_groups, is_sync_site, joins, may_install, is_in, joined_packet, on_install, on_joined, passed_over, unanswered, chosen_members, chosen_set, decides_if, passes_over_of, passes_over}
use Rattle.the_run.specs.of_role_steps.declared.rounds.InEpoch.{InEpoch}
use Rattle.the_run.specs.of_role_steps.declared.rounds.Round.{Round}
use Rattle.the_run.specs.Steps.{is_dropped, takes_framed, takes, adopts_in, tries_at, whole, takes_call, step, adopts_of, starts_mends_of, ends_event}
use Rattle.the_run.specs.KindLaws.{Law, EventsKeep}
use Rattle.the_run.proofs.SiteWalks.{adopts_of_walk, tries_walk, mends_of_walk, framed_walk}

-- ---- new tables ----

filtered : (P : ℕ → Type 0) (test : ℕ → Bool) (gs : List ℕ) → Every P gs → Every P (filter test gs)
filtered P test [] h = tt
filtered P test (g ∷ gs) h = elim (test g) as (λ b. Every P (cond b (g ∷ filter test gs) (filter test gs))) [ true ↦ (h.0, filtered P test gs h.1) | false ↦ filtered P test gs h.1 ]

mapped : (law : Law) (gs : List ℕ) → Every (λ (g : ℕ). law.table (new_table g)) gs → Every law.table (map new_table gs)
mapped law [] h = tt
mapped law (g ∷ gs) h = (h.0, mapped law gs h.1)

module _ (law : Law) (c : Config) (me : ℕ) (keeps : EventsKeep law c me) where
  -- the tables are of the law, where they were
  abbrev Keeps : SiteView → Outcome SiteView → Type 0
  Keeps v o = Every law.table v.tables → Every law.table o.view.tables

  -- ---- inside the epoch ----

  adopts_keeps : (e : Option InEpoch) (v : SiteView) → Keeps v (adopts_of c me e v)
  adopts_keeps e v ts = (adopts_of_walk law c me e v keeps.unwritten (λ x is. keeps.inside v.boot x) ts).tables

  tries_keeps : (x : Body) (v : SiteView) → Keeps v (tries_at c me x v)
  tries_keeps x v ts = (tries_walk law c me x v keeps.unwritten (λ e is. keeps.inside v.boot e) ts).tables

  mends_keep : (e : Option InEpoch) (v : SiteView) → Keeps v (starts_mends_of c me e v)
  mends_keep e v ts = (mends_of_walk law c me e v keeps.unwritten (λ x is. keeps.inside v.boot x) ts).tables

  framed_keeps : (p : Packet) (e : Option InEpoch) (v : SiteView) → Keeps v (takes_framed c me p e v)
  framed_keeps p e v ts = (framed_walk law c me p e v keeps.unwritten (λ x is. keeps.inside v.boot x) (λ x is. keeps.answers v.boot p.from x) ts).tables

  -- ---- how an epoch is formed ----

  leaves_keeps : (e : Option InEpoch) (v : SiteView) → Keeps v (leaves_of me e v)
  leaves_keeps None v = λ ts. ts
  leaves_keeps (Some e) v = λ ts. tt

  part_keeps : (links : Links) (e : Option InEpoch) (v : SiteView) → Keeps v (starts_part_of me links e v)
  part_keeps links None v = λ ts. ts
  part_keeps links (Some e) v = leaves_keeps v.epoch v

  on_poll_keeps : (links : Links) (from from_boot : ℕ) (id : EpochId) (v : SiteView) → Keeps v (on_poll me links from from_boot id v)
  on_poll_keeps links from from_boot id v =
      elim (is_epoch_below v.promised id) as (λ t. Keeps v (elim t [ true ↦ and_then (promises me id (reached links) v) (λ now. sends (promise_packet me links from from_boot id now) now) | false ↦ sends (cond (same_epoch id v.promised && not v.installed) (promise_packet me links from from_boot id v) (refuse_packet me from from_boot id v)) v ])) [
        | true ↦ leaves_keeps v.epoch v
        | false ↦ λ ts. ts
      ]

  on_promise_keeps : (from from_boot : ℕ) (id : EpochId) (reach : Sites) (o : Option Round) (v : SiteView) → Keeps v (on_promise_of from from_boot id reach o v)
  on_promise_keeps from from_boot id reach None v = λ ts. ts
  on_promise_keeps from from_boot id reach (Some r) v = λ ts. ts

  on_refuse_keeps : (links : Links) (id theirs : EpochId) (o : Option Round) (v : SiteView) → Keeps v (on_refuse_of me links id theirs o v)
  on_refuse_keeps links id theirs None v = λ ts. ts
  on_refuse_keeps links id theirs (Some r) v = elim (same_epoch r.id id) as (λ t. Keeps v (elim t [ true ↦ begins_round me links (theirs.number + 1) r.polled v | false ↦ quiet v ])) [ true ↦ leaves_keeps v.epoch v | false ↦ λ ts. ts ]

  joins_at : (m : Members) → Every law.table (map new_table (filter (is_sync_site c me m) (own_groups c me)))
  joins_at m = mapped law (filter (is_sync_site c me m) (own_groups c me)) (filtered (λ (g : ℕ). law.table (new_table g)) (is_sync_site c me m) (own_groups c me) (filtered (λ (g : ℕ). law.table (new_table g)) (λ g. has (pack_sites c g) me) all_groups keeps.fresh))

  on_install_keeps : (from from_boot : ℕ) (id : EpochId) (m : Members) (v : SiteView) → Keeps v (on_install c me from from_boot id m v)
  on_install_keeps from from_boot id m v =
      elim (may_install me id m v) as (λ t. Keeps v (elim t [ true ↦ and_then (joins c me id m v) (λ now. sends (joined_packet me from from_boot id now) now) | false ↦ sends (cond (is_in id v.epoch) (joined_packet me from from_boot id v) []) v ])) [
        | true ↦ λ ts. joins_at m
        | false ↦ λ ts. ts
      ]

  on_joined_keeps : (from : ℕ) (id : EpochId) (v : SiteView) → Keeps v (on_joined from id v)
  on_joined_keeps from id v =
      elim (is_in id v.epoch) as (λ b. Keeps v (quiet (cond b (record v { installs = without_row (λ s. s) from v.installs }) v))) [ true ↦ λ ts. ts | false ↦ λ ts. ts ]

  decides_keeps : (links : Links) (q : Round) (xs : List ℕ) (v : SiteView) → Keeps v (decides_if c me links q xs v)
  decides_keeps links q [] v = λ ts. joins_at (chosen_members me v.boot q (chosen_set me links q))
  decides_keeps links q (x ∷ xs) v = λ ts. ts

  passes_keeps : (links : Links) (o : Option Round) (v : SiteView) → Keeps v (passes_over_of c me links o v)
  passes_keeps links None v = λ ts. ts
  passes_keeps links (Some r) v = decides_keeps links (passed_over links r) (unanswered (passed_over links r)) v

  ends_keeps : (links : Links) (v : SiteView) → Keeps v (ends_event c me links v)
  ends_keeps links v = λ ts. mends_keep (passes_over c me links v).view.epoch (passes_over c me links v).view (passes_keeps links v.round v ts)

  pub takes_tables : (links : Links) (p : Packet) (x : Body) (v : SiteView) → Keeps v (takes c me links p x v)
  takes_tables links p body.Poll v = on_poll_keeps links p.from p.from_boot p.epoch v
  takes_tables links p (body.Promise reach) v = on_promise_keeps p.from p.from_boot p.epoch reach v.round v
  takes_tables links p (body.Refuse promised) v = on_refuse_keeps links p.epoch promised v.round v
  takes_tables links p (body.Install members) v = on_install_keeps p.from p.from_boot p.epoch members v
  takes_tables links p body.Joined v = on_joined_keeps p.from p.epoch v
  takes_tables links p _ v = framed_keeps p v.epoch v

  whole_keeps : (links : Links) (v : SiteView) (o : Outcome SiteView) (tries : SiteView → Outcome SiteView) → Keeps v o → Keeps o.view (tries o.view) → Keeps v (whole c me links o tries)
  whole_keeps links v o tries h t = λ ts. ends_keeps links (tries o.view).view (t (h ts))

  pub step_tables : (links : Links) (v : SiteView) (e : Event) → Every law.table v.tables → Every law.table (step c me links v e).view.tables
  step_tables links v (Calls process words) = whole_keeps links v (takes_call c me process words v) quiet (λ ts. ts) (λ ts. ts)
  step_tables links v (Receives p) =
      elim (is_dropped p v) as (λ t. Keeps v (elim t [ true ↦ quiet v | false ↦ whole c me links (takes c me links p p.body v) (tries_at c me p.body) ])) [
        | true ↦ λ ts. ts
        | false ↦ whole_keeps links v (takes c me links p p.body v) (tries_at c me p.body) (takes_tables links p p.body v) (tries_keeps p.body (takes c me links p p.body v).view)
      ]
  step_tables links v Ticks = λ ts. ends_keeps links (adopts_in c me v).view (adopts_keeps v.epoch v ts)
  step_tables links v Parts = whole_keeps links v (starts_part me links v) quiet (part_keeps links v.epoch v) (λ ts. ts)
  step_tables links v Merges = whole_keeps links v (starts_merge me links v) quiet (leaves_keeps v.epoch v) (λ ts. ts)
  step_tables links v GivesUp = whole_keeps links v (leaves me v) quiet (leaves_keeps v.epoch v) (λ ts. ts)
