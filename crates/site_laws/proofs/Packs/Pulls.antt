-- A packet for the pulls of a site: what is sent is of a law by kinds, and what holds of each pull stays so.
use Rattle.std.proofs.Common.{◌≡◌, ℕ, true, false, List, [], ◌∷◌, ◌++◌, Option, Some, None}
use Rattle.locus_ids.specs.declared.ids.Stamp.{Stamp}
use Rattle.commit_graph.specs.Versions.{same_stamp}
use Rattle.wire_messages.specs.declared.packet.Packet.{Packet}
use Rattle.wire_messages.specs.declared.body.Body.{Body}
use Rattle.wire_messages.specs.declared.body.Body.TheVariants as body
use Rattle.role_steps.specs.Own.{Every}
use Rattle.role_steps.specs.Views.{Frame, SiteView, Outcome, quiet, sends, within, packet}
use Rattle.role_steps.specs.Versions.{is_below}
use Rattle.role_steps.specs.Storage.{copy_of}
use Rattle.role_steps.specs.Pulling.{pull_key, pull_of, goes_on, pull_over, begins_pull, replaces_pull, on_notify, is_awaited, pages_in, is_delta, on_page_of, on_delta_of, on_page, on_delta}
use Rattle.role_steps.specs.declared.copies.FileCopy.{FileCopy}
use Rattle.role_steps.specs.declared.pulls.Pull.{Pull}
use Rattle.role_steps.proofs.Fitting.{over_any}
use Rattle.the_run.specs.Roles.{IsForPull}
use Rattle.the_run.specs.Steps.{takes_inside, with_pulls}
use Rattle.run_laws.specs.Walks.Laws.{Law, ReadersKeep, Part}
use Rattle.the_run.proofs.InsideSync.{every_row, Found, row_found}
use Rattle.run_laws.proofs.Walks.RoleWalks.{on_notify_walk, on_page_walk, on_delta_walk}

-- it holds of the pull that a notice begins
abbrev pub Begins : (Pull → Type 0) → Body → Type 0
Begins P (body.Notify file kind set size stamp vector holder) = P (record { file = file; kind = kind; set = set; size = size; stamp = stamp; vector = vector; holder = holder; base = None; wanted = None; content = [] })
Begins P _ = Unit {0}

module _ (P : Pull → Type 0) (any : (p : Pull) (base : Option Stamp) (wanted : Option (List ℕ)) (content : List ℕ) → P p → P (record p { base = base; wanted = wanted; content = content })) where
  abbrev Keeps : Outcome (List Pull) → Type 0
  Keeps o = Every P o.view

  goes_keeps : (f : Frame) (p : Pull) (base : Option Stamp) (wanted : Option (List ℕ)) (content : List ℕ) (ps : List Pull) → P p → Every P ps → Keeps (goes_on f (record p { base = base; wanted = wanted; content = content }) ps)
  goes_keeps f p base wanted content ps k h = every_row P pull_key (record p { base = base; wanted = wanted; content = content }) ps (any p base wanted content k) h

  begins_keeps : (f : Frame) (own : Option FileCopy) (p : Pull) (ps : List Pull) → P p → Every P ps → Keeps (begins_pull f own p ps)
  begins_keeps f own p ps k h = elim (replaces_pull own p (pull_of ps p.file)) as (λ b. Keeps (elim b [ true ↦ goes_on f (pull_over own p) ps | false ↦ quiet ps ])) [ true ↦ every_row P pull_key (pull_over own p) ps (over_any P own p (λ base wanted. any p base wanted p.content k)) h | false ↦ h ]

  notify_keeps : (f : Frame) (from : ℕ) (o : Option FileCopy) (p : Pull) (ps : List Pull) → P p → Every P ps → Keeps (on_notify f from o p ps)
  notify_keeps f from None p ps k h = begins_keeps f None p ps k h
  notify_keeps f from (Some own) p ps k h =
      elim (same_stamp own.stamp p.stamp) as (λ b. Keeps (elim b [ true ↦ sends (packet f from (body.Have p.file p.stamp) ∷ []) ps | false ↦ elim (is_below own.vector p.vector) [ true ↦ begins_pull f (Some own) p ps | false ↦ quiet ps ] ])) [
        | true ↦ h
        | false ↦ elim (is_below own.vector p.vector) as (λ b. Keeps (elim b [ true ↦ begins_pull f (Some own) p ps | false ↦ quiet ps ])) [ true ↦ begins_keeps f (Some own) p ps k h | false ↦ h ]
      ]

  delta_keeps : (f : Frame) (own : ℕ) (stamp : Stamp) (pages : List ℕ) (o : Option Pull) (ps : List Pull) → Found P o → Every P ps → Keeps (on_delta_of f own stamp pages o ps)
  delta_keeps f own stamp pages None ps k h = h
  delta_keeps f own stamp pages (Some p) ps k h = elim (is_delta own p stamp pages) as (λ b. Keeps (elim b [ true ↦ goes_on f (record p { wanted = Some pages }) ps | false ↦ quiet ps ])) [ true ↦ goes_keeps f p p.base (Some pages) p.content ps k h | false ↦ h ]

  page_keeps : (f : Frame) (stamp : Stamp) (page : ℕ) (bytes : List ℕ) (o : Option Pull) (ps : List Pull) → Found P o → Every P ps → Keeps (on_page_of f stamp page bytes o ps)
  page_keeps f stamp page bytes None ps k h = h
  page_keeps f stamp page bytes (Some p) ps k h = elim (is_awaited p stamp page bytes) as (λ b. Keeps (elim b [ true ↦ goes_on f (record p { content = p.content ++ bytes }) ps | false ↦ quiet ps ])) [ true ↦ goes_keeps f p p.base p.wanted (p.content ++ bytes) ps k h | false ↦ h ]

  -- an answer that says that the site has the version is of the law, where that holds of its pull
  module _ (law : Law) (f : Frame) (reads : ReadersKeep law f) (from : ℕ) (back : (p : Pull) → P p → law.sent (packet f from (body.Have p.file p.stamp))) (Q : Outcome SiteView → Type 0) (v : SiteView) where
    pub pulls_of : Every P v.pulls → ((o : Outcome (List Pull)) → Part law o → Every P o.view → Q (within (with_pulls v) o)) → (x : Body) → IsForPull x → Begins P x → Q (takes_inside f from x v)
    pulls_of h q (body.Notify file kind set size stamp vector holder) is k =
        let p : Pull = record { file = file; kind = kind; set = set; size = size; stamp = stamp; vector = vector; holder = holder; base = None; wanted = None; content = [] } in
        q (on_notify f from (copy_of v.store file) p v.pulls) (on_notify_walk law f reads from (copy_of v.store file) p (back p k) v.pulls) (notify_keeps f from (copy_of v.store file) p v.pulls k h)
    pulls_of h q (body.Page file stamp page bytes) is k = q (on_page f file stamp page bytes v.pulls) (on_page_walk law f reads file stamp page bytes v.pulls) (page_keeps f stamp page bytes (pull_of v.pulls file) v.pulls (row_found P pull_key _ v.pulls h) h)
    pulls_of h q (body.Delta file wanted pages) is k =
        q (on_delta f (copy_of v.store file) file wanted pages v.pulls) (on_delta_walk law f reads (copy_of v.store file) file wanted pages v.pulls) (delta_keeps f (pages_in (copy_of v.store file)) wanted pages (pull_of v.pulls file) v.pulls (row_found P pull_key _ v.pulls h) h)
    pulls_of h q _ is k = absurd is
