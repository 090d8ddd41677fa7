-- A site pulls each file once: a notice, a page and a delta leave its pulls ascending.
use Rattle.std.proofs.Common.{ℕ, true, false, List, [], ◌∷◌, ◌++◌, Option, None, Some}
use Rattle.locus_ids.specs.declared.ids.FileId.{FileId}
use Rattle.locus_ids.specs.declared.ids.Stamp.{Stamp}
use Rattle.commit_graph.specs.Versions.{same_stamp}
use Rattle.wire_messages.specs.declared.body.Body.TheVariants as body
use Rattle.role_steps.specs.Pulling.{begins_pull, goes_on, is_awaited, is_delta, on_delta, on_delta_of, on_notify, on_page, on_page_of, pages_in, pull_key, pull_of, pull_over, replaces_pull}
use Rattle.role_steps.specs.Versions.{is_below}
use Rattle.role_steps.specs.Views.{Frame, Outcome, packet, quiet, sends}
use Rattle.role_steps.specs.declared.copies.FileCopy.{FileCopy}
use Rattle.role_steps.specs.declared.pulls.Pull.{Pull}
use Rattle.tree_laws.specs.Stores.{Ascends}
use Rattle.store_laws.proofs.Users.Tabled.{ascends_with}

abbrev Keeps : List Pull → Outcome (List Pull) → Type 0
Keeps ps o = Ascends pull_key ps → Ascends pull_key o.view

begins_ascend : (f : Frame) (own : Option FileCopy) (p : Pull) (ps : List Pull) → Keeps ps (begins_pull f own p ps)
begins_ascend f own p ps = elim (replaces_pull own p (pull_of ps p.file)) as (λ b. Keeps ps (elim b [ true ↦ goes_on f (pull_over own p) ps | false ↦ quiet ps ])) [
  | true ↦ λ h. ascends_with pull_key (pull_over own p) ps h
  | false ↦ λ h. h
]

pub notify_ascends : (f : Frame) (from : ℕ) (own : Option FileCopy) (p : Pull) (ps : List Pull) → Ascends pull_key ps → Ascends pull_key (on_notify f from own p ps).view
notify_ascends f from None p ps = begins_ascend f None p ps
notify_ascends f from (Some own) p ps =
    elim (same_stamp own.stamp p.stamp) as (λ b. Keeps ps (elim b [ true ↦ sends (packet f from (body.Have p.file p.stamp) ∷ []) ps | false ↦ elim (is_below own.vector p.vector) [ true ↦ begins_pull f (Some own) p ps | false ↦ quiet ps ] ])) [
      | true ↦ λ h. h
      | false ↦ elim (is_below own.vector p.vector) as (λ b. Keeps ps (elim b [ true ↦ begins_pull f (Some own) p ps | false ↦ quiet ps ])) [ true ↦ begins_ascend f (Some own) p ps | false ↦ λ h. h ]
    ]

page_so : (f : Frame) (stamp : Stamp) (page : ℕ) (bytes : List ℕ) (o : Option Pull) (ps : List Pull) → Keeps ps (on_page_of f stamp page bytes o ps)
page_so f stamp page bytes None ps = λ h. h
page_so f stamp page bytes (Some p) ps =
    elim (is_awaited p stamp page bytes) as (λ b. Keeps ps (elim b [ true ↦ goes_on f (record p { content = p.content ++ bytes }) ps | false ↦ quiet ps ])) [
      | true ↦ λ h. ascends_with pull_key (record p { content = p.content ++ bytes }) ps h
      | false ↦ λ h. h
    ]

pub page_ascends : (f : Frame) (file : FileId) (stamp : Stamp) (page : ℕ) (bytes : List ℕ) (ps : List Pull) → Ascends pull_key ps → Ascends pull_key (on_page f file stamp page bytes ps).view
page_ascends f file stamp page bytes ps h = page_so f stamp page bytes (pull_of ps file) ps h

delta_so : (f : Frame) (own : ℕ) (stamp : Stamp) (pages : List ℕ) (o : Option Pull) (ps : List Pull) → Keeps ps (on_delta_of f own stamp pages o ps)
delta_so f own stamp pages None ps = λ h. h
delta_so f own stamp pages (Some p) ps =
    elim (is_delta own p stamp pages) as (λ b. Keeps ps (elim b [ true ↦ goes_on f (record p { wanted = Some pages }) ps | false ↦ quiet ps ])) [
      | true ↦ λ h. ascends_with pull_key (record p { wanted = Some pages }) ps h
      | false ↦ λ h. h
    ]

pub delta_ascends : (f : Frame) (own : Option FileCopy) (file : FileId) (stamp : Stamp) (pages : List ℕ) (ps : List Pull) → Ascends pull_key ps → Ascends pull_key (on_delta f own file stamp pages ps).view
delta_ascends f own file stamp pages ps h = delta_so f (pages_in own) stamp pages (pull_of ps file) ps h
