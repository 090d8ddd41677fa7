-- A packet after which an adoption is tried tells nothing and writes nothing itself.
use Rattle.std.proofs.Common.{◌≡◌, ℕ, true, false, List, [], ◌∷◌, ◌++◌, Option, Some, None, refl, sym, subst}
use Rattle.locus_ids.specs.declared.ids.Stamp.{Stamp}
use Rattle.locus_ids.specs.declared.config.Config.{Config}
use Rattle.commit_graph.specs.Versions.{same_stamp}
use Rattle.wire_messages.specs.declared.packet.Packet.{Packet}
use Rattle.wire_messages.specs.declared.body.Body.{Body}
use Rattle.wire_messages.specs.declared.body.Body.TheVariants as body
use Rattle.the_run.specs.of_role_steps.Views.{Frame, SiteView, Outcome, quiet, sends, packet}
use Rattle.the_run.specs.of_role_steps.Pulling.{pull_of, goes_on, pull_over, begins_pull, replaces_pull, on_notify, is_awaited, is_delta, on_page_of, on_delta_of}
use Rattle.the_run.specs.of_role_steps.Versions.{is_below}
use Rattle.the_run.specs.of_role_steps.Epochs.{frame_in}
use Rattle.the_run.specs.of_role_steps.declared.copies.FileCopy.{FileCopy}
use Rattle.the_run.specs.of_role_steps.declared.pulls.Pull.{Pull}
use Rattle.the_run.specs.of_role_steps.declared.rounds.InEpoch.{InEpoch}
use Rattle.the_run.specs.Steps.{takes_inside, takes_framed}

abbrev pub Silent : Outcome (List Pull) → Type 0
Silent o = (o.told ≡ []) × (o.written ≡ None)

begins_silent : (f : Frame) (own : Option FileCopy) (p : Pull) (ps : List Pull) → Silent (begins_pull f own p ps)
begins_silent f own p ps = elim (replaces_pull own p (pull_of ps p.file)) as (λ b. Silent (elim b [ true ↦ goes_on f (pull_over own p) ps | false ↦ quiet ps ])) [ true ↦ (refl, refl) | false ↦ (refl, refl) ]

pub notify_silent : (f : Frame) (from : ℕ) (o : Option FileCopy) (p : Pull) (ps : List Pull) → Silent (on_notify f from o p ps)
notify_silent f from None p ps = begins_silent f None p ps
notify_silent f from (Some own) p ps =
    elim (same_stamp own.stamp p.stamp) as (λ b. Silent (elim b [ true ↦ sends (packet f from (body.Have p.file p.stamp) ∷ []) ps | false ↦ elim (is_below own.vector p.vector) [ true ↦ begins_pull f (Some own) p ps | false ↦ quiet ps ] ])) [
      | true ↦ (refl, refl)
      | false ↦ elim (is_below own.vector p.vector) as (λ b. Silent (elim b [ true ↦ begins_pull f (Some own) p ps | false ↦ quiet ps ])) [ true ↦ begins_silent f (Some own) p ps | false ↦ (refl, refl) ]
    ]

pub delta_silent : (f : Frame) (own : ℕ) (stamp : Stamp) (pages : List ℕ) (o : Option Pull) (ps : List Pull) → Silent (on_delta_of f own stamp pages o ps)
delta_silent f own stamp pages None ps = (refl, refl)
delta_silent f own stamp pages (Some p) ps = elim (is_delta own p stamp pages) as (λ b. Silent (elim b [ true ↦ goes_on f (record p { wanted = Some pages }) ps | false ↦ quiet ps ])) [ true ↦ (refl, refl) | false ↦ (refl, refl) ]

pub page_silent : (f : Frame) (stamp : Stamp) (page : ℕ) (bytes : List ℕ) (o : Option Pull) (ps : List Pull) → Silent (on_page_of f stamp page bytes o ps)
page_silent f stamp page bytes None ps = (refl, refl)
page_silent f stamp page bytes (Some p) ps = elim (is_awaited p stamp page bytes) as (λ b. Silent (elim b [ true ↦ goes_on f (record p { content = p.content ++ bytes }) ps | false ↦ quiet ps ])) [ true ↦ (refl, refl) | false ↦ (refl, refl) ]

abbrev pub SiteSilent : Outcome SiteView → Type 0
SiteSilent o = (o.told ≡ []) × (o.written ≡ None)

pub framed_notify : (c : Config) (me : ℕ) (p : Packet) (x : Body) (o : Option InEpoch) (v : SiteView) → p.body ≡ x → ((f : Frame) → SiteSilent (takes_inside f p.from x v)) → SiteSilent (takes_framed c me p o v)
framed_notify c me p x None v q h = (refl, refl)
framed_notify c me p x (Some e) v q h = subst (λ (y : Body). SiteSilent (takes_inside (frame_in c me v.boot e) p.from y v)) (sym q) (h (frame_in c me v.boot e))
