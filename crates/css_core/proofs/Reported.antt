-- A report by the parts that it is taken in.
use Rattle.std.proofs.Common.{◌≡◌, ℕ, Bool, true, false, List, [], ◌∷◌, refl, ap, ◌∙◌}
use Rattle.std.specs.List.{list_all}
use Rattle.locus_ids.specs.Sites.{has}
use Rattle.locus_ids.specs.declared.sites.Sites.{Sites}
use Rattle.wire_messages.specs.declared.body.Body.TheVariants as body
use Rattle.wire_messages.specs.declared.body.ReportedCopy.{ReportedCopy}
use Rattle.role_steps.specs.Views.{Frame, Outcome, quiet, sends, and_then, packet, members_of, pack_sites}
use Rattle.role_steps.specs.Reports.{have_all_reported, starts, starts_if, with_report, counts_report, on_report}
use Rattle.role_steps.specs.declared.synchronizing.SyncTable.{SyncTable}
use Rattle.css_core.specs.Started.{all_in, started_by, starts_once, starts_where, counts_once, counted, reported_by}

starting : (b : Bool) (f : Frame) (t : SyncTable) → starts_once b f t ≡ elim b [ true ↦ starts f t | false ↦ quiet t ]
unfolding started_by
starting true f t = refl
starting false f t = refl

starting_if : (f : Frame) (t : SyncTable) → starts_where f t ≡ starts_if f t
unfolding starts_where all_in
starting_if f t = starting (have_all_reported f t) f t

counting : (b : Bool) (f : Frame) (from : ℕ) (xs : List ReportedCopy) (t : SyncTable) → counts_once b f from xs t ≡ elim b [ true ↦ quiet t | false ↦ starts_if f (with_report from xs t) ]
counting true f from xs t = refl
counting false f from xs t = starting_if f (with_report from xs t)

counting_report : (f : Frame) (from : ℕ) (xs : List ReportedCopy) (t : SyncTable) → counted f from xs t ≡ counts_report f from xs t
unfolding counted
counting_report f from xs t = counting (has t.reported from) f from xs t

pub reported_as : (f : Frame) (from : ℕ) (xs : List ReportedCopy) (t : SyncTable) → reported_by f from xs t ≡ on_report f from xs t
reported_as f from xs t = ap (λ (o : Outcome SyncTable). and_then (sends (packet f from (body.ReportOk t.group) ∷ []) t) (λ u. o)) (counting_report f from xs t)

pub all_reported : (b : Bool) (f : Frame) (t u : SyncTable) (packs : Sites) (ms : List ℕ) → t ≡ u → packs ≡ pack_sites f.config t.group → ms ≡ members_of f.members packs → b ≡ list_all (has t.reported) ms → b ≡ all_in f u
unfolding all_in
all_reported b f t u packs ms same p m e = e ∙ ap (λ xs. list_all (has t.reported) xs) (m ∙ ap (λ s. members_of f.members s) p) ∙ ap (λ s. have_all_reported f s) same
