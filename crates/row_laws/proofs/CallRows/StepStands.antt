-- Each event of a site leaves its calls as the records say.
use Rattle.std.proofs.Common.{◌≡◌, ◌≤◌, ℕ, true, false, ◌++◌, Option, Some, None, refl, sym, ◌∙◌, subst}
use Rattle.locus_ids.specs.declared.sites.Links.{Links}
use Rattle.locus_ids.specs.declared.config.Config.{Config}
use Rattle.trace_book.specs.declared.call.Call.{Call}
use Rattle.wire_messages.specs.declared.packet.Packet.{Packet}
use Rattle.wire_messages.specs.declared.body.Body.{Body}
use Rattle.wire_messages.specs.declared.body.Body.TheVariants as body
use Rattle.role_steps.specs.Views.{SiteView, Outcome, Event, Calls, Receives, Ticks, Parts, Merges, GivesUp, quiet}
use Rattle.role_steps.specs.Using.{on_call}
use Rattle.role_steps.specs.Epochs.{leaves, starts_merge, starts_part, passes_over}
use Rattle.role_steps.specs.declared.rounds.InEpoch.{InEpoch}
use Rattle.role_steps.specs.declared.users.WaitingCall.{WaitingCall}
use Rattle.role_steps.proofs.Sending.{every_append}
use Rattle.tree_model.specs.Folds.{Trace}
use Rattle.the_run.specs.Kept.{Among}
use Rattle.the_run.specs.Steps.{is_dropped, takes, tries_at, adopts_in, starts_mends_of, ends_event, whole, call_frame, epoch_id, takes_call, step}
use Rattle.row_laws.specs.CallRows.Serials.{Owned}
use Rattle.row_laws.specs.CallRows.Waiting.{after, OfSite}
use Rattle.row_laws.specs.CallRows.Standing.{UsersDo, WasIn, Stands, AllNew, SiteDone, SiteDoes}
use Rattle.row_laws.proofs.CallRows.CallSteps.{IsPlain, process_call_do}
use Rattle.row_laws.proofs.CallRows.Sites.{after_append, accepted_append, new_split, alike, free_stands, all_free_own, free_rows, quiet_done, users_done, then_does}
use Rattle.row_laws.proofs.CallRows.InsideSteps.{framed_done, Adopts, quiet_adopts, adopts_of_adopts, tries_adopts, mends_does}
use Rattle.row_laws.proofs.CallRows.FormingSteps.{leaves_does, merge_does, part_does, poll_does, promise_does, refuse_does, install_does, joined_does, passes_does}

-- ---- the end of an event ----

ends_does : (c : Config) (s m : ℕ) (t : Trace) (links : Links) (v : SiteView) → Stands c s t v → SiteDoes c s m t (ends_event c s links v)
ends_does c s m t links v h =
    let o : Outcome SiteView = passes_over c s links v in
    then_does c s m t o (λ now. starts_mends_of c s now.epoch now) (passes_does c s m t links v.round v h) (λ g. mends_does c s m (after m o.told t) o.view.epoch o.view refl g)

-- an adoption is told first, though it comes after the rest
whole_does : (c : Config) (s m : ℕ) (t : Trace) (links : Links) (v : SiteView) (o : Outcome SiteView) (tries : SiteView → Outcome SiteView) → ((now : Trace) → Stands c s now v → SiteDoes c s m now o) → ((u : SiteView) → Adopts u (tries u)) → Stands c s t v → SiteDoes c s m t (whole c s links o tries)
whole_does c s m t links v o tries does adopts h new = record {
  view = subst (λ (u : Trace). Stands c s u last.view) (sym (after_append m adopted.told (o.told ++ last.told) t ∙ after_append m o.told last.told now)) z.view;
  rows = accepted_append c m adopted.told (o.told ++ last.told) t (free_rows c m adopted.told t k.free) (accepted_append c m o.told last.told now d.rows z.rows);
  own = every_append (OfSite s) adopted.told (o.told ++ last.told) (all_free_own s adopted.told k.free) (every_append (OfSite s) o.told last.told d.own z.own);
}
  where
    adopted : Outcome SiteView
    adopted = tries o.view

    last : Outcome SiteView
    last = ends_event c s links adopted.view

    now : Trace
    now = after m adopted.told t

    k : Adopts o.view adopted
    k = adopts o.view

    later : AllNew m o.told now × AllNew m last.told (after m o.told now)
    later = new_split m o.told last.told now (new_split m adopted.told (o.told ++ last.told) t new).1

    d : SiteDone c s m now o
    d = does now (free_stands c s m adopted.told t v k.free h) later.0

    z : SiteDone c s m (after m o.told now) last
    z = ends_does c s m (after m o.told now) links adopted.view (alike c s (after m o.told now) o.view adopted.view k.users k.epoch k.boot (k.tables d.view.tables) d.view) later.1

-- ---- a packet ----

takes_does : (c : Config) (s m : ℕ) (t : Trace) (links : Links) (p : Packet) (x : Body) (v : SiteView) → Stands c s t v → SiteDoes c s m t (takes c s links p x v)
takes_does c s m t links p body.Poll v h = poll_does c s m t links p.from p.from_boot p.epoch v h
takes_does c s m t links p (body.Promise reach) v h = promise_does c s m t p.from p.from_boot p.epoch reach v.round v h
takes_does c s m t links p (body.Refuse promised) v h = refuse_does c s m t links p.epoch promised v.round v h
takes_does c s m t links p (body.Install members) v h = install_does c s m t p.from p.from_boot p.epoch members v h
takes_does c s m t links p body.Joined v h = joined_does c s m t p.from p.epoch v h
takes_does c s m t links p _ v h = λ new. framed_done c s m t p v.epoch v refl h

-- ---- a call ----

-- a call that comes is no mend, of a process that waits for nothing
abbrev pub MayCall : SiteView → Event → Type 0
MayCall v (Calls process words) = IsPlain words × (1 ≤ process) × ((r : WaitingCall) → Among r v.users.waiting → r.process ≡ process → ⊥)
MayCall v _ = Unit {0}

call_users : (c : Config) (s m : ℕ) (t : Trace) (process : ℕ) (words : Call) (v : SiteView) (o : Option InEpoch) → MayCall v (Calls process words) → Stands c s t v → Owned (WasIn s t) (epoch_id o) v.users → UsersDo c (WasIn s t) s v.boot (epoch_id o) m t (on_call (call_frame c s v.boot o) (epoch_id o) process words v.users)
call_users c s m t process words v None may h o = process_call_do c (WasIn s t) (call_frame c s v.boot None) None m process t words v.users may.0 may.1 may.2 h.waits o
call_users c s m t process words v (Some e) may h o = process_call_do c (WasIn s t) (call_frame c s v.boot (Some e)) (Some e.id) m process t words v.users may.0 may.1 may.2 h.waits o

call_does : (c : Config) (s m : ℕ) (t : Trace) (process : ℕ) (words : Call) (v : SiteView) → MayCall v (Calls process words) → Stands c s t v → SiteDoes c s m t (takes_call c s process words v)
call_does c s m t process words v may h new = users_done c s m t v (on_call (call_frame c s v.boot v.epoch) (epoch_id v.epoch) process words) h (call_users c s m t process words v v.epoch may h h.owned)

-- ---- the step ----

pub step_does : (c : Config) (s m : ℕ) (t : Trace) (links : Links) (v : SiteView) (e : Event) → MayCall v e → Stands c s t v → SiteDoes c s m t (step c s links v e)
step_does c s m t links v (Calls process words) may h = whole_does c s m t links v (takes_call c s process words v) quiet (λ now g. call_does c s m now process words v may g) quiet_adopts h
step_does c s m t links v (Receives p) may h =
    elim (is_dropped p v) as (λ b. SiteDoes c s m t (elim b [ true ↦ quiet v | false ↦ whole c s links (takes c s links p p.body v) (tries_at c s p.body) ])) [
      | true ↦ λ new. quiet_done c s m t v h
      | false ↦ whole_does c s m t links v (takes c s links p p.body v) (tries_at c s p.body) (λ now g. takes_does c s m now links p p.body v g) (tries_adopts c s p.body) h
    ]
step_does c s m t links v Ticks may h = ticks_does (adopts_of_adopts c s v.epoch v)
  where
    a : Outcome SiteView
    a = adopts_in c s v

    last : Outcome SiteView
    last = ends_event c s links a.view

    ticks_does : Adopts v a → SiteDoes c s m t (step c s links v Ticks)
    ticks_does k new =
        let n : AllNew m a.told t × AllNew m last.told (after m a.told t) = new_split m a.told last.told t new in
        let z : SiteDone c s m (after m a.told t) last = ends_does c s m (after m a.told t) links a.view (alike c s (after m a.told t) v a.view k.users k.epoch k.boot (k.tables h.tables) (free_stands c s m a.told t v k.free h)) n.1 in
        record {
          view = subst (λ (u : Trace). Stands c s u last.view) (sym (after_append m a.told last.told t)) z.view;
          rows = accepted_append c m a.told last.told t (free_rows c m a.told t k.free) z.rows;
          own = every_append (OfSite s) a.told last.told (all_free_own s a.told k.free) z.own;
        }
step_does c s m t links v Parts may h = whole_does c s m t links v (starts_part s links v) quiet (λ now g. part_does c s m now links v.epoch v g) quiet_adopts h
step_does c s m t links v Merges may h = whole_does c s m t links v (starts_merge s links v) quiet (λ now g. merge_does c s m now links v g) quiet_adopts h
step_does c s m t links v GivesUp may h = whole_does c s m t links v (leaves s v) quiet (λ now g. leaves_does c s m now v.epoch v g) quiet_adopts h
