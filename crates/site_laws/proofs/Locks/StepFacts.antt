-- What each event of a site tells, keeps and sends of instances is as it went on.
use Rattle.std.proofs.Common.{◌≡◌, ℕ, List, ◌∷◌, Option, Some, sym, subst, refl, ap}
use Rattle.locus_ids.specs.declared.ids.EpochId.{EpochId}
use Rattle.locus_ids.specs.declared.config.Config.{Config}
use Rattle.trace_book.specs.declared.call.Call.{Call}
use Rattle.trace_book.specs.declared.record.Record.{Record}
use Rattle.trace_book.specs.declared.record.Record.TheVariants as says
use Rattle.wire_messages.specs.declared.body.Body.{Body}
use Rattle.wire_messages.specs.declared.body.Body.TheVariants as body
use Rattle.role_steps.specs.Views.{Frame, Store, SiteView, Told, Shown, Promises}
use Rattle.role_steps.specs.Reports.{sync_repeats}
use Rattle.role_steps.specs.Pulling.{pull_repeats}
use Rattle.role_steps.specs.Using.{on_call}
use Rattle.role_steps.specs.Epochs.{frame_in, leaves_of, joins}
use Rattle.role_steps.specs.Adoption.{adopts_pull, without_pull}
use Rattle.role_steps.specs.declared.rounds.InEpoch.{InEpoch}
use Rattle.role_steps.specs.declared.synchronizing.SyncTable.{SyncTable}
use Rattle.role_steps.proofs.Sending.{every_flat_map}
use Rattle.the_run.specs.Steps.{takes_inside, epoch_id}
use Rattle.run_laws.specs.FactWalks.Facts.{IsOfForming, IsOutsideRecord, IsOutside}
use Rattle.run_laws.specs.FactWalks.Keeping.{Alike, IsFrameAt, Repeats, FactsKeep, of_users}
use Rattle.run_laws.proofs.Walks.Premises.{every_unit}
use Rattle.site_laws.specs.Locks.Going.{RecordGoesOn, InstanceGoesOn}
use Rattle.site_laws.specs.Locks.Facts.{BodyFact, Factless, UsersFact, ViewFact, locks}
use Rattle.site_laws.proofs.Locks.Facts.{factless, growing, fine_in, OfSite, SiteFine}
use Rattle.site_laws.proofs.Locks.SyncFacts.{sync_repeats_aloof}
use Rattle.site_laws.proofs.Locks.StoreFacts.{store_repeats_fact}
use Rattle.site_laws.proofs.Locks.UserFacts.{UsersKeep, users_repeats_fact, on_call_keep}
use Rattle.site_laws.proofs.Locks.SiteFacts.{view_alike, inside_of, users_in, users_part, inside_fact, pull_repeats_aloof}
use Rattle.site_laws.proofs.Locks.FormingFacts.{adopts_pull_fact, leaves_fact, all_reports_aloof, joins_fact}
pub use Rattle.run_laws.proofs.FactWalks.Pulls.{Silent, SiteSilent, notify_silent, delta_silent, page_silent, framed_notify}

forming_fact : (past : List Told) (from to : ℕ) (e : EpochId) (b : Body) → IsOfForming b → BodyFact past from to e b
forming_fact past from to e body.Poll h = tt
forming_fact past from to e (body.Promise reach) h = tt
forming_fact past from to e (body.Refuse promised) h = tt
forming_fact past from to e (body.Install members) h = tt
forming_fact past from to e body.Joined h = tt
forming_fact past from to e _ h = absurd h

outside_record : (past : List Told) (r : Record) → IsOutsideRecord r → RecordGoesOn past r
outside_record past (says.Grant e call request inst m file stamp ss) h = absurd h
outside_record past (says.Act e inst n o result) h = absurd h
outside_record past (says.Commit file s stamp parents content) h = absurd h
outside_record past (says.Release e inst file made) h = absurd h
outside_record past _ h = tt

outside_told : (past : List Told) (x : Told) → IsOutside x → InstanceGoesOn past x
outside_told past (Shown r) h = outside_record past r h
outside_told past (Promises site id reach) h = tt
outside_told past _ h = absurd h

alike_fact : (me : ℕ) (past : List Told) (v w : SiteView) → Alike v w → ViewFact past me v → ViewFact past me w
alike_fact me past v w a h = view_alike past me v w a.users (ap (λ (s : Store). s.instances) a.store) a.tables a.epoch h

call_fact : (me : ℕ) (past : List Told) (f : Frame) (now : Option EpochId) (process : ℕ) (words : Call) (v : SiteView) → IsFrameAt f me v → ViewFact past me v → SiteFine me past (of_users v (on_call f now process words v.users))
call_fact me past f now process words v q h =
    let k : UsersKeep past f (epoch_id v.epoch) (on_call f now process words v.users) = on_call_keep past f (epoch_id v.epoch) now process words v.users q.epoch (subst (λ (n : ℕ). UsersFact past n (epoch_id v.epoch) v.users) (sym q.site) h.users) in
    users_part past me v (on_call f now process words v.users) h (subst (λ (n : ℕ). UsersFact past n (epoch_id v.epoch) (on_call f now process words v.users).view) q.site k.view) k.sent k.told k.none

repeats_fact : (c : Config) (me : ℕ) (past : List Told) (e : InEpoch) (v : SiteView) → v.epoch ≡ Some e → ViewFact past me v → Repeats locks past (frame_in c me v.boot e) v
repeats_fact c me past e v here h =
    let f : Frame = frame_in c me v.boot e in record {
      reports = all_reports_aloof f past v;
      users = users_repeats_fact past f (Some e.id) v.users refl (users_in past me v e here h);
      stores = store_repeats_fact past f v.store (inside_of past me v e here h).0;
      pulls = factless past (pull_repeats f v.pulls) (pull_repeats_aloof f v.pulls);
      tables = factless past _ (every_flat_map Factless (sync_repeats f) v.tables (λ (t : SyncTable). sync_repeats_aloof f t));
    }

pub locks_keep : (c : Config) (me : ℕ) → FactsKeep locks c me
locks_keep c me = record {
  grows = growing;
  forming = forming_fact;
  outside = outside_told;
  alike = alike_fact me;
  inside = λ past from e v x here agree k h. fine_in (OfSite me) past (takes_inside (frame_in c me v.boot e) from x v) (inside_fact c me v.boot past from v e x here k h);
  calls = λ past f now process words v q h. fine_in (OfSite me) past (of_users v (on_call f now process words v.users)) (call_fact me past f now process words v q h);
  repeats = repeats_fact c me;
  pulls = λ past v h. every_unit v.pulls;
  without = λ past p v h. view_alike past me v (without_pull p v) refl refl refl refl h;
  adopts = λ past f p e v at here k h. fine_in (OfSite me) past (adopts_pull f p v) (adopts_pull_fact f past me p e v here h);
  leaves = λ past e v h. fine_in (OfSite me) past (leaves_of me (Some e) v) (leaves_fact me past e v h);
  joins = λ past id m v gone h. fine_in (OfSite me) past (joins c me id m v) (joins_fact c me past id m v gone h);
}
