-- What each event of a site keeps, writes, tells and sends of versions is as it was told.
use Rattle.std.proofs.Common.{◌≡◌, ℕ, List, ◌∷◌, Some, ap}
use Rattle.locus_ids.specs.declared.ids.EpochId.{EpochId}
use Rattle.locus_ids.specs.declared.sites.Links.{Links}
use Rattle.locus_ids.specs.declared.config.Config.{Config}
use Rattle.trace_book.specs.declared.record.Record.{Record}
use Rattle.trace_book.specs.declared.record.Record.TheVariants as says
use Rattle.run_laws.specs.of_wire_messages.declared.body.Body.{Body}
use Rattle.run_laws.specs.of_wire_messages.declared.body.Body.TheVariants as body
use Rattle.run_laws.specs.of_role_steps.Views.{Frame, Store, SiteView, Told, Shown, Event, Receives}
use Rattle.run_laws.specs.of_role_steps.Reports.{sync_repeats}
use Rattle.run_laws.specs.of_role_steps.Pulling.{pull_repeats}
use Rattle.run_laws.specs.of_role_steps.Requests.{users_repeats}
use Rattle.run_laws.specs.of_role_steps.Using.{on_call}
use Rattle.run_laws.specs.of_role_steps.Epochs.{frame_in, leaves_of, joins}
use Rattle.run_laws.specs.of_role_steps.Adoption.{adopts_pull}
use Rattle.run_laws.specs.of_role_steps.declared.rounds.InEpoch.{InEpoch}
use Rattle.run_laws.specs.of_the_run.Steps.{takes_inside, step}
use Rattle.run_laws.specs.Naming.{Deeds, ViewOk}
use Rattle.run_laws.proofs.Steps.{EventNames}
use Rattle.run_laws.proofs.Telling.{on_call_talks}
use Rattle.run_laws.specs.FactWalks.Facts.{IsOfForming, IsOutsideRecord, IsOutside, EventIn}
use Rattle.run_laws.specs.FactWalks.Keeping.{Alike, Repeats, FactsKeep, of_users}
use Rattle.run_laws.proofs.FactWalks.Steps.{step_fine}
use Rattle.site_laws.specs.Vectors.Written.{InstancesAgree, NumberedRecord, NumberedTold}
use Rattle.site_laws.specs.Vectors.Facts.{BodyFact, PacketFact, TableFact, ViewFact, versions}
use Rattle.site_laws.proofs.Vectors.Facts.{growing, factless, fine_in, fine_of}
use Rattle.site_laws.proofs.Vectors.SyncFacts.{every_flat, sync_repeats_fact}
use Rattle.site_laws.proofs.Vectors.StoreFacts.{store_repeats_fact}
use Rattle.site_laws.proofs.Vectors.RolesSend.{users_repeats_factless, pull_repeats_factless, on_call_factless}
use Rattle.site_laws.proofs.Vectors.SiteFacts.{SiteFine, view_alike, users_part, inside_of, inside_fact}
use Rattle.site_laws.proofs.Vectors.FormingFacts.{adopts_pull_fact, without_fact, leaves_fact, all_reports_fact, joins_fact}

-- ---- what the law gives ----

forming_fact : (past : List Told) (from to : ℕ) (e : EpochId) (b : Body) → IsOfForming b → BodyFact past e b
forming_fact past from to e body.Poll h = tt
forming_fact past from to e (body.Promise reach) h = tt
forming_fact past from to e (body.Refuse promised) h = tt
forming_fact past from to e (body.Install members) h = tt
forming_fact past from to e body.Joined h = tt
forming_fact past from to e _ h = absurd h

outside_record : (past : List Told) (r : Record) → IsOutsideRecord r → NumberedRecord past r
outside_record past (says.Commit file s stamp parents content) h = absurd h
outside_record past _ h = tt

outside_told : (past : List Told) (x : Told) → IsOutside x → NumberedTold past x
outside_told past (Shown r) h = outside_record past r h
outside_told past _ h = tt

alike_fact : (past : List Told) (v w : SiteView) → Alike v w → ViewFact past v → ViewFact past w
alike_fact past v w a h = view_alike past v w (ap (λ (s : Store). s.copies) a.store) (ap (λ (s : Store). s.instances) a.store) a.pulls a.tables a.epoch h

repeats_fact : (c : Config) (me : ℕ) (past : List Told) (e : InEpoch) (v : SiteView) → v.epoch ≡ Some e → ViewFact past v → Repeats versions past (frame_in c me v.boot e) v
repeats_fact c me past e v here h =
    let f : Frame = frame_in c me v.boot e in record {
      reports = all_reports_fact past f v h.copies;
      users = factless past (users_repeats f v.users) (users_repeats_factless f v.users);
      stores = store_repeats_fact past f v.store (inside_of past v e here h).0;
      pulls = factless past (pull_repeats f v.pulls) (pull_repeats_factless f v.pulls);
      tables = every_flat (TableFact past e.id) (PacketFact past) (sync_repeats f) v.tables (λ t k. sync_repeats_fact past f e.id t k) (inside_of past v e here h).1;
    }

pub versions_keep : (c : Config) (me : ℕ) → FactsKeep versions c me
versions_keep c me = record {
  grows = growing;
  forming = forming_fact;
  outside = outside_told;
  alike = alike_fact;
  inside = λ past from e v x here agree k h. fine_in ViewFact past (takes_inside (frame_in c me v.boot e) from x v) (inside_fact c me v.boot past from v e x here agree k h);
  calls = λ past f now process words v q h. fine_in ViewFact past (of_users v (on_call f now process words v.users)) (users_part past v (on_call f now process words v.users) h (on_call_talks f now process words v.users) (on_call_factless f now process words v.users));
  repeats = repeats_fact c me;
  pulls = λ past v h. h.pulls;
  without = without_fact;
  adopts = λ past f p e v at here k h. fine_in ViewFact past (adopts_pull f p v) (adopts_pull_fact f past p e v at here k h);
  leaves = λ past e v h. fine_in ViewFact past (leaves_of me (Some e) v) (leaves_fact me past e v h);
  joins = λ past id m v gone h. fine_in ViewFact past (joins c me id m v) (joins_fact c me past id m v gone h);
}

-- ---- the step ----

-- what the packet of an event carries
abbrev pub EventFact : List Told → Event → Type 0
EventFact past (Receives p) = PacketFact past p
EventFact past _ = Unit {0}

event_in : (past : List Told) (me : ℕ) (e : Event) → EventFact past e → EventIn versions past me e
event_in past me (Receives p) h = h
event_in past me _ h = tt

pub step_fact : (K J : Deeds) (c : Config) (me : ℕ) (past : List Told) (links : Links) (v : SiteView) (e : Event) → InstancesAgree past → EventFact past e → EventNames J e → ViewOk K v → ViewFact past v → SiteFine past (step c me links v e)
step_fact K J c me past links v e agree k n ok h = fine_of ViewFact past (step c me links v e) (step_fine versions c me (versions_keep c me) K J past links v e agree (event_in past me e k) n ok h)
