-- The end of a calm round: nothing is under way between members any more, so no group waits for a report, and no call waits.
use Rattle.std.proofs.Common.{◌≡◌, ℕ, ◌⊎◌, true, false, ◌&&◌, List, Option, Some, sym, ◌∙◌, ap, inl, inr}
use Rattle.role_steps.proofs.of_plain_facts.Options.{some_same}
use Rattle.role_steps.proofs.of_plain_facts.Tests.{both_true, true_false}
use Rattle.locus_ids.specs.Sites.{has}
use Rattle.locus_ids.specs.declared.config.Config.{Config}
use Rattle.locus_ids.specs.declared.ids.FileId.{FileId}
use Rattle.trace_book.specs.declared.operation.Op.{Op}
use Rattle.trace_book.specs.declared.operation.What.{What}
use Rattle.wire_messages.specs.declared.body.Body.{Body}
use Rattle.wire_messages.specs.declared.body.Body.TheVariants as body
use Rattle.wire_messages.specs.declared.body.Opening.{Opening}
use Rattle.wire_messages.specs.declared.packet.Packet.{Packet}
use Rattle.role_steps.specs.Adoption.{table_group}
use Rattle.role_steps.specs.Epochs.{frame_in}
use Rattle.role_steps.specs.Reports.{have_all_reported}
use Rattle.role_steps.specs.Requests.{operation_body}
use Rattle.role_steps.specs.Tables.{row}
use Rattle.role_steps.specs.Views.{SiteView, all_sites, is_member, pack_sites, sync_site}
use Rattle.role_steps.specs.declared.rounds.InEpoch.{InEpoch}
use Rattle.role_steps.specs.declared.synchronizing.SyncTable.{SyncTable}
use Rattle.role_steps.specs.declared.users.Asking.{Asking}
use Rattle.role_steps.specs.declared.users.Asking.TheVariants as asking
use Rattle.role_steps.specs.declared.users.WaitingCall.{WaitingCall}
use Rattle.the_run.specs.Kept.{Among}
use Rattle.the_run.specs.Worlds.{Numbered, place_at}
use Rattle.run_laws.specs.Epochs.Known.{Places}
use Rattle.row_laws.specs.Orderly.Calm.{IsInside}
use Rattle.row_laws.proofs.Orderly.Places.{view_eq}
use Rattle.calm_laws.specs.Carrying.{IsMember, Goes, Holds, look_body, open_body, opening_body, own_serial, CarriesLook, CarriesOpen, CarriesOp, CarriesClose, Carries, IsHeld, IsUnderWay, HasReported, Reports}
use Rattle.calm_laws.specs.Calming.{StartsInTime, NobodyWaitsAtTheEnd}
use Rattle.calm_laws.proofs.Lists.{no_element, all_pass, every_among, row_key}
use Rattle.calm_laws.proofs.Members.{member_of, sync_is, nothing_goes}

-- ---- whatever carries goes from a member to a member ----

-- between these
pub record Way (c : Config) (e : InEpoch) (p : Packet) : Type 0 where
  pub from : ℕ
  pub to : ℕ
  pub body : Body
  pub goes : Goes c e from to body p

look_goes : (c : Config) (e : InEpoch) (s : ℕ) (x : WaitingCall) (file : FileId) (w : What) (take css : ℕ) (p : Packet) → CarriesLook c e s x file w take css p → Way c e p
look_goes c e s x file w take css p (inl g) = record { from = s; to = css; body = look_body x file w take; goes = g }
look_goes c e s x file w take css p (inr (inl k)) = record { from = k.css; to = k.holder; body = body.LookSs s x.call x.process x.request take file w k.stamp; goes = k.goes }
look_goes c e s x file w take css p (inr (inr k)) = record { from = k.from; to = s; body = body.LookDone x.call x.request take k.answer; goes = k.goes }

open_goes : (c : Config) (e : InEpoch) (at : Places) (s : ℕ) (x : WaitingCall) (serial : ℕ) (file : FileId) (how : Opening) (css : ℕ) (p : Packet) → CarriesOpen c e at s x serial file how css p → Way c e p
open_goes c e at s x serial file how css p (inl g) = record { from = s; to = css; body = open_body x serial file how; goes = g }
open_goes c e at s x serial file how css p (inr (inl k)) = by_way k.way
  where
    by_way : Goes c e css k.opened.ss (opening_body k.opened) p ⊎ ((a : _) × Goes c e k.opened.ss css (body.Opened (own_serial s serial) a) p) → Way c e p
    by_way (inl g) = record { from = css; to = k.opened.ss; body = opening_body k.opened; goes = g }
    by_way (inr g) = record { from = k.opened.ss; to = css; body = body.Opened (own_serial s serial) g.0; goes = g.1 }
open_goes c e at s x serial file how css p (inr (inr k)) = record { from = css; to = s; body = body.OpenDone serial k.answer; goes = k.goes }

op_goes : (c : Config) (e : InEpoch) (s serial ss n : ℕ) (copied : Option (List ℕ)) (o : Op) (seen : List ℕ) (p : Packet) → CarriesOp c e s serial ss n copied o seen p → Way c e p
op_goes c e s serial ss n copied o seen p (inl g) = record { from = s; to = ss; body = operation_body copied serial n o seen; goes = g }
op_goes c e s serial ss n copied o seen p (inr (inl k)) = record { from = ss; to = s; body = body.OpDone serial n k.result; goes = k.goes }
op_goes c e s serial ss n copied o seen p (inr (inr k)) = record { from = ss; to = s; body = body.AsHeld serial n k.many; goes = k.goes }

close_goes : (c : Config) (e : InEpoch) (at : Places) (s serial ss : ℕ) (p : Packet) → CarriesClose c e at s serial ss p → Way c e p
close_goes c e at s serial ss p (inl g) = record { from = s; to = ss; body = body.Close serial; goes = g }
close_goes c e at s serial ss p (inr (inl k)) = by_way k.way
  where
    by_way : ((made : _) × Goes c e ss k.css (body.Closed (own_serial s serial) made) p) ⊎ Goes c e k.css ss (body.ClosedOk (own_serial s serial)) p → Way c e p
    by_way (inl g) = record { from = ss; to = k.css; body = body.Closed (own_serial s serial) g.0; goes = g.1 }
    by_way (inr g) = record { from = k.css; to = ss; body = body.ClosedOk (own_serial s serial); goes = g }
close_goes c e at s serial ss p (inr (inr k)) = record { from = ss; to = s; body = body.CloseDone serial k.answer; goes = k.goes }

pub carrier_goes : (c : Config) (e : InEpoch) (at : Places) (s : ℕ) (x : WaitingCall) (a : Asking) (p : Packet) → Carries c e at s x a p → Way c e p
carrier_goes c e at s x (asking.Look file w take) p k = look_goes c e s x file w take k.0 p k.2
carrier_goes c e at s x (asking.Open serial file how) p k = open_goes c e at s x serial file how k.0 p k.2
carrier_goes c e at s x (asking.Op serial ss n o seen) p k = op_goes c e s serial ss n x.copied o seen p k
carrier_goes c e at s x (asking.Close serial ss) p k = close_goes c e at s serial ss p k

-- ---- what holds a request, and where ----

pub record HeldAt (c : Config) (e : InEpoch) (at : Places) (s process : ℕ) : Type 0 where
  pub group : ℕ
  pub css : ℕ
  pub sync : sync_site c e.members group ≡ Some css
  pub body : Body
  pub holds : Holds at css group s process body

pub held_at : (c : Config) (e : InEpoch) (at : Places) (s : ℕ) (x : WaitingCall) (a : Asking) → IsHeld c e at s x a → HeldAt c e at s x.process
held_at c e at s x (asking.Look file w take) k = record { group = file.group; css = k.0; sync = k.1; body = look_body x file w take; holds = k.2 }
held_at c e at s x (asking.Open serial file how) k = record { group = file.group; css = k.0; sync = k.1; body = open_body x serial file how; holds = k.2 }
held_at c e at s x _ k = absurd k

-- ---- the end ----

pub nobody_waits : (c : Config) → NobodyWaitsAtTheEnd c
nobody_waits c e w together reach within nothing starts carried s v m here = no_element v.users.waiting (λ x a. by_carrying x (carried.calls s v x m here a))
  where
    none_under : (p : Numbered) → Among p w.underway → Way c e p.packet → ⊥
    none_under p there k = nothing_goes c e w k.from k.to k.body p together reach within nothing there k.goes

    -- each member with a pack of the group has reported at its synchronization site
    reported : (group css t : ℕ) → sync_site c e.members group ≡ Some css → IsMember e t → has (pack_sites c group) t ≡ true → HasReported (place_at w) css group t
    reported group css t sync n packed = by_case (carried.reports group css t sync n packed)
      where
        by_case : HasReported (place_at w) css group t ⊎ Reports c e w.underway css group t → HasReported (place_at w) css group t
        by_case (inl k) = k
        by_case (inr k) = absurd (none_under k.letter k.there (record { from = t; to = css; body = body.Report group k.copies; goes = k.goes }))

    -- so the group has started
    started : (group css process : ℕ) (b : Body) → sync_site c e.members group ≡ Some css → Holds (place_at w) css group s process b → ⊥
    started group css process b sync h = true_false (sym all ∙ lacks)
      where
        inside : IsInside w e css
        inside = together.inside css (sync_is c e group css sync).1

        is_view : inside.view ≡ h.view
        is_view = view_eq (place_at w css) inside.view h.view inside.here h.here

        table : Among h.table h.view.tables × (h.table.group ≡ group)
        table = row_key table_group group h.view.tables h.table h.found

        lacks : have_all_reported (frame_in c css h.view.boot e) h.table ≡ false
        lacks = every_among (StartsInTime (frame_in c css h.view.boot e)) h.table h.view.tables table.0 (starts css h.view e h.here (ap (λ (y : SiteView). y.epoch) (sym is_view) ∙ inside.epoch)) h.unstarted

        same : (k : SiteView) (t : SyncTable) → h.view ≡ k → row table_group group k.tables ≡ Some t → h.table ≡ t
        same k t eq found = some_same h.table t (sym h.found ∙ (ap (λ (y : SiteView). row table_group group y.tables) eq ∙ found))

        has_it : (t : ℕ) → HasReported (place_at w) css group t → has h.table.reported t ≡ true
        has_it t k = ap (λ (y : SyncTable). has y.reported t) (same k.view k.table (view_eq (place_at w css) h.view k.view h.here k.here) k.found) ∙ k.reported

        each : (t : ℕ) → (has (pack_sites c h.table.group) t && is_member e.members t) ≡ true → has h.table.reported t ≡ true
        each t k =
            let both : (has (pack_sites c h.table.group) t ≡ true) × (is_member e.members t ≡ true) = both_true (has (pack_sites c h.table.group) t) (is_member e.members t) k in
            has_it t (reported group css t sync (member_of e t both.1) (ap (λ (g : ℕ). has (pack_sites c g) t) (sym table.1) ∙ both.0))

        all : have_all_reported (frame_in c css h.view.boot e) h.table ≡ true
        all = all_pass (has h.table.reported) (λ t. has (pack_sites c h.table.group) t && is_member e.members t) all_sites each

    by_carrying : (x : WaitingCall) → IsUnderWay c e (place_at w) w.underway s x ⊎ IsHeld c e (place_at w) s x x.asking → ⊥
    by_carrying x (inl k) = none_under k.letter k.there (carrier_goes c e (place_at w) s x x.asking k.letter.packet k.carries)
    by_carrying x (inr k) = (let h : HeldAt c e (place_at w) s x.process = held_at c e (place_at w) s x x.asking k in started h.group h.css x.process h.body h.sync h.holds)
