-- In every run a commit of a root directory follows other versions.
use Rattle.std.proofs.Common.{◌≡◌, ℕ, List, [], ◌∷◌, Some, sym, subst, inl, inr}
use Rattle.locus_ids.specs.declared.ids.EpochId.{EpochId}
use Rattle.locus_ids.specs.declared.ids.FileId.{FileId}
use Rattle.locus_ids.specs.declared.config.Config.{Config}
use Rattle.schedule_lines.specs.declared.line.ScheduleLine.{ScheduleLine}
use Rattle.trace_book.specs.declared.record.Record.{Record}
use Rattle.trace_book.specs.declared.record.Record.TheVariants as says
use Rattle.wire_messages.specs.declared.body.Body.{Body}
use Rattle.wire_messages.specs.declared.body.Body.TheVariants as body
use Rattle.role_steps.specs.Own.{Every}
use Rattle.role_steps.specs.Views.{SiteView, Told, Shown, Reserves}
use Rattle.role_steps.specs.Epochs.{frame_in}
use Rattle.role_steps.specs.Storage.{instance_of}
use Rattle.role_steps.specs.Mends.{mending}
use Rattle.role_steps.specs.declared.rounds.InEpoch.{InEpoch}
use Rattle.the_run.specs.Kept.{WasSent}
use Rattle.the_run.specs.Steps.{from_user, group_of}
use Rattle.the_run.specs.Worlds.{World, Numbered}
use Rattle.the_run.specs.Runs.{run_in}
use Rattle.the_run.proofs.Runs.{every_run}
use Rattle.run_laws.proofs.Run.{found_among}
use Rattle.site_laws.specs.Vectors.Written.{past_of, InstancesAgree}
use Rattle.site_laws.proofs.Packs.InstanceAgree.{run_agrees}
use Rattle.site_laws.specs.Packs.Packed.{BodyPacked, NumberedPacked, WorldPacked}
use Rattle.site_laws.proofs.Packs.PacksRun.{All, all_kept, first_all}
use Rattle.site_laws.proofs.Locks.JoinsRun.{run_joins_once}
use Rattle.site_laws.proofs.Makes.RunningSpine.{FreeRecord, Free, InSite, in_epoch}
use Rattle.site_laws.proofs.Makes.RunningSpineParts.{takes_store}
use Rattle.site_laws.proofs.Makes.RunningSpineRun.{SentFacts, SentOwed, Premise, Spines, Stores, EachOwed, Where, where_kept, first_where}
use Rattle.site_laws.specs.Makes.Fresh.{FreshTold, NumbersAreFresh}
use Rattle.site_laws.specs.Makes.Holding.{ReservedAt, WasReserved}
use Rattle.site_laws.proofs.Makes.FreshRun.{run_fresh}
use Rattle.site_laws.specs.Vectors.Facts.{onto}
use Rattle.site_laws.proofs.Vectors.Facts.{onto_later, agree_before}
use Rattle.site_laws.specs.Kept.Roots.{RootRecord, RootTold, RootsFollow}
use Rattle.site_laws.proofs.Kept.Roots.{Rooted, RootedRecord, RootedTold, all_later, RootsOut, quiet_out, on_open_ss_out, on_op_out, on_close_out, on_closed_ok_out, on_read_held_out}

-- ---- the facts, and what is owed ----

abbrev RootFacts : SentFacts
RootFacts sent past me e is = Every (Rooted past me e.id) is

abbrev RootOwed : SentOwed
RootOwed sent past x = RootedTold past x

abbrev Agreeing : Premise
Agreeing sent past = InstancesAgree past

free_record : (past : List Told) (r : Record) → FreeRecord r → RootedRecord past r
free_record past (says.Commit file s stamp parents content) h = absurd h
free_record past _ h = tt

free_told : (past : List Told) (x : Told) → Free x → RootedTold past x
free_told past (Shown r) h = free_record past r h
free_told past _ h = tt

root_spines : Spines Agreeing RootFacts RootOwed
root_spines = record {
  at = λ sent. record { later = λ past me e is x other h. all_later x past me e.id is h; fresh = λ past me e none. tt; free = free_told };
  more = λ old new leads past me e is h. h;
  owed_more = λ old new leads past x h. h;
  earlier = λ old new leads told past p. agree_before past (onto told past) (onto_later told past) p;
}

-- ---- a packet ----

pack_of : (c : Config) (w : World) (x : Numbered) → WasSent w x → WorldPacked c w → NumberedPacked c x
pack_of c w x (inl a) f = found_among (NumberedPacked c) x w.sent f.packets a
pack_of c w x (inr a) f = found_among (NumberedPacked c) x w.underway f.underway a

body_out : (c : Config) (past : List Told) (from to boot : ℕ) (e : InEpoch) (v : SiteView) (x : Body) → BodyPacked c from to x → Every (Rooted past to e.id) v.store.instances → RootsOut past (frame_in c to boot e) (takes_store (frame_in c to boot e) from x v)
body_out c past from to boot e v (body.OpenSs inst file m set kind base vector parents) k h = on_open_ss_out past (frame_in c to boot e) (record { inst = inst; file = file; mode = m; set = set; kind = kind; base = base; vector = vector; parents = parents }) v.store k.1 h
body_out c past from to boot e v (body.Op serial n o seen) k h = on_op_out past (frame_in c to boot e) (mending v (group_of (instance_of v.store (from_user from serial)))) (from_user from serial) n o seen v.store h
body_out c past from to boot e v (body.ReadHeld serial n at len) k h = on_read_held_out past (frame_in c to boot e) (from_user from serial) n at len v.store h
body_out c past from to boot e v (body.Close serial) k h = on_close_out past (frame_in c to boot e) (from_user from serial) v.store h
body_out c past from to boot e v (body.ClosedOk inst) k h = on_closed_ok_out past (frame_in c to boot e) inst v.store h
body_out c past from to boot e v _ k h = quiet_out past (frame_in c to boot e) v.store h

roots_keep : (c : Config) → Stores c (All c) Agreeing RootFacts RootOwed
roots_keep c x v w here sent g b holds e in_it framed =
    let past : List Told = past_of w.trace in
    let site : InSite (RootFacts w.sent) past x.packet.to v (Some e) = in_epoch (RootFacts w.sent) past x.packet.to v e in_it (holds.views x.packet.to v here) in
    let k : RootsOut past (frame_in c x.packet.to v.boot e) (takes_store (frame_in c x.packet.to v.boot e) x.packet.from x.packet.body v) = body_out c past x.packet.from x.packet.to v.boot e v x.packet.body (pack_of c w x sent (g.1 b.1)) site.1 in
    record { view = k.view; owed = k.owed; here = k.here; disk = k.disk }

-- ---- every run ----

abbrev Rooting : Config → World → Type 0
Rooting c w = All c w × Where Agreeing RootFacts RootOwed w

run_rooting : (c : Config) (lines : List ScheduleLine) → Rooting c (run_in c lines)
run_rooting c lines = every_run c (Rooting c) (where_kept c (All c) Agreeing RootFacts RootOwed (λ w g. g.0.0) (all_kept c) root_spines (roots_keep c)) (first_all c, first_where c Agreeing RootFacts RootOwed) lines

-- a root's number is reserved for no instance
reserved_fresh : (file : FileId) (past : List Told) (s : ℕ) (e : EpochId) (key : ℕ) → file.ino ≡ 1 → NumbersAreFresh past → WasReserved past s e key file → ⊥
reserved_fresh file [] s e key root h k = k
reserved_fresh file (x ∷ older) s e key root h (inl k) = by_told x h.0 k
  where
    by_told : (y : Told) → FreshTold older y → ReservedAt s e key file y → ⊥
    by_told (Reserves t at inst of) g q = g.0 (subst (λ (f : FileId). f.ino ≡ 1) (sym q.3) root)
    by_told _ g q = q
reserved_fresh file (x ∷ older) s e key root h (inr k) = reserved_fresh file older s e key root h.1 k

record_follows : (older : List Told) (r : Record) → NumbersAreFresh older → RootedRecord older r → RootRecord r
record_follows older (says.Commit file s stamp parents content) fresh (inl h) = λ root. h
record_follows older (says.Commit file s stamp parents content) fresh (inr h) = λ root. absurd (reserved_fresh file older h.site h.epoch h.key root fresh h.reserved)
record_follows older _ fresh h = tt

told_follows : (older : List Told) (x : Told) → NumbersAreFresh older → RootedTold older x → RootTold x
told_follows older (Shown r) fresh h = record_follows older r fresh h
told_follows older _ fresh h = tt

roots_follow : (past : List Told) → NumbersAreFresh past → EachOwed RootedTold past → RootsFollow past
roots_follow [] fresh h = tt
roots_follow (x ∷ older) fresh h = (told_follows older x fresh.1 h.0, roots_follow older fresh.1 h.1)

pub run_roots : (c : Config) (lines : List ScheduleLine) → RootsFollow (past_of (run_in c lines).trace)
run_roots c lines = roots_follow (past_of (run_in c lines).trace) (run_fresh c lines) ((run_rooting c lines).1 (run_joins_once c lines, run_agrees c lines)).owed
