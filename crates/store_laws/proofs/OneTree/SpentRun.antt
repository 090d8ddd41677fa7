-- In no run a mend is refused for want of a number.
use Rattle.std.proofs.Common.{ℕ, List, [], ◌∷◌}
use Rattle.locus_ids.specs.declared.config.Config.{Config}
use Rattle.schedule_lines.specs.declared.line.ScheduleLine.{ScheduleLine}
use Rattle.trace_book.specs.declared.record.Record.{Record}
use Rattle.trace_book.specs.declared.record.Record.TheVariants as says
use Rattle.wire_messages.specs.declared.body.Body.{Body}
use Rattle.wire_messages.specs.declared.body.Body.TheVariants as body
use Rattle.role_steps.specs.Views.{Frame, SiteView, Told, Shown}
use Rattle.role_steps.specs.Epochs.{frame_in}
use Rattle.role_steps.specs.Storage.{instance_of}
use Rattle.role_steps.specs.Mends.{mending}
use Rattle.the_run.specs.Steps.{from_user, group_of}
use Rattle.the_run.specs.Worlds.{World}
use Rattle.the_run.specs.Runs.{run_in}
use Rattle.the_run.proofs.Runs.{every_run}
use Rattle.row_laws.specs.of_run_laws.Naming.{Good}
use Rattle.row_laws.proofs.of_run_laws.Run.{first_good, good_kept}
use Rattle.site_laws.specs.Vectors.Written.{past_of}
use Rattle.row_laws.proofs.of_site_laws.Locks.JoinsRun.{run_joins_once}
use Rattle.site_laws.proofs.Makes.RunningSpine.{Free, FreeRecord}
use Rattle.site_laws.proofs.Makes.RunningSpineParts.{takes_store}
use Rattle.site_laws.proofs.Makes.RunningSpineRun.{EachOwed, Premise, SentFacts, SentOwed, Spines, Stores, Where, first_where, where_kept}
use Rattle.store_laws.specs.OneTree.SpentMends.{AllMended, MendedRecord, MendedTold}
use Rattle.store_laws.proofs.OneTree.SpentStores.{Mended, NoneSpent, on_close_out, on_closed_ok_out, on_op_out, on_open_ss_out, quiet_out, on_read_held_out}

-- ---- the facts, and what is owed ----

abbrev NoFacts : SentFacts
NoFacts sent past me e is = Unit {0}

abbrev NoneOwed : SentOwed
NoneOwed sent past x = MendedTold x

abbrev NoPremise : Premise
NoPremise sent past = Unit {0}

free_record : (r : Record) → FreeRecord r → MendedRecord r
free_record (says.Act e inst n o result) h = absurd h
free_record _ h = tt

free_told : (past : List Told) (x : Told) → Free x → MendedTold x
free_told past (Shown r) h = free_record r h
free_told past _ h = tt

mend_spines : Spines NoPremise NoFacts NoneOwed
mend_spines = record {
  at = λ sent. record { later = λ past me e is x other h. tt; fresh = λ past me e none. tt; free = free_told };
  more = λ old new leads past me e is h. tt;
  owed_more = λ old new leads past x h. h;
  earlier = λ old new leads told past p. tt;
}

-- ---- a packet ----

body_out : (past : List Told) (f : Frame) (from : ℕ) (v : SiteView) (x : Body) → Mended past f (takes_store f from x v)
body_out past f from v (body.OpenSs inst file m set kind base vector parents) = on_open_ss_out past f (record { inst = inst; file = file; mode = m; set = set; kind = kind; base = base; vector = vector; parents = parents }) v.store
body_out past f from v (body.Op serial n o seen) = on_op_out past f (mending v (group_of (instance_of v.store (from_user from serial)))) (from_user from serial) n o seen v.store
body_out past f from v (body.ReadHeld serial n at len) = on_read_held_out past f (from_user from serial) n at len v.store
body_out past f from v (body.Close serial) = on_close_out past f (from_user from serial) v.store
body_out past f from v (body.ClosedOk inst) = on_closed_ok_out past f inst v.store
body_out past f from v _ = quiet_out past f v.store

mends_keep : (c : Config) → Stores c Good NoPremise NoFacts NoneOwed
mends_keep c x v w here sent g b holds e in_it framed =
    let k : Mended (past_of w.trace) (frame_in c x.packet.to v.boot e) (takes_store (frame_in c x.packet.to v.boot e) x.packet.from x.packet.body v) = body_out (past_of w.trace) (frame_in c x.packet.to v.boot e) x.packet.from v x.packet.body in
    record { view = tt; owed = k.owed; here = k.here; disk = k.disk }

-- ---- every run ----

abbrev Mending : World → Type 0
Mending w = Good w × Where NoPremise NoFacts NoneOwed w

run_mending : (c : Config) (lines : List ScheduleLine) → Mending (run_in c lines)
run_mending c lines = every_run c Mending (where_kept c Good NoPremise NoFacts NoneOwed (λ w g. g) (good_kept c) mend_spines (mends_keep c)) (first_good c, first_where c NoPremise NoFacts NoneOwed) lines

all_mended : (past : List Told) → EachOwed NoneSpent past → AllMended past
all_mended [] h = tt
all_mended (x ∷ older) h = (h.0, all_mended older h.1)

pub run_mended : (c : Config) (lines : List ScheduleLine) → AllMended (past_of (run_in c lines).trace)
run_mended c lines = all_mended (past_of (run_in c lines).trace) ((run_mending c lines).1 (run_joins_once c lines, tt)).owed
