-- A run that meets the rest is lawful.
use Rattle.std.proofs.Common.{◌≡◌, ◌≤◌, ◌<◌, ℕ, zero, suc, ◌+◌, Bool, true, false, List, [], ◌∷◌, length, None, refl, arith}
use Rattle.std.proofs.lemmas.Bool.{and_from}
use Rattle.std.specs.List.{list_all}
use Rattle.commit_graph.specs.Vectors.{numbers_from}
use Rattle.locus_ids.specs.declared.config.Config.{Config}
use Rattle.trace_book.specs.declared.entry.Entry.{Entry}
use Rattle.trace_book.specs.declared.record.Record.{Record}
use Rattle.trace_book.specs.declared.record.Record.TheVariants as says
use Rattle.trace_book.specs.declared.record.StopCause.{StopCause}
use Rattle.trace_book.specs.declared.record.StopCause.TheVariants as cause
use Rattle.schedule_lines.specs.declared.line.ScheduleLine.{ScheduleLine}
use Rattle.schedule_lines.specs.Cluster.{config_of}
use Rattle.lawful_trace.specs.of_tree_model.Folds.{Trace}
use Rattle.site_laws.specs.of_the_run.Runs.{run}
use Rattle.lawful_trace.specs.Places.{line_at}
use Rattle.lawful_trace.specs.LineRows.{is_told, are_told}
use Rattle.lawful_trace.specs.SiteRows.{StopLine}
use Rattle.lawful_trace.specs.Lawful.{MayCome, IsAsked, Comes, EachComes, IsLawful}
use Rattle.row_laws.specs.Shown.{trace_of, EachRecord}
use Rattle.row_laws.specs.Rows.{IsPlaced, StopAsked, AskedRecord, IsAskedFor, SiteRecordRow, IsSiteRow, MemberRecord, IsMemberRow, ArmedStop, ArmedRecord, IsArmedFor}
use Rattle.row_laws.specs.Rest.{IsCounted, RestRecord, IsRestRow, MeetsTheRest}
use Rattle.row_laws.proofs.AskedRun.{run_placed, run_asked, run_members}
use Rattle.row_laws.proofs.SitesGoOn.{run_sites}
use Rattle.row_laws.specs.Voids.{is_call, VoidRecord, IsVoidRow}
use Rattle.row_laws.specs.Tales.{ToldTo}
use Rattle.row_laws.proofs.Voids.{run_voids}
use Rattle.row_laws.proofs.TalesKept.{run_tales}
use Rattle.row_laws.proofs.Fitting.{schedule_fits, cuts_none}
use Rattle.row_laws.proofs.ArmsKept.{run_armed_for, run_keeps_calls}

stop_line : (c : Config) (lines : List ScheduleLine) (n : ℕ) (before : Trace) (site : ℕ) (why : StopCause) → StopAsked lines n before site why → ArmedStop c lines n before site why → IsCounted c lines n before site why → StopLine c lines n before site why
stop_line c lines n before site cause.Asked a k r = a
stop_line c lines n before site cause.Fuse a k r = record { working = a; armed = k; counted = r }
stop_line c lines n before site cause.Fault a k r = record { working = a; armed = k; counted = r }

record_comes : (c : Config) (lines : List ScheduleLine) (n : ℕ) (before : Trace) (r : Record) → SiteRecordRow c before r → MemberRecord before r → RestRecord c lines n before r → MayCome c before r
record_comes c lines n before (says.Up site boot) s m r = s
record_comes c lines n before (says.Stopped site why) s m r = s
record_comes c lines n before (says.Leave site epoch) s m r = s
record_comes c lines n before (says.Join site epoch members) s m r = record { up = s.up; outside = s.outside; new = s.new; later = s.later; same = s.same; member = m }
record_comes c lines n before (says.Packet number from to kind) s m r = tt
record_comes c lines n before says.Void s m r = tt
record_comes c lines n before says.Budget s m r = tt
record_comes c lines n before (says.Start e group copies) s m r = r
record_comes c lines n before (says.Accept site process call words) s m r = r
record_comes c lines n before (says.Look e call request f what result) s m r = r
record_comes c lines n before (says.Grant e call request inst mode f stamp ss) s m r = r
record_comes c lines n before (says.Refuse e call request inst mode f why) s m r = r
record_comes c lines n before (says.Act e inst k o result) s m r = r
record_comes c lines n before (says.Commit f site stamp parents content) s m r = r
record_comes c lines n before (says.Release e inst f stamp) s m r = r
record_comes c lines n before (says.Adopt f site stamp) s m r = r
record_comes c lines n before (says.Answer site process call reply) s m r = r

void_asked : {A : Type 0} (call : Bool) → (call ≡ false → A) → (call ≡ true → A) → A
void_asked true v r = r refl
void_asked false v r = v refl

record_is_asked : (c : Config) (lines : List ScheduleLine) (n : ℕ) (before : Trace) (r : Record) → AskedRecord lines n before r → ArmedRecord c lines n before r → VoidRecord lines n before r → RestRecord c lines n before r → IsAsked c lines n before r
record_is_asked c lines n before (says.Up site boot) a k v r = a
record_is_asked c lines n before (says.Stopped site why) a k v r = stop_line c lines n before site why a k r
record_is_asked c lines n before (says.Leave site epoch) a k v r = a
record_is_asked c lines n before (says.Join site epoch members) a k v r = a
record_is_asked c lines n before (says.Accept site process call words) a k v r = a
record_is_asked c lines n before (says.Packet number from to kind) a k v r = a
record_is_asked c lines n before says.Void a k v r = void_asked (is_call (line_at lines n)) v r
record_is_asked c lines n before says.Budget a k v r = a
record_is_asked c lines n before _ a k v r = tt

one_comes : (c : Config) (lines : List ScheduleLine) (before : Trace) (r : Entry) → IsPlaced lines before r → IsAskedFor lines before r → IsSiteRow c before r → IsMemberRow before r → IsArmedFor c lines before r → IsVoidRow lines before r → IsRestRow c lines before r → Comes c lines before r
one_comes c lines before r p a s m k v rest = record {
  consistent = record { ascending = p.ascending; row = record_comes c lines r.line before r.what s m rest };
  placed = p.placed;
  asked = record_is_asked c lines r.line before r.what a k v rest;
}

all_come : (c : Config) (lines : List ScheduleLine) (trace : Trace) → EachRecord (IsPlaced lines) trace → EachRecord (IsAskedFor lines) trace → EachRecord (IsSiteRow c) trace → EachRecord IsMemberRow trace → EachRecord (IsArmedFor c lines) trace → EachRecord (IsVoidRow lines) trace → EachRecord (IsRestRow c lines) trace → EachComes c lines trace
all_come c lines [] p a s m k v rest = tt
all_come c lines (r ∷ before) p a s m k v rest = (one_comes c lines before r p.0 a.0 s.0 m.0 k.0 v.0 rest.0, all_come c lines before p.1 a.1 s.1 m.1 k.1 v.1 rest.1)

-- ---- the lines ----

each_number : (p : ℕ → Bool) (first many : ℕ) → ((m : ℕ) → first ≤ m → m < first + many → p m ≡ true) → list_all p (numbers_from first many) ≡ true
each_number p first zero each = refl
each_number p first (suc many) each =
    and_from (p first) (list_all p (numbers_from (first + 1) many)) (each first (omega arith) (omega arith))
    (each_number p (first + 1) many (λ m low high. each m (omega (arith, low)) (omega (arith, high))))

all_told : (lines : List ScheduleLine) (trace : Trace) → ToldTo lines (length lines) trace → ((n : ℕ) → is_call (line_at lines n) ≡ true → is_told lines trace n ≡ true) → are_told lines trace ≡ true
all_told lines trace t calls = each_number (is_told lines trace) 1 (length lines) (λ m low high. void_asked (is_call (line_at lines m)) (t m low (omega (arith, high))) (calls m))

pub run_lawful : (lines : List ScheduleLine) → (run lines).over ≡ None → MeetsTheRest lines (trace_of (run lines)) → IsLawful lines (trace_of (run lines))
run_lawful lines none h = record {
  each = all_come (config_of lines) lines (trace_of (run lines)) (run_placed (config_of lines) lines) (run_asked (config_of lines) lines) (run_sites (config_of lines) lines) (run_members (config_of lines) lines (cuts_none (config_of lines) lines (schedule_fits lines h.order))) (run_armed_for (config_of lines) lines) (run_voids (config_of lines) lines (schedule_fits lines h.order)) h.each;
  told = all_told lines (trace_of (run lines)) (run_tales (config_of lines) lines (schedule_fits lines h.order) none) h.told;
  calls = run_keeps_calls (config_of lines) lines;
}
