-- A lawful trace, one line longer.
use Rattle.std.specs.Prelude.{◌≡◌, ℕ, ◌+◌, ◌≤◌, Bool, true, false, ◌&&◌, ◌||◌, nat_le, List, [], ◌∷◌, ◌++◌, length}
use Rattle.std.proofs.Common.{arith, ap, ◌∙◌}
use Rattle.std.proofs.lemmas.Bool.{leb-true, le-leb, and_parts, and_from}
use Rattle.std.proofs.lemmas.List.{length-append}
use Rattle.locus_ids.specs.declared.config.Config.{Config}
use Rattle.trace_book.specs.declared.call.Call.{Call}
use Rattle.trace_book.specs.declared.call.Call.TheVariants as call
use Rattle.trace_book.specs.declared.record.Record.{Record}
use Rattle.trace_book.specs.declared.record.Record.TheVariants.{Up, Stopped, Leave, Join, Start, Accept, Look, Grant, Refuse, Act, Commit, Release, Adopt, Answer, Packet, Void, Budget}
use Rattle.trace_book.specs.declared.record.StopCause.{StopCause}
use Rattle.trace_book.specs.declared.record.StopCause.TheVariants as cause
use Rattle.disk_calls.specs.of_schedule_lines.declared.line.ScheduleLine.{ScheduleLine}
use Rattle.tree_model.specs.Folds.{Trace, last_line}
use Rattle.tree_model.specs.Epochs.{is_up}
use Rattle.lawful_trace.specs.Places.{line_at}
use Rattle.lawful_trace.specs.SiteRows.{StopLine, IsCutAsked, boots, makes_leave, was_polled}
use Rattle.lawful_trace.specs.CallRows.{CallLine}
use Rattle.lawful_trace.specs.LineRows.{may_be_void, settles, lists_packets}
use Rattle.lawful_trace.specs.Disks.{is_armed_as}
use Rattle.lawful_trace.specs.Lawful.{IsAsked, EachComes}
use Rattle.lawful_trace.proofs.Extends.{line_kept, polled_kept, void_kept, asked_for_kept, armed_kept, cut_kept, comes_after, comes_within}

call_line_kept : (lines more : List ScheduleLine) (n site process : ℕ) (words : Call) → n ≤ length lines → CallLine lines n site process words → CallLine (lines ++ more) n site process words
call_line_kept lines more n site process (call.Mend file) h asked = tt
call_line_kept lines more n site process (call.Create path sites) h asked = record { asked = line_kept lines more n h ∙ asked.asked }
call_line_kept lines more n site process (call.MakeDir path) h asked = record { asked = line_kept lines more n h ∙ asked.asked }
call_line_kept lines more n site process (call.Unlink path) h asked = record { asked = line_kept lines more n h ∙ asked.asked }
call_line_kept lines more n site process (call.RemoveDir path) h asked = record { asked = line_kept lines more n h ∙ asked.asked }
call_line_kept lines more n site process (call.Rename path name) h asked = record { asked = line_kept lines more n h ∙ asked.asked }
call_line_kept lines more n site process (call.List path) h asked = record { asked = line_kept lines more n h ∙ asked.asked }
call_line_kept lines more n site process (call.Stat path) h asked = record { asked = line_kept lines more n h ∙ asked.asked }
call_line_kept lines more n site process (call.Mail path bytes) h asked = record { asked = line_kept lines more n h ∙ asked.asked }
call_line_kept lines more n site process (call.Mails path) h asked = record { asked = line_kept lines more n h ∙ asked.asked }
call_line_kept lines more n site process (call.Open path mode) h asked = record { asked = line_kept lines more n h ∙ asked.asked }
call_line_kept lines more n site process (call.Read fd at len) h asked = record { asked = line_kept lines more n h ∙ asked.asked }
call_line_kept lines more n site process (call.Write fd at bytes) h asked = record { asked = line_kept lines more n h ∙ asked.asked }
call_line_kept lines more n site process (call.Cut fd len) h asked = record { asked = line_kept lines more n h ∙ asked.asked }
call_line_kept lines more n site process (call.Commit fd) h asked = record { asked = line_kept lines more n h ∙ asked.asked }
call_line_kept lines more n site process (call.Abort fd) h asked = record { asked = line_kept lines more n h ∙ asked.asked }
call_line_kept lines more n site process (call.Close fd) h asked = record { asked = line_kept lines more n h ∙ asked.asked }

cut_asked_kept : (c : Config) (lines more : List ScheduleLine) (before : Trace) (n site : ℕ) (fault : Bool) → EachComes c lines before → last_line before ≤ n → n ≤ length lines
    → IsCutAsked c lines n before site fault → IsCutAsked c (lines ++ more) n before site fault
cut_asked_kept c lines more before n site fault each order h asked = record {
  working = ap (λ l. is_up c before site || boots l site) (line_kept lines more n h) ∙ asked.working;
  armed = ap (λ a. is_armed_as fault a) (armed_kept c lines more before n site each order h) ∙ asked.armed;
  counted = cut_kept c lines more before n site each order h ∙ asked.counted;
}

stop_line_kept : (c : Config) (lines more : List ScheduleLine) (before : Trace) (n site : ℕ) (why : StopCause) → EachComes c lines before → last_line before ≤ n → n ≤ length lines
    → StopLine c lines n before site why → StopLine c (lines ++ more) n before site why
stop_line_kept c lines more before n site cause.Asked each order h asked = record { asked = line_kept lines more n h ∙ asked.asked }
stop_line_kept c lines more before n site cause.Fuse each order h asked = cut_asked_kept c lines more before n site false each order h asked
stop_line_kept c lines more before n site cause.Fault each order h asked = cut_asked_kept c lines more before n site true each order h asked

asked_kept : (c : Config) (lines more : List ScheduleLine) (before : Trace) (n : ℕ) (r : Record) → EachComes c lines before → last_line before ≤ n → n ≤ length lines
    → IsAsked c lines n before r → IsAsked c (lines ++ more) n before r
asked_kept c lines more before n (Up site boot) each order h asked = record { asked = line_kept lines more n h ∙ asked.asked }
asked_kept c lines more before n (Stopped site why) each order h asked = stop_line_kept c lines more before n site why each order h asked
asked_kept c lines more before n (Leave site e) each order h asked = record {
  cause = ap (λ l. makes_leave l site || was_polled (lines ++ more) before n site) (line_kept lines more n h)
      ∙ (ap (λ b. makes_leave (line_at lines n) site || b) (polled_kept lines more before n site h) ∙ asked.cause);
}
asked_kept c lines more before n (Join site e members) each order h asked = record { asked = asked_for_kept lines more before n e h ∙ asked.asked }
asked_kept c lines more before n (Accept site process d words) each order h asked = call_line_kept lines more n site process words h asked
asked_kept c lines more before n (Packet number from to kind) each order h asked = record { listed = ap lists_packets (line_kept lines more n h) ∙ asked.listed }
asked_kept c lines more before n Void each order h asked = record { silent = ap may_be_void (void_kept lines more before n h) ∙ asked.silent }
asked_kept c lines more before n Budget each order h asked = record { round = ap settles (line_kept lines more n h) ∙ asked.round }
asked_kept c lines more before n (Start e group copies) each order h asked = tt
asked_kept c lines more before n (Look e d request f w result) each order h asked = tt
asked_kept c lines more before n (Grant e d request i m f stamp ss) each order h asked = tt
asked_kept c lines more before n (Refuse e d request i m f why) each order h asked = tt
asked_kept c lines more before n (Act e i k o result) each order h asked = tt
asked_kept c lines more before n (Commit f site stamp parents content) each order h asked = tt
asked_kept c lines more before n (Release e i f stamp) each order h asked = tt
asked_kept c lines more before n (Adopt f site stamp) each order h asked = tt
asked_kept c lines more before n (Answer site process d r) each order h asked = tt

placed_kept : (lines more : List ScheduleLine) (n : ℕ) → nat_le 1 n && nat_le n (length lines) ≡ true → nat_le 1 n && nat_le n (length (lines ++ more)) ≡ true
placed_kept lines more n h =
    let parts = and_parts (nat_le 1 n) (nat_le n (length lines)) h in
    let within : n ≤ length lines = leb-true n (length lines) parts.1 in
    let long : length (lines ++ more) ≡ length lines + length more = length-append lines more in
    and_from (nat_le 1 n) (nat_le n (length (lines ++ more))) parts.0 (le-leb n (length (lines ++ more)) (omega arith))

-- records that come as they may for some lines still do when more lines follow
pub each_kept : (c : Config) (lines more : List ScheduleLine) (trace : Trace) → EachComes c lines trace → EachComes c (lines ++ more) trace
each_kept c lines more [] each = tt
each_kept c lines more (r ∷ before) each = (
  record {
    consistent = each.0.consistent;
    placed = placed_kept lines more r.line each.0.placed;
    asked = asked_kept c lines more before r.line r.what each.1 (comes_after each.0) (comes_within each.0) each.0.asked;
  },
  each_kept c lines more before each.1,
)
