-- The text of the records told has a limit, and each record has some text.
use Rattle.std.proofs.Common.{◌≡◌, ◌≤◌, ℕ, ◌+◌, List, [], ◌∷◌, ◌++◌, length, Option, Some, None, refl, sym, subst, arith, codes}
use Rattle.std.proofs.lemmas.Bool.Decides.{nat_tests}
use Rattle.locus_ids.specs.declared.config.Config.{Config}
use Rattle.schedule_lines.specs.declared.line.ScheduleLine.{ScheduleLine}
use Rattle.trace_book.specs.declared.record.Record.{Record}
use Rattle.trace_book.specs.declared.record.Record.TheVariants as says
use Rattle.trace_book.specs.Text.{entry_text, record_text, number, gap}
use Rattle.wire_messages.specs.declared.packet.Packet.{Packet}
use Rattle.role_steps.specs.Tables.{total}
use Rattle.role_steps.specs.Views.{SiteView, Told, Shown, Outcome, Receives}
use Rattle.the_run.specs.Disks.{Booted, Whole, CutOff, boots}
use Rattle.the_run.specs.Steps.{step}
use Rattle.the_run.specs.Worlds.{World, Limit, Line, links_of, script_of, happened, happened_of, unless_over, limit_passed, told_onto, told_size, packet_size, puts, arms, passed, stops_with, acts}
use Rattle.the_run.specs.Runs.{boots_as, run_in}
use Rattle.the_run.specs.Kept.{Kept}
use Rattle.the_run.proofs.Events.{acts_keeps}
use Rattle.the_run.proofs.Runs.{every_run}
use Rattle.site_laws.specs.Vectors.Written.{past_of}
use Rattle.site_laws.specs.Packs.CounterNumbers.{calls_in, calls_recorded, calls_told, commits_recorded, commits_told, commits_in}

-- there are no more commits than bytes of text, and no more calls, and there is room for these
record HasRoom (w : World) : Type 0 where
  few : commits_in (past_of w.trace) ≤ w.text
  calls : calls_in (past_of w.trace) ≤ w.text
  room : w.text ≤ 134217728

behind : (xs ys : List ℕ) → length ys ≤ length (xs ++ ys)
behind [] ys = omega arith
behind (x ∷ xs) ys = omega (arith, behind xs ys)

some_text : (n : ℕ) (q : Record) → 1 ≤ length (entry_text n q)
some_text n q =
    let k : 1 ≤ length (entry_text n q) = behind (number n ++ gap ++ record_text q) (codes "\n") in
    omega (arith, k)

has_text : (n : ℕ) (x : Told) → commits_told x ≤ told_size n x
has_text n (Shown r) = by_record r
  where
    by_record : (q : Record) → commits_recorded q ≤ length (entry_text n q)
    by_record (says.Commit file s stamp parents content) = some_text n (says.Commit file s stamp parents content)
    by_record _ = omega arith
has_text n _ = omega arith

onto_text : (n : ℕ) (told : List Told) (trace : List Line) → commits_in (past_of (told_onto n told trace)) ≤ total (told_size n) told + commits_in (past_of trace)
onto_text n [] trace = omega arith
onto_text n (x ∷ xs) trace =
    let rest : commits_in (past_of (told_onto n xs (record { number = n; told = x } ∷ trace))) ≤ total (told_size n) xs + (commits_told x + commits_in (past_of trace)) = onto_text n xs (record { number = n; told = x } ∷ trace) in
    omega (arith, rest, has_text n x)

call_text : (n : ℕ) (x : Told) → calls_told x ≤ told_size n x
call_text n (Shown r) = by_record r
  where
    by_record : (q : Record) → calls_recorded q ≤ length (entry_text n q)
    by_record (says.Accept site process call words) = some_text n (says.Accept site process call words)
    by_record _ = omega arith
call_text n _ = omega arith

onto_calls : (n : ℕ) (told : List Told) (trace : List Line) → calls_in (past_of (told_onto n told trace)) ≤ total (told_size n) told + calls_in (past_of trace)
onto_calls n [] trace = omega arith
onto_calls n (x ∷ xs) trace =
    let rest : calls_in (past_of (told_onto n xs (record { number = n; told = x } ∷ trace))) ≤ total (told_size n) xs + (calls_told x + calls_in (past_of trace)) = onto_calls n xs (record { number = n; told = x } ∷ trace) in
    omega (arith, rest, call_text n x)

-- where no limit is passed the text has room
within : (packets bytes text : ℕ) → limit_passed packets bytes text ≡ None → text ≤ 134217728
within packets bytes text none = grind (arith, nat_tests)

happened_room : (n : ℕ) (ps : List Packet) (told : List Told) (change : World → World) (w : World) → HasRoom w → HasRoom (happened n ps told change w)
happened_room n ps told change w h = by_over w.over
  where
    bytes : ℕ
    bytes = w.bytes + total packet_size ps

    text : ℕ
    text = w.text + total (told_size n) told

    by_limit : (l : Option Limit) → (text ≤ 134217728 → l ≡ None → HasRoom (unless_over l n ps told change (w.packets + length ps) bytes text w))
    by_limit l room none = subst (λ (k : Option Limit). HasRoom (unless_over k n ps told change (w.packets + length ps) bytes text w)) (sym none)
        (record { few = omega (arith, onto_text n told w.trace, h.few); calls = omega (arith, onto_calls n told w.trace, h.calls); room = room })

    by_passed : (l : Option Limit) → limit_passed (w.packets + length ps) bytes text ≡ l → HasRoom (unless_over l n ps told change (w.packets + length ps) bytes text w)
    by_passed (Some l) is = record { few = h.few; calls = h.calls; room = h.room }
    by_passed None is = by_limit None (within (w.packets + length ps) bytes text is) refl

    by_over : (o : Option Limit) → HasRoom (happened_of o n ps told change w)
    by_over (Some l) = h
    by_over None = by_passed (limit_passed (w.packets + length ps) bytes text) refl

acts_room : (n s : ℕ) (v : SiteView) (o : Outcome SiteView) (w : World) → HasRoom w → HasRoom (acts n s v o w)
acts_room n s v o w h =
    acts_keeps HasRoom n s v o w
    (λ ps told p. happened_room n ps told (λ now. puts s p now) w h)
    (λ ps told p a. happened_room n ps told (λ now. puts s p (arms a now)) w h)
    (λ ps told d. happened_room n ps told (stops_with s d) w h)

boots_room : (n s : ℕ) (b : Booted) (w : World) → HasRoom w → HasRoom (boots_as n s b w)
boots_room n s (Whole d None) w h = happened_room n [] _ _ w h
boots_room n s (Whole d (Some a)) w h = happened_room n [] _ _ w h
boots_room n s (CutOff d how) w h = happened_room n [] _ _ w h

room_kept : (c : Config) → Kept c HasRoom
room_kept c = record {
  steps = λ n s e v w here own h. acts_room n s v (step c s (links_of w s) v e) w h;
  receives = λ n x v w here sent h. acts_room n x.packet.to v (step c x.packet.to (links_of (passed x.number w) x.packet.to) v (Receives x.packet)) (passed x.number w) (record { few = h.few; calls = h.calls; room = h.room });
  passes = λ k w h. record { few = h.few; calls = h.calls; room = h.room };
  drops = λ k w h. record { few = h.few; calls = h.calls; room = h.room };
  recuts = λ xs w h. record { few = h.few; calls = h.calls; room = h.room };
  arming = λ a w h. record { few = h.few; calls = h.calls; room = h.room };
  voiding = λ n w h. happened_room n [] _ _ w h;
  budgets = λ n w h. happened_room n [] _ _ w h;
  pending = λ n w h. happened_room n [] _ _ w h;
  stopping = λ n s v w here h. happened_room n [] _ _ w h;
  booting = λ n s d w here h. boots_room n s (boots (script_of w s) d) w h;
}

run_room : (c : Config) (lines : List ScheduleLine) → HasRoom (run_in c lines)
run_room c lines = every_run c HasRoom (room_kept c) (record { few = omega arith; calls = omega arith; room = omega arith }) lines

pub run_few : (c : Config) (lines : List ScheduleLine) → commits_in (past_of (run_in c lines).trace) ≤ 134217728
run_few c lines = (let h : HasRoom (run_in c lines) = run_room c lines in omega (arith, h.few, h.room))

pub run_calls_few : (c : Config) (lines : List ScheduleLine) → calls_in (past_of (run_in c lines).trace) ≤ 134217728
run_calls_few c lines = (let h : HasRoom (run_in c lines) = run_room c lines in omega (arith, h.calls, h.room))
