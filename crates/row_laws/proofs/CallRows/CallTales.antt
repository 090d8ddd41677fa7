-- In every run whose lines fit their cluster each call line is told: that it is void, or that its call is accepted.
use Rattle.schedule_lines.specs.Cluster.{config_of}
use Rattle.std.proofs.Common.{◌≡◌, ℕ, ◌+◌, ◌==◌, ◌⊎◌, Bool, true, false, ◌||◌, ◌&&◌, not, List, [], ◌∷◌, ◌++◌, length, map, take, Option, Some, None, refl, sym, ◌∙◌, ap, subst, inl, inr, arith}
use Rattle.std.proofs.lemmas.Bool.Decides.{nat_tests}
use Rattle.std.specs.Option.{is_some}
use Rattle.role_steps.proofs.of_plain_facts.Tests.{false_true}
use Rattle.locus_ids.specs.declared.config.Config.{Config}
use Rattle.locus_ids.specs.declared.ids.EpochId.{EpochId}
use Rattle.locus_ids.specs.declared.sites.Links.{Links}
use Rattle.schedule_lines.specs.declared.line.Line.{Line as LineWords}
use Rattle.schedule_lines.specs.declared.line.Line.TheVariants as line
use Rattle.schedule_lines.specs.declared.line.ScheduleLine.{ScheduleLine}
use Rattle.trace_book.specs.declared.call.Call.{Call}
use Rattle.trace_book.specs.declared.call.Call.TheVariants as call
use Rattle.trace_book.specs.declared.operation.Op.{Op}
use Rattle.trace_book.specs.declared.record.Record.{Record}
use Rattle.trace_book.specs.declared.record.Record.TheVariants as says
use Rattle.trace_book.specs.declared.record.StopCause.TheVariants as cause
use Rattle.call_rules.specs.declared.want.Want.{Want}
use Rattle.call_rules.specs.declared.want.Want.TheVariants as want
use Rattle.role_steps.specs.Own.{Every}
use Rattle.role_steps.specs.Views.{Frame, Users, SiteView, Told, Shown, DiskWrite, Outcome, Event, Calls, Receives, Ticks, Parts, Merges, GivesUp, quiet, first_written}
use Rattle.role_steps.specs.Requests.{user_instance, asks_op_of, asks_close_of}
use Rattle.role_steps.specs.Using.{own_call, on_call, counted_users, accepted_call, goes_on, next_want, asks_want, frees}
use Rattle.role_steps.specs.declared.rounds.InEpoch.{InEpoch}
use Rattle.role_steps.specs.declared.users.UserInstance.{UserInstance}
use Rattle.role_steps.specs.declared.users.WaitingCall.{WaitingCall}
use Rattle.role_steps.proofs.Sending.{every_append, every_map}
use Rattle.tree_model.specs.Calls.{waiting, waiting_of}
use Rattle.tree_model.specs.declared.accepted.Waiting.{Waiting}
use Rattle.the_run.specs.Disks.{boots}
use Rattle.the_run.specs.Kept.{Among, Kept}
use Rattle.the_run.specs.Steps.{at_users, call_frame, epoch_id, ends_event, whole, step}
use Rattle.the_run.specs.Worlds.{World, Running, Numbered, place_at, links_of, script_of, passed, told_onto, puts, stops_with, acts_of, acts, disk_of}
use Rattle.the_run.specs.Runs.{packet_record, run_in}
use Rattle.the_run.proofs.Boots.{every_weaker}
use Rattle.run_laws.specs.Naming.{DeedsOf}
use Rattle.site_laws.specs.Vectors.Held.{Untouched}
use Rattle.site_laws.proofs.Vectors.SiteDisks.{ends_keeps}
use Rattle.lawful_trace.specs.Places.{line_at}
use Rattle.lawful_trace.specs.LineRows.{may_be_void, has_no_effect, is_told, tale, is_mend}
use Rattle.row_laws.specs.Inward.{RoleRecord, RoleTold, IsMend, Inwardly}
use Rattle.row_laws.specs.Shown.{shown, trace_of, EachRecord}
use Rattle.row_laws.specs.ByLine.{IsLine, IsVoidIn, Gives, KeptIn}
use Rattle.row_laws.specs.Events.{Causes, SiteRecord, SiteTold, ViewForms, causes_of}
use Rattle.row_laws.specs.Rows.{IsSiteRow}
use Rattle.row_laws.specs.Voids.{LinesFit, HasPlaces, is_call}
use Rattle.row_laws.proofs.AskedRun.{own_given}
use Rattle.row_laws.proofs.ByLine.{every_line}
use Rattle.row_laws.proofs.Causes.{comes_own, sent_polls}
use Rattle.row_laws.proofs.Walks.{on_call_rest}
use Rattle.row_laws.proofs.SitesGoOn.{run_sites}
use Rattle.row_laws.proofs.SitesPlaced.{first_has, places_kept}
use Rattle.row_laws.proofs.StepForms.{step_forms, ends_forms}
use Rattle.row_laws.proofs.Tales.{Passes, voids_told, tale_told}
use Rattle.row_laws.proofs.Voids.{NoVoid, void_now}
use Rattle.row_laws.specs.CallRows.Lines.{IsVoidCall, CallsTold}
use Rattle.row_laws.specs.CallRows.Standing.{CallsStand}
use Rattle.row_laws.specs.CallRows.Waiting.{Waits}
use Rattle.row_laws.proofs.CallRows.Going.{idle_process}
use Rattle.row_laws.proofs.CallRows.CallSteps.{IsPlain}
use Rattle.row_laws.proofs.CallRows.StepStands.{MayCall}
use Rattle.row_laws.proofs.CallRows.CallsRun.{Calling, calling_kept, first_calling, line_may}
use Rattle.row_laws.proofs.CallRows.Telling.{ToldGo, earlier, next, other_next, course, happened_calls, acts_calls, boots_calls, quiet_other, delivers_other, arms_other, line_other}
use Rattle.row_laws.proofs.CallRows.VoidCalls.{VoidsGo, happened_voids, free_voids, acts_voids, boots_voids, void_effect}

-- ---- a call that is accepted ----

-- a call line tells of its acceptance first, of no other process's, and writes nothing
record Accepts (s process : ℕ) (words : Call) (o : Outcome SiteView) : Type 0 where
  first : Record
  rest : List Told
  told_is : o.told ≡ Shown first ∷ rest
  accepts : tale (line.Call s process words) first ≡ true
  others : Every (Passes (tale (line.Call s process words)) false) rest
  none : o.written ≡ None

mend_is : (words : Call) → IsMend words → is_mend words ≡ true
mend_is (call.Mend file) h = refl
mend_is (call.Create path sites) h = absurd h
mend_is (call.MakeDir path) h = absurd h
mend_is (call.Unlink path) h = absurd h
mend_is (call.RemoveDir path) h = absurd h
mend_is (call.Rename path name) h = absurd h
mend_is (call.List path) h = absurd h
mend_is (call.Stat path) h = absurd h
mend_is (call.Mail path bytes) h = absurd h
mend_is (call.Mails path) h = absurd h
mend_is (call.Open path how) h = absurd h
mend_is (call.Read fd at len) h = absurd h
mend_is (call.Write fd at bytes) h = absurd h
mend_is (call.Cut fd len) h = absurd h
mend_is (call.Commit fd) h = absurd h
mend_is (call.Abort fd) h = absurd h
mend_is (call.Close fd) h = absurd h

plain_is : (words : Call) → IsPlain words → is_mend words ≡ false
plain_is (call.Mend file) h = absurd h
plain_is _ h = refl

and_false : (a b : Bool) → (a && (b && false)) ≡ false
and_false true true = refl
and_false true false = refl
and_false false b = refl

mend_other : (s process t q : ℕ) (words : Call) → IsMend words → ((t == s) && ((q == process) && not (is_mend words))) ≡ false
mend_other s process t q words h = ap (λ (b : Bool). (t == s) && ((q == process) && not b)) (mend_is words h) ∙ and_false (t == s) (q == process)

role_passes : (s process : ℕ) (words : Call) (r : Record) → RoleRecord r → tale (line.Call s process words) r ≡ false
role_passes s process words (says.Accept t q id w) h = mend_other s process t q w h
role_passes s process words _ h = refl

told_passes : (s process : ℕ) (words : Call) (x : Told) → RoleTold x → Passes (tale (line.Call s process words)) false x
told_passes s process words (Shown r) h = role_passes s process words r h
told_passes s process words _ h = tt

abbrev no_causes : Causes
no_causes = record { leave = Unit {0}; promise = λ id. Unit {0}; join = λ members. Unit {0}; accept = λ process words. ⊥ }

site_passes : (s me process : ℕ) (words : Call) (r : Record) → SiteRecord me no_causes r → tale (line.Call s process words) r ≡ false
site_passes s me process words (says.Accept t q id w) h = by_case h
  where
    by_case : IsMend w ⊎ ((t ≡ me) × ⊥) → tale (line.Call s process words) (says.Accept t q id w) ≡ false
    by_case (inl m) = mend_other s process t q w m
    by_case (inr k) = absurd k.1
site_passes s me process words _ h = refl

end_passes : (s me process : ℕ) (words : Call) (x : Told) → SiteTold me no_causes x → Passes (tale (line.Call s process words)) false x
end_passes s me process words (Shown r) h = site_passes s me process words r h
end_passes s me process words _ h = tt

none_written : (o : Option DiskWrite) → o ≡ None → (p : Option DiskWrite) → p ≡ None → first_written o p ≡ None
none_written o e p f = ap (λ (x : Option DiskWrite). first_written x p) e ∙ f

op_written : (f : Frame) (w : WaitingCall) (o : Op) (i : Option UserInstance) (u : Users) → (asks_op_of f w o i u).written ≡ None
op_written f w o None u = refl
op_written f w o (Some i) u = refl

close_written : (f : Frame) (w : WaitingCall) (i : Option UserInstance) (u : Users) → (asks_close_of f w i u).written ≡ None
close_written f w None u = refl
close_written f w (Some i) u = refl

want_written : (f : Frame) (w : WaitingCall) (x : Want) (u : Users) → (asks_want f w x u).written ≡ None
want_written f w (want.Look file what) u = refl
want_written f w (want.Open file m) u = refl
want_written f w (want.OpenToMend file) u = refl
want_written f w (want.Make group kind sites) u = refl
want_written f w (want.Do inst o) u = op_written f w o (user_instance u inst.serial) u
want_written f w (want.Close inst) u = close_written f w (user_instance u inst.serial) u
want_written f w (want.Give r) u = refl
want_written f w want.Never u = refl

accept_tale : (s process : ℕ) (words : Call) → IsPlain words → ((s == s) && ((process == process) && not (is_mend words))) ≡ true
accept_tale s process words plain = ap (λ (b : Bool). (s == s) && ((process == process) && not b)) (plain_is words plain) ∙ own s process
  where
    own : (s process : ℕ) → ((s == s) && ((process == process) && true)) ≡ true
    own s process = grind (arith, nat_tests)

frame_accepts : (c : Config) (s process : ℕ) (words : Call) (links : Links) (v : SiteView) (f : Frame) (now : Option EpochId) → f.me ≡ s → IsPlain words → ViewForms s v → Accepts s process words (whole c s links (at_users (on_call f now process words) v) quiet)
frame_accepts c s process words links v f now me plain h = record {
  first = says.Accept f.me process (own_call f.me f.boot (v.users.calls + 1)) words;
  rest = went.told ++ last.told;
  told_is = refl;
  accepts = subst (λ (t : ℕ). ((t == s) && ((process == process) && not (is_mend words))) ≡ true) (sym me) (accept_tale s process words plain);
  others = every_append (Passes (tale (line.Call s process words)) false) went.told last.told (every_weaker RoleTold (Passes (tale (line.Call s process words)) false) went.told (told_passes s process words) rest.1)
      (every_weaker (SiteTold s no_causes) (Passes (tale (line.Call s process words)) false) last.told (end_passes s s process words) (ends_forms s v.boot no_causes c links left (λ m j short. tt) refl (record { round = h.round; tables = h.tables; epoch = h.epoch })).told);
  none = none_written went.written (want_written f w (next_want f w freed) freed) last.written untouched.none;
}
  where
    freed : Users
    freed = frees process words (counted_users f now process words v.users)

    w : WaitingCall
    w = accepted_call f now process words v.users

    went : Outcome Users
    went = goes_on f w freed

    left : SiteView
    left = (at_users (on_call f now process words) v).view

    last : Outcome SiteView
    last = ends_event c s links left

    rest : Inwardly went
    rest = on_call_rest f now process words v.users

    untouched : Untouched left.store.copies last.view.store.copies last.told last.written
    untouched = ends_keeps c s links left

call_accepts : (c : Config) (s process : ℕ) (words : Call) (links : Links) (v : SiteView) (o : Option InEpoch) → IsPlain words → ViewForms s v → Accepts s process words (whole c s links (at_users (on_call (call_frame c s v.boot o) (epoch_id o) process words) v) quiet)
call_accepts c s process words links v None plain h = frame_accepts c s process words links v (call_frame c s v.boot None) None refl plain h
call_accepts c s process words links v (Some e) plain h = frame_accepts c s process words links v (call_frame c s v.boot (Some e)) (Some e.id) refl plain h

-- its process waits for nothing
call_effect : (c : Config) (lines : List ScheduleLine) (n s process : ℕ) (words : Call) (v : SiteView) (w : World) → place_at w s ≡ Some (Running v) → ((r : WaitingCall) → Among r v.users.waiting → r.process ≡ process → ⊥) → CallsStand c w → has_no_effect (config_of lines) (take n lines) (trace_of w) (line.Call s process words) ≡ Some false
call_effect c lines n s process words v w here idle g =
    let h : Waits c s v.boot (trace_of w) v.users.calls v.users.waiting = (g.places s (Running v) here).waits in
    ap (λ (b : Bool). Some (not b || is_some (waiting_of s process (waiting (trace_of w))))) h.up
    ∙ ap (λ (o : Option Waiting). Some (is_some o)) (idle_process c s v.boot v.users.calls process (trace_of w) v.users.waiting idle h)

-- ---- every line ----

record CallLines (c : Config) (lines : List ScheduleLine) (n : ℕ) (w : World) : Type 0 where
  calling : Calling c lines n w
  places : HasPlaces c w
  voids : VoidsGo c lines w
  told : ToldGo c lines n w

call_told : (c : Config) (lines : List ScheduleLine) (n s process : ℕ) (words : Call) (v : SiteView) (w : World) → IsLine lines (n + 1) (line.Call s process words) → place_at w s ≡ Some (Running v) → MayCall v (Calls process words) → CallLines c lines n w → ToldGo c lines (n + 1) (acts (n + 1) s v (step c s (links_of w s) v (Calls process words)) w)
call_told c lines n s process words v w is here may p =
    subst (λ (x : Option DiskWrite). ToldGo c lines (n + 1) (acts_of (n + 1) s v o x w)) (sym g.none)
    (happened_calls c lines (n + 1) o.sent o.told (λ now. puts s (Running o.view) now) w
    (λ none order. next lines n (shown (told_onto (n + 1) o.told w.trace)) (earlier lines n (n + 1) o.told w.trace (omega arith) (p.told none order))
    (λ call. subst (λ (xs : List Told). is_told lines (shown (told_onto (n + 1) xs w.trace)) (n + 1) ≡ true) (sym g.told_is)
    (tale_told c lines n (line.Call s process words) g.first g.rest w is p.calling.courses.course (call_effect c lines n s process words v w here may.2 (p.calling.calls order)) g.accepts g.others))))
  where
    o : Outcome SiteView
    o = step c s (links_of w s) v (Calls process words)

    g : Accepts s process words o
    g = call_accepts c s process words (links_of w s) v v.epoch may.0 (p.calling.courses.course.places s (Running v) here).2

other_told : (c : Config) (lines : List ScheduleLine) (n s : ℕ) (e : Event) (v : SiteView) (w : World) → is_call (line_at lines (n + 1)) ≡ false → CallLines c lines n w → ToldGo c lines (n + 1) (acts (n + 1) s v (step c s (links_of w s) v e) w)
other_told c lines n s e v w none p = acts_calls c lines (n + 1) s v (step c s (links_of w s) v e) w (λ told q order. other_next lines n told w.trace none (p.told q order))

line_told : (c : Config) (lines : List ScheduleLine) (n s : ℕ) (l : LineWords) (e : Event) (v : SiteView) (w : World) → LinesFit c lines → IsLine lines (n + 1) l → Gives w l s e → place_at w s ≡ Some (Running v) → CallLines c lines n w → ToldGo c lines (n + 1) (acts (n + 1) s v (step c s (links_of w s) v e) w)
line_told c lines n s (line.Call site process words) (Calls p x) v w fit is g here q =
    call_told c lines n s p x v w (subst (λ (y : Call). IsLine lines (n + 1) (line.Call s p y)) g.2 (subst (λ (k : ℕ). IsLine lines (n + 1) (line.Call s k words)) g.1 (subst (λ (t : ℕ). IsLine lines (n + 1) (line.Call t process words)) g.0 is))) here
    (line_may c lines (n + 1) s (line.Call site process words) (Calls p x) v w fit is g here) q
line_told c lines n s (line.Call site process words) Ticks v w fit is g here q = absurd g
line_told c lines n s (line.Call site process words) Parts v w fit is g here q = absurd g
line_told c lines n s (line.Call site process words) Merges v w fit is g here q = absurd g
line_told c lines n s (line.Call site process words) GivesUp v w fit is g here q = absurd g
line_told c lines n s (line.Call site process words) (Receives p) v w fit is g here q = absurd g
line_told c lines n s (line.Tick site) e v w fit is g here q = other_told c lines n s e v w (line_other lines (n + 1) (line.Tick site) is refl) q
line_told c lines n s (line.Part site) e v w fit is g here q = other_told c lines n s e v w (line_other lines (n + 1) (line.Part site) is refl) q
line_told c lines n s (line.Merge site) e v w fit is g here q = other_told c lines n s e v w (line_other lines (n + 1) (line.Merge site) is refl) q
line_told c lines n s (line.GiveUp site) e v w fit is g here q = other_told c lines n s e v w (line_other lines (n + 1) (line.GiveUp site) is refl) q
line_told c lines n s l e v w fit is g here q = other_told c lines n s e v w (line_other lines (n + 1) l is refl) q

void_told : (c : Config) (lines : List ScheduleLine) (n : ℕ) (l : LineWords) (w : World) → LinesFit c lines → IsLine lines (n + 1) l → IsVoidIn w l → CallLines c lines n w → EachRecord (IsSiteRow c) (trace_of w) → is_call (line_at lines (n + 1)) ≡ true → may_be_void (has_no_effect c (take n lines) (trace_of w) l) ≡ true
void_told c lines n l w fit is void p order call = void_effect c lines n l w (fit (n + 1) l is) (sym (ap is_call is) ∙ call) void p.places p.calling.courses.course (p.calling.calls order)

lines_kept : (c : Config) (lines : List ScheduleLine) → LinesFit c lines → KeptIn c lines (CallLines c lines)
lines_kept c lines fit = record {
  begins = λ n w there quiet p. record { calling = kept.begins n w there quiet p.calling; places = p.places; voids = p.voids; told = λ none order. next lines n (trace_of w) (p.told none order) (λ call. absurd (false_true (sym (quiet_other (line_at lines (n + 1)) quiet) ∙ call))) };
  ticks = λ n most s v w is here p. record {
    calling = kept.ticks n most s v w is here p.calling;
    places = has.steps n s Ticks v w here tt p.places;
    voids = acts_voids c lines n s (causes_of s (links_of w s) v Ticks) v (step c s (links_of w s) v Ticks) w (step_forms (DeedsOf w.trace s) s c (links_of w s) v Ticks (p.calling.courses.good.views s v here) (p.calling.courses.course.places s (Running v) here).2 tt) p.voids;
    told = acts_calls c lines n s v (step c s (links_of w s) v Ticks) w (λ told none order. course lines n told w.trace (line_other lines n (line.Settle most) is refl) (p.told none order));
  };
  receives = λ n l x v w is d here sent p. record {
    calling = kept.receives n l x v w is d here sent p.calling;
    places = has.receives n x v w here sent p.places;
    voids = acts_voids c lines n x.packet.to (causes_of x.packet.to (links_of (passed x.number w) x.packet.to) v (Receives x.packet)) v (step c x.packet.to (links_of (passed x.number w) x.packet.to) v (Receives x.packet)) (passed x.number w)
        (step_forms (DeedsOf w.trace x.packet.to) x.packet.to c (links_of (passed x.number w) x.packet.to) v (Receives x.packet) (p.calling.courses.good.views x.packet.to v here) (p.calling.courses.course.places x.packet.to (Running v) here).2 (sent_polls c lines n w x sent p.calling.courses.course)) p.voids;
    told = acts_calls c lines n x.packet.to v (step c x.packet.to (links_of (passed x.number w) x.packet.to) v (Receives x.packet)) (passed x.number w) (λ told none order. course lines n told w.trace (line_other lines n l is (delivers_other l d)) (p.told none order));
  };
  passes = λ n k w p. record { calling = kept.passes n k w p.calling; places = p.places; voids = p.voids; told = p.told };
  drops = λ n k w p. record { calling = kept.drops n k w p.calling; places = p.places; voids = p.voids; told = p.told };
  budgets = λ n most w is p. record {
    calling = kept.budgets n most w is p.calling;
    places = has.budgets n w p.places;
    voids = free_voids c lines n [] (Shown says.Budget ∷ []) (λ now. now) w (tt, tt) p.voids;
    told = happened_calls c lines n [] (Shown says.Budget ∷ []) (λ now. now) w (λ none order. course lines n (Shown says.Budget ∷ []) w.trace (line_other lines n (line.Settle most) is refl) (p.told none order));
  };
  voiding = λ n l w there is void p. record {
    calling = kept.voiding n l w there is void p.calling;
    places = has.voiding (n + 1) w p.places;
    voids = happened_voids c lines (n + 1) [] (Shown says.Void ∷ []) (λ now. now) w (λ order g. (λ call. record { silent = ap may_be_void (void_now c lines n l w is p.calling.courses.course) ∙ void_told c lines n l w fit is void p order call }, g)) p.voids;
    told = happened_calls c lines (n + 1) [] (Shown says.Void ∷ []) (λ now. now) w (λ none order. next lines n (shown (told_onto (n + 1) (Shown says.Void ∷ []) w.trace)) (earlier lines n (n + 1) (Shown says.Void ∷ []) w.trace (omega arith) (p.told none order))
        (λ call. voids_told c lines n l w is p.calling.courses.course (void_told c lines n l w fit is void p order call)));
  };
  steps = λ n s l e v w there is g here p. record {
    calling = kept.steps n s l e v w there is g here p.calling;
    places = has.steps (n + 1) s e v w here (own_given w l s e g) p.places;
    voids = acts_voids c lines (n + 1) s (causes_of s (links_of w s) v e) v (step c s (links_of w s) v e) w (step_forms (DeedsOf w.trace s) s c (links_of w s) v e (p.calling.courses.good.views s v here) (p.calling.courses.course.places s (Running v) here).2 (comes_own e (own_given w l s e g))) p.voids;
    told = line_told c lines n s l e v w fit is g here p;
  };
  cutting = λ n one other w there is cut p. record { calling = kept.cutting n one other w there is cut p.calling; places = p.places; voids = p.voids; told = λ none order. other_next lines n [] w.trace (line_other lines (n + 1) (line.Down one other) is refl) (p.told none order) };
  mending = λ n one other w there is cut p. record { calling = kept.mending n one other w there is cut p.calling; places = p.places; voids = p.voids; told = λ none order. other_next lines n [] w.trace (line_other lines (n + 1) (line.Up one other) is refl) (p.told none order) };
  arming = λ n l a w there is so p. record { calling = kept.arming n l a w there is so p.calling; places = p.places; voids = p.voids; told = λ none order. other_next lines n [] w.trace (line_other lines (n + 1) l is (arms_other l a so)) (p.told none order) };
  pending = λ n w there is p. record {
    calling = kept.pending n w there is p.calling;
    places = has.pending (n + 1) w p.places;
    voids = free_voids c lines (n + 1) [] (map packet_record w.underway) (λ now. now) w (every_map NoVoid packet_record w.underway (λ (x : Numbered). tt)) p.voids;
    told = happened_calls c lines (n + 1) [] (map packet_record w.underway) (λ now. now) w (λ none order. other_next lines n (map packet_record w.underway) w.trace (line_other lines (n + 1) line.Pending is refl) (p.told none order));
  };
  stopping = λ n s v w there is here p. record {
    calling = kept.stopping n s v w there is here p.calling;
    places = has.stopping (n + 1) s v w here p.places;
    voids = free_voids c lines (n + 1) [] (Shown (says.Stopped s cause.Asked) ∷ []) (stops_with s (disk_of v)) w (tt, tt) p.voids;
    told = happened_calls c lines (n + 1) [] (Shown (says.Stopped s cause.Asked) ∷ []) (stops_with s (disk_of v)) w (λ none order. other_next lines n (Shown (says.Stopped s cause.Asked) ∷ []) w.trace (line_other lines (n + 1) (line.Stop s) is refl) (p.told none order));
  };
  booting = λ n s d w there is here p. record {
    calling = kept.booting n s d w there is here p.calling;
    places = has.booting (n + 1) s d w here p.places;
    voids = boots_voids c lines (n + 1) s (boots (script_of w s) d) w p.voids;
    told = boots_calls c lines (n + 1) s (boots (script_of w s) d) w (λ told none order. other_next lines n told w.trace (line_other lines (n + 1) (line.Boot s) is refl) (p.told none order));
  };
}
  where
    kept : KeptIn c lines (Calling c lines)
    kept = calling_kept c lines fit

    has : Kept c (HasPlaces c)
    has = places_kept c

run_lines : (c : Config) (lines : List ScheduleLine) → LinesFit c lines → CallLines c lines (length lines) (run_in c lines)
run_lines c lines fit = every_line c lines (CallLines c lines) (lines_kept c lines fit) (record { calling = first_calling c lines; places = first_has c; voids = λ order. tt; told = λ none order m low high call. absurd (omega (arith, low, high)) })

pub run_void_calls : (c : Config) (lines : List ScheduleLine) → LinesFit c lines → EachRecord (IsVoidCall lines) (trace_of (run_in c lines))
run_void_calls c lines fit = (run_lines c lines fit).voids (run_sites c lines)

pub run_calls_told : (c : Config) (lines : List ScheduleLine) → LinesFit c lines → (run_in c lines).over ≡ None → CallsTold lines (length lines) (trace_of (run_in c lines))
run_calls_told c lines fit none = (run_lines c lines fit).told none (run_sites c lines)
