-- The causes of an event of a running site are there: its line, or a protocol that a site started by an earlier line.
use Rattle.locus_ids.specs.declared.config.Config.{Config}
use Rattle.schedule_lines.specs.Cluster.{config_of}
use Rattle.std.proofs.Common.{◌≡◌, ◌≢◌, ◌≤◌, ℕ, ◌+◌, ◌==◌, ◌⊎◌, Bool, true, false, cond, ◌||◌, ◌&&◌, not, List, [], ◌∷◌, Option, Some, None, refl, sym, ◌∙◌, ap, subst, inl, inr, arith}
use Rattle.std.specs.Option.{is_some}
use Rattle.role_steps.proofs.of_plain_facts.Numbers.{equal_self}
use Rattle.role_steps.proofs.of_plain_facts.Options.{none_some}
use Rattle.role_steps.proofs.of_plain_facts.Tests.{false_true}
use Rattle.locus_ids.specs.declared.ids.EpochId.{EpochId}
use Rattle.locus_ids.specs.declared.sites.Members.{Members}
use Rattle.schedule_lines.specs.declared.line.Line.{Line as LineWords}
use Rattle.schedule_lines.specs.declared.line.Line.TheVariants as line
use Rattle.schedule_lines.specs.declared.line.ScheduleLine.{ScheduleLine}
use Rattle.schedule_lines.specs.declared.line.ScheduleLine.TheVariants.{Event as EventLine}
use Rattle.trace_book.specs.declared.call.Call.{Call}
use Rattle.trace_book.specs.declared.call.Call.TheVariants as call
use Rattle.trace_book.specs.declared.record.Record.{Record}
use Rattle.trace_book.specs.declared.record.Record.TheVariants as says
use Rattle.wire_messages.specs.declared.packet.Packet.{Packet}
use Rattle.wire_messages.specs.declared.body.Body.{Body}
use Rattle.wire_messages.specs.declared.body.Body.TheVariants as body
use Rattle.role_steps.specs.Views.{SiteView, Told, Shown, Promises, Event, Calls, Receives, Ticks, Parts, Merges, GivesUp, boot_in}
use Rattle.role_steps.specs.declared.rounds.InEpoch.{InEpoch}
use Rattle.role_steps.specs.declared.rounds.Round.{Round}
use Rattle.lawful_trace.specs.of_tree_model.Folds.{Trace, before_line}
use Rattle.lawful_trace.specs.of_tree_model.Epochs.{is_up, boot_of, epoch_of}
use Rattle.site_laws.specs.of_the_run.Steps.{epoch_id}
use Rattle.site_laws.specs.of_the_run.Worlds.{World, Running, Numbered, Line, place_at, link_of, links_of}
use Rattle.site_laws.specs.of_the_run.Worlds.{boot_of as boot_number}
use Rattle.site_laws.specs.of_the_run.Runs.{is_in_no_epoch}
use Rattle.site_laws.specs.of_the_run.Kept.{IsOwn, WasSent}
use Rattle.site_laws.specs.of_run_laws.Standing.{Standing, nowhere, standing, after_record, after_told}
use Rattle.site_laws.specs.of_run_laws.Naming.{Promised, Deeds, Names, DeedsOf, ViewOk, Good}
use Rattle.site_laws.proofs.of_run_laws.Run.{found_among, was_sent}
use Rattle.lawful_trace.specs.Places.{line_at, starts_at, initiator}
use Rattle.lawful_trace.specs.SiteRows.{makes_leave}
use Rattle.lawful_trace.specs.CallRows.{CallLine}
use Rattle.row_laws.specs.Shown.{with_told, shown, trace_of}
use Rattle.row_laws.specs.Events.{IsPoll, HasRound, IsOwnId, ListsItself, FormingFact, FormingPacket, Comes, RoundFact, causes_of}
use Rattle.row_laws.specs.ByLine.{IsLine, Gives, Delivers}
use Rattle.row_laws.specs.Course.{Started, Polled, HasItself, StandsAs, InCourse, Caused}
use Rattle.row_laws.proofs.Choosing.{boot_there}
use Rattle.row_laws.proofs.Tracing.{before_all, promise_started}

-- ---- the epoch of a running site, by its records ----

up_case : (b u : Bool) (e : Option EpochId) (now : Standing) → (u ≡ true → e ≡ now.epoch) → (b || u) ≡ true → cond b None e ≡ (cond b nowhere now).epoch
up_case true u e now h up = refl
up_case false u e now h up = h up

stop_case : (b u : Bool) (e : Option EpochId) (now : Standing) → (u ≡ true → e ≡ now.epoch) → (not b && u) ≡ true → cond b None e ≡ now.epoch
stop_case true u e now h up = absurd (false_true up)
stop_case false u e now h up = h up

move_case : (b : Bool) (e new : Option EpochId) (now then : Standing) → e ≡ now.epoch → new ≡ then.epoch → cond b new e ≡ (cond b then now).epoch
move_case true e new now then h g = g
move_case false e new now then h g = h

stay_case : (b : Bool) (e : Option EpochId) (now then : Standing) → e ≡ now.epoch → now.epoch ≡ then.epoch → e ≡ (cond b then now).epoch
stay_case true e now then h g = h ∙ g
stay_case false e now then h g = h

record_epoch : (c : Config) (s n : ℕ) (r : Record) (before : Trace) (now : Standing) → (is_up c before s ≡ true → epoch_of before s ≡ now.epoch) → is_up c (record { line = n; what = r } ∷ before) s ≡ true → epoch_of (record { line = n; what = r } ∷ before) s ≡ (after_record s r now).epoch
record_epoch c s n (says.Up t boot) before now h up = up_case (t == s) (is_up c before s) (epoch_of before s) now h up
record_epoch c s n (says.Stopped t why) before now h up = stop_case (t == s) (is_up c before s) (epoch_of before s) now h up
record_epoch c s n (says.Join t id members) before now h up = move_case (t == s) (epoch_of before s) (Some id) now (record { promised = now.promised; installed = true; epoch = Some id }) (h up) refl
record_epoch c s n (says.Leave t id) before now h up = move_case (t == s) (epoch_of before s) None now (record { promised = now.promised; installed = now.installed; epoch = None }) (h up) refl
record_epoch c s n _ before now h up = h up

told_epoch : (c : Config) (s n : ℕ) (x : Told) (before : Trace) (now : Standing) → (is_up c before s ≡ true → epoch_of before s ≡ now.epoch) → is_up c (with_told n x before) s ≡ true → epoch_of (with_told n x before) s ≡ (after_told s x now).epoch
told_epoch c s n (Shown r) before now h up = record_epoch c s n r before now h up
told_epoch c s n (Promises t id reach) before now h up = stay_case (t == s) (epoch_of before s) now (record { promised = id; installed = false; epoch = now.epoch }) (h up) refl
told_epoch c s n _ before now h up = h up

-- a running site is in the epoch that its promises, joins and leaves say
pub epoch_standing : (c : Config) (s : ℕ) (trace : List Line) → is_up c (shown trace) s ≡ true → epoch_of (shown trace) s ≡ (standing s trace).epoch
epoch_standing c s [] up = refl
epoch_standing c s (x ∷ older) up = told_epoch c s x.number x.told (shown older) (standing s older) (epoch_standing c s older) up

pub epoch_here : (c : Config) (lines : List ScheduleLine) (n s : ℕ) (v : SiteView) (w : World) → place_at w s ≡ Some (Running v) → Good w → InCourse c lines n w → epoch_of (trace_of w) s ≡ epoch_id v.epoch
epoch_here c lines n s v w here good f = epoch_standing c s w.trace (f.places s (Running v) here).0 ∙ ap (λ (x : Standing). x.epoch) (good.stands s v here)

-- ---- what a poll, and a round, go back to ----

poll_names : (K : Deeds) (id : EpochId) (b : Body) → IsPoll b → Names K id b → K Promised id
poll_names K id body.Poll h k = k
poll_names K id (body.Promise reach) h k = absurd h
poll_names K id (body.Refuse promised) h k = absurd h
poll_names K id (body.Install members) h k = absurd h
poll_names K id body.Joined h k = absurd h
poll_names K id _ h k = absurd h

poll_from : (p : Packet) (b : Body) → IsPoll b → FormingFact p b → (p.epoch.site ≡ p.from) × (p.from ≢ p.to)
poll_from p body.Poll h k = k
poll_from p (body.Promise reach) h k = absurd h
poll_from p (body.Refuse promised) h k = absurd h
poll_from p (body.Install members) h k = absurd h
poll_from p body.Joined h k = absurd h
poll_from p _ h k = absurd h

-- an event that needs no packet
pub comes_own : (e : Event) → IsOwn e → Comes e
comes_own (Receives p) own = absurd own
comes_own _ own = tt

pub sent_polls : (c : Config) (lines : List ScheduleLine) (n : ℕ) (w : World) (x : Numbered) → WasSent w x → InCourse c lines n w → FormingPacket x.packet
sent_polls c lines n w x (inl a) f = found_among (λ (y : Numbered). FormingPacket y.packet) x w.sent f.polls a
sent_polls c lines n w x (inr a) f = found_among (λ (y : Numbered). FormingPacket y.packet) x w.underway f.underway a

poll_started : (c : Config) (lines : List ScheduleLine) (n : ℕ) (w : World) (x : Numbered) → WasSent w x → IsPoll x.packet.body → Good w → InCourse c lines n w → Started lines (trace_of w) n x.packet.epoch.site x.packet.epoch.boot
poll_started c lines n w x sent is good f = promise_started c lines n x.packet.from x.packet.epoch w.trace f.ascends f.rows (poll_names (DeedsOf w.trace x.packet.from) x.packet.epoch x.packet.body is (was_sent w x sent good))

round_started : (c : Config) (lines : List ScheduleLine) (n s : ℕ) (v : SiteView) (w : World) (id : EpochId) (o : Option Round) → v.round ≡ o → HasRound o → IsOwnId s v.boot id → place_at w s ≡ Some (Running v) → Good w → InCourse c lines n w → Started lines (trace_of w) n id.site id.boot
round_started c lines n s v w id None e h own here good f = absurd h
round_started c lines n s v w id (Some r) e h own here good f =
    let ok : ViewOk (DeedsOf w.trace s) v = good.views s v here in
    let k : (r.id ≡ v.promised) × (v.installed ≡ false) = ok.round_is r e in
    let mine : RoundFact s v.boot (Some r) = subst (RoundFact s v.boot) e (f.places s (Running v) here).2.round in
    let g : Started lines (trace_of w) n v.promised.site v.promised.boot = promise_started c lines n s v.promised w.trace f.ascends f.rows (ok.waits k.1).1 in
    subst (λ (a : ℕ). Started lines (trace_of w) n a id.boot) (sym (ap (λ (i : EpochId). i.site) k.0) ∙ (mine.0.0 ∙ sym own.0))
    (subst (λ (b : ℕ). Started lines (trace_of w) n v.promised.site b) (sym (ap (λ (i : EpochId). i.boot) k.0) ∙ (mine.0.1 ∙ sym own.1)) g)

-- a line that delivers starts nothing
starts_none : (c : Config) (l : LineWords) (now : Trace) → Delivers l → starts_at c (EventLine l) now ≡ None
starts_none c (line.Deliver packet) now h = refl
starts_none c (line.Settle most) now h = refl
starts_none c (line.Call site process words) now h = absurd h
starts_none c (line.Lose packet) now h = absurd h
starts_none c (line.Tick site) now h = absurd h
starts_none c (line.Down one other) now h = absurd h
starts_none c (line.Up one other) now h = absurd h
starts_none c (line.Part site) now h = absurd h
starts_none c (line.Merge site) now h = absurd h
starts_none c (line.GiveUp site) now h = absurd h
starts_none c (line.Stop site) now h = absurd h
starts_none c (line.ArmStop site calls left) now h = absurd h
starts_none c (line.ArmFail site calls) now h = absurd h
starts_none c (line.Boot site) now h = absurd h
starts_none c line.Pending now h = absurd h

earlier : (a n : ℕ) → a ≤ n → (a ≡ n → ⊥) → a + 1 ≤ n
earlier a n le ne = omega (arith, le, ne)

started_early : (lines : List ScheduleLine) (n s boot : ℕ) (l : LineWords) (now : Trace) → IsLine lines n l → Delivers l → (g : Started lines now n s boot) → g.line + 1 ≤ n
started_early lines n s boot l now is d g = earlier g.line n g.to (λ e. none_some s (sym (starts_none (config_of lines) l (before_line now n) d) ∙ (ap (λ (x : ScheduleLine). starts_at (config_of lines) x (before_line now n)) (sym is) ∙ (ap (initiator lines now) (sym e) ∙ g.starter))))

-- ---- a join ----

-- a running site reaches itself, unless a line cut it off, and so it is in the list that it joins
itself : (c : Config) (lines : List ScheduleLine) (n s : ℕ) (v : SiteView) (w : World) → place_at w s ≡ Some (Running v) → InCourse c lines n w → (m : Members) → ListsItself s v.boot (links_of w s) m → HasItself lines (trace_of w) s m
itself c lines n s v w here f m lists none = lists stood.3.1 reached ∙ sym stood.1
  where
    stood : StandsAs c (trace_of w) s (Running v)
    stood = f.places s (Running v) here

    reached : boot_in (links_of w s).boot s ≡ v.boot
    reached = boot_there (link_of w s) s stood.3.0 stood.3.1 ∙ (ap (λ (b : Bool). cond b 0 (boot_number (place_at w s))) (f.circuits none s) ∙ ap boot_number here)

-- ---- a packet that comes ----

pub receive_caused : (c : Config) (lines : List ScheduleLine) (n : ℕ) (l : LineWords) (x : Numbered) (v : SiteView) (w : World) → IsLine lines n l → Delivers l → place_at w x.packet.to ≡ Some (Running v) → WasSent w x → Good w → InCourse c lines n w →
    Caused c lines n x.packet.to (causes_of x.packet.to (links_of w x.packet.to) v (Receives x.packet)) (trace_of w)
receive_caused c lines n l x v w is d here sent good f = record {
  up = (f.places x.packet.to (Running v) here).0;
  leave = λ p. inr (polled p);
  promise = λ id p. promised id p;
  join = λ members j. (itself c lines n x.packet.to v w here f members j.0, j.1);
  accept = λ process words a. absurd a;
}
  where
    polled : IsPoll x.packet.body → Polled lines (trace_of w) n x.packet.to
    polled p =
        let g : Started lines (trace_of w) n x.packet.epoch.site x.packet.epoch.boot = poll_started c lines n w x sent p good f in
        let k : (x.packet.epoch.site ≡ x.packet.from) × (x.packet.from ≢ x.packet.to) = poll_from x.packet x.packet.body p (sent_polls c lines n w x sent f) in
        record {
          by = x.packet.epoch.site;
          boot = x.packet.epoch.boot;
          last = g.line;
          started = record { line = g.line; from = g.from; to = omega arith; starter = g.starter; boot_is = g.boot_is };
          early = started_early lines n x.packet.epoch.site x.packet.epoch.boot l (trace_of w) is d g;
          other = λ e. k.1 (sym k.0 ∙ e);
        }

    promised : (id : EpochId) → (IsPoll x.packet.body × (id ≡ x.packet.epoch)) ⊎ (HasRound v.round × IsOwnId x.packet.to v.boot id) → Started lines (trace_of w) n id.site id.boot
    promised id (inl p) = subst (λ (i : EpochId). Started lines (trace_of w) n i.site i.boot) (sym p.1) (poll_started c lines n w x sent p.0 good f)
    promised id (inr p) = round_started c lines n x.packet.to v w id v.round refl p.0 p.1 here good f

pub tick_caused : (c : Config) (lines : List ScheduleLine) (n m s : ℕ) (v : SiteView) (w : World) → place_at w s ≡ Some (Running v) → InCourse c lines n w → Caused c lines m s (causes_of s (links_of w s) v Ticks) (trace_of w)
tick_caused c lines n m s v w here f = record {
  up = (f.places s (Running v) here).0;
  leave = λ p. absurd p;
  promise = λ id p. absurd p;
  join = λ members j. (itself c lines n s v w here f members j.0, j.1);
  accept = λ process words a. absurd a;
}

-- ---- the event of a line ----

call_line : (lines : List ScheduleLine) (n site process : ℕ) (words : Call) → IsLine lines n (line.Call site process words) → CallLine lines n site process words
call_line lines n site process (call.Mend file) is = tt
call_line lines n site process (call.Create path sites) is = record { asked = is }
call_line lines n site process (call.MakeDir path) is = record { asked = is }
call_line lines n site process (call.Unlink path) is = record { asked = is }
call_line lines n site process (call.RemoveDir path) is = record { asked = is }
call_line lines n site process (call.Rename path name) is = record { asked = is }
call_line lines n site process (call.List path) is = record { asked = is }
call_line lines n site process (call.Stat path) is = record { asked = is }
call_line lines n site process (call.Mail path bytes) is = record { asked = is }
call_line lines n site process (call.Mails path) is = record { asked = is }
call_line lines n site process (call.Open path mode) is = record { asked = is }
call_line lines n site process (call.Read fd at len) is = record { asked = is }
call_line lines n site process (call.Write fd at bytes) is = record { asked = is }
call_line lines n site process (call.Cut fd len) is = record { asked = is }
call_line lines n site process (call.Commit fd) is = record { asked = is }
call_line lines n site process (call.Abort fd) is = record { asked = is }
call_line lines n site process (call.Close fd) is = record { asked = is }

call_caused : (c : Config) (lines : List ScheduleLine) (n s process : ℕ) (words : Call) (v : SiteView) (w : World) → IsLine lines (n + 1) (line.Call s process words) → place_at w s ≡ Some (Running v) → InCourse c lines n w → Caused c lines (n + 1) s (causes_of s (links_of w s) v (Calls process words)) (trace_of w)
call_caused c lines n s process words v w is here f = record {
  up = (f.places s (Running v) here).0;
  leave = λ p. absurd p;
  promise = λ id p. absurd p;
  join = λ members j. (itself c lines n s v w here f members j.0, j.1);
  accept = λ p x a. subst (λ (q : ℕ). CallLine lines (n + 1) s q x) (sym a.0) (subst (λ (y : Call). CallLine lines (n + 1) s process y) (sym a.1) (call_line lines (n + 1) s process words is));
}

-- the records before the line that begins are all
now_before : (c : Config) (lines : List ScheduleLine) (n : ℕ) (w : World) → InCourse c lines n w → before_line (trace_of w) (n + 1) ≡ trace_of w
now_before c lines n w f = before_all n (n + 1) w.trace f.ascends (omega arith)

line_starts : (c : Config) (lines : List ScheduleLine) (n s : ℕ) (l : LineWords) (v : SiteView) (w : World) (id : EpochId) → IsLine lines (n + 1) l → starts_at (config_of lines) (EventLine l) (trace_of w) ≡ Some s → place_at w s ≡ Some (Running v) → InCourse c lines n w → IsOwnId s v.boot id → Started lines (trace_of w) (n + 1) id.site id.boot
line_starts c lines n s l v w id is starts here f own = record {
  line = n + 1;
  from = omega arith;
  to = omega arith;
  starter = ap (λ (x : ScheduleLine). starts_at c x (before_line (trace_of w) (n + 1))) is ∙ (ap (starts_at c (EventLine l)) (now_before c lines n w f) ∙ (starts ∙ ap Some (sym own.0)));
  boot_is = ap (λ (t : Trace). boot_of t id.site) (now_before c lines n w f) ∙ (ap (boot_of (trace_of w)) own.0 ∙ ((f.places s (Running v) here).1 ∙ sym own.1));
}

leaves_here : (lines : List ScheduleLine) (n s : ℕ) (l : LineWords) → IsLine lines n l → makes_leave (EventLine l) s ≡ true → makes_leave (line_at lines n) s ≡ true
leaves_here lines n s l is h = ap (λ (x : ScheduleLine). makes_leave x s) is ∙ h

both_here : (a b : Bool) (s : ℕ) → a ≡ true → b ≡ true → cond (a && b) (Some s) None ≡ Some s
both_here a b s e f = ap (λ (x : Bool). cond (x && b) (Some s) None) e ∙ ap (λ (x : Bool). cond x (Some s) None) f

some_epoch : (o : Option InEpoch) → not (is_some o) ≡ false → is_some (epoch_id o) ≡ true
some_epoch None e = absurd (false_true (sym e))
some_epoch (Some x) e = refl

part_caused : (c : Config) (lines : List ScheduleLine) (n s : ℕ) (v : SiteView) (w : World) → IsLine lines (n + 1) (line.Part s) → is_in_no_epoch (place_at w s) ≡ false → place_at w s ≡ Some (Running v) → Good w → InCourse c lines n w → Caused c lines (n + 1) s (causes_of s (links_of w s) v Parts) (trace_of w)
part_caused c lines n s v w is inside here good f = record {
  up = (f.places s (Running v) here).0;
  leave = λ p. inl (leaves_here lines (n + 1) s (line.Part s) is (equal_self s));
  promise = λ id own. line_starts c lines n s (line.Part s) v w id is
      (both_here (is_up c (trace_of w) s) (is_some (epoch_of (trace_of w) s)) s (f.places s (Running v) here).0 (ap is_some (epoch_here c lines n s v w here good f) ∙ some_epoch v.epoch (sym (ap is_in_no_epoch here) ∙ inside))) here f own;
  join = λ members j. (itself c lines n s v w here f members j.0, j.1);
  accept = λ process words a. absurd a;
}

merge_caused : (c : Config) (lines : List ScheduleLine) (n s : ℕ) (v : SiteView) (w : World) → IsLine lines (n + 1) (line.Merge s) → place_at w s ≡ Some (Running v) → InCourse c lines n w → Caused c lines (n + 1) s (causes_of s (links_of w s) v Merges) (trace_of w)
merge_caused c lines n s v w is here f = record {
  up = (f.places s (Running v) here).0;
  leave = λ p. inl (leaves_here lines (n + 1) s (line.Merge s) is (equal_self s));
  promise = λ id own. line_starts c lines n s (line.Merge s) v w id is (ap (λ (b : Bool). cond b (Some s) None) (f.places s (Running v) here).0) here f own;
  join = λ members j. (itself c lines n s v w here f members j.0, j.1);
  accept = λ process words a. absurd a;
}

give_caused : (c : Config) (lines : List ScheduleLine) (n s : ℕ) (v : SiteView) (w : World) → IsLine lines (n + 1) (line.GiveUp s) → place_at w s ≡ Some (Running v) → InCourse c lines n w → Caused c lines (n + 1) s (causes_of s (links_of w s) v GivesUp) (trace_of w)
give_caused c lines n s v w is here f = record {
  up = (f.places s (Running v) here).0;
  leave = λ p. inl (leaves_here lines (n + 1) s (line.GiveUp s) is (equal_self s));
  promise = λ id p. absurd p;
  join = λ members j. (itself c lines n s v w here f members j.0, j.1);
  accept = λ process words a. absurd a;
}

-- what a line gives is caused by it
pub line_caused : (c : Config) (lines : List ScheduleLine) (n s : ℕ) (l : LineWords) (e : Event) (v : SiteView) (w : World) → IsLine lines (n + 1) l → Gives w l s e → place_at w s ≡ Some (Running v) → Good w → InCourse c lines n w → Caused c lines (n + 1) s (causes_of s (links_of w s) v e) (trace_of w)
line_caused c lines n s (line.Call site process words) (Calls p x) v w is g here good f =
    call_caused c lines n s p x v w (subst (λ (y : Call). IsLine lines (n + 1) (line.Call s p y)) g.2 (subst (λ (q : ℕ). IsLine lines (n + 1) (line.Call s q words)) g.1 (subst (λ (t : ℕ). IsLine lines (n + 1) (line.Call t process words)) g.0 is))) here f
line_caused c lines n s (line.Tick site) Ticks v w is g here good f = tick_caused c lines n (n + 1) s v w here f
line_caused c lines n s (line.Part site) Parts v w is g here good f =
    part_caused c lines n s v w (subst (λ (t : ℕ). IsLine lines (n + 1) (line.Part t)) g.0 is) (subst (λ (t : ℕ). is_in_no_epoch (place_at w t) ≡ false) g.0 g.1) here good f
line_caused c lines n s (line.Merge site) Merges v w is g here good f = merge_caused c lines n s v w (subst (λ (t : ℕ). IsLine lines (n + 1) (line.Merge t)) g is) here f
line_caused c lines n s (line.GiveUp site) GivesUp v w is g here good f = give_caused c lines n s v w (subst (λ (t : ℕ). IsLine lines (n + 1) (line.GiveUp t)) g.0 is) here f
line_caused c lines n s _ _ v w is g here good f = absurd g
