-- In every run each record is placed, and the lines have asked for it.
use Rattle.std.proofs.Common.{◌≡◌, ◌≤◌, ℕ, zero, suc, ◌+◌, ◌==◌, nat_le, Bool, true, false, cond, ◌||◌, ◌&&◌, not, List, [], ◌∷◌, length, map, filter, Option, Some, None, refl, sym, ◌∙◌, ap, subst, inl, inr, arith}
use Rattle.std.specs.List.{list_any}
use Rattle.std.proofs.lemmas.Bool.{and_from, le-leb}
use Rattle.role_steps.proofs.of_plain_facts.Numbers.{equal, equal_self, equal_test}
use Rattle.role_steps.proofs.of_plain_facts.Tests.{and_true, true_false}
use Rattle.locus_ids.specs.declared.ids.EpochId.{EpochId}
use Rattle.locus_ids.specs.declared.sites.Members.{Members}
use Rattle.locus_ids.specs.declared.config.Config.{Config}
use Rattle.schedule_lines.specs.declared.line.Line.{Line as LineWords}
use Rattle.schedule_lines.specs.declared.line.Line.TheVariants as line
use Rattle.schedule_lines.specs.declared.line.ScheduleLine.{ScheduleLine}
use Rattle.schedule_lines.specs.declared.line.ScheduleLine.TheVariants.{Event as EventLine}
use Rattle.trace_book.specs.declared.record.Record.{Record}
use Rattle.trace_book.specs.declared.record.Record.TheVariants as says
use Rattle.role_steps.specs.Tables.{row}
use Rattle.role_steps.specs.Views.{Told, Shown, Promises, Event, Calls, Receives, Ticks, Parts, Merges, GivesUp}
use Rattle.lawful_trace.specs.of_tree_model.Folds.{Trace, last_line, before_line}
use Rattle.lawful_trace.specs.of_tree_model.Epochs.{boot_of}
use Rattle.site_laws.specs.of_the_run.Joins.{IsJoinRecord, IsJoin, Joined}
use Rattle.site_laws.specs.of_the_run.Kept.{IsOwn, Kept}
use Rattle.site_laws.specs.of_the_run.Steps.{step}
use Rattle.site_laws.specs.of_the_run.Worlds.{World, Running, Numbered, Line, CutCircuit, is_between, is_cut, number_of, links_of, passed, first_world}
use Rattle.site_laws.specs.of_the_run.Runs.{packet_record, cuts_circuit, mends_circuit, run_in}
use Rattle.site_laws.proofs.of_the_run.InsideSync.{every_without}
use Rattle.site_laws.specs.of_run_laws.Standing.{Standing, nowhere, after_record, after_told, standing, GoesOn, EpochsGoOn}
use Rattle.site_laws.specs.of_run_laws.Naming.{Promised, DeedsOf, Has, Good}
use Rattle.site_laws.proofs.of_run_laws.Run.{good_kept, first_good}
use Rattle.lawful_trace.specs.Places.{initiator}
use Rattle.lawful_trace.specs.SiteRows.{is_site, starts_in, is_asked_for}
use Rattle.lawful_trace.specs.LineRows.{settles}
use Rattle.site_laws.proofs.of_run_laws.Walks.FirstWorld.{first_places}
use Rattle.row_laws.specs.Shown.{with_told, shown, trace_of, EachRecord}
use Rattle.row_laws.specs.Events.{IsShort, FormingPacket, causes_of}
use Rattle.row_laws.specs.ByLine.{IsLine, Gives, KeptIn}
use Rattle.row_laws.specs.Rows.{IsPlaced, AskedRecord, IsAskedFor, MemberRecord, IsMemberRow, ShortRecord, IsShortRow}
use Rattle.row_laws.specs.Course.{Started, AskedHere, ToldRow, EachTold, Ascends, StandsAs, InCourse}
use Rattle.row_laws.specs.Voids.{CutsNoSelf}
use Rattle.row_laws.proofs.StepForms.{step_forms}
use Rattle.row_laws.proofs.Tracing.{any_number, promise_started, ascends_later}
use Rattle.row_laws.proofs.Asked.{acts_course, boot_course, asked_course, world_course, listed_rows, listed_up, listed_boot}
use Rattle.row_laws.proofs.Causes.{comes_own, sent_polls, receive_caused, tick_caused, line_caused}
use Rattle.row_laws.proofs.ByLine.{every_line}

-- ---- the invariant ----

pub record Courses (c : Config) (lines : List ScheduleLine) (n : ℕ) (w : World) : Type 0 where
  pub good : Good w
  pub course : InCourse c lines n w

next_course : (c : Config) (lines : List ScheduleLine) (n : ℕ) (w : World) → InCourse c lines n w → InCourse c lines (n + 1) w
next_course c lines n w f = record { ascends = ascends_later n (n + 1) w.trace (omega arith) f.ascends; rows = f.rows; places = f.places; circuits = f.circuits; polls = f.polls; underway = f.underway }

passed_course : (c : Config) (lines : List ScheduleLine) (n k : ℕ) (w : World) → InCourse c lines n w → InCourse c lines n (passed k w)
passed_course c lines n k w f = record { ascends = f.ascends; rows = f.rows; places = f.places; circuits = f.circuits; polls = f.polls; underway = every_without (λ (x : Numbered). FormingPacket x.packet) number_of k w.underway f.underway }

pub own_given : (w : World) (l : LineWords) (s : ℕ) (e : Event) → Gives w l s e → IsOwn e
own_given w l s (Calls process words) g = tt
own_given w l s Ticks g = tt
own_given w l s Parts g = tt
own_given w l s Merges g = tt
own_given w l s GivesUp g = tt
own_given w (line.Call site process words) s (Receives p) g = g
own_given w (line.Deliver packet) s (Receives p) g = g
own_given w (line.Lose packet) s (Receives p) g = g
own_given w (line.Tick site) s (Receives p) g = g
own_given w (line.Down one other) s (Receives p) g = g
own_given w (line.Up one other) s (Receives p) g = g
own_given w (line.Part site) s (Receives p) g = g
own_given w (line.Merge site) s (Receives p) g = g
own_given w (line.GiveUp site) s (Receives p) g = g
own_given w (line.Stop site) s (Receives p) g = g
own_given w (line.ArmStop site calls left) s (Receives p) g = g
own_given w (line.ArmFail site calls) s (Receives p) g = g
own_given w (line.Boot site) s (Receives p) g = g
own_given w (line.Settle most) s (Receives p) g = g
own_given w line.Pending s (Receives p) g = g

from_one : (n : ℕ) → 1 ≤ n + 1
from_one n = omega arith

-- the line with this number has begun, so that the number isn't 0
one_of : (lines : List ScheduleLine) (n : ℕ) (l : LineWords) → IsLine lines n l → 1 ≤ n
one_of lines zero l is = absurd (passed_line l is)
  where
    passed_line : (l : LineWords) → IsLine lines zero l → ⊥
    passed_line l e = cc
one_of lines (suc n) l is = omega arith

-- ---- circuits ----

-- a circuit between two sites is no site's with itself
between_other : (one other s : ℕ) (x : CutCircuit) → x.one ≡ one → x.other ≡ other → (one ≡ s → other ≡ s → ⊥) → is_between s s x ≡ false
between_other one other s x e f ne = at_ends x.one x.other (λ g h. ne (sym e ∙ g) (sym f ∙ h))
  where
    at_ends : (a b : ℕ) → (a ≡ s → b ≡ s → ⊥) → (((a == s) && (b == s)) || ((a == s) && (b == s))) ≡ false
    at_ends a b ne = (elim (a == s) as (λ t. (a == s) ≡ t → ((t && (b == s)) || (t && (b == s))) ≡ false) [
      | true ↦ λ q. (elim (b == s) as (λ t. (b == s) ≡ t → (t || t) ≡ false) [ true ↦ λ r. absurd (ne (equal a s q) (equal b s r)) | false ↦ λ r. refl ]) refl
      | false ↦ λ q. refl
    ]) refl

cuts_other : (one other s : ℕ) → (one ≡ s → other ≡ s → ⊥) → (w : World) → is_cut w s s ≡ false → is_cut (cuts_circuit one other w) s s ≡ false
cuts_other one other s ne w h = ap (λ (b : Bool). b || is_cut w s s) (between_other one other s (record { one = one; other = other }) refl refl ne) ∙ h

fewer_any : (p q : CutCircuit → Bool) (xs : List CutCircuit) → list_any p xs ≡ false → list_any p (filter q xs) ≡ false
fewer_any p q [] h = refl
fewer_any p q (x ∷ xs) h =
    let k : (p x ≡ false) × (list_any p xs ≡ false) = both_false (p x) (list_any p xs) h in
    elim (q x) as (λ b. list_any p (cond b (x ∷ filter q xs) (filter q xs)) ≡ false) [ true ↦ ap (λ (b : Bool). b || list_any p (filter q xs)) k.0 ∙ fewer_any p q xs k.1 | false ↦ fewer_any p q xs k.1 ]
  where
    both_false : (a b : Bool) → (a || b) ≡ false → (a ≡ false) × (b ≡ false)
    both_false true b h = absurd (cc)
    both_false false b h = (refl, h)

mends_other : (one other s : ℕ) (w : World) → is_cut w s s ≡ false → is_cut (mends_circuit one other w) s s ≡ false
mends_other one other s w h = fewer_any (is_between s s) (λ x. not (is_between one other x)) w.circuits h

pub courses_kept : (c : Config) (lines : List ScheduleLine) → KeptIn c lines (Courses c lines)
courses_kept c lines = record {
  begins = λ n w there quiet p. record { good = p.good; course = next_course c lines n w p.course };
  ticks = λ n most s v w is here p. record {
    good = kept.steps n s Ticks v w here tt p.good;
    course = acts_course c lines n s (causes_of s (links_of w s) v Ticks) v (step c s (links_of w s) v Ticks) w (one_of lines n (line.Settle most) is) here (tick_caused c lines n n s v w here p.course)
        (step_forms (DeedsOf w.trace s) s c (links_of w s) v Ticks (p.good.views s v here) (p.course.places s (Running v) here).2 tt) p.course;
  };
  receives = λ n l x v w is d here sent p. record {
    good = kept.receives n x v w here sent p.good;
    course = acts_course c lines n x.packet.to (causes_of x.packet.to (links_of w x.packet.to) v (Receives x.packet)) v (step c x.packet.to (links_of (passed x.number w) x.packet.to) v (Receives x.packet)) (passed x.number w) (one_of lines n l is) here
        (receive_caused c lines n l x v w is d here sent p.good p.course)
        (step_forms (DeedsOf w.trace x.packet.to) x.packet.to c (links_of (passed x.number w) x.packet.to) v (Receives x.packet) (p.good.views x.packet.to v here) (p.course.places x.packet.to (Running v) here).2 (sent_polls c lines n w x sent p.course)) (passed_course c lines n x.number w p.course);
  };
  passes = λ n k w p. record { good = kept.passes k w p.good; course = passed_course c lines n k w p.course };
  drops = λ n k w p. record { good = kept.drops k w p.good; course = (let f : InCourse c lines n (passed k w) = passed_course c lines n k w p.course in record { ascends = f.ascends; rows = f.rows; places = f.places; circuits = f.circuits; polls = f.polls; underway = f.underway }) };
  budgets = λ n most w is p. record { good = kept.budgets n w p.good; course = world_course c lines n (Shown says.Budget ∷ []) w (one_of lines n (line.Settle most) is) ((record { round = subst (λ (l : ScheduleLine). settles l ≡ true) (sym is) refl }, tt), tt) (λ t. refl) (λ t. refl) p.course };
  voiding = λ n l w there is void p. record { good = kept.voiding (n + 1) w p.good; course = world_course c lines (n + 1) (Shown says.Void ∷ []) w (from_one n) ((tt, tt), tt) (λ t. refl) (λ t. refl) (next_course c lines n w p.course) };
  steps = λ n s l e v w there is g here p. record {
    good = kept.steps (n + 1) s e v w here (own_given w l s e g) p.good;
    course = acts_course c lines (n + 1) s (causes_of s (links_of w s) v e) v (step c s (links_of w s) v e) w (from_one n) here (line_caused c lines n s l e v w is g here p.good p.course)
        (step_forms (DeedsOf w.trace s) s c (links_of w s) v e (p.good.views s v here) (p.course.places s (Running v) here).2 (comes_own e (own_given w l s e g))) (next_course c lines n w p.course);
  };
  cutting = λ n one other w there is cut p. record { good = kept.recuts _ w p.good; course = (let f : InCourse c lines (n + 1) w = next_course c lines n w p.course in record { ascends = f.ascends; rows = f.rows; places = f.places; circuits = λ none s. cuts_other one other s (λ e g. none (n + 1) one (is ∙ ap (λ (x : ℕ). EventLine (line.Down one x)) (g ∙ sym e))) w (f.circuits none s); polls = f.polls; underway = f.underway }) };
  mending = λ n one other w there is cut p. record { good = kept.recuts _ w p.good; course = (let f : InCourse c lines (n + 1) w = next_course c lines n w p.course in record { ascends = f.ascends; rows = f.rows; places = f.places; circuits = λ none s. mends_other one other s w (f.circuits none s); polls = f.polls; underway = f.underway }) };
  arming = λ n l a w there is so p. record { good = kept.arming a w p.good; course = (let f : InCourse c lines (n + 1) w = next_course c lines n w p.course in record { ascends = f.ascends; rows = f.rows; places = f.places; circuits = f.circuits; polls = f.polls; underway = f.underway }) };
  pending = λ n w there is p. record { good = kept.pending (n + 1) w p.good; course = world_course c lines (n + 1) (map packet_record w.underway) w (from_one n) (listed_rows c lines (n + 1) w.underway w.trace is) (λ t. listed_up c (n + 1) t w.underway w.trace) (λ t. listed_boot (n + 1) t w.underway w.trace) (next_course c lines n w p.course) };
  stopping = λ n s v w there is here p. record { good = kept.stopping (n + 1) s v w here p.good; course = asked_course c lines (n + 1) s v w (from_one n) is here (next_course c lines n w p.course) };
  booting = λ n s d w there is here p. record { good = kept.booting (n + 1) s d w here p.good; course = boot_course c lines (n + 1) s d w (from_one n) is here (next_course c lines n w p.course) };
}
  where
    kept : Kept c Good
    kept = good_kept c

-- ---- the first world ----

pub first_courses : (c : Config) (lines : List ScheduleLine) → Courses c lines 0 (first_world c)
first_courses c lines = record {
  good = first_good c;
  course = record { ascends = tt; rows = tt; places = first_places c (StandsAs c []) (λ s own. (refl, refl, record { round = tt; tables = tt; epoch = tt }, own.0)); circuits = λ none s. refl; polls = tt; underway = tt };
}

pub run_courses : (c : Config) (lines : List ScheduleLine) → Courses c lines (length lines) (run_in c lines)
run_courses c lines = every_line c lines (Courses c lines) (courses_kept c lines) (first_courses c lines)

-- ---- a join goes back to its promise ----

-- where a site has promised an id last, and hasn't joined it, the trace has the promise
abbrev Was : ℕ → List Line → Standing → Type 0
Was s trace now = now.installed ≡ false → Has Promised s now.promised trace

was_either : (s : ℕ) (trace : List Line) (b : Bool) (then now : Standing) → Was s trace then → Was s trace now → Was s trace (cond b then now)
was_either s trace true then now h g = h
was_either s trace false then now h g = g

record_was : (s : ℕ) (older : List Line) (r : Record) (now : Standing) → Was s older now → Was s older (after_record s r now)
record_was s older (says.Up t boot) now h = was_either s older (t == s) nowhere now (λ f. absurd (true_false f)) h
record_was s older (says.Join t id members) now h = was_either s older (t == s) (record { promised = now.promised; installed = true; epoch = Some id }) now (λ f. absurd (true_false f)) h
record_was s older (says.Leave t id) now h = was_either s older (t == s) (record { promised = now.promised; installed = now.installed; epoch = None }) now h h
record_was s older _ now h = h

told_was : (s n : ℕ) (x : Told) (older : List Line) (now : Standing) → Was s older now → Was s (record { number = n; told = x } ∷ older) (after_told s x now)
told_was s n (Shown r) older now h f = inr (record_was s older r now h f)
told_was s n (Promises t id reach) older now h f =
    (elim (t == s) as (λ b. (t == s) ≡ b → Was s (record { number = n; told = Promises t id reach } ∷ older) (cond b (record { promised = id; installed = false; epoch = now.epoch }) now)) [
      | true ↦ λ q g. inl (equal t s q, refl)
      | false ↦ λ q g. inr (h g)
    ]) refl f
told_was s n _ older now h f = inr (h f)

promised_has : (s : ℕ) (trace : List Line) → Was s trace (standing s trace)
promised_has s [] e = absurd (true_false e)
promised_has s (x ∷ older) e = told_was s x.number x.told older (standing s older) (promised_has s older) e

some_site : (o : Option ℕ) (s : ℕ) → o ≡ Some s → is_site o s ≡ true
some_site o s e = ap (λ (x : Option ℕ). is_site x s) e ∙ equal_self s

asked_for : (lines : List ScheduleLine) (now : Trace) (n : ℕ) (id : EpochId) → Started lines now n id.site id.boot → is_asked_for lines now n id ≡ true
asked_for lines now n id g =
    any_number (λ m. starts_in lines now m id.site id.boot) g.line n
    (and_true (is_site (initiator lines now g.line) id.site) (boot_of (before_line now g.line) id.site == id.boot) (some_site (initiator lines now g.line) id.site g.starter) (equal_test (boot_of (before_line now g.line) id.site) id.boot g.boot_is)) g.from g.to

-- ---- the rows ----

join_asked : (c : Config) (lines : List ScheduleLine) (n s : ℕ) (id : EpochId) (older : List Line) → Ascends n older → EachTold c lines older → ((standing s older).promised ≡ id) × ((standing s older).installed ≡ false) × ((standing s older).epoch ≡ None) → is_asked_for lines (shown older) n id ≡ true
join_asked c lines n s id older a rows m = asked_for lines (shown older) n id (promise_started c lines n s id older a rows (subst (λ (i : EpochId). Has Promised s i older) m.0 (promised_has s older m.1)))

record_asked : (c : Config) (lines : List ScheduleLine) (n : ℕ) (r : Record) (older : List Line) → Ascends n older → EachTold c lines older → GoesOn (Shown r) older → AskedHere lines n (shown older) r → AskedRecord lines n (shown older) r
record_asked c lines n (says.Join s id members) older a rows m h = record { asked = join_asked c lines n s id older a rows m }
record_asked c lines n (says.Up s boot) older a rows m h = h
record_asked c lines n (says.Stopped s why) older a rows m h = h
record_asked c lines n (says.Leave s id) older a rows m h = h
record_asked c lines n (says.Accept s process call words) older a rows m h = h
record_asked c lines n (says.Packet number from to kind) older a rows m h = h
record_asked c lines n says.Budget older a rows m h = h
record_asked c lines n _ older a rows m h = tt

told_asked : (c : Config) (lines : List ScheduleLine) (n : ℕ) (x : Told) (older : List Line) → Ascends n older → EachTold c lines older → ToldRow c lines n (shown older) x → GoesOn x older → EachRecord (IsAskedFor lines) (shown older) → EachRecord (IsAskedFor lines) (with_told n x (shown older))
told_asked c lines n (Shown r) older a rows h m rest = (record_asked c lines n r older a rows m h.0, rest)
told_asked c lines n _ older a rows h m rest = rest

each_asked : (c : Config) (lines : List ScheduleLine) (n : ℕ) (trace : List Line) → Ascends n trace → EachTold c lines trace → EpochsGoOn trace → EachRecord (IsAskedFor lines) (shown trace)
each_asked c lines n [] a rows g = tt
each_asked c lines n (x ∷ older) a rows g = told_asked c lines x.number x.told older a.2 rows.1 rows.0 g.0 (each_asked c lines x.number older a.2 rows.1 g.1)

told_within : (n k : ℕ) (x : Told) (now : Trace) → k ≤ n → last_line now ≤ k → last_line (with_told k x now) ≤ n
told_within n k (Shown r) now h g = h
told_within n k _ now h g = omega (arith, h, g)

pub last_within : (n : ℕ) (trace : List Line) → Ascends n trace → last_line (shown trace) ≤ n
last_within n [] a = omega arith
last_within n (x ∷ older) a = told_within n x.number x.told (shown older) a.1 (last_within x.number older a.2)

told_placed : (lines : List ScheduleLine) (k : ℕ) (x : Told) (now : Trace) → 1 ≤ k → k ≤ length lines → last_line now ≤ k → EachRecord (IsPlaced lines) now → EachRecord (IsPlaced lines) (with_told k x now)
told_placed lines k (Shown r) now one to last rest = (
  record {
    ascending = le-leb (last_line now) k last;
    placed = and_from (nat_le 1 k) (nat_le k (length lines)) (le-leb 1 k one) (le-leb k (length lines) to);
  },
  rest,
)
told_placed lines k _ now one to last rest = rest

each_placed : (lines : List ScheduleLine) (n : ℕ) (trace : List Line) → n ≤ length lines → Ascends n trace → EachRecord (IsPlaced lines) (shown trace)
each_placed lines n [] le a = tt
each_placed lines n (x ∷ older) le a = told_placed lines x.number x.told (shown older) a.0 to (last_within x.number older a.2) (each_placed lines x.number older to a.2)
  where
    to : x.number ≤ length lines
    to = let e : x.number ≤ n = a.1 in omega (arith, e, le)

-- ---- the laws ----

pub run_placed : (c : Config) (lines : List ScheduleLine) → EachRecord (IsPlaced lines) (trace_of (run_in c lines))
run_placed c lines = let p : Courses c lines (length lines) (run_in c lines) = run_courses c lines in each_placed lines (length lines) (run_in c lines).trace (omega arith) p.course.ascends

pub run_asked : (c : Config) (lines : List ScheduleLine) → EachRecord (IsAskedFor lines) (trace_of (run_in c lines))
run_asked c lines = let p : Courses c lines (length lines) (run_in c lines) = run_courses c lines in each_asked c lines (length lines) (run_in c lines).trace p.course.ascends p.course.rows p.good.law

-- ---- lists ----

member_record : (lines : List ScheduleLine) (n : ℕ) (r : Record) (before : Trace) → CutsNoSelf lines → AskedHere lines n before r → MemberRecord before r
member_record lines n (says.Join s id members) before none h = h.0 none
member_record lines n _ before none h = tt

each_member : (c : Config) (lines : List ScheduleLine) (trace : List Line) → CutsNoSelf lines → EachTold c lines trace → EachRecord IsMemberRow (shown trace)
each_member c lines [] none rows = tt
each_member c lines (x ∷ older) none rows = by_told (each_member c lines older none rows.1) x.told rows.0
  where
    by_told : EachRecord IsMemberRow (shown older) → (y : Told) → ToldRow c lines x.number (shown older) y → EachRecord IsMemberRow (with_told x.number y (shown older))
    by_told rest (Shown r) row = (member_record lines x.number r (shown older) none row.0, rest)
    by_told rest _ row = rest

pub run_members : (c : Config) (lines : List ScheduleLine) → CutsNoSelf lines → EachRecord IsMemberRow (trace_of (run_in c lines))
run_members c lines none = let p : Courses c lines (length lines) (run_in c lines) = run_courses c lines in each_member c lines (run_in c lines).trace none p.course.rows

-- each list that was ever joined is of sites 1 to 16
joined_short : (c : Config) (lines : List ScheduleLine) (trace : List Line) → EachTold c lines trace → (s : ℕ) (id : EpochId) (m : Members) → Joined s id m trace → IsShort m
joined_short c lines [] rows s id m j = absurd j
joined_short c lines (x ∷ older) rows s id m (inr j) = joined_short c lines older rows.1 s id m j
joined_short c lines (x ∷ older) rows s id m (inl j) = by_told x.told rows.0 j
  where
    by_record : (r : Record) → AskedHere lines x.number (shown older) r → IsJoinRecord s id m r → IsShort m
    by_record (says.Join t i n) row k = subst IsShort k.2 row.1
    by_record _ row k = absurd k

    by_told : (y : Told) → ToldRow c lines x.number (shown older) y → IsJoin s id m y → IsShort m
    by_told (Shown r) row k = by_record r row.0 k
    by_told _ row k = absurd k

pub run_short : (c : Config) (lines : List ScheduleLine) (s : ℕ) (id : EpochId) (m : Members) → Joined s id m (run_in c lines).trace → IsShort m
run_short c lines s id m j = let p : Courses c lines (length lines) (run_in c lines) = run_courses c lines in joined_short c lines (run_in c lines).trace p.course.rows s id m j

short_record : (lines : List ScheduleLine) (n : ℕ) (r : Record) (before : Trace) → AskedHere lines n before r → ShortRecord r
short_record lines n (says.Join s id members) before h = h.1
short_record lines n _ before h = tt

each_short : (c : Config) (lines : List ScheduleLine) (trace : List Line) → EachTold c lines trace → EachRecord IsShortRow (shown trace)
each_short c lines [] rows = tt
each_short c lines (x ∷ older) rows = by_told (each_short c lines older rows.1) x.told rows.0
  where
    by_told : EachRecord IsShortRow (shown older) → (y : Told) → ToldRow c lines x.number (shown older) y → EachRecord IsShortRow (with_told x.number y (shown older))
    by_told rest (Shown r) row = (short_record lines x.number r (shown older) row.0, rest)
    by_told rest _ row = rest

pub run_lists : (c : Config) (lines : List ScheduleLine) → EachRecord IsShortRow (trace_of (run_in c lines))
run_lists c lines = let p : Courses c lines (length lines) (run_in c lines) = run_courses c lines in each_short c lines (run_in c lines).trace p.course.rows
