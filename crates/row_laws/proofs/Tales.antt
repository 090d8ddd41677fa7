-- What the lines of a trace tell, record by record.
use Rattle.locus_ids.specs.declared.config.Config.{Config}
use Rattle.schedule_lines.specs.Cluster.{config_of}
use Rattle.std.proofs.Common.{◌≡◌, ◌≢◌, ◌≤◌, ◌<◌, ℕ, ◌+◌, ◌==◌, nat_le, Bool, true, false, cond, ◌||◌, ◌&&◌, not, List, [], ◌∷◌, length, take, filter, Option, Some, None, refl, sym, ◌∙◌, ap, subst, arith, ◌⊎◌, inl, inr}
use Rattle.std.proofs.lemmas.Bool.Decides.{nat_tests}
use Rattle.role_steps.proofs.of_plain_facts.Numbers.{apart_test, equal_self}
use Rattle.role_steps.proofs.of_plain_facts.Tests.{or_true}
use Rattle.schedule_lines.specs.declared.line.Line.{Line as LineWords}
use Rattle.schedule_lines.specs.declared.line.Line.TheVariants as line
use Rattle.schedule_lines.specs.declared.line.ScheduleLine.{ScheduleLine}
use Rattle.schedule_lines.specs.declared.line.ScheduleLine.TheVariants.{Passed, Header, Event as EventLine}
use Rattle.trace_book.specs.declared.entry.Entry.{Entry}
use Rattle.trace_book.specs.declared.record.Record.{Record}
use Rattle.trace_book.specs.declared.record.Record.TheVariants as says
use Rattle.wire_messages.specs.declared.packet.Packet.{Packet}
use Rattle.role_steps.specs.Own.{Every}
use Rattle.role_steps.specs.Tables.{total}
use Rattle.role_steps.specs.Views.{Told, Shown}
use Rattle.lawful_trace.specs.of_tree_model.Folds.{Trace, before_line}
use Rattle.site_laws.specs.of_the_run.Worlds.{World, Limit, Line, happened, happened_of, unless_over, limit_passed, packet_size, told_size, told_onto}
use Rattle.lawful_trace.specs.Places.{line_at, lines_before}
use Rattle.lawful_trace.specs.LineRows.{has_no_effect, is_void_after, is_void_line, may_be_void, is_void, tale, must_tell, how_many, is_told_by, is_told}
use Rattle.row_laws.specs.Shown.{with_told, shown, trace_of}
use Rattle.row_laws.specs.ByLine.{IsLine, begins_quietly}
use Rattle.row_laws.specs.Course.{Ascends, InCourse}
use Rattle.row_laws.specs.Tales.{LineTold, ToldTo, TalesTold}
use Rattle.row_laws.proofs.Tracing.{before_told}
use Rattle.row_laws.proofs.Voids.{NoVoid, NoVoidRecord, void_now}

-- ---- how many records ----

-- of another line
many_other : (p : Record → Bool) (k m : ℕ) (x : Told) (now : Trace) → k ≢ m → how_many p m (with_told k x now) ≡ how_many p m now
many_other p k m (Shown r) now ne = ap (λ (b : Bool). length (cond (b && p r) (record { line = k; what = r } ∷ filter (λ (q : Entry). (q.line == m) && p q.what) now) (filter (λ (q : Entry). (q.line == m) && p q.what) now))) (apart_test k m ne)
many_other p k m _ now ne = refl

-- what the test doesn't pass
abbrev pub Passes : (Record → Bool) → Bool → Told → Type 0
Passes p b (Shown r) = p r ≡ b
Passes p b _ = Unit {0}

many_none : (p : Record → Bool) (m : ℕ) (x : Told) (now : Trace) → Passes p false x → how_many p m (with_told m x now) ≡ how_many p m now
many_none p m (Shown r) now h = ap (λ (b : Bool). length (cond b (record { line = m; what = r } ∷ filter (λ (q : Entry). (q.line == m) && p q.what) now) (filter (λ (q : Entry). (q.line == m) && p q.what) now))) (ap (λ (b : Bool). (m == m) && b) h ∙ and_false (m == m))
  where
    and_false : (b : Bool) → (b && false) ≡ false
    and_false true = refl
    and_false false = refl
many_none p m _ now h = refl

pub many_onto : (p : Record → Bool) (m : ℕ) (told : List Told) (trace : List Line) → Every (Passes p false) told → how_many p m (shown (told_onto m told trace)) ≡ how_many p m (shown trace)
many_onto p m [] trace h = refl
many_onto p m (x ∷ xs) trace h = many_onto p m xs (record { number = m; told = x } ∷ trace) h.1 ∙ many_none p m x (shown trace) h.0

one_length : (x : Entry) (xs : List Entry) → length (x ∷ xs) ≡ length xs + 1
one_length x xs = omega arith

pub many_one : (p : Record → Bool) (m : ℕ) (r : Record) (now : Trace) → p r ≡ true → how_many p m (record { line = m; what = r } ∷ now) ≡ how_many p m now + 1
many_one p m r now h =
    ap (λ (b : Bool). length (cond b (record { line = m; what = r } ∷ filter (λ (q : Entry). (q.line == m) && p q.what) now) (filter (λ (q : Entry). (q.line == m) && p q.what) now))) (ap (λ (b : Bool). (m == m) && b) h ∙ ap (λ (b : Bool). b && true) (equal_self m))
    ∙ one_length (record { line = m; what = r }) (filter (λ (q : Entry). (q.line == m) && p q.what) now)

-- none of a line that hasn't begun
pub none_yet : (p : Record → Bool) (n m : ℕ) (trace : List Line) → Ascends n trace → n < m → how_many p m (shown trace) ≡ 0
none_yet p n m [] a h = refl
none_yet p n m (x ∷ older) a h = many_other p x.number m x.told (shown older) (differ x.number n m a.1 h) ∙ none_yet p x.number m older a.2 (below x.number n m a.1 h)
  where
    below : (k n m : ℕ) → k ≤ n → n < m → k < m
    below k n m h g = omega (arith, h, g)

    differ : (k n m : ℕ) → k ≤ n → n < m → k ≡ m → ⊥
    differ k n m h g e = omega (arith, h, g, e)

-- ---- the lines before ----

told_by_same : (d : Option Bool) (l : ScheduleLine) (m : ℕ) (later now : Trace) → ((p : Record → Bool) → how_many p m later ≡ how_many p m now) → is_told_by d l m later ≡ is_told_by d l m now
told_by_same None l m later now same = ap (λ (k : ℕ). nat_le k 1) (same is_void)
told_by_same (Some true) l m later now same = ap (λ (k : ℕ). k == 1) (same is_void)
told_by_same (Some false) Passed m later now same = refl
told_by_same (Some false) (Header h) m later now same = refl
told_by_same (Some false) (EventLine l) m later now same = ap (λ (k : ℕ). not (must_tell l) || (k == 1)) (same (tale l))

void_same : (lines : List ScheduleLine) (k m : ℕ) (x : Told) (now : Trace) → m ≤ k → is_void_line lines (with_told k x now) m ≡ is_void_line lines now m
void_same lines k m x now h = ap (λ (t : Trace). is_void_after (config_of lines) (lines_before lines m) t (line_at lines m)) (before_told k m x now h)

told_same : (lines : List ScheduleLine) (k m : ℕ) (x : Told) (now : Trace) → m ≤ k → k ≢ m → is_told lines (with_told k x now) m ≡ is_told lines now m
told_same lines k m x now h ne =
    ap (λ (d : Option Bool). is_told_by d (line_at lines m) m (with_told k x now)) (void_same lines k m x now h)
    ∙ told_by_same (is_void_line lines now m) (line_at lines m) m (with_told k x now) now (λ p. many_other p k m x now ne)

-- what a later line tells leaves them
pub onto_told : (lines : List ScheduleLine) (k m : ℕ) (told : List Told) (trace : List Line) → m ≤ k → k ≢ m → is_told lines (shown (told_onto k told trace)) m ≡ is_told lines (shown trace) m
onto_told lines k m [] trace h ne = refl
onto_told lines k m (x ∷ xs) trace h ne = onto_told lines k m xs (record { number = k; told = x } ∷ trace) h ne ∙ told_same lines k m x (shown trace) h ne

differ_below : (k n m : ℕ) → m ≤ n → n < k → k ≡ m → ⊥
differ_below k n m h g e = omega (arith, h, g, e)

pub told_to_onto : (lines : List ScheduleLine) (n k : ℕ) (told : List Told) (trace : List Line) → n < k → ToldTo lines n (shown trace) → ToldTo lines n (shown (told_onto k told trace))
told_to_onto lines n k told trace h t m low high none = onto_told lines k m told trace (omega (arith, h, high)) (differ_below k n m high h) ∙ t m low high none

last_or : (m n : ℕ) → m ≤ n + 1 → (m ≤ n) ⊎ (n + 1 ≡ m)
last_or m n h = (elim (m == n + 1) as (λ b. (m == n + 1) ≡ b → (m ≤ n) ⊎ (n + 1 ≡ m)) [ true ↦ λ e. inr (same e) | false ↦ λ e. inl (below e) ]) refl
  where
    same : (m == n + 1) ≡ true → n + 1 ≡ m
    same e = grind (arith, nat_tests)

    below : (m == n + 1) ≡ false → m ≤ n
    below e = grind (arith, nat_tests, h)

pub told_to_next : (lines : List ScheduleLine) (n : ℕ) (now : Trace) → ToldTo lines n now → LineTold lines now (n + 1) → ToldTo lines (n + 1) now
told_to_next lines n now t last m low high = either (last_or m n high)
  where
    either : (m ≤ n) ⊎ (n + 1 ≡ m) → LineTold lines now m
    either (inl h) = t m low h
    either (inr e) = subst (LineTold lines now) e last

-- ---- the line that begins ----

onto_before : (k m : ℕ) (told : List Told) (trace : List Line) → m ≤ k → before_line (shown (told_onto k told trace)) m ≡ before_line (shown trace) m
onto_before k m [] trace h = refl
onto_before k m (x ∷ xs) trace h = onto_before k m xs (record { number = k; told = x } ∷ trace) h ∙ before_told k m x (shown trace) h

-- whether it is void, also after what it tells
pub void_here : (c : Config) (lines : List ScheduleLine) (n : ℕ) (l : LineWords) (told : List Told) (w : World) → IsLine lines (n + 1) l → InCourse c lines n w → is_void_line lines (shown (told_onto (n + 1) told w.trace)) (n + 1) ≡ has_no_effect (config_of lines) (take n lines) (trace_of w) l
void_here c lines n l told w is f = ap (λ (t : Trace). is_void_after c (lines_before lines (n + 1)) t (line_at lines (n + 1))) (onto_before (n + 1) (n + 1) told w.trace (omega arith)) ∙ void_now c lines n l w is f

by_words : (lines : List ScheduleLine) (m : ℕ) (l : LineWords) (d e : Option Bool) (now : Trace) → IsLine lines m l → is_void_line lines now m ≡ d → d ≡ e → is_told_by e (EventLine l) m now ≡ true → is_told lines now m ≡ true
by_words lines m l d e now is v q h = ap (λ (x : Option Bool). is_told_by x (line_at lines m) m now) (v ∙ q) ∙ (ap (λ (x : ScheduleLine). is_told_by e x m now) is ∙ h)

void_told : (d : Option Bool) (l : ScheduleLine) (m : ℕ) (now : Trace) → may_be_void d ≡ true → how_many is_void m now ≡ 1 → is_told_by d l m now ≡ true
void_told None l m now h k = ap (λ (n : ℕ). nat_le n 1) k
void_told (Some true) l m now h k = ap (λ (n : ℕ). n == 1) k
void_told (Some false) l m now h k = absurd (never h)
  where
    never : false ≡ true → ⊥
    never e = cc

-- a void line tells that it is, once
pub voids_told : (c : Config) (lines : List ScheduleLine) (n : ℕ) (l : LineWords) (w : World) → IsLine lines (n + 1) l → InCourse c lines n w → may_be_void (has_no_effect (config_of lines) (take n lines) (trace_of w) l) ≡ true → is_told lines (record { line = n + 1; what = says.Void } ∷ trace_of w) (n + 1) ≡ true
voids_told c lines n l w is f void =
    by_words lines (n + 1) l (has_no_effect c (take n lines) (trace_of w) l) (has_no_effect c (take n lines) (trace_of w) l) (record { line = n + 1; what = says.Void } ∷ trace_of w) is (void_here c lines n l (Shown says.Void ∷ []) w is f) refl
    (void_told (has_no_effect c (take n lines) (trace_of w) l) (EventLine l) (n + 1) (record { line = n + 1; what = says.Void } ∷ trace_of w) void (many_one is_void (n + 1) says.Void (trace_of w) refl ∙ ap (λ (k : ℕ). k + 1) (none_yet is_void n (n + 1) w.trace f.ascends (omega arith))))

-- a line that isn't void, and must tell nothing
pub silent_told : (c : Config) (lines : List ScheduleLine) (n : ℕ) (l : LineWords) (told : List Told) (w : World) → IsLine lines (n + 1) l → InCourse c lines n w → has_no_effect (config_of lines) (take n lines) (trace_of w) l ≡ Some false → must_tell l ≡ false → is_told lines (shown (told_onto (n + 1) told w.trace)) (n + 1) ≡ true
silent_told c lines n l told w is f none must =
    by_words lines (n + 1) l (has_no_effect c (take n lines) (trace_of w) l) (Some false) (shown (told_onto (n + 1) told w.trace)) is (void_here c lines n l told w is f) none
    (ap (λ (b : Bool). not b || (how_many (tale l) (n + 1) (shown (told_onto (n + 1) told w.trace)) == 1)) must)

-- a line that isn't void, and tells what it must, first
pub tale_told : (c : Config) (lines : List ScheduleLine) (n : ℕ) (l : LineWords) (r : Record) (rest : List Told) (w : World) → IsLine lines (n + 1) l → InCourse c lines n w → has_no_effect (config_of lines) (take n lines) (trace_of w) l ≡ Some false → tale l r ≡ true → Every (Passes (tale l) false) rest → is_told lines (shown (told_onto (n + 1) (Shown r ∷ rest) w.trace)) (n + 1) ≡ true
tale_told c lines n l r rest w is f none here others =
    by_words lines (n + 1) l (has_no_effect c (take n lines) (trace_of w) l) (Some false) now is (void_here c lines n l (Shown r ∷ rest) w is f) none
    (ap (λ (k : ℕ). not (must_tell l) || (k == 1)) once ∙ or_true (not (must_tell l)))
  where
    now : Trace
    now = shown (told_onto (n + 1) (Shown r ∷ rest) w.trace)

    once : how_many (tale l) (n + 1) now ≡ 1
    once = many_onto (tale l) (n + 1) rest (record { number = n + 1; told = Shown r } ∷ w.trace) others ∙ (many_one (tale l) (n + 1) r (trace_of w) here ∙ ap (λ (k : ℕ). k + 1) (none_yet (tale l) n (n + 1) w.trace f.ascends (omega arith)))

-- ---- a line in its course ----

no_void : (r : Record) → NoVoidRecord r → is_void r ≡ false
no_void says.Void h = absurd h
no_void _ h = refl

no_voids : (told : List Told) → Every NoVoid told → Every (Passes is_void false) told
no_voids [] h = tt
no_voids (x ∷ xs) h = (of_told x h.0, no_voids xs h.1)
  where
    of_told : (x : Told) → NoVoid x → Passes is_void false x
    of_told (Shown r) h = no_void r h
    of_told _ h = tt

quiet_line : (lines : List ScheduleLine) (m : ℕ) (l : ScheduleLine) (now : Trace) → line_at lines m ≡ l → begins_quietly l ≡ true → how_many is_void m now ≤ 1 → is_told lines now m ≡ true
quiet_line lines m l now is q few = ap (λ (x : ScheduleLine). is_told_by (is_void_after (config_of lines) (lines_before lines m) (before_line now m) x) x m now) is ∙ of_line l q
  where
    never : false ≡ true → ⊥
    never e = cc

    at_most : (k : ℕ) → k ≤ 1 → nat_le k 1 ≡ true
    at_most k h = grind (arith, nat_tests)

    of_line : (l : ScheduleLine) → begins_quietly l ≡ true → is_told_by (is_void_after (config_of lines) (lines_before lines m) (before_line now m) l) l m now ≡ true
    of_line Passed q = refl
    of_line (Header h) q = refl
    of_line (EventLine (line.Deliver packet)) q = at_most (how_many is_void m now) few
    of_line (EventLine (line.Lose packet)) q = at_most (how_many is_void m now) few
    of_line (EventLine (line.Settle most)) q = refl
    of_line (EventLine (line.Call site process words)) q = absurd (never q)
    of_line (EventLine (line.Tick site)) q = absurd (never q)
    of_line (EventLine (line.Down one other)) q = absurd (never q)
    of_line (EventLine (line.Up one other)) q = absurd (never q)
    of_line (EventLine (line.Part site)) q = absurd (never q)
    of_line (EventLine (line.Merge site)) q = absurd (never q)
    of_line (EventLine (line.GiveUp site)) q = absurd (never q)
    of_line (EventLine (line.Stop site)) q = absurd (never q)
    of_line (EventLine (line.ArmStop site calls left)) q = absurd (never q)
    of_line (EventLine (line.ArmFail site calls)) q = absurd (never q)
    of_line (EventLine (line.Boot site)) q = absurd (never q)
    of_line (EventLine line.Pending) q = absurd (never q)

few_of : (k : ℕ) → k ≡ 0 → k ≤ 1
few_of k e = omega (arith, e)

-- it begins
pub quiet_told : (c : Config) (lines : List ScheduleLine) (n : ℕ) (w : World) → begins_quietly (line_at lines (n + 1)) ≡ true → InCourse c lines n w → is_told lines (trace_of w) (n + 1) ≡ true
quiet_told c lines n w q f = quiet_line lines (n + 1) (line_at lines (n + 1)) (trace_of w) refl q (few_of (how_many is_void (n + 1) (trace_of w)) (none_yet is_void n (n + 1) w.trace f.ascends (omega arith)))

-- what else it tells is no void line
void_few : (lines : List ScheduleLine) (m : ℕ) (l : ScheduleLine) (now : Trace) → line_at lines m ≡ l → is_told_by (is_void_after (config_of lines) (lines_before lines m) (before_line now m) l) l m now ≡ true → begins_quietly l ≡ true → (later : Trace) → how_many is_void m later ≡ how_many is_void m now → is_told lines later m ≡ true
void_few lines m Passed now is t q later same = quiet_passed
  where
    quiet_passed : is_told lines later m ≡ true
    quiet_passed = ap (λ (x : ScheduleLine). is_told_by (is_void_after (config_of lines) (lines_before lines m) (before_line later m) x) x m later) is
void_few lines m (Header h) now is t q later same = ap (λ (x : ScheduleLine). is_told_by (is_void_after (config_of lines) (lines_before lines m) (before_line later m) x) x m later) is
void_few lines m (EventLine (line.Settle most)) now is t q later same = ap (λ (x : ScheduleLine). is_told_by (is_void_after (config_of lines) (lines_before lines m) (before_line later m) x) x m later) is
void_few lines m (EventLine (line.Deliver packet)) now is t q later same = ap (λ (x : ScheduleLine). is_told_by (is_void_after (config_of lines) (lines_before lines m) (before_line later m) x) x m later) is ∙ (ap (λ (k : ℕ). nat_le k 1) same ∙ t)
void_few lines m (EventLine (line.Lose packet)) now is t q later same = ap (λ (x : ScheduleLine). is_told_by (is_void_after (config_of lines) (lines_before lines m) (before_line later m) x) x m later) is ∙ (ap (λ (k : ℕ). nat_le k 1) same ∙ t)
void_few lines m (EventLine (line.Call site process words)) now is t q later same = absurd (never q)
  where
    never : false ≡ true → ⊥
    never e = cc
void_few lines m (EventLine (line.Tick site)) now is t q later same = absurd (cc)
void_few lines m (EventLine (line.Down one other)) now is t q later same = absurd (cc)
void_few lines m (EventLine (line.Up one other)) now is t q later same = absurd (cc)
void_few lines m (EventLine (line.Part site)) now is t q later same = absurd (cc)
void_few lines m (EventLine (line.Merge site)) now is t q later same = absurd (cc)
void_few lines m (EventLine (line.GiveUp site)) now is t q later same = absurd (cc)
void_few lines m (EventLine (line.Stop site)) now is t q later same = absurd (cc)
void_few lines m (EventLine (line.ArmStop site calls left)) now is t q later same = absurd (cc)
void_few lines m (EventLine (line.ArmFail site calls)) now is t q later same = absurd (cc)
void_few lines m (EventLine (line.Boot site)) now is t q later same = absurd (cc)
void_few lines m (EventLine line.Pending) now is t q later same = absurd (cc)

pub course_told : (lines : List ScheduleLine) (m : ℕ) (l : ScheduleLine) (told : List Told) (trace : List Line) → line_at lines m ≡ l → begins_quietly l ≡ true → Every NoVoid told → is_told lines (shown trace) m ≡ true → is_told lines (shown (told_onto m told trace)) m ≡ true
course_told lines m l told trace is q h t =
    void_few lines m l (shown trace) is (ap (λ (x : ScheduleLine). is_told_by (is_void_after (config_of lines) (lines_before lines m) (before_line (shown trace) m) x) x m (shown trace)) (sym is) ∙ t) q (shown (told_onto m told trace)) (many_onto is_void m told trace (no_voids told h))

-- ---- within the limits ----

no_limit : (l : Limit) → ◌≡◌ {A = Option Limit} (Some l) None → ⊥
no_limit l e = cc

-- what holds of the records after an event, where no limit was passed and none is by it
pub happened_none : (P : Trace → Type 0) (m : ℕ) (ps : List Packet) (told : List Told) (change : World → World) (w : World) → (w.over ≡ None → P (shown (told_onto m told w.trace))) → (happened m ps told change w).over ≡ None → P (trace_of (happened m ps told change w))
happened_none P m ps told change w h = by_over w.over refl
  where
    After : World → Type 0
    After u = u.over ≡ None → P (trace_of u)

    by_limit : (l : Option Limit) (b t : ℕ) → w.over ≡ None → After (unless_over l m ps told change (w.packets + length ps) b t w)
    by_limit (Some l) b t none = λ e. absurd (no_limit l e)
    by_limit None b t none = λ e. h none

    by_over : (o : Option Limit) → w.over ≡ o → After (happened_of o m ps told change w)
    by_over (Some l) is = λ e. absurd (no_limit l (sym is ∙ e))
    by_over None is = by_limit (limit_passed (w.packets + length ps) (w.bytes + total packet_size ps) (w.text + total (told_size m) told)) (w.bytes + total packet_size ps) (w.text + total (told_size m) told) is

pub happened_tales : (lines : List ScheduleLine) (m : ℕ) (ps : List Packet) (told : List Told) (change : World → World) (w : World) → (w.over ≡ None → ToldTo lines m (shown (told_onto m told w.trace))) → TalesTold lines m (happened m ps told change w)
happened_tales lines m ps told change w h = happened_none (ToldTo lines m) m ps told change w h
