-- A trace that grows by the records of one line: what was started stays so, and the records keep their rows.
use Rattle.locus_ids.specs.declared.config.Config.{Config}
use Rattle.schedule_lines.specs.Cluster.{config_of}
use Rattle.std.proofs.Common.{◌≡◌, ◌≢◌, ◌≤◌, ◌<◌, ℕ, zero, suc, ◌+◌, ◌-◌, ◌==◌, ◌⊎◌, nat_lt, Bool, true, false, cond, ◌||◌, not, List, [], ◌∷◌, Option, Some, refl, sym, ◌∙◌, ap, subst, inl, inr, arith}
use Rattle.std.proofs.lemmas.Bool.Decides.{nat_tests}
use Rattle.std.specs.List.{list_any}
use Rattle.role_steps.proofs.of_plain_facts.Numbers.{apart_test, less_test, not_less_test}
use Rattle.locus_ids.specs.declared.ids.EpochId.{EpochId}
use Rattle.commit_graph.specs.Vectors.{numbers_from}
use Rattle.trace_book.specs.declared.call.Call.{Call}
use Rattle.trace_book.specs.declared.call.Call.TheVariants as call
use Rattle.trace_book.specs.declared.record.Record.{Record}
use Rattle.trace_book.specs.declared.record.Record.TheVariants as says
use Rattle.schedule_lines.specs.declared.line.ScheduleLine.{ScheduleLine}
use Rattle.lawful_trace.specs.of_tree_model.Folds.{Trace, before_line}
use Rattle.lawful_trace.specs.of_tree_model.Epochs.{is_up, boot_of}
use Rattle.role_steps.specs.Own.{Every}
use Rattle.role_steps.specs.Views.{Told, Shown, Promises}
use Rattle.site_laws.specs.of_the_run.Worlds.{Line, told_onto}
use Rattle.site_laws.specs.of_run_laws.Naming.{Promised, IsDeed, Has}
use Rattle.lawful_trace.specs.Places.{line_at, initiator, starts_at}
use Rattle.lawful_trace.specs.SiteRows.{makes_leave, is_another, was_polled}
use Rattle.lawful_trace.specs.CallRows.{CallLine}
use Rattle.row_laws.specs.Shown.{with_told, shown}
use Rattle.row_laws.specs.Inward.{IsMend}
use Rattle.row_laws.specs.Events.{IsShort, Causes, SiteRecord, SiteTold}
use Rattle.row_laws.specs.Course.{Started, Polled, HasItself, AskedHere, UpRecord, ToldRow, EachTold, Ascends, Caused}

-- ---- tests ----

-- ---- the records before a line ----

-- what is told in a line leaves the records before that line, and before all earlier ones
pub before_told : (k m : ℕ) (x : Told) (now : Trace) → m ≤ k → before_line (with_told k x now) m ≡ before_line now m
before_told k m (Shown r) now h = ap (λ (b : Bool). cond b (record { line = k; what = r } ∷ now) (before_line now m)) (not_less_test k m h)
before_told k m _ now h = refl

told_before : (k m : ℕ) (x : Told) (now : Trace) → k < m → before_line now m ≡ now → before_line (with_told k x now) m ≡ with_told k x now
told_before k m (Shown r) now h e = ap (λ (b : Bool). cond b (record { line = k; what = r } ∷ now) (before_line now m)) (less_test k m h)
told_before k m _ now h e = e

pub before_all : (n m : ℕ) (trace : List Line) → Ascends n trace → n < m → before_line (shown trace) m ≡ shown trace
before_all n m [] a h = refl
before_all n m (x ∷ older) a h = told_before x.number m x.told (shown older) less (before_all x.number m older a.2 less)
  where
    less : x.number < m
    less = let le : x.number ≤ n = a.1 in omega (arith, le, h)

-- ---- what was started ----

pub started_told : (lines : List ScheduleLine) (n k s boot : ℕ) (x : Told) (now : Trace) → n ≤ k → Started lines now n s boot → Started lines (with_told k x now) n s boot
started_told lines n k s boot x now h g =
    let le : g.line ≤ k = (let to : g.line ≤ n = g.to in omega (arith, to, h)) in
    record {
      line = g.line;
      from = g.from;
      to = g.to;
      starter = ap (λ (t : Trace). starts_at (config_of lines) (line_at lines g.line) t) (before_told k g.line x now le) ∙ g.starter;
      boot_is = ap (λ (t : Trace). boot_of t s) (before_told k g.line x now le) ∙ g.boot_is;
    }

pub started_later : (lines : List ScheduleLine) (n k s boot : ℕ) (now : Trace) → n ≤ k → Started lines now n s boot → Started lines now k s boot
started_later lines n k s boot now h g = record { line = g.line; from = g.from; to = (let to : g.line ≤ n = g.to in omega (arith, to, h)); starter = g.starter; boot_is = g.boot_is }

-- what was promised was started
pub promise_started : (c : Config) (lines : List ScheduleLine) (n t : ℕ) (id : EpochId) (trace : List Line) → Ascends n trace → EachTold c lines trace → Has Promised t id trace → Started lines (shown trace) n id.site id.boot
promise_started c lines n t id [] a rows h = absurd h
promise_started c lines n t id (x ∷ older) a rows (inl h) = by_told x.told h rows.0
  where
    by_told : (y : Told) → IsDeed Promised t id y → ToldRow c lines x.number (shown older) y → Started lines (with_told x.number y (shown older)) n id.site id.boot
    by_told (Promises s i reach) d row = subst (λ (j : EpochId). Started lines (shown older) n j.site j.boot) d.1 (started_later lines x.number n i.site i.boot (shown older) a.1 row)
    by_told (Shown r) d row = absurd (no_record r d)
      where
        no_record : (r : Record) → IsDeed Promised t id (Shown r) → ⊥
        no_record (says.Join s i members) d = d
        no_record _ d = d
    by_told _ d row = absurd d
promise_started c lines n t id (x ∷ older) a rows (inr h) =
    started_later lines x.number n id.site id.boot (with_told x.number x.told (shown older)) a.1
    (started_told lines x.number x.number id.site id.boot x.told (shown older) (omega arith) (promise_started c lines x.number t id older a.2 rows.1 h))

-- ---- numbers of lines ----

pub ascends_later : (n m : ℕ) (trace : List Line) → n ≤ m → Ascends n trace → Ascends m trace
ascends_later n m [] h a = tt
ascends_later n m (x ∷ older) h a = (a.0, (let le : x.number ≤ n = a.1 in omega (arith, le, h)), a.2)

pub ascends_onto : (m : ℕ) (told : List Told) (trace : List Line) → 1 ≤ m → Ascends m trace → Ascends m (told_onto m told trace)
ascends_onto m [] trace h a = a
ascends_onto m (x ∷ xs) trace h a = ascends_onto m xs (record { number = m; told = x } ∷ trace) h (h, omega arith, a)

-- ---- the rows of what is told ----

abbrev pub AllRows : Config → List ScheduleLine → ℕ → List Told → List Line → Type 0
AllRows c lines m [] trace = Unit {0}
AllRows c lines m (x ∷ xs) trace = ToldRow c lines m (shown trace) x × AllRows c lines m xs (record { number = m; told = x } ∷ trace)

pub rows_onto : (c : Config) (lines : List ScheduleLine) (m : ℕ) (told : List Told) (trace : List Line) → AllRows c lines m told trace → EachTold c lines trace → EachTold c lines (told_onto m told trace)
rows_onto c lines m [] trace h g = g
rows_onto c lines m (x ∷ xs) trace h g = rows_onto c lines m xs (record { number = m; told = x } ∷ trace) h.1 (h.0, g)

-- ---- an event of a site ----

-- it boots and stops none
record_same_up : (c : Config) (s t m : ℕ) (k : Causes) (r : Record) (now : Trace) → SiteRecord s k r → is_up c (record { line = m; what = r } ∷ now) t ≡ is_up c now t
record_same_up c s t m k (says.Up u boot) now h = absurd h
record_same_up c s t m k (says.Stopped u why) now h = absurd h
record_same_up c s t m k _ now h = refl

record_same_boot : (s t m : ℕ) (k : Causes) (r : Record) (now : Trace) → SiteRecord s k r → boot_of (record { line = m; what = r } ∷ now) t ≡ boot_of now t
record_same_boot s t m k (says.Up u boot) now h = absurd h
record_same_boot s t m k _ now h = refl

pub told_same_up : (c : Config) (s t m : ℕ) (k : Causes) (x : Told) (now : Trace) → SiteTold s k x → is_up c (with_told m x now) t ≡ is_up c now t
told_same_up c s t m k (Shown r) now h = record_same_up c s t m k r now h
told_same_up c s t m k _ now h = refl

told_same_boot : (s t m : ℕ) (k : Causes) (x : Told) (now : Trace) → SiteTold s k x → boot_of (with_told m x now) t ≡ boot_of now t
told_same_boot s t m k (Shown r) now h = record_same_boot s t m k r now h
told_same_boot s t m k _ now h = refl

pub onto_same_up : (c : Config) (s t m : ℕ) (k : Causes) (told : List Told) (trace : List Line) → Every (SiteTold s k) told → is_up c (shown (told_onto m told trace)) t ≡ is_up c (shown trace) t
onto_same_up c s t m k [] trace h = refl
onto_same_up c s t m k (x ∷ xs) trace h = onto_same_up c s t m k xs (record { number = m; told = x } ∷ trace) h.1 ∙ told_same_up c s t m k x (shown trace) h.0

pub onto_same_boot : (s t m : ℕ) (k : Causes) (told : List Told) (trace : List Line) → Every (SiteTold s k) told → boot_of (shown (told_onto m told trace)) t ≡ boot_of (shown trace) t
onto_same_boot s t m k [] trace h = refl
onto_same_boot s t m k (x ∷ xs) trace h = onto_same_boot s t m k xs (record { number = m; told = x } ∷ trace) h.1 ∙ told_same_boot s t m k x (shown trace) h.0

-- its causes stay as it tells
pub caused_told : (c : Config) (lines : List ScheduleLine) (m s : ℕ) (k : Causes) (x : Told) (now : Trace) → SiteTold s k x → Caused c lines m s k now → Caused c lines m s k (with_told m x now)
caused_told c lines m s k x now h g = record {
  up = told_same_up c s s m k x now h ∙ g.up;
  leave = λ l. by_leave (g.leave l);
  promise = λ id p. started_told lines m m id.site id.boot x now (omega arith) (g.promise id p);
  join = λ members j. (λ none. (g.join members j).0 none ∙ sym (told_same_boot s s m k x now h), (g.join members j).1);
  accept = g.accept;
}
  where
    by_leave : (makes_leave (line_at lines m) s ≡ true) ⊎ Polled lines now m s → (makes_leave (line_at lines m) s ≡ true) ⊎ Polled lines (with_told m x now) m s
    by_leave (inl e) = inl e
    by_leave (inr p) = inr (record { by = p.by; boot = p.boot; last = p.last; started = started_told lines p.last m p.by p.boot x now (let e : p.last + 1 ≤ m = p.early in omega (arith, e)) p.started; early = p.early; other = p.other })

-- ---- a leave ----

some_another : (o : Option ℕ) (by site : ℕ) → o ≡ Some by → by ≢ site → is_another o site ≡ true
some_another o by site e ne = ap (λ (x : Option ℕ). is_another x site) e ∙ ap not (apart_test by site ne)

pub either_true : (a b : Bool) → (a ≡ true) ⊎ (b ≡ true) → (a || b) ≡ true
either_true true b h = refl
either_true false b (inl e) = absurd (never e)
  where
    never : false ≡ true → ⊥
    never e = cc
either_true false b (inr e) = e

any_from : (p : ℕ → Bool) (first many m : ℕ) → p m ≡ true → first ≤ m → m < first + many → list_any p (numbers_from first many) ≡ true
any_from p first zero m e low high = absurd (omega (arith, low, high))
any_from p first (suc many) m e low high =
    either_true (p first) (list_any p (numbers_from (first + 1) many))
    (elim (first == m) as (λ t. (first == m) ≡ t → (p first ≡ true) ⊎ (list_any p (numbers_from (first + 1) many) ≡ true)) [
      | true ↦ λ t. inl (ap p (is_same first m t) ∙ e)
      | false ↦ λ t. inr (any_from p (first + 1) many m e (above first m low t) (below first many m high))
    ] refl)
  where
    is_same : (a b : ℕ) → (a == b) ≡ true → a ≡ b
    is_same a b t = grind (arith, nat_tests)

    above : (a b : ℕ) → a ≤ b → (a == b) ≡ false → a + 1 ≤ b
    above a b h t = grind (arith, nat_tests)

    below : (a n m : ℕ) → m < a + suc n → m < (a + 1) + n
    below a n m h = omega (arith, h)

pub any_number : (p : ℕ → Bool) (m n : ℕ) → p m ≡ true → 1 ≤ m → m ≤ n → list_any p (numbers_from 1 n) ≡ true
any_number p m n e low high = any_from p 1 n m e low (omega (arith, high))

pub polled_test : (lines : List ScheduleLine) (now : Trace) (n site : ℕ) → Polled lines now n site → was_polled lines now n site ≡ true
polled_test lines now n site p =
    any_number (λ m. is_another (initiator lines now m) site) p.started.line (n - 1) (some_another (initiator lines now p.started.line) p.by site p.started.starter p.other) p.started.from
    (let a : p.started.line ≤ p.last = p.started.to in let b : p.last + 1 ≤ n = p.early in omega (arith, a, b))

leave_cause : (lines : List ScheduleLine) (now : Trace) (n site : ℕ) → (makes_leave (line_at lines n) site ≡ true) ⊎ Polled lines now n site → makes_leave (line_at lines n) site || was_polled lines now n site ≡ true
leave_cause lines now n site (inl e) = either_true (makes_leave (line_at lines n) site) (was_polled lines now n site) (inl e)
leave_cause lines now n site (inr p) = either_true (makes_leave (line_at lines n) site) (was_polled lines now n site) (inr (polled_test lines now n site p))

-- ---- the rows of an event ----

mend_line : (lines : List ScheduleLine) (n site process : ℕ) (words : Call) → IsMend words → CallLine lines n site process words
mend_line lines n site process (call.Mend file) h = tt
mend_line lines n site process (call.Create path sites) h = absurd h
mend_line lines n site process (call.MakeDir path) h = absurd h
mend_line lines n site process (call.Unlink path) h = absurd h
mend_line lines n site process (call.RemoveDir path) h = absurd h
mend_line lines n site process (call.Rename path name) h = absurd h
mend_line lines n site process (call.List path) h = absurd h
mend_line lines n site process (call.Stat path) h = absurd h
mend_line lines n site process (call.Mail path bytes) h = absurd h
mend_line lines n site process (call.Mails path) h = absurd h
mend_line lines n site process (call.Open path mode) h = absurd h
mend_line lines n site process (call.Read fd at len) h = absurd h
mend_line lines n site process (call.Write fd at bytes) h = absurd h
mend_line lines n site process (call.Cut fd len) h = absurd h
mend_line lines n site process (call.Commit fd) h = absurd h
mend_line lines n site process (call.Abort fd) h = absurd h
mend_line lines n site process (call.Close fd) h = absurd h

accept_line : (c : Config) (lines : List ScheduleLine) (m s t process : ℕ) (k : Causes) (words : Call) (now : Trace) → Caused c lines m s k now → IsMend words ⊎ ((t ≡ s) × k.accept process words) → CallLine lines m t process words
accept_line c lines m s t process k words now g (inl h) = mend_line lines m t process words h
accept_line c lines m s t process k words now g (inr h) = subst (λ (u : ℕ). CallLine lines m u process words) (sym h.0) (g.accept process words h.1)

record_row : (c : Config) (lines : List ScheduleLine) (m s : ℕ) (k : Causes) (r : Record) (now : Trace) → SiteRecord s k r → Caused c lines m s k now → AskedHere lines m now r × UpRecord c now r
record_row c lines m s k (says.Leave t id) now h g = (record { cause = subst (λ (u : ℕ). makes_leave (line_at lines m) u || was_polled lines now m u ≡ true) (sym h.0) (leave_cause lines now m s (g.leave h.1)) }, subst (λ (u : ℕ). is_up c now u ≡ true) (sym h.0) g.up)
record_row c lines m s k (says.Join t id members) now h g = (subst (λ (u : ℕ). HasItself lines now u members × IsShort members) (sym h.0) (g.join members h.1), subst (λ (u : ℕ). is_up c now u ≡ true) (sym h.0) g.up)
record_row c lines m s k (says.Accept t process id words) now h g = (accept_line c lines m s t process k words now g h, tt)
record_row c lines m s k (says.Up t boot) now h g = absurd h
record_row c lines m s k (says.Stopped t why) now h g = absurd h
record_row c lines m s k (says.Packet number from to kind) now h g = absurd h
record_row c lines m s k says.Void now h g = absurd h
record_row c lines m s k says.Budget now h g = absurd h
record_row c lines m s k _ now h g = (tt, tt)

pub told_row : (c : Config) (lines : List ScheduleLine) (m s : ℕ) (k : Causes) (x : Told) (now : Trace) → SiteTold s k x → Caused c lines m s k now → ToldRow c lines m now x
told_row c lines m s k (Shown r) now h g = record_row c lines m s k r now h g
told_row c lines m s k (Promises t id reach) now h g = g.promise id h.1
told_row c lines m s k _ now h g = tt

pub site_rows : (c : Config) (lines : List ScheduleLine) (m s : ℕ) (k : Causes) (told : List Told) (trace : List Line) → Every (SiteTold s k) told → Caused c lines m s k (shown trace) → AllRows c lines m told trace
site_rows c lines m s k [] trace h g = tt
site_rows c lines m s k (x ∷ xs) trace h g = (told_row c lines m s k x (shown trace) h.0 g, site_rows c lines m s k xs (record { number = m; told = x } ∷ trace) h.1 (caused_told c lines m s k x (shown trace) h.0 g))
