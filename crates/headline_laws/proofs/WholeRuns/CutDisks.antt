-- The disks of a trace, record by record: exactly by what was written, and as the lawful trace counts them at least.
use Rattle.std.proofs.Common.{◌≡◌, ◌≢◌, ◌≤◌, ◌<◌, ℕ, zero, suc, ◌+◌, ◌-◌, ◌*◌, ◌==◌, Bool, true, false, not, ◌&&◌, ◌||◌, cond, List, [], ◌∷◌, length, filter, take, drop, fold, Option, Some, None, refl, sym, ◌∙◌, ap, subst, arith}
use Rattle.std.specs.List.{list_any}
use Rattle.std.specs.Prelude.{nat_lt}
use Rattle.role_steps.proofs.of_plain_facts.Numbers.{apart_test, at_most, at_most_test, equal_self}
use Rattle.role_steps.proofs.of_plain_facts.Tests.{false_true}
use Rattle.locus_ids.specs.declared.config.Config.{Config}
use Rattle.locus_ids.specs.declared.ids.FileId.{FileId}
use Rattle.locus_ids.specs.declared.ids.Stamp.{Stamp}
use Rattle.file_content.specs.Pages.{has_page, is_under, is_table_written, pages_from, pages_under, tables_written}
use Rattle.locus_ids.specs.Sizes.{content_tables_max}
use Rattle.schedule_lines.specs.declared.line.Line.TheVariants as line
use Rattle.schedule_lines.specs.declared.line.ScheduleLine.{ScheduleLine}
use Rattle.schedule_lines.specs.declared.line.ScheduleLine.TheVariants.{Event as EventLine}
use Rattle.trace_book.specs.declared.record.Record.{Record}
use Rattle.trace_book.specs.declared.record.Record.TheVariants as says
use Rattle.trace_book.specs.declared.record.StopCause.{StopCause}
use Rattle.disk_calls.specs.Boots.{are_halves_open, calls_of_boot}
use Rattle.disk_calls.specs.Versions.{blocks_of, blocks}
use Rattle.role_steps.specs.Own.{Every}
use Rattle.role_steps.specs.Views.{SiteView, Told, Shown, DiskWrite}
use Rattle.tree_model.specs.Folds.{Trace, last_line}
use Rattle.tree_model.specs.Epochs.{is_up}
use Rattle.tree_model.specs.Histories.{held}
use Rattle.the_run.specs.Disks.{Disk as DiskLeft}
use Rattle.the_run.specs.Worlds.{Line, Place, Running, Stopped, told_onto}
use Rattle.lawful_trace.specs.Places.{line_at}
use Rattle.lawful_trace.specs.Disks.{Arming, Armed, Writing, calls_of, cut_of, calls_of_writing, armed_by, newly_armed, through_lines, written_with, written, booted_with, stopped_with, writing_commit, writing_adoption, pages_held, has_left}
use Rattle.lawful_trace.specs.Disks as lawful
use Rattle.row_laws.specs.Shown.{with_told, shown}
use Rattle.row_laws.specs.Arms.{NoDiskRecord, NoDisk}
use Rattle.row_laws.proofs.ArmsTraced.{through_next}
use Rattle.row_laws.proofs.Versions.{VersionOf}
use Rattle.headline_laws.specs.WholeRuns.Wrote.{Disk, writing_adopted, disk_written, disk_booted, disk_stopped, halves_booted, slots_after, slots_stopped, disk_after, disk_of, disk_at, AgreeBelow, wrote_next}
use Rattle.headline_laws.specs.WholeRuns.CutCounts.{IsUnused, LeastArmed, IsLeast}

-- ---- one record more ----

none_between : (n : ℕ) → n - n ≡ 0
none_between n = omega arith

-- the disk after a record of the line that has begun last
pub disk_more : (wrote : ℕ → List ℕ) (c : Config) (lines : List ScheduleLine) (n s : ℕ) (r : Record) (before : Trace) → disk_at wrote c lines (record { line = n; what = r } ∷ before) n s ≡ disk_after (wrote (length before)) r c before s (disk_at wrote c lines before n s)
disk_more wrote c lines n s r before = ap (λ (k : ℕ). record now { rest = fold (λ old l. armed_by s l old) now.rest (take k (drop n lines)) }) (none_between n)
  where
    now : Disk
    now = disk_after (wrote (length before)) r c before s (disk_at wrote c lines before n s)

-- the disk as the next line finds it
pub disk_next : (wrote : ℕ → List ℕ) (c : Config) (lines : List ScheduleLine) (n s : ℕ) (now : Trace) → last_line now ≤ n → n < length lines → disk_at wrote c lines now (n + 1) s ≡ record (disk_at wrote c lines now n s) { rest = armed_by s (line_at lines (n + 1)) (disk_at wrote c lines now n s).rest }
disk_next wrote c lines n s now h g = ap (λ (x : lawful.Disk). record (disk_of wrote c lines now s) { rest = x }) (through_next lines s (last_line now) n (disk_of wrote c lines now s).rest h g)

-- ---- records that change no disk ----

quiet_record : (pages : List ℕ) (c : Config) (s : ℕ) (r : Record) (before : Trace) (d : Disk) → NoDiskRecord r → disk_after pages r c before s d ≡ d
quiet_record pages c s (says.Up t boot) before d h = absurd h
quiet_record pages c s (says.Stopped t why) before d h = absurd h
quiet_record pages c s (says.Commit f t stamp parents content) before d h = absurd h
quiet_record pages c s (says.Adopt f t stamp) before d h = absurd h
quiet_record pages c s _ before d h = refl

quiet_told : (wrote : ℕ → List ℕ) (c : Config) (lines : List ScheduleLine) (n s : ℕ) (x : Told) (before : Trace) → NoDisk x → disk_at wrote c lines (with_told n x before) n s ≡ disk_at wrote c lines before n s
quiet_told wrote c lines n s (Shown r) before h = disk_more wrote c lines n s r before ∙ quiet_record (wrote (length before)) c s r before (disk_at wrote c lines before n s) h
quiet_told wrote c lines n s _ before h = refl

pub quiet_onto : (wrote : ℕ → List ℕ) (c : Config) (lines : List ScheduleLine) (n s : ℕ) (told : List Told) (trace : List Line) → Every NoDisk told → disk_at wrote c lines (shown (told_onto n told trace)) n s ≡ disk_at wrote c lines (shown trace) n s
quiet_onto wrote c lines n s [] trace h = refl
quiet_onto wrote c lines n s (x ∷ xs) trace h = quiet_onto wrote c lines n s xs (record { number = n; told = x } ∷ trace) h.1 ∙ quiet_told wrote c lines n s x (shown trace) h.0

-- ---- records of a disk ----

here_cond : {A : Type 0} (s t : ℕ) (a d : A) → t ≡ s → cond (t == s) a d ≡ a
here_cond s t a d h = ap (λ (b : Bool). cond b a d) (ap (λ (u : ℕ). u == s) h ∙ equal_self s)

there_cond : {A : Type 0} (s t u : ℕ) (a d : A) → u ≡ s → s ≢ t → cond (u == t) a d ≡ d
there_cond s t u a d h ne = ap (λ (b : Bool). cond b a d) (ap (λ (v : ℕ). v == t) h ∙ apart_test s t ne)

-- a version changes the disk of its site alone
pub version_there : (pages : List ℕ) (c : Config) (s t : ℕ) (r : Record) (before : Trace) (d : Disk) → VersionOf s r → s ≢ t → disk_after pages r c before t d ≡ d
version_there pages c s t (says.Commit f u stamp parents content) before d own ne = there_cond s t u (disk_written (writing_commit c before f t) d) d own ne
version_there pages c s t (says.Adopt f u stamp) before d own ne = there_cond s t u (disk_written (writing_adopted pages c before f t stamp) d) d own ne
version_there pages c s t _ before d own ne = absurd own

pub up_here : (pages : List ℕ) (c : Config) (s boot : ℕ) (before : Trace) (d : Disk) → disk_after pages (says.Up s boot) c before s d ≡ disk_booted d
up_here pages c s boot before d = here_cond s s (disk_booted d) d refl

pub up_there : (pages : List ℕ) (c : Config) (s t boot : ℕ) (before : Trace) (d : Disk) → s ≢ t → disk_after pages (says.Up s boot) c before t d ≡ d
up_there pages c s t boot before d ne = there_cond s t s (disk_booted d) d refl ne

pub stop_here : (pages : List ℕ) (c : Config) (s : ℕ) (why : StopCause) (up : Bool) (before : Trace) (d : Disk) → is_up c before s ≡ up → disk_after pages (says.Stopped s why) c before s d ≡ disk_stopped up d
stop_here pages c s why up before d e = here_cond s s (disk_stopped (is_up c before s) d) d refl ∙ ap (λ (b : Bool). disk_stopped b d) e

pub stop_there : (pages : List ℕ) (c : Config) (s t : ℕ) (why : StopCause) (before : Trace) (d : Disk) → s ≢ t → disk_after pages (says.Stopped s why) c before t d ≡ d
stop_there pages c s t why before d ne = there_cond s t s (disk_stopped (is_up c before t) d) d refl ne

-- ---- what later records wrote changes nothing before them ----

below_more : (n : ℕ) → n < suc n
below_more n = omega arith

agree_less : (n : ℕ) (a b : ℕ → List ℕ) → AgreeBelow (suc n) a b → AgreeBelow n a b
agree_less n a b h k low = h k (over k n low)
  where
    over : (k n : ℕ) → k < n → k < suc n
    over k n low = omega (arith, low)

pub disk_agrees : (a b : ℕ → List ℕ) (c : Config) (lines : List ScheduleLine) (t : Trace) (s : ℕ) → AgreeBelow (length t) a b → disk_of a c lines t s ≡ disk_of b c lines t s
disk_agrees a b c lines [] s h = refl
disk_agrees a b c lines (r ∷ before) s h =
    ap (λ (ps : List ℕ). disk_after ps r.what c before s (disk_at a c lines before r.line s)) (h (length before) (below_more (length before)))
    ∙ ap (λ (d : Disk). disk_after (b (length before)) r.what c before s (record d { rest = through_lines lines s (last_line before) r.line d.rest })) (disk_agrees a b c lines before s (agree_less (length before) a b h))

pub next_agrees : (n : ℕ) (o : Option DiskWrite) (wrote : ℕ → List ℕ) → AgreeBelow n wrote (wrote_next n o wrote)
next_agrees n None wrote k low = refl
next_agrees n (Some d) wrote k low = sym (ap (λ (b : Bool). cond b d.pages (wrote k)) (apart_test k n (λ e. never k n low e)))
  where
    never : (k n : ℕ) → k < n → k ≡ n → ⊥
    never k n low e = omega (arith, low, e)

-- what was written next is told
pub next_told : (n : ℕ) (d : DiskWrite) (wrote : ℕ → List ℕ) → wrote_next n (Some d) wrote n ≡ d.pages
next_told n d wrote = here_cond n n d.pages (wrote n) refl

-- ---- the least ----

-- the more pages are written, the more tables are
few_of : (p q : ℕ → Bool) (xs : List ℕ) → ((x : ℕ) → p x ≡ true → q x ≡ true) → length (filter p xs) ≤ length (filter q xs)
few_of p q [] h = omega arith
few_of p q (x ∷ xs) h = by (p x) (q x) (h x) (few_of p q xs h)
  where
    by : (a b : Bool) → (a ≡ true → b ≡ true) → length (filter p xs) ≤ length (filter q xs) → length (cond a (x ∷ filter p xs) (filter p xs)) ≤ length (cond b (x ∷ filter q xs) (filter q xs))
    by true true e k = omega (arith, k)
    by true false e k = absurd (false_true (e refl))
    by false true e k = omega (arith, k)
    by false false e k = k

more_tables : (before now : ℕ) (pages : List ℕ) → length (tables_written before now []) ≤ length (tables_written before now pages)
more_tables before now pages = few_of (is_table_written before now []) (is_table_written before now pages) (pages_from 0 content_tables_max)
    (λ table. wider (nat_lt 0 (pages_under table now)) (not (pages_under table before == pages_under table now)) (list_any (is_under table) pages))
  where
    wider : (a b x : Bool) → (a && (b || false)) ≡ true → (a && (b || x)) ≡ true
    wider true true x h = refl
    wider true false x h = absurd (false_true h)
    wider false b x h = h

blocks_are : (pages tables : List ℕ) → blocks_of pages tables ≡ length pages + length tables
blocks_are pages [] = omega arith
blocks_are pages (t ∷ ts) = let k : blocks_of pages ts ≡ length pages + length ts = blocks_are pages ts in omega (arith, k)

-- an adoption makes no fewer calls than one of no pages
least_adoption : (pages : List ℕ) (c : Config) (before : Trace) (f : FileId) (s : ℕ) (stamp : Stamp) → calls_of_writing (writing_adoption c before f s stamp) ≤ calls_of_writing (writing_adopted pages c before f s stamp)
least_adoption pages c before f s stamp = by (length (writing_adopted pages c before f s stamp).pages) (writing_adopted pages c before f s stamp).older
    (blocks_are [] (writing_adoption c before f s stamp).tables) (blocks_are (writing_adopted pages c before f s stamp).pages (writing_adopted pages c before f s stamp).tables)
    (more_tables (pages_held c before f (held c before s f)) (pages_held c before f (Some stamp)) (writing_adopted pages c before f s stamp).pages)
  where
    by : {a b t u : ℕ} (n : ℕ) (o : Bool) → a ≡ 0 + t → b ≡ n + u → t ≤ u → a + (4 + cond o 2 0) ≤ b + (4 + cond o 2 0)
    by n true e g h = omega (arith, e, g, h)
    by n false e g h = omega (arith, e, g, h)

both_with : (y z : Writing) (x : lawful.Disk) (d : Disk) (o q : Option Armed) → calls_of_writing y ≤ calls_of_writing z → LeastArmed false o q → IsLeast false x d → IsLeast false (written_with y x o) (record { rest = written_with z d.rest q; slots = slots_after z d.slots q })
both_with y z x d None None low k h = record { armed = h.armed; halves = h.halves }
both_with y z x d (Some a) (Some b) low k h = record { armed = (k.0, more a.used b.used (calls_of_writing y) (calls_of_writing z) k.1 low, tt); halves = h.halves }
  where
    more : (a b m n : ℕ) → a ≤ b → m ≤ n → a + m ≤ b + n
    more a b m n h k = omega (arith, h, k)
both_with y z x d None (Some b) low k h = absurd k
both_with y z x d (Some a) None low k h = absurd k

both_written : (y z : Writing) (x : lawful.Disk) (d : Disk) → calls_of_writing y ≤ calls_of_writing z → IsLeast false x d → IsLeast false (written y x) (disk_written z d)
both_written y z x d low h = both_with y z x d x.armed d.rest.armed low h.armed h

same_calls : (n : ℕ) → n ≤ n
same_calls n = omega arith

-- a version of a site that runs
pub version_least : (pages : List ℕ) (c : Config) (s : ℕ) (r : Record) (before : Trace) (x : lawful.Disk) (d : Disk) → VersionOf s r → IsLeast false x d → IsLeast false (lawful.disk_after r c before s x) (disk_after pages r c before s d)
version_least pages c s (says.Commit f t stamp parents content) before x d own h =
    let w : Writing = writing_commit c before f s in
    subst (λ (y : lawful.Disk). IsLeast false y (disk_after pages (says.Commit f t stamp parents content) c before s d)) (sym (here_cond s t (written w x) x own))
    (subst (IsLeast false (written w x)) (sym (here_cond s t (disk_written w d) d own)) (both_written w w x d (same_calls (calls_of_writing w)) h))
version_least pages c s (says.Adopt f t stamp) before x d own h =
    let y : Writing = writing_adoption c before f s stamp in
    let z : Writing = writing_adopted pages c before f s stamp in
    subst (λ (e : lawful.Disk). IsLeast false e (disk_after pages (says.Adopt f t stamp) c before s d)) (sym (here_cond s t (written y x) x own))
    (subst (IsLeast false (written y x)) (sym (here_cond s t (disk_written z d) d own)) (both_written y z x d (least_adoption pages c before f s stamp) h))
version_least pages c s _ before x d own h = absurd own

-- a boot of a stopped site
boot_with : (x : lawful.Disk) (slots : Bool) (d : lawful.Disk) (o q : Option Armed) → LeastArmed true o q → x.halves ≡ d.halves → IsLeast false (booted_with x o) (record { rest = halves_booted slots d q; slots = false })
boot_with x slots d None None k e = record { armed = tt; halves = refl }
boot_with x slots d (Some a) (Some b) k e = record { armed = (k.0, more slots, tt); halves = refl }
  where
    more : (b2 : Bool) → a.used + calls_of_boot x.halves false ≤ b.used + calls_of_boot d.halves b2
    more b2 = subst (λ (h : Bool). a.used + calls_of_boot h false ≤ b.used + calls_of_boot d.halves b2) (sym e) (by d.halves b2)
      where
        by : (h sl : Bool) → a.used + calls_of_boot h false ≤ b.used + calls_of_boot h sl
        by true true = omega (arith, k.1)
        by true false = omega (arith, k.1)
        by false true = omega (arith, k.1)
        by false false = omega (arith, k.1)
boot_with x slots d None (Some b) k e = absurd k
boot_with x slots d (Some a) None k e = absurd k

pub boot_least : (x : lawful.Disk) (d : Disk) → IsLeast true x d → IsLeast false (booted_with x x.armed) (disk_booted d)
boot_least x d h = boot_with x d.slots d.rest x.armed d.rest.armed h.armed h.halves

-- a stop
stop_with : (up : Bool) (x : lawful.Disk) (d : Disk) (o q : Option Armed) → LeastArmed (not up) o q → x.halves ≡ d.rest.halves → IsLeast true (stopped_with up x o) (record { rest = stopped_with up d.rest q; slots = slots_stopped up d.rest d.slots q })
stop_with true x d None None k e = record { armed = tt; halves = e }
stop_with false x d None None k e = record { armed = tt; halves = e }
stop_with true x d (Some a) (Some b) k e = record { armed = tt; halves = e }
stop_with false x d (Some a) (Some b) k e = record { armed = tt; halves = λ i. are_halves_open (e i) (cut_of (k.0 i)) (calls_of (k.0 i) - used i) }
  where
    least : (m n : ℕ) → m ≤ n → n ≡ 0 → m ≡ n
    least m n h g = omega (arith, h, g)

    used : a.used ≡ b.used
    used = least a.used b.used k.1 k.2
stop_with up x d None (Some b) k e = absurd k
stop_with up x d (Some a) None k e = absurd k

pub stop_least : (up : Bool) (x : lawful.Disk) (d : Disk) → IsLeast (not up) x d → IsLeast true (stopped_with up x x.armed) (disk_stopped up d)
stop_least up x d h = stop_with up x d x.armed d.rest.armed h.armed h.halves

-- a line
none_used : (stopped : Bool) → IsUnused stopped 0
none_used true = refl
none_used false = tt

newly_least : (stopped : Bool) (a : Arming) → LeastArmed stopped (newly_armed a) (newly_armed a)
newly_least stopped a = (refl, same_calls 0, none_used stopped)

armed_least : (stopped b : Bool) (a : Arming) (x : lawful.Disk) (d : Disk) → IsLeast stopped x d → IsLeast stopped (cond b (record x { armed = newly_armed a }) x) (record d { rest = cond b (record d.rest { armed = newly_armed a }) d.rest })
armed_least stopped true a x d h = record { armed = newly_least stopped a; halves = h.halves }
armed_least stopped false a x d h = record { armed = h.armed; halves = h.halves }

pub line_least : (stopped : Bool) (s : ℕ) (l : ScheduleLine) (x : lawful.Disk) (d : Disk) → IsLeast stopped x d → IsLeast stopped (armed_by s l x) (record d { rest = armed_by s l d.rest })
line_least stopped s (EventLine (line.ArmStop t calls left)) x d h = armed_least stopped (t == s) (lawful.Stops calls left) x d h
line_least stopped s (EventLine (line.ArmFail t calls)) x d h = armed_least stopped (t == s) (lawful.Fails calls) x d h
line_least stopped s _ x d h = record { armed = h.armed; halves = h.halves }

-- what the lawful trace counts lets as many calls pass
pub least_left : (stopped : Bool) (o q : Option Armed) → LeastArmed stopped o q → has_left q ≡ true → has_left o ≡ true
least_left stopped None None k e = e
least_left stopped (Some a) (Some b) k e = at_most_test a.used (calls_of a.arming) (subst (λ (r : Arming). a.used ≤ calls_of r) (sym k.0) (below a.used b.used (calls_of b.arming) k.1 (at_most b.used (calls_of b.arming) e)))
  where
    below : (m n c : ℕ) → m ≤ n → n ≤ c → m ≤ c
    below m n c h g = omega (arith, h, g)
least_left stopped None (Some b) k e = absurd k
least_left stopped (Some a) None k e = absurd k
