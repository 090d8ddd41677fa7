-- Armed disks through an event of a site that tells of a version, or of none.
use Rattle.std.proofs.Common.{◌≡◌, ◌≢◌, ◌≤◌, ℕ, ◌+◌, ◌*◌, ◌==◌, Bool, true, cond, List, [], ◌∷◌, ◌++◌, Option, Some, None, refl, sym, ◌∙◌, ap, subst, arith}
use Rattle.std.proofs.lemmas.Bool.{le-leb}
use Rattle.role_steps.proofs.of_plain_facts.Numbers.{apart_test, equal_self}
use Rattle.role_steps.proofs.of_plain_facts.Tests.{and_true}
use Rattle.locus_ids.specs.declared.config.Config.{Config}
use Rattle.trace_book.specs.declared.record.Record.{Record}
use Rattle.trace_book.specs.declared.record.Record.TheVariants as says
use Rattle.schedule_lines.specs.declared.line.ScheduleLine.{ScheduleLine}
use Rattle.wire_messages.specs.declared.packet.Packet.{Packet}
use Rattle.role_steps.specs.Own.{Every}
use Rattle.role_steps.specs.Tables.{row}
use Rattle.role_steps.specs.Views.{Told, Shown}
use Rattle.role_steps.specs.declared.copies.FileCopy.{FileCopy}
use Rattle.lawful_trace.specs.of_tree_model.Folds.{Trace}
use Rattle.site_laws.specs.of_the_run.Disks.{Armed as Script}
use Rattle.site_laws.specs.of_the_run.Worlds.{World, Line, armed_site, script_of, happened, told_onto}
use Rattle.site_laws.proofs.of_the_run.Boots.{at_each}
use Rattle.site_laws.proofs.of_the_run.Events.{happened_keeps}
use Rattle.site_laws.specs.Vectors.Held.{IsOf}
use Rattle.lawful_trace.specs.Disks.{calls_of, Armed, Disk, Writing, written_with, writing_commit, writing_adoption, disk_after, disk_at, armed_at, writer_of, is_within_calls, fits_calls, all_fit_calls, keeps_calls}
use Rattle.row_laws.specs.Shown.{shown, EachRecord}
use Rattle.row_laws.specs.Rows.{IsArmedFor}
use Rattle.row_laws.specs.Arms.{NoDisk, SameKind, ArmedAs, Rises, ArmsInCourse}
use Rattle.row_laws.proofs.ArmsTraced.{disk_more, quiet_onto, calls_any, onto_calls, onto_armed}

-- ---- one event ----

pub happened_arms : (c : Config) (lines : List ScheduleLine) (m : ℕ) (ps : List Packet) (told : List Told) (change : World → World) (w : World) → Rises (change w).armed →
    ((s : ℕ) → ArmedAs (armed_at c lines (shown (told_onto m told w.trace)) m s) (script_of (change w) s)) → EachRecord (IsArmedFor c lines) (shown (told_onto m told w.trace)) → keeps_calls c lines (shown (told_onto m told w.trace)) ≡ true →
    ArmsInCourse c lines m w → ArmsInCourse c lines m (happened m ps told change w)
happened_arms c lines m ps told change w rises armed rows calls f =
    happened_keeps (ArmsInCourse c lines m) m ps told change w f
    (λ l. record { rises = f.rises; armed = f.armed; rows = f.rows; calls = f.calls })
    (λ k b t. record { rises = rises; armed = armed; rows = rows; calls = calls })

-- what is told changes no disk, and the scripts stay
pub still_arms : (c : Config) (lines : List ScheduleLine) (m : ℕ) (ps : List Packet) (told : List Told) (change : World → World) (w : World) → (change w).armed ≡ w.armed → Every NoDisk told → ArmsInCourse c lines m w → ArmsInCourse c lines m (happened m ps told change w)
still_arms c lines m ps told change w same h f =
    happened_arms c lines m ps told change w (subst Rises (sym same) f.rises)
    (λ s. subst (λ (xs : List Script). ArmedAs (armed_at c lines (shown (told_onto m told w.trace)) m s) (row armed_site s xs)) (sym same) (subst (λ (d : Disk). ArmedAs d.armed (script_of w s)) (sym (quiet_onto c lines m s told w.trace h)) (f.armed s)))
    (onto_armed c lines m told w.trace h f.rows) (onto_calls c lines m told w.trace h f.calls) f

-- ---- a version ----

-- as many calls are spent as a version makes at least
abbrev pub Spent : Option Script → Option Script → Type 0
Spent None None = Unit {0}
Spent (Some x) (Some y) = (y.how ≡ x.how) × (y.left + 4 ≤ x.left)
Spent _ _ = ⊥

room : (made left rest calls : ℕ) → rest + 4 ≤ left → 4 * made + left ≤ calls → 4 * (made + 1) + rest ≤ calls
room made left rest calls e h = omega (arith, e, h)

written_armed : (x : Writing) (d : Disk) (o : Option Armed) (old new : Option Script) → d.armed ≡ o → ArmedAs o old → Spent old new → ArmedAs (written_with x d o).armed new
written_armed x d None None None e h g = subst (λ (o : Option Armed). ArmedAs o None) (sym e) tt
written_armed x d None None (Some z) e h g = absurd g
written_armed x d None (Some y) new e h g = absurd h
written_armed x d (Some a) None new e h g = absurd h
written_armed x d (Some a) (Some y) None e h g = absurd g
written_armed x d (Some a) (Some y) (Some z) e h g = (subst (SameKind a.arming) (sym g.0) h.0, room a.made y.left z.left (calls_of a.arming) g.1 h.1)

-- a site's record of a version
abbrev pub VersionOf : ℕ → Record → Type 0
VersionOf s (says.Commit f t stamp parents content) = t ≡ s
VersionOf s (says.Adopt f t stamp) = t ≡ s
VersionOf s _ = ⊥

pub version_of : (s : ℕ) (r : Record) (x : FileCopy) → IsOf s r x → VersionOf s r
version_of s (says.Commit f t stamp parents content) x h = h.0
version_of s (says.Adopt f t stamp) x h = h.0
version_of s (says.Up t boot) x h = absurd h
version_of s (says.Stopped t why) x h = absurd h
version_of s (says.Leave t e) x h = absurd h
version_of s (says.Join t e members) x h = absurd h
version_of s (says.Start e group copies) x h = absurd h
version_of s (says.Accept t process call words) x h = absurd h
version_of s (says.Look e call request f what result) x h = absurd h
version_of s (says.Grant e call request inst mode f stamp ss) x h = absurd h
version_of s (says.Refuse e call request inst mode f why) x h = absurd h
version_of s (says.Act e inst n o result) x h = absurd h
version_of s (says.Release e inst f stamp) x h = absurd h
version_of s (says.Answer t process call reply) x h = absurd h
version_of s (says.Packet number from to kind) x h = absurd h
version_of s says.Void x h = absurd h
version_of s says.Budget x h = absurd h

-- what each record of a version has: how it changes the disks, and whose it is
pub record Version (c : Config) (s : ℕ) (r : Record) : Type 0 where
  pub here : (before : Trace) (d : Disk) → (y : Writing) × (disk_after r c before s d ≡ written_with y d d.armed)
  pub elsewhere : (t : ℕ) (before : Trace) (d : Disk) → s ≢ t → disk_after r c before t d ≡ d
  pub writer : writer_of r ≡ Some s
  pub row : (lines : List ScheduleLine) (m : ℕ) (now : Trace) → IsArmedFor c lines now (record { line = m; what = r })

here_cond : (s t : ℕ) (a d : Disk) → t ≡ s → cond (t == s) a d ≡ a
here_cond s t a d h = ap (λ (b : Bool). cond b a d) (ap (λ (u : ℕ). u == s) h ∙ equal_self s)

there_cond : (s t u : ℕ) (a d : Disk) → u ≡ s → s ≢ t → cond (u == t) a d ≡ d
there_cond s t u a d h ne = ap (λ (b : Bool). cond b a d) (ap (λ (v : ℕ). v == t) h ∙ apart_test s t ne)

pub a_version : (c : Config) (s : ℕ) (r : Record) → VersionOf s r → Version c s r
a_version c s (says.Commit f t stamp parents content) h = record {
  here = λ before d. (writing_commit c before f s, here_cond s t (written_with (writing_commit c before f s) d d.armed) d h);
  elsewhere = λ u before d ne. there_cond s u t (written_with (writing_commit c before f u) d d.armed) d h ne;
  writer = ap Some h;
  row = λ lines m now. tt;
}
a_version c s (says.Adopt f t stamp) h = record {
  here = λ before d. (writing_adoption c before f s stamp, here_cond s t (written_with (writing_adoption c before f s stamp) d d.armed) d h);
  elsewhere = λ u before d ne. there_cond s u t (written_with (writing_adoption c before f u stamp) d d.armed) d h ne;
  writer = ap Some h;
  row = λ lines m now. tt;
}
a_version c s (says.Up t boot) h = absurd h
a_version c s (says.Stopped t why) h = absurd h
a_version c s (says.Leave t e) h = absurd h
a_version c s (says.Join t e members) h = absurd h
a_version c s (says.Start e group copies) h = absurd h
a_version c s (says.Accept t process call words) h = absurd h
a_version c s (says.Look e call request f what result) h = absurd h
a_version c s (says.Grant e call request inst mode f stamp ss) h = absurd h
a_version c s (says.Refuse e call request inst mode f why) h = absurd h
a_version c s (says.Act e inst n o result) h = absurd h
a_version c s (says.Release e inst f stamp) h = absurd h
a_version c s (says.Answer t process call reply) h = absurd h
a_version c s (says.Packet number from to kind) h = absurd h
a_version c s says.Void h = absurd h
a_version c s says.Budget h = absurd h

few : (a b c : ℕ) → a + b ≤ c → a ≤ c
few a b c h = omega (arith, h)

within_of : (o : Option Armed) (x : Option Script) → ArmedAs o x → is_within_calls o ≡ true
within_of None x h = refl
within_of (Some a) None h = absurd h
within_of (Some a) (Some x) h = le-leb (4 * a.made) (calls_of a.arming) (few (4 * a.made) x.left (calls_of a.arming) h.1)

-- the disks after the record of a version at this site, where its script was spent
version_armed : (c : Config) (lines : List ScheduleLine) (m s t : ℕ) (r : Record) (now : Trace) (old new : Option Script) → Version c s r → (s ≡ t → Spent old new) → (s ≢ t → new ≡ old) → ArmedAs (armed_at c lines now m t) old → ArmedAs (armed_at c lines (record { line = m; what = r } ∷ now) m t) new
version_armed c lines m s t r now old new v mine others h = at_each s t (ArmedAs (armed_at c lines (record { line = m; what = r } ∷ now) m t) new)
    (λ e. let k : (y : Writing) × (disk_after r c now t (disk_at c lines now m t) ≡ written_with y (disk_at c lines now m t) (armed_at c lines now m t)) =
    subst (λ (u : ℕ). (y : Writing) × (disk_after r c now u (disk_at c lines now m u) ≡ written_with y (disk_at c lines now m u) (armed_at c lines now m u))) e (v.here now (disk_at c lines now m s)) in
    subst (λ (d : Disk). ArmedAs d.armed new) (sym (disk_more c lines m t r now ∙ k.1)) (written_armed k.0 (disk_at c lines now m t) (armed_at c lines now m t) old new refl h (mine e)))
    (λ ne. subst (λ (d : Disk). ArmedAs d.armed new) (sym (disk_more c lines m t r now ∙ v.elsewhere t now (disk_at c lines now m t) ne)) (subst (ArmedAs (armed_at c lines now m t)) (sym (others ne)) h))

version_calls : (c : Config) (lines : List ScheduleLine) (m s : ℕ) (r : Record) (now : Trace) (new : Option Script) → Version c s r → ArmedAs (armed_at c lines (record { line = m; what = r } ∷ now) m s) new → keeps_calls c lines now ≡ true → keeps_calls c lines (record { line = m; what = r } ∷ now) ≡ true
version_calls c lines m s r now new v h calls =
    and_true (fits_calls c lines None (record { line = m; what = r } ∷ now) (writer_of r)) (all_fit_calls c lines (Some r) now)
    (ap (fits_calls c lines None (record { line = m; what = r } ∷ now)) v.writer ∙ (ap (λ (d : Disk). is_within_calls d.armed) (sym (disk_more c lines m s r now)) ∙ within_of (armed_at c lines (record { line = m; what = r } ∷ now) m s) new h))
    (calls_any c lines (Some r) now calls)

-- ---- told in three parts ----

onto_parts : (m : ℕ) (a b : List Told) (x : Told) (trace : List Line) → told_onto m (a ++ x ∷ b) trace ≡ told_onto m b (record { number = m; told = x } ∷ told_onto m a trace)
onto_parts m [] b x trace = refl
onto_parts m (y ∷ ys) b x trace = onto_parts m ys b x (record { number = m; told = y } ∷ trace)

-- an event that tells of one version at this site, and spends its calls
pub version_event : (c : Config) (lines : List ScheduleLine) (m s : ℕ) (ps : List Packet) (before after : List Told) (r : Record) (change : World → World) (w : World) → Version c s r → Every NoDisk before → Every NoDisk after →
    Rises (change w).armed → Spent (script_of w s) (script_of (change w) s) → ((t : ℕ) → s ≢ t → script_of (change w) t ≡ script_of w t) → ArmsInCourse c lines m w → ArmsInCourse c lines m (happened m ps (before ++ Shown r ∷ after) change w)
version_event c lines m s ps before after r change w v hb ha rises spent others f =
    happened_arms c lines m ps (before ++ Shown r ∷ after) change w rises
    (λ t. subst (λ (tr : List Line). ArmedAs (armed_at c lines (shown tr) m t) (script_of (change w) t)) (sym in_parts) (subst (λ (d : Disk). ArmedAs d.armed (script_of (change w) t)) (sym (quiet_onto c lines m t after second ha)) (now_armed t)))
    (subst (λ (tr : List Line). EachRecord (IsArmedFor c lines) (shown tr)) (sym in_parts) (onto_armed c lines m after second ha (v.row lines m (shown first), onto_armed c lines m before w.trace hb f.rows)))
    (subst (λ (tr : List Line). keeps_calls c lines (shown tr) ≡ true) (sym in_parts) (onto_calls c lines m after second ha (version_calls c lines m s r (shown first) (script_of (change w) s) v (now_armed s) (onto_calls c lines m before w.trace hb f.calls)))) f
  where
    first : List Line
    first = told_onto m before w.trace

    second : List Line
    second = record { number = m; told = Shown r } ∷ told_onto m before w.trace

    in_parts : told_onto m (before ++ Shown r ∷ after) w.trace ≡ told_onto m after second
    in_parts = onto_parts m before after (Shown r) w.trace

    now_armed : (t : ℕ) → ArmedAs (armed_at c lines (shown second) m t) (script_of (change w) t)
    now_armed t = version_armed c lines m s t r (shown first) (script_of w t) (script_of (change w) t) v (λ e. subst (λ (u : ℕ). Spent (script_of w u) (script_of (change w) u)) e spent) (others t)
        (subst (λ (d : Disk). ArmedAs d.armed (script_of w t)) (sym (quiet_onto c lines m t before w.trace hb)) (f.armed t))
