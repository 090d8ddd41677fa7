-- After a calm round no call waits, so no mend does: each directory that is flagged, or wants a rescue in the version that the
-- synchronization site holds, has had its mend refused.
use Rattle.std.proofs.Common.{◌≡◌, ℕ, Bool, true, false, not, ◌||◌, List, Some, refl, sym, ◌∙◌, ap, subst, arith}
use Rattle.std.specs.List.{list_any}
use Rattle.role_steps.proofs.of_plain_facts.Tests.{true_false}
use Rattle.locus_ids.specs.declared.config.Config.{Config}
use Rattle.locus_ids.specs.declared.ids.FileId.{FileId}
use Rattle.schedule_lines.specs.declared.line.ScheduleLine.{ScheduleLine}
use Rattle.commit_graph.specs.Versions.{same_file}
use Rattle.role_steps.specs.Adoption.{table_group}
use Rattle.role_steps.specs.Epochs.{frame_in}
use Rattle.role_steps.specs.Mends.{is_dir, is_mend_in, has_mend_in, wants_mend_of, row_file, may_mend, wants_mend}
use Rattle.role_steps.specs.Opens.{is_open_on}
use Rattle.role_steps.specs.Using.{is_some_site, is_packed}
use Rattle.role_steps.specs.Views.{SiteView}
use Rattle.role_steps.specs.declared.rounds.InEpoch.{InEpoch}
use Rattle.role_steps.specs.declared.synchronizing.FileRow.{FileRow}
use Rattle.role_steps.specs.declared.synchronizing.SyncTable.{SyncTable}
use Rattle.role_steps.specs.declared.synchronizing.VersionRow.{VersionRow}
use Rattle.role_steps.specs.declared.users.WaitingCall.{WaitingCall}
use Rattle.the_run.specs.Kept.{Among}
use Rattle.the_run.specs.Worlds.{World, place_at}
use Rattle.store_laws.specs.OneTree.Places.{InsideFact}
use Rattle.store_laws.proofs.OneTree.Parts.{synced_one}
use Rattle.calm_laws.specs.Carrying.{frame_of}
use Rattle.calm_laws.specs.Rounds.{after, IsInRound, CalmLeft, IsCalm}
use Rattle.calm_laws.proofs.Calm.{calm_round}
use Rattle.calm_laws.proofs.Delivered.{inside_fact}
use Rattle.calm_laws.proofs.Facts.{round_facts}
use Rattle.calm_laws.proofs.Lists.{row_key}
use Rattle.calm_laws.specs.Convergence.Copies.{Knows}
use Rattle.calm_laws.specs.Convergence.Directories.{WasRefused, NoDirectoryIsFlagged}
use Rattle.calm_laws.proofs.Convergence.Coming.{inside_view}
use Rattle.calm_laws.proofs.Convergence.DirectoriesClosed.{directory_closed}
use Rattle.calm_laws.proofs.Convergence.DirectoriesMended.{NoneWants, mends_in_round}
use Rattle.calm_laws.proofs.Convergence.Knowing.{Known, knows}
use Rattle.calm_laws.proofs.Convergence.Started.{all_started}

-- ---- a view ----

wants_true : (v : SiteView) (t : SyncTable) (r : FileRow) → is_dir r.kind ≡ true → wants_mend_of v t (row_file t r) r.kept ≡ true → may_mend v t (row_file t r) ≡ true → wants_mend v t r ≡ true
wants_true v t r dir wants may = over (is_dir r.kind) (wants_mend_of v t (row_file t r) r.kept) dir wants
  where
    over : (a b : Bool) → a ≡ true → b ≡ true → ◌≡◌ {A = Bool} (elim a [ true ↦ elim b [ true ↦ may_mend v t (row_file t r) | false ↦ false ] | false ↦ false ]) true
    over true true p q = may
    over true false p q = absurd (true_false (sym q))
    over false b p q = absurd (true_false (sym p))

-- ---- after a calm round ----

pub calm_world : (c : Config) (lines : List ScheduleLine) (n : ℕ) (e : InEpoch) (k : ℕ) → IsCalm c lines n e k → IsInRound c lines n (after c lines n k)
calm_world c lines n e k h = record { fit = h.fit; packs = h.packs; groups = h.groups; most = h.most; settles = h.settles; deliveries = k; few = h.few; is_world = refl }

-- a directory of which a mend is wanted has had it refused
pub refused : (c : Config) → CalmLeft c → (lines : List ScheduleLine) (n : ℕ) (e : InEpoch) (k : ℕ) (file : FileId) (r : FileRow) → IsCalm c lines n e k → (d : Knows c e (place_at (after c lines n k)) file r) → is_dir r.kind ≡ true → wants_mend_of d.view d.table file r.kept ≡ true → WasRefused d.view file
refused c calm lines n e k file r h d dir wants = by_hope (list_any (same_file file) d.view.users.hopeless) refl
  where
    w : World
    w = after c lines n k

    round : IsInRound c lines n w
    round = calm_world c lines n e k h

    known : Known c e w d.css d.table file r
    known = knows c lines n e w round (h.each k (omega arith)) file r d

    there : Among d.table d.view.tables
    there = (row_key table_group file.group d.view.tables d.table d.found).0

    inside : InsideFact c (frame_of c e d.css) w.trace d.view
    inside = inside_fact c e w d.css d.view (round_facts c lines n w round).fact (h.each k (omega arith)) known.member d.here

    epoch : d.view.epoch ≡ Some e
    epoch = (inside_view e w d.css d.view ((h.each k (omega arith)).inside d.css known.member) d.here).0

    packed : (t : SyncTable) → Among t d.view.tables → is_packed (frame_in c 0 0 e) t.group ≡ true
    packed t a = ap is_some_site (synced_one (frame_of c e d.css) d.view.tables inside.groups t a)

    nobody : has_mend_in d.view.users d.table.group ≡ false
    nobody = ap (λ (ws : List WaitingCall). list_any (is_mend_in d.table.group) ws) (calm_round c calm lines n e k h d.css d.view known.member d.here)

    none : NoneWants d.view d.table
    none = mends_in_round c lines n w round d.css d.view d.here e epoch packed d.table there (all_started c lines n e k calm h d.css file.group d.view d.table known.member d.here d.found) (packed d.table there) nobody

    is_file : row_file d.table r ≡ file
    is_file = ap (λ (g : ℕ). record { group = g; ino = r.ino }) known.group ∙ known.is_file

    may : (a b : Bool) → a ≡ false → b ≡ false → not (a || b) ≡ true
    may false false p q = refl
    may false true p q = absurd (true_false q)
    may true b p q = absurd (true_false p)

    by_hope : (b : Bool) → list_any (same_file file) d.view.users.hopeless ≡ b → b ≡ true
    by_hope true e = refl
    by_hope false unhelped = absurd (none r known.there (wants_true d.view d.table r dir (subst (λ (f : FileId). wants_mend_of d.view d.table f r.kept ≡ true) (sym is_file) wants)
        (subst (λ (f : FileId). may_mend d.view d.table f ≡ true) (sym is_file) (may (list_any (is_open_on file) d.table.opens) (list_any (same_file file) d.view.users.hopeless) (directory_closed c calm lines n e k h file r d dir) unhelped))))

pub unflagged : (c : Config) → CalmLeft c → NoDirectoryIsFlagged c
unflagged c calm lines n e k file r h d dir flagged = refused c calm lines n e k file r h d dir (ap (λ (vs : List VersionRow). wants_mend_of d.view d.table file vs) flagged.kept)
