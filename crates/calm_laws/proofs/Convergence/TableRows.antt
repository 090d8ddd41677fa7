-- What handlers leave of the tables of a synchronization site: of the rows of its files, and of the groups that have started.
use Rattle.std.proofs.Common.{Bool, List, None, Option, Some, [], ap, arith, cond, false, filter, inl, inr, map, nat_lt, not, refl, subst, sym, true, ℕ, ◌&&◌, ◌++◌, ◌<◌, ◌==◌, ◌∙◌, ◌∷◌, ◌≡◌, ◌⊎◌}
use Rattle.std.proofs.lemmas.Bool.Decides.{nat_tests}
use Rattle.std.specs.List.{list_all, list_any}
use Rattle.calm_laws.proofs.Delivered.{inside_fact}
use Rattle.calm_laws.proofs.Facts.{RoundFacts, round_facts}
use Rattle.calm_laws.proofs.Lists.{every_among, row_key}
use Rattle.calm_laws.proofs.Rounds.{in_round}
use Rattle.calm_laws.specs.Carrying.{IsMember, frame_of}
use Rattle.calm_laws.specs.Rounds.{Delivery}
use Rattle.calm_laws.proofs.Convergence.Coming.{inside_view, taken_for}
use Rattle.calm_laws.proofs.Convergence.Ending.{from_member}
use Rattle.locus_ids.specs.Sites.{has}
use Rattle.locus_ids.specs.declared.config.Config.{Config}
use Rattle.locus_ids.specs.declared.ids.Stamp.{Stamp}
use Rattle.row_laws.proofs.Orderly.Formed.{among_left}
use Rattle.row_laws.proofs.Orderly.Rounds.{next_among}
use Rattle.site_laws.proofs.Makes.SendersRun.{first_sent, sent_kept}
use Rattle.store_laws.proofs.OneTree.Rising.{Rising}
use Rattle.site_laws.specs.Makes.Made.{IsSender, NumberedSender, WorldSent}
use Rattle.store_laws.specs.OneTree.Places.{InsideFact, NumberedFact}
use Rattle.role_steps.proofs.Rows.{row_other, row_same}
use Rattle.role_steps.proofs.of_plain_facts.Numbers.{apart_test}
use Rattle.role_steps.proofs.of_plain_facts.Options.{none_some, some_same}
use Rattle.role_steps.proofs.of_plain_facts.Tests.{both_true, true_false}
use Rattle.role_steps.specs.Adoption.{table_group}
use Rattle.role_steps.specs.Looks.{LookRequest, after_last, is_look_before, is_same_look, look_key, new_look, takes_look}
use Rattle.role_steps.specs.Notices.{file_notices, row_notices}
use Rattle.role_steps.specs.Opens.{Decision, Denies, Grants, OpenRequest, by_stage, decides, decision, on_open_of, on_opened_of, open_row, takes_open, with_open}
use Rattle.role_steps.specs.Reports.{closed_ok, closes_at, is_early_of, on_closed_of, on_have_of, on_look, on_open, published, published_row, releases, waits_early}
use Rattle.role_steps.specs.Tables.{first_that, with_row, row}
use Rattle.role_steps.specs.Versions.{file_row, holding_of, known_or, noted, noted_at, noted_of, rises_to, row_ino, unknown_file, with_holder, version_of, with_version}
use Rattle.role_steps.specs.Views.{Frame, Outcome, all_sites, boot_in, is_member, pack_sites, packet, process_key, quiet, sends}
use Rattle.role_steps.specs.declared.synchronizing.OpenStage.TheVariants as stage
use Rattle.role_steps.specs.declared.rounds.InEpoch.{InEpoch}
use Rattle.role_steps.specs.declared.synchronizing.FileRow.{FileRow}
use Rattle.role_steps.specs.declared.synchronizing.Holding.{Holding}
use Rattle.role_steps.specs.declared.synchronizing.LastLook.{LastLook}
use Rattle.role_steps.specs.declared.synchronizing.OpenRow.{OpenRow}
use Rattle.role_steps.specs.declared.synchronizing.OpenStage.{OpenStage}
use Rattle.role_steps.specs.declared.synchronizing.SyncTable.{SyncTable}
use Rattle.role_steps.specs.declared.synchronizing.VersionRow.{VersionRow}
use Rattle.schedule_lines.specs.declared.line.ScheduleLine.{ScheduleLine}
use Rattle.the_run.proofs.Boots.{at_each}
use Rattle.the_run.specs.Kept.{Among}
use Rattle.the_run.specs.Worlds.{Numbered, World}
use Rattle.tree_laws.specs.Packets.{BodyFact}
use Rattle.tree_laws.specs.Tables.{TableFact}
use Rattle.wire_messages.specs.Bodies.{kind_number}
use Rattle.wire_messages.specs.declared.body.Body.{Body}
use Rattle.wire_messages.specs.declared.body.Body.TheVariants as body
use Rattle.wire_messages.specs.declared.body.MadeVersion.{MadeVersion}
use Rattle.wire_messages.specs.declared.body.OpenedAs.{OpenedAs}
use Rattle.wire_messages.specs.declared.body.OpenedAs.TheVariants as opened
use Rattle.wire_messages.specs.declared.body.ReportedCopy.{ReportedCopy}
use Rattle.wire_messages.specs.declared.packet.Packet.{Packet}

-- what is known of a file now was known before, with these kept versions and this set
pub record SameFile (t : SyncTable) (ino : ℕ) (r : FileRow) : Type 0 where
  pub file_known : FileRow
  pub found : file_row t ino ≡ Some file_known
  pub kept : r.kept ≡ file_known.kept
  pub set : r.set ≡ file_known.set

abbrev pub KeepsRows : SyncTable → SyncTable → Type 0
KeepsRows t n = (ino : ℕ) (r : FileRow) → file_row n ino ≡ Some r → SameFile t ino r

pub rows_itself : (t : SyncTable) → KeepsRows t t
rows_itself t ino r e = record { file_known = r; found = e; kept = refl; set = refl }

-- its kept versions and its set stay
pub record SameRow (r n : FileRow) : Type 0 where
  pub ino : n.ino ≡ r.ino
  pub kept : n.kept ≡ r.kept
  pub set : n.set ≡ r.set

pub noted_same : (site : ℕ) (stamp : Stamp) (r : FileRow) → SameRow r (noted site stamp r)
noted_same site stamp r = by_version (version_of r stamp)
  where
    itself : SameRow r r
    itself = record { ino = refl; kept = refl; set = refl }

    by_rising : (v : VersionRow) (b : Bool) → SameRow r (cond b (with_holder site v.stamp r) r)
    by_rising v true = record { ino = refl; kept = refl; set = refl }
    by_rising v false = itself

    by_holding : (v : VersionRow) (h : Option Holding) → SameRow r (noted_at r site v h)
    by_holding v None = record { ino = refl; kept = refl; set = refl }
    by_holding v (Some h) = by_rising v (rises_to v (version_of r h.stamp))

    by_version : (o : Option VersionRow) → SameRow r (noted_of r site o)
    by_version None = itself
    by_version (Some v) = by_holding v (holding_of r site)

pub have_keeps : (from : ℕ) (stamp : Stamp) (ino : ℕ) (t : SyncTable) → KeepsRows t (on_have_of from stamp (file_row t ino) t)
have_keeps from stamp ino t = by_row (file_row t ino) refl
  where
    by_row : (o : Option FileRow) → file_row t ino ≡ o → KeepsRows t (on_have_of from stamp o t)
    by_row None e i q f = rows_itself t i q f
    by_row (Some r) e i q f = at_each n.ino i (SameFile t i q) mine theirs
      where
        n : FileRow
        n = noted from stamp r

        k : SameRow r n
        k = noted_same from stamp r

        is_ino : n.ino ≡ ino
        is_ino = k.ino ∙ (row_key row_ino ino t.files r e).1

        mine : n.ino ≡ i → SameFile t i q
        mine eq =
            let is : n ≡ q = some_same n q (sym (row_same row_ino n t.files) ∙ (ap (λ (x : ℕ). row row_ino x (with_row row_ino n t.files)) eq ∙ f)) in
            record { file_known = r; found = subst (λ (x : ℕ). file_row t x ≡ Some r) (sym is_ino ∙ eq) e; kept = ap (λ (x : FileRow). x.kept) (sym is) ∙ k.kept; set = ap (λ (x : FileRow). x.set) (sym is) ∙ k.set }

        theirs : (n.ino ≡ i → ⊥) → SameFile t i q
        theirs ne = record { file_known = q; found = sym (row_other row_ino n i t.files (apart_test n.ino i ne)) ∙ f; kept = refl; set = refl }

-- a table keeps its files, and whether it has started
pub record SameFiles (t : SyncTable) (o : Outcome SyncTable) : Type 0 where
  pub files : o.view.files ≡ t.files
  pub group : o.view.group ≡ t.group
  pub started : o.view.started ≡ t.started

early_same : (site process : ℕ) (b : Body) (t : SyncTable) → SameFiles t (quiet (waits_early site process b t))
early_same site process b t = over (list_any (is_early_of site process) t.early)
  where
    over : (q : Bool) → SameFiles t (quiet (cond q t (record t { early = t.early ++ record { site = site; process = process; body = b } ∷ [] })))
    over true = record { files = refl; group = refl; started = refl }
    over false = record { files = refl; group = refl; started = refl }

decides_same : (f : Frame) (t : SyncTable) (us : ℕ) (o : OpenRequest) (d : Decision) → SameFiles t (decides f t us o d)
decides_same f t us o (Denies why) = record { files = refl; group = refl; started = refl }
decides_same f t us o (Grants ss stamp vector parents set k) = record { files = refl; group = refl; started = refl }

pub takes_open_same : (f : Frame) (us : ℕ) (o : OpenRequest) (r : Option OpenRow) (t : SyncTable) → SameFiles t (on_open_of f t us o r)
takes_open_same f us o None t = decides_same f t us o (decision f t us o o.how)
takes_open_same f us o (Some r) t = record { files = refl; group = refl; started = refl }

pub open_same : (f : Frame) (us : ℕ) (o : OpenRequest) (t : SyncTable) → SameFiles t (on_open f us o t)
open_same f us o t = elim t.started as (λ b. SameFiles t (elim b [ true ↦ takes_open f us o t | false ↦ quiet (waits_early us o.process (body.Open o.serial o.call o.process o.request o.file o.how) t) ])) [
  | true ↦ takes_open_same f us o (open_row t (record { us = us; serial = o.serial })) t
  | false ↦ early_same us o.process (body.Open o.serial o.call o.process o.request o.file o.how) t
]

pub takes_look_same : (f : Frame) (us : ℕ) (l : LookRequest) (o : Option LastLook) (t : SyncTable) → SameFiles t (after_last f us l o t)
takes_look_same f us l None t = record { files = refl; group = refl; started = refl }
takes_look_same f us l (Some last) t = over (is_look_before l last) (is_same_look l last)
  where
    over : (a b : Bool) → SameFiles t (elim a [ true ↦ quiet t | false ↦ elim b [ true ↦ sends (packet f last.to last.body ∷ []) t | false ↦ new_look f us l (file_row t l.file.ino) t ] ])
    over true b = record { files = refl; group = refl; started = refl }
    over false true = record { files = refl; group = refl; started = refl }
    over false false = record { files = refl; group = refl; started = refl }

pub look_same : (f : Frame) (us : ℕ) (l : LookRequest) (t : SyncTable) → SameFiles t (on_look f us l t)
look_same f us l t = elim t.started as (λ b. SameFiles t (elim b [ true ↦ takes_look f us l t | false ↦ quiet (waits_early us l.process (body.Look l.call l.process l.request l.take l.file l.what) t) ])) [
  | true ↦ takes_look_same f us l (row look_key (process_key us l.process) t.looks) t
  | false ↦ early_same us l.process (body.Look l.call l.process l.request l.take l.file l.what) t
]

pub rows_same : (t n : SyncTable) → n.files ≡ t.files → KeepsRows t n
rows_same t n same ino r e = record { file_known = r; found = ap (λ (rs : List FileRow). row row_ino ino rs) (sym same) ∙ e; kept = refl; set = refl }

-- One file has a new row, that of an instance which was granted, and the notices of it are sent; all others stay.
pub record Publishes (f : Frame) (t : SyncTable) (closing : Option OpenRow) (o : Outcome SyncTable) : Type 0 where
  pub row : OpenRow
  pub is_row : closing ≡ Some row
  pub granted : row.stage ≡ stage.Granted
  pub new : FileRow
  pub ino : new.ino ≡ row.file.ino
  pub files : (ino : ℕ) (r : FileRow) → file_row o.view ino ≡ Some r → (r ≡ new) ⊎ SameFile t ino r
  pub group : o.view.group ≡ t.group
  pub started : o.view.started ≡ t.started
  pub sent : (z : Packet) → Among z (file_notices f t.group new) → Among z o.sent

abbrev pub StaysOr : Frame → SyncTable → Option OpenRow → Outcome SyncTable → Type 0
StaysOr f t closing o = SameFiles t o ⊎ Publishes f t closing o

released : (f : Frame) (ss : ℕ) (r : OpenRow) (made : Option MadeVersion) (t : SyncTable) → r.stage ≡ stage.Granted → StaysOr f t (Some r) (releases f ss r made t)
released f ss r None t granted = inl (record { files = refl; group = refl; started = refl })
released f ss r (Some v) t granted = inr (record {
  row = r;
  is_row = refl;
  granted = granted;
  new = new;
  ino = is_ino;
  files = files;
  group = refl;
  started = refl;
  sent = λ z a. among_left z (row_notices f t.group (file_row after r.file.ino)) (closed_ok f ss r.inst) (subst (λ (o : Option FileRow). Among z (row_notices f t.group o)) (sym found) a);
})
  where
    ended : SyncTable
    ended = with_open (record r { stage = stage.Ended }) t

    old : FileRow
    old = known_or (unknown_file r.file.ino r.kind r.set) (file_row ended r.file.ino)

    new : FileRow
    new = published_row ss r v (file_row ended r.file.ino)

    after : SyncTable
    after = published ss r (Some v) ended

    old_ino : (o : Option FileRow) → file_row t r.file.ino ≡ o → (known_or (unknown_file r.file.ino r.kind r.set) o).ino ≡ r.file.ino
    old_ino None e = refl
    old_ino (Some k) e = (row_key row_ino r.file.ino t.files k e).1

    is_ino : new.ino ≡ r.file.ino
    is_ino = (noted_same ss v.stamp (with_version (record { stamp = v.stamp; vector = v.vector; size = v.size }) old)).ino ∙ old_ino (file_row t r.file.ino) refl

    found : file_row after r.file.ino ≡ Some new
    found = subst (λ (i : ℕ). row row_ino i (with_row row_ino new t.files) ≡ Some new) is_ino (row_same row_ino new t.files)

    files : (ino : ℕ) (q : FileRow) → file_row after ino ≡ Some q → (q ≡ new) ⊎ SameFile t ino q
    files ino q e = at_each new.ino ino ((q ≡ new) ⊎ SameFile t ino q)
        (λ eq. inl (sym (some_same new q (sym (row_same row_ino new t.files) ∙ (ap (λ (i : ℕ). row row_ino i (with_row row_ino new t.files)) eq ∙ e)))))
        (λ ne. inr (record { file_known = q; found = sym (row_other row_ino new ino t.files (apart_test new.ino ino ne)) ∙ e; kept = refl; set = refl }))

closed_at : (f : Frame) (ss : ℕ) (r : OpenRow) (made : Option MadeVersion) (g : OpenStage) (t : SyncTable) → r.stage ≡ g → StaysOr f t (Some r) (closes_at f ss r made g t)
closed_at f ss r made stage.Granted t is = released f ss r made t is
closed_at f ss r made stage.Ended t is = inl (record { files = refl; group = refl; started = refl })
closed_at f ss r made _ t is = inl (record { files = refl; group = refl; started = refl })

pub closed_of : (f : Frame) (ss : ℕ) (made : Option MadeVersion) (o : Option OpenRow) (t : SyncTable) → StaysOr f t o (on_closed_of f ss made o t)
closed_of f ss made None t = inl (record { files = refl; group = refl; started = refl })
closed_of f ss made (Some r) t = closed_at f ss r made r.stage t refl

pub all_of : (test through : ℕ → Bool) (xs : List ℕ) (x : ℕ) → list_all test (filter through xs) ≡ true → Among x xs → through x ≡ true → test x ≡ true
all_of test through [] x h a t = absurd a
all_of test through (y ∷ ys) x h a t = over (through y) refl a (λ k m. all_of test through ys x k m t) h
  where
    over : (b : Bool) → through y ≡ b → Among x (y ∷ ys) → (list_all test (filter through ys) ≡ true → Among x ys → test x ≡ true) → list_all test (cond b (y ∷ filter through ys) (filter through ys)) ≡ true → test x ≡ true
    over true q (inl e) f k = ap test e ∙ (both_true (test y) _ k).0
    over true q (inr m) f k = f (both_true (test y) _ k).1 m
    over false q (inl e) f k = absurd (true_false (sym t ∙ (ap through e ∙ q)))
    over false q (inr m) f k = f k m

-- where it comes to a group that has started, its sender has reported before
pub reported_before : (c : Config) (lines : List ScheduleLine) (n : ℕ) (e : InEpoch) (x : Numbered) (w : World) → (d : Delivery c lines n e x w) → (group : ℕ) (copies : List ReportedCopy) → x.packet.body ≡ body.Report group copies →
    (t : SyncTable) → row table_group group d.view.tables ≡ Some t → t.started ≡ true → has t.reported x.packet.from ≡ true
reported_before c lines n e x w d group copies is t found started =
    all_of (has t.reported) (λ z. has (pack_sites c t.group) z && is_member e.members z) all_sites x.packet.from (k.all started) sender.site
    (both (has (pack_sites c t.group) x.packet.from) (is_member e.members x.packet.from) (ap (λ (g : ℕ). has (pack_sites c g) x.packet.from) at.1 ∙ of.0.packed) member)
  where
    facts : RoundFacts c w
    facts = round_facts c lines n w d.round

    there : Among x w.underway
    there = next_among w w.over x d.next

    of : BodyFact c w.trace x.packet (body.Report group copies)
    of = subst (λ (b : Body). BodyFact c w.trace x.packet b) is (every_among (NumberedFact c w.trace) x w.underway there facts.fact.underway)

    sender : IsSender x.packet
    sender = every_among NumberedSender x w.underway there (in_round c WorldSent (sent_kept c) (first_sent c) lines n w d.round).underway

    inside : (d.view.epoch ≡ Some e) × (d.view.boot ≡ boot_in e.members.boot x.packet.to)
    inside = inside_view e w x.packet.to d.view (d.before.inside x.packet.to d.member) d.here

    from : IsMember e x.packet.from
    from = (from_member e x.packet.to x sender (taken_for e x.packet d.view inside.0 inside.1 (ap (λ (b : Body). nat_lt (kind_number b) 6) is) d.taken)).1

    member : is_member e.members x.packet.from ≡ true
    member = by_test (boot_in e.members.boot x.packet.from == 0) refl
      where
        equal : (i : ℕ) → (i == 0) ≡ true → i ≡ 0
        equal i q = grind (arith, nat_tests)

        by_test : (b : Bool) → (boot_in e.members.boot x.packet.from == 0) ≡ b → not b ≡ true
        by_test true q = absurd (from (equal (boot_in e.members.boot x.packet.from) q))
        by_test false q = refl

    at : Among t d.view.tables × (t.group ≡ group)
    at = row_key table_group group d.view.tables t found

    i : InsideFact c (frame_of c e x.packet.to) w.trace d.view
    i = inside_fact c e w x.packet.to d.view facts.fact d.before d.member d.here

    k : TableFact c w.trace (frame_of c e x.packet.to) t
    k = every_among (TableFact c w.trace (frame_of c e x.packet.to)) t d.view.tables at.0 i.tables

    both : (a b : Bool) → a ≡ true → b ≡ true → (a && b) ≡ true
    both a b p q = ap (λ (z : Bool). z && b) p ∙ q

among_groups : (t : SyncTable) (ys : List SyncTable) → Among t ys → Among t.group (map table_group ys)
among_groups t [] b = absurd b
among_groups t (y ∷ ys) (inl e) = inl (ap table_group e)
among_groups t (y ∷ ys) (inr b) = inr (among_groups t ys b)

pub rising_found : (ts : List SyncTable) (t : SyncTable) → Rising (map table_group ts) → Among t ts → row table_group t.group ts ≡ Some t
rising_found [] t r a = absurd a
rising_found (x ∷ xs) t r (inl e) = found (x.group == t.group) (subst (λ (z : SyncTable). (z.group == t.group) ≡ true) e (number_same t.group))
  where
    number_same : (i : ℕ) → (i == i) ≡ true
    number_same i = grind (arith, nat_tests)

    found : (b : Bool) → b ≡ true → ◌≡◌ {A = Option SyncTable} (elim b [ true ↦ Some x | false ↦ row table_group t.group xs ]) (Some t)
    found true q = ap Some (sym e)
    found false q = absurd (true_false (sym q))
rising_found (x ∷ xs) t r (inr a) = passed (x.group == t.group) (lower x.group t.group (every_among (λ (y : ℕ). x.group < y) t.group (map table_group xs) (among_groups t xs a) r.0)) (rising_found xs t r.1 a)
  where
    lower : (i j : ℕ) → i < j → (i == j) ≡ false
    lower i j h = grind (arith, nat_tests)

    passed : (b : Bool) → b ≡ false → row table_group t.group xs ≡ Some t → ◌≡◌ {A = Option SyncTable} (elim b [ true ↦ Some x | false ↦ row table_group t.group xs ]) (Some t)
    passed true q h = absurd (true_false q)
    passed false q h = h

pub first_there : (test : SyncTable → Bool) (ts : List SyncTable) (t : SyncTable) → first_that test ts ≡ Some t → Among t ts
first_there test [] t e = absurd (none_some t e)
first_there test (x ∷ xs) t e = over (test x) (first_there test xs t) e
  where
    over : (b : Bool) → (first_that test xs ≡ Some t → Among t xs) → ◌≡◌ {A = Option SyncTable} (elim b [ true ↦ Some x | false ↦ first_that test xs ]) (Some t) → Among t (x ∷ xs)
    over true f q = inl (sym (some_same x t q))
    over false f q = inr (f q)

stage_same : (f : Frame) (r : OpenRow) (a : OpenedAs) (g : OpenStage) (t : SyncTable) → SameFiles t (by_stage f r a g t)
stage_same f r (opened.Open ino size) stage.Asked t = record { files = refl; group = refl; started = refl }
stage_same f r (opened.No why) stage.Asked t = record { files = refl; group = refl; started = refl }
stage_same f r a _ t = record { files = refl; group = refl; started = refl }

pub opened_same : (f : Frame) (a : OpenedAs) (o : Option OpenRow) (t : SyncTable) → SameFiles t (on_opened_of f a o t)
opened_same f a None t = record { files = refl; group = refl; started = refl }
opened_same f a (Some r) t = stage_same f r a r.stage t
