-- The disk of a site, by both formulations.
use Rattle.std.proofs.Common.{◌≡◌, ℕ, ◌+◌, ◌-◌, ◌==◌, Bool, true, false, cond, ◌&&◌, ◌||◌, List, [], ◌∷◌, ◌++◌, length, map, filter, Option, None, Some, refl, sym, ap, subst, ◌∙◌, arith}
use Rattle.std.specs.Prelude.{not, nat_lt, nat_le, fold, take, drop, replicate}
use Rattle.std.specs.List.{list_any}
use Rattle.std.specs.Option.{is_some}
use Rattle.locus_ids.specs.declared.config.Config.{Config}
use Rattle.locus_ids.specs.declared.ids.FileId.{FileId}
use Rattle.locus_ids.specs.declared.ids.Stamp.{Stamp}
use Rattle.locus_ids.specs.Sizes.{content_tables_max}
use Rattle.commit_graph.specs.declared.history.Version.{Version}
use Rattle.commit_graph.specs.Versions.{content_of}
use Rattle.file_content.specs.Pages.{has_page, pages_of, pages_from, pages_under, is_under, is_table_written, tables_written, placed, ascending}
use Rattle.file_content.proofs.Paging.{length_ascending}
use Rattle.trace_book.specs.declared.record.Record.{Record}
use Rattle.trace_book.specs.declared.record.Record.TheVariants as rec
use Rattle.schedule_lines.specs.declared.line.Line.TheVariants as line
use Rattle.schedule_lines.specs.declared.line.ScheduleLine.{ScheduleLine}
use Rattle.schedule_lines.specs.declared.line.ScheduleLine.TheVariants.{Event}
use Rattle.disk_calls.specs.Versions.{blocks, blocks_of, are_left_open, new_gate, old_gate}
use Rattle.tree_model.specs.declared.instance.Instance.{Instance as TreeInstance}
use Rattle.tree_model.specs.Epochs.{is_up}
use Rattle.tree_model.specs.Folds.{Trace}
use Rattle.tree_model.specs.Histories.{held as held_by}
use Rattle.tree_model.specs.Files.{committing}
use Rattle.lawful_trace.specs.Disks.{Armed, Arming as FoldArming, Writing as FoldWriting, calls_of_writing, cut_of, calls_of as calls_armed, written_with, stopped_with, writing_commit, pages_changed, pages_held, pages_now}
use Rattle.lawful_trace.specs.Disks as counts
use Rattle.headline_laws.specs.WholeRuns.Wrote.{Disk as FoldDisk, slots_after, slots_stopped, halves_booted, writing_adopted, disk_booted, disk_stopped, disk_written, disk_after}
use Rattle.headline_laws.specs.WholeRuns.Wrote as folds
use Rattle.lawful_trace.specs.Lawful.{MayCome}
use Rattle.promises.specs.Past.{Past, Copy, Instance, site_at, held}
use Rattle.promises.specs.After.{writers_of}
use Rattle.promises.specs.Rows.{is_there}
use Rattle.promises.specs.Stops.{Plain, Closes, switch, label_calls, Arming, Disk, Writing, armed_by, through_lines, calls_of, boot_calls, are_two_open, written, stopped, disk_by, pages_in, writing_by, writing_of}
use Rattle.past_laws.specs.Agreement.{Agrees, instance_of, is_of_cluster, speaks_of_sites}
use Rattle.past_laws.proofs.Changing.{filter_same}
use Rattle.past_laws.proofs.FilesFirst.{Committer, committer}
use Rattle.past_laws.proofs.Names.{number_eq}
use Rattle.past_laws.proofs.Sites.{of_cluster_there}
use Rattle.headline_laws.specs.StopPromises.Alike.{leaves_of, armed_as, disk_as}
use Rattle.headline_laws.proofs.StopPromises.Gates.{both_same, version_calls, halves_same, slots_same, boot_length}

either : (b : Bool) (x y : Disk) (u v : FoldDisk) → (b ≡ true → x ≡ disk_as u) → y ≡ disk_as v → cond b x y ≡ disk_as (cond b u v)
either true x y u v e f = e refl
either false x y u v e f = f

either_rest : (b : Bool) (x y : Disk) (u v : counts.Disk) (slots : Bool) → x ≡ disk_as (record { rest = u; slots = slots }) → y ≡ disk_as (record { rest = v; slots = slots }) → cond b x y ≡ disk_as (record { rest = cond b u v; slots = slots })
either_rest true x y u v slots e f = e
either_rest false x y u v slots e f = f

-- ---- lines that arm ----

line_same : (site : ℕ) (l : ScheduleLine) (d : FoldDisk) → armed_by site (disk_as d) l ≡ disk_as (record d { rest = counts.armed_by site l d.rest })
line_same site (Event (line.ArmStop s calls left)) d = either_rest (s == site) _ _ _ _ d.slots refl refl
line_same site (Event (line.ArmFail s calls)) d = either_rest (s == site) _ _ _ _ d.slots refl refl
line_same site _ d = refl

all_same : (site : ℕ) (ls : List ScheduleLine) (d : FoldDisk) → fold (armed_by site) (disk_as d) ls ≡ disk_as (record d { rest = fold (λ (old : counts.Disk) (l : ScheduleLine). counts.armed_by site l old) d.rest ls })
all_same site [] d = refl
all_same site (l ∷ ls) d = ap (λ (x : Disk). fold (armed_by site) x ls) (line_same site l d) ∙ all_same site ls (record d { rest = counts.armed_by site l d.rest })

pub lines_same : (lines : List ScheduleLine) (site first last : ℕ) (d : FoldDisk) → through_lines lines site first last (disk_as d) ≡ disk_as (folds.disk_through lines site first last d)
lines_same lines site first last d = all_same site (take (last - first) (drop first lines)) d

-- ---- how versions are written ----

-- both write so many blocks, over an older version or over none
pub record WritesSame (w : Writing) (v : FoldWriting) : Type 0 where
  pub blocks : w.blocks ≡ blocks v
  pub older : w.older ≡ v.older

pub calls_same : (w : Writing) (v : FoldWriting) → WritesSame w v → length (calls_of w) ≡ calls_of_writing v
calls_same w v s = version_calls w.blocks w.older ∙ (ap (λ (n : ℕ). n + (4 + cond w.older 2 0)) s.blocks ∙ ap (λ (b : Bool). blocks v + (4 + cond b 2 0)) s.older)

and_false : (b : Bool) → (b && false) ≡ false
and_false true = refl
and_false false = refl

older_same : (a : FoldArming) (n : ℕ) (older : Bool) (k : ℕ) → (older && are_two_open (leaves_of a) false k (calls_of (record { blocks = n; older = older }))) ≡ (nat_lt k (n + (4 + cond older 2 0)) && (older && (new_gate n (cut_of a) k && old_gate n (cut_of a) k)))
older_same a n true k = both_same a n k
older_same a n false k = sym (and_false (nat_lt k (n + 4)))

pub written_same : (w : Writing) (v : FoldWriting) → WritesSame w v → (d : FoldDisk) → written (disk_as d) w ≡ disk_as (disk_written v d)
written_same w v s d = at d.rest.armed
  where
    over : Disk → Arming → Disk
    over old a = record old { armed = record a { used = a.used + length (calls_of w) } ∷ []; slots = w.older && are_two_open a.leaves false (a.calls - a.used) (calls_of w) }

    slots : (a : FoldArming) (k : ℕ) → (w.older && are_two_open (leaves_of a) false k (calls_of w)) ≡ are_left_open v (cut_of a) k
    slots a k =
        ap (λ (n : ℕ). w.older && are_two_open (leaves_of a) false k (calls_of (record { blocks = n; older = w.older }))) s.blocks
        ∙ (ap (λ (b : Bool). b && are_two_open (leaves_of a) false k (calls_of (record { blocks = blocks v; older = b }))) s.older
        ∙ older_same a (blocks v) v.older k)

    joined : (a : Armed) (m n : ℕ) (x y : Bool) → m ≡ n → x ≡ y → ◌≡◌ {A = Disk} (record { armed = record { calls = calls_armed a.arming; leaves = leaves_of a.arming; used = m } ∷ []; halves = d.rest.halves; slots = x }) (record { armed = record { calls = calls_armed a.arming; leaves = leaves_of a.arming; used = n } ∷ []; halves = d.rest.halves; slots = y })
    joined a m n x y e f = λ i. record { armed = record { calls = calls_armed a.arming; leaves = leaves_of a.arming; used = e i } ∷ []; halves = d.rest.halves; slots = f i }

    at : (o : Option Armed) → fold over (disk_as d) (armed_as o) ≡ disk_as (record { rest = written_with v d.rest o; slots = slots_after v d.slots o })
    at None = refl
    at (Some a) = joined a _ _ _ _ (ap (λ (n : ℕ). a.used + n) (calls_same w v s)) (slots a.arming (calls_armed a.arming - a.used))

-- ---- boots and stops ----

pub booted_same : (d : FoldDisk) → ◌≡◌ {A = Disk} (record { armed = map (λ (a : Arming). record a { used = a.used + length (boot_calls (disk_as d)) }) (armed_as d.rest.armed); halves = false; slots = false }) (disk_as (disk_booted d))
booted_same d = at d.rest.armed
  where
    joined : (a : Armed) (m n : ℕ) → m ≡ n → ◌≡◌ {A = Disk} (record { armed = record { calls = calls_armed a.arming; leaves = leaves_of a.arming; used = m } ∷ []; halves = false; slots = false }) (record { armed = record { calls = calls_armed a.arming; leaves = leaves_of a.arming; used = n } ∷ []; halves = false; slots = false })
    joined a m n e = λ i. record { armed = record { calls = calls_armed a.arming; leaves = leaves_of a.arming; used = e i } ∷ []; halves = false; slots = false }

    at : (o : Option Armed) → ◌≡◌ {A = Disk} (record { armed = map (λ (a : Arming). record a { used = a.used + length (boot_calls (disk_as d)) }) (armed_as o); halves = false; slots = false }) (disk_as (record { rest = halves_booted d.slots d.rest o; slots = false }))
    at None = refl
    at (Some a) = joined a _ _ (ap (λ (n : ℕ). a.used + n) (boot_length (disk_as d)))

pub stopped_same : (up : Bool) (d : FoldDisk) → stopped up (disk_as d) ≡ disk_as (disk_stopped up d)
stopped_same true d = at d.rest.armed
  where
    at : (o : Option Armed) → ◌≡◌ {A = Disk} (record { armed = []; halves = d.rest.halves; slots = d.slots }) (disk_as (record { rest = stopped_with true d.rest o; slots = slots_stopped true d.rest d.slots o }))
    at None = refl
    at (Some a) = refl
stopped_same false d = at d.rest.armed
  where
    over : Disk → Arming → Disk
    over old a = record old {
      halves = are_two_open a.leaves d.rest.halves (a.calls - a.used) (label_calls (disk_as d));
      slots = are_two_open a.leaves d.slots (a.calls - a.used) (replicate (length (label_calls (disk_as d))) Plain ++ cond d.slots (switch Closes) []);
    }

    joined : (h k s t : Bool) → h ≡ k → s ≡ t → ◌≡◌ {A = Disk} (record { armed = []; halves = h; slots = s }) (record { armed = []; halves = k; slots = t })
    joined h k s t e f = λ i. record { armed = []; halves = e i; slots = f i }

    at : (o : Option Armed) → fold over (record { armed = []; halves = d.rest.halves; slots = d.slots }) (armed_as o) ≡ disk_as (record { rest = stopped_with false d.rest o; slots = slots_stopped false d.rest d.slots o })
    at None = refl
    at (Some a) = joined _ _ _ _ (halves_same a.arming (disk_as d) (calls_armed a.arming - a.used)) (slots_same a.arming (disk_as d) (calls_armed a.arming - a.used))

-- ---- versions of which records tell ----

pub held_same : (c : Config) (before : Trace) (p : Past) → Agrees c before p → (site : ℕ) → is_there p site ≡ true → (f g : FileId) → f ≡ g → is_some (held p site f) ≡ is_some (held_by c before site g)
held_same c before p a site there f g e = ap (λ (h : FileId). is_some (held p site h)) e ∙ ap is_some (a.sites.held site there g)

-- so many pages has what the site holds, by both
held_pages : (c : Config) (before : Trace) (p : Past) → Agrees c before p → (f : FileId) (o : Option Stamp) → pages_in p f o ≡ pages_held c before f o
held_pages c before p a f None = refl
held_pages c before p a f (Some stamp) = ap (λ (h : List Version). pages_of (length (content_of h f stamp))) a.epochs.history

before_same : (c : Config) (before : Trace) (p : Past) → Agrees c before p → (site : ℕ) → is_there p site ≡ true → (f g : FileId) → f ≡ g → pages_in p f (held p site f) ≡ pages_held c before g (held_by c before site g)
before_same c before p a site there f g e = ap (λ (h : FileId). pages_in p h (held p site h)) e ∙ (ap (pages_in p g) (a.sites.held site there g) ∙ held_pages c before p a g (held_by c before site g))

-- a table has other pages, or hasn't, in whatever order they stand
any_placed : (q : ℕ → Bool) (page : ℕ) (ps : List ℕ) → list_any q (placed page ps) ≡ (q page || list_any q ps)
any_placed q page [] = refl
any_placed q page (x ∷ xs) = at (nat_le page x) (any_placed q page xs)
  where
    turned : (a b d : Bool) → (a || (b || d)) ≡ (b || (a || d))
    turned true true d = refl
    turned true false d = refl
    turned false b d = refl

    at : (b : Bool) → list_any q (placed page xs) ≡ (q page || list_any q xs) → list_any q (elim b as (λ (y : Bool). List ℕ) [ true ↦ page ∷ x ∷ xs | false ↦ x ∷ placed page xs ]) ≡ (q page || (q x || list_any q xs))
    at true e = refl
    at false e = ap (λ (b : Bool). q x || b) e ∙ turned (q x) (q page) (list_any q xs)

any_ascending : (q : ℕ → Bool) (pages : List ℕ) → list_any q (ascending pages) ≡ list_any q pages
any_ascending q [] = refl
any_ascending q (page ∷ pages) = any_placed q page (ascending pages) ∙ ap (λ (b : Bool). q page || b) (any_ascending q pages)

tables_ascending : (old now : ℕ) (pages : List ℕ) → tables_written old now (ascending pages) ≡ tables_written old now pages
tables_ascending old now pages = filter_same (is_table_written old now (ascending pages)) (is_table_written old now pages)
    (λ table. ap (λ (b : Bool). nat_lt 0 (pages_under table now) && (not (pages_under table old == pages_under table now) || b)) (any_ascending (is_under table) pages)) (pages_from 0 content_tables_max)

-- each page and each table is a block
blocks_are : (pages tables : List ℕ) → blocks_of pages tables ≡ length pages + length tables
blocks_are pages [] = omega arith
blocks_are pages (table ∷ tables) = omega (arith, blocks_are pages tables)

-- a commit writes the same by both
pub commit_same : (c : Config) (before : Trace) (p : Past) → Agrees c before p → (f : FileId) (site : ℕ) → is_there p site ≡ true → (one : Instance) (y : TreeInstance) → instance_of one ≡ y → one.grant.file ≡ f → committing c before f site ≡ Some y → WritesSame (writing_by p site one) (writing_commit c before f site)
commit_same c before p a f site there one y is of by = record {
  blocks = sym (ap (λ (o : Option TreeInstance). blocks_over (pages_now o) (pages_changed o)) by
      ∙ (ap (λ (x : TreeInstance). blocks_over (pages_of (length x.work.content)) (ascending x.work.changed)) (sym is)
      ∙ (ap (λ (n : ℕ). blocks_of (ascending one.work.changed) (tables_written n many (ascending one.work.changed))) (sym (before_same c before p a site there one.grant.file f of))
      ∙ (blocks_are (ascending one.work.changed) (tables_written held_now many (ascending one.work.changed))
      ∙ (ap (λ (n : ℕ). n + length (tables_written held_now many (ascending one.work.changed))) (length_ascending one.work.changed)
      ∙ ap (λ (ts : List ℕ). length one.work.changed + length ts) (tables_ascending held_now many one.work.changed))))));
  older = held_same c before p a site there one.grant.file f of;
}
  where
    many : ℕ
    many = pages_of (length one.work.content)

    held_now : ℕ
    held_now = pages_in p one.grant.file (held p site one.grant.file)

    blocks_over : ℕ → List ℕ → ℕ
    blocks_over now pages = blocks_of pages (tables_written (pages_held c before f (held_by c before site f)) now pages)

-- an adoption does, of the pages that it wrote
pub adoption_same : (pages : List ℕ) (c : Config) (before : Trace) (p : Past) → Agrees c before p → (f : FileId) (site : ℕ) (stamp : Stamp) → is_there p site ≡ true → (v : Copy) → v.file ≡ f → v.stamp ≡ stamp → WritesSame (writing_of pages p site v) (writing_adopted pages c before f site stamp)
adoption_same pages c before p a f site stamp there v file at = record {
  blocks = ap (λ (n : ℕ). blocks_over (pages_in p v.file (held p site v.file)) n) now
      ∙ (ap (λ (n : ℕ). blocks_over n many) (before_same c before p a site there v.file f file)
      ∙ sym (blocks_are (among many) (tables_written (pages_held c before f (held_by c before site f)) many (among many))));
  older = held_same c before p a site there v.file f file;
}
  where
    many : ℕ
    many = pages_held c before f (Some stamp)

    now : pages_in p v.file (Some v.stamp) ≡ many
    now = ap (λ (g : FileId). pages_in p g (Some v.stamp)) file ∙ (ap (λ (s : Stamp). pages_in p f (Some s)) at ∙ held_pages c before p a f (Some stamp))

    among : ℕ → List ℕ
    among now = filter (has_page pages) (pages_from 0 now)

    blocks_over : ℕ → ℕ → ℕ
    blocks_over old now = length (among now) + length (tables_written old now (among now))

-- ---- each record ----

there_of : (c : Config) (before : Trace) (p : Past) → Agrees c before p → (site s : ℕ) → is_of_cluster c s ≡ true → (s == site) ≡ true → is_there p site ≡ true
there_of c before p a site s ours e = of_cluster_there c p.sites site a.sites.numbers (subst (λ (n : ℕ). is_of_cluster c n ≡ true) (number_eq s site e) ours)

pub disk_step : (pages : List ℕ) (c : Config) (before : Trace) (p : Past) → Agrees c before p → (r : Record) → MayCome c before r → speaks_of_sites c r ≡ true → (site : ℕ) (d : FoldDisk) → disk_by pages r p site (disk_as d) ≡ disk_as (disk_after pages r c before site d)
disk_step pages c before p a (rec.Up s boot) may ours site d = either (s == site) _ _ _ _ (λ e. booted_same d) refl
disk_step pages c before p a (rec.Stopped s why) may ours site d = either (s == site) _ _ _ _ stops refl
  where
    stops : (s == site) ≡ true → stopped (site_at p site).up (disk_as d) ≡ disk_as (disk_stopped (is_up c before site) d)
    stops e = ap (λ (b : Bool). stopped b (disk_as d)) (a.sites.up site (there_of c before p a site s ours e)) ∙ stopped_same (is_up c before site) d
disk_step pages c before p a (rec.Commit f s stamp parents content) may ours site d = over (committer c before p f s stamp parents content may a)
  where
    told : (one : Instance) → instance_of one ≡ may.instance → one.grant.file ≡ f → committing c before f s ≡ Some may.instance → (b : Bool) → (s == site) ≡ b
        → fold written (disk_as d) (map (writing_by p site) (cond b (one ∷ []) [])) ≡ disk_as (cond b (disk_written (writing_commit c before f site) d) d)
    told one is of by true e = (let by_site = subst (λ (n : ℕ). committing c before f n ≡ Some may.instance) (number_eq s site e) by in
        written_same (writing_by p site one) (writing_commit c before f site) (commit_same c before p a f site (there_of c before p a site s ours e) one may.instance is of by_site) d)
    told one is of by false e = refl

    over : Committer c before p f s may.instance → fold written (disk_as d) (map (writing_by p site) (filter (λ x. s == site) (writers_of p f s))) ≡ disk_as (cond (s == site) (disk_written (writing_commit c before f site) d) d)
    over k = ap (λ (xs : List Instance). fold written (disk_as d) (map (writing_by p site) (filter (λ x. s == site) xs))) k.only ∙ told k.one k.is k.of k.committing (s == site) refl
disk_step pages c before p a (rec.Adopt f s stamp) may ours site d = told (s == site) refl
  where
    new : Copy
    new = record { file = f; stamp = stamp }

    told : (b : Bool) → (s == site) ≡ b → fold written (disk_as d) (map (writing_of pages p site) (cond b (new ∷ []) [])) ≡ disk_as (cond b (disk_written (writing_adopted pages c before f site stamp) d) d)
    told true e = written_same (writing_of pages p site new) (writing_adopted pages c before f site stamp) (adoption_same pages c before p a f site stamp (there_of c before p a site s ours e) new refl refl) d
    told false e = refl
disk_step pages c before p a _ may ours site d = refl
