-- The record of a version counts as many disk calls as the run makes when it writes it.
use Rattle.std.proofs.Common.{◌≡◌, ◌<◌, ℕ, ◌==◌, Bool, cond, List, length, Option, Some, None, refl, sym, ◌∙◌, ap, subst}
use Rattle.std.specs.Option.{is_some, option_map}
use Rattle.role_steps.proofs.of_plain_facts.Numbers.{equal_self}
use Rattle.locus_ids.specs.declared.config.Config.{Config}
use Rattle.locus_ids.specs.declared.ids.FileId.{FileId}
use Rattle.locus_ids.specs.declared.ids.Stamp.{Stamp}
use Rattle.locus_ids.specs.Sizes.{inode_span}
use Rattle.trace_book.specs.declared.record.Record.{Record}
use Rattle.trace_book.specs.declared.record.Record.TheVariants as says
use Rattle.file_content.specs.Pages.{pages_of}
use Rattle.disk_calls.specs.Versions.{writing}
use Rattle.role_steps.specs.Storage.{content_of, copy_of}
use Rattle.role_steps.specs.Views.{Store, DiskWrite, Shown}
use Rattle.role_steps.specs.declared.copies.FileCopy.{FileCopy}
use Rattle.the_run.specs.Disks.{has_older, writing_of}
use Rattle.the_run.specs.Worlds.{Line}
use Rattle.tree_model.specs.Files.{committing, version_of}
use Rattle.tree_model.specs.Folds.{Trace}
use Rattle.tree_model.specs.Histories.{held}
use Rattle.lawful_trace.specs.Disks.{Writing, pages_held, pages_now, writing_commit}
use Rattle.headline_laws.specs.WholeRuns.Wrote.{Disk, writing_adopted, disk_written, disk_after}
use Rattle.lawful_trace.specs.Lawful.{MayCome}
use Rattle.rest_laws.specs.of_site_laws.Vectors.Held.{IsOf}
use Rattle.rest_laws.specs.of_tree_laws.Doing.{AreWritten, WriteFact, pages_told}
use Rattle.rest_laws.specs.of_tree_laws.Printed.{entries}
use Rattle.rest_laws.specs.of_tree_laws.Stores.{CopiesAreHeld, copy_for}
use Rattle.rest_laws.proofs.of_tree_laws.Rows.{followed_rows}
use Rattle.rest_laws.proofs.of_store_laws.Holdings.Rising.{known_stands}
use Rattle.rest_laws.specs.of_store_laws.OneTree.Rest.{RestTold, RangeRecord, Past}
use Rattle.rest_laws.proofs.StoreStepKnown.{stands_narrow}

-- ---- its file has a number of 16 bits ----

narrow : (c : Config) (t : List Line) (s : ℕ) (r : Record) (x : FileCopy) → Past c t → IsOf s r x → RangeRecord c r → MayCome c (entries t) r → x.file.ino < inode_span
narrow c t s (says.Commit f site stamp parents content) x past is range may = subst (λ (g : FileId). g.ino < inode_span) (sym is.1.file_is) range.0
narrow c t s (says.Adopt f site stamp) x past is range may = subst (λ (g : FileId). g.ino < inode_span) (sym is.1) (stands_narrow c t past.rest.each f stamp (known_stands c (entries t) (followed_rows c t past.followed) may.epoch f stamp may.known))
narrow c t s _ x past is range may = absurd is

pub file_narrow : (c : Config) (n : ℕ) (t : List Line) (s : ℕ) (st : Store) (d : DiskWrite) → Past c t → RestTold c t (Shown d.says) → WriteFact c n t s st d → IsOf s d.says d.copy → d.copy.file.ino < inode_span
file_narrow c n t s st d past rest fact is = narrow c t s d.says d.copy past is rest.range fact.may.row

-- ---- whether its site has an older one ----

some_map : {A B : Type 0} (f : A → B) (o : Option A) → is_some (option_map f o) ≡ is_some o
some_map f None = refl
some_map f (Some x) = refl

pub older_is : (c : Config) (t : List Line) (s : ℕ) (st : Store) (f : FileId) → CopiesAreHeld c t s st → f.ino < inode_span → is_some (copy_of st f) ≡ is_some (held c (entries t) s f)
older_is c t s st f copies low =
    ap (λ (o : Option FileCopy). is_some o) (copies.are f low)
    ∙ (some_map (copy_for f) (option_map (version_of c (entries t) f) (held c (entries t) s f)) ∙ some_map (version_of c (entries t) f) (held c (entries t) s f))

-- ---- how many pages the older one has ----

pages_are : (c : Config) (t : Trace) (f : FileId) (o : Option Stamp) → pages_of (length (content_of (option_map (copy_for f) (option_map (version_of c t f) o)))) ≡ pages_held c t f o
pages_are c t f None = refl
pages_are c t f (Some stamp) = refl

pub before_is : (c : Config) (t : List Line) (s : ℕ) (st : Store) (f : FileId) → CopiesAreHeld c t s st → f.ino < inode_span → pages_of (length (content_of (copy_of st f))) ≡ pages_held c (entries t) f (held c (entries t) s f)
before_is c t s st f copies low = ap (λ (o : Option FileCopy). pages_of (length (content_of o))) (copies.are f low) ∙ pages_are c (entries t) f (held c (entries t) s f)

-- ---- its record ----

-- which blocks a version writes hangs on how many pages it and the one before it have, and on which of them are written
pub same_writing : (a b : Bool) (old new now then : ℕ) (xs ys : List ℕ) → a ≡ b → old ≡ new → now ≡ then → xs ≡ ys → writing a old now xs ≡ writing b new then ys
same_writing a b old new now then xs ys e f g h = λ i. writing (e i) (f i) (g i) (h i)

own_write : (s site : ℕ) (x y : Writing) (f : Writing → Disk → Disk) (D : Disk) → site ≡ s → x ≡ y → cond (site == s) (f x D) D ≡ f y D
own_write s site x y f D e k = ap (λ (b : Bool). cond b (f x D) D) (ap (λ (u : ℕ). u == s) e ∙ equal_self s) ∙ ap (λ (w : Writing). f w D) k

of_record : (c : Config) (t : List Line) (s : ℕ) (r : Record) (x : FileCopy) (older : Bool) (before now : ℕ) (ps : List ℕ) → IsOf s r x → AreWritten c (entries t) r ps → now ≡ pages_told c (entries t) r → older ≡ is_some (held c (entries t) s x.file) → before ≡ pages_held c (entries t) x.file (held c (entries t) s x.file) →
    (D : Disk) → disk_after ps r c (entries t) s D ≡ disk_written (writing older before now ps) D
of_record c t s (says.Commit f site stamp parents content) x older before now ps is pages many has had D =
    let w : Writing = writing_commit c (entries t) f s in
    own_write s site w (writing older before now ps) disk_written D is.0
    (same_writing w.older older (pages_held c (entries t) f (held c (entries t) s f)) before (pages_now (committing c (entries t) f s)) now w.pages ps
    (sym (has ∙ ap (λ (g : FileId). is_some (held c (entries t) s g)) is.1.file_is))
    (sym (had ∙ ap (λ (g : FileId). pages_held c (entries t) g (held c (entries t) s g)) is.1.file_is))
    (sym (many ∙ ap (λ (u : ℕ). pages_now (committing c (entries t) f u)) is.0)) (sym (pages ∙ ap (λ (u : ℕ). (writing_commit c (entries t) f u).pages) is.0)))
of_record c t s (says.Adopt f site stamp) x older before now ps is pages many has had D =
    let w : Writing = writing_adopted ps c (entries t) f s stamp in
    own_write s site w (writing older before now ps) disk_written D is.0
    (same_writing w.older older (pages_held c (entries t) f (held c (entries t) s f)) before (pages_held c (entries t) f (Some stamp)) now w.pages ps
    (sym (has ∙ ap (λ (g : FileId). is_some (held c (entries t) s g)) is.1))
    (sym (had ∙ ap (λ (g : FileId). pages_held c (entries t) g (held c (entries t) s g)) is.1))
    (sym many) (sym pages))
of_record c t s _ x older before now ps is pages many has had D = absurd is

pub write_is : (c : Config) (n : ℕ) (t : List Line) (s : ℕ) (st : Store) (d : DiskWrite) → Past c t → RestTold c t (Shown d.says) → WriteFact c n t s st d → CopiesAreHeld c t s st → IsOf s d.says d.copy → (D : Disk) → disk_after d.pages d.says c (entries t) s D ≡ disk_written (writing_of st d) D
write_is c n t s st d past rest fact copies is D = of_record c t s d.says d.copy (has_older st d) (pages_of (length (content_of (copy_of st d.copy.file)))) (pages_of (length d.copy.content)) d.pages is fact.pages fact.now (older_is c t s st d.copy.file copies (file_narrow c n t s st d past rest fact is)) (before_is c t s st d.copy.file copies (file_narrow c n t s st d past rest fact is)) D
