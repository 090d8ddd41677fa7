-- A disk has a copy of each file that its site has committed, and of each root of which it has a pack.
use Rattle.std.proofs.Common.{◌≡◌, ◌≢◌, ◌<◌, ℕ, ◌+◌, ◌*◌, ◌==◌, nat_lt, Bool, true, false, ◌⊎◌, List, [], ◌∷◌, ◌++◌, Option, refl, sym, ◌∙◌, subst, inl, inr, arith}
use Rattle.std.proofs.lemmas.Bool.Decides.{nat_tests}
use Rattle.role_steps.proofs.of_plain_facts.Numbers.{equal}
use Rattle.locus_ids.specs.declared.ids.FileId.{FileId}
use Rattle.locus_ids.specs.declared.config.Config.{Config}
use Rattle.locus_ids.specs.Sizes.{inode_span}
use Rattle.trace_book.specs.declared.record.Record.{Record}
use Rattle.trace_book.specs.declared.record.Record.TheVariants as says
use Rattle.role_steps.specs.Own.{Every}
use Rattle.role_steps.specs.Tables.{with_row}
use Rattle.role_steps.specs.Views.{Told, Shown, DiskWrite, file_key}
use Rattle.role_steps.specs.Storage.{copy_key}
use Rattle.role_steps.specs.declared.copies.FileCopy.{FileCopy}
use Rattle.site_laws.specs.Vectors.Held.{IsOf, StillRecord, Still, Writes, OnDisk}
use Rattle.site_laws.specs.Vectors.Facts.{onto}
use Rattle.site_laws.specs.Vectors.HistoryCommits.{FitRecord, FitTold, NumbersFit}
use Rattle.site_laws.specs.Packs.Making.{CommitsRecordAt, CommitsAt, WasCommittedAt}
use Rattle.site_laws.specs.Makes.Made.{HasCopy, IsOwned, DiskHas}
use Rattle.site_laws.proofs.Makes.Happening.{TellsOne, told_now, none_told, one_append}

-- ---- a table of copies ----

same_key : (a b : FileId) → a.ino < inode_span → b.ino < inode_span → file_key a ≡ file_key b → a ≡ b
same_key a b p q e = id_eq groups numbers
  where
    k : a.group * inode_span + a.ino ≡ b.group * inode_span + b.ino
    k = e

    groups : a.group ≡ b.group
    groups = omega (arith, p, q, k)

    numbers : a.ino ≡ b.ino
    numbers = omega (arith, p, q, k)

    id_eq : a.group ≡ b.group → a.ino ≡ b.ino → a ≡ b
    id_eq g n = λ i. record { group = g i; ino = n i }

-- what is put into it is in it
put_has : (x : FileCopy) (xs : List FileCopy) → HasCopy x.file (with_row copy_key x xs)
put_has x [] = inl refl
put_has x (y ∷ ys) = by_key (put_has x ys) (nat_lt (copy_key y) (copy_key x)) (copy_key y == copy_key x)
  where
    by_key : HasCopy x.file (with_row copy_key x ys) → (a b : Bool) → HasCopy x.file (elim a [ true ↦ y ∷ with_row copy_key x ys | false ↦ elim b [ true ↦ x ∷ ys | false ↦ x ∷ y ∷ ys ] ])
    by_key rest true b = inr rest
    by_key rest false true = inl refl
    by_key rest false false = inl refl

-- and what was in it, of the file
row_has : (file : FileId) (x : FileCopy) (xs : List FileCopy) → file.ino < inode_span → x.file.ino < inode_span → HasCopy file xs → HasCopy file (with_row copy_key x xs)
row_has file x [] p q h = absurd h
row_has file x (y ∷ ys) p q h =
    (elim (copy_key y == copy_key x) as (λ b. (copy_key y == copy_key x) ≡ b → HasCopy file (elim (nat_lt (copy_key y) (copy_key x)) [ true ↦ y ∷ with_row copy_key x ys | false ↦ elim b [ true ↦ x ∷ ys | false ↦ x ∷ y ∷ ys ] ])) [
      | true ↦ λ e. replaced (row_has file x ys p q) e (nat_lt (copy_key y) (copy_key x)) h
      | false ↦ λ e. beside (row_has file x ys p q) (nat_lt (copy_key y) (copy_key x)) h
    ]) refl
  where
    replaced : (HasCopy file ys → HasCopy file (with_row copy_key x ys)) → (copy_key y == copy_key x) ≡ true → (a : Bool) → HasCopy file (y ∷ ys) → HasCopy file (elim a [ true ↦ y ∷ with_row copy_key x ys | false ↦ x ∷ ys ])
    replaced rest e true (inl k) = inl k
    replaced rest e true (inr k) = inr (rest k)
    replaced rest e false (inl k) = inl (sym (same_key file x.file p q (subst (λ (f : FileId). file_key f ≡ file_key x.file) k (equal (copy_key y) (copy_key x) e))))
    replaced rest e false (inr k) = inr k

    beside : (HasCopy file ys → HasCopy file (with_row copy_key x ys)) → (a : Bool) → HasCopy file (y ∷ ys) → HasCopy file (elim a [ true ↦ y ∷ with_row copy_key x ys | false ↦ x ∷ y ∷ ys ])
    beside rest true (inl k) = inl k
    beside rest true (inr k) = inr (rest k)
    beside rest false k = inr k

-- ---- numbers fit ----

record_small : (s : ℕ) (file : FileId) (r : Record) → FitRecord r → CommitsRecordAt s file r → file.ino < inode_span
record_small s file (says.Commit g t stamp parents content) f h = subst (λ (x : FileId). x.ino < inode_span) h.1 f
record_small s file _ f h = absurd h

told_small : (s : ℕ) (file : FileId) (x : Told) → FitTold x → CommitsAt s file x → file.ino < inode_span
told_small s file (Shown r) f h = record_small s file r f h
told_small s file _ f h = absurd h

committed_small : (s : ℕ) (file : FileId) (past : List Told) → NumbersFit past → WasCommittedAt past s file → file.ino < inode_span
committed_small s file [] f h = absurd h
committed_small s file (x ∷ older) f (inl h) = told_small s file x f.0 h
committed_small s file (x ∷ older) f (inr h) = committed_small s file older f.1 h

owned_small : (c : Config) (past : List Told) (s : ℕ) (file : FileId) → NumbersFit past → IsOwned c past s file → file.ino < inode_span
owned_small c past s file f (inl h) = committed_small s file past f h
owned_small c past s file f (inr h) = (let e : file.ino ≡ 1 = h.0 in omega (arith, e))

written_small : (s : ℕ) (r : Record) (x : FileCopy) → IsOf s r x → FitRecord r → x.file.ino < inode_span
written_small s (says.Commit file t stamp parents content) x h f = subst (λ (g : FileId). g.ino < inode_span) (sym h.1.file_is) f
written_small s (says.Adopt file t stamp) x h f = subst (λ (g : FileId). g.ino < inode_span) (sym h.1) f
written_small s _ x h f = absurd h

-- ---- commits that are told ----

still_record : (t : ℕ) (file : FileId) (r : Record) → StillRecord r → CommitsRecordAt t file r → ⊥
still_record t file (says.Commit g u stamp parents content) h k = h
still_record t file _ h k = k

still_told : (t : ℕ) (file : FileId) (x : Told) → Still x → CommitsAt t file x → ⊥
still_told t file (Shown r) h k = still_record t file r h k
still_told t file _ h k = k

-- the commit that is written is of this site, and of the file of its copy
written_commit : (s t : ℕ) (file : FileId) (r : Record) (x : FileCopy) → IsOf s r x → CommitsRecordAt t file r → (s ≡ t) × (x.file ≡ file)
written_commit s t file (says.Commit g u stamp parents content) x h k = (sym h.0 ∙ k.0, h.1.file_is ∙ k.1)
written_commit s t file _ x h k = absurd k

told_commit : (s t : ℕ) (file : FileId) (d : DiskWrite) (before after : List Told) → IsOf s d.says d.copy → Every Still before → Every Still after → TellsOne (CommitsAt t file) (before ++ Shown d.says ∷ after) → (s ≡ t) × (d.copy.file ≡ file)
told_commit s t file d before after is h g k = by_part (one_append (CommitsAt t file) before (Shown d.says ∷ after) k)
  where
    by_part : TellsOne (CommitsAt t file) before ⊎ TellsOne (CommitsAt t file) (Shown d.says ∷ after) → (s ≡ t) × (d.copy.file ≡ file)
    by_part (inl q) = absurd (none_told (CommitsAt t file) Still before (still_told t file) h q)
    by_part (inr (inl q)) = written_commit s t file d.says d.copy is q
    by_part (inr (inr q)) = absurd (none_told (CommitsAt t file) Still after (still_told t file) g q)

-- ---- what a site owns ----

owned_now : (c : Config) (told past : List Told) (s : ℕ) (file : FileId) → IsOwned c (onto told past) s file → TellsOne (CommitsAt s file) told ⊎ IsOwned c past s file
owned_now c told past s file (inl h) = by_time (told_now (CommitsAt s file) told past h)
  where
    by_time : TellsOne (CommitsAt s file) told ⊎ WasCommittedAt past s file → TellsOne (CommitsAt s file) told ⊎ IsOwned c past s file
    by_time (inl k) = inl k
    by_time (inr k) = inr (inl k)
owned_now c told past s file (inr h) = inr (inr h)

-- where nothing of a version on a disk is told
pub still_has : (c : Config) (told past : List Told) (s : ℕ) (copies : List FileCopy) → Every Still told → DiskHas c past s copies → DiskHas c (onto told past) s copies
still_has c told past s copies h g file own = by_time (owned_now c told past s file own)
  where
    by_time : TellsOne (CommitsAt s file) told ⊎ IsOwned c past s file → HasCopy file copies
    by_time (inl k) = absurd (none_told (CommitsAt s file) Still told (still_told s file) h k)
    by_time (inr k) = g file k

every_now : (P : Told → Type 0) (told past : List Told) → Every P (onto told past) → Every P told × Every P past
every_now P [] past h = (tt, h)
every_now P (x ∷ xs) past h = let k : Every P xs × Every P (x ∷ past) = every_now P xs (x ∷ past) h in ((k.1.0, k.0), k.1.1)

middle : (P : Told → Type 0) (x : Told) (before after : List Told) → Every P (before ++ x ∷ after) → P x
middle P x [] after h = h.0
middle P x (y ∷ ys) after h = middle P x ys after h.1

-- a disk with one version more
wrote_has : (c : Config) (s : ℕ) (old new : List FileCopy) (told past : List Told) (written : Option DiskWrite) (d : DiskWrite) → Writes s old new told written d → NumbersFit (onto told past) → DiskHas c past s old → DiskHas c (onto told past) s new
wrote_has c s old new told past written d k fit g file own = subst (HasCopy file) (sym k.copies) (by_time (owned_now c told past s file own))
  where
    fits : Every FitTold told × NumbersFit past
    fits = every_now FitTold told past fit

    small : d.copy.file.ino < inode_span
    small = written_small s d.says d.copy k.says_so (middle FitTold (Shown d.says) k.before k.after (subst (Every FitTold) k.told_is fits.0))

    by_time : TellsOne (CommitsAt s file) told ⊎ IsOwned c past s file → HasCopy file (with_row copy_key d.copy old)
    by_time (inl q) = subst (λ (f : FileId). HasCopy f (with_row copy_key d.copy old)) (told_commit s s file d k.before k.after k.says_so k.still_before k.still_after (subst (TellsOne (CommitsAt s file)) k.told_is q)).1 (put_has d.copy old)
    by_time (inr q) = row_has file d.copy old (owned_small c past s file fits.1 q) small (g file q)

beside_has : (c : Config) (s t : ℕ) (old new copies : List FileCopy) (told past : List Told) (written : Option DiskWrite) → s ≢ t → (d : DiskWrite) → Writes s old new told written d → DiskHas c past t copies → DiskHas c (onto told past) t copies
beside_has c s t old new copies told past written ne d k g file own = by_time (owned_now c told past t file own)
  where
    by_time : TellsOne (CommitsAt t file) told ⊎ IsOwned c past t file → HasCopy file copies
    by_time (inl q) = absurd (ne (told_commit s t file d k.before k.after k.says_so k.still_before k.still_after (subst (TellsOne (CommitsAt t file)) k.told_is q)).0)
    by_time (inr q) = g file q

-- the disk that an event leaves at its site
pub mine_has : (c : Config) (s : ℕ) (old new : List FileCopy) (told past : List Told) (written : Option DiskWrite) → OnDisk s old new told written → NumbersFit (onto told past) → DiskHas c past s old → DiskHas c (onto told past) s new
mine_has c s old new told past written (inl h) fit g = subst (DiskHas c (onto told past) s) (sym h.copies) (still_has c told past s old h.still g)
mine_has c s old new told past written (inr h) fit g = wrote_has c s old new told past written h.0 h.1 fit g

-- and at any other one
pub others_have : (c : Config) (s t : ℕ) (old new copies : List FileCopy) (told past : List Told) (written : Option DiskWrite) → s ≢ t → OnDisk s old new told written → DiskHas c past t copies → DiskHas c (onto told past) t copies
others_have c s t old new copies told past written ne (inl h) g = still_has c told past t copies h.still g
others_have c s t old new copies told past written ne (inr h) g = beside_has c s t old new copies told past written ne h.0 h.1 g
