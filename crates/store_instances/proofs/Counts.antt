-- A write counts the pages that its instance has changed and the tables, also in ascending order.
use Rattle.std.proofs.Common.{◌≡◌, ℕ, Bool, List, sym, ◌∙◌, subst}
use Rattle.std.specs.Prelude.{is_some, Ok, Err, OnErr}
use Rattle.locus_ids.specs.declared.ids.Stamp.{Stamp}
use Rattle.disk_model.specs.Cut.{Cut}
use Rattle.disk_model.specs.Disk.{Passing}
use Rattle.disk_model.specs.Moments.{TellsMany}
use Rattle.disk_model.specs.declared.disk.DiskFault.{DiskFault}
use Rattle.file_content.specs.Pages.{ascending}
use Rattle.role_steps.specs.Storage.{copy_made}
use Rattle.role_steps.specs.declared.instances.Instance.{Instance}
use Rattle.site_packs.specs.Committing.{blocks_over, calls_of, commit_answer, commit_calls, copy_made as packed}
use Rattle.site_packs.specs.Cutting.{IsCut, HasSize as HasSizeIn}
use Rattle.site_packs.specs.Packs.{PacksState, copy_at}
use Rattle.site_packs.proofs.Blocks.{blocks_ascending}
use Rattle.site_packs.specs.declared.faults.CommitFault.{CommitFault}
use Rattle.site_packs.specs.declared.faults.CommitFault.TheVariants as commit
use Rattle.store_instances.specs.Fitting.{version_of}
use Rattle.store_instances.specs.Writes.{HasSize, TellsWrite, disk_answer, fault_of_commit}
use Rattle.store_instances.specs.declared.fault.StoreFault.{StoreFault}

-- ---- a refused commit, as a fault of the role ----

tells_fault : (e : CommitFault) (n : ℕ) (b : Bool) (p q : Passing) → TellsMany {T = Unit {0}} {E = DiskFault} (commit_calls {T = Unit {0}} n b (Err e)) p q (commit_answer {T = Unit {0}} (Err e)) → TellsWrite {T = Unit {0}} (calls_of n b) p q (Err (fault_of_commit e))
tells_fault commit.Disk n b p q h = h
tells_fault (commit.Cut size) n b p q h = h
tells_fault commit.NoSpace n b p q h = tt
tells_fault commit.Unfit n b p q h = tt
tells_fault commit.NoMemory n b p q h = tt

cut_fault : (e : CommitFault) (A : Type 0) → OnErr (commit_answer {T = Unit {0}} (Err e)) A → OnErr (disk_answer {T = Unit {0}} (Err (fault_of_commit e))) A
cut_fault commit.Disk A h = h
cut_fault (commit.Cut size) A h = h
cut_fault commit.NoSpace A h = h
cut_fault commit.Unfit A h = h
cut_fault commit.NoMemory A h = h

size_fault : (e : CommitFault) (n : ℕ) (b : Bool) → HasSizeIn n b e → HasSize n b (fault_of_commit e)
size_fault commit.Disk n b h = tt
size_fault (commit.Cut size) n b h = h
size_fault commit.NoSpace n b h = tt
size_fault commit.Unfit n b h = tt
size_fault commit.NoMemory n b h = tt

-- ---- the write of an instance, as it is seen by its fields ----

module _ (p : PacksState) (image : List ℕ) (i q : Instance) (vector : List ℕ) (stamp : Stamp) (content changed : List ℕ) (same : q ≡ i) (c : content ≡ q.work.content) (h : changed ≡ q.work.changed) where
  -- the blocks of an instance's write
  abbrev blocks : Instance → ℕ
  blocks j = blocks_over (copy_at p image j.file) j.work.content (ascending j.work.changed)

  -- those that the pack is given
  abbrev given : ℕ
  given = blocks_over (copy_at p image q.file) content changed

  count : given ≡ blocks q
  count = (λ k. blocks_over (copy_at p image q.file) (c k) (h k)) ∙ blocks_ascending (copy_at p image q.file) q.work.content q.work.changed

  -- what is so of the count and of the file that the fields say is so of those of the instance
  by_fields : (P : ℕ → Bool → Type 0) → P (blocks_over (copy_at p image q.file) content changed) (is_some (copy_at p image q.file)) → P (blocks_over (copy_at p image i.file) i.work.content (ascending i.work.changed)) (is_some (copy_at p image i.file))
  by_fields P k = subst (λ (j : Instance). P (blocks_over (copy_at p image j.file) j.work.content (ascending j.work.changed)) (is_some (copy_at p image j.file))) same (subst (λ (n : ℕ). P n (is_some (copy_at p image q.file))) count k)

  pub tells_ok : (m n : Passing) → TellsMany {T = Unit {0}} {E = DiskFault} (calls_of (blocks_over (copy_at p image q.file) content changed) (is_some (copy_at p image q.file))) m n (Ok tt) → TellsMany {T = Unit {0}} {E = DiskFault} (calls_of (blocks_over (copy_at p image i.file) i.work.content (ascending i.work.changed)) (is_some (copy_at p image i.file))) m n (Ok tt)
  tells_ok m n k = by_fields (λ l b. TellsMany {T = Unit {0}} {E = DiskFault} (calls_of l b) m n (Ok tt)) k

  pub tells_err : (e : CommitFault) (f : StoreFault) → f ≡ fault_of_commit e → (m n : Passing) → TellsMany {T = Unit {0}} {E = DiskFault} (commit_calls {T = Unit {0}} (blocks_over (copy_at p image q.file) content changed) (is_some (copy_at p image q.file)) (Err e)) m n (commit_answer {T = Unit {0}} (Err e))
      → TellsWrite {T = Unit {0}} (calls_of (blocks_over (copy_at p image i.file) i.work.content (ascending i.work.changed)) (is_some (copy_at p image i.file))) m n (Err f)
  tells_err e f is m n k =
      subst (λ (g : StoreFault). TellsWrite {T = Unit {0}} (calls_of (blocks_over (copy_at p image i.file) i.work.content (ascending i.work.changed)) (is_some (copy_at p image i.file))) m n (Err g)) (sym is)
      (by_fields (λ l b. TellsWrite {T = Unit {0}} (calls_of l b) m n (Err (fault_of_commit e))) (tells_fault e (blocks_over (copy_at p image q.file) content changed) (is_some (copy_at p image q.file)) m n k))

  pub size_err : (e : CommitFault) (f : StoreFault) → f ≡ fault_of_commit e → HasSizeIn (blocks_over (copy_at p image q.file) content changed) (is_some (copy_at p image q.file)) e → HasSize (blocks_over (copy_at p image i.file) i.work.content (ascending i.work.changed)) (is_some (copy_at p image i.file)) f
  size_err e f is k = subst (HasSize (blocks_over (copy_at p image i.file) i.work.content (ascending i.work.changed)) (is_some (copy_at p image i.file))) (sym is) (by_fields (λ l b. HasSize l b (fault_of_commit e)) (size_fault e (blocks_over (copy_at p image q.file) content changed) (is_some (copy_at p image q.file)) k))

  pub cut_err : (e : CommitFault) (f : StoreFault) → f ≡ fault_of_commit e → (how : Cut) (passed : ℕ) (new : List ℕ) → OnErr (commit_answer {T = Unit {0}} (Err e)) (IsCut p (packed q.file (version_of q vector stamp) content) (blocks_over (copy_at p image q.file) content changed) how passed image new)
      → OnErr (disk_answer {T = Unit {0}} (Err f)) (IsCut p (copy_made i vector stamp) (blocks_over (copy_at p image i.file) i.work.content (ascending i.work.changed)) how passed image new)
  cut_err e f is how passed new k =
      subst (λ (g : StoreFault). OnErr (disk_answer {T = Unit {0}} (Err g)) (IsCut p (copy_made i vector stamp) (blocks_over (copy_at p image i.file) i.work.content (ascending i.work.changed)) how passed image new)) (sym is)
      (cut_fault e (IsCut p (copy_made i vector stamp) (blocks_over (copy_at p image i.file) i.work.content (ascending i.work.changed)) how passed image new)
      (subst (λ (j : Instance). OnErr (commit_answer {T = Unit {0}} (Err e)) (IsCut p (copy_made j vector stamp) (blocks_over (copy_at p image j.file) j.work.content (ascending j.work.changed)) how passed image new)) same
      (subst (λ (n : ℕ). OnErr (commit_answer {T = Unit {0}} (Err e)) (IsCut p (copy_made q vector stamp) n how passed image new)) count
      (subst (λ (xs : List ℕ). OnErr (commit_answer {T = Unit {0}} (Err e)) (IsCut p (packed q.file (version_of q vector stamp) xs) (blocks_over (copy_at p image q.file) content changed) how passed image new)) c k))))
