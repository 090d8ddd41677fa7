-- The vector on which an open that isn't to read is granted counts all that the kept versions count.
use Rattle.std.proofs.Common.{◌≡◌, ◌≤◌, ℕ, Bool, true, false, cond, List, [], ◌∷◌, Option, Some, None, refl, sym, ◌∙◌, arith}
use Rattle.role_steps.proofs.of_plain_facts.Options.{none_some}
use Rattle.role_steps.proofs.of_plain_facts.Tests.{true_false}
use Rattle.locus_ids.specs.declared.ids.Mode.{Mode}
use Rattle.locus_ids.specs.declared.ids.Mode.TheVariants as mode
use Rattle.locus_ids.specs.declared.ids.Stamp.{Stamp}
use Rattle.locus_ids.specs.declared.refusal.Refusal.{Refusal}
use Rattle.locus_ids.specs.declared.refusal.Refusal.TheVariants as refusal
use Rattle.version_vector.specs.Counters.{part, AllLe}
use Rattle.version_vector.proofs.Counting.{joined_least, AllLe-same}
use Rattle.commit_graph.specs.Grants.{Opener, is_read, excluder, kept_refusal, grant_refusal}
use Rattle.tree_model.specs.of_dir_format.Entries.{nothing_seen}
use Rattle.wire_messages.specs.declared.body.Opening.{Opening}
use Rattle.wire_messages.specs.declared.body.Opening.TheVariants as how
use Rattle.role_steps.specs.Views.{Frame}
use Rattle.role_steps.specs.Versions.{kept, stamps_of, joined_vectors, holders_of, holding_of, chosen_site, file_row}
use Rattle.role_steps.specs.Opens.{OpenRequest, mode_of, openers, Decision, Denies, Grants, plain_at, plain_decision, is_stamp_among, resolve_from, grant_on, unless_refused, file_decision, decision}
use Rattle.role_steps.specs.declared.synchronizing.SyncTable.{SyncTable}
use Rattle.role_steps.specs.declared.synchronizing.FileRow.{FileRow}
use Rattle.role_steps.specs.declared.synchronizing.VersionRow.{VersionRow}
use Rattle.role_steps.specs.declared.synchronizing.Holding.{Holding}
use Rattle.site_laws.proofs.Vectors.SyncFacts.{seen_none}
use Rattle.site_laws.specs.Locks.Locks.{IsOfAFile}
use Rattle.site_laws.proofs.Locks.Apart.{none_excludes}
use Rattle.site_laws.proofs.Kept.StampKeptJoins.{joins}

-- ---- what a decision to grant knows ----

abbrev pub Enough : Mode → List VersionRow → Decision → Type 0
Enough m vs (Denies why) = Unit {0}
Enough m vs (Grants ss stamp vector parents set k) = is_read m ≡ false → AllLe (joins vs) vector

-- the join of one vector is that vector
one_joined : (v : VersionRow) → AllLe (joins (v ∷ [])) v.vector
one_joined v = joined_least v.vector nothing_seen v.vector (AllLe-same v.vector) (record { each = λ i. none i (seen_none i) })
  where
    none : (i : ℕ) → part nothing_seen i ≡ 0 → part nothing_seen i ≤ part v.vector i
    none i e = omega (arith, e)

plain_enough : (m : Mode) (f : Frame) (us : ℕ) (r : FileRow) (v : VersionRow) (o : Option ℕ) → Enough m (v ∷ []) (plain_at r v o)
plain_enough m f us r v None = tt
plain_enough m f us r v (Some ss) = λ writes. one_joined v

write_enough : (f : Frame) (us : ℕ) (r : FileRow) (vs : List VersionRow) → kept_refusal mode.Write (stamps_of vs) ≡ None → Enough mode.Write vs (plain_decision f us r vs)
write_enough f us r [] e = tt
write_enough f us r (v ∷ []) e = plain_enough mode.Write f us r v (chosen_site us f.me (holders_of r v.stamp))
write_enough f us r (v ∷ w ∷ others) e = absurd (none_some (refusal.Conflict v.stamp w.stamp) (sym e))

read_at : (r : FileRow) (vs : List VersionRow) (v : VersionRow) (o : Option ℕ) → Enough mode.Read vs (plain_at r v o)
read_at r vs v None = tt
read_at r vs v (Some ss) = λ writes. absurd (true_false writes)

read_enough : (f : Frame) (us : ℕ) (r : FileRow) (vs : List VersionRow) → Enough mode.Read vs (plain_decision f us r vs)
read_enough f us r [] = tt
read_enough f us r (v ∷ others) = read_at r (v ∷ others) v (chosen_site us f.me (holders_of r v.stamp))

cond_enough : (m : Mode) (vs : List VersionRow) (b : Bool) (d : Decision) → Enough m vs d → Enough m vs (cond b d (Denies refusal.NoStorage))
cond_enough m vs true d h = h
cond_enough m vs false d h = tt

resolve_enough : (r : FileRow) (vs : List VersionRow) (o : Option Holding) → Enough mode.Resolve vs (resolve_from r vs o)
resolve_enough r vs None = tt
resolve_enough r vs (Some h) = cond_enough mode.Resolve vs (is_stamp_among h.stamp (stamps_of vs)) (Grants h.site (Some h.stamp) (joined_vectors vs) (stamps_of vs) r.set r.kind) (λ writes. AllLe-same (joins vs))

grant_enough : (f : Frame) (us : ℕ) (r : FileRow) (x : Opening) → kept_refusal (mode_of x) (stamps_of r.kept) ≡ None → Enough (mode_of x) r.kept (grant_on f us r r.kept x)
grant_enough f us r how.Read e = read_enough f us r r.kept
grant_enough f us r how.Write e = write_enough f us r r.kept e
grant_enough f us r (how.Resolve site) e = resolve_enough r r.kept (holding_of r site)
grant_enough f us r how.Mend e = λ writes. AllLe-same (joins r.kept)
grant_enough f us r (how.Make set k) e = tt

unless_enough : (f : Frame) (us : ℕ) (o : OpenRequest) (known : Option FileRow) (why : Option Refusal) → (why ≡ None → kept_refusal (mode_of o.how) (stamps_of (kept known)) ≡ None) → Enough (mode_of o.how) (kept known) (unless_refused f us o known why)
unless_enough f us o known (Some why) h = tt
unless_enough f us o None None h = tt
unless_enough f us o (Some r) None h = grant_enough f us r o.how (h refl)

-- where nothing refuses the open, the kept versions don't
kept_none : (m : Mode) (os : List Opener) (stamps : List Stamp) → grant_refusal m os stamps ≡ None → kept_refusal m stamps ≡ None
kept_none m os stamps h = by_excluder (none_excludes m os stamps h)
  where
    by_excluder : excluder m os ≡ None → kept_refusal m stamps ≡ None
    by_excluder e = same e ∙ h
      where
        same : excluder m os ≡ None → kept_refusal m stamps ≡ grant_refusal m os stamps
        same e = rw e refl

file_enough : (f : Frame) (t : SyncTable) (us : ℕ) (o : OpenRequest) → Enough (mode_of o.how) (kept (file_row t o.file.ino)) (file_decision f t us o)
file_enough f t us o = unless_enough f us o (file_row t o.file.ino) _ (λ e. kept_none (mode_of o.how) (openers t o.file) (stamps_of (kept (file_row t o.file.ino))) e)

pub decision_enough : (f : Frame) (t : SyncTable) (us : ℕ) (o : OpenRequest) (x : Opening) → IsOfAFile (mode_of x) → Enough (mode_of o.how) (kept (file_row t o.file.ino)) (decision f t us o x)
decision_enough f t us o (how.Make set k) it = absurd it
decision_enough f t us o how.Read it = file_enough f t us o
decision_enough f t us o how.Write it = file_enough f t us o
decision_enough f t us o (how.Resolve site) it = file_enough f t us o
decision_enough f t us o how.Mend it = file_enough f t us o
