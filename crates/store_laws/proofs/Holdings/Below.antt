-- What the laws of every run give of the records of a followed trace: commits are of new stamps, and versions lie in packs.
use Rattle.std.proofs.Common.{◌≡◌, ℕ, ◌+◌, ◌==◌, Bool, true, false, ◌&&◌, ◌||◌, cond, List, [], ◌∷◌, refl, sym, ap, ◌∙◌, subst, arith, ◌⊎◌, inl, inr}
use Rattle.std.proofs.lemmas.Bool.Decides.{nat_tests}
use Rattle.tree_laws.proofs.of_plain_facts.Tests.{and_second, or_either, or_first, or_second, true_false}
use Rattle.locus_ids.specs.declared.config.Config.{Config}
use Rattle.locus_ids.specs.declared.ids.FileId.{FileId}
use Rattle.locus_ids.specs.declared.ids.Stamp.{Stamp}
use Rattle.locus_ids.specs.declared.sites.Sites.{Sites}
use Rattle.commit_graph.specs.Counters.{counter, greatest, next_number}
use Rattle.commit_graph.specs.declared.history.Version.{Version}
use Rattle.commit_graph.specs.Versions.{is_in, is_version, same_file, same_stamp}
use Rattle.site_laws.specs.of_conflict_flags.Written.{NoneTwice}
use Rattle.trace_book.specs.declared.record.Record.{Record}
use Rattle.trace_book.specs.declared.record.Record.TheVariants as says
use Rattle.site_laws.specs.of_role_steps.Own.{Every}
use Rattle.site_laws.specs.of_role_steps.Views.{Told, Shown}
use Rattle.tree_laws.specs.of_the_run.Worlds.{Line}
use Rattle.site_laws.specs.Vectors.Written.{past_of}
use Rattle.site_laws.specs.Vectors.HistoryCommits.{StampsAreOnce, commits_of, real_parents, with_record, with_told}
use Rattle.site_laws.specs.Packs.Packs.{RecordPacked, ToldPacked}
use Rattle.tree_model.specs.Histories.{format_stamp, format_version, format_versions, history}
use Rattle.tree_laws.specs.of_lawful_trace.TreeRows.{MayCommit}
use Rattle.tree_laws.specs.Following.{IsFollowed, MayTell}
use Rattle.tree_laws.specs.Frames.{IsFresh}
use Rattle.tree_laws.specs.Printed.{entries, onto_entries}
use Rattle.tree_laws.proofs.Orders.Keeping.{IsNew}
use Rattle.tree_laws.proofs.Orders.Standing.{same_stamp_eq}
use Rattle.store_laws.specs.Holdings.Below.{LawsBelow}
use Rattle.store_laws.proofs.Holdings.Made.{CommitsAreNew}
use Rattle.store_laws.proofs.Holdings.Packed.{IsPacked, PacksHold}

-- ---- packs ----

record_packed : (c : Config) (r : Record) → RecordPacked c r → IsPacked c r
record_packed c (says.Commit f s stamp parents content) p = p.0
record_packed c (says.Adopt f s stamp) p = p
record_packed c r p = tt

pub packs_hold : (c : Config) (trace : List Line) → Every (ToldPacked c) (past_of trace) → PacksHold c (entries trace)
packs_hold c [] p = tt
packs_hold c (x ∷ older) p = over x.told p.0 (packs_hold c older p.1)
  where
    over : (y : Told) → ToldPacked c y → PacksHold c (entries older) → PacksHold c (onto_entries x.number y (entries older))
    over (Shown r) q later = (record_packed c r q, later)
    over _ q later = later

-- ---- stamps ----

-- the stamp of a format's version has no number
format_number : (k : ℕ) (packs : List Sites) (f : FileId) (s : Stamp) → is_in (format_versions k packs) f s ≡ true → s.n ≡ 0
format_number k [] f s h = absurd (true_false (sym h))
format_number k (p ∷ ps) f s h = at (p.0 == 0) h (format_number (k + 1) ps f s)
  where
    over : (is_version f s (format_version k) ≡ true) ⊎ (is_in (format_versions (k + 1) ps) f s ≡ true) → (is_in (format_versions (k + 1) ps) f s ≡ true → s.n ≡ 0) → s.n ≡ 0
    over (inl e) later = ap (λ (y : Stamp). y.n) (sym (same_stamp_eq format_stamp s (and_second (same_file (format_version k).file f) (same_stamp format_stamp s) e)))
    over (inr e) later = later e

    at : (b : Bool) → is_in (cond b (format_versions (k + 1) ps) (format_version k ∷ format_versions (k + 1) ps)) f s ≡ true → (is_in (format_versions (k + 1) ps) f s ≡ true → s.n ≡ 0) → s.n ≡ 0
    at true h later = later h
    at false h later = over (or_either (is_version f s (format_version k)) (is_in (format_versions (k + 1) ps) f s) h) later

-- what stands was committed, or is of the format
pub in_commits : (c : Config) (trace : List Line) (f : FileId) (s : Stamp) → is_in (history c (entries trace)) f s ≡ true → (is_in (commits_of f (past_of trace)) f s ≡ true) ⊎ (s.n ≡ 0)
in_commits c [] f s h = inr (format_number 0 c.packs f s h)
in_commits c (x ∷ older) f s h = over x.told h (in_commits c older f s)
  where
    committed : (g : FileId) (z : ℕ) (stamp : Stamp) (parents : List Stamp) (content : List ℕ) (b : Bool) → same_file g f ≡ b → (b && same_stamp stamp s ≡ true) ⊎ (is_in (history c (entries older)) f s ≡ true) → (is_in (history c (entries older)) f s ≡ true → (is_in (commits_of f (past_of older)) f s ≡ true) ⊎ (s.n ≡ 0))
        → (is_in (cond b (record { file = g; site = z; stamp = stamp; parents = real_parents parents; content = content } ∷ commits_of f (past_of older)) (commits_of f (past_of older))) f s ≡ true) ⊎ (s.n ≡ 0)
    committed g z stamp parents content true e (inl k) later = inl (or_first (same_file g f && same_stamp stamp s) _ (ap (λ (a : Bool). a && same_stamp stamp s) e ∙ k))
    committed g z stamp parents content false e (inl k) later = absurd (true_false (sym k))
    committed g z stamp parents content b e (inr k) later = more b (later k)
      where
        more : (b : Bool) → (is_in (commits_of f (past_of older)) f s ≡ true) ⊎ (s.n ≡ 0) → (is_in (cond b (record { file = g; site = z; stamp = stamp; parents = real_parents parents; content = content } ∷ commits_of f (past_of older)) (commits_of f (past_of older))) f s ≡ true) ⊎ (s.n ≡ 0)
        more b (inr n) = inr n
        more true (inl m) = inl (or_second (same_file g f && same_stamp stamp s) _ m)
        more false (inl m) = inl m

    told : (r : Record) → is_in (history c (record { line = x.number; what = r } ∷ entries older)) f s ≡ true → (is_in (history c (entries older)) f s ≡ true → (is_in (commits_of f (past_of older)) f s ≡ true) ⊎ (s.n ≡ 0)) → (is_in (with_record f r (commits_of f (past_of older))) f s ≡ true) ⊎ (s.n ≡ 0)
    told (says.Commit g z stamp parents content) h later = committed g z stamp parents content (same_file g f) refl (or_either (same_file g f && same_stamp stamp s) _ h) later
    told r h later = later h

    over : (y : Told) → is_in (history c (onto_entries x.number y (entries older))) f s ≡ true → (is_in (history c (entries older)) f s ≡ true → (is_in (commits_of f (past_of older)) f s ≡ true) ⊎ (s.n ≡ 0)) → (is_in (with_told f y (commits_of f (past_of older))) f s ≡ true) ⊎ (s.n ≡ 0)
    over (Shown r) h later = told r h later
    over _ h later = later h

pub once_before : (x : Line) (older : List Line) → StampsAreOnce (past_of (x ∷ older)) → StampsAreOnce (past_of older)
once_before x older once f = over x.told (once f)
  where
    tail : (b : Bool) (v : Version) → NoneTwice (cond b (v ∷ commits_of f (past_of older)) (commits_of f (past_of older))) → NoneTwice (commits_of f (past_of older))
    tail true v k = k.1
    tail false v k = k

    told : (r : Record) → NoneTwice (with_record f r (commits_of f (past_of older))) → NoneTwice (commits_of f (past_of older))
    told (says.Commit g z stamp parents content) k = tail (same_file g f) (record { file = g; site = z; stamp = stamp; parents = real_parents parents; content = content }) k
    told r k = k

    over : (y : Told) → NoneTwice (with_told f y (commits_of f (past_of older))) → NoneTwice (commits_of f (past_of older))
    over (Shown r) k = told r k
    over _ k = k

commit_new : (c : Config) (older : List Line) (number : ℕ) (f : FileId) (z : ℕ) (stamp : Stamp) (parents : List Stamp) (content : List ℕ) → MayCommit c (entries older) f z stamp parents content →
    StampsAreOnce (past_of (record { number = number; told = Shown (says.Commit f z stamp parents content) } ∷ older)) → (b : Bool) → is_in (history c (entries older)) f stamp ≡ b → b ≡ false
commit_new c older number f z stamp parents content may once false e = refl
commit_new c older number f z stamp parents content may once true e = over (in_commits c older f stamp e)
  where
    own : (g : FileId) → same_file g g ≡ true
    own g = grind (arith, nat_tests)

    twice : NoneTwice (record { file = f; site = z; stamp = stamp; parents = real_parents parents; content = content } ∷ commits_of f (past_of older))
    twice = subst (λ (b : Bool). NoneTwice (cond b (record { file = f; site = z; stamp = stamp; parents = real_parents parents; content = content } ∷ commits_of f (past_of older)) (commits_of f (past_of older)))) (own f) (once f)

    number_is : stamp.n ≡ next_number (history c (entries older)) f parents z
    number_is = ap (λ (y : Stamp). y.n) may.numbered

    over : (is_in (commits_of f (past_of older)) f stamp ≡ true) ⊎ (stamp.n ≡ 0) → true ≡ false
    over (inl k) = sym k ∙ twice.0
    over (inr k) = absurd (never (greatest (λ p. counter (history c (entries older)) f p z) parents) (sym k ∙ number_is))
      where
        never : (n : ℕ) → 0 ≡ n + 1 → ⊥
        never n q = omega (arith, q)

pub commits_new : (c : Config) (trace : List Line) → IsFollowed c trace → StampsAreOnce (past_of trace) → CommitsAreNew c (entries trace)
commits_new c [] followed once = tt
commits_new c (x ∷ older) followed once = over x.told followed.0 once (commits_new c older followed.1 (once_before x older once))
  where
    told : (r : Record) → MayTell c older (Shown r) → StampsAreOnce (past_of (record { number = x.number; told = Shown r } ∷ older)) → IsNew c (entries older) r
    told (says.Commit f z stamp parents content) may k = commit_new c older x.number f z stamp parents content may.row k (is_in (history c (entries older)) f stamp) refl
    told r may k = tt

    over : (y : Told) → MayTell c older y → StampsAreOnce (past_of (record { number = x.number; told = y } ∷ older)) → CommitsAreNew c (entries older) → CommitsAreNew c (onto_entries x.number y (entries older))
    over (Shown r) may k later = (told r may k, later)
    over _ may k later = later

-- so each line is fresh, as packets want it
pub line_fresh : (c : Config) (older : List Line) (number : ℕ) (y : Told) → CommitsAreNew c (onto_entries number y (entries older)) → IsFresh c older y
line_fresh c older number (Shown r) new = told r new.0
  where
    told : (r : Record) → IsNew c (entries older) r → IsFresh c older (Shown r)
    told (says.Commit f z stamp parents content) k = λ stands. true_false (sym stands ∙ k)
    told r k = tt
line_fresh c older number y new = tt

pub laws_before : (c : Config) (x : Line) (older : List Line) → LawsBelow c (x ∷ older) → LawsBelow c older
laws_before c x older k = record { once = once_before x older k.once; packed = k.packed.1; packs = k.packs }
