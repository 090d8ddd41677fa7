-- A version that stands stands for good, with its content, its written vector, and its file's kind and set, where no commit
-- takes a stamp that stands.
use Rattle.std.proofs.Common.{◌≡◌, ℕ, Bool, true, false, ◌||◌, List, [], ◌∷◌, map, refl, ◌∙◌, ap, subst, arith, ⊎_elim}
use Rattle.std.proofs.lemmas.Bool.Decides.{nat_tests}
use Rattle.locus_ids.specs.declared.config.Config.{Config}
use Rattle.locus_ids.specs.declared.ids.FileId.{FileId}
use Rattle.locus_ids.specs.declared.ids.Stamp.{Stamp}
use Rattle.locus_ids.specs.Sizes.{sites_max}
use Rattle.commit_graph.specs.Counters.{counter}
use Rattle.commit_graph.specs.Vectors.{vector_of, numbers_from}
use Rattle.commit_graph.specs.Versions.{is_version, is_in, content_of}
use Rattle.commit_graph.specs.declared.history.Version.{Version}
use Rattle.trace_book.specs.declared.record.Record.{Record}
use Rattle.trace_book.specs.declared.record.Record.TheVariants as says
use Rattle.the_run.specs.of_role_steps.Views.{Told, Shown}
use Rattle.the_run.specs.Worlds.{Line}
use Rattle.lawful_trace.specs.of_tree_model.Folds.{Trace}
use Rattle.lawful_trace.specs.of_tree_model.Histories.{history}
use Rattle.tree_laws.specs.Printed.{entries, onto_entries}
use Rattle.tree_laws.specs.Frames.{IsFresh}
use Rattle.tree_laws.specs.Instances.{Stands}
use Rattle.tree_laws.proofs.Names.{true_or_false}

-- ---- one version more ----

-- the version is another than that of the file with the stamp
other_content : (v : Version) (older : List Version) (f : FileId) (s : Stamp) → is_version f s v ≡ false → content_of (v ∷ older) f s ≡ content_of older f s
other_content v older f s e = rw e refl

other_counter : (v : Version) (older : List Version) (f : FileId) (s : Stamp) (site : ℕ) → is_version f s v ≡ false → counter (v ∷ older) f s site ≡ counter older f s site
other_counter v older f s site e = rw e refl

other_counters : (v : Version) (older : List Version) (f : FileId) (s : Stamp) (sites : List ℕ) → is_version f s v ≡ false → map (counter (v ∷ older) f s) sites ≡ map (counter older f s) sites
other_counters v older f s [] e = refl
other_counters v older f s (site ∷ sites) e = ap (λ (n : ℕ). n ∷ map (counter (v ∷ older) f s) sites) (other_counter v older f s site e) ∙ ap (λ (ns : List ℕ). counter older f s site ∷ ns) (other_counters v older f s sites e)

in_more : (v : Version) (older : List Version) (f : FileId) (s : Stamp) → is_in older f s ≡ true → is_in (v ∷ older) f s ≡ true
in_more v older f s h = over (is_version f s v)
  where
    over : (b : Bool) → (b || is_in older f s) ≡ true
    over true = refl
    over false = h

-- ---- one line more ----

-- a version that stands isn't the one that is committed now
fresh_other : (c : Config) (older : List Line) (g : FileId) (site : ℕ) (stamp : Stamp) (parents : List Stamp) (content : List ℕ) → IsFresh c older (Shown (says.Commit g site stamp parents content)) → (f : FileId) (s : Stamp) → Stands c older f s →
    is_version f s (record { file = g; site = site; stamp = stamp; parents = parents; content = content }) ≡ false
fresh_other c older g site stamp parents content fresh f s h = ⊎_elim (λ (e : is_version f s v ≡ true). absurd (fresh (file_is e (stamp_is e h)))) (λ (e : is_version f s v ≡ false). e) (true_or_false (is_version f s v))
  where
    v : Version
    v = record { file = g; site = site; stamp = stamp; parents = parents; content = content }

    group : is_version f s v ≡ true → f.group ≡ g.group
    group e = grind (arith, nat_tests)

    ino : is_version f s v ≡ true → f.ino ≡ g.ino
    ino e = grind (arith, nat_tests)

    at_site : is_version f s v ≡ true → s.site ≡ stamp.site
    at_site e = grind (arith, nat_tests)

    number : is_version f s v ≡ true → s.n ≡ stamp.n
    number e = grind (arith, nat_tests)

    file_eq : is_version f s v ≡ true → f ≡ g
    file_eq e = λ i. record { group = group e i; ino = ino e i }

    stamp_eq : is_version f s v ≡ true → s ≡ stamp
    stamp_eq e = λ i. record { site = at_site e i; n = number e i }

    file_is : is_version f s v ≡ true → Stands c older f stamp → Stands c older g stamp
    file_is e k = subst (λ (x : FileId). Stands c older x stamp) (file_eq e) k

    stamp_is : is_version f s v ≡ true → Stands c older f s → Stands c older f stamp
    stamp_is e k = subst (λ (x : Stamp). Stands c older f x) (stamp_eq e) k

stands_record : (c : Config) (n : ℕ) (r : Record) (before : Trace) (f : FileId) (s : Stamp) → is_in (history c before) f s ≡ true → is_in (history c (record { line = n; what = r } ∷ before)) f s ≡ true
stands_record c n (says.Commit g site stamp parents content) before f s h = in_more (record { file = g; site = site; stamp = stamp; parents = parents; content = content }) (history c before) f s h
stands_record c n _ before f s h = h

pub stands_more : (c : Config) (n : ℕ) (x : Told) (older : List Line) (f : FileId) (s : Stamp) → Stands c older f s → Stands c (record { number = n; told = x } ∷ older) f s
stands_more c n (Shown r) older f s h = stands_record c n r (entries older) f s h
stands_more c n _ older f s h = h

content_record : (c : Config) (n : ℕ) (r : Record) (older : List Line) (f : FileId) (s : Stamp) → IsFresh c older (Shown r) → Stands c older f s → content_of (history c (record { line = n; what = r } ∷ entries older)) f s ≡ content_of (history c (entries older)) f s
content_record c n (says.Commit g site stamp parents content) older f s fresh h = other_content (record { file = g; site = site; stamp = stamp; parents = parents; content = content }) (history c (entries older)) f s (fresh_other c older g site stamp parents content fresh f s h)
content_record c n _ older f s fresh h = refl

pub content_same : (c : Config) (n : ℕ) (x : Told) (older : List Line) (f : FileId) (s : Stamp) → IsFresh c older x → Stands c older f s → content_of (history c (onto_entries n x (entries older))) f s ≡ content_of (history c (entries older)) f s
content_same c n (Shown r) older f s fresh h = content_record c n r older f s fresh h
content_same c n _ older f s fresh h = refl

vector_record : (c : Config) (n : ℕ) (r : Record) (older : List Line) (f : FileId) (s : Stamp) → IsFresh c older (Shown r) → Stands c older f s → vector_of (history c (record { line = n; what = r } ∷ entries older)) f s ≡ vector_of (history c (entries older)) f s
vector_record c n (says.Commit g site stamp parents content) older f s fresh h = other_counters (record { file = g; site = site; stamp = stamp; parents = parents; content = content }) (history c (entries older)) f s (numbers_from 1 sites_max) (fresh_other c older g site stamp parents content fresh f s h)
vector_record c n _ older f s fresh h = refl

pub vector_same : (c : Config) (n : ℕ) (x : Told) (older : List Line) (f : FileId) (s : Stamp) → IsFresh c older x → Stands c older f s → vector_of (history c (onto_entries n x (entries older))) f s ≡ vector_of (history c (entries older)) f s
vector_same c n (Shown r) older f s fresh h = vector_record c n r older f s fresh h
vector_same c n _ older f s fresh h = refl
