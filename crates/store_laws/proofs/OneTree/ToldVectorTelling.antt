-- Written vectors tell which of two versions is above the other: so it is by the commits that were told, and each version that stands
-- is one of them or the format's.
use Rattle.std.proofs.Common.{◌≡◌, ℕ, ◌+◌, ◌==◌, Bool, true, false, cond, ◌&&◌, ◌||◌, List, [], ◌∷◌, refl, sym, ◌∙◌, ap, subst, ◌⊎◌, inl, inr}
use Rattle.role_steps.proofs.of_plain_facts.Tests.{and_first, and_second, or_either, or_first, or_second, true_false}
use Rattle.locus_ids.specs.declared.config.Config.{Config}
use Rattle.locus_ids.specs.declared.ids.FileId.{FileId}
use Rattle.locus_ids.specs.declared.ids.Stamp.{Stamp}
use Rattle.locus_ids.specs.declared.sites.Sites.{Sites}
use Rattle.commit_graph.specs.Vectors.{vector_of}
use Rattle.site_laws.specs.of_conflict_flags.Written.{NoneTwice}
use Rattle.commit_graph.specs.Versions.{is_in, is_version, is_proper_ancestor, same_file, same_stamp}
use Rattle.commit_graph.proofs.Names.{same_stamp_eq}
use Rattle.trace_book.specs.declared.record.Record.{Record}
use Rattle.trace_book.specs.declared.record.Record.TheVariants as says
use Rattle.role_steps.specs.Versions.{is_below}
use Rattle.role_steps.specs.Views.{Told, Shown}
use Rattle.the_run.specs.Worlds.{Line}
use Rattle.tree_model.specs.Folds.{Trace}
use Rattle.tree_model.specs.Histories.{format_stamp, format_version, format_versions, history, history_after}
use Rattle.site_laws.specs.Vectors.Written.{CommitsAreNumbered, past_of}
use Rattle.site_laws.specs.Vectors.HistoryCommits.{CommitsAreSited, commits_of, real_parents, with_record, with_told}
use Rattle.site_laws.proofs.Vectors.HistoryHistory.{all_own, sound, vectors_tell}
use Rattle.site_laws.specs.Kept.Printed.{onto_printed, printed}
use Rattle.site_laws.specs.Kept.Roots.{RootsFollow}
use Rattle.site_laws.proofs.Kept.Alike.{alike}
use Rattle.site_laws.proofs.Kept.Grown.{versions_grow}
use Rattle.site_laws.proofs.Kept.Ordered.{ordered}
use Rattle.site_laws.proofs.Kept.Standing.{StandsIn, under_all}
use Rattle.site_laws.proofs.Kept.VectorsKeep.{Grounds, agree}
use Rattle.tree_laws.specs.Printed.{entries, onto_entries}
use Rattle.tree_laws.proofs.Orders.Standing.{same_file_eq}
use Rattle.store_laws.specs.OneTree.Rest.{EachRest, Past}
use Rattle.store_laws.proofs.OneTree.Staying.{rest_below}
use Rattle.store_laws.specs.OneTree.ToldVectorTelling.{VectorsTellNewer}

-- ---- the two names of the printed trace ----

pub printed_entries : (t : List Line) → printed t ≡ entries t
printed_entries [] = refl
printed_entries (x ∷ older) = over x.told (printed_entries older)
  where
    over : (y : Told) → printed older ≡ entries older → onto_printed x.number y (printed older) ≡ onto_entries x.number y (entries older)
    over (Shown r) e = ap (λ (z : Trace). record { line = x.number; what = r } ∷ z) e
    over _ e = e

-- ---- what stands was committed, or is the format's ----

-- the version of the format is that of a root
format_is : (k : ℕ) (packs : List Sites) (f : FileId) (s : Stamp) → is_in (format_versions k packs) f s ≡ true → (s ≡ format_stamp) × (f.ino ≡ 1)
format_is k [] f s h = absurd (true_false (sym h))
format_is k (p ∷ ps) f s h = at (p.0 == 0) h (format_is (k + 1) ps f s)
  where
    over : (is_version f s (format_version k) ≡ true) ⊎ (is_in (format_versions (k + 1) ps) f s ≡ true) → (is_in (format_versions (k + 1) ps) f s ≡ true → (s ≡ format_stamp) × (f.ino ≡ 1)) → (s ≡ format_stamp) × (f.ino ≡ 1)
    over (inl e) later = (sym (same_stamp_eq format_stamp s (and_second (same_file (format_version k).file f) (same_stamp format_stamp s) e)), ap (λ (y : FileId). y.ino) (sym (same_file_eq (format_version k).file f (and_first (same_file (format_version k).file f) _ e))))
    over (inr e) later = later e

    at : (b : Bool) → is_in (cond b (format_versions (k + 1) ps) (format_version k ∷ format_versions (k + 1) ps)) f s ≡ true → (is_in (format_versions (k + 1) ps) f s ≡ true → (s ≡ format_stamp) × (f.ino ≡ 1)) → (s ≡ format_stamp) × (f.ino ≡ 1)
    at true h later = later h
    at false h later = over (or_either (is_version f s (format_version k)) (is_in (format_versions (k + 1) ps) f s) h) later

pub stands_in : (c : Config) (trace : List Line) (f : FileId) (s : Stamp) → is_in (history c (entries trace)) f s ≡ true → StandsIn f (commits_of f (past_of trace)) s
stands_in c [] f s h = inl (record { site = ap (λ (y : Stamp). y.site) (format_is 0 c.packs f s h).0; number = ap (λ (y : Stamp). y.n) (format_is 0 c.packs f s h).0 }, (format_is 0 c.packs f s h).1)
stands_in c (x ∷ older) f s h = over x.told h (stands_in c older f s)
  where
    Before : Type 0
    Before = is_in (history c (entries older)) f s ≡ true → StandsIn f (commits_of f (past_of older)) s

    committed : (g : FileId) (z : ℕ) (stamp : Stamp) (parents : List Stamp) (content : List ℕ) (b : Bool) → same_file g f ≡ b → (b && same_stamp stamp s ≡ true) ⊎ (is_in (history c (entries older)) f s ≡ true) → Before
        → StandsIn f (cond b (record { file = g; site = z; stamp = stamp; parents = real_parents parents; content = content } ∷ commits_of f (past_of older)) (commits_of f (past_of older))) s
    committed g z stamp parents content true e (inl k) later = inr (or_first (same_file g f && same_stamp stamp s) _ (ap (λ (a : Bool). a && same_stamp stamp s) e ∙ k))
    committed g z stamp parents content false e (inl k) later = absurd (true_false (sym k))
    committed g z stamp parents content b e (inr k) later = more b (later k)
      where
        more : (b : Bool) → StandsIn f (commits_of f (past_of older)) s → StandsIn f (cond b (record { file = g; site = z; stamp = stamp; parents = real_parents parents; content = content } ∷ commits_of f (past_of older)) (commits_of f (past_of older))) s
        more b (inl n) = inl n
        more true (inr m) = inr (or_second (same_file g f && same_stamp stamp s) _ m)
        more false (inr m) = inr m

    told : (r : Record) → is_in (history_after r (history c (entries older))) f s ≡ true → Before → StandsIn f (with_record f r (commits_of f (past_of older))) s
    told (says.Commit g z stamp parents content) h later = committed g z stamp parents content (same_file g f) refl (or_either (same_file g f && same_stamp stamp s) _ h) later
    told r h later = later h

    over : (y : Told) → is_in (history c (onto_entries x.number y (entries older))) f s ≡ true → Before → StandsIn f (with_told f y (commits_of f (past_of older))) s
    over (Shown r) h later = told r h later
    over _ h later = later h

-- ---- the laws of commits that were told ----

all_numbered : (c : Config) (t : List Line) → EachRest c t → CommitsAreNumbered (past_of t)
all_numbered c [] h = tt
all_numbered c (x ∷ older) h = (h.0.numbered, all_numbered c older h.1)

all_sited : (c : Config) (t : List Line) → EachRest c t → CommitsAreSited (past_of t)
all_sited c [] h = tt
all_sited c (x ∷ older) h = (h.0.sited, all_sited c older h.1)

all_rooted : (c : Config) (t : List Line) → EachRest c t → RootsFollow (past_of t)
all_rooted c [] h = tt
all_rooted c (x ∷ older) h = (h.0.rooted, all_rooted c older h.1)

-- ---- vectors ----

module _ (c : Config) (t : List Line) (past : Past c t) (f : FileId) where
  numbered : CommitsAreNumbered (past_of t)
  numbered = all_numbered c t past.rest.each

  sited : CommitsAreSited (past_of t)
  sited = all_sited c t past.rest.each

  once : NoneTwice (commits_of f (past_of t))
  once = (rest_below c t past.rest).once f

  grounds : Grounds c f t
  grounds = record {
    counted = (sound f (past_of t) numbered sited once).counted;
    own = all_own f (past_of t) numbered sited;
    tells = vectors_tell f (past_of t) numbered sited once;
    same = alike c f t numbered sited once;
    order = ordered f (history c (printed t)) (versions_grow c f t numbered sited once);
    under = λ root. under_all c f root t numbered (all_rooted c t past.rest.each);
  }

pub vectors_tell_newer : (c : Config) (t : List Line) → Past c t → VectorsTellNewer c t
vectors_tell_newer c t past f a b stands above = subst (λ (z : Trace). is_proper_ancestor (history c z) f a b ≡ is_below (vector_of (history c z) f a) (vector_of (history c z) f b)) (printed_entries t) (agree c f t (grounds c t past f) a b (stands_in c t f a stands) (stands_in c t f b above))
