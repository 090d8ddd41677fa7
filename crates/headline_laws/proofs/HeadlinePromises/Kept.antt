-- Every commit is an ancestor of a kept version, and its site holds it or one above it.
use Rattle.std.proofs.Common.{◌≡◌, ℕ, ◌+◌, ◌==◌, ◌&&◌, ◌||◌, Bool, true, false, cond, List, [], ◌∷◌, Option, Some, None, refl, sym, ap, subst, ◌∙◌, ◌⊎◌, inl, inr}
use Rattle.std.specs.Prelude.{reverse}
use Rattle.std.specs.List.{find, list_any, list_all, AllByRecursion}
use Rattle.std.specs.Option.{option_map}
use Rattle.locus_ids.specs.declared.config.Config.{Config}
use Rattle.locus_ids.specs.declared.sites.Sites.{Sites}
use Rattle.locus_ids.specs.declared.ids.Stamp.{Stamp}
use Rattle.commit_graph.specs.declared.history.Version.{Version}
use Rattle.commit_graph.specs.Versions.{is_ancestor, same_file, same_stamp}
use Rattle.trace_book.specs.declared.entry.Entry.{Entry}
use Rattle.trace_book.specs.declared.record.Record.{Record}
use Rattle.trace_book.specs.declared.record.Record.TheVariants as rec
use Rattle.tree_model.specs.Folds.{Trace}
use Rattle.tree_model.specs.Histories.{format_version, format_versions, history, history_after}
use Rattle.tree_model.specs.State.{has_stamp}
use Rattle.tree_model.specs.Tree.{candidates as tree_candidates}
use Rattle.the_run.specs.Kept.{Among}
use Rattle.headline_laws.specs.Promises.Holding.{AtEachMoment, HoldsAtLeast}
use Rattle.headline_laws.specs.Promises.Moments.{IsUnderKept, VersionsHold, VersionsHoldThroughout}
use Rattle.promises.specs.Past.{Copy, Epoch, Past, candidates, epoch_at, kept_in, site_at, stamp_in, unformed}
use Rattle.promises.specs.After.{is_epoch}
use Rattle.promises.specs.Headline.{always, is_held_at_home, is_kept_under, loses_nothing}
use Rattle.past_laws.specs.Agreement.{Agrees, is_of_cluster, past}
use Rattle.past_laws.specs.Along.{ComesSo, EachComesSo, IsNamed}
use Rattle.past_laws.proofs.Agreeing.{all_agrees}
use Rattle.past_laws.proofs.Names.{both, epoch_own, none_some, some_same, stamp_eq, stamp_own}
use Rattle.past_laws.proofs.Changing.{Finds, any_finds, first_found, found_any, found_passes}
use Rattle.past_laws.proofs.CallsServed.{kept_same}
use Rattle.past_laws.proofs.MadeKnown.{candidates_alike}
use Rattle.past_laws.proofs.Sites.{of_cluster_there}
use Rattle.headline_laws.proofs.HeadlinePromises.Lists.{all_among, among_found}
use Rattle.headline_laws.proofs.HeadlinePromises.Moments.{OfEach, always_of}

-- A version of the history is the format's, or a commit record tells it.

pub record IsCommit (c : Config) (now : Trace) (v : Version) : Type 0 where
  pub line : ℕ
  pub parents : List Stamp
  pub content : List ℕ
  pub there : Among (record { line = line; what = rec.Commit v.file v.site v.stamp parents content }) now
  pub own : v.stamp.site ≡ v.site
  pub ours : is_of_cluster c v.site ≡ true

abbrev IsWritten : Config → Trace → Version → Type 0
IsWritten c now v = (v.site ≡ 0) ⊎ IsCommit c now v

formats_written : (c : Config) (now : Trace) (group : ℕ) (packs : List Sites) → AllByRecursion (IsWritten c now) (format_versions group packs)
formats_written c now group [] = tt
formats_written c now group (p ∷ ps) = over (p.0 == 0) (formats_written c now (group + 1) ps)
  where
    rest : List Version
    rest = format_versions (group + 1) ps

    over : (b : Bool) → AllByRecursion {X = Version} (IsWritten c now) rest → AllByRecursion {X = Version} (IsWritten c now) (cond b rest (format_version group ∷ rest))
    over true later = later
    over false later = (inl refl, later)

more_written : (c : Config) (r : Entry) (before : Trace) (vs : List Version) → AllByRecursion (IsWritten c before) vs → AllByRecursion (IsWritten c (r ∷ before)) vs
more_written c r before [] k = tt
more_written c r before (v ∷ vs) k = (one k.0, more_written c r before vs k.1)
  where
    one : IsWritten c before v → IsWritten c (r ∷ before) v
    one (inl e) = inl e
    one (inr h) = inr (record { line = h.line; parents = h.parents; content = h.content; there = inr h.there; own = h.own; ours = h.ours })

all_written : (c : Config) (now : Trace) → EachComesSo c now → AllByRecursion (IsWritten c now) (history c now)
all_written c [] k = formats_written c [] 0 c.packs
all_written c (r ∷ before) k = over r.line r.what k.0 (all_written c before k.1)
  where
    over : (line : ℕ) (w : Record) → ComesSo c before (record { line = line; what = w }) → AllByRecursion (IsWritten c before) (history c before) → AllByRecursion (IsWritten c (record { line = line; what = w } ∷ before)) (history_after w (history c before))
    over line (rec.Commit f site stamp parents content) so old = (
      inr (record { line = line; parents = parents; content = content; there = inl refl; own = ap (λ (s : Stamp). s.site) so.row.numbered; ours = so.sites }),
      more_written c (record { line = line; what = rec.Commit f site stamp parents content }) before (history c before) old,
    )
    over line w so old = more_written c (record { line = line; what = w }) before (history c before) old

-- In each epoch what is known has a kept version above it.

kept_under : (c : Config) (now : Trace) (p : Past) → Agrees c now p → VersionsHold c now → (v : Version) (t : Epoch) → Among t p.epochs → is_kept_under p v t ≡ true
kept_under c now p a hold v t k = over (list_any (is_ancestor p.history v.file v.stamp) (candidates t v.file)) refl
  where
    itself : epoch_at p t.id ≡ t
    itself = first_found (unformed t.id) (is_epoch t.id) p.epochs t (among_found (is_epoch t.id) p.epochs t k (epoch_own t.id) (a.epochs.once t.id))

    known : (s : Stamp) → has_stamp (candidates t v.file) s ≡ true → has_stamp (tree_candidates c now t.id v.file) s ≡ true
    known s h = ap (λ ss. has_stamp ss s) (candidates_alike c now p t.id v.file a ∙ ap (λ (u : Epoch). candidates u v.file) itself) ∙ h

    under : IsUnderKept c now t.id v.file v.stamp → list_any (is_ancestor p.history v.file v.stamp) (kept_in p t v.file) ≡ true
    under it =
        let kept = ap (λ (u : Epoch). has_stamp (kept_in p u v.file) it.top) (sym itself) ∙ (ap (λ ss. has_stamp ss it.top) (kept_same c now p a t.id v.file) ∙ it.is_kept) in
        found (any_finds (λ s. same_stamp s it.top) (kept_in p t v.file) kept)
      where
        found : Finds (λ s. same_stamp s it.top) (kept_in p t v.file) → list_any (is_ancestor p.history v.file v.stamp) (kept_in p t v.file) ≡ true
        found f = found_any (λ s. same_stamp s it.top) (is_ancestor p.history v.file v.stamp) (kept_in p t v.file) f.one f.found
            (ap (λ h. is_ancestor h v.file v.stamp f.one) a.epochs.history ∙ (ap (is_ancestor (history c now) v.file v.stamp) (stamp_eq f.one it.top f.passes) ∙ it.above))

    below : Finds (is_ancestor p.history v.file v.stamp) (candidates t v.file) → list_any (is_ancestor p.history v.file v.stamp) (kept_in p t v.file) ≡ true
    below f = under (hold.kept t.id v.file f.one v.stamp
        (known f.one (found_any (is_ancestor p.history v.file v.stamp) (λ s. same_stamp s f.one) (candidates t v.file) f.one f.found (stamp_own f.one)))
        (ap (λ h. is_ancestor h v.file v.stamp f.one) (sym a.epochs.history) ∙ f.passes))

    over : (b : Bool) → list_any (is_ancestor p.history v.file v.stamp) (candidates t v.file) ≡ b → is_kept_under p v t ≡ true
    over false e = rw e refl
    over true e = rw e (below (any_finds (is_ancestor p.history v.file v.stamp) (candidates t v.file) e))

-- Its own site has it, or one above it.

held_home : (c : Config) (now : Trace) (p : Past) → Agrees c now p → (v : Version) → is_of_cluster c v.site ≡ true → v.stamp.site ≡ v.site → HoldsAtLeast c now v.site v.file v.stamp → is_held_at_home p (record { file = v.file; stamp = v.stamp }) ≡ true
held_home c now p a v ours own it = subst (λ n. list_any (λ (w : Copy). same_file w.file v.file && is_ancestor p.history v.file v.stamp w.stamp) (site_at p n).held ≡ true) (sym own)
    (over (find (λ (w : Copy). same_file w.file v.file) (site_at p v.site).held) refl (a.sites.held v.site (of_cluster_there c p.sites v.site a.sites.numbers ours) v.file ∙ it.held))
  where
    over : (o : Option Copy) → find (λ (w : Copy). same_file w.file v.file) (site_at p v.site).held ≡ o → option_map (λ (w : Copy). w.stamp) (find (λ (w : Copy). same_file w.file v.file) (site_at p v.site).held) ≡ Some it.holds
        → list_any (λ (w : Copy). same_file w.file v.file && is_ancestor p.history v.file v.stamp w.stamp) (site_at p v.site).held ≡ true
    over None f h = none_some it.holds (sym (ap (option_map (λ (w : Copy). w.stamp)) f) ∙ h)
    over (Some w) f h = found_any (λ (x : Copy). same_file x.file v.file) (λ (x : Copy). same_file x.file v.file && is_ancestor p.history v.file v.stamp x.stamp) (site_at p v.site).held w f
        (both (same_file w.file v.file) _ (found_passes (λ (x : Copy). same_file x.file v.file) (site_at p v.site).held w f)
        (ap (λ h. is_ancestor h v.file v.stamp w.stamp) a.epochs.history ∙ (ap (is_ancestor (history c now) v.file v.stamp) (some_same w.stamp it.holds (sym (ap (option_map (λ (x : Copy). x.stamp)) f) ∙ h)) ∙ it.above)))

-- At each moment.

each_stays : {X : Type 0} (P : X → Type 0) (q : X → Bool) → ((x : X) → P x → q x ≡ true) → (xs : List X) → AllByRecursion P xs → list_all q xs ≡ true
each_stays P q f [] k = refl
each_stays P q f (x ∷ xs) k = both (q x) (list_all q xs) (f x k.0) (each_stays P q f xs k.1)

nothing_lost : (c : Config) (now : Trace) (p : Past) → EachComesSo c now → Agrees c now p → VersionsHold c now → loses_nothing p ≡ true
nothing_lost c now p k a hold = ap (list_all lost_none) a.epochs.history ∙ each_stays (IsWritten c now) lost_none one (history c now) (all_written c now k)
  where
    lost_none : Version → Bool
    lost_none v = list_all (is_kept_under p v) p.epochs && ((v.site == 0) || is_held_at_home p (record { file = v.file; stamp = v.stamp }))

    later : (x y : Bool) → y ≡ true → (x || y) ≡ true
    later true y h = refl
    later false y h = h

    home : (v : Version) → IsWritten c now v → ((v.site == 0) || is_held_at_home p (record { file = v.file; stamp = v.stamp })) ≡ true
    home v (inl e) = ap (λ n. (n == 0) || is_held_at_home p (record { file = v.file; stamp = v.stamp })) e
    home v (inr h) = later (v.site == 0) _ (held_home c now p a v h.ours h.own (hold.held h.line v.site v.file v.stamp h.parents h.content h.there))

    one : (v : Version) → IsWritten c now v → lost_none v ≡ true
    one v h = both (list_all (is_kept_under p v) p.epochs) _ (all_among (is_kept_under p v) p.epochs (λ t l. kept_under c now p a hold v t l)) (home v h)

kept_of : (c : Config) → IsNamed c → (trace : Trace) → EachComesSo c trace → VersionsHoldThroughout c trace → OfEach (λ r before. loses_nothing (past c (r ∷ before)) ≡ true) trace
kept_of c named [] k holds = tt
kept_of c named (r ∷ before) k holds = (nothing_lost c (r ∷ before) (past c (r ∷ before)) k (all_agrees c named (r ∷ before) k) holds.0, kept_of c named before k.1 holds.1)

pub kept : (c : Config) → IsNamed c → (trace : Trace) → EachComesSo c trace → VersionsHoldThroughout c trace → always loses_nothing c (reverse trace) ≡ true
kept c named trace k holds = always_of loses_nothing c trace (kept_of c named trace k holds)
