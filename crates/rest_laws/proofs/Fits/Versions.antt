-- The stamp and the vector of each version that stands may stand in a slot.
use Rattle.std.proofs.Common.{◌≡◌, ◌≤◌, ◌<◌, ◌^◌, nat_lt, ℕ, zero, suc, ◌+◌, ◌-◌, ◌==◌, Bool, true, false, ◌||◌, cond, List, [], ◌∷◌, length, refl, sym, ◌∙◌, ap, subst, arith, inl, inr}
use Rattle.std.proofs.lemmas.Bool.Decides.{nat_tests}
use Rattle.role_steps.proofs.of_plain_facts.Tests.{and_first, and_second, true_false}
use Rattle.locus_ids.specs.declared.config.Config.{Config}
use Rattle.locus_ids.specs.declared.ids.FileId.{FileId}
use Rattle.locus_ids.specs.declared.ids.Stamp.{Stamp}
use Rattle.locus_ids.specs.declared.sites.Sites.{Sites}
use Rattle.locus_ids.specs.Sizes.{sites_max}
use Rattle.version_vector.specs.Counters.{part}
use Rattle.commit_graph.specs.Counters.{counter, greatest, next_number}
use Rattle.commit_graph.specs.Vectors.{vector_of}
use Rattle.commit_graph.specs.Versions.{is_in, is_version, same_file}
use Rattle.commit_graph.specs.declared.history.Version.{Version}
use Rattle.stored_versions.specs.Versions.{AgreesWith, IsStamp}
use Rattle.trace_book.specs.declared.record.Record.{Record}
use Rattle.trace_book.specs.declared.record.Record.TheVariants as says
use Rattle.role_steps.specs.Views.{Told, Shown}
use Rattle.the_run.specs.Worlds.{Line}
use Rattle.site_laws.specs.Vectors.HistoryCommits.{IsSite}
use Rattle.tree_model.specs.Histories.{format_stamp, format_version, format_versions, history, history_after}
use Rattle.tree_laws.specs.Following.{IsFollowed, MayTell}
use Rattle.tree_laws.specs.Instances.{Stands}
use Rattle.tree_laws.specs.Printed.{entries, onto_entries}
use Rattle.tree_laws.proofs.Orders.Standing.{same_file_eq, same_stamp_eq}
use Rattle.store_laws.specs.OneTree.Rest.{EachRest, Past, RestTold}
use Rattle.store_laws.proofs.Raising.{part_written}
use Rattle.rest_laws.proofs.StoreStepCounters.{counter_low}
use Rattle.rest_laws.proofs.StoreStepFirst.{counts_none}

-- ---- stamps, and the counters of their sites ----

-- the stamp may stand in a slot; the counter of its site is its number, and that of the format's stamp has no counter
record Named (h : List Version) (f : FileId) (stamp : Stamp) : Type 0 where
  is : IsStamp stamp
  own : 1 ≤ stamp.site → counter h f stamp stamp.site ≡ stamp.n
  none : stamp.site ≡ 0 → (site : ℕ) → 1 ≤ site → counter h f stamp site ≡ 0

none_is : (site : ℕ) → 1 ≤ site → (0 == site) ≡ false
none_is site low = grind (arith, nat_tests)

format_named : (packs : List Sites) (f : FileId) (stamp : Stamp) → format_stamp ≡ stamp → Named (format_versions 0 packs) f stamp
format_named packs f stamp e = subst (Named (format_versions 0 packs) f) e (record {
  is = inl (refl, refl);
  own = λ low. absurd (never low);
  none = λ z site low. counts_none 0 packs f format_stamp site (none_is site low);
})
  where
    never : 1 ≤ 0 → ⊥
    never low = omega (arith, low)

is_format_stamp : (k : ℕ) (packs : List Sites) (f : FileId) (stamp : Stamp) → is_in (format_versions k packs) f stamp ≡ true → format_stamp ≡ stamp
is_format_stamp k [] f stamp e = absurd (true_false (sym e))
is_format_stamp k (p ∷ ps) f stamp e = at (p.0 == 0) (is_format_stamp (k + 1) ps f stamp) e
  where
    root : (b : Bool) → is_version f stamp (format_version k) ≡ b → (is_in (format_versions (k + 1) ps) f stamp ≡ true → format_stamp ≡ stamp) → b || is_in (format_versions (k + 1) ps) f stamp ≡ true → format_stamp ≡ stamp
    root true is later e = same_stamp_eq format_stamp stamp (and_second (same_file (format_version k).file f) _ is)
    root false is later e = later e

    at : (b : Bool) → (is_in (format_versions (k + 1) ps) f stamp ≡ true → format_stamp ≡ stamp) → is_in (cond b (format_versions (k + 1) ps) (format_version k ∷ format_versions (k + 1) ps)) f stamp ≡ true → format_stamp ≡ stamp
    at true later e = later e
    at false later e = root (is_version f stamp (format_version k)) refl later e

-- a commit: its number counts on from its parents, and is at least 1
commit_named : (h : List Version) (f g : FileId) (b stamp : Stamp) (s : ℕ) (parents : List Stamp) (content : List ℕ) → IsSite s → stamp.n < 4294967295 → stamp ≡ record { site = s; n = next_number h g parents s } → (is_in h f b ≡ true → Named h f b) →
    is_in (record { file = g; site = s; stamp = stamp; parents = parents; content = content } ∷ h) f b ≡ true → Named (record { file = g; site = s; stamp = stamp; parents = parents; content = content } ∷ h) f b
commit_named h f g b stamp s parents content site low numbered before e = over (is_version f b made) refl e
  where
    made : Version
    made = record { file = g; site = s; stamp = stamp; parents = parents; content = content }

    site_is : stamp.site ≡ s
    site_is = ap (λ (z : Stamp). z.site) numbered

    n_is : stamp.n ≡ next_number h g parents s
    n_is = ap (λ (z : Stamp). z.n) numbered

    some : (n k : ℕ) → n ≡ k + 1 → 1 ≤ n
    some n k e = omega (arith, e)

    wide : (n : ℕ) → n < 4294967295 → n < 2 ^ 32
    wide n l = omega (arith, l)

    low_site : (z : ℕ) → z ≡ s → 1 ≤ z
    low_site z e = omega (arith, e, site.low)

    high_site : (z : ℕ) → z ≡ s → z ≤ sites_max
    high_site z e = omega (arith, e, site.high)

    no_zero : (z : ℕ) → z ≡ s → z ≡ 0 → ⊥
    no_zero z e k = omega (arith, e, k, site.low)

    same_own : (s == s) ≡ true
    same_own = grind (arith, nat_tests)

    own_site : (z : ℕ) → z ≡ s → (s == z) ≡ true
    own_site z e = subst (λ (y : ℕ). (s == y) ≡ true) (sym e) same_own

    new_is : is_version f b made ≡ true → stamp ≡ b
    new_is q = same_stamp_eq stamp b (and_second (same_file g f) _ q)

    file_is : is_version f b made ≡ true → g ≡ f
    file_is q = same_file_eq g f (and_first (same_file g f) _ q)

    sum_is : (a : Bool) → a ≡ true → (n : ℕ) → n + cond a 1 0 ≡ n + 1
    sum_is true e n = refl
    sum_is false e n = absurd (true_false (sym e))

    here : (q : is_version f b made ≡ true) → counter (made ∷ h) f b b.site ≡ b.n
    here q = ap (λ (a : Bool). cond a (greatest_of b.site + cond (s == b.site) 1 0) (counter h f b b.site)) q
        ∙ (sum_is (s == b.site) (own_site b.site at_is) (greatest_of b.site)
        ∙ (ap (λ (z : ℕ). greatest_of z + 1) at_is
        ∙ (ap (λ (y : FileId). next_number h y parents s) (sym (file_is q))
        ∙ (sym n_is ∙ ap (λ (z : Stamp). z.n) (new_is q)))))
      where
        greatest_of : ℕ → ℕ
        greatest_of z = greatest (λ p. counter h f p z) parents

        at_is : b.site ≡ s
        at_is = ap (λ (z : Stamp). z.site) (sym (new_is q)) ∙ site_is

    over : (a : Bool) → is_version f b made ≡ a → a || is_in h f b ≡ true → Named (made ∷ h) f b
    over true q e = record {
      is = subst IsStamp (new_is q) (inr (low_site stamp.site site_is, high_site stamp.site site_is, some stamp.n _ n_is, wide stamp.n low));
      own = λ l. here q;
      none = λ z. absurd (no_zero b.site (ap (λ (y : Stamp). y.site) (sym (new_is q)) ∙ site_is) z);
    }
    over false q e = record {
      is = (before e).is;
      own = λ l. ap (λ (a : Bool). cond a (greatest (λ p. counter h f p b.site) parents + cond (s == b.site) 1 0) (counter h f b b.site)) q ∙ (before e).own l;
      none = λ z site l. ap (λ (a : Bool). cond a (greatest (λ p. counter h f p site) parents + cond (s == site) 1 0) (counter h f b site)) q ∙ (before e).none z site l;
    }

module _ (c : Config) (f : FileId) (b : Stamp) where
  record_named : (n : ℕ) (r : Record) (older : List Line) → MayTell c older (Shown r) → RestTold c older (Shown r) → (is_in (history c (entries older)) f b ≡ true → Named (history c (entries older)) f b) → is_in (history_after r (history c (entries older))) f b ≡ true → Named (history_after r (history c (entries older))) f b
  record_named n (says.Commit g s stamp parents content) older may told later e = commit_named (history c (entries older)) f g b stamp s parents content told.sited told.range.1 may.row.numbered later e
  record_named n _ older may told later e = later e

  told_named : (n : ℕ) (x : Told) (older : List Line) → MayTell c older x → RestTold c older x → (is_in (history c (entries older)) f b ≡ true → Named (history c (entries older)) f b) → is_in (history c (onto_entries n x (entries older))) f b ≡ true → Named (history c (onto_entries n x (entries older))) f b
  told_named n (Shown r) older may told later e = record_named n r older may told later e
  told_named n _ older may told later e = later e

  stands_named : (t : List Line) → IsFollowed c t → EachRest c t → is_in (history c (entries t)) f b ≡ true → Named (history c (entries t)) f b
  stands_named [] h g e = format_named c.packs f b (is_format_stamp 0 c.packs f b e)
  stands_named (x ∷ older) h g e = told_named x.number x.told older h.0 g.0 (stands_named older h.1 g.1) e

-- ---- vectors ----

pub beyond : (v : List ℕ) (i : ℕ) → length v ≤ i → part v i ≡ 0
beyond [] i le = refl
beyond (x ∷ v) zero le = absurd (omega (arith, le))
beyond (x ∷ v) (suc i) le = beyond v i (omega (arith, le))

-- what holds of all counters of a written vector and of 0 holds of its parts
each_part : (P : ℕ → Type 0) (h : List Version) (f : FileId) (s : Stamp) → P 0 → ((site : ℕ) → 1 ≤ site → P (counter h f s site)) → (i : ℕ) → P (part (vector_of h f s) i)
each_part P h f s z each i = over (nat_lt i sites_max) refl
  where
    within : nat_lt i sites_max ≡ true → i < sites_max
    within q = grind (arith, nat_tests)

    outside : nat_lt i sites_max ≡ false → sites_max ≤ i
    outside q = grind (arith, nat_tests)

    over : (a : Bool) → nat_lt i sites_max ≡ a → P (part (vector_of h f s) i)
    over true q = subst P (sym (part_written h f s i (within q))) (each (1 + i) (omega arith))
    over false q = subst P (sym (beyond (vector_of h f s) i (outside q))) z

most : {s : Stamp} → IsStamp s → s.site ≤ sites_max
most (inl k) = omega (arith, k.0)
most (inr k) = omega (arith, k.1)

pub stamp_slot : (c : Config) (t : List Line) → Past c t → (f : FileId) (s : Stamp) → Stands c t f s → IsStamp s
stamp_slot c t past f s stands = (stands_named c f s t past.followed past.rest.each stands).is

pub vector_slot : (c : Config) (t : List Line) → Past c t → (f : FileId) (s : Stamp) → Stands c t f s → AgreesWith s (vector_of (history c (entries t)) f s)
vector_slot c t past f s stands = record {
  count = refl;
  each = each_part (λ (n : ℕ). n < 2 ^ 32) h f s (omega arith) (λ site low. wide (counter h f s site) (counter_low c t past.followed past.rest.each f site low s));
  own = λ low. part_written h f s (s.site - 1) (inside low) ∙ (ap (counter h f s) (place low) ∙ named.own low);
  none = λ z. each_part (λ (n : ℕ). n ≡ 0) h f s refl (named.none z);
}
  where
    h : List Version
    h = history c (entries t)

    named : Named h f s
    named = stands_named c f s t past.followed past.rest.each stands

    wide : (n : ℕ) → n < 4294967295 → n < 2 ^ 32
    wide n l = omega (arith, l)

    place : 1 ≤ s.site → 1 + (s.site - 1) ≡ s.site
    place low = omega (arith, low)

    high : s.site ≤ sites_max
    high = most named.is

    inside : 1 ≤ s.site → s.site - 1 < sites_max
    inside low = below s.site low high
      where
        below : (z : ℕ) → 1 ≤ z → z ≤ sites_max → z - 1 < sites_max
        below z a b = omega (arith, a, b)
