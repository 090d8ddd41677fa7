-- A stamp's key names one version of a file, and its row is one.
use Rattle.std.proofs.Common.{◌≡◌, ℕ, ◌+◌, ◌*◌, ◌==◌, ◌<◌, Bool, true, false, ◌&&◌, ◌||◌, cond, length, List, [], ◌∷◌, refl, sym, ◌∙◌, ap, subst, arith}
use Rattle.role_steps.proofs.of_plain_facts.Tests.{and_second, true_false}
use Rattle.locus_ids.specs.declared.config.Config.{Config}
use Rattle.locus_ids.specs.declared.ids.FileId.{FileId}
use Rattle.locus_ids.specs.declared.ids.Stamp.{Stamp}
use Rattle.locus_ids.specs.declared.sites.Sites.{Sites}
use Rattle.commit_graph.specs.Versions.{is_in, is_version, same_file, same_stamp}
use Rattle.trace_book.specs.declared.record.Record.{Record}
use Rattle.trace_book.specs.declared.record.Record.TheVariants as says
use Rattle.role_steps.specs.Own.{Every}
use Rattle.role_steps.specs.Versions.{version_key}
use Rattle.role_steps.specs.Views.{Told, Shown, stamp_key}
use Rattle.role_steps.specs.declared.synchronizing.VersionRow.{VersionRow}
use Rattle.the_run.specs.Worlds.{Line}
use Rattle.tree_model.specs.Files.{HeldVersion, version_of}
use Rattle.tree_model.specs.Histories.{format_stamp, format_version, format_versions, history}
use Rattle.tree_laws.specs.Instances.{Stands}
use Rattle.tree_laws.specs.Printed.{entries, onto_entries}
use Rattle.tree_laws.specs.Tables.{VersionFact}
use Rattle.tree_laws.proofs.Boots.{every_both}
use Rattle.tree_laws.proofs.Orders.Standing.{same_stamp_eq}
use Rattle.tree_laws.proofs.Syncs.Highest.{IsOnly}
use Rattle.store_laws.specs.OneTree.Rest.{EachRest, Past, RangeRecord, RangeTold}

-- ---- numbers of versions have 32 bits ----

module _ (c : Config) (f : FileId) (stamp : Stamp) where
  formats : (k : ℕ) (packs : List Sites) → is_in (format_versions k packs) f stamp ≡ true → stamp.n < 4294967295
  formats k [] e = absurd (true_false (sym e))
  formats k (p ∷ ps) e = at (p.0 == 0) (formats (k + 1) ps) e
    where
      root : (b : Bool) → is_version f stamp (format_version k) ≡ b → (is_in (format_versions (k + 1) ps) f stamp ≡ true → stamp.n < 4294967295) → b || is_in (format_versions (k + 1) ps) f stamp ≡ true → stamp.n < 4294967295
      root true is later e = subst (λ (s : Stamp). s.n < 4294967295) (same_stamp_eq format_stamp stamp (and_second (same_file (format_version k).file f) _ is)) (omega arith)
      root false is later e = later e

      at : (b : Bool) → (is_in (format_versions (k + 1) ps) f stamp ≡ true → stamp.n < 4294967295) → is_in (cond b (format_versions (k + 1) ps) (format_version k ∷ format_versions (k + 1) ps)) f stamp ≡ true → stamp.n < 4294967295
      at true later e = later e
      at false later e = root (is_version f stamp (format_version k)) refl later e

  record_low : (n : ℕ) (r : Record) (older : List Line) → RangeRecord c r → (is_in (history c (entries older)) f stamp ≡ true → stamp.n < 4294967295) → is_in (history c (onto_entries n (Shown r) (entries older))) f stamp ≡ true → stamp.n < 4294967295
  record_low n (says.Commit g s made parents content) older range later e = at (same_file g f && same_stamp made stamp) refl e
    where
      at : (b : Bool) → (same_file g f && same_stamp made stamp) ≡ b → b || is_in (history c (entries older)) f stamp ≡ true → stamp.n < 4294967295
      at true is e = subst (λ (s : Stamp). s.n < 4294967295) (same_stamp_eq made stamp (and_second (same_file g f) _ is)) range.1
      at false is e = later e
  record_low n _ older range later e = later e

  told_low : (n : ℕ) (x : Told) (older : List Line) → RangeTold c x → (is_in (history c (entries older)) f stamp ≡ true → stamp.n < 4294967295) → is_in (history c (onto_entries n x (entries older))) f stamp ≡ true → stamp.n < 4294967295
  told_low n (Shown r) older range later e = record_low n r older range later e
  told_low n _ older range later e = later e

  pub stands_low : (trace : List Line) → EachRest c trace → is_in (history c (entries trace)) f stamp ≡ true → stamp.n < 4294967295
  stands_low [] h e = formats 0 c.packs e
  stands_low (x ∷ older) h e = told_low x.number x.told older h.0.range (stands_low older h.1) e

-- ---- keys ----

stamp_of_key : (a b : Stamp) → a.n < 4294967295 → b.n < 4294967295 → stamp_key a ≡ stamp_key b → a ≡ b
stamp_of_key a b low high e = λ i. record { site = site_is i; n = n_is i }
  where
    keys : a.site * 4294967296 + a.n ≡ b.site * 4294967296 + b.n
    keys = e

    site_is : a.site ≡ b.site
    site_is = omega (arith, low, high, keys)

    n_is : a.n ≡ b.n
    n_is = omega (arith, low, high, keys)

-- two stamps that stand with one key are one
pub stamp_only : (c : Config) (t : List Line) (f : FileId) → Past c t → (a b : Stamp) → Stands c t f a → Stands c t f b → stamp_key a ≡ stamp_key b → a ≡ b
stamp_only c t f past a b sa sb e = stamp_of_key a b (stands_low c f a t past.rest.each sa) (stands_low c f b t past.rest.each sb) e

-- the row of a version that stands
abbrev row_of : HeldVersion → VersionRow
row_of v = record { stamp = v.stamp; vector = v.vector; size = length v.content }

fact_row : (c : Config) (t : List Line) (f : FileId) (v : VersionRow) → VersionFact c t f v → Stands c t f v.stamp × (v ≡ row_of (version_of c (entries t) f v.stamp))
fact_row c t f v k = (
  subst (λ (s : Stamp). Stands c t f s) (sym stamp_is) k.is_version.stands,
  k.same ∙ ap row_of (k.is_version.same ∙ ap (version_of c (entries t) f) (sym stamp_is)),
)
  where
    stamp_is : v.stamp ≡ k.version.stamp
    stamp_is = ap (λ (w : VersionRow). w.stamp) k.same

pub same_version : (c : Config) (t : List Line) (f : FileId) → Past c t → (v w : VersionRow) → VersionFact c t f v → VersionFact c t f w → version_key w ≡ version_key v → w ≡ v
same_version c t f past v w k h e =
    (fact_row c t f w h).1 ∙ (ap (λ (s : Stamp). row_of (version_of c (entries t) f s)) (stamp_only c t f past w.stamp v.stamp (fact_row c t f w h).0 (fact_row c t f v k).0 e) ∙ sym (fact_row c t f v k).1)

-- so of the key of a version there is no other row of the file
pub only_version : (c : Config) (t : List Line) (f : FileId) → Past c t → (v : VersionRow) (vs : List VersionRow) → VersionFact c t f v → Every (VersionFact c t f) vs → Every (IsOnly version_key v) vs
only_version c t f past v vs k h = every_both (VersionFact c t f) (IsOnly version_key v) vs (λ w q. same_version c t f past v w k q) h

-- a version is what the history has of its stamp
pub row_stands : (c : Config) (t : List Line) (f : FileId) (v : VersionRow) → VersionFact c t f v → Stands c t f v.stamp
row_stands c t f v k = (fact_row c t f v k).0
