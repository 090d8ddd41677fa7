-- A row of a file stays orderly: where a version more is known, and where a member more is noted.
use Rattle.std.proofs.Common.{◌≡◌, ℕ, ◌==◌, Bool, true, false, not, ◌&&◌, List, Some, refl, sym, ◌∙◌, ap, subst}
use Rattle.role_steps.proofs.of_plain_facts.Numbers.{equal}
use Rattle.role_steps.proofs.of_plain_facts.Tests.{and_first, and_second, true_false}
use Rattle.locus_ids.specs.declared.ids.Stamp.{Stamp}
use Rattle.version_vector.specs.Counters.{all_le}
use Rattle.version_vector.proofs.Counting.{AllLe-from_test, AllLe-through, all_le-from_AllLe}
use Rattle.role_steps.specs.Own.{Every}
use Rattle.role_steps.specs.Tables.{row, with_row}
use Rattle.role_steps.specs.Versions.{holding_site, is_below, version_key, version_of, with_holder, with_kept, with_version}
use Rattle.role_steps.specs.Views.{stamp_key}
use Rattle.role_steps.specs.declared.synchronizing.FileRow.{FileRow}
use Rattle.role_steps.specs.declared.synchronizing.Holding.{Holding}
use Rattle.role_steps.specs.declared.synchronizing.VersionRow.{VersionRow}
use Rattle.role_steps.proofs.Rows.{row_other, row_same}
use Rattle.the_run.proofs.InsideSync.{every_row}
use Rattle.tree_laws.specs.Tables.{HasVersion, IsOrderly}
use Rattle.tree_laws.proofs.Boots.{every_both}
use Rattle.tree_laws.proofs.Syncs.Highest.{IsOnly, ascends_row, tops_row}
use Rattle.tree_laws.proofs.Syncs.Rows.{row_every, row_key_is}

-- ---- vectors are ordered ----

abbrev pub is_under : VersionRow → VersionRow → Bool
is_under v w = is_below v.vector w.vector

never_under : (v : VersionRow) → is_under v v ≡ false
never_under v = over (all_le v.vector v.vector)
  where
    over : (b : Bool) → b && not b ≡ false
    over true = refl
    over false = refl

le_through : (a b d : List ℕ) → all_le a b ≡ true → all_le b d ≡ true → all_le a d ≡ true
le_through a b d e k = all_le-from_AllLe a d (AllLe-through a b d (AllLe-from_test a b e) (AllLe-from_test b d k))

pub below_through : (a b d : List ℕ) → is_below a b ≡ true → is_below b d ≡ true → is_below a d ≡ true
below_through a b d e k = over (all_le a d) (le_through a b d (and_first (all_le a b) _ e) (and_first (all_le b d) _ k)) (all_le d a) refl
  where
    over : (x : Bool) → x ≡ true → (y : Bool) → all_le d a ≡ y → x && not y ≡ true
    over x is true h = absurd (no (all_le d b) (le_through d a b h (and_first (all_le a b) _ e)) (and_second (all_le b d) _ k))
      where
        no : (z : Bool) → z ≡ true → not z ≡ true → ⊥
        no true p q = true_false (sym q)
        no false p q = true_false (sym p)
    over true is false h = refl
    over false is false h = is

under_through : (u v w : VersionRow) → is_under u v ≡ true → is_under v w ≡ true → is_under u w ≡ true
under_through u v w e k = below_through u.vector v.vector w.vector e k

-- ---- a version more ----

pub version_orderly : (v : VersionRow) (r : FileRow) → IsOrderly r → Every (IsOnly version_key v) r.versions → IsOrderly (with_version v r)
version_orderly v r k only = record {
  ascends = ascends_row version_key v r.versions k.ascends;
  keeps = ap (with_kept v) k.keeps ∙ tops_row is_under never_under under_through version_key v r.versions k.ascends only;
  names = every_both (HasVersion r) (HasVersion (with_version v r)) r.holders named k.names;
  sites = k.sites;
}
  where
    named : (h : Holding) → HasVersion r h → HasVersion (with_version v r) h
    named h n = over (version_key v == stamp_key h.stamp) refl
      where
        over : (b : Bool) → (version_key v == stamp_key h.stamp) ≡ b → HasVersion (with_version v r) h
        over true e =
            let key_is : version_key v ≡ stamp_key h.stamp = equal (version_key v) (stamp_key h.stamp) e in
            let same : n.0 ≡ v = row_every (IsOnly version_key v) version_key (stamp_key h.stamp) r.versions n.0 only n.1 (row_key_is version_key (stamp_key h.stamp) r.versions n.0 n.1 ∙ sym key_is) in
            (v, subst (λ (q : ℕ). row version_key q (with_row version_key v r.versions) ≡ Some v) key_is (row_same version_key v r.versions), subst (λ (w : VersionRow). w.stamp ≡ h.stamp) same n.2)
        over false e = (n.0, row_other version_key v (stamp_key h.stamp) r.versions e ∙ n.1, n.2)

-- the version that was put is the one of its stamp
pub version_there : (v : VersionRow) (r : FileRow) → version_of (with_version v r) v.stamp ≡ Some v
version_there v r = row_same version_key v r.versions

-- ---- a member more ----

pub holder_orderly : (site : ℕ) (stamp : Stamp) (r : FileRow) → IsOrderly r → HasVersion r (record { site = site; stamp = stamp }) → IsOrderly (with_holder site stamp r)
holder_orderly site stamp r k has = record { ascends = k.ascends; keeps = k.keeps; names = every_row (HasVersion r) holding_site (record { site = site; stamp = stamp }) r.holders has k.names; sites = ascends_row holding_site (record { site = site; stamp = stamp }) r.holders k.sites }
