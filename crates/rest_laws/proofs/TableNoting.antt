-- What a member tells that it has is noted where it is above what was noted before: what a table has of its files only rises.
use Rattle.std.proofs.Common.{◌≡◌, ℕ, ◌<◌, ◌==◌, Bool, true, false, not, cond, ◌&&◌, ◌||◌, List, [], ◌∷◌, Option, Some, None, refl, sym, ◌∙◌, ap, subst, inl, inr, arith}
use Rattle.std.proofs.lemmas.Bool.Decides.{nat_tests}
use Rattle.std.specs.List.{list_any}
use Rattle.role_steps.proofs.of_plain_facts.Numbers.{equal_self}
use Rattle.role_steps.proofs.of_plain_facts.Options.{some_same}
use Rattle.role_steps.proofs.of_plain_facts.Tests.{and_first, and_second, not_true, true_false}
use Rattle.locus_ids.specs.declared.config.Config.{Config}
use Rattle.locus_ids.specs.declared.ids.EpochId.{EpochId}
use Rattle.locus_ids.specs.declared.ids.FileId.{FileId}
use Rattle.locus_ids.specs.declared.ids.Stamp.{Stamp}
use Rattle.commit_graph.specs.declared.history.Version.{Version}
use Rattle.commit_graph.specs.Vectors.{vector_of}
use Rattle.commit_graph.specs.Versions.{is_ancestor, is_proper_ancestor, same_stamp}
use Rattle.commit_graph.proofs.Names.{same_stamp_eq, same_stamp_refl}
use Rattle.role_steps.specs.Own.{Every}
use Rattle.role_steps.specs.Tables.{row}
use Rattle.role_steps.specs.Versions.{holding_of, holding_site, is_below, is_below_some, noted, noted_at, noted_of, rises_to, version_key, version_of, with_holder}
use Rattle.role_steps.specs.Views.{stamp_key}
use Rattle.role_steps.specs.declared.synchronizing.FileRow.{FileRow}
use Rattle.role_steps.specs.declared.synchronizing.Holding.{Holding}
use Rattle.role_steps.specs.declared.synchronizing.VersionRow.{VersionRow}
use Rattle.the_run.specs.Kept.{Among}
use Rattle.the_run.specs.Worlds.{Line}
use Rattle.the_run.proofs.InsideSync.{every_row}
use Rattle.tree_model.specs.Histories.{history}
use Rattle.tree_laws.specs.Instances.{HasAtLeast, Stands, held_in}
use Rattle.tree_laws.specs.Packets.{file_in}
use Rattle.tree_laws.specs.Printed.{entries}
use Rattle.tree_laws.specs.Stores.{Ascends}
use Rattle.tree_laws.specs.Tables.{FileFact, HasHolder, HasVersion, HoldingFact, IsNoted, IsOrderly, VersionFact}
use Rattle.tree_laws.proofs.Boots.{every_passes}
use Rattle.tree_laws.proofs.Rows.{followed_rows}
use Rattle.store_laws.proofs.Holdings.Ancestors.{ancestors_one, ancestors_stand}
use Rattle.store_laws.proofs.Holdings.Below.{commits_new}
use Rattle.store_laws.proofs.Holdings.Made.{held_stand, rows_made}
use Rattle.store_laws.proofs.of_row_laws.CallRows.Rising.{key_case, put_keeps}
use Rattle.store_laws.proofs.Tabled.{row_among, row_other, row_same}
use Rattle.store_laws.proofs.of_tree_laws.Syncs.Orderly.{holder_orderly}
use Rattle.store_laws.proofs.of_tree_laws.Syncs.Rows.{every_among, row_every, row_key_is}
use Rattle.store_laws.proofs.of_tree_laws.Syncs.Versions.{row_stands, row_vector}
use Rattle.store_laws.specs.OneTree.Rest.{Past}
use Rattle.store_laws.proofs.OneTree.Staying.{rest_below}
use Rattle.store_laws.proofs.OneTree.ToldVectorOnly.{stamp_only}
use Rattle.store_laws.proofs.OneTree.ToldVectorTelling.{vectors_tell_newer}

-- ---- lists ----

none_of : {A : Type 0} (p : A → Bool) (xs : List A) (x : A) → list_any p xs ≡ false → Among x xs → p x ≡ true → ⊥
none_of p [] x e a k = absurd a
none_of p (y ∷ ys) x e (inl same) k = true_false (sym (first (p y) (list_any p ys) (ap p (sym same) ∙ k)) ∙ e)
  where
    first : (a b : Bool) → a ≡ true → a || b ≡ true
    first true b h = refl
    first false b h = absurd (true_false (sym h))
none_of p (y ∷ ys) x e (inr a) k = none_of p ys x (later (p y) (list_any p ys) e) a k
  where
    later : (a b : Bool) → a || b ≡ false → b ≡ false
    later true b h = absurd (true_false h)
    later false b h = h

-- where keys ascend, each row is found by its key
pub ascends_found : {A : Type 0} (key : A → ℕ) (xs : List A) (x : A) → Ascends key xs → Among x xs → row key (key x) xs ≡ Some x
ascends_found key [] x k a = absurd a
ascends_found {A} key (y ∷ ys) x k (inl same) = ap (λ (b : Bool). elim b as (λ (z : Bool). Option A) [ true ↦ Some y | false ↦ row key (key x) ys ]) (subst (λ (z : A). (key z == key x) ≡ true) same (equal_self (key x))) ∙ ap Some (sym same)
ascends_found {A} key (y ∷ ys) x k (inr a) = ap (λ (b : Bool). elim b as (λ (z : Bool). Option A) [ true ↦ Some y | false ↦ row key (key x) ys ]) (lower (key y) (key x) (every_among (λ (z : A). key y < key z) ys x k.0 a)) ∙ ascends_found key ys x k.1 a
  where
    lower : (a b : ℕ) → a < b → (a == b) ≡ false
    lower a b h = grind (arith, nat_tests)

-- ---- a row ----

-- what a row of files has of its versions and holders, by the trace
pub record RowSo (c : Config) (trace : List Line) (e : EpochId) (group : ℕ) (r : FileRow) : Type 0 where
  pub versions : Every (VersionFact c trace (file_in group r.ino)) r.versions
  pub keeps : Every (VersionFact c trace (file_in group r.ino)) r.kept
  pub holders : Every (HoldingFact c trace e (file_in group r.ino)) r.holders
  pub orderly : IsOrderly r

pub row_so : (c : Config) (trace : List Line) (e : EpochId) (group : ℕ) (r : FileRow) → FileFact c trace e group r → RowSo c trace e group r
row_so c trace e group r k = record { versions = k.versions; keeps = k.keeps; holders = k.holders; orderly = k.orderly }

-- What a row of files is once something was noted in it: of the same file, with the same versions; each kept version has its holder
-- still, and whoever was noted with what it has is so.
pub record NotedRow (c : Config) (trace : List Line) (e : EpochId) (group : ℕ) (r q : FileRow) : Type 0 where
  pub ino_is : q.ino ≡ r.ino
  pub kind_is : q.kind ≡ r.kind
  pub set_is : q.set ≡ r.set
  pub versions_are : q.versions ≡ r.versions
  pub kept_are : q.kept ≡ r.kept
  pub so : RowSo c trace e group q
  pub holds : (u : VersionRow) → Among u r.kept → HasHolder r u → HasHolder q u
  pub notes : (site : ℕ) (s : Stamp) → held_in c (entries trace) e site (file_in group r.ino) ≡ Some s → IsNoted r site s → IsNoted q site s

module _ (c : Config) (trace : List Line) (past : Past c trace) (e : EpochId) (group : ℕ) (r : FileRow) (so : RowSo c trace e group r) where
  abbrev f : FileId
  f = file_in group r.ino

  abbrev h : List Version
  h = history c (entries trace)

  -- a kept version is below none that is known
  kept_top : (u v : VersionRow) → Among u r.kept → Among v r.versions → is_below u.vector v.vector ≡ true → ⊥
  kept_top u v kept known below = none_of (λ (x : VersionRow). is_below u.vector x.vector) r.versions v (not_true (is_below_some u r.versions) (every_among (λ (x : VersionRow). not (is_below_some x r.versions) ≡ true) r.kept u tops kept)) known below
    where
      tops : Every (λ (x : VersionRow). not (is_below_some x r.versions) ≡ true) r.kept
      tops = subst (Every (λ (x : VersionRow). not (is_below_some x r.versions) ≡ true)) (sym so.orderly.keeps) (every_passes (λ (x : VersionRow). not (is_below_some x r.versions) ≡ true) (λ (x : VersionRow). not (is_below_some x r.versions)) (λ x k. k) r.versions)

  -- the version of the row under a stamp that stands is of that stamp
  its_stamp : (s : Stamp) (v : VersionRow) → Stands c trace f s → version_of r s ≡ Some v → v.stamp ≡ s
  its_stamp s v stands found = stamp_only c trace f past v.stamp s (row_stands c trace f v (row_every (VersionFact c trace f) version_key (stamp_key s) r.versions v so.versions found)) stands (row_key_is version_key (stamp_key s) r.versions v found)

  -- of two versions of the row the one whose vector is below is a proper ancestor
  below_is : (u v : VersionRow) → VersionFact c trace f u → VersionFact c trace f v → is_below u.vector v.vector ≡ true → is_proper_ancestor h f u.stamp v.stamp ≡ true
  below_is u v a b below = vectors_tell_newer c trace past f u.stamp v.stamp (row_stands c trace f u a) (row_stands c trace f v b)
      ∙ (ap (λ (x : List ℕ). is_below x (vector_of h f v.stamp)) (sym (row_vector c trace f u a)) ∙ (ap (λ (x : List ℕ). is_below u.vector x) (sym (row_vector c trace f v b)) ∙ below))

  module _ (from : ℕ) (stamp : Stamp) (has : HasAtLeast c trace e from (file_in group r.ino) stamp) where
    now_stands : Stands c trace f has.now
    now_stands = held_stand c (entries trace) (followed_rows c trace past.followed) e f from has.now has.held

    stands : Stands c trace f stamp
    stands = ancestors_stand h (rows_made c (entries trace) (followed_rows c trace past.followed) (commits_new c trace past.followed (rest_below c trace past.rest).once)) f stamp has.now now_stands has.above

    same_row : NotedRow c trace e group r r
    same_row = record { ino_is = refl; kind_is = refl; set_is = refl; versions_are = refl; kept_are = refl; so = so; holds = λ u a k. k; notes = λ site s held k. k }

    -- the holding rises to a version of the row
    module _ (v : VersionRow) (found : version_of r stamp ≡ Some v) (up : (x : Holding) → holding_of r from ≡ Some x → rises_to v (version_of r x.stamp) ≡ true) where
      v_fact : VersionFact c trace f v
      v_fact = row_every (VersionFact c trace f) version_key (stamp_key stamp) r.versions v so.versions found

      v_known : Among v r.versions
      v_known = row_among version_key (stamp_key stamp) r.versions v found

      is_stamp : v.stamp ≡ stamp
      is_stamp = its_stamp stamp v stands found

      -- what was noted of the site is below
      was_below : (x : Holding) → holding_of r from ≡ Some x → (u : VersionRow) → version_of r x.stamp ≡ Some u → is_below u.vector v.vector ≡ true
      was_below x was u its = ap (λ (o : Option VersionRow). rises_to v o) (sym its) ∙ up x was

      holds : HoldingFact c trace e f (record { site = from; stamp = v.stamp })
      holds = subst (λ (s : Stamp). HasAtLeast c trace e from (file_in group r.ino) s) (sym is_stamp) has

      has_version : HasVersion r (record { site = from; stamp = v.stamp })
      has_version = (v, ap (λ (s : Stamp). version_of r s) is_stamp ∙ found, refl)

      held_still : (u : VersionRow) → Among u r.kept → HasHolder r u → HasHolder (with_holder from v.stamp r) u
      held_still u kept k = key_case (HasHolder (with_holder from v.stamp r) u) k.0.site from gone (λ other. (k.0, put_keeps holding_site (record { site = from; stamp = v.stamp }) r.holders k.0 k.1 other, k.2))
        where
          gone : k.0.site ≡ from → HasHolder (with_holder from v.stamp r) u
          gone same = absurd (kept_top u v kept v_known (ap (λ (x : List ℕ). is_below x v.vector) vector ∙ was_below k.0 was named.0 named.1))
            where
              was : holding_of r from ≡ Some k.0
              was = ap (λ (n : ℕ). holding_of r n) (sym same) ∙ ascends_found holding_site r.holders k.0 so.orderly.sites k.1

              named : HasVersion r k.0
              named = every_among (HasVersion r) r.holders k.0 so.orderly.names k.1

              u_fact : VersionFact c trace f u
              u_fact = every_among (VersionFact c trace f) r.kept u so.keeps kept

              n_fact : VersionFact c trace f named.0
              n_fact = row_every (VersionFact c trace f) version_key (stamp_key k.0.stamp) r.versions named.0 so.versions named.1

              vector : u.vector ≡ named.0.vector
              vector = row_vector c trace f u u_fact ∙ (ap (λ (s : Stamp). vector_of h f s) (sym k.2 ∙ sym named.2) ∙ sym (row_vector c trace f named.0 n_fact))

      noted_so : (site : ℕ) (s : Stamp) → held_in c (entries trace) e site (file_in group r.ino) ≡ Some s → IsNoted r site s → IsNoted (with_holder from v.stamp r) site s
      noted_so site s held k = key_case (IsNoted (with_holder from v.stamp r) site s) from site here (λ other. (k.0, row_other holding_site (record { site = from; stamp = v.stamp }) site r.holders other ∙ k.1, k.2))
        where
          here : from ≡ site → IsNoted (with_holder from v.stamp r) site s
          here same = absurd (true_false (sym (subst (λ (x : Stamp). same_stamp x v.stamp ≡ true) one (same_stamp_refl v.stamp)) ∙ apart))
            where
              was : holding_of r from ≡ Some k.0
              was = ap (λ (n : ℕ). holding_of r n) same ∙ k.1

              named : HasVersion r k.0
              named = row_every (HasVersion r) holding_site from r.holders k.0 so.orderly.names was

              n_fact : VersionFact c trace f named.0
              n_fact = row_every (VersionFact c trace f) version_key (stamp_key k.0.stamp) r.versions named.0 so.versions named.1

              proper : is_proper_ancestor h f named.0.stamp v.stamp ≡ true
              proper = below_is named.0 v n_fact v_fact (was_below k.0 was named.0 named.1)

              apart : same_stamp named.0.stamp v.stamp ≡ false
              apart = not_true (same_stamp named.0.stamp v.stamp) (and_first (not (same_stamp named.0.stamp v.stamp)) _ proper)

              -- it has just what was noted
              now_is : has.now ≡ named.0.stamp
              now_is = some_same has.now s (sym has.held ∙ (ap (λ (n : ℕ). held_in c (entries trace) e n (file_in group r.ino)) same ∙ held)) ∙ (sym k.2 ∙ sym named.2)

              one : v.stamp ≡ named.0.stamp
              one = ancestors_one h (rows_made c (entries trace) (followed_rows c trace past.followed) (commits_new c trace past.followed (rest_below c trace past.rest).once)) f v.stamp named.0.stamp
                  (row_stands c trace f named.0 n_fact)
                  (subst (λ (x : Stamp). is_ancestor h f x named.0.stamp ≡ true) (sym is_stamp) (subst (λ (x : Stamp). is_ancestor h f stamp x ≡ true) now_is has.above))
                  (and_second (not (same_stamp named.0.stamp v.stamp)) _ proper)

      risen : NotedRow c trace e group r (with_holder from v.stamp r)
      risen = record {
        ino_is = refl;
        kind_is = refl;
        set_is = refl;
        versions_are = refl;
        kept_are = refl;
        so = record {
          versions = so.versions;
          keeps = so.keeps;
          holders = every_row (HoldingFact c trace e f) holding_site (record { site = from; stamp = v.stamp }) r.holders holds so.holders;
          orderly = holder_orderly from v.stamp r so.orderly has_version;
        };
        holds = held_still;
        notes = noted_so;
      }

    -- where nothing was noted of the site, or something below
    by_holding : (v : VersionRow) → version_of r stamp ≡ Some v → (o : Option Holding) → holding_of r from ≡ o → NotedRow c trace e group r (noted_at r from v o)
    by_holding v found None was = risen v found (λ x k. absurd (none_some x (sym was ∙ k)))
      where
        none_some : (x : Holding) → ◌≡◌ {A = Option Holding} None (Some x) → ⊥
        none_some x k = cc
    by_holding v found (Some y) was = over (rises_to v (version_of r y.stamp)) refl
      where
        over : (b : Bool) → rises_to v (version_of r y.stamp) ≡ b → NotedRow c trace e group r (cond b (with_holder from v.stamp r) r)
        over true k = risen v found (λ x z. subst (λ (a : Holding). rises_to v (version_of r a.stamp) ≡ true) (some_same y x (sym was ∙ z)) k)
        over false k = same_row

    by_version : (o : Option VersionRow) → version_of r stamp ≡ o → NotedRow c trace e group r (noted_of r from o)
    by_version None found = same_row
    by_version (Some v) found = by_holding v found (holding_of r from) refl

    pub noted_row : NotedRow c trace e group r (noted from stamp r)
    noted_row = by_version (version_of r stamp) refl

    -- ---- who has just this version is noted with it ----

    module _ (now_is : has.now ≡ stamp) (v : VersionRow) (found : version_of r stamp ≡ Some v) where
      abbrev Now : FileRow → Type 0
      Now q = IsNoted q from stamp

      put : Now (with_holder from v.stamp r)
      put = (record { site = from; stamp = v.stamp }, row_same holding_site (record { site = from; stamp = v.stamp }) r.holders, its_stamp stamp v stands found)

      -- nothing of the site is noted above it
      at_most : (y : Holding) → holding_of r from ≡ Some y → rises_to v (version_of r y.stamp) ≡ false → y.stamp ≡ stamp
      at_most y was stops = sym named.2 ∙ (same_stamp_eq named.0.stamp v.stamp (same (same_stamp named.0.stamp v.stamp) refl) ∙ its_stamp stamp v stands found)
        where
          named : HasVersion r y
          named = row_every (HasVersion r) holding_site from r.holders y so.orderly.names was

          n_fact : VersionFact c trace f named.0
          n_fact = row_every (VersionFact c trace f) version_key (stamp_key y.stamp) r.versions named.0 so.versions named.1

          v_fact_now : VersionFact c trace f v
          v_fact_now = row_every (VersionFact c trace f) version_key (stamp_key stamp) r.versions v so.versions found

          site_is : y.site ≡ from
          site_is = row_key_is holding_site from r.holders y was

          least : HasAtLeast c trace e from f y.stamp
          least = subst (λ (m : ℕ). HasAtLeast c trace e m f y.stamp) site_is (row_every (HoldingFact c trace e f) holding_site from r.holders y so.holders was)

          under : is_ancestor h f named.0.stamp v.stamp ≡ true
          under = subst (λ (a : Stamp). is_ancestor h f a v.stamp ≡ true) (sym named.2)
              (subst (λ (b : Stamp). is_ancestor h f y.stamp b ≡ true) (some_same least.now has.now (sym least.held ∙ has.held) ∙ (now_is ∙ sym (its_stamp stamp v stands found))) least.above)

          improper : is_proper_ancestor h f named.0.stamp v.stamp ≡ false
          improper = vectors_tell_newer c trace past f named.0.stamp v.stamp (row_stands c trace f named.0 n_fact) (row_stands c trace f v v_fact_now)
              ∙ (ap (λ (z : List ℕ). is_below z (vector_of h f v.stamp)) (sym (row_vector c trace f named.0 n_fact)) ∙ (ap (λ (z : List ℕ). is_below named.0.vector z) (sym (row_vector c trace f v v_fact_now))
              ∙ (sym (ap (λ (o : Option VersionRow). rises_to v o) named.1) ∙ stops)))

          same : (b : Bool) → same_stamp named.0.stamp v.stamp ≡ b → same_stamp named.0.stamp v.stamp ≡ true
          same true k = k
          same false k = absurd (true_false (sym (ap (λ (b : Bool). not b && is_ancestor h f named.0.stamp v.stamp) k ∙ under) ∙ improper))

      now_by : (o : Option Holding) → holding_of r from ≡ o → Now (noted_at r from v o)
      now_by None was = put
      now_by (Some y) was = over (rises_to v (version_of r y.stamp)) refl
        where
          over : (b : Bool) → rises_to v (version_of r y.stamp) ≡ b → Now (cond b (with_holder from v.stamp r) r)
          over true k = put
          over false k = (y, was, at_most y was k)

      pub noted_now : IsNoted (noted from stamp r) from stamp
      noted_now = subst (λ (o : Option VersionRow). Now (noted_of r from o)) (sym found) (now_by (holding_of r from) refl)
