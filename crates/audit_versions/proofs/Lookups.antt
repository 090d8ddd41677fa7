-- What stands at the place of a name is of the newest version of that name.
use Rattle.std.proofs.Common.{ℕ, zero, suc, ◌+◌, ◌<◌, ◌≡◌, refl, sym, ap, ◌∙◌, Bool, true, false, ◌||◌, cond, ◌==◌, List, [], ◌∷◌, ◌++◌, length, map, reverse, get_or, Option, Some, None, slice_get, arith}
use Rattle.std.specs.List.{find}
use Rattle.std.specs.Option.{is_some}
use Rattle.std.proofs.lemmas.List.{length-map, length-reverse, reverse-append}
use Rattle.plain_facts.proofs.Options.{none_some, some_same}
use Rattle.plain_facts.proofs.Tests.{both_true, true_false}
use Rattle.plain_facts.proofs.Numbers.{equal}
use Rattle.locus_ids.specs.declared.ids.FileId.{FileId}
use Rattle.locus_ids.specs.declared.ids.Stamp.{Stamp}
use Rattle.commit_graph.specs.declared.history.Version.{Version}
use Rattle.commit_graph.specs.Versions.{same_file, same_stamp, is_version, is_in, content_of}
use Rattle.commit_graph.specs.Counters.{counter}
use Rattle.commit_graph.specs.Vectors.{numbers_from}
use Rattle.written_vectors.specs.Counting.{counter_on}
use Rattle.key_places.specs.Keys.{same_key, file_key, version_key}
use Rattle.key_places.specs.Places.{place_of}
use Rattle.key_places.proofs.Names.{version_names, file_names}
use Rattle.key_places.proofs.Rows.{place_within, place_finds, none_finds, place_any, last_at, before_at}
use Rattle.audit_versions.specs.Regular.{has_file}
use Rattle.audit_versions.specs.Tables.{name_of, file_of, counted_sites, counts_on, counts_of}

-- ---- by name ----

pub name_tells : (file : FileId) (stamp : Stamp) (v : Version) → is_version file stamp v ≡ same_key (name_of v) (version_key file stamp)
name_tells file stamp v = sym (version_names v.file file v.stamp stamp)

pub in_place : (file : FileId) (stamp : Stamp) (h : List Version) → is_in h file stamp ≡ is_some (place_of (version_key file stamp) (map name_of h))
in_place file stamp h = place_any name_of (version_key file stamp) (is_version file stamp) (name_tells file stamp) h

pub file_place : (file : FileId) (h : List Version) → has_file h file ≡ is_some (place_of (file_key file) (map file_of h))
file_place file h = place_any file_of (file_key file) (λ (v : Version). same_file v.file file) (λ v. sym (file_names v.file file)) h

pub version_found : (file : FileId) (stamp : Stamp) (h : List Version) (i : ℕ) → place_of (version_key file stamp) (map name_of h) ≡ Some i → find (is_version file stamp) h ≡ slice_get (reverse h) i
version_found file stamp h i e = place_finds name_of (version_key file stamp) (is_version file stamp) (name_tells file stamp) h i e

pub version_none : (file : FileId) (stamp : Stamp) (h : List Version) → place_of (version_key file stamp) (map name_of h) ≡ None → find (is_version file stamp) h ≡ None
version_none file stamp h e = none_finds name_of (version_key file stamp) (is_version file stamp) (name_tells file stamp) h e

-- ---- contents ----

abbrev pub found_content : Option Version → List ℕ
found_content None = []
found_content (Some v) = v.content

pub content_is : (file : FileId) (stamp : Stamp) (h : List Version) → content_of h file stamp ≡ found_content (find (is_version file stamp) h)
content_is file stamp [] = refl
content_is file stamp (v ∷ older) = at (is_version file stamp v) (content_is file stamp older) where
  at : (b : Bool) → content_of older file stamp ≡ found_content (find (is_version file stamp) older) → cond b v.content (content_of older file stamp) ≡ found_content (cond b (Some v) (find (is_version file stamp) older))
  at true before = refl
  at false before = before

-- ---- counters ----

pub file_is : (a b : FileId) → same_file a b ≡ true → a ≡ b
file_is a b e =
    let f = both_true (a.group == b.group) (a.ino == b.ino) e in
    pair_is a.group b.group a.ino b.ino (equal a.group b.group f.0) (equal a.ino b.ino f.1) where
      pair_is : (i j k l : ℕ) → i ≡ j → k ≡ l → ◌≡◌ {A = FileId} (record { group = i; ino = k }) (record { group = j; ino = l })
      pair_is i j k l p q = cc

pub map_same : (f g : ℕ → ℕ) (ns : List ℕ) → ((n : ℕ) → f n ≡ g n) → map f ns ≡ map g ns
map_same f g [] same = refl
map_same f g (n ∷ ns) same = ap (λ m. m ∷ map f ns) (same n) ∙ ap (λ ms. g n ∷ ms) (map_same f g ns same)

pub counts_length : (h : List Version) → length (counts_of h) ≡ length h
counts_length [] = refl
counts_length (v ∷ older) = ap suc (counts_length older)

pub counter_is : (file : FileId) (stamp : Stamp) (v : Version) (older : List Version) (n : ℕ) → is_version file stamp v ≡ true → counter_on older v.file n v ≡ counter (v ∷ older) file stamp n
counter_is file stamp v older n t =
    ap (λ f. counter_on older f n v) (file_is v.file file (both_true (same_file v.file file) (same_stamp v.stamp stamp) t).0)
    ∙ sym (ap (λ b. cond b (counter_on older file n v) (counter older file stamp n)) t)

pub counter_stays : (file : FileId) (stamp : Stamp) (v : Version) (older : List Version) (n : ℕ) → is_version file stamp v ≡ false → counter older file stamp n ≡ counter (v ∷ older) file stamp n
counter_stays file stamp v older n t = sym (ap (λ b. cond b (counter_on older file n v) (counter older file stamp n)) t)

-- The counters that stand at the place of a name are those of its version.
pub counts_found : (file : FileId) (stamp : Stamp) (h : List Version) (i : ℕ) → place_of (version_key file stamp) (map name_of h) ≡ Some i → slice_get (reverse (counts_of h)) i ≡ Some (map (counter h file stamp) counted_sites)
counts_found file stamp [] i e = absurd (none_some i e)
counts_found file stamp (v ∷ older) i e =
    ap (λ (ns : List (List ℕ)). slice_get ns i) (reverse-append (counts_on older v ∷ []) (counts_of older))
    ∙ at (is_version file stamp v) refl (counts_found file stamp older i) (ap (λ b. cond b (Some (length (map name_of older))) (place_of (version_key file stamp) (map name_of older))) (name_tells file stamp v) ∙ e) where
      rows : List (List ℕ)
      rows = reverse (counts_of older)

      rows_length : length rows ≡ length (map name_of older)
      rows_length = length-reverse (counts_of older) ∙ (counts_length older ∙ sym (length-map older name_of))

      at : (b : Bool) → is_version file stamp v ≡ b → (place_of (version_key file stamp) (map name_of older) ≡ Some i → slice_get rows i ≡ Some (map (counter older file stamp) counted_sites))
          → cond b (Some (length (map name_of older))) (place_of (version_key file stamp) (map name_of older)) ≡ Some i → slice_get (rows ++ counts_on older v ∷ []) i ≡ Some (map (counter (v ∷ older) file stamp) counted_sites)
      at true t before f =
          ap (slice_get (rows ++ counts_on older v ∷ [])) (sym (rows_length ∙ some_same (length (map name_of older)) i f))
          ∙ (last_at rows (counts_on older v) ∙ ap (λ ns. Some ns) (map_same (λ n. counter_on older v.file n v) (counter (v ∷ older) file stamp) counted_sites (λ n. counter_is file stamp v older n t)))
      at false t before f =
          before_at rows (counts_on older v) i (let l : i < length (map name_of older) = place_within (version_key file stamp) (map name_of older) i f in omega (arith, l, rows_length))
          ∙ (before f ∙ ap (λ ns. Some ns) (map_same (counter older file stamp) (counter (v ∷ older) file stamp) counted_sites (λ n. counter_stays file stamp v older n t)))

-- A version that isn't there counts nothing.
pub counter_none : (file : FileId) (stamp : Stamp) (h : List Version) (n : ℕ) → is_in h file stamp ≡ false → counter h file stamp n ≡ 0
counter_none file stamp [] n e = refl
counter_none file stamp (v ∷ older) n e = at (is_version file stamp v) refl (counter_none file stamp older n) e where
  at : (b : Bool) → is_version file stamp v ≡ b → (is_in older file stamp ≡ false → counter older file stamp n ≡ 0) → (b || is_in older file stamp) ≡ false → counter (v ∷ older) file stamp n ≡ 0
  at true t before f = absurd (true_false f)
  at false t before f = sym (counter_stays file stamp v older n t) ∙ before f

zeros_are : (f : ℕ → ℕ) (ns : List ℕ) → ((n : ℕ) → f n ≡ 0) → map f ns ≡ map (λ n. 0) ns
zeros_are f ns none = map_same f (λ n. 0) ns none

-- ---- one counter of all ----

pub number_at : (f : ℕ → ℕ) (n first i d : ℕ) → i < n → get_or (map f (numbers_from first n)) i d ≡ f (first + i)
number_at f zero first i d h = absurd (omega arith)
number_at f (suc n) first zero d h = ap f (omega arith)
number_at f (suc n) first (suc i) d h = number_at f n (first + 1) i d (omega arith) ∙ ap f (omega arith)
