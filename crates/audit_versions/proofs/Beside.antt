-- What the tables beside a history tell of it.
use Rattle.std.proofs.Common.{ℕ, zero, suc, ◌+◌, ◌<◌, ◌≤◌, ◌≡◌, refl, sym, ap, ◌∙◌, subst, Bool, true, false, cond, ◌==◌, List, [], ◌∷◌, ◌++◌, length, map, reverse, get_or, take, set, Bor, Option, Some, None, IfSome, slice_get, arith, ⊎_elim}
use Rattle.std.proofs.lemmas.Bool.{cases_Bool}
use Rattle.std.specs.List.{find}
use Rattle.std.specs.Option.{is_some, option_copied}
use Rattle.std.proofs.lemmas.List.{length-map, length-reverse, reverse-reverse, reverse-append}
use Rattle.std.proofs.lemmas.Option.{get_or_from_slice_get}
use Rattle.plain_facts.proofs.Options.{none_some, some_same}
use Rattle.plain_facts.proofs.Tests.{false_unless}
use Rattle.plain_facts.proofs.Numbers.{equal}
use Rattle.locus_ids.specs.Sizes.{sites_max, file_bytes_max}
use Rattle.locus_ids.specs.declared.ids.FileId.{FileId}
use Rattle.locus_ids.specs.declared.ids.Stamp.{Stamp}
use Rattle.commit_graph.specs.declared.history.Version.{Version}
use Rattle.commit_graph.specs.Versions.{is_version}
use Rattle.commit_graph.specs.Counters.{counter, greatest}
use Rattle.commit_graph.specs.Vectors.{numbers_from}
use Rattle.written_vectors.proofs.Counted.{greatest_below, numbers_more}
use Rattle.key_places.specs.declared.key.Key.{Key}
use Rattle.key_places.specs.Keys.{file_key, version_key}
use Rattle.key_places.specs.Places.{place_of}
use Rattle.audit_versions.specs.Regular.{is_regular, AllSited, AllShort}
use Rattle.audit_versions.specs.Tables.{Agree, name_of, file_of, counted_sites, counts_on, counts_of}
use Rattle.audit_versions.proofs.Lookups.{in_place, counts_found, counts_length, counter_none, counter_stays, number_at}
use Rattle.audit_versions.proofs.Ancestors.{counter_top}

-- the place of a name, in the words of the history that is seen
pub name_placed : (h self : List Version) (names : List Key) (key : Key) (file : FileId) (stamp : Stamp) (o : Option ℕ) → h ≡ self → names ≡ map name_of h → key ≡ version_key file stamp → o ≡ place_of key names → o ≡ place_of (version_key file stamp) (map name_of self)
name_placed h self names key file stamp o view named is placed =
    placed ∙ (ap (λ k. place_of k names) is ∙ ap (place_of (version_key file stamp)) (named ∙ ap (map name_of) view))

pub file_placed : (h self : List Version) (files : List Key) (key : Key) (file : FileId) (o : Option ℕ) → h ≡ self → files ≡ map file_of h → key ≡ file_key file → o ≡ place_of key files → o ≡ place_of (file_key file) (map file_of self)
file_placed h self files key file o view named is placed =
    placed ∙ (ap (λ k. place_of k files) is ∙ ap (place_of (file_key file)) (named ∙ ap (map file_of) view))

-- a found version has a content that isn't too long
pub short_found : (p : Version → Bool) (h : List Version) (v : Version) → AllShort h → find p h ≡ Some v → length v.content ≤ file_bytes_max
short_found p [] v k e = absurd (none_some v e)
short_found p (u ∷ older) v k e = at (p u) (short_found p older v k.1) e where
  at : (b : Bool) → (find p older ≡ Some v → length v.content ≤ file_bytes_max) → cond b (Some u) (find p older) ≡ Some v → length v.content ≤ file_bytes_max
  at true before f = subst (λ (w : Version). length w.content ≤ file_bytes_max) (some_same u v f) k.0
  at false before f = before f

-- as many counters as versions
pub counts_within : (h self : List Version) (counts : List (List ℕ)) (names : List Key) (i : ℕ) → names ≡ map name_of h → reverse counts ≡ counts_of h → i < length names → i < length counts
counts_within h self counts names i named counted low =
    let a = length-reverse counts in
    let b = counts_length h in
    let c : length names ≡ length h = ap length named ∙ length-map h name_of in
    let d : length (reverse counts) ≡ length (counts_of h) = ap length counted in
    omega (arith, low, a, b, c, d)

-- the counters at the place of a name
pub counts_placed : (h self : List Version) (counts : List (List ℕ)) (file : FileId) (stamp : Stamp) (i : ℕ) → h ≡ self → reverse counts ≡ counts_of h → Some i ≡ place_of (version_key file stamp) (map name_of self) → slice_get counts i ≡ Some (map (counter self file stamp) counted_sites)
counts_placed h self counts file stamp i view counted placed =
    ap (λ (ns : List (List ℕ)). slice_get ns i) (sym (reverse-reverse counts) ∙ ap reverse (counted ∙ ap counts_of view))
    ∙ counts_found file stamp self i (sym placed)

pub counter_placed : (h self : List Version) (counts : List (List ℕ)) (file : FileId) (stamp : Stamp) (i n site : ℕ) → h ≡ self → reverse counts ≡ counts_of h → Some i ≡ place_of (version_key file stamp) (map name_of self) → n ≡ site → n < 17 → get_or (get_or counts i []) n 0 ≡ counter self file stamp site
counter_placed h self counts file stamp i n site view counted placed same low =
    ap (λ (ns : List ℕ). get_or ns n 0) (get_or_from_slice_get counts i (map (counter self file stamp) counted_sites) [] (counts_placed h self counts file stamp i view counted placed))
    ∙ (number_at (counter self file stamp) 17 0 n 0 low ∙ ap (counter self file stamp) (omega arith))

pub counter_few : (h : List Version) (file : FileId) (stamp : Stamp) (site : ℕ) → counter h file stamp site ≤ length h
counter_few h file stamp site = let k = greatest_below file site h (stamp ∷ []) in omega (arith, k)

-- no counter of a site that there can't be
none_greatest : (f : Stamp → ℕ) (ss : List Stamp) → ((s : Stamp) → f s ≡ 0) → greatest f ss ≡ 0
none_greatest f [] none = refl
none_greatest f (s ∷ ss) none = let a = none s in let b = none_greatest f ss none in omega (arith, a, b)

pub counter_past : (h : List Version) (file : FileId) (b : Stamp) (site : ℕ) → AllSited h → sites_max < site → counter h file b site ≡ 0
counter_past [] file b site k past = refl
counter_past (v ∷ older) file b site k past = ⊎_elim
    (λ (t : is_version file b v ≡ true).
    let low : v.site ≤ sites_max = k.0 in
    let no : (let n : ℕ = cond (v.site == site) 1 0 in n ≡ 0) = ap (λ (x : Bool). let n : ℕ = cond x 1 0 in n) (false_unless (v.site == site) (λ e. let same = equal v.site site e in absurd (omega arith))) in
    let rest = none_greatest (λ p. counter older file p site) v.parents (λ p. counter_past older file p site k.1 past) in
    counter_top file v older b site t ∙ omega (arith, no, rest))
    (λ (t : is_version file b v ≡ false). sym (counter_stays file b v older site t) ∙ counter_past older file b site k.1 past)
    (cases_Bool (is_version file b v))

pub absent_counter : (h : List Version) (file : FileId) (stamp : Stamp) (site : ℕ) → None ≡ place_of (version_key file stamp) (map name_of h) → counter h file stamp site ≡ 0
absent_counter h file stamp site e = counter_none file stamp h site (in_place file stamp h ∙ ap is_some (sym e))

pub sited_along : (h self : List Version) → h ≡ self → AllSited h → AllSited self
sited_along h self e k = subst AllSited e k

-- ---- one counter more ----

map_more : (f : ℕ → ℕ) (xs : List ℕ) (y : ℕ) → map f (xs ++ y ∷ []) ≡ map f xs ++ f y ∷ []
map_more f [] y = refl
map_more f (x ∷ xs) y = ap (λ ys. f x ∷ ys) (map_more f xs y)

take_set : (xs : List ℕ) (i n : ℕ) → i < length xs → take (suc i) (set xs i n) ≡ take i xs ++ n ∷ []
take_set [] i n h = absurd (omega (arith, h))
take_set (x ∷ xs) zero n h = refl
take_set (x ∷ xs) (suc i) n h = ap (λ ys. x ∷ ys) (take_set xs i n (omega (arith, h)))

pub counts_more : (f : ℕ → ℕ) (parts : List ℕ) (place n : ℕ) → place < length parts → take place parts ≡ map f (numbers_from 0 place) → n ≡ f place → take (place + 1) (set parts place n) ≡ map f (numbers_from 0 (place + 1))
counts_more f parts place n h so is =
    let next : place + 1 ≡ suc place = omega arith in
    let last : f (0 + place) ≡ n = ap f (omega arith) ∙ sym is in
    ap (λ k. take k (set parts place n)) next ∙ take_set parts place n h ∙ ap (λ ys. ys ++ n ∷ []) so
    ∙ ap (λ m. map f (numbers_from 0 place) ++ m ∷ []) (sym last)
    ∙ sym (map_more f (numbers_from 0 place) (0 + place)) ∙ ap (map f) (sym (numbers_more 0 place)) ∙ ap (λ k. map f (numbers_from 0 k)) (sym next)

-- ---- one version more ----

-- the tables of a history with one version more
pub agree_more : (h self grown : List Version) (counts counts_grown : List (List ℕ)) (names names_grown files files_grown : List Key) (regular stays : Bool) (v : Version) (row : List ℕ)
    → Agree h counts names files regular → h ≡ self → grown ≡ v ∷ h → counts_grown ≡ counts ++ row ∷ [] → names_grown ≡ name_of v ∷ names → files_grown ≡ file_of v ∷ files
    → row ≡ counts_on self v → stays ≡ is_regular (v ∷ self) → length h < 4294967294 → v.site ≤ sites_max → length v.content ≤ file_bytes_max
    → Agree grown counts_grown names_grown files_grown stays
agree_more h self grown counts counts_grown names names_grown files files_grown regular stays v row k view is_h is_counts is_names is_files is_row told few sited short =
    let own : counts_on self v ≡ counts_on h v = ap (λ hs. counts_on hs v) (sym view) in
    let long : length grown ≡ length h + 1 = ap length is_h ∙ omega arith in
    record {
      names_are = is_names ∙ (ap (λ ks. name_of v ∷ ks) k.names_are ∙ ap (map name_of) (sym is_h));
      files_are = is_files ∙ (ap (λ ks. file_of v ∷ ks) k.files_are ∙ ap (map file_of) (sym is_h));
      counts_are = ap reverse is_counts ∙ (reverse-append counts (row ∷ []) ∙ (ap (λ r. r ∷ reverse counts) (is_row ∙ own) ∙ (ap (λ rs. counts_on h v ∷ rs) k.counts_are ∙ ap counts_of (sym is_h))));
      told = told ∙ ap is_regular (sym (is_h ∙ ap (λ hs. v ∷ hs) view));
      few = omega arith;
      sited = subst AllSited (sym is_h) (sited, k.sited);
      short = subst AllShort (sym is_h) (short, k.short);
    }

-- the tables of no versions
pub agree_none : (h : List Version) (counts : List (List ℕ)) (names files : List Key) → h ≡ [] → counts ≡ [] → names ≡ [] → files ≡ [] → Agree h counts names files true
agree_none h counts names files is_h is_counts is_names is_files = record {
  names_are = is_names ∙ ap (map name_of) (sym is_h);
  files_are = is_files ∙ ap (map file_of) (sym is_h);
  counts_are = ap reverse is_counts ∙ ap counts_of (sym is_h);
  told = ap is_regular (sym is_h);
  few = (let none : length h ≡ 0 = ap length is_h in omega arith);
  sited = subst AllSited (sym is_h) tt;
  short = subst AllShort (sym is_h) tt;
}

-- what is found is short
pub short_behind : (p : Version → Bool) (h self : List Version) (o : Option (Bor Version)) → h ≡ self → AllShort h → option_copied o ≡ find p self → IfSome o (λ v. length v.now.content ≤ file_bytes_max)
short_behind p h self None view k e = tt
short_behind p h self (Some v) view k e = short_found p h v.now k (ap (find p) view ∙ sym e)
