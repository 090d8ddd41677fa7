-- Before the first record the trees of the past are what the folds say.
use Rattle.std.proofs.Common.{◌≡◌, ℕ, zero, suc, ◌+◌, ◌≤◌, ◌<◌, ◌==◌, Bool, true, false, cond, List, [], ◌∷◌, filter, length, map, None, refl, sym, ap, subst, ◌∙◌, arith}
use Rattle.std.proofs.lemmas.Bool.Decides.{nat_tests}
use Rattle.std.specs.List.{list_any}
use Rattle.locus_ids.specs.declared.config.Config.{Config}
use Rattle.locus_ids.specs.declared.ids.EpochId.{EpochId}
use Rattle.locus_ids.specs.declared.ids.FileId.{FileId}
use Rattle.locus_ids.specs.declared.ids.Kind.TheVariants.{File, Dir}
use Rattle.commit_graph.specs.Versions.{same_file}
use Rattle.commit_graph.specs.Vectors.{numbers_from}
use Rattle.call_rules.specs.Walks.{root_of}
use Rattle.tree_model.specs.Epochs.{is_in}
use Rattle.tree_model.specs.Files.{kind_made, making_words}
use Rattle.tree_model.specs.Histories.{format_stamp}
use Rattle.tree_model.specs.Opening.{sites_made}
use Rattle.tree_model.specs.Packs.{has_pack, no_sites, packs_of}
use Rattle.promises.specs.Past.{Copy, Making, Site, copies_in, first_or, first_site, groups, no_site, nothing_yet, site_at, stamp_in, unformed}
use Rattle.past_laws.specs.Agreement.{TreesAgree, are_packed}
use Rattle.past_laws.specs.Made.{is_made}
use Rattle.past_laws.proofs.Names.{false_true, both, number_eq}
use Rattle.past_laws.proofs.Finding.{filter_mapped, first_each}
use Rattle.past_laws.proofs.SitesSay.{has_number}
use Rattle.past_laws.proofs.TreesLists.{filter_less, fewer_pass, length_map, of_none}

-- Roots.

abbrev root_making : Config → ℕ → Making
root_making c group = record { file = root_of group; kind = Dir; set = packs_of c group }

-- the first making of a file is that of the root of its group
root_found : (c : Config) (f : FileId) (d : Making) (ns : List ℕ) → is_made (map (root_making c) ns) f ≡ true → (first_or d (λ (m : Making). same_file m.file f) (map (root_making c) ns) ≡ root_making c f.group) × ((f.ino == 1) ≡ true)
root_found c f d [] h = false_true h
root_found c f d (n ∷ ns) h = over (root_found c f d ns) (same_file (root_of n) f) refl
  where
    own : same_file (root_of n) f ≡ true → n ≡ f.group
    own e = grind (arith, nat_tests)

    root : same_file (root_of n) f ≡ true → (f.ino == 1) ≡ true
    root e = grind (arith, nat_tests)

    over : (is_made (map (root_making c) ns) f ≡ true → (first_or d (λ (m : Making). same_file m.file f) (map (root_making c) ns) ≡ root_making c f.group) × ((f.ino == 1) ≡ true)) → (b : Bool) → same_file (root_of n) f ≡ b
        → (first_or d (λ (m : Making). same_file m.file f) (map (root_making c) (n ∷ ns)) ≡ root_making c f.group) × ((f.ino == 1) ≡ true)
    over later true e = (rw e (ap (root_making c) (own e)), root e)
    over later false e = (rw e (later (rw e at h)).0, (later (rw e at h)).1)

-- What sites have.

none_past : (z first many : ℕ) → z < first → list_any (λ n. n == z) (numbers_from first many) ≡ false
none_past z first zero h = refl
none_past z first (suc many) h = over (first == z) refl (none_past z (first + 1) many (omega (arith, h)))
  where
    apart : (first == z) ≡ true → ⊥
    apart e = grind (arith, nat_tests)

    over : (b : Bool) → (first == z) ≡ b → list_any (λ n. n == z) (numbers_from (first + 1) many) ≡ false → list_any (λ n. n == z) (numbers_from first (suc many)) ≡ false
    over true e later = absurd (apart e)
    over false e later = rw e later

pub one_number : (z first many : ℕ) → length (filter (λ n. n == z) (numbers_from first many)) ≤ 1
one_number z first zero = omega arith
one_number z first (suc many) = over (first == z) refl (one_number z (first + 1) many)
  where
    below : (first == z) ≡ true → z < first + 1
    below e = grind (arith, nat_tests)

    over : (b : Bool) → (first == z) ≡ b → length (filter (λ n. n == z) (numbers_from (first + 1) many)) ≤ 1 → length (filter (λ n. n == z) (numbers_from first (suc many))) ≤ 1
    over true e later = rw e (subst (λ (ns : List ℕ). length (first ∷ ns) ≤ 1) (sym (of_none (λ n. n == z) (numbers_from (first + 1) many) (none_past z (first + 1) many (below e)))) (omega arith))
    over false e later = rw e later

one_root : (c : Config) (f : FileId) (n : ℕ) → length (filter (λ (v : Copy). same_file v.file f) (first_site c n).held) ≤ 1
one_root c f n = omega (arith, ap length (filter_mapped root_copy (λ (v : Copy). same_file v.file f) (filter packed groups)), length_map root_copy (filter of (filter packed groups)), filter_less of packed groups, fewer_pass of (λ g. g == f.group) weaker groups, one_number f.group 0 4)
  where
    root_copy : ℕ → Copy
    root_copy group = record { file = root_of group; stamp = format_stamp }

    packed : ℕ → Bool
    packed group = has_pack c group n

    of : ℕ → Bool
    of group = same_file (root_of group) f

    weaker : (g : ℕ) → of g ≡ true → (g == f.group) ≡ true
    weaker g e = grind (arith, nat_tests)

one_copy_first : (c : Config) (f : FileId) (z : ℕ) (ns : List ℕ) → length (filter (λ (v : Copy). same_file v.file f) (first_or no_site (has_number z) (map (first_site c) ns)).held) ≤ 1
one_copy_first c f z [] = omega arith
one_copy_first c f z (n ∷ ns) = over (n == z) (one_copy_first c f z ns)
  where
    over : (b : Bool) → length (filter (λ (v : Copy). same_file v.file f) (first_or no_site (has_number z) (map (first_site c) ns)).held) ≤ 1
        → length (filter (λ (v : Copy). same_file v.file f) (cond b (first_site c n) (first_or no_site (has_number z) (map (first_site c) ns))).held) ≤ 1
    over true later = one_root c f n
    over false later = later

-- no site is in an epoch
none_in : (c : Config) (e : EpochId) (z : ℕ) → copies_in (nothing_yet c) (unformed e) z ≡ []
none_in c e z = ap (λ o. cond (is_in o e) (site_at (nothing_yet c) z).held []) (first_each (λ (s : Site). s.epoch) no_site (has_number z) (first_site c) None refl (λ n. refl) (numbers_from 1 c.sites))

-- A site begins with the roots of groups that it packs.

roots_packed : (c : Config) (site : ℕ) (gs : List ℕ) → are_packed c site (map (λ group. record { file = root_of group; stamp = format_stamp }) (filter (λ group. has_pack c group site) gs)) ≡ true
roots_packed c site [] = refl
roots_packed c site (g ∷ gs) = over (has_pack c g site) refl (roots_packed c site gs)
  where
    over : (b : Bool) → has_pack c g site ≡ b → are_packed c site (map (λ group. record { file = root_of group; stamp = format_stamp }) (filter (λ group. has_pack c group site) gs)) ≡ true
        → are_packed c site (map (λ group. record { file = root_of group; stamp = format_stamp }) (cond b (g ∷ filter (λ group. has_pack c group site) gs) (filter (λ group. has_pack c group site) gs))) ≡ true
    over true e later = both (has_pack c g site) _ e later
    over false e later = later

packed_first : (c : Config) (site : ℕ) (ns : List ℕ) → are_packed c site (first_or no_site (has_number site) (map (first_site c) ns)).held ≡ true
packed_first c site [] = refl
packed_first c site (n ∷ ns) = over (n == site) refl (packed_first c site ns)
  where
    over : (b : Bool) → (n == site) ≡ b → are_packed c site (first_or no_site (has_number site) (map (first_site c) ns)).held ≡ true → are_packed c site (cond b (first_site c n) (first_or no_site (has_number site) (map (first_site c) ns))).held ≡ true
    over true e later = subst (λ (m : ℕ). are_packed c site (first_site c m).held ≡ true) (sym (number_eq n site e)) (roots_packed c site groups)
    over false e later = later

-- All of it.

pub trees_begin : (c : Config) → TreesAgree c [] (nothing_yet c)
trees_begin c = record {
  started = λ e group. refl;
  known = λ e group. refl;
  granted = λ e group. refl;
  opened = λ e group. refl;
  makes = λ e group. refl;
  held = λ e site f. ap (λ vs. stamp_in vs f) (none_in c e site);
  kind = λ f h. (let root = root_found c f (record { file = f; kind = File; set = no_sites }) groups h in
      ap (λ (m : Making). m.kind) root.0 ∙ sym (ap (λ b. cond b Dir (kind_made (making_words c [] f))) root.1));
  set = λ f h. (let root = root_found c f (record { file = f; kind = File; set = no_sites }) groups h in
      ap (λ (m : Making). m.set) root.0 ∙ sym (ap (λ b. cond b (packs_of c f.group) (sites_made (packs_of c f.group) (making_words c [] f))) root.1));
  one_named = λ e i. omega arith;
  was_granted = λ e. refl;
  called = λ e. refl;
  making = λ e. refl;
  one_copy = λ site f. one_copy_first c f site (numbers_from 1 c.sites);
  packed = λ site. packed_first c site (numbers_from 1 c.sites);
  packed_in = λ e site. ap (are_packed c site) (none_in c e site);
  ascending = λ e. refl;
  callers = refl;
  one_left = λ e site f. subst (λ (vs : List Copy). length (filter (λ (v : Copy). same_file v.file f) vs) ≤ 1) (sym (none_in c e site)) (omega arith);
}
