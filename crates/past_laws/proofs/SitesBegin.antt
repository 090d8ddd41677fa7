-- Before the first record the sites of the past, and its history, are what the folds say.
use Rattle.std.proofs.Common.{◌≡◌, ℕ, zero, suc, ◌+◌, ◌-◌, ◌≤◌, ◌<◌, ◌==◌, ◌&&◌, nat_lt, Bool, true, false, cond, List, [], ◌∷◌, length, get_or, filter, map, Option, Some, None, refl, sym, ap, subst, ◌∙◌, ◌⊎◌, inl, inr, arith}
use Rattle.std.proofs.lemmas.Bool.Decides.{nat_tests}
use Rattle.std.proofs.lemmas.List.{get_or_past}
use Rattle.std.proofs.lemmas.Nat.Bits.{bit_at-zero}
use Rattle.std.specs.List.{find, list_any}
use Rattle.std.specs.Option.{option_map}
use Rattle.locus_ids.specs.Sites.{has}
use Rattle.locus_ids.specs.declared.config.Config.{Config}
use Rattle.locus_ids.specs.declared.sites.Sites.{Sites}
use Rattle.locus_ids.specs.declared.ids.FileId.{FileId}
use Rattle.commit_graph.specs.Versions.{same_file}
use Rattle.commit_graph.specs.Vectors.{numbers_from}
use Rattle.call_rules.specs.Walks.{root_of}
use Rattle.tree_model.specs.Histories.{format_stamp, format_version, format_versions, formatted, history}
use Rattle.tree_model.specs.Packs.{has_pack, packs_of, no_sites}
use Rattle.promises.specs.Past.{Site, Copy, first_or, first_site, groups, no_site, nothing_yet, stamp_in}
use Rattle.past_laws.specs.Agreement.{SitesAgree}
use Rattle.past_laws.proofs.Names.{number_eq, false_true, true_or_false, both, both_parts}
use Rattle.past_laws.proofs.Changing.{Finds, any_finds, found_any}
use Rattle.past_laws.proofs.Finding.{find_mapped, find_both, first_each}
use Rattle.past_laws.proofs.Sites.{among_numbers}
use Rattle.past_laws.proofs.SitesSay.{has_number, past_as_said, table_in}

none_pass : {X : Type 0} (q : X → Bool) → ((x : X) → q x ≡ false) → (xs : List X) → find q xs ≡ None
none_pass q out [] = refl
none_pass q out (x ∷ xs) = rw (out x) (none_pass q out xs)

-- Groups that there are.

none_has : (z : ℕ) → has no_sites z ≡ false
none_has z = rw (bit_at-zero (z - 1)) refl

packed_below : (c : Config) → length c.packs ≤ 4 → (group z : ℕ) → has_pack c group z ≡ true → group < 4
packed_below c four group z h = over (true_or_false (nat_lt group 4))
  where
    below : nat_lt group 4 ≡ true → group < 4
    below e = grind (arith, nat_tests)

    past : nat_lt group 4 ≡ false → length c.packs ≤ group
    past e = let f : 4 ≤ group = grind (arith, nat_tests) in omega (arith, four, f)

    over : (nat_lt group 4 ≡ true) ⊎ (nat_lt group 4 ≡ false) → group < 4
    over (inl e) = below e
    over (inr e) = false_true (sym (none_has z) ∙ (ap (λ (s : Sites). has s z) (sym (get_or_past c.packs group no_sites (past e))) ∙ h))

-- Sites.

first_there : (c : Config) (z : ℕ) (ns : List ℕ) → list_any (has_number z) (map (first_site c) ns) ≡ true → first_or no_site (has_number z) (map (first_site c) ns) ≡ first_site c z
first_there c z [] h = false_true h
first_there c z (n ∷ ns) h = over (first_there c z ns) (n == z) refl
  where
    over : (list_any (has_number z) (map (first_site c) ns) ≡ true → first_or no_site (has_number z) (map (first_site c) ns) ≡ first_site c z) → (b : Bool) → (n == z) ≡ b → first_or no_site (has_number z) (map (first_site c) (n ∷ ns)) ≡ first_site c z
    over later true e = rw e (ap (first_site c) (number_eq n z e))
    over later false e = rw e (later (rw e at h))

first_numbers : (c : Config) (ns : List ℕ) → map (λ (s : Site). s.number) (map (first_site c) ns) ≡ ns
first_numbers c [] = refl
first_numbers c (n ∷ ns) = ap (λ ms. n ∷ ms) (first_numbers c ns)

-- what a site has first is the format version of each root that it packs
abbrev root_copy : ℕ → Copy
root_copy group = record { file = root_of group; stamp = format_stamp }

first_held : (c : Config) → length c.packs ≤ 4 → (z : ℕ) (f : FileId) → stamp_in (first_site c z).held f ≡ formatted c z f
first_held c four z f =
    ap (option_map (λ (v : Copy). v.stamp)) (find_mapped root_copy (λ (v : Copy). same_file v.file f) (filter (λ g. has_pack c g z) groups) ∙ ap (option_map root_copy) (find_both is_root (λ g. has_pack c g z) groups))
    ∙ over ((f.ino == 1) && has_pack c f.group z) refl
  where
    is_root : ℕ → Bool
    is_root g = same_file (root_of g) f

    passes : ℕ → Bool
    passes g = has_pack c g z && is_root g

    there : ((f.ino == 1) && has_pack c f.group z) ≡ true → list_any passes groups ≡ true
    there h =
        let parts = both_parts (f.ino == 1) (has_pack c f.group z) h in
        let it = any_finds (λ m. m == f.group) groups (among_numbers f.group 0 4 (omega arith) (packed_below c four f.group z parts.1)) in
        found_any (λ m. m == f.group) passes groups it.one it.found
        (subst (λ g. passes g ≡ true) (sym (number_eq it.one f.group it.passes)) (both (has_pack c f.group z) (is_root f.group) parts.1 (root parts.0)))
      where
        root : (f.ino == 1) ≡ true → is_root f.group ≡ true
        root e = grind (arith, nat_tests)

    none : ((f.ino == 1) && has_pack c f.group z) ≡ false → (g : ℕ) → passes g ≡ false
    none h g = by (passes g) refl
      where
        by : (b : Bool) → passes g ≡ b → b ≡ false
        by true e =
            let parts = both_parts (has_pack c g z) (is_root g) e in
            let own = both_parts (g == f.group) (1 == f.ino) parts.1 in
            sym (sym h ∙ both (f.ino == 1) (has_pack c f.group z) (turned own.1) (subst (λ n. has_pack c n z ≡ true) (number_eq g f.group own.0) parts.0))
          where
            turned : (1 == f.ino) ≡ true → (f.ino == 1) ≡ true
            turned k = grind (arith, nat_tests)
        by false e = refl

    found : Finds passes groups → option_map (λ (v : Copy). v.stamp) (option_map root_copy (find passes groups)) ≡ Some format_stamp
    found it = ap (λ (o : Option ℕ). option_map (λ (v : Copy). v.stamp) (option_map root_copy o)) it.found

    over : (b : Bool) → ((f.ino == 1) && has_pack c f.group z) ≡ b → option_map (λ (v : Copy). v.stamp) (option_map root_copy (find passes groups)) ≡ cond b (Some format_stamp) None
    over true h = found (any_finds passes groups (there h))
    over false h = ap (λ (o : Option ℕ). option_map (λ (v : Copy). v.stamp) (option_map root_copy o)) (none_pass passes (none h) groups)

pub sites_begin : (c : Config) → length c.packs ≤ 4 → SitesAgree c [] (nothing_yet c)
sites_begin c four = past_as_said c [] (nothing_yet c) (record {
  numbers = first_numbers c ns;
  up = λ z h. ap (λ (s : Site). s.up) (first_there c z ns h);
  boot = λ z h. ap (λ (s : Site). s.boot) (first_there c z ns h);
  epoch = λ z. first_each (λ (s : Site). s.epoch) no_site (has_number z) (first_site c) None refl (λ n. refl) ns;
  joined = λ z. first_each (λ (s : Site). s.joined) no_site (has_number z) (first_site c) None refl (λ n. refl) ns;
  accepted = λ z. first_each (λ (s : Site). s.accepted) no_site (has_number z) (first_site c) 0 refl (λ n. refl) ns;
  held = λ z h f. ap (λ (s : Site). stamp_in s.held f) (first_there c z ns h) ∙ first_held c four z f;
  table = λ z process fd. first_each (λ (s : Site). table_in s process fd) no_site (has_number z) (first_site c) None refl (λ n. refl) ns;
  down = λ z h. false_true (sym h);
})
  where
    ns : List ℕ
    ns = numbers_from 1 c.sites

-- The history.

formats : (m k : ℕ) (packs : List Sites) (p : ℕ → Bool) → length packs ≤ m → ((i : ℕ) → p (k + i) ≡ nat_lt 0 (get_or packs i no_sites).0) → map format_version (filter p (numbers_from k m)) ≡ format_versions k packs
formats zero k [] p fits tells = refl
formats zero k (s ∷ ss) p fits tells = absurd (omega (arith, fits))
formats (suc m) k [] p fits tells = rw (first) (formats m (k + 1) [] p (omega arith) (λ i. ap p (further i) ∙ tells (i + 1)))
  where
    further : (i : ℕ) → (k + 1) + i ≡ k + (i + 1)
    further i = omega arith

    first : p k ≡ false
    first = ap p (let e : k ≡ k + 0 = omega arith in e) ∙ tells 0
formats (suc m) k (s ∷ ss) p fits tells = over (formats m (k + 1) ss p (omega (arith, fits)) (λ i. ap p (further i) ∙ tells (suc i))) (s.0 == 0) refl
  where
    further : (i : ℕ) → (k + 1) + i ≡ k + suc i
    further i = omega arith

    first : p k ≡ nat_lt 0 s.0
    first = ap p (let e : k ≡ k + 0 = omega arith in e) ∙ tells 0

    none : (s.0 == 0) ≡ true → nat_lt 0 s.0 ≡ false
    none e = grind (arith, nat_tests)

    some : (s.0 == 0) ≡ false → nat_lt 0 s.0 ≡ true
    some e = grind (arith, nat_tests)

    over : map format_version (filter p (numbers_from (k + 1) m)) ≡ format_versions (k + 1) ss → (b : Bool) → (s.0 == 0) ≡ b → map format_version (filter p (numbers_from k (suc m))) ≡ format_versions k (s ∷ ss)
    over later true e = rw (first, none e, e) later
    over later false e = rw (first, some e, e) (ap (λ vs. format_version k ∷ vs) later)

pub history_begin : (c : Config) → length c.packs ≤ 4 → (nothing_yet c).history ≡ history c []
history_begin c four = formats 4 0 c.packs (λ group. nat_lt 0 (packs_of c group).0) four (λ i. ap (λ n. nat_lt 0 (packs_of c n).0) (let e : 0 + i ≡ i = omega arith in e))
