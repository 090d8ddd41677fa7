-- A formatted disk holds what its site holds before anything was told: the empty roots of the groups of which it has packs.
use Rattle.std.proofs.Common.{◌≡◌, ◌≤◌, ◌<◌, ℕ, zero, suc, ◌+◌, ◌*◌, ◌==◌, Bool, true, false, ◌&&◌, cond, List, [], ◌∷◌, length, fold, map, filter, replicate, slice_index_or, Option, Some, None, refl, sym, ap, ◌∙◌, subst, inl, inr, ◌⊎◌, arith}
use Rattle.std.proofs.lemmas.Bool.Decides.{nat_tests}
use Rattle.std.proofs.lemmas.List.{length-set, get_or_past}
use Rattle.std.specs.Option.{option_map}
use Rattle.role_steps.proofs.of_plain_facts.Numbers.{equal, equal_self}
use Rattle.role_steps.proofs.of_plain_facts.Tests.{true_false}
use Rattle.locus_ids.specs.Sites.{has}
use Rattle.locus_ids.specs.declared.config.Config.{Config}
use Rattle.locus_ids.specs.declared.ids.FileId.{FileId}
use Rattle.locus_ids.specs.declared.ids.Kind.TheVariants as kind
use Rattle.locus_ids.specs.declared.ids.Stamp.{Stamp}
use Rattle.locus_ids.specs.declared.sites.Sites.{Sites}
use Rattle.locus_ids.specs.Sizes.{inode_span, sites_max}
use Rattle.commit_graph.specs.Counters.{counter}
use Rattle.commit_graph.specs.Vectors.{numbers_from, vector_of}
use Rattle.commit_graph.specs.Versions.{content_of, is_version}
use Rattle.schedule_lines.specs.Cluster.{config_of, no_cluster, with_line}
use Rattle.schedule_lines.specs.declared.header.HeaderLine.TheVariants as header
use Rattle.schedule_lines.specs.declared.line.ScheduleLine.{ScheduleLine}
use Rattle.schedule_lines.specs.declared.line.ScheduleLine.TheVariants.{Passed, Header, Event}
use Rattle.role_steps.specs.Own.{Every}
use Rattle.role_steps.specs.Storage.{copy_key}
use Rattle.role_steps.specs.Tables.{row}
use Rattle.role_steps.specs.Views.{all_groups, file_key, pack_sites}
use Rattle.role_steps.specs.declared.copies.FileCopy.{FileCopy}
use Rattle.the_run.specs.Worlds.{formatted, root_copy}
use Rattle.tree_model.specs.Files.{kind_made, making_words, version_of}
use Rattle.tree_model.specs.Histories.{format_stamp, format_version, format_versions}
use Rattle.tree_model.specs.Opening.{sites_made}
use Rattle.tree_model.specs.Packs.{has_pack, packs_of}
use Rattle.tree_laws.specs.Stores.{Ascends, CopiesAreHeld, copy_for}

-- ---- four groups ----

lines_keep : (c : Config) (l : ScheduleLine) → length (with_line c l).packs ≡ length c.packs
lines_keep c (Header (header.Sites count)) = refl
lines_keep c (Header (header.Group group set)) = length-set c.packs group set
lines_keep c (Header (header.Mount group name)) = refl
lines_keep c Passed = refl
lines_keep c (Event e) = refl

four_from : (c : Config) (lines : List ScheduleLine) → length c.packs ≡ 4 → length (fold with_line c lines).packs ≡ 4
four_from c [] h = h
four_from c (l ∷ lines) h = four_from (with_line c l) lines (lines_keep c l ∙ h)

pub four_groups : (lines : List ScheduleLine) → length (config_of lines).packs ≡ 4
four_groups lines = four_from no_cluster lines refl

-- ---- the versions of a format ----

contents_empty : (k : ℕ) (packs : List Sites) (f : FileId) (s : Stamp) → content_of (format_versions k packs) f s ≡ []
contents_empty k [] f s = refl
contents_empty k (p ∷ ps) f s = over (p.0 == 0) (is_version f s (format_version k)) (contents_empty (k + 1) ps f s)
  where
    at : (b : Bool) → content_of (format_versions (k + 1) ps) f s ≡ [] → cond b [] (content_of (format_versions (k + 1) ps) f s) ≡ []
    at true later = refl
    at false later = later

    over : (a b : Bool) → content_of (format_versions (k + 1) ps) f s ≡ [] → content_of (cond a (format_versions (k + 1) ps) (format_version k ∷ format_versions (k + 1) ps)) f s ≡ []
    over true b later = later
    over false b later = at (is_version f s (format_version k)) later

-- no site has committed one
pub counts_none : (k : ℕ) (packs : List Sites) (f : FileId) (s : Stamp) (site : ℕ) → (0 == site) ≡ false → counter (format_versions k packs) f s site ≡ 0
counts_none k [] f s site e = refl
counts_none k (p ∷ ps) f s site e = over (p.0 == 0) (counts_none (k + 1) ps f s site e)
  where
    one : (b : Bool) → b ≡ false → 0 + cond b 1 0 ≡ 0
    one true e = absurd (true_false e)
    one false e = refl

    at : (b : Bool) → counter (format_versions (k + 1) ps) f s site ≡ 0 → cond b (0 + cond (0 == site) 1 0) (counter (format_versions (k + 1) ps) f s site) ≡ 0
    at true later = one (0 == site) e
    at false later = later

    over : (a : Bool) → counter (format_versions (k + 1) ps) f s site ≡ 0 → counter (cond a (format_versions (k + 1) ps) (format_version k ∷ format_versions (k + 1) ps)) f s site ≡ 0
    over true later = later
    over false later = at (is_version f s (format_version k)) later

zeros : (g : ℕ → ℕ) → ((s : ℕ) → (0 == s) ≡ false → g s ≡ 0) → (a n : ℕ) → (0 == a) ≡ false → map g (numbers_from a n) ≡ replicate n 0
zeros g h a zero e = refl
zeros g h a (suc n) e = ap (λ (x : ℕ). x ∷ map g (numbers_from (a + 1) n)) (h a e) ∙ ap (λ (xs : List ℕ). 0 ∷ xs) (zeros g h (a + 1) n (next a))
  where
    next : (a : ℕ) → (0 == a + 1) ≡ false
    next a = grind (arith, nat_tests)

vectors_none : (packs : List Sites) (f : FileId) (s : Stamp) → vector_of (format_versions 0 packs) f s ≡ replicate sites_max 0
vectors_none packs f s = zeros (counter (format_versions 0 packs) f s) (λ site e. counts_none 0 packs f s site e) 1 sites_max refl

-- ---- roots ----

row_next : (k : ℕ) (x : FileCopy) (xs : List FileCopy) (b : Bool) → (copy_key x == k) ≡ b → row copy_key k (x ∷ xs) ≡ cond b (Some x) (row copy_key k xs)
row_next k x xs b e = subst (λ (a : Bool). row copy_key k (x ∷ xs) ≡ cond a (Some x) (row copy_key k xs)) e (at (copy_key x == k))
  where
    at : (a : Bool) → (elim a as (λ (y : Bool). Option FileCopy) [ true ↦ Some x | false ↦ row copy_key k xs ]) ≡ cond a (Some x) (row copy_key k xs)
    at true = refl
    at false = refl

-- a root has the key of a file of 16 bits only where it is that file
root_group : (g h i : ℕ) → i < inode_span → g * inode_span + 1 ≡ h * inode_span + i → g ≡ h
root_group g h i low e = omega (arith, low, e)

root_number : (g h i : ℕ) → i < inode_span → g * inode_span + 1 ≡ h * inode_span + i → i ≡ 1
root_number g h i low e = omega (arith, low, e)

abbrev roots : Config → (ℕ → Bool) → List ℕ → List FileCopy
roots c p gs = map (root_copy c) (filter p gs)

-- where the site has no pack of the group, or the file is no root, no copy is found
none_found : (c : Config) (p : ℕ → Bool) (f : FileId) → f.ino < inode_span → (f.ino ≡ 1 → p f.group ≡ true → ⊥) → (gs : List ℕ) → row copy_key (file_key f) (roots c p gs) ≡ None
none_found c p f low none [] = refl
none_found c p f low none (g ∷ gs) = over (p g) refl (none_found c p f low none gs)
  where
    other : (b : Bool) → (copy_key (root_copy c g) == file_key f) ≡ b → p g ≡ true → b ≡ false
    other false e is = refl
    other true e is = absurd (none (root_number g f.group f.ino low (equal (copy_key (root_copy c g)) (file_key f) e)) (subst (λ (h : ℕ). p h ≡ true) (root_group g f.group f.ino low (equal (copy_key (root_copy c g)) (file_key f) e)) is))

    over : (b : Bool) → p g ≡ b → row copy_key (file_key f) (roots c p gs) ≡ None → row copy_key (file_key f) (map (root_copy c) (cond b (g ∷ filter p gs) (filter p gs))) ≡ None
    over true is later = row_next (file_key f) (root_copy c g) (roots c p gs) false (other (copy_key (root_copy c g) == file_key f) refl is) ∙ later
    over false is later = later

-- the group is one of these
abbrev IsOneOf : ℕ → List ℕ → Type 0
IsOneOf g [] = ⊥
IsOneOf g (x ∷ xs) = (g ≡ x) ⊎ IsOneOf g xs

root_found : (c : Config) (p : ℕ → Bool) (f : FileId) → f.ino ≡ 1 → p f.group ≡ true → (gs : List ℕ) → IsOneOf f.group gs → row copy_key (file_key f) (roots c p gs) ≡ Some (root_copy c f.group)
root_found c p f one packed [] k = absurd k
root_found c p f one packed (g ∷ gs) k = at (p g) refl (g == f.group) refl k (root_found c p f one packed gs)
  where
    key_own : g ≡ f.group → (copy_key (root_copy c g) == file_key f) ≡ true
    key_own e = subst (λ (n : ℕ). (copy_key (root_copy c g) == n) ≡ true) (ap (λ (h : ℕ). h * inode_span + 1) e ∙ ap (λ (i : ℕ). f.group * inode_span + i) (sym one)) (equal_self (copy_key (root_copy c g)))

    low : (i : ℕ) → i ≡ 1 → i < inode_span
    low i e = omega (arith, e)

    key_other : (g == f.group) ≡ false → (b : Bool) → (copy_key (root_copy c g) == file_key f) ≡ b → b ≡ false
    key_other not false e = refl
    key_other not true e = absurd (true_false (sym (subst (λ (h : ℕ). (g == h) ≡ true) (root_group g f.group f.ino (low f.ino one) (equal (copy_key (root_copy c g)) (file_key f) e)) (equal_self g)) ∙ not))

    later_one : (g == f.group) ≡ false → (f.group ≡ g) ⊎ IsOneOf f.group gs → IsOneOf f.group gs
    later_one not (inl e) = absurd (true_false (sym (subst (λ (h : ℕ). (h == f.group) ≡ true) e (equal_self f.group)) ∙ not))
    later_one not (inr k) = k

    at : (b : Bool) → p g ≡ b → (a : Bool) → (g == f.group) ≡ a → (f.group ≡ g) ⊎ IsOneOf f.group gs → (IsOneOf f.group gs → row copy_key (file_key f) (roots c p gs) ≡ Some (root_copy c f.group)) →
        row copy_key (file_key f) (map (root_copy c) (cond b (g ∷ filter p gs) (filter p gs))) ≡ Some (root_copy c f.group)
    at true is true same k later = row_next (file_key f) (root_copy c g) (roots c p gs) true (key_own (equal g f.group same)) ∙ ap (λ (h : ℕ). Some (root_copy c h)) (equal g f.group same)
    at true is false not k later = row_next (file_key f) (root_copy c g) (roots c p gs) false (key_other not (copy_key (root_copy c g) == file_key f) refl) ∙ later (later_one not k)
    at false is true same k later = absurd (true_false (sym packed ∙ (ap p (sym (equal g f.group same)) ∙ is)))
    at false is false not k later = later (later_one not k)

-- ---- a formatted disk ----

few_groups : (packs : List Sites) → length packs ≤ 4 → (g site : ℕ) → has (slice_index_or packs g (record { 0 = 0 })) site ≡ true → IsOneOf g all_groups
few_groups packs few zero site k = inl refl
few_groups packs few (suc zero) site k = inr (inl refl)
few_groups packs few (suc (suc zero)) site k = inr (inr (inl refl))
few_groups packs few (suc (suc (suc zero))) site k = inr (inr (inr (inl refl)))
few_groups packs few (suc (suc (suc (suc g)))) site k = absurd (true_false (sym k ∙ (ap (λ (s : Sites). has s site) (get_or_past packs (suc (suc (suc (suc g)))) (record { 0 = 0 }) (past (length packs) g few)) ∙ none site)))
  where
    past : (n g : ℕ) → n ≤ 4 → n ≤ suc (suc (suc (suc g)))
    past n g h = omega (arith, h)

    none : (site : ℕ) → has (record { 0 = 0 }) site ≡ false
    none site = grind (arith, nat_tests)

root_is : (c : Config) (f : FileId) → f.ino ≡ 1 → root_copy c f.group ≡ copy_for f (version_of c [] f format_stamp)
root_is c f one =
    ap (λ (i : ℕ). record { file = record { group = f.group; ino = i }; kind = kind.Dir; set = packs_of c f.group; stamp = format_stamp; vector = replicate sites_max 0; content = [] }) (sym one) ∙
    (ap (λ (b : Bool). record { file = f; kind = cond b kind.Dir (kind_made (making_words c [] f)); set = cond b (packs_of c f.group) (sites_made (packs_of c f.group) (making_words c [] f)); stamp = format_stamp; vector = replicate sites_max 0; content = [] }) (sym (subst (λ (i : ℕ). (i == 1) ≡ true) (sym one) refl)) ∙
    (ap (λ (v : List ℕ). record { file = f; kind = cond (f.ino == 1) kind.Dir (kind_made (making_words c [] f)); set = cond (f.ino == 1) (packs_of c f.group) (sites_made (packs_of c f.group) (making_words c [] f)); stamp = format_stamp; vector = v; content = [] }) (sym (vectors_none c.packs f format_stamp)) ∙
    ap (λ (x : List ℕ). record { file = f; kind = cond (f.ino == 1) kind.Dir (kind_made (making_words c [] f)); set = cond (f.ino == 1) (packs_of c f.group) (sites_made (packs_of c f.group) (making_words c [] f)); stamp = format_stamp; vector = vector_of (format_versions 0 c.packs) f format_stamp; content = x }) (sym (contents_empty 0 c.packs f format_stamp))))

held_found : (c : Config) → length c.packs ≤ 4 → (me : ℕ) (f : FileId) → f.ino < inode_span → (a b : Bool) → (f.ino == 1) ≡ a → has_pack c f.group me ≡ b →
    row copy_key (file_key f) (formatted c me) ≡ option_map (copy_for f) (option_map (version_of c [] f) (cond (a && b) (Some format_stamp) None))
held_found c few me f low true true one packed = root_found c (λ g. has (pack_sites c g) me) f (equal f.ino 1 one) packed all_groups (few_groups c.packs few f.group me packed) ∙ ap Some (root_is c f (equal f.ino 1 one))
held_found c few me f low true false one packed = none_found c (λ g. has (pack_sites c g) me) f low (λ e k. true_false (sym k ∙ packed)) all_groups
held_found c few me f low false b one packed = none_found c (λ g. has (pack_sites c g) me) f low (λ e k. true_false (subst (λ (i : ℕ). true ≡ (i == 1)) (sym e) refl ∙ one)) all_groups

-- what stands above a number stands above it where some are left out
kept_above : (c : Config) (p : ℕ → Bool) (n : ℕ) (gs : List ℕ) → Every (λ (g : ℕ). n < copy_key (root_copy c g)) gs → Every (λ (y : FileCopy). n < copy_key y) (roots c p gs)
kept_above c p n [] k = tt
kept_above c p n (g ∷ gs) k = over (p g) (kept_above c p n gs k.1)
  where
    over : (b : Bool) → Every (λ (y : FileCopy). n < copy_key y) (roots c p gs) → Every (λ (y : FileCopy). n < copy_key y) (map (root_copy c) (cond b (g ∷ filter p gs) (filter p gs)))
    over true later = (k.0, later)
    over false later = later

roots_ascend : (c : Config) (p : ℕ → Bool) (gs : List ℕ) → Ascends (λ (g : ℕ). copy_key (root_copy c g)) gs → Ascends copy_key (roots c p gs)
roots_ascend c p [] k = tt
roots_ascend c p (g ∷ gs) k = over (p g) (roots_ascend c p gs k.1)
  where
    over : (b : Bool) → Ascends copy_key (roots c p gs) → Ascends copy_key (map (root_copy c) (cond b (g ∷ filter p gs) (filter p gs)))
    over true later = (kept_above c p (copy_key (root_copy c g)) gs k.0, later)
    over false later = later

groups_ascend : (c : Config) → Ascends (λ (g : ℕ). copy_key (root_copy c g)) all_groups
groups_ascend c = ((omega arith, (omega arith, (omega arith, tt))), ((omega arith, (omega arith, tt)), ((omega arith, tt), (tt, tt))))

pub first_held : (c : Config) → length c.packs ≤ 4 → (me : ℕ) → CopiesAreHeld c [] me (record { copies = formatted c me; instances = []; steps = [] })
first_held c few me = record {
  are = λ f low. held_found c few me f low (f.ino == 1) (has_pack c f.group me) refl refl;
  ascends = roots_ascend c (λ g. has (pack_sites c g) me) all_groups (groups_ascend c);
}
