-- The numbers that a site has for new files, and where an open is granted, by the value of the records and by the tree of its
-- group.
use Rattle.std.proofs.Common.{◌≡◌, ℕ, ◌+◌, ◌-◌, ◌*◌, ◌==◌, ◌≤◌, ◌<◌, Bool, true, false, not, cond, ◌&&◌, ◌||◌, List, [], ◌∷◌, length, filter, map, Option, Some, None, refl, sym, ap, ◌∙◌, arith}
use Rattle.std.specs.Prelude.{nat_lt, nat_le, suc, zero}
use Rattle.std.specs.List.{find, list_any}
use Rattle.std.specs.Option.{is_none, is_some}
use Rattle.std.proofs.lemmas.Bool.{leb-true, ltb-true}
use Rattle.std.proofs.lemmas.Bool.Decides.{nat_tests}
use Rattle.locus_ids.specs.Sizes.{site_inodes}
use Rattle.past_laws.proofs.TreesCopies.{turned}
use Rattle.past_laws.proofs.TreesLists.{filter_both, any_found}
use Rattle.locus_ids.specs.declared.config.Config.{Config}
use Rattle.locus_ids.specs.declared.ids.CallId.{CallId}
use Rattle.locus_ids.specs.declared.ids.EpochId.{EpochId}
use Rattle.locus_ids.specs.declared.ids.FileId.{FileId}
use Rattle.locus_ids.specs.declared.ids.Mode.{Mode}
use Rattle.locus_ids.specs.declared.ids.Mode.TheVariants as mode
use Rattle.locus_ids.specs.declared.ids.Stamp.{Stamp}
use Rattle.commit_graph.specs.Vectors.{numbers_from}
use Rattle.commit_graph.specs.Versions.{same_file, same_stamp}
use Rattle.trace_book.specs.Same.{same_call}
use Rattle.tree_model.specs.declared.instance.Granted.{Granted}
use Rattle.tree_model.specs.Epochs.{members_of}
use Rattle.tree_model.specs.Folds.{Trace}
use Rattle.tree_model.specs.Histories.{history}
use Rattle.tree_model.specs.Opening as old
use Rattle.tree_model.specs.Packs.{sync_site}
use Rattle.tree_model.specs.Same.{same_version}
use Rattle.tree_model.specs.State as state
use Rattle.tree_model.specs.Tree.{tree_of}
use Rattle.tree_model.specs.Working.{list_of}
use Rattle.promises.specs.Past.{Past, CallSoFar, Copy, Make, epoch_at, is_number, sync_of, copies_in, held_in, kept_in}
use Rattle.promises.specs.Same.{same_list}
use Rattle.promises.specs.Tree as new
use Rattle.promises.specs.After.{is_id}
use Rattle.past_laws.specs.Agreement.{Agrees}
use Rattle.past_laws.proofs.Names.{number_eq, false_true, both, both_parts, none_some, some_same}
use Rattle.past_laws.proofs.RowsServed.{sync_as}
use Rattle.past_laws.proofs.TreesFolds.{config_is, group_is, members_are}
use Rattle.past_laws.proofs.TreesLists.{any_one, filter_same, filter_map, filter_one}
use Rattle.past_laws.proofs.TreesLists.{filter_all, any_reverse, length_map}
use Rattle.past_laws.proofs.TreesOpening.{place_is, resolving_is, kept_as}
use Rattle.past_laws.proofs.TreesPages.{versions_in, one_version, look_in, as_version}
use Rattle.past_laws.proofs.TreesSums.{Version, is_of, look, stamp_of}

-- Numbers in a range.

range_in : (first n x : ℕ) → first ≤ x → x < first + n → is_number (numbers_from first n) x ≡ true
range_in first zero x low high = absurd (omega arith)
range_in first (suc n) x low high = at (range_in (first + 1) n x) (first == x) refl
  where
    above : (first == x) ≡ false → first + 1 ≤ x
    above e = grind (arith, nat_tests)

    within : x < (first + 1) + n
    within = omega arith

    at : (first + 1 ≤ x → x < (first + 1) + n → is_number (numbers_from (first + 1) n) x ≡ true) → (b : Bool) → (first == x) ≡ b → (b || is_number (numbers_from (first + 1) n) x) ≡ true
    at later true e = refl
    at later false e = later (above e) within

range_above : (first n x : ℕ) → x < first → is_number (numbers_from first n) x ≡ false
range_above first zero x low = refl
range_above first (suc n) x low = at (range_above (first + 1) n x (omega arith)) (first == x) refl
  where
    apart : (b : Bool) → (first == x) ≡ b → b ≡ false
    apart false e = refl
    apart true e = absurd (omega (arith, number_eq first x e))

    at : is_number (numbers_from (first + 1) n) x ≡ false → (b : Bool) → (first == x) ≡ b → (b || is_number (numbers_from (first + 1) n) x) ≡ false
    at later b e = ap (λ y. y || is_number (numbers_from (first + 1) n) x) (apart b e) ∙ later

range_length : (first n : ℕ) → length (numbers_from first n) ≡ n
range_length first zero = refl
range_length first (suc n) = ap suc (range_length (first + 1) n)

-- How many numbers are in use.

split_filter : {X : Type 0} (q r : X → Bool) → ((x : X) → q x ≡ true → r x ≡ false) → (xs : List X) → length (filter (λ x. q x || r x) xs) ≡ length (filter q xs) + length (filter r xs)
split_filter q r apart [] = refl
split_filter {X} q r apart (x ∷ xs) = at (split_filter q r apart xs) (q x) (r x) refl refl
  where
    at : length (filter (λ x. q x || r x) xs) ≡ length (filter q xs) + length (filter r xs) → (a b : Bool) → q x ≡ a → r x ≡ b → length (cond (a || b) (x ∷ filter (λ x. q x || r x) xs) (filter (λ x. q x || r x) xs)) ≡ length (cond a (x ∷ filter q xs) (filter q xs)) + length (cond b (x ∷ filter r xs) (filter r xs))
    at later true true e f = false_true (sym (apart x e) ∙ f)
    at later true false e f = omega (arith, later)
    at later false true e f = omega (arith, later)
    at later false false e f = later

-- a number that is in use once is counted once
counted : (n : ℕ) (vs : List Copy) (group : ℕ) → length (filter (is_of n) (versions_in group vs)) ≤ 1 → length (filter (is_of n) (versions_in group vs)) ≡ length (cond (is_some (look (versions_in group vs) n)) (n ∷ []) [])
counted n vs group one = ap length (filter_one (is_of n) (versions_in group vs) one) ∙ at (find (is_of n) (versions_in group vs)) refl
  where
    some_stamp : (ws : List Copy) (v : Version) → find (is_of n) (map as_version ws) ≡ Some v → is_some v.stamp ≡ true
    some_stamp [] v e = none_some v e
    some_stamp (w ∷ ws) v e = over (some_stamp ws v) (w.file.ino == n) e
      where
        over : (find (is_of n) (map as_version ws) ≡ Some v → is_some v.stamp ≡ true) → (b : Bool) → cond b (Some (as_version w)) (find (is_of n) (map as_version ws)) ≡ Some v → is_some v.stamp ≡ true
        over later true k = ap (λ (x : Version). is_some x.stamp) (sym (some_same (as_version w) v k))
        over later false k = later k

    at : (o : Option Version) → find (is_of n) (versions_in group vs) ≡ o → length (list_of o) ≡ length (cond (is_some (stamp_of o)) (n ∷ []) [])
    at None e = refl
    at (Some v) e = sym (ap (λ b. length (cond b (n ∷ []) [])) (some_stamp (filter (λ (w : Copy). w.file.group == group) vs) v e))

count_range : (vs : List Copy) (group : ℕ) → ((n : ℕ) → length (filter (is_of n) (versions_in group vs)) ≤ 1) → (first n : ℕ) → length (filter (λ (v : Version). is_number (numbers_from first n) v.ino) (versions_in group vs)) ≡ length (filter (λ x. is_some (look (versions_in group vs) x)) (numbers_from first n))
count_range vs group one first zero = none (versions_in group vs)
  where
    none : (ws : List Version) → length (filter (λ (v : Version). false) ws) ≡ 0
    none [] = refl
    none (w ∷ ws) = none ws
count_range vs group one first (suc n) = ap length (filter_same (λ (v : Version). is_number (numbers_from first (suc n)) v.ino) (λ v. is_of first v || is_number (numbers_from (first + 1) n) v.ino) (λ v. ap (λ b. b || is_number (numbers_from (first + 1) n) v.ino) (turned first v.ino)) (versions_in group vs))
    ∙ (split_filter (is_of first) (λ (v : Version). is_number (numbers_from (first + 1) n) v.ino) (λ v h. range_above (first + 1) n v.ino (below v h)) (versions_in group vs)
    ∙ (ap (λ k. k + length (filter (λ (v : Version). is_number (numbers_from (first + 1) n) v.ino) (versions_in group vs))) (counted first vs group (one first))
    ∙ (ap (λ k. length (cond (is_some (look (versions_in group vs) first)) (first ∷ []) []) + k) (count_range vs group one (first + 1) n)
    ∙ at (is_some (look (versions_in group vs) first)))))
  where
    below : (v : Version) → is_of first v ≡ true → v.ino < first + 1
    below v h = omega (arith, number_eq v.ino first h)

    rest : List ℕ
    rest = filter (λ x. is_some (look (versions_in group vs) x)) (numbers_from (first + 1) n)

    at : (b : Bool) → length (cond b (first ∷ []) []) + length rest ≡ length (cond b (first ∷ rest) rest)
    at true = omega arith
    at false = omega arith

pub used_are : (c : Config) (before : Trace) (p : Past) → Agrees c before p → (e : EpochId) (group site : ℕ) → length (new.numbers_used p (epoch_at p e) group site) ≡ old.numbers_used (tree_of c e group before) site
used_are c before p a e group site = ap length (filter_same (λ (v : Copy). (v.file.group == group) && is_number (old.range_of site) v.file.ino) (λ (v : Copy). is_number (old.range_of site) v.file.ino && (v.file.group == group)) (λ v. flip (v.file.group == group) (is_number (old.range_of site) v.file.ino)) copies
    ∙ sym (filter_both (λ (v : Copy). is_number (old.range_of site) v.file.ino) (λ (v : Copy). v.file.group == group) copies))
    ∙ (sym (ap length (filter_map (λ (v : Version). is_number (old.range_of site) v.ino) as_version (filter (λ (v : Copy). v.file.group == group) copies)) ∙ length_map as_version (filter (λ (v : Copy). is_number (old.range_of site) v.file.ino) (filter (λ (v : Copy). v.file.group == group) copies)))
    ∙ (count_range copies group (λ n. one_version group n copies (a.trees.one_left e site (record { group = group; ino = n }))) (site_inodes * (site - 1) + 1) site_inodes
    ∙ ap length (filter_same (λ x. is_some (look (versions_in group copies) x)) (λ x. is_some (state.held_at (tree_of c e group before) site x)) (λ x. ap is_some (look_in group x copies ∙ a.trees.held e site (record { group = group; ino = x }))) (old.range_of site))))
  where
    copies : List Copy
    copies = copies_in p (epoch_at p e) site

    flip : (x y : Bool) → (x && y) ≡ (y && x)
    flip true true = refl
    flip true false = refl
    flip false true = refl
    flip false false = refl

-- Makes underway there.

pub at_site : (o : Option ℕ) (site : ℕ) → is_number (list_of o) site ≡ old.is_site o site
at_site None site = refl
at_site (Some s) site = at (s == site)
  where
    at : (b : Bool) → (b || false) ≡ b
    at true = refl
    at false = refl

pub makes_are : (c : Config) (before : Trace) (p : Past) → Agrees c before p → (e : EpochId) (group site : ℕ) → length (filter (new.is_underway_at c p (epoch_at p e) group site) (epoch_at p e).makes) ≡ length (old.makes_at (tree_of c e group before) site)
makes_are c before p a e group site = ap length (filter_all (λ (m : Make). list_any (is_id m.call) p.calls) (new.is_underway_at c p (epoch_at p e) group site) (λ (m : Make). old.is_site (old.making_site t m.call) site && (m.group == group)) same (epoch_at p e).makes (a.trees.making e)
    ∙ sym (filter_both (λ (m : Make). old.is_site (old.making_site t m.call) site) (λ (m : Make). m.group == group) (epoch_at p e).makes))
    ∙ (sym (length_map (λ (m : Make). m.call) (filter (λ (m : Make). old.is_site (old.making_site t m.call) site) (filter (λ (m : Make). m.group == group) (epoch_at p e).makes)))
    ∙ ap length (sym (filter_map (λ d. old.is_site (old.making_site t d) site) (λ (m : Make). m.call) (filter (λ (m : Make). m.group == group) (epoch_at p e).makes)) ∙ ap (filter (λ d. old.is_site (old.making_site t d) site)) (a.trees.makes e group)))
  where
    t : state.TreeState
    t = tree_of c e group before

    flip : (x y : Bool) → (x && y) ≡ (y && x)
    flip true true = refl
    flip true false = refl
    flip false true = refl
    flip false false = refl

    by_call : (m : Make) → list_any (is_id m.call) p.calls ≡ true → (o : Option CallSoFar) → find (is_id m.call) p.calls ≡ o → list_any (λ (k : CallSoFar). same_call k.id m.call && is_number (new.place_for c (epoch_at p e) group k) site) p.calls ≡ old.is_site (old.making_site t m.call) site
    by_call m h None f = false_true (sym (ap is_some f) ∙ (sym (any_found (is_id m.call) p.calls) ∙ h))
    by_call m h (Some k) f = any_one (is_id m.call) (λ (k : CallSoFar). is_number (new.place_for c (epoch_at p e) group k) site) p.calls k (a.calls.once m.call) f
        ∙ (ap (λ ys. is_number ys site) (place_is c before p a e group m.call k f) ∙ at_site (old.making_site t m.call) site)

    same : (m : Make) → list_any (is_id m.call) p.calls ≡ true → new.is_underway_at c p (epoch_at p e) group site m ≡ (old.is_site (old.making_site t m.call) site && (m.group == group))
    same m h = ap (λ b. (m.group == group) && b) (by_call m h (find (is_id m.call) p.calls) refl) ∙ flip (m.group == group) (old.is_site (old.making_site t m.call) site)

pub lacks_are : (c : Config) (before : Trace) (p : Past) → Agrees c before p → (e : EpochId) (group : ℕ) (o : Option ℕ) → list_any (new.lacks_numbers c p (epoch_at p e) group) (list_of o) ≡ old.lacks_numbers (tree_of c e group before) o
lacks_are c before p a e group None = refl
lacks_are c before p a e group (Some site) = or_false (new.lacks_numbers c p (epoch_at p e) group site)
    ∙ (ap (λ n. nat_le n (length (new.numbers_used p (epoch_at p e) group site) + length (filter (new.is_underway_at c p (epoch_at p e) group site) (epoch_at p e).makes))) (range_length (site_inodes * (site - 1) + 1) site_inodes)
    ∙ (ap (λ n. nat_le site_inodes (n + length (filter (new.is_underway_at c p (epoch_at p e) group site) (epoch_at p e).makes))) (used_are c before p a e group site)
    ∙ ap (λ n. nat_le site_inodes (old.numbers_used (tree_of c e group before) site + n)) (makes_are c before p a e group site)))
  where
    or_false : (b : Bool) → (b || false) ≡ b
    or_false true = refl
    or_false false = refl

-- Where an open is granted.

only_kept : (ss : List Stamp) (o : Option Stamp) → old.is_only ss o ≡ true → same_list same_stamp ss (list_of o) ≡ true
only_kept [] None h = false_true h
only_kept [] (Some s) h = false_true h
only_kept (x ∷ []) None h = false_true h
only_kept (x ∷ []) (Some s) h = both (same_stamp x s) true h refl
only_kept (x ∷ y ∷ ys) o h = false_true h

in_range : (site ino : ℕ) → old.is_given_by site ino ≡ true → (is_number (old.range_of site) ino ≡ true) × (nat_lt 1 ino ≡ true)
in_range site ino h = (range_in (site_inodes * (site - 1) + 1) site_inodes ino (omega (arith, low, high, one)) (omega (arith, high, low, one)), parts.1)
  where
    outer : (nat_lt (site_inodes * site) (ino + site_inodes) ≡ true) × ((nat_le ino (site_inodes * site) && nat_lt 1 ino) ≡ true)
    outer = both_parts (nat_lt (site_inodes * site) (ino + site_inodes)) (nat_le ino (site_inodes * site) && nat_lt 1 ino) h

    parts : (nat_le ino (site_inodes * site) ≡ true) × (nat_lt 1 ino ≡ true)
    parts = both_parts (nat_le ino (site_inodes * site)) (nat_lt 1 ino) outer.1

    low : site_inodes * site < ino + site_inodes
    low = ltb-true (site_inodes * site) (ino + site_inodes) outer.0

    high : ino ≤ site_inodes * site
    high = leb-true ino (site_inodes * site) parts.0

    one : 1 < ino
    one = ltb-true 1 ino parts.1

pub placed_so : (c : Config) (before : Trace) (p : Past) → Agrees c before p → (e : EpochId) (id : CallId) (k : CallSoFar) → find (is_id id) p.calls ≡ Some k → (m : Mode) (f : FileId) (stamp : Option Stamp) (ss : ℕ) → old.is_placed (history c before) (tree_of c e f.group before) id m f stamp ss ≡ true → new.is_placed c p (epoch_at p e) k m f stamp ss ≡ true
placed_so c before p a e id k found mode.Read f stamp ss h = (let parts : (old.is_only (state.kept_of (history c before) (tree_of c e f.group before) f) stamp ≡ true) × (same_version (state.held_at (tree_of c e f.group before) ss f.ino) stamp ≡ true) = both_parts (old.is_only (state.kept_of (history c before) (tree_of c e f.group before) f) stamp) (same_version (state.held_at (tree_of c e f.group before) ss f.ino) stamp) h
    in both (same_list same_stamp (kept_in p (epoch_at p e) f) (list_of stamp)) (same_version (held_in p (epoch_at p e) ss f) stamp) (ap (λ ss. same_list same_stamp ss (list_of stamp)) (kept_as c before p a e f) ∙ only_kept (state.kept_of (history c before) (tree_of c e f.group before) f) stamp parts.0) (ap (λ o. same_version o stamp) (a.trees.held e ss f) ∙ parts.1))
placed_so c before p a e id k found mode.Write f stamp ss h = (let parts : (old.is_only (state.kept_of (history c before) (tree_of c e f.group before) f) stamp ≡ true) × (same_version (state.held_at (tree_of c e f.group before) ss f.ino) stamp ≡ true) = both_parts (old.is_only (state.kept_of (history c before) (tree_of c e f.group before) f) stamp) (same_version (state.held_at (tree_of c e f.group before) ss f.ino) stamp) h
    in both (same_list same_stamp (kept_in p (epoch_at p e) f) (list_of stamp)) (same_version (held_in p (epoch_at p e) ss f) stamp) (ap (λ ss. same_list same_stamp ss (list_of stamp)) (kept_as c before p a e f) ∙ only_kept (state.kept_of (history c before) (tree_of c e f.group before) f) stamp parts.0) (ap (λ o. same_version o stamp) (a.trees.held e ss f) ∙ parts.1))
placed_so c before p a e id k found mode.Resolve f stamp ss h = (let parts : (old.is_site (old.resolving_site (tree_of c e f.group before) id) ss ≡ true) × (same_version (state.held_at (tree_of c e f.group before) ss f.ino) stamp ≡ true) = both_parts (old.is_site (old.resolving_site (tree_of c e f.group before) id) ss) (same_version (state.held_at (tree_of c e f.group before) ss f.ino) stamp) h
    in both (is_number (new.resolves_from k.words) ss) (same_version (held_in p (epoch_at p e) ss f) stamp) (ap (λ ys. is_number ys ss) (resolving_is c before p a e f.group id k found) ∙ (at_site (old.resolving_site (tree_of c e f.group before) id) ss ∙ parts.0)) (ap (λ o. same_version o stamp) (a.trees.held e ss f) ∙ parts.1))
placed_so c before p a e id k found mode.Mend f stamp ss h = (let parts : (old.is_site (sync_site t.config t.group t.members) ss ≡ true) × (same_version (state.held_at t ss f.ino) stamp ≡ true) = both_parts (old.is_site (sync_site t.config t.group t.members) ss) (same_version (state.held_at t ss f.ino) stamp) h
    in both (is_number (sync_of c (epoch_at p e) f.group) ss) (same_version (held_in p (epoch_at p e) ss f) stamp) (ap (λ ys. is_number ys ss) (sync_as c before p e f.group a) ∙ (at_site (sync_site c f.group (members_of before e)) ss ∙ (ap (λ o. old.is_site o ss) (sym (ap (λ d. sync_site d t.group t.members) (config_is c e f.group before) ∙ (ap (λ g. sync_site c g t.members) (group_is c e f.group before) ∙ ap (sync_site c f.group) (members_are c e f.group before)))) ∙ parts.0))) (ap (λ o. same_version o stamp) (a.trees.held e ss f) ∙ parts.1))
  where
    t : state.TreeState
    t = tree_of c e f.group before
placed_so c before p a e id k found mode.Make f stamp ss h = both (is_number (new.place_for c (epoch_at p e) f.group k) ss) (new.is_new_at p (epoch_at p e) f ss && is_none stamp) (ap (λ ys. is_number ys ss) (place_is c before p a e f.group id k found) ∙ (at_site (old.making_site t id) ss ∙ site.0))
    (both (new.is_new_at p (epoch_at p e) f ss) (is_none stamp) (both (is_number (old.range_of ss) f.ino) (nat_lt 1 f.ino && free) range.0 (both (nat_lt 1 f.ino) free range.1 (both (is_none (held_in p (epoch_at p e) ss f)) (not (list_any (λ (g : Granted). same_file g.file f) (epoch_at p e).granted)) (ap is_none (a.trees.held e ss f) ∙ free_parts.0)
    (ap not (sym (any_reverse (λ (g : Granted). same_file g.file f) (epoch_at p e).granted) ∙ ap (list_any (λ (g : Granted). same_file g.file f)) (a.trees.granted e f.group)) ∙ free_parts.1)))) outer.1)
  where
    t : state.TreeState
    t = tree_of c e f.group before

    free : Bool
    free = is_none (held_in p (epoch_at p e) ss f) && not (list_any (λ (g : Granted). same_file g.file f) (epoch_at p e).granted)

    outer : (old.is_new_file t id f ss ≡ true) × (is_none stamp ≡ true)
    outer = both_parts (old.is_new_file t id f ss) (is_none stamp) h

    site : (old.is_site (old.making_site t id) ss ≡ true) × ((old.is_given_by ss f.ino && (is_none (state.held_at t ss f.ino) && not (state.is_taken t f))) ≡ true)
    site = both_parts (old.is_site (old.making_site t id) ss) (old.is_given_by ss f.ino && (is_none (state.held_at t ss f.ino) && not (state.is_taken t f))) outer.0

    given : (old.is_given_by ss f.ino ≡ true) × ((is_none (state.held_at t ss f.ino) && not (state.is_taken t f)) ≡ true)
    given = both_parts (old.is_given_by ss f.ino) (is_none (state.held_at t ss f.ino) && not (state.is_taken t f)) site.1

    free_parts : (is_none (state.held_at t ss f.ino) ≡ true) × (not (state.is_taken t f) ≡ true)
    free_parts = both_parts (is_none (state.held_at t ss f.ino)) (not (state.is_taken t f)) given.1

    range : (is_number (old.range_of ss) f.ino ≡ true) × (nat_lt 1 f.ino ≡ true)
    range = in_range ss f.ino given.0
