-- What a table knows of a file once a version more is published is what the tree knows then.
use Rattle.std.proofs.Common.{◌≡◌, ℕ, ◌<◌, ◌==◌, nat_lt, Bool, true, false, ◌&&◌, ◌||◌, cond, List, [], ◌∷◌, filter, map, refl, sym, ◌∙◌, ap, subst, arith}
use Rattle.std.proofs.lemmas.Bool.Decides.{nat_tests}
use Rattle.std.specs.List.{AllByRecursion}
use Rattle.role_steps.proofs.of_plain_facts.Numbers.{equal, equal_self}
use Rattle.role_steps.proofs.of_plain_facts.Tests.{and_first, true_false}
use Rattle.locus_ids.specs.declared.ids.Brought.{Brought}
use Rattle.locus_ids.specs.declared.ids.Stamp.{Stamp}
use Rattle.commit_graph.specs.Versions.{is_stamp_below, same_stamp, with_stamp}
use Rattle.commit_graph.proofs.Names.{same_stamp_eq}
use Rattle.role_steps.specs.Own.{Every}
use Rattle.role_steps.specs.Tables.{with_row}
use Rattle.role_steps.specs.Versions.{version_key}
use Rattle.role_steps.specs.Views.{stamp_key}
use Rattle.role_steps.specs.declared.synchronizing.VersionRow.{VersionRow}
use Rattle.tree_model.specs.Same.{same_brought}
use Rattle.tree_model.specs.State.{is_brought_below, stamps_of, with_brought}
use Rattle.tree_laws.specs.Tables.{row_stamp}
use Rattle.store_laws.proofs.Holdings.OneVersionAscending.{Ascends}

-- ---- the tree's list ----

stamp_here : (b : Brought) (bs : List Brought) (ino : ℕ) → (b.ino == ino) ≡ true → stamps_of (b ∷ bs) ino ≡ b.stamp ∷ stamps_of bs ino
stamp_here b bs ino e = ap (λ (k : Bool). map (λ (x : Brought). x.stamp) (cond k (b ∷ filter (λ (x : Brought). x.ino == ino) bs) (filter (λ (x : Brought). x.ino == ino) bs))) e

stamp_elsewhere : (b : Brought) (bs : List Brought) (ino : ℕ) → (b.ino == ino) ≡ false → stamps_of (b ∷ bs) ino ≡ stamps_of bs ino
stamp_elsewhere b bs ino e = ap (λ (k : Bool). map (λ (x : Brought). x.stamp) (cond k (b ∷ filter (λ (x : Brought). x.ino == ino) bs) (filter (λ (x : Brought). x.ino == ino) bs))) e

-- what is above something of a greater inode is of a greater one
greater : (a b : Brought) → is_brought_below a b ≡ true → (ino : ℕ) → ino < a.ino → ino < b.ino
greater a b k ino low = over (nat_lt a.ino b.ino) refl k
  where
    over : (x : Bool) → nat_lt a.ino b.ino ≡ x → x || ((a.ino == b.ino) && is_stamp_below a.stamp b.stamp) ≡ true → ino < b.ino
    over true e h = more e
      where
        more : nat_lt a.ino b.ino ≡ true → ino < b.ino
        more q = grind (arith, nat_tests, low)
    over false e h = subst (λ (z : ℕ). ino < z) (equal a.ino b.ino (and_first (a.ino == b.ino) _ h)) low

none_greater : (ino : ℕ) (bs : List Brought) → AllByRecursion (λ (b : Brought). ino < b.ino) bs → stamps_of bs ino ≡ []
none_greater ino [] all = refl
none_greater ino (b ∷ bs) all = stamp_elsewhere b bs ino (apart b.ino ino all.0) ∙ none_greater ino bs all.1
  where
    apart : (m n : ℕ) → n < m → (m == n) ≡ false
    apart m n h = grind (arith, nat_tests)

all_greater : (ino : ℕ) (b : Brought) (bs : List Brought) → ino < b.ino → AllByRecursion (λ (d : Brought). is_brought_below b d ≡ true) bs → AllByRecursion (λ (d : Brought). ino < d.ino) bs
all_greater ino b [] low all = tt
all_greater ino b (d ∷ bs) low all = (greater b d all.0 ino low, all_greater ino b bs low all.1)

with_below : (s : Stamp) (t : Stamp) (ts : List Stamp) → is_stamp_below s t ≡ true → with_stamp s (t ∷ ts) ≡ s ∷ t ∷ ts
with_below s t ts e = ap (λ (k : Bool). cond k (s ∷ t ∷ ts) (cond (same_stamp s t) (t ∷ ts) (t ∷ with_stamp s ts))) e

-- the stamps of the inode of what is put are those with its stamp at its place
pub brought_stamps : (new : Brought) (bs : List Brought) → Ascends bs → stamps_of (with_brought new bs) new.ino ≡ with_stamp new.stamp (stamps_of bs new.ino)
brought_stamps new [] k = stamp_here new [] new.ino (equal_self new.ino)
brought_stamps new (b ∷ bs) k = at (is_brought_below new b) refl (same_brought new b) refl (brought_stamps new bs k.1)
  where
    Goal : List Brought → Type 0
    Goal xs = stamps_of xs new.ino ≡ with_stamp new.stamp (stamps_of (b ∷ bs) new.ino)

    same_ino : (b.ino == new.ino) ≡ true → new.ino ≡ b.ino
    same_ino e = sym (equal b.ino new.ino e)

    -- below, of the same inode: by the stamps
    stamp_low : (b.ino == new.ino) ≡ true → is_brought_below new b ≡ true → is_stamp_below new.stamp b.stamp ≡ true
    stamp_low e h = over (nat_lt new.ino b.ino) refl h
      where
        never : new.ino ≡ b.ino → nat_lt new.ino b.ino ≡ false
        never q = grind (arith, nat_tests, q)

        over : (x : Bool) → nat_lt new.ino b.ino ≡ x → x || ((new.ino == b.ino) && is_stamp_below new.stamp b.stamp) ≡ true → is_stamp_below new.stamp b.stamp ≡ true
        over true q h = absurd (true_false (sym q ∙ never (same_ino e)))
        over false q h = second (new.ino == b.ino) (is_stamp_below new.stamp b.stamp) h
          where
            second : (a d : Bool) → a && d ≡ true → d ≡ true
            second true d h = h
            second false d h = absurd (true_false (sym h))

    inode_low : (b.ino == new.ino) ≡ false → is_brought_below new b ≡ true → new.ino < b.ino
    inode_low e h = over (nat_lt new.ino b.ino) refl h
      where
        low : nat_lt new.ino b.ino ≡ true → new.ino < b.ino
        low q = grind (arith, nat_tests, q)

        over : (x : Bool) → nat_lt new.ino b.ino ≡ x → x || ((new.ino == b.ino) && is_stamp_below new.stamp b.stamp) ≡ true → new.ino < b.ino
        over true q h = low q
        over false q h = absurd (true_false (sym (subst (λ (z : ℕ). (z == new.ino) ≡ true) (equal new.ino b.ino (and_first (new.ino == b.ino) _ h)) (equal_self new.ino)) ∙ e))

    first : is_brought_below new b ≡ true → (x : Bool) → (b.ino == new.ino) ≡ x → Goal (new ∷ b ∷ bs)
    first h true e = stamp_here new (b ∷ bs) new.ino (equal_self new.ino) ∙ (ap (λ (ts : List Stamp). new.stamp ∷ ts) (stamp_here b bs new.ino e)
        ∙ (sym (with_below new.stamp b.stamp (stamps_of bs new.ino) (stamp_low e h)) ∙ ap (with_stamp new.stamp) (sym (stamp_here b bs new.ino e))))
    first h false e = stamp_here new (b ∷ bs) new.ino (equal_self new.ino) ∙ (ap (λ (ts : List Stamp). new.stamp ∷ ts) none ∙ ap (with_stamp new.stamp) (sym none))
      where
        none : stamps_of (b ∷ bs) new.ino ≡ []
        none = none_greater new.ino (b ∷ bs) (inode_low e h, all_greater new.ino b bs (inode_low e h) k.0)

    both : (a d : Bool) → a ≡ true → d ≡ true → a && d ≡ true
    both true d p q = q
    both false d p q = absurd (true_false (sym p))

    -- not below, of the same inode: not below by the stamps
    stamp_not : (b.ino == new.ino) ≡ true → is_brought_below new b ≡ false → (x : Bool) → is_stamp_below new.stamp b.stamp ≡ x → is_stamp_below new.stamp b.stamp ≡ false
    stamp_not e h false q = q
    stamp_not e h true q = absurd (true_false (sym (later (nat_lt new.ino b.ino) _ (both (new.ino == b.ino) (is_stamp_below new.stamp b.stamp) (subst (λ (z : ℕ). (new.ino == z) ≡ true) (same_ino e) (equal_self new.ino)) q)) ∙ h))
      where
        later : (a d : Bool) → d ≡ true → a || d ≡ true
        later true d p = refl
        later false d p = p

    same_of : same_brought new b ≡ true → (b.ino == new.ino) ≡ true
    same_of h = subst (λ (z : ℕ). (z == new.ino) ≡ true) (equal new.ino b.ino (and_first (new.ino == b.ino) _ h)) (equal_self new.ino)

    second : is_brought_below new b ≡ false → same_brought new b ≡ true → Goal (b ∷ bs)
    second h s = stamp_here b bs new.ino (same_of s) ∙ (sym (ap (λ (x : Bool). cond x (new.stamp ∷ b.stamp ∷ stamps_of bs new.ino) (cond (same_stamp new.stamp b.stamp) (b.stamp ∷ stamps_of bs new.ino) (b.stamp ∷ with_stamp new.stamp (stamps_of bs new.ino)))) (stamp_not (same_of s) h (is_stamp_below new.stamp b.stamp) refl)
        ∙ ap (λ (x : Bool). cond x (b.stamp ∷ stamps_of bs new.ino) (b.stamp ∷ with_stamp new.stamp (stamps_of bs new.ino))) (stamps_same s)) ∙ ap (with_stamp new.stamp) (sym (stamp_here b bs new.ino (same_of s))))
      where
        stamps_same : same_brought new b ≡ true → same_stamp new.stamp b.stamp ≡ true
        stamps_same h = over (new.ino == b.ino) h
          where
            over : (a : Bool) → a && same_stamp new.stamp b.stamp ≡ true → same_stamp new.stamp b.stamp ≡ true
            over true h = h
            over false h = absurd (true_false (sym h))

    -- another stamp of the inode
    stamp_other : (b.ino == new.ino) ≡ true → same_brought new b ≡ false → same_stamp new.stamp b.stamp ≡ false
    stamp_other e h = over (same_stamp new.stamp b.stamp) refl
      where
        over : (x : Bool) → same_stamp new.stamp b.stamp ≡ x → same_stamp new.stamp b.stamp ≡ false
        over false q = q
        over true q = absurd (true_false (sym (both (new.ino == b.ino) (same_stamp new.stamp b.stamp) (subst (λ (z : ℕ). (new.ino == z) ≡ true) (same_ino e) (equal_self new.ino)) q) ∙ h))

    third : is_brought_below new b ≡ false → same_brought new b ≡ false → (x : Bool) → (b.ino == new.ino) ≡ x → stamps_of (with_brought new bs) new.ino ≡ with_stamp new.stamp (stamps_of bs new.ino) → Goal (b ∷ with_brought new bs)
    third h s true e later = stamp_here b (with_brought new bs) new.ino e ∙ (ap (λ (ts : List Stamp). b.stamp ∷ ts) later
        ∙ (sym (ap (λ (x : Bool). cond x (new.stamp ∷ b.stamp ∷ stamps_of bs new.ino) (cond (same_stamp new.stamp b.stamp) (b.stamp ∷ stamps_of bs new.ino) (b.stamp ∷ with_stamp new.stamp (stamps_of bs new.ino)))) (stamp_not e h (is_stamp_below new.stamp b.stamp) refl)
        ∙ ap (λ (x : Bool). cond x (b.stamp ∷ stamps_of bs new.ino) (b.stamp ∷ with_stamp new.stamp (stamps_of bs new.ino))) (stamp_other e s)) ∙ ap (with_stamp new.stamp) (sym (stamp_here b bs new.ino e))))
    third h s false e later = stamp_elsewhere b (with_brought new bs) new.ino e ∙ (later ∙ ap (with_stamp new.stamp) (sym (stamp_elsewhere b bs new.ino e)))

    at : (x : Bool) → is_brought_below new b ≡ x → (y : Bool) → same_brought new b ≡ y → stamps_of (with_brought new bs) new.ino ≡ with_stamp new.stamp (stamps_of bs new.ino) → Goal (cond x (new ∷ b ∷ bs) (cond y (b ∷ bs) (b ∷ with_brought new bs)))
    at true h y s later = first h (b.ino == new.ino) refl
    at false h true s later = second h s
    at false h false s later = third h s (b.ino == new.ino) refl later

-- ---- the table's list ----

-- where numbers have 32 bits, keys stand as stamps do
module _ (s t : Stamp) (low : s.n < 4294967296) (small : t.n < 4294967296) where
  key_below : is_stamp_below s t ≡ nat_lt (stamp_key s) (stamp_key t)
  key_below = grind (arith, nat_tests, low, small)

  key_same : same_stamp s t ≡ (stamp_key t == stamp_key s)
  key_same = grind (arith, nat_tests, low, small)

pub row_stamps : (v : VersionRow) (vs : List VersionRow) → v.stamp.n < 4294967296 → Every (λ (w : VersionRow). w.stamp.n < 4294967296) vs → map row_stamp (with_row version_key v vs) ≡ with_stamp v.stamp (map row_stamp vs)
row_stamps v [] low k = refl
row_stamps v (w ∷ ws) low k = at (nat_lt (version_key w) (version_key v)) refl (version_key w == version_key v) refl (row_stamps v ws low k.1)
  where
    Rows : Bool → Bool → List VersionRow
    Rows a b = elim a as (λ (z : Bool). List VersionRow) [ true ↦ w ∷ with_row version_key v ws | false ↦ elim b as (λ (z : Bool). List VersionRow) [ true ↦ v ∷ ws | false ↦ v ∷ w ∷ ws ] ]

    Stamps : Bool → Bool → List Stamp
    Stamps a b = cond a (v.stamp ∷ w.stamp ∷ map row_stamp ws) (cond b (w.stamp ∷ map row_stamp ws) (w.stamp ∷ with_stamp v.stamp (map row_stamp ws)))

    by_keys : with_stamp v.stamp (map row_stamp (w ∷ ws)) ≡ Stamps (nat_lt (version_key v) (version_key w)) (version_key w == version_key v)
    by_keys = ap (λ (x : Bool). Stamps x (same_stamp v.stamp w.stamp)) (key_below v.stamp w.stamp low k.0) ∙ ap (λ (x : Bool). Stamps (nat_lt (version_key v) (version_key w)) x) (key_same v.stamp w.stamp low k.0)

    not_above : (a b : ℕ) → nat_lt a b ≡ true → nat_lt b a ≡ false
    not_above a b h = grind (arith, nat_tests, h)

    not_same : (a b : ℕ) → nat_lt a b ≡ true → (a == b) ≡ false
    not_same a b h = grind (arith, nat_tests, h)

    same_not_below : (a b : ℕ) → (a == b) ≡ true → nat_lt b a ≡ false
    same_not_below a b h = grind (arith, nat_tests, h)

    else_below : (a b : ℕ) → nat_lt a b ≡ false → (a == b) ≡ false → nat_lt b a ≡ true
    else_below a b h e = grind (arith, nat_tests, h, e)

    stamp_is : (version_key w == version_key v) ≡ true → v.stamp ≡ w.stamp
    stamp_is e = same_stamp_is (key_same v.stamp w.stamp low k.0 ∙ e)
      where
        same_stamp_is : same_stamp v.stamp w.stamp ≡ true → v.stamp ≡ w.stamp
        same_stamp_is q = same_stamp_eq v.stamp w.stamp q

    at : (a : Bool) → nat_lt (version_key w) (version_key v) ≡ a → (b : Bool) → (version_key w == version_key v) ≡ b → map row_stamp (with_row version_key v ws) ≡ with_stamp v.stamp (map row_stamp ws) → map row_stamp (Rows a b) ≡ with_stamp v.stamp (map row_stamp (w ∷ ws))
    at true h b e later = ap (λ (ts : List Stamp). w.stamp ∷ ts) later
        ∙ sym (by_keys ∙ (ap (λ (x : Bool). Stamps x (version_key w == version_key v)) (not_above (version_key w) (version_key v) h) ∙ ap (λ (x : Bool). Stamps false x) (not_same (version_key w) (version_key v) h)))
    at false h true e later = ap (λ (s : Stamp). s ∷ map row_stamp ws) (stamp_is e)
        ∙ sym (by_keys ∙ (ap (λ (x : Bool). Stamps x (version_key w == version_key v)) (same_not_below (version_key w) (version_key v) e) ∙ ap (λ (x : Bool). Stamps false x) e))
    at false h false e later = sym (by_keys ∙ ap (λ (x : Bool). Stamps x (version_key w == version_key v)) (else_below (version_key w) (version_key v) h e))
