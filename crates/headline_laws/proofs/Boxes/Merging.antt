-- What a merge of directories does to the messages in them: what either has it has, what was taken out of either is out, and none lives again.
use Rattle.std.proofs.Common.{◌≡◌, ℕ, ◌≤◌, max, Bool, true, false, not, ◌&&◌, ◌||◌, cond, List, [], ◌∷◌, map, refl, sym, ◌∙◌, ap, arith}
use Rattle.std.proofs.lemmas.Bool.Decides.{nat_tests}
use Rattle.std.proofs.lemmas.Slice.Eq.{bytes_eq-Decides}
use Rattle.std.specs.List.{AllByRecursion, list_any}
use Rattle.std.specs.Ordering.{nat_cmp}
use Rattle.std.specs.Str.{bytes_eq}
use Rattle.std.specs.declared.cmp.Ordering.{Ordering}
use Rattle.std.specs.declared.cmp.Ordering.TheVariants.{Less, Equal, Greater}
use Rattle.plain_facts.proofs.Numbers.{equal_test}
use Rattle.plain_facts.proofs.Tests.{and_false, false_unless, true_false}
use Rattle.trace_book.specs.Messages.{is_message}
use Rattle.version_vector.specs.Counters.{AllLe, joined}
use Rattle.version_vector.proofs.Counting.{AllLe-joined_left, AllLe-joined_right, AllLe-same, AllLe-through}
use Rattle.dir_format.specs.declared.entry.Entry.{Entry}
use Rattle.dir_format.specs.Entries.{is_live, nothing_seen}
use Rattle.dir_reconcile.specs.Joins.{joined_by, joined_dirs, joined_entry}
use Rattle.dir_reconcile.specs.Rescues.{all_seen, chosen, entry_after_rescue, has_live, is_of, is_that, is_to_rescue, is_unseen, rescued, revived, seen_from, seen_with, wants_rescue}
use Rattle.dir_reconcile.specs.declared.kept.KeptVector.{KeptVector}
use Rattle.dir_reconcile.proofs.Directories.{all_joined}
use Rattle.headline_laws.proofs.Boxes.Boxing.{Box, Good, GoodIfMessage, rank}
use Rattle.headline_laws.proofs.Boxes.Levels.{level, level_joined, share}

-- ---- what removals saw ----

seen_more : (ino : ℕ) (v : List ℕ) (d : Entry) (b : Bool) → is_of ino d ≡ b → AllLe v (cond b (joined v d.seen) v) × (d.ino ≡ ino → AllLe d.seen (cond b (joined v d.seen) v))
seen_more ino v d true e = (AllLe-joined_left v d.seen, λ is. AllLe-joined_right v d.seen)
seen_more ino v d false e = (AllLe-same v, λ is. absurd (true_false (sym (equal_test d.ino ino is) ∙ e)))

abbrev CoversAll : ℕ → List ℕ → List Entry → Type 0
CoversAll ino seen ds = AllByRecursion (λ (d : Entry). d.ino ≡ ino → AllLe d.seen seen) ds

seen_all : (ino : ℕ) (v : List ℕ) (ds : List Entry) → AllLe v (seen_from ino v ds) × CoversAll ino (seen_from ino v ds) ds
seen_all ino v [] = (AllLe-same v, tt)
seen_all ino v (d ∷ ds) = over (seen_more ino v d (is_of ino d) refl) (seen_all ino (seen_with ino v d) ds)
  where
    over : AllLe v (seen_with ino v d) × (d.ino ≡ ino → AllLe d.seen (seen_with ino v d)) → AllLe (seen_with ino v d) (seen_from ino (seen_with ino v d) ds) × CoversAll ino (seen_from ino (seen_with ino v d) ds) ds →
        AllLe v (seen_from ino (seen_with ino v d) ds) × CoversAll ino (seen_from ino (seen_with ino v d) ds) (d ∷ ds)
    over now rest = (AllLe-through v (seen_with ino v d) (seen_from ino (seen_with ino v d) ds) now.0 rest.0, ((λ is. AllLe-through d.seen (seen_with ino v d) (seen_from ino (seen_with ino v d) ds) (now.1 is) rest.0), rest.1))

-- ---- joins ----

rank_max : (a b s t : Bool) → max (rank a b) (rank s t) ≡ rank (a || s) (b || t)
rank_max true true true true = refl
rank_max true true true false = refl
rank_max true true false true = refl
rank_max true true false false = refl
rank_max true false true true = refl
rank_max true false true false = refl
rank_max true false false true = refl
rank_max true false false false = refl
rank_max false true true true = refl
rank_max false true true false = refl
rank_max false true false true = refl
rank_max false true false false = refl
rank_max false false true true = refl
rank_max false false true false = refl
rank_max false false false true = refl
rank_max false false false false = refl

module _ (Put : List ℕ → ℕ → Type 0) (Saw : ℕ → List ℕ → Type 0) where
  -- an empty directory has none
  pub nothing_box : Box Put Saw (λ n. false) (λ n. false) []
  nothing_box = record { each = tt; levels = λ n m. refl }

  module _ (wider : (ino : ℕ) (a b : List ℕ) → Saw ino a → Saw ino (joined a b)) where
    joined_good : (x y : Entry) → GoodIfMessage Put Saw x → GoodIfMessage Put Saw y → GoodIfMessage Put Saw (joined_entry x y)
    joined_good x y g k = over (nat_cmp x.count y.count)
      where
        over : (o : Ordering) → GoodIfMessage Put Saw (joined_by o x y)
        over Less = k
        over Equal = λ m. record { put = (g m).put; some = (g m).some; few = (g m).few; saw = λ e. wider x.ino x.seen y.seen ((g m).saw e) }
        over Greater = g

    pub joined_box : (p q s t : List ℕ → Bool) (xs ys : List Entry) → Box Put Saw p q xs → Box Put Saw s t ys → Box Put Saw (λ n. p n || s n) (λ n. q n || t n) (joined_dirs xs ys)
    joined_box p q s t xs ys a b = record {
      each = all_joined (GoodIfMessage Put Saw) joined_good xs ys a.each b.each;
      levels = λ n m. level_joined n xs ys ∙ (ap (λ (l : ℕ). max l (level ys n)) (a.levels n m) ∙ (ap (λ (l : ℕ). max (rank (p n) (q n)) l) (b.levels n m) ∙ rank_max (p n) (q n) (s n) (t n)));
    }

  -- ---- rescues ----

  -- no kept version of a message's file is unseen by who took it out
  module _ (ds : List Entry) (kept : List KeptVector) (covers : (ino : ℕ) (seen more : List ℕ) → Saw ino seen → AllLe seen more → list_any (is_unseen ino more) kept ≡ false) where
    -- none of a message's is to live again
    message_stays : (d : Entry) → AllLe d.seen (all_seen d.ino ds) → Good Put Saw d → is_to_rescue ds kept d ≡ false
    message_stays d le good = over (is_live d) refl
      where
        twice : is_live d ≡ false → d.count ≡ 2
        twice e = let some : 1 ≤ d.count = good.some in let few : d.count ≤ 2 = good.few in grind (arith, nat_tests)

        over : (b : Bool) → is_live d ≡ b → is_to_rescue ds kept d ≡ false
        over true e = ap (λ (b : Bool). not b && (wants_rescue ds kept d.ino && is_that (chosen d.ino ds) d)) e
        over false e = ap (λ (b : Bool). not (is_live d) && ((not (has_live d.ino ds) && b) && is_that (chosen d.ino ds) d)) (covers d.ino d.seen (all_seen d.ino ds) (good.saw (twice e)) le)
            ∙ (ap (λ (b : Bool). not (is_live d) && (b && is_that (chosen d.ino ds) d)) (and_false (not (has_live d.ino ds))) ∙ and_false (not (is_live d)))

    after_name : (d : Entry) (b : Bool) → (cond b (revived d) d).name ≡ d.name
    after_name d true = refl
    after_name d false = refl

    abbrev Stays : Entry → Type 0
    Stays d = is_message d.name ≡ true → is_to_rescue ds kept d ≡ false

    each_stays : (xs : List Entry) → AllByRecursion (λ (d : Entry). AllLe d.seen (all_seen d.ino ds)) xs → AllByRecursion (GoodIfMessage Put Saw) xs → AllByRecursion Stays xs
    each_stays [] l g = tt
    each_stays (x ∷ xs) l g = ((λ m. message_stays x l.0 (g.0 m)), each_stays xs l.1 g.1)

    each_good : (xs : List Entry) → AllByRecursion Stays xs → AllByRecursion (GoodIfMessage Put Saw) xs → AllByRecursion (GoodIfMessage Put Saw) (map (entry_after_rescue ds kept) xs)
    each_good [] s g = tt
    each_good (x ∷ xs) s g = (over (is_to_rescue ds kept x) refl, each_good xs s.1 g.1)
      where
        over : (b : Bool) → is_to_rescue ds kept x ≡ b → GoodIfMessage Put Saw (cond b (revived x) x)
        over true e = λ m. absurd (true_false (sym e ∙ s.0 m))
        over false e = g.0

    level_stays : (n : List ℕ) → is_message n ≡ true → (xs : List Entry) → AllByRecursion Stays xs → level (map (entry_after_rescue ds kept) xs) n ≡ level xs n
    level_stays n m [] s = refl
    level_stays n m (x ∷ xs) s = ap (λ (k : ℕ). max k (level (map (entry_after_rescue ds kept) xs) n)) (over (is_to_rescue ds kept x) refl) ∙ ap (λ (l : ℕ). max (share x n) l) (level_stays n m xs s.1)
      where
        apart : is_to_rescue ds kept x ≡ true → bytes_eq x.name n ≡ false
        apart e = false_unless (bytes_eq x.name n) (λ k. true_false (sym e ∙ s.0 (ap is_message ((bytes_eq-Decides x.name n).0 k) ∙ m)))

        over : (b : Bool) → is_to_rescue ds kept x ≡ b → share (cond b (revived x) x) n ≡ share x n
        over true e = ap (λ (c : Bool). cond c (revived x).count 0) (apart e) ∙ sym (ap (λ (c : Bool). cond c x.count 0) (apart e))
        over false e = refl

    all_covered : (xs : List Entry) → ((ino : ℕ) → CoversAll ino (all_seen ino ds) xs) → AllByRecursion (λ (d : Entry). AllLe d.seen (all_seen d.ino ds)) xs
    all_covered [] k = tt
    all_covered (x ∷ xs) k = ((k x.ino).0 refl, all_covered xs (λ i. (k i).1))

    pub rescued_box : (p q : List ℕ → Bool) → Box Put Saw p q ds → Box Put Saw p q (rescued ds kept)
    rescued_box p q box = record { each = each_good ds stay box.each; levels = λ n m. level_stays n m ds stay ∙ box.levels n m }
      where
        stay : AllByRecursion Stays ds
        stay = each_stays ds (all_covered ds (λ i. (seen_all i nothing_seen ds).1)) box.each
