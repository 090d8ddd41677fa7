-- What a tree knows ascends, so each version stands in it once.
use Rattle.std.proofs.Common.{◌≡◌, ℕ, ◌==◌, ◌<◌, Bool, true, false, ◌&&◌, ◌||◌, cond, nat_lt, List, [], ◌∷◌, filter, map, Option, Some, None, refl, sym, ap, ◌∙◌, subst, arith, ◌⊎◌, inl, inr}
use Rattle.std.proofs.lemmas.Bool.Decides.{nat_tests}
use Rattle.std.specs.List.{AllByRecursion}
use Rattle.tree_laws.proofs.of_plain_facts.Numbers.{equal, equal_test, less, less_test}
use Rattle.tree_laws.proofs.of_plain_facts.Tests.{and_first, and_second, and_true, or_either, or_first, or_second, true_false}
use Rattle.locus_ids.specs.declared.config.Config.{Config}
use Rattle.locus_ids.specs.declared.ids.Brought.{Brought}
use Rattle.locus_ids.specs.declared.ids.EpochId.{EpochId}
use Rattle.locus_ids.specs.declared.ids.FileId.{FileId}
use Rattle.locus_ids.specs.declared.ids.Stamp.{Stamp}
use Rattle.commit_graph.specs.declared.history.Version.{Version}
use Rattle.commit_graph.specs.Versions.{is_stamp_below, same_stamp}
use Rattle.trace_book.specs.Same.{same_epoch}
use Rattle.trace_book.specs.declared.record.Record.{Record}
use Rattle.trace_book.specs.declared.record.Record.TheVariants as says
use Rattle.tree_model.specs.declared.copy.HeldCopy.{HeldCopy}
use Rattle.tree_model.specs.Folds.{Trace}
use Rattle.tree_model.specs.Histories.{history}
use Rattle.tree_model.specs.Packs.{has_pack}
use Rattle.tree_model.specs.Same.{same_brought}
use Rattle.tree_model.specs.State.{TreeState, is_brought_below, is_granted_here, is_make, stamps_of, with_all, with_brought}
use Rattle.tree_model.specs.Tree.{acted, grant_of, granted, joined, left, next, published, released, tree_of, with_root, without_make}
use Rattle.tree_laws.proofs.Orders.Lists.{all_then}
use Rattle.tree_laws.proofs.Orders.Standing.{same_stamp_eq}

-- ---- order ----

-- below by inode, then site, then number
record Below (a b : Brought) : Type 0 where
  ino : (a.ino < b.ino) ⊎ ((a.ino ≡ b.ino) × ((a.stamp.site < b.stamp.site) ⊎ ((a.stamp.site ≡ b.stamp.site) × (a.stamp.n < b.stamp.n))))

below_is : (a b : Brought) → is_brought_below a b ≡ true → Below a b
below_is a b k = record { ino = outer (or_either (nat_lt a.ino b.ino) _ k) }
  where
    inner : (nat_lt a.stamp.site b.stamp.site ≡ true) ⊎ ((a.stamp.site == b.stamp.site) && nat_lt a.stamp.n b.stamp.n ≡ true) → (a.stamp.site < b.stamp.site) ⊎ ((a.stamp.site ≡ b.stamp.site) × (a.stamp.n < b.stamp.n))
    inner (inl e) = inl (less a.stamp.site b.stamp.site e)
    inner (inr e) = inr (equal a.stamp.site b.stamp.site (and_first (a.stamp.site == b.stamp.site) _ e), less a.stamp.n b.stamp.n (and_second (a.stamp.site == b.stamp.site) _ e))

    outer : (nat_lt a.ino b.ino ≡ true) ⊎ ((a.ino == b.ino) && is_stamp_below a.stamp b.stamp ≡ true) → (a.ino < b.ino) ⊎ ((a.ino ≡ b.ino) × ((a.stamp.site < b.stamp.site) ⊎ ((a.stamp.site ≡ b.stamp.site) × (a.stamp.n < b.stamp.n))))
    outer (inl e) = inl (less a.ino b.ino e)
    outer (inr e) = inr (equal a.ino b.ino (and_first (a.ino == b.ino) _ e), inner (or_either (nat_lt a.stamp.site b.stamp.site) _ (and_second (a.ino == b.ino) _ e)))

is_below : (a b : Brought) → Below a b → is_brought_below a b ≡ true
is_below a b k = outer k.ino
  where
    inner : (a.stamp.site < b.stamp.site) ⊎ ((a.stamp.site ≡ b.stamp.site) × (a.stamp.n < b.stamp.n)) → is_stamp_below a.stamp b.stamp ≡ true
    inner (inl e) = or_first (nat_lt a.stamp.site b.stamp.site) _ (less_test a.stamp.site b.stamp.site e)
    inner (inr e) = or_second (nat_lt a.stamp.site b.stamp.site) _ (and_true (a.stamp.site == b.stamp.site) (nat_lt a.stamp.n b.stamp.n) (equal_test a.stamp.site b.stamp.site e.0) (less_test a.stamp.n b.stamp.n e.1))

    outer : (a.ino < b.ino) ⊎ ((a.ino ≡ b.ino) × ((a.stamp.site < b.stamp.site) ⊎ ((a.stamp.site ≡ b.stamp.site) × (a.stamp.n < b.stamp.n)))) → is_brought_below a b ≡ true
    outer (inl e) = or_first (nat_lt a.ino b.ino) _ (less_test a.ino b.ino e)
    outer (inr e) = or_second (nat_lt a.ino b.ino) _ (and_true (a.ino == b.ino) (is_stamp_below a.stamp b.stamp) (equal_test a.ino b.ino e.0) (inner e.1))

through : (a b d : Brought) → Below a b → Below b d → Below a d
through a b d k l = record { ino = outer k.ino l.ino }
  where
    inner : (x y z : Stamp) → (x.site < y.site) ⊎ ((x.site ≡ y.site) × (x.n < y.n)) → (y.site < z.site) ⊎ ((y.site ≡ z.site) × (y.n < z.n)) → (x.site < z.site) ⊎ ((x.site ≡ z.site) × (x.n < z.n))
    inner x y z (inl p) (inl q) = inl (omega (arith, p, q))
    inner x y z (inl p) (inr q) = inl (subst (λ (n : ℕ). x.site < n) q.0 p)
    inner x y z (inr p) (inl q) = inl (subst (λ (n : ℕ). n < z.site) (sym p.0) q)
    inner x y z (inr p) (inr q) = inr (p.0 ∙ q.0, omega (arith, p.1, q.1))

    outer : (a.ino < b.ino) ⊎ ((a.ino ≡ b.ino) × ((a.stamp.site < b.stamp.site) ⊎ ((a.stamp.site ≡ b.stamp.site) × (a.stamp.n < b.stamp.n)))) → (b.ino < d.ino) ⊎ ((b.ino ≡ d.ino) × ((b.stamp.site < d.stamp.site) ⊎ ((b.stamp.site ≡ d.stamp.site) × (b.stamp.n < d.stamp.n)))) →
        (a.ino < d.ino) ⊎ ((a.ino ≡ d.ino) × ((a.stamp.site < d.stamp.site) ⊎ ((a.stamp.site ≡ d.stamp.site) × (a.stamp.n < d.stamp.n))))
    outer (inl p) (inl q) = inl (omega (arith, p, q))
    outer (inl p) (inr q) = inl (subst (λ (n : ℕ). a.ino < n) q.0 p)
    outer (inr p) (inl q) = inl (subst (λ (n : ℕ). n < d.ino) (sym p.0) q)
    outer (inr p) (inr q) = inr (p.0 ∙ q.0, inner a.stamp b.stamp d.stamp p.1 q.1)

-- one is below the other, or they are the same
order : (m n : ℕ) → (m < n) ⊎ ((n < m) ⊎ (m ≡ n))
order m n = at (nat_lt m n) (nat_lt n m) refl refl
  where
    same : (m n : ℕ) → nat_lt m n ≡ false → nat_lt n m ≡ false → m ≡ n
    same m n p q = grind (arith, nat_tests)

    at : (a b : Bool) → nat_lt m n ≡ a → nat_lt n m ≡ b → (m < n) ⊎ ((n < m) ⊎ (m ≡ n))
    at true b p q = inl (less m n p)
    at false true p q = inr (inl (less n m q))
    at false false p q = inr (inr (same m n p q))

either_below : (a b : Brought) → is_brought_below a b ≡ false → same_brought a b ≡ false → is_brought_below b a ≡ true
either_below a b p q = outer (order a.ino b.ino)
  where
    numbers : a.ino ≡ b.ino → a.stamp.site ≡ b.stamp.site → (a.stamp.n < b.stamp.n) ⊎ ((b.stamp.n < a.stamp.n) ⊎ (a.stamp.n ≡ b.stamp.n)) → is_brought_below b a ≡ true
    numbers e f (inl k) = absurd (true_false (sym (is_below a b (record { ino = inr (e, inr (f, k)) })) ∙ p))
    numbers e f (inr (inl k)) = is_below b a (record { ino = inr (sym e, inr (sym f, k)) })
    numbers e f (inr (inr k)) = absurd (true_false (sym (and_true (a.ino == b.ino) (same_stamp a.stamp b.stamp) (equal_test a.ino b.ino e) (and_true (a.stamp.site == b.stamp.site) (a.stamp.n == b.stamp.n) (equal_test a.stamp.site b.stamp.site f) (equal_test a.stamp.n b.stamp.n k))) ∙ q))

    sites : a.ino ≡ b.ino → (a.stamp.site < b.stamp.site) ⊎ ((b.stamp.site < a.stamp.site) ⊎ (a.stamp.site ≡ b.stamp.site)) → is_brought_below b a ≡ true
    sites e (inl k) = absurd (true_false (sym (is_below a b (record { ino = inr (e, inl k) })) ∙ p))
    sites e (inr (inl k)) = is_below b a (record { ino = inr (sym e, inl k) })
    sites e (inr (inr k)) = numbers e k (order a.stamp.n b.stamp.n)

    outer : (a.ino < b.ino) ⊎ ((b.ino < a.ino) ⊎ (a.ino ≡ b.ino)) → is_brought_below b a ≡ true
    outer (inl k) = absurd (true_false (sym (is_below a b (record { ino = inl k })) ∙ p))
    outer (inr (inl k)) = is_below b a (record { ino = inl k })
    outer (inr (inr k)) = sites k (order a.stamp.site b.stamp.site)

-- ---- ascending lists ----

abbrev pub Ascends : List Brought → Type 0
Ascends [] = Unit {0}
Ascends (b ∷ bs) = AllByRecursion (λ (d : Brought). is_brought_below b d ≡ true) bs × Ascends bs

pub all_brought : (P : Brought → Type 0) (new : Brought) (bs : List Brought) → P new → AllByRecursion P bs → AllByRecursion P (with_brought new bs)
all_brought P new [] p all = (p, tt)
all_brought P new (b ∷ bs) p all = at (is_brought_below new b) (same_brought new b) (all_brought P new bs p all.1)
  where
    at : (a d : Bool) → AllByRecursion P (with_brought new bs) → AllByRecursion P (cond a (new ∷ b ∷ bs) (cond d (b ∷ bs) (b ∷ with_brought new bs)))
    at true d later = (p, all)
    at false true later = all
    at false false later = (all.0, later)

brought_ascends : (new : Brought) (bs : List Brought) → Ascends bs → Ascends (with_brought new bs)
brought_ascends new [] k = (tt, tt)
brought_ascends new (b ∷ bs) k = at (is_brought_below new b) refl (same_brought new b) refl (brought_ascends new bs k.1)
  where
    at : (a : Bool) → is_brought_below new b ≡ a → (d : Bool) → same_brought new b ≡ d → Ascends (with_brought new bs) → Ascends (cond a (new ∷ b ∷ bs) (cond d (b ∷ bs) (b ∷ with_brought new bs)))
    at true p d q later = ((p, all_then (λ (y : Brought). is_brought_below b y ≡ true) (λ (y : Brought). is_brought_below new y ≡ true) (λ y l. is_below new y (through new b y (below_is new b p) (below_is b y l))) bs k.0), k)
    at false p true q later = k
    at false p false q later = (all_brought (λ (y : Brought). is_brought_below b y ≡ true) new bs (either_below new b p q) k.0, later)

all_ascends : (cs : List HeldCopy) (bs : List Brought) → Ascends bs → Ascends (with_all cs bs)
all_ascends [] bs k = k
all_ascends (c ∷ cs) bs k = all_ascends cs (with_brought (record { ino = c.ino; stamp = c.now }) bs) (brought_ascends (record { ino = c.ino; stamp = c.now }) bs k)

pub published_ascends : (f : FileId) (stamp : Option Stamp) (bs : List Brought) → Ascends bs → Ascends (published f stamp bs)
published_ascends f None bs k = k
published_ascends f (Some s) bs k = brought_ascends (record { ino = f.ino; stamp = s }) bs k

-- ---- record by record ----

ascends_if : (b : Bool) (u t : TreeState) → Ascends u.known → Ascends t.known → Ascends (cond b u t).known
ascends_if true u t p q = p
ascends_if false u t p q = q

next_ascends : (h : List Version) (t : TreeState) (r : Record) → Ascends t.known → Ascends (next h r t).known
next_ascends h t (says.Join s d m) k = ascends_if (same_epoch d t.epoch) (joined s m t) (left s t) (over (has_pack t.config t.group s)) k
  where
    over : (b : Bool) → Ascends (cond b (with_all (filter (λ (y : HeldCopy). y.site == s) (with_root t s)) t.known) t.known)
    over true = all_ascends (filter (λ (y : HeldCopy). y.site == s) (with_root t s)) t.known k
    over false = k
next_ascends h t (says.Start d g copies) k = ascends_if (same_epoch d t.epoch && (g == t.group)) (record t { started = true }) t k k
next_ascends h t (says.Grant d call request i m f stamp ss) k = ascends_if (same_epoch d t.epoch) (granted h (grant_of t call i m f ss) stamp t) t k k
next_ascends h t (says.Refuse d call request i m f why) k = ascends_if (same_epoch d t.epoch && ((f.group == t.group) && is_make m)) (record t { makes = without_make call t.makes }) t k k
next_ascends h t (says.Act d i n o result) k = ascends_if (same_epoch d t.epoch && is_granted_here t i) (acted h i o result t) t k k
next_ascends h t (says.Release d i f stamp) k = ascends_if (same_epoch d t.epoch && (f.group == t.group)) (released i f stamp t) t (published_ascends f stamp t.known k) k
next_ascends h t r k = k

pub known_ascends : (c : Config) (trace : Trace) (e : EpochId) (g : ℕ) → Ascends (tree_of c e g trace).known
known_ascends c [] e g = tt
known_ascends c (r ∷ before) e g = next_ascends (history c before) (tree_of c e g before) r.what (known_ascends c before e g)

-- ---- the stamps of a file are different ones ----

abbrev pub Differ : List Stamp → Type 0
Differ [] = Unit {0}
Differ (s ∷ ss) = AllByRecursion (λ (u : Stamp). same_stamp s u ≡ false) ss × Differ ss

below_differs : (a b : Brought) → a.ino ≡ b.ino → is_brought_below a b ≡ true → (x : Bool) → same_stamp a.stamp b.stamp ≡ x → x ≡ false
below_differs a b same k false e = refl
below_differs a b same k true e = over (below_is a b k).ino (same_stamp_eq a.stamp b.stamp e)
  where
    over : (a.ino < b.ino) ⊎ ((a.ino ≡ b.ino) × ((a.stamp.site < b.stamp.site) ⊎ ((a.stamp.site ≡ b.stamp.site) × (a.stamp.n < b.stamp.n)))) → a.stamp ≡ b.stamp → true ≡ false
    over (inl p) is = absurd (omega (arith, p, same))
    over (inr (p, inl q)) is = (let z : a.stamp.site ≡ b.stamp.site = ap (λ (s : Stamp). s.site) is in absurd (omega (arith, q, z)))
    over (inr (p, inr q)) is = (let z : a.stamp.n ≡ b.stamp.n = ap (λ (s : Stamp). s.n) is in absurd (omega (arith, q.1, z)))

pub stamps_differ : (ino : ℕ) (bs : List Brought) → Ascends bs → Differ (stamps_of bs ino)
stamps_differ ino [] k = tt
stamps_differ ino (b ∷ bs) k = at (b.ino == ino) refl (stamps_differ ino bs k.1)
  where
    apart : b.ino ≡ ino → (ds : List Brought) → AllByRecursion (λ (d : Brought). is_brought_below b d ≡ true) ds → AllByRecursion (λ (u : Stamp). same_stamp b.stamp u ≡ false) (stamps_of ds ino)
    apart e [] all = tt
    apart e (d ∷ ds) all = over (d.ino == ino) refl (apart e ds all.1)
      where
        over : (x : Bool) → (d.ino == ino) ≡ x → AllByRecursion (λ (u : Stamp). same_stamp b.stamp u ≡ false) (stamps_of ds ino) → AllByRecursion (λ (u : Stamp). same_stamp b.stamp u ≡ false) (map (λ (y : Brought). y.stamp) (cond x (d ∷ filter (λ (y : Brought). y.ino == ino) ds) (filter (λ (y : Brought). y.ino == ino) ds)))
        over true p later = (below_differs b d (e ∙ sym (equal d.ino ino p)) all.0 (same_stamp b.stamp d.stamp) refl, later)
        over false p later = later

    at : (x : Bool) → (b.ino == ino) ≡ x → Differ (stamps_of bs ino) → Differ (map (λ (y : Brought). y.stamp) (cond x (b ∷ filter (λ (y : Brought). y.ino == ino) bs) (filter (λ (y : Brought). y.ino == ino) bs)))
    at true e later = (apart (equal b.ino ino e) bs k.0, later)
    at false e later = later
