-- What a tree knows of a file ascends by site, then by number.
use Rattle.std.proofs.Common.{◌≡◌, ℕ, ◌==◌, ◌<◌, Bool, true, false, cond, ◌&&◌, List, [], ◌∷◌, filter, map, Option, None, Some, refl, arith, inl, inr, ◌⊎◌}
use Rattle.std.specs.Prelude.{nat_lt}
use Rattle.std.specs.List.{AllByRecursion, list_all}
use Rattle.plain_facts.proofs.Numbers.{equal, less}
use Rattle.plain_facts.proofs.Tests.{and_first, and_second, both_true, or_either}
use Rattle.locus_ids.specs.declared.config.Config.{Config}
use Rattle.locus_ids.specs.declared.sites.Members.{Members}
use Rattle.locus_ids.specs.declared.ids.Brought.{Brought}
use Rattle.locus_ids.specs.declared.ids.EpochId.{EpochId}
use Rattle.locus_ids.specs.declared.ids.FileId.{FileId}
use Rattle.locus_ids.specs.declared.ids.Stamp.{Stamp}
use Rattle.commit_graph.specs.Versions.{is_stamp_below}
use Rattle.commit_graph.specs.declared.history.Version.{Version}
use Rattle.trace_book.specs.Same.{same_epoch}
use Rattle.trace_book.specs.declared.record.Record.{Record}
use Rattle.trace_book.specs.declared.record.Record.TheVariants as says
use Rattle.tree_model.specs.declared.copy.HeldCopy.{HeldCopy}
use Rattle.tree_model.specs.Folds.{Trace}
use Rattle.tree_model.specs.Histories.{history}
use Rattle.tree_model.specs.Packs.{has_pack}
use Rattle.tree_model.specs.State.{TreeState, is_brought_below, is_granted_here, is_make, stamps_of, with_all, with_brought}
use Rattle.tree_model.specs.Tree.{acted, grant_of, granted, joined, left, next, published, released, tree_of, with_root, without_make}
use Rattle.past_laws.specs.Agreement.{ascends}
use Rattle.past_laws.proofs.TreesSorted.{brought_ascends}
use Rattle.text_laws.specs.NewTexts.Keeping.{Ascend, IsBelow}

-- ---- trees ----

abbrev Rise : List Brought → Type 0
Rise known = ascends is_brought_below known ≡ true

all_rise : (cs : List HeldCopy) (known : List Brought) → Rise known → Rise (with_all cs known)
all_rise [] known h = h
all_rise (c ∷ cs) known h = all_rise cs (with_brought (record { ino = c.ino; stamp = c.now }) known) (brought_ascends (record { ino = c.ino; stamp = c.now }) known h)

either_list : (b : Bool) (xs ys : List Brought) → Rise xs → Rise ys → Rise (cond b xs ys)
either_list true xs ys h k = h
either_list false xs ys h k = k

either : (b : Bool) (t u : TreeState) → Rise t.known → Rise u.known → Rise (cond b t u).known
either true t u h k = h
either false t u h k = k

joined_rise : (site : ℕ) (m : Members) (t : TreeState) → Rise t.known → Rise (joined site m t).known
joined_rise site m t h =
    let mine : List HeldCopy = filter (λ (c : HeldCopy). c.site == site) (with_root t site) in
    either_list (has_pack t.config t.group site) (with_all mine t.known) t.known (all_rise mine t.known h) h

published_rise : (f : FileId) (stamp : Option Stamp) (known : List Brought) → Rise known → Rise (published f stamp known)
published_rise f None known h = h
published_rise f (Some stamp) known h = brought_ascends (record { ino = f.ino; stamp = stamp }) known h

next_rises : (h : List Version) (r : Record) (t : TreeState) → Rise t.known → Rise (next h r t).known
next_rises h (says.Join site e m) t k = either (same_epoch e t.epoch) (joined site m t) (left site t) (joined_rise site m t k) k
next_rises h (says.Start e group copies) t k = either (same_epoch e t.epoch && (group == t.group)) (record t { started = true }) t k k
next_rises h (says.Grant e call request i m f stamp ss) t k = either (same_epoch e t.epoch) (granted h (grant_of t call i m f ss) stamp t) t k k
next_rises h (says.Refuse e call request i m f why) t k = either (same_epoch e t.epoch && ((f.group == t.group) && is_make m)) (record t { makes = without_make call t.makes }) t k k
next_rises h (says.Act e i n o result) t k = either (same_epoch e t.epoch && is_granted_here t i) (acted h i o result t) t k k
next_rises h (says.Release e i f stamp) t k = either (same_epoch e t.epoch && (f.group == t.group)) (released i f stamp t) t (published_rise f stamp t.known k) k
next_rises h r t k = k

tree_rises : (c : Config) (e : EpochId) (group : ℕ) (trace : Trace) → Rise (tree_of c e group trace).known
tree_rises c e group [] = refl
tree_rises c e group (r ∷ before) = next_rises (history c before) r.what (tree_of c e group before) (tree_rises c e group before)

-- ---- the versions of a file ----

stamp_below : (a b : Stamp) → is_stamp_below a b ≡ true → IsBelow a b
stamp_below a b h = over (or_either (nat_lt a.site b.site) ((a.site == b.site) && nat_lt a.n b.n) h)
  where
    over : (nat_lt a.site b.site ≡ true) ⊎ (((a.site == b.site) && nat_lt a.n b.n) ≡ true) → IsBelow a b
    over (inl k) = inl (less a.site b.site k)
    over (inr k) = inr (equal a.site b.site (and_first (a.site == b.site) (nat_lt a.n b.n) k), less a.n b.n (and_second (a.site == b.site) (nat_lt a.n b.n) k))

-- of two of one file the stamps decide
below : (ino : ℕ) (a b : Brought) → (a.ino == ino) ≡ true → (b.ino == ino) ≡ true → is_brought_below a b ≡ true → IsBelow a.stamp b.stamp
below ino a b e f h = over (or_either (nat_lt a.ino b.ino) ((a.ino == b.ino) && is_stamp_below a.stamp b.stamp) h)
  where
    over : (nat_lt a.ino b.ino ≡ true) ⊎ (((a.ino == b.ino) && is_stamp_below a.stamp b.stamp) ≡ true) → IsBelow a.stamp b.stamp
    over (inl k) = let low : a.ino < b.ino = less a.ino b.ino k in let p : a.ino ≡ ino = equal a.ino ino e in let q : b.ino ≡ ino = equal b.ino ino f in absurd (omega (arith, low, p, q))
    over (inr k) = stamp_below a.stamp b.stamp (and_second (a.ino == b.ino) (is_stamp_below a.stamp b.stamp) k)

all_below : (ino : ℕ) (a : Brought) (bs : List Brought) → (a.ino == ino) ≡ true → list_all (is_brought_below a) bs ≡ true → AllByRecursion (IsBelow a.stamp) (stamps_of bs ino)
all_below ino a [] e h = tt
all_below ino a (b ∷ bs) e h = at (all_below ino a bs e parts.1) (b.ino == ino) refl
  where
    parts : (is_brought_below a b ≡ true) × (list_all (is_brought_below a) bs ≡ true)
    parts = both_true (is_brought_below a b) (list_all (is_brought_below a) bs) h

    at : AllByRecursion (IsBelow a.stamp) (stamps_of bs ino) → (x : Bool) → (b.ino == ino) ≡ x → AllByRecursion (IsBelow a.stamp) (map (λ (y : Brought). y.stamp) (cond x (b ∷ filter (λ (y : Brought). y.ino == ino) bs) (filter (λ (y : Brought). y.ino == ino) bs)))
    at later true f = (below ino a b e f parts.0, later)
    at later false f = later

stamps_ascend : (ino : ℕ) (bs : List Brought) → Rise bs → Ascend (stamps_of bs ino)
stamps_ascend ino [] h = tt
stamps_ascend ino (b ∷ bs) h = at (stamps_ascend ino bs parts.1) (b.ino == ino) refl
  where
    parts : (list_all (is_brought_below b) bs ≡ true) × Rise bs
    parts = both_true (list_all (is_brought_below b) bs) (ascends is_brought_below bs) h

    at : Ascend (stamps_of bs ino) → (x : Bool) → (b.ino == ino) ≡ x → Ascend (map (λ (y : Brought). y.stamp) (cond x (b ∷ filter (λ (y : Brought). y.ino == ino) bs) (filter (λ (y : Brought). y.ino == ino) bs)))
    at later true e = (all_below ino b bs e parts.0, later)
    at later false e = later

pub known_ascend : (c : Config) (e : EpochId) (group ino : ℕ) (trace : Trace) → Ascend (stamps_of (tree_of c e group trace).known ino)
known_ascend c e group ino trace = stamps_ascend ino (tree_of c e group trace).known (tree_rises c e group trace)
