-- A tree has one copy for each site and inode, so its pages at a site are those of what the site has.
use Rattle.std.proofs.Common.{◌≡◌, ℕ, ◌+◌, ◌==◌, Bool, true, false, ◌&&◌, cond, List, [], ◌∷◌, ◌++◌, filter, length, map, Option, Some, None, refl, sym, ap, ◌∙◌, subst}
use Rattle.std.proofs.lemmas.List.Sums.{sum_by-cons}
use Rattle.std.specs.List.{AllByRecursion, sum_by}
use Rattle.std.specs.Option.{is_none}
use Rattle.tree_laws.proofs.of_plain_facts.Numbers.{equal, equal_self}
use Rattle.tree_laws.proofs.of_plain_facts.Options.{none_some}
use Rattle.tree_laws.proofs.of_plain_facts.Tests.{and_first, and_second, and_true, true_false}
use Rattle.locus_ids.specs.declared.config.Config.{Config}
use Rattle.locus_ids.specs.declared.ids.EpochId.{EpochId}
use Rattle.locus_ids.specs.declared.ids.FileId.{FileId}
use Rattle.locus_ids.specs.declared.ids.Stamp.{Stamp}
use Rattle.commit_graph.specs.declared.history.Version.{Version}
use Rattle.trace_book.specs.Same.{same_epoch}
use Rattle.trace_book.specs.declared.record.Record.{Record}
use Rattle.trace_book.specs.declared.record.Record.TheVariants as says
use Rattle.file_content.specs.Pages.{pages_of}
use Rattle.tree_model.specs.declared.copy.HeldCopy.{HeldCopy}
use Rattle.tree_model.specs.Folds.{Trace}
use Rattle.tree_model.specs.Histories.{format_stamp, history, stamped_content}
use Rattle.tree_model.specs.Lists.{put_first}
use Rattle.tree_model.specs.Packs.{has_pack}
use Rattle.tree_model.specs.State.{TreeState, copy_of, held_of, is_copy_of, is_granted_here, is_make, with_copy}
use Rattle.tree_model.specs.Tree.{acted, copy_now, entered, grant_of, granted, has_now, joined, left, next, released, tree_of, with_root, without_make}
use Rattle.tree_model.specs.Working.{pages_of_copy}
use Rattle.tree_laws.proofs.Orders.Lists.{all_mapped, all_more, all_put, all_then}
use Rattle.tree_laws.proofs.Orders.Standing.{At}
use Rattle.store_laws.proofs.Holdings.RoomSums.{Amount, AreSingle, TellsKeys, amount_at, sum_of}

-- ---- one copy for each site and inode ----

abbrev IsOther : HeldCopy → HeldCopy → Type 0
IsOther x y = is_copy_of x.site x.ino y ≡ false

abbrev pub CopiesApart : List HeldCopy → Type 0
CopiesApart [] = Unit {0}
CopiesApart (x ∷ xs) = AllByRecursion (IsOther x) xs × CopiesApart xs

back : (m n : ℕ) → (m == n) ≡ true → (n == m) ≡ true
back m n e = subst (λ (k : ℕ). (k == m) ≡ true) (equal m n e) (equal_self m)

-- the other way round
turned : (x y : HeldCopy) → IsOther x y → IsOther y x
turned x y k = over (is_copy_of y.site y.ino x) refl
  where
    over : (b : Bool) → is_copy_of y.site y.ino x ≡ b → b ≡ false
    over true e = absurd (true_false (sym (and_true (y.site == x.site) (y.ino == x.ino) (back x.site y.site (and_first (x.site == y.site) _ e)) (back x.ino y.ino (and_second (x.site == y.site) _ e))) ∙ k))
    over false e = refl

-- of the same site and inode
same_place : (x new y : HeldCopy) → is_copy_of new.site new.ino x ≡ true → IsOther x y → IsOther new y
same_place x new y e k = subst (λ (n : ℕ). (y.site == n) && (y.ino == new.ino) ≡ false) (equal x.site new.site (and_first (x.site == new.site) _ e)) (subst (λ (n : ℕ). (y.site == x.site) && (y.ino == n) ≡ false) (equal x.ino new.ino (and_second (x.site == new.site) _ e)) k)

put_apart : (new : HeldCopy) (cs : List HeldCopy) → CopiesApart cs → CopiesApart (with_copy new cs)
put_apart new [] k = (tt, tt)
put_apart new (x ∷ xs) k = at (is_copy_of new.site new.ino x) refl (put_apart new xs k.1)
  where
    at : (b : Bool) → is_copy_of new.site new.ino x ≡ b → CopiesApart (put_first (is_copy_of new.site new.ino) new xs) → CopiesApart (cond b (new ∷ xs) (x ∷ put_first (is_copy_of new.site new.ino) new xs))
    at true e later = (all_then (IsOther x) (IsOther new) (λ y q. same_place x new y e q) xs k.0, k.1)
    at false e later = (all_put (IsOther x) (is_copy_of new.site new.ino) new xs (turned new x e) k.0, later)

added_apart : (cs : List HeldCopy) (y : HeldCopy) → CopiesApart cs → copy_of cs y.site y.ino ≡ None → CopiesApart (cs ++ y ∷ [])
added_apart [] y k none = (tt, tt)
added_apart (x ∷ xs) y k none = at (is_copy_of y.site y.ino x) refl none (added_apart xs y k.1)
  where
    at : (b : Bool) → is_copy_of y.site y.ino x ≡ b → cond b (Some x) (copy_of xs y.site y.ino) ≡ None → (copy_of xs y.site y.ino ≡ None → CopiesApart (xs ++ y ∷ [])) → AllByRecursion (IsOther x) (xs ++ y ∷ []) × CopiesApart (xs ++ y ∷ [])
    at true e q later = absurd (none_some x (sym q))
    at false e q later = (all_more (IsOther x) xs y k.0 (turned y x e), later q)

entered_apart : (z : ℕ) (cs : List HeldCopy) → CopiesApart cs → CopiesApart (map (entered z) cs)
entered_apart z [] k = tt
entered_apart z (x ∷ xs) k = (over (x.site == z), entered_apart z xs k.1)
  where
    kept : (y : HeldCopy) → IsOther x y → IsOther x (entered z y)
    kept y q = at (y.site == z)
      where
        at : (b : Bool) → IsOther x (cond b (record y { held = Some y.now }) y)
        at true = q
        at false = q

    over : (b : Bool) → AllByRecursion (IsOther (cond b (record x { held = Some x.now }) x)) (map (entered z) xs)
    over true = all_mapped (IsOther x) (entered z) kept xs k.0
    over false = all_mapped (IsOther x) (entered z) kept xs k.0

rooted_apart : (t : TreeState) (z : ℕ) → CopiesApart t.copies → CopiesApart (with_root t z)
rooted_apart t z k = at (has_pack t.config t.group z) (copy_of t.copies z 1) refl
  where
    at : (p : Bool) (o : Option HeldCopy) → copy_of t.copies z 1 ≡ o → CopiesApart (cond (p && is_none o) (t.copies ++ record { site = z; ino = 1; now = format_stamp; held = None } ∷ []) t.copies)
    at true None e = added_apart t.copies (record { site = z; ino = 1; now = format_stamp; held = None }) k e
    at true (Some x) e = k
    at false o e = k

if_apart : (b : Bool) (u t : TreeState) → CopiesApart u.copies → CopiesApart t.copies → CopiesApart (cond b u t).copies
if_apart true u t p q = p
if_apart false u t p q = q

now_apart : (t : TreeState) (f : FileId) (z : ℕ) (stamp : Stamp) → CopiesApart t.copies → CopiesApart (has_now f z stamp t).copies
now_apart t f z stamp k = at (f.group == t.group)
  where
    at : (b : Bool) → CopiesApart (cond b (with_copy (copy_now t z f.ino stamp) t.copies) t.copies)
    at true = put_apart (copy_now t z f.ino stamp) t.copies k
    at false = k

next_apart : (h : List Version) (t : TreeState) (r : Record) → CopiesApart t.copies → CopiesApart (next h r t).copies
next_apart h t (says.Join z d m) k = if_apart (same_epoch d t.epoch) (joined z m t) (left z t) (entered_apart z (with_root t z) (rooted_apart t z k)) k
next_apart h t (says.Commit f z stamp parents content) k = now_apart t f z stamp k
next_apart h t (says.Adopt f z stamp) k = now_apart t f z stamp k
next_apart h t (says.Start d g copies) k = if_apart (same_epoch d t.epoch && (g == t.group)) (record t { started = true }) t k k
next_apart h t (says.Grant d call request i m f stamp ss) k = if_apart (same_epoch d t.epoch) (granted h (grant_of t call i m f ss) stamp t) t k k
next_apart h t (says.Refuse d call request i m f why) k = if_apart (same_epoch d t.epoch && ((f.group == t.group) && is_make m)) (record t { makes = without_make call t.makes }) t k k
next_apart h t (says.Act d i n o result) k = if_apart (same_epoch d t.epoch && is_granted_here t i) (acted h i o result t) t k k
next_apart h t (says.Release d i f stamp) k = if_apart (same_epoch d t.epoch && (f.group == t.group)) (released i f stamp t) t k k
next_apart h t r k = k

pub copies_apart : (c : Config) (trace : Trace) (e : EpochId) (g : ℕ) → CopiesApart (tree_of c e g trace).copies
copies_apart c [] e g = tt
copies_apart c (r ∷ before) e g = next_apart (history c before) (tree_of c e g before) r.what (copies_apart c before e g)

-- ---- the pages of a site ----

abbrev pub same_number : ℕ → ℕ → Bool
same_number a b = a == b

pub numbers_tell : TellsKeys same_number
numbers_tell = record { is = λ a b e. equal a b e; own = λ a. equal_self a }

-- the pages that the site has of each inode
abbrev pub held_amounts : List Version → ℕ → ℕ → List HeldCopy → List (Amount ℕ)
held_amounts h g site [] = []
held_amounts h g site (x ∷ xs) = cond (x.site == site) (record { key = x.ino; amount = pages_of_copy h g x } ∷ held_amounts h g site xs) (held_amounts h g site xs)

pub held_sum : (h : List Version) (g site : ℕ) (cs : List HeldCopy) → sum_by (pages_of_copy h g) (filter (λ (x : HeldCopy). x.site == site) cs) ≡ sum_of (held_amounts h g site cs)
held_sum h g site [] = refl
held_sum h g site (x ∷ xs) = at (x.site == site) (held_sum h g site xs)
  where
    at : (b : Bool) → sum_by (pages_of_copy h g) (filter (λ (y : HeldCopy). y.site == site) xs) ≡ sum_of (held_amounts h g site xs) →
        sum_by (pages_of_copy h g) (cond b (x ∷ filter (λ (y : HeldCopy). y.site == site) xs) (filter (λ (y : HeldCopy). y.site == site) xs)) ≡ sum_of (cond b (record { key = x.ino; amount = pages_of_copy h g x } ∷ held_amounts h g site xs) (held_amounts h g site xs))
    at true later = sum_by-cons (pages_of_copy h g) x (filter (λ (y : HeldCopy). y.site == site) xs) ∙ ap (λ (n : ℕ). pages_of_copy h g x + n) later
    at false later = later

pub held_single : (h : List Version) (g site : ℕ) (cs : List HeldCopy) → CopiesApart cs → AreSingle same_number numbers_tell (held_amounts h g site cs)
held_single h g site [] k = tt
held_single h g site (x ∷ xs) k = at (x.site == site) refl (held_single h g site xs k.1)
  where
    others : (x.site == site) ≡ true → (ys : List HeldCopy) → AllByRecursion (IsOther x) ys → AllByRecursion (λ (q : Amount ℕ). (x.ino == q.key) ≡ false) (held_amounts h g site ys)
    others e [] all = tt
    others e (y ∷ ys) all = over (y.site == site) refl (others e ys all.1)
      where
        unlike : (y.site == site) ≡ true → (b : Bool) → (x.ino == y.ino) ≡ b → b ≡ false
        unlike p false q = refl
        unlike p true q = absurd (true_false (sym (and_true (y.site == x.site) (y.ino == x.ino) (subst (λ (n : ℕ). (y.site == n) ≡ true) (sym (equal x.site site e)) p) (back x.ino y.ino q)) ∙ all.0))

        over : (b : Bool) → (y.site == site) ≡ b → AllByRecursion (λ (q : Amount ℕ). (x.ino == q.key) ≡ false) (held_amounts h g site ys) → AllByRecursion (λ (q : Amount ℕ). (x.ino == q.key) ≡ false) (cond b (record { key = y.ino; amount = pages_of_copy h g y } ∷ held_amounts h g site ys) (held_amounts h g site ys))
        over true p later = (unlike p (x.ino == y.ino) refl, later)
        over false p later = later

    at : (b : Bool) → (x.site == site) ≡ b → AreSingle same_number numbers_tell (held_amounts h g site xs) → AreSingle same_number numbers_tell (cond b (record { key = x.ino; amount = pages_of_copy h g x } ∷ held_amounts h g site xs) (held_amounts h g site xs))
    at true e later = (others e xs k.0, later)
    at false e later = later

-- the site has of an inode the pages of the version that it holds
pub held_at_key : (h : List Version) (g site i : ℕ) (cs : List HeldCopy) → amount_at same_number numbers_tell i (held_amounts h g site cs) ≡ pages_of (length (stamped_content h (At g i) (held_of (copy_of cs site i))))
held_at_key h g site i [] = refl
held_at_key h g site i (x ∷ xs) = at (x.site == site) (x.ino == i) refl (held_at_key h g site i xs)
  where
    at : (a b : Bool) → (x.ino == i) ≡ b → amount_at same_number numbers_tell i (held_amounts h g site xs) ≡ pages_of (length (stamped_content h (At g i) (held_of (copy_of xs site i)))) →
        amount_at same_number numbers_tell i (cond a (record { key = x.ino; amount = pages_of_copy h g x } ∷ held_amounts h g site xs) (held_amounts h g site xs)) ≡ pages_of (length (stamped_content h (At g i) (held_of (cond (a && b) (Some x) (copy_of xs site i)))))
    at true true e later = ap (λ (q : Bool). cond q (pages_of_copy h g x) (amount_at same_number numbers_tell i (held_amounts h g site xs))) e ∙ ap (λ (n : ℕ). pages_of (length (stamped_content h (At g n) x.held))) (equal x.ino i e)
    at true false e later = ap (λ (q : Bool). cond q (pages_of_copy h g x) (amount_at same_number numbers_tell i (held_amounts h g site xs))) e ∙ later
    at false b e later = later
