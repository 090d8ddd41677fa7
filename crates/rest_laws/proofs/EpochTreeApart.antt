-- Each copy of a tree stands once: no two are of one site and inode, so each is the one that is found.
use Rattle.std.proofs.Common.{◌≡◌, ℕ, ◌==◌, Bool, true, false, ◌&&◌, cond, List, [], ◌∷◌, ◌++◌, map, Option, Some, None, refl, sym, ◌∙◌, ap, subst, inl, inr, arith}
use Rattle.std.proofs.lemmas.Bool.Decides.{nat_tests}
use Rattle.std.specs.List.{AllByRecursion}
use Rattle.std.specs.Option.{is_none}
use Rattle.role_steps.proofs.of_plain_facts.Numbers.{equal, equal_self}
use Rattle.role_steps.proofs.of_plain_facts.Options.{none_some}
use Rattle.role_steps.proofs.of_plain_facts.Tests.{and_first, and_second, true_false}
use Rattle.locus_ids.specs.declared.config.Config.{Config}
use Rattle.locus_ids.specs.declared.ids.EpochId.{EpochId}
use Rattle.commit_graph.specs.declared.history.Version.{Version}
use Rattle.trace_book.specs.Same.{same_epoch}
use Rattle.trace_book.specs.declared.record.Record.{Record}
use Rattle.trace_book.specs.declared.record.Record.TheVariants as says
use Rattle.the_run.specs.Kept.{Among}
use Rattle.tree_model.specs.declared.copy.HeldCopy.{HeldCopy}
use Rattle.tree_model.specs.Folds.{Trace}
use Rattle.tree_model.specs.Histories.{format_stamp, history}
use Rattle.tree_model.specs.Lists.{put_first}
use Rattle.tree_model.specs.Packs.{has_pack}
use Rattle.tree_model.specs.State.{TreeState, copy_of, is_copy_of, is_granted_here, is_make, with_copy}
use Rattle.tree_model.specs.Tree.{acted, copy_now, entered, grant_of, granted, joined, left, next, released, tree_of, with_root, without_make}
use Rattle.store_laws.proofs.of_tree_laws.Orders.Lists.{all_more, all_put}

abbrev Other : HeldCopy → HeldCopy → Type 0
Other x y = is_copy_of x.site x.ino y ≡ false

abbrev pub AreOnce : List HeldCopy → Type 0
AreOnce [] = Unit {0}
AreOnce (x ∷ xs) = AllByRecursion (Other x) xs × AreOnce xs

-- ---- tests ----

turned : (x y : HeldCopy) → is_copy_of x.site x.ino y ≡ is_copy_of y.site y.ino x
turned x y = ap (λ (b : Bool). b && (y.ino == x.ino)) (swap y.site x.site) ∙ ap (λ (b : Bool). (x.site == y.site) && b) (swap y.ino x.ino)
  where
    swap : (a b : ℕ) → (a == b) ≡ (b == a)
    swap a b = grind (arith, nat_tests)

own : (x : HeldCopy) → is_copy_of x.site x.ino x ≡ true
own x = both (x.site == x.site) (x.ino == x.ino) (equal_self x.site) (equal_self x.ino)
  where
    both : (a b : Bool) → a ≡ true → b ≡ true → a && b ≡ true
    both true b p q = q
    both false b p q = p

among_all : (P : HeldCopy → Type 0) (xs : List HeldCopy) (x : HeldCopy) → AllByRecursion P xs → Among x xs → P x
among_all P [] x h m = absurd m
among_all P (y ∷ ys) x h (inl e) = subst P (sym e) h.0
among_all P (y ∷ ys) x h (inr m) = among_all P ys x h.1 m

-- ---- lists ----

pub once_found : (cs : List HeldCopy) → AreOnce cs → (x : HeldCopy) → Among x cs → copy_of cs x.site x.ino ≡ Some x
once_found [] k x m = absurd m
once_found (y ∷ ys) k x (inl e) = subst (λ (z : HeldCopy). copy_of (y ∷ ys) z.site z.ino ≡ Some z) (sym e) (ap (λ (b : Bool). cond b (Some y) (copy_of ys y.site y.ino)) (own y))
once_found (y ∷ ys) k x (inr m) = ap (λ (b : Bool). cond b (Some y) (copy_of ys x.site x.ino)) (turned x y ∙ among_all (Other y) ys x k.0 m) ∙ once_found ys k.1 x m

once_put : (new : HeldCopy) (cs : List HeldCopy) → AreOnce cs → AreOnce (put_first (is_copy_of new.site new.ino) new cs)
once_put new [] k = (tt, tt)
once_put new (x ∷ xs) k = at (is_copy_of new.site new.ino x) refl (once_put new xs k.1)
  where
    at : (b : Bool) → is_copy_of new.site new.ino x ≡ b → AreOnce (put_first (is_copy_of new.site new.ino) new xs) → AreOnce (cond b (new ∷ xs) (x ∷ put_first (is_copy_of new.site new.ino) new xs))
    at true is later = (
      subst (λ (s : ℕ). AllByRecursion (λ (y : HeldCopy). is_copy_of s new.ino y ≡ false) xs) (equal x.site new.site (and_first (x.site == new.site) _ is))
          (subst (λ (i : ℕ). AllByRecursion (λ (y : HeldCopy). is_copy_of x.site i y ≡ false) xs) (equal x.ino new.ino (and_second (x.site == new.site) _ is)) k.0),
      k.1,
    )
    at false is later = (all_put (Other x) (is_copy_of new.site new.ino) new xs (turned x new ∙ is) k.0, later)

once_added : (x : HeldCopy) (cs : List HeldCopy) → copy_of cs x.site x.ino ≡ None → AreOnce cs → AreOnce (cs ++ x ∷ [])
once_added x [] none k = (tt, tt)
once_added x (y ∷ ys) none k = at (is_copy_of x.site x.ino y) refl none (once_added x ys)
  where
    at : (b : Bool) → is_copy_of x.site x.ino y ≡ b → cond b (Some y) (copy_of ys x.site x.ino) ≡ None → (copy_of ys x.site x.ino ≡ None → AreOnce ys → AreOnce (ys ++ x ∷ [])) → AreOnce (y ∷ ys ++ x ∷ [])
    at true is none later = absurd (none_some y (sym none))
    at false is none later = (all_more (Other y) ys x k.0 (turned y x ∙ is), later none k.1)

once_entered : (z : ℕ) (cs : List HeldCopy) → AreOnce cs → AreOnce (map (entered z) cs)
once_entered z [] k = tt
once_entered z (x ∷ xs) k = (at (x.site == z), once_entered z xs k.1)
  where
    same : (y : HeldCopy) → is_copy_of x.site x.ino (entered z y) ≡ is_copy_of x.site x.ino y
    same y = over (y.site == z)
      where
        over : (b : Bool) → is_copy_of x.site x.ino (cond b (record y { held = Some y.now }) y) ≡ is_copy_of x.site x.ino y
        over true = refl
        over false = refl

    others : (ys : List HeldCopy) → AllByRecursion (Other x) ys → AllByRecursion (Other x) (map (entered z) ys)
    others [] h = tt
    others (y ∷ ys) h = (same y ∙ h.0, others ys h.1)

    at : (b : Bool) → AllByRecursion (Other (cond b (record x { held = Some x.now }) x)) (map (entered z) xs)
    at true = others xs k.0
    at false = others xs k.0

-- ---- trees ----

pub once_rooted : (t : TreeState) (s : ℕ) → AreOnce t.copies → AreOnce (with_root t s)
once_rooted t s k = at (has_pack t.config t.group s) (is_none (copy_of t.copies s 1)) refl
  where
    none_is : (o : Option HeldCopy) → is_none o ≡ true → o ≡ None
    none_is None e = refl
    none_is (Some x) e = absurd (true_false (sym e))

    at : (a b : Bool) → is_none (copy_of t.copies s 1) ≡ b → AreOnce (cond (a && b) (t.copies ++ record { site = s; ino = 1; now = format_stamp; held = None } ∷ []) t.copies)
    at true true e = once_added (record { site = s; ino = 1; now = format_stamp; held = None }) t.copies (none_is (copy_of t.copies s 1) e) k
    at true false e = k
    at false b e = k

once_if : (b : Bool) (u t : TreeState) → AreOnce u.copies → AreOnce t.copies → AreOnce (cond b u t).copies
once_if true u t p q = p
once_if false u t p q = q

once_next : (h : List Version) (t : TreeState) (r : Record) → AreOnce t.copies → AreOnce (next h r t).copies
once_next h t (says.Join s d m) k = once_if (same_epoch d t.epoch) (joined s m t) (left s t) (once_entered s (with_root t s) (once_rooted t s k)) k
once_next h t (says.Start d g copies) k = once_if (same_epoch d t.epoch && (g == t.group)) (record t { started = true }) t k k
once_next h t (says.Commit f s stamp parents content) k = over (f.group == t.group)
  where
    over : (b : Bool) → AreOnce (cond b (with_copy (copy_now t s f.ino stamp) t.copies) t.copies)
    over true = once_put (copy_now t s f.ino stamp) t.copies k
    over false = k
once_next h t (says.Adopt f s stamp) k = over (f.group == t.group)
  where
    over : (b : Bool) → AreOnce (cond b (with_copy (copy_now t s f.ino stamp) t.copies) t.copies)
    over true = once_put (copy_now t s f.ino stamp) t.copies k
    over false = k
once_next h t (says.Grant d call request i m f stamp ss) k = once_if (same_epoch d t.epoch) (granted h (grant_of t call i m f ss) stamp t) t k k
once_next h t (says.Refuse d call request i m f why) k = once_if (same_epoch d t.epoch && ((f.group == t.group) && is_make m)) (record t { makes = without_make call t.makes }) t k k
once_next h t (says.Act d i n o result) k = once_if (same_epoch d t.epoch && is_granted_here t i) (acted h i o result t) t k k
once_next h t (says.Release d i f stamp) k = once_if (same_epoch d t.epoch && (f.group == t.group)) (released i f stamp t) t k k
once_next h t r k = k

pub copies_once : (c : Config) (trace : Trace) (e : EpochId) (g : ℕ) → AreOnce (tree_of c e g trace).copies
copies_once c [] e g = tt
copies_once c (r ∷ before) e g = once_next (history c before) (tree_of c e g before) r.what (copies_once c before e g)
