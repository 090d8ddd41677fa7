-- A number that a site has used in an epoch stays used.
use Rattle.std.proofs.Common.{◌≡◌, ℕ, ◌==◌, Bool, true, false, ◌&&◌, cond, List, [], ◌∷◌, ◌++◌, map, Option, Some, None, refl, sym, ap, ◌∙◌, inl, inr}
use Rattle.std.specs.Option.{is_none}
use Rattle.plain_facts.proofs.Numbers.{equal}
use Rattle.plain_facts.proofs.Tests.{and_first, and_second, true_false}
use Rattle.locus_ids.specs.declared.config.Config.{Config}
use Rattle.locus_ids.specs.declared.ids.EpochId.{EpochId}
use Rattle.locus_ids.specs.declared.ids.FileId.{FileId}
use Rattle.locus_ids.specs.declared.ids.Stamp.{Stamp}
use Rattle.commit_graph.specs.declared.history.Version.{Version}
use Rattle.trace_book.specs.Same.{same_epoch}
use Rattle.trace_book.specs.declared.record.Record.{Record}
use Rattle.trace_book.specs.declared.record.Record.TheVariants as says
use Rattle.role_steps.specs.Views.{Told, Shown}
use Rattle.the_run.specs.Worlds.{Line}
use Rattle.tree_model.specs.declared.copy.HeldCopy.{HeldCopy}
use Rattle.tree_model.specs.Folds.{Trace}
use Rattle.tree_model.specs.Histories.{format_stamp, history}
use Rattle.tree_model.specs.Lists.{put_first}
use Rattle.tree_model.specs.Packs.{has_pack}
use Rattle.tree_model.specs.State.{TreeState, copy_of, held_at, held_of, is_copy_of, is_granted_here, is_inside, is_make, with_copy}
use Rattle.tree_model.specs.Tree.{acted, copy_now, entered, grant_of, granted, has_now, joined, left, next, released, tree_of, with_root, without_make}
use Rattle.tree_laws.specs.Instances.{IsFull, IsUsed, held_in}
use Rattle.tree_laws.specs.Printed.{entries, onto_entries}

-- the site has some version of the inode
abbrev pub HasSome : List HeldCopy → ℕ → ℕ → Type 0
HasSome cs site ino = (s : Stamp) × (held_of (copy_of cs site ino) ≡ Some s)

nothing : (s : Stamp) → ◌≡◌ {A = Option Stamp} None (Some s) → ⊥
nothing s e = cc

-- ---- copies ----

some_added : (cs ds : List HeldCopy) (site ino : ℕ) → HasSome cs site ino → HasSome (cs ++ ds) site ino
some_added [] ds site ino k = absurd (nothing k.0 k.1)
some_added (x ∷ xs) ds site ino k = at (is_copy_of site ino x) k.1 (some_added xs ds site ino)
  where
    at : (b : Bool) → held_of (cond b (Some x) (copy_of xs site ino)) ≡ Some k.0 → (HasSome xs site ino → HasSome (xs ++ ds) site ino) → (s : Stamp) × (held_of (cond b (Some x) (copy_of (xs ++ ds) site ino)) ≡ Some s)
    at true e later = (k.0, e)
    at false e later = later (k.0, e)

-- the copies of a site that joins
some_entered : (z : ℕ) (cs : List HeldCopy) (site ino : ℕ) → HasSome cs site ino → HasSome (map (entered z) cs) site ino
some_entered z [] site ino k = absurd (nothing k.0 k.1)
some_entered z (x ∷ xs) site ino k = over (x.site == z) (some_entered z xs site ino)
  where
    at : (b : Bool) → held_of (cond b (Some x) (copy_of xs site ino)) ≡ Some k.0 → (HasSome xs site ino → HasSome (map (entered z) xs) site ino) → (y : HeldCopy) → ((s : Stamp) → x.held ≡ Some s → (r : Stamp) × (y.held ≡ Some r))
        → (s : Stamp) × (held_of (cond b (Some y) (copy_of (map (entered z) xs) site ino)) ≡ Some s)
    at true e later y held = held k.0 e
    at false e later y held = later (k.0, e)

    over : (b : Bool) → (HasSome xs site ino → HasSome (map (entered z) xs) site ino) → (s : Stamp) × (held_of (copy_of (cond b (record x { held = Some x.now }) x ∷ map (entered z) xs) site ino) ≡ Some s)
    over true later = at (is_copy_of site ino x) k.1 later (record x { held = Some x.now }) (λ s e. (x.now, refl))
    over false later = at (is_copy_of site ino x) k.1 later x (λ s e. (s, e))

-- a copy is put in the place of one
some_put : (a b : ℕ) (new : HeldCopy) (cs : List HeldCopy) (site ino : ℕ) → new.site ≡ a → new.ino ≡ b → (is_copy_of site ino new ≡ true → (s : Stamp) × (new.held ≡ Some s)) → HasSome cs site ino → HasSome (put_first (is_copy_of a b) new cs) site ino
some_put a b new [] site ino h k has some = absurd (nothing some.0 some.1)
some_put a b new (x ∷ xs) site ino h k has some = at (is_copy_of a b x) refl (some_put a b new xs site ino h k has)
  where
    alike : is_copy_of a b x ≡ true → is_copy_of site ino x ≡ is_copy_of site ino new
    alike q = ap (λ (n : ℕ). (n == site) && (x.ino == ino)) (equal x.site a (and_first (x.site == a) _ q) ∙ sym h) ∙ ap (λ (n : ℕ). (new.site == site) && (n == ino)) (equal x.ino b (and_second (x.site == a) _ q) ∙ sym k)

    here : (p r : Bool) → is_copy_of site ino new ≡ p → r ≡ p → held_of (cond r (Some x) (copy_of xs site ino)) ≡ Some some.0 → (s : Stamp) × (held_of (cond p (Some new) (copy_of xs site ino)) ≡ Some s)
    here true r is same e = has is
    here false true is same e = absurd (true_false same)
    here false false is same e = (some.0, e)

    there : (p : Bool) → held_of (cond p (Some x) (copy_of xs site ino)) ≡ Some some.0 → (HasSome xs site ino → HasSome (put_first (is_copy_of a b) new xs) site ino) → (s : Stamp) × (held_of (cond p (Some x) (copy_of (put_first (is_copy_of a b) new xs) site ino)) ≡ Some s)
    there true e later = (some.0, e)
    there false e later = later (some.0, e)

    at : (q : Bool) → is_copy_of a b x ≡ q → (HasSome xs site ino → HasSome (put_first (is_copy_of a b) new xs) site ino) → HasSome (cond q (new ∷ xs) (x ∷ put_first (is_copy_of a b) new xs)) site ino
    at true q later = here (is_copy_of site ino new) (is_copy_of site ino x) refl (alike q) some.1
    at false q later = there (is_copy_of site ino x) some.1 later

-- ---- record by record ----

some_if : (b : Bool) (u t : TreeState) (site ino : ℕ) → HasSome u.copies site ino → HasSome t.copies site ino → HasSome (cond b u t).copies site ino
some_if true u t site ino x y = x
some_if false u t site ino x y = y

some_now : (t : TreeState) (f : FileId) (z : ℕ) (stamp : Stamp) (site ino : ℕ) → HasSome t.copies site ino → HasSome (has_now f z stamp t).copies site ino
some_now t f z stamp site ino k = over (f.group == t.group)
  where
    held : (b : Bool) → is_copy_of site ino (copy_now t z f.ino stamp) ≡ true → (s : Stamp) × (cond b (Some stamp) (held_at t z f.ino) ≡ Some s)
    held true same = (stamp, refl)
    held false same = (k.0, ap (λ (n : ℕ). held_at t n f.ino) (equal z site (and_first (z == site) _ same)) ∙ (ap (λ (n : ℕ). held_at t site n) (equal f.ino ino (and_second (z == site) _ same)) ∙ k.1))

    over : (b : Bool) → HasSome (cond b (with_copy (copy_now t z f.ino stamp) t.copies) t.copies) site ino
    over true = some_put z f.ino (copy_now t z f.ino stamp) t.copies site ino refl refl (held (is_inside t z)) k
    over false = k

some_rooted : (t : TreeState) (z site ino : ℕ) → HasSome t.copies site ino → HasSome (with_root t z) site ino
some_rooted t z site ino k = at (has_pack t.config t.group z && is_none (copy_of t.copies z 1))
  where
    at : (b : Bool) → HasSome (cond b (t.copies ++ record { site = z; ino = 1; now = format_stamp; held = None } ∷ []) t.copies) site ino
    at true = some_added t.copies (record { site = z; ino = 1; now = format_stamp; held = None } ∷ []) site ino k
    at false = k

some_next : (h : List Version) (t : TreeState) (r : Record) (site ino : ℕ) → HasSome t.copies site ino → HasSome (next h r t).copies site ino
some_next h t (says.Join s d m) site ino k = some_if (same_epoch d t.epoch) (joined s m t) (left s t) site ino (some_entered s (with_root t s) site ino (some_rooted t s site ino k)) k
some_next h t (says.Start d g copies) site ino k = some_if (same_epoch d t.epoch && (g == t.group)) (record t { started = true }) t site ino k k
some_next h t (says.Commit f s stamp parents content) site ino k = some_now t f s stamp site ino k
some_next h t (says.Adopt f s stamp) site ino k = some_now t f s stamp site ino k
some_next h t (says.Grant d call request i m f stamp ss) site ino k = some_if (same_epoch d t.epoch) (granted h (grant_of t call i m f ss) stamp t) t site ino k k
some_next h t (says.Refuse d call request i m f why) site ino k = some_if (same_epoch d t.epoch && ((f.group == t.group) && is_make m)) (record t { makes = without_make call t.makes }) t site ino k k
some_next h t (says.Act d i n o result) site ino k = some_if (same_epoch d t.epoch && is_granted_here t i) (acted h i o result t) t site ino k k
some_next h t (says.Release d i f stamp) site ino k = some_if (same_epoch d t.epoch && (f.group == t.group)) (released i f stamp t) t site ino k k
some_next h t r site ino k = k

-- ---- numbers ----

some_told : (c : Config) (n : ℕ) (x : Told) (before : Trace) (e : EpochId) (ss : ℕ) (f : FileId) → ((s : Stamp) × (held_in c before e ss f ≡ Some s)) → (s : Stamp) × (held_in c (onto_entries n x before) e ss f ≡ Some s)
some_told c n (Shown r) before e ss f k = some_next (history c before) (tree_of c e f.group before) r ss f.ino k
some_told c n _ before e ss f k = k

pub used_stays : (c : Config) (x : Line) (older : List Line) (e : EpochId) (ss : ℕ) (f : FileId) → IsUsed c older e ss f → IsUsed c (x ∷ older) e ss f
used_stays c x older e ss f (inl held) = inl (some_told c x.number x.told (entries older) e ss f held)
used_stays c x older e ss f (inr reserved) = inr (reserved.0, inr reserved.1)

pub full_stays : (c : Config) (x : Line) (older : List Line) (e : EpochId) (ss group : ℕ) → IsFull c older e ss group → IsFull c (x ∷ older) e ss group
full_stays c x older e ss group full = λ f same given. used_stays c x older e ss f (full f same given)
