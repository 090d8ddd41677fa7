-- What a site has of a file in an epoch it has some version of for good, so a number that is used there stays used.
use Rattle.std.proofs.Common.{◌≡◌, ℕ, ◌==◌, Bool, true, false, cond, ◌&&◌, List, [], ◌∷◌, ◌++◌, map, Option, Some, None, refl, sym, ◌∙◌, ap, subst, arith, ◌⊎◌, inl, inr}
use Rattle.std.specs.List.{find}
use Rattle.std.specs.Option.{is_none, option_map}
use Rattle.std.proofs.lemmas.Bool.Decides.{nat_tests}
use Rattle.the_run.proofs.of_plain_facts.Options.{none_some}
use Rattle.locus_ids.specs.declared.config.Config.{Config}
use Rattle.locus_ids.specs.declared.ids.EpochId.{EpochId}
use Rattle.locus_ids.specs.declared.ids.FileId.{FileId}
use Rattle.locus_ids.specs.declared.ids.Stamp.{Stamp}
use Rattle.commit_graph.specs.declared.history.Version.{Version}
use Rattle.trace_book.specs.Same.{same_epoch}
use Rattle.trace_book.specs.declared.record.Record.{Record}
use Rattle.trace_book.specs.declared.record.Record.TheVariants as says
use Rattle.the_run.specs.of_role_steps.Views.{Told, Shown}
use Rattle.the_run.specs.Worlds.{Line}
use Rattle.lawful_trace.specs.of_tree_model.declared.copy.HeldCopy.{HeldCopy}
use Rattle.lawful_trace.specs.of_tree_model.Folds.{Trace}
use Rattle.lawful_trace.specs.of_tree_model.Histories.{history, format_stamp}
use Rattle.lawful_trace.specs.of_tree_model.Lists.{put_first}
use Rattle.lawful_trace.specs.of_tree_model.Packs.{has_pack}
use Rattle.lawful_trace.specs.of_tree_model.State.{TreeState, copy_of, held_of, held_at, is_copy_of, with_copy, is_inside, is_granted_here, is_make}
use Rattle.lawful_trace.specs.of_tree_model.Tree.{next, tree_of, joined, left, with_root, entered, copy_now, has_now, grant_of, granted, acted, released, without_make}
use Rattle.tree_laws.specs.Printed.{entries, onto_entries}
use Rattle.tree_laws.specs.Instances.{IsUsed}
use Rattle.tree_laws.proofs.Finds.{find_added}

-- the site has some version of the inode, in these copies
abbrev Holds : ℕ → ℕ → List HeldCopy → Type 0
Holds s ino cs = (stamp : Stamp) × (held_of (copy_of cs s ino) ≡ Some stamp)

-- ---- lists of copies ----

find_mapped : {A : Type 0} (p : A → Bool) (g : A → A) → ((x : A) → p (g x) ≡ p x) → (xs : List A) → find p (map g xs) ≡ option_map g (find p xs)
find_mapped p g same [] = refl
find_mapped p g same (x ∷ xs) = at (find_mapped p g same xs) (p x) refl
  where
    at : find p (map g xs) ≡ option_map g (find p xs) → (b : Bool) → p x ≡ b → find p (map g (x ∷ xs)) ≡ option_map g (find p (x ∷ xs))
    at later true e = rw (same x) (rw e refl)
    at later false e = rw (same x) (rw e later)

put_found : {A : Type 0} (p q : A → Bool) (new : A) → ((x : A) → q x ≡ true → p x ≡ p new) → (xs : List A) → (find p (put_first q new xs) ≡ find p xs) ⊎ ((find p (put_first q new xs) ≡ Some new) × (p new ≡ true))
put_found p q new same [] = at (p new) refl
  where
    at : (b : Bool) → p new ≡ b → (cond (p new) (Some new) None ≡ None) ⊎ ((cond (p new) (Some new) None ≡ Some new) × (p new ≡ true))
    at true e = inr (rw e refl, e)
    at false e = inl (rw e refl)
put_found p q new same (x ∷ xs) = at (put_found p q new same xs) (q x) (p x) (p new) refl refl refl
  where
    skip : p x ≡ false → q x ≡ false → (find p (put_first q new xs) ≡ find p xs) ⊎ ((find p (put_first q new xs) ≡ Some new) × (p new ≡ true)) → (find p (put_first q new (x ∷ xs)) ≡ find p (x ∷ xs)) ⊎ ((find p (put_first q new (x ∷ xs)) ≡ Some new) × (p new ≡ true))
    skip e f (inl k) = inl (rw f (rw e k))
    skip e f (inr k) = inr (rw f (rw e k.0), k.1)

    at : (find p (put_first q new xs) ≡ find p xs) ⊎ ((find p (put_first q new xs) ≡ Some new) × (p new ≡ true)) → (b a d : Bool) → q x ≡ b → p x ≡ a → p new ≡ d →
        (find p (put_first q new (x ∷ xs)) ≡ find p (x ∷ xs)) ⊎ ((find p (put_first q new (x ∷ xs)) ≡ Some new) × (p new ≡ true))
    at later true a true f e g = inr (rw f (rw g refl), g)
    at later true a false f e g = inl (rw f (rw g (rw (same x f ∙ g) refl)))
    at later false true d f e g = inl (rw f (rw e refl))
    at later false false d f e g = skip e f later

-- ---- joins ----

entered_holds : (site : ℕ) (stamp : Stamp) (o : Option HeldCopy) → held_of o ≡ Some stamp → (at : Stamp) × (held_of (option_map (entered site) o) ≡ Some at)
entered_holds site stamp None h = absurd (none_some stamp h)
entered_holds site stamp (Some c) h = over (c.site == site)
  where
    over : (b : Bool) → (at : Stamp) × ((cond b (record c { held = Some c.now }) c).held ≡ Some at)
    over true = (c.now, refl)
    over false = (stamp, h)

entered_same : (site s ino : ℕ) (c : HeldCopy) → is_copy_of s ino (entered site c) ≡ is_copy_of s ino c
entered_same site s ino c = over (c.site == site)
  where
    over : (b : Bool) → is_copy_of s ino (cond b (record c { held = Some c.now }) c) ≡ is_copy_of s ino c
    over true = refl
    over false = refl

rooted : (t : TreeState) (site s ino : ℕ) → Holds s ino t.copies → Holds s ino (with_root t site)
rooted t site s ino h = over (has_pack t.config t.group site && is_none (copy_of t.copies site 1))
  where
    added : (o : Option HeldCopy) → copy_of t.copies s ino ≡ o → held_of o ≡ Some h.0 → Holds s ino (t.copies ++ record { site = site; ino = 1; now = format_stamp; held = None } ∷ [])
    added None e k = absurd (none_some h.0 k)
    added (Some c) e k = (h.0, ap held_of (find_added (is_copy_of s ino) t.copies (record { site = site; ino = 1; now = format_stamp; held = None } ∷ []) c e) ∙ k)

    over : (b : Bool) → Holds s ino (cond b (t.copies ++ record { site = site; ino = 1; now = format_stamp; held = None } ∷ []) t.copies)
    over true = added (copy_of t.copies s ino) refl h.1
    over false = h

joined_holds : (t : TreeState) (site s ino : ℕ) → Holds s ino t.copies → Holds s ino (map (entered site) (with_root t site))
joined_holds t site s ino h = (let r : Holds s ino (with_root t site) = rooted t site s ino h in let k : (at : Stamp) × (held_of (option_map (entered site) (copy_of (with_root t site) s ino)) ≡ Some at) = entered_holds site r.0 (copy_of (with_root t site) s ino) r.1 in
    (k.0, ap held_of (find_mapped (is_copy_of s ino) (entered site) (entered_same site s ino) (with_root t site)) ∙ k.1))

-- ---- commits and adoptions ----

now_holds : (t : TreeState) (f : FileId) (site s ino : ℕ) (stamp : Stamp) → Holds s ino t.copies → Holds s ino (has_now f site stamp t).copies
now_holds t f site s ino stamp h = over (f.group == t.group)
  where
    new : HeldCopy
    new = copy_now t site f.ino stamp

    same : (x : HeldCopy) → is_copy_of site f.ino x ≡ true → is_copy_of s ino x ≡ is_copy_of s ino new
    same x k = ap (λ (m : ℕ). (m == s) && (x.ino == ino)) (first k) ∙ ap (λ (m : ℕ). (site == s) && (m == ino)) (second k)
      where
        first : is_copy_of site f.ino x ≡ true → x.site ≡ site
        first k = grind (arith, nat_tests)

        second : is_copy_of site f.ino x ≡ true → x.ino ≡ f.ino
        second k = grind (arith, nat_tests)

    held : is_copy_of s ino new ≡ true → (at : Stamp) × (new.held ≡ Some at)
    held k = inside (is_inside t site)
      where
        site_is : site ≡ s
        site_is = grind (arith, nat_tests, k)

        ino_is : f.ino ≡ ino
        ino_is = grind (arith, nat_tests, k)

        inside : (b : Bool) → (at : Stamp) × (cond b (Some stamp) (held_at t site f.ino) ≡ Some at)
        inside true = (stamp, refl)
        inside false = (h.0, ap (λ (m : ℕ). held_at t m f.ino) site_is ∙ (ap (held_at t s) ino_is ∙ h.1))

    put : (find (is_copy_of s ino) (put_first (is_copy_of site f.ino) new t.copies) ≡ find (is_copy_of s ino) t.copies) ⊎ ((find (is_copy_of s ino) (put_first (is_copy_of site f.ino) new t.copies) ≡ Some new) × (is_copy_of s ino new ≡ true)) → Holds s ino (with_copy new t.copies)
    put (inl e) = (h.0, ap held_of e ∙ h.1)
    put (inr e) = (let k : (at : Stamp) × (new.held ≡ Some at) = held e.1 in (k.0, ap held_of e.0 ∙ k.1))

    over : (b : Bool) → Holds s ino (cond b (with_copy new t.copies) t.copies)
    over true = put (put_found (is_copy_of s ino) (is_copy_of site f.ino) new same t.copies)
    over false = h

-- ---- record by record ----

keeps : (s ino : ℕ) (b : Bool) (u t : TreeState) → u.copies ≡ t.copies → Holds s ino t.copies → Holds s ino (cond b u t).copies
keeps s ino true u t e h = subst (Holds s ino) (sym e) h
keeps s ino false u t e h = h

holds_record : (h : List Version) (r : Record) (t : TreeState) (s ino : ℕ) → Holds s ino t.copies → Holds s ino (next h r t).copies
holds_record h (says.Join site e m) t s ino k = over (same_epoch e t.epoch)
  where
    over : (b : Bool) → Holds s ino (cond b (joined site m t) (left site t)).copies
    over true = joined_holds t site s ino k
    over false = k
holds_record h (says.Start e group copies) t s ino k = keeps s ino (same_epoch e t.epoch && (group == t.group)) (record t { started = true }) t refl k
holds_record h (says.Grant e call request i m f stamp ss) t s ino k = keeps s ino (same_epoch e t.epoch) (granted h (grant_of t call i m f ss) stamp t) t refl k
holds_record h (says.Refuse e call request i m f why) t s ino k = keeps s ino (same_epoch e t.epoch && ((f.group == t.group) && is_make m)) (record t { makes = without_make call t.makes }) t refl k
holds_record h (says.Act e i n o result) t s ino k = keeps s ino (same_epoch e t.epoch && is_granted_here t i) (acted h i o result t) t refl k
holds_record h (says.Release e i f stamp) t s ino k = keeps s ino (same_epoch e t.epoch && (f.group == t.group)) (released i f stamp t) t refl k
holds_record h (says.Commit f site stamp parents content) t s ino k = now_holds t f site s ino stamp k
holds_record h (says.Adopt f site stamp) t s ino k = now_holds t f site s ino stamp k
holds_record h _ t s ino k = k

holds_told : (c : Config) (n : ℕ) (x : Told) (before : Trace) (e : EpochId) (g s ino : ℕ) → Holds s ino (tree_of c e g before).copies → Holds s ino (tree_of c e g (onto_entries n x before)).copies
holds_told c n (Shown r) before e g s ino k = holds_record (history c before) r (tree_of c e g before) s ino k
holds_told c n _ before e g s ino k = k

-- a number that is used stays used
pub used_stays : (c : Config) (n : ℕ) (x : Told) (older : List Line) (e : EpochId) (site : ℕ) (f : FileId) → IsUsed c older e site f → IsUsed c (record { number = n; told = x } ∷ older) e site f
used_stays c n x older e site f (inl h) = inl (holds_told c n x (entries older) e f.group site f.ino h)
used_stays c n x older e site f (inr r) = inr (r.0, inr r.1)
