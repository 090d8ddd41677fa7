-- What a site has of a file in an epoch: while it is inside, what it has now; and a site that has something there has joined.
use Rattle.std.proofs.Common.{◌≡◌, ℕ, ◌==◌, Bool, true, false, ◌&&◌, ◌||◌, cond, List, [], ◌∷◌, ◌++◌, map, Option, Some, None, refl, sym, ap, ◌∙◌, subst}
use Rattle.std.specs.Option.{is_none, option_map, option_or}
use Rattle.tree_laws.proofs.of_plain_facts.Numbers.{equal, equal_self}
use Rattle.tree_laws.proofs.of_plain_facts.Options.{none_some, some_same}
use Rattle.tree_laws.proofs.of_plain_facts.Tests.{and_first, and_second, or_second, true_false}
use Rattle.locus_ids.specs.declared.config.Config.{Config}
use Rattle.locus_ids.specs.declared.ids.EpochId.{EpochId}
use Rattle.locus_ids.specs.declared.ids.FileId.{FileId}
use Rattle.locus_ids.specs.declared.ids.Stamp.{Stamp}
use Rattle.locus_ids.specs.declared.sites.Members.{Members}
use Rattle.commit_graph.specs.declared.history.Version.{Version}
use Rattle.commit_graph.specs.Versions.{same_file}
use Rattle.trace_book.specs.Same.{same_epoch}
use Rattle.trace_book.specs.declared.record.Record.{Record}
use Rattle.trace_book.specs.declared.record.Record.TheVariants as says
use Rattle.tree_model.specs.declared.copy.HeldCopy.{HeldCopy}
use Rattle.tree_model.specs.Epochs.{epoch_of, has_joined, is_in}
use Rattle.tree_model.specs.Folds.{Trace}
use Rattle.tree_model.specs.Histories.{format_stamp, formatted, held, history}
use Rattle.tree_model.specs.Lists.{put_first}
use Rattle.tree_model.specs.Packs.{has_pack}
use Rattle.tree_model.specs.State.{TreeState, copy_of, held_at, held_of, is_copy_of, is_granted_here, is_inside, is_make, with_copy}
use Rattle.tree_model.specs.Tree.{acted, copy_now, entered, grant_of, granted, has_now, joined, left, next, released, tree_of, with_root, without_make}
use Rattle.tree_laws.proofs.Names.{same_epoch_eq, same_epoch_own}
use Rattle.tree_laws.proofs.Owing.{inside_is}
use Rattle.tree_laws.proofs.Orders.Alone.{tree_named}
use Rattle.tree_laws.proofs.Orders.Knowing.{tree_config}
use Rattle.tree_laws.proofs.Orders.Standing.{At}

-- the version of a copy that is now at its site
abbrev pub now_of : Option HeldCopy → Option Stamp
now_of None = None
now_of (Some x) = Some x.now

-- ---- lists of copies ----

pub copy_put : (new : HeldCopy) (cs : List HeldCopy) (s i : ℕ) → copy_of (with_copy new cs) s i ≡ cond (is_copy_of s i new) (Some new) (copy_of cs s i)
copy_put new [] s i = refl
copy_put new (x ∷ xs) s i = at (is_copy_of new.site new.ino x) refl (copy_put new xs s i)
  where
    alike : is_copy_of new.site new.ino x ≡ true → is_copy_of s i x ≡ is_copy_of s i new
    alike q = ap (λ (n : ℕ). (n == s) && (x.ino == i)) (equal x.site new.site (and_first (x.site == new.site) _ q)) ∙ ap (λ (n : ℕ). (new.site == s) && (n == i)) (equal x.ino new.ino (and_second (x.site == new.site) _ q))

    -- both are of this site and inode
    both : is_copy_of s i new ≡ true → is_copy_of s i x ≡ true → is_copy_of new.site new.ino x ≡ true
    both p q = subst (λ (n : ℕ). (x.site == n) && (x.ino == new.ino) ≡ true) (sym (equal new.site s (and_first (new.site == s) _ p)))
        (subst (λ (n : ℕ). (x.site == s) && (x.ino == n) ≡ true) (sym (equal new.ino i (and_second (new.site == s) _ p))) q)

    hit : (p q : Bool) → (q ≡ p) → cond p (Some new) (copy_of xs s i) ≡ cond p (Some new) (cond q (Some x) (copy_of xs s i))
    hit true q e = refl
    hit false true e = absurd (true_false e)
    hit false false e = refl

    miss : (p q : Bool) → is_copy_of s i new ≡ p → is_copy_of s i x ≡ q → is_copy_of new.site new.ino x ≡ false → cond q (Some x) (cond p (Some new) (copy_of xs s i)) ≡ cond p (Some new) (cond q (Some x) (copy_of xs s i))
    miss true true k l unlike = absurd (true_false (sym (both k l) ∙ unlike))
    miss true false k l unlike = refl
    miss false true k l unlike = refl
    miss false false k l unlike = refl

    at : (b : Bool) → is_copy_of new.site new.ino x ≡ b → copy_of (with_copy new xs) s i ≡ cond (is_copy_of s i new) (Some new) (copy_of xs s i)
        → copy_of (cond b (new ∷ xs) (x ∷ put_first (is_copy_of new.site new.ino) new xs)) s i ≡ cond (is_copy_of s i new) (Some new) (copy_of (x ∷ xs) s i)
    at true e later = hit (is_copy_of s i new) (is_copy_of s i x) (alike e)
    at false e later = ap (λ o. cond (is_copy_of s i x) (Some x) o) later ∙ miss (is_copy_of s i new) (is_copy_of s i x) refl refl e

pub copy_added : (cs : List HeldCopy) (x : HeldCopy) (s i : ℕ) → copy_of (cs ++ x ∷ []) s i ≡ option_or (copy_of cs s i) (cond (is_copy_of s i x) (Some x) None)
copy_added [] x s i = refl
copy_added (y ∷ ys) x s i = at (is_copy_of s i y) (copy_added ys x s i)
  where
    at : (b : Bool) → copy_of (ys ++ x ∷ []) s i ≡ option_or (copy_of ys s i) (cond (is_copy_of s i x) (Some x) None) → cond b (Some y) (copy_of (ys ++ x ∷ []) s i) ≡ option_or (cond b (Some y) (copy_of ys s i)) (cond (is_copy_of s i x) (Some x) None)
    at true later = refl
    at false later = later

entered_same : (z s i : ℕ) (x : HeldCopy) → is_copy_of s i (entered z x) ≡ is_copy_of s i x
entered_same z s i x = over (x.site == z)
  where
    over : (b : Bool) → is_copy_of s i (cond b (record x { held = Some x.now }) x) ≡ is_copy_of s i x
    over true = refl
    over false = refl

pub copy_entered : (z : ℕ) (cs : List HeldCopy) (s i : ℕ) → copy_of (map (entered z) cs) s i ≡ option_map (entered z) (copy_of cs s i)
copy_entered z [] s i = refl
copy_entered z (x ∷ xs) s i = ap (λ (b : Bool). cond b (Some (entered z x)) (copy_of (map (entered z) xs) s i)) (entered_same z s i x) ∙ at (is_copy_of s i x) (copy_entered z xs s i)
  where
    at : (b : Bool) → copy_of (map (entered z) xs) s i ≡ option_map (entered z) (copy_of xs s i) → cond b (Some (entered z x)) (copy_of (map (entered z) xs) s i) ≡ option_map (entered z) (cond b (Some x) (copy_of xs s i))
    at true later = refl
    at false later = later

-- what is found is a copy of the site
pub copy_found : (cs : List HeldCopy) (s i : ℕ) (x : HeldCopy) → copy_of cs s i ≡ Some x → is_copy_of s i x ≡ true
copy_found [] s i x e = absurd (none_some x e)
copy_found (y ∷ ys) s i x e = at (is_copy_of s i y) refl e (copy_found ys s i x)
  where
    at : (b : Bool) → is_copy_of s i y ≡ b → cond b (Some y) (copy_of ys s i) ≡ Some x → (copy_of ys s i ≡ Some x → is_copy_of s i x ≡ true) → is_copy_of s i x ≡ true
    at true k e later = subst (λ (z : HeldCopy). is_copy_of s i z ≡ true) (some_same y x e) k
    at false k e later = later e

-- ---- what a record does to a copy ----

-- the copy that a site has of an inode after a record
abbrev pub copy_after : Record → TreeState → ℕ → ℕ → Option HeldCopy
copy_after (says.Join z d m) t s i = cond (same_epoch d t.epoch) (option_map (entered z) (copy_of (with_root t z) s i)) (copy_of t.copies s i)
copy_after (says.Commit f z stamp parents content) t s i = cond (f.group == t.group) (cond ((z == s) && (f.ino == i)) (Some (copy_now t z f.ino stamp)) (copy_of t.copies s i)) (copy_of t.copies s i)
copy_after (says.Adopt f z stamp) t s i = cond (f.group == t.group) (cond ((z == s) && (f.ino == i)) (Some (copy_now t z f.ino stamp)) (copy_of t.copies s i)) (copy_of t.copies s i)
copy_after _ t s i = copy_of t.copies s i

copy_if : (b : Bool) (u t : TreeState) (s i : ℕ) → u.copies ≡ t.copies → copy_of (cond b u t).copies s i ≡ copy_of t.copies s i
copy_if true u t s i e = ap (λ (cs : List HeldCopy). copy_of cs s i) e
copy_if false u t s i e = refl

copy_has : (t : TreeState) (f : FileId) (z : ℕ) (stamp : Stamp) (s i : ℕ) → copy_of (has_now f z stamp t).copies s i ≡ cond (f.group == t.group) (cond ((z == s) && (f.ino == i)) (Some (copy_now t z f.ino stamp)) (copy_of t.copies s i)) (copy_of t.copies s i)
copy_has t f z stamp s i = over (f.group == t.group)
  where
    over : (b : Bool) → copy_of (cond b (with_copy (copy_now t z f.ino stamp) t.copies) t.copies) s i ≡ cond b (cond ((z == s) && (f.ino == i)) (Some (copy_now t z f.ino stamp)) (copy_of t.copies s i)) (copy_of t.copies s i)
    over true = copy_put (copy_now t z f.ino stamp) t.copies s i
    over false = refl

pub copy_next : (h : List Version) (t : TreeState) (r : Record) (s i : ℕ) → copy_of (next h r t).copies s i ≡ copy_after r t s i
copy_next h t (says.Join z d m) s i = over (same_epoch d t.epoch)
  where
    over : (b : Bool) → copy_of (cond b (joined z m t) (left z t)).copies s i ≡ cond b (option_map (entered z) (copy_of (with_root t z) s i)) (copy_of t.copies s i)
    over true = copy_entered z (with_root t z) s i
    over false = refl
copy_next h t (says.Start d g copies) s i = copy_if (same_epoch d t.epoch && (g == t.group)) (record t { started = true }) t s i refl
copy_next h t (says.Commit f z stamp parents content) s i = copy_has t f z stamp s i
copy_next h t (says.Adopt f z stamp) s i = copy_has t f z stamp s i
copy_next h t (says.Grant d call request j m f stamp ss) s i = copy_if (same_epoch d t.epoch) (granted h (grant_of t call j m f ss) stamp t) t s i refl
copy_next h t (says.Refuse d call request j m f why) s i = copy_if (same_epoch d t.epoch && ((f.group == t.group) && is_make m)) (record t { makes = without_make call t.makes }) t s i refl
copy_next h t (says.Act d j n o result) s i = copy_if (same_epoch d t.epoch && is_granted_here t j) (acted h j o result t) t s i refl
copy_next h t (says.Release d j f stamp) s i = copy_if (same_epoch d t.epoch && (f.group == t.group)) (released j f stamp t) t s i refl
copy_next h t r s i = refl

-- a site that joins has what it has now, and of a root first that of the format
root_copy : (c : Config) (t : TreeState) (z i : ℕ) → t.config ≡ c → now_of (copy_of (with_root t z) z i) ≡ option_or (now_of (copy_of t.copies z i)) (formatted c z (At t.group i))
root_copy c t z i is = subst (λ (d : Config). now_of (copy_of (with_root t z) z i) ≡ option_or (now_of (copy_of t.copies z i)) (formatted d z (At t.group i))) is (over (has_pack t.config t.group z) (copy_of t.copies z 1) refl)
  where
    root : HeldCopy
    root = record { site = z; ino = 1; now = format_stamp; held = None }

    or_none : (o : Option Stamp) → o ≡ option_or o None
    or_none None = refl
    or_none (Some s) = refl

    now_or : (o : Option HeldCopy) (b : Bool) → now_of (option_or o (cond b (Some root) None)) ≡ option_or (now_of o) (cond b (Some format_stamp) None)
    now_or None true = refl
    now_or None false = refl
    now_or (Some x) b = refl

    -- the inode is the root's or another one
    one : (n : ℕ) → (1 == n) ≡ (n == 1)
    one n = at (1 == n) (n == 1) refl refl
      where
        back : (a b : ℕ) → (a == b) ≡ true → (b == a) ≡ true
        back a b e = subst (λ (k : ℕ). (k == a) ≡ true) (equal a b e) (equal_self a)

        at : (x y : Bool) → (1 == n) ≡ x → (n == 1) ≡ y → x ≡ y
        at true true e f = refl
        at true false e f = absurd (true_false (sym (back 1 n e) ∙ f))
        at false true e f = absurd (true_false (sym (back n 1 f) ∙ e))
        at false false e f = refl

    -- what is there of the root is found at its inode
    there : (x : HeldCopy) → copy_of t.copies z 1 ≡ Some x → (b : Bool) → (i == 1) ≡ b → now_of (copy_of t.copies z i) ≡ option_or (now_of (copy_of t.copies z i)) (cond (b && true) (Some format_stamp) None)
    there x e true k = subst (λ (n : ℕ). now_of (copy_of t.copies z n) ≡ option_or (now_of (copy_of t.copies z n)) (Some format_stamp)) (sym (equal i 1 k)) (subst (λ (o : Option HeldCopy). now_of o ≡ option_or (now_of o) (Some format_stamp)) (sym e) refl)
    there x e false k = or_none (now_of (copy_of t.copies z i))

    no_pack : (b : Bool) → now_of (copy_of t.copies z i) ≡ option_or (now_of (copy_of t.copies z i)) (cond (b && false) (Some format_stamp) None)
    no_pack true = or_none (now_of (copy_of t.copies z i))
    no_pack false = or_none (now_of (copy_of t.copies z i))

    over : (p : Bool) (o : Option HeldCopy) → copy_of t.copies z 1 ≡ o → now_of (copy_of (cond (p && is_none o) (t.copies ++ root ∷ []) t.copies) z i) ≡ option_or (now_of (copy_of t.copies z i)) (cond ((i == 1) && p) (Some format_stamp) None)
    over true None e = ap now_of (copy_added t.copies root z i)
        ∙ (ap (λ (b : Bool). now_of (option_or (copy_of t.copies z i) (cond (b && (1 == i)) (Some root) None))) (equal_self z)
        ∙ (ap (λ (b : Bool). now_of (option_or (copy_of t.copies z i) (cond b (Some root) None))) (one i)
        ∙ (now_or (copy_of t.copies z i) (i == 1) ∙ and_true (i == 1))))
      where
        and_true : (b : Bool) → option_or (now_of (copy_of t.copies z i)) (cond b (Some format_stamp) None) ≡ option_or (now_of (copy_of t.copies z i)) (cond (b && true) (Some format_stamp) None)
        and_true true = refl
        and_true false = refl
    over true (Some x) e = there x e (i == 1) refl
    over false o e = no_pack (i == 1)

-- nothing of another site changes when one joins
pub join_other : (t : TreeState) (z s i : ℕ) → (z == s) ≡ false → option_map (entered z) (copy_of (with_root t z) s i) ≡ copy_of t.copies s i
join_other t z s i other = ap (option_map (entered z)) (rooted (has_pack t.config t.group z && is_none (copy_of t.copies z 1))) ∙ same (copy_of t.copies s i) refl
  where
    root : HeldCopy
    root = record { site = z; ino = 1; now = format_stamp; held = None }

    or_none : (o : Option HeldCopy) → option_or o None ≡ o
    or_none None = refl
    or_none (Some x) = refl

    rooted : (b : Bool) → copy_of (cond b (t.copies ++ root ∷ []) t.copies) s i ≡ copy_of t.copies s i
    rooted true = copy_added t.copies root s i ∙ (ap (λ (b : Bool). option_or (copy_of t.copies s i) (cond (b && (1 == i)) (Some root) None)) other ∙ or_none (copy_of t.copies s i))
    rooted false = refl

    apart : (x : HeldCopy) → is_copy_of s i x ≡ true → (b : Bool) → (x.site == z) ≡ b → b ≡ false
    apart x k true e = absurd (true_false (sym (subst (λ (n : ℕ). (n == s) ≡ true) (equal x.site z e) (and_first (x.site == s) _ k)) ∙ other))
    apart x k false e = refl

    same : (o : Option HeldCopy) → copy_of t.copies s i ≡ o → option_map (entered z) o ≡ o
    same None e = refl
    same (Some x) e = ap (λ (b : Bool). Some (cond b (record x { held = Some x.now }) x)) (apart x (copy_found t.copies s i x e) (x.site == z) refl)

-- and of the site that joins all that it has now is there
join_own : (t : TreeState) (z i : ℕ) → held_of (option_map (entered z) (copy_of (with_root t z) z i)) ≡ now_of (copy_of (with_root t z) z i)
join_own t z i = same (copy_of (with_root t z) z i) refl
  where
    same : (o : Option HeldCopy) → copy_of (with_root t z) z i ≡ o → held_of (option_map (entered z) o) ≡ now_of o
    same None e = refl
    same (Some x) e = ap (λ (b : Bool). (cond b (record x { held = Some x.now }) x).held) (and_first (x.site == z) _ (copy_found (with_root t z) z i x e))

now_entered : (z : ℕ) (o : Option HeldCopy) → now_of (option_map (entered z) o) ≡ now_of o
now_entered z None = refl
now_entered z (Some x) = over (x.site == z)
  where
    over : (b : Bool) → ◌≡◌ {A = Option Stamp} (Some (cond b (record x { held = Some x.now }) x).now) (Some x.now)
    over true = refl
    over false = refl

-- ---- what a site has, now and in the epoch ----

pub epoch_joined : (before : Trace) (s : ℕ) (e : EpochId) → epoch_of before s ≡ Some e → has_joined before s e ≡ true
epoch_joined [] s e k = absurd (none_some e k)
epoch_joined (r ∷ before) s e k = step r.what k (epoch_joined before s e)
  where
    gone : (b : Bool) → cond b None (epoch_of before s) ≡ Some e → epoch_of before s ≡ Some e
    gone true k = absurd (none_some e k)
    gone false k = k

    came : (z : ℕ) (d : EpochId) (b : Bool) → cond b (Some d) (epoch_of before s) ≡ Some e → (epoch_of before s ≡ Some e → has_joined before s e ≡ true) → (b && same_epoch d e) || has_joined before s e ≡ true
    came z d true k later = ap (λ (b : Bool). b || has_joined before s e) (subst (λ (y : EpochId). same_epoch d y ≡ true) (some_same d e k) (same_epoch_own d))
    came z d false k later = later k

    step : (r : Record) → epoch_of (record { line = 0; what = r } ∷ before) s ≡ Some e → (epoch_of before s ≡ Some e → has_joined before s e ≡ true) → has_joined (record { line = 0; what = r } ∷ before) s e ≡ true
    step (says.Join z d m) k later = came z d (z == s) k later
    step (says.Leave z d) k later = later (gone (z == s) k)
    step (says.Stopped z cause) k later = later (gone (z == s) k)
    step (says.Up z boot) k later = later (gone (z == s) k)
    step r k later = later k

pub joined_more : (r : Record) (line : ℕ) (before : Trace) (s : ℕ) (e : EpochId) → has_joined before s e ≡ true → has_joined (record { line = line; what = r } ∷ before) s e ≡ true
joined_more (says.Join z d m) line before s e k = or_second ((z == s) && same_epoch d e) (has_joined before s e) k
joined_more r line before s e k = k

-- the copy of a site in a tree is what the site has, and in the epoch what it has while it is there
pub record CopyIs (c : Config) (e : EpochId) (g : ℕ) (before : Trace) (s i : ℕ) (o : Option HeldCopy) : Type 0 where
  pub now_is : option_or (now_of o) (formatted c s (At g i)) ≡ held c before s (At g i)
  pub held_is : epoch_of before s ≡ Some e → held_of o ≡ held c before s (At g i)
  pub joined : (v : Stamp) → held_of o ≡ Some v → has_joined before s e ≡ true

module _ (c : Config) (e : EpochId) (g : ℕ) (before : Trace) (s i : ℕ) (old : CopyIs c e g before s i (copy_of (tree_of c e g before).copies s i)) where
  abbrev t : TreeState
  t = tree_of c e g before

  abbrev Then : Record → Option HeldCopy → Type 0
  Then r o = CopyIs c e g (record { line = 0; what = r } ∷ before) s i o

  gone : (b : Bool) → cond b None (epoch_of before s) ≡ Some e → epoch_of before s ≡ Some e
  gone true k = absurd (none_some e k)
  gone false k = k

  -- what a site comes to have
  written_is : (f : FileId) (z : ℕ) (stamp : Stamp) → (a b d : Bool) → (f.ino == i) ≡ b → (z == s) ≡ d →
      ((option_or (now_of (cond a (cond (d && b) (Some (copy_now t z f.ino stamp)) (copy_of t.copies s i)) (copy_of t.copies s i))) (formatted c s (At g i)) ≡ cond ((a && b) && d) (Some stamp) (held c before s (At g i)))
      × ((epoch_of before s ≡ Some e → held_of (cond a (cond (d && b) (Some (copy_now t z f.ino stamp)) (copy_of t.copies s i)) (copy_of t.copies s i)) ≡ cond ((a && b) && d) (Some stamp) (held c before s (At g i)))
      × ((v : Stamp) → held_of (cond a (cond (d && b) (Some (copy_now t z f.ino stamp)) (copy_of t.copies s i)) (copy_of t.copies s i)) ≡ Some v → has_joined before s e ≡ true)))
  written_is f z stamp true true true k l = (refl, ((λ inside. here inside), (λ v h. there (is_inside t z) refl v h)))
    where
      site_is : z ≡ s
      site_is = equal z s l

      here : epoch_of before s ≡ Some e → cond (is_inside t z) (Some stamp) (held_at t z f.ino) ≡ Some stamp
      here inside = ap (λ (b : Bool). cond b (Some stamp) (held_at t z f.ino)) (inside_is c before e g z ∙ (ap (λ (n : ℕ). is_in (epoch_of before n) e) site_is ∙ (ap (λ (o : Option EpochId). is_in o e) inside ∙ same_epoch_own e)))

      in_epoch : (o : Option EpochId) → epoch_of before s ≡ o → is_in o e ≡ true → has_joined before s e ≡ true
      in_epoch None q m = absurd (true_false (sym m))
      in_epoch (Some d) q m = epoch_joined before s e (q ∙ ap (λ (y : EpochId). Some y) (same_epoch_eq d e m))

      there : (b : Bool) → is_inside t z ≡ b → (v : Stamp) → cond b (Some stamp) (held_at t z f.ino) ≡ Some v → has_joined before s e ≡ true
      there true q v h = in_epoch (epoch_of before s) refl (sym (ap (λ (n : ℕ). is_in (epoch_of before n) e) site_is) ∙ (sym (inside_is c before e g z) ∙ q))
      there false q v h = old.joined v (sym (ap (λ (n : ℕ). held_at t n f.ino) site_is ∙ ap (λ (n : ℕ). held_at t s n) (equal f.ino i k)) ∙ h)
  written_is f z stamp true true false k l = (old.now_is, (old.held_is, old.joined))
  written_is f z stamp true false true k l = (old.now_is, (old.held_is, old.joined))
  written_is f z stamp true false false k l = (old.now_is, (old.held_is, old.joined))
  written_is f z stamp false b d k l = (old.now_is, (old.held_is, old.joined))

  written : (f : FileId) (z : ℕ) (stamp : Stamp) → (r : Record) → held c (record { line = 0; what = r } ∷ before) s (At g i) ≡ cond (same_file f (At g i) && (z == s)) (Some stamp) (held c before s (At g i)) →
      epoch_of (record { line = 0; what = r } ∷ before) s ≡ epoch_of before s → has_joined (record { line = 0; what = r } ∷ before) s e ≡ has_joined before s e →
      Then r (cond (f.group == g) (cond ((z == s) && (f.ino == i)) (Some (copy_now t z f.ino stamp)) (copy_of t.copies s i)) (copy_of t.copies s i))
  written f z stamp r held_is epoch_is joined_is = (let k = written_is f z stamp (f.group == g) (f.ino == i) (z == s) refl refl in record {
    now_is = k.0 ∙ sym held_is;
    held_is = λ inside. k.1.0 (sym epoch_is ∙ inside) ∙ sym held_is;
    joined = λ v h. joined_is ∙ k.1.1 v h;
  })

  joins : (z : ℕ) (d : EpochId) (m : Members) → (a b : Bool) → same_epoch d e ≡ a → (z == s) ≡ b → Then (says.Join z d m) (cond a (option_map (entered z) (copy_of (with_root t z) s i)) (copy_of t.copies s i))
  joins z d m true true k l = record {
    now_is = subst (λ (o : Option Stamp). option_or o (formatted c s (At g i)) ≡ held c before s (At g i)) (sym (now_entered z (copy_of (with_root t z) s i) ∙ now)) (twice (now_of (copy_of t.copies s i)) (formatted c s (At g i)) ∙ old.now_is);
    held_is = λ inside. own ∙ (now ∙ old.now_is);
    joined = λ v h. ap (λ (x : Bool). x && same_epoch d e || has_joined before s e) l ∙ ap (λ (x : Bool). x || has_joined before s e) k;
  }
    where
      twice : (o p : Option Stamp) → option_or (option_or o p) p ≡ option_or o p
      twice None None = refl
      twice None (Some x) = refl
      twice (Some x) p = refl

      now : now_of (copy_of (with_root t z) s i) ≡ option_or (now_of (copy_of t.copies s i)) (formatted c s (At g i))
      now = subst (λ (n : ℕ). now_of (copy_of (with_root t z) n i) ≡ option_or (now_of (copy_of t.copies n i)) (formatted c n (At g i))) (equal z s l)
          (subst (λ (n : ℕ). now_of (copy_of (with_root t z) z i) ≡ option_or (now_of (copy_of t.copies z i)) (formatted c z (At n i))) (tree_named c e g before).1 (root_copy c t z i (tree_config c e g before)))

      own : held_of (option_map (entered z) (copy_of (with_root t z) s i)) ≡ now_of (copy_of (with_root t z) s i)
      own = subst (λ (n : ℕ). held_of (option_map (entered z) (copy_of (with_root t z) n i)) ≡ now_of (copy_of (with_root t z) n i)) (equal z s l) (join_own t z i)
  joins z d m true false k l = subst (Then (says.Join z d m)) (sym (join_other t z s i l)) (record {
    now_is = old.now_is;
    held_is = λ inside. old.held_is (sym (ap (λ (b : Bool). cond b (Some d) (epoch_of before s)) l) ∙ inside);
    joined = λ v h. joined_more (says.Join z d m) 0 before s e (old.joined v h);
  })
  joins z d m false b k l = record {
    now_is = old.now_is;
    held_is = λ inside. old.held_is (other b inside l);
    joined = λ v h. joined_more (says.Join z d m) 0 before s e (old.joined v h);
  }
    where
      other : (b : Bool) → cond (z == s) (Some d) (epoch_of before s) ≡ Some e → (z == s) ≡ b → epoch_of before s ≡ Some e
      other true inside l = absurd (true_false (sym (subst (λ (y : EpochId). same_epoch d y ≡ true) (some_same d e (sym (ap (λ (x : Bool). cond x (Some d) (epoch_of before s)) l) ∙ inside)) (same_epoch_own d)) ∙ k))
      other false inside l = sym (ap (λ (x : Bool). cond x (Some d) (epoch_of before s)) l) ∙ inside

  after : (r : Record) → Then r (copy_after r t s i)
  after (says.Join z d m) = subst (λ (y : EpochId). Then (says.Join z d m) (cond (same_epoch d y) (option_map (entered z) (copy_of (with_root t z) s i)) (copy_of t.copies s i))) (sym (tree_named c e g before).0) (joins z d m (same_epoch d e) (z == s) refl refl)
  after (says.Commit f z stamp parents content) = subst (λ (n : ℕ). Then (says.Commit f z stamp parents content) (cond (f.group == n) (cond ((z == s) && (f.ino == i)) (Some (copy_now t z f.ino stamp)) (copy_of t.copies s i)) (copy_of t.copies s i))) (sym (tree_named c e g before).1)
      (written f z stamp (says.Commit f z stamp parents content) refl refl refl)
  after (says.Adopt f z stamp) = subst (λ (n : ℕ). Then (says.Adopt f z stamp) (cond (f.group == n) (cond ((z == s) && (f.ino == i)) (Some (copy_now t z f.ino stamp)) (copy_of t.copies s i)) (copy_of t.copies s i))) (sym (tree_named c e g before).1)
      (written f z stamp (says.Adopt f z stamp) refl refl refl)
  after (says.Leave z d) = record { now_is = old.now_is; held_is = λ inside. old.held_is (gone (z == s) inside); joined = old.joined }
  after (says.Stopped z cause) = record { now_is = old.now_is; held_is = λ inside. old.held_is (gone (z == s) inside); joined = old.joined }
  after (says.Up z boot) = record { now_is = old.now_is; held_is = λ inside. old.held_is (gone (z == s) inside); joined = old.joined }
  after r = record { now_is = old.now_is; held_is = old.held_is; joined = old.joined }

pub copies_are : (c : Config) (trace : Trace) (e : EpochId) (g s i : ℕ) → CopyIs c e g trace s i (copy_of (tree_of c e g trace).copies s i)
copies_are c [] e g s i = record { now_is = refl; held_is = λ inside. absurd (none_some e inside); joined = λ v h. absurd (none_some v h) }
copies_are c (r ∷ before) e g s i = (let k = after c e g before s i (copies_are c before e g s i) r.what in
    subst (CopyIs c e g (r ∷ before) s i) (sym (copy_next (history c before) (tree_of c e g before) r.what s i)) (record { now_is = k.now_is; held_is = k.held_is; joined = k.joined }))
