-- Before a group starts, what the tree knows of it is what the sites that have joined hold of it: each brought it, and has it still.
use Rattle.std.proofs.Common.{◌≡◌, ℕ, ◌==◌, Bool, true, false, ◌&&◌, cond, List, [], ◌∷◌, filter, Option, Some, refl, sym, ◌∙◌, ap, subst, inl, inr}
use Rattle.std.specs.List.{AllByRecursion}
use Rattle.std.specs.Option.{option_map}
use Rattle.role_steps.proofs.of_plain_facts.Numbers.{equal}
use Rattle.role_steps.proofs.of_plain_facts.Tests.{and_first, and_second, true_false}
use Rattle.locus_ids.specs.declared.config.Config.{Config}
use Rattle.locus_ids.specs.declared.ids.Brought.{Brought}
use Rattle.locus_ids.specs.declared.ids.EpochId.{EpochId}
use Rattle.locus_ids.specs.declared.ids.FileId.{FileId}
use Rattle.locus_ids.specs.declared.ids.Serial.{Serial}
use Rattle.locus_ids.specs.declared.ids.Stamp.{Stamp}
use Rattle.locus_ids.specs.declared.sites.Members.{Members}
use Rattle.trace_book.specs.Same.{same_epoch}
use Rattle.trace_book.specs.declared.record.Record.{Record}
use Rattle.trace_book.specs.declared.record.Record.TheVariants as says
use Rattle.role_steps.specs.Views.{Told, Shown}
use Rattle.the_run.specs.Kept.{Among}
use Rattle.the_run.specs.Worlds.{Line}
use Rattle.tree_model.specs.declared.copy.HeldCopy.{HeldCopy}
use Rattle.tree_model.specs.Epochs.{has_joined}
use Rattle.tree_model.specs.Folds.{Trace}
use Rattle.tree_model.specs.Histories.{history}
use Rattle.tree_model.specs.Packs.{has_pack}
use Rattle.tree_model.specs.State.{TreeState, copy_of, held_at, held_of, is_granted_here, is_make, with_all, with_brought}
use Rattle.tree_model.specs.Tree.{acted, entered, grant_of, granted, joined, left, next, released, tree_of, with_root, without_make}
use Rattle.lawful_trace.specs.TreeRows.{granted_group}
use Rattle.tree_laws.specs.Following.{IsFollowed, MayTell}
use Rattle.tree_laws.specs.Printed.{entries}
use Rattle.tree_laws.proofs.Kinship.{started_stays}
use Rattle.tree_laws.proofs.Names.{same_epoch_eq}
use Rattle.tree_laws.proofs.Rows.{followed_rows}
use Rattle.store_laws.proofs.of_tree_laws.Orders.Alone.{tree_named}
use Rattle.store_laws.proofs.of_tree_laws.Orders.Started.{open_started}
use Rattle.store_laws.proofs.Holdings.Copies.{copies_are, copy_entered}
use Rattle.store_laws.proofs.Holdings.Reports.{nothing_written}
use Rattle.store_laws.proofs.Holdings.OneVersionAscending.{all_brought}
use Rattle.rest_laws.proofs.EpochTreeApart.{copies_once, once_found, once_rooted}

-- some site holds it
abbrev pub IsHeld : TreeState → Brought → Type 0
IsHeld t b = (s : ℕ) × (held_at t s b.ino ≡ Some b.stamp)

brought_all : (P : Brought → Type 0) (cs : List HeldCopy) (bs : List Brought) → AllByRecursion (λ (x : HeldCopy). P (record { ino = x.ino; stamp = x.now })) cs → AllByRecursion P bs → AllByRecursion P (with_all cs bs)
brought_all P [] bs h k = k
brought_all P (x ∷ xs) bs h k = brought_all P xs (with_brought (record { ino = x.ino; stamp = x.now }) bs) h.1 (all_brought P (record { ino = x.ino; stamp = x.now }) bs h.0 k)

module _ (c : Config) (older : List Line) (n : ℕ) (followed : IsFollowed c older) (e : EpochId) (g : ℕ) (waits : (tree_of c e g (entries older)).started ≡ false) where
  abbrev before : Trace
  before = entries older

  abbrev t : TreeState
  t = tree_of c e g (entries older)

  named : (t.epoch ≡ e) × (t.group ≡ g)
  named = tree_named c e g before

  has_come : (s : ℕ) (b : Brought) → held_at t s b.ino ≡ Some b.stamp → has_joined before s e ≡ true
  has_come s b k = (copies_are c before e g s b.ino).joined b.stamp k

  -- what was held is held
  still : (r : Record) → MayTell c older (Shown r) → (b : Brought) → IsHeld t b → IsHeld (next (history c before) r t) b
  still r may b k = (k.0, nothing_written c older n followed e g k.0 waits (has_come k.0 b k.1) r may b.ino ∙ k.1)

  all_still : (r : Record) → MayTell c older (Shown r) → (bs : List Brought) → AllByRecursion (IsHeld t) bs → AllByRecursion (IsHeld (next (history c before) r t)) bs
  all_still r may [] k = tt
  all_still r may (b ∷ bs) k = (still r may b k.0, all_still r may bs k.1)

  -- ---- who joins holds what it brings ----

  brings : (s : ℕ) (m : Members) (cs : List HeldCopy) → ((x : HeldCopy) → Among x cs → Among x (with_root t s)) → AllByRecursion (λ (x : HeldCopy). IsHeld (joined s m t) (record { ino = x.ino; stamp = x.now })) (filter (λ (y : HeldCopy). y.site == s) cs)
  brings s m [] part = tt
  brings s m (x ∷ xs) part = at (x.site == s) refl (brings s m xs (λ y a. part y (inr a)))
    where
      held_now : (x.site == s) ≡ true → held_at (joined s m t) s x.ino ≡ Some x.now
      held_now is =
          ap held_of (copy_entered s (with_root t s) s x.ino)
          ∙ (ap (λ (o : Option HeldCopy). held_of (option_map (entered s) o)) (subst (λ (k : ℕ). copy_of (with_root t s) k x.ino ≡ Some x) (equal x.site s is) (once_found (with_root t s) (once_rooted t s (copies_once c before e g)) x (part x (inl refl))))
          ∙ ap (λ (b : Bool). (cond b (record x { held = Some x.now }) x).held) is)

      at : (b : Bool) → (x.site == s) ≡ b → AllByRecursion (λ (y : HeldCopy). IsHeld (joined s m t) (record { ino = y.ino; stamp = y.now })) (filter (λ (y : HeldCopy). y.site == s) xs) →
          AllByRecursion (λ (y : HeldCopy). IsHeld (joined s m t) (record { ino = y.ino; stamp = y.now })) (cond b (x ∷ filter (λ (y : HeldCopy). y.site == s) xs) (filter (λ (y : HeldCopy). y.site == s) xs))
      at true is later = ((s, held_now is), later)
      at false is later = later

  -- ---- record by record ----

  abbrev Then : Record → Type 0
  Then r = AllByRecursion (IsHeld (next (history c before) r t)) (next (history c before) r t).known

  as_it_was : (r : Record) → MayTell c older (Shown r) → AllByRecursion (IsHeld t) t.known → (next (history c before) r t).known ≡ t.known → Then r
  as_it_was r may k same = subst (λ (bs : List Brought). AllByRecursion (IsHeld (next (history c before) r t)) bs) (sym same) (all_still r may t.known k)

  known_if : (b : Bool) (u : TreeState) → u.known ≡ t.known → (cond b u t).known ≡ t.known
  known_if true u q = q
  known_if false u q = refl

  -- nothing is released of a group that hasn't started
  unreleased : (d : EpochId) (i : Serial) (f : FileId) (stamp : Option Stamp) → MayTell c older (Shown (says.Release d i f stamp)) → same_epoch d t.epoch && (f.group == t.group) ≡ true → ⊥
  unreleased d i f stamp may b = true_false (sym opens ∙ waits)
    where
      opens : t.started ≡ true
      opens = subst (λ (k : ℕ). (tree_of c e k before).started ≡ true) (equal f.group t.group (and_second (same_epoch d t.epoch) _ b) ∙ named.1)
          (subst (λ (y : EpochId). (tree_of c y f.group before).started ≡ true) (same_epoch_eq d t.epoch (and_first (same_epoch d t.epoch) _ b) ∙ named.0)
          (subst (λ (k : ℕ). (tree_of c d k before).started ≡ true) may.in_time.group_is (open_started c before (followed_rows c older followed) d (granted_group before d i) i may.in_time.at may.in_time.open_at.found)))

  next_held : (r : Record) → MayTell c older (Shown r) → AllByRecursion (IsHeld t) t.known → Then r
  next_held (says.Join s d m) may k = over (same_epoch d t.epoch) (all_still (says.Join s d m) may t.known k)
    where
      with_pack : (b : Bool) → AllByRecursion (IsHeld (joined s m t)) t.known → AllByRecursion (IsHeld (joined s m t)) (cond b (with_all (filter (λ (y : HeldCopy). y.site == s) (with_root t s)) t.known) t.known)
      with_pack true old = brought_all (IsHeld (joined s m t)) (filter (λ (y : HeldCopy). y.site == s) (with_root t s)) t.known (brings s m (with_root t s) (λ x a. a)) old
      with_pack false old = old

      over : (b : Bool) → AllByRecursion (IsHeld (cond b (joined s m t) (left s t))) t.known → AllByRecursion (IsHeld (cond b (joined s m t) (left s t))) (cond b (joined s m t) (left s t)).known
      over true old = with_pack (has_pack t.config t.group s) old
      over false old = old
  next_held (says.Start d k copies) may h = as_it_was (says.Start d k copies) may h (known_if (same_epoch d t.epoch && (k == t.group)) (record t { started = true }) refl)
  next_held (says.Grant d call request i m f stamp ss) may h = as_it_was (says.Grant d call request i m f stamp ss) may h (known_if (same_epoch d t.epoch) (granted (history c before) (grant_of t call i m f ss) stamp t) refl)
  next_held (says.Refuse d call request i m f why) may h = as_it_was (says.Refuse d call request i m f why) may h (known_if (same_epoch d t.epoch && ((f.group == t.group) && is_make m)) (record t { makes = without_make call t.makes }) refl)
  next_held (says.Act d i k o result) may h = as_it_was (says.Act d i k o result) may h (known_if (same_epoch d t.epoch && is_granted_here t i) (acted (history c before) i o result t) refl)
  next_held (says.Release d i f stamp) may h = as_it_was (says.Release d i f stamp) may h (over (same_epoch d t.epoch && (f.group == t.group)) refl)
    where
      over : (b : Bool) → same_epoch d t.epoch && (f.group == t.group) ≡ b → (cond b (released i f stamp t) t).known ≡ t.known
      over true q = absurd (unreleased d i f stamp may q)
      over false q = refl
  next_held r may h = as_it_was r may h refl

-- a group that hasn't started hadn't
unstarted_before : (c : Config) (n : ℕ) (x : Told) (older : List Line) (e : EpochId) (g : ℕ) → ((tree_of c e g (entries older)).started ≡ true → (tree_of c e g (entries (record { number = n; told = x } ∷ older))).started ≡ true) → (tree_of c e g (entries (record { number = n; told = x } ∷ older))).started ≡ false → (tree_of c e g (entries older)).started ≡ false
unstarted_before c n x older e g goes waits = over (tree_of c e g (entries older)).started refl
  where
    over : (b : Bool) → (tree_of c e g (entries older)).started ≡ b → (tree_of c e g (entries older)).started ≡ false
    over true s = absurd (true_false (sym (goes s) ∙ waits))
    over false s = s

pub known_held : (c : Config) (trace : List Line) → IsFollowed c trace → (e : EpochId) (g : ℕ) → (tree_of c e g (entries trace)).started ≡ false → AllByRecursion (IsHeld (tree_of c e g (entries trace))) (tree_of c e g (entries trace)).known
known_held c [] followed e g waits = tt
known_held c (x ∷ older) followed e g waits = over x.told followed.0 (known_held c older followed.1 e g was)
  where
    was : (tree_of c e g (entries older)).started ≡ false
    was = unstarted_before c x.number x.told older e g (started_stays c x.number x.told older e g) waits

    over : (y : Told) → MayTell c older y → AllByRecursion (IsHeld (tree_of c e g (entries older))) (tree_of c e g (entries older)).known →
        AllByRecursion (IsHeld (tree_of c e g (entries (record { number = x.number; told = y } ∷ older)))) (tree_of c e g (entries (record { number = x.number; told = y } ∷ older))).known
    over (Shown r) may k = next_held c older x.number followed.1 e g was r may k
    over _ may k = k
