-- What a site has of a group by the tree of an epoch: now, by the history of all commits and adoptions; in the epoch, the same
-- while it is there, and what it was when it left.
use Rattle.std.proofs.Common.{◌≡◌, ℕ, ◌==◌, Bool, true, false, cond, ◌&&◌, [], ◌∷◌, Option, Some, None, refl, sym, ◌∙◌, ap, subst}
use Rattle.locus_ids.specs.declared.config.Config.{Config}
use Rattle.locus_ids.specs.declared.sites.Members.{Members}
use Rattle.locus_ids.specs.declared.ids.EpochId.{EpochId}
use Rattle.locus_ids.specs.declared.ids.FileId.{FileId}
use Rattle.locus_ids.specs.declared.ids.Stamp.{Stamp}
use Rattle.commit_graph.specs.Versions.{same_file}
use Rattle.trace_book.specs.Same.{same_epoch}
use Rattle.trace_book.specs.declared.record.Record.{Record}
use Rattle.trace_book.specs.declared.record.Record.TheVariants as says
use Rattle.tree_model.specs.declared.copy.HeldCopy.{HeldCopy}
use Rattle.tree_model.specs.Epochs.{epoch_of, is_in}
use Rattle.tree_model.specs.Folds.{Trace}
use Rattle.tree_model.specs.Histories.{history, formatted, held}
use Rattle.tree_model.specs.State.{TreeState, copy_of, held_of, held_at, with_copy, is_inside, is_granted_here, is_make}
use Rattle.tree_model.specs.Tree.{next, tree_of, joined, left, copy_now}
use Rattle.past_laws.proofs.Names.{number_eq, false_true, both_parts}
use Rattle.past_laws.proofs.TreesFolds.{epoch_is, group_is, inside_is, either}
use Rattle.past_laws.proofs.TreesCopies.{now_of, other_joins, own_joins, now_joins, find_put}

-- What a site has now.

abbrev pub now_at : TreeState → ℕ → ℕ → Option Stamp
now_at t site ino = now_of (formatted t.config site (record { group = t.group; ino = ino })) (copy_of t.copies site ino)

now_with : (o : Option HeldCopy) (fmt : Option Stamp) (b : Bool) (new : HeldCopy) → now_of fmt (cond b (Some new) o) ≡ cond b (Some new.now) (now_of fmt o)
now_with o fmt true new = refl
now_with o fmt false new = refl

cond_and : {X : Type 0} (a b : Bool) (x y : X) → cond (a && b) x y ≡ cond b (cond a x y) y
cond_and true true x y = refl
cond_and true false x y = refl
cond_and false true x y = refl
cond_and false false x y = refl

pub now_is : (c : Config) (e : EpochId) (group : ℕ) (before : Trace) (site ino : ℕ) → now_at (tree_of c e group before) site ino ≡ held c before site (record { group = group; ino = ino })
now_is c e group [] site ino = refl
now_is c e group (r ∷ before) site ino = over r.what (now_is c e group before site ino)
  where
    t : TreeState
    t = tree_of c e group before

    f : FileId
    f = record { group = group; ino = ino }

    -- a version comes to a site
    comes : (g : FileId) (z : ℕ) (stamp : Stamp) → now_at t site ino ≡ held c before site f → now_of (formatted t.config site (record { group = t.group; ino = ino })) (copy_of (cond (g.group == t.group) (with_copy (copy_now t z g.ino stamp) t.copies) t.copies) site ino) ≡ cond (same_file g f && (z == site)) (Some stamp) (held c before site f)
    comes g z stamp h = ap (λ n. now_of (formatted t.config site (record { group = t.group; ino = ino })) (copy_of (cond (g.group == n) (with_copy (copy_now t z g.ino stamp) t.copies) t.copies) site ino)) (group_is c e group before) ∙ at (g.group == group)
      where
        fmt : Option Stamp
        fmt = formatted t.config site (record { group = t.group; ino = ino })

        flip : (a b : Bool) (x y : Option Stamp) → cond (a && b) x y ≡ cond (b && a) x y
        flip true true x y = refl
        flip true false x y = refl
        flip false true x y = refl
        flip false false x y = refl

        at : (b : Bool) → now_of fmt (copy_of (cond b (with_copy (copy_now t z g.ino stamp) t.copies) t.copies) site ino) ≡ cond ((b && (g.ino == ino)) && (z == site)) (Some stamp) (held c before site f)
        at true = ap (now_of fmt) (find_put (copy_now t z g.ino stamp) site ino t.copies) ∙ (now_with (copy_of t.copies site ino) fmt ((z == site) && (g.ino == ino)) (copy_now t z g.ino stamp) ∙ (flip (z == site) (g.ino == ino) (Some stamp) (now_of fmt (copy_of t.copies site ino)) ∙ ap (λ o. cond ((g.ino == ino) && (z == site)) (Some stamp) o) h))
        at false = h

    join : (z : ℕ) (m : Members) (b : Bool) → now_at t site ino ≡ held c before site f → now_at (cond b (joined z m t) (left z t)) site ino ≡ held c before site f
    join z m true h = now_joins t z m site ino ∙ h
    join z m false h = h

    seen : TreeState → Option Stamp
    seen u = now_at u site ino

    over : (x : Record) → now_at t site ino ≡ held c before site f → now_at (next (history c before) x t) site ino ≡ held c (record { line = r.line; what = x } ∷ before) site f
    over (says.Join z a m) h = join z m (same_epoch a t.epoch) h
    over (says.Start a g copies) h = either seen (same_epoch a t.epoch && (g == t.group)) _ t refl ∙ h
    over (says.Grant a call request i m g stamp ss) h = either seen (same_epoch a t.epoch) _ t refl ∙ h
    over (says.Refuse a call request i m g why) h = either seen (same_epoch a t.epoch && ((g.group == t.group) && is_make m)) _ t refl ∙ h
    over (says.Act a i n o result) h = either seen (same_epoch a t.epoch && is_granted_here t i) _ t refl ∙ h
    over (says.Release a i g stamp) h = either seen (same_epoch a t.epoch && (g.group == t.group)) _ t refl ∙ h
    over (says.Commit g z stamp parents content) h = comes g z stamp h
    over (says.Adopt g z stamp) h = comes g z stamp h
    over _ h = h

-- What it has in the epoch.

held_with : (o : Option HeldCopy) (b : Bool) (new : HeldCopy) → held_of (cond b (Some new) o) ≡ cond b new.held (held_of o)
held_with o true new = refl
held_with o false new = refl

-- a site that isn't in the epoch keeps there what it had
pub held_stays : (c : Config) (e : EpochId) (group : ℕ) (before : Trace) (n : ℕ) (r : Record) (site ino : ℕ) → is_in (epoch_of (record { line = n; what = r } ∷ before) site) e ≡ false → held_at (next (history c before) r (tree_of c e group before)) site ino ≡ held_at (tree_of c e group before) site ino
held_stays c e group before n r site ino out = over r out
  where
    t : TreeState
    t = tree_of c e group before

    seen : TreeState → Option Stamp
    seen u = held_at u site ino

    comes : (g : FileId) (z : ℕ) (stamp : Stamp) → is_in (epoch_of before site) e ≡ false → (b : Bool) → held_of (copy_of (cond b (with_copy (copy_now t z g.ino stamp) t.copies) t.copies) site ino) ≡ held_at t site ino
    comes g z stamp h false = refl
    comes g z stamp h true = ap held_of (find_put (copy_now t z g.ino stamp) site ino t.copies) ∙ (held_with (copy_of t.copies site ino) ((z == site) && (g.ino == ino)) (copy_now t z g.ino stamp) ∙ at ((z == site) && (g.ino == ino)) refl)
      where
        at : (b : Bool) → ((z == site) && (g.ino == ino)) ≡ b → cond b (cond (is_inside t z) (Some stamp) (held_at t z g.ino)) (held_of (copy_of t.copies site ino)) ≡ held_at t site ino
        at false k = refl
        at true k = (let parts : ((z == site) ≡ true) × ((g.ino == ino) ≡ true) = both_parts (z == site) (g.ino == ino) k
            in ap (λ y. cond (is_inside t y) (Some stamp) (held_at t y g.ino)) (number_eq z site parts.0) ∙ (ap (λ b. cond b (Some stamp) (held_at t site g.ino)) (inside_is c e group before site ∙ h) ∙ ap (held_at t site) (number_eq g.ino ino parts.1)))

    join : (z : ℕ) (a : EpochId) (m : Members) (b d : Bool) → same_epoch a t.epoch ≡ b → (z == site) ≡ d → is_in (cond d (Some a) (epoch_of before site)) e ≡ false → held_at (cond b (joined z m t) (left z t)) site ino ≡ held_at t site ino
    join z a m false d j k h = refl
    join z a m true false j k h = ap held_of (other_joins t z m site ino k)
    join z a m true true j k h = false_true (sym h ∙ (ap (same_epoch a) (sym (epoch_is c e group before)) ∙ j))

    over : (x : Record) → is_in (epoch_of (record { line = n; what = x } ∷ before) site) e ≡ false → held_at (next (history c before) x t) site ino ≡ held_at t site ino
    over (says.Join z a m) h = join z a m (same_epoch a t.epoch) (z == site) refl refl h
    over (says.Start a g copies) h = either seen (same_epoch a t.epoch && (g == t.group)) _ t refl
    over (says.Grant a call request i m g stamp ss) h = either seen (same_epoch a t.epoch) _ t refl
    over (says.Refuse a call request i m g why) h = either seen (same_epoch a t.epoch && ((g.group == t.group) && is_make m)) _ t refl
    over (says.Act a i k o result) h = either seen (same_epoch a t.epoch && is_granted_here t i) _ t refl
    over (says.Release a i g stamp) h = either seen (same_epoch a t.epoch && (g.group == t.group)) _ t refl
    over (says.Commit g z stamp parents content) h = comes g z stamp h (g.group == t.group)
    over (says.Adopt g z stamp) h = comes g z stamp h (g.group == t.group)
    over _ h = refl

-- a site that is in the epoch has there what it has now
pub held_now : (c : Config) (e : EpochId) (group : ℕ) (before : Trace) (site ino : ℕ) → is_in (epoch_of before site) e ≡ true → held_at (tree_of c e group before) site ino ≡ held c before site (record { group = group; ino = ino })
held_now c e group [] site ino h = false_true h
held_now c e group (r ∷ before) site ino inside = over r.what (held_now c e group before site ino) inside
  where
    t : TreeState
    t = tree_of c e group before

    f : FileId
    f = record { group = group; ino = ino }

    seen : TreeState → Option Stamp
    seen u = held_at u site ino

    comes : (g : FileId) (z : ℕ) (stamp : Stamp) → held_at t site ino ≡ held c before site f → is_in (epoch_of before site) e ≡ true → held_of (copy_of (cond (g.group == t.group) (with_copy (copy_now t z g.ino stamp) t.copies) t.copies) site ino) ≡ cond (same_file g f && (z == site)) (Some stamp) (held c before site f)
    comes g z stamp h j = ap (λ n. held_of (copy_of (cond (g.group == n) (with_copy (copy_now t z g.ino stamp) t.copies) t.copies) site ino)) (group_is c e group before) ∙ at (g.group == group)
      where
        own : (b d : Bool) → (z == site) ≡ b → (g.ino == ino) ≡ d → cond (b && d) (cond (is_inside t z) (Some stamp) (held_at t z g.ino)) (held_at t site ino) ≡ cond (d && b) (Some stamp) (held c before site f)
        own true true k l = ap (λ b. cond b (Some stamp) (held_at t z g.ino)) (ap (is_inside t) (number_eq z site k) ∙ (inside_is c e group before site ∙ j))
        own true false k l = h
        own false true k l = h
        own false false k l = h

        at : (b : Bool) → held_of (copy_of (cond b (with_copy (copy_now t z g.ino stamp) t.copies) t.copies) site ino) ≡ cond ((b && (g.ino == ino)) && (z == site)) (Some stamp) (held c before site f)
        at true = ap held_of (find_put (copy_now t z g.ino stamp) site ino t.copies) ∙ (held_with (copy_of t.copies site ino) ((z == site) && (g.ino == ino)) (copy_now t z g.ino stamp) ∙ own (z == site) (g.ino == ino) refl refl)
        at false = h

    gone : (b : Bool) → (is_in (epoch_of before site) e ≡ true → held_at t site ino ≡ held c before site f) → is_in (cond b None (epoch_of before site)) e ≡ true → held_at t site ino ≡ held c before site f
    gone true later j = false_true j
    gone false later j = later j

    join : (z : ℕ) (a : EpochId) (m : Members) (b d : Bool) → same_epoch a t.epoch ≡ b → (z == site) ≡ d → (is_in (epoch_of before site) e ≡ true → held_at t site ino ≡ held c before site f) → is_in (cond d (Some a) (epoch_of before site)) e ≡ true → held_at (cond b (joined z m t) (left z t)) site ino ≡ held c before site f
    join z a m true true k l later j = subst (λ y. held_at (joined y m t) site ino ≡ held c before site f) (sym (number_eq z site l)) (own_joins t site m ino ∙ now_is c e group before site ino)
    join z a m true false k l later j = ap held_of (other_joins t z m site ino l) ∙ later j
    join z a m false true k l later j = false_true (sym k ∙ (ap (same_epoch a) (epoch_is c e group before) ∙ j))
    join z a m false false k l later j = later j

    over : (x : Record) → (is_in (epoch_of before site) e ≡ true → held_at t site ino ≡ held c before site f) → is_in (epoch_of (record { line = r.line; what = x } ∷ before) site) e ≡ true → held_at (next (history c before) x t) site ino ≡ held c (record { line = r.line; what = x } ∷ before) site f
    over (says.Up z boot) later j = gone (z == site) later j
    over (says.Stopped z cause) later j = gone (z == site) later j
    over (says.Leave z a) later j = gone (z == site) later j
    over (says.Join z a m) later j = join z a m (same_epoch a t.epoch) (z == site) refl refl later j
    over (says.Start a g copies) later j = either seen (same_epoch a t.epoch && (g == t.group)) _ t refl ∙ later j
    over (says.Grant a call request i m g stamp ss) later j = either seen (same_epoch a t.epoch) _ t refl ∙ later j
    over (says.Refuse a call request i m g why) later j = either seen (same_epoch a t.epoch && ((g.group == t.group) && is_make m)) _ t refl ∙ later j
    over (says.Act a i k o result) later j = either seen (same_epoch a t.epoch && is_granted_here t i) _ t refl ∙ later j
    over (says.Release a i g stamp) later j = either seen (same_epoch a t.epoch && (g.group == t.group)) _ t refl ∙ later j
    over (says.Commit g z stamp parents content) later j = comes g z stamp (later j) j
    over (says.Adopt g z stamp) later j = comes g z stamp (later j) j
    over _ later j = later j
