-- Epochs stand by each record that may follow.
use Rattle.std.proofs.Common.{◌≡◌, ℕ, ◌==◌, ◌≤◌, Bool, true, false, List, [], ◌∷◌, ◌++◌, length, filter, Option, Some, None, refl, sym, ap, subst, ◌∙◌, arith}
use Rattle.std.specs.List.{find, list_any, AllByRecursion}
use Rattle.locus_ids.specs.declared.sites.Members.{Members}
use Rattle.locus_ids.specs.declared.ids.EpochId.{EpochId}
use Rattle.locus_ids.specs.declared.ids.FileId.{FileId}
use Rattle.locus_ids.specs.declared.ids.Serial.{Serial}
use Rattle.trace_book.specs.Same.{same_epoch, same_serial}
use Rattle.trace_book.specs.declared.reply.Reply.{Reply}
use Rattle.trace_book.specs.declared.reply.Reply.TheVariants as reply
use Rattle.tree_model.specs.declared.instance.Granted.{Granted}
use Rattle.promises.specs.Past.{Past, Epoch, Instance, Left, Make, Copy, epoch_at, unformed, is_named, is_number}
use Rattle.promises.specs.After.{change, is_epoch, with_all_known, once_named}
use Rattle.past_laws.proofs.Names.{false_true, number_eq, serial_eq, serial_own, serial_test}
use Rattle.past_laws.proofs.CallsLists.{each_more, each_both, each_changed, each_filter, each_added, many_changed, many_left}
use Rattle.past_laws.proofs.TreesKnown.{all_known_ascends}
use Rattle.row_lists.proofs.ByPlace.{once_more, none_found}
use Rattle.row_lists.proofs.Reversed.{filter_append}
use Rattle.audit_laws.specs.Tidy.Sites.{HasEachOnce}
use Rattle.audit_laws.specs.Tidy.Epochs.{EpochStands, EpochsStand, is_grant}
use Rattle.audit_laws.proofs.Tidy.Lists.{each_first, first_one}

-- ---- the epoch of a name ----

pub unformed_stands : (e : EpochId) (members : Members) → EpochStands (record (unformed e) { members = members })
unformed_stands e members = record { grants = λ i. omega arith; single = λ i. omega arith; as_granted = tt; known = refl; joined = λ n. omega arith; left = tt }

pub epoch_stands : (p : Past) (e : EpochId) → EpochsStand p.epochs → EpochStands (epoch_at p e)
epoch_stands p e st = each_first EpochStands (unformed e) (is_epoch e) p.epochs (unformed_stands e (unformed e).members) st.each

pub epochs_are : (p : Past) (e : EpochId) → EpochsStand p.epochs → AllByRecursion (λ (t : Epoch). is_epoch e t ≡ true → epoch_at p e ≡ t) p.epochs
epochs_are p e st = first_one (unformed e) (is_epoch e) p.epochs (st.once e)

-- ---- epochs that are changed ----

pub epochs_moved : (epochs : List Epoch) (which : Epoch → Bool) (f : Epoch → Epoch) → ((t : Epoch) → (f t).id ≡ t.id) → ((t : Epoch) → EpochStands t → EpochStands (f t)) → EpochsStand epochs → EpochsStand (change which f epochs)
epochs_moved epochs which f keep again st = record {
  once = λ e. omega (arith, st.once e, many_changed (is_epoch e) which f (λ t. ap (λ d. same_epoch d e) (keep t)) epochs);
  each = each_changed EpochStands EpochStands which f (λ t h k. again t k) (λ t h k. k) epochs st.each;
}

-- the epoch of a name
pub epoch_moved : (p : Past) (e : EpochId) (f : Epoch → Epoch) → ((t : Epoch) → (f t).id ≡ t.id) → ((t : Epoch) → epoch_at p e ≡ t → EpochStands t → EpochStands (f t)) → EpochsStand p.epochs → EpochsStand (change (is_epoch e) f p.epochs)
epoch_moved p e f keep again st = record {
  once = λ d. omega (arith, st.once d, many_changed (is_epoch d) (is_epoch e) f (λ t. ap (λ a. same_epoch a d) (keep t)) p.epochs);
  each = each_changed (λ (t : Epoch). (is_epoch e t ≡ true → epoch_at p e ≡ t) × EpochStands t) EpochStands (is_epoch e) f (λ t h k. again t (k.0 h) k.1) (λ t h k. k.1) p.epochs
      (each_both (λ (t : Epoch). is_epoch e t ≡ true → epoch_at p e ≡ t) EpochStands (λ (t : Epoch). (is_epoch e t ≡ true → epoch_at p e ≡ t) × EpochStands t) (λ t a b. (a, b)) p.epochs (epochs_are p e st) st.each);
}

-- instances that are changed, and what has nothing to do with grants
-- what a reply makes of an instance that it names
pub once_grant : (r : Reply) (x : Instance) → (once_named r x).grant ≡ x.grant
once_grant (reply.Data bytes) x = refl
once_grant _ x = refl

pub once_is_named : (r : Reply) (x : Instance) → (once_named r x).named ≡ true
once_is_named (reply.Data bytes) x = refl
once_is_named _ x = refl

pub instances_moved : (t : Epoch) (which : Instance → Bool) (f : Instance → Instance) (started : List ℕ) (makes : List Make) (unmended : List FileId) → ((x : Instance) → (f x).grant ≡ x.grant) → EpochStands t → EpochStands (record t { opened = change which f t.opened; started = started; makes = makes; unmended = unmended })
instances_moved t which f started makes unmended keep st = record {
  grants = st.grants;
  single = λ i. omega (arith, st.single i, many_changed (is_named i) which f (λ x. ap (λ (g : Granted). same_serial g.inst i) (keep x)) t.opened);
  as_granted = each_changed Finds Finds which f (λ x h k. moved x k) (λ x h k. k) t.opened st.as_granted;
  known = st.known;
  joined = st.joined;
  left = st.left;
}
  where
    Finds : Instance → Type 0
    Finds x = find (is_grant x.grant.inst) t.granted ≡ Some x.grant

    moved : (x : Instance) → find (is_grant x.grant.inst) t.granted ≡ Some x.grant → find (is_grant (f x).grant.inst) t.granted ≡ Some (f x).grant
    moved x k = subst (λ (g : Granted). find (is_grant g.inst) t.granted ≡ Some g) (sym (keep x)) k

pub others_moved : (t : Epoch) (started : List ℕ) (makes : List Make) → EpochStands t → EpochStands (record t { started = started; makes = makes })
others_moved t started makes st = record { grants = st.grants; single = st.single; as_granted = st.as_granted; known = st.known; joined = st.joined; left = st.left }

pub left_epoch : (t : Epoch) (l : Left) → HasEachOnce l.held → EpochStands t → EpochStands (record t { left = l ∷ t.left })
left_epoch t l held st = record { grants = st.grants; single = st.single; as_granted = st.as_granted; known = st.known; joined = st.joined; left = (held, st.left) }

-- a site joins that hasn't
pub joined_epoch : (t : Epoch) (site : ℕ) (news : List Copy) → is_number t.joined site ≡ false → EpochStands t → EpochStands (record t { joined = site ∷ t.joined; known = with_all_known news t.known })
joined_epoch t site news new st = record {
  grants = st.grants;
  single = st.single;
  as_granted = st.as_granted;
  known = all_known_ascends news t.known st.known;
  joined = λ n. at n (site == n) refl;
  left = st.left;
}
  where
    at : (n : ℕ) (b : Bool) → (site == n) ≡ b → length (filter (λ m. m == n) (site ∷ t.joined)) ≤ 1
    at n true e = once_more (λ m. m == n) site t.joined (subst (λ m. is_number t.joined m ≡ false) (number_eq site n e) new)
    at n false e = rw e (st.joined n)

-- ---- a grant ----

not_found : (i : Serial) (gs : List Granted) (g : Granted) → list_any (is_grant i) gs ≡ false → find (is_grant i) gs ≡ Some g → ⊥
not_found i gs g h e = none (subst (λ (o : Option Granted). o ≡ Some g) (none_found (is_grant i) gs h) e)
  where
    none : ◌≡◌ {A = Option Granted} None (Some g) → ⊥
    none k = cc

pub granted_epoch : (t : Epoch) (g : Granted) (x : Instance) → x.grant ≡ g → list_any (is_grant g.inst) t.granted ≡ false → EpochStands t → EpochStands (record t { granted = g ∷ t.granted; opened = t.opened ++ x ∷ [] })
granted_epoch t g x is new st = record {
  grants = λ i. grants_at i (same_serial g.inst i) refl;
  single = λ i. single_at i (is_named i x) refl;
  as_granted = each_added Found t.opened x (each_more Finds Found older t.opened st.as_granted) own;
  known = st.known;
  joined = st.joined;
  left = st.left;
}
  where
    Finds : Instance → Type 0
    Finds y = find (is_grant y.grant.inst) t.granted ≡ Some y.grant

    Found : Instance → Type 0
    Found y = find (is_grant y.grant.inst) (g ∷ t.granted) ≡ Some y.grant

    own : Found x
    own = subst (λ (h : Granted). find (is_grant h.inst) (g ∷ t.granted) ≡ Some h) (sym is) (rw (serial_own g.inst) refl)

    apart : (y : Instance) → Finds y → same_serial g.inst y.grant.inst ≡ false
    apart y k = at (same_serial g.inst y.grant.inst) refl
      where
        at : (b : Bool) → same_serial g.inst y.grant.inst ≡ b → b ≡ false
        at true e = absurd (not_found y.grant.inst t.granted y.grant (subst (λ (i : Serial). list_any (is_grant i) t.granted ≡ false) (serial_eq g.inst y.grant.inst e) new) k)
        at false e = refl

    older : (y : Instance) → Finds y → Found y
    older y k = rw (apart y k) k

    grants_at : (i : Serial) (b : Bool) → same_serial g.inst i ≡ b → length (filter (is_grant i) (g ∷ t.granted)) ≤ 1
    grants_at i true e = once_more (is_grant i) g t.granted (subst (λ (j : Serial). list_any (is_grant j) t.granted ≡ false) (serial_eq g.inst i e) new)
    grants_at i false e = rw e (st.grants i)

    none_open : (i : Serial) → is_named i x ≡ true → (ys : List Instance) → AllByRecursion Finds ys → filter (is_named i) ys ≡ []
    none_open i e [] k = refl
    none_open i e (y ∷ ys) k = rw (other) (none_open i e ys k.1)
      where
        other : is_named i y ≡ false
        other = at (is_named i y) refl
          where
            at : (b : Bool) → is_named i y ≡ b → b ≡ false
            at true h = absurd (false_true (sym (apart y k.0) ∙ serial_test g.inst y.grant.inst (ap (λ (d : Granted). d.inst) (sym is) ∙ (serial_eq x.grant.inst i e ∙ sym (serial_eq y.grant.inst i h)))))
            at false h = refl

    nil : (xs : List Instance) → xs ++ [] ≡ xs
    nil [] = refl
    nil (y ∷ ys) = ap (λ zs. y ∷ zs) (nil ys)

    single_at : (i : Serial) (b : Bool) → is_named i x ≡ b → length (filter (is_named i) (t.opened ++ x ∷ [])) ≤ 1
    single_at i true e = rw (filter_append (is_named i) t.opened (x ∷ []), none_open i e t.opened st.as_granted, e) (omega arith)
    single_at i false e = rw (filter_append (is_named i) t.opened (x ∷ []), e, nil (filter (is_named i) t.opened)) (st.single i)

-- ---- a release ----

pub released_epoch : (t : Epoch) (q : Instance → Bool) (news : List Copy) (makes : List Make) → EpochStands t → EpochStands (record t { known = with_all_known news t.known; opened = filter q t.opened; makes = makes })
released_epoch t q news makes st = record {
  grants = st.grants;
  single = λ i. omega (arith, st.single i, many_left (is_named i) q t.opened);
  as_granted = each_filter (λ (x : Instance). find (is_grant x.grant.inst) t.granted ≡ Some x.grant) q t.opened st.as_granted;
  known = all_known_ascends news t.known st.known;
  joined = st.joined;
  left = st.left;
}
