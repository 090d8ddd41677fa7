-- What the epochs of the past say, as of their list alone; and what becomes of an epoch that is changed or formed.
use Rattle.std.proofs.Common.{◌≡◌, ℕ, ◌≤◌, ◌==◌, ◌||◌, ◌&&◌, Bool, true, false, cond, List, [], ◌∷◌, ◌++◌, length, filter, Option, Some, None, refl, sym, ap, subst, ◌∙◌, ◌⊎◌, inl, inr, arith}
use Rattle.std.specs.List.{find, list_any}
use Rattle.std.specs.Option.{option_map}
use Rattle.locus_ids.specs.declared.sites.Members.{Members}
use Rattle.locus_ids.specs.declared.ids.EpochId.{EpochId}
use Rattle.locus_ids.specs.declared.ids.FileId.{FileId}
use Rattle.commit_graph.specs.Versions.{same_file}
use Rattle.trace_book.specs.Same.{same_epoch}
use Rattle.promises.specs.Past.{Epoch, first_or, is_number, unformed}
use Rattle.promises.specs.After.{change, is_epoch}
use Rattle.past_laws.proofs.Names.{none_some, epoch_eq, epoch_own}
use Rattle.past_laws.proofs.Changing.{Finds, any_changed, any_finds, changed, changed_so, filter_changed, find_changed, find_filter, first_changed_there, first_found, first_none, first_part, first_unchanged, length_changed, none_finds, part_kept}

abbrev pub epoch_in : List Epoch → EpochId → Epoch
epoch_in epochs e = first_or (unformed e) (is_epoch e) epochs

-- by the members of epochs, who joined them, and which mends were refused for good
pub record EpochsSay (members_of : EpochId → Option Members) (has_joined : EpochId → ℕ → Bool) (is_lost : EpochId → FileId → Bool) (epochs : List Epoch) : Type 0 where
  pub members : (e : EpochId) → option_map (λ (t : Epoch). t.members) (find (is_epoch e) epochs) ≡ members_of e
  pub once : (e : EpochId) → length (filter (is_epoch e) epochs) ≤ 1
  pub joined : (e : EpochId) (site : ℕ) → is_number (epoch_in epochs e).joined site ≡ has_joined e site
  pub unmended : (e : EpochId) (f : FileId) → list_any (same_file f) (epoch_in epochs e).unmended ≡ is_lost e f

-- Epochs that are changed.

abbrev pub KeepsId : (Epoch → Epoch) → Type 0
KeepsId f = (t : Epoch) → (f t).id ≡ t.id

pub is_there_still : (which : Epoch → Bool) (f : Epoch → Epoch) → KeepsId f → (epochs : List Epoch) (e : EpochId) → list_any (is_epoch e) (change which f epochs) ≡ list_any (is_epoch e) epochs
is_there_still which f keep epochs e = any_changed (is_epoch e) which f (λ t h. ap (λ i. same_epoch i e) (keep t)) epochs

members_still : (which : Epoch → Bool) (f : Epoch → Epoch) → KeepsId f → ((t : Epoch) → (f t).members ≡ t.members) → (epochs : List Epoch) (e : EpochId)
    → option_map (λ (t : Epoch). t.members) (find (is_epoch e) (change which f epochs)) ≡ option_map (λ (t : Epoch). t.members) (find (is_epoch e) epochs)
members_still which f keep same epochs e = ap (option_map (λ (t : Epoch). t.members)) (find_changed (is_epoch e) which f (λ t h. ap (λ i. same_epoch i e) (keep t)) epochs) ∙ over (find (is_epoch e) epochs)
  where
    over : (o : Option Epoch) → option_map (λ (t : Epoch). t.members) (option_map (changed which f) o) ≡ option_map (λ (t : Epoch). t.members) o
    over None = refl
    over (Some t) = ap (λ m. Some m) (part_kept (λ (t : Epoch). t.members) which f (λ t h. same t) t)

once_still : (which : Epoch → Bool) (f : Epoch → Epoch) → KeepsId f → (epochs : List Epoch) (e : EpochId) → length (filter (is_epoch e) epochs) ≤ 1 → length (filter (is_epoch e) (change which f epochs)) ≤ 1
once_still which f keep epochs e h = subst (λ n. n ≤ 1) (sym (ap length (filter_changed (is_epoch e) which f (λ t k. ap (λ i. same_epoch i e) (keep t)) epochs) ∙ length_changed which f (filter (is_epoch e) epochs))) h

pub epoch_part : {Y : Type 0} (g : Epoch → Y) (which : Epoch → Bool) (f : Epoch → Epoch) → KeepsId f → ((t : Epoch) → g (f t) ≡ g t) → (epochs : List Epoch) (e : EpochId) → g (epoch_in (change which f epochs) e) ≡ g (epoch_in epochs e)
epoch_part g which f keep same epochs e = first_part g (unformed e) (is_epoch e) which f (λ t h. ap (λ i. same_epoch i e) (keep t)) (λ t h. same t) epochs

-- of all that is said here a change keeps all
pub epochs_kept : (m : EpochId → Option Members) (j : EpochId → ℕ → Bool) (l : EpochId → FileId → Bool) (epochs : List Epoch) (which : Epoch → Bool) (f : Epoch → Epoch) → KeepsId f
    → ((t : Epoch) → (f t).members ≡ t.members) → ((t : Epoch) → (f t).joined ≡ t.joined) → ((t : Epoch) → (f t).unmended ≡ t.unmended) → EpochsSay m j l epochs → EpochsSay m j l (change which f epochs)
epochs_kept m j l epochs which f keep members joined unmended say = record {
  members = λ e. members_still which f keep members epochs e ∙ say.members e;
  once = λ e. once_still which f keep epochs e (say.once e);
  joined = λ e site. ap (λ ns. is_number ns site) (epoch_part (λ (t : Epoch). t.joined) which f keep joined epochs e) ∙ say.joined e site;
  unmended = λ e g. ap (λ fs. list_any (same_file g) fs) (epoch_part (λ (t : Epoch). t.unmended) which f keep unmended epochs e) ∙ say.unmended e g;
}

-- An epoch is formed.

abbrev pub formed : EpochId → Members → List Epoch → List Epoch
formed e members epochs = cond (list_any (is_epoch e) epochs) epochs (record (unformed e) { members = members } ∷ epochs)

-- what isn't there says nothing
pub lost_epoch : (epochs : List Epoch) (e : EpochId) → list_any (is_epoch e) epochs ≡ false → epoch_in epochs e ≡ unformed e
lost_epoch epochs e h = first_none (unformed e) (is_epoch e) epochs (none_finds (is_epoch e) epochs h)

pub formed_there : (e : EpochId) (members : Members) (epochs : List Epoch) → list_any (is_epoch e) (formed e members epochs) ≡ true
formed_there e members epochs = over (list_any (is_epoch e) epochs) refl
  where
    over : (b : Bool) → list_any (is_epoch e) epochs ≡ b → list_any (is_epoch e) (cond b epochs (record (unformed e) { members = members } ∷ epochs)) ≡ true
    over true h = h
    over false h = rw (epoch_own e) refl

pub formed_more : (e : EpochId) (members : Members) (epochs : List Epoch) (d : EpochId) → list_any (is_epoch d) epochs ≡ true → list_any (is_epoch d) (formed e members epochs) ≡ true
formed_more e members epochs d there = over (list_any (is_epoch e) epochs)
  where
    later : (a b : Bool) → b ≡ true → (a || b) ≡ true
    later true b h = refl
    later false b h = h

    over : (b : Bool) → list_any (is_epoch d) (cond b epochs (record (unformed e) { members = members } ∷ epochs)) ≡ true
    over true = there
    over false = later (same_epoch e d) (list_any (is_epoch d) epochs) there

pub epochs_formed : (m : EpochId → Option Members) (j : EpochId → ℕ → Bool) (l : EpochId → FileId → Bool) (epochs : List Epoch) (e : EpochId) (members : Members)
    → (m e ≡ None) ⊎ (m e ≡ Some members) → EpochsSay m j l epochs → EpochsSay (λ d. cond (same_epoch e d) (Some members) (m d)) j l (formed e members epochs)
epochs_formed m j l epochs e members same say = over (list_any (is_epoch e) epochs) refl
  where
    -- it was there with these members
    own : Finds (is_epoch e) epochs → m e ≡ Some members
    own it = by same
      where
        by : (m e ≡ None) ⊎ (m e ≡ Some members) → m e ≡ Some members
        by (inl h) = none_some it.one.members (sym h ∙ (sym (say.members e) ∙ ap (option_map (λ (t : Epoch). t.members)) it.found))
        by (inr h) = h

    there : m e ≡ Some members → (d : EpochId) (b : Bool) → same_epoch e d ≡ b → m d ≡ cond b (Some members) (m d)
    there h d true k = ap m (sym (epoch_eq e d k)) ∙ h
    there h d false k = refl

    new : Epoch
    new = record (unformed e) { members = members }

    first : (d : EpochId) (b : Bool) → same_epoch e d ≡ b → list_any (is_epoch e) epochs ≡ false → option_map (λ (t : Epoch). t.members) (find (is_epoch d) (new ∷ epochs)) ≡ cond b (Some members) (m d)
    first d true k h = rw k refl
    first d false k h = rw k (say.members d)

    once : (d : EpochId) (b : Bool) → same_epoch e d ≡ b → list_any (is_epoch e) epochs ≡ false → length (filter (is_epoch d) (new ∷ epochs)) ≤ 1
    once d true k h = rw k (subst (λ (ts : List Epoch). length (new ∷ ts) ≤ 1) (sym (subst (λ i. filter (is_epoch i) epochs ≡ []) (epoch_eq e d k) (find_filter (is_epoch e) epochs (none_finds (is_epoch e) epochs h)))) (omega arith))
    once d false k h = rw k (say.once d)

    joined : (d : EpochId) (site : ℕ) (b : Bool) → same_epoch e d ≡ b → list_any (is_epoch e) epochs ≡ false → is_number (epoch_in (new ∷ epochs) d).joined site ≡ j d site
    joined d site true k h = rw k (sym (ap (λ (t : Epoch). is_number t.joined site) (subst (λ i. epoch_in epochs i ≡ unformed i) (epoch_eq e d k) (lost_epoch epochs e h))) ∙ say.joined d site)
    joined d site false k h = rw k (say.joined d site)

    unmended : (d : EpochId) (f : FileId) (b : Bool) → same_epoch e d ≡ b → list_any (is_epoch e) epochs ≡ false → list_any (same_file f) (epoch_in (new ∷ epochs) d).unmended ≡ l d f
    unmended d f true k h = rw k (sym (ap (λ (t : Epoch). list_any (same_file f) t.unmended) (subst (λ i. epoch_in epochs i ≡ unformed i) (epoch_eq e d k) (lost_epoch epochs e h))) ∙ say.unmended d f)
    unmended d f false k h = rw k (say.unmended d f)

    over : (b : Bool) → list_any (is_epoch e) epochs ≡ b → EpochsSay (λ d. cond (same_epoch e d) (Some members) (m d)) j l (cond b epochs (new ∷ epochs))
    over true h = record {
      members = λ d. say.members d ∙ there (own (any_finds (is_epoch e) epochs h)) d (same_epoch e d) refl;
      once = say.once;
      joined = say.joined;
      unmended = say.unmended;
    }
    over false h = record {
      members = λ d. first d (same_epoch e d) refl h;
      once = λ d. once d (same_epoch e d) refl h;
      joined = λ d site. joined d site (same_epoch e d) refl h;
      unmended = λ d f. unmended d f (same_epoch e d) refl h;
    }

-- the epoch of a name that is there
pub epoch_named : (epochs : List Epoch) (e : EpochId) → list_any (is_epoch e) epochs ≡ true → (epoch_in epochs e).id ≡ e
epoch_named epochs e h = over (any_finds (is_epoch e) epochs h)
  where
    over : Finds (is_epoch e) epochs → (epoch_in epochs e).id ≡ e
    over it = ap (λ (t : Epoch). t.id) (first_found (unformed e) (is_epoch e) epochs it.one it.found) ∙ epoch_eq it.one.id e it.passes

-- A site joins an epoch that is there.
pub epochs_entered : (m : EpochId → Option Members) (j : EpochId → ℕ → Bool) (l : EpochId → FileId → Bool) (epochs : List Epoch) (e : EpochId) (s : ℕ) (f : Epoch → Epoch) → KeepsId f
    → ((t : Epoch) → (f t).members ≡ t.members) → ((t : Epoch) → (f t).joined ≡ s ∷ t.joined) → ((t : Epoch) → (f t).unmended ≡ t.unmended) → list_any (is_epoch e) epochs ≡ true → EpochsSay m j l epochs
    → EpochsSay m (λ d site. ((s == site) && same_epoch e d) || j d site) l (change (is_epoch e) f epochs)
epochs_entered m j l epochs e s f keep members joins unmended there say = record {
  members = λ d. members_still (is_epoch e) f keep members epochs d ∙ say.members d;
  once = λ d. once_still (is_epoch e) f keep epochs d (say.once d);
  joined = λ d site. joined d site (same_epoch e d) refl;
  unmended = λ d g. ap (λ fs. list_any (same_file g) fs) (epoch_part (λ (t : Epoch). t.unmended) (is_epoch e) f keep unmended epochs d) ∙ say.unmended d g;
}
  where
    own : epoch_in (change (is_epoch e) f epochs) e ≡ f (epoch_in epochs e)
    own = first_changed_there (unformed e) (is_epoch e) (is_epoch e) f (λ t h. ap (λ i. same_epoch i e) (keep t)) epochs there
        ∙ changed_so (is_epoch e) f (epoch_in epochs e) (ap (λ i. same_epoch i e) (epoch_named epochs e there) ∙ epoch_own e)

    other : (d : EpochId) → same_epoch e d ≡ false → epoch_in (change (is_epoch e) f epochs) d ≡ epoch_in epochs d
    other d k = first_unchanged (unformed d) (is_epoch d) (is_epoch e) f (λ t h. ap (λ i. same_epoch i d) (keep t)) (λ t h. ap (λ i. same_epoch i d) (epoch_eq t.id e h) ∙ k) epochs

    with_both : (a b old : Bool) → b ≡ true → (a || old) ≡ ((a && b) || old)
    with_both true b old h = rw h refl
    with_both false b old h = refl

    without : (a b old : Bool) → b ≡ false → old ≡ ((a && b) || old)
    without true b old h = rw h refl
    without false b old h = refl

    joined : (d : EpochId) (site : ℕ) (b : Bool) → same_epoch e d ≡ b → is_number (epoch_in (change (is_epoch e) f epochs) d).joined site ≡ (((s == site) && same_epoch e d) || j d site)
    joined d site true k =
        subst (λ i. is_number (epoch_in (change (is_epoch e) f epochs) i).joined site ≡ ((s == site) || j i site)) (epoch_eq e d k)
        (ap (λ (t : Epoch). is_number t.joined site) own ∙ (ap (λ ns. is_number ns site) (joins (epoch_in epochs e)) ∙ ap (λ b. (s == site) || b) (say.joined e site)))
        ∙ with_both (s == site) (same_epoch e d) (j d site) k
    joined d site false k = ap (λ (t : Epoch). is_number t.joined site) (other d k) ∙ (say.joined d site ∙ without (s == site) (same_epoch e d) (j d site) k)

-- Mends are refused for good.

any_joined : {X : Type 0} (p : X → Bool) (xs ys : List X) → list_any p (xs ++ ys) ≡ (list_any p xs || list_any p ys)
any_joined p [] ys = refl
any_joined p (x ∷ xs) ys = ap (λ b. p x || b) (any_joined p xs ys) ∙ turned (p x) (list_any p xs) (list_any p ys)
  where
    turned : (a b c : Bool) → (a || (b || c)) ≡ ((a || b) || c)
    turned true b c = refl
    turned false b c = refl

pub epochs_lost : (m : EpochId → Option Members) (j : EpochId → ℕ → Bool) (l : EpochId → FileId → Bool) (epochs : List Epoch) (f : Epoch → Epoch) (lose : EpochId → List FileId) (now : EpochId → FileId → Bool) → KeepsId f
    → ((t : Epoch) → (f t).members ≡ t.members) → ((t : Epoch) → (f t).joined ≡ t.joined) → ((t : Epoch) → (f t).unmended ≡ lose t.id ++ t.unmended)
    → ((e : EpochId) (g : FileId) → list_any (same_file g) (lose e) ≡ now e g) → ((e : EpochId) (g : FileId) → list_any (is_epoch e) epochs ≡ false → now e g ≡ false) → EpochsSay m j l epochs
    → EpochsSay m j (λ e g. now e g || l e g) (change (λ t. true) f epochs)
epochs_lost m j l epochs f lose now keep members joined loses tells none say = record {
  members = λ e. members_still (λ t. true) f keep members epochs e ∙ say.members e;
  once = λ e. once_still (λ t. true) f keep epochs e (say.once e);
  joined = λ e site. ap (λ ns. is_number ns site) (epoch_part (λ (t : Epoch). t.joined) (λ t. true) f keep joined epochs e) ∙ say.joined e site;
  unmended = λ e g. unmended e g (list_any (is_epoch e) epochs) refl;
}
  where
    unmended : (e : EpochId) (g : FileId) (b : Bool) → list_any (is_epoch e) epochs ≡ b → list_any (same_file g) (epoch_in (change (λ t. true) f epochs) e).unmended ≡ (now e g || l e g)
    unmended e g true h =
        ap (λ (t : Epoch). list_any (same_file g) t.unmended) (first_changed_there (unformed e) (is_epoch e) (λ t. true) f (λ t k. ap (λ i. same_epoch i e) (keep t)) epochs h)
        ∙ (ap (λ fs. list_any (same_file g) fs) (loses (epoch_in epochs e) ∙ ap (λ i. lose i ++ (epoch_in epochs e).unmended) (epoch_named epochs e h))
        ∙ (any_joined (same_file g) (lose e) (epoch_in epochs e).unmended
        ∙ (ap (λ b. b || list_any (same_file g) (epoch_in epochs e).unmended) (tells e g)
        ∙ ap (λ b. now e g || b) (say.unmended e g))))
    unmended e g false h =
        ap (λ (t : Epoch). list_any (same_file g) t.unmended) (lost_epoch (change (λ t. true) f epochs) e (is_there_still (λ t. true) f keep epochs e ∙ h))
        ∙ (sym (ap (λ (t : Epoch). list_any (same_file g) t.unmended) (lost_epoch epochs e h))
        ∙ (say.unmended e g ∙ ap (λ b. b || l e g) (sym (none e g h))))
