-- The epoch of an id after a change, and which of its parts a record leaves alone.
use Rattle.std.proofs.Common.{◌≡◌, ℕ, Bool, true, false, cond, ◌||◌, ◌&&◌, ◌+◌, ◌++◌, List, [], ◌∷◌, map, fold, Some, refl, sym, ap, subst, ◌∙◌}
use Rattle.std.specs.List.{list_any}
use Rattle.locus_ids.specs.declared.ids.EpochId.{EpochId}
use Rattle.locus_ids.specs.declared.ids.FileId.{FileId}
use Rattle.locus_ids.specs.declared.sites.Members.{Members}
use Rattle.trace_book.specs.Same.{same_epoch}
use Rattle.call_rules.specs.declared.answer.Answer.{Answer}
use Rattle.trace_book.specs.declared.reply.Reply.{Reply}
use Rattle.tree_model.specs.Epochs.{is_in}
use Rattle.promises.specs.Past.{Past, Epoch, Instance, CallSoFar, Left, Copy, first_or, epoch_at, unformed, site_at, is_named}
use Rattle.promises.specs.After.{with_all_known, uses, left_unmended, change, change_epoch, is_epoch, is_home_of, departed, with_epoch, joined, accepted, answered, replied_to, named_by, once_named}
use Rattle.trace_book.specs.declared.descriptor.Descriptor.{Descriptor}
use Rattle.past_laws.proofs.Names.{false_true, epoch_eq, epoch_own}
use Rattle.past_laws.proofs.Changing.{changed, changed_so, changed_not, part_kept}

-- The first that passes, when each that passes another test is changed.

pub first_kept : {X Y : Type 0} (g : X → Y) (d : X) (q p : X → Bool) (f : X → X) → ((x : X) → q (f x) ≡ q x) → ((x : X) → g (f x) ≡ g x) → (xs : List X) → g (first_or d q (change p f xs)) ≡ g (first_or d q xs)
first_kept g d q p f same keep [] = refl
first_kept {X} {Y} g d q p f same keep (x ∷ xs) = ap (λ b. g (cond b (changed p f x) (first_or d q (change p f xs)))) (part_kept q p f (λ y h. same y) x) ∙ at (first_kept g d q p f same keep xs) (q x)
  where
    at : g (first_or d q (change p f xs)) ≡ g (first_or d q xs) → (b : Bool) → g (cond b (changed p f x) (first_or d q (change p f xs))) ≡ g (cond b x (first_or d q xs))
    at later true = part_kept g p f (λ y h. keep y) x
    at later false = later

pub first_changed : {X : Type 0} (d : X) (q p : X → Bool) (f : X → X) → ((x : X) → q (f x) ≡ q x) → (xs : List X) → list_any q xs ≡ true → first_or d q (change p f xs) ≡ changed p f (first_or d q xs)
first_changed d q p f same [] h = false_true h
first_changed {X} d q p f same (x ∷ xs) h = ap (λ b. cond b (changed p f x) (first_or d q (change p f xs))) (part_kept q p f (λ y k. same y) x) ∙ at (first_changed d q p f same xs) (q x) h
  where
    at : (list_any q xs ≡ true → first_or d q (change p f xs) ≡ changed p f (first_or d q xs)) → (b : Bool) → (b || list_any q xs) ≡ true → cond b (changed p f x) (first_or d q (change p f xs)) ≡ changed p f (cond b x (first_or d q xs))
    at later true k = refl
    at later false k = later k

-- The epoch of an id.

-- a site has joined it
abbrev pub is_formed : Past → EpochId → Bool
is_formed p e = list_any (is_epoch e) p.epochs

pub first_is : {X : Type 0} (d : X) (q : X → Bool) (xs : List X) → q d ≡ true → q (first_or d q xs) ≡ true
first_is d q [] h = h
first_is {X} d q (x ∷ xs) h = at (first_is d q xs h) (q x) refl
  where
    at : q (first_or d q xs) ≡ true → (b : Bool) → q x ≡ b → q (cond b x (first_or d q xs)) ≡ true
    at later true e = e
    at later false e = later

pub first_missed : {X : Type 0} (d : X) (q : X → Bool) (xs : List X) → list_any q xs ≡ false → first_or d q xs ≡ d
first_missed d q [] h = refl
first_missed {X} d q (x ∷ xs) h = at (first_missed d q xs) (q x) h
  where
    at : (list_any q xs ≡ false → first_or d q xs ≡ d) → (b : Bool) → (b || list_any q xs) ≡ false → cond b x (first_or d q xs) ≡ d
    at later true k = false_true (sym k)
    at later false k = later k

pub id_at : (p : Past) (e : EpochId) → (epoch_at p e).id ≡ e
id_at p e = epoch_eq (epoch_at p e).id e (first_is (unformed e) (is_epoch e) p.epochs (epoch_own e))

-- the epoch of another id isn't this one
pub is_at : (p : Past) (e other : EpochId) → is_epoch other (epoch_at p e) ≡ same_epoch e other
is_at p e other = ap (λ i. same_epoch i other) (id_at p e)

pub at_kept : {Y : Type 0} (g : Epoch → Y) (which : Epoch → Bool) (f : Epoch → Epoch) → ((t : Epoch) → (f t).id ≡ t.id) → ((t : Epoch) → g (f t) ≡ g t) → (p : Past) (e : EpochId) → g (epoch_at (change_epoch which f p) e) ≡ g (epoch_at p e)
at_kept g which f ids keep p e = first_kept g (unformed e) (is_epoch e) which f (λ t. ap (λ i. same_epoch i e) (ids t)) keep p.epochs

pub at_changed : (which : Epoch → Bool) (f : Epoch → Epoch) → ((t : Epoch) → (f t).id ≡ t.id) → (p : Past) (e : EpochId) → is_formed p e ≡ true → epoch_at (change_epoch which f p) e ≡ changed which f (epoch_at p e)
at_changed which f ids p e h = first_changed (unformed e) (is_epoch e) which f (λ t. ap (λ i. same_epoch i e) (ids t)) p.epochs h

pub formed_kept : (which : Epoch → Bool) (f : Epoch → Epoch) → ((t : Epoch) → (f t).id ≡ t.id) → (p : Past) (e : EpochId) → is_formed (change_epoch which f p) e ≡ is_formed p e
formed_kept which f ids p e = any_kept p.epochs
  where
    any_kept : (ts : List Epoch) → list_any (is_epoch e) (change which f ts) ≡ list_any (is_epoch e) ts
    any_kept [] = refl
    any_kept (t ∷ ts) = ap (λ b. b || list_any (is_epoch e) (change which f ts)) (part_kept (is_epoch e) which f (λ y h. ap (λ i. same_epoch i e) (ids y)) t) ∙ ap (λ b. is_epoch e t || b) (any_kept ts)

-- an epoch of which something is told was formed
pub formed_by : (p : Past) (e : EpochId) (g : Epoch → Bool) → g (unformed e) ≡ false → g (epoch_at p e) ≡ true → is_formed p e ≡ true
formed_by p e g nothing h = at (is_formed p e) refl
  where
    at : (b : Bool) → is_formed p e ≡ b → is_formed p e ≡ true
    at true k = k
    at false k = false_true (sym nothing ∙ (sym (ap g (first_missed (unformed e) (is_epoch e) p.epochs k)) ∙ h))

-- What a record leaves alone.

-- all but the members and the sites that joined and left
pub left_kept : {Y : Type 0} (g : Epoch → Y) → ((t : Epoch) (ls : List Left) → g (record t { left = ls }) ≡ g t) → (site : ℕ) (p : Past) (e : EpochId) → g (epoch_at (departed site p) e) ≡ g (epoch_at p e)
left_kept g keep site p e = at_kept g (is_home_of p site) (λ (t : Epoch). record t { left = record { site = site; held = (site_at p site).held } ∷ t.left }) (λ t. refl) (λ t. keep t _) p e

pub formed_with : {Y : Type 0} (g : Epoch → Y) → ((t : Epoch) (m : Members) → g (record t { members = m }) ≡ g t) → (a e : EpochId) (m : Members) (p : Past) → g (epoch_at (with_epoch a m p) e) ≡ g (epoch_at p e)
formed_with {Y} g keep a e m p = at (is_formed p a) refl
  where
    new : is_formed p a ≡ false → (b : Bool) → same_epoch a e ≡ b → g (cond b (record (unformed a) { members = m }) (epoch_at p e)) ≡ g (epoch_at p e)
    new missed false k = refl
    new missed true k = keep (unformed a) m ∙ (sym (ap g (first_missed (unformed a) (is_epoch a) p.epochs missed)) ∙ ap (λ x. g (epoch_at p x)) (epoch_eq a e k))

    at : (b : Bool) → is_formed p a ≡ b → g (epoch_at (cond b p (record p { epochs = record (unformed a) { members = m } ∷ p.epochs })) e) ≡ g (epoch_at p e)
    at true k = refl
    at false k = new k (same_epoch a e) refl

pub joined_kept : {Y : Type 0} (g : Epoch → Y) → ((t : Epoch) (m : Members) → g (record t { members = m }) ≡ g t) → ((t : Epoch) (js : List ℕ) (vs : List Copy) → g (record t { joined = js; known = vs }) ≡ g t) → (site : ℕ) (a : EpochId) (m : Members) (p : Past) (e : EpochId) → g (epoch_at (joined site a m p) e) ≡ g (epoch_at p e)
joined_kept g listed keep site a m p e = at_kept g (is_epoch a) (λ (t : Epoch). record t { joined = site ∷ t.joined; known = with_all_known (site_at p site).held t.known }) (λ t. refl) (λ t. keep t _ _) (with_epoch a m p) e ∙ formed_with g listed a e m p

-- all but which calls use the instances, and which descriptors have named them
pub accepted_kept : {Y : Type 0} (g : Epoch → Y) → ((t : Epoch) (which : Instance → Bool) → g (record t { opened = change which (λ (x : Instance). record x { uses = x.uses + 1 }) t.opened }) ≡ g t) → (site : ℕ) (k : CallSoFar) (p : Past) (e : EpochId) → g (epoch_at (accepted site k p) e) ≡ g (epoch_at p e)
accepted_kept g keep site k p e = at_kept g (λ (t : Epoch). is_in k.epoch t.id) (λ (t : Epoch). record t { opened = change (uses k.begins k.words t.id) (λ (x : Instance). record x { uses = x.uses + 1 }) t.opened }) (λ t. refl) (λ t. keep t _) (record p { calls = k ∷ p.calls }) e

pub replied_kept : {Y : Type 0} (g : Epoch → Y) → (r : Reply) → ((t : Epoch) (which : Instance → Bool) (fs : List FileId) → g (record t { opened = change which (once_named r) t.opened; unmended = fs }) ≡ g t) → (k : CallSoFar) (p : Past) (e : EpochId) → g (epoch_at (replied_to r k p) e) ≡ g (epoch_at p e)
replied_kept {Y} g r keep k p e = each p.epochs
  where
    once : Epoch → Epoch
    once t = record t {
      opened = change (λ (x : Instance). list_any (λ (d : Descriptor). is_in (Some d.epoch) t.id && is_named d.inst x) (named_by r k)) (once_named r) t.opened;
      unmended = cond (is_in k.epoch t.id) (left_unmended r k.words) [] ++ t.unmended;
    }

    at : (b : Bool) (t : Epoch) (u v : Epoch) → g u ≡ g v → g (cond b (once t) u) ≡ g (cond b t v)
    at true t u v h = keep t _ _
    at false t u v h = h

    each : (ts : List Epoch) → g (first_or (unformed e) (is_epoch e) (map once ts)) ≡ g (first_or (unformed e) (is_epoch e) ts)
    each [] = refl
    each (t ∷ ts) = at (is_epoch e t) t (first_or (unformed e) (is_epoch e) (map once ts)) (first_or (unformed e) (is_epoch e) ts) (each ts)

pub answered_kept : {Y : Type 0} (g : Epoch → Y) → (r : Reply) → ((t : Epoch) (which : Instance → Bool) (fs : List FileId) → g (record t { opened = change which (once_named r) t.opened; unmended = fs }) ≡ g t) → (ks : List CallSoFar) (p : Past) (e : EpochId) → g (epoch_at (fold (λ old k. replied_to r k old) p ks) e) ≡ g (epoch_at p e)
answered_kept g r keep [] p e = refl
answered_kept g r keep (k ∷ ks) p e = answered_kept g r keep ks (replied_to r k p) e ∙ replied_kept g r keep k p e

-- what is answered to calls leaves all epochs, sites and versions
pub record SaveCalls (old new : Past) : Type 0 where
  pub sites : new.sites ≡ old.sites
  pub epochs : new.epochs ≡ old.epochs
  pub history : new.history ≡ old.history
  pub files : new.files ≡ old.files

pub answers_kept : {X : Type 0} (which : CallSoFar → Bool) (a : X → Answer) (xs : List X) (p : Past) → SaveCalls p (fold (λ old x. answered which (a x) old) p xs)
answers_kept which a [] p = record { sites = refl; epochs = refl; history = refl; files = refl }
answers_kept which a (x ∷ xs) p = (let k : SaveCalls (answered which (a x) p) (fold (λ old y. answered which (a y) old) (answered which (a x) p) xs) = answers_kept which a xs (answered which (a x) p) in record { sites = k.sites; epochs = k.epochs; history = k.history; files = k.files })

-- a change of one epoch
pub at_own : (f : Epoch → Epoch) → ((t : Epoch) → (f t).id ≡ t.id) → (p : Past) (a : EpochId) → is_formed p a ≡ true → epoch_at (change_epoch (is_epoch a) f p) a ≡ f (epoch_at p a)
at_own f ids p a h = at_changed (is_epoch a) f ids p a h ∙ changed_so (is_epoch a) f (epoch_at p a) (is_at p a a ∙ epoch_own a)

pub at_other : (f : Epoch → Epoch) → ((t : Epoch) → (f t).id ≡ t.id) → (p : Past) (a e : EpochId) → same_epoch e a ≡ false → epoch_at (change_epoch (is_epoch a) f p) e ≡ epoch_at p e
at_other f ids p a e h = at (is_formed p e) refl
  where
    at : (b : Bool) → is_formed p e ≡ b → epoch_at (change_epoch (is_epoch a) f p) e ≡ epoch_at p e
    at true k = at_changed (is_epoch a) f ids p e k ∙ changed_not (is_epoch a) f (epoch_at p e) (is_at p e a ∙ h)
    at false k = first_missed (unformed e) (is_epoch e) (change (is_epoch a) f p.epochs) (formed_kept (is_epoch a) f ids p e ∙ k) ∙ sym (first_missed (unformed e) (is_epoch e) p.epochs k)

pub by_epoch : (P : EpochId → Type 0) (a e : EpochId) → P a → (same_epoch e a ≡ false → P e) → P e
by_epoch P a e own other = at (same_epoch e a) refl
  where
    at : (b : Bool) → same_epoch e a ≡ b → P e
    at true k = subst P (sym (epoch_eq e a k)) own
    at false k = other k

pub at_missed : (which : Epoch → Bool) (f : Epoch → Epoch) → ((t : Epoch) → (f t).id ≡ t.id) → (p : Past) (e : EpochId) → is_formed p e ≡ false → epoch_at (change_epoch which f p) e ≡ epoch_at p e
at_missed which f ids p e h = first_missed (unformed e) (is_epoch e) (change which f p.epochs) (formed_kept which f ids p e ∙ h) ∙ sym (first_missed (unformed e) (is_epoch e) p.epochs h)
