-- What the trees find among open instances is an open instance of the past; and the first commit of a file makes it.
use Rattle.std.proofs.Common.{◌≡◌, ℕ, ◌==◌, ◌||◌, ◌&&◌, Bool, true, false, cond, List, [], ◌∷◌, ◌++◌, filter, fold, map, Option, Some, None, refl, sym, ap, subst, ◌∙◌}
use Rattle.std.specs.List.{find, list_any, list_all}
use Rattle.std.specs.Option.{option_map}
use Rattle.locus_ids.specs.declared.config.Config.{Config}
use Rattle.locus_ids.specs.declared.ids.CallId.{CallId}
use Rattle.locus_ids.specs.declared.ids.EpochId.{EpochId}
use Rattle.locus_ids.specs.declared.ids.FileId.{FileId}
use Rattle.commit_graph.specs.Versions.{same_file}
use Rattle.trace_book.specs.Same.{same_call}
use Rattle.tree_model.specs.declared.accepted.Waiting.{Waiting}
use Rattle.tree_model.specs.declared.instance.Instance.{Instance as TreeInstance}
use Rattle.tree_model.specs.Calls.{call_named}
use Rattle.tree_model.specs.Epochs.{is_in}
use Rattle.tree_model.specs.Files.{kind_made}
use Rattle.tree_model.specs.Folds.{Trace}
use Rattle.tree_model.specs.Opening.{sites_made}
use Rattle.tree_model.specs.Packs.{packs_of}
use Rattle.tree_model.specs.Tree.{tree_of}
use Rattle.promises.specs.Past.{CallSoFar, Epoch, Instance, Making, Past, epoch_at, is_writer, site_at, unformed}
use Rattle.promises.specs.After.{is_epoch, is_home_of, is_id, with_making, writers_of}
use Rattle.past_laws.specs.Agreement.{Agrees, CallsAgree, instance_of, waiting_as}
use Rattle.past_laws.specs.Made.{is_called, is_made}
use Rattle.past_laws.proofs.Names.{both, both_parts, call_eq, call_own, epoch_eq, file_own, none_some, some_same}
use Rattle.past_laws.proofs.Changing.{Finds, any_filtered, any_finds, found_any, found_passes}
use Rattle.past_laws.proofs.Alls.{all_first_or}
use Rattle.past_laws.proofs.Finding.{IsImage, any_mapped, find_both, found_image}

-- An accepted call is there.
pub accepted_there : (c : Config) (before : Trace) (p : Past) (id : CallId) (w : Waiting) → CallsAgree c before p → call_named before id ≡ Some w → list_any (is_id id) p.calls ≡ true
accepted_there c before p id w calls e = over (find (is_id id) p.calls) refl
  where
    over : (o : Option CallSoFar) → find (is_id id) p.calls ≡ o → list_any (is_id id) p.calls ≡ true
    over None f = none_some w (sym (ap (option_map waiting_as) f) ∙ (calls.named id ∙ e))
    over (Some k) f = found_any (is_id id) (is_id id) p.calls k f (found_passes (is_id id) p.calls k f)

-- An open instance of the trees is one of the past.
pub record OpenHere (t : Epoch) (group : ℕ) (q : TreeInstance → Bool) (y : TreeInstance) : Type 0 where
  pub one : Instance
  pub found : find (λ (x : Instance). (x.grant.file.group == group) && q (instance_of x)) t.opened ≡ Some one
  pub is : instance_of one ≡ y
  pub passes : q (instance_of one) ≡ true

pub open_here : (c : Config) (before : Trace) (p : Past) (e : EpochId) (group : ℕ) (q : TreeInstance → Bool) (y : TreeInstance) → Agrees c before p → find q (tree_of c e group before).instances ≡ Some y → OpenHere (epoch_at p e) group q y
open_here c before p e group q y a h = over (found_image instance_of q (filter (λ (x : Instance). x.grant.file.group == group) (epoch_at p e).opened) y (ap (find q) (a.trees.opened e group) ∙ h))
  where
    over : IsImage instance_of (λ (x : Instance). q (instance_of x)) (filter (λ (x : Instance). x.grant.file.group == group) (epoch_at p e).opened) y → OpenHere (epoch_at p e) group q y
    over it =
        let there = sym (find_both (λ (x : Instance). q (instance_of x)) (λ (x : Instance). x.grant.file.group == group) (epoch_at p e).opened) ∙ it.found in
        record {
          one = it.one;
          found = there;
          is = it.is;
          passes = (both_parts (it.one.grant.file.group == group) (q (instance_of it.one)) (found_passes (λ (x : Instance). (x.grant.file.group == group) && q (instance_of x)) (epoch_at p e).opened it.one there)).1;
        }

-- what stands of all open instances stands of those of an epoch
pub opened_at : (p : Past) (e : EpochId) (q : Instance → Bool) → list_all (λ (t : Epoch). list_all q t.opened) p.epochs ≡ true → list_all q (epoch_at p e).opened ≡ true
opened_at p e q h = all_first_or (λ (t : Epoch). list_all q t.opened) (is_epoch e) (unformed e) p.epochs refl h

-- The first commit of a file.

any_joined_left : {X : Type 0} (q : X → Bool) (xs ys : List X) → list_any q xs ≡ true → list_any q (xs ++ ys) ≡ true
any_joined_left q [] ys h = absurd (cc)
any_joined_left q (x ∷ xs) ys h = over (q x) (any_joined_left q xs ys) h
  where
    over : (b : Bool) → (list_any q xs ≡ true → list_any q (xs ++ ys) ≡ true) → (b || list_any q xs) ≡ true → (b || list_any q (xs ++ ys)) ≡ true
    over true later k = refl
    over false later k = later k

any_joined_right : {X : Type 0} (q : X → Bool) (xs ys : List X) → list_any q ys ≡ true → list_any q (xs ++ ys) ≡ true
any_joined_right q [] ys h = h
any_joined_right q (x ∷ xs) ys h = over (q x) (any_joined_right q xs ys h)
  where
    over : (b : Bool) → list_any q (xs ++ ys) ≡ true → (b || list_any q (xs ++ ys)) ≡ true
    over true later = refl
    over false later = later

-- what one of the lists put in front has, all together have
any_folded : {X Y : Type 0} (q : Y → Bool) (g : X → List Y) (ts : List X) (old : List Y) → list_any q old ≡ true → list_any q (fold (λ ys t. g t ++ ys) old ts) ≡ true
any_folded q g [] old h = h
any_folded q g (t ∷ ts) old h = any_folded q g ts (g t ++ old) (any_joined_right q (g t) old h)

found_folded : {X Y : Type 0} (q : Y → Bool) (g : X → List Y) (r : X → Bool) (ts : List X) (t : X) (old : List Y) → find r ts ≡ Some t → list_any q (g t) ≡ true → list_any q (fold (λ ys u. g u ++ ys) old ts) ≡ true
found_folded q g r [] t old e h = none_some t e
found_folded q g r (u ∷ ts) t old e h = over (λ k. found_folded q g r ts t (g u ++ old) k h) (r u) refl
  where
    over : (find r ts ≡ Some t → list_any q (fold (λ ys v. g v ++ ys) (g u ++ old) ts) ≡ true) → (b : Bool) → r u ≡ b → list_any q (fold (λ ys v. g v ++ ys) (g u ++ old) ts) ≡ true
    over later true f = any_folded q g ts (g u ++ old) (any_joined_left q (g u) old (subst (λ v. list_any q (g v) ≡ true) (sym (some_same u t (rw f at e))) h))
    over later false f = later (rw f at e)

-- a call that an open instance was granted to is one of a writer
writer_there : (p : Past) (f : FileId) (site : ℕ) (t : Epoch) (r : Instance → Bool) (x : Instance) (id : CallId) → is_in (site_at p site).epoch t.id ≡ true → find (is_epoch t.id) p.epochs ≡ Some t → find r t.opened ≡ Some x → is_writer f site x ≡ true → same_call x.grant.call id ≡ true
    → list_any (λ (y : Instance). same_call y.grant.call id) (writers_of p f site) ≡ true
writer_there p f site t r x id home there opened writes of =
    found_folded (λ (y : Instance). same_call y.grant.call id) (λ (u : Epoch). filter (is_writer f site) u.opened) (is_epoch t.id) (filter (is_home_of p site) p.epochs) t []
    (find_both (is_epoch t.id) (is_home_of p site) p.epochs ∙ (at_home ∙ there))
    (any_filtered (λ (y : Instance). same_call y.grant.call id) (is_writer f site) t.opened ∙ found_any r (λ (y : Instance). is_writer f site y && same_call y.grant.call id) t.opened x opened (both (is_writer f site x) (same_call x.grant.call id) writes of))
  where
    same : (u : Epoch) → (is_home_of p site u && is_epoch t.id u) ≡ is_epoch t.id u
    same u = over (is_epoch t.id u) refl
      where
        over : (b : Bool) → is_epoch t.id u ≡ b → (is_home_of p site u && b) ≡ b
        over true h = both (is_home_of p site u) true (subst (λ i. is_in (site_at p site).epoch i ≡ true) (sym (epoch_eq u.id t.id h)) home) refl
        over false h = no (is_home_of p site u)
          where
            no : (b : Bool) → (b && false) ≡ false
            no true = refl
            no false = refl

    at_home : find (λ (u : Epoch). is_home_of p site u && is_epoch t.id u) p.epochs ≡ find (is_epoch t.id) p.epochs
    at_home = ap (λ q. find q p.epochs) (λ i u. same u i)

-- a file that an open instance of an accepted call commits is made
pub commit_makes : (c : Config) (p : Past) (f : FileId) (site : ℕ) (t : Epoch) (r : Instance → Bool) (x : Instance) → is_in (site_at p site).epoch t.id ≡ true → find (is_epoch t.id) p.epochs ≡ Some t → find r t.opened ≡ Some x → is_writer f site x ≡ true → is_called p.calls x ≡ true → is_made (with_making c f site p) f ≡ true
commit_makes c p f site t r x home there opened writes called = over (is_made p.files f) refl (any_finds (is_id x.grant.call) p.calls called)
  where
    asks : CallSoFar → Bool
    asks k = list_any (λ (y : Instance). same_call y.grant.call k.id) (writers_of p f site)

    making : CallSoFar → Making
    making k = record { file = f; kind = kind_made (Some k.words); set = sites_made (packs_of c f.group) (Some k.words) }

    writer : (k : CallSoFar) → is_id x.grant.call k ≡ true → asks k ≡ true
    writer k h = subst (λ i. list_any (λ (y : Instance). same_call y.grant.call i) (writers_of p f site) ≡ true) (sym (call_eq k.id x.grant.call h)) (writer_there p f site t r x x.grant.call home there opened writes (call_own x.grant.call))

    new : Finds (is_id x.grant.call) p.calls → list_any (λ (m : Making). same_file m.file f) (map making (filter asks p.calls)) ≡ true
    new it = any_mapped making (λ (m : Making). same_file m.file f) (filter asks p.calls)
        ∙ (any_filtered (λ (k : CallSoFar). same_file f f) asks p.calls
        ∙ found_any (is_id x.grant.call) (λ (k : CallSoFar). asks k && same_file f f) p.calls it.one it.found (both (asks it.one) (same_file f f) (writer it.one it.passes) (file_own f)))

    over : (b : Bool) → is_made p.files f ≡ b → Finds (is_id x.grant.call) p.calls → is_made (cond b p.files (map making (filter asks p.calls) ++ p.files)) f ≡ true
    over true h it = h
    over false h it = any_joined_left (λ (m : Making). same_file m.file f) (map making (filter asks p.calls)) p.files (new it)

-- and what was made stays so
pub makings_more : (c : Config) (p : Past) (f : FileId) (site : ℕ) (g : FileId) → is_made p.files g ≡ true → is_made (with_making c f site p) g ≡ true
makings_more c p f site g h = over (list_any (λ (m : Making). same_file m.file f) p.files)
  where
    over : (b : Bool) → is_made (cond b p.files (map (λ (k : CallSoFar). record { file = f; kind = kind_made (Some k.words); set = sites_made (packs_of c f.group) (Some k.words) }) (filter (λ (k : CallSoFar). list_any (λ (x : Instance). same_call x.grant.call k.id) (writers_of p f site)) p.calls) ++ p.files)) g ≡ true
    over true = h
    over false = any_joined_right (λ (m : Making). same_file m.file g) _ p.files h
