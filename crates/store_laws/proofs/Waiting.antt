-- An instance that was begun for a make waits for its grant, and is the tree's once that is told.
use Rattle.std.proofs.Common.{◌≡◌, ℕ, ◌==◌, Bool, true, false, cond, ◌&&◌, List, [], ◌∷◌, ◌++◌, Option, Some, None, refl, sym, ◌∙◌, ap, subst, ◌⊎◌, inl, inr}
use Rattle.std.specs.List.{find}
use Rattle.role_steps.proofs.of_plain_facts.Numbers.{equal_self}
use Rattle.role_steps.proofs.of_plain_facts.Tests.{true_false}
use Rattle.locus_ids.specs.declared.config.Config.{Config}
use Rattle.locus_ids.specs.declared.ids.CallId.{CallId}
use Rattle.locus_ids.specs.declared.ids.EpochId.{EpochId}
use Rattle.locus_ids.specs.declared.ids.FileId.{FileId}
use Rattle.locus_ids.specs.declared.ids.Mode.{Mode}
use Rattle.locus_ids.specs.declared.ids.Mode.TheVariants as mode
use Rattle.locus_ids.specs.declared.ids.Serial.{Serial}
use Rattle.locus_ids.specs.declared.ids.Stamp.{Stamp}
use Rattle.locus_ids.specs.declared.refusal.Refusal.{Refusal}
use Rattle.commit_graph.specs.declared.history.Version.{Version}
use Rattle.trace_book.specs.Same.{same_epoch, same_serial}
use Rattle.trace_book.specs.declared.record.Record.{Record}
use Rattle.trace_book.specs.declared.record.Record.TheVariants as says
use Rattle.wire_messages.specs.declared.body.Opening.TheVariants as how
use Rattle.file_effects.specs.Works.{begun}
use Rattle.role_steps.specs.Views.{Frame, Told, Shown}
use Rattle.role_steps.specs.declared.instances.Instance.{Instance}
use Rattle.the_run.specs.Worlds.{Line}
use Rattle.tree_model.specs.declared.instance.Granted.{Granted}
use Rattle.tree_model.specs.declared.instance.Instance.{Instance as Open}
use Rattle.tree_model.specs.Histories.{history}
use Rattle.tree_model.specs.State.{TreeState, is_named, instance_in}
use Rattle.tree_model.specs.Tree.{next, tree_of, grant_of, opened}
use Rattle.lawful_trace.specs.TreeRows.{granted_group}
use Rattle.tree_laws.specs.Printed.{entries}
use Rattle.tree_laws.specs.Following.{MayTell, IsFollowed}
use Rattle.tree_laws.specs.Instances.{instance_now, AsksOpen}
use Rattle.tree_laws.specs.Packets.{MakesNow}
use Rattle.tree_laws.specs.Past.{Printed, NamesIt, NamingRecord, WasNamed, WasBegun}
use Rattle.tree_laws.specs.Stores.{IsMaker, WorksAs, WaitsToBeGranted, RunsAs}
use Rattle.tree_laws.proofs.CarriedLooks.{More}
use Rattle.tree_laws.proofs.Grants.{in_tree_named}
use Rattle.tree_laws.proofs.Kinship.{tree_epoch_is, tree_group_is}
use Rattle.tree_laws.proofs.Names.{same_epoch_eq, same_epoch_own, same_serial_eq, same_serial_own}
use Rattle.tree_laws.proofs.Serials.{one_open}
use Rattle.store_laws.proofs.Begun.{granted_named}
use Rattle.store_laws.proofs.Makers.{IsItsGrant, its_grant, not_refused}

-- ---- what a grant opens ----

find_last : {A : Type 0} (p : A → Bool) (xs : List A) (y : A) → p y ≡ true → ((x : A) → find p xs ≡ Some x → ⊥) → find p (xs ++ y ∷ []) ≡ Some y
find_last p [] y e none = rw e refl
find_last p (x ∷ xs) y e none = at (λ (k : (z : _) → find p xs ≡ Some z → ⊥). find_last p xs y e k) (p x) refl none
  where
    at : (((z : _) → find p xs ≡ Some z → ⊥) → find p (xs ++ y ∷ []) ≡ Some y) → (b : Bool) → p x ≡ b → ((z : _) → cond b (Some x) (find p xs) ≡ Some z → ⊥) → cond b (Some x) (find p (xs ++ y ∷ [])) ≡ Some y
    at later true k none = absurd (none x refl)
    at later false k none = later none

granted_in_tree : (h : List Version) (t : TreeState) (e : EpochId) (call : CallId) (request : ℕ) (i : Serial) (m : Mode) (f : FileId) (stamp : Option Stamp) (ss : ℕ) → e ≡ t.epoch → f.group ≡ t.group → ((x : Open) → instance_in t i ≡ Some x → ⊥) →
    instance_in (next h (says.Grant e call request i m f stamp ss) t) i ≡ Some (opened h (grant_of t call i m f ss) stamp)
granted_in_tree h t e call request i m f stamp ss same_e same_g none = over (same_epoch e t.epoch) (f.group == t.group) (subst (λ (y : EpochId). same_epoch e y ≡ true) same_e (same_epoch_own e)) (subst (λ (y : ℕ). (f.group == y) ≡ true) same_g (equal_self f.group))
  where
    g : Granted
    g = grant_of t call i m f ss

    over : (a b : Bool) → a ≡ true → b ≡ true → find (is_named i) (cond a (record t { grants = t.grants ++ g ∷ []; instances = cond b (t.instances ++ opened h g stamp ∷ []) t.instances }) t).instances ≡ Some (opened h g stamp)
    over true true p q = find_last (is_named i) t.instances (opened h g stamp) (same_serial_own i) none
    over true false p q = absurd (true_false (sym q))
    over false b p q = absurd (true_false (sym p))

-- a grant of what wasn't named opens it
pub granted_opens : (c : Config) (n : ℕ) (older : List Line) (e : EpochId) (call : CallId) (request : ℕ) (i : Serial) (m : Mode) (f : FileId) (stamp : Option Stamp) (ss : ℕ) → (WasNamed older e i → ⊥) →
    instance_now c (More n (Shown (says.Grant e call request i m f stamp ss)) older) e i ≡ Some (opened (history c (entries older)) (grant_of (tree_of c e f.group (entries older)) call i m f ss) stamp)
granted_opens c n older e call request i m f stamp ss new = over (same_epoch e e && same_serial i i) (both (same_epoch e e) (same_serial i i) (same_epoch_own e) (same_serial_own i))
  where
    both : (a b : Bool) → a ≡ true → b ≡ true → a && b ≡ true
    both true true p q = refl
    both true false p q = q
    both false b p q = p

    here : instance_in (tree_of c e f.group (record { line = n; what = says.Grant e call request i m f stamp ss } ∷ entries older)) i ≡ Some (opened (history c (entries older)) (grant_of (tree_of c e f.group (entries older)) call i m f ss) stamp)
    here = granted_in_tree (history c (entries older)) (tree_of c e f.group (entries older)) e call request i m f stamp ss (sym (tree_epoch_is c e f.group (entries older))) (sym (tree_group_is c e f.group (entries older))) (λ x k. new (in_tree_named c e f.group i older x k))

    over : (b : Bool) → b ≡ true → instance_in (tree_of c e (cond b f.group (granted_group (entries older) e i)) (record { line = n; what = says.Grant e call request i m f stamp ss } ∷ entries older)) i ≡ Some (opened (history c (entries older)) (grant_of (tree_of c e f.group (entries older)) call i m f ss) stamp)
    over true p = here
    over false p = absurd (true_false (sym p))

-- ---- the make ----

-- what is told grants or refuses it, or doesn't name it
named_now : (e : EpochId) (i : Serial) (older : List Line) (at : EpochId) (inst : Serial) → (NamesIt e i at inst) ⊎ (NamesIt e i at inst → ⊥)
named_now e i older at inst = over (same_epoch at e) (same_serial inst i) refl refl
  where
    over : (a b : Bool) → same_epoch at e ≡ a → same_serial inst i ≡ b → (NamesIt e i at inst) ⊎ (NamesIt e i at inst → ⊥)
    over true true p q = inl (record { epoch_is = same_epoch_eq at e p; serial_is = same_serial_eq inst i q })
    over true false p q = inr (λ k. true_false (sym (subst (λ (j : Serial). same_serial inst j ≡ true) k.serial_is (same_serial_own inst)) ∙ q))
    over false b p q = inr (λ k. true_false (sym (subst (λ (y : EpochId). same_epoch at y ≡ true) k.epoch_is (same_epoch_own at)) ∙ p))

-- the call of the make asks it now, since it isn't named
asks_it : (c : Config) (older : List Line) (f : Frame) (i : Instance) → (WasNamed older f.epoch i.inst → ⊥) → (d : CallId) → IsMaker c older f i d → MakesNow c older f.epoch f.me i.inst i.file.group i.set i.kind
asks_it c older f i new d (inl m) = m.now
asks_it c older f i new d (inr g) = absurd (new (granted_named older f.epoch d g.0 i.inst mode.Make i.file None f.me g.1))

waits_more : (c : Config) (n : ℕ) (x : Told) (older : List Line) (f : Frame) (i : Instance) → WaitsToBeGranted c older f i → (Printed (NamingRecord f.epoch i.inst) older x → ⊥) → RunsAs c (More n x older) f i
waits_more c n x older f i w other = inr (record { mode_is = w.mode_is; fresh = w.fresh; no_parents = w.no_parents; unnamed = unnamed })
  where
    unnamed : WasNamed (More n x older) f.epoch i.inst → ⊥
    unnamed (inl p) = other p
    unnamed (inr p) = w.unnamed p

-- its grant makes it the tree's
granted_works : (c : Config) (n : ℕ) (older : List Line) (f : Frame) (i : Instance) → WaitsToBeGranted c older f i → (call : CallId) (request : ℕ) → WorksAs c (More n (Shown (says.Grant f.epoch call request i.inst mode.Make i.file None f.me)) older) f i (opened (history c (entries older)) (grant_of (tree_of c f.epoch i.file.group (entries older)) call i.inst mode.Make i.file f.me) None)
granted_works c n older f i w call request = record {
  open_at = record { found = granted_opens c n older f.epoch call request i.inst mode.Make i.file None f.me w.unnamed; place = refl };
  file_is = refl;
  mode_is = sym w.mode_is;
  work_is = sym w.fresh;
  parents_are = w.no_parents;
}

waits_grant : (c : Config) (n : ℕ) (older : List Line) → IsFollowed c older → (f : Frame) (i : Instance) → WasBegun older f.me f.epoch i.inst i.file → WaitsToBeGranted c older f i → (now : MakesNow c older f.epoch f.me i.inst i.file.group i.set i.kind) (at : EpochId) (call : CallId) (request : ℕ) (inst : Serial) (m : Mode) (file : FileId) (stamp : Option Stamp) (ss : ℕ) →
    MayTell c older (Shown (says.Grant at call request inst m file stamp ss)) → NamesIt f.epoch i.inst at inst → RunsAs c (More n (Shown (says.Grant at call request inst m file stamp ss)) older) f i
waits_grant c n older h f i begun w now at call request inst m file stamp ss may names = over it.epoch_is it.serial_is it.mode_is it.file_is it.stamp_is it.place_is
  where
    its_call : call ≡ now.call
    its_call = one_open c older f.epoch call now.call request now.request i.inst.serial may.in_time.opens.asked now.file may.in_time.opens.it (how.Make i.set i.kind) h
        (subst (λ (j : Serial). AsksOpen c older f.epoch call request j.serial may.in_time.opens.asked may.in_time.opens.it) names.serial_is (subst (λ (y : EpochId). AsksOpen c older y call request inst.serial may.in_time.opens.asked may.in_time.opens.it) names.epoch_is may.in_time.opens.asks))
        now.asks (sym may.in_time.opens.user_is ∙ (ap (λ (j : Serial). j.us) names.serial_is ∙ now.user_is))

    it : IsItsGrant f i at inst m file stamp ss
    it = its_grant c older h f i begun now at call request inst m file stamp ss may its_call

    over : at ≡ f.epoch → inst ≡ i.inst → m ≡ mode.Make → file ≡ i.file → stamp ≡ None → ss ≡ f.me → RunsAs c (More n (Shown (says.Grant at call request inst m file stamp ss)) older) f i
    over a b d k l p = subst (λ (r : Record). RunsAs c (More n (Shown r) older) f i) (sym (λ j. says.Grant (a j) call request (b j) (d j) (k j) (l j) (p j))) (inl (opened (history c (entries older)) (grant_of (tree_of c f.epoch i.file.group (entries older)) call i.inst mode.Make i.file f.me) None, granted_works c n older f i w call request))

waits_refuse : (c : Config) (older : List Line) → IsFollowed c older → (f : Frame) (i : Instance) → WasBegun older f.me f.epoch i.inst i.file → (now : MakesNow c older f.epoch f.me i.inst i.file.group i.set i.kind) (at : EpochId) (call : CallId) (request : ℕ) (inst : Serial) (m : Mode) (file : FileId) (why : Refusal) →
    MayTell c older (Shown (says.Refuse at call request inst m file why)) → NamesIt f.epoch i.inst at inst → ⊥
waits_refuse c older h f i begun now at call request inst m file why may names = not_refused c older f i begun now at call request inst m file why may its_call
  where
    its_call : call ≡ now.call
    its_call = one_open c older f.epoch call now.call request now.request i.inst.serial may.in_time.opens.asked now.file may.in_time.opens.it (how.Make i.set i.kind) h
        (subst (λ (j : Serial). AsksOpen c older f.epoch call request j.serial may.in_time.opens.asked may.in_time.opens.it) names.serial_is (subst (λ (y : EpochId). AsksOpen c older y call request inst.serial may.in_time.opens.asked may.in_time.opens.it) names.epoch_is may.in_time.opens.asks))
        now.asks (sym may.in_time.opens.user_is ∙ (ap (λ (j : Serial). j.us) names.serial_is ∙ now.user_is))

pub waits_stay : (c : Config) (n : ℕ) (x : Told) (older : List Line) → IsFollowed c older → MayTell c older x → (f : Frame) (i : Instance) → WasBegun older f.me f.epoch i.inst i.file → WaitsToBeGranted c older f i → (d : CallId) → IsMaker c older f i d → RunsAs c (More n x older) f i
waits_stay c n x older h may f i begun w d maker = over x may
  where
    now : MakesNow c older f.epoch f.me i.inst i.file.group i.set i.kind
    now = asks_it c older f i w.unnamed d maker

    over : (z : Told) → MayTell c older z → RunsAs c (More n z older) f i
    over (Shown (says.Grant at call request inst m file stamp ss)) may = by_name (named_now f.epoch i.inst older at inst)
      where
        by_name : (NamesIt f.epoch i.inst at inst) ⊎ (NamesIt f.epoch i.inst at inst → ⊥) → RunsAs c (More n (Shown (says.Grant at call request inst m file stamp ss)) older) f i
        by_name (inl names) = waits_grant c n older h f i begun w now at call request inst m file stamp ss may names
        by_name (inr other) = waits_more c n (Shown (says.Grant at call request inst m file stamp ss)) older f i w other
    over (Shown (says.Refuse at call request inst m file why)) may = by_name (named_now f.epoch i.inst older at inst)
      where
        by_name : (NamesIt f.epoch i.inst at inst) ⊎ (NamesIt f.epoch i.inst at inst → ⊥) → RunsAs c (More n (Shown (says.Refuse at call request inst m file why)) older) f i
        by_name (inl names) = absurd (waits_refuse c older h f i begun now at call request inst m file why may names)
        by_name (inr other) = waits_more c n (Shown (says.Refuse at call request inst m file why)) older f i w other
    over z may = waits_more c n z older f i w (λ p. p)
