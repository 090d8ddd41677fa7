-- The numbers that a storage site may give: which of them its store has in use is which are used by the trace.
use Rattle.std.proofs.Common.{◌≡◌, ℕ, ◌+◌, ◌*◌, ◌<◌, ◌≤◌, ◌==◌, Bool, true, false, cond, ◌&&◌, ◌||◌, List, [], ◌∷◌, Option, Some, None, refl, sym, ◌∙◌, ap, subst, arith, ◌⊎◌, inl, inr}
use Rattle.std.specs.List.{list_any}
use Rattle.std.specs.Option.{option_map}
use Rattle.role_steps.proofs.of_plain_facts.Numbers.{equal, equal_self}
use Rattle.role_steps.proofs.of_plain_facts.Options.{some_same}
use Rattle.role_steps.proofs.of_plain_facts.Tests.{and_first, and_second, and_true, true_false}
use Rattle.locus_ids.specs.declared.config.Config.{Config}
use Rattle.locus_ids.specs.declared.ids.CallId.{CallId}
use Rattle.locus_ids.specs.declared.ids.EpochId.{EpochId}
use Rattle.locus_ids.specs.declared.ids.FileId.{FileId}
use Rattle.locus_ids.specs.declared.ids.Mode.{Mode}
use Rattle.locus_ids.specs.declared.ids.Mode.TheVariants as mode
use Rattle.locus_ids.specs.declared.ids.Serial.{Serial}
use Rattle.locus_ids.specs.declared.ids.Stamp.{Stamp}
use Rattle.locus_ids.specs.Sizes.{inode_span, sites_max}
use Rattle.role_steps.specs.Own.{Every}
use Rattle.role_steps.specs.Storage.{copy_key, copy_of, instance_key, instance_of, is_held, is_making, is_open, is_open_in, is_used}
use Rattle.role_steps.specs.Tables.{row}
use Rattle.role_steps.specs.Views.{Frame, Store, Told, Reserves, file_key, serial_key}
use Rattle.role_steps.specs.declared.copies.FileCopy.{FileCopy}
use Rattle.role_steps.specs.declared.instances.Instance.{Instance}
use Rattle.role_steps.specs.declared.instances.Stage.{Stage}
use Rattle.role_steps.specs.declared.instances.Stage.TheVariants as stage
use Rattle.the_run.specs.Worlds.{Line}
use Rattle.tree_model.specs.Files.{version_of}
use Rattle.tree_model.specs.Histories.{held}
use Rattle.tree_model.specs.Opening.{is_given_by}
use Rattle.lawful_trace.specs.TreeRows.{IsCallIn}
use Rattle.tree_laws.specs.Printed.{entries}
use Rattle.tree_laws.specs.Doing.{FrameFact, StoreHeld}
use Rattle.tree_laws.specs.Following.{MayTell, IsFollowed}
use Rattle.tree_laws.specs.Instances.{held_in, IsUsed}
use Rattle.tree_laws.specs.Past.{ReservesIt, WasBegun, WasNamed, WasReserved}
use Rattle.tree_laws.specs.Stores.{HoldsMade, InstanceFact, LiesAs, PlainLies, StageFact, copy_for}
use Rattle.tree_laws.proofs.Making.{IsAskedAt, begun_asked}
use Rattle.store_laws.specs.Rests.{StoreRests}
use Rattle.store_laws.proofs.Begun.{begun_one, named_of}
use Rattle.store_laws.proofs.Serving.{IsCopy, copy_is}
use Rattle.store_laws.proofs.Tabled.{row_found}

-- ---- lists ----

never : (a b : Bool) → a && (b && false) ≡ true → ⊥
never true true e = true_false (sym e)
never true false e = true_false (sym e)
never false b e = true_false (sym e)

-- some element has it
pub record HasSome {A : Type 0} (P : A → Type 0) (p : A → Bool) : Type 0 where
  pub it : A
  pub has_it : P it
  pub passes : p it ≡ true

any_has : {A : Type 0} (P : A → Type 0) (p : A → Bool) (xs : List A) → Every P xs → list_any p xs ≡ true → HasSome P p
any_has P p [] h e = absurd (true_false (sym e))
any_has P p (x ∷ xs) h e = at (λ (k : list_any p xs ≡ true). any_has P p xs h.1 k) (p x) refl e
  where
    at : (list_any p xs ≡ true → HasSome P p) → (b : Bool) → p x ≡ b → b || list_any p xs ≡ true → HasSome P p
    at later true t k = record { it = x; has_it = h.0; passes = t }
    at later false t k = later k

row_any : {A : Type 0} (key : A → ℕ) (k : ℕ) (p : A → Bool) (xs : List A) (x : A) → row key k xs ≡ Some x → p x ≡ true → list_any p xs ≡ true
row_any key k p [] x e t = absurd (none_some e)
  where
    none_some : ◌≡◌ {A = Option _} None (Some x) → ⊥
    none_some e = cc
row_any {A} key k p (y ∷ ys) x e t = at (λ (f : row key k ys ≡ Some x). row_any key k p ys x f t) (key y == k) e
  where
    left : (b : Bool) → b ≡ true → b || list_any p ys ≡ true
    left true e = refl
    left false e = absurd (true_false (sym e))

    right : (b : Bool) → list_any p ys ≡ true → b || list_any p ys ≡ true
    right true e = refl
    right false e = e

    at : (row key k ys ≡ Some x → list_any p ys ≡ true) → (b : Bool) → ◌≡◌ {A = Option A} (elim b [ true ↦ Some y | false ↦ row key k ys ]) (Some x) → (p y || list_any p ys) ≡ true
    at later true f = left (p y) (ap p (some_same y x f) ∙ t)
    at later false f = right (p y) (later f)

any_row : {A : Type 0} (key : A → ℕ) (k : ℕ) (p : A → Bool) → ((x : A) → p x ≡ true → key x ≡ k) → (xs : List A) → list_any p xs ≡ true → (x : A) × (row key k xs ≡ Some x)
any_row key k p same [] e = absurd (true_false (sym e))
any_row {A} key k p same (y ∷ ys) e = at (λ (f : list_any p ys ≡ true). any_row key k p same ys f) (key y == k) refl
  where
    past : (b : Bool) → p y ≡ b → (key y == k) ≡ false → b || list_any p ys ≡ true → list_any p ys ≡ true
    past true t ne f = absurd (true_false (sym (subst (λ (j : ℕ). (key y == j) ≡ true) (same y t) (equal_self (key y))) ∙ ne))
    past false t ne f = f

    at : (list_any p ys ≡ true → (x : A) × (row key k ys ≡ Some x)) → (b : Bool) → (key y == k) ≡ b → (x : A) × ◌≡◌ {A = Option A} (elim b [ true ↦ Some y | false ↦ row key k ys ]) (Some x)
    at later true t = (y, refl)
    at later false t = later (past (p y) refl t e)

-- ---- keys ----

pub serial_key_eq : (a b : Serial) → a.us ≤ sites_max → b.us ≤ sites_max → serial_key a ≡ serial_key b → a ≡ b
serial_key_eq a b low same e = id_eq (us a.us b.us a.serial b.serial low same e) (number a.us b.us a.serial b.serial low same e)
  where
    us : (u v s t : ℕ) → u ≤ sites_max → v ≤ sites_max → s * 256 + u ≡ t * 256 + v → u ≡ v
    us u v s t l m k = omega (arith, l, m, k)

    number : (u v s t : ℕ) → u ≤ sites_max → v ≤ sites_max → s * 256 + u ≡ t * 256 + v → s ≡ t
    number u v s t l m k = omega (arith, l, m, k)

    id_eq : a.us ≡ b.us → a.serial ≡ b.serial → a ≡ b
    id_eq k l = λ i. record { us = k i; serial = l i }

held_key : (g ino : ℕ) (x : FileCopy) → is_held g ino x ≡ true → copy_key x ≡ file_key (record { group = g; ino = ino })
held_key g ino x e = keys x.file.group g x.file.ino ino (equal x.file.group g (and_first (x.file.group == g) (x.file.ino == ino) e)) (equal x.file.ino ino (and_second (x.file.group == g) (x.file.ino == ino) e))
  where
    keys : (a b i j : ℕ) → a ≡ b → i ≡ j → a * inode_span + i ≡ b * inode_span + j
    keys a b i j e f = omega (arith, e, f)

-- ---- in the store and by the trace ----

module _ (c : Config) (trace : List Line) (h : IsFollowed c trace) (rests : StoreRests c trace) (f : Frame) (frame : FrameFact c trace f) (s : Store) (held_so : StoreHeld c f trace s) where
  at_inside : (file : FileId) → held_in c (entries trace) f.epoch f.me file ≡ held c (entries trace) f.me file
  at_inside file = rests.inside f.epoch f.me file frame.inside

  -- a file of which the store has a copy is used
  copied_used : (g ino : ℕ) → ino < inode_span → (x : FileCopy) → copy_of s (record { group = g; ino = ino }) ≡ Some x → IsUsed c trace f.epoch f.me (record { group = g; ino = ino })
  copied_used g ino narrow x e = (let k : IsCopy c trace f.me (record { group = g; ino = ino }) x = copy_is c trace h f.me s held_so.copies (record { group = g; ino = ino }) narrow x e in inl (k.stamp, at_inside (record { group = g; ino = ino }) ∙ k.holds))

  -- a file that the site holds has a copy
  pub holds_copy : (g ino : ℕ) → ino < inode_span → (stamp : Stamp) → held c (entries trace) f.me (record { group = g; ino = ino }) ≡ Some stamp → is_used s g ino ≡ true
  holds_copy g ino narrow stamp holds = ap (λ (b : Bool). cond b true (list_any (is_making g ino) s.instances)) (row_any copy_key (file_key file) (is_held g ino) s.copies (copy_for file (version_of c (entries trace) file stamp)) copied (and_true (g == g) (ino == ino) (equal_self g) (equal_self ino)))
    where
      file : FileId
      file = record { group = g; ino = ino }

      copied : copy_of s file ≡ Some (copy_for file (version_of c (entries trace) file stamp))
      copied = held_so.copies.are file narrow ∙ ap (λ (o : Option Stamp). option_map (copy_for file) (option_map (version_of c (entries trace) file) o)) holds

  making_mode : (g ino : ℕ) (i : Instance) (m : Mode) → i.mode ≡ m → is_making g ino i ≡ true → m ≡ mode.Make
  making_mode g ino i mode.Make e k = refl
  making_mode g ino i mode.Read e k = absurd (never (is_open_in g i) (i.file.ino == ino) (rw e at k))
  making_mode g ino i mode.Write e k = absurd (never (is_open_in g i) (i.file.ino == ino) (rw e at k))
  making_mode g ino i mode.Resolve e k = absurd (never (is_open_in g i) (i.file.ino == ino) (rw e at k))
  making_mode g ino i mode.Mend e k = absurd (never (is_open_in g i) (i.file.ino == ino) (rw e at k))

  making_file : (g ino : ℕ) (i : Instance) → is_making g ino i ≡ true → i.file ≡ record { group = g; ino = ino }
  making_file g ino i k = file_eq (equal i.file.group g (and_second (is_open i.stage) (i.file.group == g) (and_first (is_open_in g i) _ k))) (equal i.file.ino ino (and_first (i.file.ino == ino) _ (and_second (is_open_in g i) _ k)))
    where
      file_eq : i.file.group ≡ g → i.file.ino ≡ ino → i.file ≡ record { group = g; ino = ino }
      file_eq a b = λ j. record { group = a j; ino = b j }

  -- a file that an open make here is of is used
  made_used : (g ino : ℕ) (i : Instance) → InstanceFact c trace f i → is_making g ino i ≡ true → IsUsed c trace f.epoch f.me (record { group = g; ino = ino })
  made_used g ino i k e = (let l : LiesAs c trace f i mode.Make = subst (LiesAs c trace f i) (making_mode g ino i i.mode refl e) k.lies in inr (i.inst, subst (λ (y : FileId). WasReserved trace f.me f.epoch i.inst y) (making_file g ino i e) l.4))

  pub used_so : (g ino : ℕ) → ino < inode_span → is_used s g ino ≡ true → IsUsed c trace f.epoch f.me (record { group = g; ino = ino })
  used_so g ino narrow e = over (list_any (is_held g ino) s.copies) refl e
    where
      over : (b : Bool) → list_any (is_held g ino) s.copies ≡ b → cond b true (list_any (is_making g ino) s.instances) ≡ true → IsUsed c trace f.epoch f.me (record { group = g; ino = ino })
      over true t k = (let x : (x : FileCopy) × (row copy_key (file_key (record { group = g; ino = ino })) s.copies ≡ Some x) = any_row copy_key (file_key (record { group = g; ino = ino })) (is_held g ino) (held_key g ino) s.copies t in copied_used g ino narrow x.0 x.1)
      over false t k = (let x : HasSome (InstanceFact c trace f) (is_making g ino) = any_has (InstanceFact c trace f) (is_making g ino) s.instances held_so.instances.instances k in made_used g ino x.it x.has_it x.passes)

  -- ---- what was begun here is in use ----

  holds_used : (g ino : ℕ) → ino < inode_span → (stamp : Stamp) → held_in c (entries trace) f.epoch f.me (record { group = g; ino = ino }) ≡ Some stamp → is_used s g ino ≡ true
  holds_used g ino narrow stamp e = holds_copy g ino narrow stamp (sym (at_inside (record { group = g; ino = ino })) ∙ e)

  open_made : (g ino : ℕ) (i : Instance) → i.file ≡ record { group = g; ino = ino } → i.mode ≡ mode.Make → is_open i.stage ≡ true → is_making g ino i ≡ true
  open_made g ino i file make runs = rw make (and_true (is_open i.stage && (i.file.group == g)) ((i.file.ino == ino) && true) (and_true (is_open i.stage) (i.file.group == g) runs (ap (λ (y : FileId). y.group == g) file ∙ equal_self g)) (and_true (i.file.ino == ino) true (ap (λ (y : FileId). y.ino == ino) file ∙ equal_self ino) refl))

  listed_made : (g ino : ℕ) (x : Instance) (k : ℕ) → row instance_key k s.instances ≡ Some x → is_making g ino x ≡ true → is_used s g ino ≡ true
  listed_made g ino x k e m = over (list_any (is_held g ino) s.copies) (row_any instance_key k (is_making g ino) s.instances x e m)
    where
      over : (b : Bool) → list_any (is_making g ino) s.instances ≡ true → cond b true (list_any (is_making g ino) s.instances) ≡ true
      over true e = refl
      over false e = e

  clean_made : (i : Instance) → i.work.owes ≡ false → HoldsMade c trace f i mode.Make → (stamp : Stamp) × (held_in c (entries trace) f.epoch f.me i.file ≡ Some stamp)
  clean_made i owes (inl k) = absurd (true_false (sym k.1 ∙ owes))
  clean_made i owes (inr k) = (k.1.now, k.1.held)

  -- a make that was begun is open, or its file is held
  begun_make : (g ino : ℕ) → ino < inode_span → (x : Instance) (k : ℕ) → row instance_key k s.instances ≡ Some x → InstanceFact c trace f x → x.file ≡ record { group = g; ino = ino } → x.mode ≡ mode.Make → (t : Stage) → x.stage ≡ t → is_used s g ino ≡ true
  begun_make g ino narrow x k e fact file make stage.Running is = listed_made g ino x k e (open_made g ino x file make (ap is_open is))
  begun_make g ino narrow x k e fact file make (stage.Closing made a) is = listed_made g ino x k e (open_made g ino x file make (ap is_open is))
  begun_make g ino narrow x k e fact file make (stage.Closed a) is = (let holds : (stamp : Stamp) × (held_in c (entries trace) f.epoch f.me x.file ≡ Some stamp) = clean_made x (subst (StageFact c trace f x) is fact.stage).1.owes (subst (HoldsMade c trace f x) make fact.holds) in
      holds_used g ino narrow holds.0 (subst (λ (y : FileId). held_in c (entries trace) f.epoch f.me y ≡ Some holds.0) file holds.1))

  plain_used : (g ino : ℕ) → ino < inode_span → is_given_by f.me ino ≡ true → (x : Instance) → x.file ≡ record { group = g; ino = ino } → PlainLies c trace x → is_used s g ino ≡ true
  plain_used g ino narrow given x file l = (let home : (now : Stamp) × (held c (entries trace) f.me x.file ≡ Some now) = rests.homes f.me x.file l.stamp l.stands (subst (λ (y : FileId). is_given_by f.me y.ino ≡ true) (sym file) given) in
      holds_copy g ino narrow home.0 (subst (λ (y : FileId). held c (entries trace) f.me y ≡ Some home.0) file home.1))

  begun_mode : (g ino : ℕ) → ino < inode_span → is_given_by f.me ino ≡ true → (x : Instance) (k : ℕ) → row instance_key k s.instances ≡ Some x → InstanceFact c trace f x → x.file ≡ record { group = g; ino = ino } → (m : Mode) → x.mode ≡ m → LiesAs c trace f x m → is_used s g ino ≡ true
  begun_mode g ino narrow given x k e fact file mode.Make is l = begun_make g ino narrow x k e fact file is x.stage refl
  begun_mode g ino narrow given x k e fact file mode.Read is l = plain_used g ino narrow given x file l
  begun_mode g ino narrow given x k e fact file mode.Write is l = plain_used g ino narrow given x file l
  begun_mode g ino narrow given x k e fact file mode.Resolve is l = plain_used g ino narrow given x file l
  begun_mode g ino narrow given x k e fact file mode.Mend is l = plain_used g ino narrow given x file l

  begun_user : (i : Serial) (file : FileId) → WasBegun trace f.me f.epoch i file → i.us ≤ sites_max
  begun_user i file b = over (begun_asked c trace h f.epoch f.me i file b)
    where
      at_most : (d : CallId) → IsCallIn (entries trace) f.epoch d → i.us ≡ d.site → i.us ≤ sites_max
      at_most d inside e = subst (λ (u : ℕ). u ≤ sites_max) (sym e) (rests.sites f.epoch d inside)

      over : WasNamed trace f.epoch i ⊎ IsAskedAt c trace f.epoch f.me i file → i.us ≤ sites_max
      over (inl named) = (let d : (d : CallId) × (i.us ≡ d.site) × IsCallIn (entries trace) f.epoch d = named_of c trace h f.epoch i named in at_most d.0 d.2 d.1)
      over (inr k) = at_most k.call k.asks.inside k.user_is

  -- a number of the site's of which something was begun here is in use
  pub begun_used : (g ino : ℕ) → ino < inode_span → is_given_by f.me ino ≡ true → (j : Serial) → WasBegun trace f.me f.epoch j (record { group = g; ino = ino }) → is_used s g ino ≡ true
  begun_used g ino narrow given j b = (let x : (x : Instance) × (instance_of s j ≡ Some x) = held_so.instances.has j (record { group = g; ino = ino }) b in
      let k : InstanceFact c trace f x.0 × (instance_key x.0 ≡ serial_key j) = row_found instance_key (serial_key j) s.instances x.0 (InstanceFact c trace f) x.1 held_so.instances.instances in
      let same : x.0.inst ≡ j = serial_key_eq x.0.inst j k.0.user (begun_user j (record { group = g; ino = ino }) b) k.1 in
      begun_mode g ino narrow given x.0 (serial_key j) x.1 k.0 (begun_one c trace h f.epoch j f.me f.me x.0.file (record { group = g; ino = ino }) (subst (λ (y : Serial). WasBegun trace f.me f.epoch y x.0.file) same k.0.begun) b).1 x.0.mode refl k.0.lies)

  reserved_begun : (j : Serial) (file : FileId) → WasReserved trace f.me f.epoch j file → WasBegun trace f.me f.epoch j file
  reserved_begun j file r = over trace h r
    where
      now : (older : List Line) (z : Told) → MayTell c older z → ReservesIt f.me f.epoch j file older z → WasBegun older f.me f.epoch j file
      now older (Reserves site at inst g) may p = subst (λ (y : FileId). WasBegun older f.me f.epoch j y) p.file_is (subst (λ (y : Serial). WasBegun older f.me f.epoch y g) p.serial_is (subst (λ (y : EpochId). WasBegun older f.me y inst g) p.epoch_is (subst (λ (y : ℕ). WasBegun older y at inst g) p.site_is may.begun)))
      now older _ may p = absurd p

      over : (t : List Line) → IsFollowed c t → WasReserved t f.me f.epoch j file → WasBegun t f.me f.epoch j file
      over [] h r = absurd r
      over (y ∷ older) h (inl p) = inr (now older y.told h.0 p)
      over (y ∷ older) h (inr p) = inr (over older h.1 p)

  -- a number of the site's that is used is in use
  pub so_used : (g ino : ℕ) → ino < inode_span → is_given_by f.me ino ≡ true → IsUsed c trace f.epoch f.me (record { group = g; ino = ino }) → is_used s g ino ≡ true
  so_used g ino narrow given (inl k) = holds_used g ino narrow k.0 k.1
  so_used g ino narrow given (inr k) = begun_used g ino narrow given k.0 (reserved_begun k.0 (record { group = g; ino = ino }) k.1)
